-- A number past the harts.
use Rattle.std.proofs.Common.{◌≡◌, ◌∙◌, ◌≤◌, ℕ, List, length, slice_index_or, Option, unwrap_or, sym, ap}
use Rattle.std.proofs.lemmas.Option.{slice_get_past, unwrap_or-slice_get}
use Rattle.cloak_model.specs.Hart.{Hart, started}

pub hart_past : (harts : List Hart) (number : ℕ) → length harts ≤ number →
    slice_index_or harts number (started 0 0) ≡ started 0 0
hart_past harts number past =
    sym (unwrap_or-slice_get harts number (started 0 0))
    ∙ ap (λ (h : Option Hart). unwrap_or h (started 0 0)) (slice_get_past harts number past)
