-- The pages of programs that are placed in frames, one after the other.
use Rattle.std.proofs.Common.{◌≡◌, ◌+◌, ◌∙◌, ℕ, List, slice_get, add-one, sym, ap}
use Rattle.cloak_model.specs.declared.image.Program.{Program}
use Rattle.replayed_run.specs.PagesTold.{PagesTold, pages_placed, program_placed, programs_placed, reached}

-- one page more
pub pages_more : (d place n : ℕ) (first old new : PagesTold) → old ≡ pages_placed d place n first →
    new ≡ reached (record { domain = d; resource = 0; page = n }) (place + n) old →
    new ≡ pages_placed d place (n + 1) first
pages_more d place n first old new was now =
    now
    ∙ (ap (λ (p : PagesTold). reached (record { domain = d; resource = 0; page = n }) (place + n) p) was
    ∙ ap (λ (k : ℕ). pages_placed d place k first) (sym (add-one n)))

-- one program more
pub programs_more : (programs : List Program) (n : ℕ) (first old new : PagesTold) →
    old ≡ programs_placed programs n first → new ≡ program_placed n (slice_get programs n) old →
    new ≡ programs_placed programs (n + 1) first
programs_more programs n first old new was now =
    now
    ∙ (ap (λ (p : PagesTold). program_placed n (slice_get programs n) p) was
    ∙ ap (λ (k : ℕ). programs_placed programs k first) (sym (add-one n)))
