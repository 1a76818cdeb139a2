-- Looks are counted.
use Rattle.std.proofs.Common.{◌≡◌, ◌+◌, cond, List, ◌++◌}
use Rattle.std.proofs.lemmas.List.Sums.{sum_by-append}
use Rattle.cloak_model.specs.Events.{Event}
use Rattle.shadow_fold.specs.Reads.{is_look, looks_in}

-- looks go on with events
pub looks_then : (es fs : List Event) → looks_in (es ++ fs) ≡ looks_in es + looks_in fs
looks_then es fs = sum_by-append (λ e. cond (is_look e) 1 0) es fs
