use Rattle.std.proofs.Common.{◌≡◌, ◌<◌, ℕ, drop, slice_index_or, true, false}
use Rattle.cloak_model.specs.Asking.{Follows}
use Rattle.cloak_model.specs.Fork as spec
use Rattle.cloak_model.specs.Script.{played}
use Rattle.cloaked_fork.specs.Marks.{marked_numbers}
use Rattle.what_stays.specs.Staying.{SideStays, IsAny}
use Rattle.cloaked_fork.proofs.pages.forget_all.Given as goal

-- what is left to be asked completes it
abbrev pub invariant-loop-n : goal.invariant-loop-n
invariant-loop-n g l = record {
  follows : (new : g.row.M.Denot) → Follows g.M.PageSide.stands_for l.m new tt (played (spec.forget_each l.domain (spec.places (λ mark. mark) l.n (drop l.n l.marked)))) → Follows g.M.PageSide.stands_for l.fn.m new tt (played (spec.forget_each l.domain (marked_numbers l.marked)));
  side : SideStays g.M.PageSide IsAny l.fn.m l.m;
  cleared : (n : ℕ) → g.M.PageSide.is_cleared l.fn.m n → g.M.PageSide.is_cleared l.m n;
  dropped : (n : ℕ) → n < l.n → slice_index_or l.marked n false ≡ true → g.M.PageSide.is_unused l.m n;
}
