use Rattle.std.proofs.Common.{ℕ, drop}
use Rattle.cloak_model.specs.Asking.{Follows}
use Rattle.cloak_model.specs.Fork as spec
use Rattle.cloak_model.specs.Script.{played}
use Rattle.what_stays.specs.Staying.{SideStays, IsAny}
use Rattle.cloaked_fork.proofs.pages.copy_all.Given as goal

-- what is left to be asked completes it
abbrev pub invariant-loop-copy : goal.invariant-loop-copy
invariant-loop-copy g l = record {
  follows : (new : g.row.M.Denot) → Follows g.M.PageSide.stands_for l.m new tt (played (spec.copy_each l.domain (drop l.copy-index l.copies))) → Follows g.M.PageSide.stands_for l.fn.m new tt (played (spec.copy_each l.domain l.copies));
  side : SideStays g.M.PageSide IsAny l.fn.m l.m;
  cleared : (n : ℕ) → g.M.PageSide.is_cleared l.fn.m n → g.M.PageSide.is_cleared l.m n;
}
