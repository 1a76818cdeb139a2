use Rattle.std.proofs.Common.{◌≡◌, ◌≤◌, replicate, None, length}
use Rattle.cloak_model.specs.Resources.{all_pages}
use Rattle.domain_page.proofs.Made.{Filled}
use Rattle.domain_page.proofs.making.put_all.Given as goal

abbrev pub invariant-loop-n : goal.invariant-loop-n
invariant-loop-n l = record {
  pages : l.pages ≡ all_pages l.r;
  few : l.pages ≤ 1024;
  spaces : l.r.spaces ≡ l.initial.r.spaces;
  count : length l.r.held ≡ 16;
  filled : Filled l.held (replicate 16 None) l.n l.r.held;
}
