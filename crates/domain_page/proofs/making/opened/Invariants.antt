use Rattle.std.proofs.Common.{◌≡◌, map, replicate, None, length}
use Rattle.domain_page.specs.Making.{emptied}
use Rattle.domain_page.proofs.Made.{Filled}
use Rattle.domain_page.proofs.making.opened.Given as goal

abbrev pub invariant-loop-space : goal.invariant-loop-space
invariant-loop-space l = record {
  held : l.r.held ≡ replicate 16 None;
  count : length l.r.spaces ≡ 8;
  filled : Filled (map emptied l.spaces) (replicate 8 None) l.space l.r.spaces;
}
