use Rattle.resource_map.specs.Owning.{SameSpaces}
use Rattle.domain_page.specs.Making.{CanMapAll}
use Rattle.domain_page.proofs.Made.{MappedTo}
use Rattle.domain_page.proofs.making.map_spaces.Given as goal

abbrev pub invariant-loop-space : goal.invariant-loop-space
invariant-loop-space l = record {
  same : SameSpaces l.initial.r l.r;
  mapped : CanMapAll l.initial.r l.spaces → MappedTo l.initial.r l.spaces l.space l.r;
}
