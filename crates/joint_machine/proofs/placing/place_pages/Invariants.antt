use Rattle.std.proofs.Common.{◌≡◌, [], true}
use Rattle.cloak_model.specs.Cloaking.{CloakedMemory}
use Rattle.cloak_model.specs.Opening.{place_pages}
use Rattle.cloaked_side.specs.Holding.{Holds, SameSize}
use Rattle.joint_machine.specs.Starting.{IsReady, KeepsUnplaced, PlacesTo}
use Rattle.joint_machine.proofs.Backwards.{ArePagesLeft}
use Rattle.joint_machine.proofs.placing.place_pages.Given as goal

abbrev pub invariant-loop-page : goal.invariant-loop-page
invariant-loop-page l = record {
  size : SameSize l.fn.memory l.memory;
  ready : IsReady l.memory.pager l.domain l.page;
  others : KeepsUnplaced l.fn.memory.pager l.memory.pager;
  empty : l.fn.memory.shadows.live ≡ [] → l.memory.shadows.live ≡ [];
  left : ArePagesLeft l.bytes.items l.fn.p.bytes l.page;
  places : (m : CloakedMemory) → Holds l.fn.memory m → PlacesTo l.memory true (place_pages l.domain l.fn.p l.page m);
}
