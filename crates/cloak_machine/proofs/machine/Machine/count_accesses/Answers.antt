use Rattle.std.proofs.Common.{refl}
use Rattle.cloak_machine.proofs.GoingOn.{all_outside}
use Rattle.cloak_machine.proofs.Stepping.{counting_first}
use Rattle.cloak_machine.proofs.machine.Machine.count_accesses.Goals as goal

pub returns-clause-counts : goal.returns-clause-counts
returns-clause-counts c none m stands unowed = record {
  counting = c.count_accesses.ensures.counting;
  tracks =
      c.count_accesses.ensures.tracks (all_outside c.args.self.now.joint m.joint stands.joint (c.args.self.now.settled none) unowed) _;
}

pub returns-clause-stands : goal.returns-clause-stands
returns-clause-stands c m stands =
    counting_first c.args.self.now _ m stands (c.count_accesses.ensures.stands m.joint stands.joint) refl refl refl
    c.count_accesses.ensures.empty
