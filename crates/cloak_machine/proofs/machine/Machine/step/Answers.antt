use Rattle.std.proofs.Common.{refl, sym, ap, subst, ◌≡◌, ◌∷◌, [], false}
use Rattle.cloak_model.specs.Joint.{Turn}
use Rattle.cloak_model.proofs.Emitting.{emits_then}
use Rattle.cloak_machine.proofs.Stepping.{counts_behind, next_number, next_turn, reads_behind, step_made}
use Rattle.cloak_machine.proofs.machine.Machine.step.Goals as goal

pub returns-clause-emits_some : goal.returns-clause-emits_some
returns-clause-emits_some g c =
    let some = c.turn-turned.ensures.emits_some in
    (_, emits_then c.item.ensures (emits_then some.1 c.show.ensures.emits))

pub returns-clause-makes : goal.returns-clause-makes
returns-clause-makes g c m stands unclashed =
    let old = c.args.self.now in
    let number = c.next-number.result in
    let next = next_turn old m number stands c.next-number.ensures.turn in
    let takes = c.turn-turned.ensures.turns m.joint stands.joint
    (subst (λ (t : Turn). t.joint.memory.ledger.clashed ≡ false) (sym next) unclashed) in
    step_made old _ m number c.turn-turned.result stands next
    c.item.ensures
    takes c.show.ensures.emits (ap (λ (turns : _). turns.items) c.next-number.ensures.turns)
    (c.next-number.ensures.place m.steps stands.place) refl (c.show.ensures.shows m.joint.console stands.console)
    (c.turn-turned.ensures.maps m.joint stands.joint
    (subst (λ (t : Turn). t.joint.memory.ledger.clashed ≡ false) (sym next) unclashed) stands.mapped)

pub returns-clause-counts : goal.returns-clause-counts
returns-clause-counts g c m s stands counts unclashed =
    let old = c.args.self.now in
    let number = c.next-number.result in
    let next = next_turn old m number stands c.next-number.ensures.turn in
    counts_behind old _ m number s (next_number old m number stands c.next-number.ensures.turn) counts
    c.turn-turned.ensures.counting
    (c.turn-turned.ensures.goes m.joint stands.joint
    (subst (λ (t : Turn). t.joint.memory.ledger.clashed ≡ false) (sym next) unclashed))

pub returns-clause-reads : goal.returns-clause-reads
returns-clause-reads g c m stands unclashed =
    let old = c.args.self.now in
    let number = c.next-number.result in
    let next = next_turn old m number stands c.next-number.ensures.turn in
    reads_behind old.joint.memory c.turn-turned.new.self.memory m number (next_number old m number stands c.next-number.ensures.turn)
    (c.turn-turned.ensures.goes m.joint stands.joint
    (subst (λ (t : Turn). t.joint.memory.ledger.clashed ≡ false) (sym next) unclashed))
