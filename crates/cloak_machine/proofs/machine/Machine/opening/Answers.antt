use Rattle.std.proofs.Common.{◌∙◌, refl, subst, sym}
use Rattle.cloak_model.specs.Run.{first_moment}
use Rattle.cloak_machine.specs.Standing.{StandsForMoment}
use Rattle.cloak_machine.specs.declared.machine.Machine.{Machine}
use Rattle.cloak_machine.proofs.GoingOn.{emits_nothing, none_left, nothing_shown}
use Rattle.cloak_machine.proofs.Stepping.{still_first}
use Rattle.cloak_machine.proofs.machine.Machine.opening.Goals as goal
use Rattle.cloak_machine.proofs.machine.Machine.opening.Goals.{else-self-eq0-via-then-self-eq0+else-not-is_empty, else-self-eq0-via-else-self-eq0}

pub returns-then-not-is_empty-clause-shows : goal.returns-then-not-is_empty-clause-shows
returns-then-not-is_empty-clause-shows g c b s o opens placed stands =
    let shows = c.show_opening.ensures.shows b s o opens (c.as_slice-then-not-is_empty.ensures.value ∙ placed) stands.joint in
    record { emits = shows.emits; stands = still_first _ _ b o stands shows.stands refl refl refl c.show_opening.ensures.shadows }

pub returns-else-self-eq0-clause-shows : goal.returns-else-self-eq0-clause-shows
returns-else-self-eq0-clause-shows g c b s o opens placed stands = elim c.else-self-eq0.branch [
  | else-self-eq0-via-then-self-eq0+else-not-is_empty w ↦ record {
    emits = emits_nothing _ c.args.e.now o.items (nothing_shown b s o opens (sym placed
        ∙ (sym w.as_slice.ensures.value ∙ none_left w.as_slice.result.now (sym w.if-not-is_empty.ensures))));
    stands =
        subst (λ (m : Machine). StandsForMoment m (first_moment b o.joint)) (sym w.self-is)
        (still_first c.args.self.now _ b o stands stands.joint refl refl refl refl);
  }
  | else-self-eq0-via-else-self-eq0 w ↦ absurd (w.if-self-eq0.false (sym stands.steps))
]
