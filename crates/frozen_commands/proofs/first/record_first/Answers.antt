use Rattle.std.proofs.Common.{refl, sym}
use Rattle.run_command.proofs.BegunFacts.{wrote_since}
use Rattle.run_command.proofs.OutletFacts.{gave_all}
use Rattle.frozen_commands.specs.Freezing.{is_failed}
use Rattle.frozen_commands.proofs.first.record_first.Goals as goal

pub invariant_of-outlet : goal.invariant_of-outlet
invariant_of-outlet g c = record { last = ∣ (λ fresh. c.requires.begun) ∣₁ }

pub returns-clause-some : goal.returns-clause-some
returns-clause-some g c =
    let some = c.write_first.ensures.emits_some in (
      some.0,
      wrote_since (is_failed c.write_first.result) _ _ (gave_all some.1) refl c.write_first.ensures.failed
          (c.shelf-1.given.1 (sym c.write_first.ensures.same_shelf))
          (c.out-1.given.1 (sym c.write_first.ensures.same_out)),
    )

pub returns-clause-records : goal.returns-clause-records
returns-clause-records g c = λ b from o opens same stands none.
    let first = c.write_first.ensures.writes b from o opens same stands none in
    record {
      writes = wrote_since (is_failed c.write_first.result) _ _ (gave_all first.emits) refl
          c.write_first.ensures.failed (c.shelf-1.given.1 (sym c.write_first.ensures.same_shelf))
          (c.out-1.given.1 (sym c.write_first.ensures.same_out));
      ended = first.ended;
    }
