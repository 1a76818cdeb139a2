use Rattle.std.proofs.Common.{is_none, refl, sym}
use Rattle.run_command.proofs.BegunFacts.{wrote_since}
use Rattle.run_command.proofs.OutletFacts.{gave_all}
use Rattle.store_command.proofs.RunFacts.{failed_is}
use Rattle.store_command.proofs.run.record_first.Goals as goal

pub invariant_of-outlet : goal.invariant_of-outlet
invariant_of-outlet g c = record { last = ∣ (λ fresh. c.requires.begun) ∣₁ }

pub returns-clause-some : goal.returns-clause-some
returns-clause-some g c =
    let some = c.write_first.ensures.emits_some in (
      some.0,
      wrote_since (is_none c.write_first.result) _ _ (gave_all some.1) refl
          (failed_is _ c.write_first.result c.write_first.ensures.ends)
          (c.shelf-1.given.1 (sym c.write_first.ensures.same_shelf))
          (c.out-1.given.1 (sym c.write_first.ensures.same_out)),
    )

pub returns-clause-records : goal.returns-clause-records
returns-clause-records g c = λ b from o opened none.
    let first = c.write_first.ensures.writes b from o opened none in
    record {
      writes = wrote_since (is_none c.write_first.result) _ _ (gave_all first.emits) refl
          (failed_is _ c.write_first.result c.write_first.ensures.ends)
          (c.shelf-1.given.1 (sym c.write_first.ensures.same_shelf))
          (c.out-1.given.1 (sym c.write_first.ensures.same_out));
      ends = first.ends;
    }
