use Rattle.std.proofs.Common.{false, refl, sym, true}
use Rattle.run_command.proofs.BegunFacts.{wrote_since}
use Rattle.run_command.proofs.OutletFacts.{gave_all}
use Rattle.frozen_commands.proofs.rest.record_rest.Goals as goal

pub invariant_of-outlet : goal.invariant_of-outlet
invariant_of-outlet g c = record { last = ∣ (λ fresh. c.requires.begun) ∣₁ }

pub returns-then-outlet-clause-some : goal.returns-then-outlet-clause-some
returns-then-outlet-clause-some g c =
    let some = c.write_rest-status.ensures.emits_some in (
      some.0,
      wrote_since true _ _ (gave_all some.1) refl c.if-outlet.true
          (c.shelf-1.given.1 (sym c.write_rest-status.ensures.same_shelf))
          (c.out-1.given.1 (sym c.write_rest-status.ensures.same_out)),
    )

pub returns-then-outlet-clause-records : goal.returns-then-outlet-clause-records
returns-then-outlet-clause-records g c = λ b n j stands none.
    let rest = c.write_rest-status.ensures.writes b n j stands none in
    record {
      writes = wrote_since true _ _ (gave_all rest.emits) refl c.if-outlet.true
          (c.shelf-1.given.1 (sym c.write_rest-status.ensures.same_shelf))
          (c.out-1.given.1 (sym c.write_rest-status.ensures.same_out));
      status = tt;
    }

pub returns-clause-some : goal.returns-clause-some
returns-clause-some g c =
    let some = c.write_rest-status.ensures.emits_some in (
      some.0,
      wrote_since false _ _ (gave_all some.1) refl c.if-outlet.false
          (c.shelf-1.given.1 (sym c.write_rest-status.ensures.same_shelf))
          (c.out-1.given.1 (sym c.write_rest-status.ensures.same_out)),
    )

pub returns-clause-some_stop : goal.returns-clause-some_stop
returns-clause-some_stop g c = c.write_rest-status.ensures.some_stop c.if-outlet.false

pub returns-clause-records : goal.returns-clause-records
returns-clause-records g c = λ b n j stands none.
    let rest = c.write_rest-status.ensures.writes b n j stands none in
    record {
      writes = wrote_since false _ _ (gave_all rest.emits) refl c.if-outlet.false
          (c.shelf-1.given.1 (sym c.write_rest-status.ensures.same_shelf))
          (c.out-1.given.1 (sym c.write_rest-status.ensures.same_out));
      status = rest.status c.if-outlet.false;
    }
