use Rattle.std.proofs.Common.{List, length, inl, inr, refl, sym, ap, arith}
use Rattle.std.proofs.lemmas.Option.{slice_get_read}
use Rattle.cloak_model.specs.DomainAlone.{started_part}
use Rattle.run_trace.proofs.command.trace_program_side.Goals as goal

pub returns-then-number-programs-clause-shows : goal.returns-then-number-programs-clause-shows
returns-then-number-programs-clause-shows g c =
    inr (inr (
      record {
        d = c.args.number;
        named = refl;
        few = rw (ap (λ (ps : List _). length ps) (sym c.as_slice-programs.ensures)) c.if-number-programs.true;
      },
      record { reading = refl; line = c.refuse.ensures },
    ))

pub returns-in-Ok-clause-shows : goal.returns-in-Ok-clause-shows
returns-in-Ok-clause-shows g c =
    inl (
      c.index-programs-number.result,
      rw (sym c.as_slice-programs.ensures) (slice_get_read c.as_slice-programs.result.now _ c.args.number
          c.index-programs-number.result refl (let low = c.if-number-programs.false in omega (arith, low))
          c.index-programs-number.is),
      c.trace_program.ensures.shows c.args.bundle.now.kernel (started_part c.args.number c.index-programs-number.result)
          c.in-Ok.ensures,
    )

pub returns-in-Err-clause-shows : goal.returns-in-Err-clause-shows
returns-in-Err-clause-shows g c = inr (inl (record { reading = refl; line = c.refuse-in-Err.ensures }))
