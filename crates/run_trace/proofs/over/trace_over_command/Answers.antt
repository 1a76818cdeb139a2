use Rattle.std.proofs.Common.{◌∙◌, inl, inr, refl, sym}
use Rattle.command_parts.specs.Outside.{outside}
use Rattle.run_trace.proofs.AnsweredOver.{over_since}
use Rattle.run_trace.proofs.over.trace_over_command.Goals as goal

pub returns-in-Err-clause-answers : goal.returns-in-Err-clause-answers
returns-in-Err-clause-answers g c =
    inr (record { refused = c.in-Err.refusal; cause = c.in-Err.ensures.bundle; line = c.refuse.ensures })

pub returns-then-is_there-clause-answers : goal.returns-then-is_there-clause-answers
returns-then-is_there-clause-answers g c =
    inl (record {
      bundle = c.in-Ok.bundle;
      file = c.in-Ok.ensures.bundle.1;
      shows = rw (sym c.is_there.ensures ∙ c.if-is_there.true)
          (over_since (outside g.S.Shelf g.O.Sink c.args.shelf.now c.args.out.now)
          (outside g.S.Shelf g.O.Sink c.read_bundle.new.shelf c.args.out.now)
          (outside g.S.Shelf g.O.Sink c.trace_over_bundle.new.shelf c.trace_over_bundle.new.out)
          c.in-Ok.ensures.files c.in-Ok.ensures.bundle.0 refl c.trace_over_bundle.ensures.shows);
    })

pub returns-clause-answers : goal.returns-clause-answers
returns-clause-answers g c =
    inl (record {
      bundle = c.in-Ok.bundle;
      file = c.in-Ok.ensures.bundle.1;
      shows = rw (sym c.is_there.ensures ∙ c.if-is_there.false)
          (record { reading = c.in-Ok.ensures.bundle.0; line = c.refuse_hart.ensures });
    })
