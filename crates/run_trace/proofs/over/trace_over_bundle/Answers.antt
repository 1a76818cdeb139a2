use Rattle.std.proofs.Common.{◌<◌, Bool, List, length, refl, ap, inl, inr, sym, subst}
use Rattle.cloak_model.specs.declared.image.Program.{Program}
use Rattle.command_parts.specs.Outside.{outside}
use Rattle.read_back.specs.Answering.{program_unfit}
use Rattle.read_back.specs.Over.{part_over}
use Rattle.read_back.specs.Reading.{ShowsRecord}
use Rattle.read_back.proofs.AnsweredOver.{not_past}
use Rattle.run_trace.specs.AnsweringOver.{over_text}
use Rattle.run_trace.proofs.Answered.{shows_since}
use Rattle.run_trace.proofs.over.trace_over_bundle.Goals as goal

pub returns-then-number-as_slice-clause-shows : goal.returns-then-number-as_slice-clause-shows
returns-then-number-as_slice-clause-shows g c =
    inr (inr (
      record {
        d = c.args.number;
        named = refl;
        few = rw (ap (λ (ps : List _). length ps) (sym c.as_slice.ensures)) c.if-number-as_slice.true;
      },
      record { reading = refl; line = c.refuse.ensures },
    ))

pub returns-in-Ok-clause-shows : goal.returns-in-Ok-clause-shows
returns-in-Ok-clause-shows g c =
    let o = c.in-Ok.ensures in
    let d = c.args.number in
    let b = c.args.bundle.now in
    let name = c.args.name.now in
    let low : d < length b.programs =
    subst (λ (l : List Program). d < length l) c.as_slice.ensures c.if-number-as_slice.false in
    let has = not_past b.programs d low in
    let opens = o.opens has.0 has.1 in
    let part = part_over d has.0 opens.1.read in
    inl (record {
      p = has.0;
      program = has.1;
      read = opens.1.read;
      is = opens.1.is;
      shows = shows_since (outside g.S.Shelf g.O.Sink c.args.shelf.now c.args.out.now)
          (outside g.S.Shelf g.O.Sink c.open_over.new.shelf c.args.out.now)
          (outside g.S.Shelf g.O.Sink c.trace_over.new.shelf c.trace_over.new.out) o.files opens.0 refl
          (subst (λ (whole : Bool). ShowsRecord (program_unfit d b.kernel part)
          (over_text whole c.args.choice.now d b.kernel part) name
          c.trace_over.result (outside g.S.Shelf g.O.Sink c.open_over.new.shelf c.args.out.now)
          (outside g.S.Shelf g.O.Sink c.trace_over.new.shelf c.trace_over.new.out)) opens.1.whole
          (c.trace_over.ensures.shows b.kernel part opens.1.begins.stands));
    })

pub returns-in-Err-clause-shows : goal.returns-in-Err-clause-shows
returns-in-Err-clause-shows g c =
    let d = c.args.number in
    let b = c.args.bundle.now in
    let low : d < length b.programs =
    subst (λ (l : List Program). d < length l) c.as_slice.ensures c.if-number-as_slice.false in
    let has = not_past b.programs d low in
    inr (inl (record {
      p = has.0;
      program = has.1;
      refused = c.in-Err.refusal;
      lacks = c.in-Err.ensures.opens has.0 has.1;
      line = c.refuse-in-Err.ensures;
    }))
