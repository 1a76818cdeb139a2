use Rattle.std.proofs.Common.{◌<◌, Bool, List, length, refl, ◌∙◌, ap, sym, subst}
use Rattle.cloak_model.specs.declared.image.Program.{Program}
use Rattle.command_words.specs.Request.{asked_of_solo_over, old_of}
use Rattle.command_parts.specs.declared.refusal.Refusal.TheVariants as refusal
use Rattle.command_parts.specs.Outside.{outside}
use Rattle.command_parts.proofs.Refused.{no_bundle, unread}
use Rattle.read_back.specs.Answering.{program_unfit}
use Rattle.read_back.specs.AnsweringOver.{over_text}
use Rattle.read_back.specs.Over.{part_over}
use Rattle.read_back.specs.Reading.{ShowsRecord}
use Rattle.read_back.proofs.AnsweredOver.{is_cause, lacks_before, not_past, old_before, over_answers, over_lacks, over_refuses}
use Rattle.read_back.proofs.solo_over.solo_over_command.Goals as goal

pub returns-in-Err-clause-answers : goal.returns-in-Err-clause-answers
returns-in-Err-clause-answers g c =
    let e = c.in-Err.ensures in
    over_refuses (unread c.in-Err.refusal _ _ _ e.bundle)
    (no_bundle c.in-Err.refusal _ _ refl e.bundle e.unread c.requires.reading e.files e.writing) c.requires.output c.refuse.ensures

pub returns-then-over-as_slice-clause-answers : goal.returns-then-over-as_slice-clause-answers
returns-then-over-as_slice-clause-answers g c =
    let e = c.in-Ok.ensures in
    over_lacks (asked_of_solo_over c.args.over.now) refusal.NoSuchDomain
    (outside g.S.Shelf g.O.Sink c.args.shelf.now c.args.out.now) _ (record {
      d = c.args.over.now.solo.domain;
      bundle_name = c.args.over.now.solo.files.bundle.now;
      record_name = c.args.over.now.solo.files.record_name.now;
      old = old_of c.args.over.now.old;
      solo = refl;
      bundle = c.in-Ok.bundle;
      file = e.bundle.1;
      too_few = rw (ap (λ (ps : List _). length ps) (sym c.as_slice.ensures)) c.if-over-as_slice.true;
      reading = e.bundle.0;
    }) (record { held = e.files; writing = e.writing }) c.requires.output c.refuse-then-over-as_slice.ensures

pub returns-in-Ok-open_over-clause-answers : goal.returns-in-Ok-open_over-clause-answers
returns-in-Ok-open_over-clause-answers g c =
    let e = c.in-Ok.ensures in
    let o = c.in-Ok-open_over.ensures in
    let d = c.args.over.now.solo.domain in
    let b = c.in-Ok.bundle in
    let name = c.args.over.now.solo.files.record_name.now in
    let low : d < length b.programs =
    subst (λ (l : List Program). d < length l) c.as_slice.ensures c.if-over-as_slice.false in
    let has = not_past b.programs d low in
    let opens = o.opens has.0 has.1 in
    let part = part_over d has.0 opens.1.read in
    over_answers {name = name} {b = b} {old = old_of c.args.over.now.old} {d = d} {p = has.0} {read = opens.1.read}
    (record { bundle_name = c.args.over.now.solo.files.bundle.now; solo = refl; file = e.bundle.1; program = has.1 })
    (old_before e.files opens.1.is) (λ file. o.files file ∙ e.files file) (opens.0 ∙ e.bundle.0) refl (record {
      held = λ file. c.solo_over_record.ensures.files file ∙ (o.files file ∙ e.files file);
      writing = c.solo_over_record.ensures.writing ∙ (o.writing ∙ e.writing);
    }) c.requires.output
    (subst (λ (whole : Bool). ShowsRecord (program_unfit d b.kernel part) (over_text whole d b.kernel part) name
    c.solo_over_record.result (outside g.S.Shelf g.O.Sink c.open_over.new.shelf c.args.out.now)
    (outside g.S.Shelf g.O.Sink c.solo_over_record.new.shelf c.solo_over_record.new.out)) opens.1.whole
    (c.solo_over_record.ensures.shows d b.kernel part opens.1.begins))

pub returns-clause-answers : goal.returns-clause-answers
returns-clause-answers g c =
    let e = c.in-Ok.ensures in
    let o = c.in-Err-open_over.ensures in
    let d = c.args.over.now.solo.domain in
    let b = c.in-Ok.bundle in
    let low : d < length b.programs =
    subst (λ (l : List Program). d < length l) c.as_slice.ensures c.if-over-as_slice.false in
    let has = not_past b.programs d low in
    let before = outside g.S.Shelf g.O.Sink c.args.shelf.now c.args.out.now in
    let after = outside g.S.Shelf g.O.Sink c.open_over.new.shelf c.refuse-in-Err-open_over.new.out in
    over_lacks (asked_of_solo_over c.args.over.now) c.in-Err-open_over.refusal before after
    (is_cause before after {name = c.args.over.now.solo.files.record_name.now} {b = b} {old = old_of c.args.over.now.old}
    {d = d} {p = has.0} c.in-Err-open_over.refusal
    (record { bundle_name = c.args.over.now.solo.files.bundle.now; solo = refl; file = e.bundle.1; program = has.1 })
    (lacks_before (old_of c.args.over.now.old) b d has.0 _ _ c.in-Err-open_over.refusal e.files e.bundle.0
    (o.opens has.0 has.1))) (record {
      held = λ file. o.files file ∙ e.files file;
      writing = o.writing ∙ e.writing;
    }) c.requires.output c.refuse-in-Err-open_over.ensures
