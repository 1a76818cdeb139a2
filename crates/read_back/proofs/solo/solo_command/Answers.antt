use Rattle.std.proofs.Common.{List, length, refl, ◌∙◌, ap, sym, arith}
use Rattle.std.proofs.lemmas.Option.{slice_get_read}
use Rattle.cloak_model.specs.DomainAlone.{started_part}
use Rattle.command_parts.specs.declared.refusal.Refusal.TheVariants as refusal
use Rattle.command_parts.proofs.Refused.{no_bundle}
use Rattle.command_parts.proofs.Refused.{unread}
use Rattle.read_back.proofs.Answered.{unread_or_none, solo_refuses, solo_answers}
use Rattle.read_back.proofs.ProgramReads.{no_loads}
use Rattle.read_back.proofs.solo.solo_command.Goals as goal

pub returns-in-Err-clause-answers : goal.returns-in-Err-clause-answers
returns-in-Err-clause-answers g c =
    let e = c.in-Err.ensures in
    solo_refuses (unread_or_none c.in-Err.refusal (unread c.in-Err.refusal _ _ _ e.bundle))
    (no_bundle c.in-Err.refusal _ _ refl e.bundle e.unread c.requires.reading e.files e.writing) c.requires.output c.refuse.ensures

pub returns-then-number-programs-clause-answers : goal.returns-then-number-programs-clause-answers
returns-then-number-programs-clause-answers g c =
    let e = c.in-Ok.ensures in
    solo_refuses {r = refusal.NoSuchDomain} tt (record {
      cause = record {
        domain = c.args.solo.now.domain;
        bundle_name = c.args.solo.now.files.bundle.now;
        record_name = c.args.solo.now.files.record_name.now;
        solo = refl;
        bundle = c.in-Ok.bundle;
        file = e.bundle.1;
        too_few = rw (ap (λ (ps : List _). length ps) (sym c.as_slice-programs.ensures)) c.if-number-programs.true;
        reading = e.bundle.0;
      };
      held = e.files;
      writing = e.writing;
    }) c.requires.output c.refuse-then-number-programs.ensures

pub returns-in-Ok-open-clause-answers : goal.returns-in-Ok-open-clause-answers
returns-in-Ok-open-clause-answers g c =
    let e = c.in-Ok.ensures in
    solo_answers {p = c.index-programs-number.result} (record {
      bundle_name = c.args.solo.now.files.bundle.now;
      solo = refl;
      file = e.bundle.1;
      program =
          rw (sym c.as_slice-programs.ensures) (slice_get_read c.as_slice-programs.result.now _ c.args.solo.now.domain
          c.index-programs-number.result refl (let low = c.if-number-programs.false in omega (arith, low))
          c.index-programs-number.is);
    }) e.files e.bundle.0 refl (record {
      held = λ name. c.solo_record.ensures.files name ∙ e.files name;
      writing = c.solo_record.ensures.writing ∙ e.writing;
    }) c.requires.output (c.solo_record.ensures.shows c.args.solo.now.domain c.in-Ok.bundle.kernel
    (started_part c.args.solo.now.domain c.index-programs-number.result)
    (record { stands = c.in-Ok-open.ensures; no_loads = no_loads c.args.solo.now.domain c.index-programs-number.result }))

pub returns-clause-answers : goal.returns-clause-answers
returns-clause-answers g c =
    let e = c.in-Ok.ensures in
    solo_refuses {r = refusal.NoMemory} tt (record {
      cause = record { reading = e.bundle.0 };
      held = e.files;
      writing = e.writing;
    }) c.requires.output c.refuse-in-Err-open.ensures
