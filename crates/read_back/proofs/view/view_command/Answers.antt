use Rattle.std.proofs.Common.{refl, ◌∙◌}
use Rattle.command_parts.specs.declared.refusal.Refusal.TheVariants as refusal
use Rattle.command_parts.proofs.Refused.{no_bundle, unread}
use Rattle.read_back.proofs.Answered.{view_refuses, view_answers}
use Rattle.read_back.proofs.view.view_command.Goals as goal

pub returns-in-Err-clause-answers : goal.returns-in-Err-clause-answers
returns-in-Err-clause-answers g c =
    let e = c.in-Err.ensures in
    view_refuses (unread c.in-Err.refusal _ _ _ e.bundle)
    (no_bundle c.in-Err.refusal _ _ refl e.bundle e.unread c.requires.reading e.files e.writing) c.requires.output c.refuse.ensures

pub returns-in-Ok-open-clause-answers : goal.returns-in-Ok-open-clause-answers
returns-in-Ok-open-clause-answers g c =
    let e = c.in-Ok.ensures in
    view_answers (record { bundle_name = c.args.files.now.bundle.now; view = refl; file = e.bundle.1 }) e.files e.bundle.0
    refl (record {
      held = λ name. c.view_record.ensures.files name ∙ e.files name;
      writing = c.view_record.ensures.writing ∙ e.writing;
    }) c.requires.output (c.view_record.ensures.shows c.in-Ok.bundle.kernel c.in-Ok-open.ensures)

pub returns-clause-answers : goal.returns-clause-answers
returns-clause-answers g c =
    let e = c.in-Ok.ensures in
    view_refuses {r = refusal.NoMemory} tt (record {
      cause = record { reading = e.bundle.0 };
      held = e.files;
      writing = e.writing;
    }) c.requires.output c.refuse-in-Err-open.ensures
