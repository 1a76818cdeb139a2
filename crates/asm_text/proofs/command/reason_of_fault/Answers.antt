use Rattle.std.proofs.Common.{◌∙◌}
use Rattle.asm_text.proofs.ShownFacts.{shown_same}
use Rattle.asm_text.proofs.command.reason_of_fault.Goals as goal

pub returns-in-Ok : goal.returns-in-Ok
returns-in-Ok c told read = record {
  text = c.args.text.now;
  read = read;
  fault = c.args.fault;
  cause = c.requires;
  is_no_want = λ same. (cc (c.is_want.ensures.1 same));
  is_shown = c.in-Ok.ensures.ok
      ∙ shown_same c.args.name.now c.args.text.now c.shown_text.result.now c.args.fault c.requires c.shown_text.ensures;
}
