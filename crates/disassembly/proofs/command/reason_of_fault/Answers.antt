use Rattle.disassembly.proofs.command.reason_of_fault.Goals as goal

pub returns-in-Ok : goal.returns-in-Ok
returns-in-Ok c told read = record {
  bytes = c.args.bytes.now;
  read = read;
  fault = c.args.fault;
  cause = c.requires;
  is_no_want = λ same. (cc (c.is_want.ensures.1 same));
  is_shown = c.in-Ok.ensures.ok;
}
