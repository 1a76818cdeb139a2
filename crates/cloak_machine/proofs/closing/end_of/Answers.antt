use Rattle.std.proofs.Common.{◌∙◌, ℕ, List, refl, ap}
use Rattle.sha2.specs.Sha256.{sha256}
use Rattle.cloak_machine.proofs.Stepping.{ended_as}
use Rattle.cloak_machine.proofs.closing.end_of.Goals as goal

pub returns : goal.returns
returns c closed are console few =
    ended_as c.args.steps closed _ are.memory.missed c.stop_of.ensures refl are.memory.draws are.ended are.refused
    (record {
      count = c.kernel_lines_of.ensures.count ∙ console.count;
      console = c.kernel_lines_of.ensures.console closed.console console;
      ram = c.kernel_lines_of.ensures.ram closed.memory are.memory;
      disk = c.kernel_lines_of.ensures.disk ∙ ap sha256 (c.bytes.ensures ∙ are.disk);
      harts = ap (λ (harts : _). harts.items) c.kernel_lines_of.ensures.harts ∙ are.harts;
    })
    (c.of.ensures closed.domains are.domains few)
