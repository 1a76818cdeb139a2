use Rattle.std.proofs.Common.{◌∙◌, sym}
use Rattle.alone_views.specs.KernelStanding.{state_with, turns_of}
use Rattle.alone_views.proofs.KernelSteps.{step_halted, step_taken}
use Rattle.alone_views.proofs.kernel.KernelAlone.take_step.Goals as goal

pub returns-then-self-clause-becomes : goal.returns-then-self-clause-becomes
returns-then-self-clause-becomes c = step_halted c.args.self.now _ _ _ c.if-self.true c.refuse.ensures.becomes

pub returns-clause-becomes : goal.returns-clause-becomes
returns-clause-becomes c =
    let old = c.args.self.now in
    record {
      state = λ console. c.begin_step.ensures.becomes.state console
          ∙ sym (step_taken (state_with old console) (turns_of old) c.args.number c.hart_of-hart.result
          c.if-self.false c.hart_of-hart.ensures.turn);
      console = c.begin_step.ensures.becomes.console;
      schedule = c.begin_step.ensures.becomes.schedule;
    }
