use Rattle.std.proofs.Common.{◌≡◌, Some, option_map, subst}
use Rattle.rv_isa.specs.Table.{instruction}
use Rattle.cloak_model.specs.Effect.{effect}
use Rattle.cloak_model.specs.Hart.{Hart}
use Rattle.host_calls.proofs.WholeAccess.{decoded_steps, effect_steps}
use Rattle.host_calls.proofs.plain_step.executed.Goals as goal

pub returns-in-Some : goal.returns-in-Some
returns-in-Some g c =
    effect_steps g.M.Ram _ _ c.args.h.now c.args.d.now c.args.word c.in-Some.e _
    (subst (λ (h : Hart). option_map (λ i. effect i h.regs h.pc) (instruction c.args.word) ≡ Some c.in-Some.e) c.h.view_is
    c.in-Some.ensures.value)
    c.carry_out_plain.ensures

pub returns-in-None : goal.returns-in-None
returns-in-None g c =
    decoded_steps g.M.Ram _ _ c.args.h.now c.args.d.now c.args.word _ _ c.decode.ensures.table c.decoded.ensures
