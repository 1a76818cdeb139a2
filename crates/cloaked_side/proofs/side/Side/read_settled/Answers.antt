use Rattle.std.proofs.Common.{◌∙◌, refl, ap, subst, ℕ}
use Rattle.cloak_base.specs.Constants.{frame_of, place_of}
use Rattle.cloak_model.specs.Memory.{value_in}
use Rattle.cloak_pager.specs.Asking.{SeesFrame}
use Rattle.cloaked_side.proofs.Sided.{read_after, within_repaged, read_size, no_more_read}
use Rattle.cloaked_side.proofs.side.Side.read_settled.Goals as goal

pub returns-clause-told : goal.returns-clause-told
returns-clause-told g c first w sees =
    let pa = c.args.pa in
    let side = c.args.self.now in
    let bytes = c.read_outside.result.now in
    read_after g.E.Emit.gave first side _ (frame_of pa) w
    (λ b. value_in b (place_of pa) c.args.width) bytes c.value_in.result
    (record { stream = refl; draws = refl; missed = refl; marks = refl; emitter = refl; violation = refl; domain = refl; regime = refl }) refl refl
    (subst (λ (f : ℕ). SeesFrame side.memory.now.pager f bytes) c.frame_of.ensures c.read_outside.ensures.model)
    c.read_outside.follows.holds-at-none
    (c.value_in.ensures ∙ ap (λ n. value_in bytes n c.args.width) c.place_of.ensures.value) sees

pub returns-clause-keeps : goal.returns-clause-keeps
returns-clause-keeps g c first stays =
    within_repaged g.E.Emit.gave first c.args.self.now _ stays refl refl
    (read_size _ _ c.read_outside.follows.holds-at-none) refl refl refl
    (no_more_read _ _ c.read_outside.follows.holds-at-none)
