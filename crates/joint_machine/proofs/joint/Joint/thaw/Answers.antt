use Rattle.std.proofs.Common.{◌∙◌, All, List, ap, refl, subst}
use Rattle.cloak_model.specs.Beginning.{stored_keys}
use Rattle.cloak_model.specs.Opening.{groups, key_count}
use Rattle.frozen_state.specs.Refusing.{IsFirstChanged, IsWholeDomain}
use Rattle.frozen_state.specs.declared.frozen.FrozenDomain.{FrozenDomain}
use Rattle.joint_machine.proofs.Opens.{has_keys}
use Rattle.joint_machine.proofs.Remade.{faults_result, keys_short, keys_then, keys_there, thaws_result, under_keys}
use Rattle.joint_machine.proofs.joint.Joint.thaw.Goals as goal

pub returns-then-not-skip-clause-faults : goal.returns-then-not-skip-clause-faults
returns-then-not-skip-clause-faults c =
    let keys = stored_keys c.args.b.now c.in-Some.keys in
    let has = has_keys c.args.b.now c.args.s c.draw_keys.new.stream c.count_keys.result c.in-Some.keys (groups c.args.b.now.programs)
    c.args.b.now.programs refl (c.count_keys.ensures.value ∙ ap key_count c.as_slice-programs.ensures) c.in-Some.ensures refl in (
      keys_there c.args.b.now c.args.s c.draw_keys.new.stream keys has,
      keys_short c.args.b.now c.args.s c.draw_keys.new.stream keys c.args.f.draws has (c.if-not-skip.ensures.too_few refl).0,
    )

pub returns-in-Err-clause-faults : goal.returns-in-Err-clause-faults
returns-in-Err-clause-faults c =
    let keys = stored_keys c.args.b.now c.in-Some.keys in
    let has = has_keys c.args.b.now c.args.s c.draw_keys.new.stream c.count_keys.result c.in-Some.keys (groups c.args.b.now.programs)
    c.args.b.now.programs refl (c.count_keys.ensures.value ∙ ap key_count c.as_slice-programs.ensures) c.in-Some.ensures refl in
    under_keys c.args.b.now c.args.s c.skip.new.self keys c.args.f (λ k. IsFirstChanged IsWholeDomain c.args.f.domains c.in-Err.number)
    (keys_then c.args.b.now c.args.s c.draw_keys.new.stream c.skip.new.self keys c.args.f.draws has
    (c.if-not-skip.ensures.enough refl))
    (subst (λ (l : List FrozenDomain). IsFirstChanged IsWholeDomain l c.in-Err.number) c.as_slice.ensures c.in-Err.ensures.changed)

pub returns-clause-thaws : goal.returns-clause-thaws
returns-clause-thaws c =
    let keys = stored_keys c.args.b.now c.in-Some.keys in
    let has = has_keys c.args.b.now c.args.s c.draw_keys.new.stream c.count_keys.result c.in-Some.keys (groups c.args.b.now.programs)
    c.args.b.now.programs refl (c.count_keys.ensures.value ∙ ap key_count c.as_slice-programs.ensures) c.in-Some.ensures refl in
    thaws_result c.args.b.now c.args.s c.skip.new.self keys c.args.f _
    (keys_then c.args.b.now c.args.s c.draw_keys.new.stream c.skip.new.self keys c.args.f.draws has
    (c.if-not-skip.ensures.enough refl))
    (subst (All IsWholeDomain) c.as_slice.ensures c.in-Ok.ensures.whole) c.thaw_under.ensures.thaws

pub returns-clause-faults : goal.returns-clause-faults
returns-clause-faults c =
    let keys = stored_keys c.args.b.now c.in-Some.keys in
    let has = has_keys c.args.b.now c.args.s c.draw_keys.new.stream c.count_keys.result c.in-Some.keys (groups c.args.b.now.programs)
    c.args.b.now.programs refl (c.count_keys.ensures.value ∙ ap key_count c.as_slice-programs.ensures) c.in-Some.ensures refl in
    faults_result c.args.b.now c.args.s c.skip.new.self keys c.args.f _
    (keys_then c.args.b.now c.args.s c.draw_keys.new.stream c.skip.new.self keys c.args.f.draws has
    (c.if-not-skip.ensures.enough refl))
    (subst (All IsWholeDomain) c.as_slice.ensures c.in-Ok.ensures.whole) c.thaw_under.ensures.faults
