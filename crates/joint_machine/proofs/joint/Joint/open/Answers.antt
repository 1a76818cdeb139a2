use Rattle.std.proofs.Common.{◌∙◌, ◌≡◌, List, ap, length, refl, subst, sym}
use Rattle.cloak_model.specs.declared.image.Bundle.{Bundle}
use Rattle.cloak_model.specs.declared.image.Program.{Program}
use Rattle.cloak_model.specs.Beginning.{stored_keys}
use Rattle.cloak_model.specs.Bundle.{IsInGrammar}
use Rattle.cloak_model.specs.Opening.{groups, key_count}
use Rattle.joint_machine.specs.Starting.{StartsParts}
use Rattle.joint_machine.proofs.Opens.{low_keys, no_key, no_page_draw, has_keys, has_parts, opens_joint}
use Rattle.joint_machine.proofs.joint.Joint.open.Goals as goal
use Rattle.cloak_model.proofs.Opening.{length-started_harts}

pub returns-in_default-clause-opens : goal.returns-in_default-clause-opens
returns-in_default-clause-opens c =
    let b : Bundle = record { kernel = c.args.kernel; programs = c.args.programs } in
    no_key b c.args.s c.count_keys.result (c.count_keys.ensures.value ∙ ap key_count c.as_slice.ensures)
    c.in_default.ensures

pub count_keys-requires : goal.count_keys-requires
count_keys-requires c =
    low_keys c.args.kernel.frames c.args.programs c.as_slice.result.now c.as_slice.ensures c.requires.programs

pub start_parts-requires : goal.start_parts-requires
start_parts-requires c =
    subst (λ (ps : List Program). IsInGrammar (record { kernel = c.args.kernel; programs = ps })) (sym c.as_slice-2.ensures)
    c.requires

pub returns-then-not-place_programs-clause-opens : goal.returns-then-not-place_programs-clause-opens
returns-then-not-place_programs-clause-opens c =
    let b : Bundle = record { kernel = c.args.kernel; programs = c.args.programs } in
    let rest = c.draw_keys.new.stream in
    let starts = subst (λ (ps : List Program). StartsParts (record { kernel = c.args.kernel; programs = ps }) c.in-Some.keys rest c.in_ok-parts.parts)
    c.as_slice-2.ensures c.in_ok-parts.ensures in
    no_page_draw b c.args.s rest (stored_keys b c.in-Some.keys) c.place_programs.new.memory
    (has_keys b c.args.s rest c.count_keys.result c.in-Some.keys (groups b.programs) b.programs refl
    (c.count_keys.ensures.value ∙ ap key_count c.as_slice.ensures) c.in-Some.ensures refl)
    (c.if-not-place_programs.ensures.places _ starts.memory)

pub joint_of-requires-clause-few_harts : goal.joint_of-requires-clause-few_harts
joint_of-requires-clause-few_harts c =
    let e : length c.in_ok-parts.parts.harts.items ≡ c.args.kernel.harts =
    ap length c.in_ok-parts.ensures.harts ∙ length-started_harts c.args.kernel.entry c.args.kernel.harts in
    rw e c.requires.kernel.few_harts

pub returns-clause-opens : goal.returns-clause-opens
returns-clause-opens c =
    let b : Bundle = record { kernel = c.args.kernel; programs = c.args.programs } in
    let rest = c.draw_keys.new.stream in
    let starts = subst (λ (ps : List Program). StartsParts (record { kernel = c.args.kernel; programs = ps }) c.in-Some.keys rest c.in_ok-parts.parts)
    c.as_slice-2.ensures c.in_ok-parts.ensures in
    opens_joint c.joint_of.result b c.args.s rest (stored_keys b c.in-Some.keys)
    (has_keys b c.args.s rest c.count_keys.result c.in-Some.keys (groups b.programs) b.programs refl
    (c.count_keys.ensures.value ∙ ap key_count c.as_slice.ensures) c.in-Some.ensures refl)
    (has_parts c.joint_of.result b c.in-Some.keys rest c.in_ok-parts.parts _ starts refl refl refl refl refl
    c.joint_of.ensures.parts c.joint_of.ensures.roots (c.if-not-place_programs.ensures.places _ starts.memory))

pub returns-clause-harts : goal.returns-clause-harts
returns-clause-harts c =
    ap (λ (x : _). length x.items) c.joint_of.ensures.parts.harts
    ∙ (ap length c.in_ok-parts.ensures.harts ∙ length-started_harts c.args.kernel.entry c.args.kernel.harts)
