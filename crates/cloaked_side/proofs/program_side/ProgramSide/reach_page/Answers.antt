use Rattle.std.proofs.Common.{◌≡◌, ◌/◌, false, None, Some, Ok, Err, refl, sym, subst}
use Rattle.cloak_model.specs.Walk.{access_fault}
use Rattle.shadow_fold.specs.Table.{is_known}
use Rattle.shadow_fold.specs.declared.entry.Regime.{Regime}
use Rattle.cloaked_side.specs.Leading.{Reaches}
use Rattle.cloaked_side.proofs.Known.{fault_reaches, found_reaches}
use Rattle.cloaked_side.proofs.Sided.{own_page_on, reach_on, reach_refused, within_of}
use Rattle.cloaked_side.proofs.program_side.ProgramSide.reach_page.Goals as goal

pub returns-in-Straight-clause-follows : goal.returns-in-Straight-clause-follows
returns-in-Straight-clause-follows g c =
    found_reaches g.E.Emit.gave c.args.self.now.side c.look.new.self c.reach_led.new.self.side c.reach_led.result
    c.args.q c.args.va c.args.kind
    (Some (Ok (record { pa = c.in-Straight.pa; walked = None; missed = false }))) c.look.ensures.keeps
    c.in-Straight.ensures.found c.reach_led.ensures.told

pub returns-in-Straight-clause-leaves : goal.returns-in-Straight-clause-leaves
returns-in-Straight-clause-leaves g c =
    reach_on g.E.Emit.gave c.args.self.now _ _ c.args.q c.args.kind _ c.look.ensures.keeps c.reach_led.ensures.leaves

pub reach_led-requires-clause-page : goal.reach_led-requires-clause-page
reach_led-requires-clause-page g c =
    own_page_on g.E.Emit.gave c.args.self.now.side c.look.new.self c.args.q c.look.ensures.keeps c.requires.page

pub returns-in-Other-clause-follows : goal.returns-in-Other-clause-follows
returns-in-Other-clause-follows g c =
    found_reaches g.E.Emit.gave c.args.self.now.side c.look.new.self c.reach_other.new.self.side c.reach_other.result
    c.args.q c.args.va c.args.kind
    (Some (Ok (record { pa = c.in-Other.walked.pa; walked = Some c.in-Other.walked; missed = false })))
    c.look.ensures.keeps c.in-Other.ensures.found c.reach_other.ensures.told

pub returns-in-Other-clause-leaves : goal.returns-in-Other-clause-leaves
returns-in-Other-clause-leaves g c =
    reach_on g.E.Emit.gave c.args.self.now _ _ c.args.q c.args.kind _ c.look.ensures.keeps c.reach_other.ensures.leaves

pub reach_other-requires-clause-page : goal.reach_other-requires-clause-page
reach_other-requires-clause-page g c =
    own_page_on g.E.Emit.gave c.args.self.now.side c.look.new.self c.args.q c.look.ensures.keeps c.requires.page

pub returns-in-Fault-clause-follows : goal.returns-in-Fault-clause-follows
returns-in-Fault-clause-follows g c =
    let gave = g.E.Emit.gave in
    let mid = c.look.new.self in
    let new = c.answer_fault.new.self.side in
    let given = c.answer_fault.result in
    found_reaches gave c.args.self.now.side mid new given c.args.q c.args.va c.args.kind
    (Some (Err (access_fault c.args.kind)))
    c.look.ensures.keeps c.in-Fault.ensures.found
    (subst (λ cause. Reaches gave mid new given c.args.q c.args.va c.args.kind (Some (Err cause)))
    c.access_fault.ensures
    (fault_reaches gave mid new given c.args.q c.args.va c.args.kind _ c.answer_fault.ensures.told))

pub returns-in-Fault-clause-leaves : goal.returns-in-Fault-clause-leaves
returns-in-Fault-clause-leaves g c =
    reach_on g.E.Emit.gave c.args.self.now _ _ c.args.q c.args.kind _ c.look.ensures.keeps
    (reach_refused g.E.Emit.gave (record c.args.self.now { side = c.look.new.self }) _ c.args.q c.args.kind _
    c.answer_fault.ensures.keeps
    c.answer_fault.ensures.refused)

pub returns-in-Missed-clause-follows : goal.returns-in-Missed-clause-follows
returns-in-Missed-clause-follows g c =
    found_reaches g.E.Emit.gave c.args.self.now.side c.look.new.self c.reach_walking.new.self.side
    c.reach_walking.result c.args.q c.args.va c.args.kind
    None c.look.ensures.keeps c.in-Missed.ensures.found c.reach_walking.ensures.told

pub returns-in-Missed-clause-leaves : goal.returns-in-Missed-clause-leaves
returns-in-Missed-clause-leaves g c =
    reach_on g.E.Emit.gave c.args.self.now _ _ c.args.q c.args.kind _ c.look.ensures.keeps
    c.reach_walking.ensures.leaves

pub reach_walking-requires-clause-page : goal.reach_walking-requires-clause-page
reach_walking-requires-clause-page g c =
    own_page_on g.E.Emit.gave c.args.self.now.side c.look.new.self c.args.q c.look.ensures.keeps c.requires.page

pub reach_walking-requires-clause-unknown : goal.reach_walking-requires-clause-unknown
reach_walking-requires-clause-unknown g c =
    let kept = (within_of g.E.Emit.gave c.args.self.now.side c.look.new.self c.look.ensures.keeps).stays in
    subst (λ (v : Regime). is_known v (c.args.va / 4096) c.args.kind c.look.new.self.memory.now.shadows ≡ false)
    (sym kept.regime) (c.in-Missed.ensures.unknown refl)
