use Rattle.std.proofs.Common.{◌≡◌, refl, arith, true, false}
use Rattle.joint_machine.proofs.Mapped.{ended_empty}
use Rattle.joint_machine.proofs.Placed.{first_page, ready_next, page_placed, unplaced_next}
use Rattle.joint_machine.proofs.placing.place_page.Goals as goal

pub overflow_add-f : goal.overflow_add-f
overflow_add-f c = omega (arith, c.requires.frame, c.whole.ensures.few)

pub returns-then-not-place-clause-places : goal.returns-then-not-place-clause-places
returns-then-not-place-clause-places c m holds =
    page_placed c.args.memory.now (record c.args.memory.now { pager = c.place.new.self; stream = c.place.new.s }) false
    (first_page c.args.domain c.args.page) _ c.args.bytes.now c.if-not-place.ensures.model refl refl c.place.ensures.rights
    c.place.ensures.stays.count (λ (is : false ≡ true). cc) (λ (is : false ≡ true). cc) m holds

pub returns-clause-ready : goal.returns-clause-ready
returns-clause-ready c =
    ready_next _ c.args.memory.now.stream c.place.new.s c.args.memory.now.pager c.place.new.self c.args.domain
    c.args.page _ c.args.bytes.now c.place.ensures.state c.place.ensures.rights c.requires.ready

pub returns-clause-others : goal.returns-clause-others
returns-clause-others c =
    unplaced_next _ c.args.memory.now.stream c.place.new.s c.args.memory.now.pager c.place.new.self c.args.domain
    c.args.page _ c.args.bytes.now c.place.ensures.state

pub returns-then-not-place-clause-others : goal.returns-then-not-place-clause-others
returns-then-not-place-clause-others c =
    unplaced_next _ c.args.memory.now.stream c.place.new.s c.args.memory.now.pager c.place.new.self c.args.domain
    c.args.page _ c.args.bytes.now c.place.ensures.state

pub returns-clause-places : goal.returns-clause-places
returns-clause-places c m holds =
    page_placed c.args.memory.now _ true (first_page c.args.domain c.args.page) _ c.args.bytes.now
    c.if-not-place.ensures.model refl c.saturating_add-memory.ensures c.place.ensures.rights
    c.place.ensures.stays.count (λ is. c.kill_dependents.ensures) (λ is. c.frame_written.ensures) m holds

pub returns-clause-empty : goal.returns-clause-empty
returns-clause-empty c none = ended_empty _ c.args.memory.now.shadows _ c.kill_dependents.ensures none
