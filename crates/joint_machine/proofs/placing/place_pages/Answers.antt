use Rattle.std.proofs.Common.{◌≤◌, ◌+◌, ◌∙◌, false, true, arith}
use Rattle.joint_machine.proofs.Backwards.{page_there, page_next, pages_behind}
use Rattle.joint_machine.proofs.Placed.{pages_next, pages_missed, unplaced_then}
use Rattle.joint_machine.proofs.placing.place_pages.Goals as goal

pub take_page-requires : goal.take_page-requires
take_page-requires c =
    page_there c.loop-page.bytes.items c.args.p.bytes c.loop-page.page c.args.p.start.pages c.loop-page.invariant.left
    c.requires.program.bytes c.loop-page-test.true

pub returns-then-not-place_page-clause-places : goal.returns-then-not-place_page-clause-places
returns-then-not-place_page-clause-places c m holds =
    let d = c.args.domain in
    let p = c.args.p in
    let i = c.loop-page.page in
    let new = c.place_page.new.memory in
    pages_missed new d p m p.start.pages (i + 1) (let e : i + 1 ≤ p.start.pages = omega (arith, c.loop-page-test.true) in e)
    (pages_next c.loop-page.memory new false d i p c.take_page.result m
    (c.take_page.ensures.page ∙ page_next c.loop-page.bytes.items p.bytes i c.loop-page.invariant.left)
    (c.loop-page.invariant.places m holds)
    (λ x held. c.if-not-place_page.ensures.places x held))

pub returns-then-not-place_page-clause-others : goal.returns-then-not-place_page-clause-others
returns-then-not-place_page-clause-others c =
    unplaced_then c.args.memory.now.pager c.loop-page.memory.pager c.place_page.new.memory.pager c.loop-page.invariant.others c.place_page.ensures.others

pub loop-page-preserved : goal.loop-page-preserved
loop-page-preserved c =
    let p = c.args.p in
    let i = c.loop-page.page in
    let back = c.loop-page.bytes.items in
    record {
      size = record {
        frames = c.place_page.ensures.size.frames ∙ c.loop-page.invariant.size.frames;
        domains = c.place_page.ensures.size.domains ∙ c.loop-page.invariant.size.domains;
      };
      ready = c.place_page.ensures.ready;
      others = unplaced_then c.args.memory.now.pager c.loop-page.memory.pager c.place_page.new.memory.pager c.loop-page.invariant.others c.place_page.ensures.others;
      empty = λ none. c.place_page.ensures.empty (c.loop-page.invariant.empty none);
      left =
          pages_behind back c.take_page.new.bytes.items p.bytes i c.loop-page.invariant.left c.take_page.ensures.rest;
      places = λ m holds.
          pages_next c.loop-page.memory c.place_page.new.memory true c.args.domain i p c.take_page.result m
          (c.take_page.ensures.page ∙ page_next back p.bytes i c.loop-page.invariant.left)
          (c.loop-page.invariant.places m holds)
          (λ x held. c.if-not-place_page.ensures.places x held);
    }
