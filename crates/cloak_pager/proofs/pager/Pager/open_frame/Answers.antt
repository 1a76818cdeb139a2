use Rattle.std.proofs.Common.{ℕ, List, Some, false, ◌≡◌, ◌≢◌, sym, subst, ap}
use Rattle.sha2.specs.Sha256.{sha256}
use Rattle.protect_meta.specs.Table.{meta_at}
use Rattle.protect_meta.specs.Pages.{IsIn}
use Rattle.cloak_pager.specs.State.{PagerState, IsWholeWithHomes, page_of}
use Rattle.cloak_pager.specs.Turns.{IsClean}
use Rattle.cloak_pager.specs.declared.frame_right.FrameRight.TheVariants.{Outside}
use Rattle.cloak_pager.proofs.Keeping.{right_seen}
use Rattle.cloak_pager.proofs.Turned.{open_kept, open_turns, put_back, seen_outside, taken_right}
use Rattle.cloak_pager.proofs.pager.Pager.open_frame.Goals as goal

pub invariant_of-self : goal.invariant_of-self
invariant_of-self c =
    let right = right_seen c.args.g.0 (Outside c.in-Outside.right) c.self.view_is c.self.invariant.whole
    c.requires.inside c.index_mut.ensures.value c.in-Outside.ensures.value in
    let page : IsIn c.self.inside.table.domains c.args.q = rw (← c.self.view_is) at c.requires.page in
    let shown : meta_at c.self.inside.table c.args.q ≡ Some c.args.m.now = rw (← c.self.view_is) at c.requires.shown in
    open_kept c.replace.new.dest c.self.invariant right shown c.in-Ok.ensures.bytes c.in-Ok.ensures.right
    (record { page = page; nowhere = rw (← c.self.view_is) at c.requires.nowhere; noted = c.set.ensures })

pub invariant_of-self-in-Err : goal.invariant_of-self-in-Err
invariant_of-self-in-Err c =
    let right = right_seen c.args.g.0 (Outside c.in-Outside.right) c.self.view_is c.self.invariant.whole
    c.requires.inside c.index_mut.ensures.value c.in-Outside.ensures.value in
    let K : PagerState → Type 0 = λ x. IsWholeWithHomes x c.self.inside.homes in
    subst K (sym (put_back c.replace.new.dest right c.in-Err.ensures.unchanged)) c.self.invariant

pub returns-in-Ok-clause-recorded : goal.returns-in-Ok-clause-recorded
returns-in-Ok-clause-recorded c =
    let right = right_seen c.args.g.0 (Outside c.in-Outside.right) c.self.view_is c.self.invariant.whole
    c.requires.inside c.index_mut.ensures.value c.in-Outside.ensures.value in
    rw (← c.self.view_is)
    (λ yes. seen_outside (λ (x : List ℕ). sha256 x ≡ c.args.m.now.digest) right c.in-Ok.ensures.opened_where_recorded)

pub returns-in-Ok-clause-opened : goal.returns-in-Ok-clause-opened
returns-in-Ok-clause-opened c =
    let right = right_seen c.args.g.0 (Outside c.in-Outside.right) c.self.view_is c.self.invariant.whole
    c.requires.inside c.index_mut.ensures.value c.in-Outside.ensures.value in
    rw (← c.self.view_is)
    (λ yes. open_turns c.open_page.new.s c.args.m.now c.replace.new.dest right c.of.ensures c.in-Ok.ensures.bytes
    c.in-Ok.ensures.right)

pub returns-in-Err-clause-refused : goal.returns-in-Err-clause-refused
returns-in-Err-clause-refused c =
    let right = right_seen c.args.g.0 (Outside c.in-Outside.right) c.self.view_is c.self.invariant.whole
    c.requires.inside c.index_mut.ensures.value c.in-Outside.ensures.value in
    rw (← c.self.view_is)
    (λ no. (
      seen_outside (λ (x : List ℕ). sha256 x ≢ c.args.m.now.digest) right c.in-Err.ensures.refused_where_not,
      put_back c.replace.new.dest right c.in-Err.ensures.unchanged,
    ))

pub returns-in-Ok-clause-clean : goal.returns-in-Ok-clause-clean
returns-in-Ok-clause-clean c =
    let right = right_seen c.args.g.0 (Outside c.in-Outside.right) c.self.view_is c.self.invariant.whole
    c.requires.inside c.index_mut.ensures.value c.in-Outside.ensures.value in
    let turns = open_turns c.open_page.new.s c.args.m.now c.replace.new.dest right c.of.ensures c.in-Ok.ensures.bytes
    c.in-Ok.ensures.right in
    let is = taken_right _ _ c.args.g.0 c.args.q false turns.0 c.self.invariant.whole right.inside turns.2 in
    λ yes. (subst IsClean (sym is) tt, ap page_of is)
