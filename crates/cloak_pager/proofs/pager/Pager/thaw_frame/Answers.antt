use Rattle.std.proofs.Common.{ℕ, List, ◌≡◌, ◌≢◌, true, sym, subst, ◌∙◌, ap, refl}
use Rattle.sha2.specs.Sha256.{sha256}
use Rattle.protect_meta.specs.Pages.{IsIn}
use Rattle.cloak_pager.specs.State.{PagerState, IsWholeWithHomes, owed_under}
use Rattle.cloak_pager.specs.declared.frame_right.FrameRight.TheVariants.{Outside}
use Rattle.cloak_pager.proofs.Keeping.{right_seen}
use Rattle.cloak_pager.proofs.Turned.{put_back, seen_outside, taken_right}
use Rattle.cloak_pager.proofs.Writes.{whole_now}
use Rattle.cloak_pager.proofs.Behind.{stays_same, turned_stays}
use Rattle.cloak_pager.proofs.Frozen.{thaw_kept, thaws}
use Rattle.cloak_pager.proofs.pager.Pager.thaw_frame.Goals as goal

pub invariant_of-self : goal.invariant_of-self
invariant_of-self c =
    let right = right_seen c.args.f.0 (Outside c.in-Outside.right) c.self.view_is c.self.invariant.whole
    c.requires.inside c.index_mut.ensures.value c.in-Outside.ensures.value in
    let page : IsIn c.self.inside.table.domains c.args.q = rw (← c.self.view_is) at c.requires.page in
    thaw_kept c.replace.new.dest c.self.invariant right c.in-Ok.ensures.bytes (c.change.ensures ∙ c.in-Ok.ensures.right)
    (record { page = page; nowhere = rw (← c.self.view_is) at c.requires.nowhere; noted = c.set.ensures })

pub invariant_of-self-in-Err : goal.invariant_of-self-in-Err
invariant_of-self-in-Err c =
    let right = right_seen c.args.f.0 (Outside c.in-Outside.right) c.self.view_is c.self.invariant.whole
    c.requires.inside c.index_mut.ensures.value c.in-Outside.ensures.value in
    let K : PagerState → Type 0 = λ x. IsWholeWithHomes x c.self.inside.homes in
    subst K (sym (put_back c.replace.new.dest right c.in-Err.ensures.unchanged)) c.self.invariant

pub returns-in-Ok-clause-recorded : goal.returns-in-Ok-clause-recorded
returns-in-Ok-clause-recorded c =
    let right = right_seen c.args.f.0 (Outside c.in-Outside.right) c.self.view_is c.self.invariant.whole
    c.requires.inside c.index_mut.ensures.value c.in-Outside.ensures.value in
    rw (← c.self.view_is)
    (λ yes. seen_outside (λ (x : List ℕ). sha256 x ≡ c.args.m.now.digest) right c.in-Ok.ensures.opened_where_recorded)

pub returns-in-Ok-clause-opened : goal.returns-in-Ok-clause-opened
returns-in-Ok-clause-opened c =
    let right = right_seen c.args.f.0 (Outside c.in-Outside.right) c.self.view_is c.self.invariant.whole
    c.requires.inside c.index_mut.ensures.value c.in-Outside.ensures.value in
    rw (← c.self.view_is)
    (λ yes. thaws c.open_page.new.s c.replace.new.dest right c.of.ensures c.in-Ok.ensures.bytes
    (c.change.ensures ∙ c.in-Ok.ensures.right))

pub returns-in-Ok-clause-owed : goal.returns-in-Ok-clause-owed
returns-in-Ok-clause-owed c =
    let opened = returns-in-Ok-clause-opened c refl in
    λ yes. ap owed_under
    (taken_right c.args.self.now _ c.args.f.0 c.args.q true _ (whole_now _ _ c.self.view_is c.self.invariant.whole)
    c.requires.inside opened.2)

pub returns-in-Ok-clause-stays : goal.returns-in-Ok-clause-stays
returns-in-Ok-clause-stays c =
    let opened = returns-in-Ok-clause-opened c refl in turned_stays c.args.f.0 c.args.self.now _ _ _ _ opened.2

pub returns-in-Err-clause-refused : goal.returns-in-Err-clause-refused
returns-in-Err-clause-refused c =
    let right = right_seen c.args.f.0 (Outside c.in-Outside.right) c.self.view_is c.self.invariant.whole
    c.requires.inside c.index_mut.ensures.value c.in-Outside.ensures.value in
    rw (← c.self.view_is)
    (λ no. (
      seen_outside (λ (x : List ℕ). sha256 x ≢ c.args.m.now.digest) right c.in-Err.ensures.refused_where_not,
      put_back c.replace.new.dest right c.in-Err.ensures.unchanged,
    ))

pub returns-in-Err-clause-stays : goal.returns-in-Err-clause-stays
returns-in-Err-clause-stays c =
    stays_same c.args.f.0 c.args.self.now _ (returns-in-Err-clause-refused c refl).1
