use Rattle.std.proofs.Common.{◌≢◌, ◌∙◌, ℕ, Some, ap, sym}
use Rattle.sha2.specs.Sha256.{sha256}
use Rattle.cloak_base.specs.declared.names.PageId.{PageId}
use Rattle.protect_meta.specs.Pages.{IsIn}
use Rattle.protect_meta.specs.Table.{domains_of}
use Rattle.cloak_pager.specs.State.{held_in, page_of}
use Rattle.joint_machine.proofs.Freezes.{stays_still}
use Rattle.joint_machine.proofs.Thaws.{frame_changed, frame_opened, frame_quiet, frame_unowed, frame_whole, metas_stay, owed_holds}
use Rattle.joint_machine.proofs.thawing.thaw_frame.Goals as goal

pub returns-in-None-clause-stays : goal.returns-in-None-clause-stays
returns-in-None-clause-stays c = stays_still c.args.pager.now c.args.f.0

pub returns-in-None-clause-thawed : goal.returns-in-None-clause-thawed
returns-in-None-clause-thawed c is =
    frame_quiet c.args.pager.now c.args.f.0 c.args.from.now c.in-None.is c.requires.outside c.requires.bytes

pub returns-in-None-clause-whole : goal.returns-in-None-clause-whole
returns-in-None-clause-whole c is = frame_unowed c.args.from.now c.in-None.is

pub thaw_frame-requires-clause-page : goal.thaw_frame-requires-clause-page
thaw_frame-requires-clause-page c = owed_holds c.args.from.now _ _ (IsIn (domains_of c.args.pager.now.table)) c.in-Some.is c.requires.page

pub thaw_frame-requires-clause-outside : goal.thaw_frame-requires-clause-outside
thaw_frame-requires-clause-outside c = ap page_of c.requires.outside

pub thaw_frame-requires-clause-nowhere : goal.thaw_frame-requires-clause-nowhere
thaw_frame-requires-clause-nowhere c =
    owed_holds c.args.from.now _ _ (λ (q : PageId). (k : ℕ) → held_in c.args.pager.now k ≢ Some q) c.in-Some.is c.requires.nowhere

pub returns-in-Some-clause-metas : goal.returns-in-Some-clause-metas
returns-in-Some-clause-metas c =
    metas_stay c.args.pager.now c.thaw_frame.new.self c.args.f.0 _ _ _ c.thaw_frame.result c.thaw_frame.ensures.opened
    c.thaw_frame.ensures.refused

pub returns-in-Some-clause-thawed : goal.returns-in-Some-clause-thawed
returns-in-Some-clause-thawed c is =
    frame_opened c.args.pager.now c.thaw_frame.new.self c.args.f.0 c.args.from.now _ _ c.in-Some.is
    (c.thaw_frame.ensures.opened is) (c.thaw_frame.ensures.owed is) c.requires.bytes c.requires.inside

pub returns-in-Some-clause-whole : goal.returns-in-Some-clause-whole
returns-in-Some-clause-whole c is =
    frame_whole c.args.from.now _ _ c.in-Some.is (ap sha256 (sym c.requires.bytes) ∙ c.thaw_frame.ensures.recorded is)

pub returns-in-Some-clause-changed : goal.returns-in-Some-clause-changed
returns-in-Some-clause-changed c is =
    frame_changed c.args.from.now _ _ c.in-Some.is (λ same. (c.thaw_frame.ensures.refused is).0 (ap sha256 c.requires.bytes ∙ same))
