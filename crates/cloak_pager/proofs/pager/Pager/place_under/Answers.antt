use Rattle.std.proofs.Common.{refl, sym, ◌∙◌, ap}
use Rattle.sha2.specs.Sha256.{sha256}
use Rattle.cloak_pager.specs.declared.frame_right.FrameRight.TheVariants.{Outside}
use Rattle.cloak_pager.proofs.Keeping.{right_seen}
use Rattle.cloak_pager.proofs.Turned.{place_turns}
use Rattle.cloak_pager.proofs.pager.Pager.place_under.Goals as goal

pub returns : goal.returns
returns c =
    let right = right_seen c.args.f.0 (Outside c.in-Outside.right) c.self.view_is c.self.invariant.whole
    c.requires.inside c.index.ensures (sym c.in-Outside.is) in
    let sum = c.digest-digest.ensures ∙ ap sha256 c.as_slice.ensures in
    rw (← c.self.view_is)
    (place_turns c.args.q c.args.bytes.now c.args.iv.now right refl c.of.ensures c.seal_page.ensures sum c.set.ensures)
