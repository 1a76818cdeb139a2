use Rattle.std.proofs.Common.{List, ℕ, sym, ◌∙◌, ap, subst, ◌++◌, take}
use Rattle.std.specs.List.{concat}
use Rattle.sha2.specs.Hashers.{Holds256}
use Rattle.kernel_report.proofs.Joined.{concat-take_more}
use Rattle.alone_views.proofs.kernel_ram.FlatRam.digest.Goals as goal

pub loop-frame-preserved : goal.loop-frame-preserved
loop-frame-preserved c =
    let frames = c.as_slice-frames.result.now in
    let i = c.loop-frame.frame-index in
    let so_far = concat (take i frames) in
    subst (λ (m : List ℕ). Holds256 c.update.new.self m)
    (ap (λ (l : List ℕ). so_far ++ l) c.as_slice.ensures ∙ sym (concat-take_more frames i _ c.loop-frame-test.true))
    (c.update.ensures so_far c.loop-frame.invariant)
