use Rattle.std.proofs.Common.{◌∙◌, ℕ, List, ◌++◌, [], ◌<◌, length, slice_index_or, sym, ap, subst, take, arith}
use Rattle.std.specs.List.{concat}
use Rattle.std.proofs.lemmas.List.{take_all}
use Rattle.sha2.specs.Hashers.{Holds256}
use Rattle.sha2.specs.Sha256.{sha256}
use Rattle.cloak_pager.specs.State.{PagerState}
use Rattle.kernel_report.proofs.Joined.{concat-take_more}
use Rattle.joint_machine.proofs.Showing.{frames_shown}
use Rattle.cloak_machine.proofs.frames.digest_of.Goals as goal

pub loop-f-preserved : goal.loop-f-preserved
loop-f-preserved c =
    let frames = c.args.memory.now.pager.frames in
    let at = c.loop-f in
    let read = c.hash_frame.ensures.read in
    let low : at.f < length frames = omega (arith, at.invariant.count) in record {
      frames = ap (λ (p : PagerState). p.frames) read ∙ at.invariant.frames;
      rights = ap (λ (p : PagerState). p.rights) read ∙ at.invariant.rights;
      count = at.invariant.count;
      hashed = subst (λ (m : List ℕ). Holds256 c.hash_frame.new.hasher m)
          (ap (λ (l : List (List ℕ)). concat (take at.f frames) ++ slice_index_or l at.f []) at.invariant.frames
          ∙ sym (concat-take_more frames at.f [] low))
          (c.hash_frame.ensures.hashed _ at.invariant.hashed);
    }

pub returns : goal.returns
returns c m holds =
    let frames = c.args.memory.now.pager.frames in
    c.finalize.ensures _ c.loop-f.invariant.hashed ∙ ap (λ (l : List (List ℕ)). sha256 (concat l))
    (take_all c.loop-f.f frames (omega (arith, c.count-f-end.ensures.value))
    ∙ frames_shown _ holds.wiped m holds.pager c.requires)
