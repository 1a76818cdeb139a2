use Rattle.std.proofs.Common.{◌∙◌, arith}
use Rattle.hostile_kernels.specs.Parts.{segment_of, guest_of}
use Rattle.hostile_kernels.proofs.Made.{all_made, made_image}
use Rattle.hostile_kernels.proofs.making.image.Goals as goal

pub returns : goal.returns
returns c =
    let d = c.args.draft.now in
    let last_segment = c.loop-words-test.false in
    let last_program = c.loop-guest-test.false in
    made_image d.frames d.harts d.entry d.blocks _ _ _ _ _ _ _ (c.new.ensures ∙ c.in_ok-from_slice.ensures.items)
    (c.new-2.ensures
    ∙ all_made segment_of d.segments.now _ c.loop-words.words-index c.loop-words.invariant (omega (arith, last_segment)))
    (c.new-3.ensures ∙ c.in_ok-vec.ensures.items_if_clones_equal (λ y is. is))
    (c.new-4.ensures
    ∙ all_made guest_of d.programs.now _ c.loop-guest.guest-index c.loop-guest.invariant (omega (arith, last_program)))
