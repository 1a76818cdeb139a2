use Rattle.std.proofs.Common.{◌≡◌, ◌<◌, ap, sym, arith}
use Rattle.hostile_kernels.specs.Images.{hostile_images, hostile_image, image_0, image_1, image_2, image_3, image_4, image_5, image_6, image_7, image_8, image_9, image_10, image_11, image_12, image_13, image_14, image_15, image_16, image_17, image_18, image_19, image_20, image_21, image_22, image_23}
use Rattle.hostile_kernels.proofs.images.draft.Goals as goal

pub returns-in-0 : goal.returns-in-0
unfolding hostile_images image_0
returns-in-0 c = sym (ap hostile_image c.in-0.is)

pub returns-in-1 : goal.returns-in-1
unfolding hostile_images image_1
returns-in-1 c = sym (ap hostile_image c.in-1.is)

pub returns-in-2 : goal.returns-in-2
unfolding hostile_images image_2
returns-in-2 c = sym (ap hostile_image c.in-2.is)

pub returns-in-3 : goal.returns-in-3
unfolding hostile_images image_3
returns-in-3 c = sym (ap hostile_image c.in-3.is)

pub returns-in-4 : goal.returns-in-4
unfolding hostile_images image_4
returns-in-4 c = sym (ap hostile_image c.in-4.is)

pub returns-in-5 : goal.returns-in-5
unfolding hostile_images image_5
returns-in-5 c = sym (ap hostile_image c.in-5.is)

pub returns-in-6 : goal.returns-in-6
unfolding hostile_images image_6
returns-in-6 c = sym (ap hostile_image c.in-6.is)

pub returns-in-7 : goal.returns-in-7
unfolding hostile_images image_7
returns-in-7 c = sym (ap hostile_image c.in-7.is)

pub returns-in-8 : goal.returns-in-8
unfolding hostile_images image_8
returns-in-8 c = sym (ap hostile_image c.in-8.is)

pub returns-in-9 : goal.returns-in-9
unfolding hostile_images image_9
returns-in-9 c = sym (ap hostile_image c.in-9.is)

pub returns-in-10 : goal.returns-in-10
unfolding hostile_images image_10
returns-in-10 c = sym (ap hostile_image c.in-10.is)

pub returns-in-11 : goal.returns-in-11
unfolding hostile_images image_11
returns-in-11 c = sym (ap hostile_image c.in-11.is)

pub returns-in-12 : goal.returns-in-12
unfolding hostile_images image_12
returns-in-12 c = sym (ap hostile_image c.in-12.is)

pub returns-in-13 : goal.returns-in-13
unfolding hostile_images image_13
returns-in-13 c = sym (ap hostile_image c.in-13.is)

pub returns-in-14 : goal.returns-in-14
unfolding hostile_images image_14
returns-in-14 c = sym (ap hostile_image c.in-14.is)

pub returns-in-15 : goal.returns-in-15
unfolding hostile_images image_15
returns-in-15 c = sym (ap hostile_image c.in-15.is)

pub returns-in-16 : goal.returns-in-16
unfolding hostile_images image_16
returns-in-16 c = sym (ap hostile_image c.in-16.is)

pub returns-in-17 : goal.returns-in-17
unfolding hostile_images image_17
returns-in-17 c = sym (ap hostile_image c.in-17.is)

pub returns-in-18 : goal.returns-in-18
unfolding hostile_images image_18
returns-in-18 c = sym (ap hostile_image c.in-18.is)

pub returns-in-19 : goal.returns-in-19
unfolding hostile_images image_19
returns-in-19 c = sym (ap hostile_image c.in-19.is)

pub returns-in-20 : goal.returns-in-20
unfolding hostile_images image_20
returns-in-20 c = sym (ap hostile_image c.in-20.is)

pub returns-in-21 : goal.returns-in-21
unfolding hostile_images image_21
returns-in-21 c = sym (ap hostile_image c.in-21.is)

pub returns-in-22 : goal.returns-in-22
unfolding hostile_images image_22
returns-in-22 c = sym (ap hostile_image c.in-22.is)

pub returns-in_default : goal.returns-in_default
unfolding hostile_images image_23
returns-in_default c =
    let low : c.args.number < 24 = c.requires in
    let others = c.in_default in
    let last : c.args.number ≡ 23 = omega (arith, low, others) in sym (ap hostile_image last)
