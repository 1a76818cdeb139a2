use Rattle.std.proofs.Common.{◌≡◌, ◌∙◌, Ok, Err, Some, None}
use Rattle.cloak_model.specs.KernelAlone.{kernel_alone}
use Rattle.cloak_model.specs.Items.{item_of}
use Rattle.read_back.proofs.KernelReads.{same_screen, views_more}
use Rattle.read_back.proofs.view.ViewingTakeItems.take_item.Goals as goal

pub returns-in-Err : goal.returns-in-Err
returns-in-Err g c = λ first before few took. record {
  views = λ k stands.
      let so_far = took.views k stands in
      rw (c.in-Err.is) at (views_more c.take.result (item_of c.args.item.now) so_far
      (c.take.ensures.takes k.schedule (kernel_alone k before) c.requires so_far.given.stands));
  failed = λ is. absurd (let clash : Err (Some c.in-Err.unfit) ≡ Err None = is in cc);
  same_kernel = took.same_kernel;
  same_screen = took.same_screen;
  same_out = same_screen c.take.ensures.emits_some.1 ∙ took.same_out;
}

pub returns-then-self : goal.returns-then-self
returns-then-self g c = λ first before few took. record {
  views = λ k stands.
      let so_far = took.views k stands in
      rw (c.in_default.is) at (views_more c.take.result (item_of c.args.item.now) so_far
      (c.take.ensures.takes k.schedule (kernel_alone k before) c.requires so_far.given.stands));
  failed = λ is. c.if-self.true;
  same_kernel = took.same_kernel;
  same_screen = took.same_screen;
  same_out = same_screen c.take.ensures.emits_some.1 ∙ took.same_out;
}

pub returns : goal.returns
returns g c = λ first before few took. record {
  views = λ k stands.
      let so_far = took.views k stands in
      rw (c.in_default.is) at (views_more c.take.result (item_of c.args.item.now) so_far
      (c.take.ensures.takes k.schedule (kernel_alone k before) c.requires so_far.given.stands));
  failed = λ is. absurd (let clash : Ok tt ≡ Err None = is in cc);
  same_kernel = took.same_kernel;
  same_screen = took.same_screen;
  same_out = same_screen c.take.ensures.emits_some.1 ∙ took.same_out;
}
