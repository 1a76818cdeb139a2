use Rattle.std.proofs.Common.{ap, sym, ◌∙◌, refl}
use Rattle.cloak_model.specs.Hart.{Hart}
use Rattle.alone_views.specs.KernelStanding.{state_with}
use Rattle.alone_views.proofs.KernelHarts.{hart_there, begun_outside, begun_inside}
use Rattle.alone_views.proofs.kernel.KernelAlone.begin_step.Goals as goal

pub returns-in-None-clause-becomes : goal.returns-in-None-clause-becomes
returns-in-None-clause-becomes c =
    let old = c.args.self.now in
    let is = hart_there old.harts.items c.args.hart c.index.result.now c.requires c.index.ensures in
    record {
      state = λ console. sym (begun_outside (state_with old console) c.args.hart c.index.result.now is
          (ap (λ (h : Hart). h.inside) (sym c.behind-self.view_is) ∙ c.in-None.is));
      console = refl;
      schedule = refl;
    }

pub returns-in-Some-clause-becomes : goal.returns-in-Some-clause-becomes
returns-in-Some-clause-becomes c =
    let old = c.args.self.now in
    let read = hart_there old.harts.items c.args.hart c.index.result.now c.requires c.index.ensures in
    let is = hart_there old.harts.items c.args.hart c.index_mut.result.now c.requires c.index_mut.ensures.value in
    record {
      state = λ console. sym (begun_inside (state_with old console) c.args.hart c.in-Some.ctx c.index_mut.result.now
          c.tick.new.h is (ap (λ (h : Hart). h.inside) (sym is ∙ (read ∙ sym c.behind-self.view_is)) ∙ c.in-Some.is)
          c.tick.ensures);
      console = refl;
      schedule = refl;
    }
