use Rattle.std.proofs.Common.{length, refl, sym}
use Rattle.cloak_model.specs.KernelAlone.{store_at}
use Rattle.alone_views.specs.KernelChanges.{may_store}
use Rattle.alone_views.specs.KernelStanding.{state_with}
use Rattle.alone_views.proofs.KernelFits.{put_stored, fits_not}
use Rattle.alone_views.proofs.KernelRam.{seen_stored}
use Rattle.alone_views.proofs.kernel.KernelAlone.store.Goals as goal

pub returns-then-may_store-clause-becomes : goal.returns-then-may_store-clause-becomes
returns-then-may_store-clause-becomes c width = record {
  state = λ console. sym (put_stored (state_with c.args.self.now console) c.args.address c.args.width c.args.value _
      (sym (c.if-may_store.ensures.value width)) (seen_stored c.args.self.now.ram c.write_at.new.self c.args.address
      c.args.width c.args.value c.write_at.ensures.frames c.write_at.ensures.marks));
  console = refl;
  schedule = refl;
}

pub returns-else-may_store-clause-becomes : goal.returns-else-may_store-clause-becomes
returns-else-may_store-clause-becomes c width =
    fits_not c.args.self.now _ (λ s. may_store (length s.kernel.ram) c.args.address c.args.width)
    (store_at c.args.address c.args.width c.args.value) (λ console. sym (c.if-may_store.ensures.value width))
    c.refuse.ensures.becomes
