use Rattle.std.proofs.Common.{length, nat_lt, refl, sym}
use Rattle.cloak_model.specs.KernelAlone.{with_shown_bytes}
use Rattle.alone_views.specs.KernelStanding.{state_with}
use Rattle.alone_views.proofs.KernelFits.{cipher_shown, fits_not}
use Rattle.alone_views.proofs.KernelRam.{seen_filled}
use Rattle.alone_views.proofs.kernel.KernelAlone.show_cipher.Goals as goal

pub returns-then-has_frame : goal.returns-then-has_frame
returns-then-has_frame c = record {
  state = λ console. sym (cipher_shown (state_with c.args.self.now console) c.args.frame c.args.bytes.now _
      (sym c.if-has_frame.ensures) (seen_filled c.args.self.now.ram c.set_frame.new.self c.args.frame c.args.bytes.now
      c.set_frame.ensures.frames c.set_frame.ensures.marks));
  console = refl;
  schedule = refl;
}

pub returns-else-has_frame : goal.returns-else-has_frame
returns-else-has_frame c =
    fits_not c.args.self.now _ (λ s. nat_lt c.args.frame (length s.kernel.ram))
    (with_shown_bytes c.args.frame c.args.bytes.now)
    (λ console. sym c.if-has_frame.ensures) c.refuse.ensures.becomes
