-- What single items make of a kernel that runs alone: where they stand, whether one fits, and what it does to RAM.
use Rattle.std.proofs.Common.{◌≡◌, ℕ, nat_lt, Bool, true, false, List, length, sym, ◌∙◌, ap}
use Rattle.cloak_model.specs.KernelAlone as model
use Rattle.cloak_model.specs.KernelAlone.{kernel_unfit, fits_if, kernel_seen, with_kernel_seen, show_cipher, with_shown_bytes, store_at}
use Rattle.cloak_model.specs.Memory.{Seen, filled, stored}
use Rattle.alone_views.specs.KernelStages.{stood_stage}
use Rattle.alone_views.specs.KernelChanges.{ChangesTo, may_store, store_or_unfit}
use Rattle.alone_views.specs.KernelStanding.{state_with}
use Rattle.alone_views.specs.declared.kernel.KernelAlone.{KernelAlone}

-- the stage is known
pub at_stage : (old new : KernelAlone) (stage : model.KernelStage)
    (next : model.KernelStage → model.KernelAlone → model.KernelAlone) → stood_stage old.stage ≡ stage →
    ChangesTo old new (next stage) → ChangesTo old new (λ s. next s.stage s)
at_stage old new stage next is becomes = record {
  state = λ console. becomes.state console ∙ ap (λ (p : model.KernelStage). next p (state_with old console)) (sym is);
  console = becomes.console;
  schedule = becomes.schedule;
}

pub fits_not : (old new : KernelAlone) (test : model.KernelAlone → Bool)
    (next : model.KernelAlone → model.KernelAlone) → ((console : List ℕ) → test (state_with old console) ≡ false) →
    ChangesTo old new kernel_unfit →
    ChangesTo old new (λ s. fits_if (test s) s (next s))
fits_not old new test next is becomes = record {
  state = λ console. becomes.state console
      ∙ ap (λ (b : Bool). fits_if b (state_with old console) (next (state_with old console))) (sym (is console));
  console = becomes.console;
  schedule = becomes.schedule;
}

-- with another RAM, and other reservations
abbrev pub with_seen : Seen → model.KernelAlone → model.KernelAlone
with_seen seen s = record s { kernel = with_kernel_seen seen s.kernel }

-- the kernel is shown a frame
pub cipher_shown : (s : model.KernelAlone) (f : ℕ) (bytes : List ℕ) (seen : Seen) →
    nat_lt f (length s.kernel.ram) ≡ true → filled f bytes (kernel_seen s.kernel) ≡ seen →
    show_cipher f bytes s ≡ with_seen seen s
cipher_shown s f bytes seen there is =
    ap (λ (b : Bool). fits_if b s (with_shown_bytes f bytes s)) there ∙ ap (λ (x : Seen). with_seen x s) is

-- a value is stored
pub put_stored : (s : model.KernelAlone) (address width value : ℕ) (seen : Seen) →
    may_store (length s.kernel.ram) address width ≡ true → stored address width value (kernel_seen s.kernel) ≡ seen →
    store_or_unfit address width value s ≡ with_seen seen s
put_stored s address width value seen may is =
    ap (λ (b : Bool). fits_if b s (store_at address width value s)) may ∙ ap (λ (x : Seen). with_seen x s) is
