-- The opening of a kernel that runs alone, and its report.
use Rattle.std.proofs.Common.{◌≡◌, ◌<◌, ℕ, false, List, [], length, All, Option, None, Result, Ok, Err, sym, replicate, ◌≤◌}
use Rattle.cloak_base.specs.declared.causes.Failed.{Failed}
use Rattle.cloak_model.specs.Hart.{Hart, started}
use Rattle.cloak_model.specs.KernelAlone as model
use Rattle.cloak_model.specs.KernelAlone.{opened_kernel}
use Rattle.cloak_model.specs.Memory.{zero_ram}
use Rattle.cloak_model.specs.Opening.{started_harts, started_kernel, with_segments}
use Rattle.cloak_model.specs.declared.image.KernelImage.{KernelImage}
use Rattle.io_traits.specs.Told.{Counts, Puts}
use Rattle.alone_views.specs.KernelConsole.{ConsoleCounts}
use Rattle.alone_views.specs.KernelStages.{stood_stage}
use Rattle.alone_views.specs.KernelStanding.{StandsForKernel, turns_of}
use Rattle.alone_views.specs.declared.kernel.KernelAlone.{KernelAlone}
use Rattle.cloak_model.proofs.Opening.{length-started_harts}

-- the hart of each turn is there
pub turns_inside : (turns schedule : List ℕ) (harts : List Hart) (entry n : ℕ) → turns ≡ schedule →
    harts ≡ started_harts entry n → All (λ h. h < n) schedule → All (λ h. h < length harts) turns
turns_inside turns schedule harts entry n same started inside =
    rw (same, started, length-started_harts entry n) inside

-- there are few harts
pub few_started : (harts : List Hart) (entry n : ℕ) → harts ≡ started_harts entry n → n ≤ 4 → length harts ≤ 4
few_started harts entry n started few = rw (started, length-started_harts entry n) few

pub opens_so : (k : KernelImage) (new : KernelAlone) → new.harts.items ≡ started_harts k.entry k.harts →
    new.ram.frames.items ≡ with_segments (zero_ram k.frames) k.segments → new.disk ≡ k.disk →
    new.ram.reservations ≡ replicate k.harts None → turns_of new ≡ k.schedule → new.steps ≡ 0 → stood_stage new.stage ≡ model.Between → new.halted ≡ false →
    new.unfit ≡ None → ConsoleCounts new.console [] → StandsForKernel new k.schedule (opened_kernel k)
unfolding started_kernel
opens_so k new harts ram disk marks schedule steps stage halted unfit console = record {
  schedule = schedule;
  state = sym (λ i. record {
    kernel = record { harts = harts i; ram = ram i; disk = disk i; console = []; marks = marks i };
    steps = steps i;
    stage = stage i;
    halted = halted i;
    unfit = unfit i;
  });
  console = console;
}

-- what was put says what the count of faults did
pub counts_of : (told new : Option (List ℕ)) (before now : ℕ) (text : List ℕ) (r : Result Unit Failed) →
    Puts told new before now text r → Counts before now r
counts_of told new before now text (Ok u) puts = puts.1
counts_of told new before now text (Err e) puts = puts.1
