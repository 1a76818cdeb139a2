-- The frame that an access leads to.
use Rattle.std.specs.Prelude.{ℕ, ◌%◌, ◌==◌, ◌&&◌, ◌||◌, Bool, true, false, List, [], Option, Some, None, Ok, Err, slice_get, slice_index_or, if◌then◌else◌}
use Rattle.cloak_base.specs.Constants.{frame_of}
use Rattle.cloak_base.specs.Registers.{register}
use Rattle.cloak_base.specs.declared.names.Kind.{Kind}
use Rattle.cloak_base.specs.declared.names.Kind.TheVariants.{Fetch}
use Rattle.cloak_base.specs.declared.names.Mode.{Mode}
use Rattle.cloak_base.specs.declared.names.Mode.TheVariants.{U, S}
use Rattle.cloak_base.specs.declared.names.PageId.{PageId}
use Rattle.cloak_model.specs.Csr.{interrupt_due, mxr_of, satp_of, sum_of}
use Rattle.cloak_model.specs.Hart.{Hart}
use Rattle.cloak_model.specs.KernelStep.{ticked}
use Rattle.cloak_model.specs.KernelAlone.{KernelAlone, KernelStage, Between, Inside, Left, Outside}
use Rattle.cloak_model.specs.Memory.{is_in_ram, value_in}
use Rattle.cloak_model.specs.Walk.{Walk, walk}
use Rattle.alone_views.specs.declared.asked.AskedAccess.{AskedAccess}
use Rattle.alone_views.specs.declared.asked.AskedAccess.TheVariants as asked
use Rattle.replayed_run.specs.declared.frames.DiskCall.{DiskCall}
use Rattle.replayed_run.specs.declared.frames.PresentedPage.{PresentedPage}
use Rattle.replayed_run.specs.declared.frames.Tables.{Tables}

-- the frame of a physical address, if it is one of RAM
abbrev pub frame_in : List (List ℕ) → ℕ → Option ℕ
frame_in ram pa = if is_in_ram ram pa then Some (frame_of pa) else None

-- the frame to which a walk led
abbrev pub frame_led : List (List ℕ) → Walk → Option ℕ
frame_led ram (Ok walked) = frame_in ram walked.pa
frame_led ram (Err cause) = None

-- the frame that an address of a program leads to, by these page tables
abbrev pub frame_for : List (List ℕ) → Tables → ℕ → Kind → Option ℕ
frame_for ram tables address kind = frame_led ram (walk ram tables.satp (record {
  mode = U;
  sum = tables.sum;
  mxr = tables.mxr;
  va = address;
  kind = kind;
}))

-- The page tables of the hart whose step is open.

abbrev pub tables_of : Hart → Tables
tables_of h = record { satp = satp_of h.csrs; sum = sum_of h.csrs; mxr = mxr_of h.csrs }

abbrev pub tables_by : Option Hart → Option Tables
tables_by None = None
tables_by (Some h) = Some (tables_of h)

abbrev pub tables_at : KernelStage → List Hart → Option Tables
tables_at (Outside hart) harts = tables_by (slice_get harts hart)
tables_at (Inside hart ctx) harts = tables_by (slice_get harts hart)
tables_at Between harts = None
tables_at Left harts = None

abbrev pub tables_in : KernelAlone → Option Tables
tables_in s = tables_at s.stage s.kernel.harts

-- The page of a question, and the frame in which the kernel presents it.

abbrev pub presented_in_frame : PageId → ℕ → Kind → Option ℕ → Option PresentedPage
presented_in_frame q address kind None = None
presented_in_frame q address kind (Some frame) =
    Some (record { page = q; address = address; kind = kind; frame = frame })

abbrev pub presented_under : List (List ℕ) → Option Tables → PageId → ℕ → Kind → Option PresentedPage
presented_under ram None q address kind = None
presented_under ram (Some tables) q address kind = presented_in_frame q address kind (frame_for ram tables address kind)

abbrev pub presented_for : List (List ℕ) → Option Tables → AskedAccess → Option PresentedPage
presented_for ram tables (asked.Page q address kind) = presented_under ram tables q address kind
presented_for ram tables asked.Nothing = None
presented_for ram tables (asked.Uncloaked address) = None

-- in this state of the kernel alone
abbrev pub presented_by : KernelAlone → AskedAccess → Option PresentedPage
presented_by s question = presented_for s.kernel.ram (tables_in s) question

-- The host call on the disk that a hart outside makes in its next step.

-- it makes none, and takes the timer's interrupt
abbrev pub is_interrupted : Hart → Bool
is_interrupted h = interrupt_due (ticked h).mode (ticked h).csrs

-- the frame from which it fetches
abbrev pub frame_fetched : List (List ℕ) → Hart → Option ℕ
frame_fetched ram h = frame_led ram (walk ram (satp_of h.csrs) (record {
  mode = h.mode;
  sum = sum_of h.csrs;
  mxr = mxr_of h.csrs;
  va = h.pc;
  kind = Fetch;
}))

abbrev pub is_supervisor : Mode → Bool
is_supervisor S = true
is_supervisor U = false

-- it is in S mode, at an ECALL, and calls for a block to be read or written
abbrev pub calls_disk : Hart → ℕ → Bool
calls_disk h word = (word == 0x73) && (is_supervisor h.mode && ((register h.regs 17 == 2) || (register h.regs 17 == 3)))

-- the call names this frame
abbrev pub call_for : Hart → Option ℕ → Option DiskCall
call_for h None = None
call_for h (Some frame) =
    Some (record { is_write = register h.regs 17 == 3; block = register h.regs 10; frame = frame })

abbrev pub call_from : List (List ℕ) → Hart → Option ℕ → Option DiskCall
call_from ram h None = None
call_from ram h (Some at) =
    if calls_disk h (value_in (slice_index_or ram at []) (h.pc % 4096) 4)
    then call_for h (frame_in ram (register h.regs 11))
    else None

abbrev pub disk_call : List (List ℕ) → Hart → Option DiskCall
disk_call ram h = if is_interrupted h then None else call_from ram h (frame_fetched ram h)
