use Rattle.std.proofs.Common.{◌≡◌, ℕ, List, Option, Result, Ok, Err, Vec, subst}
use Rattle.std.specs.declared.alloc.Global.{Global}
use Rattle.cloak_model.specs.declared.image.Segment.{Segment}
use Rattle.cloak_model.specs.declared.image.KernelImage.{KernelImage}
use Rattle.toml.specs.View.{view, items_view}
use Rattle.manifest.specs.declared.key.Key.TheVariants as keys
use Rattle.manifest.specs.declared.key.ManifestTable.TheVariants.{Image}
use Rattle.manifest.specs.Keys.{stands_at}
use Rattle.manifest.specs.Parts.{schedule_at}
use Rattle.manifest.specs.Faults.{Fault, ReturnsRead, by_keys}
use Rattle.manifest.specs.Images.{SegmentsRead, DiskReads, KernelReads}
use Rattle.command_parts.specs.Outside.{files}
use Rattle.manifest.proofs.Kept.{same_held, read_nothing, unread}
use Rattle.manifest.proofs.Steps.{hands_on, key_fails}
use Rattle.manifest.proofs.Images.{kernel_frames, kernel_harts, kernel_schedule, kernel_entry, kernel_list, kernel_segments, kernel_disk, kernel_whole}
use Rattle.manifest.proofs.kernel.kernel.Goals as goal

pub returns-in_err-frames-clause-read : goal.returns-in_err-frames-clause-read
returns-in_err-frames-clause-read g c =
    let held = g.S.Shelf.held c.args.shelf.now in
    let manifest = c.args.manifest.now in
    let document = view c.args.document.now in
    key_fails (λ (k : KernelImage). k) (KernelReads held manifest document) c.in_err-frames.field-0.0 c.from_residual.result
    (kernel_frames held manifest document c.in_err-frames.field-0.0 c.in_err-frames.ensures.read) c.from_residual.ensures.1

pub returns-in_err-harts-clause-read : goal.returns-in_err-harts-clause-read
returns-in_err-harts-clause-read g c =
    let held = g.S.Shelf.held c.args.shelf.now in
    let manifest = c.args.manifest.now in
    let document = view c.args.document.now in
    key_fails (λ (k : KernelImage). k) (KernelReads held manifest document) c.in_err-harts.field-0.0
    c.from_residual-in_err-harts.result
    (kernel_harts held manifest document c.in_ok-frames.frames c.in_ok-frames.ensures.read c.in_err-harts.field-0.0
    c.in_err-harts.ensures.read)
    c.from_residual-in_err-harts.ensures.1

pub returns-in_err-schedule-clause-read : goal.returns-in_err-schedule-clause-read
returns-in_err-schedule-clause-read g c =
    let held = g.S.Shelf.held c.args.shelf.now in
    let manifest = c.args.manifest.now in
    let document = view c.args.document.now in
    let harts = c.in_ok-harts.harts in
    hands_on (λ (v : Vec ℕ Global). v.items) (λ (k : KernelImage). k)
    (λ (r : Result (List ℕ) Fault). r ≡ by_keys (schedule_at Image document harts)) (KernelReads held manifest document)
    c.in_err-schedule.field-0.0 c.from_residual-in_err-schedule.result
    (λ fault wrong. kernel_schedule held manifest document c.in_ok-frames.frames c.in_ok-frames.ensures.read harts
    c.in_ok-harts.ensures.read fault wrong)
    c.in_err-schedule.ensures.read c.from_residual-in_err-schedule.ensures.1

pub returns-in_err-entry-clause-read : goal.returns-in_err-entry-clause-read
returns-in_err-entry-clause-read g c =
    let held = g.S.Shelf.held c.args.shelf.now in
    let manifest = c.args.manifest.now in
    let document = view c.args.document.now in
    key_fails (λ (k : KernelImage). k) (KernelReads held manifest document) c.in_err-entry.field-0.0
    c.from_residual-in_err-entry.result
    (kernel_entry held manifest document c.in_ok-frames.frames c.in_ok-frames.ensures.read c.in_ok-harts.harts
    c.in_ok-harts.ensures.read c.in_ok-schedule.schedule.items c.in_ok-schedule.ensures.read c.in_err-entry.field-0.0
    c.in_err-entry.ensures.read)
    c.from_residual-in_err-entry.ensures.1

pub returns-in_err-tables-clause-read : goal.returns-in_err-tables-clause-read
returns-in_err-tables-clause-read g c =
    let held = g.S.Shelf.held c.args.shelf.now in
    let manifest = c.args.manifest.now in
    let document = view c.args.document.now in
    key_fails (λ (k : KernelImage). k) (KernelReads held manifest document) c.in_err-tables.field-0.0
    c.from_residual-in_err-tables.result
    (kernel_list held manifest document c.in_ok-frames.frames c.in_ok-frames.ensures.read c.in_ok-harts.harts
    c.in_ok-harts.ensures.read c.in_ok-schedule.schedule.items c.in_ok-schedule.ensures.read c.in_ok-entry.entry
    c.in_ok-entry.ensures.read c.in_err-tables.field-0.0 c.in_err-tables.ensures.list)
    c.from_residual-in_err-tables.ensures.1

pub returns-in_err-segments-clause-read : goal.returns-in_err-segments-clause-read
returns-in_err-segments-clause-read g c =
    let held = g.S.Shelf.held c.args.shelf.now in
    let manifest = c.args.manifest.now in
    let document = view c.args.document.now in
    let tables = items_view c.in_ok-tables.tables.now in
    hands_on (λ (v : Vec Segment Global). v.items) (λ (k : KernelImage). k)
    (SegmentsRead held manifest c.in_ok-frames.frames tables) (KernelReads held manifest document)
    c.in_err-segments.field-0.0 c.from_residual-in_err-segments.result
    (λ fault wrong. kernel_segments held manifest document c.in_ok-frames.frames c.in_ok-frames.ensures.read
    c.in_ok-harts.harts c.in_ok-harts.ensures.read c.in_ok-schedule.schedule.items c.in_ok-schedule.ensures.read
    c.in_ok-entry.entry c.in_ok-entry.ensures.read tables c.in_ok-tables.ensures.list fault wrong)
    c.in_err-segments.ensures.read c.from_residual-in_err-segments.ensures.1

pub returns-in_err-disk-clause-read : goal.returns-in_err-disk-clause-read
returns-in_err-disk-clause-read g c =
    let held = g.S.Shelf.held c.args.shelf.now in
    let manifest = c.args.manifest.now in
    let document = view c.args.document.now in
    let tables = items_view c.in_ok-tables.tables.now in
    let stands = stands_at keys.Disk document in
    let here = subst (λ (h : List ℕ → Option (List ℕ)). ReturnsRead {X = Vec ℕ Global} (λ v. v.items) (DiskReads h manifest stands)
    (Err c.in_err-disk.field-0.0))
    (same_held held (g.S.Shelf.held c.segments.new.shelf) c.in_ok-segments.ensures.reads.held) c.in_err-disk.ensures.read in
    hands_on (λ (v : Vec ℕ Global). v.items) (λ (k : KernelImage). k) (DiskReads held manifest stands)
    (KernelReads held manifest document) c.in_err-disk.field-0.0 c.from_residual-in_err-disk.result
    (λ fault wrong. kernel_disk held manifest document c.in_ok-frames.frames c.in_ok-frames.ensures.read
    c.in_ok-harts.harts c.in_ok-harts.ensures.read c.in_ok-schedule.schedule.items c.in_ok-schedule.ensures.read
    c.in_ok-entry.entry c.in_ok-entry.ensures.read tables c.in_ok-tables.ensures.list c.in_ok-segments.segments.items
    c.in_ok-segments.ensures.read fault wrong)
    here c.from_residual-in_err-disk.ensures.1

pub returns-clause-read : goal.returns-clause-read
returns-clause-read g c =
    let held = g.S.Shelf.held c.args.shelf.now in
    let manifest = c.args.manifest.now in
    let document = view c.args.document.now in
    let tables = items_view c.in_ok-tables.tables.now in
    let here = subst (λ (h : List ℕ → Option (List ℕ)). DiskReads h manifest (stands_at keys.Disk document)
    (Ok c.in_ok-disk.disk.items))
    (same_held held (g.S.Shelf.held c.segments.new.shelf) c.in_ok-segments.ensures.reads.held) c.in_ok-disk.ensures.read in
    rw (c.new.ensures, c.new-2.ensures, c.new-3.ensures)
    (kernel_whole held manifest document c.in_ok-frames.frames c.in_ok-frames.ensures.read c.in_ok-harts.harts
    c.in_ok-harts.ensures.read c.in_ok-schedule.schedule.items c.in_ok-schedule.ensures.read c.in_ok-entry.entry
    c.in_ok-entry.ensures.read tables c.in_ok-tables.ensures.list c.in_ok-segments.segments.items
    c.in_ok-segments.ensures.read c.in_ok-disk.disk.items here)

pub returns-in_err-schedule-clause-reads : goal.returns-in_err-schedule-clause-reads
returns-in_err-schedule-clause-reads g c =
    let state = files g.S.Shelf c.args.shelf.now in
    unread state state c.in_err-schedule.field-0.0 c.from_residual-in_err-schedule.result (read_nothing state)
    c.in_err-schedule.ensures.no_read c.from_residual-in_err-schedule.ensures.1
