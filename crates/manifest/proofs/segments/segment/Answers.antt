use Rattle.std.proofs.Common.{◌≡◌, ℕ, List, Result, Ok, Err}
use Rattle.cloak_model.specs.declared.image.Segment.{Segment}
use Rattle.toml.specs.View.{view}
use Rattle.command_parts.specs.Outside.{files}
use Rattle.manifest.specs.declared.key.Key.TheVariants.{Elf}
use Rattle.manifest.specs.declared.key.ManifestTable.TheVariants as part
use Rattle.manifest.specs.Keys.{stands_at}
use Rattle.manifest.specs.Faults.{Fault, only_keys}
use Rattle.manifest.specs.Images.{segment_keys, SegmentReads, SegmentsBy}
use Rattle.manifest.proofs.ImageParts.{segment_key, segment_read}
use Rattle.manifest.proofs.Kept.{read_nothing, unread}
use Rattle.manifest.proofs.Steps.{answers_more, hands_on}
use Rattle.manifest.proofs.segments.segment.Goals as goal

pub returns-in_err-has_only-clause-read : goal.returns-in_err-has_only-clause-read
returns-in_err-has_only-clause-read g c =
    let held = g.S.Shelf.held c.args.shelf.now in
    let manifest = c.args.manifest.now in
    let from = view c.args.table.now in
    let items = c.args.segments.now.items in
    hands_on (λ (u : Unit {0}). u) (λ (u : Unit {0}). items)
    (λ (r : Result (Unit {0}) Fault). r ≡ only_keys (part.Segment c.args.number) segment_keys from)
    (SegmentReads held manifest c.args.frames c.args.number from items) c.in_err-has_only.field-0.0 c.from_residual.result
    (λ fault only. segment_key held manifest c.args.frames from items c.args.number fault only)
    c.in_err-has_only.ensures.read c.from_residual.ensures.1

pub returns-clause-read : goal.returns-clause-read
returns-clause-read g c =
    let held = g.S.Shelf.held c.args.shelf.now in
    let manifest = c.args.manifest.now in
    let from = view c.args.table.now in
    let items = c.args.segments.now.items in
    let next = c.add_segments.new.segments.items in
    answers_more (λ (u : Unit {0}). next) (λ (u : Unit {0}). next)
    (SegmentsBy held manifest (part.Segment c.args.number) c.args.frames from (stands_at Elf from) items)
    (SegmentReads held manifest c.args.frames c.args.number from items) c.add_segments.result
    (λ fault wrong. segment_read held manifest c.args.frames from items c.args.number (Err fault) _ c.in_ok-has_only.ensures.read wrong)
    (λ u whole. segment_read held manifest c.args.frames from items c.args.number (Ok next) _ c.in_ok-has_only.ensures.read whole)
    c.add_segments.ensures.read

pub returns-in_err-has_only-clause-reads : goal.returns-in_err-has_only-clause-reads
returns-in_err-has_only-clause-reads g c =
    let state = files g.S.Shelf c.args.shelf.now in
    unread state state c.in_err-has_only.field-0.0 c.from_residual.result (read_nothing state) c.in_err-has_only.ensures.no_read
    c.from_residual.ensures.1
