use Rattle.std.proofs.Common.{◌≡◌, ◌+◌, ℕ, List, Option, Result, Ok, Err, Vec, subst}
use Rattle.std.specs.declared.alloc.Global.{Global}
use Rattle.toml.specs.View.{view, items_view}
use Rattle.command_parts.specs.Outside.{files}
use Rattle.cloak_model.specs.declared.image.Segment.{Segment}
use Rattle.manifest.specs.Faults.{ReturnsRead}
use Rattle.manifest.specs.Images.{SegmentReads, SegmentsRead}
use Rattle.manifest.proofs.Kept.{same_held, read_more, handed_on}
use Rattle.manifest.proofs.Steps.{hands_on}
use Rattle.manifest.proofs.Turns.{goes_on, ends_wrong, is_over}
use Rattle.manifest.proofs.segments.segments.Goals as goal

pub loop-index-preserved : goal.loop-index-preserved
loop-index-preserved g c =
    let held = g.S.Shelf.held in
    let state = files g.S.Shelf in
    let first = c.args.shelf.now in
    let manifest = c.args.manifest.now in
    let frames = c.args.frames in
    let i = c.loop-index.index in
    let from = c.index-tables-index.result in
    let so_far = c.loop-index.invariant in
    let items = c.loop-index.segments.items in
    let next = c.segment.new.segments.items in
    let here = subst (λ (h : List ℕ → Option (List ℕ)). SegmentReads h manifest frames (i + 1) (view from) items (Ok next))
    (same_held (held first) (held c.loop-index.shelf) so_far.only.held) c.in_ok-segment.ensures.read in
    record {
      read = λ r rest. so_far.read r (goes_on (SegmentReads (held first) manifest frames) c.args.tables.now i from items next r
          c.loop-index-test.true c.index-tables-index.is here rest);
      few = c.in_ok-segment.ensures.few;
      in_ram = c.in_ok-segment.ensures.in_ram;
      only = read_more (state first) (state c.loop-index.shelf) (state c.segment.new.shelf) so_far.only c.in_ok-segment.ensures.reads;
      settled = c.in_ok-segment.ensures.settled;
    }

pub returns-in_err-segment-clause-read : goal.returns-in_err-segment-clause-read
unfolding SegmentsRead
returns-in_err-segment-clause-read g c =
    let held = g.S.Shelf.held in
    let first = c.args.shelf.now in
    let manifest = c.args.manifest.now in
    let frames = c.args.frames in
    let tables = c.args.tables.now in
    let i = c.loop-index.index in
    let from = c.index-tables-index.result in
    let so_far = c.loop-index.invariant in
    let items = c.loop-index.segments.items in
    let next = c.segment.new.segments.items in
    let here = subst (λ (h : List ℕ → Option (List ℕ)). ReturnsRead {X = Unit {0}} (λ u. next)
    (SegmentReads h manifest frames (i + 1) (view from) items) (Err c.in_err-segment.field-0.0))
    (same_held (held first) (held c.loop-index.shelf) so_far.only.held) c.in_err-segment.ensures.read in
    hands_on (λ (u : Unit {0}). next) (λ (v : Vec Segment Global). v.items)
    (SegmentReads (held first) manifest frames (i + 1) (view from) items)
    (SegmentsRead (held first) manifest frames (items_view tables)) c.in_err-segment.field-0.0 c.from_residual.result
    (λ fault wrong. so_far.read (Err fault) (ends_wrong (SegmentReads (held first) manifest frames) tables i from
    items fault c.loop-index-test.true c.index-tables-index.is wrong))
    here c.from_residual.ensures.1

pub returns-clause-read : goal.returns-clause-read
unfolding SegmentsRead
returns-clause-read g c =
    c.loop-index.invariant.read (Ok c.loop-index.segments.items)
    (is_over (SegmentReads (g.S.Shelf.held c.args.shelf.now) c.args.manifest.now c.args.frames) (c.loop-index.index + 1)
    c.args.tables.now c.loop-index.index c.loop-index.segments.items c.loop-index-test.false)

pub returns-clause-few : goal.returns-clause-few
returns-clause-few g c = c.loop-index.invariant.few

pub returns-clause-in_ram : goal.returns-clause-in_ram
returns-clause-in_ram g c = c.loop-index.invariant.in_ram

pub returns-clause-reads : goal.returns-clause-reads
returns-clause-reads g c = c.loop-index.invariant.only

pub returns-clause-settled : goal.returns-clause-settled
returns-clause-settled g c = c.loop-index.invariant.settled

pub returns-in_err-segment-clause-reads : goal.returns-in_err-segment-clause-reads
returns-in_err-segment-clause-reads g c =
    let state = files g.S.Shelf in
    handed_on (Unit {0}) (state c.args.shelf.now) (state c.loop-index.shelf) (state c.segment.new.shelf)
    c.in_err-segment.field-0.0 c.from_residual.result c.loop-index.invariant.only c.in_err-segment.ensures.reads
    c.from_residual.ensures.1
