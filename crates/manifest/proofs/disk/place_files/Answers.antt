use Rattle.std.proofs.Common.{◌≡◌, ◌+◌, ℕ, List, Option, Result, Ok, Err, subst, arith}
use Rattle.toml.specs.View.{view, items_view}
use Rattle.command_parts.specs.Outside.{files}
use Rattle.manifest.specs.Faults.{ReturnsRead}
use Rattle.manifest.specs.Sources.{InTurn}
use Rattle.manifest.specs.Images.{FileReads}
use Rattle.manifest.proofs.Kept.{same_held, read_more, handed_on}
use Rattle.manifest.proofs.Steps.{hands_on}
use Rattle.manifest.proofs.Turns.{goes_on, ends_wrong, is_over}
use Rattle.manifest.proofs.disk.place_files.Goals as goal

pub loop-index-preserved : goal.loop-index-preserved
loop-index-preserved g c =
    let held = g.S.Shelf.held in
    let state = files g.S.Shelf in
    let first = c.args.shelf.now in
    let manifest = c.args.manifest.now in
    let i = c.loop-index.index in
    let from = c.index-tables-index.result in
    let so_far = c.loop-index.invariant in
    let next = c.disk_file.new.disk in
    let here = subst (λ (h : List ℕ → Option (List ℕ)). FileReads h manifest (i + 1) (view from) c.loop-index.disk (Ok next))
    (same_held (held first) (held c.loop-index.shelf) so_far.only.held) c.in_ok-disk_file.ensures.read in
    record {
      read = λ r rest. so_far.read r (goes_on (FileReads (held first) manifest) c.args.tables.now i from c.loop-index.disk next r
          c.loop-index-test.true c.index-tables-index.is here rest);
      small = omega (arith, so_far.small);
      only = read_more (state first) (state c.loop-index.shelf) (state c.disk_file.new.shelf) so_far.only
          c.in_ok-disk_file.ensures.reads;
      settled = c.in_ok-disk_file.ensures.settled;
    }

pub returns-in_err-disk_file-clause-read : goal.returns-in_err-disk_file-clause-read
returns-in_err-disk_file-clause-read g c =
    let held = g.S.Shelf.held in
    let first = c.args.shelf.now in
    let manifest = c.args.manifest.now in
    let tables = c.args.tables.now in
    let i = c.loop-index.index in
    let from = c.index-tables-index.result in
    let so_far = c.loop-index.invariant in
    let next = c.disk_file.new.disk in
    let here = subst (λ (h : List ℕ → Option (List ℕ)). ReturnsRead {X = Unit {0}} (λ u. next) (FileReads h manifest (i + 1) (view from) c.loop-index.disk)
    (Err c.in_err-disk_file.field-0.0))
    (same_held (held first) (held c.loop-index.shelf) so_far.only.held) c.in_err-disk_file.ensures.read in
    hands_on (λ (u : Unit {0}). next) (λ (u : Unit {0}). next) (FileReads (held first) manifest (i + 1) (view from) c.loop-index.disk)
    (InTurn (FileReads (held first) manifest) 1 (items_view tables) c.args.disk.now) c.in_err-disk_file.field-0.0
    c.from_residual.result
    (λ fault wrong. so_far.read (Err fault) (ends_wrong (FileReads (held first) manifest) tables i from c.loop-index.disk fault
    c.loop-index-test.true c.index-tables-index.is wrong))
    here c.from_residual.ensures.1

pub returns-clause-read : goal.returns-clause-read
returns-clause-read g c =
    c.loop-index.invariant.read (Ok c.loop-index.disk)
    (is_over (FileReads (g.S.Shelf.held c.args.shelf.now) c.args.manifest.now) (c.loop-index.index + 1) c.args.tables.now
    c.loop-index.index c.loop-index.disk c.loop-index-test.false)

pub returns-clause-reads : goal.returns-clause-reads
returns-clause-reads g c = c.loop-index.invariant.only

pub returns-clause-settled : goal.returns-clause-settled
returns-clause-settled g c = c.loop-index.invariant.settled

pub returns-in_err-disk_file-clause-reads : goal.returns-in_err-disk_file-clause-reads
returns-in_err-disk_file-clause-reads g c =
    let state = files g.S.Shelf in
    handed_on (Unit {0}) (state c.args.shelf.now) (state c.loop-index.shelf) (state c.disk_file.new.shelf)
    c.in_err-disk_file.field-0.0 c.from_residual.result c.loop-index.invariant.only c.in_err-disk_file.ensures.reads
    c.from_residual.ensures.1
