use Rattle.std.proofs.Common.{◌≡◌, ◌+◌, ◌++◌, ◌∷◌, [], ℕ, List, Option, Result, Ok, Err, Vec, refl, subst, sym, length-append, arith}
use Rattle.std.specs.declared.alloc.Global.{Global}
use Rattle.std.proofs.lemmas.List.Elements.{All-push}
use Rattle.toml.specs.View.{view, items_view}
use Rattle.command_parts.specs.Outside.{files}
use Rattle.cloak_model.specs.declared.image.Program.{Program}
use Rattle.cloak_model.specs.Bundle.{IsProgramIn}
use Rattle.manifest.specs.Faults.{ReturnsRead}
use Rattle.manifest.specs.Sources.{Listing}
use Rattle.manifest.specs.Images.{ProgramReads, ProgramsRead}
use Rattle.manifest.proofs.Kept.{same_held, read_more, handed_on, only_lacks}
use Rattle.manifest.proofs.Steps.{hands_on}
use Rattle.manifest.proofs.Turns.{goes_on, ends_wrong, is_over}
use Rattle.manifest.proofs.programs.programs.Goals as goal

pub loop-index-preserved : goal.loop-index-preserved
loop-index-preserved g c =
    let held = g.S.Shelf.held in
    let state = files g.S.Shelf in
    let first = c.args.shelf.now in
    let manifest = c.args.manifest.now in
    let frames = c.args.frames in
    let tables = c.args.tables.now in
    let i = c.loop-index.index in
    let from = c.index-tables-index.result in
    let so_far = c.loop-index.invariant in
    let items = c.loop-index.programs.items in
    let last = c.in_ok-program.program in
    let here = subst (λ (h : List ℕ → Option (List ℕ)). ProgramReads h manifest frames (i + 1) (view from) (Ok last))
    (same_held (held first) (held c.loop-index.shelf) so_far.only.held) c.in_ok-program.ensures.read in
    let pushed = c.in_ok-push.ensures.items in
    record {
      read = λ r rest. so_far.read r (goes_on (Listing (ProgramReads (held first) manifest frames)) tables i from items (items ++ last ∷ []) r
          c.loop-index-test.true c.index-tables-index.is (Ok last, here, refl) (rw pushed at rest));
      count = rw pushed (simp length-append (omega (arith, so_far.count)));
      in_image = rw pushed (All-push (IsProgramIn frames) items last so_far.in_image c.in_ok-program.ensures.in_image);
      only = read_more (state first) (state c.loop-index.shelf) (state c.program.new.shelf) so_far.only c.in_ok-program.ensures.reads;
      settled = c.in_ok-program.ensures.settled;
    }

pub returns-in_err-program-clause-read : goal.returns-in_err-program-clause-read
unfolding ProgramsRead
returns-in_err-program-clause-read g c =
    let held = g.S.Shelf.held in
    let first = c.args.shelf.now in
    let manifest = c.args.manifest.now in
    let frames = c.args.frames in
    let tables = c.args.tables.now in
    let i = c.loop-index.index in
    let from = c.index-tables-index.result in
    let so_far = c.loop-index.invariant in
    let here = subst (λ (h : List ℕ → Option (List ℕ)). ReturnsRead {X = Program} (λ x. x) (ProgramReads h manifest frames (i + 1) (view from))
    (Err c.in_err-program.field-0.0))
    (same_held (held first) (held c.loop-index.shelf) so_far.only.held) c.in_err-program.ensures.read in
    hands_on (λ (x : Program). x) (λ (v : Vec Program Global). v.items) (ProgramReads (held first) manifest frames (i + 1) (view from))
    (ProgramsRead (held first) manifest frames (items_view tables)) c.in_err-program.field-0.0 c.from_residual.result
    (λ fault wrong. so_far.read (Err fault) (ends_wrong (Listing (ProgramReads (held first) manifest frames)) tables i from
    c.loop-index.programs.items fault c.loop-index-test.true c.index-tables-index.is (Err fault, wrong, refl)))
    here c.from_residual.ensures.1

pub returns-clause-read : goal.returns-clause-read
unfolding ProgramsRead
returns-clause-read g c =
    c.loop-index.invariant.read (Ok c.loop-index.programs.items)
    (is_over (Listing (ProgramReads (g.S.Shelf.held c.args.shelf.now) c.args.manifest.now c.args.frames)) (c.loop-index.index + 1)
    c.args.tables.now c.loop-index.index c.loop-index.programs.items c.loop-index-test.false)

pub returns-clause-count : goal.returns-clause-count
returns-clause-count g c =
    omega (arith, c.loop-index.invariant.count, c.loop-index-test.false, c.loop-index.auto.index-end)

pub returns-clause-in_image : goal.returns-clause-in_image
returns-clause-in_image g c = c.loop-index.invariant.in_image

pub returns-clause-reads : goal.returns-clause-reads
returns-clause-reads g c = c.loop-index.invariant.only

pub returns-clause-settled : goal.returns-clause-settled
returns-clause-settled g c = c.loop-index.invariant.settled

pub returns-in_err-program-clause-reads : goal.returns-in_err-program-clause-reads
returns-in_err-program-clause-reads g c =
    let state = files g.S.Shelf in
    handed_on Program (state c.args.shelf.now) (state c.loop-index.shelf) (state c.program.new.shelf) c.in_err-program.field-0.0
    c.from_residual.result c.loop-index.invariant.only c.in_err-program.ensures.reads c.from_residual.ensures.1

pub returns-in_err-push-clause-reads : goal.returns-in_err-push-clause-reads
returns-in_err-push-clause-reads g c =
    let state = files g.S.Shelf in
    only_lacks (state c.args.shelf.now) (state c.program.new.shelf) c.from_residual-in_err-push.result
    (read_more (state c.args.shelf.now) (state c.loop-index.shelf) (state c.program.new.shelf) c.loop-index.invariant.only
    c.in_ok-program.ensures.reads) c.from_residual-in_err-push.ensures.1
