use Rattle.std.proofs.Common.{◌≡◌, ◌<◌, ◌≤◌, ◌∙◌, ℕ, List, Option, Result, Ok, Err, Vec, length, subst, sym, ap, arith}
use Rattle.std.specs.declared.alloc.Global.{Global}
use Rattle.cloak_base.specs.Constants.{largest_bundle}
use Rattle.cloak_model.specs.declared.image.Bundle.{Bundle}
use Rattle.cloak_model.specs.declared.image.KernelImage.{KernelImage}
use Rattle.cloak_model.specs.declared.image.Program.{Program}
use Rattle.cloak_model.specs.Bundle.{bundle_bytes}
use Rattle.guest_bundle.proofs.Lengths.{first_shortest}
use Rattle.toml.specs.View.{view, items_view}
use Rattle.manifest.specs.declared.key.ManifestTable.TheVariants.{Image}
use Rattle.manifest.specs.declared.fault.FaultyKey.{FaultyKey}
use Rattle.manifest.specs.Faults.{Fault, ReturnsRead, at_key, by_keys, only_keys}
use Rattle.manifest.specs.Images.{image_keys, KernelReads, ProgramsRead, ImageReads}
use Rattle.command_parts.specs.Outside.{files}
use Rattle.manifest.proofs.Fitting.{fits, fits_not, is_fitting, not_fitting}
use Rattle.manifest.proofs.Kept.{same_held, read_nothing, unread}
use Rattle.manifest.proofs.Steps.{hands_on, key_fails, key_wrong}
use Rattle.manifest.proofs.Images.{image_key, image_kernel, image_list, image_programs, image_whole}
use Rattle.manifest.proofs.image.bundle_of.Goals as goal

pub returns-in_err-has_only-clause-read : goal.returns-in_err-has_only-clause-read
returns-in_err-has_only-clause-read g c =
    let held = g.S.Shelf.held c.args.shelf.now in
    let manifest = c.args.manifest.now in
    let document = view c.args.document.now in
    hands_on (λ (u : Unit {0}). u) (λ (b : Bundle). b)
    (λ (r : Result (Unit {0}) Fault). r ≡ only_keys Image image_keys document) (ImageReads held manifest document)
    c.in_err-has_only.field-0.0 c.from_residual.result (λ fault only. image_key held manifest document fault only)
    c.in_err-has_only.ensures.read c.from_residual.ensures.1

pub returns-in_err-kernel-clause-read : goal.returns-in_err-kernel-clause-read
returns-in_err-kernel-clause-read g c =
    let held = g.S.Shelf.held c.args.shelf.now in
    let manifest = c.args.manifest.now in
    let document = view c.args.document.now in
    hands_on (λ (k : KernelImage). k) (λ (b : Bundle). b) (KernelReads held manifest document)
    (ImageReads held manifest document) c.in_err-kernel.field-0.0 c.from_residual-in_err-kernel.result
    (λ fault wrong. image_kernel held manifest document _ c.in_ok-has_only.ensures.read fault wrong)
    c.in_err-kernel.ensures.read c.from_residual-in_err-kernel.ensures.1

pub returns-in_err-tables-clause-read : goal.returns-in_err-tables-clause-read
returns-in_err-tables-clause-read g c =
    let held = g.S.Shelf.held c.args.shelf.now in
    let manifest = c.args.manifest.now in
    let document = view c.args.document.now in
    key_fails (λ (b : Bundle). b) (ImageReads held manifest document) c.in_err-tables.field-0.0
    c.from_residual-in_err-tables.result
    (image_list held manifest document _ c.in_ok-has_only.ensures.read c.in_ok-kernel.kernel c.in_ok-kernel.ensures.read
    c.in_err-tables.field-0.0 c.in_err-tables.ensures.list)
    c.from_residual-in_err-tables.ensures.1

pub returns-in_err-programs-clause-read : goal.returns-in_err-programs-clause-read
returns-in_err-programs-clause-read g c =
    let held = g.S.Shelf.held c.args.shelf.now in
    let manifest = c.args.manifest.now in
    let document = view c.args.document.now in
    let tables = items_view c.in_ok-tables.tables.now in
    let frames = c.in_ok-kernel.kernel.frames in
    let here = subst (λ (h : List ℕ → Option (List ℕ)). ReturnsRead {X = Vec Program Global} (λ v. v.items)
    (ProgramsRead h manifest frames tables) (Err c.in_err-programs.field-0.0))
    (same_held held (g.S.Shelf.held c.kernel.new.shelf) c.in_ok-kernel.ensures.reads.held) c.in_err-programs.ensures.read in
    hands_on (λ (v : Vec Program Global). v.items) (λ (b : Bundle). b) (ProgramsRead held manifest frames tables)
    (ImageReads held manifest document) c.in_err-programs.field-0.0 c.from_residual-in_err-programs.result
    (λ fault wrong. image_programs held manifest document _ c.in_ok-has_only.ensures.read c.in_ok-kernel.kernel
    c.in_ok-kernel.ensures.read tables c.in_ok-tables.ensures.list fault wrong)
    here c.from_residual-in_err-programs.ensures.1

pub returns-then-is_none-clause-read : goal.returns-then-is_none-clause-read
returns-then-is_none-clause-read g c =
    let held = g.S.Shelf.held c.args.shelf.now in
    let manifest = c.args.manifest.now in
    let document = view c.args.document.now in
    let tables = items_view c.in_ok-tables.tables.now in
    let frames = c.in_ok-kernel.kernel.frames in
    let b : Bundle = record { kernel = c.in_ok-kernel.kernel; programs = c.in_ok-programs.programs.items } in
    let here = subst (λ (h : List ℕ → Option (List ℕ)). ProgramsRead h manifest frames tables (Ok c.in_ok-programs.programs.items))
    (same_held held (g.S.Shelf.held c.kernel.new.shelf) c.in_ok-kernel.ensures.reads.held) c.in_ok-programs.ensures.read in
    let larger = subst
    (λ (ps : List Program). largest_bundle < length (bundle_bytes 2 (record { kernel = c.in_ok-kernel.kernel; programs = ps })))
    c.new.ensures (fits_not _ _ largest_bundle _ c.room_behind.ensures c.is_none.ensures c.if-is_none.true) in
    let large = not_fitting b larger in
    key_wrong (λ (b : Bundle). b) (ImageReads held manifest document) c.fault.result c.from.result
    (image_whole held manifest document _ c.in_ok-has_only.ensures.read c.in_ok-kernel.kernel c.in_ok-kernel.ensures.read tables
    c.in_ok-tables.ensures.list c.in_ok-programs.programs.items _ here
    (ap (λ (f : FaultyKey). Err (at_key f)) c.fault.ensures ∙ sym (ap by_keys large)))
    c.from.ensures

pub returns-clause-fits : goal.returns-clause-fits
returns-clause-fits g c = fits _ _ largest_bundle _ c.room_behind.ensures c.is_none.ensures c.if-is_none.false

pub returns-clause-read : goal.returns-clause-read
returns-clause-read g c =
    let held = g.S.Shelf.held c.args.shelf.now in
    let manifest = c.args.manifest.now in
    let tables = items_view c.in_ok-tables.tables.now in
    let frames = c.in_ok-kernel.kernel.frames in
    let b : Bundle = record { kernel = c.in_ok-kernel.kernel; programs = c.in_ok-programs.programs.items } in
    let here = subst (λ (h : List ℕ → Option (List ℕ)). ProgramsRead h manifest frames tables (Ok c.in_ok-programs.programs.items))
    (same_held held (g.S.Shelf.held c.kernel.new.shelf) c.in_ok-kernel.ensures.reads.held) c.in_ok-programs.ensures.read in
    let smaller = subst
    (λ (ps : List Program). length (bundle_bytes 2 (record { kernel = c.in_ok-kernel.kernel; programs = ps })) ≤ largest_bundle)
    c.new.ensures (fits _ _ largest_bundle _ c.room_behind.ensures c.is_none.ensures c.if-is_none.false) in
    let small = is_fitting b smaller in
    rw c.new.ensures (image_whole held manifest (view c.args.document.now) _ c.in_ok-has_only.ensures.read c.in_ok-kernel.kernel
    c.in_ok-kernel.ensures.read tables c.in_ok-tables.ensures.list c.in_ok-programs.programs.items _ here
    (sym (ap by_keys small)))

pub returns-clause-in_grammar : goal.returns-clause-in_grammar
returns-clause-in_grammar g c =
    let b : Bundle = record { kernel = c.in_ok-kernel.kernel; programs = c.new.result } in
    let few : length (bundle_bytes 2 b) ≤ largest_bundle = returns-clause-fits g c in
    let fewer = first_shortest 2 b in
    record {
      kernel = c.in_ok-kernel.ensures.in_image;
      few_programs = rw c.new.ensures (omega (arith, c.in_ok-programs.ensures.count, c.in_ok-tables.ensures.short));
      programs = rw c.new.ensures c.in_ok-programs.ensures.in_image;
      not_too_large = omega (arith, few, fewer);
    }

pub returns-in_err-has_only-clause-reads : goal.returns-in_err-has_only-clause-reads
returns-in_err-has_only-clause-reads g c =
    let state = files g.S.Shelf c.args.shelf.now in
    unread state state c.in_err-has_only.field-0.0 c.from_residual.result (read_nothing state) c.in_err-has_only.ensures.no_read
    c.from_residual.ensures.1
