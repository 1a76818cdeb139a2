use Rattle.std.proofs.Common.{ℕ, Vec, ◌≡◌, Option, Some, None, Ok, Err, ap}
use Rattle.std.specs.declared.alloc.Global.{Global}
use Rattle.toml.specs.View.{view}
use Rattle.manifest.specs.Sources.{SourceReads, AtPath, IsFileAt, NamedReads, TextReads}
use Rattle.manifest.specs.declared.key.Key.TheVariants.{Bytes, Text}
use Rattle.manifest.specs.declared.fault.FaultyKey.{FaultyKey}
use Rattle.manifest.specs.Fields.{name_at}
use Rattle.manifest.specs.Faults.{at_key, Then}
use Rattle.manifest.proofs.Steps.{key_fails, answers_more, key_wrong}
use Rattle.manifest.proofs.Tables.{wrong_flat, wrong_written, named_source}
use Rattle.manifest.proofs.sources.source.Goals as goal

pub returns-in_err-flat-clause-source : goal.returns-in_err-flat-clause-source
returns-in_err-flat-clause-source g c =
    let held = g.S.Shelf.held c.args.shelf.now in
    let at = c.args.place.part in
    let from = view c.args.place.table.now in
    key_fails (λ (v : Vec ℕ Global). v.items) (SourceReads held c.args.manifest.now at from) c.in_err-flat.field-0.0
    c.from_residual.result (wrong_flat held c.args.manifest.now at from c.in_err-flat.field-0.0 c.in_err-flat.ensures)
    c.from_residual.ensures.1

pub returns-in_err-written-clause-source : goal.returns-in_err-written-clause-source
returns-in_err-written-clause-source g c =
    let held = g.S.Shelf.held c.args.shelf.now in
    let at = c.args.place.part in
    let from = view c.args.place.table.now in
    key_fails (λ (v : Vec ℕ Global). v.items) (SourceReads held c.args.manifest.now at from) c.in_err-written.field-0.0
    c.from_residual-in_err-written.result
    (wrong_written held c.args.manifest.now at from _ c.in_err-written.field-0.0 c.in_ok-flat.ensures c.in_err-written.ensures)
    c.from_residual-in_err-written.ensures.1

pub returns-in-Some-None-clause-source : goal.returns-in-Some-None-clause-source
unfolding NamedReads
returns-in-Some-None-clause-source g c =
    let held = g.S.Shelf.held c.args.shelf.now in
    let manifest = c.args.manifest.now in
    let at = c.args.place.part in
    let from = view c.args.place.table.now in
    let name = c.in-Some-None.name.now in
    let flat : name_at at from Bytes ≡ Ok (Some name) = rw c.in-Some-None.is-0 at c.in_ok-flat.ensures in
    let written : name_at at from Text ≡ Ok None = rw c.in-Some-None.is-1 at c.in_ok-written.ensures in
    answers_more (λ (v : Vec ℕ Global). v.items) (λ (v : Vec ℕ Global). v.items)
    (AtPath manifest name (λ path. IsFileAt at Bytes (held path))) (SourceReads held manifest at from) c.flat_source.result
    (λ fault wrong. named_source held manifest at from (Some name) None (Err fault) flat written wrong)
    (λ v whole. named_source held manifest at from (Some name) None (Ok v.items) flat written whole)
    c.flat_source.ensures.source

pub returns-in-None-Some-clause-source : goal.returns-in-None-Some-clause-source
unfolding NamedReads
returns-in-None-Some-clause-source g c =
    let held = g.S.Shelf.held c.args.shelf.now in
    let manifest = c.args.manifest.now in
    let at = c.args.place.part in
    let from = view c.args.place.table.now in
    let name = c.in-None-Some.name.now in
    let flat : name_at at from Bytes ≡ Ok None = rw c.in-None-Some.is-0 at c.in_ok-flat.ensures in
    let written : name_at at from Text ≡ Ok (Some name) = rw c.in-None-Some.is-1 at c.in_ok-written.ensures in
    answers_more (λ (v : Vec ℕ Global). v.items) (λ (v : Vec ℕ Global). v.items)
    (AtPath manifest name (λ path. Then (IsFileAt at Text (held path)) (TextReads at path))) (SourceReads held manifest at from)
    c.text_source.result
    (λ fault wrong. named_source held manifest at from None (Some name) (Err fault) flat written wrong)
    (λ v whole. named_source held manifest at from None (Some name) (Ok v.items) flat written whole)
    c.text_source.ensures.source

pub returns-in-None-None-clause-source : goal.returns-in-None-None-clause-source
unfolding NamedReads
returns-in-None-None-clause-source g c =
    let held = g.S.Shelf.held c.args.shelf.now in
    let manifest = c.args.manifest.now in
    let at = c.args.place.part in
    let from = view c.args.place.table.now in
    let flat : name_at at from Bytes ≡ Ok None = rw c.in-None-None.is-0 at c.in_ok-flat.ensures in
    let written : name_at at from Text ≡ Ok None = rw c.in-None-None.is-1 at c.in_ok-written.ensures in
    key_wrong (λ (v : Vec ℕ Global). v.items) (SourceReads held manifest at from) c.fault-in-None-None.result c.from-in-None-None.result
    (named_source held manifest at from None None (Err (at_key c.fault-in-None-None.result)) flat written
    (ap (λ (f : FaultyKey). Err (at_key f)) c.fault-in-None-None.ensures))
    c.from-in-None-None.ensures

pub returns-in-Some-Some-clause-source : goal.returns-in-Some-Some-clause-source
unfolding NamedReads
returns-in-Some-Some-clause-source g c =
    let held = g.S.Shelf.held c.args.shelf.now in
    let manifest = c.args.manifest.now in
    let at = c.args.place.part in
    let from = view c.args.place.table.now in
    let one = c.in-Some-Some.field-0-0.now in
    let other = c.in-Some-Some.field-0-1.now in
    let flat : name_at at from Bytes ≡ Ok (Some one) = rw c.in-Some-Some.is-0 at c.in_ok-flat.ensures in
    let written : name_at at from Text ≡ Ok (Some other) = rw c.in-Some-Some.is-1 at c.in_ok-written.ensures in
    let fault = c.fault.result in
    key_wrong (λ (v : Vec ℕ Global). v.items) (SourceReads held manifest at from) fault c.from.result
    (named_source held manifest at from (Some one) (Some other) (Err (at_key fault)) flat written
    (ap (λ (f : FaultyKey). Err (at_key f)) c.fault.ensures))
    c.from.ensures
