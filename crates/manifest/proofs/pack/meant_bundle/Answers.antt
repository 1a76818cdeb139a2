use Rattle.std.proofs.Common.{◌≡◌, ℕ, List, Option, Result, Ok, Err, subst, refl, sym, ◌∙◌}
use Rattle.cloak_model.specs.declared.image.Bundle.{Bundle}
use Rattle.toml.specs.Data.{Data, Members, table}
use Rattle.toml.specs.View.{view, table_view}
use Rattle.toml.specs.declared.value.Value.{Table}
use Rattle.toml.proofs.Views.{view-Table}
use Rattle.manifest.specs.Faults.{ReturnsRead, too_long, no_bytes}
use Rattle.manifest.specs.Images.{DocumentReads, ImageReads, Means}
use Rattle.command_parts.specs.Outside.{files}
use Rattle.manifest.proofs.Kept.{same_held, unread}
use Rattle.manifest.proofs.Steps.{hands_on, hands_no_fault, answers_more}
use Rattle.manifest.proofs.Texts.{long_text, empty_text, short_text}
use Rattle.manifest.proofs.pack.meant_bundle.Goals as goal

pub returns-in_err-text-clause-means : goal.returns-in_err-text-clause-means
returns-in_err-text-clause-means g c =
    hands_no_fault (λ (b : Bundle). b) (Means (g.S.Shelf.held c.args.shelf.now) c.args.manifest.now) c.in_err-text.field-0.0
    c.from_residual.result c.in_err-text.ensures.no_fault c.from_residual.ensures.1

pub returns-in_default-clause-means : goal.returns-in_default-clause-means
returns-in_default-clause-means g c =
    let whole = rw c.in_default.is at c.in_ok-text.ensures.whole in
    record { text = whole.0; told = whole.1; reads = (Err too_long, long_text whole.0 whole.2, refl) }

pub returns-then-is_empty-clause-means : goal.returns-then-is_empty-clause-means
returns-then-is_empty-clause-means g c =
    let whole = rw c.in-Some.is at c.in_ok-text.ensures.whole in
    let text = c.in-Some.text.items in
    let none = rw c.as_slice-text.ensures.value at (sym c.is_empty.ensures ∙ c.if-is_empty.true) in
    record { text = text; told = whole.0; reads = (Err no_bytes, empty_text text whole.1 none, refl) }

pub returns-in_err-document-clause-means : goal.returns-in_err-document-clause-means
returns-in_err-document-clause-means g c =
    let whole = rw c.in-Some.is at c.in_ok-text.ensures.whole in
    let text = c.in-Some.text.items in
    let some = rw c.as_slice-text.ensures.value at (sym c.is_empty.ensures ∙ c.if-is_empty.false) in
    hands_on table_view (λ (b : Bundle). b) (DocumentReads text) (Means (g.S.Shelf.held c.args.shelf.now) c.args.manifest.now)
    c.in_err-document.field-0.0 c.from_residual-in_err-document.result
    (λ fault wrong. record {
      text = text;
      told = whole.0;
      reads = (Err fault, short_text text (Err fault) whole.1 some wrong, refl);
    })
    (subst (λ (t : List ℕ). ReturnsRead table_view (DocumentReads t) (Err c.in_err-document.field-0.0)) c.as_slice-text.ensures.value
    c.in_err-document.ensures.read)
    c.from_residual-in_err-document.ensures.1

pub returns-clause-means : goal.returns-clause-means
returns-clause-means g c =
    let held = g.S.Shelf.held in
    let first = held c.args.shelf.now in
    let manifest = c.args.manifest.now in
    let whole = rw c.in-Some.is at c.in_ok-text.ensures.whole in
    let text = c.in-Some.text.items in
    let some = rw c.as_slice-text.ensures.value at (sym c.is_empty.ensures ∙ c.if-is_empty.false) in
    let document = c.in_ok-document.field-0 in
    let parsed = rw c.as_slice-text.ensures.value at c.in_ok-document.ensures.read in
    let before = subst (λ (h : List ℕ → Option (List ℕ)). ReturnsRead (λ (b : Bundle). b) (ImageReads h manifest (view (Table document))) c.bundle_of.result)
    (same_held first (held c.read_whole.new.shelf) c.in_ok-text.ensures.reads.held) c.bundle_of.ensures.read in
    let image = subst (λ (d : Data). ReturnsRead (λ (b : Bundle). b) (ImageReads first manifest d) c.bundle_of.result)
    (view-Table document) before in
    answers_more (λ (b : Bundle). b) (λ (b : Bundle). b) (ImageReads first manifest (table (table_view document)))
    (Means first manifest) c.bundle_of.result
    (λ fault wrong. record {
      text = text;
      told = whole.0;
      reads = (Ok (table_view document), short_text text (Ok (table_view document)) whole.1 some parsed, wrong);
    })
    (λ b whole_image. record {
      text = text;
      told = whole.0;
      reads = (Ok (table_view document), short_text text (Ok (table_view document)) whole.1 some parsed, whole_image);
    })
    image

pub returns-in_err-document-clause-reads : goal.returns-in_err-document-clause-reads
returns-in_err-document-clause-reads g c =
    unread (files g.S.Shelf c.args.shelf.now) (files g.S.Shelf c.read_whole.new.shelf) c.in_err-document.field-0.0
    c.from_residual-in_err-document.result c.in_ok-text.ensures.reads c.in_err-document.ensures.no_read
    c.from_residual-in_err-document.ensures.1
