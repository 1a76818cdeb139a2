use Rattle.std.proofs.Common.{◌≡◌, ℕ, List, Result, Ok, Err, Vec, refl, string_bytes}
use Rattle.std.specs.declared.alloc.Global.{Global}
use Rattle.manifest.specs.declared.key.Key.TheVariants.{Text}
use Rattle.manifest.specs.Faults.{Fault, Then}
use Rattle.manifest.specs.Sources.{AtPath, IsFileAt, IsPath, TextReads}
use Rattle.command_parts.specs.Outside.{files}
use Rattle.manifest.proofs.Kept.{read_nothing, unread, want_unread, returned_unread}
use Rattle.manifest.proofs.Steps.{hands_on, hands_no_fault, answers_more, want_no_fault}
use Rattle.manifest.proofs.sources.text_source.Goals as goal

pub returns-in_err-path-clause-source : goal.returns-in_err-path-clause-source
returns-in_err-path-clause-source g c =
    let held = g.S.Shelf.held c.args.shelf.now in
    let part = c.args.place.part in
    hands_no_fault (λ (v : Vec ℕ Global). v.items)
    (AtPath c.args.manifest.now c.args.name.now (λ path. Then (IsFileAt part Text (held path)) (TextReads part path)))
    c.in_err-path.field-0.0 c.from_residual.result (want_no_fault c.in_err-path.field-0.0 c.in_err-path.ensures.want) c.from_residual.ensures.1

pub returns-in_err-text-clause-source : goal.returns-in_err-text-clause-source
returns-in_err-text-clause-source g c =
    let held = g.S.Shelf.held c.args.shelf.now in
    let manifest = c.args.manifest.now in
    let name = c.args.name.now in
    let part = c.args.place.part in
    let path = c.as_str.result.now in
    let is_path : IsPath manifest name path = rw c.as_str.ensures.value c.in_ok-path.ensures.path in
    hands_on (λ (v : Vec ℕ Global). v.items) (λ (v : Vec ℕ Global). v.items) (IsFileAt part Text (held path))
    (AtPath manifest name (λ path. Then (IsFileAt part Text (held path)) (TextReads part path)))
    c.in_err-text.field-0.0 c.from_residual-in_err-text.result
    (λ fault wrong. record { path = path; is_path = is_path; reads = (Err fault, wrong, refl) })
    c.in_err-text.ensures.read c.from_residual-in_err-text.ensures.1

pub returns-clause-source : goal.returns-clause-source
returns-clause-source g c =
    let held = g.S.Shelf.held c.args.shelf.now in
    let manifest = c.args.manifest.now in
    let name = c.args.name.now in
    let part = c.args.place.part in
    let path = string_bytes c.in_ok-path.path in
    let text = c.in_ok-text.text.items in
    let file : IsFileAt part Text (held path) (Ok text) = rw (← c.as_str.ensures.value) c.in_ok-text.ensures.read in
    answers_more (λ (v : Vec ℕ Global). v.items) (λ (v : Vec ℕ Global). v.items) (TextReads part path text)
    (AtPath manifest name (λ path. Then (IsFileAt part Text (held path)) (TextReads part path))) c.words_of.result
    (λ fault wrong. record { path = path; is_path = c.in_ok-path.ensures.path; reads = (Ok text, file, wrong) })
    (λ v whole. record { path = path; is_path = c.in_ok-path.ensures.path; reads = (Ok text, file, whole) })
    (rw c.as_slice.ensures.value at c.words_of.ensures.read)

pub returns-in_err-path-clause-reads : goal.returns-in_err-path-clause-reads
returns-in_err-path-clause-reads g c =
    let state = files g.S.Shelf c.args.shelf.now in
    unread state state c.in_err-path.field-0.0 c.from_residual.result (read_nothing state)
    (want_unread c.in_err-path.field-0.0 c.in_err-path.ensures.want) c.from_residual.ensures.1

pub returns-clause-reads : goal.returns-clause-reads
returns-clause-reads g c =
    returned_unread (files g.S.Shelf c.args.shelf.now) (files g.S.Shelf c.named_file.new.shelf) c.words_of.result
    c.in_ok-text.ensures.reads c.words_of.ensures.no_read
