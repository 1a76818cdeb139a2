use Rattle.std.proofs.Common.{◌≡◌, ℕ, List, Result, Vec}
use Rattle.std.specs.declared.alloc.Global.{Global}
use Rattle.manifest.specs.Faults.{Fault}
use Rattle.manifest.specs.Sources.{AtPath, IsFileAt, IsPath}
use Rattle.command_parts.specs.Outside.{files}
use Rattle.manifest.proofs.Kept.{read_nothing, unread, want_unread}
use Rattle.manifest.proofs.Steps.{hands_no_fault, answers_more, want_no_fault}
use Rattle.manifest.proofs.sources.flat_source.Goals as goal

pub returns-in_err-path-clause-source : goal.returns-in_err-path-clause-source
returns-in_err-path-clause-source g c =
    let held = g.S.Shelf.held c.args.shelf.now in
    hands_no_fault (λ (v : Vec ℕ Global). v.items)
    (AtPath c.args.manifest.now c.args.name.now (λ path. IsFileAt c.args.place.part c.args.key (held path)))
    c.in_err-path.field-0.0 c.from_residual.result (want_no_fault c.in_err-path.field-0.0 c.in_err-path.ensures.want) c.from_residual.ensures.1

pub returns-clause-source : goal.returns-clause-source
returns-clause-source g c =
    let held = g.S.Shelf.held c.args.shelf.now in
    let manifest = c.args.manifest.now in
    let name = c.args.name.now in
    let path = c.as_str.result.now in
    let is_path : IsPath manifest name path = rw c.as_str.ensures.value c.in_ok-path.ensures.path in
    answers_more (λ (v : Vec ℕ Global). v.items) (λ (v : Vec ℕ Global). v.items) (IsFileAt c.args.place.part c.args.key (held path))
    (AtPath manifest name (λ path. IsFileAt c.args.place.part c.args.key (held path))) c.named_file.result
    (λ fault wrong. record { path = path; is_path = is_path; reads = wrong })
    (λ v whole. record { path = path; is_path = is_path; reads = whole })
    c.named_file.ensures.read

pub returns-in_err-path-clause-reads : goal.returns-in_err-path-clause-reads
returns-in_err-path-clause-reads g c =
    let state = files g.S.Shelf c.args.shelf.now in
    unread state state c.in_err-path.field-0.0 c.from_residual.result (read_nothing state)
    (want_unread c.in_err-path.field-0.0 c.in_err-path.ensures.want) c.from_residual.ensures.1
