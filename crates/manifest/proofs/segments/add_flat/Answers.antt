use Rattle.std.proofs.Common.{◌≡◌, ◌∙◌, ℕ, List, Result, Ok, Err, sym}
use Rattle.cloak_model.specs.declared.image.Segment.{Segment}
use Rattle.toml.specs.View.{view}
use Rattle.manifest.specs.Fields.{◌>>=◌}
use Rattle.manifest.specs.Faults.{Fault, by_keys}
use Rattle.manifest.specs.Parts.{segment_at, with_segment}
use Rattle.manifest.proofs.ElfKeys.{then_wrong, then_right}
use Rattle.manifest.proofs.Steps.{answers_more, key_fails}
use Rattle.manifest.proofs.segments.add_flat.Goals as goal

pub returns-in_err-segment-clause-read : goal.returns-in_err-segment-clause-read
returns-in_err-segment-clause-read c =
    let items = c.args.segments.now.items in
    let first = segment_at c.args.place.part (view c.args.place.table.now) c.args.frames c.args.bytes.items in
    let e = c.in_err-segment.field-0.0 in
    key_fails (λ (u : Unit {0}). items) (λ (r : Result (List Segment) Fault). r ≡ by_keys (first >>= with_segment items)) e
    c.from_residual.result (then_wrong first (with_segment items) e (sym c.in_err-segment.ensures.read)) c.from_residual.ensures.1

pub returns-clause-read : goal.returns-clause-read
returns-clause-read c =
    let items = c.args.segments.now.items in
    let next = c.push_segment.new.segments.items in
    let segment = c.in_ok-segment.segment in
    let first = segment_at c.args.place.part (view c.args.place.table.now) c.args.frames c.args.bytes.items in
    let on = then_right first (with_segment items) segment (sym c.in_ok-segment.ensures.read) in
    answers_more (λ (u : Unit {0}). next) (λ (u : Unit {0}). next)
    (λ (r : Result (List Segment) Fault). r ≡ by_keys (with_segment items segment))
    (λ (r : Result (List Segment) Fault). r ≡ by_keys (first >>= with_segment items)) c.push_segment.result
    (λ fault is. is ∙ on) (λ u is. is ∙ on) c.push_segment.ensures.read
