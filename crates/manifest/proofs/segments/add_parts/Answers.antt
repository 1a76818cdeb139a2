use Rattle.std.proofs.Common.{◌≡◌, ◌∙◌, [], List, Result, Ok, Err, map, get_or, sym, ap}
use Rattle.std.proofs.lemmas.List.Elements.{All-push}
use Rattle.cloak_model.specs.declared.image.Segment.{Segment}
use Rattle.cloak_model.specs.Bundle.{IsSegmentIn}
use Rattle.elf_image.specs.declared.part.ElfPart.{ElfPart}
use Rattle.elf_image.specs.Views.{seen}
use Rattle.manifest.specs.Faults.{Fault, by_keys}
use Rattle.manifest.specs.Parts.{with_segment}
use Rattle.manifest.specs.Loading.{part_segment, with_parts}
use Rattle.manifest.proofs.ElfParts.{parts_wrong, parts_many, parts_more, parts_over}
use Rattle.manifest.proofs.Spans.{bytes_within}
use Rattle.manifest.proofs.Steps.{hands_on}
use Rattle.manifest.proofs.segments.add_parts.Goals as goal

-- what an index past the end would give
abbrev none : ElfPart
none = record { address = 0; bytes = record { ref_ptr = (0, 0); now = [] }; size = 0 }

pub part_segment-requires-clause-inside : goal.part_segment-requires-clause-inside
part_segment-requires-clause-inside c =
    bytes_within c.args.parts.now c.loop-part.part-index none c.loop-part-test.true c.requires.parts

pub returns-in_err-segment-clause-read : goal.returns-in_err-segment-clause-read
returns-in_err-segment-clause-read c =
    let at = c.args.place.part in
    let frames = c.args.frames in
    let parts = c.args.parts.now in
    let i = c.loop-part.part-index in
    let items = c.loop-part.segments.items in
    hands_on (λ (s : Segment). s) (λ (u : Unit {0}). items)
    (λ (r : Result Segment Fault). r ≡ by_keys (part_segment at frames (seen (get_or parts i none))))
    (λ (r : Result (List Segment) Fault). r ≡ by_keys (with_parts at frames c.args.segments.now.items (map seen parts)))
    c.in_err-segment.field-0.0 c.from_residual.result
    (λ fault wrong. sym (parts_wrong at frames parts i items none c.loop-part-test.true fault wrong) ∙ c.loop-part.invariant.read)
    c.in_err-segment.ensures.read c.from_residual.ensures.1

pub returns-in_err-push_segment-clause-read : goal.returns-in_err-push_segment-clause-read
returns-in_err-push_segment-clause-read c =
    let at = c.args.place.part in
    let frames = c.args.frames in
    let parts = c.args.parts.now in
    let i = c.loop-part.part-index in
    let items = c.loop-part.segments.items in
    let next = c.push_segment.new.segments.items in
    let segment = c.in_ok-segment.segment in
    hands_on (λ (u : Unit {0}). next) (λ (u : Unit {0}). next)
    (λ (r : Result (List Segment) Fault). r ≡ by_keys (with_segment items segment))
    (λ (r : Result (List Segment) Fault). r ≡ by_keys (with_parts at frames c.args.segments.now.items (map seen parts)))
    c.in_err-push_segment.field-0.0 c.from_residual-in_err-push_segment.result
    (λ fault wrong. sym (parts_many at frames parts i items none c.loop-part-test.true segment c.in_ok-segment.ensures.read fault wrong)
    ∙ c.loop-part.invariant.read)
    c.in_err-push_segment.ensures.read c.from_residual-in_err-push_segment.ensures.1

pub loop-part-preserved : goal.loop-part-preserved
loop-part-preserved c =
    let at = c.args.place.part in
    let frames = c.args.frames in
    let items = c.loop-part.segments.items in
    let segment = c.in_ok-segment.segment in
    let pushed = c.in_ok-push_segment.ensures.pushed in
    record {
      read = sym (parts_more at frames c.args.parts.now c.loop-part.part-index items none c.loop-part-test.true segment
          c.in_ok-segment.ensures.read c.push_segment.new.segments.items c.in_ok-push_segment.ensures.read)
          ∙ c.loop-part.invariant.read;
      few = c.in_ok-push_segment.ensures.few;
      in_ram = rw pushed (All-push (IsSegmentIn frames) items segment c.loop-part.invariant.in_ram c.in_ok-segment.ensures.in_ram);
    }

pub returns-clause-read : goal.returns-clause-read
returns-clause-read c =
    sym (ap by_keys (parts_over c.args.place.part c.args.frames c.args.parts.now c.loop-part.part-index c.loop-part.segments.items
    c.loop-part-test.false))
    ∙ c.loop-part.invariant.read
