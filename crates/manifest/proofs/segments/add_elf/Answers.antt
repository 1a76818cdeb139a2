use Rattle.std.proofs.Common.{◌≡◌, ◌∙◌, ℕ, List, Result, Ok, Err, map, sym}
use Rattle.cloak_model.specs.declared.image.Segment.{Segment}
use Rattle.elf_image.specs.Image.{Image}
use Rattle.elf_image.specs.Views.{seen, seen_image}
use Rattle.manifest.specs.Fields.{◌>>=◌}
use Rattle.manifest.specs.Faults.{Fault, by_keys}
use Rattle.manifest.specs.Loading.{image_at, with_parts}
use Rattle.manifest.proofs.ElfKeys.{then_wrong, then_right}
use Rattle.manifest.proofs.Steps.{answers_more, key_fails}
use Rattle.manifest.proofs.segments.add_elf.Goals as goal

pub add_parts-requires-clause-parts : goal.add_parts-requires-clause-parts
add_parts-requires-clause-parts c = rw c.as_slice.ensures.value c.in_ok-image.ensures.fits.each

pub returns-in_err-image-clause-read : goal.returns-in_err-image-clause-read
returns-in_err-image-clause-read c =
    let items = c.args.segments.now.items in
    let first = image_at c.args.place.part c.args.file.now in
    let rest = λ (image : Image). with_parts c.args.place.part c.args.frames items image.parts in
    let e = c.in_err-image.field-0.0 in
    key_fails (λ (u : Unit {0}). items) (λ (r : Result (List Segment) Fault). r ≡ by_keys (first >>= rest)) e
    c.from_residual.result (then_wrong first rest e c.in_err-image.ensures.read) c.from_residual.ensures.1

pub returns-clause-read : goal.returns-clause-read
returns-clause-read c =
    let items = c.args.segments.now.items in
    let next = c.add_parts.new.segments.items in
    let first = image_at c.args.place.part c.args.file.now in
    let rest = λ (image : Image). with_parts c.args.place.part c.args.frames items image.parts in
    let on = then_right first rest (seen_image c.in_ok-image.image) c.in_ok-image.ensures.read in
    answers_more (λ (u : Unit {0}). next) (λ (u : Unit {0}). next)
    (λ (r : Result (List Segment) Fault). r ≡ by_keys (rest (seen_image c.in_ok-image.image)))
    (λ (r : Result (List Segment) Fault). r ≡ by_keys (first >>= rest)) c.add_parts.result
    (λ fault is. is ∙ on) (λ u is. is ∙ on) (rw c.as_slice.ensures.value at c.add_parts.ensures.read)
