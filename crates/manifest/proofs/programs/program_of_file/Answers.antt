use Rattle.std.proofs.Common.{◌≡◌, ◌∙◌, ℕ, List, Result, Ok, Err, sym}
use Rattle.cloak_model.specs.declared.image.Program.{Program}
use Rattle.toml.specs.View.{view}
use Rattle.elf_image.specs.Views.{seen_image}
use Rattle.manifest.specs.Fields.{◌>>=◌}
use Rattle.manifest.specs.Faults.{Fault, by_keys}
use Rattle.manifest.specs.Loading.{image_at, image_program_at}
use Rattle.manifest.proofs.ElfKeys.{then_wrong, then_right}
use Rattle.manifest.proofs.Steps.{answers_more, key_fails}
use Rattle.manifest.proofs.programs.program_of_file.Goals as goal

pub returns-in_err-image-clause-read : goal.returns-in_err-image-clause-read
returns-in_err-image-clause-read c =
    let first = image_at c.args.place.part c.args.file.now in
    let rest = image_program_at c.args.place.part (view c.args.place.table.now) c.args.frames in
    let e = c.in_err-image.field-0.0 in
    key_fails (λ (p : Program). p) (λ (r : Result Program Fault). r ≡ by_keys (first >>= rest)) e
    c.from_residual.result (then_wrong first rest e c.in_err-image.ensures.read) c.from_residual.ensures.1

pub returns-clause-read : goal.returns-clause-read
returns-clause-read c =
    let first = image_at c.args.place.part c.args.file.now in
    let rest = image_program_at c.args.place.part (view c.args.place.table.now) c.args.frames in
    let image = seen_image c.in_ok-image.image in
    let on = then_right first rest image c.in_ok-image.ensures.read in
    answers_more (λ (p : Program). p) (λ (p : Program). p)
    (λ (r : Result Program Fault). r ≡ by_keys (rest image)) (λ (r : Result Program Fault). r ≡ by_keys (first >>= rest))
    c.elf_program.result (λ fault is. is ∙ on) (λ p is. is ∙ on) c.elf_program.ensures.read
