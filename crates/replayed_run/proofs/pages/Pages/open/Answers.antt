use Rattle.std.proofs.Common.{◌≡◌, ◌∙◌, ℕ, Option, Some, length, slice_get, refl, sym, ap, arith}
use Rattle.std.proofs.lemmas.Option.{slice_get_read}
use Rattle.cloak_model.specs.declared.image.Program.{Program}
use Rattle.replayed_run.specs.PagesTold.{no_pages, pages_of, program_placed, programs_placed}
use Rattle.replayed_run.proofs.PlacedMore.{programs_more}
use Rattle.replayed_run.proofs.pages.Pages.open.Goals as goal

pub loop-number-preserved : goal.loop-number-preserved
loop-number-preserved c =
    let n = c.loop-number.number in
    let low = c.loop-number-test.true in
    let was = pages_of c.loop-number.pages in
    let found : slice_get c.args.programs.now n ≡ Some c.index-programs-number.result =
    slice_get_read c.args.programs.now _ n c.index-programs-number.result refl low c.index-programs-number.is in
    programs_more c.args.programs.now n (no_pages c.args.frames) was (pages_of c.place.new.self) c.loop-number.invariant
    (c.place.ensures ∙ ap (λ (o : Option Program). program_placed n o was) (sym found))

pub returns : goal.returns
returns c =
    let end : c.loop-number.number ≡ length c.args.programs.now = omega arith in
    c.loop-number.invariant
    ∙ ap (λ (n : ℕ). programs_placed c.args.programs.now n (no_pages c.args.frames)) end
