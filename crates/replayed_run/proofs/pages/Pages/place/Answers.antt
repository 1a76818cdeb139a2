use Rattle.std.proofs.Common.{◌≡◌, ◌∙◌, ℕ, ap, arith}
use Rattle.replayed_run.specs.PagesTold.{pages_of, pages_placed}
use Rattle.replayed_run.proofs.PlacedMore.{pages_more}
use Rattle.replayed_run.proofs.pages.Pages.place.Goals as goal

pub loop-number-preserved : goal.loop-number-preserved
loop-number-preserved c =
    pages_more c.args.domain c.args.program.now.place c.loop-number.number (pages_of c.args.self.now)
    (pages_of c.loop-number.self) (pages_of c.reach.new.self) c.loop-number.invariant c.reach.ensures

pub returns : goal.returns
returns c =
    let end : c.loop-number.number ≡ c.args.program.now.start.pages = omega arith in
    c.loop-number.invariant
    ∙ ap (λ (n : ℕ). pages_placed c.args.domain c.args.program.now.place n (pages_of c.args.self.now)) end
