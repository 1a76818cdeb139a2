use Rattle.std.proofs.Common.{◌≡◌, ◌∙◌, ℕ, List, Option, ap, refl}
use Rattle.std.proofs.lemmas.Grind.{put_four}
use Rattle.replayed_run.specs.declared.pages.Showing.{Showing}
use Rattle.run_story.specs.Passages.{lines_of}
use Rattle.run_story.specs.declared.deeds.PageEvent.{PageEvent}
use Rattle.run_story.specs.declared.presented.Presented.{Presented}
use Rattle.run_story.proofs.telling.PageStoryDisplay.fmt.Goals as goal

same_lines : (p : Presented) (m n : ℕ) (es fs : List PageEvent) (o q : Option Showing) → m ≡ n → es ≡ fs → o ≡ q →
    lines_of p m es o ≡ lines_of p n fs q
same_lines p m n es fs o q left_out events origin =
    ap (λ (k : ℕ). lines_of p k es o) left_out
    ∙ (ap (λ (l : List PageEvent). lines_of p n l o) events ∙ ap (λ (x : Option Showing). lines_of p n fs x) origin)

pub returns-clause-writes : goal.returns-clause-writes
returns-clause-writes g c = λ plain ok.
    let whose = c.in_ok-write_whose.ensures plain refl in
    let events = c.in_ok-write_events.ensures whose.plain refl in
    let found = c.in_ok-write_found.ensures events.plain refl in
    let rule = c.write_str.ensures.writes found.plain ok in
    put_four g.W.Write.write_str_gives _ _ _ _ _ _ _ _ _ _ whose events found rule
    (same_lines c.args.self.now.presented.now _ _ _ _ _ _ c.left_out.ensures c.events.ensures c.origin.ensures)
