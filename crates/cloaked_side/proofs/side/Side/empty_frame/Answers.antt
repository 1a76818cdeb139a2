use Rattle.std.proofs.Common.{◌∙◌, ap, sym, subst, Bool}
use Rattle.cloak_base.specs.Pages.{is_of}
use Rattle.shadow_fold.specs.Fold.{holds}
use Rattle.cloaked_side.specs.Tracking.{Tracks, touched_if}
use Rattle.cloaked_side.proofs.Spending.{maps_killed}
use Rattle.cloaked_side.proofs.Sided.{within_of}
use Rattle.cloaked_side.proofs.Cleared.{shows_settled, unowed_of, away_of}
use Rattle.cloaked_side.proofs.side.Side.empty_frame.Goals as goal

pub returns-then-is_page_of-clause-shows : goal.returns-then-is_page_of-clause-shows
returns-then-is_page_of-clause-shows g c first w shows =
    let p = c.args.self.now.memory.now.pager in
    let here = ap (λ o. holds (is_of c.args.domain c.args.resource) o) (sym c.holds.ensures)
    ∙ sym c.if-is_page_of.ensures in
    shows_settled g.E.Emit.gave first c.args.self.now c.settle.new.self c.args.f.0 w
    c.settle.ensures.settles c.settle.ensures.spends
    (maps_killed c.args.self.now.memory.now c.settle.new.self.memory.now _ c.args.f c.settle.ensures.ends)
    c.settle.ensures.violation c.settle.ensures.domain
    (within_of g.E.Emit.gave c.args.self.now c.settle.new.self c.settle.ensures.keeps).stays.regime
    (unowed_of p c.args.domain c.args.resource c.args.f.0 c.requires.cleared here) shows

pub returns-then-is_page_of-clause-tracks : goal.returns-then-is_page_of-clause-tracks
returns-then-is_page_of-clause-tracks g c s keeps =
    let passes = is_of c.args.domain c.args.resource in
    let here = ap (λ o. holds passes o) (sym (keeps.pages c.args.f.0) ∙ sym c.holds.ensures) ∙ sym c.if-is_page_of.ensures in
    subst (λ (b : Bool). Tracks c.settle.new.self.memory.now (touched_if b c.args.f.0 s)) (sym here) (c.settle.ensures.tracks s keeps)

pub returns-else-is_page_of-clause-tracks : goal.returns-else-is_page_of-clause-tracks
returns-else-is_page_of-clause-tracks g c s keeps =
    let passes = is_of c.args.domain c.args.resource in
    let away = ap (λ o. holds passes o) (sym (keeps.pages c.args.f.0) ∙ sym c.holds.ensures) ∙ sym c.if-is_page_of.ensures in
    subst (λ (b : Bool). Tracks c.args.self.now.memory.now (touched_if b c.args.f.0 s)) (sym away) keeps

pub returns-else-is_page_of-clause-away : goal.returns-else-is_page_of-clause-away
returns-else-is_page_of-clause-away g c =
    away_of c.args.self.now.memory.now.pager c.args.domain c.args.resource c.args.f.0
    (ap (λ o. holds (is_of c.args.domain c.args.resource) o) (sym c.holds.ensures) ∙ sym c.if-is_page_of.ensures)
