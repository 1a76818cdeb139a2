use Rattle.std.proofs.Common.{List, ◌∙◌, ap, sym, slice_index_or}
use Rattle.cloak_model.specs.Hart.{Hart, started}
use Rattle.step_lines.specs.Sights.{sight_of}
use Rattle.alone_views.proofs.KernelHarts.{hart_there}
use Rattle.run_trace.proofs.Harts.{hart_past}
use Rattle.run_trace.proofs.kernel_side.sight_at.Goals as goal

pub returns-then-number-harts : goal.returns-then-number-harts
returns-then-number-harts c turns s stands =
    c.sight_of.ensures ∙ ap (λ (h : Hart). sight_of h)
    (sym (hart_there c.harts-harts.result.now c.args.number c.index-harts-number.result c.if-number-harts.true
    c.index-harts-number.is)
    ∙ ap (λ (l : List Hart). slice_index_or l c.args.number (started 0 0)) (c.harts-harts.ensures turns s stands))

pub returns-else-number-harts : goal.returns-else-number-harts
returns-else-number-harts c turns s stands =
    c.sight_of-else-number-harts.ensures ∙ ap (λ (h : Hart). sight_of h)
    (c.start.ensures ∙ (sym (hart_past c.harts-harts.result.now c.args.number c.if-number-harts.false)
    ∙ ap (λ (l : List Hart). slice_index_or l c.args.number (started 0 0)) (c.harts-harts.ensures turns s stands)))
