use Rattle.std.proofs.Common.{◌∙◌, ap, refl}
use Rattle.cloak_model.specs.Memory.{zero_ram}
use Rattle.cloak_model.specs.Opening.{with_segments, started_kernel}
use Rattle.alone_views.proofs.KernelEnds.{few_started, opens_so, turns_inside}
use Rattle.alone_views.proofs.kernel.KernelAlone.open.Goals as goal

pub invariant_of-result-clause-turns : goal.invariant_of-result-clause-turns
invariant_of-result-clause-turns c =
    turns_inside _ c.args.k.now.schedule _ c.args.k.now.entry c.args.k.now.harts
    (c.in_ok-schedule.ensures.items ∙ c.as_slice-3.ensures) c.in_ok-harts.ensures c.requires.turns

pub invariant_of-result-clause-few_harts : goal.invariant_of-result-clause-few_harts
invariant_of-result-clause-few_harts c =
    few_started _ c.args.k.now.entry c.args.k.now.harts c.in_ok-harts.ensures c.requires.few_harts

pub returns : goal.returns
unfolding started_kernel
returns c =
    opens_so c.args.k.now _ c.in_ok-harts.ensures
    (c.in_ok-ram.ensures.frames ∙ ap (with_segments (zero_ram c.args.k.now.frames)) c.as_slice.ensures)
    (c.in_ok-disk.ensures ∙ c.as_slice-2.ensures) c.in_ok-ram.ensures.marks (c.in_ok-schedule.ensures.items ∙ c.as_slice-3.ensures)
    refl refl refl refl (λ few. c.new.ensures.shows)
