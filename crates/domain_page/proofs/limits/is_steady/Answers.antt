use Rattle.std.proofs.Common.{refl, sym, subst, ◌∙◌}
use Rattle.frozen_state.specs.Limits.{IsSteady}
use Rattle.domain_page.proofs.limits.is_steady.Goals as goal

pub returns-then-is_phase : goal.returns-then-is_phase
returns-then-is_phase c = (
  λ passes. rw (← c.c.view_is) (record {
    registers = c.words.ensures.count;
    zero_register = sym c.get.ensures.value ∙ c.get.ensures.zero refl;
    aligned = c.c.invariant;
    phase = c.is_phase.ensures.0 c.if-is_phase.true;
    mark = c.is_mark.ensures.0 passes;
  }),
  λ steady. c.is_mark.ensures.1 (subst IsSteady (sym c.c.view_is) steady).mark,
)
