-- The reservations of a program's contexts over a hypercall: new contexts have none.
use Rattle.std.proofs.Common.{ℕ, List, Option, Some, None, refl}
use Rattle.cloak_base.specs.Registers.{register}
use Rattle.cloak_model.specs.declared.context.Phase.TheVariants.{CopyIn, Waiting}
use Rattle.cloak_model.specs.Contexts.{Context, in_phase, moved_on, suspended, new_context, context_number}
use Rattle.cloak_model.specs.DomainState.{Control}
use Rattle.cloak_model.specs.Fork.{forked, child}
use Rattle.cloak_model.specs.Hypercalls.{Stepped, with_slot, with_spaces, with_answer, answers_word, Hypercall, hypercall}
use Rattle.cloak_model.specs.World.{World}
use Rattle.cloak_model.specs.Script.{played}
use Rattle.hypercall_kinds.specs.Kinds.{CallKind, Answers, MakesNew, MakesFile, Maps, Unmaps, Starts, BeginsCopy, Calls, Stops, Forks, Ends, EndsSpace, after}
use Rattle.hypercall_kinds.proofs.ByKinds.{by_kinds}
use Rattle.context_law.proofs.Marks.{OneMore, set_one, set_none, then_one, none_one}

-- the contexts of a program before, and after a step of this slot
abbrev pub StepsOne : ℕ → Context → List (Option Context) → Stepped → Type 0
StepsOne slot c contexts step = OneMore slot c.mark contexts step.control.contexts

module _ (h : Hypercall) (slot : ℕ) (c : Context) (d : Control) (w : World) where
  word_one : (value : ℕ) (d' : Control) → StepsOne slot c d'.contexts (answers_word slot c value d')
  word_one value d' = set_one d'.contexts slot (Some (with_answer c value))

  kind_one : (k : CallKind h slot c d w) → StepsOne slot c d.contexts (after h slot c d w k).answer
  unfolding forked
  kind_one (Answers value fits) = word_one value d
  kind_one (MakesNew pages) = word_one _ d
  kind_one (MakesFile pages) = word_one _ d
  kind_one (Maps g) = word_one 0 d
  kind_one (Unmaps start) = word_one 0 d
  kind_one (Starts free lowest aligned) =
      let k = new_context c.space (register c.regs 10) (register c.regs 11) (register c.regs 12) in
      then_one slot c.mark d.contexts _ _ (set_none d.contexts free (Some k) refl)
      (word_one (context_number d.number free) (with_slot free k d))
  kind_one (BeginsCopy takes good) = set_one d.contexts slot (Some (in_phase (CopyIn 0) (moved_on c)))
  kind_one (Calls good) =
      none_one slot c.mark d.contexts _
      (set_none d.contexts slot (Some (suspended (in_phase Waiting (moved_on c)))) refl)
  kind_one (Stops other) = none_one slot c.mark d.contexts d.contexts (λ k word is. is)
  kind_one (Forks free new is room slots spaces ok) =
      then_one slot c.mark d.contexts _ _ (set_none d.contexts free (Some (child new c)) refl)
      (word_one (context_number d.number free) (with_spaces (forked c free new d.resources d.contexts) d))
  kind_one Ends = none_one slot c.mark d.contexts _ (set_none d.contexts slot None refl)
  kind_one (EndsSpace is none ok) = none_one slot c.mark d.contexts _ (set_none d.contexts slot None refl)

  pub hypercall_one : StepsOne slot c d.contexts (played (hypercall h slot c d) w).answer
  hypercall_one = by_kinds (λ t. StepsOne slot c d.contexts t.answer) h slot c d w kind_one
