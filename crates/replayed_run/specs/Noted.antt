-- What is noted of a run: what its items say, and what the machines that run alone make of them.
use Rattle.std.specs.Prelude.{ℕ, zero, suc, ◌+◌, ◌*◌, ◌/◌, ◌==◌, Bool, true, false, ◌&&◌, ◌||◌, not, List, [], ◌∷◌, ◌++◌, Option, Some, None, if◌then◌else◌}
use Rattle.std.specs.List.{fold, list_all}
use Rattle.cloak_model.specs.declared.image.Bundle.{Bundle}
use Rattle.cloak_model.specs.Items.{Item}
use Rattle.cloak_model.specs.Items as item
use Rattle.cloak_model.specs.declared.outcome.Kernel.{Kernel}
use Rattle.cloak_model.specs.declared.outcome.Kernel.TheVariants as outcome
use Rattle.cloak_model.specs.KernelAlone as model
use Rattle.cloak_model.specs.KernelAlone.{kernel_alone, kernel_hart}
use Rattle.alone_views.specs.KernelEnding.{plain_ending}
use Rattle.replayed_run.specs.Alone.{standing_told, words_of}
use Rattle.replayed_run.specs.ContextsTold.{ended_at, no_contexts, resumed_at, told_of}
use Rattle.replayed_run.specs.declared.contexts.ToldContext.{ToldContext}
use Rattle.replayed_run.specs.declared.contexts.ToldContexts.{ToldContexts}
use Rattle.replayed_run.specs.declared.machines.StandingContext.{StandingContext}
use Rattle.replayed_run.specs.declared.notes.Asking.{Asking}
use Rattle.replayed_run.specs.declared.notes.Notes.{Notes}

-- The items so far, and what is noted of them.
pub record Noted : Type 0 where
  pub items : List Item
  pub notes : Notes

abbrev pub no_notes : Notes
no_notes =
    record {
      step = 0;
      has_resumed = false;
      contexts = no_contexts;
      asked = None;
      has_missed = false;
      is_stopped = false;
      halted = None;
    }

-- a draw was missing: for a frame, which was shown as zeros, or for a question that was stopped and ended no program
abbrev pub lacks_draw : Notes → Bool
lacks_draw n = n.has_missed || n.is_stopped

-- The context for which a hart outside asks by its plain step.

abbrev pub asked_by : ℕ → Kernel → Option Asking
asked_by hart (outcome.Resume ctx answer) = Some (record { hart = hart; ctx = ctx })
asked_by hart outcome.Stay = None
asked_by hart outcome.Trapped = None
asked_by hart (outcome.Put byte) = None
asked_by hart (outcome.Halt value) = None

-- by how the plain step of the hart that is outside ends
abbrev pub asked_from : model.KernelStage → (ℕ → Kernel) → Option Asking
asked_from (model.Outside hart) ends = asked_by hart (ends hart)
asked_from model.Between ends = None
asked_from (model.Inside hart ctx) ends = None
asked_from model.Left ends = None

-- unless a context was resumed in the step
abbrev pub asked_unless : Bool → model.KernelStage → Kernel → Option Asking
asked_unless resumed stage ending = if resumed then None else asked_from stage (λ hart. ending)

-- It asks for one as the step that is open ends, and the step has no resume.
abbrev pub asked_at_end : Bool → model.KernelAlone → Option Asking
asked_at_end resumed s = if resumed then None else asked_from s.stage (λ hart. plain_ending hart s)

-- The value with which a hart outside halts by its plain step.

abbrev pub halted_by : Kernel → Option ℕ
halted_by (outcome.Halt value) = Some value
halted_by (outcome.Resume ctx answer) = None
halted_by outcome.Stay = None
halted_by outcome.Trapped = None
halted_by (outcome.Put byte) = None

-- by how the plain step of the hart that is outside ends
abbrev pub halted_from : model.KernelStage → (ℕ → Kernel) → Option ℕ
halted_from (model.Outside hart) ends = halted_by (ends hart)
halted_from model.Between ends = None
halted_from (model.Inside hart ctx) ends = None
halted_from model.Left ends = None

-- as the step that is open ends
abbrev pub halted_at_end : model.KernelAlone → Option ℕ
halted_at_end s = halted_from s.stage (λ hart. plain_ending hart s)

-- Contexts.

-- a context is in this space
abbrev pub is_in_space : ℕ → Option StandingContext → Bool
is_in_space space None = false
is_in_space space (Some c) = c.space == space

-- none of the first n contexts of a program is in this space
unfoldable pub is_left : Bundle → List Item → ℕ → ℕ → Bool
is_left b items space zero = true
is_left b items space (suc n) =
    is_left b items space n && not (is_in_space space (standing_told b items (space / 8 * 8 + n)))

-- a hart that is outside resumed a context, which is there
abbrev pub resume_noted : Notes → ℕ → model.KernelStage → model.KernelAlone → Option StandingContext → ToldContexts
resume_noted n ctx (model.Outside hart) s (Some c) =
    resumed_at n.contexts ctx c.space (words_of (kernel_hart s.kernel hart)).satp n.step
resume_noted n ctx (model.Outside hart) s None = n.contexts
resume_noted n ctx model.Between s c = n.contexts
resume_noted n ctx (model.Inside hart other) s c = n.contexts
resume_noted n ctx model.Left s c = n.contexts

-- a context left and is not there any more
abbrev pub gone_noted : Bundle → List Item → Notes → ℕ → Option ToldContext → ToldContexts
gone_noted b items n ctx None = n.contexts
gone_noted b items n ctx (Some was) = ended_at n.contexts ctx was n.step (is_left b items was.space 8)

-- a context left
abbrev pub leave_noted : Bundle → List Item → Notes → ℕ → Option StandingContext → ToldContexts
leave_noted b items n ctx (Some c) = n.contexts
leave_noted b items n ctx None = gone_noted b items n ctx (told_of n.contexts ctx)

-- a context was resumed, and one left
abbrev pub resumed_notes : Bundle → List Item → Notes → ℕ → Notes
resumed_notes b now n ctx = record n {
  has_resumed = true;
  contexts = let s = kernel_alone b.kernel now in resume_noted n ctx s.stage s (standing_told b now ctx);
}

abbrev pub left_notes : Bundle → List Item → Notes → ℕ → Notes
left_notes b now n ctx = record n { contexts = leave_noted b now n ctx (standing_told b now ctx) }

-- A frame is shown.

-- every byte is zero, as of a frame whose page found no draw
abbrev pub is_wiped : List ℕ → Bool
is_wiped bytes = list_all (λ byte. byte == 0) bytes

-- What an item adds to the notes, with the items before it, and with it.
abbrev pub notes_after : Bundle → List Item → List Item → Notes → Item → Notes
notes_after b before now n (item.Step number) = record {
  step = number;
  has_resumed = false;
  contexts = n.contexts;
  asked = asked_at_end n.has_resumed (kernel_alone b.kernel before);
  has_missed = n.has_missed;
  is_stopped = n.is_stopped;
  halted = halted_at_end (kernel_alone b.kernel before);
}
notes_after b before now n (item.Close steps) =
    record n {
      asked = asked_at_end n.has_resumed (kernel_alone b.kernel before);
      halted = halted_at_end (kernel_alone b.kernel before);
    }
notes_after b before now n (item.Cipher frame bytes) = record n { has_missed = n.has_missed || is_wiped bytes }
notes_after b before now n (item.Stopped d) = record n { is_stopped = true }
notes_after b before now n (item.Ended d) = record n { is_stopped = false }
notes_after b before now n (item.Resume domain ctx answer) = resumed_notes b now n ctx
notes_after b before now n (item.Leave shown) = left_notes b now n shown.ctx
notes_after b before now n _ = n

unfoldable pub noted_more : Bundle → Noted → Item → Noted
noted_more b n i = record {
  items = n.items ++ i ∷ [];
  notes = notes_after b n.items (n.items ++ i ∷ []) n.notes i;
}

-- What is noted of these items.
abbrev pub noted_in : Bundle → List Item → Noted
noted_in b items = fold (noted_more b) (record { items = []; notes = no_notes }) items
