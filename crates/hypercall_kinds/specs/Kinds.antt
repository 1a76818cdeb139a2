-- What a hypercall does, by kinds: laws on hypercalls go over the kinds.
use Rattle.std.specs.Prelude.{◌≡◌, ◌≢◌, ℕ, ◌%◌, true, false, Some}
use Rattle.std.specs.List.{list_any}
use Rattle.cloak_base.specs.Registers.{register}
use Rattle.cloak_model.specs.declared.answer.Answer.{Answer}
use Rattle.cloak_model.specs.declared.answer.Answer.TheVariants as told
use Rattle.cloak_model.specs.declared.context.Phase.TheVariants.{CopyIn, Waiting}
use Rattle.cloak_model.specs.declared.context.Why.TheVariants as why
use Rattle.cloak_model.specs.declared.inside.Went.TheVariants.{SpaceGone, Remapped}
use Rattle.cloak_model.specs.declared.resource.Owner.TheVariants.{Space}
use Rattle.cloak_model.specs.declared.resource.Region.{Region}
use Rattle.cloak_model.specs.Asking.{Told, answered}
use Rattle.cloak_model.specs.AskPages.{ask_clear}
use Rattle.cloak_model.specs.Calls.{call_number, takes_bytes, is_good}
use Rattle.cloak_model.specs.Contexts.{Context, in_phase, moved_on, has_buffer, new_context, context_number, end_at, shown}
use Rattle.cloak_model.specs.DomainState.{Control}
use Rattle.cloak_model.specs.Files.{file_resource}
use Rattle.cloak_model.specs.Fork.{marked, private_numbers, copies, has_room, copy_each, forked, is_of_space, forget_each}
use Rattle.cloak_model.specs.Hypercalls.{Stepped, with_slot, stays_inside, shown_of, leaves, stopped, with_answer, answers_word, number_told, with_spaces, Hypercall, ForkSpace, Exit, hypercall}
use Rattle.cloak_model.specs.Record.{IsWord}
use Rattle.cloak_model.specs.Resources.{Resources, first_free, new_resource, map_region, unmap_region, drop_space}
use Rattle.cloak_model.specs.World.{World}
use Rattle.cloak_model.specs.Script.{played}

-- the answer once the frames of the private pages of a context's space are settled, and the world then
abbrev pub cleared : Context → Control → World → Told Answer
cleared c d w = ask_clear d.number (marked c.space d.resources) w

-- The kinds, each with what is known of a hypercall of this kind, by a context in a slot of a program, in a world.
pub data CallKind (h : Hypercall) (slot : ℕ) (c : Context) (d : Control) (w : World) : Type 0 where
  -- it answers a word, and does nothing else
  Answers : (value : ℕ) → IsWord value → CallKind h slot c d w
  -- it asks for a resource of so many pages, and answers its number
  MakesNew : (pages : ℕ) → CallKind h slot c d w
  -- it asks for the resource of a file, and answers its number
  MakesFile : (pages : ℕ) → CallKind h slot c d w
  -- it maps a region
  Maps : (g : Region) → CallKind h slot c d w
  -- it unmaps the region that starts here
  Unmaps : (start : ℕ) → CallKind h slot c d w
  -- it starts a context in the lowest free slot, and answers its number
  Starts : (free : ℕ) → first_free d.contexts ≡ Some free → register c.regs 10 % 4 ≡ 0 → CallKind h slot c d w
  -- it begins a call whose bytes are copied first
  BeginsCopy : takes_bytes (call_number c) ≡ true → is_good d.resources (moved_on c) ≡ true → CallKind h slot c d w
  -- it leaves for a call
  Calls : (has_buffer (call_number c) ≡ true → is_good d.resources (moved_on c) ≡ true) → CallKind h slot c d w
  -- the run stops, since frames were not settled
  Stops : (cleared c d w).answer ≢ told.Ok → CallKind h slot c d w
  -- it copies the caller's space and context into the lowest free ones, and answers the number of the new context
  Forks : (free new : ℕ) → h ≡ ForkSpace → has_room c.space d.resources d.contexts ≡ true →
      first_free d.contexts ≡ Some free → first_free d.resources.spaces ≡ Some new →
      (cleared c d w).answer ≡ told.Ok → CallKind h slot c d w
  -- it ends a context, whose space stays
  Ends : CallKind h slot c d w
  -- it ends a context, and its space
  EndsSpace : h ≡ Exit → list_any (is_of_space c.space) (end_at slot d.contexts) ≡ false →
      (cleared c d w).answer ≡ told.Ok → CallKind h slot c d w

-- the caller goes on with 0, and its space has other regions
abbrev pub remaps : ℕ → Context → Resources → Control → Stepped
remaps slot c r d =
    record { control = with_slot slot (with_answer c 0) (record d { resources = r }); went = Remapped c.space }

-- What is after a hypercall of a kind.
abbrev pub after : (h : Hypercall) (slot : ℕ) (c : Context) (d : Control) (w : World) → CallKind h slot c d w →
    Told Stepped
after h slot c d w (Answers value fits) = answered (answers_word slot c value d) w
after h slot c d w (MakesNew pages) =
    answered (number_told slot c (new_resource (Space c.space) pages d.resources) d) w
after h slot c d w (MakesFile pages) =
    answered (number_told slot c (file_resource (register c.regs 10) pages d.resources) d) w
after h slot c d w (Maps g) = answered (remaps slot c (map_region c.space g d.resources).resources d) w
after h slot c d w (Unmaps start) = answered (remaps slot c (unmap_region c.space start d.resources).resources d) w
after h slot c d w (Starts free lowest aligned) =
    answered (answers_word slot c (context_number d.number free)
    (with_slot free (new_context c.space (register c.regs 10) (register c.regs 11) (register c.regs 12)) d)) w
after h slot c d w (BeginsCopy takes good) =
    answered (stays_inside slot (in_phase (CopyIn 0) (moved_on c)) d) w
after h slot c d w (Calls good) = answered (leaves slot (in_phase Waiting (moved_on c)) why.Call d) w
after h slot c d w (Stops other) = answered (stopped d) (cleared c d w).world
after h slot c d w (Forks free new is room slots spaces ok) =
    answered (answers_word slot c (context_number d.number free)
    (with_spaces (forked c free new d.resources d.contexts) d))
    (played (copy_each d.number (copies c.space d.resources)) (cleared c d w).world).world
after h slot c d w Ends =
    answered (record {
      control = with_spaces (record { contexts = end_at slot d.contexts; resources = d.resources }) d;
      went = shown_of d slot c why.Exit;
    }) w
after h slot c d w (EndsSpace is none ok) =
    answered (record {
      control = with_spaces
          (record { contexts = end_at slot d.contexts; resources = drop_space c.space d.resources }) d;
      went = SpaceGone c.space (shown c (context_number d.number slot) why.Exit);
    }) (played (forget_each d.number (private_numbers c.space d.resources)) (cleared c d w).world).world

-- what a hypercall told is what is after one of a kind
pub record HasKind (h : Hypercall) (slot : ℕ) (c : Context) (d : Control) (w : World) (t : Told Stepped) : Type 0 where
  pub kind : CallKind h slot c d w
  pub is : t ≡ after h slot c d w kind

-- The law, of each hypercall.
abbrev pub HypercallsHaveKinds : Type 0
HypercallsHaveKinds =
    (h : Hypercall) (slot : ℕ) (c : Context) (d : Control) (w : World) →
    HasKind h slot c d w (played (hypercall h slot c d) w)
