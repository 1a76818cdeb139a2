-- Contexts and resources of a program over each hypercall.
use Rattle.std.proofs.Common.{◌≡◌, ◌≢◌, ◌∙◌, ℕ, zero, suc, ◌%◌, ◌<◌, true, false, List, [], ◌∷◌, length, slice_set, slice_index_or, Option, Some, None, refl, sym, subst, arith}
use Rattle.std.specs.Prelude.{IfSome, is_some}
use Rattle.std.specs.List.{list_any}
use Rattle.std.proofs.lemmas.Bool.{eqb-false, and_parts, or_parts}
use Rattle.std.proofs.lemmas.List.{length-set}
use Rattle.cloak_base.specs.Registers.{register, zero_registers, with_register}
use Rattle.cloak_model.specs.declared.context.Phase.{Phase}
use Rattle.cloak_model.specs.declared.context.Phase.TheVariants.{Plain, CopyIn, Waiting}
use Rattle.cloak_model.specs.declared.resource.Owner.TheVariants.{Space}
use Rattle.cloak_model.specs.Contexts.{Context, in_phase, moved_on, suspended, new_context, context_at, end_at}
use Rattle.cloak_model.specs.DomainState.{Control}
use Rattle.cloak_model.specs.Fork.{Spaces, forked, child, is_of_space}
use Rattle.cloak_model.specs.Hypercalls.{with_slot, stays_inside, with_answer, answers_word, with_spaces, Hypercall, hypercall}
use Rattle.cloak_model.specs.Resources.{Resources, first_free, drop_space}
use Rattle.cloak_model.specs.World.{World}
use Rattle.cloak_model.specs.Script.{played}
use Rattle.hypercall_kinds.specs.Kinds.{CallKind, Answers, MakesNew, MakesFile, Maps, Unmaps, Starts, BeginsCopy, Calls, Stops, Forks, Ends, EndsSpace, after}
use Rattle.hypercall_kinds.proofs.ByKinds.{by_kinds}
use Rattle.resource_map.specs.Copying.{can_copy}
use Rattle.resource_map.specs.Kept.{IsInUse}
use Rattle.resource_map.proofs.Lists.{first_free-at}
use Rattle.frozen_state.specs.Limits.{IsPhase, WaitsOnNoHart, IsSteady, IsContext, KeepsLimits}
use Rattle.limit_law.proofs.Contexts.{with_register_length, with_register_zero, moved_steady, word_steady}
use Rattle.limit_law.proofs.Copies.{phase_steady, begins_copy, waits_so}
use Rattle.limit_law.proofs.Resources.{AreKept, StayKept, new_stays, file_stays, map_stays, unmap_stays, fork_stays, fork_used, forked_still, drop_kept, drop_used}

-- Slots.

pub each_set : {A : Type 0} (P : A → Type 0) (xs : List (Option A)) (i : ℕ) (o : Option A) → IfSome o P →
    ((k : ℕ) → IfSome (slice_index_or xs k None) P) → (k : ℕ) → IfSome (slice_index_or (slice_set xs i o) k None) P
each_set P [] i o here each k = each k
each_set P (y ∷ xs) zero o here each zero = here
each_set P (y ∷ xs) zero o here each (suc k) = each (suc k)
each_set P (y ∷ xs) (suc i) o here each zero = each zero
each_set P (y ∷ xs) (suc i) o here each (suc k) = each_set P xs i o here (λ n. each (suc n)) k

pub slot_kept : (d : Control) (slot : ℕ) (c : Context) → KeepsLimits d → IsContext d.resources c →
    KeepsLimits (with_slot slot c d)
slot_kept d slot c keeps here = record {
  slots = length-set d.contexts slot (Some c) ∙ keeps.slots;
  contexts = each_set (IsContext d.resources) d.contexts slot (Some c) here keeps.contexts;
  resources = keeps.resources;
  regions = keeps.regions;
}

-- the context of a slot, which makes a step: a steady one of a space in use, on one of four harts
pub record IsRunning (r : Resources) (c : Context) : Type 0 where
  pub steady : IsSteady c
  pub hart : IfSome c.on (λ hart. hart.0 < 4)
  pub space : IsInUse r c.space

pub runs : (r : Resources) (c : Context) → IsContext r c → IsRunning r c
runs r c here = record { steady = here.steady; hart = here.hart; space = here.space }

pub stays_kept : (slot : ℕ) (c : Context) (d : Control) → KeepsLimits d → IsRunning d.resources c →
    WaitsOnNoHart c.phase c.on → KeepsLimits (stays_inside slot c d).control
stays_kept slot c d keeps here idle =
    slot_kept d slot c keeps (record { steady = here.steady; waiting = idle; hart = here.hart; space = here.space })

idle_off : (phase : Phase) → WaitsOnNoHart phase None
idle_off Waiting = refl
idle_off _ = tt

off_steady : (c : Context) → IsSteady c → IsSteady (suspended c)
off_steady c s =
    record { registers = s.registers; zero_register = s.zero_register; aligned = s.aligned; phase = s.phase; mark = tt }

pub leaves_kept : (slot : ℕ) (c : Context) (d : Control) → KeepsLimits d → IsRunning d.resources c →
    KeepsLimits (with_slot slot (suspended c) d)
leaves_kept slot c d keeps here =
    slot_kept d slot (suspended c) keeps
    (record { steady = off_steady c here.steady; waiting = idle_off c.phase; hart = tt; space = here.space })

-- A plain context goes on with a word as its answer.

pub idle_plain : (c : Context) → c.phase ≡ Plain → WaitsOnNoHart c.phase c.on
idle_plain c plain = subst (λ (p : Phase). WaitsOnNoHart p c.on) (sym plain) tt

pub word_kept : (slot : ℕ) (c : Context) (value : ℕ) (d : Control) → c.phase ≡ Plain → KeepsLimits d →
    IsRunning d.resources c → KeepsLimits (answers_word slot c value d).control
word_kept slot c value d plain keeps here =
    stays_kept slot (with_answer c value) d keeps (record {
      steady = word_steady (moved_on c) 10 value plain (moved_steady c here.steady);
      hart = here.hart;
      space = here.space;
    }) (subst (λ (p : Phase). WaitsOnNoHart p c.on) (sym plain) tt)

-- Resources.

pub are_kept : (d : Control) → KeepsLimits d → AreKept d.resources
are_kept d keeps = record { sound = keeps.resources; regions = keeps.regions }

context_moved : (r r' : Resources) → ((space : ℕ) → IsInUse r space → IsInUse r' space) → (o : Option Context) →
    IfSome o (IsContext r) → IfSome o (IsContext r')
context_moved r r' used None here = tt
context_moved r r' used (Some c) here =
    record { steady = here.steady; waiting = here.waiting; hart = here.hart; space = used c.space here.space }

pub resources_kept : (d : Control) (r : Resources) → KeepsLimits d → StayKept d.resources r →
    KeepsLimits (record d { resources = r })
resources_kept d r keeps stays = record {
  slots = keeps.slots;
  contexts = λ slot. context_moved d.resources r stays.used (context_at d.contexts slot) (keeps.contexts slot);
  resources = stays.kept.sound;
  regions = stays.kept.regions;
}

running_moved : (r r' : Resources) (c : Context) → StayKept r r' → IsRunning r c → IsRunning r' c
running_moved r r' c stays here =
    record { steady = here.steady; hart = here.hart; space = stays.used c.space here.space }

-- a word, with other resources
made_kept : (slot : ℕ) (c : Context) (value : ℕ) (r : Resources) (d : Control) → c.phase ≡ Plain → KeepsLimits d →
    IsRunning d.resources c → StayKept d.resources r →
    KeepsLimits (answers_word slot c value (record d { resources = r })).control
made_kept slot c value r d plain keeps here stays =
    word_kept slot c value (record d { resources = r }) plain (resources_kept d r keeps stays)
    (running_moved d.resources r c stays here)

-- THREAD.

started_registers : (sp argument : ℕ) → length (with_register (with_register zero_registers 2 sp) 10 argument) ≡ 32
unfolding zero_registers
started_registers sp argument =
    with_register_length (with_register zero_registers 2 sp) 10 argument (with_register_length zero_registers 2 sp refl)

started_none : (sp argument : ℕ) → register (with_register (with_register zero_registers 2 sp) 10 argument) 0 ≡ 0
unfolding zero_registers
started_none sp argument =
    with_register_zero (with_register zero_registers 2 sp) 10 argument (with_register_zero zero_registers 2 sp refl)

pub new_is_context : (r : Resources) (space pc sp argument : ℕ) → IsInUse r space → pc % 4 ≡ 0 →
    IsContext r (new_context space pc sp argument)
new_is_context r space pc sp argument used aligned = record {
  steady = record {
    registers = started_registers sp argument;
    zero_register = started_none sp argument;
    aligned = aligned;
    phase = tt;
    mark = tt;
  };
  waiting = tt;
  hart = tt;
  space = used;
}

-- What forks and ends leave of contexts and resources.

pub record SpacesKept (s : Spaces) : Type 0 where
  pub slots : length s.contexts ≡ 8
  pub contexts : (slot : ℕ) → IfSome (context_at s.contexts slot) (IsContext s.resources)
  pub kept : AreKept s.resources

spaces_kept : (s : Spaces) (d : Control) → SpacesKept s → KeepsLimits (with_spaces s d)
spaces_kept s d keeps = record {
  slots = keeps.slots;
  contexts = keeps.contexts;
  resources = keeps.kept.sound;
  regions = keeps.kept.regions;
}

child_is_context : (r : Resources) (new : ℕ) (c : Context) → c.phase ≡ Plain → IsSteady c → IsInUse r new →
    IsContext r (child new c)
child_is_context r new c plain s used =
    let moved = word_steady (moved_on c) 10 0 plain (moved_steady c s) in
    record {
      steady = record {
        registers = moved.registers;
        zero_register = moved.zero_register;
        aligned = moved.aligned;
        phase = moved.phase;
        mark = tt;
      };
      waiting = idle_off c.phase;
      hart = tt;
      space = used;
    }

forked_kept : (c : Context) (slot new : ℕ) (r : Resources) (contexts : List (Option Context)) → c.phase ≡ Plain →
    IsSteady c → SpacesKept (record { contexts = contexts; resources = r }) → new < 8 → can_copy c.space r ≡ true →
    SpacesKept (forked c slot new r contexts)
unfolding forked
forked_kept c slot new r contexts plain s keeps low room =
    let stays = fork_stays c.space new r keeps.kept low room in
    record {
      slots = length-set contexts slot (Some (child new c)) ∙ keeps.slots;
      contexts = each_set (IsContext _) contexts slot (Some (child new c))
          (child_is_context _ new c plain s (fork_used c.space new r keeps.kept low))
          (λ k. context_moved r _ stays.used (context_at contexts k) (keeps.contexts k));
      kept = stays.kept;
    }

-- a fork leaves each space in use
pub forked_in_use : (c : Context) (slot new : ℕ) (r : Resources) (contexts : List (Option Context)) (k : ℕ) →
    IsInUse r k → IsInUse (forked c slot new r contexts).resources k
unfolding forked
forked_in_use c slot new r contexts k used = forked_still c.space new k r used

-- Ending.

freed_kept : (slot : ℕ) (r : Resources) (contexts : List (Option Context)) →
    SpacesKept (record { contexts = contexts; resources = r }) →
    SpacesKept (record { contexts = end_at slot contexts; resources = r })
freed_kept slot r contexts keeps = record {
  slots = length-set contexts slot None ∙ keeps.slots;
  contexts = each_set (IsContext r) contexts slot None tt keeps.contexts;
  kept = keeps.kept;
}

none_of : (space : ℕ) (xs : List (Option Context)) (k : ℕ) → list_any (is_of_space space) xs ≡ false →
    IfSome (slice_index_or xs k None) (λ c. c.space ≢ space)
none_of space [] k none = tt
none_of space (x ∷ xs) (suc k) none = none_of space xs k (or_parts (is_of_space space x) _ none).1
none_of space (None ∷ xs) zero none = tt
none_of space (Some c ∷ xs) zero none = eqb-false c.space space (or_parts (is_of_space space (Some c)) _ none).0

dropped_context : (space : ℕ) (r : Resources) (o : Option Context) → IfSome o (λ c. c.space ≢ space) →
    IfSome o (IsContext r) → IfSome o (IsContext (drop_space space r))
dropped_context space r None other here = tt
dropped_context space r (Some c) other here =
    record { steady = here.steady; waiting = here.waiting; hart = here.hart; space = drop_used space c.space r other here.space }

-- Every hypercall, by its kind.

module _ (h : Hypercall) (slot : ℕ) (c : Context) (d : Control) (w : World) (plain : c.phase ≡ Plain)
    (keeps : KeepsLimits d) (here : IsRunning d.resources c) where
  -- what a fork or an end begins with
  now : SpacesKept (record { contexts = d.contexts; resources = d.resources })
  now = record { slots = keeps.slots; contexts = keeps.contexts; kept = are_kept d keeps }

  -- a call that begins
  calling : (phase : Phase) → IsPhase c.regs phase → IsRunning d.resources (in_phase phase (moved_on c))
  calling phase fits = record {
    steady = phase_steady (moved_on c) phase (moved_steady c here.steady) fits;
    hart = here.hart;
    space = here.space;
  }

  kind_kept : (k : CallKind h slot c d w) → KeepsLimits (after h slot c d w k).answer.control
  kind_kept (Answers value fits) = word_kept slot c value d plain keeps here
  kind_kept (MakesNew pages) =
      made_kept slot c _ _ d plain keeps here (new_stays (Space c.space) pages d.resources now.kept here.space)
  kind_kept (MakesFile pages) =
      made_kept slot c _ _ d plain keeps here (file_stays (register c.regs 10) pages d.resources now.kept)
  kind_kept (Maps g) =
      made_kept slot c 0 _ d plain keeps here (map_stays c.space g d.resources now.kept here.space)
  kind_kept (Unmaps start) =
      made_kept slot c 0 _ d plain keeps here (unmap_stays c.space start d.resources now.kept here.space)
  kind_kept (Starts free lowest aligned) =
      word_kept slot c _ _ plain
      (slot_kept d free _ keeps (new_is_context d.resources c.space _ _ _ here.space aligned)) here
  kind_kept (BeginsCopy takes good) =
      stays_kept slot _ d keeps (calling (CopyIn 0) (begins_copy d.resources (moved_on c) takes good)) tt
  kind_kept (Calls good) = leaves_kept slot _ d keeps (calling Waiting (waits_so d.resources (moved_on c) good))
  kind_kept (Stops other) = keeps
  kind_kept (Forks free new is room slots spaces ok) =
      let r = d.resources in
      let rest = and_parts (is_some (first_free d.contexts)) _ room in
      let copy = and_parts (is_some (first_free r.spaces)) (can_copy c.space r) rest.1 in
      let lowest = (first_free-at r.spaces new spaces).0 in
      let places = now.kept.sound.places in
      word_kept slot c _ (with_spaces (forked c free new r d.contexts) d) plain
      (spaces_kept (forked c free new r d.contexts) d
      (forked_kept c free new r d.contexts plain here.steady now (omega (arith, lowest, places)) copy.1))
      (record {
        steady = here.steady;
        hart = here.hart;
        space = forked_in_use c free new r d.contexts c.space here.space;
      })
  kind_kept Ends = spaces_kept _ d (freed_kept slot d.resources d.contexts now)
  kind_kept (EndsSpace is none ok) =
      let freed = freed_kept slot d.resources d.contexts now in
      spaces_kept _ d (record {
        slots = freed.slots;
        contexts = λ k. dropped_context c.space d.resources (context_at (end_at slot d.contexts) k)
            (none_of c.space (end_at slot d.contexts) k none) (freed.contexts k);
        kept = drop_kept c.space d.resources now.kept;
      })

pub hypercall_kept : (h : Hypercall) (slot : ℕ) (c : Context) (d : Control) (w : World) → c.phase ≡ Plain →
    KeepsLimits d → IsRunning d.resources c → KeepsLimits (played (hypercall h slot c d) w).answer.control
hypercall_kept h slot c d w plain keeps here =
    by_kinds (λ t. KeepsLimits t.answer.control) h slot c d w (kind_kept h slot c d w plain keeps here)
