-- Contexts and resources of a program over its step: contexts fit, and there are not more than there may be.
use Rattle.std.proofs.Common.{◌≡◌, ◌∙◌, ℕ, ◌+◌, ◌<◌, ◌≤◌, nat_le, nat_lt, not, List, [], ◌∷◌, length, slice_set, Option, Some, None, IfSome, Result, Ok, Err, refl, sym, subst, arith}
use Rattle.std.specs.Prelude.{◌==◌, ◌||◌, is_none, is_some}
use Rattle.std.specs.List.{AllByRecursion, list_any}
use Rattle.std.proofs.lemmas.List.{length-set, length-map}
use Rattle.cloak_base.specs.Registers.{register}
use Rattle.cloak_model.specs.declared.context.Phase.{Phase}
use Rattle.cloak_model.specs.declared.context.Phase.TheVariants.{Plain, CopyIn, Waiting, CopyOut}
use Rattle.cloak_model.specs.declared.context.ResumeFault.{ResumeFault}
use Rattle.cloak_model.specs.declared.context.PageWord.{PageWord}
use Rattle.cloak_model.specs.declared.context.Why.{Why}
use Rattle.cloak_model.specs.declared.context.Why.TheVariants as why
use Rattle.cloak_model.specs.declared.inside.Copied.{Copied}
use Rattle.cloak_model.specs.declared.inside.Copied.TheVariants as copied
use Rattle.cloak_model.specs.declared.inside.Ran.{Ran}
use Rattle.cloak_model.specs.declared.inside.Ran.TheVariants as ran
use Rattle.cloak_model.specs.declared.inside.Went.{Went}
use Rattle.cloak_model.specs.declared.inside.Went.TheVariants as went
use Rattle.cloak_model.specs.Items as item
use Rattle.cloak_model.specs.declared.resource.MapFault.{MapFault}
use Rattle.cloak_model.specs.declared.resource.MapFault.TheVariants as fault
use Rattle.cloak_model.specs.declared.resource.Owner.{Owner}
use Rattle.cloak_model.specs.declared.resource.Owner.TheVariants.{Space, File}
use Rattle.cloak_model.specs.declared.resource.Region.{Region}
use Rattle.cloak_model.specs.declared.resource.Resource.{Resource}
use Rattle.cloak_model.specs.Asking.{answered}
use Rattle.cloak_model.specs.Calls.{copy_in_step, copy_out_step}
use Rattle.cloak_model.specs.Contexts.{Context, in_phase, moved_on, suspended, context_at, context_number, shown, Resumed, resume_if, resume_at, is_reserved, unless_reserved}
use Rattle.cloak_model.specs.DomainState.{Control, Domain}
use Rattle.cloak_model.specs.DomainStep.{domain_script, DomainStepped, within, with_load, instruction_ended, copy_ended, phase_step, step_if, domain_step, interrupt_if, interrupt, answer_in, answer_taken, resume_told, resume_slot, after_write}
use Rattle.cloak_model.specs.Files.{file_found, file_resource, holds_file}
use Rattle.cloak_model.specs.Fork.{Spaces, marked, private_numbers, copies, with_copy, with_copies, forked_resources, child, forked, copy_each, forget_each}
use Rattle.cloak_model.specs.Hypercalls.{Stepped, with_slot, stays_inside, leaves, stopped, fault_word, with_answer, answers_word, number_word, number_told, with_spaces, Hypercall, hypercall, hypercall_of}
use Rattle.cloak_model.specs.InsideStep.{instruction_inside}
use Rattle.cloak_model.specs.Record.{IsItem, IsWord}
use Rattle.cloak_model.specs.Resources.{Resources, resource_at, regions_in, pages_of, all_pages, first_free, Mapped, refused, made_at, new_resource, is_region, overlaps, mapped, map_region, starts_at, unmap_region, without_space, drop_space}
use Rattle.cloak_model.specs.World.{World}
use Rattle.cloak_model.specs.Script.{played}
use Rattle.cloak_model.proofs.Playing.{by_plain, by_copy_in, by_copy_out, by_ecall}
use Rattle.hypercall_kinds.specs.Kinds.{cleared, CallKind, Answers, MakesNew, MakesFile, Maps, Unmaps, Starts, BeginsCopy, Calls, Stops, Forks, Ends, EndsSpace, remaps, after}
use Rattle.hypercall_kinds.proofs.ByKinds.{by_kinds}
use Rattle.range_law.proofs.Bounds.{all_set, all_or, all_map}
use Rattle.range_law.proofs.Programs.{ContextFits, set_word_fits, moved_on_fits, in_phase_fits, register_fits, new_context_fits, WhyFits, shown_fits, RanFits, instruction_told, CopiedFits, copy_in_told, copy_out_told, finish_call_fits}
use Rattle.range_law.proofs.Worlds.{WorldFits, ToldFits, clear_told, copy_told, forget_told}
use Rattle.cloak_base.proofs.Choices.{either}
use Rattle.cloak_base.proofs.Lists.{place_below}

abbrev pub SlotFits : Option Context → Type 0
SlotFits None = Unit {0}
SlotFits (Some c) = ContextFits c

-- slots: eight of them
pub record SlotsFit (contexts : List (Option Context)) : Type 0 where
  pub few : length contexts ≤ 8
  pub each : AllByRecursion SlotFits contexts

-- numbers of resources: sixteen of them
abbrev pub NumbersFit : Resources → Type 0
NumbersFit r = length r.held ≤ 16

pub record ControlFits (d : Control) : Type 0 where
  pub number : d.number < 4
  pub slots : SlotsFit d.contexts
  pub numbers : NumbersFit d.resources

set_slot : (contexts : List (Option Context)) (slot : ℕ) (o : Option Context) → SlotsFit contexts → SlotFits o →
    SlotsFit (slice_set contexts slot o)
set_slot contexts slot o fits here = let few = fits.few in let same = length-set contexts slot o in record {
  few = omega (arith, few, same);
  each = all_set SlotFits contexts slot o fits.each here;
}

pub with_slot_fits : (slot : ℕ) (c : Context) (d : Control) → ControlFits d → ContextFits c →
    ControlFits (with_slot slot c d)
with_slot_fits slot c d fits here =
    record { number = fits.number; slots = set_slot d.contexts slot (Some c) fits.slots here; numbers = fits.numbers }

pub slot_fits : (contexts : List (Option Context)) (slot : ℕ) → SlotsFit contexts → SlotFits (context_at contexts slot)
slot_fits contexts slot fits = all_or SlotFits contexts slot None fits.each tt

suspended_fits : (c : Context) → ContextFits c → ContextFits (suspended c)
suspended_fits c fits = record { regs = fits.regs; pc = fits.pc }

-- How a step ended.

abbrev pub WentFits : Went → Type 0
WentFits (went.Leave s) = IsItem (item.Leave s)
WentFits (went.SpaceGone space s) = IsItem (item.Leave s)
WentFits _ = Unit {0}

pub record SteppedFits (s : Stepped) : Type 0 where
  pub control : ControlFits s.control
  pub ended : WentFits s.went

stays_fits : (slot : ℕ) (c : Context) (d : Control) → ControlFits d → ContextFits c → SteppedFits (stays_inside slot c d)
stays_fits slot c d fits here = record { control = with_slot_fits slot c d fits here; ended = tt }

number_fits : (d slot : ℕ) → d < 4 → slot < 8 → IsWord (context_number d slot)
number_fits d slot p q = omega (arith, p, q)

leaves_fits : (slot : ℕ) (c : Context) (cause : Why) (d : Control) → slot < 8 → ControlFits d → ContextFits c →
    WhyFits cause → SteppedFits (leaves slot c cause d)
leaves_fits slot c cause d low fits here w = record {
  control = with_slot_fits slot (suspended c) d fits (suspended_fits c here);
  ended = shown_fits c _ cause here (number_fits d.number slot fits.number low) w;
}

stopped_fits : (d : Control) → ControlFits d → SteppedFits (stopped d)
stopped_fits d fits = record { control = fits; ended = tt }

fault_fits : (f : MapFault) → IsWord (fault_word f)
fault_fits fault.Full = omega arith
fault_fits _ = omega arith

answer_fits : (c : Context) (value : ℕ) → ContextFits c → IsWord value → ContextFits (with_answer c value)
answer_fits c value fits here = set_word_fits (moved_on c) 10 value (moved_on_fits c fits) here

word_fits : (slot : ℕ) (c : Context) (value : ℕ) (d : Control) → ControlFits d → ContextFits c → IsWord value →
    SteppedFits (answers_word slot c value d)
word_fits slot c value d fits here below = stays_fits slot _ d fits (answer_fits c value here below)

-- Resources.

abbrev NumberFits : Result ℕ MapFault → Type 0
NumberFits (Ok n) = IsWord n
NumberFits (Err f) = Unit {0}

pub record MadeFits (m : Mapped ℕ) : Type 0 where
  pub answer : NumberFits m.answer
  pub numbers : NumbersFit m.resources

refused_fits : (f : MapFault) (r : Resources) → NumbersFit r → MadeFits (refused f r)
refused_fits f r few = record { answer = tt; numbers = few }

made_at_fits : (owner : Owner) (pages : ℕ) (o : Option ℕ) (r : Resources) → NumbersFit r →
    IfSome o (λ n. n < length r.held) → MadeFits (made_at owner pages o r)
unfolding made_at
made_at_fits owner pages None r few low = refused_fits fault.Full r few
made_at_fits owner pages (Some n) r few low =
    let same = length-set r.held n (Some (record { owner = owner; pages = pages })) in
    record { answer = omega (arith, few, low); numbers = omega (arith, few, same) }

new_fits : (owner : Owner) (pages : ℕ) (r : Resources) → NumbersFit r → MadeFits (new_resource owner pages r)
unfolding new_resource
new_fits owner pages r few =
    either MadeFits ((pages == 0) || nat_lt 1024 pages) _ _ (refused_fits fault.BadArg r few)
    (either MadeFits (nat_lt 1024 (all_pages r + pages)) _ _ (refused_fits fault.Full r few)
    (made_at_fits owner pages (first_free r.held) r few (place_below is_none r.held)))

file_found_fits : (number pages : ℕ) (o : Option ℕ) (r : Resources) → NumbersFit r →
    IfSome o (λ n. n < length r.held) → MadeFits (file_found number pages o r)
unfolding file_found
file_found_fits number pages None r few low = new_fits (File number) pages r few
file_found_fits number pages (Some n) r few low =
    either MadeFits (pages_of (resource_at r n) == pages) _ _ (record {
      answer = omega (arith, few, low);
      numbers = few;
    }) (refused_fits fault.BadArg r few)

pub file_fits : (number pages : ℕ) (r : Resources) → NumbersFit r → MadeFits (file_resource number pages r)
unfolding file_resource
file_fits number pages r few = file_found_fits number pages _ r few (place_below (holds_file number) r.held)

abbrev KeepsNumbers : Resources → Mapped (Unit {0}) → Type 0
KeepsNumbers r m = m.resources.held ≡ r.held

mapped_keeps : (space : ℕ) (g : Region) (size : Option ℕ) (regions : List Region) (r : Resources) →
    KeepsNumbers r (mapped space g size regions r)
unfolding mapped
mapped_keeps space g None regions r = refl
mapped_keeps space g (Some size) regions r =
    either (KeepsNumbers r) (not (is_region g size)) _ _ refl
    (either (KeepsNumbers r) (list_any (overlaps g) regions) _ _ refl
    (either (KeepsNumbers r) (nat_le 16 (length regions)) _ _ refl refl))

map_keeps : (space : ℕ) (g : Region) (r : Resources) → KeepsNumbers r (map_region space g r)
unfolding map_region
map_keeps space g r = mapped_keeps space g _ _ r

unmap_keeps : (space start : ℕ) (r : Resources) → KeepsNumbers r (unmap_region space start r)
unfolding unmap_region
unmap_keeps space start r =
    either (KeepsNumbers r) (not (list_any (starts_at start) (regions_in r space))) _ _ refl refl

-- Hypercalls on resources.

with_resources : (d : Control) (r : Resources) → ControlFits d → NumbersFit r →
    ControlFits (record d { resources = r })
with_resources d r fits few = record { number = fits.number; slots = fits.slots; numbers = few }

number_word_fits : (a : Result ℕ MapFault) → NumberFits a → IsWord (number_word a)
number_word_fits (Ok n) fits = fits
number_word_fits (Err f) fits = fault_fits f

number_told_fits : (slot : ℕ) (c : Context) (made : Mapped ℕ) (d : Control) → ControlFits d → ContextFits c →
    MadeFits made → SteppedFits (number_told slot c made d)
number_told_fits slot c made d fits here m =
    word_fits slot c _ (record d { resources = made.resources }) (with_resources d _ fits m.numbers) here
    (number_word_fits made.answer m.answer)

remaps_fits : (slot : ℕ) (c : Context) (r : Resources) (d : Control) → ControlFits d → ContextFits c →
    r.held ≡ d.resources.held → SteppedFits (remaps slot c r d)
remaps_fits slot c r d fits here same = record {
  control = with_slot_fits slot _ (record d { resources = r })
      (with_resources d r fits (subst (λ (l : List (Option Resource)). length l ≤ 16) (sym same) fits.numbers))
      (answer_fits c 0 here (omega arith));
  ended = tt;
}

-- a free slot is one of eight
free_low : (contexts : List (Option Context)) (free : ℕ) → SlotsFit contexts → first_free contexts ≡ Some free →
    free < 8
free_low contexts free fits is =
    let few = fits.few in
    let low = subst (λ (o : Option ℕ). IfSome o (λ n. n < length contexts)) is (place_below is_none contexts) in
    omega (arith, few, low)

-- Forking.

pub record SpacesFit (s : Spaces) : Type 0 where
  pub slots : SlotsFit s.contexts
  pub numbers : NumbersFit s.resources

with_spaces_fits : (s : Spaces) (d : Control) → ControlFits d → SpacesFit s → ControlFits (with_spaces s d)
with_spaces_fits s d fits spaces =
    record { number = fits.number; slots = spaces.slots; numbers = spaces.numbers }

copies_count : (new : ℕ) (held : List (Option Resource)) (list : List (ℕ × ℕ)) (r : Resources) →
    length (with_copies new held list r) ≡ length held
copies_count new held [] r = refl
copies_count new held (copy ∷ rest) r =
    copies_count new (with_copy new held copy r) rest r ∙ length-set held copy.1 _

child_fits : (new : ℕ) (c : Context) → ContextFits c → ContextFits (child new c)
child_fits new c fits =
    let moved = set_word_fits (moved_on c) 10 0 (moved_on_fits c fits) (omega arith) in
    record { regs = moved.regs; pc = moved.pc }

forked_fits : (c : Context) (slot new : ℕ) (r : Resources) (contexts : List (Option Context)) → ContextFits c →
    NumbersFit r → SlotsFit contexts → SpacesFit (forked c slot new r contexts)
unfolding forked forked_resources
forked_fits c slot new r contexts here few slots = let same = copies_count new r.held (copies c.space r) r in record {
  slots = set_slot contexts slot (Some (child new c)) slots (child_fits new c here);
  numbers = omega (arith, few, same);
}

copies_fit : (domain : ℕ) (list : List (ℕ × ℕ)) (w : World) → WorldFits w →
    WorldFits (played (copy_each domain list) w).world
unfolding copy_each
copies_fit domain [] w world = world
copies_fit domain (copy ∷ rest) w world = copies_fit domain rest _ (copy_told domain copy.0 copy.1 w world).world

-- Ending.

pub forgets_fit : (domain : ℕ) (numbers : List ℕ) (w : World) → WorldFits w →
    WorldFits (played (forget_each domain numbers) w).world
unfolding forget_each
forgets_fit domain [] w world = world
forgets_fit domain (n ∷ rest) w world = forgets_fit domain rest _ (forget_told domain n w world).world

drop_fits : (space : ℕ) (r : Resources) → NumbersFit r → NumbersFit (drop_space space r)
unfolding drop_space
drop_fits space r few = let same = length-map r.held (without_space space) in omega (arith, few, same)

exit_fits : (slot : ℕ) (c : Context) (d : Control) → slot < 8 → ControlFits d → ContextFits c →
    IsItem (item.Leave (shown c (context_number d.number slot) why.Exit))
exit_fits slot c d low fits here = shown_fits c _ why.Exit here (number_fits d.number slot fits.number low) tt

at_once : (s : Stepped) (w : World) → SteppedFits s → WorldFits w → ToldFits SteppedFits (answered s w)
at_once s w fits world = record { answer = fits; world = world }

-- Every hypercall, by its kind.

module _ (h : Hypercall) (slot : ℕ) (c : Context) (d : Control) (w : World) (low : slot < 8) (fits : ControlFits d)
    (here : ContextFits c) (world : WorldFits w) where
  settled : WorldFits (cleared c d w).world
  settled = (clear_told d.number (marked c.space d.resources) w world).world

  calling : (phase : Phase) → ContextFits (in_phase phase (moved_on c))
  calling phase = in_phase_fits phase (moved_on c) (moved_on_fits c here)

  kind_told : (k : CallKind h slot c d w) → ToldFits SteppedFits (after h slot c d w k)
  kind_told (Answers value word) = at_once _ w (word_fits slot c value d fits here word) world
  kind_told (MakesNew pages) =
      at_once _ w (number_told_fits slot c _ d fits here (new_fits (Space c.space) pages d.resources fits.numbers))
      world
  kind_told (MakesFile pages) =
      at_once _ w
      (number_told_fits slot c _ d fits here (file_fits (register c.regs 10) pages d.resources fits.numbers)) world
  kind_told (Maps g) = at_once _ w (remaps_fits slot c _ d fits here (map_keeps c.space g d.resources)) world
  kind_told (Unmaps start) =
      at_once _ w (remaps_fits slot c _ d fits here (unmap_keeps c.space start d.resources)) world
  kind_told (Starts free lowest aligned) =
      at_once _ w
      (word_fits slot c _ _
      (with_slot_fits free _ d fits
      (new_context_fits c.space _ _ _ (register_fits c 10 here) (register_fits c 11 here) (register_fits c 12 here)))
      here (number_fits d.number free fits.number (free_low d.contexts free fits.slots lowest))) world
  kind_told (BeginsCopy takes good) = at_once _ w (stays_fits slot _ d fits (calling (CopyIn 0))) world
  kind_told (Calls good) = at_once _ w (leaves_fits slot _ why.Call d low fits (calling Waiting) tt) world
  kind_told (Stops other) = record { answer = stopped_fits d fits; world = settled }
  kind_told (Forks free new is room slots spaces ok) = record {
    answer = word_fits slot c _ _
        (with_spaces_fits (forked c free new d.resources d.contexts) d fits
        (forked_fits c free new d.resources d.contexts here fits.numbers fits.slots)) here
        (number_fits d.number free fits.number (free_low d.contexts free fits.slots slots));
    world = copies_fit d.number (copies c.space d.resources) _ settled;
  }
  kind_told Ends = record {
    answer = record {
      control = with_spaces_fits _ d fits (record {
        slots = set_slot d.contexts slot None fits.slots tt;
        numbers = fits.numbers;
      });
      ended = exit_fits slot c d low fits here;
    };
    world = world;
  }
  kind_told (EndsSpace is none ok) = record {
    answer = record {
      control = with_spaces_fits _ d fits (record {
        slots = set_slot d.contexts slot None fits.slots tt;
        numbers = drop_fits c.space d.resources fits.numbers;
      });
      ended = exit_fits slot c d low fits here;
    };
    world = forgets_fit d.number (private_numbers c.space d.resources) _ settled;
  }

  hypercall_told : ToldFits SteppedFits (played (hypercall h slot c d) w)
  hypercall_told = by_kinds (λ t. ToldFits SteppedFits t) h slot c d w kind_told

-- The step.

pub record DomainStepFits (s : DomainStepped) : Type 0 where
  pub control : ControlFits s.domain.control
  pub ended : WentFits s.went

step_of : (d : Domain) (s : Stepped) → SteppedFits s → DomainStepFits (within d s)
step_of d s fits = record { control = fits.control; ended = fits.ended }

done_told : (d : Domain) (s : Stepped) (w : World) → SteppedFits s → WorldFits w →
    ToldFits DomainStepFits (answered (within d s) w)
done_told d s w fits world = record { answer = step_of d s fits; world = world }

instruction_ended_told : (slot : ℕ) (d : Domain) (c : Context) (e : Ran) (w : World) → slot < 8 →
    ControlFits d.control → ContextFits c → RanFits e → WorldFits w →
    ToldFits DomainStepFits (played (instruction_ended slot d c e) w)
unfolding instruction_ended
instruction_ended_told slot d c ran.Stay w low fits here e world =
    done_told d _ w (stays_fits slot c d.control fits here) world
instruction_ended_told slot d c (ran.Loaded address value) w low fits here e world =
    done_told (with_load address value d) _ w (stays_fits slot c d.control fits here) world
instruction_ended_told slot d c (ran.Trap cause address) w low fits here e world =
    done_told d _ w (leaves_fits slot c (why.Trap cause address) d.control low fits here e) world
instruction_ended_told slot d c ran.Ecall w low fits here e world =
    let told = hypercall_told (hypercall_of c) slot c d.control w low fits here world in
    by_ecall (ToldFits DomainStepFits) slot d c w (done_told d _ _ told.answer told.world)
instruction_ended_told slot d c ran.Stopped w low fits here e world =
    done_told d _ w (stopped_fits d.control fits) world

copy_ended_fits : (slot : ℕ) (d : Domain) (c : Context) (e : Copied) → slot < 8 → ControlFits d.control →
    ContextFits c → CopiedFits e → DomainStepFits (copy_ended slot d c e)
unfolding copy_ended
copy_ended_fits slot d c copied.CallReady low fits here e =
    step_of d _ (leaves_fits slot c why.Call d.control low fits here tt)
copy_ended_fits slot d c (copied.Absent cause address) low fits here e =
    step_of d _ (leaves_fits slot c (why.Trap cause address) d.control low fits here e)
copy_ended_fits slot d c copied.Stopped low fits here e = step_of d _ (stopped_fits d.control fits)
copy_ended_fits slot d c (copied.Loaded address byte) low fits here e =
    step_of (with_load address byte d) _ (stays_fits slot c d.control fits here)
copy_ended_fits slot d c _ low fits here e = step_of d _ (stays_fits slot c d.control fits here)

-- a word was written in

unreserved_fits : (place : PageWord) (o : Option Context) → SlotFits o → SlotFits (unless_reserved place o)
unreserved_fits place None fits = tt
unreserved_fits place (Some c) fits =
    either ContextFits (is_reserved place c.mark) (record c { mark = None }) c (record {
      regs = fits.regs;
      pc = fits.pc;
    }) fits

after_write_fits : (wrote : Option PageWord) (s : DomainStepped) → DomainStepFits s →
    DomainStepFits (after_write wrote s)
after_write_fits None s fits = fits
after_write_fits (Some place) s fits =
    let contexts : List (Option Context) = s.domain.control.contexts in
    let few = fits.control.slots.few in
    let same = length-map contexts (unless_reserved place) in
    record {
      control = record {
        number = fits.control.number;
        slots = record {
          few = omega (arith, few, same);
          each = all_map SlotFits SlotFits (unless_reserved place) contexts (unreserved_fits place)
              fits.control.slots.each;
        };
        numbers = fits.control.numbers;
      };
      ended = fits.ended;
    }

phase_told : (phase : Phase) (slot : ℕ) (c : Context) (d : Domain) (w : World) → slot < 8 → ControlFits d.control →
    ContextFits c → WorldFits w → ToldFits DomainStepFits (played (phase_step phase slot c d) w)
unfolding phase_step
phase_told Plain slot c d w low fits here world =
    let t = played (instruction_inside d.control.number d.control.resources c) w in
    let made = instruction_told d.control.number d.control.resources c w here world in
    let ended = instruction_ended_told slot d t.answer.context t.answer.ending t.world low fits made.answer.context
    made.answer.ending made.world in
    by_plain (ToldFits DomainStepFits) slot c d w
    (record { answer = after_write_fits t.answer.wrote _ ended.answer; world = ended.world })
phase_told (CopyIn done) slot c d w low fits here world =
    let k = (played (copy_in_step d.control.number d.control.resources c done) w).answer in
    let copy = copy_in_told d.control.number d.control.resources c done w here world in
    by_copy_in (ToldFits DomainStepFits) done slot c d w (record {
      answer = copy_ended_fits slot d k.context k.ending low fits copy.answer.context copy.answer.ending;
      world = copy.world;
    })
phase_told Waiting slot c d w low fits here world = done_told d _ w (stays_fits slot c d.control fits here) world
phase_told (CopyOut done total) slot c d w low fits here world =
    let k = (played (copy_out_step d.control.number d.control.resources c done total) w).answer in
    let copy = copy_out_told d.control.number d.control.resources c done total w here world in
    by_copy_out (ToldFits DomainStepFits) done total slot c d w (record {
      answer = after_write_fits k.wrote _
          (copy_ended_fits slot d k.context k.ending low fits copy.answer.context copy.answer.ending);
      world = copy.world;
    })

step_if_told : (o : Option Context) (slot : ℕ) (d : Domain) (w : World) → slot < 8 → ControlFits d.control →
    SlotFits o → WorldFits w → ToldFits DomainStepFits (played (step_if o slot d) w)
unfolding step_if
step_if_told None slot d w low fits here world =
    record { answer = record { control = fits; ended = tt }; world = world }
step_if_told (Some c) slot d w low fits here world = phase_told c.phase slot c d w low fits here world

pub domain_step_told : (slot : ℕ) (d : Domain) (w : World) → slot < 8 → ControlFits d.control → WorldFits w →
    ToldFits DomainStepFits (domain_step slot d w)
unfolding domain_step domain_script
domain_step_told slot d w low fits world =
    step_if_told _ slot d w low fits (slot_fits d.control.contexts slot fits.slots) world

-- Interrupts.

interrupt_if_fits : (o : Option Context) (slot : ℕ) (d : Control) → slot < 8 → ControlFits d → SlotFits o →
    SteppedFits (interrupt_if o slot d)
unfolding interrupt_if
interrupt_if_fits None slot d low fits here = record { control = fits; ended = tt }
interrupt_if_fits (Some c) slot d low fits here =
    leaves_fits slot c (why.Trap 0x80000005 0) d low fits here (omega arith, omega arith)

pub interrupt_fits : (slot : ℕ) (d : Control) → slot < 8 → ControlFits d → SteppedFits (interrupt slot d)
unfolding interrupt
interrupt_fits slot d low fits = interrupt_if_fits _ slot d low fits (slot_fits d.contexts slot fits.slots)

-- Resuming.

answer_in_fits : (phase : Phase) (answer : ℕ) (c : Context) → ContextFits c → IsWord answer →
    ContextFits (answer_in phase answer c)
unfolding answer_in
answer_in_fits Waiting answer c fits here = finish_call_fits answer c fits here
answer_in_fits _ answer c fits here = fits

taken_fits : (slot answer : ℕ) (o : Option Context) (d : Control) → ControlFits d → SlotFits o → IsWord answer →
    ControlFits (answer_taken slot answer o d)
unfolding answer_taken
taken_fits slot answer None d fits here word = fits
taken_fits slot answer (Some c) d fits here word =
    with_slot_fits slot _ d fits (answer_in_fits c.phase answer c here word)

resume_told_fits : (slot answer : ℕ) (a : Result (Unit {0}) ResumeFault) (d : Control) → ControlFits d →
    IsWord answer → ControlFits (resume_told slot answer a d).control
unfolding resume_told
resume_told_fits slot answer (Err f) d fits word = fits
resume_told_fits slot answer (Ok done) d fits word =
    taken_fits slot answer _ d fits (slot_fits d.contexts slot fits.slots) word

abbrev ResumedFits : Resumed → Type 0
ResumedFits r = SlotsFit r.contexts

resume_if_fits : (slot hart : ℕ) (o : Option Context) (contexts : List (Option Context)) → SlotsFit contexts →
    SlotFits o → ResumedFits (resume_if slot hart o contexts)
unfolding resume_if
resume_if_fits slot hart None contexts fits here = fits
resume_if_fits slot hart (Some c) contexts fits here =
    either ResumedFits (is_some c.on) _ _ fits
    (set_slot contexts slot _ fits (record { regs = here.regs; pc = here.pc }))

resume_at_fits : (slot hart : ℕ) (contexts : List (Option Context)) → SlotsFit contexts →
    SlotsFit (resume_at slot hart contexts).contexts
unfolding resume_at
resume_at_fits slot hart contexts fits = resume_if_fits slot hart _ contexts fits (slot_fits contexts slot fits)

pub resume_slot_fits : (slot hart answer : ℕ) (d : Control) → ControlFits d → IsWord answer →
    ControlFits (resume_slot slot hart answer d).control
unfolding resume_slot
resume_slot_fits slot hart answer d fits word =
    resume_told_fits slot answer _ _
    (record { number = fits.number; slots = resume_at_fits slot hart d.contexts fits.slots; numbers = fits.numbers }) word
