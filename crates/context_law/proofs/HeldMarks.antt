-- Each program keeps it over every step: a reservation of a context is of a resource that its space may map.
use Rattle.std.proofs.Common.{◌≡◌, ◌≢◌, ℕ, zero, suc, ◌+◌, Bool, true, false, cond, List, [], ◌∷◌, length, map, slice_set, slice_index_or, Option, Some, None, Result, Ok, Err, refl, sym, ap, subst}
use Rattle.std.specs.Prelude.{IfSome, replicate, is_some, nat_le, ◌==◌, ◌%◌}
use Rattle.std.specs.List.{list_any}
use Rattle.std.proofs.lemmas.Bool.{false≢true, cond_both, or_parts, eqb-false}
use Rattle.cloak_base.proofs.Choices.{either}
use Rattle.cloak_base.specs.Registers.{register}
use Rattle.cloak_base.specs.declared.names.PageId.{PageId}
use Rattle.rv_atomic.specs.Table.{atomic_instruction}
use Rattle.rv_atomic.specs.declared.atomic.Atomic.{Atomic}
use Rattle.rv_atomic.specs.declared.atomic.AtomicOp.{AtomicOp}
use Rattle.rv_atomic.specs.declared.atomic.AtomicOp.TheVariants.{Lr, Sc}
use Rattle.rv_isa.specs.Table.{instruction}
use Rattle.rv_isa.specs.declared.instr.Instr.{Instr}
use Rattle.rv_isa.specs.declared.instr.Instr.TheVariants as instr
use Rattle.cloak_model.specs.declared.answer.Answer.{Answer}
use Rattle.cloak_model.specs.declared.answer.Answer.TheVariants as told
use Rattle.cloak_model.specs.declared.context.Phase.{Phase}
use Rattle.cloak_model.specs.declared.context.Phase.TheVariants.{Plain, CopyIn, Waiting, CopyOut}
use Rattle.cloak_model.specs.declared.context.PageWord.{PageWord}
use Rattle.cloak_model.specs.declared.context.ResumeFault.{ResumeFault}
use Rattle.cloak_model.specs.declared.image.Bundle.{Bundle}
use Rattle.cloak_model.specs.declared.image.Program.{Program}
use Rattle.cloak_model.specs.declared.inside.Copied.{Copied}
use Rattle.cloak_model.specs.declared.inside.Copied.TheVariants as copied
use Rattle.cloak_model.specs.declared.inside.Ran.{Ran}
use Rattle.cloak_model.specs.declared.inside.Ran.TheVariants as ran
use Rattle.cloak_model.specs.declared.outcome.Effect.{Effect}
use Rattle.cloak_model.specs.declared.outcome.Effect.TheVariants as does
use Rattle.cloak_model.specs.declared.resource.Owner.TheVariants.{Space}
use Rattle.cloak_model.specs.Beginning.{Beginning, opening_from}
use Rattle.cloak_model.specs.Bundle.{IsInGrammar}
use Rattle.cloak_model.specs.Calls as calls
use Rattle.cloak_model.specs.Calls.{Copy, buffer, area, call_length, byte_address, is_cloaked, copy_in_step, copy_out_step, finish_call}
use Rattle.cloak_model.specs.Cloaking.{CloakedMemory}
use Rattle.cloak_model.specs.Contexts.{Context, context_at, with_context, set_word, in_phase, moved_on, suspended, new_context, word_of_page, is_reserved, unless_reserved, end_at, started_contexts, Resumed, resume_if, resume_at}
use Rattle.cloak_model.specs.DomainState.{Control, Domain, started_control, started_domain}
use Rattle.cloak_model.specs.DomainStep.{DomainStepped, domain_script, instruction_ended, copy_ended, after_write, phase_step, step_if, domain_step, interrupt_if, interrupt, answer_in, answer_taken, resume_told, resume_slot}
use Rattle.cloak_model.specs.Effect.{effect}
use Rattle.cloak_model.specs.Ending.{ended_domain}
use Rattle.cloak_model.specs.Files.{file_resource}
use Rattle.cloak_model.specs.Fork.{forked, forked_resources, child, is_of_space}
use Rattle.cloak_model.specs.Hypercalls.{Hypercall, hypercall, hypercall_of, with_answer, answers_word}
use Rattle.cloak_model.specs.InsideStep as inside
use Rattle.cloak_model.specs.InsideStep.{AfterInstruction, instruction_inside}
use Rattle.cloak_model.specs.KernelStep.{misaligned}
use Rattle.cloak_model.specs.Opening.{RunEdge, started_joint, started_domains}
use Rattle.cloak_model.specs.Parts.{Joint}
use Rattle.cloak_model.specs.declared.resource.Resource.{Resource}
use Rattle.cloak_model.specs.Resources.{Resources, resource_at, size_for, page_at, drop_space, started_resources, new_resource, map_region, unmap_region}
use Rattle.cloak_model.specs.Run.{Run, run_from}
use Rattle.cloak_model.specs.Script.{Script, played}
use Rattle.cloak_model.specs.World.{World}
use Rattle.cloak_model.proofs.Playing.{by_plain, by_copy_in, by_copy_out, by_ecall}
use Rattle.hypercall_kinds.specs.Kinds.{CallKind, Answers, MakesNew, MakesFile, Maps, Unmaps, Starts, BeginsCopy, Calls, Stops, Forks, Ends, EndsSpace, after}
use Rattle.hypercall_kinds.proofs.ByKinds.{by_kinds}
use Rattle.kernel_isolation.specs.Isolation.{joint_until}
use Rattle.resource_map.specs.Kept.{IsSound}
use Rattle.resource_map.proofs.Lists.{get_or-replicate_none}
use Rattle.frozen_state.specs.Limits.{IsContext, KeepsLimits}
use Rattle.limit_law.proofs.Contexts.{AllEnds, at_end, instruction_one}
use Rattle.limit_law.proofs.Hypercalls.{each_set}
use Rattle.limit_law.proofs.Moments.{IsKept, at_every_moment}
use Rattle.limit_law.proofs.Openings.{begins, with_made, given_all}
use Rattle.limit_law.proofs.Pages.{pages_there}
use Rattle.limit_law.proofs.Programs.{AllOf, KeptInside, step_all}
use Rattle.limit_law.proofs.Runs.{JointKeeps, opened_keep, next_is_low, limits_are_kept}
use Rattle.limit_law.proofs.Turns.{Keeps}
use Rattle.latest_store.proofs.Numbers.{may_map}
use Rattle.context_law.specs.Inside.{ContextsReserveUsed}
use Rattle.context_law.proofs.MarkedPages.{MayMap, MapsAsMuch, page_may, new_as_much, file_as_much, map_as_much, unmap_as_much, fork_as_much, drop_maps}

-- A mark of a context of this space.
abbrev pub IsMarkIn : Resources → ℕ → Option PageWord → Type 0
IsMarkIn r space mark = IfSome mark (λ word. MayMap r space word.resource)

abbrev pub HoldsMark : Resources → Context → Type 0
HoldsMark r c = IsMarkIn r c.space c.mark

abbrev pub HoldsAll : List (Option Context) → Resources → Type 0
HoldsAll contexts r = (slot : ℕ) → IfSome (context_at contexts slot) (HoldsMark r)

abbrev pub HoldsMarks : Domain → Type 0
HoldsMarks d = HoldsAll d.control.contexts d.control.resources

-- with other resources
mark_moved : (r r' : Resources) (space : ℕ) (mark : Option PageWord) →
    ((n : ℕ) → MayMap r space n → MayMap r' space n) → IsMarkIn r space mark → IsMarkIn r' space mark
mark_moved r r' space None more here = tt
mark_moved r r' space (Some word) more here = more word.resource here

context_moved : (r r' : Resources) (o : Option Context) → MapsAsMuch r r' → IfSome o (HoldsMark r) →
    IfSome o (HoldsMark r')
context_moved r r' None more here = tt
context_moved r r' (Some c) more here = mark_moved r r' c.space c.mark (more c.space) here

all_moved : (r r' : Resources) (contexts : List (Option Context)) → MapsAsMuch r r' → HoldsAll contexts r →
    HoldsAll contexts r'
all_moved r r' contexts more all slot = context_moved r r' (context_at contexts slot) more (all slot)

-- one slot
slot_set : (r : Resources) (contexts : List (Option Context)) (slot : ℕ) (o : Option Context) →
    IfSome o (HoldsMark r) → HoldsAll contexts r → HoldsAll (slice_set contexts slot o) r
slot_set r contexts slot o here all k = each_set (HoldsMark r) contexts slot o here all k

-- Instructions, whatever is answered.

abbrev MarksWell : Resources → Context → AfterInstruction → Type 0
MarksWell r c a = IsMarkIn r c.space a.context.mark

abbrev Leaves : Resources → Context → Script AfterInstruction → Type 0
Leaves r c s = AllEnds (MarksWell r c) s

module _ (r : Resources) (c : Context) (here : HoldsMark r c) where
  reached_well : (va : ℕ) (a : Answer) (next : Script AfterInstruction) → Leaves r c next →
      Leaves r c (inside.if_reached c va a next)
  reached_well va told.Ok next more = more
  reached_well va _ next more = here

  got_well : (va : ℕ) (a : Answer) (next : ℕ → Script AfterInstruction) →
      ((value : ℕ) → Leaves r c (next value)) → Leaves r c (inside.if_got c va a next)
  got_well va (told.Word value) next more = more value
  got_well va _ next more = here

  load_well : (rd va width : ℕ) (signed : Bool) (place : Option PageId) →
      Leaves r c (inside.load_inside c rd va width signed place)
  unfolding inside.load_inside
  load_well rd va width signed None = λ a. got_well va a _ (λ value. here)
  load_well rd va width signed (Some q) = λ a. reached_well va a _ (λ value. here)

  store_well : (va width value : ℕ) (place : Option PageId) → Leaves r c (inside.store_inside c va width value place)
  unfolding inside.store_inside
  store_well va width value None = λ a. reached_well va a _ here
  store_well va width value (Some q) = λ a. reached_well va a _ here

  granted_well : (rd : ℕ) (op : AtomicOp) (q : PageId) (va operand : ℕ) → MayMap r c.space q.resource →
      Leaves r c (inside.atomic_granted c rd op q va operand)
  unfolding inside.atomic_granted
  granted_well rd Lr q va operand may = λ old. may
  granted_well rd Sc q va operand may = either (Leaves r c) (is_reserved (word_of_page q va) c.mark) _ _ tt tt
  granted_well rd _ q va operand may = λ old. here

  placed_well : (rd : ℕ) (op : AtomicOp) (va operand : ℕ) (place : Option PageId) →
      IfSome place (λ q. MayMap r c.space q.resource) → Leaves r c (inside.atomic_placed c rd op va operand place)
  unfolding inside.atomic_placed
  placed_well rd op va operand None may = here
  placed_well rd op va operand (Some q) may = λ a. reached_well va a _ (granted_well rd op q va operand may)

  atomic_well : (domain : ℕ) (a : Option Atomic) → IsSound r → Leaves r c (inside.atomic_inside domain r c a)
  unfolding inside.atomic_inside
  atomic_well domain None sound = here
  atomic_well domain (Some a) sound =
      let va = register c.regs a.rs1 in
      either (Leaves r c) (va % 4 == 0) (inside.atomic_placed c a.rd a.op va (register c.regs a.rs2) (page_at domain r c.space va))
      (inside.traps c (misaligned a.op) va)
      (placed_well a.rd a.op va (register c.regs a.rs2) (page_at domain r c.space va) (page_may domain r c.space va sound)) here

  system_well : (i : Instr) → Leaves r c (inside.system_inside c i)
  unfolding inside.system_inside
  system_well instr.Ecall = here
  system_well instr.Ebreak = here
  system_well _ = here

  done_well : (domain : ℕ) (i : Instr) (e : Effect) → Leaves r c (inside.done_inside domain r c i e)
  unfolding inside.done_inside
  done_well domain i (does.Load rd va width signed) = load_well rd va width signed (page_at domain r c.space va)
  done_well domain i (does.Store va width value) = store_well va width value (page_at domain r c.space va)
  done_well domain i does.System = system_well i
  done_well domain i _ = here

  decoded_well : (domain word : ℕ) (i : Option Instr) → IsSound r → Leaves r c (inside.decoded_inside domain r c word i)
  unfolding inside.decoded_inside
  decoded_well domain word None sound = atomic_well domain (atomic_instruction word) sound
  decoded_well domain word (Some i) sound = done_well domain i (effect i c.regs c.pc)

  fetch_well : (domain : ℕ) (place : Option PageId) → IsSound r → Leaves r c (inside.fetch domain r c place)
  unfolding inside.fetch
  fetch_well domain None sound = here
  fetch_well domain (Some q) sound =
      λ a. reached_well c.pc a _ (λ word. decoded_well domain word (instruction word) sound)

  instruction_well : (domain : ℕ) (w : World) → IsSound r → MarksWell r c (played (instruction_inside domain r c) w).answer
  unfolding instruction_inside
  instruction_well domain w sound =
      at_end (MarksWell r c) (inside.fetch domain r c (page_at domain r c.space c.pc)) w
      (fetch_well domain (page_at domain r c.space c.pc) sound)

-- A byte of a call: the reservation stays, in the same space.

record SameMark (c : Context) (k : Copy) : Type 0 where
  pub mark : k.context.mark ≡ c.mark
  pub space : k.context.space ≡ c.space

abbrev Copies : Context → Script Copy → Type 0
Copies c s = AllEnds (SameMark c) s

module _ (c : Context) where
  copy_reached : (va : ℕ) (a : Answer) (next : Script Copy) → Copies c next → Copies c (calls.if_reached c va a next)
  copy_reached va told.Ok next more = more
  copy_reached va _ next more = record { mark = refl; space = refl }

  copy_got : (va : ℕ) (a : Answer) (next : ℕ → Script Copy) → ((byte : ℕ) → Copies c (next byte)) →
      Copies c (calls.if_got c va a next)
  copy_got va (told.Word byte) next more = more byte
  copy_got va _ next more = record { mark = refl; space = refl }

  copy_apart : (place : Option PageId) (cloaked : Bool) (next : PageId → Script Copy) →
      ((q : PageId) → Copies c (next q)) → Copies c (calls.if_apart c place cloaked next)
  copy_apart (Some q) false next more = more q
  copy_apart _ _ next more = record { mark = refl; space = refl }

  in_same : (domain : ℕ) (r : Resources) (done : ℕ) (w : World) →
      SameMark c (played (copy_in_step domain r c done) w).answer
  unfolding copy_in_step
  in_same domain r done w =
      let from : ℕ = byte_address (buffer c) done in
      let to : ℕ = byte_address (area c) done in
      at_end (SameMark c) (copy_in_step domain r c done) w
      (cond_both (nat_le (call_length c) done) _ _ (Copies c) (λ is. record { mark = refl; space = refl })
      (λ is. copy_apart (page_at domain r c.space from) (is_cloaked r c to) _
      (λ q a. copy_reached from a _ (λ byte b. copy_reached to b _ (record { mark = refl; space = refl })))))

  out_same : (domain : ℕ) (r : Resources) (done total : ℕ) (w : World) →
      SameMark c (played (copy_out_step domain r c done total) w).answer
  unfolding copy_out_step
  out_same domain r done total w =
      let from : ℕ = byte_address (area c) done in
      let to : ℕ = byte_address (buffer c) done in
      at_end (SameMark c) (copy_out_step domain r c done total) w
      (cond_both (nat_le total done) _ _ (Copies c) (λ is. record { mark = refl; space = refl })
      (λ is. copy_apart (page_at domain r c.space to) (is_cloaked r c from) _
      (λ q a. copy_got from a _ (λ byte b. copy_reached to b _ (record { mark = refl; space = refl })))))

-- Hypercalls.

none_of : (space : ℕ) (xs : List (Option Context)) (k : ℕ) → list_any (is_of_space space) xs ≡ false →
    IfSome (slice_index_or xs k None) (λ c. c.space ≢ space)
none_of space [] k none = tt
none_of space (x ∷ xs) (suc k) none = none_of space xs k (or_parts (is_of_space space x) _ none).1
none_of space (None ∷ xs) zero none = tt
none_of space (Some c ∷ xs) zero none = eqb-false c.space space (or_parts (is_of_space space (Some c)) _ none).0

dropped_holds : (space : ℕ) (r : Resources) (o : Option Context) → IfSome o (λ c. c.space ≢ space) →
    IfSome o (HoldsMark r) → IfSome o (HoldsMark (drop_space space r))
dropped_holds space r None other here = tt
dropped_holds space r (Some c) other here =
    mark_moved r (drop_space space r) c.space c.mark (λ n. drop_maps space c.space n r other) here

module _ (h : Hypercall) (slot : ℕ) (c : Context) (d : Control) (w : World) (all : HoldsAll d.contexts d.resources)
    (here : HoldsMark d.resources c)
  where
    abbrev Holds : Control → Type 0
    Holds d' = HoldsAll d'.contexts d'.resources

    -- a word is answered, and resources are others
    word_holds : (value : ℕ) (r : Resources) (contexts : List (Option Context)) → MapsAsMuch d.resources r →
        HoldsAll contexts r →
        Holds (answers_word slot c value (record d { contexts = contexts; resources = r })).control
    word_holds value r contexts more each =
        slot_set r contexts slot (Some (with_answer c value)) (mark_moved d.resources r c.space c.mark (more c.space) here)
        each

    made_holds : (value : ℕ) (r : Resources) → MapsAsMuch d.resources r →
        Holds (answers_word slot c value (record d { resources = r })).control
    made_holds value r more = word_holds value r d.contexts more (all_moved d.resources r d.contexts more all)

    kind_holds : (k : CallKind h slot c d w) → Holds (after h slot c d w k).answer.control
    unfolding forked
    kind_holds (Answers value fits) = made_holds value d.resources (λ space n may. may)
    kind_holds (MakesNew pages) = made_holds _ (new_resource (Space c.space) pages d.resources).resources
        (new_as_much (Space c.space) pages d.resources)
    kind_holds (MakesFile pages) = made_holds _ (file_resource (register c.regs 10) pages d.resources).resources
        (file_as_much (register c.regs 10) pages d.resources)
    kind_holds (Maps g) = made_holds 0 (map_region c.space g d.resources).resources (map_as_much c.space g d.resources)
    kind_holds (Unmaps start) = made_holds 0 (unmap_region c.space start d.resources).resources
        (unmap_as_much c.space start d.resources)
    kind_holds (Starts free lowest aligned) =
        let k = new_context c.space (register c.regs 10) (register c.regs 11) (register c.regs 12) in
        word_holds _ d.resources (with_context free k d.contexts) (λ space n may. may)
        (slot_set d.resources d.contexts free (Some k) tt all)
    kind_holds (BeginsCopy takes good) =
        slot_set d.resources d.contexts slot (Some (in_phase (CopyIn 0) (moved_on c))) here all
    kind_holds (Calls good) =
        slot_set d.resources d.contexts slot (Some (suspended (in_phase Waiting (moved_on c)))) tt all
    kind_holds (Stops other) = all
    kind_holds (Forks free new is room slots spaces ok) =
        let r = forked_resources c.space new d.resources in
        let more = fork_as_much c.space new d.resources in
        word_holds _ r (with_context free (child new c) d.contexts) more
        (slot_set r d.contexts free (Some (child new c)) tt (all_moved d.resources r d.contexts more all))
    kind_holds Ends = slot_set d.resources d.contexts slot None tt all
    kind_holds (EndsSpace is none ok) =
        λ k. dropped_holds c.space d.resources (context_at (end_at slot d.contexts) k)
        (none_of c.space (end_at slot d.contexts) k none) (slot_set d.resources d.contexts slot None tt all k)

    pub hypercall_holds : Holds (played (hypercall h slot c d) w).answer.control
    hypercall_holds = by_kinds (λ t. Holds t.answer.control) h slot c d w kind_holds

-- A step of a program.

space_mark : (r : Resources) (c k : Context) → k.space ≡ c.space → IsMarkIn r c.space k.mark → HoldsMark r k
space_mark r c k same here = subst (λ (space : ℕ). IsMarkIn r space k.mark) (sym same) here

ended_holds : (slot : ℕ) (d : Domain) (k : Context) (e : Ran) (w : World) → HoldsMarks d →
    HoldsMark d.control.resources k → HoldsMarks (played (instruction_ended slot d k e) w).answer.domain
unfolding instruction_ended
ended_holds slot d k (ran.Trap cause address) w all here =
    slot_set d.control.resources d.control.contexts slot (Some (suspended k)) tt all
ended_holds slot d k ran.Ecall w all here =
    by_ecall (λ t. HoldsMarks t.answer.domain) slot d k w (hypercall_holds (hypercall_of k) slot k d.control w all here)
ended_holds slot d k ran.Stopped w all here = all
ended_holds slot d k _ w all here = slot_set d.control.resources d.control.contexts slot (Some k) here all

copied_holds : (slot : ℕ) (d : Domain) (k : Context) (e : Copied) → HoldsMarks d → HoldsMark d.control.resources k →
    HoldsMarks (copy_ended slot d k e).domain
unfolding copy_ended
copied_holds slot d k copied.CallReady all here =
    slot_set d.control.resources d.control.contexts slot (Some (suspended k)) tt all
copied_holds slot d k (copied.Absent cause address) all here =
    slot_set d.control.resources d.control.contexts slot (Some (suspended k)) tt all
copied_holds slot d k copied.Stopped all here = all
copied_holds slot d k _ all here = slot_set d.control.resources d.control.contexts slot (Some k) here all

unreserved : (r : Resources) (t : Bool) (c : Context) → HoldsMark r c →
    HoldsMark r (cond t (record c { mark = None }) c)
unreserved r true c here = tt
unreserved r false c here = here

slot_written : (r : Resources) (place : PageWord) (o : Option Context) → IfSome o (HoldsMark r) →
    IfSome (unless_reserved place o) (HoldsMark r)
slot_written r place None here = tt
slot_written r place (Some c) here = unreserved r (is_reserved place c.mark) c here

slots_written : (r : Resources) (place : PageWord) (contexts : List (Option Context)) → HoldsAll contexts r →
    HoldsAll (map (unless_reserved place) contexts) r
slots_written r place [] each slot = tt
slots_written r place (c ∷ contexts) each zero = slot_written r place c (each zero)
slots_written r place (c ∷ contexts) each (suc slot) = slots_written r place contexts (λ k. each (suc k)) slot

written_holds : (wrote : Option PageWord) (s : DomainStepped) → HoldsMarks s.domain →
    HoldsMarks (after_write wrote s).domain
written_holds None s all = all
written_holds (Some place) s all = slots_written s.domain.control.resources place s.domain.control.contexts all

same_mark : (r : Resources) (c : Context) (k : Copy) → SameMark c k → HoldsMark r c → HoldsMark r k.context
same_mark r c k same here =
    space_mark r c k.context same.space (subst (IsMarkIn r c.space) (sym same.mark) here)

module _ (slot : ℕ) (d : Domain) (w : World) (keeps : KeepsLimits d.control) (all : HoldsMarks d) where
  phase_holds : (phase : Phase) (c : Context) → c.phase ≡ phase → IsContext d.control.resources c →
      HoldsMark d.control.resources c → HoldsMarks (played (phase_step phase slot c d) w).answer.domain
  unfolding phase_step
  phase_holds Plain c is there here =
      let n = d.control.number in
      let r = d.control.resources in
      let t = played (instruction_inside n r c) w in
      let pages = pages_there n r c.space keeps.resources in
      let one = instruction_one c is there.steady n r w pages in
      by_plain (λ told. HoldsMarks told.answer.domain) slot c d w
      (written_holds t.answer.wrote _
      (ended_holds slot d t.answer.context t.answer.ending t.world all
      (space_mark r c t.answer.context one.space (instruction_well r c here n w keeps.resources))))
  phase_holds (CopyIn done) c is there here =
      let k = (played (copy_in_step d.control.number d.control.resources c done) w).answer in
      by_copy_in (λ told. HoldsMarks told.answer.domain) done slot c d w
      (copied_holds slot d k.context k.ending all
      (same_mark d.control.resources c k (in_same c d.control.number d.control.resources done w) here))
  phase_holds Waiting c is there here =
      slot_set d.control.resources d.control.contexts slot (Some c) here all
  phase_holds (CopyOut done total) c is there here =
      let k = (played (copy_out_step d.control.number d.control.resources c done total) w).answer in
      by_copy_out (λ told. HoldsMarks told.answer.domain) done total slot c d w
      (written_holds k.wrote _
      (copied_holds slot d k.context k.ending all
      (same_mark d.control.resources c k (out_same c d.control.number d.control.resources done total w) here)))

  step_if_holds : (o : Option Context) → IfSome o (IsContext d.control.resources) →
      IfSome o (HoldsMark d.control.resources) → HoldsMarks (played (step_if o slot d) w).answer.domain
  unfolding step_if
  step_if_holds None there here = all
  step_if_holds (Some c) there here = phase_holds c.phase c refl there here

  step_holds : HoldsMarks (domain_step slot d w).answer.domain
  unfolding domain_step domain_script
  step_holds = step_if_holds (context_at d.control.contexts slot) (keeps.contexts slot) (all slot)

-- An interrupt, a resuming and an end.

interrupt_if_holds : (o : Option Context) (slot : ℕ) (d : Control) → HoldsAll d.contexts d.resources →
    HoldsAll (interrupt_if o slot d).control.contexts (interrupt_if o slot d).control.resources
unfolding interrupt_if
interrupt_if_holds None slot d all = all
interrupt_if_holds (Some c) slot d all = slot_set d.resources d.contexts slot (Some (suspended c)) tt all

interrupt_holds : (slot : ℕ) (d : Control) → HoldsAll d.contexts d.resources →
    HoldsAll (interrupt slot d).control.contexts (interrupt slot d).control.resources
unfolding interrupt
interrupt_holds slot d all = interrupt_if_holds (context_at d.contexts slot) slot d all

finish_holds : (r : Resources) (answer : ℕ) (c : Context) → HoldsMark r c → HoldsMark r (finish_call answer c)
unfolding finish_call
finish_holds r answer c here =
    either (HoldsMark r) _ (in_phase (CopyOut 0 answer) (set_word c 10 answer)) (in_phase Plain (set_word c 10 answer))
    here here

answer_holds : (r : Resources) (phase : Phase) (answer : ℕ) (c : Context) → HoldsMark r c →
    HoldsMark r (answer_in phase answer c)
unfolding answer_in
answer_holds r Waiting answer c here = finish_holds r answer c here
answer_holds r _ answer c here = here

abbrev HoldsIn : Control → Type 0
HoldsIn d = HoldsAll d.contexts d.resources

taken_holds : (slot answer : ℕ) (o : Option Context) (d : Control) → HoldsIn d → IfSome o (HoldsMark d.resources) →
    HoldsIn (answer_taken slot answer o d)
unfolding answer_taken
taken_holds slot answer None d all here = all
taken_holds slot answer (Some c) d all here =
    slot_set d.resources d.contexts slot (Some (answer_in c.phase answer c))
    (answer_holds d.resources c.phase answer c here) all

told_holds : (slot answer : ℕ) (a : Result (Unit {0}) ResumeFault) (d : Control) → HoldsIn d →
    HoldsIn (resume_told slot answer a d).control
unfolding resume_told
told_holds slot answer (Err f) d all = all
told_holds slot answer (Ok done) d all = taken_holds slot answer (context_at d.contexts slot) d all (all slot)

resume_if_holds : (slot hart : ℕ) (o : Option Context) (d : Control) → HoldsIn d → IfSome o (HoldsMark d.resources) →
    HoldsAll (resume_if slot hart o d.contexts).contexts d.resources
unfolding resume_if
resume_if_holds slot hart None d all here = all
resume_if_holds slot hart (Some c) d all here =
    either (λ (made : Resumed). HoldsAll made.contexts d.resources) (is_some c.on) _ _ all
    (slot_set d.resources d.contexts slot (Some (record c { on = Some (record { 0 = hart }) })) here all)

resume_holds : (slot hart answer : ℕ) (d : Control) → HoldsIn d → HoldsIn (resume_slot slot hart answer d).control
unfolding resume_slot resume_at
resume_holds slot hart answer d all =
    let made = resume_if slot hart (context_at d.contexts slot) d.contexts in
    told_holds slot answer made.answer (record d { contexts = made.contexts })
    (resume_if_holds slot hart (context_at d.contexts slot) d all (all slot))

no_context : (n : ℕ) (r : Resources) → HoldsAll (replicate n None) r
no_context n r slot =
    subst (λ (o : Option Context). IfSome o (HoldsMark r)) (sym (get_or-replicate_none n slot)) tt

end_holds : (d : Domain) → HoldsMarks (ended_domain d)
unfolding ended_domain
end_holds d = no_context 8 (ended_domain d).control.resources

marks_held : KeptInside Keeps HoldsMarks
marks_held = record {
  step = λ slot d w keeps all. step_holds slot d w keeps all;
  interrupted = λ slot d all. interrupt_holds slot d.control all;
  resumed = λ slot hart reply d low all. resume_holds slot hart reply d.control all;
  ended = λ d all. end_holds d;
}

-- A run.

first_holds : (pc sp : ℕ) (r : Resources) → HoldsAll (started_contexts pc sp) r
unfolding started_contexts
first_holds pc sp r zero = tt
first_holds pc sp r (suc slot) = no_context 7 r slot

domains_hold : (d : ℕ) (programs : List Program) → AllOf HoldsMarks (started_domains d programs)
unfolding started_domain started_control
domains_hold d [] k = tt
domains_hold d (p ∷ programs) zero =
    first_holds p.start.entry p.start.sp (started_resources p.start.pages p.start.base)
domains_hold d (p ∷ programs) (suc k) = domains_hold (d + 1) programs k

abbrev JointHolds : Joint → Type 0
JointHolds j = AllOf HoldsMarks j.domains

joint_holds : (b : Bundle) (m : CloakedMemory) → JointHolds (started_joint b m)
unfolding started_joint
joint_holds b m = domains_hold 0 b.programs

made_holds_marks : (number pages : ℕ) (d : Domain) → HoldsMarks d → HoldsMarks (with_made number pages d)
made_holds_marks number pages d all =
    all_moved d.control.resources (file_resource number pages d.control.resources).resources d.control.contexts
    (file_as_much number pages d.control.resources) all

abbrev Both : Joint → Type 0
Both j = JointKeeps j × JointHolds j

both_kept : (b : Bundle) → IsInGrammar b → IsKept Both b.kernel.schedule
both_kept b grammar m same both = (
  limits_are_kept b grammar m same both.0,
  step_all Keeps HoldsMarks marks_held m (next_is_low b m grammar same) both.0 both.1,
)

opened_both : (b : Bundle) (from : Beginning) → IsInGrammar b → (o : RunEdge) → opening_from b from ≡ Ok o →
    Both o.joint
opened_both b from grammar o opens = (
  opened_keep b from grammar o opens,
  begins JointHolds b from (λ m. joint_holds b m)
      (λ f x y. given_all HoldsMarks f x y (made_holds_marks f.number (length f.pages))) o opens,
)

pub runs_hold_marks : (b : Bundle) (from : Beginning) (budget : ℕ) (r : Run) → IsInGrammar b →
    run_from b from budget ≡ Ok r → (n : ℕ) → AllOf HoldsMarks (joint_until n r).domains
runs_hold_marks b from budget r grammar runs n =
    (at_every_moment Both b from budget r (opened_both b from grammar) (both_kept b grammar) runs n).1

-- The law.

sized : (space : ℕ) (o : Option Resource) → may_map space o ≡ true → is_some (size_for space o) ≡ true
sized space None may = absurd (false≢true may)
sized space (Some held) may = ap (λ (b : Bool). is_some (cond b (Some held.pages) None)) may

mark_used : (r : Resources) (space : ℕ) (mark : Option PageWord) (word : PageWord) → IsMarkIn r space mark →
    mark ≡ Some word → is_some (size_for space (resource_at r word.resource)) ≡ true
mark_used r space None word here is = absurd cc
mark_used r space (Some place) word here is =
    let same : place ≡ word = cc in
    subst (λ (x : PageWord). is_some (size_for space (resource_at r x.resource)) ≡ true) same
    (sized space (resource_at r place.resource) here)

pub contexts_reserve_used : ContextsReserveUsed
contexts_reserve_used b from budget r grammar runs n d slot program c word there context mark =
    let held : HoldsMarks program =
    subst (λ (o : Option Domain). IfSome o HoldsMarks) there (runs_hold_marks b from budget r grammar runs n d) in
    let here : HoldsMark program.control.resources c =
    subst (λ (o : Option Context). IfSome o (HoldsMark program.control.resources)) context (held slot) in
    mark_used program.control.resources c.space c.mark word here mark
