-- A load among what a step does to pages was due.
use Rattle.std.proofs.Common.{◌≡◌, ◌∙◌, ℕ, ◌%◌, Bool, true, false, cond, List, [], ◌∷◌, filter, map, Option, Some, None, Result, Ok, Err, refl, sym, ap}
use Rattle.std.specs.Prelude.{◌==◌, nat_le, slice_get}
use Rattle.std.proofs.lemmas.Bool.{false≢true}
use Rattle.cloak_base.specs.Registers.{register}
use Rattle.cloak_base.specs.declared.causes.Violation.{Violation}
use Rattle.cloak_base.specs.declared.names.Kind.{Kind}
use Rattle.cloak_base.specs.declared.names.Kind.TheVariants.{Load}
use Rattle.cloak_base.specs.declared.names.PageId.{PageId}
use Rattle.rv_isa.specs.Table.{instruction}
use Rattle.rv_isa.specs.declared.instr.Instr.{Instr}
use Rattle.rv_isa.specs.declared.instr.Instr.TheVariants as instr
use Rattle.rv_atomic.specs.Table.{atomic_instruction}
use Rattle.rv_atomic.specs.declared.atomic.Atomic.{Atomic}
use Rattle.rv_atomic.specs.declared.atomic.AtomicOp.{AtomicOp}
use Rattle.rv_atomic.specs.declared.atomic.AtomicOp.TheVariants.{Lr, Sc}
use Rattle.cloak_model.specs.declared.context.Phase.{Phase}
use Rattle.cloak_model.specs.declared.context.Phase.TheVariants.{Plain, CopyIn, Waiting, CopyOut}
use Rattle.cloak_model.specs.declared.inside.Went.{Went}
use Rattle.cloak_model.specs.declared.inside.Went.TheVariants as went
use Rattle.cloak_model.specs.Items.{Item}
use Rattle.cloak_model.specs.Items as item
use Rattle.cloak_model.specs.declared.outcome.Effect.{Effect}
use Rattle.cloak_model.specs.declared.outcome.Effect.TheVariants as does
use Rattle.cloak_model.specs.declared.resource.MapFault.{MapFault}
use Rattle.cloak_model.specs.Calls.{buffer, area, call_length, byte_address, is_cloaked, copy_in_step}
use Rattle.cloak_model.proofs.CallParts.{in_placed, in_step}
use Rattle.cloak_model.specs.Contexts.{Context, context_at, domain_of, slot_of, word_of_page, is_reserved}
use Rattle.cloak_model.specs.Csr.{interrupt_due}
use Rattle.cloak_model.specs.DomainAlone.{runs_on}
use Rattle.cloak_model.specs.DomainState.{Control, Domain}
use Rattle.cloak_model.specs.Asking.{Told}
use Rattle.cloak_model.specs.DomainStep.{domain_script, DomainStepped, phase_step, step_if, domain_step, interrupt}
use Rattle.cloak_model.specs.Effect.{effect}
use Rattle.cloak_model.specs.Fork.{copies, private_numbers}
use Rattle.cloak_model.specs.Halves.{inward_half}
use Rattle.cloak_model.specs.Hart.{Hart}
use Rattle.cloak_model.specs.Hypercalls as hyper
use Rattle.cloak_model.specs.Hypercalls.{Hypercall, New, ForkSpace, Exit, hypercall_of}
use Rattle.cloak_model.specs.Joint.{Moment, Turn, next_hart, domain_ended, with_domain, interrupt_ended, after_interrupt, by_interrupt, by_running, inside_step, turn_of, answers_violation, step_before_end, joint_step}
use Rattle.cloak_model.specs.KernelStep.{atomic_kind, ticked}
use Rattle.cloak_model.specs.Parts.{Joint}
use Rattle.cloak_model.specs.World.{World, items_of, violation_of}
use Rattle.cloak_model.specs.Script.{played}
use Rattle.cloak_model.proofs.Playing.{by_copy_in}
use Rattle.latest_store.specs.Moves.{Move, Stores, Copies, Drops, Loads, latest_value}
use Rattle.latest_store.specs.Deeds.{both_granted, first_granted, page_for, load_at, store_at, atomic_at, made_moves, file_moves, hypercall_moves, ecall_moves, effect_moves, atomic_moves, word_moves, fetched_moves, byte_moves, phase_moves, context_moves, program_moves}
use Rattle.cause_law.specs.Presented.{hart_of_step, StepsInside, world_inside}
use Rattle.load_law.specs.Due.{DueLoad, load_of, instruction_load, atomic_load, effect_due, atomic_due, word_due, fetched_due, byte_load, copy_due, load_due}
use Rattle.load_law.specs.Outcomes.{is_load}
use Rattle.load_law.proofs.Steps.{load_by, copied, byte_by}
use Rattle.load_law.proofs.Turns.{after_went, told_in, joint_in, whole_step}
use Rattle.domain_isolation.proofs.InsideSteps.{with_leave}

-- The first load among these moves.
abbrev Loaded : Move → List Move → List Move → Type 0
Loaded load more moves = filter is_load moves ≡ load ∷ more

-- It was due.
pub record Were (o : Option DueLoad) (load : Move) : Type 0 where
  pub due : DueLoad
  pub is : o ≡ Some due
  pub same : load_of due ≡ load

abbrev HasNone : List Move → Type 0
HasNone moves = filter is_load moves ≡ []

not_loaded : {P : Type 0} (load : Move) (more moves : List Move) → HasNone moves → Loaded load more moves → P
not_loaded load more moves none is = let clash : [] ≡ load ∷ more = sym none ∙ is in absurd cc

-- Instructions.

load_were : (both : Bool) (c : Context) (p : PageId) (kind : Kind) (address width : ℕ) (place : Option PageId)
    (load : Move) (more : List Move) → Loaded load more (cond both (load_at address width place) []) →
    Were (instruction_load c p kind address width place) load
load_were false c p kind address width place load more is = absurd cc
load_were true c p kind address width None load more is = absurd cc
load_were true c p kind address width (Some q) load more is =
    let same : Loads q address width ≡ load = cc in
    record { due = load_by c p kind q address width; is = refl; same = same }

none_if : (b : Bool) (moves : List Move) → HasNone moves → HasNone (cond b moves [])
none_if true moves none = none
none_if false moves none = refl

store_none : (address width value : ℕ) (place : Option PageId) → HasNone (store_at address width value place)
store_none address width value None = refl
store_none address width value (Some q) = refl

made_none : (d : ℕ) (made : Result ℕ MapFault) → HasNone (made_moves d made)
made_none d (Ok n) = refl
made_none d (Err fault) = refl

file_none : (d : Control) (c : Context) (place : Option ℕ) → HasNone (file_moves d c place)
file_none d c None = made_none d.number _
file_none d c (Some n) = refl

copies_none : (d : ℕ) (list : List (ℕ × ℕ)) → HasNone (map (λ (copy : ℕ × ℕ). Copies d copy.0 copy.1) list)
copies_none d [] = refl
copies_none d (x ∷ list) = copies_none d list

drops_none : (d : ℕ) (list : List ℕ) → HasNone (map (λ (n : ℕ). Drops d n) list)
drops_none d [] = refl
drops_none d (n ∷ list) = drops_none d list

hypercall_none : (h : Hypercall) (d : Control) (c : Context) (told : List Item) → HasNone (hypercall_moves h d c told)
unfolding hypercall_moves
hypercall_none New d c told = made_none d.number _
hypercall_none hyper.File d c told = file_none d c _
hypercall_none ForkSpace d c told = none_if (both_granted told) _ (copies_none d.number (copies c.space d.resources))
hypercall_none Exit d c told = none_if (both_granted told) _ (drops_none d.number (private_numbers c.space d.resources))
hypercall_none _ d c told = refl

ecall_none : (d : Control) (c : Context) (i : Instr) (told : List Item) → HasNone (ecall_moves d c i told)
unfolding ecall_moves
ecall_none d c instr.Ecall told = hypercall_none (hypercall_of c) d c told
ecall_none d c _ told = refl

effect_were : (d : Control) (c : Context) (p : PageId) (i : Instr) (e : Effect) (told : List Item) (load : Move)
    (more : List Move) → Loaded load more (effect_moves d c i e told) → Were (effect_due d c p e) load
unfolding effect_moves effect_due
effect_were d c p i (does.Load rd address width signed) told load more is =
    load_were (both_granted told) c p Load address width (page_for d c address) load more is
effect_were d c p i (does.Store address width value) told load more is =
    let moves : List Move = store_at address width value (page_for d c address) in
    not_loaded load more (cond (both_granted told) moves [])
    (none_if (both_granted told) moves (store_none address width value (page_for d c address))) is
effect_were d c p i does.System told load more is =
    not_loaded load more (ecall_moves d c i told) (ecall_none d c i told) is
effect_were d c p i _ told load more is = absurd cc

placed_were : (both : Bool) (c : Context) (p : PageId) (op : AtomicOp) (address operand : ℕ) (place : Option PageId)
    (load : Move) (more : List Move) → Loaded load more (cond both (atomic_at c op address operand place) []) →
    Were (atomic_load c p op address place) load
placed_were false c p op address operand place load more is = absurd cc
placed_were true c p op address operand None load more is = absurd cc
placed_were true c p Lr address operand (Some q) load more is =
    load_were true c p (atomic_kind Lr) address 4 (Some q) load more is
placed_were true c p Sc address operand (Some q) load more is =
    not_loaded load more (atomic_at c Sc address operand (Some q))
    (none_if (is_reserved (word_of_page q address) c.mark) (Stores q (address % 4096) 4 operand ∷ []) refl) is
placed_were true c p op address operand (Some q) load more is =
    load_were true c p (atomic_kind op) address 4 (Some q) load more is

aligned_were : (aligned both : Bool) (c : Context) (p : PageId) (op : AtomicOp) (address operand : ℕ)
    (place : Option PageId) (load : Move) (more : List Move) →
    Loaded load more (cond aligned (cond both (atomic_at c op address operand place) []) []) →
    Were (cond aligned (atomic_load c p op address place) None) load
aligned_were true both c p op address operand place load more is =
    placed_were both c p op address operand place load more is
aligned_were false both c p op address operand place load more is = absurd cc

atomic_were : (d : Control) (c : Context) (p : PageId) (o : Option Atomic) (told : List Item) (load : Move)
    (more : List Move) → Loaded load more (atomic_moves d c o told) → Were (atomic_due d c p o) load
unfolding atomic_moves atomic_due
atomic_were d c p None told load more is = absurd cc
atomic_were d c p (Some a) told load more is =
    let va = register c.regs a.rs1 in
    aligned_were (va % 4 == 0) (both_granted told) c p a.op va (register c.regs a.rs2) (page_for d c va) load more is

word_were : (d : Control) (c : Context) (p : PageId) (word : ℕ) (i : Option Instr) (told : List Item) (load : Move)
    (more : List Move) → Loaded load more (word_moves d c word i told) → Were (word_due d c p word i) load
unfolding word_moves word_due
word_were d c p word None told load more is = atomic_were d c p (atomic_instruction word) told load more is
word_were d c p word (Some i) told load more is = effect_were d c p i (effect i c.regs c.pc) told load more is

fetched_were : (first : Bool) (earlier : List Move) (d : Control) (c : Context) (place : Option PageId)
    (told : List Item) (load : Move) (more : List Move) →
    Loaded load more (cond first (fetched_moves earlier d c place told) []) → Were (fetched_due earlier d c place) load
unfolding fetched_moves fetched_due
fetched_were false earlier d c place told load more is = absurd cc
fetched_were true earlier d c None told load more is = absurd cc
fetched_were true earlier d c (Some p) told load more is =
    let word : ℕ = latest_value earlier p (c.pc % 4096) 4 in word_were d c p word (instruction word) told load more is

-- Bytes of calls.

byte_were : (all cloaked both : Bool) (c : Context) (done : ℕ) (place : Option PageId) (load : Move)
    (more : List Move) →
    let from = byte_address (buffer c) done in
    let to = byte_address (area c) done in
    Loaded load more (cond both (load_at from 1 place) []) →
    (cond all None (byte_load from to place cloaked) ≡ None → both ≡ false) →
    Were (cond all None (byte_load from to place cloaked)) load
byte_were all cloaked false c done place load more is quiet = absurd cc
byte_were true cloaked true c done place load more is quiet = absurd (false≢true (sym (quiet refl)))
byte_were false cloaked true c done None load more is quiet = absurd cc
byte_were false true true c done (Some q) load more is quiet = absurd (false≢true (sym (quiet refl)))
byte_were false false true c done (Some q) load more is quiet =
    let same : Loads q (byte_address (buffer c) done) 1 ≡ load = cc in
    record { due = byte_by c done q; is = refl; same = same }

byte_none : (address : ℕ) (place : Option PageId) (told : List Item) → HasNone (byte_moves address place told)
byte_none address None (item.Word d byte ∷ item.Ok e ∷ []) = refl
byte_none address (Some q) (item.Word d byte ∷ item.Ok e ∷ []) = refl
byte_none address place _ = refl

-- Each phase. A byte that is not to be loaded asks nothing.
phase_were : (p : Phase) (earlier : List Move) (d : Control) (c : Context) (told : List Item) (load : Move)
    (more : List Move) → Loaded load more (phase_moves p earlier d c told) →
    ((done : ℕ) → p ≡ CopyIn done → copy_due d c done ≡ None → both_granted told ≡ false) →
    Were (load_due p earlier d c) load
unfolding phase_moves load_due copy_due
phase_were Plain earlier d c told load more is quiet =
    fetched_were (first_granted told) earlier d c (page_for d c c.pc) told load more is
phase_were (CopyIn done) earlier d c told load more is quiet =
    byte_were (nat_le (call_length c) done) (is_cloaked d.resources c (byte_address (area c) done)) (both_granted told)
    c done (page_for d c (byte_address (buffer c) done)) load more is (quiet done refl)
phase_were Waiting earlier d c told load more is quiet = absurd cc
phase_were (CopyOut done total) earlier d c told load more is quiet =
    let address : ℕ = byte_address (buffer c) done in
    not_loaded load more (byte_moves address (page_for d c address) told)
    (byte_none address (page_for d c address) told) is

-- A step of a hart whose context does not make it is told nothing, or of the timer.

untold_none : (p : Phase) (earlier : List Move) (d : Control) (c : Context) → HasNone (phase_moves p earlier d c [])
unfolding phase_moves
untold_none Plain earlier d c = refl
untold_none _ earlier d c = refl

timer_none : (own : Bool) (e : ℕ) (p : Phase) (earlier : List Move) (d : Control) (c : Context) →
    HasNone (phase_moves p earlier d c (cond own (item.Timer e ∷ []) []))
unfolding phase_moves
timer_none false e p earlier d c = untold_none p earlier d c
timer_none true e Plain earlier d c = refl
timer_none true e (CopyIn done) earlier d c = refl
timer_none true e Waiting earlier d c = refl
timer_none true e (CopyOut done total) earlier d c = refl

-- a step that meets no violation is whole
calm_step : (m : Moment) (t : Turn) → step_before_end m ≡ t → t.violation ≡ None → joint_step m ≡ t
unfolding joint_step answers_violation
calm_step m t is none =
    ap (λ (x : Turn). answers_violation (hart_of_step m).inside x.violation x) is
    ∙ ap (λ (o : Option Violation). answers_violation (hart_of_step m).inside o t) none

timer_half : (j : Joint) (number : ℕ) (h : Hart) (e : ℕ) (g : Went) →
    inward_half e (interrupt_ended j number h (item.Timer e ∷ []) g).items ≡ cond (e == e) (item.Timer e ∷ []) []
unfolding interrupt_ended
timer_half j number h e went.Stay = refl
timer_half j number h e _ = refl

timer_calm : (j : Joint) (number : ℕ) (h : Hart) (e : ℕ) (g : Went) →
    (interrupt_ended j number h (item.Timer e ∷ []) g).violation ≡ None
unfolding interrupt_ended
timer_calm j number h e went.Stay = refl
timer_calm j number h e _ = refl

-- A byte that is not to be loaded.

placed_stays : (slot : ℕ) (d : Domain) (c : Context) (done : ℕ) (place : Option PageId) (cloaked : Bool) (w : World) →
    byte_load (byte_address (buffer c) done) (byte_address (area c) done) place cloaked ≡ None →
    (copied slot d (in_placed c done place cloaked) w).world ≡ w
placed_stays slot d c done None cloaked w is = refl
placed_stays slot d c done (Some q) true w is = refl
placed_stays slot d c done (Some q) false w is = absurd cc

in_stays : (all : Bool) (slot : ℕ) (d : Domain) (c : Context) (done : ℕ) (w : World) →
    cond all None (byte_load (byte_address (buffer c) done) (byte_address (area c) done)
    (page_for d.control c (byte_address (buffer c) done))
    (is_cloaked d.control.resources c (byte_address (area c) done))) ≡ None →
    (copied slot d (in_step all d.control.number d.control.resources c done) w).world ≡ w
in_stays true slot d c done w is = refl
in_stays false slot d c done w is = placed_stays slot d c done _ _ w is

copy_stays : (slot : ℕ) (d : Domain) (c : Context) (done : ℕ) (w : World) →
    context_at d.control.contexts slot ≡ Some c → c.phase ≡ CopyIn done → copy_due d.control c done ≡ None →
    (domain_step slot d w).world ≡ w
unfolding domain_step domain_script step_if phase_step copy_in_step copy_due
copy_stays slot d c done w there phase is =
    ap (λ (o : Option Context). (played (step_if o slot d) w).world) there
    ∙ (ap (λ (p : Phase). (played (phase_step p slot c d) w).world) phase
    ∙ by_copy_in (λ (t : Told DomainStepped). t.world ≡ w) done slot c d w
    (in_stays (nat_le (call_length c) done) slot d c done w is))

-- without a violation, what was told stays so
went_half : (j : Joint) (number : ℕ) (h : Hart) (ctx : ℕ) (w : World) (g : Went) → violation_of w ≡ None →
    inward_half (domain_of ctx) (after_went j number h ctx w g).items ≡ inward_half (domain_of ctx) (items_of w)
unfolding domain_ended answers_violation
went_half j number h ctx w went.Stay none = refl
went_half j number h ctx w (went.Remapped space) none = refl
went_half j number h ctx w (went.Leave s) none = with_leave (domain_of ctx) (items_of w) s
went_half j number h ctx w (went.SpaceGone space s) none = with_leave (domain_of ctx) (items_of w) s
went_half j number h ctx w went.Stopped none =
    ap (λ (o : Option Violation). inward_half (domain_of ctx)
    (answers_violation (Some ctx) o (domain_ended j number h (domain_of ctx) w went.Stopped)).items) none

copy_untold : (m : Moment) (s : StepsInside m) (done : ℕ) → s.context.phase ≡ CopyIn done →
    copy_due s.domain.control s.context done ≡ None → inward_half (domain_of s.ctx) (joint_step m).items ≡ []
copy_untold m s done phase is =
    let w : World = world_inside m s in
    let x = told_in m s in
    let stays : x.world ≡ w = copy_stays (slot_of s.ctx) s.domain s.context done w s.there phase is in
    ap (λ (t : Turn). inward_half (domain_of s.ctx) t.items) (whole_step m s)
    ∙ (went_half (joint_in m s) (next_hart m) (ticked (hart_of_step m)) s.ctx x.world x.answer.went
    (ap violation_of stays)
    ∙ ap (λ (v : World). inward_half (domain_of s.ctx) (items_of v)) stays)

-- The step of a context that was to make this load.
pub record Makes (m : Moment) (earlier : List Move) (load : Move) : Type 0 where
  pub step : StepsInside m
  pub were : Were (load_due step.context.phase earlier step.domain.control step.context) load

module _ (m : Moment) (earlier : List Move) (ctx : ℕ) (load : Move) (more : List Move)
    (inside : (hart_of_step m).inside ≡ Some ctx)
  where
    -- as it runs on the hart or not, and as an interrupt is due
    step_makes : (runs due : Bool) (d : Domain) (c : Context) → slice_get m.joint.domains (domain_of ctx) ≡ Some d →
        context_at d.control.contexts (slot_of ctx) ≡ Some c → runs_on (next_hart m) (Some c) ≡ runs →
        interrupt_due (ticked (hart_of_step m)).mode (ticked (hart_of_step m)).csrs ≡ due →
        Loaded load more (phase_moves c.phase earlier d.control c
        (inward_half (domain_of ctx) (joint_step m).items)) → Makes m earlier load
    unfolding turn_of inside_step by_running by_interrupt after_interrupt
    step_makes false due d c program there runs is loaded =
        let h = ticked (hart_of_step m) in
        let turn = ap (turn_of m.joint (next_hart m) (hart_of_step m)) inside
        ∙ (ap (inside_step m.joint (next_hart m) h ctx) program
        ∙ ap (λ (b : Bool). by_running b m.joint (next_hart m) h ctx d)
        (ap (runs_on (next_hart m)) there ∙ runs)) in
        let half : inward_half (domain_of ctx) (joint_step m).items ≡ [] =
        ap (λ (t : Turn). inward_half (domain_of ctx) t.items) (calm_step m _ turn refl) in
        not_loaded load more (phase_moves c.phase earlier d.control c
        (inward_half (domain_of ctx) (joint_step m).items))
        (ap (λ (l : List Item). filter is_load (phase_moves c.phase earlier d.control c l)) half
        ∙ untold_none c.phase earlier d.control c) loaded
    step_makes true true d c program there runs is loaded =
        let h = ticked (hart_of_step m) in
        let e : ℕ = domain_of ctx in
        let step = interrupt (slot_of ctx) d.control in
        let j : Joint = with_domain e (record d { control = step.control }) m.joint in
        let turn = ap (turn_of m.joint (next_hart m) (hart_of_step m)) inside
        ∙ (ap (inside_step m.joint (next_hart m) h ctx) program
        ∙ (ap (λ (b : Bool). by_running b m.joint (next_hart m) h ctx d)
        (ap (runs_on (next_hart m)) there ∙ runs)
        ∙ ap (λ (b : Bool). by_interrupt b m.joint (next_hart m) h e (slot_of ctx) d) is)) in
        let half : inward_half e (joint_step m).items ≡ cond (e == e) (item.Timer e ∷ []) [] =
        ap (λ (t : Turn). inward_half e t.items)
        (calm_step m _ turn (timer_calm j (next_hart m) h e step.went))
        ∙ timer_half j (next_hart m) h e step.went in
        not_loaded load more (phase_moves c.phase earlier d.control c (inward_half e (joint_step m).items))
        (ap (λ (l : List Item). filter is_load (phase_moves c.phase earlier d.control c l)) half
        ∙ timer_none (e == e) e c.phase earlier d.control c) loaded
    step_makes true false d c program there runs is loaded =
        let s : StepsInside m = record {
          ctx = ctx;
          runs = inside;
          goes = is;
          domain = d;
          program = program;
          context = c;
          there = there;
          here = runs;
        } in
        record {
          step = s;
          were = phase_were c.phase earlier d.control c (inward_half (domain_of ctx) (joint_step m).items) load more
              loaded (λ done phase none. ap both_granted (copy_untold m s done phase none));
        }

    context_makes : (d : Domain) (o : Option Context) → slice_get m.joint.domains (domain_of ctx) ≡ Some d →
        context_at d.control.contexts (slot_of ctx) ≡ o →
        Loaded load more (context_moves o earlier d.control (inward_half (domain_of ctx) (joint_step m).items)) →
        Makes m earlier load
    unfolding context_moves
    context_makes d None program there loaded = absurd cc
    context_makes d (Some c) program there loaded =
        step_makes (runs_on (next_hart m) (Some c)) _ d c program there refl refl loaded

    pub program_makes : (o : Option Domain) → slice_get m.joint.domains (domain_of ctx) ≡ o →
        Loaded load more (program_moves o earlier (slot_of ctx) (inward_half (domain_of ctx) (joint_step m).items)) →
        Makes m earlier load
    unfolding program_moves
    program_makes None program loaded = absurd cc
    program_makes (Some d) program loaded =
        context_makes d (context_at d.control.contexts (slot_of ctx)) program refl loaded
