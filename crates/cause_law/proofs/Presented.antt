-- A page that is presented to the step of a context, in a frame that differs, is the step's violation.
use Rattle.std.proofs.Common.{◌≡◌, ◌∙◌, ◌%◌, ℕ, Bool, true, false, cond, Option, Some, None, refl, sym, ap, subst, eq-eqb}
use Rattle.std.specs.Prelude.{nat_le, ◌==◌, ◌&&◌}
use Rattle.std.proofs.lemmas.Bool.{lt-leb, eqb-true}
use Rattle.cloak_base.specs.declared.causes.Violation.{Violation}
use Rattle.cloak_base.specs.declared.causes.Violation.TheVariants as violation
use Rattle.cloak_base.specs.declared.names.Kind.{Kind}
use Rattle.cloak_base.specs.declared.names.Kind.TheVariants.{Fetch, Load, Store}
use Rattle.cloak_base.specs.declared.names.PageId.{PageId}
use Rattle.cloak_base.specs.Registers.{register}
use Rattle.rv_isa.specs.declared.instr.Instr.{Instr}
use Rattle.rv_isa.specs.Fields.{opcode, funct3}
use Rattle.rv_isa.specs.Table.{instruction}
use Rattle.rv_atomic.proofs.Apart.{apart}
use Rattle.rv_atomic.specs.Table.{with_operation, operation, atomic_instruction}
use Rattle.rv_atomic.specs.declared.atomic.Atomic.{Atomic}
use Rattle.cloak_model.specs.declared.answer.Answer.{Answer}
use Rattle.cloak_model.specs.declared.answer.Answer.TheVariants as told
use Rattle.cloak_model.specs.declared.context.Phase.{Phase}
use Rattle.cloak_model.specs.declared.context.Phase.TheVariants.{Plain, CopyIn, CopyOut}
use Rattle.cloak_model.specs.declared.outcome.Effect.{Effect}
use Rattle.cloak_model.specs.declared.outcome.Effect.TheVariants as does
use Rattle.cloak_model.specs.Asking.{Told, answered}
use Rattle.cloak_model.specs.AskPages.{ask_reach, ask_read, ask_get}
use Rattle.cloak_model.specs.Calls.{Copy, buffer, area, call_length, byte_address, is_cloaked, copy_in_step, copy_out_step}
use Rattle.cloak_model.proofs.CallParts.{in_reached, in_placed, in_step, out_reached, out_got, out_placed, out_step}
use Rattle.cloak_model.specs.Contexts.{Context, context_at, domain_of, slot_of}
use Rattle.cloak_model.specs.DomainAlone.{runs_on}
use Rattle.cloak_model.specs.DomainState.{Domain}
use Rattle.cloak_model.specs.DomainStep.{domain_script, DomainStepped, within, instruction_ended, copy_ended, after_write, phase_step, step_if, domain_step}
use Rattle.cloak_model.specs.Effect.{effect}
use Rattle.cloak_model.specs.Hypercalls.{stopped}
use Rattle.cloak_model.specs.InsideStep.{AfterInstruction, load_inside, store_inside, atomic_placed, traps, atomic_inside, done_inside, decoded_inside, fetch, instruction_inside}
use Rattle.cloak_model.proofs.InsideParts.{load_reached, store_reached, atomic_reached, fetched_inside}
use Rattle.cloak_model.specs.Joint.{Moment, Turn, next_hart, cloak_of, domain_ended, after_domain_step, pages_for, by_interrupt, by_running, inside_step, turn_of, step_before_end}
use Rattle.cloak_model.specs.KernelStep.{atomic_kind, misaligned, ticked}
use Rattle.cloak_model.specs.World.{World, Cloaked}
use Rattle.cloak_model.specs.Script.{played}
use Rattle.cloak_model.proofs.Playing.{plain_played, copy_in_played, copy_out_played}
use Rattle.cause_law.specs.Presented.{hart_of_step, StepsInside, world_inside, Executes, AsksAt, Fetches, LoadsAt, StoresAt, AtomicAt, CopiesFrom, CopiesTo, PresentsPage}
use Rattle.cause_law.proofs.Refused.{page_is_refused}
use Rattle.cloak_base.proofs.Lists.{set_itself}

-- what is left of a step that was stopped
abbrev halted : Domain → World → Told DomainStepped
halted d w = record { answer = within d (stopped d.control); world = w }

-- the end of an instruction, and of a copy
abbrev ended : ℕ → Domain → Told AfterInstruction → Told DomainStepped
ended slot d t =
    let s = played (instruction_ended slot d t.answer.context t.answer.ending) t.world in
    answered (after_write t.answer.wrote s.answer) s.world

abbrev copied : ℕ → Domain → Told Copy → Told DomainStepped
copied slot d t = record { answer = copy_ended slot d t.answer.context t.answer.ending; world = t.world }

-- that of a copy which may have written
abbrev copied_out : ℕ → Domain → Told Copy → Told DomainStepped
copied_out slot d t = record {
  answer = after_write t.answer.wrote (copy_ended slot d t.answer.context t.answer.ending);
  world = t.world;
}

-- An instruction.

plain_step : (slot : ℕ) (d : Domain) (c : Context) (w : World) → context_at d.control.contexts slot ≡ Some c →
    c.phase ≡ Plain →
    domain_step slot d w
    ≡ ended slot d (played (fetch d.control.number d.control.resources c (pages_for d (Some c) c.pc)) w)
unfolding domain_step domain_script step_if phase_step instruction_inside
plain_step slot d c w there plain =
    ap (λ (o : Option Context). played (step_if o slot d) w) there
    ∙ (ap (λ (p : Phase). played (phase_step p slot c d) w) plain ∙ plain_played slot c d w)

fetch_stops : (slot : ℕ) (d : Domain) (c : Context) (q : PageId) (w : World) (t : Told Answer) →
    context_at d.control.contexts slot ≡ Some c → c.phase ≡ Plain → pages_for d (Some c) c.pc ≡ Some q →
    ask_reach q c.pc Fetch w ≡ t → t.answer ≡ told.Stopped → domain_step slot d w ≡ halted d t.world
unfolding fetch instruction_ended
fetch_stops slot d c q w t there plain lies same stops =
    let n = d.control.number in
    let r = d.control.resources in
    plain_step slot d c w there plain
    ∙ (ap (λ (o : Option PageId). ended slot d (played (fetch n r c o) w)) lies
    ∙ (ap (λ (u : Told Answer). ended slot d (played (fetched_inside n r c q u.answer) u.world)) same
    ∙ ap (λ (a : Answer). ended slot d (played (fetched_inside n r c q a) t.world)) stops))

-- the word that a context executes
word_step : (slot : ℕ) (d : Domain) (c : Context) (w v : World) (word : ℕ) →
    context_at d.control.contexts slot ≡ Some c → Executes d c w word v →
    domain_step slot d w
    ≡ ended slot d (played (decoded_inside d.control.number d.control.resources c word (instruction word)) v)
unfolding fetch ask_read
word_step slot d c w v word there runs =
    let n = d.control.number in
    let r = d.control.resources in
    plain_step slot d c w there runs.plain
    ∙ (ap (λ (o : Option PageId). ended slot d (played (fetch n r c o) w)) runs.lies
    ∙ (ap (λ (u : Told Answer). ended slot d (played (fetched_inside n r c runs.page u.answer) u.world)) runs.granted
    ∙ ap (λ (x : ℕ). ended slot d (played (decoded_inside n r c x (instruction x)) v)) runs.has))

executed_step : (slot : ℕ) (d : Domain) (c : Context) (w v : World) (word : ℕ) (i : Instr) →
    context_at d.control.contexts slot ≡ Some c → Executes d c w word v → instruction word ≡ Some i →
    domain_step slot d w
    ≡ ended slot d (played (done_inside d.control.number d.control.resources c i (effect i c.regs c.pc)) v)
unfolding decoded_inside
executed_step slot d c w v word i there runs found =
    word_step slot d c w v word there runs
    ∙ ap (λ (o : Option Instr). ended slot d (played (decoded_inside d.control.number d.control.resources c word o) v)) found

load_stops : (slot : ℕ) (d : Domain) (c : Context) (q : PageId) (w v : World) (word : ℕ) (i : Instr)
    (rd va width : ℕ) (is_signed : Bool) (t : Told Answer) → context_at d.control.contexts slot ≡ Some c →
    Executes d c w word v → instruction word ≡ Some i → effect i c.regs c.pc ≡ does.Load rd va width is_signed →
    pages_for d (Some c) va ≡ Some q → ask_reach q va Load v ≡ t → t.answer ≡ told.Stopped →
    domain_step slot d w ≡ halted d t.world
unfolding done_inside load_inside instruction_ended
load_stops slot d c q w v word i rd va width is_signed t there runs found loads lies same stops =
    let n = d.control.number in
    let r = d.control.resources in
    executed_step slot d c w v word i there runs found
    ∙ (ap (λ (e : Effect). ended slot d (played (done_inside n r c i e) v)) loads
    ∙ (ap (λ (o : Option PageId). ended slot d (played (load_inside c rd va width is_signed o) v)) lies
    ∙ (ap (λ (u : Told Answer). ended slot d (played (load_reached c q rd va width is_signed u.answer) u.world)) same
    ∙ ap (λ (a : Answer). ended slot d (played (load_reached c q rd va width is_signed a) t.world)) stops)))

store_stops : (slot : ℕ) (d : Domain) (c : Context) (q : PageId) (w v : World) (word : ℕ) (i : Instr)
    (va width value : ℕ) (t : Told Answer) → context_at d.control.contexts slot ≡ Some c →
    Executes d c w word v → instruction word ≡ Some i → effect i c.regs c.pc ≡ does.Store va width value →
    pages_for d (Some c) va ≡ Some q → ask_reach q va Store v ≡ t → t.answer ≡ told.Stopped →
    domain_step slot d w ≡ halted d t.world
unfolding done_inside store_inside instruction_ended
store_stops slot d c q w v word i va width value t there runs found stores lies same stops =
    let n = d.control.number in
    let r = d.control.resources in
    executed_step slot d c w v word i there runs found
    ∙ (ap (λ (e : Effect). ended slot d (played (done_inside n r c i e) v)) stores
    ∙ (ap (λ (o : Option PageId). ended slot d (played (store_inside c va width value o) v)) lies
    ∙ (ap (λ (u : Told Answer). ended slot d (played (store_reached c q va width value u.answer) u.world)) same
    ∙ ap (λ (a : Answer). ended slot d (played (store_reached c q va width value a) t.world)) stops)))

-- An atomic instruction.

front_of : (a b : Bool) (o : Option Atomic) (x : Atomic) → cond (a && b) o None ≡ Some x → a ≡ true
front_of true b o x is = refl
front_of false b o x is = let clash : None ≡ Some x = is in absurd cc

-- it is none of the other table
no_other : (word : ℕ) (a : Atomic) → atomic_instruction word ≡ Some a → instruction word ≡ None
unfolding atomic_instruction
no_other word a found =
    apart word (eqb-true (opcode word) 0b0101111
    (front_of (opcode word == 0b0101111) (funct3 word == 0b010) (with_operation word (operation word)) a found))

atomic_step : (slot : ℕ) (d : Domain) (c : Context) (w v : World) (word : ℕ) (a : Atomic) →
    context_at d.control.contexts slot ≡ Some c → Executes d c w word v → atomic_instruction word ≡ Some a →
    register c.regs a.rs1 % 4 ≡ 0 →
    let va = register c.regs a.rs1 in
    domain_step slot d w
    ≡ ended slot d (played (atomic_placed c a.rd a.op va (register c.regs a.rs2) (pages_for d (Some c) va)) v)
unfolding decoded_inside atomic_inside
atomic_step slot d c w v word a there runs found aligned =
    let n = d.control.number in
    let r = d.control.resources in
    let va = register c.regs a.rs1 in
    word_step slot d c w v word there runs
    ∙ (ap (λ (o : Option Instr). ended slot d (played (decoded_inside n r c word o) v)) (no_other word a found)
    ∙ (ap (λ (o : Option Atomic). ended slot d (played (atomic_inside n r c o) v)) found
    ∙ ap (λ (b : Bool). ended slot d (played (cond b
    (atomic_placed c a.rd a.op va (register c.regs a.rs2) (pages_for d (Some c) va))
    (traps c (misaligned a.op) va)) v)) (eq-eqb (va % 4) 0 aligned)))

atomic_stops : (slot : ℕ) (d : Domain) (c : Context) (q : PageId) (w v : World) (word : ℕ) (a : Atomic)
    (t : Told Answer) → context_at d.control.contexts slot ≡ Some c → Executes d c w word v →
    atomic_instruction word ≡ Some a → register c.regs a.rs1 % 4 ≡ 0 →
    pages_for d (Some c) (register c.regs a.rs1) ≡ Some q →
    ask_reach q (register c.regs a.rs1) (atomic_kind a.op) v ≡ t → t.answer ≡ told.Stopped →
    domain_step slot d w ≡ halted d t.world
unfolding atomic_placed instruction_ended
atomic_stops slot d c q w v word a t there runs found aligned lies same stops =
    let va = register c.regs a.rs1 in
    let operand = register c.regs a.rs2 in
    atomic_step slot d c w v word a there runs found aligned
    ∙ (ap (λ (o : Option PageId). ended slot d (played (atomic_placed c a.rd a.op va operand o) v)) lies
    ∙ (ap (λ (u : Told Answer). ended slot d (played (atomic_reached c a.rd a.op q va operand u.answer) u.world)) same
    ∙ ap (λ (x : Answer). ended slot d (played (atomic_reached c a.rd a.op q va operand x) t.world)) stops))

-- A copy.

in_stops : (slot : ℕ) (d : Domain) (c : Context) (q : PageId) (w : World) (done : ℕ) (t : Told Answer) →
    context_at d.control.contexts slot ≡ Some c → c.phase ≡ CopyIn done → nat_le (call_length c) done ≡ false →
    pages_for d (Some c) (byte_address (buffer c) done) ≡ Some q →
    is_cloaked d.control.resources c (byte_address (area c) done) ≡ false →
    ask_reach q (byte_address (buffer c) done) Load w ≡ t → t.answer ≡ told.Stopped →
    domain_step slot d w ≡ halted d t.world
unfolding domain_step domain_script step_if phase_step copy_in_step copy_ended
in_stops slot d c q w done t there phase more lies clear same stops =
    let n = d.control.number in
    let r = d.control.resources in
    let at : ℕ = byte_address (buffer c) done in
    ap (λ (o : Option Context). played (step_if o slot d) w) there
    ∙ (ap (λ (p : Phase). played (phase_step p slot c d) w) phase
    ∙ (copy_in_played done slot c d w
    ∙ (ap (λ (all : Bool). copied slot d (played (in_step all n r c done) w)) more
    ∙ (ap (λ (o : Option PageId).
    copied slot d (played (in_placed c done o (is_cloaked r c (byte_address (area c) done))) w)) lies
    ∙ (ap (λ (b : Bool). copied slot d (played (in_placed c done (Some q) b) w)) clear
    ∙ (ap (λ (u : Told Answer). copied slot d (played (in_reached c q done u.answer) u.world)) same
    ∙ ap (λ (a : Answer). copied slot d (played (in_reached c q done a) t.world)) stops))))))

out_stops : (slot : ℕ) (d : Domain) (c : Context) (q : PageId) (w v : World) (done total byte : ℕ)
    (t : Told Answer) → context_at d.control.contexts slot ≡ Some c → c.phase ≡ CopyOut done total →
    nat_le total done ≡ false → pages_for d (Some c) (byte_address (buffer c) done) ≡ Some q →
    is_cloaked d.control.resources c (byte_address (area c) done) ≡ false →
    ask_get (byte_address (area c) done) 1 w ≡ record { answer = told.Word byte; world = v } →
    ask_reach q (byte_address (buffer c) done) Store v ≡ t → t.answer ≡ told.Stopped →
    domain_step slot d w ≡ halted d t.world
unfolding domain_step domain_script step_if phase_step copy_out_step copy_ended
out_stops slot d c q w v done total byte t there phase more lies clear got same stops =
    let n = d.control.number in
    let r = d.control.resources in
    ap (λ (o : Option Context). played (step_if o slot d) w) there
    ∙ (ap (λ (p : Phase). played (phase_step p slot c d) w) phase
    ∙ (copy_out_played done total slot c d w
    ∙ (ap (λ (all : Bool). copied_out slot d (played (out_step all n r c done total) w)) more
    ∙ (ap (λ (o : Option PageId).
    copied_out slot d (played (out_placed c done total o (is_cloaked r c (byte_address (area c) done))) w)) lies
    ∙ (ap (λ (b : Bool). copied_out slot d (played (out_placed c done total (Some q) b) w)) clear
    ∙ (ap (λ (u : Told Answer). copied_out slot d (played (out_got c q done total u.answer) u.world)) got
    ∙ (ap (λ (u : Told Answer). copied_out slot d (played (out_reached c q done total byte u.answer) u.world)) same
    ∙ ap (λ (a : Answer). copied_out slot d (played (out_reached c q done total byte a) t.world)) stops)))))))

-- Every step: if a page for which it asks is refused, it is stopped.

question_at : (q : PageId) (va va' : ℕ) (kind kind' : Kind) (w w' : World) → va ≡ va' → kind ≡ kind' → w ≡ w' →
    ask_reach q va' kind' w' ≡ ask_reach q va kind w
question_at q va va' kind kind' w w' at is begins =
    sym (ap (λ (x : ℕ). ask_reach q x kind w) at
    ∙ (ap (λ (k : Kind). ask_reach q va' k w) is ∙ ap (λ (v : World). ask_reach q va' kind' v) begins))

asked_stops : (slot : ℕ) (d : Domain) (c : Context) (q : PageId) (va : ℕ) (kind : Kind) (begun w : World) →
    context_at d.control.contexts slot ≡ Some c → pages_for d (Some c) va ≡ Some q →
    AsksAt d c begun va kind w → (ask_reach q va kind w).answer ≡ told.Stopped →
    domain_step slot d begun ≡ halted d (ask_reach q va kind w).world
asked_stops slot d c q va kind begun w there lies (Fetches plain at is begins) stops =
    fetch_stops slot d c q begun (ask_reach q va kind w) there plain
    (subst (λ (x : ℕ). pages_for d (Some c) x ≡ Some q) at lies)
    (question_at q va c.pc kind Fetch w begun at is begins) stops
asked_stops slot d c q va kind begun w there lies (LoadsAt word i runs found rd width is_signed loads is) stops =
    load_stops slot d c q begun w word i rd va width is_signed (ask_reach q va kind w) there runs found loads lies
    (question_at q va va kind Load w w refl is refl) stops
asked_stops slot d c q va kind begun w there lies (StoresAt word i runs found width value stores is) stops =
    store_stops slot d c q begun w word i va width value (ask_reach q va kind w) there runs found stores lies
    (question_at q va va kind Store w w refl is refl) stops
asked_stops slot d c q va kind begun w there lies (AtomicAt word a runs found at aligned is) stops =
    atomic_stops slot d c q begun w word a (ask_reach q va kind w) there runs found
    (subst (λ (x : ℕ). x % 4 ≡ 0) at aligned) (subst (λ (x : ℕ). pages_for d (Some c) x ≡ Some q) at lies)
    (question_at q va (register c.regs a.rs1) kind (atomic_kind a.op) w w at is refl) stops
asked_stops slot d c q va kind begun w there lies (CopiesFrom done phase more at clear is begins) stops =
    in_stops slot d c q begun done (ask_reach q va kind w) there phase (lt-leb (call_length c) done more)
    (subst (λ (x : ℕ). pages_for d (Some c) x ≡ Some q) at lies) clear
    (question_at q va (byte_address (buffer c) done) kind Load w begun at is begins) stops
asked_stops slot d c q va kind begun w there lies (CopiesTo done total byte phase more at clear got is) stops =
    out_stops slot d c q begun w done total byte (ask_reach q va kind w) there phase (lt-leb total done more)
    (subst (λ (x : ℕ). pages_for d (Some c) x ≡ Some q) at lies) clear got
    (question_at q va (byte_address (buffer c) done) kind Store w w at is refl) stops

-- the step of the hart is that of its context
pub context_turn : (m : Moment) (s : StepsInside m) →
    step_before_end m
    ≡ after_domain_step m.joint (next_hart m) (ticked (hart_of_step m)) (domain_of s.ctx)
    (domain_step (slot_of s.ctx) s.domain (world_inside m s))
unfolding turn_of inside_step by_running by_interrupt
context_turn m s =
    let j = m.joint in
    let number = next_hart m in
    let h = ticked (hart_of_step m) in
    let e = domain_of s.ctx in
    let slot = slot_of s.ctx in
    ap (λ (o : Option ℕ). turn_of j number (hart_of_step m) o) s.runs
    ∙ (ap (λ (o : Option Domain). inside_step j number h s.ctx o) s.program
    ∙ (ap (λ (b : Bool). by_running b j number h s.ctx s.domain) (ap (runs_on number) s.there ∙ s.here)
    ∙ (ap (λ (b : Bool). by_interrupt b j number h e slot s.domain) s.goes
    ∙ ap (λ (o : Option Context). after_domain_step j number h e
    (domain_step slot s.domain (Cloaked (cloak_of j.memory h e (pages_for s.domain o))))) s.there)))

-- The step has this violation, and leaves each program's contexts and resources as they were.
pub record IsStopped (m : Moment) (v : Violation) : Type 0 where
  pub violates : (step_before_end m).violation ≡ Some v
  pub domains : (step_before_end m).joint.domains ≡ m.joint.domains

pub page_violates : (m : Moment) (q : PageId) (f : ℕ) → PresentsPage m q f →
    IsStopped m (violation.Page q (record { 0 = f }))
unfolding after_domain_step domain_ended
page_violates m q f p =
    let s = p.step in
    let w : World = (ask_reach q p.va p.kind (Cloaked p.at)).world in
    let refused = page_is_refused q p.va p.kind f p.at p.finds in
    let turn : step_before_end m
    ≡ after_domain_step m.joint (next_hart m) (ticked (hart_of_step m)) (domain_of s.ctx) (halted s.domain w) =
    context_turn m s
    ∙ ap (after_domain_step m.joint (next_hart m) (ticked (hart_of_step m)) (domain_of s.ctx))
    (asked_stops (slot_of s.ctx) s.domain s.context q p.va p.kind (world_inside m s) (Cloaked p.at) s.there p.lies
    p.asks refused.answer) in
    record {
      violates = ap (λ (t : Turn). t.violation) turn ∙ refused.violation;
      domains = ap (λ (t : Turn). t.joint.domains) turn
          ∙ set_itself m.joint.domains (domain_of s.ctx) s.domain s.program;
    }
