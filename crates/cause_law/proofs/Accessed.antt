-- A step of a program leaves all calm, or it is stopped at a page for which it asks.
use Rattle.std.proofs.Common.{◌≡◌, ◌⊎◌, ◌%◌, ℕ, Bool, true, false, cond, nat_le, Option, Some, None, refl, ap, sym, subst, inl, inr}
use Rattle.std.specs.Prelude.{◌==◌}
use Rattle.std.proofs.lemmas.Bool.{leb-false, eqb-true}
use Rattle.cloak_base.specs.declared.names.Kind.{Kind}
use Rattle.cloak_base.specs.declared.names.Kind.TheVariants.{Fetch, Load, Store}
use Rattle.cloak_base.specs.declared.names.PageId.{PageId}
use Rattle.cloak_base.specs.Registers.{register}
use Rattle.rv_isa.specs.Table.{instruction}
use Rattle.rv_isa.specs.declared.instr.Instr.{Instr}
use Rattle.rv_isa.specs.declared.instr.Instr.TheVariants.{Ecall, Ebreak}
use Rattle.rv_atomic.specs.Table.{atomic_instruction}
use Rattle.rv_atomic.specs.declared.atomic.Atomic.{Atomic}
use Rattle.rv_atomic.specs.declared.atomic.AtomicOp.{AtomicOp}
use Rattle.rv_atomic.specs.declared.atomic.AtomicOp.TheVariants.{Lr, Sc}
use Rattle.cloak_model.specs.declared.answer.Answer.{Answer}
use Rattle.cloak_model.specs.declared.answer.Answer.TheVariants as told
use Rattle.cloak_model.specs.declared.context.PageWord.{PageWord}
use Rattle.cloak_model.specs.declared.context.Phase.{Phase}
use Rattle.cloak_model.specs.declared.context.Phase.TheVariants.{Plain, CopyIn, Waiting, CopyOut}
use Rattle.cloak_model.specs.declared.inside.Copied.{Copied}
use Rattle.cloak_model.specs.declared.inside.Copied.TheVariants as copied
use Rattle.cloak_model.specs.declared.inside.Ran.{Ran}
use Rattle.cloak_model.specs.declared.inside.Ran.TheVariants as ran
use Rattle.cloak_model.specs.declared.inside.Went.TheVariants as went
use Rattle.cloak_model.specs.declared.outcome.Effect.{Effect}
use Rattle.cloak_model.specs.declared.outcome.Effect.TheVariants as does
use Rattle.cloak_model.specs.Asking.{Told, answered}
use Rattle.cloak_model.specs.AskPages.{ask_reach, ask_read, ask_get}
use Rattle.cloak_model.specs.Calls as calls
use Rattle.cloak_model.specs.Calls.{Copy, buffer, area, call_length, byte_address, is_cloaked, copy_in_step, copy_out_step}
use Rattle.cloak_model.proofs.CallParts.{in_placed, in_step, out_placed, out_step}
use Rattle.cloak_model.specs.Contexts.{Context, word_of_page, is_reserved}
use Rattle.cloak_model.specs.DomainState.{Control, Domain}
use Rattle.cloak_model.specs.DomainStep.{DomainStepped, instruction_ended, copy_ended, after_write, phase_step}
use Rattle.cloak_model.specs.Effect.{effect}
use Rattle.cloak_model.specs.Hypercalls.{Hypercall, Stepped, hypercall, hypercall_of}
use Rattle.cloak_model.proofs.Playing.{by_plain, by_copy_in, by_copy_out, by_ecall}
use Rattle.hypercall_kinds.specs.Kinds.{CallKind, Stops, Forks, EndsSpace, after}
use Rattle.hypercall_kinds.proofs.ByKinds.{by_kinds}
use Rattle.cloak_model.specs.InsideStep.{AfterInstruction, if_reached, if_got, load_inside, store_inside, atomic_granted, atomic_placed, atomic_inside, system_inside, done_inside, decoded_inside, fetch, instruction_inside}
use Rattle.cloak_model.specs.Joint.{pages_for}
use Rattle.cloak_model.specs.KernelStep.{atomic_kind}
use Rattle.cloak_model.specs.Memory.{value_in}
use Rattle.cloak_model.specs.World.{World, MidStep, Cloaked, regime_of, plain_of}
use Rattle.domain_isolation.proofs.Answers.{question_answered}
use Rattle.cloak_model.specs.Script.{Question, Reach, Get, Put, Clear, Script, Gives, Asks, Reads, Changes, asked, changed, played}
use Rattle.script_fold.proofs.Scripts.{EndClaims, IsStop, EndsSo}
use Rattle.script_fold.proofs.InstructionScripts.{of_instruction, instruction_scripted}
use Rattle.script_fold.proofs.CopyScripts.{of_copy, copy_in_scripted, copy_out_scripted}
use Rattle.cause_law.specs.Presented.{Executes, AsksAt, Fetches, LoadsAt, StoresAt, AtomicAt, CopiesFrom, CopiesTo}
use Rattle.cause_law.proofs.Asked.{Calm, Met, Calms, Calms-refl, Calms-trans, CalmOrMet, asked_meets, calms_asks_get, calms_asks_put, calms_asks_clear, calms_changed, calms_copies, calms_forgets, is_cloaked_calm}

-- A context's step asks for a page.
pub record AskedIn (d : Domain) (c : Context) (begun : World) (q : PageId) (va : ℕ) (kind : Kind) (w : World) :
    Type 0 where
  pub lies : pages_for d (Some c) va ≡ Some q
  pub regime : regime_of w ≡ regime_of begun
  pub asks : AsksAt d c begun va kind w

-- It found a page for which it asks in another frame.
pub record MetIn (d : Domain) (c : Context) (begun v : World) : Type 0 where
  pub page : PageId
  pub va : ℕ
  pub kind : Kind
  pub at : MidStep
  pub asked : AskedIn d c begun page va kind (Cloaked at)
  pub met : Met page va kind at v

-- It leaves all calm, or was stopped so.
abbrev pub EndsCalmOrMet : {A : Type 0} → (A → Type 0) → Domain → Context → World → Told A → Type 0
EndsCalmOrMet stopped d c begun t = Calm t.world ⊎ (stopped t.answer × MetIn d c begun t.world)

abbrev pub IsStoppedStep : DomainStepped → Type 0
IsStoppedStep made = made.went ≡ went.Stopped

reach_regime : (q : PageId) (va : ℕ) (kind : Kind) (w : World) → Calm w → regime_of (ask_reach q va kind w).world ≡ regime_of w
reach_regime q va kind w calm =
    (question_answered q.domain (Reach q va kind) w (is_cloaked_calm w calm)).replied.regime

get_regime : (va width : ℕ) (w : World) → Calm w → regime_of (ask_get va width w).world ≡ regime_of w
get_regime va width w calm =
    (question_answered 0 (Get va width) w (is_cloaked_calm w calm)).replied.regime

module _ (d : Domain) (c : Context) (begun : World) where
  abbrev IsAsked : Question → World → Type 0
  IsAsked (Reach q va kind) w = AskedIn d c begun q va kind w
  IsAsked _ w = Unit {0}

  -- each page that a script reaches in a world is one for which the step asks
  abbrev Reaches : {A : Type 0} → Script A → World → Type 0
  Reaches (Gives a) w = Unit {0}
  Reaches (Asks question more) w =
      IsAsked question w × Reaches (more (asked question w).answer) (asked question w).world
  Reaches (Reads q at width more) w = Reaches (more (ask_read q at width w).answer) (ask_read q at width w).world
  Reaches (Changes change more) w = Reaches more (changed change w).world

  -- Such a script leaves all calm, or was stopped so.

  stop_meets : {A : Type 0} (e : EndClaims A) (s : Script A) (w : World) → IsStop e s → MetIn d c begun w →
      EndsCalmOrMet e.stopped d c begun (played s w)
  unfolding IsStop
  stop_meets e (Gives a) w is met = inr (is, met)
  stop_meets e _ w is met = absurd is

  reach_meets : {A : Type 0} (e : EndClaims A) (more : Answer → Script A) (q : PageId) (va : ℕ) (kind : Kind)
      (k : MidStep) (t : Told Answer) → AskedIn d c begun q va kind (Cloaked k) → IsStop e (more told.Stopped) →
      CalmOrMet q va kind k t →
      (Calm t.world → EndsCalmOrMet e.stopped d c begun (played (more t.answer) t.world)) →
      EndsCalmOrMet e.stopped d c begun (played (more t.answer) t.world)
  reach_meets e more q va kind k t asked stops (inl calm) next = next calm
  reach_meets e more q va kind k t asked stops (inr met) next =
      stop_meets e (more t.answer) t.world (subst (λ (a : Answer). IsStop e (more a)) (sym met.0) stops)
      (record { page = q; va = va; kind = kind; at = k; asked = asked; met = met.1 })

  script_meets : {A : Type 0} (e : EndClaims A) (s : Script A) (w : World) → EndsSo e s → Reaches s w → Calm w →
      EndsCalmOrMet e.stopped d c begun (played s w)
  unfolding EndsSo ask_read
  script_meets e (Gives a) w ends asks calm = inl calm
  script_meets e (Asks (Reach q va kind) more) (Cloaked k) ends asks calm =
      let t = ask_reach q va kind (Cloaked k) in
      reach_meets e more q va kind k t asks.0 ends.1 (asked_meets q va kind k calm)
      (λ still. script_meets e (more t.answer) t.world (ends.0 t.answer) asks.1 still)
  script_meets e (Asks (Reach q va kind) more) _ ends asks calm = absurd calm
  script_meets e (Asks (Get va width) more) w ends asks calm =
      script_meets e (more _) _ (ends.0 _) asks.1 ((calms_asks_get va width w).by calm)
  script_meets e (Asks (Put va width value) more) w ends asks calm =
      script_meets e (more _) _ (ends.0 _) asks.1 ((calms_asks_put va width value w).by calm)
  script_meets e (Asks (Clear domain marked) more) w ends asks calm =
      script_meets e (more _) _ (ends.0 _) asks.1 ((calms_asks_clear domain marked w).by calm)
  script_meets e (Reads q at width more) w ends asks calm = script_meets e (more _) w (ends _) asks calm
  script_meets e (Changes change more) w ends asks calm =
      script_meets e more _ ends asks ((calms_changed change w).by calm)

  -- Instructions.

  -- a question, and what follows its answer
  reached_asks : (question : Question) (made : Context) (va : ℕ) (next : Script AfterInstruction) (w : World) →
      IsAsked question w → ((asked question w).answer ≡ told.Ok → Reaches next (asked question w).world) →
      Reaches (Asks question (λ answer. if_reached made va answer next)) w
  reached_asks question made va next w asks more = (asks, by (asked question w).answer refl)
    where
      by : (a : Answer) → (asked question w).answer ≡ a → Reaches (if_reached made va a next) (asked question w).world
      by told.Ok is = more is
      by _ is = tt

  got_asks : (c : Context) (va : ℕ) (a : Answer) (next : ℕ → Script AfterInstruction) (w : World) →
      ((value : ℕ) → Reaches (next value) w) → Reaches (if_got c va a next) w
  got_asks c va (told.Word value) next w more = more value
  got_asks c va _ next w more = tt

  either_asks : (test : Bool) (s t : Script AfterInstruction) (w : World) → (test ≡ true → Reaches s w) → Reaches t w →
      Reaches (cond test s t) w
  either_asks true s t w first second = first refl
  either_asks false s t w first second = second

  load_asks : (rd va width : ℕ) (is_signed : Bool) (o : Option PageId) (w : World) → pages_for d (Some c) va ≡ o →
      regime_of w ≡ regime_of begun → AsksAt d c begun va Load w → Reaches (load_inside c rd va width is_signed o) w
  unfolding load_inside
  load_asks rd va width is_signed None w lies regime asks =
      (tt, got_asks c va (ask_get va width w).answer _ _ (λ value. tt))
  load_asks rd va width is_signed (Some q) w lies regime asks =
      reached_asks (Reach q va Load) c va _ w (record { lies = lies; regime = regime; asks = asks }) (λ ok. tt)

  store_asks : (va width value : ℕ) (o : Option PageId) (w : World) → pages_for d (Some c) va ≡ o →
      regime_of w ≡ regime_of begun → AsksAt d c begun va Store w → Reaches (store_inside c va width value o) w
  unfolding store_inside
  store_asks va width value None w lies regime asks = reached_asks (Put va width value) c va _ w tt (λ ok. tt)
  store_asks va width value (Some q) w lies regime asks =
      reached_asks (Reach q va Store) c va _ w (record { lies = lies; regime = regime; asks = asks }) (λ ok. tt)

  system_asks : (i : Instr) (w : World) → Reaches (system_inside c i) w
  unfolding system_inside
  system_asks Ecall w = tt
  system_asks Ebreak w = tt
  system_asks i w = tt

  done_asks : (word : ℕ) (i : Instr) (e : Effect) (w : World) → Executes d c begun word w →
      instruction word ≡ Some i → effect i c.regs c.pc ≡ e → regime_of w ≡ regime_of begun →
      Reaches (done_inside d.control.number d.control.resources c i e) w
  unfolding done_inside
  done_asks word i (does.Load rd va width is_signed) w runs found is regime =
      load_asks rd va width is_signed _ w refl regime (LoadsAt word i runs found rd width is_signed is refl)
  done_asks word i (does.Store va width value) w runs found is regime =
      store_asks va width value _ w refl regime (StoresAt word i runs found width value is refl)
  done_asks word i does.System w runs found is regime = system_asks i w
  done_asks word i _ w runs found is regime = tt

  granted_asks : (rd : ℕ) (op : AtomicOp) (q : PageId) (va operand : ℕ) (w : World) →
      Reaches (atomic_granted c rd op q va operand) w
  unfolding atomic_granted
  granted_asks rd Lr q va operand w = tt
  granted_asks rd Sc q va operand w = either_asks (is_reserved (word_of_page q va) c.mark) _ _ w (λ is. tt) tt
  granted_asks rd op q va operand w = tt

  placed_asks : (rd : ℕ) (op : AtomicOp) (va operand : ℕ) (o : Option PageId) (w : World) →
      pages_for d (Some c) va ≡ o → regime_of w ≡ regime_of begun → AsksAt d c begun va (atomic_kind op) w →
      Reaches (atomic_placed c rd op va operand o) w
  unfolding atomic_placed
  placed_asks rd op va operand None w lies regime asks = tt
  placed_asks rd op va operand (Some q) w lies regime asks =
      reached_asks (Reach q va (atomic_kind op)) c va _ w (record { lies = lies; regime = regime; asks = asks })
      (λ ok. granted_asks rd op q va operand _)

  atomic_asks : (word : ℕ) (o : Option Atomic) (w : World) → Executes d c begun word w →
      atomic_instruction word ≡ o → regime_of w ≡ regime_of begun →
      Reaches (atomic_inside d.control.number d.control.resources c o) w
  unfolding atomic_inside
  atomic_asks word None w runs is regime = tt
  atomic_asks word (Some a) w runs is regime =
      let va = register c.regs a.rs1 in
      either_asks (va % 4 == 0) _ _ w (λ aligned. placed_asks a.rd a.op va (register c.regs a.rs2) _ w refl regime
      (AtomicAt word a runs is refl (eqb-true (va % 4) 0 aligned) refl)) tt

  decoded_asks : (word : ℕ) (o : Option Instr) (w : World) → Executes d c begun word w → instruction word ≡ o →
      regime_of w ≡ regime_of begun → Reaches (decoded_inside d.control.number d.control.resources c word o) w
  unfolding decoded_inside
  decoded_asks word None w runs found regime = atomic_asks word _ w runs refl regime
  decoded_asks word (Some i) w runs found regime = done_asks word i _ w runs found refl regime

  fetch_asks : (o : Option PageId) → c.phase ≡ Plain → pages_for d (Some c) c.pc ≡ o → Calm begun →
      Reaches (fetch d.control.number d.control.resources c o) begun
  unfolding fetch ask_read
  fetch_asks None plain lies calm = tt
  fetch_asks (Some q) plain lies calm =
      let v = (ask_reach q c.pc Fetch begun).world in
      reached_asks (Reach q c.pc Fetch) c c.pc _ begun
      (record { lies = lies; regime = refl; asks = Fetches plain refl refl refl })
      (λ ok. decoded_asks (value_in (plain_of v q) (c.pc % 4096) 4) _ v (record {
        plain = plain;
        page = q;
        lies = lies;
        granted = ap (λ (a : Answer). let t : Told Answer = record { answer = a; world = v } in t) ok;
        has = refl;
      }) refl (reach_regime q c.pc Fetch begun calm))

  -- Copies.

  copy_asks : (question : Question) (va : ℕ) (next : Script Copy) (w : World) → IsAsked question w →
      Reaches next (asked question w).world →
      Reaches (Asks question (λ answer. calls.if_reached c va answer next)) w
  copy_asks question va next w asks more = (asks, by (asked question w).answer)
    where
      by : (a : Answer) → Reaches (calls.if_reached c va a next) (asked question w).world
      by told.Ok = more
      by _ = tt

  byte_asks : (va : ℕ) (a : Answer) (next : ℕ → Script Copy) (v : World) →
      ((byte : ℕ) → a ≡ told.Word byte → Reaches (next byte) v) → Reaches (calls.if_got c va a next) v
  byte_asks va (told.Word byte) next v more = more byte refl
  byte_asks va _ next v more = tt

  in_asks : (done : ℕ) (o : Option PageId) (cloaked : Bool) → c.phase ≡ CopyIn done →
      nat_le (call_length c) done ≡ false → pages_for d (Some c) (byte_address (buffer c) done) ≡ o →
      is_cloaked d.control.resources c (byte_address (area c) done) ≡ cloaked →
      Reaches (in_placed c done o cloaked) begun
  in_asks done None cloaked phase more lies is = tt
  in_asks done (Some q) true phase more lies is = tt
  in_asks done (Some q) false phase more lies is =
      let from : ℕ = byte_address (buffer c) done in
      copy_asks (Reach q from Load) from _ begun (record {
        lies = lies;
        regime = refl;
        asks = CopiesFrom done phase (leb-false (call_length c) done more) refl is refl refl;
      }) (copy_asks (Put (byte_address (area c) done) 1 _) (byte_address (area c) done) _ _ tt tt)

  in_step_asks : (done : ℕ) (all : Bool) → c.phase ≡ CopyIn done → nat_le (call_length c) done ≡ all →
      Reaches (in_step all d.control.number d.control.resources c done) begun
  in_step_asks done true phase more = tt
  in_step_asks done false phase more = in_asks done _ _ phase more refl refl

  out_asks : (done total : ℕ) (o : Option PageId) (cloaked : Bool) → c.phase ≡ CopyOut done total →
      nat_le total done ≡ false → pages_for d (Some c) (byte_address (buffer c) done) ≡ o →
      is_cloaked d.control.resources c (byte_address (area c) done) ≡ cloaked → Calm begun →
      Reaches (out_placed c done total o cloaked) begun
  out_asks done total None cloaked phase more lies is calm = tt
  out_asks done total (Some q) true phase more lies is calm = tt
  out_asks done total (Some q) false phase more lies is calm =
      let from : ℕ = byte_address (area c) done in
      let v = (ask_get from 1 begun).world in (
        tt,
        byte_asks from (ask_get from 1 begun).answer _ v (λ byte got.
            copy_asks (Reach q (byte_address (buffer c) done) Store) (byte_address (buffer c) done) _ v (record {
              lies = lies;
              regime = get_regime from 1 begun calm;
              asks = CopiesTo done total byte phase (leb-false total done more) refl is
                  (ap (λ (a : Answer). let t : Told Answer = record { answer = a; world = v } in t) got) refl;
            }) tt),
      )

  out_step_asks : (done total : ℕ) (all : Bool) → c.phase ≡ CopyOut done total → nat_le total done ≡ all → Calm begun →
      Reaches (out_step all d.control.number d.control.resources c done total) begun
  out_step_asks done total true phase more calm = tt
  out_step_asks done total false phase more calm = out_asks done total _ _ phase more refl refl calm

-- Hypercalls.

calms_hypercall : (h : Hypercall) (slot : ℕ) (c : Context) (d : Control) (w : World) →
    Calms w (played (hypercall h slot c d) w).world
calms_hypercall h slot c d w = by_kinds (λ (t : Told Stepped). Calms w t.world) h slot c d w each
  where
    each : (k : CallKind h slot c d w) → Calms w (after h slot c d w k).world
    each (Stops other) = calms_asks_clear d.number _ w
    each (Forks free new is room slots spaces ok) =
        Calms-trans _ _ _ (calms_asks_clear d.number _ w) (calms_copies d.number _ _)
    each (EndsSpace is none ok) = Calms-trans _ _ _ (calms_asks_clear d.number _ w) (calms_forgets d.number _ _)
    each _ = Calms-refl w

ran_meets : (slot : ℕ) (d : Domain) (c made : Context) (begun : World) (e : Ran) (w : World) →
    Calm w ⊎ ((e ≡ ran.Stopped) × MetIn d c begun w) →
    EndsCalmOrMet IsStoppedStep d c begun (played (instruction_ended slot d made e) w)
unfolding instruction_ended
ran_meets slot d c made begun ran.Stay w (inl calm) = inl calm
ran_meets slot d c made begun (ran.Loaded address value) w (inl calm) = inl calm
ran_meets slot d c made begun (ran.Trap cause address) w (inl calm) = inl calm
ran_meets slot d c made begun ran.Ecall w (inl calm) =
    by_ecall (EndsCalmOrMet IsStoppedStep d c begun) slot d made w
    (inl ((calms_hypercall (hypercall_of made) slot made d.control w).by calm))
ran_meets slot d c made begun ran.Stopped w (inl calm) = inl calm
ran_meets slot d c made begun ran.Stopped w (inr met) = inr (refl, met.1)
ran_meets slot d c made begun ran.Stay w (inr met) = let is = met.0 in absurd cc
ran_meets slot d c made begun (ran.Loaded address value) w (inr met) = let is = met.0 in absurd cc
ran_meets slot d c made begun (ran.Trap cause address) w (inr met) = let is = met.0 in absurd cc
ran_meets slot d c made begun ran.Ecall w (inr met) = let is = met.0 in absurd cc

copied_meets : (slot : ℕ) (d : Domain) (c made : Context) (begun : World) (e : Copied) (w : World) →
    Calm w ⊎ ((e ≡ copied.Stopped) × MetIn d c begun w) →
    Calm w ⊎ (IsStoppedStep (copy_ended slot d made e) × MetIn d c begun w)
unfolding copy_ended
copied_meets slot d c made begun e w (inl calm) = inl calm
copied_meets slot d c made begun e w (inr met) =
    inr (ap (λ (x : Copied). (copy_ended slot d made x).went) met.0, met.1)

-- A step.

-- a word that was written in changes reservations alone
written_stops : (wrote : Option PageWord) (s : DomainStepped) → IsStoppedStep s → IsStoppedStep (after_write wrote s)
written_stops None s is = is
written_stops (Some place) s is = is

written_meets : (wrote : Option PageWord) (d : Domain) (c : Context) (begun : World) (s : DomainStepped) (w : World) →
    Calm w ⊎ (IsStoppedStep s × MetIn d c begun w) →
    EndsCalmOrMet IsStoppedStep d c begun (answered (after_write wrote s) w)
written_meets wrote d c begun s w (inl calm) = inl calm
written_meets wrote d c begun s w (inr met) = inr (written_stops wrote s met.0, met.1)

pub phase_meets : (p : Phase) (slot : ℕ) (d : Domain) (c : Context) (begun : World) → c.phase ≡ p → Calm begun →
    EndsCalmOrMet IsStoppedStep d c begun (played (phase_step p slot c d) begun)
unfolding phase_step instruction_inside copy_in_step copy_out_step
phase_meets Plain slot d c begun is calm =
    by_plain (EndsCalmOrMet IsStoppedStep d c begun) slot c d begun
    (written_meets _ d c begun _ _ (ran_meets slot d c _ begun _ _
    (script_meets d c begun (of_instruction c) (instruction_inside d.control.number d.control.resources c) begun
    (instruction_scripted d.control.number d.control.resources c).ends (fetch_asks d c begun _ is refl calm) calm)))
phase_meets (CopyIn done) slot d c begun is calm =
    by_copy_in (EndsCalmOrMet IsStoppedStep d c begun) done slot c d begun
    (copied_meets slot d c _ begun _ _
    (script_meets d c begun (of_copy c) (copy_in_step d.control.number d.control.resources c done) begun
    (copy_in_scripted d.control.number d.control.resources c done).ends (in_step_asks d c begun done _ is refl) calm))
phase_meets Waiting slot d c begun is calm = inl calm
phase_meets (CopyOut done total) slot d c begun is calm =
    by_copy_out (EndsCalmOrMet IsStoppedStep d c begun) done total slot c d begun
    (written_meets _ d c begun _ _
    (copied_meets slot d c _ begun _ _
    (script_meets d c begun (of_copy c) (copy_out_step d.control.number d.control.resources c done total) begun
    (copy_out_scripted d.control.number d.control.resources c done total).ends
    (out_step_asks d c begun done total _ is refl calm) calm)))
