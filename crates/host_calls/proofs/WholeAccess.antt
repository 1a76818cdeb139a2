-- A load, a store, a fetch and an atomic instruction of the step are a whole access, and what follows its answer; the
-- step is what comes before its end, and its end.
use Rattle.std.proofs.Common.{◌≡◌, ◌≢◌, ◌∙◌, true, false, cond, ℕ, Bool, List, Option, None, Some, option_map, Result, Ok, Err, refl, ap, subst, sym}
use Rattle.std.proofs.lemmas.Option.{none-some, same_Some}
use Rattle.rv_atomic.specs.Table.{atomic_instruction}
use Rattle.rv_atomic.specs.declared.atomic.Atomic.{Atomic}
use Rattle.rv_atomic.specs.declared.atomic.AtomicOp.{AtomicOp}
use Rattle.rv_atomic.specs.declared.atomic.AtomicOp.TheVariants.{Lr, Sc, Swap, Add, Xor, And, Or, Min, Max, Minu, Maxu}
use Rattle.rv_isa.specs.Table.{instruction}
use Rattle.rv_isa.specs.declared.instr.Instr.{Instr}
use Rattle.cloak_base.specs.declared.names.Kind.TheVariants.{Fetch, Load, Store}
use Rattle.cloak_model.specs.Effect.{effect}
use Rattle.cloak_model.specs.declared.outcome.Effect.{Effect}
use Rattle.cloak_model.specs.Hart.{Hart}
use Rattle.cloak_model.specs.Csr.{satp_of, interrupt_due}
use Rattle.cloak_model.specs.World.{World}
use Rattle.cloak_model.specs.Asking.{Asking, answered, then_ask}
use Rattle.cloak_model.specs.Ask.{ask_load, ask_store_at, ask_reserve, ask_store_conditional, ask_combine, ask_unmark}
use Rattle.cloak_model.specs.HartStep.{SteppedHart, raised}
use Rattle.cloak_model.specs.HostCalls.{SteppedKernel, over}
use Rattle.cloak_model.specs.declared.outcome.Kernel.{Kernel}
use Rattle.cloak_model.specs.declared.outcome.Kernel.TheVariants.{Stay}
use Rattle.cloak_model.specs.KernelStep.{access, ends_reservation, released, ticked}
use Rattle.step_parts.specs.Parts.{after_load, load_part, after_store, store_part, after_atomic, reserve_part, after_conditional, conditional_part, combine_part, atomic_access_part, atomic_part, decoded_part, done_part, executed_part, fetched_part, instruction_part, interrupted, step_in_parts}
use Rattle.host_calls.specs.declared.ram.Ram.{Ghosts}
use Rattle.host_calls.specs.Stepping.{StepsOver, ReleasesAfter}
use Rattle.cloak_model.proofs.Later.{IsLater}
use Rattle.cloak_model.proofs.Following.{then_follows, follows_same}
use Rattle.step_parts.proofs.StepLater.{later_fetched, later_released}

-- what steps over a memory as the access does, does so as the part does

ended : {M A B : Type 0} (ram : Ghosts M) (old new : M) (a : A) (b : B) (ask : Asking A) (ending : A → B) →
    b ≡ ending a → StepsOver ram old new a ask → StepsOver ram old new b (then_ask ask (λ x. answered (ending x)))
ended ram old new a b ask ending is steps =
    record {
      follows = λ first w stands unclashed.
          let f = steps.follows first w stands unclashed in
          record { answer = is ∙ ap ending f.answer; stands = f.stands };
      keeps = steps.keeps;
      same_count = steps.same_count;
    }

then_steps : {M A B : Type 0} (ram : Ghosts M) (old mid new : M) (a : A) (b : B) (ask : Asking A) (next : A → Asking B) →
    ((x : A) (w : World) → IsLater w (next x w).world) → StepsOver ram old mid a ask → StepsOver ram mid new b (next a) →
    StepsOver ram old new b (then_ask ask next)
then_steps ram old mid new a b ask next later first second =
    record {
      follows = then_follows ram.stands_for old mid new a b ask next later first.follows second.follows;
      keeps = λ start kept. second.keeps start (first.keeps start kept);
      same_count = second.same_count ∙ first.same_count;
    }

same_steps : {M A : Type 0} (ram : Ghosts M) (old new : M) (a : A) (ask same : Asking A) → ((w : World) → ask w ≡ same w) → StepsOver ram old new a same →
    StepsOver ram old new a ask
same_steps ram old new a ask same is steps =
    record {
      follows = follows_same ram.stands_for old new a ask same is steps.follows;
      keeps = steps.keeps;
      same_count = steps.same_count;
    }

pub load_steps : {M : Type 0} (ram : Ghosts M) (old new : M) (h : Hart) (rd va width : ℕ) (s : Bool) (found : Result ℕ ℕ) (made : SteppedHart) →
    made ≡ after_load h rd va width s found →
    StepsOver ram old new found (ask_load (satp_of h.csrs) (access h Load va) width) →
    StepsOver ram old new made (load_part h rd va width s)
unfolding load_part
load_steps ram old new h rd va width s found made is steps =
    ended ram old new found made _ (after_load h rd va width s) is steps

pub store_steps : {M : Type 0} (ram : Ghosts M) (old new : M) (h : Hart) (va width value : ℕ) (found : Result (Unit {0}) ℕ) (made : SteppedHart) →
    made ≡ after_store h va found →
    StepsOver ram old new found (ask_store_at (satp_of h.csrs) (access h Store va) width value) →
    StepsOver ram old new made (store_part h va width value)
unfolding store_part
store_steps ram old new h va width value found made is steps =
    ended ram old new found made _ (after_store h va) is steps

fetch_steps : {M : Type 0} (ram : Ghosts M) (old mid new : M) (h : Hart) (disk : List ℕ) (pc : ℕ) (found : Result ℕ ℕ) (after : SteppedKernel) →
    pc ≡ h.pc → StepsOver ram old mid found (ask_load (satp_of h.csrs) (access h Fetch pc) 4) →
    StepsOver ram mid new after (fetched_part h disk found) →
    StepsOver ram old new after (instruction_part h disk)
unfolding instruction_part
fetch_steps ram old mid new h disk pc found after at steps then =
    let fetched = subst (λ (va : ℕ). StepsOver ram old mid found (ask_load (satp_of h.csrs) (access h Fetch va) 4)) at steps in
    then_steps ram old mid new found after _ (fetched_part h disk) (later_fetched h disk) fetched then

pub fault_steps : {M : Type 0} (ram : Ghosts M) (old new : M) (h : Hart) (disk : List ℕ) (pc : ℕ) (cause : ℕ) (after : SteppedKernel) →
    pc ≡ h.pc → after ≡ over disk (raised h cause pc) →
    StepsOver ram old new (Err cause) (ask_load (satp_of h.csrs) (access h Fetch pc) 4) →
    StepsOver ram old new after (instruction_part h disk)
unfolding fetched_part
fault_steps ram old new h disk pc cause after at is steps =
    fetch_steps ram old new new h disk pc (Err cause) after at steps
    (record {
      follows = λ first w stands unclashed.
          record { answer = is ∙ ap (λ (va : ℕ). over disk (raised h cause va)) at; stands = stands };
      keeps = λ first kept. kept;
      same_count = refl;
    })

pub word_steps : {M : Type 0} (ram : Ghosts M) (old mid new : M) (h : Hart) (disk : List ℕ) (pc : ℕ) (word : ℕ) (after : SteppedKernel) →
    pc ≡ h.pc → StepsOver ram old mid (Ok word) (ask_load (satp_of h.csrs) (access h Fetch pc) 4) →
    StepsOver ram mid new after (executed_part h disk word) →
    StepsOver ram old new after (instruction_part h disk)
unfolding fetched_part
word_steps ram old mid new h disk pc word after at steps then = fetch_steps ram old mid new h disk pc (Ok word) after at steps then

-- the word was decoded
pub decoded_steps : {M : Type 0} (ram : Ghosts M) (old new : M) (h : Hart) (disk : List ℕ) (word : ℕ) (i : Option Instr) (after : SteppedKernel) →
    i ≡ instruction word → StepsOver ram old new after (decoded_part h disk word i) →
    StepsOver ram old new after (executed_part h disk word)
unfolding executed_part
decoded_steps ram old new h disk word i after is then =
    subst (λ i. StepsOver ram old new after (decoded_part h disk word i)) is then

-- the effect of the instruction that the word spells was found without it
pub effect_steps : {M : Type 0} (ram : Ghosts M) (old new : M) (h : Hart) (disk : List ℕ) (word : ℕ) (e : Effect) (after : SteppedKernel) →
    option_map (λ i. effect i h.regs h.pc) (instruction word) ≡ Some e →
    ((i : Instr) → StepsOver ram old new after (done_part h disk word i e)) →
    StepsOver ram old new after (executed_part h disk word)
unfolding executed_part decoded_part
effect_steps ram old new h disk word e after is steps = by_spelled (instruction word) is
  where
    by_spelled : (o : Option Instr) → option_map (λ i. effect i h.regs h.pc) o ≡ Some e →
        StepsOver ram old new after (decoded_part h disk word o)
    by_spelled None is = absurd (none-some e is)
    by_spelled (Some i) is =
        subst (λ e. StepsOver ram old new after (done_part h disk word i e)) (sym (same_Some _ _ is)) (steps i)

-- atomic instructions

pub reserve_steps : {M : Type 0} (ram : Ghosts M) (old new : M) (h : Hart) (rd va : ℕ) (found : Result ℕ ℕ) (made : SteppedHart) →
    made ≡ after_atomic h rd va found →
    StepsOver ram old new found (ask_reserve (satp_of h.csrs) (access h Load va) h.id) →
    StepsOver ram old new made (reserve_part h rd va)
unfolding reserve_part
reserve_steps ram old new h rd va found made is steps = ended ram old new found made _ (after_atomic h rd va) is steps

pub conditional_steps : {M : Type 0} (ram : Ghosts M) (old new : M) (h : Hart) (rd va value : ℕ) (found : Result Bool ℕ) (made : SteppedHart) →
    made ≡ after_conditional h rd va found →
    StepsOver ram old new found (ask_store_conditional (satp_of h.csrs) (access h Store va) h.id value) →
    StepsOver ram old new made (conditional_part h rd va value)
unfolding conditional_part
conditional_steps ram old new h rd va value found made is steps =
    ended ram old new found made _ (after_conditional h rd va) is steps

pub combine_steps : {M : Type 0} (ram : Ghosts M) (old new : M) (h : Hart) (rd : ℕ) (op : AtomicOp) (va operand : ℕ) (found : Result ℕ ℕ) (made : SteppedHart) →
    made ≡ after_atomic h rd va found →
    StepsOver ram old new found (ask_combine (satp_of h.csrs) (access h Store va) op operand) →
    StepsOver ram old new made (combine_part h rd op va operand)
unfolding combine_part
combine_steps ram old new h rd op va operand found made is steps =
    ended ram old new found made _ (after_atomic h rd va) is steps

-- every operation but LR and SC combines
pub operation_steps : {M : Type 0} (ram : Ghosts M) (old new : M) (made : SteppedHart) (h : Hart) (rd : ℕ) (op : AtomicOp) (va operand : ℕ) →
    op ≢ Lr → op ≢ Sc → StepsOver ram old new made (combine_part h rd op va operand) →
    StepsOver ram old new made (atomic_access_part h rd op va operand)
unfolding atomic_access_part
operation_steps ram old new made h rd Lr va operand not_lr not_sc steps = absurd (not_lr refl)
operation_steps ram old new made h rd Sc va operand not_lr not_sc steps = absurd (not_sc refl)
operation_steps ram old new made h rd Swap va operand not_lr not_sc steps = steps
operation_steps ram old new made h rd Add va operand not_lr not_sc steps = steps
operation_steps ram old new made h rd Xor va operand not_lr not_sc steps = steps
operation_steps ram old new made h rd And va operand not_lr not_sc steps = steps
operation_steps ram old new made h rd Or va operand not_lr not_sc steps = steps
operation_steps ram old new made h rd Min va operand not_lr not_sc steps = steps
operation_steps ram old new made h rd Max va operand not_lr not_sc steps = steps
operation_steps ram old new made h rd Minu va operand not_lr not_sc steps = steps
operation_steps ram old new made h rd Maxu va operand not_lr not_sc steps = steps

off_table : {M : Type 0} (ram : Ghosts M) (old new : M) (h : Hart) (disk : List ℕ) (word : ℕ) (made : SteppedHart) →
    StepsOver ram old new made (atomic_part h word (atomic_instruction word)) →
    StepsOver ram old new (over disk made) (decoded_part h disk word None)
unfolding decoded_part
off_table ram old new h disk word made whole =
    record {
      follows = λ first w stands unclashed.
          let f = whole.follows first w stands unclashed in
          record { answer = ap (over disk) f.answer; stands = f.stands };
      keeps = whole.keeps;
      same_count = whole.same_count;
    }

pub off_table_steps : {M : Type 0} (ram : Ghosts M) (old new : M) (h : Hart) (disk : List ℕ) (word : ℕ) (i : Option Instr) (a : Option Atomic) (made : SteppedHart) →
    i ≡ None → a ≡ atomic_instruction word → StepsOver ram old new made (atomic_part h word a) →
    StepsOver ram old new (over disk made) (decoded_part h disk word i)
off_table_steps ram old new h disk word i a made none is steps =
    subst (λ (i : Option Instr). StepsOver ram old new (over disk made) (decoded_part h disk word i)) (sym none)
    (off_table ram old new h disk word made
    (subst (λ (a : Option Atomic). StepsOver ram old new made (atomic_part h word a)) is steps))

-- the end of the step

abbrev released_by : SteppedKernel → Asking SteppedKernel
released_by made = then_ask (ask_unmark made.hart.id) (λ done. answered made)

pub release_steps : {M : Type 0} (ram : Ghosts M) (old new : M) (made : SteppedKernel) (id : ℕ) →
    ends_reservation made.ending ≡ true → id ≡ made.hart.id → StepsOver ram old new tt (ask_unmark id) → ReleasesAfter ram old new made
unfolding released
release_steps ram old new made id ends is steps =
    let unmarked = subst (λ (id : ℕ). StepsOver ram old new tt (ask_unmark id)) is steps in
    same_steps ram old new made _ (released_by made) (λ w. ap (λ (b : Bool). cond b (released_by made w) (answered made w)) ends)
    (ended ram old new tt made _ (λ (done : Unit {0}). made) refl unmarked)

pub keep_steps : {M : Type 0} (ram : Ghosts M) (m : M) (made : SteppedKernel) → ends_reservation made.ending ≡ false → ReleasesAfter ram m m made
unfolding released
keep_steps ram m made goes_on =
    same_steps ram m m made _ (answered made) (λ w. ap (λ (b : Bool). cond b (released_by made w) (answered made w)) goes_on)
    (record {
      follows = λ first w stands unclashed. record { answer = refl; stands = stands };
      keeps = λ first kept. kept;
      same_count = refl;
    })

pub whole_step : {M : Type 0} (ram : Ghosts M) (old mid new : M) (h begun : Hart) (disk : List ℕ) (due : Bool) (made : SteppedKernel) →
    begun ≡ ticked h → due ≡ interrupt_due begun.mode begun.csrs →
    StepsOver ram old mid made (interrupted due begun disk) → ReleasesAfter ram mid new made →
    StepsOver ram old new made (step_in_parts h disk)
unfolding step_in_parts
whole_step ram old mid new h begun disk due made is due_is steps ends =
    let at_due = subst (λ (b : Bool). StepsOver ram old mid made (interrupted b begun disk)) due_is steps in
    let at_hart = subst (λ (h : Hart). StepsOver ram old mid made (interrupted (interrupt_due h.mode h.csrs) h disk)) is at_due in
    then_steps ram old mid new made made _ released later_released at_hart ends

-- a step that goes on ends no reservation
pub staying_step : {M : Type 0} (ram : Ghosts M) (old new : M) (h begun hart : Hart) (disk d : List ℕ) (due : Bool) (ending : Kernel) →
    ending ≡ Stay → begun ≡ ticked h → due ≡ interrupt_due begun.mode begun.csrs →
    StepsOver ram old new (record { hart = hart; disk = d; ending = ending }) (interrupted due begun disk) →
    StepsOver ram old new (record { hart = hart; disk = d; ending = Stay }) (step_in_parts h disk)
staying_step ram old new h begun hart disk d due ending stays is due_is steps =
    subst (λ (e : Kernel). StepsOver ram old new (record { hart = hart; disk = d; ending = e }) (step_in_parts h disk)) stays
    (whole_step ram old new new h begun disk due _ is due_is steps (keep_steps ram new _ (ap ends_reservation stays)))
