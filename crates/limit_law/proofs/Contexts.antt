-- One instruction, whatever is answered to its questions: the context stays steady.
use Rattle.std.proofs.Common.{◌≡◌, ℕ, zero, suc, ◌+◌, ◌%◌, ◌^◌, Bool, true, false, ℤ, cond, List, [], ◌∷◌, length, slice_set, Option, Some, None, IfSome, refl, sym, subst, ◌∙◌, arith}
use Rattle.std.specs.Prelude.{◌==◌}
use Rattle.std.proofs.lemmas.Bool.{eqb-true}
use Rattle.std.proofs.lemmas.List.{length-set}
use Rattle.cloak_base.specs.Registers.{register, with_register}
use Rattle.cloak_base.specs.declared.names.PageId.{PageId}
use Rattle.rv_atomic.specs.Table.{atomic_instruction}
use Rattle.rv_atomic.specs.declared.atomic.Atomic.{Atomic}
use Rattle.rv_atomic.specs.declared.atomic.AtomicOp.{AtomicOp}
use Rattle.rv_atomic.specs.declared.atomic.AtomicOp.TheVariants.{Lr, Sc}
use Rattle.rv_isa.specs.Table.{instruction}
use Rattle.rv_isa.specs.declared.instr.Instr.{Instr}
use Rattle.rv_isa.specs.declared.instr.Instr.TheVariants as instr
use Rattle.cloak_model.specs.declared.answer.Answer.{Answer}
use Rattle.cloak_model.specs.declared.answer.Answer.TheVariants as told
use Rattle.cloak_model.specs.declared.context.Phase.TheVariants.{Plain}
use Rattle.cloak_model.specs.declared.context.PageWord.{PageWord}
use Rattle.cloak_model.specs.declared.inside.Ran.{Ran}
use Rattle.cloak_model.specs.declared.inside.Ran.TheVariants as ran
use Rattle.cloak_model.specs.declared.outcome.Effect.{Effect}
use Rattle.cloak_model.specs.declared.outcome.Effect.TheVariants as does
use Rattle.cloak_model.specs.Contexts.{Context, set_word, moved_on, word_of_page, is_reserved}
use Rattle.cloak_model.specs.Effect.{jump, go, branch, load_effect, store_effect, effect}
use Rattle.cloak_model.specs.InsideStep.{AfterInstruction, made, if_reached, if_got, load_inside, store_inside, atomic_granted, atomic_placed, atomic_inside, system_inside, done_inside, decoded_inside, fetch, instruction_inside}
use Rattle.cloak_model.specs.Resources.{Resources, page_at}
use Rattle.cloak_model.specs.World.{World}
use Rattle.cloak_model.specs.Script.{Script, Gives, Asks, Reads, Changes, played}
use Rattle.frozen_state.specs.Limits.{IsPageWord, IsPhase, IsSteady}
use Rattle.limit_law.proofs.Pages.{IsPage, AreInPages, place_there}
use Rattle.cloak_base.proofs.Choices.{either}

-- A register is written.

set_zero : (regs : List ℕ) (i v : ℕ) → register (slice_set regs (suc i) v) 0 ≡ register regs 0
set_zero [] i v = refl
set_zero (x ∷ regs) i v = refl

length_by : (t : Bool) (regs : List ℕ) (i v : ℕ) → length regs ≡ 32 → length (cond t regs (slice_set regs i v)) ≡ 32
length_by true regs i v is = is
length_by false regs i v is = length-set regs i v ∙ is

pub with_register_length : (regs : List ℕ) (i v : ℕ) → length regs ≡ 32 → length (with_register regs i v) ≡ 32
with_register_length regs i v is = length_by (i == 0) regs i v is

zero_by : (t : Bool) (regs : List ℕ) (i v : ℕ) → (i == 0) ≡ t → register regs 0 ≡ 0 →
    register (cond t regs (slice_set regs i v)) 0 ≡ 0
zero_by true regs i v t is = is
zero_by false regs zero v t is = absurd cc
zero_by false regs (suc i) v t is = set_zero regs i v ∙ is

pub with_register_zero : (regs : List ℕ) (i v : ℕ) → register regs 0 ≡ 0 → register (with_register regs i v) 0 ≡ 0
with_register_zero regs i v is = zero_by (i == 0) regs i v refl is

-- Each end of a script, whatever is answered.

abbrev pub AllEnds : {A : Type 0} → (A → Type 0) → Script A → Type 0
AllEnds P (Gives a) = P a
AllEnds P (Asks question more) = (answer : Answer) → AllEnds P (more answer)
AllEnds P (Reads q at width more) = (value : ℕ) → AllEnds P (more value)
AllEnds P (Changes it more) = AllEnds P more

pub at_end : {A : Type 0} (P : A → Type 0) (s : Script A) (w : World) → AllEnds P s → P (played s w).answer
at_end P (Gives a) w ends = ends
at_end P (Asks question more) w ends = at_end P (more _) _ (ends _)
at_end P (Reads q at width more) w ends = at_end P (more _) _ (ends _)
at_end P (Changes it more) w ends = at_end P more _ ends

-- What an instruction leaves: its context is steady, in the same space, phase and hart. At a hypercall nothing changed.
pub record AfterOne (c : Context) (a : AfterInstruction) : Type 0 where
  pub steady : IsSteady a.context
  pub space : a.context.space ≡ c.space
  pub phase : a.context.phase ≡ Plain
  pub on : a.context.on ≡ c.on
  pub calls : a.ending ≡ ran.Ecall → a.context ≡ c

-- whatever is answered to its questions
abbrev Leaves : Context → Script AfterInstruction → Type 0
Leaves c script = AllEnds (AfterOne c) script

pub next_word : (pc : ℕ) → pc % 4 ≡ 0 → ((pc + 4) % 2 ^ 32) % 4 ≡ 0
next_word pc is = omega (arith, is)

-- a plain context with other registers, another program counter and another reservation
plain_steady : (c : Context) (regs : List ℕ) (pc : ℕ) (mark : Option PageWord) → c.phase ≡ Plain → length regs ≡ 32 →
    register regs 0 ≡ 0 → pc % 4 ≡ 0 → IfSome mark IsPageWord →
    IsSteady (record c { regs = regs; pc = pc; mark = mark })
plain_steady c regs pc mark plain long none aligned place = record {
  registers = long;
  zero_register = none;
  aligned = aligned;
  phase = subst (IsPhase regs) (sym plain) tt;
  mark = place;
}

pub moved_steady : (c : Context) → IsSteady c → IsSteady (moved_on c)
moved_steady c s =
    record {
      registers = s.registers;
      zero_register = s.zero_register;
      aligned = next_word c.pc s.aligned;
      phase = s.phase;
      mark = s.mark;
    }

pub word_steady : (c : Context) (i v : ℕ) → c.phase ≡ Plain → IsSteady c → IsSteady (set_word c i v)
word_steady c i v plain s =
    plain_steady c _ c.pc c.mark plain (with_register_length c.regs i v s.registers)
    (with_register_zero c.regs i v s.zero_register) s.aligned s.mark

abbrev Targets : Effect → Type 0
Targets (does.Jump rd link target) = target % 4 ≡ 0
Targets (does.Go target) = target % 4 ≡ 0
Targets _ = Unit {0}

module _ (c : Context) (plain : c.phase ≡ Plain) (s : IsSteady c) where
  after : (regs : List ℕ) (pc : ℕ) (mark : Option PageWord) (e : Ran) (written : Option PageWord) →
      length regs ≡ 32 → register regs 0 ≡ 0 → pc % 4 ≡ 0 → IfSome mark IsPageWord →
      (e ≡ ran.Ecall → record c { regs = regs; pc = pc; mark = mark } ≡ c) →
      AfterOne c (record { context = record c { regs = regs; pc = pc; mark = mark }; ending = e; wrote = written })
  after regs pc mark e written long none aligned place calls = record {
    steady = plain_steady c regs pc mark plain long none aligned place;
    space = refl;
    phase = plain;
    on = refl;
    calls = calls;
  }

  pub same : (e : Ran) → AfterOne c (made c e)
  same e = record { steady = s; space = refl; phase = plain; on = refl; calls = λ is. refl }

  -- a word is written into a register, and it goes on, with another reservation
  marked : (rd v : ℕ) (mark : Option PageWord) (e : Ran) (written : Option PageWord) → (e ≡ ran.Ecall → ⊥) →
      IfSome mark IsPageWord →
      AfterOne c (record { context = moved_on (record (set_word c rd v) { mark = mark }); ending = e; wrote = written })
  marked rd v mark e written other place =
      after (with_register c.regs rd v) ((c.pc + 4) % 2 ^ 32) mark e written
      (with_register_length c.regs rd v s.registers) (with_register_zero c.regs rd v s.zero_register)
      (next_word c.pc s.aligned) place (λ is. absurd (other is))

  wrote : (rd v : ℕ) (e : Ran) → (e ≡ ran.Ecall → ⊥) → AfterOne c (made (moved_on (set_word c rd v)) e)
  wrote rd v e other = marked rd v c.mark e None other s.mark

  on_stay : (written : Option PageWord) →
      AfterOne c (record { context = moved_on c; ending = ran.Stay; wrote = written })
  on_stay written =
      after c.regs ((c.pc + 4) % 2 ^ 32) c.mark ran.Stay written s.registers s.zero_register (next_word c.pc s.aligned)
      s.mark (λ is. absurd cc)

  reached_one : (va : ℕ) (a : Answer) (next : Script AfterInstruction) → Leaves c next →
      Leaves c (if_reached c va a next)
  reached_one va told.Ok next more = more
  reached_one va _ next more = same _

  got_one : (va : ℕ) (a : Answer) (next : ℕ → Script AfterInstruction) → ((value : ℕ) → Leaves c (next value)) →
      Leaves c (if_got c va a next)
  got_one va (told.Word value) next more = more value
  got_one va _ next more = same _

  load_one : (rd va width : ℕ) (is_signed : Bool) (place : Option PageId) →
      Leaves c (load_inside c rd va width is_signed place)
  unfolding load_inside
  load_one rd va width is_signed (Some q) =
      λ a. reached_one va a _ (λ value. wrote rd _ (ran.Loaded va value) (λ is. cc))
  load_one rd va width is_signed None = λ a. got_one va a _ (λ value. wrote rd _ ran.Stay (λ is. cc))

  store_one : (va width value : ℕ) (place : Option PageId) → Leaves c (store_inside c va width value place)
  unfolding store_inside
  store_one va width value (Some q) = λ a. reached_one va a _ (on_stay (Some (word_of_page q va)))
  store_one va width value None = λ a. reached_one va a _ (on_stay None)

  granted_one : (rd : ℕ) (op : AtomicOp) (q : PageId) (va operand : ℕ) → IsPage q →
      Leaves c (atomic_granted c rd op q va operand)
  unfolding atomic_granted
  granted_one rd Lr q va operand page =
      λ old. marked rd old (Some (word_of_page q va)) (ran.Loaded va old) None (λ is. cc) (place_there q va page)
  granted_one rd Sc q va operand page =
      either (Leaves c) (is_reserved (word_of_page q va) c.mark) _ _
      (marked rd 0 None ran.Stay (Some (word_of_page q va)) (λ is. cc) tt)
      (marked rd 1 None ran.Stay None (λ is. cc) tt)
  granted_one rd _ q va operand page =
      λ old. marked rd old c.mark (ran.Loaded va old) (Some (word_of_page q va)) (λ is. cc) s.mark

  atomic_placed_one : (rd : ℕ) (op : AtomicOp) (va operand : ℕ) (place : Option PageId) → IfSome place IsPage →
      Leaves c (atomic_placed c rd op va operand place)
  unfolding atomic_placed
  atomic_placed_one rd op va operand None page = same _
  atomic_placed_one rd op va operand (Some q) page =
      λ a. reached_one va a _ (granted_one rd op q va operand page)

  atomic_one : (domain : ℕ) (r : Resources) (a : Option Atomic) → AreInPages domain r c.space →
      Leaves c (atomic_inside domain r c a)
  unfolding atomic_inside
  atomic_one domain r None pages = same _
  atomic_one domain r (Some a) pages =
      let va = register c.regs a.rs1 in
      either (Leaves c) (va % 4 == 0) _ _
      (atomic_placed_one a.rd a.op va (register c.regs a.rs2) (page_at domain r c.space va) (pages va)) (same _)

  system_one : (i : Instr) → Leaves c (system_inside c i)
  unfolding system_inside
  system_one instr.Ecall = same _
  system_one instr.Ebreak = same _
  system_one _ = same _

  done_one : (domain : ℕ) (r : Resources) (i : Instr) (e : Effect) → Targets e → Leaves c (done_inside domain r c i e)
  unfolding done_inside
  done_one domain r i (does.Write rd value) t = wrote rd value ran.Stay (λ is. cc)
  done_one domain r i (does.Jump rd link target) t =
      after (with_register c.regs rd link) target c.mark ran.Stay None (with_register_length c.regs rd link s.registers)
      (with_register_zero c.regs rd link s.zero_register) t s.mark (λ is. absurd cc)
  done_one domain r i (does.Go target) t =
      after c.regs target c.mark ran.Stay None s.registers s.zero_register t s.mark (λ is. absurd cc)
  done_one domain r i (does.Load rd va width is_signed) t =
      load_one rd va width is_signed (page_at domain r c.space va)
  done_one domain r i (does.Store va width value) t = store_one va width value (page_at domain r c.space va)
  done_one domain r i does.System t = system_one i
  done_one domain r i does.Nothing t = on_stay None
  done_one domain r i (does.Raise cause value) t = same _

-- Where an effect leads.

target_either : (t : Bool) (x y : Effect) → (t ≡ true → Targets x) → Targets y → Targets (cond t x y)
target_either true x y here there = here refl
target_either false x y here there = there

jump_targets : (rd pc target : ℕ) → Targets (jump rd pc target)
jump_targets rd pc target =
    target_either (target % 4 == 0) (does.Jump rd _ target) _ (λ is. eqb-true (target % 4) 0 is) tt

go_targets : (target : ℕ) → Targets (go target)
go_targets target = target_either (target % 4 == 0) (does.Go target) _ (λ is. eqb-true (target % 4) 0 is) tt

branch_targets : (taken : Bool) (pc : ℕ) (imm : ℤ) → Targets (branch taken pc imm)
branch_targets taken pc imm = target_either taken (go _) does.Nothing (λ is. go_targets _) tt

load_targets : (rd va width : ℕ) (is_signed : Bool) → Targets (load_effect rd va width is_signed)
load_targets rd va width is_signed = target_either (va % width == 0) (does.Load rd va width is_signed) _ (λ is. tt) tt

store_targets : (va width value : ℕ) → Targets (store_effect va width value)
store_targets va width value = target_either (va % width == 0) (does.Store va width _) _ (λ is. tt) tt

effect_targets : (i : Instr) (r : List ℕ) (pc : ℕ) → Targets (effect i r pc)
unfolding effect
effect_targets (instr.Jal rd imm) r pc = jump_targets rd pc _
effect_targets (instr.Jalr rd rs1 imm) r pc = jump_targets rd pc _
effect_targets (instr.Beq rs1 rs2 imm) r pc = branch_targets _ pc imm
effect_targets (instr.Bne rs1 rs2 imm) r pc = branch_targets _ pc imm
effect_targets (instr.Blt rs1 rs2 imm) r pc = branch_targets _ pc imm
effect_targets (instr.Bge rs1 rs2 imm) r pc = branch_targets _ pc imm
effect_targets (instr.Bltu rs1 rs2 imm) r pc = branch_targets _ pc imm
effect_targets (instr.Bgeu rs1 rs2 imm) r pc = branch_targets _ pc imm
effect_targets (instr.Lb rd rs1 imm) r pc = load_targets rd _ 1 true
effect_targets (instr.Lh rd rs1 imm) r pc = load_targets rd _ 2 true
effect_targets (instr.Lw rd rs1 imm) r pc = load_targets rd _ 4 true
effect_targets (instr.Lbu rd rs1 imm) r pc = load_targets rd _ 1 false
effect_targets (instr.Lhu rd rs1 imm) r pc = load_targets rd _ 2 false
effect_targets (instr.Sb rs1 rs2 imm) r pc = store_targets _ 1 _
effect_targets (instr.Sh rs1 rs2 imm) r pc = store_targets _ 2 _
effect_targets (instr.Sw rs1 rs2 imm) r pc = store_targets _ 4 _
effect_targets _ r pc = tt

-- One instruction.

module _ (c : Context) (plain : c.phase ≡ Plain) (s : IsSteady c) where
  decoded_one : (domain : ℕ) (r : Resources) (word : ℕ) (i : Option Instr) → AreInPages domain r c.space →
      Leaves c (decoded_inside domain r c word i)
  unfolding decoded_inside
  decoded_one domain r word None pages = atomic_one c plain s domain r (atomic_instruction word) pages
  decoded_one domain r word (Some i) pages = done_one c plain s domain r i _ (effect_targets i c.regs c.pc)

  fetch_one : (domain : ℕ) (r : Resources) (place : Option PageId) → AreInPages domain r c.space →
      Leaves c (fetch domain r c place)
  unfolding fetch
  fetch_one domain r None pages = same c plain s _
  fetch_one domain r (Some q) pages =
      λ a. reached_one c plain s c.pc a _ (λ word. decoded_one domain r word (instruction word) pages)

  pub instruction_one : (domain : ℕ) (r : Resources) (w : World) → AreInPages domain r c.space →
      AfterOne c (played (instruction_inside domain r c) w).answer
  unfolding instruction_inside
  instruction_one domain r w pages =
      let place = page_at domain r c.space c.pc in
      at_end (AfterOne c) (fetch domain r c place) w (fetch_one domain r place pages)
