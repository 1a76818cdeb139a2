-- The moves of a step are sound: they are of the program, stores stay inside their page, and what is made as zeros was
-- zeros.
use Rattle.std.proofs.Common.{◌≡◌, inl, inr, ℕ, ◌%◌, Bool, true, false, cond, List, [], ◌∷◌, map, Option, Some, None, ℤ, refl, subst, arith, eqb-true, Result, Ok, Err, ap, ◌∙◌}
use Rattle.std.specs.Prelude.{◌==◌}
use Rattle.cloak_base.specs.Registers.{register}
use Rattle.cloak_base.specs.Pages.{is_of}
use Rattle.cloak_base.proofs.Pages.{is_of-decides}
use Rattle.cloak_base.specs.declared.names.PageId.{PageId}
use Rattle.rv_isa.specs.declared.instr.Instr.{Instr}
use Rattle.rv_isa.specs.declared.instr.Instr.TheVariants as instr
use Rattle.rv_isa.specs.Table.{instruction}
use Rattle.rv_atomic.specs.Table.{atomic_instruction}
use Rattle.rv_atomic.specs.declared.atomic.Atomic.{Atomic}
use Rattle.rv_atomic.specs.declared.atomic.AtomicOp.{AtomicOp}
use Rattle.rv_atomic.specs.declared.atomic.AtomicOp.TheVariants.{Lr, Sc}
use Rattle.cloak_model.specs.declared.context.Phase.{Phase}
use Rattle.cloak_model.specs.declared.context.Phase.TheVariants.{Plain, CopyIn, Waiting, CopyOut}
use Rattle.cloak_model.specs.Items.{Item}
use Rattle.cloak_model.specs.Items as item
use Rattle.cloak_model.specs.declared.outcome.Effect.{Effect}
use Rattle.cloak_model.specs.declared.outcome.Effect.TheVariants as does
use Rattle.cloak_model.specs.declared.resource.MapFault.{MapFault}
use Rattle.cloak_model.specs.declared.resource.Owner.TheVariants.{Space, File}
use Rattle.cloak_model.specs.Calls.{buffer, byte_address}
use Rattle.cloak_model.specs.Contexts.{Context, word_of_page, is_reserved}
use Rattle.cloak_model.specs.DomainState.{Control}
use Rattle.cloak_model.specs.Effect.{offset, effect, jump, go, branch, load_effect}
use Rattle.cloak_model.specs.Fork.{copies, private_numbers}
use Rattle.cloak_model.specs.Hypercalls as hyper
use Rattle.cloak_model.specs.Hypercalls.{Hypercall, New, ForkSpace, Exit, hypercall_of}
use Rattle.cloak_model.specs.Resources.{Resources, resource_at, page_at}
use Rattle.script_fold.proofs.InstructionScripts.{IsOwnPage, own_page}
use Rattle.latest_store.specs.Moves.{Move, Stores, Copies, Drops, latest, latest_value}
use Rattle.latest_store.specs.Deeds.{first_granted, both_granted, load_at, store_at, atomic_at, made_moves, file_moves, hypercall_moves, ecall_moves, effect_moves, atomic_moves, word_moves, fetched_moves, byte_moves, phase_moves, context_moves}
use Rattle.latest_store.proofs.Values.{IsPlace}
use Rattle.latest_store.proofs.Numbers.{made_free}
use Rattle.latest_store.proofs.Moved.{AreSound}
use Rattle.latest_store.proofs.Fits.{FreeZero}

-- An instruction that stores has a width, and its address is a multiple of it.

record StoresInside (e : Effect) : Type 0 where
  pub is : (va width value : ℕ) → e ≡ does.Store va width value → IsPlace (va % 4096) width

no_store : (e : Effect) → ((va width value : ℕ) → e ≡ does.Store va width value → ⊥) → StoresInside e
no_store e none = record { is = λ va width value same. absurd (none va width value same) }

inside_either : (test : Bool) (e f : Effect) → StoresInside e → StoresInside f → StoresInside (cond test e f)
inside_either true e f p q = p
inside_either false e f p q = q

raise_inside : (cause value : ℕ) → StoresInside (does.Raise cause value)
raise_inside cause value = no_store _ (λ va width value' x. cc)

jump_inside : (rd pc target : ℕ) → StoresInside (jump rd pc target)
jump_inside rd pc target =
    inside_either (target % 4 == 0) _ _ (no_store _ (λ va width value x. cc)) (raise_inside 0 target)

go_inside : (target : ℕ) → StoresInside (go target)
go_inside target = inside_either (target % 4 == 0) _ _ (no_store _ (λ va width value x. cc)) (raise_inside 0 target)

branch_inside : (taken : Bool) (pc : ℕ) (imm : ℤ) → StoresInside (branch taken pc imm)
branch_inside taken pc imm =
    inside_either taken _ _ (go_inside (offset pc imm)) (no_store _ (λ va width value x. cc))

load_inside : (rd va width : ℕ) (signed : Bool) → StoresInside (load_effect rd va width signed)
load_inside rd va width signed =
    inside_either (va % width == 0) _ _ (no_store _ (λ va width value x. cc)) (raise_inside 4 va)

one_place : (va : ℕ) → IsPlace (va % 4096) 1
one_place va = record { is_width = inl refl; inside = omega arith }

two_place : (va : ℕ) → va % 2 ≡ 0 → IsPlace (va % 4096) 2
two_place va even = record { is_width = inr (inl refl); inside = omega (arith, even) }

four_place : (va : ℕ) → va % 4 ≡ 0 → IsPlace (va % 4096) 4
four_place va even = record { is_width = inr (inr refl); inside = omega (arith, even) }

store_if : (test : Bool) (va width value : ℕ) → (test ≡ true → IsPlace (va % 4096) width) →
    StoresInside (cond test (does.Store va width value) (does.Raise 6 va))
store_if true va width value place = record {
  is = λ va' width' value' same.
      let a : va ≡ va' = cc in
      let b : width ≡ width' = cc in
      subst (λ (x : ℕ). IsPlace (x % 4096) width') a (subst (λ (x : ℕ). IsPlace (va % 4096) x) b (place refl));
}
store_if false va width value place = raise_inside 6 va

effect_inside : (i : Instr) (r : List ℕ) (pc : ℕ) → StoresInside (effect i r pc)
unfolding effect
effect_inside (instr.Jal rd imm) r pc = jump_inside rd pc _
effect_inside (instr.Jalr rd rs1 imm) r pc = jump_inside rd pc _
effect_inside (instr.Beq rs1 rs2 imm) r pc = branch_inside _ pc imm
effect_inside (instr.Bne rs1 rs2 imm) r pc = branch_inside _ pc imm
effect_inside (instr.Blt rs1 rs2 imm) r pc = branch_inside _ pc imm
effect_inside (instr.Bge rs1 rs2 imm) r pc = branch_inside _ pc imm
effect_inside (instr.Bltu rs1 rs2 imm) r pc = branch_inside _ pc imm
effect_inside (instr.Bgeu rs1 rs2 imm) r pc = branch_inside _ pc imm
effect_inside (instr.Lb rd rs1 imm) r pc = load_inside rd _ 1 true
effect_inside (instr.Lh rd rs1 imm) r pc = load_inside rd _ 2 true
effect_inside (instr.Lw rd rs1 imm) r pc = load_inside rd _ 4 true
effect_inside (instr.Lbu rd rs1 imm) r pc = load_inside rd _ 1 false
effect_inside (instr.Lhu rd rs1 imm) r pc = load_inside rd _ 2 false
effect_inside (instr.Sb rs1 rs2 imm) r pc = store_if _ _ 1 _ (λ test. one_place _)
effect_inside (instr.Sh rs1 rs2 imm) r pc = store_if _ _ 2 _ (λ test. two_place _ (eqb-true _ 0 test))
effect_inside (instr.Sw rs1 rs2 imm) r pc = store_if _ _ 4 _ (λ test. four_place _ (eqb-true _ 0 test))
effect_inside _ r pc = no_store _ (λ va width value x. cc)

-- The moves, after a history in which the pages under free numbers are zeros.

load_sound : (n va width : ℕ) (history : List Move) (place : Option PageId) → IsOwnPage n place →
    AreSound n history (load_at va width place)
load_sound n va width history None own = tt
load_sound n va width history (Some q) own = (own, tt)

store_sound : (n va width value : ℕ) (history : List Move) (place : Option PageId) → IsOwnPage n place →
    IsPlace (va % 4096) width → AreSound n history (store_at va width value place)
store_sound n va width value history None own is = tt
store_sound n va width value history (Some q) own is = ((own, is), tt)

copies_sound : (n : ℕ) (history : List Move) (list : List (ℕ × ℕ)) →
    AreSound n history (map (λ (copy : ℕ × ℕ). Copies n copy.0 copy.1) list)
copies_sound n history [] = tt
copies_sound n history (copy ∷ list) = (refl, copies_sound n (Copies n copy.0 copy.1 ∷ history) list)

drops_sound : (n : ℕ) (history : List Move) (list : List ℕ) →
    AreSound n history (map (λ (resource : ℕ). Drops n resource) list)
drops_sound n history [] = tt
drops_sound n history (resource ∷ list) = (refl, drops_sound n (Drops n resource ∷ history) list)

made_sound : (n : ℕ) (r : Resources) (history : List Move) (made : Result ℕ MapFault) → FreeZero history n r →
    ((k : ℕ) → made ≡ Ok k → resource_at r k ≡ None) → AreSound n history (made_moves n made)
made_sound n r history (Err fault) zeros free = tt
made_sound n r history (Ok k) zeros free =
    let none : (q : PageId) → is_of n k q ≡ true → (at : ℕ) → latest history q at ≡ 0 =
    λ q of at. let is = (is_of-decides n k q).0 of in zeros q is.0 (ap (resource_at r) is.1 ∙ free k refl) at in
    ((refl, none), tt)

file_sound : (d : Control) (c : Context) (history : List Move) (place : Option ℕ) →
    FreeZero history d.number d.resources → AreSound d.number history (file_moves d c place)
file_sound d c history None zeros =
    made_sound d.number d.resources history _ zeros
    (λ k made. made_free (File (register c.regs 10)) (register c.regs 11) d.resources k made)
file_sound d c history (Some n) zeros = tt

sound_if : (test : Bool) (n : ℕ) (history moves : List Move) → AreSound n history moves →
    AreSound n history (cond test moves [])
sound_if true n history moves sound = sound
sound_if false n history moves sound = tt

hypercall_sound : (h : Hypercall) (d : Control) (c : Context) (history : List Move) (answers : List Item) →
    FreeZero history d.number d.resources → AreSound d.number history (hypercall_moves h d c answers)
unfolding hypercall_moves
hypercall_sound New d c history answers zeros =
    made_sound d.number d.resources history _ zeros
    (λ k made. made_free (Space c.space) (register c.regs 10) d.resources k made)
hypercall_sound hyper.File d c history answers zeros = file_sound d c history _ zeros
hypercall_sound ForkSpace d c history answers zeros =
    sound_if (both_granted answers) d.number history _ (copies_sound d.number history (copies c.space d.resources))
hypercall_sound Exit d c history answers zeros =
    sound_if (both_granted answers) d.number history _
    (drops_sound d.number history (private_numbers c.space d.resources))
hypercall_sound _ d c history answers zeros = tt

ecall_sound : (d : Control) (c : Context) (i : Instr) (history : List Move) (answers : List Item) →
    FreeZero history d.number d.resources → AreSound d.number history (ecall_moves d c i answers)
unfolding ecall_moves
ecall_sound d c instr.Ecall history answers zeros = hypercall_sound (hypercall_of c) d c history answers zeros
ecall_sound d c _ history answers zeros = tt

effect_sound : (d : Control) (c : Context) (i : Instr) (e : Effect) (history : List Move) (answers : List Item) →
    FreeZero history d.number d.resources → StoresInside e →
    AreSound d.number history (effect_moves d c i e answers)
unfolding effect_moves
effect_sound d c i (does.Load rd va width signed) history answers zeros inside =
    sound_if (both_granted answers) d.number history _
    (load_sound d.number va width history _ (own_page d.number d.resources c.space va))
effect_sound d c i (does.Store va width value) history answers zeros inside =
    sound_if (both_granted answers) d.number history _
    (store_sound d.number va width value history _ (own_page d.number d.resources c.space va)
    (inside.is va width value refl))
effect_sound d c i does.System history answers zeros inside = ecall_sound d c i history answers zeros
effect_sound d c i _ history answers zeros inside = tt

atomic_at_sound : (n : ℕ) (c : Context) (op : AtomicOp) (va operand : ℕ) (history : List Move) (place : Option PageId) →
    IsOwnPage n place → va % 4 ≡ 0 → AreSound n history (atomic_at c op va operand place)
atomic_at_sound n c op va operand history None own aligned = tt
atomic_at_sound n c Lr va operand history (Some q) own aligned = (own, tt)
atomic_at_sound n c Sc va operand history (Some q) own aligned =
    sound_if (is_reserved (word_of_page q va) c.mark) n history (Stores q (va % 4096) 4 operand ∷ [])
    ((own, four_place va aligned), tt)
atomic_at_sound n c op va operand history (Some q) own aligned = (own, ((own, four_place va aligned), tt))

aligned_sound : (test : Bool) (n : ℕ) (history moves : List Move) → (test ≡ true → AreSound n history moves) →
    AreSound n history (cond test moves [])
aligned_sound true n history moves sound = sound refl
aligned_sound false n history moves sound = tt

atomic_sound : (d : Control) (c : Context) (a : Option Atomic) (history : List Move) (answers : List Item) →
    AreSound d.number history (atomic_moves d c a answers)
unfolding atomic_moves
atomic_sound d c None history answers = tt
atomic_sound d c (Some a) history answers =
    let va = register c.regs a.rs1 in
    aligned_sound (va % 4 == 0) d.number history _ (λ test.
    sound_if (both_granted answers) d.number history _
    (atomic_at_sound d.number c a.op va _ history _ (own_page d.number d.resources c.space va)
    (eqb-true (va % 4) 0 test)))

word_sound : (d : Control) (c : Context) (word : ℕ) (i : Option Instr) (history : List Move) (answers : List Item) →
    FreeZero history d.number d.resources → AreSound d.number history (word_moves d c word i answers)
unfolding word_moves
word_sound d c word None history answers zeros = atomic_sound d c (atomic_instruction word) history answers
word_sound d c word (Some i) history answers zeros =
    effect_sound d c i (effect i c.regs c.pc) history answers zeros (effect_inside i c.regs c.pc)

fetched_sound : (history : List Move) (d : Control) (c : Context) (place : Option PageId) (answers : List Item) →
    FreeZero history d.number d.resources → AreSound d.number history (fetched_moves history d c place answers)
unfolding fetched_moves
fetched_sound history d c None answers zeros = tt
fetched_sound history d c (Some q) answers zeros =
    let word = latest_value history q (c.pc % 4096) 4 in word_sound d c word (instruction word) history answers zeros

bytes_sound : (n va : ℕ) (history : List Move) (place : Option PageId) (answers : List Item) → IsOwnPage n place →
    AreSound n history (byte_moves va place answers)
bytes_sound n va history place (item.Word domain byte ∷ item.Ok domain' ∷ []) own =
    store_sound n va 1 byte history place own (one_place va)
bytes_sound n va history place _ own = tt

phase_sound : (p : Phase) (history : List Move) (d : Control) (c : Context) (answers : List Item) →
    FreeZero history d.number d.resources → AreSound d.number history (phase_moves p history d c answers)
unfolding phase_moves
phase_sound Plain history d c answers zeros =
    sound_if (first_granted answers) d.number history _
    (fetched_sound history d c (page_at d.number d.resources c.space c.pc) answers zeros)
phase_sound (CopyIn done) history d c answers zeros =
    let va = byte_address (buffer c) done in
    sound_if (both_granted answers) d.number history _
    (load_sound d.number va 1 history _ (own_page d.number d.resources c.space va))
phase_sound Waiting history d c answers zeros = tt
phase_sound (CopyOut done total) history d c answers zeros =
    let va = byte_address (buffer c) done in
    bytes_sound d.number va history _ answers (own_page d.number d.resources c.space va)

pub context_sound : (o : Option Context) (history : List Move) (d : Control) (answers : List Item) →
    FreeZero history d.number d.resources → AreSound d.number history (context_moves o history d answers)
unfolding context_moves
context_sound None history d answers zeros = tt
context_sound (Some c) history d answers zeros = phase_sound c.phase history d c answers zeros
