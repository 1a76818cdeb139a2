-- The loads among what a step does to pages that is to make one: this load, if both questions were granted, or none.
use Rattle.std.proofs.Common.{◌≡◌, ◌∙◌, ℕ, ◌%◌, Bool, true, false, cond, List, [], ◌∷◌, filter, Option, Some, None, refl, ap}
use Rattle.std.specs.Prelude.{◌==◌, nat_le, slice_get}
use Rattle.cloak_base.specs.Registers.{register}
use Rattle.cloak_base.specs.declared.names.Kind.{Kind}
use Rattle.cloak_base.specs.declared.names.Kind.TheVariants.{Load}
use Rattle.cloak_base.specs.declared.names.PageId.{PageId}
use Rattle.rv_isa.specs.declared.instr.Instr.{Instr}
use Rattle.rv_atomic.specs.Table.{atomic_instruction}
use Rattle.rv_atomic.specs.declared.atomic.Atomic.{Atomic}
use Rattle.rv_atomic.specs.declared.atomic.AtomicOp.{AtomicOp}
use Rattle.rv_atomic.specs.declared.atomic.AtomicOp.TheVariants.{Lr, Sc}
use Rattle.cloak_model.specs.declared.context.Phase.{Phase}
use Rattle.cloak_model.specs.declared.context.Phase.TheVariants.{Plain, CopyIn, Waiting, CopyOut}
use Rattle.cloak_model.specs.Items.{Item}
use Rattle.cloak_model.specs.declared.outcome.Effect.{Effect}
use Rattle.cloak_model.specs.declared.outcome.Effect.TheVariants as does
use Rattle.cloak_model.specs.Calls.{buffer, area, call_length, byte_address, is_cloaked}
use Rattle.cloak_model.specs.Contexts.{Context, context_at, domain_of, slot_of}
use Rattle.cloak_model.specs.DomainState.{Control, Domain}
use Rattle.cloak_model.specs.Effect.{effect}
use Rattle.cloak_model.specs.Halves.{inward_half}
use Rattle.cloak_model.specs.KernelStep.{atomic_kind}
use Rattle.latest_store.specs.Moves.{Move}
use Rattle.latest_store.specs.Deeds.{is_granted, first_granted, both_granted, page_for, load_at, atomic_at, effect_moves, atomic_moves, word_moves, fetched_moves, phase_moves, context_moves, program_moves, step_moves}
use Rattle.load_law.specs.Due.{DueLoad, load_of, instruction_load, atomic_load, effect_due, atomic_due, word_due, fetched_due, byte_load, copy_due, load_due}
use Rattle.load_law.specs.Outcomes.{is_load}

-- the load, if both questions were granted
abbrev pub load_if : DueLoad → List Item → List Move
load_if due told = cond (both_granted told) (load_of due ∷ []) []

abbrev LoadsIf : DueLoad → Bool → List Move → Type 0
LoadsIf due both moves = filter is_load moves ≡ cond both (load_of due ∷ []) []

load_loads : (both : Bool) (c : Context) (p : PageId) (kind : Kind) (address width : ℕ) (place : Option PageId)
    (due : DueLoad) → instruction_load c p kind address width place ≡ Some due →
    LoadsIf due both (cond both (load_at address width place) [])
load_loads both c p kind address width None due is = absurd cc
load_loads false c p kind address width (Some q) due is = refl
load_loads true c p kind address width (Some q) due is =
    ap (λ (o : Option DueLoad). load_in o) is
  where
    load_in : Option DueLoad → List Move
    load_in None = []
    load_in (Some x) = load_of x ∷ []

effect_loads : (d : Control) (c : Context) (p : PageId) (i : Instr) (e : Effect) (due : DueLoad) (told : List Item) →
    effect_due d c p e ≡ Some due → LoadsIf due (both_granted told) (effect_moves d c i e told)
unfolding effect_due effect_moves
effect_loads d c p i (does.Load rd address width signed) due told is =
    load_loads (both_granted told) c p Load address width (page_for d c address) due is
effect_loads d c p i _ due told is = absurd cc

placed_loads : (both : Bool) (c : Context) (p : PageId) (op : AtomicOp) (address operand : ℕ) (place : Option PageId)
    (due : DueLoad) → atomic_load c p op address place ≡ Some due →
    LoadsIf due both (cond both (atomic_at c op address operand place) [])
placed_loads both c p Sc address operand place due is = absurd cc
placed_loads both c p Lr address operand None due is = absurd cc
placed_loads both c p Lr address operand (Some q) due is =
    load_loads both c p (atomic_kind Lr) address 4 (Some q) due is
placed_loads both c p op address operand None due is = absurd cc
placed_loads false c p op address operand (Some q) due is = refl
placed_loads true c p op address operand (Some q) due is =
    load_loads true c p (atomic_kind op) address 4 (Some q) due is

aligned_loads : (aligned both : Bool) (c : Context) (p : PageId) (op : AtomicOp) (address operand : ℕ)
    (place : Option PageId) (due : DueLoad) → cond aligned (atomic_load c p op address place) None ≡ Some due →
    LoadsIf due both (cond aligned (cond both (atomic_at c op address operand place) []) [])
aligned_loads true both c p op address operand place due is = placed_loads both c p op address operand place due is
aligned_loads false both c p op address operand place due is = absurd cc

atomic_loads : (d : Control) (c : Context) (p : PageId) (o : Option Atomic) (due : DueLoad) (told : List Item) →
    atomic_due d c p o ≡ Some due → LoadsIf due (both_granted told) (atomic_moves d c o told)
unfolding atomic_due atomic_moves
atomic_loads d c p None due told is = absurd cc
atomic_loads d c p (Some a) due told is =
    let va = register c.regs a.rs1 in
    aligned_loads (va % 4 == 0) (both_granted told) c p a.op va (register c.regs a.rs2) (page_for d c va) due is

word_loads : (d : Control) (c : Context) (p : PageId) (word : ℕ) (i : Option Instr) (due : DueLoad)
    (told : List Item) → word_due d c p word i ≡ Some due →
    LoadsIf due (both_granted told) (word_moves d c word i told)
unfolding word_due word_moves
word_loads d c p word None due told is = atomic_loads d c p (atomic_instruction word) due told is
word_loads d c p word (Some i) due told is = effect_loads d c p i (effect i c.regs c.pc) due told is

fetched_loads : (earlier : List Move) (d : Control) (c : Context) (place : Option PageId) (due : DueLoad)
    (told : List Item) → fetched_due earlier d c place ≡ Some due →
    LoadsIf due (both_granted told) (fetched_moves earlier d c place told)
unfolding fetched_due fetched_moves
fetched_loads earlier d c None due told is = absurd cc
fetched_loads earlier d c (Some p) due told is = word_loads d c p _ _ due told is

-- if both questions were granted, the first was

first_also : (first : Bool) (both : Bool) (due : DueLoad) (moves : List Move) → (both ≡ true → first ≡ true) →
    LoadsIf due both moves → LoadsIf due both (cond first moves [])
first_also true both due moves also loads = loads
first_also false true due moves also loads = let clash = also refl in absurd cc
first_also false false due moves also loads = refl

granted_also : (told : List Item) → both_granted told ≡ true → first_granted told ≡ true
granted_also [] both = both
granted_also (a ∷ []) both = absurd cc
granted_also (a ∷ b ∷ []) both = by (is_granted a) both
  where
    by : (x : Bool) → cond x (is_granted b) false ≡ true → x ≡ true
    by true both = refl
    by false both = both
granted_also (a ∷ b ∷ x ∷ told) both = absurd cc

byte_loads : (all both cloaked : Bool) (from to : ℕ) (place : Option PageId) (due : DueLoad) →
    cond all None (byte_load from to place cloaked) ≡ Some due → LoadsIf due both (cond both (load_at from 1 place) [])
byte_loads true both cloaked from to place due is = absurd cc
byte_loads false both cloaked from to None due is = absurd cc
byte_loads false both true from to (Some q) due is = absurd cc
byte_loads false false false from to (Some q) due is = refl
byte_loads false true false from to (Some q) due is = ap (λ (o : Option DueLoad). load_in o) is
  where
    load_in : Option DueLoad → List Move
    load_in None = []
    load_in (Some x) = load_of x ∷ []

phase_loads : (p : Phase) (earlier : List Move) (d : Control) (c : Context) (due : DueLoad) (told : List Item) →
    load_due p earlier d c ≡ Some due → LoadsIf due (both_granted told) (phase_moves p earlier d c told)
unfolding load_due copy_due phase_moves
phase_loads Plain earlier d c due told is =
    first_also (first_granted told) (both_granted told) due _ (granted_also told)
    (fetched_loads earlier d c (page_for d c c.pc) due told is)
phase_loads (CopyIn done) earlier d c due told is =
    byte_loads (nat_le (call_length c) done) (both_granted told)
    (is_cloaked d.resources c (byte_address (area c) done)) (byte_address (buffer c) done)
    (byte_address (area c) done) (page_for d c (byte_address (buffer c) done)) due is
phase_loads Waiting earlier d c due told is = absurd cc
phase_loads (CopyOut done total) earlier d c due told is = absurd cc

-- a step of the hart that is inside this context
pub step_loads : (earlier : List Move) (domains : List Domain) (ctx : ℕ) (d : Domain) (c : Context) (items : List Item)
    (due : DueLoad) → slice_get domains (domain_of ctx) ≡ Some d →
    context_at d.control.contexts (slot_of ctx) ≡ Some c →
    load_due c.phase earlier d.control c ≡ Some due →
    filter is_load (step_moves earlier domains (Some ctx) items) ≡ load_if due (inward_half (domain_of ctx) items)
unfolding step_moves program_moves context_moves
step_loads earlier domains ctx d c items due program there is =
    let told : List Item = inward_half (domain_of ctx) items in
    ap (λ (o : Option Domain). filter is_load (program_moves o earlier (slot_of ctx) told)) program
    ∙ (ap (λ (o : Option Context). filter is_load (context_moves o earlier d.control told)) there
    ∙ phase_loads c.phase earlier d.control c due told is)
