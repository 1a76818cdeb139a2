-- What a step of a program loads of its own pages is what they have newest.
use Rattle.std.proofs.Common.{◌≡◌, ◌∙◌, ℕ, suc, ◌%◌, inl, inr, Bool, true, false, List, Option, Some, None, ℤ, refl, ap, subst, sym, arith}
use Rattle.std.specs.Prelude.{◌==◌}
use Rattle.cloak_base.specs.declared.names.PageId.{PageId}
use Rattle.cloak_base.specs.Registers.{register}
use Rattle.rv_isa.specs.declared.instr.Instr.{Instr}
use Rattle.rv_isa.specs.declared.instr.Instr.TheVariants as instr
use Rattle.rv_atomic.specs.Table.{atomic_instruction}
use Rattle.rv_atomic.specs.declared.atomic.Atomic.{Atomic}
use Rattle.rv_atomic.specs.declared.atomic.AtomicOp.{AtomicOp}
use Rattle.rv_atomic.specs.declared.atomic.AtomicOp.TheVariants.{Lr, Sc}
use Rattle.cloak_model.specs.declared.answer.Answer.{Answer}
use Rattle.cloak_model.specs.declared.answer.Answer.TheVariants as told
use Rattle.cloak_model.specs.declared.inside.Ran.TheVariants as ran
use Rattle.cloak_model.specs.declared.inside.Copied.TheVariants as copied
use Rattle.cloak_model.specs.declared.outcome.Effect.{Effect}
use Rattle.cloak_model.specs.declared.outcome.Effect.TheVariants as does
use Rattle.cloak_model.specs.AskPages.{ask_read}
use Rattle.cloak_model.specs.Calls as calls
use Rattle.cloak_model.specs.Calls.{Copy, copy_in_step, copy_out_step, byte_address, buffer}
use Rattle.cloak_model.proofs.CallParts.{in_placed, in_step, out_placed, out_step}
use Rattle.cloak_model.specs.Contexts.{Context, word_of_page, is_reserved}
use Rattle.cloak_model.specs.Effect.{IsWidth, offset, effect, jump, go, branch, load_effect, store_effect}
use Rattle.cloak_model.specs.InsideStep.{AfterInstruction, if_reached, if_got, load_inside, store_inside, atomic_granted, atomic_placed, atomic_inside, system_inside, done_inside, decoded_inside, fetch, instruction_inside}
use Rattle.cloak_model.specs.Memory.{value_in}
use Rattle.cloak_model.specs.Resources.{Resources, page_at}
use Rattle.cloak_model.specs.World.{World, MidStep, Cloaked, plain_of}
use Rattle.cloak_model.specs.Script.{Script, Gives, Asks, Reads, Changes, asked, changed, played}
use Rattle.script_fold.proofs.Scripts.{IsOwn, ChangesOnly, ChangesLast}
use Rattle.script_fold.proofs.InstructionScripts.{of_instruction, instruction_scripted}
use Rattle.script_fold.proofs.CopyScripts.{of_copy, copy_in_scripted, copy_out_scripted}
use Rattle.page_law.specs.Loads.{IsLoadOf}
use Rattle.page_law.proofs.Worlds.{OnlyShows}
use Rattle.page_law.proofs.Steps.{shows_asked}
use Rattle.cloak_base.proofs.Choices.{either}

-- A world of the joint machine in which pages have these bytes.
pub record HasPlain (plain : PageId → List ℕ) (w : World) : Type 0 where
  pub cloak : MidStep
  pub is : w ≡ Cloaked cloak
  pub same : cloak.memory.plain ≡ plain

has_still : {count : ℕ} (plain : PageId → List ℕ) (w v : World) → OnlyShows count w v → HasPlain plain w →
    HasPlain plain v
has_still plain w v shows has =
    let s = shows.by has.cloak has.is in
    record { cloak = s.ended.to; is = s.ended.is; same = s.plain ∙ has.same }

plain_here : (plain : PageId → List ℕ) (w : World) (q : PageId) → HasPlain plain w → plain_of w q ≡ plain q
plain_here plain w q has =
    ap (λ (x : World). plain_of x q) has.is ∙ ap (λ (p : PageId → List ℕ). p q) has.same

-- An effect that loads has a width.

record LoadsWidth (e : Effect) : Type 0 where
  pub is : (rd va width : ℕ) (signed : Bool) → e ≡ does.Load rd va width signed → IsWidth width

no_load : (e : Effect) → ((rd va width : ℕ) (signed : Bool) → e ≡ does.Load rd va width signed → ⊥) → LoadsWidth e
no_load e none = record { is = λ rd va width signed same. absurd (none rd va width signed same) }

raise_width : (cause value : ℕ) → LoadsWidth (does.Raise cause value)
raise_width cause value = no_load _ (λ rd va width signed x. cc)

jump_width : (rd pc target : ℕ) → LoadsWidth (jump rd pc target)
jump_width rd pc target =
    either LoadsWidth (target % 4 == 0) _ _ (no_load _ (λ rd va width signed x. cc)) (raise_width 0 target)

go_width : (target : ℕ) → LoadsWidth (go target)
go_width target =
    either LoadsWidth (target % 4 == 0) _ _ (no_load _ (λ rd va width signed x. cc)) (raise_width 0 target)

branch_width : (taken : Bool) (pc : ℕ) (imm : ℤ) → LoadsWidth (branch taken pc imm)
branch_width taken pc imm =
    either LoadsWidth taken _ _ (go_width (offset pc imm)) (no_load _ (λ rd va width signed x. cc))

load_is : (rd va width : ℕ) (signed : Bool) → IsWidth width → LoadsWidth (does.Load rd va width signed)
load_is rd va width signed is = record {
  is = λ rd' va' width' signed' same. let w : width ≡ width' = cc in subst IsWidth w is;
}

load_width : (rd va width : ℕ) (signed : Bool) → IsWidth width → LoadsWidth (load_effect rd va width signed)
load_width rd va width signed is =
    either LoadsWidth (va % width == 0) _ _ (load_is rd va width signed is) (raise_width 4 va)

store_width : (va width value : ℕ) → LoadsWidth (store_effect va width value)
store_width va width value =
    either LoadsWidth (va % width == 0) _ _ (no_load _ (λ rd va width signed x. cc)) (raise_width 6 va)

effect_width : (i : Instr) (r : List ℕ) (pc : ℕ) → LoadsWidth (effect i r pc)
unfolding effect
effect_width (instr.Jal rd imm) r pc = jump_width rd pc _
effect_width (instr.Jalr rd rs1 imm) r pc = jump_width rd pc _
effect_width (instr.Beq rs1 rs2 imm) r pc = branch_width _ pc imm
effect_width (instr.Bne rs1 rs2 imm) r pc = branch_width _ pc imm
effect_width (instr.Blt rs1 rs2 imm) r pc = branch_width _ pc imm
effect_width (instr.Bge rs1 rs2 imm) r pc = branch_width _ pc imm
effect_width (instr.Bltu rs1 rs2 imm) r pc = branch_width _ pc imm
effect_width (instr.Bgeu rs1 rs2 imm) r pc = branch_width _ pc imm
effect_width (instr.Lb rd rs1 imm) r pc = load_width rd _ 1 true (inl refl)
effect_width (instr.Lh rd rs1 imm) r pc = load_width rd _ 2 true (inr (inl refl))
effect_width (instr.Lw rd rs1 imm) r pc = load_width rd _ 4 true (inr (inr refl))
effect_width (instr.Lbu rd rs1 imm) r pc = load_width rd _ 1 false (inl refl)
effect_width (instr.Lhu rd rs1 imm) r pc = load_width rd _ 2 false (inr (inl refl))
effect_width (instr.Sb rs1 rs2 imm) r pc = store_width _ 1 _
effect_width (instr.Sh rs1 rs2 imm) r pc = store_width _ 2 _
effect_width (instr.Sw rs1 rs2 imm) r pc = store_width _ 4 _
effect_width _ r pc = no_load _ (λ rd va width signed x. cc)

-- A script's end, where what it reads is what pages have.

-- each end of a script is so, if its reads are of these pages
abbrev EndsOn : {A : Type 0} → (PageId → List ℕ) → (A → Type 0) → Script A → Type 0
EndsOn plain P (Gives a) = P a
EndsOn plain P (Asks question more) = (answer : Answer) → EndsOn plain P (more answer)
EndsOn plain P (Reads q at width more) = EndsOn plain P (more (value_in (plain q) at width))
EndsOn plain P (Changes change more) = EndsOn plain P more

changed_ends : {A : Type 0} (C P : A → Type 0) (plain : PageId → List ℕ) (s : Script A) (w : World) →
    ChangesOnly C s → EndsOn plain P s → P (played s w).answer
unfolding ChangesOnly
changed_ends C P plain (Gives a) w only ends = ends
changed_ends C P plain (Changes change more) w only ends =
    changed_ends C P plain more (changed change w).world only ends
changed_ends C P plain _ w only ends = absurd only

played_ends : (d : ℕ) {A : Type 0} (C P : A → Type 0) (plain : PageId → List ℕ) (s : Script A) (w : World) →
    IsOwn d s → ChangesLast C s → EndsOn plain P s → HasPlain plain w → P (played s w).answer
unfolding IsOwn ChangesLast ask_read
played_ends d C P plain (Gives a) w own last ends has = ends
played_ends d C P plain (Asks question more) w own last ends has =
    let t = asked question w in
    played_ends d C P plain (more t.answer) t.world (own.1 t.answer) (last t.answer) (ends t.answer)
    (has_still {count = suc d} plain w t.world (shows_asked d question own.0 w (omega arith)) has)
played_ends d C P plain (Reads q at width more) w own last ends has =
    let value = value_in (plain_of w q) at width in
    played_ends d C P plain (more value) w (own.1 value) (last value)
    (subst (λ (bytes : List ℕ). EndsOn plain P (more (value_in bytes at width)))
    (sym (plain_here plain w q has)) ends) has
played_ends d C P plain (Changes change more) w own last ends has =
    changed_ends C P plain more (changed change w).world last ends

-- An instruction, or a copying step, that loads gives the bytes of the page at the address.

abbrev pub LoadsIn : ℕ → Resources → ℕ → (PageId → List ℕ) → AfterInstruction → Type 0
LoadsIn n r space plain made =
    (va value : ℕ) → made.ending ≡ ran.Loaded va value → IsLoadOf n r space plain va value

abbrev pub CopiesIn : ℕ → Resources → ℕ → (PageId → List ℕ) → Copy → Type 0
CopiesIn n r space plain made =
    (va value : ℕ) → made.ending ≡ copied.Loaded va value → IsLoadOf n r space plain va value

module _ (n : ℕ) (r : Resources) (plain : PageId → List ℕ) (c : Context) where
  abbrev Loads : Script AfterInstruction → Type 0
  Loads s = EndsOn plain (LoadsIn n r c.space plain) s

  loaded : (q : PageId) (va width : ℕ) → page_at n r c.space va ≡ Some q → IsWidth width → (va' value : ℕ) →
      ran.Loaded va (value_in (plain q) (va % 4096) width) ≡ ran.Loaded va' value → IsLoadOf n r c.space plain va' value
  loaded q va width lies is va' value same =
      let address : va ≡ va' = cc in
      subst (λ (x : ℕ). IsLoadOf n r c.space plain x value) address
      (record { page = q; lies = lies; width = width; is_width = is; same = cc })

  reached_loads : (made : Context) (va : ℕ) (next : Script AfterInstruction) → Loads next → (a : Answer) →
      Loads (if_reached made va a next)
  reached_loads made va next ends told.Ok = ends
  reached_loads made va next ends _ = λ va' value same. absurd cc

  got_loads : (made : Context) (va : ℕ) (next : ℕ → Script AfterInstruction) → ((value : ℕ) → Loads (next value)) →
      (a : Answer) → Loads (if_got made va a next)
  got_loads made va next ends (told.Word value) = ends value
  got_loads made va next ends _ = λ va' value same. absurd cc

  load_loads : (rd va width : ℕ) (signed : Bool) (place : Option PageId) → page_at n r c.space va ≡ place →
      IsWidth width → Loads (load_inside c rd va width signed place)
  unfolding load_inside
  load_loads rd va width signed None lies is = got_loads c va _ (λ x va' value same. absurd cc)
  load_loads rd va width signed (Some q) lies is = reached_loads c va _ (loaded q va width lies is)

  store_loads : (va width value : ℕ) (place : Option PageId) → Loads (store_inside c va width value place)
  unfolding store_inside
  store_loads va width value None = reached_loads c va _ (λ va' value' same. absurd cc)
  store_loads va width value (Some q) = reached_loads c va _ (λ va' value' same. absurd cc)

  system_loads : (i : Instr) → Loads (system_inside c i)
  unfolding system_inside
  system_loads instr.Ecall = λ va value same. absurd cc
  system_loads instr.Ebreak = λ va value same. absurd cc
  system_loads _ = λ va value same. absurd cc

  done_loads : (i : Instr) (e : Effect) → LoadsWidth e → Loads (done_inside n r c i e)
  unfolding done_inside
  done_loads i (does.Load rd va width signed) widths =
      load_loads rd va width signed _ refl (widths.is rd va width signed refl)
  done_loads i (does.Store va width value) widths = store_loads va width value _
  done_loads i does.System widths = system_loads i
  done_loads i _ widths = λ va value same. absurd cc

  -- An atomic instruction that loads gives the word that stood there.

  granted_loads : (rd : ℕ) (op : AtomicOp) (q : PageId) (va operand : ℕ) → page_at n r c.space va ≡ Some q →
      Loads (atomic_granted c rd op q va operand)
  unfolding atomic_granted
  granted_loads rd Lr q va operand lies = loaded q va 4 lies (inr (inr refl))
  granted_loads rd Sc q va operand lies =
      either Loads (is_reserved (word_of_page q va) c.mark) _ _ (λ va' value same. absurd cc)
      (λ va' value same. absurd cc)
  granted_loads rd op q va operand lies = loaded q va 4 lies (inr (inr refl))

  placed_loads : (rd : ℕ) (op : AtomicOp) (va operand : ℕ) (place : Option PageId) → page_at n r c.space va ≡ place →
      Loads (atomic_placed c rd op va operand place)
  unfolding atomic_placed
  placed_loads rd op va operand None lies = λ va' value same. absurd cc
  placed_loads rd op va operand (Some q) lies = reached_loads c va _ (granted_loads rd op q va operand lies)

  atomic_loads : (a : Option Atomic) → Loads (atomic_inside n r c a)
  unfolding atomic_inside
  atomic_loads None = λ va value same. absurd cc
  atomic_loads (Some a) =
      let va = register c.regs a.rs1 in
      either Loads (va % 4 == 0) _ _ (placed_loads a.rd a.op va _ (page_at n r c.space va) refl)
      (λ va' value same. absurd cc)

  decoded_loads : (word : ℕ) (i : Option Instr) → Loads (decoded_inside n r c word i)
  unfolding decoded_inside
  decoded_loads word None = atomic_loads (atomic_instruction word)
  decoded_loads word (Some i) = done_loads i (effect i c.regs c.pc) (effect_width i c.regs c.pc)

  fetch_loads : (place : Option PageId) → Loads (fetch n r c place)
  unfolding fetch
  fetch_loads None = λ va value same. absurd cc
  fetch_loads (Some q) = reached_loads c c.pc _ (decoded_loads _ _)

  pub loads_instruction : (w : World) → HasPlain plain w →
      LoadsIn n r c.space plain (played (instruction_inside n r c) w).answer
  unfolding instruction_inside
  loads_instruction w has =
      let is = instruction_scripted n r c in
      played_ends n (of_instruction c).changed (LoadsIn n r c.space plain) plain (instruction_inside n r c) w is.own
      is.last (fetch_loads _) has

  -- Copies.

  abbrev Copies : Script Copy → Type 0
  Copies s = EndsOn plain (CopiesIn n r c.space plain) s

  reached_copies : (va : ℕ) (next : Script Copy) → Copies next → (a : Answer) → Copies (calls.if_reached c va a next)
  reached_copies va next ends told.Ok = ends
  reached_copies va next ends _ = λ va' value same. absurd cc

  got_copies : (va : ℕ) (next : ℕ → Script Copy) → ((byte : ℕ) → Copies (next byte)) → (a : Answer) →
      Copies (calls.if_got c va a next)
  got_copies va next ends (told.Word byte) = ends byte
  got_copies va next ends _ = λ va' value same. absurd cc

  in_loads : (done : ℕ) (place : Option PageId) (cloaked : Bool) →
      page_at n r c.space (byte_address (buffer c) done) ≡ place → Copies (in_placed c done place cloaked)
  in_loads done (Some q) false lies =
      reached_copies _ _ (reached_copies _ _ (λ va value same.
      loaded q (byte_address (buffer c) done) 1 lies (inl refl) va value cc))
  in_loads done (Some q) true lies = λ va value same. absurd cc
  in_loads done None cloaked lies = λ va value same. absurd cc

  in_step_loads : (all : Bool) (done : ℕ) → Copies (in_step all n r c done)
  in_step_loads true done = λ va value same. absurd cc
  in_step_loads false done = in_loads done _ _ refl

  pub copies_in : (done : ℕ) (w : World) → HasPlain plain w →
      CopiesIn n r c.space plain (played (copy_in_step n r c done) w).answer
  unfolding copy_in_step
  copies_in done w has =
      let is = copy_in_scripted n r c done in
      played_ends n (of_copy c).changed (CopiesIn n r c.space plain) plain (copy_in_step n r c done) w is.own
      is.last (in_step_loads _ done) has

  out_loads : (done total : ℕ) (place : Option PageId) (cloaked : Bool) → Copies (out_placed c done total place cloaked)
  out_loads done total (Some q) false =
      got_copies _ _ (λ byte. reached_copies _ _ (λ va value same. absurd cc))
  out_loads done total (Some q) true = λ va value same. absurd cc
  out_loads done total None cloaked = λ va value same. absurd cc

  out_step_loads : (all : Bool) (done total : ℕ) → Copies (out_step all n r c done total)
  out_step_loads true done total = λ va value same. absurd cc
  out_step_loads false done total = out_loads done total _ _

  pub copies_out : (done total : ℕ) (w : World) → HasPlain plain w →
      CopiesIn n r c.space plain (played (copy_out_step n r c done total) w).answer
  unfolding copy_out_step
  copies_out done total w has =
      let is = copy_out_scripted n r c done total in
      played_ends n (of_copy c).changed (CopiesIn n r c.space plain) plain (copy_out_step n r c done total) w
      is.own is.last (out_step_loads _ done total) has
