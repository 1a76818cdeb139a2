-- The step of a program: registers and program counters of its contexts stay words, and so is what a context shows as it
-- leaves.
use Rattle.std.proofs.Common.{inl, ℕ, ◌+◌, ◌*◌, ◌/◌, ◌%◌, nat_le, Bool, false, Option, Some, None, IfSome, refl, arith}
use Rattle.std.specs.Prelude.{◌&&◌, ◌==◌}
use Rattle.cloak_base.specs.Registers.{register, zero_registers}
use Rattle.cloak_base.specs.declared.names.PageId.{PageId}
use Rattle.rv_isa.specs.Table.{instruction}
use Rattle.rv_isa.specs.declared.instr.Instr.{Instr}
use Rattle.rv_isa.specs.declared.instr.Instr.TheVariants as instr
use Rattle.rv_atomic.specs.Table.{atomic_instruction}
use Rattle.rv_atomic.specs.declared.atomic.Atomic.{Atomic}
use Rattle.rv_atomic.specs.declared.atomic.AtomicOp.{AtomicOp}
use Rattle.rv_atomic.specs.declared.atomic.AtomicOp.TheVariants.{Lr, Sc}
use Rattle.cloak_model.specs.declared.answer.Answer.{Answer}
use Rattle.cloak_model.specs.declared.answer.Answer.TheVariants as told
use Rattle.cloak_model.specs.declared.context.Phase.{Phase}
use Rattle.cloak_model.specs.declared.context.Phase.TheVariants.{Plain, CopyIn, Waiting, CopyOut}
use Rattle.cloak_model.specs.declared.context.PageWord.{PageWord}
use Rattle.cloak_model.specs.declared.context.Why.{Why}
use Rattle.cloak_model.specs.declared.context.Why.TheVariants as why
use Rattle.cloak_model.specs.declared.inside.Copied.{Copied}
use Rattle.cloak_model.specs.declared.inside.Copied.TheVariants as copied
use Rattle.cloak_model.specs.declared.inside.Ran.{Ran}
use Rattle.cloak_model.specs.declared.inside.Ran.TheVariants as ran
use Rattle.cloak_model.specs.Items as item
use Rattle.cloak_model.specs.declared.outcome.Effect.{Effect}
use Rattle.cloak_model.specs.declared.outcome.Effect.TheVariants as does
use Rattle.cloak_model.specs.Calls as calls
use Rattle.cloak_model.specs.Calls.{buffer, area, call_length, call_number, gives_bytes, Copy, byte_address, if_apart, copy_in_step, copy_out_step, finish_call, is_cloaked}
use Rattle.cloak_model.specs.Contexts.{Context, set_word, moved_on, in_phase, new_context, has_buffer, call_arguments, no_arguments, is_about_address, shown_address, shown, word_of_page, is_reserved}
use Rattle.cloak_model.specs.Effect.{IsWidth, effect}
use Rattle.cloak_model.specs.InsideStep.{AfterInstruction, if_reached, if_got, load_inside, store_inside, system_inside, done_inside, decoded_inside, fetch, instruction_inside, atomic_granted, uncloaked, atomic_placed, atomic_inside}
use Rattle.cloak_model.specs.Record.{IsItem, IsWord}
use Rattle.cloak_model.specs.Resources.{Resources, page_at}
use Rattle.cloak_model.specs.World.{World}
use Rattle.cloak_model.specs.Script as script
use Rattle.cloak_model.specs.Script.{Question, Reach, Get, Put, Clear, Change, Write, Forget, Script, Gives, Asks, Reads, Changes, asked, changed, played}
use Rattle.range_law.proofs.Bounds.{AreWords, rest_below, word_at, all_replicate, extended_below}
use Rattle.range_law.proofs.Effects.{FieldsFit, EffectFits, instruction_fits, effect_fits}
use Rattle.range_law.proofs.Harts.{with_register_fits, zero_registers_fit}
use Rattle.range_law.proofs.Worlds.{WorldFits, ToldFits, Anything, AnswerFits, reach_told, read_told, write_told, get_told, put_told, clear_told, copy_told, forget_told}
use Rattle.range_law.proofs.KernelSteps.{misaligned_fits}
use Rattle.cloak_base.proofs.Choices.{either}

pub record ContextFits (c : Context) : Type 0 where
  pub regs : AreWords c.regs
  pub pc : IsWord c.pc

pub set_word_fits : (c : Context) (i value : ℕ) → ContextFits c → IsWord value → ContextFits (set_word c i value)
set_word_fits c i value fits here = record { regs = with_register_fits c.regs i value fits.regs here; pc = fits.pc }

pub moved_on_fits : (c : Context) → ContextFits c → ContextFits (moved_on c)
moved_on_fits c fits = record { regs = fits.regs; pc = rest_below _ }

pub in_phase_fits : (phase : Phase) (c : Context) → ContextFits c → ContextFits (in_phase phase c)
in_phase_fits phase c fits = record { regs = fits.regs; pc = fits.pc }

with_pc_fits : (c : Context) (pc : ℕ) → ContextFits c → IsWord pc → ContextFits (record c { pc = pc })
with_pc_fits c pc fits here = record { regs = fits.regs; pc = here }

pub register_fits : (c : Context) (i : ℕ) → ContextFits c → IsWord (register c.regs i)
register_fits c i fits = word_at c.regs i fits.regs

pub new_context_fits : (space pc sp argument : ℕ) → IsWord pc → IsWord sp → IsWord argument →
    ContextFits (new_context space pc sp argument)
new_context_fits space pc sp argument p s a = record {
  regs = with_register_fits _ 10 argument (with_register_fits zero_registers 2 sp zero_registers_fit s) a;
  pc = p;
}

-- What a context shows.

abbrev pub WhyFits : Why → Type 0
WhyFits (why.Trap cause address) = IsWord cause × IsWord address
WhyFits _ = Unit {0}

page_of_fits : (n : ℕ) → IsWord n → IsWord (n / 4096 * 4096)
page_of_fits n fits = omega (arith, fits)

address_fits : (cause address : ℕ) → IsWord address → IsWord (shown_address cause address)
address_fits cause address fits = either IsWord (is_about_address cause) _ _ (page_of_fits address fits) (omega arith)

no_arguments_fit : AreWords no_arguments
no_arguments_fit = all_replicate IsWord 6 0 (omega arith)

arguments_fit : (c : Context) → ContextFits c → AreWords (call_arguments c)
arguments_fit c fits = (
  register_fits c 10 fits,
  (
    either IsWord (has_buffer (register c.regs 16)) _ _ (register_fits c 13 fits) (register_fits c 11 fits),
    (
      register_fits c 12 fits,
      (register_fits c 13 fits, (register_fits c 14 fits, (register_fits c 15 fits, tt))),
    ),
  ),
)

pub shown_fits : (c : Context) (ctx : ℕ) (cause : Why) → ContextFits c → IsWord ctx → WhyFits cause →
    IsItem (item.Leave (shown c ctx cause))
unfolding shown
shown_fits c ctx (why.Trap cause address) fits n w =
    (refl, (w.0, (address_fits cause address w.1, (n, (omega arith, no_arguments_fit)))))
shown_fits c ctx why.Call fits n w =
    (refl, (omega arith, (omega arith, (n, (register_fits c 16 fits, arguments_fit c fits)))))
shown_fits c ctx why.Exit fits n w =
    (refl, (omega arith, (omega arith, (n, (omega arith, no_arguments_fit)))))

-- One instruction.

abbrev pub RanFits : Ran → Type 0
RanFits (ran.Trap cause address) = IsWord cause × IsWord address
RanFits _ = Unit {0}

pub record InstructionFits (a : AfterInstruction) : Type 0 where
  pub context : ContextFits a.context
  pub ending : RanFits a.ending

-- A script whose questions fit, and whose ends do, whatever fitting answers it is given.

abbrev QuestionFits : Question → Type 0
QuestionFits (Get va width) = IsWidth width
QuestionFits (Put va width value) = IsWidth width
QuestionFits _ = Unit {0}

abbrev EndsFit : {A : Type 0} → (A → Type 0) → Script A → Type 0
EndsFit P (Gives a) = P a
EndsFit P (Asks question more) = QuestionFits question × ((a : Answer) → AnswerFits a → EndsFit P (more a))
EndsFit P (Reads q at width more) = (value : ℕ) → IsWord value → EndsFit P (more value)
EndsFit P (Changes it more) = EndsFit P more

asked_fits : (question : Question) (w : World) → QuestionFits question → WorldFits w →
    ToldFits AnswerFits (asked question w)
asked_fits (Reach q va kind) w is world = reach_told q va kind w world
asked_fits (Get va width) w is world = get_told va width w is world
asked_fits (Put va width value) w is world = put_told va width value w is world
asked_fits (Clear domain marked) w is world = clear_told domain marked w world

changed_fits : (it : Change) (w : World) → WorldFits w → ToldFits Anything (changed it w)
changed_fits (Write q at width value) w world = write_told q at width value w world
changed_fits (script.Copy domain from to) w world = copy_told domain from to w world
changed_fits (Forget domain resource) w world = forget_told domain resource w world

played_fits : {A : Type 0} (P : A → Type 0) (s : Script A) (w : World) → EndsFit P s → WorldFits w →
    ToldFits P (played s w)
played_fits P (Gives a) w ends world = record { answer = ends; world = world }
played_fits P (Asks question more) w ends world =
    let told = asked_fits question w ends.0 world in played_fits P (more _) _ (ends.1 _ told.answer) told.world
played_fits P (Reads q at width more) w ends world =
    let told = read_told q at width w world in played_fits P (more _) _ (ends _ told.answer) told.world
played_fits P (Changes it more) w ends world = played_fits P more _ ends (changed_fits it w world).world

-- the same of one instruction
abbrev Fits : Script AfterInstruction → Type 0
Fits s = EndsFit InstructionFits s

reached_fits : (c : Context) (va : ℕ) (a : Answer) (next : Script AfterInstruction) → ContextFits c → IsWord va →
    AnswerFits a → Fits next → Fits (if_reached c va a next)
reached_fits c va told.Ok next fits at a more = more
reached_fits c va (told.Absent cause) next fits at a more = record { context = fits; ending = (a, at) }
reached_fits c va _ next fits at a more = record { context = fits; ending = tt }

got_fits : (c : Context) (va : ℕ) (a : Answer) (next : ℕ → Script AfterInstruction) → ContextFits c → IsWord va →
    AnswerFits a → ((value : ℕ) → IsWord value → Fits (next value)) → Fits (if_got c va a next)
got_fits c va (told.Word value) next fits at a more = more value a
got_fits c va (told.Absent cause) next fits at a more = record { context = fits; ending = (a, at) }
got_fits c va _ next fits at a more = record { context = fits; ending = tt }

-- a word is written into a register, and the context goes on
written_fits : (c : Context) (rd value : ℕ) → ContextFits c → IsWord value →
    ContextFits (moved_on (set_word c rd value))
written_fits c rd value fits here = moved_on_fits _ (set_word_fits c rd value fits here)

marked_fits : (c : Context) (rd value : ℕ) (mark : Option PageWord) → ContextFits c → IsWord value →
    ContextFits (moved_on (record (set_word c rd value) { mark = mark }))
marked_fits c rd value mark fits here =
    let wrote = written_fits c rd value fits here in record { regs = wrote.regs; pc = wrote.pc }

load_fits : (c : Context) (rd va width : ℕ) (is_signed : Bool) (place : Option PageId) → ContextFits c → IsWord va →
    IsWidth width → Fits (load_inside c rd va width is_signed place)
unfolding load_inside
load_fits c rd va width is_signed (Some q) fits at is = (
  tt,
  λ a here. reached_fits c va a _ fits at here (λ value word. record {
    context = written_fits c rd _ fits (extended_below is_signed width value word);
    ending = tt;
  }),
)
load_fits c rd va width is_signed None fits at is = (
  is,
  λ a here. got_fits c va a _ fits at here (λ value word. record {
    context = written_fits c rd _ fits (extended_below is_signed width value word);
    ending = tt;
  }),
)

store_fits : (c : Context) (va width value : ℕ) (place : Option PageId) → ContextFits c → IsWord va → IsWidth width →
    Fits (store_inside c va width value place)
unfolding store_inside
store_fits c va width value (Some q) fits at is =
    (tt, λ a here. reached_fits c va a _ fits at here (record { context = moved_on_fits c fits; ending = tt }))
store_fits c va width value None fits at is =
    (is, λ a here. reached_fits c va a _ fits at here (record { context = moved_on_fits c fits; ending = tt }))

-- Atomic instructions.

granted_fits : (c : Context) (rd : ℕ) (op : AtomicOp) (q : PageId) (va operand : ℕ) → ContextFits c →
    Fits (atomic_granted c rd op q va operand)
unfolding atomic_granted
granted_fits c rd Lr q va operand fits =
    λ old word. record { context = marked_fits c rd old (Some (word_of_page q va)) fits word; ending = tt }
granted_fits c rd Sc q va operand fits =
    either Fits (is_reserved (word_of_page q va) c.mark) _ _
    (record { context = marked_fits c rd 0 None fits (omega arith); ending = tt })
    (record { context = marked_fits c rd 1 None fits (omega arith); ending = tt })
granted_fits c rd op q va operand fits =
    λ old word. record { context = written_fits c rd old fits word; ending = tt }

uncloaked_fits : (op : AtomicOp) → IsWord (uncloaked op)
uncloaked_fits Lr = omega arith
uncloaked_fits op = omega arith

placed_fits : (c : Context) (rd : ℕ) (op : AtomicOp) (va operand : ℕ) (place : Option PageId) → ContextFits c →
    IsWord va → Fits (atomic_placed c rd op va operand place)
unfolding atomic_placed
placed_fits c rd op va operand None fits at = record { context = fits; ending = (uncloaked_fits op, at) }
placed_fits c rd op va operand (Some q) fits at =
    (tt, λ a here. reached_fits c va a _ fits at here (granted_fits c rd op q va operand fits))

atomic_fits : (domain : ℕ) (r : Resources) (c : Context) (o : Option Atomic) → ContextFits c →
    Fits (atomic_inside domain r c o)
unfolding atomic_inside
atomic_fits domain r c None fits = record { context = fits; ending = (omega arith, omega arith) }
atomic_fits domain r c (Some a) fits =
    let va = register c.regs a.rs1 in
    let at = register_fits c a.rs1 fits in
    either Fits (va % 4 == 0) _ _
    (placed_fits c a.rd a.op va (register c.regs a.rs2) (page_at domain r c.space va) fits at)
    (record { context = fits; ending = (misaligned_fits a.op, at) })

-- Instructions.

system_fits : (c : Context) (i : Instr) → ContextFits c → Fits (system_inside c i)
unfolding system_inside
system_fits c instr.Ecall fits = record { context = fits; ending = tt }
system_fits c instr.Ebreak fits = record { context = fits; ending = (omega arith, fits.pc) }
system_fits c _ fits = record { context = fits; ending = (omega arith, omega arith) }

done_fits : (domain : ℕ) (r : Resources) (c : Context) (i : Instr) (e : Effect) → ContextFits c → EffectFits e →
    Fits (done_inside domain r c i e)
unfolding done_inside
done_fits domain r c i (does.Write rd value) fits e =
    record { context = written_fits c rd value fits e; ending = tt }
done_fits domain r c i (does.Jump rd link target) fits e =
    record { context = with_pc_fits (set_word c rd link) target (set_word_fits c rd link fits e.0) e.1; ending = tt }
done_fits domain r c i (does.Go target) fits e = record { context = with_pc_fits c target fits e; ending = tt }
done_fits domain r c i (does.Load rd va width is_signed) fits e =
    load_fits c rd va width is_signed (page_at domain r c.space va) fits e.0 e.1
done_fits domain r c i (does.Store va width value) fits e =
    store_fits c va width value (page_at domain r c.space va) fits e.0 e.1
done_fits domain r c i does.System fits e = system_fits c i fits
done_fits domain r c i does.Nothing fits e = record { context = moved_on_fits c fits; ending = tt }
done_fits domain r c i (does.Raise cause value) fits e = record { context = fits; ending = e }

decoded_fits : (domain : ℕ) (r : Resources) (c : Context) (word : ℕ) (o : Option Instr) → ContextFits c →
    IfSome o FieldsFit → Fits (decoded_inside domain r c word o)
unfolding decoded_inside
decoded_fits domain r c word None fits f = atomic_fits domain r c (atomic_instruction word) fits
decoded_fits domain r c word (Some i) fits f =
    done_fits domain r c i (effect i c.regs c.pc) fits (effect_fits i c.regs c.pc f fits.regs)

fetch_fits : (domain : ℕ) (r : Resources) (c : Context) (place : Option PageId) → ContextFits c →
    Fits (fetch domain r c place)
unfolding fetch
fetch_fits domain r c None fits = record { context = fits; ending = (omega arith, fits.pc) }
fetch_fits domain r c (Some q) fits = (
  tt,
  λ a here. reached_fits c c.pc a _ fits fits.pc here
      (λ word below. decoded_fits domain r c word (instruction word) fits (instruction_fits word)),
)

pub instruction_told : (domain : ℕ) (r : Resources) (c : Context) (w : World) → ContextFits c → WorldFits w →
    ToldFits InstructionFits (played (instruction_inside domain r c) w)
unfolding instruction_inside
instruction_told domain r c w fits world =
    let place = page_at domain r c.space c.pc in
    played_fits InstructionFits (fetch domain r c place) w (fetch_fits domain r c place fits) world

-- One byte of a call.

abbrev pub CopiedFits : Copied → Type 0
CopiedFits (copied.Absent cause address) = IsWord cause × IsWord address
CopiedFits _ = Unit {0}

pub record CopyFits (a : Copy) : Type 0 where
  pub context : ContextFits a.context
  pub ending : CopiedFits a.ending

-- the same of a copying step
abbrev Copies : Script Copy → Type 0
Copies s = EndsFit CopyFits s

byte_reached : (c : Context) (va : ℕ) (a : Answer) (next : Script Copy) → ContextFits c → IsWord va → AnswerFits a →
    Copies next → Copies (calls.if_reached c va a next)
byte_reached c va told.Ok next fits at a more = more
byte_reached c va (told.Absent cause) next fits at a more = record { context = fits; ending = (a, at) }
byte_reached c va _ next fits at a more = record { context = fits; ending = tt }

byte_got : (c : Context) (va : ℕ) (a : Answer) (next : ℕ → Script Copy) → ContextFits c → IsWord va → AnswerFits a →
    ((byte : ℕ) → Copies (next byte)) → Copies (calls.if_got c va a next)
byte_got c va (told.Word byte) next fits at a more = more byte
byte_got c va (told.Absent cause) next fits at a more = record { context = fits; ending = (a, at) }
byte_got c va _ next fits at a more = record { context = fits; ending = tt }

apart_fits : (c : Context) (place : Option PageId) (cloaked : Bool) (next : PageId → Script Copy) → ContextFits c →
    ((q : PageId) → Copies (next q)) → Copies (if_apart c place cloaked next)
apart_fits c (Some q) false next fits more = more q
apart_fits c _ _ next fits more =
    record { context = in_phase_fits Plain _ (set_word_fits c 10 0xFFFFFFFE fits (omega arith)); ending = tt }

-- where a byte lies
byte_fits : (start done : ℕ) → IsWord (byte_address start done)
byte_fits start done = rest_below (start + done)

copy_in_fits : (domain : ℕ) (r : Resources) (c : Context) (done : ℕ) → ContextFits c →
    Copies (copy_in_step domain r c done)
unfolding copy_in_step
copy_in_fits domain r c done fits =
    let from : ℕ = byte_address (buffer c) done in
    let to : ℕ = byte_address (area c) done in
    either Copies (nat_le (call_length c) done) _ _ (record { context = in_phase_fits Waiting c fits; ending = tt })
    (apart_fits c (page_at domain r c.space from) (is_cloaked r c to) _ fits
    (λ q. (
      tt,
      λ a here. byte_reached c from a _ fits (byte_fits _ done) here
          (λ byte word. (
            inl refl,
            λ b got. byte_reached c to b _ fits (byte_fits _ done) got
                (record { context = in_phase_fits (CopyIn (done + 1)) c fits; ending = tt }),
          )),
    )))

pub copy_in_told : (domain : ℕ) (r : Resources) (c : Context) (done : ℕ) (w : World) → ContextFits c → WorldFits w →
    ToldFits CopyFits (played (copy_in_step domain r c done) w)
copy_in_told domain r c done w fits =
    played_fits CopyFits (copy_in_step domain r c done) w (copy_in_fits domain r c done fits)

copy_out_fits : (domain : ℕ) (r : Resources) (c : Context) (done total : ℕ) → ContextFits c →
    Copies (copy_out_step domain r c done total)
unfolding copy_out_step
copy_out_fits domain r c done total fits =
    let from : ℕ = byte_address (area c) done in
    let to : ℕ = byte_address (buffer c) done in
    either Copies (nat_le total done) _ _ (record { context = in_phase_fits Plain c fits; ending = tt })
    (apart_fits c (page_at domain r c.space to) (is_cloaked r c from) _ fits
    (λ q. (
      inl refl,
      λ a here. byte_got c from a _ fits (byte_fits _ done) here
          (λ byte. (
            tt,
            λ b got. byte_reached c to b _ fits (byte_fits _ done) got
                (record { context = in_phase_fits (CopyOut (done + 1) total) c fits; ending = tt }),
          )),
    )))

pub copy_out_told : (domain : ℕ) (r : Resources) (c : Context) (done total : ℕ) (w : World) → ContextFits c →
    WorldFits w → ToldFits CopyFits (played (copy_out_step domain r c done total) w)
copy_out_told domain r c done total w fits =
    played_fits CopyFits (copy_out_step domain r c done total) w (copy_out_fits domain r c done total fits)

-- A call's answer.

pub finish_call_fits : (answer : ℕ) (c : Context) → ContextFits c → IsWord answer → ContextFits (finish_call answer c)
unfolding finish_call
finish_call_fits answer c fits here =
    let taken = set_word_fits c 10 answer fits here in
    either ContextFits (gives_bytes (call_number c) && nat_le answer (call_length c)) _ _
    (in_phase_fits (CopyOut 0 answer) _ taken) (in_phase_fits Plain _ taken)
