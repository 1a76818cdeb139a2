-- Steps of a cloaked program alone, and what is told of them.
use Rattle.std.specs.Prelude.{◌≡◌, ℕ, zero, suc, ◌+◌, ◌==◌, ◌&&◌, Bool, false, List, [], ◌∷◌, ◌++◌, slice_set, replicate, Some, None, unwrap_or, if◌then◌else◌}
use Rattle.cloak_base.specs.declared.names.Start.{Start}
use Rattle.cloak_model.specs.declared.answer.Answer.{Answer}
use Rattle.cloak_model.specs.declared.inside.Went.{Went}
use Rattle.cloak_model.specs.declared.context.Phase.{Phase}
use Rattle.cloak_model.specs.declared.context.Phase.TheVariants.{Plain}
use Rattle.cloak_base.specs.Pages.{zero_page}
use Rattle.cloak_model.specs.World.{World, Flat, Cloaked, Alone}
use Rattle.cloak_model.specs.Asking.{Told}
use Rattle.cloak_base.specs.Registers.{register}
use Rattle.cloak_model.specs.Contexts.{Context, context_at, with_context}
use Rattle.cloak_model.specs.DomainState.{Domain}
use Rattle.cloak_model.specs.DomainStep.{DomainStepped, domain_step, resume_slot}

-- Worlds.

-- a program whose pages are these, by resource and page, with answers for its questions
abbrev pub alone : (ℕ → ℕ → List ℕ) → List Answer → World
alone plain answers = Alone (record { plain = plain; answers = answers; unfit = false })

-- one page has these bytes, and all others are zeros
abbrev pub one_page : ℕ → ℕ → List ℕ → ℕ → ℕ → List ℕ
one_page resource page bytes r p = if (r == resource) && (p == page) then bytes else zero_page

-- the answers that are left, and whether one was missing or did not fit its question
abbrev pub left_in : World → List Answer × Bool
left_in (Flat seen) = ([], false)
left_in (Cloaked c) = ([], false)
left_in (Alone h) = (h.answers, h.unfit)

-- The answers were all used, and each fitted its question.
abbrev pub AllUsed : World → Type 0
AllUsed w = left_in w ≡ ([], false)

-- Steps.

-- the last domain and world, and how each step ended
pub record ProgramRun : Type 0 where
  pub domain : Domain
  pub world : World
  pub wents : List Went

abbrev pub run_after : List Went → Told DomainStepped → ProgramRun
run_after wents told =
    record { domain = told.answer.domain; world = told.world; wents = wents ++ told.answer.went ∷ [] }

-- n steps of the context of a slot
unfoldable pub run : ℕ → ℕ → Domain → World → ProgramRun
run zero slot d w = record { domain = d; world = w; wents = [] }
run (suc n) slot d w = let before = run n slot d w in
    run_after before.wents (domain_step slot before.domain before.world)

-- Contexts.

-- in space 0 and on hart 0, with these registers and no reservation
abbrev pub running : ℕ → List ℕ → Context
running pc regs = record { pc = pc; regs = regs; phase = Plain; space = 0; on = Some (record { 0 = 0 }); mark = None }

-- registers with these words from register i on
abbrev pub registers_from : ℕ → List ℕ → List ℕ → List ℕ
registers_from i [] regs = regs
registers_from i (x ∷ xs) regs = registers_from (i + 1) xs (slice_set regs i x)

-- a hypercall's number in x17, and its arguments from x10 on
abbrev pub registers : ℕ → List ℕ → List ℕ
registers number arguments = registers_from 10 arguments (slice_set (replicate 32 0) 17 number)

-- the same for a call to the kernel, with its number in x16
abbrev pub call_registers : ℕ → List ℕ → List ℕ
call_registers call arguments = slice_set (registers 0x4F560008 arguments) 16 call

-- a domain with another context in slot 0
abbrev pub with_first : Context → Domain → Domain
with_first c d = record d { control = record d.control { contexts = with_context 0 c d.control.contexts } }

-- a domain with another context in slot 1
abbrev pub with_child : Context → Domain → Domain
with_child c d = record d { control = record d.control { contexts = with_context 1 c d.control.contexts } }

-- the context of slot 0 runs on a hart, with this answer
abbrev pub resumed_first : ℕ → ℕ → Domain → Domain
resumed_first hart answer d = record d { control = (resume_slot 0 hart answer d.control).control }

abbrev pub context_in_slot : ℕ → Domain → Context
context_in_slot slot d = unwrap_or (context_at d.control.contexts slot) (running 0 [])

-- x10 and pc of the context of a slot
abbrev pub answer_and_pc : ℕ → Domain → ℕ × ℕ
answer_and_pc slot d = (register (context_in_slot slot d).regs 10, (context_in_slot slot d).pc)

abbrev pub phase_of : ℕ → Domain → Phase
phase_of slot d = (context_in_slot slot d).phase

-- Programs.

-- this many pages from 0x00400000 on
abbrev pub small : ℕ → Start
small pages = record { pages = pages; base = 0x00400000; entry = 0x00400000; sp = 0 }

-- two ecalls at the beginning of the program, and zeros
abbrev pub ecalls : ℕ → ℕ → List ℕ
ecalls = one_page 0 0 (0x73 ∷ 0 ∷ 0 ∷ 0 ∷ 0x73 ∷ replicate 4091 0)

-- the context of slot 0 is at the first ecall, with this number and these arguments
abbrev pub at_ecall : ℕ → List ℕ → Domain → Domain
at_ecall number arguments d = with_first (running 0x00400000 (registers number arguments)) d

-- it makes the hypercall, and its questions find these answers
abbrev pub made_hypercall : ℕ → List ℕ → List Answer → Domain → Told DomainStepped
made_hypercall number arguments answers d = domain_step 0 (at_ecall number arguments d) (alone ecalls answers)
