-- What a program that runs alone asks for in a step: its accesses, in order.
use Rattle.std.specs.Prelude.{ℕ, ◌+◌, ◌-◌, ◌%◌, ◌^◌, ◌==◌, min, List, [], ◌∷◌, ◌++◌, Option, Some, None, slice_get, if◌then◌else◌}
use Rattle.std.specs.List.{fold}
use Rattle.cloak_base.specs.Registers.{register}
use Rattle.cloak_base.specs.declared.names.Kind.{Kind}
use Rattle.cloak_base.specs.declared.names.Kind.TheVariants.{Fetch, Load, Store}
use Rattle.cloak_base.specs.declared.names.PageId.{PageId}
use Rattle.cloak_model.specs.Contexts.{Context, context_at}
use Rattle.cloak_model.specs.declared.context.Phase.{Phase}
use Rattle.cloak_model.specs.declared.context.Phase.TheVariants.{Plain, CopyIn, Waiting, CopyOut}
use Rattle.cloak_model.specs.declared.image.Bundle.{Bundle}
use Rattle.cloak_model.specs.declared.image.Program.{Program}
use Rattle.cloak_model.specs.Items.{Item}
use Rattle.cloak_model.specs.Items as item
use Rattle.cloak_model.specs.DomainAlone.{DomainAlone, domain_alone}
use Rattle.cloak_model.specs.Memory.{value_in}
use Rattle.cloak_model.specs.Parts.{DomainPart}
use Rattle.cloak_model.specs.Resources.{page_at}
use Rattle.cloak_model.specs.Effect.{effect}
use Rattle.cloak_model.specs.KernelStep.{atomic_kind}
use Rattle.cloak_model.specs.declared.outcome.Effect.{Effect}
use Rattle.cloak_model.specs.declared.outcome.Effect.TheVariants as does
use Rattle.rv_isa.specs.Table.{instruction}
use Rattle.rv_isa.specs.declared.instr.Instr.{Instr}
use Rattle.rv_atomic.specs.Table.{atomic_instruction}
use Rattle.rv_atomic.specs.declared.atomic.Atomic.{Atomic}
use Rattle.alone_views.specs.DomainMoments.{running_in}
use Rattle.alone_views.specs.declared.asked.AskedAccess.{AskedAccess}
use Rattle.alone_views.specs.declared.asked.AskedAccess.TheVariants as asked
use Rattle.replayed_run.specs.declared.questions.Questions.{Questions}

-- the page at an address of a space
abbrev pub page_there : DomainPart → ℕ → ℕ → Option PageId
page_there p space address = page_at p.domain.control.number p.domain.control.resources space address

-- an access to an address where this page lies, or none
abbrev pub access_as : ℕ → Kind → Option PageId → AskedAccess
access_as address kind (Some q) = asked.Page q address kind
access_as address kind None = asked.Uncloaked address

-- an access to an address of a space
abbrev pub access_at : DomainPart → ℕ → ℕ → Kind → AskedAccess
access_at p space address kind = access_as address kind (page_there p space address)

-- The access of an instruction.

abbrev pub word_of_bytes : List ℕ → ℕ → Option ℕ
word_of_bytes bytes address = if address % 4 == 0 then Some (value_in bytes (address % 4096) 4) else None

-- the word at an address where this page lies
abbrev pub word_in_page : DomainPart → ℕ → Option PageId → Option ℕ
word_in_page p address None = None
word_in_page p address (Some q) = word_of_bytes (p.plain q.resource q.page) address

-- by the instruction's effect
abbrev pub access_of_effect : DomainPart → ℕ → Effect → AskedAccess
access_of_effect p space (does.Load rd address width is_signed) = access_at p space address Load
access_of_effect p space (does.Store address width value) = access_at p space address Store
access_of_effect p space other = asked.Nothing

-- an atomic instruction
abbrev pub access_of_atomic : DomainPart → ℕ → List ℕ → Option Atomic → AskedAccess
access_of_atomic p space regs None = asked.Nothing
access_of_atomic p space regs (Some a) = access_at p space (register regs a.rs1) (atomic_kind a.op)

abbrev pub access_of_instruction : DomainPart → ℕ → List ℕ → ℕ → ℕ → Option Instr → AskedAccess
access_of_instruction p space regs pc word None = access_of_atomic p space regs (atomic_instruction word)
access_of_instruction p space regs pc word (Some i) = access_of_effect p space (effect i regs pc)

abbrev pub access_of_word : DomainPart → ℕ → List ℕ → ℕ → Option ℕ → AskedAccess
access_of_word p space regs pc None = asked.Nothing
access_of_word p space regs pc (Some word) = access_of_instruction p space regs pc word (instruction word)

abbrev pub access_there : DomainPart → ℕ → List ℕ → ℕ → AskedAccess
access_there p space regs pc = access_of_word p space regs pc (word_in_page p pc (page_there p space pc))

-- The accesses of a step, by the phase: an instruction is fetched and then reaches memory; a byte of a call's buffer goes
-- from there to its area, or comes from the area to the buffer.

-- byte `done` of what starts there
abbrev pub byte_from : ℕ → ℕ → ℕ
byte_from start done = (start + done) % 2 ^ 32

abbrev pub first_access : DomainPart → Context → Phase → AskedAccess
first_access p c Plain = access_at p c.space c.pc Fetch
first_access p c (CopyIn done) = access_at p c.space (byte_from (register c.regs 11) done) Load
first_access p c Waiting = asked.Nothing
first_access p c (CopyOut done total) = asked.Uncloaked (byte_from (register c.regs 13) done)

abbrev pub second_access : DomainPart → Context → Phase → AskedAccess
second_access p c Plain = access_there p c.space c.regs c.pc
second_access p c (CopyIn done) = asked.Uncloaked (byte_from (register c.regs 13) done)
second_access p c Waiting = asked.Nothing
second_access p c (CopyOut done total) = access_at p c.space (byte_from (register c.regs 11) done) Store

-- the access after this many answers; none comes after two
abbrev pub access_after : ℕ → DomainPart → Context → AskedAccess
access_after n p c =
    if n == 0 then first_access p c c.phase else if n == 1 then second_access p c c.phase else asked.Nothing

-- Of the context whose step is open.

abbrev pub access_by : ℕ → DomainPart → Option Context → AskedAccess
access_by n p None = asked.Nothing
access_by n p (Some c) = access_after n p c

abbrev pub access_in_slot : ℕ → DomainPart → Option ℕ → AskedAccess
access_in_slot n p None = asked.Nothing
access_in_slot n p (Some slot) = access_by n p (context_at p.domain.control.contexts slot)

abbrev pub access_in : ℕ → DomainAlone → AskedAccess
access_in n s = access_in_slot n s.part (running_in s.stage)

-- of the program of a number
abbrev pub access_if : Bundle → List Item → ℕ → ℕ → Option Program → AskedAccess
access_if b items d n None = asked.Nothing
access_if b items d n (Some p) = access_in n (domain_alone d b.kernel.schedule p items)

abbrev pub question_in : Bundle → List Item → ℕ → ℕ → AskedAccess
question_in b items d n = access_if b items d n (slice_get b.programs d)

-- The question for which an item is the answer, after these items and this many answers in the step.
abbrev pub question_for : Bundle → List Item → ℕ → Item → AskedAccess
question_for b items n (item.Ok d) = question_in b items d n
question_for b items n (item.Absent d cause) = question_in b items d n
question_for b items n (item.Word d value) = question_in b items d n
question_for b items n (item.Stopped d) = question_in b items d n
question_for b items n _ = asked.Nothing

-- The questions of the step that is open, or of the last one: how many were answered, and the last of these.

abbrev pub no_questions : Questions
no_questions = record { answers = 0; last = asked.Nothing }

-- one more was answered
abbrev pub answered : Questions → AskedAccess → Questions
answered n question = record { answers = min (n.answers + 1) (2 ^ 64 - 1); last = question }

-- after an item, which is the answer of this question if it is an answer
abbrev pub questions_after : Questions → AskedAccess → Item → Questions
questions_after n question (item.Step number) = no_questions
questions_after n question (item.Ok d) = answered n question
questions_after n question (item.Absent d cause) = answered n question
questions_after n question (item.Word d value) = answered n question
questions_after n question (item.Stopped d) = answered n question
questions_after n question _ = n

-- The items so far, and the questions.
pub record Questioned : Type 0 where
  pub items : List Item
  pub questions : Questions

unfoldable pub questioned_more : Bundle → Questioned → Item → Questioned
questioned_more b n i = record {
  items = n.items ++ i ∷ [];
  questions = questions_after n.questions (question_for b n.items n.questions.answers i) i;
}

-- The questions of these items.
abbrev pub questioned_in : Bundle → List Item → Questioned
questioned_in b items = fold (questioned_more b) (record { items = []; questions = no_questions }) items
