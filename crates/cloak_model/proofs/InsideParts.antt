-- An instruction of a context in parts, for proofs that go by cases: each is what the definition is, unfolded.
use Rattle.std.specs.Prelude.{ℕ, ◌%◌, Bool, None, if◌then◌else◌}
use Rattle.cloak_base.specs.declared.names.PageId.{PageId}
use Rattle.rv_isa.specs.Table.{instruction}
use Rattle.rv_atomic.specs.declared.atomic.AtomicOp.{AtomicOp}
use Rattle.cloak_model.specs.declared.inside.Ran.TheVariants as ran
use Rattle.cloak_model.specs.declared.answer.Answer.{Answer}
use Rattle.cloak_model.specs.Script.{Script, Gives, Write, read, change, ◌>>=◌}
use Rattle.cloak_model.specs.KernelStep.{extended}
use Rattle.cloak_model.specs.Contexts.{Context, set_word, moved_on, word_of_page}
use Rattle.cloak_model.specs.Resources.{Resources}
use Rattle.cloak_model.specs.InsideStep.{AfterInstruction, made_writing, ends_as, goes_on, if_reached, if_got, atomic_granted, decoded_inside}

abbrev pub loaded_inside : Context → ℕ → ℕ → ℕ → Bool → ℕ → Script AfterInstruction
loaded_inside c rd va width is_signed value =
    ends_as (moved_on (set_word c rd (extended is_signed width value))) (ran.Loaded va value)

abbrev pub load_reached : Context → PageId → ℕ → ℕ → ℕ → Bool → Answer → Script AfterInstruction
load_reached c q rd va width is_signed answer =
    if_reached c va answer (read q (va % 4096) width >>= (loaded_inside c rd va width is_signed))

abbrev pub load_got : Context → ℕ → ℕ → ℕ → Bool → Answer → Script AfterInstruction
load_got c rd va width is_signed answer =
    if_got c va answer (λ value. goes_on (set_word c rd (extended is_signed width value)))

abbrev pub store_reached : Context → PageId → ℕ → ℕ → ℕ → Answer → Script AfterInstruction
store_reached c q va width value answer =
    if_reached c va answer
    (change (Write q (va % 4096) width value) >>=
    (λ done. Gives (made_writing (moved_on c) ran.Stay (word_of_page q va))))

abbrev pub store_put : Context → ℕ → Answer → Script AfterInstruction
store_put c va answer = if_reached c va answer (goes_on c)

-- SC, by whether the word is reserved
abbrev pub conditional_inside : Bool → Context → ℕ → PageId → ℕ → ℕ → Script AfterInstruction
conditional_inside reserved c rd q va operand =
    (if reserved then change (Write q (va % 4096) 4 operand) >>=
    (λ done. Gives (made_writing (moved_on (record (set_word c rd 0) { mark = None })) ran.Stay (word_of_page q va))) else
    ends_as (moved_on (record (set_word c rd 1) { mark = None })) ran.Stay)

abbrev pub atomic_reached : Context → ℕ → AtomicOp → PageId → ℕ → ℕ → Answer → Script AfterInstruction
atomic_reached c rd op q va operand answer = if_reached c va answer (atomic_granted c rd op q va operand)

abbrev pub executed_inside : ℕ → Resources → Context → ℕ → Script AfterInstruction
executed_inside domain r c word = decoded_inside domain r c word (instruction word)

abbrev pub fetched_inside : ℕ → Resources → Context → PageId → Answer → Script AfterInstruction
fetched_inside domain r c q answer =
    if_reached c c.pc answer (read q (c.pc % 4096) 4 >>= (executed_inside domain r c))
