-- What an instruction made of a context.
use Rattle.std.specs.Prelude.{◌≡◌, Bool, false, Option, is_some}
use Rattle.cloak_model.specs.declared.context.PageWord.{PageWord}
use Rattle.cloak_model.specs.declared.inside.Ran.{Ran}
use Rattle.cloak_model.specs.Contexts.{Context}
use Rattle.cloak_model.specs.InsideStep.{AfterInstruction}

-- the context after its instruction, which ended so and wrote in this word of a cloaked page, or in none
abbrev pub after_instruction : Context → Ran → Option PageWord → AfterInstruction
after_instruction c ending wrote = record { context = c; ending = ending; wrote = wrote }

-- Whether a word was reserved is told: if nothing was told, and still is not, a context that comes without a mark leaves
-- without one.
abbrev pub TellsMark : Bool → Bool → Context → Context → Type 0
TellsMark told told' c c' = told' ≡ false → (told ≡ false) × (is_some c.mark ≡ false → is_some c'.mark ≡ false)
