-- The shape of a step of a program: what it asks of memory that is not its own, by the answers, which pages are copied and
-- dropped, and what is public of its end. What it reads and writes in its own pages is no part of it.
use Rattle.std.specs.Prelude.{ℕ, ◌≡◌, List}
use Rattle.cloak_base.specs.Pages.{zero_page, with_page, with_resource, with_copied}
use Rattle.cloak_base.specs.declared.names.PageId.{PageId}
use Rattle.cloak_model.specs.declared.answer.Answer.{Answer}
use Rattle.cloak_model.specs.Memory.{value_in, with_value_in}
use Rattle.cloak_model.specs.World.{MidStep, Cloaked}
use Rattle.cloak_model.specs.Asking.{Told, Asking, answered, then_ask}
use Rattle.cloak_model.specs.AskPages.{ask_copy, ask_forget}
use Rattle.cloak_model.specs.Script.{Script, Gives, Asks, Reads, Changes, Question, Write, Copy, Forget, asked, played}
use Rattle.cloak_model.specs.Veil.{IsBlind}
use Rattle.cloak_model.specs.VeilWorld.{veiled_step, veiled_told}

pub data Shape (B : Type 0) : Type 0 where
  Ends : B → Shape B
  Inquires : Question → (Answer → Shape B) → Shape B
  Duplicates : ℕ → ℕ → ℕ → Shape B → Shape B
  Discards : ℕ → ℕ → Shape B → Shape B

unfoldable pub shape : {A B : Type 0} → (A → B) → Script A → (PageId → List ℕ) → Shape B
shape tell (Gives a) plain = Ends (tell a)
shape tell (Asks question more) plain = Inquires question (λ answer. shape tell (more answer) plain)
shape tell (Reads q at width more) plain = shape tell (more (value_in (plain q) at width)) plain
shape tell (Changes (Write q at width value) more) plain =
    shape tell more (with_page plain q (with_value_in (plain q) at width value))
shape tell (Changes (Copy domain from to) more) plain =
    Duplicates domain from to (shape tell more (with_copied plain domain from to))
shape tell (Changes (Forget domain resource) more) plain =
    Discards domain resource (shape tell more (with_resource plain domain resource zero_page))

-- what a memory makes of a shape
unfoldable pub played_shape : {B : Type 0} → Shape B → Asking B
played_shape (Ends b) w = answered b w
played_shape (Inquires question more) w = then_ask (asked question) (λ answer. played_shape (more answer)) w
played_shape (Duplicates domain from to more) w = then_ask (ask_copy domain from to) (λ done. played_shape more) w
played_shape (Discards domain resource more) w = then_ask (ask_forget domain resource) (λ done. played_shape more) w

abbrev pub telling : {A B : Type 0} → (A → B) → Told A → Told B
telling tell t = record { answer = tell t.answer; world = t.world }

-- Under a blind seal a step is, under the veil, what the veiled memory makes of its shape.
abbrev pub StepsAreShapes : Type 1
StepsAreShapes =
    (A B : Type 0) (tell : A → B) (s : Script A) (c : MidStep) → IsBlind c.memory.ledger.keys.seal →
    veiled_told (telling tell (played s (Cloaked c)))
    ≡ veiled_told (played_shape (shape tell s c.memory.plain) (Cloaked (veiled_step c)))
