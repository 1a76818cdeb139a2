-- Scripts: what a step of a cloaked program asks, reads and changes, one after another, each by the answers before it,
-- and what it ends with. A step is a script, so it reaches memory in no other way.
use Rattle.std.specs.Prelude.{ℕ, Bool, List}
use Rattle.cloak_base.specs.declared.names.Kind.{Kind}
use Rattle.cloak_base.specs.declared.names.PageId.{PageId}
use Rattle.cloak_model.specs.declared.answer.Answer.{Answer}
use Rattle.cloak_model.specs.Asking.{Asking, answered, then_ask}
use Rattle.cloak_model.specs.AskPages.{ask_reach, ask_read, ask_write, ask_get, ask_put, ask_clear, ask_copy, ask_forget}

-- a question that is answered (`AskPages`)
pub data Question : Type 0 where
  -- page q, which the space has at an address, is reached for an access of a kind
  Reach : PageId → ℕ → Kind → Question
  -- the value of 1, 2 or 4 bytes at an address that is not cloaked
  Get : ℕ → ℕ → Question
  -- the lowest 1, 2 or 4 bytes of a word are stored at one
  Put : ℕ → ℕ → ℕ → Question
  -- the frames that are owed pages of the marked resources of a domain are settled
  Clear : ℕ → List Bool → Question

-- a change of the program's own pages
pub data Change : Type 0 where
  -- the lowest 1, 2 or 4 bytes of a word are stored at a place of a page
  Write : PageId → ℕ → ℕ → ℕ → Change
  -- of a domain, each page of a resource becomes a copy of the page of another
  Copy : ℕ → ℕ → ℕ → Change
  -- of a domain, the pages of a resource are dropped
  Forget : ℕ → ℕ → Change

pub data Script (A : Type 0) : Type 0 where
  Gives : A → Script A
  Asks : Question → (Answer → Script A) → Script A
  -- the value of 1, 2 or 4 bytes at a place of a page
  Reads : PageId → ℕ → ℕ → (ℕ → Script A) → Script A
  Changes : Change → Script A → Script A

-- A script in lines of `do`.

infixl 10 ◌>>=◌
abbrev pub ◌>>=◌ : {A B : Type 0} → Script A → (A → Script B) → Script B
Gives a >>= next = next a
Asks question more >>= next = Asks question (λ answer. more answer >>= next)
Reads q at width more >>= next = Reads q at width (λ value. more value >>= next)
Changes change more >>= next = Changes change (more >>= next)

-- its lines
abbrev pub ask : Question → Script Answer
ask question = Asks question (λ answer. Gives answer)

abbrev pub read : PageId → ℕ → ℕ → Script ℕ
read q at width = Reads q at width (λ value. Gives value)

abbrev pub change : Change → Script (Unit {0})
change it = Changes it (Gives tt)

-- What a world makes of it.

abbrev pub asked : Question → Asking Answer
asked (Reach q va kind) w = ask_reach q va kind w
asked (Get va width) w = ask_get va width w
asked (Put va width value) w = ask_put va width value w
asked (Clear domain marked) w = ask_clear domain marked w

abbrev pub changed : Change → Asking (Unit {0})
changed (Write q at width value) w = ask_write q at width value w
changed (Copy domain from to) w = ask_copy domain from to w
changed (Forget domain resource) w = ask_forget domain resource w

-- a script is played in a world
abbrev pub played : {A : Type 0} → Script A → Asking A
played (Gives a) w = answered a w
played (Asks question more) w = then_ask (asked question) (λ answer. played (more answer)) w
played (Reads q at width more) w = then_ask (ask_read q at width) (λ value. played (more value)) w
played (Changes it more) w = then_ask (changed it) (λ done. played more) w
