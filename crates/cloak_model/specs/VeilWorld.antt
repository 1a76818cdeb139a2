-- What a step asks of a memory tells nothing of what is veiled, under a blind seal.
use Rattle.std.specs.Prelude.{ℕ, ◌≡◌, Bool, true, false, List, [], None}
use Rattle.cloak_base.specs.Pages.{zero_page}
use Rattle.cloak_base.specs.declared.names.PageId.{PageId}
use Rattle.cloak_model.specs.Sealing.{Sealing, Padded}
use Rattle.cloak_model.specs.Hart.{Hart}
use Rattle.cloak_model.specs.World.{World, MidStep, Flat, Cloaked, Alone}
use Rattle.cloak_model.specs.Asking.{Told, Asking}
use Rattle.cloak_model.specs.Ahead.{settled_step}
use Rattle.cloak_model.specs.Script.{Question, asked}
use Rattle.cloak_model.specs.Veil.{veiled, IsBlind}

abbrev pub veiled_step : MidStep → MidStep
veiled_step c = record c { memory = veiled c.memory; pages = λ va. None }

abbrev pub veiled_world : World → World
veiled_world (Flat seen) = Flat seen
veiled_world (Cloaked c) = Cloaked (veiled_step c)
veiled_world (Alone h) = Alone h

abbrev pub seal_of : World → Sealing
seal_of (Flat seen) = Padded []
seal_of (Cloaked c) = c.memory.ledger.keys.seal
seal_of (Alone h) = Padded []

-- the newest bytes of each page
abbrev pub pages_of : World → PageId → List ℕ
pages_of (Flat seen) = λ q. zero_page
pages_of (Cloaked c) = c.memory.plain
pages_of (Alone h) = λ q. h.plain q.resource q.page

abbrev pub is_cloaked : World → Bool
is_cloaked (Flat seen) = false
is_cloaked (Cloaked c) = true
is_cloaked (Alone h) = false

abbrev pub veiled_told : {A : Type 0} → Told A → Told A
veiled_told t = record t { world = veiled_world t.world }

pub record IsVeiled {A : Type 0} (ask : Asking A) : Type 0 where
  pub seals : (w : World) → seal_of (ask w).world ≡ seal_of w
  pub keeps : (w : World) → pages_of (ask w).world ≡ pages_of w
  pub cloaked : (w : World) → is_cloaked (ask w).world ≡ is_cloaked w
  pub same : (w : World) → IsBlind (seal_of w) → veiled_told (ask (veiled_world w)) ≡ veiled_told (ask w)

-- Each question of a program, and each plain step of a hart, has one answer, one list of items and one memory under the veil.
pub record QuestionsAreVeiled : Type 0 where
  pub asks : (q : Question) (c : MidStep) → IsBlind c.memory.ledger.keys.seal →
      veiled_told (asked q (Cloaked (veiled_step c))) ≡ veiled_told (asked q (Cloaked c))
  pub steps : (h : Hart) (disk : List ℕ) (c : MidStep) → IsBlind c.memory.ledger.keys.seal →
      veiled_told (settled_step h disk (veiled_step c)) ≡ veiled_told (settled_step h disk c)
