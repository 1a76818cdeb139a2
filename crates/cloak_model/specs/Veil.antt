-- A memory without what it hides: the bytes of cloaked pages, the keys, the vectors, and whether pages clashed. The random
-- stream, what is owed and what was last shown of each page stay.
use Rattle.std.specs.Prelude.{ℕ, ◌≡◌, Bool, false, List, [], None}
use Rattle.cloak_base.specs.declared.names.PageId.{PageId}
use Rattle.cloak_model.specs.Sealing.{Sealing, sealed_by}
use Rattle.cloak_model.specs.Ledger.{Ledger, Keys}
use Rattle.cloak_model.specs.Cloaking.{CloakedMemory, AfterSettling, AfterOffer, settle, offer}

-- of the keys, the cipher that they are for
abbrev pub no_keys : Keys → Keys
no_keys k = record k { numbered = []; group = [] }

abbrev pub veiled_ledger : Ledger → Ledger
veiled_ledger l = record l { keys = no_keys l.keys; iv = λ page. None; clashed = false }

abbrev pub veiled : CloakedMemory → CloakedMemory
veiled m = record m { plain = λ page. []; ledger = veiled_ledger m.ledger }

abbrev pub veiled_settling : AfterSettling → AfterSettling
veiled_settling s = record s { memory = veiled s.memory }

abbrev pub veiled_offer : AfterOffer → AfterOffer
veiled_offer o = record o { memory = veiled o.memory }

-- what a page is sealed to depends on the vector alone
abbrev pub IsBlind : Sealing → Type 0
IsBlind seal = (key key' iv bytes bytes' : List ℕ) → sealed_by seal key iv bytes ≡ sealed_by seal key' iv bytes'

-- Under a blind seal, what the kernel is shown, whether a draw is missing and what is granted are those of the veiled memory.
pub record ShowsAsVeiled : Type 0 where
  pub settles : (f : ℕ) (m : CloakedMemory) → IsBlind m.ledger.keys.seal →
      veiled_settling (settle f (veiled m)) ≡ veiled_settling (settle f m)
  pub offers : (q : PageId) (g : ℕ) (write : Bool) (m : CloakedMemory) → IsBlind m.ledger.keys.seal →
      veiled_offer (offer q g write (veiled m)) ≡ veiled_offer (offer q g write m)
