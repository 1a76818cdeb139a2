-- From which machines a run goes on that is thawed (this project's rules).
use Rattle.std.specs.Prelude.{ℕ, ◌≡◌, ◌<◌, true, false, List, length, map, slice_get, IfSome, IsSomeAnd, Option, Some, None, is_some, option_and_then, option_map}
use Rattle.aes_block.specs.Bytes.{IsBytes}
use Rattle.cloak_base.specs.Pages.{zero_page}
use Rattle.cloak_base.specs.Random.{Random}
use Rattle.cloak_base.specs.declared.names.PageId.{PageId}
use Rattle.cloak_base.specs.declared.names.SpaceId.{SpaceId}
use Rattle.cloak_model.specs.declared.image.Bundle.{Bundle}
use Rattle.cloak_model.specs.Cloaking.{CloakedMemory, ciphertext_of, owed_in, owing_frame}
use Rattle.cloak_model.specs.Csr.{csr_numbers}
use Rattle.cloak_model.specs.DomainState.{Domain}
use Rattle.cloak_model.specs.Hart.{Hart}
use Rattle.cloak_model.specs.Ledger.{Keys}
use Rattle.cloak_model.specs.Opening.{drawn_keys, key_count, keys_for}
use Rattle.cloak_model.specs.Parts.{Joint}
use Rattle.cloak_model.specs.Resources.{resource_at}
use Rattle.frozen_state.specs.DomainPage.{IsProgram}
use Rattle.frozen_state.specs.FrozenState.{frozen_of}
use Rattle.frozen_state.specs.Limits.{IsThere, TellsEnded}
use Rattle.frozen_state.specs.declared.frozen.Frozen.{Frozen}
use Rattle.io_traits.specs.Skipping.{skipped}

-- The keys with which a stream begins, and what it has after them and this many more draws: none if it has fewer.
unfoldable pub keys_and_rest : Bundle → ℕ → Random → Option (Keys × Random)
keys_and_rest b draws stream =
    option_and_then (λ (drawn : List (List ℕ) × Random). option_map (λ (rest : Random). (keys_for b.programs drawn.0, rest)) (skipped draws drawn.1))
    (drawn_keys (key_count b.programs) stream)

-- The parts of a machine.

-- a page lies below the size of a resource in use
abbrev pub IsPageInUse : List Domain → PageId → Type 0
IsPageInUse domains q =
    IsSomeAnd (slice_get domains q.domain) (λ d. IsSomeAnd (resource_at d.control.resources q.resource) (λ held. q.page < held.pages))

-- a hart has this number, and the nine control and status registers
pub record IsHart (number : ℕ) (h : Hart) : Type 0 where
  pub numbered : h.id ≡ number
  pub csrs : map (λ (entry : ℕ × ℕ). entry.0) h.csrs ≡ csr_numbers

-- Each page has 4096 bytes. A recorded page that no frame is owed can be told from its record, its vector and its key; a
-- page that is neither recorded nor owed is zeros.
pub record PagesFit (m : CloakedMemory) : Type 0 where
  pub bytes : (q : PageId) → IsBytes 4096 (m.plain q)
  pub vectors : (q : PageId) → is_some (m.ledger.iv q) ≡ is_some (m.ledger.recorded q)
  pub recorded : (q : PageId) (c iv : List ℕ) → m.ledger.recorded q ≡ Some c → m.ledger.iv q ≡ Some iv →
      owing_frame m q ≡ None → c ≡ ciphertext_of m.ledger q iv (m.plain q)
  pub fresh : (q : PageId) → m.ledger.recorded q ≡ None → owing_frame m q ≡ None → m.plain q ≡ zero_page

-- This frozen state, of this image, is one of the machine, which can go on under the stream. Its console and the loads of
-- its programs may be any: no step reads them.
pub record CanGoOn (b : Bundle) (stream : Random) (f : Frozen) (j : Joint) : Type 0 where
  pub ivs : Random
  pub state : frozen_of j f.steps ivs ≡ Some f
  pub harts : (n : ℕ) → IfSome (slice_get j.harts n) (IsHart n)
  pub programs : (d : ℕ) → IfSome (slice_get j.domains d) (λ domain. IsProgram d domain.control)
  pub ended : TellsEnded j
  pub roots : (s : SpaceId) → is_some (j.memory.ledger.root s) ≡ true → IsThere j s
  pub owed : (frame : ℕ) → IfSome (owed_in j.memory frame) (IsPageInUse j.domains)
  pub recorded : (q : PageId) → is_some (j.memory.ledger.recorded q) ≡ true → IsPageInUse j.domains q
  pub owed_places : length j.memory.ledger.owed ≡ length j.memory.ram
  pub mark_places : length j.memory.marks ≡ length j.harts
  pub pages : PagesFit j.memory
  pub no_miss : j.memory.ledger.missed ≡ false
  pub no_clash : j.memory.ledger.clashed ≡ false
  pub keys : keys_and_rest b f.draws stream ≡ Some (j.memory.ledger.keys, j.memory.ledger.stream)
