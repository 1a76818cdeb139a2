-- Why no run goes on from a frozen state (this project's rules). The tests stand in their order, and each says that those
-- before it were passed.
use Rattle.std.specs.Prelude.{ℕ, ◌≡◌, ◌<◌, ◌+◌, List, ◌++◌, length, take, All, slice_get, slice_index_or, is_some, true, IfSome, IsSomeAnd, Option, Some, None}
use Rattle.std.specs.List.{flat_map}
use Rattle.sha2.specs.Sha256.{sha256}
use Rattle.cloak_base.specs.Random.{Random}
use Rattle.cloak_base.specs.declared.names.PageId.{PageId}
use Rattle.cloak_model.specs.declared.image.Bundle.{Bundle}
use Rattle.cloak_model.specs.Chain.{cbc}
use Rattle.cloak_model.specs.DomainState.{Control}
use Rattle.cloak_model.specs.Ledger.{Keys, domain_key}
use Rattle.cloak_model.specs.Opening.{drawn_keys, key_count}
use Rattle.cloak_model.specs.Resources.{Resources, resource_at}
use Rattle.resource_map.specs.Kept.{IsInUse}
use Rattle.frozen_state.specs.declared.frozen.Frozen.{Frozen}
use Rattle.frozen_state.specs.declared.frozen.FrozenDomain.{FrozenDomain}
use Rattle.frozen_state.specs.declared.frozen.FrozenFrame.{FrozenFrame}
use Rattle.frozen_state.specs.declared.frozen.FrozenPage.{FrozenPage}
use Rattle.frozen_state.specs.DomainPage.{IsProgram, domain_page}
use Rattle.frozen_state.specs.FrozenState.{domain_bytes, maybe_word, violation_bytes}
use Rattle.frozen_state.specs.Ranges.{owed_page}
use Rattle.frozen_state.specs.Thawing.{keys_and_rest}

-- what it shows of a domain and of a frame has the digest that stands beside it
abbrev pub IsWholeDomain : FrozenDomain → Type 0
IsWholeDomain d = sha256 d.page ≡ d.meta.digest

abbrev pub IsWholeFrame : FrozenFrame → Type 0
IsWholeFrame f = IfSome f.owed (λ owed. sha256 f.bytes ≡ owed.1.digest)

-- the first that has not
pub record IsFirstChanged {A : Type 0} (IsWhole : A → Type 0) (xs : List A) (n : ℕ) : Type 0 where
  pub x : A
  pub there : slice_get xs n ≡ Some x
  pub changed : IsWhole x → ⊥
  pub earlier : All IsWhole (take n xs)

-- a page of domain d lies in these resources
abbrev pub LiesIn : Resources → ℕ → PageId → Type 0
LiesIn r d q = q.domain ≡ d → IsSomeAnd (resource_at r q.resource) (λ held. q.page < held.pages)

-- This program is the one whose page the state shows as domain d, and what else the state has of the domain is of its pages
-- and spaces.
pub record IsProgramOf (keys : Keys) (f : Frozen) (d : ℕ) (shown : FrozenDomain) (control : Control) : Type 0 where
  pub program : IsProgram d control
  pub ended : control.ended ≡ is_some shown.violation
  pub page : cbc (domain_key keys d) shown.meta.iv (domain_page control) ≡ shown.page
  pub owed : All (λ (frame : FrozenFrame). IfSome (owed_page frame) (LiesIn control.resources d)) f.frames
  pub recorded : All (λ (p : FrozenPage). LiesIn control.resources d p.page) f.recorded
  pub roots : (space : ℕ) → is_some (slice_index_or shown.roots space None) ≡ true → IsInUse control.resources space

-- where the page of a domain begins in the file, after 60 bytes and the domains before
abbrev pub page_offset : Frozen → ℕ → FrozenDomain → ℕ
page_offset f d shown =
    60 + length (flat_map domain_bytes (take d f.domains))
    + length (violation_bytes shown.violation ++ flat_map maybe_word shown.roots) + 48

-- the first domain that has no program
pub record IsFirstWrong (keys : Keys) (f : Frozen) (at : ℕ) : Type 0 where
  pub d : ℕ
  pub shown : FrozenDomain
  pub there : slice_get f.domains d ≡ Some shown
  pub offset : at ≡ page_offset f d shown
  pub wrong : (control : Control) → IsProgramOf keys f d shown control → ⊥
  pub earlier : (e : ℕ) → e < d → IfSome (slice_get f.domains e) (λ domain. (control : Control) × IsProgramOf keys f e domain control)

-- The tests of a state, by what they find.

-- the stream does not hold the keys
abbrev pub LacksKeys : Bundle → Random → Type 0
LacksKeys b stream = drawn_keys (key_count b.programs) stream ≡ None

-- after them it has fewer draws than were made
abbrev pub LacksDraws : Bundle → Random → Frozen → Type 0
LacksDraws b stream f =
    (is_some (drawn_keys (key_count b.programs) stream) ≡ true) × (keys_and_rest b f.draws stream ≡ None)

-- a cause under the keys, if the stream has them and the draws that were made
abbrev pub UnderKeys : Bundle → Random → Frozen → (Keys → Type 0) → Type 0
UnderKeys b stream f P = IsSomeAnd (keys_and_rest b f.draws stream) (λ drawn. P drawn.0)

abbrev pub HasChangedDomain : Bundle → Random → Frozen → ℕ → Type 0
HasChangedDomain b stream f d = UnderKeys b stream f (λ keys. IsFirstChanged IsWholeDomain f.domains d)

abbrev pub HasChangedFrame : Bundle → Random → Frozen → ℕ → Type 0
HasChangedFrame b stream f n =
    UnderKeys b stream f (λ keys. All IsWholeDomain f.domains × IsFirstChanged IsWholeFrame f.frames n)

-- the page of a domain, which begins at this offset of the file, is that of no program
abbrev pub HasWrongPage : Bundle → Random → Frozen → ℕ → Type 0
HasWrongPage b stream f at =
    UnderKeys b stream f (λ keys. All IsWholeDomain f.domains × (All IsWholeFrame f.frames × IsFirstWrong keys f at))
