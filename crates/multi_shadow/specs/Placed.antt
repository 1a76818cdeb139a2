-- Live entries in the slots of an arena. The slot of an entry stands in a chain of each kind: by regime, page and kind in
-- that of its bucket, and in those of its target and of its table frames.
use Rattle.std.specs.Prelude.{◌≡◌, ℕ, ◌+◌, ◌*◌, ◌%◌, ◌^◌, ◌<◌, ◌≤◌, ◌==◌, Bool, true, false, ◌&&◌, List, length, count_by, slice_get, slice_set, Option, Some, None}
use Rattle.std.specs.List.{filter_map}
use Rattle.chain_arena.specs.declared.chain.Chain.{Chain}
use Rattle.chain_arena.specs.declared.chain.Chain.TheVariants as chain
use Rattle.chain_arena.specs.Arena.{Arena, chain_at, hooked, IsFree, IsTidyArena}
use Rattle.chain_arena.specs.Chains.{IsMemberOf, without}
use Rattle.cloak_base.specs.declared.names.Frame.{Frame}
use Rattle.cloak_base.specs.declared.names.Kind.{Kind}
use Rattle.cloak_base.specs.declared.names.Kind.TheVariants.{Fetch, Load, Store}
use Rattle.cloak_base.specs.declared.names.SpaceId.{SpaceId}
use Rattle.shadow_fold.specs.declared.entry.Entry.{Entry}
use Rattle.shadow_fold.specs.declared.entry.Regime.{Regime}
use Rattle.shadow_fold.specs.Agreement.{satp_in}
use Rattle.shadow_fold.specs.Entries.{is_for, is_of_space}

-- the entries that lie in slots, in the order of the slots
abbrev pub live_in : List (Option Entry) → List Entry
live_in slots = filter_map (λ o. o) slots

-- the entry lies in this slot
abbrev pub LiesAt : Arena Entry → ℕ → Entry → Type 0
LiesAt A s e = slice_get A.payloads s ≡ Some (Some e)

abbrev pub kind_number : Kind → ℕ
kind_number Fetch = 0
kind_number Load = 1
kind_number Store = 2

abbrev pub IsPower : ℕ → Type 0
IsPower n = (k : ℕ) × (n ≡ 2 ^ k)

-- the bucket of a regime, page and kind, of n buckets
unfoldable pub bucket_of : ℕ → Regime → ℕ → Kind → ℕ
bucket_of n regime page kind = (4 * page + kind_number kind + 37 * satp_in regime) % n

abbrev pub number_of : Option Frame → Option ℕ
number_of None = None
number_of (Some f) = Some f.0

-- the head whose chain of this kind has the entry's slot, of n heads
abbrev pub head_of : ℕ → Chain → Entry → Option ℕ
head_of n chain.Bucket e = Some (bucket_of n e.regime e.page e.kind)
head_of n chain.Target e = Some e.frame.0
head_of n chain.First e = number_of e.pt1
head_of n chain.Second e = number_of e.pt0

abbrev pub is_head : ℕ → Option ℕ → Bool
is_head h None = false
is_head h (Some g) = g == h

-- the entry hangs on this head
abbrev pub hangs_on : ℕ → Chain → ℕ → Entry → Bool
hangs_on n c h e = is_head h (head_of n c e)

-- every entry, or those of a space
abbrev pub is_wanted : Option SpaceId → Entry → Bool
is_wanted None e = true
is_wanted (Some s) e = is_of_space s e

-- the entry hangs on this head, and is wanted
abbrev pub is_hit : ℕ → Chain → ℕ → Option SpaceId → Entry → Bool
is_hit n c h space e = is_wanted space e && hangs_on n c h e

-- each entry stands in the chains of its heads, and what stands in a chain hangs on its head
pub record ArePlaced (A : Arena Entry) : Type 0 where
  pub tidy : IsTidyArena A
  pub there : (c : Chain) (s h : ℕ) (e : Entry) → LiesAt A s e → head_of A.heads c e ≡ Some h
      → (h < A.heads) × IsMemberOf s (chain_at A c h)
  pub only : (c : Chain) (s h : ℕ) (e : Entry) → h < A.heads → IsMemberOf s (chain_at A c h) → LiesAt A s e
      → head_of A.heads c e ≡ Some h

-- the entries that pass the test ended, and every other one lies where it lay
pub record EndsJust (ends : Entry → Bool) (A B : Arena Entry) : Type 0 where
  pub long : length B.payloads ≡ length A.payloads
  pub ended : (s : ℕ) (e : Entry) → LiesAt B s e → LiesAt A s e × (ends e ≡ false)
  pub kept : (s : ℕ) (e : Entry) → LiesAt A s e → ends e ≡ false → LiesAt B s e

-- the entry lies in a slot that was free, and nothing else has changed in the slots
abbrev pub IsPut : Entry → Arena Entry → Arena Entry → Type 0
IsPut e A B = (s : ℕ) × IsFree A s × (B.payloads ≡ slice_set A.payloads s (Some e))

-- no two entries are of one regime, page and kind
abbrev pub AreApart : List Entry → Type 0
AreApart es = (regime : Regime) (page : ℕ) (kind : Kind) → count_by (is_for regime page kind) es ≤ 1

-- the slot is put first in the chain of this head, if there is one
abbrev pub entered : Arena Entry → Chain → Option ℕ → ℕ → Arena Entry
entered A c None s = A
entered A c (Some h) s = hooked A c h s

-- the slot of an entry is put into all its chains
abbrev pub all_entered : Arena Entry → ℕ → Entry → Arena Entry
all_entered A s e =
    let a = entered A chain.Bucket (head_of A.heads chain.Bucket e) s in
    let b = entered a chain.Target (head_of A.heads chain.Target e) s in
    let c = entered b chain.First (head_of A.heads chain.First e) s in
    entered c chain.Second (head_of A.heads chain.Second e) s

-- a list without the slot, if that is wanted
abbrev pub without_if : Bool → ℕ → List ℕ → List ℕ
without_if true s xs = without s xs
without_if false s xs = xs

-- the slots, of which one is empty if that is wanted
abbrev pub emptied_if : Bool → ℕ → List (Option Entry) → List (Option Entry)
emptied_if true s slots = slice_set slots s None
emptied_if false s slots = slots
