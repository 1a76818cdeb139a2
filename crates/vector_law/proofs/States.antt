-- A frozen state shows no key as a vector.
use Rattle.std.proofs.Common.{◌≡◌, ◌∙◌, inl, inr, ℕ, zero, suc, ◌+◌, List, [], ◌∷◌, ◌++◌, length, map, slice_get, Option, Some, None, IfSome, refl, sym, ap, subst}
use Rattle.std.specs.Prelude.{option_map, option_and_then}
use Rattle.std.specs.List.{AllByRecursion, flat_map}
use Rattle.std.proofs.lemmas.List.Elements.{All-from_recursion}
use Rattle.cloak_base.specs.Random.{Random, next_draw}
use Rattle.cloak_base.specs.declared.names.PageId.{PageId}
use Rattle.cloak_model.specs.declared.image.Program.{Program}
use Rattle.cloak_model.specs.Beginning.{Fresh}
use Rattle.cloak_model.specs.Cloaking.{CloakedMemory, owed_in}
use Rattle.cloak_model.specs.DomainState.{Domain}
use Rattle.cloak_model.specs.Ledger.{Ledger}
use Rattle.cloak_model.specs.Parts.{Joint}
use Rattle.frozen_state.specs.declared.frozen.Frozen.{Frozen}
use Rattle.frozen_state.specs.declared.frozen.FrozenDomain.{FrozenDomain}
use Rattle.frozen_state.specs.declared.frozen.FrozenFrame.{FrozenFrame}
use Rattle.frozen_state.specs.declared.frozen.FrozenPage.{FrozenPage}
use Rattle.frozen_state.specs.FrozenState.{Drawn, and_more, domain_under, domains_from, owed_under, frame_under, frames_from, page_with, pages_of_domains, recorded_of, frozen_with, frozen_of}
use Rattle.kernel_isolation.specs.Isolation.{joint_until}
use Rattle.page_law.specs.Ciphers.{draw_at, numbered_draw}
use Rattle.vector_law.specs.Vectors.{HasNoKeys, IsLaterDraw, ShowsNoKey, StatesShowNoKey, owed_vector}
use Rattle.vector_law.proofs.Vectors.{runs_keep_no_keys}

-- These are the next draws of a stream, one after another, and this is what follows them.
Takes : List (List ℕ) → Random → Random → Type 0
Takes [] stream rest = stream ≡ rest
Takes (v ∷ vs) stream rest = (between : Random) × (next_draw stream ≡ Some (v, between)) × Takes vs between rest

takes_then : (xs ys : List (List ℕ)) (a b c : Random) → Takes xs a b → Takes ys b c → Takes (xs ++ ys) a c
unfolding Takes
takes_then [] ys a b c first second = subst (λ (s : Random). Takes ys s c) (sym first) second
takes_then (x ∷ xs) ys a b c first second =
    (first.0, first.1, takes_then xs ys first.0 b c first.2 second)

-- the draws that follow one
shifted : (stream : Random) (draw : List ℕ × Random) (n : ℕ) → next_draw stream ≡ Some draw →
    numbered_draw (suc n) stream ≡ numbered_draw n draw.1
shifted stream draw zero is = ap (option_and_then (λ (d : List ℕ × Random). next_draw d.1)) is
shifted stream draw (suc n) is =
    ap (option_and_then (λ (d : List ℕ × Random). next_draw d.1)) (shifted stream draw n is)

-- so each of them has its number
takes_at : (vs : List (List ℕ)) (stream rest : Random) → Takes vs stream rest → (n : ℕ) (v : List ℕ) →
    slice_get vs n ≡ Some v → draw_at n stream ≡ Some v
unfolding Takes
takes_at [] stream rest takes n v is = absurd (none n is)
  where
    none : (k : ℕ) → slice_get [] k ≡ Some v → ⊥
    none zero e = cc
    none (suc k) e = cc
takes_at (x ∷ vs) stream rest takes zero v is =
    ap (option_map (λ (d : List ℕ × Random). d.0)) takes.1 ∙ (let same : x ≡ v = cc in ap Some same)
takes_at (x ∷ vs) stream rest takes (suc n) v is =
    ap (option_map (λ (d : List ℕ × Random). d.0)) (shifted stream (x, takes.0) n takes.1)
    ∙ takes_at vs takes.0 rest takes.2 n v is

-- One, and then more, by a reading of the vectors of such lists.
module _ {A : Type 0} (vectors : A → List (List ℕ)) (all : List A → List (List ℕ))
    (nil : all [] ≡ []) (cons : (x : A) (xs : List A) → all (x ∷ xs) ≡ vectors x ++ all xs)
  where
    abbrev TakesAll : Random → Drawn (List A) → Type 0
    TakesAll ivs o = IfSome o (λ xs. Takes (all xs.0) ivs xs.1)

    none_taken : (ivs : Random) → TakesAll ivs (Some ([], ivs))
    unfolding Takes
    none_taken ivs = subst (λ (vs : List (List ℕ)). Takes vs ivs ivs) (sym nil) refl

    rest_taken : (ivs : Random) (x : A × Random) (o : Drawn (List A)) → Takes (vectors x.0) ivs x.1 → TakesAll x.1 o →
        TakesAll ivs (option_map (λ (xs : List A × Random). (x.0 ∷ xs.0, xs.1)) o)
    rest_taken ivs x None first rest = tt
    rest_taken ivs x (Some xs) first rest =
        subst (λ (vs : List (List ℕ)). Takes vs ivs xs.1) (sym (cons x.0 xs.0))
        (takes_then (vectors x.0) (all xs.0) ivs x.1 xs.1 first rest)

    more_taken : (ivs : Random) (more : Random → Drawn (List A)) (o : Drawn A) →
        IfSome o (λ x. Takes (vectors x.0) ivs x.1) → ((s : Random) → TakesAll s (more s)) → TakesAll ivs (and_more more o)
    more_taken ivs more None first rest = tt
    more_taken ivs more (Some x) first rest = rest_taken ivs x (more x.1) first (rest x.1)

-- Programs.

abbrev domain_vector : FrozenDomain → List (List ℕ)
domain_vector d = d.meta.iv ∷ []

abbrev domain_vectors : List FrozenDomain → List (List ℕ)
domain_vectors ds = map (λ (d : FrozenDomain). d.meta.iv) ds

domain_drawn : (j : Joint) (d : ℕ) (domain : Domain) (ivs : Random) (o : Option (List ℕ × Random)) → next_draw ivs ≡ o →
    IfSome (option_map {U = FrozenDomain × Random} (λ (draw : List ℕ × Random). (domain_under j d domain draw.0, draw.1)) o)
    (λ x. Takes (domain_vector x.0) ivs x.1)
unfolding domain_under Takes
domain_drawn j d domain ivs None is = tt
domain_drawn j d domain ivs (Some draw) is = (draw.1, is, refl)

domains_taken : (j : Joint) (d : ℕ) (domains : List Domain) (ivs : Random) →
    IfSome (domains_from j d domains ivs) (λ xs. Takes (domain_vectors xs.0) ivs xs.1)
unfolding domains_from
domains_taken j d [] ivs = none_taken domain_vector domain_vectors refl (λ x xs. refl) ivs
domains_taken j d (domain ∷ domains) ivs =
    more_taken domain_vector domain_vectors refl (λ x xs. refl) ivs (domains_from j (d + 1) domains) _
    (domain_drawn j d domain ivs (next_draw ivs) refl) (λ s. domains_taken j (d + 1) domains s)

-- Frames.

abbrev frame_vector : FrozenFrame → List (List ℕ)
frame_vector f = owed_vector f.owed

abbrev frame_vectors : List FrozenFrame → List (List ℕ)
frame_vectors fs = flat_map frame_vector fs

owed_drawn : (m : CloakedMemory) (q : PageId) (ivs : Random) (o : Option (List ℕ × Random)) → next_draw ivs ≡ o →
    IfSome (option_map {U = FrozenFrame × Random} (λ (draw : List ℕ × Random). (owed_under m q draw.0, draw.1)) o)
    (λ x. Takes (frame_vector x.0) ivs x.1)
unfolding owed_under Takes
owed_drawn m q ivs None is = tt
owed_drawn m q ivs (Some draw) is = (draw.1, is, refl)

frame_drawn : (m : CloakedMemory) (bytes : List ℕ) (owed : Option PageId) (ivs : Random) →
    IfSome (frame_under m bytes owed ivs) (λ x. Takes (frame_vector x.0) ivs x.1)
unfolding Takes
frame_drawn m bytes None ivs = refl
frame_drawn m bytes (Some q) ivs = owed_drawn m q ivs (next_draw ivs) refl

frames_taken : (m : CloakedMemory) (f : ℕ) (ram : List (List ℕ)) (ivs : Random) →
    IfSome (frames_from m f ram ivs) (λ xs. Takes (frame_vectors xs.0) ivs xs.1)
unfolding frames_from
frames_taken m f [] ivs = none_taken frame_vector frame_vectors refl (λ x xs. refl) ivs
frames_taken m f (bytes ∷ ram) ivs =
    more_taken frame_vector frame_vectors refl (λ x xs. refl) ivs (frames_from m (f + 1) ram) _
    (frame_drawn m bytes (owed_in m f) ivs) (λ s. frames_taken m (f + 1) ram s)

-- Recorded pages.

abbrev IsLater : List Program → Random → FrozenPage → Type 0
IsLater programs stream p = IsLaterDraw programs (Fresh stream) p.meta.iv

all_append : {A : Type 0} (P : A → Type 0) (xs ys : List A) → AllByRecursion P xs → AllByRecursion P ys →
    AllByRecursion P (xs ++ ys)
all_append P [] ys first second = second
all_append P (x ∷ xs) ys first second = (first.0, all_append P xs ys first.1 second)

page_later : (programs : List Program) (stream : Random) (q : PageId) (c iv : Option (List ℕ)) →
    IfSome iv (λ v. IsLaterDraw programs (Fresh stream) v) → AllByRecursion (IsLater programs stream) (page_with q c iv)
page_later programs stream q None iv later = tt
page_later programs stream q (Some c) None later = tt
page_later programs stream q (Some c) (Some iv) later = (later, tt)

vector_later : (programs : List Program) (stream : Random) (l : Ledger) → HasNoKeys programs (Fresh stream) l →
    (q : PageId) (o : Option (List ℕ)) → l.iv q ≡ o → IfSome o (λ v. IsLaterDraw programs (Fresh stream) v)
vector_later programs stream l has q None is = tt
vector_later programs stream l has q (Some iv) is = elim (has q iv is) [
  | inl later ↦ later
  | inr none ↦ absurd none
]

recorded_later : (programs : List Program) (stream : Random) (l : Ledger) → HasNoKeys programs (Fresh stream) l →
    (pages : List PageId) → AllByRecursion (IsLater programs stream) (recorded_of l pages)
recorded_later programs stream l has [] = tt
recorded_later programs stream l has (q ∷ pages) =
    all_append (IsLater programs stream) (page_with q (l.recorded q) (l.iv q)) (recorded_of l pages)
    (page_later programs stream q (l.recorded q) (l.iv q) (vector_later programs stream l has q (l.iv q) refl))
    (recorded_later programs stream l has pages)

-- The state.

module _ (programs : List Program) (stream ivs : Random) (j : Joint) (steps : ℕ)
    (has : HasNoKeys programs (Fresh stream) j.memory.ledger)
  where
    abbrev Shows : Frozen → Type 0
    Shows f = ShowsNoKey programs stream ivs f

    state_shows : (domains : List FrozenDomain × Random) (frames : List FrozenFrame × Random) →
        Takes (domain_vectors domains.0) ivs domains.1 → Takes (frame_vectors frames.0) domains.1 frames.1 →
        Shows (frozen_with j steps domains.0 frames.0)
    unfolding frozen_with
    state_shows domains frames first second = record {
      fresh = takes_at (domain_vectors domains.0 ++ frame_vectors frames.0) ivs frames.1
          (takes_then (domain_vectors domains.0) (frame_vectors frames.0) ivs domains.1 frames.1 first second);
      recorded = All-from_recursion (IsLater programs stream) _
          (recorded_later programs stream j.memory.ledger has (pages_of_domains (length j.domains)));
    }

    by_frames : (domains : List FrozenDomain × Random) (o : Drawn (List FrozenFrame)) →
        Takes (domain_vectors domains.0) ivs domains.1 →
        IfSome o (λ frames. Takes (frame_vectors frames.0) domains.1 frames.1) →
        IfSome (option_map (λ (frames : List FrozenFrame × Random). frozen_with j steps domains.0 frames.0) o) Shows
    by_frames domains None first second = tt
    by_frames domains (Some frames) first second = state_shows domains frames first second

    by_domains : (o : Drawn (List FrozenDomain)) → IfSome o (λ domains. Takes (domain_vectors domains.0) ivs domains.1) →
        IfSome (option_and_then (λ (domains : List FrozenDomain × Random).
        option_map (λ (frames : List FrozenFrame × Random). frozen_with j steps domains.0 frames.0) (frames_from j.memory 0 j.memory.ram domains.1)) o)
        Shows
    by_domains None first = tt
    by_domains (Some domains) first =
        by_frames domains (frames_from j.memory 0 j.memory.ram domains.1) first
        (frames_taken j.memory 0 j.memory.ram domains.1)

    frozen_shows : IfSome (frozen_of j steps ivs) Shows
    unfolding frozen_of
    frozen_shows = by_domains (domains_from j 0 j.domains ivs) (domains_taken j 0 j.domains ivs)

pub states_show_no_key : StatesShowNoKey
states_show_no_key b stream budget r is n steps ivs f frozen =
    subst (λ (o : Option Frozen). IfSome o (λ x. ShowsNoKey b.programs stream ivs x)) frozen
    (frozen_shows b.programs stream ivs (joint_until n r) steps (runs_keep_no_keys b (Fresh stream) budget r is n))
