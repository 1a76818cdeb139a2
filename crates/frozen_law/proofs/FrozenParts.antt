-- What a frozen state has of programs and frames is that of its machine.
use Rattle.std.proofs.Common.{◌≡◌, ◌∙◌, ℕ, zero, suc, ◌+◌, List, [], ◌∷◌, length, map, slice_get, slice_index_or, Option, Some, None, IfSome, refl, sym, ap, subst, arith}
use Rattle.std.specs.Prelude.{option_map, option_and_then}
use Rattle.std.specs.List.{AllByRecursion}
use Rattle.cloak_base.specs.Random.{Random, next_draw}
use Rattle.cloak_base.specs.declared.causes.Violation.{Violation}
use Rattle.cloak_base.specs.declared.names.PageId.{PageId}
use Rattle.cloak_model.specs.Cloaking.{CloakedMemory, owed_in}
use Rattle.cloak_model.specs.DomainState.{Domain}
use Rattle.cloak_model.specs.Parts.{Joint}
use Rattle.frozen_state.specs.declared.frozen.Frozen.{Frozen}
use Rattle.frozen_state.specs.declared.frozen.FrozenDomain.{FrozenDomain}
use Rattle.frozen_state.specs.declared.frozen.FrozenFrame.{FrozenFrame}
use Rattle.frozen_state.specs.FrozenState.{Drawn, by_draw, and_more, domain_under, domains_from, owed_under, frame_under, frames_from, frozen_with, frozen_of}
use Rattle.frozen_state.specs.Ranges.{owed_page}

-- Parts of a pair.

abbrev pick : {A B : Type 0} → A → Option (A × B) → A
pick a None = a
pick a (Some pair) = pair.0

abbrev pick_second : {A B : Type 0} → B → Option (A × B) → B
pick_second b None = b
pick_second b (Some pair) = pair.1

firsts : {A B : Type 0} (a c : A) (b d : B) → ◌≡◌ {A = Option (A × B)} (Some (a, b)) (Some (c, d)) → a ≡ c
firsts a c b d is = ap (pick a) is

seconds : {A B : Type 0} (a c : A) (b d : B) → ◌≡◌ {A = Option (A × B)} (Some (a, b)) (Some (c, d)) → b ≡ d
seconds a c b d is = ap (pick_second b) is

-- One, and then more.

record Parts {A : Type 0} (more : Random → Drawn (List A)) (first : Drawn A) (xs : List A) (left : Random) : Type 0 where
  head : A
  between : Random
  tail : List A
  is_first : first ≡ Some (head, between)
  is_more : more between ≡ Some (tail, left)
  same : xs ≡ head ∷ tail

by_more : {A : Type 0} (more : Random → Drawn (List A)) (x : A × Random) (o : Drawn (List A)) → more x.1 ≡ o →
    (xs : List A) (left : Random) →
    option_map {U = List A × Random} (λ (ys : List A × Random). (x.0 ∷ ys.0, ys.1)) o ≡ Some (xs, left) → Parts more (Some x) xs left
by_more more x None e xs left is = absurd cc
by_more more x (Some ys) e xs left is =
    let same = firsts (x.0 ∷ ys.0) xs ys.1 left is in
    let last = seconds (x.0 ∷ ys.0) xs ys.1 left is in
    record {
      head = x.0;
      between = x.1;
      tail = ys.0;
      is_first = refl;
      is_more = subst (λ (l : Random). more x.1 ≡ Some (ys.0, l)) last e;
      same = sym same;
    }

parts_of : {A : Type 0} (more : Random → Drawn (List A)) (first : Drawn A) (xs : List A) (left : Random) →
    and_more more first ≡ Some (xs, left) → Parts more first xs left
parts_of more None xs left is = absurd cc
parts_of more (Some x) xs left is = by_more more x (more x.1) refl xs left is

-- Programs.

abbrev pub EndsFrom : Joint → ℕ → List FrozenDomain → Type 0
EndsFrom j d [] = Unit {0}
EndsFrom j d (x ∷ xs) = (x.violation ≡ slice_index_or j.ended d None) × EndsFrom j (d + 1) xs

pub record DomainsAs (j : Joint) (d : ℕ) (domains : List Domain) (xs : List FrozenDomain) : Type 0 where
  pub count : length xs ≡ length domains
  pub ends : EndsFrom j d xs

domain_ends : (j : Joint) (d : ℕ) (domain : Domain) (o : Option (List ℕ × Random)) (x : FrozenDomain)
    (between : Random) →
    option_map {U = FrozenDomain × Random} (λ (draw : List ℕ × Random). (domain_under j d domain draw.0, draw.1)) o ≡ Some (x, between) →
    x.violation ≡ slice_index_or j.ended d None
unfolding domain_under
domain_ends j d domain None x between is = absurd cc
domain_ends j d domain (Some draw) x between is =
    let same = firsts (domain_under j d domain draw.0) x draw.1 between is in ap (λ (y : FrozenDomain). y.violation) (sym same)

pub domains_as : (j : Joint) (d : ℕ) (domains : List Domain) (ivs : Random) (xs : List FrozenDomain) (left : Random) →
    domains_from j d domains ivs ≡ Some (xs, left) → DomainsAs j d domains xs
unfolding domains_from
domains_as j d [] ivs xs left is =
    let same = firsts [] xs ivs left is in subst (DomainsAs j d []) same (record { count = refl; ends = tt })
domains_as j d (domain ∷ domains) ivs xs left is =
    let parts = parts_of (domains_from j (d + 1) domains) (by_draw (domain_under j d domain) ivs) xs left is in
    let rest = domains_as j (d + 1) domains parts.between parts.tail left parts.is_more in
    subst (DomainsAs j d (domain ∷ domains)) (sym parts.same) (record {
      count = ap suc rest.count;
      ends = (domain_ends j d domain (next_draw ivs) parts.head parts.between parts.is_first, rest.ends);
    })

-- what holds of what ended a program holds of each
pub each_end : (P : ℕ → Option Violation → Type 0) (j : Joint) → ((d : ℕ) → P d (slice_index_or j.ended d None)) →
    (from : ℕ) (xs : List FrozenDomain) → EndsFrom j from xs → (d : ℕ) →
    IfSome (slice_get xs d) (λ x. P (from + d) x.violation)
each_end P j holds from [] ends d = tt
each_end P j holds from (x ∷ xs) ends zero =
    let at : from ≡ from + 0 = omega arith in
    subst (λ (d : ℕ). P d x.violation) at (subst (P from) (sym ends.0) (holds from))
each_end P j holds from (x ∷ xs) ends (suc d) =
    let at : from + 1 + d ≡ from + suc d = omega arith in
    subst (λ (k : ℕ). IfSome (slice_get xs d) (λ y. P k y.violation)) at (each_end P j holds (from + 1) xs ends.1 d)

-- Frames.

abbrev pub OwedFrom : CloakedMemory → ℕ → List FrozenFrame → Type 0
OwedFrom m f [] = Unit {0}
OwedFrom m f (x ∷ xs) = (owed_page x ≡ owed_in m f) × OwedFrom m (f + 1) xs

pub record FramesAs (m : CloakedMemory) (f : ℕ) (ram : List (List ℕ)) (xs : List FrozenFrame) : Type 0 where
  pub count : length xs ≡ length ram
  pub owed : OwedFrom m f xs

owed_draw : (m : CloakedMemory) (q : PageId) (o : Option (List ℕ × Random)) (x : FrozenFrame) (between : Random) →
    option_map {U = FrozenFrame × Random} (λ (draw : List ℕ × Random). (owed_under m q draw.0, draw.1)) o ≡ Some (x, between) →
    owed_page x ≡ Some q
unfolding owed_under
owed_draw m q None x between is = absurd cc
owed_draw m q (Some draw) x between is =
    let same = firsts (owed_under m q draw.0) x draw.1 between is in ap owed_page (sym same)

frame_owed : (m : CloakedMemory) (bytes : List ℕ) (o : Option PageId) (ivs : Random) (x : FrozenFrame)
    (between : Random) → frame_under m bytes o ivs ≡ Some (x, between) → owed_page x ≡ o
frame_owed m bytes None ivs x between is =
    let plain : FrozenFrame = record { bytes = bytes; owed = None } in
    let same = firsts plain x ivs between is in ap owed_page (sym same)
frame_owed m bytes (Some q) ivs x between is = owed_draw m q (next_draw ivs) x between is

pub frames_as : (m : CloakedMemory) (f : ℕ) (ram : List (List ℕ)) (ivs : Random) (xs : List FrozenFrame)
    (left : Random) → frames_from m f ram ivs ≡ Some (xs, left) → FramesAs m f ram xs
unfolding frames_from
frames_as m f [] ivs xs left is =
    let same = firsts [] xs ivs left is in subst (FramesAs m f []) same (record { count = refl; owed = tt })
frames_as m f (bytes ∷ ram) ivs xs left is =
    let parts = parts_of (frames_from m (f + 1) ram) (frame_under m bytes (owed_in m f) ivs) xs left is in
    let rest = frames_as m (f + 1) ram parts.between parts.tail left parts.is_more in
    subst (FramesAs m f (bytes ∷ ram)) (sym parts.same) (record {
      count = ap suc rest.count;
      owed = (frame_owed m bytes (owed_in m f) ivs parts.head parts.between parts.is_first, rest.owed);
    })

-- what holds of what frames are owed holds of each
pub each_owed : (P : Option PageId → Type 0) (m : CloakedMemory) → ((f : ℕ) → P (owed_in m f)) → (from : ℕ)
    (xs : List FrozenFrame) → OwedFrom m from xs → AllByRecursion (λ (x : FrozenFrame). P (owed_page x)) xs
each_owed P m holds from [] owed = tt
each_owed P m holds from (x ∷ xs) owed =
    (subst P (sym owed.0) (holds from), each_owed P m holds (from + 1) xs owed.1)

pub owed_at : (m : CloakedMemory) (from : ℕ) (xs : List FrozenFrame) → OwedFrom m from xs → (f : ℕ) (q : PageId) →
    slice_index_or (map owed_page xs) f None ≡ Some q → owed_in m (from + f) ≡ Some q
owed_at m from [] owed f q is = absurd cc
owed_at m from (x ∷ xs) owed zero q is =
    let at : from ≡ from + 0 = omega arith in
    subst (λ (f : ℕ). owed_in m f ≡ Some q) at (sym owed.0 ∙ is)
owed_at m from (x ∷ xs) owed (suc f) q is =
    let at : from + 1 + f ≡ from + suc f = omega arith in
    subst (λ (k : ℕ). owed_in m k ≡ Some q) at (owed_at m (from + 1) xs owed.1 f q is)

-- The state.

pub record FrozenAs (j : Joint) (steps : ℕ) (f : Frozen) : Type 0 where
  pub domains : List FrozenDomain
  pub frames : List FrozenFrame
  pub is_domains : DomainsAs j 0 j.domains domains
  pub is_frames : FramesAs j.memory 0 j.memory.ram frames
  pub same : f ≡ frozen_with j steps domains frames

by_frames : (j : Joint) (steps : ℕ) (f : Frozen) (domains : List FrozenDomain) (left : Random)
    (o : Drawn (List FrozenFrame)) → frames_from j.memory 0 j.memory.ram left ≡ o → DomainsAs j 0 j.domains domains →
    option_map (λ (frames : List FrozenFrame × Random). frozen_with j steps domains frames.0) o ≡ Some f →
    FrozenAs j steps f
by_frames j steps f domains left None e told is = absurd cc
by_frames j steps f domains left (Some frames) e told is =
    let same : frozen_with j steps domains frames.0 ≡ f = cc in
    record {
      domains = domains;
      frames = frames.0;
      is_domains = told;
      is_frames = frames_as j.memory 0 j.memory.ram left frames.0 frames.1 e;
      same = sym same;
    }

by_domains : (j : Joint) (steps : ℕ) (ivs : Random) (f : Frozen) (o : Drawn (List FrozenDomain)) →
    domains_from j 0 j.domains ivs ≡ o →
    option_and_then (λ (domains : List FrozenDomain × Random).
    option_map (λ (frames : List FrozenFrame × Random). frozen_with j steps domains.0 frames.0)
    (frames_from j.memory 0 j.memory.ram domains.1)) o ≡ Some f → FrozenAs j steps f
by_domains j steps ivs f None e is = absurd cc
by_domains j steps ivs f (Some domains) e is =
    by_frames j steps f domains.0 domains.1 (frames_from j.memory 0 j.memory.ram domains.1) refl
    (domains_as j 0 j.domains ivs domains.0 domains.1 e) is

pub frozen_as : (j : Joint) (steps : ℕ) (ivs : Random) (f : Frozen) → frozen_of j steps ivs ≡ Some f →
    FrozenAs j steps f
unfolding frozen_of
frozen_as j steps ivs f is = by_domains j steps ivs f (domains_from j 0 j.domains ivs) refl is
