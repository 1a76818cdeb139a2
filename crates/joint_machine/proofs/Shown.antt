-- What a frozen state shows of the machine that it is of, over plain variables.
use Rattle.std.proofs.Common.{◌≡◌, ◌≢◌, ◌∙◌, ◌⊎◌, ◌<◌, ◌+◌, ℕ, zero, suc, Bool, List, [], ◌∷◌, ◌++◌, length, map, slice_get, slice_index_or, Option, Some, None, refl, ap, sym, subst, arith, zero-add, inl, inr, if◌then◌else◌}
use Rattle.std.specs.Prelude.{option_map, option_and_then}
use Rattle.std.specs.List.{flat_map}
use Rattle.cloak_base.proofs.Pages.{same_page_tells}
use Rattle.cloak_base.specs.Random.{Random, next_draw}
use Rattle.cloak_base.specs.declared.names.Meta.{Meta}
use Rattle.cloak_base.specs.declared.names.PageId.{PageId}
use Rattle.cloak_model.specs.Cloaking.{CloakedMemory, owed_in}
use Rattle.cloak_model.specs.DomainState.{Domain}
use Rattle.cloak_model.specs.Ledger.{Ledger}
use Rattle.cloak_model.specs.Opening.{numbers_below}
use Rattle.cloak_model.specs.Parts.{Joint}
use Rattle.frozen_state.specs.FrozenState.{Drawn, and_more, by_draw, domain_under, domains_from, frame_under, frames_from, frozen_of, frozen_with, hart_with, meta_for, owed_under, page_named, page_with, pages_of_domains, pages_of_resource, pages_of_resources, recorded_of}
use Rattle.frozen_state.specs.declared.frozen.Frozen.{Frozen}
use Rattle.frozen_state.specs.declared.frozen.FrozenDomain.{FrozenDomain}
use Rattle.frozen_state.specs.declared.frozen.FrozenFrame.{FrozenFrame}
use Rattle.frozen_state.specs.declared.frozen.FrozenPage.{FrozenPage}
use Rattle.cloak_pager.proofs.Pages.{same_or_not}
use Rattle.joint_machine.specs.Freezing.{page_known}
use Rattle.joint_machine.specs.Thawing.{meta_among}
use Rattle.joint_machine.proofs.Freezes.{frame_showing}
use Rattle.std.proofs.lemmas.Option.{same_Some}

-- What was drawn.

pub same_drawn : {A : Type 0} (x y : A) (s t : Random) → ◌≡◌ {A = Option (A × Random)} (Some (x, s)) (Some (y, t)) → (x ≡ y) × (s ≡ t)
same_drawn {A} x y s t is =
    let one : A × Random = (x, s) in
    let other : A × Random = (y, t) in
    let both : one ≡ other = same_Some one other is in
    (ap (λ (p : A × Random). p.0) both, ap (λ (p : A × Random). p.1) both)

-- one and then more
pub record DrewMore {A : Type 0} (more : Random → Drawn (List A)) (first : Drawn A) (xs : List A) (left : Random) :
    Type 0 where
  pub x : A
  pub rest : List A
  pub next : Random
  pub one : first ≡ Some (x, next)
  pub others : more next ≡ Some (rest, left)
  pub are : xs ≡ x ∷ rest

pub drew_more : {A : Type 0} (more : Random → Drawn (List A)) (first : Drawn A) (xs : List A) (left : Random) →
    and_more more first ≡ Some (xs, left) → DrewMore more first xs left
drew_more more None xs left is = absurd (cc)
drew_more {A} more (Some first) xs left is = by_more (more first.1) refl is
  where
    by_more : (d : Drawn (List A)) → more first.1 ≡ d →
        option_map {U = List A × Random} (λ (ys : List A × Random). (first.0 ∷ ys.0, ys.1)) d ≡ Some (xs, left) →
        DrewMore more (Some first) xs left
    by_more None was is = absurd (cc)
    by_more (Some ys) was is =
        let same = same_drawn (first.0 ∷ ys.0) xs ys.1 left is in
        record {
          x = first.0;
          rest = ys.0;
          next = first.1;
          one = refl;
          others = was ∙ ap (λ (s : Random). Some (ys.0, s)) same.1;
          are = sym same.0;
        }

-- made by a draw
pub record DrewOne {A : Type 0} (make : List ℕ → A) (x : A) : Type 0 where
  pub iv : List ℕ
  pub is : x ≡ make iv

pub drew_one : {A : Type 0} (make : List ℕ → A) (ivs left : Random) (x : A) → by_draw make ivs ≡ Some (x, left) →
    DrewOne make x
drew_one {A} make ivs left x is = by_next (next_draw ivs) is
  where
    by_next : (d : Option (List ℕ × Random)) →
        option_map {U = A × Random} (λ (draw : List ℕ × Random). (make draw.0, draw.1)) d ≡ Some (x, left) → DrewOne make x
    by_next None is = absurd (cc)
    by_next (Some draw) is = record { iv = draw.0; is = sym (same_drawn (make draw.0) x draw.1 left is).0 }

-- Frames.

-- a frame that is owed this is shown so
abbrev pub IsFrameShown : CloakedMemory → List ℕ → Option PageId → FrozenFrame → Type 0
IsFrameShown m bytes None x = x ≡ frame_showing bytes
IsFrameShown m bytes (Some q) x = DrewOne (owed_under m q) x

frame_shown : (m : CloakedMemory) (bytes : List ℕ) (owed : Option PageId) (ivs left : Random) (x : FrozenFrame) →
    frame_under m bytes owed ivs ≡ Some (x, left) → IsFrameShown m bytes owed x
frame_shown m bytes None ivs left x is =
    sym (same_drawn (frame_showing bytes) x ivs left is).0
frame_shown m bytes (Some q) ivs left x is = drew_one (owed_under m q) ivs left x is

-- each frame of a list is shown
pub record AreShown (m : CloakedMemory) (f : ℕ) (ram : List (List ℕ)) (xs : List FrozenFrame) : Type 0 where
  pub count : length xs ≡ length ram
  pub each : (k : ℕ) (x : FrozenFrame) → slice_get xs k ≡ Some x →
      IsFrameShown m (slice_index_or ram k []) (owed_in m (f + k)) x

pub frames_shown : (m : CloakedMemory) (f : ℕ) (ram : List (List ℕ)) (ivs left : Random) (xs : List FrozenFrame) →
    frames_from m f ram ivs ≡ Some (xs, left) → AreShown m f ram xs
unfolding frames_from
frames_shown m f [] ivs left xs is =
    let none = sym (same_drawn {A = List FrozenFrame} [] xs ivs left is).0 in
    subst (AreShown m f []) (sym none) (record { count = refl; each = λ k x there. absurd (cc) })
frames_shown m f (bytes ∷ ram) ivs left xs is =
    let drew = drew_more (frames_from m (f + 1) ram) (frame_under m bytes (owed_in m f) ivs) xs left is in
    let rest = frames_shown m (f + 1) ram drew.next left drew.rest drew.others in
    let first = frame_shown m bytes (owed_in m f) ivs drew.next drew.x drew.one in
    subst (AreShown m f (bytes ∷ ram)) (sym drew.are) (record {
      count = ap suc rest.count;
      each = cases drew.x drew.rest first rest;
    })
  where
    cases : (y : FrozenFrame) (ys : List FrozenFrame) → IsFrameShown m bytes (owed_in m f) y → AreShown m (f + 1) ram ys →
        (k : ℕ) (x : FrozenFrame) → slice_get (y ∷ ys) k ≡ Some x →
        IsFrameShown m (slice_index_or (bytes ∷ ram) k []) (owed_in m (f + k)) x
    cases y ys first rest zero x there =
        let same : y ≡ x = cc in
        subst (λ (n : ℕ). IsFrameShown m bytes (owed_in m n) x) (let e : f ≡ f + 0 = omega arith in e)
        (subst (λ (z : FrozenFrame). IsFrameShown m bytes (owed_in m f) z) same first)
    cases y ys first rest (suc k) x there =
        subst (λ (n : ℕ). IsFrameShown m (slice_index_or ram k []) (owed_in m n) x)
        (let e : f + 1 + k ≡ f + suc k = omega arith in e) (rest.each k x there)

-- Programs.

-- each program of a list is shown
pub record AreDomainsShown (j : Joint) (d : ℕ) (domains : List Domain) (xs : List FrozenDomain) : Type 0 where
  pub count : length xs ≡ length domains
  pub each : (k : ℕ) (x : FrozenDomain) (domain : Domain) → slice_get xs k ≡ Some x → slice_get domains k ≡ Some domain →
      DrewOne (domain_under j (d + k) domain) x

pub domains_shown : (j : Joint) (d : ℕ) (domains : List Domain) (ivs left : Random) (xs : List FrozenDomain) →
    domains_from j d domains ivs ≡ Some (xs, left) → AreDomainsShown j d domains xs
unfolding domains_from
domains_shown j d [] ivs left xs is =
    let none = sym (same_drawn {A = List FrozenDomain} [] xs ivs left is).0 in
    subst (AreDomainsShown j d []) (sym none) (record { count = refl; each = λ k x domain there. absurd (cc) })
domains_shown j d (domain ∷ domains) ivs left xs is =
    let drew = drew_more (domains_from j (d + 1) domains) (by_draw (domain_under j d domain) ivs) xs left is in
    let rest = domains_shown j (d + 1) domains drew.next left drew.rest drew.others in
    let first = drew_one (domain_under j d domain) ivs drew.next drew.x drew.one in
    subst (AreDomainsShown j d (domain ∷ domains)) (sym drew.are) (record {
      count = ap suc rest.count;
      each = cases drew.x drew.rest first rest;
    })
  where
    cases : (y : FrozenDomain) (ys : List FrozenDomain) → DrewOne (domain_under j d domain) y →
        AreDomainsShown j (d + 1) domains ys → (k : ℕ) (x : FrozenDomain) (o : Domain) → slice_get (y ∷ ys) k ≡ Some x →
        slice_get (domain ∷ domains) k ≡ Some o → DrewOne (domain_under j (d + k) o) x
    cases y ys first rest zero x o there is =
        let same : y ≡ x = cc in
        let own : domain ≡ o = cc in
        subst (λ (n : ℕ). DrewOne (domain_under j n o) x) (let e : d ≡ d + 0 = omega arith in e)
        (subst (λ (z : FrozenDomain). DrewOne (domain_under j d o) z) same
        (subst (λ (z : Domain). DrewOne (domain_under j d z) y) own first))
    cases y ys first rest (suc k) x o there is =
        subst (λ (n : ℕ). DrewOne (domain_under j n o) x)
        (let e : d + 1 + k ≡ d + suc k = omega arith in e) (rest.each k x o there is)

-- The whole.

pub record ShowsAll (j : Joint) (f : Frozen) : Type 0 where
  pub domains : AreDomainsShown j 0 j.domains f.domains
  pub frames : AreShown j.memory 0 j.memory.ram f.frames
  pub draws : f.draws ≡ j.memory.ledger.draws
  pub refused : f.refused ≡ j.refused
  pub harts : f.harts ≡ map (hart_with j.memory.marks) j.harts
  pub disk : f.disk ≡ j.disk
  pub recorded : f.recorded ≡ recorded_of j.memory.ledger (pages_of_domains (length j.domains))

shows_with : (j : Joint) (f : Frozen) (steps : ℕ) (domains : List FrozenDomain) (frames : List FrozenFrame) →
    frozen_with j steps domains frames ≡ f → AreDomainsShown j 0 j.domains domains →
    AreShown j.memory 0 j.memory.ram frames → ShowsAll j f
unfolding frozen_with
shows_with j f steps domains frames is shown seen = record {
  domains = subst (AreDomainsShown j 0 j.domains) (ap (λ (x : Frozen). x.domains) is) shown;
  frames = subst (AreShown j.memory 0 j.memory.ram) (ap (λ (x : Frozen). x.frames) is) seen;
  draws = sym (ap (λ (x : Frozen). x.draws) is);
  refused = sym (ap (λ (x : Frozen). x.refused) is);
  harts = sym (ap (λ (x : Frozen). x.harts) is);
  disk = sym (ap (λ (x : Frozen). x.disk) is);
  recorded = sym (ap (λ (x : Frozen). x.recorded) is);
}

pub shows_all : (j : Joint) (f : Frozen) (steps : ℕ) (ivs : Random) → frozen_of j steps ivs ≡ Some f → ShowsAll j f
unfolding frozen_of
shows_all j f steps ivs is = by_domains (domains_from j 0 j.domains ivs) refl is
  where
    by_frames : (domains : List FrozenDomain) → AreDomainsShown j 0 j.domains domains → (left : Random) →
        (d : Drawn (List FrozenFrame)) → frames_from j.memory 0 j.memory.ram left ≡ d →
        option_map (λ (frames : List FrozenFrame × Random). frozen_with j steps domains frames.0) d ≡ Some f → ShowsAll j f
    by_frames domains shown left None was is = absurd (cc)
    by_frames domains shown left (Some frames) was is =
        shows_with j f steps domains frames.0 (let e : frozen_with j steps domains frames.0 ≡ f = cc in e) shown
        (frames_shown j.memory 0 j.memory.ram left frames.1 frames.0 was)

    by_domains : (d : Drawn (List FrozenDomain)) → domains_from j 0 j.domains ivs ≡ d →
        option_and_then (λ (domains : List FrozenDomain × Random).
        option_map (λ (frames : List FrozenFrame × Random). frozen_with j steps domains.0 frames.0) (frames_from j.memory 0 j.memory.ram domains.1)) d ≡ Some f →
        ShowsAll j f
    by_domains None was is = absurd (cc)
    by_domains (Some domains) was is =
        by_frames domains.0 (domains_shown j 0 j.domains ivs domains.1 domains.0 was) domains.1
        (frames_from j.memory 0 j.memory.ram domains.1) refl is

pub frame_seen : (j : Joint) (f : Frozen) → ShowsAll j f → (k : ℕ) (x : FrozenFrame) → slice_get f.frames k ≡ Some x →
    IsFrameShown j.memory (slice_index_or j.memory.ram k []) (owed_in j.memory k) x
frame_seen j f all k x there =
    subst (λ (n : ℕ). IsFrameShown j.memory (slice_index_or j.memory.ram k []) (owed_in j.memory n) x) (zero-add k)
    (all.frames.each k x there)

pub domain_seen : (j : Joint) (f : Frozen) → ShowsAll j f → (k : ℕ) (x : FrozenDomain) (domain : Domain) →
    slice_get f.domains k ≡ Some x → slice_get j.domains k ≡ Some domain → DrewOne (domain_under j k domain) x
domain_seen j f all k x domain there is =
    subst (λ (n : ℕ). DrewOne (domain_under j n domain) x) (zero-add k) (all.domains.each k x domain there is)

-- Recorded pages.

-- what is recorded of a page, as metadata
abbrev pub meta_of_record : Option (List ℕ) → Option (List ℕ) → Option Meta
meta_of_record None iv = None
meta_of_record (Some c) None = None
meta_of_record (Some c) (Some iv) = Some (meta_for iv c)

abbrev pub meta_in : Ledger → PageId → Option Meta
meta_in l q = meta_of_record (l.recorded q) (l.iv q)

-- a thing is one of a list
abbrev pub Among : {A : Type 0} → A → List A → Type 0
Among x [] = ⊥
Among x (y ∷ ys) = (y ≡ x) ⊎ Among x ys

among_front : {A : Type 0} (x : A) (xs ys : List A) → Among x xs → Among x (xs ++ ys)
among_front x [] ys is = absurd is
among_front x (z ∷ xs) ys (inl same) = inl same
among_front x (z ∷ xs) ys (inr rest) = inr (among_front x xs ys rest)

among_back : {A : Type 0} (x : A) (xs ys : List A) → Among x ys → Among x (xs ++ ys)
among_back x [] ys is = is
among_back x (z ∷ xs) ys is = inr (among_back x xs ys is)

among_map : {A B : Type 0} (g : A → B) (x : A) (xs : List A) → Among x xs → Among (g x) (map g xs)
among_map g x [] is = absurd is
among_map g x (z ∷ xs) (inl same) = inl (ap g same)
among_map g x (z ∷ xs) (inr rest) = inr (among_map g x xs rest)

among_flat : {A B : Type 0} (g : A → List B) (x : A) (y : B) (xs : List A) → Among x xs → Among y (g x) →
    Among y (flat_map g xs)
among_flat g x y [] is there = absurd is
among_flat {A} g x y (z ∷ xs) (inl same) there =
    among_front y (g z) (flat_map g xs) (subst (λ (w : A). Among y (g w)) (sym same) there)
among_flat g x y (z ∷ xs) (inr rest) there = among_back y (g z) (flat_map g xs) (among_flat g x y xs rest there)

among_below : (n k : ℕ) → k < n → Among k (numbers_below n)
among_below zero k low = absurd (omega (arith, low))
among_below (suc n) k low = elim (same_or_not n k) [
  | inl same ↦ among_back k (numbers_below n) (n ∷ []) (inl same)
  | inr other ↦ among_front k (numbers_below n) (n ∷ []) (among_below n k (omega (arith, low, other)))
]

among_resource : (d r n p : ℕ) → p < n → Among (page_named d r p) (pages_of_resource d r n)
unfolding pages_of_resource
among_resource d r n p low = among_map (page_named d r) p (numbers_below n) (among_below n p low)

among_resources : (d r n p : ℕ) → r < n → p < 1024 → Among (page_named d r p) (pages_of_resources d n)
unfolding pages_of_resources
among_resources d r n p low few =
    among_flat (λ (k : ℕ). pages_of_resource d k 1024) r (page_named d r p) (numbers_below n) (among_below n r low)
    (among_resource d r 1024 p few)

among_all : (n : ℕ) (q : PageId) → q.domain < n → q.resource < 16 → q.page < 1024 → Among q (pages_of_domains n)
unfolding pages_of_domains
among_all n q low resource page =
    among_flat (λ (k : ℕ). pages_of_resources k 16) q.domain q (numbers_below n) (among_below n q.domain low)
    (among_resources q.domain q.resource 16 q.page resource page)

page_as : (q : PageId) (recorded iv : Option (List ℕ)) → page_with q recorded iv ≡ page_known q (meta_of_record recorded iv)
page_as q None None = refl
page_as q None (Some iv) = refl
page_as q (Some c) None = refl
page_as q (Some c) (Some iv) = refl

-- what a list has of a page
absent : (l : Ledger) (pages : List PageId) (q : PageId) → meta_in l q ≡ None → meta_among (recorded_of l pages) q ≡ None
absent l [] q none = refl
absent l (p ∷ pages) q none =
    ap (λ (x : List FrozenPage). meta_among (x ++ recorded_of l pages) q) (page_as p (l.recorded p) (l.iv p))
    ∙ by_known (meta_in l p) refl (absent l pages q none)
  where
    by_known : (t : Option Meta) → meta_in l p ≡ t → meta_among (recorded_of l pages) q ≡ None →
        meta_among (page_known p t ++ recorded_of l pages) q ≡ None
    by_known None is rest = rest
    by_known (Some t) is rest = elim (same_page_tells q p) [
      | inl same ↦ absurd (let no : Some t ≡ None = sym is ∙ (ap (meta_in l) (sym same.1) ∙ none) in cc)
      | inr other ↦ ap (λ (b : Bool). if b then Some t else meta_among (recorded_of l pages) q) other.0 ∙ rest
    ]

present : (l : Ledger) (pages : List PageId) (q : PageId) (t : Meta) → Among q pages → meta_in l q ≡ Some t →
    meta_among (recorded_of l pages) q ≡ Some t
present l [] q t is known = absurd is
present l (p ∷ pages) q t is known =
    ap (λ (x : List FrozenPage). meta_among (x ++ recorded_of l pages) q) (page_as p (l.recorded p) (l.iv p))
    ∙ by_known (meta_in l p) refl is (λ later. present l pages q t later known)
  where
    later : q ≢ p → (p ≡ q) ⊎ Among q pages → Among q pages
    later n (inl same) = absurd (n (sym same))
    later n (inr rest) = rest

    by_known : (u : Option Meta) → meta_in l p ≡ u → (p ≡ q) ⊎ Among q pages →
        (Among q pages → meta_among (recorded_of l pages) q ≡ Some t) →
        meta_among (page_known p u ++ recorded_of l pages) q ≡ Some t
    by_known None was (inl same) more = absurd (let no : None ≡ Some t = sym was ∙ (ap (meta_in l) same ∙ known) in cc)
    by_known None was (inr rest) more = more rest
    by_known (Some u) was among more = elim (same_page_tells q p) [
      | inl same ↦
          ap (λ (b : Bool). if b then Some u else meta_among (recorded_of l pages) q) same.0
          ∙ (sym was ∙ (ap (meta_in l) (sym same.1) ∙ known))
      | inr other ↦
          ap (λ (b : Bool). if b then Some u else meta_among (recorded_of l pages) q) other.0
          ∙ more (later other.1 among)
    ]

-- all that is recorded of pages that there are is shown
pub recorded_shown : (l : Ledger) (n : ℕ) (q : PageId) →
    ((t : Meta) → meta_in l q ≡ Some t → (q.domain < n) × (q.resource < 16) × (q.page < 1024)) →
    meta_among (recorded_of l (pages_of_domains n)) q ≡ meta_in l q
recorded_shown l n q inside =
    by_known (meta_in l q) refl
  where
    by_known : (t : Option Meta) → meta_in l q ≡ t → meta_among (recorded_of l (pages_of_domains n)) q ≡ meta_in l q
    by_known None is = absent l (pages_of_domains n) q is ∙ sym is
    by_known (Some t) is =
        let low = inside t is in
        present l (pages_of_domains n) q t (among_all n q low.0 low.1 low.2) is ∙ sym is
