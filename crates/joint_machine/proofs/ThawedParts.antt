-- Harts, page tables, reservations and programs that are thawed one after another, over plain variables.
use Rattle.std.proofs.Common.{◌≡◌, ◌≢◌, ◌∙◌, ◌<◌, ◌≤◌, ◌+◌, ℕ, zero, suc, Bool, true, false, List, [], ◌∷◌, ◌++◌, length, take, map, replicate, slice_get, slice_index_or, slice_set, Option, Some, None, refl, ap, sym, subst, arith, append-nil, inl, inr, if◌then◌else◌}
use Rattle.std.specs.Prelude.{is_some, IfSome, IsSomeAnd}
use Rattle.std.specs.List.{flat_map}
use Rattle.std.proofs.lemmas.Bool.{cases_lt}
use Rattle.std.proofs.lemmas.Option.{slice_get_past, slice_get_within}
use Rattle.std.proofs.lemmas.Bool.Decides.{Decides-and, Decides-eqb, Decides-like}
use Rattle.std.specs.Bool.{Decides}
use Rattle.std.proofs.lemmas.Grind.{flat_map-append}
use Rattle.std.proofs.lemmas.List.{ext_get_or, get_or-map, get_or-set_same, get_or-set_other, get_or_past, length-append, length-map, length-replicate, length-set, length_push}
use Rattle.cloak_base.proofs.Pages.{is_of-other, told}
use Rattle.cloak_base.specs.declared.causes.Violation.{Violation}
use Rattle.cloak_base.specs.declared.names.Mode.TheVariants as modes
use Rattle.cloak_base.specs.declared.names.PageId.{PageId}
use Rattle.cloak_base.specs.declared.names.SpaceId.{SpaceId}
use Rattle.cloak_model.specs.Contexts.{same_space, with_space}
use Rattle.cloak_model.specs.Csr as csr
use Rattle.cloak_model.specs.DomainState as program
use Rattle.cloak_model.specs.Hart.{Hart}
use Rattle.cloak_model.specs.Ledger.{Keys}
use Rattle.cloak_model.specs.Memory.{with_mark}
use Rattle.cloak_model.specs.Parts.{Joint}
use Rattle.cloak_model.specs.Resources.{resource_at}
use Rattle.cloak_model.specs.declared.resource.Resource.{Resource}
use Rattle.frozen_state.specs.FrozenState.{domain_bytes, hart_with, maybe_word, meta_bytes, violation_bytes}
use Rattle.frozen_state.specs.Ranges.{owed_page}
use Rattle.frozen_state.specs.Refusing.{IsProgramOf, LiesIn, page_offset}
use Rattle.frozen_state.specs.Thawing.{IsHart}
use Rattle.frozen_state.specs.declared.frozen.Frozen.{Frozen}
use Rattle.frozen_state.specs.declared.frozen.FrozenDomain.{FrozenDomain}
use Rattle.frozen_state.specs.declared.frozen.FrozenFrame.{FrozenFrame}
use Rattle.frozen_state.specs.declared.frozen.FrozenHart.{FrozenHart}
use Rattle.cloak_pager.specs.State.{PagerState, IsWholePager, page_of, right_at}
use Rattle.cloak_pager.specs.declared.frame_right.FrameRight.TheVariants.{Spent}
use Rattle.cloak_pager.proofs.Pages.{same_or_not}
use Rattle.hypercalls.specs.declared.domain.Domain.{Domain}
use Rattle.hypercalls.specs.Standing.{control_of}
use Rattle.joint_machine.specs.Programs.{AreFreeUnused, AreNumbered}
use Rattle.joint_machine.specs.Thawing.{AreNumberedHarts, AreThawedDomains, IsThawedDomain, IsThawedPager, number_of_entry, root_shown, violation_shown}
use Rattle.joint_machine.proofs.Shown.{ShowsAll}
use Rattle.joint_machine.proofs.Started.{get_pushed}
use Rattle.joint_machine.proofs.Thaws.{get_one, get_there, some_there, take_next, thawed_holds}
use Rattle.resource_map.proofs.Lists.{All-slice_get}

-- Harts.

pub hart_thawed : (marks : List (Option ℕ)) (h : Hart) (from : FrozenHart) (number : ℕ) (csrs : csr.Csrs) →
    IsHart number h → hart_with marks h ≡ from →
    ((cs : csr.Csrs) → map number_of_entry cs ≡ csr.csr_numbers → csr.csr_words cs ≡ from.csrs → csrs ≡ cs) →
    record { regs = from.regs; csrs = csrs; mode = from.mode; pc = from.pc; timer = from.timer; inside = from.inside; id = number } ≡ h
unfolding hart_with
hart_thawed marks h from number csrs is shown thaws =
    let own : csrs ≡ h.csrs = thaws h.csrs is.csrs (ap (λ (x : FrozenHart). x.csrs) shown) in
    λ i. record {
      regs = sym (ap (λ (x : FrozenHart). x.regs) shown) i;
      csrs = own i;
      mode = sym (ap (λ (x : FrozenHart). x.mode) shown) i;
      pc = sym (ap (λ (x : FrozenHart). x.pc) shown) i;
      timer = sym (ap (λ (x : FrozenHart). x.timer) shown) i;
      inside = sym (ap (λ (x : FrozenHart). x.inside) shown) i;
      id = sym is.numbered i;
    }

-- one of which another was made
pub record MadeOf {A B : Type 0} (g : A → B) (xs : List A) (k : ℕ) (y : B) : Type 0 where
  pub x : A
  pub there : slice_get xs k ≡ Some x
  pub is : g x ≡ y

made_of : {A B : Type 0} (g : A → B) (xs : List A) (k : ℕ) (y : B) → slice_get (map g xs) k ≡ Some y → MadeOf g xs k y
made_of g [] k y at = absurd (cc)
made_of g (x ∷ xs) zero y at = record { x = x; there = refl; is = (let e : g x ≡ y = cc in e) }
made_of g (x ∷ xs) (suc k) y at =
    let rest = made_of g xs k y at in record { x = rest.x; there = rest.there; is = rest.is }

pub record HartsFrom (from : List FrozenHart) (harts : List Hart) (i : ℕ) : Type 0 where
  pub filled : length harts ≡ i
  pub thaws : (marks : List (Option ℕ)) (hs : List Hart) → AreNumberedHarts hs → map (hart_with marks) hs ≡ from →
      harts ≡ take i hs

pub harts_none : (from : List FrozenHart) (harts : List Hart) → harts ≡ [] → HartsFrom from harts 0
harts_none from harts empty = record { filled = ap length empty; thaws = λ marks hs numbered is. empty }

pub harts_next : (from : List FrozenHart) (harts harts' : List Hart) (i : ℕ) (x : FrozenHart) (h : Hart) →
    HartsFrom from harts i → slice_get from i ≡ Some x → harts' ≡ harts ++ h ∷ [] →
    ((marks : List (Option ℕ)) (o : Hart) → IsHart i o → hart_with marks o ≡ x → h ≡ o) → HartsFrom from harts' (i + 1)
harts_next from harts harts' i x h so_far is pushed thaws = record {
  filled = ap length pushed ∙ (let a = length_push harts h in let b = so_far.filled in omega (arith, a, b));
  thaws = λ marks hs numbered shown.
      let made = made_of (hart_with marks) hs i x (ap (λ (l : List FrozenHart). slice_get l i) shown ∙ is) in
      let place : IsHart i made.x =
      subst (λ (o : Option Hart). IfSome o (IsHart i)) made.there (numbered i) in
      pushed
      ∙ (ap (λ (l : List Hart). l ++ h ∷ []) (so_far.thaws marks hs numbered shown)
      ∙ (ap (λ (o : Hart). take i hs ++ o ∷ []) (thaws marks made.x place made.is) ∙ sym (take_next hs i made.x made.there)));
}

pub harts_all : (from : List FrozenHart) (harts : List Hart) (i : ℕ) → HartsFrom from harts i → i ≡ length from →
    (marks : List (Option ℕ)) (hs : List Hart) → AreNumberedHarts hs → map (hart_with marks) hs ≡ from → harts ≡ hs
harts_all from harts i so_far end marks hs numbered shown =
    so_far.thaws marks hs numbered shown
    ∙ take_whole i hs (end ∙ (ap length (sym shown) ∙ length-map hs (hart_with marks)))
  where
    take_whole : {A : Type 0} (i : ℕ) (xs : List A) → i ≡ length xs → take i xs ≡ xs
    take_whole i [] is = ap (λ (k : ℕ). take k []) is
    take_whole zero (x ∷ xs) is = absurd (omega (arith, is))
    take_whole {A} (suc i) (x ∷ xs) is = ap (λ (l : List A). x ∷ l) (take_whole i xs (omega (arith, is)))

-- Reservations.

pub record MarksFrom (from : List FrozenHart) (marks : List (Option ℕ)) (i : ℕ) : Type 0 where
  pub count : length marks ≡ length from
  pub below : (k : ℕ) (h : FrozenHart) → k < i → slice_get from k ≡ Some h → slice_index_or marks k None ≡ h.mark

pub marks_next : (from : List FrozenHart) (marks marks' : List (Option ℕ)) (i : ℕ) (h : FrozenHart) →
    MarksFrom from marks i → slice_get from i ≡ Some h → marks' ≡ with_mark i h.mark marks → MarksFrom from marks' (i + 1)
marks_next from marks marks' i h so_far is set = record {
  count = ap length set ∙ (length-set marks i h.mark ∙ so_far.count);
  below = λ k x low there.
      ap (λ (l : List (Option ℕ)). slice_index_or l k None) set ∙ elim (same_or_not k i) [
        | inl same ↦
            let own : h ≡ x =
            get_one from i h x is (subst (λ (n : ℕ). slice_get from n ≡ Some x) same there) in
            ap (λ (n : ℕ). slice_index_or (slice_set marks i h.mark) n None) same
            ∙ (get_or-set_same marks i h.mark None (let a = slice_get_within from i h is in let c = so_far.count in omega (arith, a, c))
            ∙ ap (λ (o : FrozenHart). o.mark) own)
        | inr other ↦ get_or-set_other marks i k h.mark None other ∙ so_far.below k x (omega (arith, low, other)) there
      ];
}

pub marks_all : (from : List FrozenHart) (marks : List (Option ℕ)) (i : ℕ) → MarksFrom from marks i → length from ≤ i →
    marks ≡ map (λ (h : FrozenHart). h.mark) from
marks_all from marks i so_far past =
    ext_get_or None marks (map (λ (h : FrozenHart). h.mark) from)
    (so_far.count ∙ sym (length-map from (λ (h : FrozenHart). h.mark)))
    (λ k low.
    let inside : k < length from = (let c = so_far.count in omega (arith, low, c)) in
    let first = zero_hart in
    let there = get_there from k first inside in
    so_far.below k (slice_index_or from k first) (omega (arith, inside, past)) there
    ∙ sym (get_or-map (λ (h : FrozenHart). h.mark) from k first None inside))
  where
    zero_hart : FrozenHart
    zero_hart = record { mode = modes.S; pc = 0; timer = 0; inside = None; regs = []; csrs = []; mark = None }

-- those of a machine are the ones that are shown
pub marks_shown : (j : Joint) (f : Frozen) → ShowsAll j f → AreNumberedHarts j.harts →
    length j.memory.marks ≡ length j.harts → map (λ (h : FrozenHart). h.mark) f.harts ≡ j.memory.marks
unfolding hart_with
marks_shown j f all numbered count =
    let marks = j.memory.marks in
    ap (map (λ (h : FrozenHart). h.mark)) all.harts
    ∙ ext_get_or None (map (λ (h : FrozenHart). h.mark) (map (hart_with marks) j.harts)) marks
    (length-map (map (hart_with marks) j.harts) (λ (h : FrozenHart). h.mark) ∙ (length-map j.harts (hart_with marks) ∙ sym count))
    (λ k low. mark_at marks j.harts k numbered (ext_low marks j.harts k low))
  where
    ext_low : (marks : List (Option ℕ)) (hs : List Hart) (k : ℕ) →
        k < length (map (λ (h : FrozenHart). h.mark) (map (hart_with marks) hs)) → k < length hs
    ext_low marks hs k low =
        let a = length-map (map (hart_with marks) hs) (λ (h : FrozenHart). h.mark) in
        let b = length-map hs (hart_with marks) in
        omega (arith, low, a, b)

    by_id : (marks : List (Option ℕ)) (h : Hart) (k : ℕ) → h.id ≡ k → (hart_with marks h).mark ≡ slice_index_or marks k None
    by_id marks h k is = ap (λ (n : ℕ). slice_index_or marks n None) is

    mark_of_each : (marks : List (Option ℕ)) (hs : List Hart) (n k : ℕ) (h : Hart) → slice_get hs k ≡ Some h →
        slice_index_or (map (λ (x : FrozenHart). x.mark) (map (hart_with marks) hs)) k None ≡ (hart_with marks h).mark
    mark_of_each marks [] n k h is = absurd (cc)
    mark_of_each marks (x ∷ hs) n zero h is = ap (λ (o : Hart). (hart_with marks o).mark) (let e : x ≡ h = cc in e)
    mark_of_each marks (x ∷ hs) n (suc k) h is = mark_of_each marks hs n k h is

    numbered_at : (hs : List Hart) (k : ℕ) (h : Hart) → AreNumberedHarts hs → slice_get hs k ≡ Some h → h.id ≡ k
    numbered_at hs k h numbered is = (subst (λ (o : Option Hart). IfSome o (IsHart k)) is (numbered k)).numbered

    there_is : {A : Type 0} (xs : List A) (k : ℕ) → k < length xs → (x : A) × (slice_get xs k ≡ Some x)
    there_is [] k low = absurd (omega (arith, low))
    there_is (x ∷ xs) zero low = (x, refl)
    there_is (x ∷ xs) (suc k) low = there_is xs k (omega (arith, low))

    mark_at : (marks : List (Option ℕ)) (hs : List Hart) (k : ℕ) → AreNumberedHarts hs → k < length hs →
        slice_index_or (map (λ (h : FrozenHart). h.mark) (map (hart_with marks) hs)) k None ≡ slice_index_or marks k None
    mark_at marks hs k numbered low =
        let at = there_is hs k low in
        mark_of_each marks hs 0 k at.0 at.1 ∙ by_id marks at.0 k (numbered_at hs k at.0 numbered at.1)

-- Page tables.

-- of a domain the page tables of the first spaces are recorded
pub record PutsRoots (from : List (Option ℕ)) (domain : ℕ) (old now : SpaceId → Option ℕ) (n : ℕ) : Type 0 where
  pub below : (s : SpaceId) → s.domain ≡ domain → s.number < n → now s ≡ slice_index_or from s.number None
  pub above : (s : SpaceId) → s.domain ≡ domain → n ≤ s.number → now s ≡ None
  pub others : (s : SpaceId) → s.domain ≢ domain → now s ≡ old s

space_at : (s : SpaceId) (d n : ℕ) → s.domain ≡ d → s.number ≡ n → s ≡ record { domain = d; number = n }
space_at s d n domain number = λ i. record { domain = domain i; number = number i }

space_decides : (s t : SpaceId) → Decides (same_space s t) (s ≡ t)
space_decides s t =
    Decides-like _
    (λ e. space_at s t.domain t.number e.0 e.1)
    (λ e. (ap (λ (x : SpaceId). x.domain) e, ap (λ (x : SpaceId). x.number) e))
    (Decides-and _ _ (Decides-eqb s.domain t.domain) (Decides-eqb s.number t.number))

with_space-same : {A : Type 0} (m : SpaceId → A) (s : SpaceId) (v : A) → with_space m s v s ≡ v
with_space-same m s v = ap (λ (b : Bool). if b then v else m s) ((space_decides s s).1 refl)

with_space-other : {A : Type 0} (m : SpaceId → A) (s : SpaceId) (v : A) (t : SpaceId) → t ≢ s → with_space m s v t ≡ m t
with_space-other m s v t other = elim (told (same_space t s) (space_decides t s)) [
  | inl same ↦ absurd (other same.1)
  | inr away ↦ ap (λ (b : Bool). if b then v else m t) away.0
]

pub puts_next : (from : List (Option ℕ)) (domain : ℕ) (old now new : SpaceId → Option ℕ) (n : ℕ) (x : Option ℕ) →
    PutsRoots from domain old now n → x ≡ slice_index_or from n None →
    ((s : SpaceId) → new s ≡ with_space now (record { domain = domain; number = n }) x s) →
    PutsRoots from domain old new (n + 1)
puts_next from domain old now new n x so_far is set = record {
  below = λ s here low. elim (same_or_not s.number n) [
    | inl same ↦
        ap new (space_at s domain n here same)
        ∙ (set (record { domain = domain; number = n })
        ∙ (with_space-same now (record { domain = domain; number = n }) x
        ∙ (is ∙ ap (λ (k : ℕ). slice_index_or from k None) (sym same))))
    | inr other ↦
        set s
        ∙ (with_space-other now (record { domain = domain; number = n }) x s (λ e. other (ap (λ (t : SpaceId). t.number) e))
        ∙ so_far.below s here (omega (arith, low, other)))
  ];
  above = λ s here high.
      set s
      ∙ (with_space-other now (record { domain = domain; number = n }) x s
      (λ e. let same = ap (λ (t : SpaceId). t.number) e in omega (arith, high, same))
      ∙ so_far.above s here (omega (arith, high)));
  others = λ s away.
      set s
      ∙ (with_space-other now (record { domain = domain; number = n }) x s (λ e. away (ap (λ (t : SpaceId). t.domain) e))
      ∙ so_far.others s away);
}

pub puts_all : (from : List (Option ℕ)) (domain : ℕ) (old now : SpaceId → Option ℕ) (n : ℕ) →
    PutsRoots from domain old now n → length from ≤ n → (s : SpaceId) → s.domain ≡ domain →
    now s ≡ slice_index_or from s.number None
puts_all from domain old now n so_far past s here = elim (cases_lt s.number n) [
  | inl low ↦ so_far.below s here low
  | inr high ↦ so_far.above s here high ∙ sym (get_or_past from s.number None (omega (arith, past, high)))
]

-- those of the first domains are
pub record RootsFrom (from : List FrozenDomain) (now : SpaceId → Option ℕ) (i : ℕ) : Type 0 where
  pub below : (s : SpaceId) → s.domain < i → now s ≡ root_shown (slice_get from s.domain) s.number
  pub above : (s : SpaceId) → i ≤ s.domain → now s ≡ None

pub roots_put : (from : List FrozenDomain) (now new : SpaceId → Option ℕ) (i : ℕ) (x : FrozenDomain) →
    RootsFrom from now i → slice_get from i ≡ Some x →
    ((s : SpaceId) → s.domain ≡ i → new s ≡ slice_index_or x.roots s.number None) →
    ((s : SpaceId) → s.domain ≢ i → new s ≡ now s) → RootsFrom from new (i + 1)
roots_put from now new i x so_far is own others = record {
  below = λ s low. elim (same_or_not s.domain i) [
    | inl same ↦
        own s same
        ∙ ap (λ (o : Option FrozenDomain). root_shown o s.number) (sym (ap (slice_get from) same ∙ is))
    | inr other ↦ others s other ∙ so_far.below s (omega (arith, low, other))
  ];
  above = λ s high.
      others s (λ e. absurd (omega (arith, high, e))) ∙ so_far.above s (omega (arith, high));
}

pub roots_all : (from : List FrozenDomain) (now : SpaceId → Option ℕ) (i : ℕ) → RootsFrom from now i → length from ≤ i →
    (s : SpaceId) → now s ≡ root_shown (slice_get from s.domain) s.number
roots_all from now i so_far past s = elim (cases_lt s.domain i) [
  | inl low ↦ so_far.below s low
  | inr high ↦
      so_far.above s high
      ∙ ap (λ (o : Option FrozenDomain). root_shown o s.number) (sym (slice_get_past from s.domain (omega (arith, past, high))))
]

-- What ended domains.

pub record EndsFrom (from : List FrozenDomain) (ended : List (Option Violation)) (i : ℕ) : Type 0 where
  pub below : (d : ℕ) → d < i → slice_index_or ended d None ≡ violation_shown (slice_get from d)
  pub above : (d : ℕ) → i ≤ d → slice_index_or ended d None ≡ None

pub ends_next : (from : List FrozenDomain) (ended ended' : List (Option Violation)) (i : ℕ) (x : FrozenDomain) →
    EndsFrom from ended i → slice_get from i ≡ Some x → i < length ended → ended' ≡ slice_set ended i x.violation →
    EndsFrom from ended' (i + 1)
ends_next from ended ended' i x so_far is inside set = record {
  below = λ d low.
      ap (λ (l : List (Option Violation)). slice_index_or l d None) set ∙ elim (same_or_not d i) [
        | inl same ↦
            ap (λ (k : ℕ). slice_index_or (slice_set ended i x.violation) k None) same
            ∙ (get_or-set_same ended i x.violation None inside
            ∙ ap violation_shown (sym (ap (slice_get from) same ∙ is)))
        | inr other ↦ get_or-set_other ended i d x.violation None other ∙ so_far.below d (omega (arith, low, other))
      ];
  above = λ d high.
      ap (λ (l : List (Option Violation)). slice_index_or l d None) set
      ∙ (get_or-set_other ended i d x.violation None (λ e. absurd (omega (arith, high, e)))
      ∙ so_far.above d (omega (arith, high)));
}

pub ends_all : (from : List FrozenDomain) (ended : List (Option Violation)) (i : ℕ) → EndsFrom from ended i →
    length from ≤ i → (d : ℕ) → slice_index_or ended d None ≡ violation_shown (slice_get from d)
ends_all from ended i so_far past d = elim (cases_lt d i) [
  | inl low ↦ so_far.below d low
  | inr high ↦ so_far.above d high ∙ ap violation_shown (sym (slice_get_past from d (omega (arith, past, high))))
]

-- Programs.

pub record DomainsBelow (keys : Keys) (f : Frozen) (xs : List Domain) (i : ℕ) : Type 0 where
  pub filled : length xs ≡ i
  pub each : (d : ℕ) (shown : FrozenDomain) (domain : Domain) → slice_get f.domains d ≡ Some shown →
      slice_get xs d ≡ Some domain → IsThawedDomain keys f d shown domain

pub below_none : (keys : Keys) (f : Frozen) (xs : List Domain) → xs ≡ [] → DomainsBelow keys f xs 0
below_none keys f xs empty =
    let none : DomainsBelow keys f [] 0 = record { filled = refl; each = λ d shown domain there is. absurd (cc) } in
    subst (λ (l : List Domain). DomainsBelow keys f l 0) (sym empty) none

pub below_next : (keys : Keys) (f : Frozen) (xs ys : List Domain) (i : ℕ) (x : FrozenDomain) (y : Domain) →
    DomainsBelow keys f xs i → slice_get f.domains i ≡ Some x → ys ≡ xs ++ y ∷ [] → IsThawedDomain keys f i x y →
    DomainsBelow keys f ys (i + 1)
below_next keys f xs ys i x y so_far is pushed thawed = record {
  filled = ap length pushed ∙ (let a = length_push xs y in let b = so_far.filled in omega (arith, a, b));
  each = λ d shown domain there at.
      elim (get_pushed xs y d domain (subst (λ (l : List Domain). slice_get l d ≡ Some domain) pushed at)) [
        | inl before ↦ so_far.each d shown domain there before
        | inr last ↦
            let here : d ≡ i = last.0 ∙ so_far.filled in
            let own : x ≡ shown =
            get_one f.domains i x shown is (subst (λ (k : ℕ). slice_get f.domains k ≡ Some shown) here there) in
            subst (λ (k : ℕ). IsThawedDomain keys f k shown domain) (sym here)
            (subst (λ (o : FrozenDomain). IsThawedDomain keys f i o domain) own
            (subst (λ (o : Domain). IsThawedDomain keys f i x o) last.1 thawed))
      ];
}

pub below_all : (keys : Keys) (f : Frozen) (xs : List Domain) (i : ℕ) → DomainsBelow keys f xs i → i ≡ length f.domains →
    AreThawedDomains keys f xs
below_all keys f xs i so_far end = record { count = so_far.filled ∙ end; each = so_far.each }

-- each domain below has a program
pub below_programs : (keys : Keys) (f : Frozen) (xs : List Domain) (i : ℕ) → DomainsBelow keys f xs i → (e : ℕ) → e < i →
    IfSome (slice_get f.domains e) (λ (shown : FrozenDomain). (control : program.Control) × IsProgramOf keys f e shown control)
below_programs keys f xs i so_far e low = by_shown (slice_get f.domains e) refl
  where
    by_shown : (o : Option FrozenDomain) → slice_get f.domains e ≡ o →
        IfSome o (λ (shown : FrozenDomain). (control : program.Control) × IsProgramOf keys f e shown control)
    by_shown None is = tt
    by_shown (Some shown) is =
        let at = some_there xs e (let c = so_far.filled in omega (arith, low, c)) in
        (control_of at.0, (so_far.each e shown at.0 is at.1).is)

-- where the page of a domain begins
pub offset_here : (f : Frozen) (i : ℕ) (x : FrozenDomain) (at before : ℕ) →
    at ≡ 60 + length (flat_map domain_bytes (take i f.domains)) →
    before ≡ length (violation_bytes x.violation ++ flat_map maybe_word x.roots) + 48 → at + before ≡ page_offset f i x
offset_here f i x at before is more = omega (arith, is, more)

-- where the next domain begins
pub offset_next : (f : Frozen) (i : ℕ) (x : FrozenDomain) → slice_get f.domains i ≡ Some x →
    length x.meta.iv ≡ 16 → length x.meta.digest ≡ 32 → length x.page ≡ 4096 →
    60 + length (flat_map domain_bytes (take (i + 1) f.domains)) ≡ page_offset f i x + 4096
offset_next f i x is iv digest page =
    let front = flat_map domain_bytes (take i f.domains) in
    let before = violation_bytes x.violation ++ flat_map maybe_word x.roots in
    let grown : length (flat_map domain_bytes (take (i + 1) f.domains)) ≡ length front + length (domain_bytes x) =
    ap (λ (l : List FrozenDomain). length (flat_map domain_bytes l)) (take_next f.domains i x is)
    ∙ (ap length (flat_map-append domain_bytes (take i f.domains) (x ∷ []) ∙ ap (λ (l : List ℕ). front ++ l) (append-nil (domain_bytes x)))
    ∙ length-append front (domain_bytes x)) in
    let a = length-append (violation_bytes x.violation) (flat_map maybe_word x.roots ++ (meta_bytes x.meta ++ x.page)) in
    let b = length-append (flat_map maybe_word x.roots) (meta_bytes x.meta ++ x.page) in
    let c = length-append (meta_bytes x.meta) x.page in
    let d = length-append x.meta.iv x.meta.digest in
    let e = length-append (violation_bytes x.violation) (flat_map maybe_word x.roots) in
    omega (arith, grown, a, b, c, d, e, iv, digest, page)

-- The machine.

pub domains_numbered : (keys : Keys) (f : Frozen) (xs : List Domain) → AreThawedDomains keys f xs → AreNumbered xs
domains_numbered keys f xs thawed d x is =
    let zeros : FrozenDomain = record { violation = None; roots = []; meta = record { iv = []; digest = [] }; page = [] } in
    let low = slice_get_within xs d x is in
    let there = get_there f.domains d zeros (let c = thawed.count in omega (arith, low, c)) in
    (thawed.each d (slice_index_or f.domains d zeros) x there is).number

pub pages_unused : (keys : Keys) (f : Frozen) (xs : List Domain) (p : PagerState) (domains : ℕ) →
    AreThawedDomains keys f xs → IsThawedPager p keys domains f.frames f.recorded → IsWholePager p → AreFreeUnused xs p
pages_unused keys f xs p domains thawed frozen whole d n few x is free k q held = elim (cases_lt k (length f.frames)) [
  | inl low ↦
      let zeros : FrozenDomain = record { violation = None; roots = []; meta = record { iv = []; digest = [] }; page = [] } in
      let empty : FrozenFrame = record { bytes = []; owed = None } in
      let frame = slice_index_or f.frames k empty in
      let seen = get_there f.frames k empty low in
      let owes : owed_page frame ≡ Some q = sym (thawed_holds p k frame (frozen.each k frame seen)) ∙ held in
      let inside = slice_get_within xs d x is in
      let there = get_there f.domains d zeros (let c = thawed.count in omega (arith, inside, c)) in
      let shown = slice_index_or f.domains d zeros in
      let lies = All-slice_get (λ (o : FrozenFrame). IfSome (owed_page o) (LiesIn (control_of x).resources d)) f.frames k frame
      (thawed.each d shown x there is).is.owed seen in
      let own : LiesIn (control_of x).resources d q = subst (λ (o : Option PageId). IfSome o (LiesIn (control_of x).resources d)) owes lies in
      is_of-other d n q (λ both.
      let there' : IsSomeAnd (resource_at (control_of x).resources n) (λ (held : Resource). q.page < held.pages) =
      subst (λ (r : ℕ). IsSomeAnd (resource_at (control_of x).resources r) (λ (held : Resource). q.page < held.pages)) both.1 (own both.0) in
      subst (λ (o : Option Resource). IsSomeAnd o (λ (held : Resource). q.page < held.pages)) free there')
  | inr past ↦
      let spent : right_at p k ≡ Spent =
      get_or_past p.rights k Spent (let a = whole.count in let b = frozen.count in omega (arith, past, a, b)) in
      let no : None ≡ Some q = sym (ap page_of spent) ∙ held in
      absurd (cc)
]

-- As loops begin.

pub puts_none : (from : List (Option ℕ)) (domain : ℕ) (old : SpaceId → Option ℕ) →
    ((s : SpaceId) → s.domain ≡ domain → old s ≡ None) → PutsRoots from domain old old 0
puts_none from domain old empty = record {
  below = λ s here low. absurd (omega (arith, low));
  above = λ s here high. empty s here;
  others = λ s away. refl;
}

pub roots_none : (from : List FrozenDomain) (now : SpaceId → Option ℕ) → ((s : SpaceId) → now s ≡ None) → RootsFrom from now 0
roots_none from now none = record { below = λ s low. absurd (omega (arith, low)); above = λ s high. none s }

none_there : (n d : ℕ) → slice_index_or (replicate n (let none : Option Violation = None in none)) d None ≡ None
none_there zero d = refl
none_there (suc n) zero = refl
none_there (suc n) (suc d) = none_there n d

pub ends_none : (from : List FrozenDomain) → EndsFrom from (replicate 4 None) 0
ends_none from = record { below = λ d low. absurd (omega (arith, low)); above = λ d high. none_there 4 d }

pub marks_none : (from : List FrozenHart) (marks : List (Option ℕ)) → marks ≡ replicate (length from) None →
    MarksFrom from marks 0
marks_none from marks is = record {
  count = ap length is ∙ length-replicate (length from) (let none : Option ℕ = None in none);
  below = λ k h low. absurd (omega (arith, low));
}

-- Page tables that are of spaces in use.

pub rooted_next : (roots : List (Option ℕ)) (P : ℕ → Type 0) (n : ℕ) →
    ((s : ℕ) → s < n → is_some (slice_index_or roots s None) ≡ true → P s) →
    (is_some (slice_index_or roots n None) ≡ true → P n) →
    (s : ℕ) → s < n + 1 → is_some (slice_index_or roots s None) ≡ true → P s
rooted_next roots P n below here s low is = elim (same_or_not s n) [
  | inl same ↦ subst P (sym same) (here (subst (λ (k : ℕ). is_some (slice_index_or roots k None) ≡ true) same is))
  | inr other ↦ below s (omega (arith, low, other)) is
]

pub rooted_all : (roots : List (Option ℕ)) (P : ℕ → Type 0) (n : ℕ) → length roots ≤ n →
    ((s : ℕ) → s < n → is_some (slice_index_or roots s None) ≡ true → P s) →
    (s : ℕ) → is_some (slice_index_or roots s None) ≡ true → P s
rooted_all roots P n past below s is = elim (cases_lt s n) [
  | inl low ↦ below s low is
  | inr high ↦
      let none : slice_index_or roots s None ≡ None = get_or_past roots s None (omega (arith, past, high)) in
      absurd (let no : false ≡ true = sym (ap is_some none) ∙ is in cc)
]
