-- What every step keeps: each frame has its place among what is owed, and no page is owed by two frames. And what an
-- offer leaves: if it is refused, the frames that owed nothing are as they were.
use Rattle.std.proofs.Common.{◌≡◌, ◌≢◌, ◌∙◌, ◌<◌, ◌≤◌, ◌⊎◌, ℕ, Bool, true, false, cond, List, [], ◌++◌, length, Option, Some, None, nat_lt, is_some, refl, sym, ap, subst, arith, inl, inr}
use Rattle.std.specs.Prelude.{slice_index_or, slice_set}
use Rattle.std.specs.List.{position_or_len}
use Rattle.std.specs.Str.{bytes_eq}
use Rattle.std.proofs.lemmas.Bool.{false≢true, cases_lt, ltb-true, ltb-false}
use Rattle.std.proofs.lemmas.List.{get_or-set_same, get_or-set_other, get_or_past, length-set}
use Rattle.std.proofs.lemmas.List.Sums.{fails_before_first, passes_at_first}
use Rattle.cloak_base.proofs.Pages.{same_page-self}
use Rattle.cloak_base.specs.declared.names.PageId.{PageId}
use Rattle.cloak_model.specs.Cloaking.{CloakedMemory, AfterSettling, AfterOffer, owed_in, owes, owing_frame, settle, settle_frame_if, with_owed, with_comparison, taken, compared, unless_missed, offer}
use Rattle.domain_isolation.proofs.InOrder.{decided}
use Rattle.kernel_isolation.proofs.Settlings.{HasPlaces}
use Rattle.cause_law.proofs.Settled.{Settles, settles}
use Rattle.std.proofs.lemmas.Option.{same_Some}
use Rattle.cloak_model.proofs.Offering.{frame_stays_clean}
use Rattle.cloak_model.proofs.Owing.{owes_page, owed_within}

pub record IsKept (m : CloakedMemory) : Type 0 where
  pub places : HasPlaces m
  pub once : (f g : ℕ) (q : PageId) → owed_in m f ≡ Some q → owed_in m g ≡ Some q → f ≡ g

-- no frame is owed this page
abbrev pub IsHome : PageId → CloakedMemory → Type 0
IsHome q m = (g : ℕ) → owed_in m g ≢ Some q

not_none : {A : Type 0} (q : PageId) (o : Option PageId) → o ≡ None → o ≡ Some q → A
not_none q o none some = (let clash : None ≡ Some q = sym none ∙ some in absurd cc)

-- Settling.

-- what is owed after a settling was owed before it
still_owed : (f : ℕ) (m : CloakedMemory) (s : AfterSettling) → Settles f m s → (g : ℕ) (q : PageId) →
    owed_in s.memory g ≡ Some q → owed_in m g ≡ Some q
still_owed f m s settled g q is = elim (decided g f) [
  | inl same ↦ not_none q (owed_in s.memory f) settled.clean
      (subst (λ (x : ℕ). owed_in s.memory x ≡ Some q) same is)
  | inr other ↦ sym (settled.owed g other) ∙ is
]

pub kept_settled : (f : ℕ) (m : CloakedMemory) → IsKept m → IsKept (settle f m).memory
kept_settled f m kept =
    let s = settles f m kept.places in
    record {
      places = s.places;
      once = λ g h q one two. kept.once g h q (still_owed f m _ s g q one) (still_owed f m _ s h q two);
    }

-- A memory after others of its frames were settled: those that owed nothing are as they were.
pub record Extends (m after : CloakedMemory) : Type 0 where
  pub count : length after.ram ≡ length m.ram
  pub clean : (f : ℕ) → owed_in m f ≡ None → owed_in after f ≡ None
  pub ram : (f : ℕ) → owed_in m f ≡ None → slice_index_or after.ram f [] ≡ slice_index_or m.ram f []

pub Extends-refl : (m : CloakedMemory) → Extends m m
Extends-refl m = record { count = refl; clean = λ f none. none; ram = λ f none. refl }

pub Extends-trans : (m n o : CloakedMemory) → Extends m n → Extends n o → Extends m o
Extends-trans m n o first second = record {
  count = second.count ∙ first.count;
  clean = λ f none. second.clean f (first.clean f none);
  ram = λ f none. second.ram f (first.clean f none) ∙ first.ram f none;
}

pub extends_settled : (f : ℕ) (m : CloakedMemory) → IsKept m → Extends m (settle f m).memory
extends_settled f m kept =
    let s = settles f m kept.places in
    record {
      count = s.count;
      clean = λ g none. frame_stays_clean g (Some f) m none;
      ram = λ g none. elim (decided g f) [
        | inl same ↦ subst (λ (x : ℕ). owed_in m x ≡ None →
            slice_index_or (settle f m).memory.ram x [] ≡ slice_index_or m.ram x []) (sym same)
            (λ here. s.spared (ap (λ (o : Option PageId). is_some o) here)) none
        | inr other ↦ s.ram g other
      ];
    }

-- The frame that is owed a page is settled.

pub record Housed (q : PageId) (m : CloakedMemory) (s : AfterSettling) : Type 0 where
  pub kept : IsKept s.memory
  pub home : IsHome q s.memory
  pub more : Extends m s.memory

housed_by : (q : PageId) (m : CloakedMemory) (b : Bool) → IsKept m →
    let at = position_or_len (owes q) m.ledger.owed in nat_lt at (length m.ledger.owed) ≡ b →
    Housed q m (settle_frame_if (cond b (Some at) None) m)
housed_by q m true kept is =
    let at = position_or_len (owes q) m.ledger.owed in
    let low : at < length m.ledger.owed = ltb-true at (length m.ledger.owed) is in
    let owed : owed_in m at ≡ Some q = owes_page q _ (passes_at_first (owes q) m.ledger.owed None low) in
    let s = settles at m kept.places in
    record {
      kept = kept_settled at m kept;
      home = λ g here.
          let same : g ≡ at = kept.once g at q (still_owed at m _ s g q here) owed in
          not_none q (owed_in (settle at m).memory at) s.clean
          (subst (λ (x : ℕ). owed_in (settle at m).memory x ≡ Some q) same here);
      more = extends_settled at m kept;
    }
housed_by q m false kept is =
    let at = position_or_len (owes q) m.ledger.owed in
    record {
      kept = kept;
      home = λ g here.
          let low : g < length m.ledger.owed = owed_within m g q here in
          let none : length m.ledger.owed ≤ at = ltb-false at (length m.ledger.owed) is in
          let before : g < at = omega (arith, none, low) in
          let fails = fails_before_first (owes q) m.ledger.owed g None before in
          absurd (false≢true (sym fails ∙ (ap (owes q) here ∙ same_page-self q)));
      more = Extends-refl m;
    }

pub housed : (q : PageId) (m : CloakedMemory) → IsKept m → Housed q m (settle_frame_if (owing_frame m q) m)
housed q m kept = housed_by q m _ kept refl

-- A frame is owed a page that no frame was owed.

now_owed : (q : PageId) (g : ℕ) (m : CloakedMemory) (f : ℕ) (p : PageId) →
    owed_in (with_owed g (Some q) m) f ≡ Some p → ((f ≡ g) × (p ≡ q)) ⊎ (owed_in m f ≡ Some p)
now_owed q g m f p is = elim (decided f g) [
  | inl same ↦
      let here : owed_in (with_owed g (Some q) m) g ≡ Some p =
      subst (λ (x : ℕ). owed_in (with_owed g (Some q) m) x ≡ Some p) same is in
      elim (cases_lt g (length m.ledger.owed)) [
        | inl low ↦ inl (
          same,
          same_Some p q (sym here ∙ get_or-set_same m.ledger.owed g (Some q) None low),
        )
        | inr past ↦ not_none p (owed_in (with_owed g (Some q) m) g)
            (get_or_past (slice_set m.ledger.owed g (Some q)) g None
            (subst (λ (x : ℕ). x ≤ g) (sym (length-set m.ledger.owed g (Some q))) past)) here
      ]
  | inr other ↦ inr (sym (get_or-set_other m.ledger.owed g f (Some q) None other) ∙ is)
]

kept_owed : (q : PageId) (g : ℕ) (m : CloakedMemory) → IsKept m → IsHome q m → IsKept (with_owed g (Some q) m)
kept_owed q g m kept home = record {
  places = length-set m.ledger.owed g (Some q) ∙ kept.places;
  once = λ f h p one two. elim (now_owed q g m f p one) [
    | inl a ↦ elim (now_owed q g m h p two) [
      | inl b ↦ a.0 ∙ sym b.0
      | inr there ↦ absurd (home h (there ∙ ap (λ (x : PageId). Some x) a.1))
    ]
    | inr here ↦ elim (now_owed q g m h p two) [
      | inl b ↦ absurd (home f (here ∙ ap (λ (x : PageId). Some x) b.1))
      | inr there ↦ kept.once f h p here there
    ]
  ];
}

-- Offers.

pub record Offers (m : CloakedMemory) (o : AfterOffer) : Type 0 where
  pub kept : IsKept o.memory
  pub more : o.granted ≡ false → Extends m o.memory

granted_so : (from m : CloakedMemory) (ciphers : List (ℕ × List ℕ)) → IsKept m →
    Offers from (record { memory = m; ciphers = ciphers; granted = true })
granted_so from m ciphers kept = record { kept = kept; more = λ refused. absurd (false≢true (sym refused)) }

taken_kept : (q : PageId) (g : ℕ) (write : Bool) (m : CloakedMemory) → IsKept m → IsHome q m →
    IsKept (taken q g write m)
taken_kept q g true m kept home = kept_owed q g m kept home
taken_kept q g false m kept home = kept

compared_by : (q : PageId) (g : ℕ) (write : Bool) (c : List ℕ) (m : CloakedMemory) (same : Bool) → IsKept m →
    IsHome q m →
    let m' = with_comparison (slice_index_or m.ram g []) c m in
    Offers m (cond same (record { memory = taken q g write m'; ciphers = []; granted = true })
    (record { memory = m'; ciphers = []; granted = false }))
compared_by q g write c m true kept home =
    granted_so m _ [] (taken_kept q g write _ (record { places = kept.places; once = kept.once }) home)
compared_by q g write c m false kept home = record {
  kept = record { places = kept.places; once = kept.once };
  more = λ refused. record { count = refl; clean = λ f none. none; ram = λ f none. refl };
}

compared_offers : (q : PageId) (g : ℕ) (write : Bool) (o : Option (List ℕ)) (m : CloakedMemory) → IsKept m →
    IsHome q m → Offers m (compared q g write o m)
unfolding compared
compared_offers q g write None m kept home = granted_so m _ [] (kept_owed q g m kept home)
compared_offers q g write (Some c) m kept home =
    compared_by q g write c m (bytes_eq (slice_index_or m.ram g []) c) kept home

unless_by : (m : CloakedMemory) (s : AfterSettling) (o : AfterOffer) (missed : Bool) → Extends m s.memory →
    IsKept s.memory → Offers s.memory o →
    Offers m (cond missed (record { memory = s.memory; ciphers = s.ciphers; granted = false })
    (record { memory = o.memory; ciphers = s.ciphers ++ o.ciphers; granted = o.granted }))
unless_by m s o true more kept offers = record { kept = kept; more = λ refused. more }
unless_by m s o false more kept offers = record {
  kept = offers.kept;
  more = λ refused. Extends-trans m s.memory o.memory more (offers.more refused);
}

unless_offers : (m : CloakedMemory) (s : AfterSettling) (next : CloakedMemory → AfterOffer) → Extends m s.memory →
    IsKept s.memory → Offers s.memory (next s.memory) → Offers m (unless_missed s next)
unfolding unless_missed
unless_offers m s next more kept offers = unless_by m s (next s.memory) s.missed more kept offers

offer_by : (m : CloakedMemory) (o : AfterOffer) (owed : Bool) → IsKept m → Offers m o →
    Offers m (cond owed (record { memory = m; ciphers = []; granted = true }) o)
offer_by m o true kept offers = granted_so m m [] kept
offer_by m o false kept offers = offers

pub offer_offers : (q : PageId) (g : ℕ) (write : Bool) (m : CloakedMemory) → IsKept m → Offers m (offer q g write m)
unfolding offer
offer_offers q g write m kept =
    let m' : CloakedMemory = (settle g m).memory in
    let h = housed q m' (kept_settled g m kept) in
    let m'' : CloakedMemory = (settle_frame_if (owing_frame m' q) m').memory in
    offer_by m _ (owes q (owed_in m g)) kept
    (unless_offers m (settle g m) _ (extends_settled g m kept) (kept_settled g m kept)
    (unless_offers m' (settle_frame_if (owing_frame m' q) m') _ h.more h.kept
    (compared_offers q g write (m''.ledger.recorded q) m'' h.kept h.home)))
