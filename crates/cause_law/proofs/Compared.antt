-- What an offer compares: it is refused exactly if the frame, once it and the page are shown, differs from what was
-- last shown of the page.
use Rattle.std.proofs.Common.{◌≡◌, ◌≢◌, ◌∙◌, ℕ, Bool, true, false, cond, List, [], ◌++◌, Option, Some, None, refl, sym, ap, subst}
use Rattle.std.specs.Prelude.{slice_index_or, ◌||◌}
use Rattle.std.specs.Str.{bytes_eq}
use Rattle.std.proofs.lemmas.Bool.{false≢true, false_from_ne_true, or_parts}
use Rattle.std.proofs.lemmas.Slice.Eq.{bytes_eq-Decides}
use Rattle.cloak_base.proofs.Pages.{same_page-self}
use Rattle.cloak_base.specs.declared.names.PageId.{PageId}
use Rattle.cloak_base.specs.Random.{Random}
use Rattle.cloak_model.specs.Cloaking.{CloakedMemory, AfterSettling, AfterOffer, owed_in, owes, owing_frame, settle, settle_if, settle_owed, settle_frame_if, with_comparison, taken, compared, unless_missed, offer}
use Rattle.cloak_model.specs.Ledger.{next_vector}
use Rattle.cause_law.specs.Presented.{Differs, at_comparison}
use Rattle.cause_law.proofs.Kept.{IsKept, IsHome, kept_settled, housed}
use Rattle.cause_law.proofs.Settled.{settles}
use Rattle.cloak_model.proofs.Owing.{owes_page}

-- A missing draw leaves a mark, which stays.

abbrev Marks : AfterSettling → CloakedMemory → Type 0
Marks s m = s.memory.ledger.missed ≡ (s.missed || m.ledger.missed)

owed_marks : (f : ℕ) (q : PageId) (draw : Option (List ℕ × Random)) (m : CloakedMemory) → Marks (settle_owed f q draw m) m
unfolding settle_owed
owed_marks f q None m = refl
owed_marks f q (Some draw) m = refl

if_marks : (f : ℕ) (o : Option PageId) (m : CloakedMemory) → Marks (settle_if f o m) m
unfolding settle_if
if_marks f None m = refl
if_marks f (Some q) m = owed_marks f q (next_vector m.ledger) m

settle_marks : (f : ℕ) (m : CloakedMemory) → Marks (settle f m) m
unfolding settle
settle_marks f m = if_marks f (owed_in m f) m

frame_marks : (f : Option ℕ) (m : CloakedMemory) → Marks (settle_frame_if f m) m
frame_marks None m = refl
frame_marks (Some f) m = settle_marks f m

-- Neither settling before a comparison lacked a draw, nor was one missing before.
pub record LacksNoDraw (q : PageId) (g : ℕ) (m : CloakedMemory) : Type 0 where
  pub first : (settle g m).missed ≡ false
  pub second : (settle_frame_if (owing_frame (settle g m).memory q) (settle g m).memory).missed ≡ false
  pub before : m.ledger.missed ≡ false

pub drawn_so : (q : PageId) (g : ℕ) (m : CloakedMemory) → (at_comparison q g m).ledger.missed ≡ false →
    LacksNoDraw q g m
drawn_so q g m drawn =
    let m' : CloakedMemory = (settle g m).memory in
    let two = or_parts _ _ (sym (frame_marks (owing_frame m' q) m') ∙ drawn) in
    let one = or_parts _ _ (sym (settle_marks g m) ∙ two.1) in
    record { first = one.0; second = two.0; before = one.1 }

-- An offer was refused: it is not granted, though no draw is missing.
pub record IsRefused (o : AfterOffer) : Type 0 where
  pub granted : o.granted ≡ false
  pub drawn : o.memory.ledger.missed ≡ false

-- A frame that differs is refused.

compared_refuses : (q : PageId) (g : ℕ) (write : Bool) (m : CloakedMemory) → m.ledger.missed ≡ false → Differs q g m →
    IsRefused (compared q g write (m.ledger.recorded q) m)
unfolding compared
compared_refuses q g write m drawn d =
    let there : List ℕ = slice_index_or m.ram g [] in
    let m' : CloakedMemory = with_comparison there d.shown m in
    let unequal : bytes_eq there d.shown ≡ false =
    false_from_ne_true (bytes_eq there d.shown) (λ is. d.other ((bytes_eq-Decides there d.shown).0 is)) in
    subst (λ (o : Option (List ℕ)). IsRefused (compared q g write o m)) (sym d.recorded)
    (subst (λ (b : Bool). IsRefused (cond b (record { memory = taken q g write m'; ciphers = []; granted = true })
    (record { memory = m'; ciphers = []; granted = false }))) (sym unequal)
    (record { granted = refl; drawn = drawn }))

unless_refuses : (s : AfterSettling) (next : CloakedMemory → AfterOffer) → s.missed ≡ false →
    IsRefused (next s.memory) → IsRefused (unless_missed s next)
unfolding unless_missed
unless_refuses s next drawn refused =
    let o = next s.memory in
    subst (λ (b : Bool). IsRefused (cond b (record { memory = s.memory; ciphers = s.ciphers; granted = false })
    (record { memory = o.memory; ciphers = s.ciphers ++ o.ciphers; granted = o.granted }))) (sym drawn)
    (record { granted = refused.granted; drawn = refused.drawn })

pub offer_refuses : (q : PageId) (g : ℕ) (write : Bool) (m : CloakedMemory) → owed_in m g ≢ Some q →
    (at_comparison q g m).ledger.missed ≡ false → Differs q g (at_comparison q g m) → IsRefused (offer q g write m)
unfolding offer
offer_refuses q g write m elsewhere drawn differs =
    let draws = drawn_so q g m drawn in
    let m' : CloakedMemory = (settle g m).memory in
    let last = λ (x : CloakedMemory). compared q g write (x.ledger.recorded q) x in
    let second = λ (x : CloakedMemory). unless_missed (settle_frame_if (owing_frame x q) x) last in
    let not : owes q (owed_in m g) ≡ false =
    false_from_ne_true (owes q (owed_in m g)) (λ is. elsewhere (owes_page q (owed_in m g) is)) in
    subst (λ (b : Bool). IsRefused (cond b (record { memory = m; ciphers = []; granted = true })
    (unless_missed (settle g m) second))) (sym not)
    (unless_refuses (settle g m) second draws.first
    (unless_refuses (settle_frame_if (owing_frame m' q) m') last draws.second
    (compared_refuses q g write (at_comparison q g m) drawn differs)))

-- And what is refused differs, where it is compared, and in what it leaves.

record Differed (q : PageId) (g : ℕ) (m left : CloakedMemory) : Type 0 where
  pub drawn : m.ledger.missed ≡ false
  pub differs : Differs q g m
  pub still : Differs q g left

abbrev Tells : (CloakedMemory → Type 0) → AfterOffer → Type 0
Tells P o = IsRefused o → P o.memory

compared_by : (q : PageId) (g : ℕ) (write : Bool) (c : List ℕ) (m : CloakedMemory) (same : Bool) → IsHome q m →
    owed_in m g ≡ None → m.ledger.recorded q ≡ Some c → bytes_eq (slice_index_or m.ram g []) c ≡ same →
    let m' = with_comparison (slice_index_or m.ram g []) c m in
    Tells (Differed q g m) (cond same (record { memory = taken q g write m'; ciphers = []; granted = true })
    (record { memory = m'; ciphers = []; granted = false }))
compared_by q g write c m true home clean recorded is = λ refused. absurd (false≢true (sym refused.granted))
compared_by q g write c m false home clean recorded is =
    λ refused.
    let other : slice_index_or m.ram g [] ≢ c =
    λ same. false≢true (sym is ∙ (bytes_eq-Decides (slice_index_or m.ram g []) c).1 same) in
    record {
      drawn = refused.drawn;
      differs = record { shown = c; recorded = recorded; other = other; visible = clean; newest = home };
      still = record { shown = c; recorded = recorded; other = other; visible = clean; newest = home };
    }

compared_tells : (q : PageId) (g : ℕ) (write : Bool) (o : Option (List ℕ)) (m : CloakedMemory) → IsHome q m →
    owed_in m g ≡ None → m.ledger.recorded q ≡ o → Tells (Differed q g m) (compared q g write o m)
unfolding compared
compared_tells q g write None m home clean recorded = λ refused. absurd (false≢true (sym refused.granted))
compared_tells q g write (Some c) m home clean recorded =
    compared_by q g write c m (bytes_eq (slice_index_or m.ram g []) c) home clean recorded refl

unless_by : (P : CloakedMemory → Type 0) (s : AfterSettling) (m : CloakedMemory) (o : AfterOffer) (missed : Bool) →
    Marks s m → s.missed ≡ missed → Tells P o →
    Tells P (cond missed (record { memory = s.memory; ciphers = s.ciphers; granted = false })
    (record { memory = o.memory; ciphers = s.ciphers ++ o.ciphers; granted = o.granted }))
unless_by P s m o true marks is tells =
    λ refused. absurd (false≢true (sym (or_parts _ _ (sym marks ∙ refused.drawn)).0 ∙ is))
unless_by P s m o false marks is tells =
    λ refused. tells (record { granted = refused.granted; drawn = refused.drawn })

unless_tells : (P : CloakedMemory → Type 0) (s : AfterSettling) (m : CloakedMemory)
    (next : CloakedMemory → AfterOffer) → Marks s m → Tells P (next s.memory) → Tells P (unless_missed s next)
unfolding unless_missed
unless_tells P s m next marks tells = unless_by P s m (next s.memory) s.missed marks refl tells

-- What a refused offer met and leaves.
pub record Compares (q : PageId) (g : ℕ) (m left : CloakedMemory) : Type 0 where
  pub elsewhere : owed_in m g ≢ Some q
  pub drawn : (at_comparison q g m).ledger.missed ≡ false
  pub differs : Differs q g (at_comparison q g m)
  pub still : Differs q g left

offer_by : (q : PageId) (g : ℕ) (m : CloakedMemory) (o : AfterOffer) (owed : Bool) → owes q (owed_in m g) ≡ owed →
    Tells (Differed q g (at_comparison q g m)) o →
    Tells (Compares q g m) (cond owed (record { memory = m; ciphers = []; granted = true }) o)
offer_by q g m o true is tells = λ refused. absurd (false≢true (sym refused.granted))
offer_by q g m o false is tells =
    λ refused. let told = tells refused in record {
      elsewhere = λ same. absurd (false≢true (sym is ∙ (ap (owes q) same ∙ same_page-self q)));
      drawn = told.drawn;
      differs = told.differs;
      still = told.still;
    }

pub offer_compares : (q : PageId) (g : ℕ) (write : Bool) (m : CloakedMemory) → IsKept m →
    IsRefused (offer q g write m) → Compares q g m (offer q g write m).memory
unfolding offer
offer_compares q g write m kept =
    let m' : CloakedMemory = (settle g m).memory in
    let met = Differed q g (at_comparison q g m) in
    let h = housed q m' (kept_settled g m kept) in
    offer_by q g m _ (owes q (owed_in m g)) refl
    (unless_tells met (settle g m) m _ (settle_marks g m)
    (unless_tells met (settle_frame_if (owing_frame m' q) m') m' _ (frame_marks (owing_frame m' q) m')
    (compared_tells q g write _ (at_comparison q g m) h.home (h.more.clean g (settles g m kept.places).clean) refl)))
