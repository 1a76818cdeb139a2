-- What is recorded of pages tells their newest bytes, after settling and after offers.
use Rattle.std.proofs.Common.{◌≡◌, ◌≢◌, ◌∙◌, ◌<◌, inl, inr, ℕ, Bool, true, false, cond, List, [], ◌++◌, length, Option, Some, None, refl, sym, ap, subst}
use Rattle.std.specs.Prelude.{slice_index_or, slice_set}
use Rattle.std.specs.Str.{bytes_eq}
use Rattle.std.proofs.lemmas.Bool.{false≢true}
use Rattle.std.proofs.lemmas.List.{get_or-set_same, get_or-set_other}
use Rattle.cloak_base.specs.Pages.{same_page, is_of, page_in, zero_page}
use Rattle.cloak_base.specs.Random.{Random}
use Rattle.cloak_base.specs.declared.names.PageId.{PageId}
use Rattle.cloak_base.proofs.Pages.{same_page_tells, is_of_tells}
use Rattle.cloak_model.specs.Cloaking.{CloakedMemory, AfterSettling, AfterOffer, ciphertext_of, owed_in, settle_owed, settle, settle_frame_if, owing_frame, owes, with_owed, with_comparison, taken, compared, unless_missed, offer}
use Rattle.cloak_model.specs.Ledger.{key_of, next_vector}
use Rattle.cloak_model.specs.PageMoves.{with_newest, copy_pages, drop_pages}
use Rattle.cloak_model.specs.Sealing.{Sealing, sealed_by}
use Rattle.domain_isolation.proofs.InOrder.{decided}
use Rattle.chain_law.proofs.ZeroWorlds.{NoneOwedOf}
use Rattle.frozen_law.specs.Records.{IsUnowed, RecordsTell}
use Rattle.frozen_law.proofs.Counts.{HasCount, settle_count, frame_count}
use Rattle.cloak_base.proofs.Choices.{either}
use Rattle.cloak_model.proofs.Offering.{SettlesKept, settle_keeps, OfferKeeps, offer_keeps}
use Rattle.cloak_model.proofs.Owing.{owes_page}
use Rattle.std.proofs.lemmas.Option.{same_Some}

-- What is recorded by a test.
pub told_by : (t : Bool) (s : Sealing) (key : List ℕ) (there here : Option (List ℕ)) (iv old : Option (List ℕ)) (now c v : List ℕ) →
    (t ≡ true → there ≡ Some c → iv ≡ Some v → c ≡ sealed_by s key v now) →
    (t ≡ false → here ≡ Some c → old ≡ Some v → c ≡ sealed_by s key v now) →
    cond t there here ≡ Some c → cond t iv old ≡ Some v → c ≡ sealed_by s key v now
told_by true s key there here iv old now c v first second = first refl
told_by false s key there here iv old now c v first second = second refl

-- a ciphertext that was just made
pub made_so : (s : Sealing) (key bytes iv c v : List ℕ) → Some (sealed_by s key iv bytes) ≡ Some c → Some iv ≡ Some v →
    c ≡ sealed_by s key v bytes
made_so s key bytes iv c v made under =
    let is : sealed_by s key iv bytes ≡ c = same_Some (sealed_by s key iv bytes) c made in
    let same : iv ≡ v = same_Some iv v under in
    sym is ∙ ap (λ (x : List ℕ). sealed_by s key x bytes) same

-- of one page
pub page_tells : (p q : PageId) → same_page p q ≡ true → q ≡ p
page_tells p q is = elim (same_page_tells p q) [
  | inl same ↦ sym same.1
  | inr differs ↦ absurd (false≢true (sym differs.0 ∙ is))
]

other_page : (p q : PageId) → same_page p q ≡ false → p ≢ q
other_page p q is = elim (same_page_tells p q) [
  | inl same ↦ absurd (false≢true (sym is ∙ same.0))
  | inr differs ↦ differs.1
]

none_some : (q : PageId) → None ≡ Some q → ⊥
none_some q is = cc

-- Settling.

-- another page than the one that the frame was owed
was_unowed : (f : ℕ) (p q : PageId) (m : CloakedMemory) → owed_in m f ≡ Some p → q ≢ p →
    ((g : ℕ) → slice_index_or (slice_set m.ledger.owed f None) g None ≢ Some q) → IsUnowed q m
was_unowed f p q m owed other unowed g is = elim (decided g f) [
  | inl same ↦ other (same_Some q p (sym is ∙ (ap (owed_in m) same ∙ owed)))
  | inr apart ↦ unowed g (get_or-set_other m.ledger.owed f g None None apart ∙ is)
]

owed_tell : (f : ℕ) (p : PageId) (draw : Option (List ℕ × Random)) (m : CloakedMemory) → owed_in m f ≡ Some p →
    RecordsTell m → RecordsTell (settle_owed f p draw m).memory
unfolding settle_owed
owed_tell f p None m owed tell = λ drawn. absurd (false≢true (sym drawn))
owed_tell f p (Some draw) m owed tell =
    λ drawn q c iv unowed recorded vector.
    told_by (same_page q p) m.ledger.keys.seal (key_of m.ledger q) _ (m.ledger.recorded q) _ (m.ledger.iv q) (m.plain q) c iv
    (λ is made under.
    let same = page_tells q p is in
    made_so m.ledger.keys.seal (key_of m.ledger q) (m.plain q) draw.0 c iv
    (subst (λ (x : PageId). Some (ciphertext_of m.ledger x draw.0 (m.plain x)) ≡ Some c) same made) under)
    (λ is before under.
    tell drawn q c iv (was_unowed f p q m owed (other_page q p is) unowed) before under)
    recorded vector

settles_tell : SettlesKept RecordsTell
settles_tell f p m owed tell = owed_tell f p (next_vector m.ledger) m owed tell

pub settle_tell : (f : ℕ) (m : CloakedMemory) → RecordsTell m → RecordsTell (settle f m).memory
settle_tell f m tell = settle_keeps RecordsTell settles_tell f m tell

-- Offering.

-- a frame that is owed nothing gets a page
put_tell : (g : ℕ) (p : PageId) (m : CloakedMemory) → owed_in m g ≡ None → RecordsTell m →
    RecordsTell (with_owed g (Some p) m)
put_tell g p m clean tell drawn q c iv unowed recorded vector =
    tell drawn q c iv
    (λ f is.
    unowed f (get_or-set_other m.ledger.owed g f (Some p) None
    (λ same. none_some q (sym clean ∙ (ap (owed_in m) (sym same) ∙ is))) ∙ is)) recorded vector

offers_tell : (q : PageId) → OfferKeeps q RecordsTell RecordsTell
offers_tell q = record {
  settles = settles_tell;
  compares = λ a b m tell. tell;
  takes = λ g m clean tell. put_tell g q m clean tell;
  stays = λ m tell. tell;
}

pub offer_tell : (q : PageId) (g : ℕ) (write : Bool) (m : CloakedMemory) → RecordsTell m →
    RecordsTell (offer q g write m).memory
offer_tell q g write m tell = offer_keeps (offers_tell q) g write m tell

-- A page that was granted for a store is owed to a frame.

abbrev pub IsOwed : PageId → CloakedMemory → Type 0
IsOwed q m = (f : ℕ) × (owed_in m f ≡ Some q)

abbrev OwesIfGranted : PageId → AfterOffer → Type 0
OwesIfGranted q o = o.granted ≡ true → IsOwed q o.memory

put_owes : (g : ℕ) (q : PageId) (m : CloakedMemory) → g < length m.ledger.owed → IsOwed q (with_owed g (Some q) m)
put_owes g q m low = (g, get_or-set_same m.ledger.owed g (Some q) None low)

compared_owes : (q : PageId) (g : ℕ) (o : Option (List ℕ)) (m : CloakedMemory) → g < length m.ledger.owed →
    OwesIfGranted q (compared q g true o m)
unfolding compared
compared_owes q g None m low = λ is. put_owes g q m low
compared_owes q g (Some c) m low =
    let there = slice_index_or m.ram g [] in
    let m' : CloakedMemory = with_comparison there c m in
    either (OwesIfGranted q) (bytes_eq there c) (record { memory = taken q g true m'; ciphers = []; granted = true })
    (record { memory = m'; ciphers = []; granted = false }) (λ is. put_owes g q m' low) (λ is. absurd cc)

unless_owes : (q : PageId) (s : AfterSettling) (next : CloakedMemory → AfterOffer) → OwesIfGranted q (next s.memory) →
    OwesIfGranted q (unless_missed s next)
unfolding unless_missed
unless_owes q s next later =
    either (OwesIfGranted q) s.missed (record { memory = s.memory; ciphers = s.ciphers; granted = false })
    (let o = next s.memory in record { memory = o.memory; ciphers = s.ciphers ++ o.ciphers; granted = o.granted })
    (λ is. absurd cc) later

either_case : (P : AfterOffer → Type 0) (t : Bool) (x y : AfterOffer) → (t ≡ true → P x) → P y → P (cond t x y)
either_case P true x y here there = here refl
either_case P false x y here there = there

pub offer_owes : (n : ℕ) (q : PageId) (g : ℕ) (m : CloakedMemory) → HasCount n m → g < n →
    OwesIfGranted q (offer q g true m)
unfolding offer
offer_owes n q g m count low =
    let m' : CloakedMemory = (settle g m).memory in
    let s = settle_frame_if (owing_frame m' q) m' in
    let count'' : HasCount n s.memory = frame_count n (owing_frame m' q) m' (settle_count n g m count) in
    either_case (OwesIfGranted q) (owes q (owed_in m g)) (record { memory = m; ciphers = []; granted = true }) _
    (λ is granted. (g, owes_page q (owed_in m g) is))
    (unless_owes q (settle g m) _
    (unless_owes q s _
    (compared_owes q g (s.memory.ledger.recorded q) s.memory (subst (λ (k : ℕ). g < k) (sym count'') low))))

-- Stores, copies, and dropping.

-- a page that a frame is owed gets other bytes
pub newest_tell : (q : PageId) (bytes : List ℕ) (m : CloakedMemory) → IsOwed q m → RecordsTell m →
    RecordsTell (with_newest q bytes m)
newest_tell q bytes m owed tell drawn p c iv unowed recorded vector =
    let apart : p ≢ q = λ same. unowed owed.0 (owed.1 ∙ ap Some (sym same)) in
    elim (same_page_tells p q) [
      | inl same ↦ absurd (apart same.1)
      | inr differs ↦
          tell drawn p c iv unowed recorded vector
          ∙ ap (λ (t : Bool). sealed_by m.ledger.keys.seal (key_of m.ledger p) iv (cond t bytes (m.plain p))) (sym differs.0)
    ]

of_tells : (domain resource : ℕ) (q : PageId) → is_of domain resource q ≡ true → q.domain ≡ domain
of_tells domain resource q is = elim (is_of_tells domain resource q) [
  | inl of ↦ of.1.0
  | inr differs ↦ absurd (false≢true (sym differs.0 ∙ is))
]

abbrev plain_by : Bool → List ℕ → List ℕ → List ℕ
plain_by t there here = cond t there here

-- the pages of a resource of which no frame is owed any are copied
pub copy_tell : (domain from to : ℕ) (m : CloakedMemory) → NoneOwedOf domain from m → RecordsTell m →
    RecordsTell (copy_pages domain from to m)
unfolding copy_pages
copy_tell domain from to m none tell drawn q c iv unowed recorded vector =
    let t = is_of domain to q in
    told_by t m.ledger.keys.seal (key_of m.ledger q) (m.ledger.recorded (page_in from q)) (m.ledger.recorded q)
    (m.ledger.iv (page_in from q)) (m.ledger.iv q) (plain_by t (m.plain (page_in from q)) (m.plain q)) c iv
    (λ is there under.
    tell drawn (page_in from q) c iv (none (page_in from q) (of_tells domain to q is) refl) there under
    ∙ ap (λ (b : Bool). sealed_by m.ledger.keys.seal (key_of m.ledger q) iv (plain_by b (m.plain (page_in from q)) (m.plain q))) (sym is))
    (λ is here under.
    tell drawn q c iv unowed here under
    ∙ ap (λ (b : Bool). sealed_by m.ledger.keys.seal (key_of m.ledger q) iv (plain_by b (m.plain (page_in from q)) (m.plain q))) (sym is))
    recorded vector

none_list : (c : List ℕ) → None ≡ Some c → ⊥
none_list c is = cc

pub drop_tell : (domain resource : ℕ) (m : CloakedMemory) → RecordsTell m → RecordsTell (drop_pages domain resource m)
unfolding drop_pages
drop_tell domain resource m tell drawn q c iv unowed recorded vector =
    let t = is_of domain resource q in
    told_by t m.ledger.keys.seal (key_of m.ledger q) None (m.ledger.recorded q) None (m.ledger.iv q) (plain_by t zero_page (m.plain q)) c iv
    (λ is there under. absurd (none_list c there))
    (λ is here under.
    tell drawn q c iv unowed here under
    ∙ ap (λ (b : Bool). sealed_by m.ledger.keys.seal (key_of m.ledger q) iv (plain_by b zero_page (m.plain q))) (sym is))
    recorded vector
