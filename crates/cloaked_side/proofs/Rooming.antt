-- Room for a page: what the settlings before an offer result in.
use Rattle.std.proofs.Common.{◌≡◌, ◌≢◌, ◌<◌, ◌+◌, ℕ, Bool, true, false, not, cond, List, [], ◌∷◌, ◌++◌, Option, Some, None}
use Rattle.std.proofs.Common.{length, get_or, append_assoc, inl, inr, ◌⊎◌, refl, ap, sym, ◌∙◌, subst, arith}
use Rattle.std.specs.Str.{bytes_eq}
use Rattle.std.proofs.lemmas.Bool.{false≢true}
use Rattle.std.proofs.lemmas.List.{append-nil, length-append, length-map}
use Rattle.std.proofs.lemmas.List.Quantifiers.{position-Some}
use Rattle.cloak_base.specs.declared.names.PageId.{PageId}
use Rattle.cloak_base.proofs.Pages.{same_page-self}
use Rattle.cloak_model.specs.Cloaking.{CloakedMemory, AfterSettling, AfterOffer, settle}
use Rattle.cloak_model.specs.Cloaking.{settle_frame_if, offer, owes, owing_frame, compared, unless_missed, owed_in, taken, with_owed, with_comparison}
use Rattle.cloak_pager.specs.Turns.{StaysBut}
use Rattle.cloak_pager.proofs.Pages.{same_or_not}
use Rattle.cloak_pager.specs.State.{PagerState, IsWholePager, page_of, owed_under, right_at, held_in, owed_at}
use Rattle.cloak_pager.specs.Relation.{StandsForMemory}
use Rattle.cloak_pager.specs.declared.frame_right.FrameRight.{FrameRight}
use Rattle.cloak_pager.specs.declared.frame_right.FrameRight.TheVariants.{Outside, Clean, Changed, Spent}
use Rattle.cloak_pager.proofs.Stands.{owed_by_right, owed_held}
use Rattle.cloak_pager.proofs.Writes.{held_within}
use Rattle.cloak_pager.proofs.Offers.{unowed_nowhere, unowed_clean, none_owing, offer_settled, offer_at_once}
use Rattle.cloak_model.specs.World.{cipher_items}
use Rattle.cloak_model.specs.Exchange.{Piece, Emits, item_pieces}
use Rattle.cloak_pager.specs.Asking.{FollowsCallUnclashed, after_offer}
use Rattle.shadow_fold.specs.Keeping.{Agrees}
use Rattle.shadow_law.specs.Agreeing.{present}
use Rattle.cloaked_side.specs.Holding.{Holds}
use Rattle.cloaked_side.specs.Tracking.{spent_in}
use Rattle.shadow_fold.specs.Reads.{Spends}
use Rattle.cloaked_side.proofs.Spending.{spends_more}
use Rattle.cloak_model.proofs.Emitting.{emits_none}
use Rattle.cloaked_side.specs.Offering.{behind_ciphers, offer_left, Rooms, Offers}
use Rattle.cloaked_side.specs.declared.memory.Memory.{Memory}
use Rattle.cloaked_side.proofs.Settling.{TellsDraws, counts, draws_by, missed_by, marks_by}
use Rattle.cloak_model.proofs.Owing.{owes_page}
use Rattle.cloak_model.proofs.Settling.{settle_unowed}
use Rattle.cloak_base.proofs.Choices.{either}
use Rattle.cloak_base.proofs.Lists.{fails_all}

-- a frame that holds a page is owed it or owed nothing
pub changed_or_not : (h : FrameRight) (q : PageId) → page_of h ≡ Some q → (owed_under h ≡ Some q) ⊎ (owed_under h ≡ None)
changed_or_not (Outside r) q e = inr refl
changed_or_not (Clean r) q e = inr refl
changed_or_not (Changed r) q e = inl e
changed_or_not Spent q e = inr refl

pub unheld_unowed : (h : FrameRight) → page_of h ≡ None → owed_under h ≡ None
unheld_unowed (Outside r) e = refl
unheld_unowed (Clean r) e = refl
unheld_unowed (Changed r) e = e
unheld_unowed Spent e = refl

-- a frame that does not hold the page is not owed it
unowed_here : (p : PagerState) (w : PageId → Bool) (m : CloakedMemory) (g : ℕ) (q : PageId) → StandsForMemory p w m →
    held_in p g ≢ Some q → owes q (owed_in m g) ≡ false
unowed_here p w m g q s n = by_value (owes q (owed_in m g)) refl
  where
    by_value : (b : Bool) → owes q (owed_in m g) ≡ b → owes q (owed_in m g) ≡ false
    by_value false e = e
    by_value true e = absurd (n
        (owed_held (right_at p g) q (sym (owed_by_right p w m s g) ∙ owes_page q (owed_in m g) e)))

-- the frame that holds a page changed is the one that is found to be owed it
found : (p : PagerState) (w : PageId → Bool) (m : CloakedMemory) (f : ℕ) (q : PageId) → StandsForMemory p w m →
    held_in p f ≡ Some q → owed_at p f ≡ Some q → owing_frame m q ≡ Some f
found p w m f q s held owed = by_value (owing_frame m q) refl
  where
    within : f < length m.ledger.owed
    within = subst (λ (n : ℕ). f < n)
        (sym (ap (λ (xs : List (Option PageId)). length xs) s.owed ∙ length-map p.rights owed_under))
        (held_within p.rights f q held)

    here : owes q (owed_in m f) ≡ true
    here = ap (λ o. owes q o) (owed_by_right p w m s f ∙ owed) ∙ same_page-self q

    by_value : (o : Option ℕ) → owing_frame m q ≡ o → o ≡ Some f
    by_value None e = absurd (false≢true (sym (fails_all (owes q) m.ledger.owed f None e within) ∙ here))
    by_value (Some i) e =
        let at = position-Some (owes q) m.ledger.owed i None e in
        ap (λ k. Some k) (s.whole.one_home i f q
        (owed_held (right_at p i) q (sym (owed_by_right p w m s i) ∙ owes_page q (owed_in m i) at.1)) held)

-- so settling the frame that holds a page is settling the one that is owed it, if there is one
home_settled : (p : PagerState) (w : PageId → Bool) (m : CloakedMemory) (f : ℕ) (q : PageId) → StandsForMemory p w m →
    held_in p f ≡ Some q → settle_frame_if (owing_frame m q) m ≡ settle f m
home_settled p w m f q s held = elim (changed_or_not (right_at p f) q held) [
  | inl owed ↦ ap (λ o. settle_frame_if o m) (found p w m f q s held owed)
  | inr none ↦ ap (λ o. settle_frame_if o m) (none_owing m q (unowed_clean p w m s f q held none))
      ∙ sym (settle_unowed f m (owed_by_right p w m s f ∙ none))
]

-- what follows the settling of the frame
abbrev later : PageId → ℕ → Bool → CloakedMemory → AfterOffer
later q g write m = unless_missed (settle_frame_if (owing_frame m q) m)
    (λ m'. compared q g write (m'.ledger.recorded q) m')

offer_later : (q : PageId) (g : ℕ) (write : Bool) (m : CloakedMemory) → owes q (owed_in m g) ≡ false →
    offer q g write m ≡ unless_missed (settle g m) (later q g write)
unfolding offer
offer_later q g write m e =
    ap (λ b. cond b (record { memory = m; ciphers = []; granted = true })
    (unless_missed (settle g m) (later q g write))) e

-- an offer when nobody holds the page and the frame is outside
offer_bare : (p : PagerState) (w : PageId → Bool) (m : CloakedMemory) (g : ℕ) (q : PageId) (write : Bool) →
    StandsForMemory p w m → held_in p g ≡ None → ((k : ℕ) → held_in p k ≢ Some q) →
    compared q g write (m.ledger.recorded q) m ≡ offer q g write m
offer_bare p w m g q write s outside nowhere =
    sym (offer_settled q g write m (owed_by_right p w m s g ∙ unheld_unowed (right_at p g) outside)
    (none_owing m q (unowed_nowhere p w m s q nowhere)))

pub unless_miss : (s : AfterSettling) (next : CloakedMemory → AfterOffer) → s.missed ≡ true →
    unless_missed s next ≡ record { memory = s.memory; ciphers = s.ciphers; granted = false }
unfolding unless_missed
unless_miss s next missed = ap (λ b. let o = next s.memory in
    cond b (record { memory = s.memory; ciphers = s.ciphers; granted = false })
    (record { memory = o.memory; ciphers = s.ciphers ++ o.ciphers; granted = o.granted })) missed

pub unless_no_miss : (s : AfterSettling) (next : CloakedMemory → AfterOffer) → s.missed ≡ false →
    unless_missed s next ≡ behind_ciphers s.ciphers (next s.memory)
unfolding unless_missed
unless_no_miss s next missed = ap (λ b. let o = next s.memory in
    cond b (record { memory = s.memory; ciphers = s.ciphers; granted = false })
    (record { memory = o.memory; ciphers = s.ciphers ++ o.ciphers; granted = o.granted })) missed

behind_nothing : (ciphers : List (ℕ × List ℕ)) (q : PageId) (g : ℕ) (write : Bool) (m : CloakedMemory) →
    record { memory = m; ciphers = ciphers; granted = false } ≡ behind_ciphers ciphers (offer_left false q g write m)
behind_nothing ciphers q g write m = λ i. record { memory = m; ciphers = sym (append-nil ciphers) i; granted = false }

behind_both : (cs ds : List (ℕ × List ℕ)) (o : AfterOffer) → behind_ciphers cs (behind_ciphers ds o) ≡ behind_ciphers (cs ++ ds) o
behind_both cs ds o = λ i. record {
  memory = o.memory;
  ciphers = sym (append_assoc cs ds o.ciphers) i;
  granted = o.granted;
}

-- The frame's draw was missing.
pub rooms_missed : (p : PagerState) (w : PageId → Bool) (m : CloakedMemory) (g : ℕ) (q : PageId) (write : Bool) →
    StandsForMemory p w m → held_in p g ≢ Some q → (settle g m).missed ≡ true →
    offer q g write m ≡ behind_ciphers (settle g m).ciphers (offer_left false q g write (settle g m).memory)
rooms_missed p w m g q write s n missed =
    offer_later q g write m (unowed_here p w m g q s n) ∙ unless_miss (settle g m) (later q g write) missed
    ∙ behind_nothing (settle g m).ciphers q g write (settle g m).memory

later_alone : (p : PagerState) (w : PageId → Bool) (m : CloakedMemory) (g : ℕ) (q : PageId) (write : Bool) →
    StandsForMemory p w m → held_in p g ≡ None → ((k : ℕ) → held_in p k ≢ Some q) →
    later q g write m ≡ offer q g write m
unfolding unless_missed
later_alone p w m g q write s outside nowhere =
    ap (λ o. unless_missed (settle_frame_if o m) (λ m'. compared q g write (m'.ledger.recorded q) m'))
    (none_owing m q (unowed_nowhere p w m s q nowhere)) ∙ offer_bare p w m g q write s outside nowhere

-- Nobody holds the page once the frame is settled.
pub rooms_alone : (p p1 : PagerState) (w w1 : PageId → Bool) (m : CloakedMemory) (g : ℕ) (q : PageId) (write : Bool) →
    StandsForMemory p w m → held_in p g ≢ Some q → (settle g m).missed ≡ false →
    StandsForMemory p1 w1 (settle g m).memory → held_in p1 g ≡ None → ((k : ℕ) → held_in p1 k ≢ Some q) →
    offer q g write m ≡ behind_ciphers (settle g m).ciphers (offer q g write (settle g m).memory)
rooms_alone p p1 w w1 m g q write s n missed s1 outside nowhere =
    offer_later q g write m (unowed_here p w m g q s n) ∙ unless_no_miss (settle g m) (later q g write) missed
    ∙ ap (λ o. behind_ciphers (settle g m).ciphers o) (later_alone p1 w1 (settle g m).memory g q write s1 outside nowhere)

-- A frame holds it, and is settled too.
pub rooms_home : (p p1 : PagerState) (w w1 : PageId → Bool) (m : CloakedMemory) (g f : ℕ) (q : PageId)
    (write room : Bool) → StandsForMemory p w m → held_in p g ≢ Some q → (settle g m).missed ≡ false →
    StandsForMemory p1 w1 (settle g m).memory → held_in p1 f ≡ Some q →
    unless_missed (settle f (settle g m).memory) (λ m'. compared q g write (m'.ledger.recorded q) m') ≡ behind_ciphers
    (settle f (settle g m).memory).ciphers (offer_left room q g write (settle f (settle g m).memory).memory) →
    offer q g write m ≡ behind_ciphers ((settle g m).ciphers ++ (settle f (settle g m).memory).ciphers)
    (offer_left room q g write (settle f (settle g m).memory).memory)
rooms_home p p1 w w1 m g f q write room s n missed s1 held rest =
    let m1 : CloakedMemory = (settle g m).memory in
    offer_later q g write m (unowed_here p w m g q s n) ∙ unless_no_miss (settle g m) (later q g write) missed
    ∙ ap (λ o. behind_ciphers (settle g m).ciphers o)
    (ap (λ x. unless_missed x (λ m'. compared q g write (m'.ledger.recorded q) m'))
    (home_settled p1 w1 m1 f q s1 held) ∙ rest)
    ∙ behind_both (settle g m).ciphers (settle f m1).ciphers (offer_left room q g write (settle f m1).memory)

pub rest_missed : (m : CloakedMemory) (g f : ℕ) (q : PageId) (write : Bool) → (settle f m).missed ≡ true →
    unless_missed (settle f m) (λ m'. compared q g write (m'.ledger.recorded q) m') ≡ behind_ciphers (settle f m).ciphers
    (offer_left false q g write (settle f m).memory)
rest_missed m g f q write missed =
    unless_miss (settle f m) _ missed ∙ behind_nothing (settle f m).ciphers q g write (settle f m).memory

pub rest_drawn : (p2 : PagerState) (w2 : PageId → Bool) (m : CloakedMemory) (g f : ℕ) (q : PageId) (write : Bool) →
    (settle f m).missed ≡ false → StandsForMemory p2 w2 (settle f m).memory → held_in p2 g ≡ None →
    ((k : ℕ) → held_in p2 k ≢ Some q) →
    unless_missed (settle f m) (λ m'. compared q g write (m'.ledger.recorded q) m') ≡ behind_ciphers (settle f m).ciphers
    (offer_left true q g write (settle f m).memory)
rest_drawn p2 w2 m g f q write missed s outside nowhere =
    unless_no_miss (settle f m) (λ m'. compared q g write (m'.ledger.recorded q) m') missed
    ∙ ap (λ o. behind_ciphers (settle f m).ciphers o) (offer_bare p2 w2 (settle f m).memory g q write s outside nowhere)

-- the frame that held the page was settled: nobody holds it
pub home_gone : (p p' : PagerState) (f : ℕ) (q : PageId) → IsWholePager p → StaysBut f p p' → held_in p' f ≡ None →
    held_in p f ≡ Some q → (k : ℕ) → held_in p' k ≢ Some q
home_gone p p' f q whole stays none held k there = elim (same_or_not k f) [
  | inl is ↦ (let no : None ≡ Some q = sym (subst (λ n. held_in p' n ≡ None) (sym is) none) ∙ there in cc)
  | inr n ↦ n (whole.one_home k f q (ap page_of (sym (stays.rights k n)) ∙ there) held)
]

-- and another frame that was outside still is
pub outside_still : (p p' : PagerState) (f g : ℕ) (q : PageId) → StaysBut f p p' → held_in p g ≡ None →
    held_in p f ≡ Some q → held_in p' g ≡ None
outside_still p p' f g q stays outside held =
    ap page_of (stays.rights g
    (λ is. (let no : None ≡ Some q = sym outside ∙ subst (λ n. held_in p n ≡ Some q) (sym is) held in cc))) ∙ outside

pub rest_by : (p2 : PagerState) (w2 : PageId → Bool) (m : CloakedMemory) (g f : ℕ) (q : PageId)
    (write missed : Bool) → (settle f m).missed ≡ missed → StandsForMemory p2 w2 (settle f m).memory →
    held_in p2 g ≡ None → ((k : ℕ) → held_in p2 k ≢ Some q) →
    unless_missed (settle f m) (λ m'. compared q g write (m'.ledger.recorded q) m') ≡ behind_ciphers (settle f m).ciphers
    (offer_left (not missed) q g write (settle f m).memory)
rest_by p2 w2 m g f q write true missed s outside nowhere = rest_missed m g f q write missed
rest_by p2 w2 m g f q write false missed s outside nowhere = rest_drawn p2 w2 m g f q write missed s outside nowhere

-- An offer that shows nothing draws nothing, and ends no reservation.

record SameIn (m n : CloakedMemory) : Type 0 where
  pub draws : n.ledger.draws ≡ m.ledger.draws
  pub missed : n.ledger.missed ≡ m.ledger.missed
  pub marks : n.marks ≡ m.marks

abbrev Same : CloakedMemory → AfterOffer → Type 0
Same m o = SameIn m o.memory

compared_same : (q : PageId) (g : ℕ) (write : Bool) (r : Option (List ℕ)) (m : CloakedMemory) →
    Same m (compared q g write r m)
unfolding compared
compared_same q g write None m = record { draws = refl; missed = refl; marks = refl }
compared_same q g write (Some c) m =
    let there = get_or m.ram g [] in
    let m' : CloakedMemory = with_comparison there c m in
    let same : SameIn m m' = record { draws = refl; missed = refl; marks = refl } in
    either (Same m) (bytes_eq there c) (record { memory = taken q g write m'; ciphers = []; granted = true })
    (record { memory = m'; ciphers = []; granted = false })
    (either (SameIn m) write (with_owed g (Some q) m') m' (record { draws = refl; missed = refl; marks = refl }) same)
    same

nothing_left : {A : Type 0} (xs ys : List A) → xs ++ ys ≡ [] → (xs ≡ []) × (ys ≡ [])
nothing_left [] ys e = (refl, e)
nothing_left (x ∷ xs) ys e = absurd (cc)

counted_nothing : (m : CloakedMemory) (s : AfterSettling) → TellsDraws m s → s.missed ≡ false → s.ciphers ≡ [] →
    (s.memory.ledger.draws ≡ m.ledger.draws) × (s.memory.ledger.missed ≡ m.ledger.missed) × (s.memory.marks ≡ m.marks)
counted_nothing m s c missed none = (
  c.draws ∙ ap (λ cs. draws_by cs s.missed m.ledger.draws) none,
  c.missed
      ∙ ap (λ b. missed_by b m.ledger.missed) missed,
  c.marks ∙ ap (λ cs. marks_by cs m.marks) none,
)

unless_same : (m : CloakedMemory) (s : AfterSettling) (next : CloakedMemory → AfterOffer) → TellsDraws m s →
    ((m' : CloakedMemory) → (next m').ciphers ≡ [] → Same m' (next m')) →
    (unless_missed s next).ciphers ≡ [] → Same m (unless_missed s next)
unless_same m s next c same none = by_value s.missed refl
  where
    by_value : (b : Bool) → s.missed ≡ b → Same m (unless_missed s next)
    by_value true e = absurd (c.shows e (sym (ap (λ (o : AfterOffer). o.ciphers) (unless_miss s next e)) ∙ none))
    by_value false e =
        let is = unless_no_miss s next e in
        let parts = nothing_left s.ciphers (next s.memory).ciphers
        (sym (ap (λ (o : AfterOffer). o.ciphers) is) ∙ none) in
        let first = counted_nothing m s c e parts.0 in
        let second = same s.memory parts.1 in
        record {
          draws = ap (λ (o : AfterOffer). o.memory.ledger.draws) is ∙ second.draws ∙ first.0;
          missed = ap (λ (o : AfterOffer). o.memory.ledger.missed) is ∙ second.missed ∙ first.1;
          marks = ap (λ (o : AfterOffer). o.memory.marks) is ∙ second.marks ∙ first.2;
        }

counts_frame_if : (f : Option ℕ) (m : CloakedMemory) → TellsDraws m (settle_frame_if f m)
counts_frame_if None m = record { draws = refl; missed = refl; marks = refl; shows = λ missed none. cc }
counts_frame_if (Some f) m = counts f m

offer_same : (q : PageId) (g : ℕ) (write : Bool) (m : CloakedMemory) → (offer q g write m).ciphers ≡ [] → Same m (offer q g write m)
offer_same q g write m none = by_owes (owes q (owed_in m g)) refl
  where
    same_by : (o : AfterOffer) → offer q g write m ≡ o → (o.ciphers ≡ [] → Same m o) → Same m (offer q g write m)
    same_by o is same = subst (λ (x : AfterOffer). Same m x) (sym is) (same (sym (ap (λ (x : AfterOffer). x.ciphers) is) ∙ none))

    by_owes : (b : Bool) → owes q (owed_in m g) ≡ b → Same m (offer q g write m)
    by_owes false e =
        same_by (unless_missed (settle g m) (later q g write)) (offer_later q g write m e)
        (unless_same m (settle g m) (later q g write) (counts g m)
        (λ m'. unless_same m' (settle_frame_if (owing_frame m' q) m')
        (λ m''. compared q g write (m''.ledger.recorded q) m'') (counts_frame_if (owing_frame m' q) m')
        (λ m'' n. compared_same q g write (m''.ledger.recorded q) m'')))
    by_owes true e =
        same_by _ (offer_at_once q g write m (owes_page q (owed_in m g) e))
        (λ n. record { draws = refl; missed = refl; marks = refl })

-- a frame that holds the page has room for it
abbrev pub rooms_self : {E : Type 0} (gave : E → E → List Piece → Type 0) (e : E) (memory : Memory) (q : PageId) (g : ℕ) (m : CloakedMemory) →
    Holds memory m → Rooms gave e e memory true q g m
rooms_self gave e memory q g m h =
    record { memory = m; ciphers = []; holds = h; emits = emits_none gave e; offers = λ write. refl }

-- Making room read no more than the whole offer shows.
pub rooms_spend : {E : Type 0} (gave : E → E → List Piece → Type 0) (e e' : E) (old new : Memory) (room : Bool) (q : PageId)
    (g : ℕ) (m : CloakedMemory) (r : Rooms gave e e' new room q g m) → Spends 0 (length r.ciphers) (spent_in old) (spent_in new) →
    (write : Bool) → Spends 0 (length (offer q g write m).ciphers) (spent_in old) (spent_in new)
rooms_spend gave e e' old new room q g m r spends write =
    let o = offer_left room q g write r.memory in
    let shown : length (offer q g write m).ciphers ≡ length r.ciphers + length o.ciphers =
    ap (λ (x : AfterOffer). length x.ciphers) (r.offers write) ∙ length-append r.ciphers o.ciphers in
    spends_more 0 0 (length r.ciphers) (length (offer q g write m).ciphers) (spent_in old) (spent_in new) (omega (arith, shown)) spends

-- What an offer of the pager results in, once there is room, as an offer of the memory around it.
pub offers_so : {E : Type 0} (gave : E → E → List Piece → Type 0) (e e' : E) (old new : Memory) (granted : Bool)
    (q : PageId) (g : ℕ) (write : Bool) (m : CloakedMemory) → (r : Rooms gave e e' old true q g m) →
    FollowsCallUnclashed old.pager new.pager ([], granted) (after_offer q g write) →
    new.stream ≡ old.stream → new.draws ≡ old.draws → new.missed ≡ old.missed → new.reservations ≡ old.reservations →
    (granted ≡ (offer q g write r.memory).granted →
    Agrees (present (held_in new.pager) (offer q g write r.memory).memory) new.shadows) →
    new.shadows.frames ≡ old.shadows.frames → length new.pager.frames ≡ length old.pager.frames →
    (offer q g write m).memory.ledger.clashed ≡ false → Offers gave e e' new granted (offer q g write m)
offers_so {E} gave e e' old new granted q g write m r moves stream draws missed marks agrees room count clash =
    let x : CloakedMemory = r.memory in
    let o : AfterOffer = offer q g write x in
    let whole : offer q g write m ≡ behind_ciphers r.ciphers o = r.offers write in
    let v = moves r.holds.wiped x r.holds.pager
    (sym (ap (λ (y : AfterOffer). y.memory.ledger.clashed) whole) ∙ clash) in
    let none : o.ciphers ≡ [] = sym (ap (λ (y : List (ℕ × List ℕ) × Bool). y.0) v.answer) in
    let ends : granted ≡ o.granted = ap (λ (y : List (ℕ × List ℕ) × Bool). y.1) v.answer in
    let same = offer_same q g write x none in
    subst (λ (y : AfterOffer). Offers gave e e' new granted y) (sym whole) (record {
      answer = ends;
      holds = record {
        wiped = r.holds.wiped;
        pager = v.stands;
        whole = λ n. r.holds.whole (sym missed ∙ n);
        stream = v.drawn ∙ r.holds.stream ∙ sym stream;
        draws = draws ∙ r.holds.draws ∙ sym same.draws;
        missed = missed ∙ r.holds.missed ∙ sym same.missed;
        agrees = agrees ends;
        room = room ∙ r.holds.room ∙ sym count;
        marks = marks ∙ r.holds.marks ∙ sym same.marks;
      };
      emits = subst (λ (cs : List (ℕ × List ℕ)). Emits gave e e' (item_pieces (cipher_items cs)))
          (sym (ap (λ cs. r.ciphers ++ cs) none ∙ append-nil r.ciphers)) r.emits;
    })

-- no draw was left in making room
pub offers_missed : {E : Type 0} (gave : E → E → List Piece → Type 0) (e e' : E) (new : Memory)
    (q : PageId) (g : ℕ) (write : Bool) (m : CloakedMemory) → Rooms gave e e' new false q g m →
    Offers gave e e' new false (offer q g write m)
offers_missed {E} gave e e' new q g write m r =
    subst (λ (y : AfterOffer). Offers gave e e' new false y) (sym (r.offers write)) (record {
      answer = refl;
      holds = r.holds;
      emits = subst (λ (cs : List (ℕ × List ℕ)). Emits gave e e' (item_pieces (cipher_items cs)))
          (sym (append-nil r.ciphers)) r.emits;
    })
