-- At a hit the walk gives what the entry says, and settles nothing.
use Rattle.std.proofs.Common.{◌≡◌, ◌≢◌, ◌∙◌, ℕ, ◌+◌, ◌*◌, ◌/◌, ◌%◌, ◌<◌, ◌≤◌, Bool, true, false, ◌&&◌, ◌||◌, cond, List, [], ◌∷◌, ◌++◌, length, Option, Some, None, Ok, Err, refl, sym, ap, subst, arith, nat_le, nat_lt, append_assoc, append-nil}
use Rattle.std.specs.Prelude.{IfSome, slice_index_or}
use Rattle.std.specs.Str.{bytes_eq}
use Rattle.std.proofs.lemmas.Bool.{le-leb, lt-ltb, and_right, not_from_true}
use Rattle.std.proofs.lemmas.Option.{none-some}
use Rattle.std.proofs.lemmas.Slice.Eq.{bytes_eq-Decides}
use Rattle.cloak_base.proofs.Pages.{same_page-self}
use Rattle.cloak_base.specs.declared.names.Frame.{Frame}
use Rattle.cloak_base.specs.declared.names.Kind.{Kind}
use Rattle.cloak_base.specs.declared.names.Kind.TheVariants.{Fetch, Load, Store}
use Rattle.cloak_base.specs.declared.names.PageId.{PageId}
use Rattle.cloak_model.specs.declared.access.Access.{Access}
use Rattle.cloak_model.specs.declared.access.Walked.{Walked}
use Rattle.cloak_model.specs.Items.{Item}
use Rattle.cloak_model.specs.Ask.{shown_word, ask_word, ask_walk, ask_in_ram, ask_translate}
use Rattle.cloak_model.proofs.WalkParts.{ask_after, ask_first}
use Rattle.cloak_model.specs.AskPages.{is_store}
use Rattle.cloak_model.specs.Asking.{Told, answered}
use Rattle.cloak_model.specs.Cloaking.{CloakedMemory, AfterSettling, AfterOffer, owed_in, owes, owing_frame, settle, settle_frame_if, with_comparison, is_clash, taken, compared, unless_missed, offer}
use Rattle.cloak_base.specs.Constants.{frame_of}
use Rattle.cloak_model.specs.Memory.{is_in_ram, value_at}
use Rattle.cloak_model.specs.Walk.{Walk, FirstWord, Ends, GoesOn, has_paging, without_paging, frame_at, first_entry, first_word, second_word, word_in_ram, walk, access_fault}
use Rattle.cloak_model.specs.World.{World, MidStep, Cloaked, noted, settled, cipher_items}
use Rattle.cloak_model.specs.Events.{Event, Touch}
use Rattle.shadow_fold.specs.declared.entry.Entry.{Entry}
use Rattle.shadow_fold.specs.Agreement.{EntryAgrees, TargetAgrees, satp_in, access_in, start_of}
use Rattle.shadow_law.specs.Walks.{listed, tables_of, moved}
use Rattle.shadow_law.specs.Agreeing.{HeldPages, present, OwedIsHeld, CleanIsShown, entry_walk, touches}
use Rattle.shadow_law.proofs.Walks.{Leads, Bare, One, Two, listed_one, listed_two, walk_leads, walk_of_page}
use Rattle.shadow_law.proofs.Born.{page_of_access, va_of_access}
use Rattle.cloak_model.proofs.Owing.{owing_at}
use Rattle.cloak_model.proofs.Settling.{settle_unowed}

-- A frame that is owed nothing is settled by doing nothing.

-- the memory with these events more
abbrev after : List Event → MidStep → MidStep
after events c = record c { events = c.events ++ events }

still : (f : ℕ) (c : MidStep) → owed_in c.memory f ≡ None → settled f (Cloaked c) ≡ Cloaked (after (Touch f ∷ []) c)
still f c clean =
    ap (λ (s : AfterSettling). Cloaked (record (after (Touch f ∷ []) c) { memory = s.memory; items = c.items ++ cipher_items s.ciphers })) (settle_unowed f c.memory clean)
    ∙ ap (λ (items : List Item). Cloaked (record (after (Touch f ∷ []) c) { items = items })) (append-nil c.items)

word_still : (at : ℕ) (c : MidStep) → is_in_ram c.memory.ram at ≡ true → owed_in c.memory (frame_of at) ≡ None
    → ask_word at (Cloaked c) ≡ record { answer = word_in_ram c.memory.ram at; world = Cloaked (after (Touch (frame_of at) ∷ []) c) }
unfolding ask_word
word_still at c inside clean =
    let then = after (Touch (frame_of at) ∷ []) c in
    ap (λ (b : Bool). cond b (shown_word at (settled (frame_of at) (Cloaked c))) (let t : Told (Option ℕ) = record { answer = None; world = Cloaked c } in t)) inside
    ∙ ap (λ (w : World). shown_word at w) (still (frame_of at) c clean)
    ∙ ap (λ (b : Bool). let t : Told (Option ℕ) = record { answer = cond b (Some (value_at c.memory.ram at 4)) None; world = Cloaked then } in t) (sym inside)

-- the table frames of a walk are owed nothing
record AreClean (m : CloakedMemory) (w : Walked) : Type 0 where
  pub first : IfSome w.pt1 (λ f. owed_in m f.0 ≡ None)
  pub second : IfSome w.pt0 (λ f. owed_in m f.0 ≡ None)

clean_at : (m : CloakedMemory) (o : Option Frame) (f : Frame) → IfSome o (λ f. owed_in m f.0 ≡ None) → o ≡ Some f → owed_in m f.0 ≡ None
clean_at m o f clean is = subst (λ o. IfSome o (λ (f : Frame). owed_in m f.0 ≡ None)) is clean

paged_if : (satp : ℕ) (a : Access) (c : MidStep) → has_paging satp ≡ true → ask_walk satp a (Cloaked c) ≡ ask_first a (first_entry satp a.va) (Cloaked c)
unfolding ask_walk
paged_if satp a c paging =
    ap (λ (b : Bool). cond b (ask_first a (first_entry satp a.va) (Cloaked c)) (let t : Told Walk = record { answer = without_paging a; world = Cloaked c } in t)) paging

first_still : (satp : ℕ) (a : Access) (c : MidStep) (first : FirstWord) → has_paging satp ≡ true
    → is_in_ram c.memory.ram (first_entry satp a.va) ≡ true → owed_in c.memory (frame_of (first_entry satp a.va)) ≡ None
    → first_word a (first_entry satp a.va) (word_in_ram c.memory.ram (first_entry satp a.va)) ≡ first
    → ask_walk satp a (Cloaked c) ≡ ask_after a (first_entry satp a.va) first (Cloaked (after (Touch (frame_of (first_entry satp a.va)) ∷ []) c))
first_still satp a c first paging inside clean word =
    let at1 = first_entry satp a.va in
    paged_if satp a c paging
    ∙ ap (λ (t : Told (Option ℕ)). ask_after a at1 (first_word a at1 t.answer) t.world) (word_still at1 c inside clean)
    ∙ ap (λ f. ask_after a at1 f (Cloaked (after (Touch (frame_of at1) ∷ []) c))) word

leads_still : (satp : ℕ) (a : Access) (c : MidStep) (w : Walked) → AreClean c.memory w → Leads c.memory.ram satp a w
    → ask_walk satp a (Cloaked c) ≡ record { answer = Ok w; world = Cloaked (after (touches (tables_of w)) c) }
unfolding ask_walk
leads_still satp a c w clean (Bare paging is) =
    ap (λ (b : Bool). cond b (ask_first a (first_entry satp a.va) (Cloaked c)) (let t : Told Walk = record { answer = without_paging a; world = Cloaked c } in t)) paging
    ∙ ap (λ (events : List Event). let t : Told Walk = record { answer = without_paging a; world = Cloaked (record c { events = events }) } in t) (sym (append-nil c.events))
    ∙ ap (λ (v : Walked). let t : Told Walk = record { answer = Ok v; world = Cloaked (after (touches (tables_of v)) c) } in t) (sym is)
leads_still satp a c w clean (One paging h) =
    first_still satp a c (Ends (Ok w)) paging h.inside (clean_at c.memory w.pt1 (frame_at (first_entry satp a.va)) clean.first h.pt1) h.word
    ∙ ap (λ (fs : List ℕ). let t : Told Walk = record { answer = Ok w; world = Cloaked (after (touches fs) c) } in t) (sym (listed_one w.pt1 w.pt0 _ h.pt1 h.pt0))
leads_still satp a c w clean (Two paging h) =
    let at1 = first_entry satp a.va in
    let c' = after (Touch (frame_of at1) ∷ []) c in
    first_still satp a c (GoesOn h.at0) paging h.inside (clean_at c.memory w.pt1 (frame_at at1) clean.first h.pt1) h.word
    ∙ ap (λ (t : Told (Option ℕ)). let u : Told Walk = record { answer = second_word a at1 h.at0 t.answer; world = t.world } in u)
    (word_still h.at0 c' h.inside0 (clean_at c.memory w.pt0 (frame_at h.at0) clean.second h.pt0))
    ∙ ap (λ (v : Walk). let u : Told Walk = record { answer = v; world = Cloaked (after (Touch (frame_of h.at0) ∷ []) c') } in u) h.word0
    ∙ ap (λ (events : List Event). let u : Told Walk = record { answer = Ok w; world = Cloaked (record c { events = events }) } in u) (append_assoc c.events (Touch (frame_of at1) ∷ []) (Touch (frame_of h.at0) ∷ []))
    ∙ ap (λ (fs : List ℕ). let u : Told Walk = record { answer = Ok w; world = Cloaked (after (touches fs) c) } in u) (sym (listed_two w.pt1 w.pt0 _ _ h.pt1 h.pt0))

-- what is not held is owed nothing
not_owed : (held : HeldPages) (m : CloakedMemory) (f : ℕ) → OwedIsHeld held m → held f ≡ None → owed_in m f ≡ None
not_owed held m f owed out = by_owed (owed_in m f) refl
  where
    by_owed : (o : Option PageId) → owed_in m f ≡ o → o ≡ None
    by_owed None is = refl
    by_owed (Some q) is = absurd (none-some q (sym out ∙ owed f q is))

clean_tables : (held : HeldPages) (m : CloakedMemory) (o : Option Frame) → OwedIsHeld held m → IfSome o (λ f. held f.0 ≡ None) → IfSome o (λ f. owed_in m f.0 ≡ None)
clean_tables held m None owed out = tt
clean_tables held m (Some f) owed out = not_owed held m f.0 owed out

below_frames : (n f k : ℕ) → f < n → k < 4096 → (nat_le 0x80000000 (start_of f + k) && nat_lt (frame_of (start_of f + k)) n) ≡ true
below_frames n f k low small =
    let from : 0x80000000 ≤ start_of f + k = omega arith in
    let there : frame_of (start_of f + k) < n = omega (arith, low, small) in
    λ i. le-leb 0x80000000 (start_of f + k) from i && lt-ltb (frame_of (start_of f + k)) n there i

-- the walk of an access by an entry that agrees
hit_leads : (held : HeldPages) (m : CloakedMemory) (e : Entry) (va : ℕ) → EntryAgrees (present held m) e → va / 4096 ≡ e.page
    → walk m.ram (satp_in e.regime) (access_in e.regime va e.kind) ≡ Ok (entry_walk e va)
hit_leads held m e va agrees page =
    let a = access_in e.regime va e.kind in
    let satp = satp_in e.regime in
    let k = va % 4096 in
    walk_of_page m.ram satp a
    ∙ (λ i. moved (va_of_access e.regime va e.kind i % 4096) (walk m.ram satp (page_of_access e.regime va e.kind i)))
    ∙ ap (λ n. moved k (walk m.ram satp (access_in e.regime (4096 * n) e.kind))) page
    ∙ ap (moved k) agrees.walks

-- what is asked at a hit is the walk of the entry, or the fault if it leads to no address of RAM
pub hit_asks : (held : HeldPages) (c : MidStep) (e : Entry) (va : ℕ) (b : Bool) → OwedIsHeld held c.memory
    → EntryAgrees (present held c.memory) e → va / 4096 ≡ e.page → is_in_ram c.memory.ram (start_of e.frame.0 + va % 4096) ≡ b
    → ask_translate (satp_in e.regime) (access_in e.regime va e.kind) (Cloaked c)
    ≡ record {
      answer = cond b (Ok (entry_walk e va)) (Err (access_fault (access_in e.regime va e.kind).kind));
      world = noted (touches (listed e.pt1 ++ listed e.pt0)) (Cloaked c);
    }
unfolding ask_translate ask_in_ram
hit_asks held c e va b owed agrees page inside =
    let a = access_in e.regime va e.kind in
    let satp = satp_in e.regime in
    let m = c.memory in
    let w = entry_walk e va in
    let clean : AreClean m w = record { first = clean_tables held m e.pt1 owed agrees.first; second = clean_tables held m e.pt0 owed agrees.second } in
    ap (λ (t : Told Walk). ask_in_ram a t.answer t.world) (leads_still satp a c w clean (walk_leads m.ram satp a w (hit_leads held m e va agrees page)))
    ∙ ap (λ (b : Bool). answered (cond b (Ok w) (Err (access_fault a.kind))) (Cloaked (after (touches (tables_of w)) c))) inside

pub hit_is_walk : (held : HeldPages) (c : MidStep) (e : Entry) (va : ℕ) → OwedIsHeld held c.memory
    → EntryAgrees (present held c.memory) e → va / 4096 ≡ e.page → e.frame.0 < length c.memory.ram
    → ask_translate (satp_in e.regime) (access_in e.regime va e.kind) (Cloaked c)
    ≡ record { answer = Ok (entry_walk e va); world = noted (touches (listed e.pt1 ++ listed e.pt0)) (Cloaked c) }
hit_is_walk held c e va owed agrees page low =
    let k = va % 4096 in
    let small : k < 4096 = omega arith in
    hit_asks held c e va true owed agrees page (below_frames (length c.memory.ram) e.frame.0 k low small)

-- The offer of the page that a frame holds.

-- the end of an offer that shows nothing
abbrev pub silent_offer : Bool → CloakedMemory → AfterOffer
silent_offer granted m = record { memory = m; ciphers = []; granted = granted }

pub owed_offer : (q : PageId) (g : ℕ) (write : Bool) (m : CloakedMemory) → owed_in m g ≡ Some q
    → offer q g write m ≡ silent_offer true m
unfolding offer
owed_offer q g write m is =
    ap (λ (b : Bool). cond b (silent_offer true m)
    (unless_missed (settle g m) (λ m'. unless_missed (settle_frame_if (owing_frame m' q) m') (λ m''. compared q g write (m''.ledger.recorded q) m''))))
    (ap (owes q) is ∙ same_page-self q)

-- no frame is owed the page
pub no_owing : (q : PageId) (m : CloakedMemory) → ((g : ℕ) → owed_in m g ≢ Some q) → owing_frame m q ≡ None
no_owing q m none = by_found (owing_frame m q) refl
  where
    by_found : (o : Option ℕ) → owing_frame m q ≡ o → o ≡ None
    by_found None is = refl
    by_found (Some f) is = absurd (none f (owing_at m q f is))

self_equal : (c : List ℕ) → bytes_eq c c ≡ true
self_equal c = (bytes_eq-Decides c c).1 refl

no_clash : (c : List ℕ) → is_clash c c ≡ false
no_clash c = and_right _ _ (not_from_true (bytes_eq c c) (self_equal c))

or_none : (b : Bool) → (b || false) ≡ b
or_none true = refl
or_none false = refl

same_comparison : (c : List ℕ) (m : CloakedMemory) → with_comparison c c m ≡ m
same_comparison c m =
    ap (λ (b : Bool). let n : CloakedMemory = record m { ledger = record m.ledger { clashed = b } } in n) (ap (λ b. m.ledger.clashed || b) (no_clash c) ∙ or_none m.ledger.clashed)

clean_compared : (q : PageId) (g : ℕ) (write : Bool) (m : CloakedMemory) → m.ledger.recorded q ≡ Some (slice_index_or m.ram g [])
    → compared q g write (m.ledger.recorded q) m ≡ silent_offer true (taken q g write m)
unfolding compared
clean_compared q g write m shown =
    let there : List ℕ = slice_index_or m.ram g [] in
    let m' : CloakedMemory = with_comparison there there m in
    ap (λ (o : Option (List ℕ)). compared q g write o m) shown
    ∙ ap (λ (b : Bool). cond b (silent_offer true (taken q g write m')) (silent_offer false m')) (self_equal there)
    ∙ ap (λ (n : CloakedMemory). silent_offer true (taken q g write n)) (same_comparison there m)

pub clean_offer : (q : PageId) (g : ℕ) (write : Bool) (m : CloakedMemory) → owed_in m g ≡ None → ((f : ℕ) → owed_in m f ≢ Some q)
    → m.ledger.recorded q ≡ Some (slice_index_or m.ram g [])
    → offer q g write m ≡ silent_offer true (taken q g write m)
unfolding offer unless_missed
clean_offer q g write m clean newest shown =
    let last : CloakedMemory → AfterOffer = λ m''. compared q g write (m''.ledger.recorded q) m'' in
    let second : CloakedMemory → AfterOffer = λ m'. unless_missed (settle_frame_if (owing_frame m' q) m') last in
    ap (λ (o : Option PageId). cond (owes q o) (silent_offer true m) (unless_missed (settle g m) second)) clean
    ∙ (ap (λ (s : AfterSettling). unless_missed s second) (settle_unowed g m clean)
    ∙ (ap (λ (o : Option ℕ). unless_missed (record { memory = m; ciphers = []; missed = false }) (λ (m' : CloakedMemory). unless_missed (settle_frame_if o m') last)) (no_owing q m newest)
    ∙ clean_compared q g write m shown))

pub hit_is_offer : (held : HeldPages) (m : CloakedMemory) (e : Entry) (q : PageId) → OwedIsHeld held m → CleanIsShown held m
    → EntryAgrees (present held m) e → e.cloaked ≡ Some q → offer q e.frame.0 (is_store e.kind) m ≡ silent_offer true m
hit_is_offer held m e q owed clean agrees is =
    let target : TargetAgrees (present held m) e (Some q) = subst (TargetAgrees (present held m) e) is agrees.target in
    by_kind e.kind refl target.0 target.1 (owed_in m e.frame.0) refl
  where
    g : ℕ
    g = e.frame.0

    by_kind : (kind : Kind) → e.kind ≡ kind → held g ≡ Some q → (e.kind ≡ Store → owed_in m g ≡ Some q) → (o : Option PageId) → owed_in m g ≡ o
        → offer q g (is_store e.kind) m ≡ silent_offer true m
    by_kind kind k here stored (Some p) there =
        owed_offer q g (is_store e.kind) m (there ∙ sym (owed g p there) ∙ here)
    by_kind Store k here stored None there = owed_offer q g (is_store e.kind) m (stored k)
    by_kind Fetch k here stored None there = ap (λ x. offer q g (is_store x) m) k ∙ clean_offer q g false m there (λ f. clean.newest g f q here there) (clean.shown g q here there)
    by_kind Load k here stored None there = ap (λ x. offer q g (is_store x) m) k ∙ clean_offer q g false m there (λ f. clean.newest g f q here there) (clean.shown g q here there)
