-- Agreement of whole tables, from that of single entries.
use Rattle.std.proofs.Common.{◌≡◌, ◌≢◌, ◌∙◌, ℕ, inl, inr, Bool, true, false, ◌||◌, cond, List, [], Option, Some, None, refl, sym, ap, subst}
use Rattle.std.specs.Prelude.{slice_index_or}
use Rattle.std.specs.List.{All}
use Rattle.std.specs.Str.{bytes_eq}
use Rattle.std.proofs.lemmas.Bool.{false≢true, or_parts}
use Rattle.std.proofs.lemmas.Option.{none-some}
use Rattle.cloak_base.specs.Pages.{same_page}
use Rattle.cloak_base.proofs.Pages.{same_page_tells}
use Rattle.cloak_base.specs.declared.names.PageId.{PageId}
use Rattle.cloak_base.specs.declared.names.SpaceId.{SpaceId}
use Rattle.cloak_model.specs.Contexts.{same_space}
use Rattle.cloak_model.specs.Cloaking.{CloakedMemory, AfterSettling, AfterOffer, owed_in, with_shown_frame, with_owed, owes, owing_frame, settle, settle_frame_if, with_comparison, taken, compared, unless_missed, offer}
use Rattle.shadow_fold.specs.declared.entry.Entry.{Entry}
use Rattle.shadow_fold.specs.Agreement.{EntryAgrees, IsMapped}
use Rattle.shadow_fold.specs.Entries.{is_target, is_table, is_of_space}
use Rattle.shadow_fold.specs.Fold.{holds}
use Rattle.shadow_fold.specs.Keeping.{Agrees}
use Rattle.shadow_fold.specs.Table.{Table, ending, killed}
use Rattle.shadow_fold.proofs.Agreeing.{keeps_ending}
use Rattle.shadow_fold.proofs.Follows.{ending_twice, ending_none}
use Rattle.shadow_law.specs.Agreeing.{HeldPages, present, frame, OwedIsHeld, CleanIsShown, ChangeKeeps}
use Rattle.shadow_law.proofs.Changes.{EachFrame, Spared, all_parts, map_parts, keeps, not_part, offer_spares, offer_count, write_keeps, touch_keeps, remap_keeps}
use Rattle.shadow_law.proofs.Hits.{owed_offer, no_owing, clean_offer, silent_offer}
use Rattle.cloak_model.proofs.Settling.{settle_unowed}

-- all entries keep it if none ends
keeps_all : (P Q : Entry → Type 0) (t : Table) → ((e : Entry) → P e → Q e) → All P t.live → All Q t.live
keeps_all P Q t step all = subst (λ (u : Table). All Q u.live) (ending_none t) (keeps_ending P Q (λ e. false) t (λ e stays. step e) all)

-- all keep it that lead neither to a frame nor through it
keeps_killed : (P Q : Entry → Type 0) (f : ℕ) (t : Table) → ((e : Entry) → is_target (frame f) e ≡ false → is_table (frame f) e ≡ false → P e → Q e)
    → All P t.live → All Q (killed (frame f) t).live
keeps_killed P Q f t step all =
    subst (λ (u : Table). All Q u.live) (sym (ending_twice (is_target (frame f)) (is_table (frame f)) t))
    (keeps_ending P Q (λ e. is_target (frame f) e || is_table (frame f) e) t
    (λ e stays. let h = or_parts (is_target (frame f) e) (is_table (frame f) e) stays in step e h.0 h.1) all)

pub write_agrees : (held : HeldPages) (m : CloakedMemory) (f : ℕ) (bytes : List ℕ) (t : Table) → Agrees (present held m) t
    → Agrees (present held (with_shown_frame f bytes m)) (ending (is_table (frame f)) t)
write_agrees held m f bytes t = keeps_ending (EntryAgrees (present held m)) (EntryAgrees (present held (with_shown_frame f bytes m))) (is_table (frame f)) t
    (λ e out. write_keeps held m f bytes e out)

pub touch_agrees : (held held' : HeldPages) (m : CloakedMemory) (f : ℕ) (t : Table) → ((x : ℕ) → x ≢ f → held' x ≡ held x)
    → Agrees (present held m) t → Agrees (present held' (settle f m).memory) (killed (frame f) t)
touch_agrees held held' m f t same = keeps_killed (EntryAgrees (present held m)) (EntryAgrees (present held' (settle f m).memory)) f t
    (λ e target table. touch_keeps held held' m f e same target table)

-- Offers.

pub held_page : (q : PageId) (o : Option PageId) → holds (same_page q) o ≡ true → o ≡ Some q
held_page q None is = absurd (false≢true is)
held_page q (Some p) is = elim (same_page_tells q p) [
  | inl told ↦ ap Some (sym told.1)
  | inr told ↦ absurd (false≢true (sym told.0 ∙ is))
]

pub not_holding_page : (q : PageId) (o : Option PageId) → o ≢ Some q → holds (same_page q) o ≡ false
not_holding_page q o other = by_test (holds (same_page q) o) refl
  where
    by_test : (b : Bool) → holds (same_page q) o ≡ b → b ≡ false
    by_test true is = absurd (other (held_page q o is))
    by_test false is = refl

pub grant_agrees : (held held' : HeldPages) (m : CloakedMemory) (q : PageId) (g : ℕ) (write : Bool) (t : Table) → OwedIsHeld held m
    → ((x : ℕ) → held x ≡ Some q → x ≡ g) → ((x : ℕ) → x ≢ g → held' x ≡ held x)
    → Agrees (present held m) t → Agrees (present held' (offer q g write m).memory) (killed (frame g) t)
grant_agrees held held' m q g write t owed alone same =
    keeps_killed (EntryAgrees (present held m)) (EntryAgrees (present held' (offer q g write m).memory)) g t
    (λ e target table. keeps held held' m (offer q g write m).memory e (offer_count q g write m)
    (map_parts (λ x. x ≡ g → ⊥) (λ x. Spared x m (offer q g write m).memory × (held' x ≡ held x)) e
    (λ x other. (
      offer_spares q x held g write m owed other (not_holding_page q (held x) (λ is. other (alone x is))),
      same x other,
    )) (not_part g e target table)))

-- what is compared and not granted changes nothing of a frame
refused_spares : (q : PageId) (x g : ℕ) (write : Bool) (o : Option (List ℕ)) (m : CloakedMemory)
    → (compared q g write o m).granted ≡ false → Spared x m (compared q g write o m).memory
unfolding compared
refused_spares q x g write None m fails = absurd cc
refused_spares q x g write (Some c) m fails = by_test (bytes_eq there c) fails
  where
    there : List ℕ
    there = slice_index_or m.ram g []

    m' : CloakedMemory
    m' = with_comparison there c m

    compared_by : Bool → AfterOffer
    compared_by b = cond b (silent_offer true (taken q g write m')) (silent_offer false m')

    by_test : (b : Bool) → (compared_by b).granted ≡ false → Spared x m (compared_by b).memory
    by_test true fails = absurd cc
    by_test false fails = record { ram = refl; owed = refl }

-- an offer whose frame is owed nothing, and whose page no frame is owed, is the comparison
plain_offer : (q : PageId) (g : ℕ) (write : Bool) (m : CloakedMemory) → owed_in m g ≡ None → ((f : ℕ) → owed_in m f ≢ Some q)
    → offer q g write m ≡ compared q g write (m.ledger.recorded q) m
unfolding offer unless_missed
plain_offer q g write m clean none =
    let last : CloakedMemory → AfterOffer = λ m''. compared q g write (m''.ledger.recorded q) m'' in
    let second : CloakedMemory → AfterOffer = λ m'. unless_missed (settle_frame_if (owing_frame m' q) m') last in
    ap (λ (o : Option PageId). cond (owes q o) (silent_offer true m) (unless_missed (settle g m) second)) clean
    ∙ (ap (λ (s : AfterSettling). unless_missed s second) (settle_unowed g m clean)
    ∙ ap (λ (o : Option ℕ). unless_missed (record { memory = m; ciphers = []; missed = false }) (λ (m' : CloakedMemory). unless_missed (settle_frame_if o m') last)) (no_owing q m none))

pub refuse_agrees : (held : HeldPages) (m : CloakedMemory) (q : PageId) (g : ℕ) (write : Bool) (t : Table) → OwedIsHeld held m
    → ((x : ℕ) → held x ≢ Some q) → held g ≡ None → (offer q g write m).granted ≡ false
    → Agrees (present held m) t → Agrees (present held (offer q g write m).memory) t
refuse_agrees held m q g write t owed none out fails =
    keeps_all (EntryAgrees (present held m)) (EntryAgrees (present held (offer q g write m).memory)) t
    (λ e. keeps held held m (offer q g write m).memory e (offer_count q g write m) (every e))
  where
    clean : (o : Option PageId) → owed_in m g ≡ o → o ≡ None
    clean None is = refl
    clean (Some p) is = absurd (none-some p (sym out ∙ owed g p is))

    is_plain : offer q g write m ≡ compared q g write (m.ledger.recorded q) m
    is_plain = plain_offer q g write m (clean (owed_in m g) refl) (λ f is. none f (owed f q is))

    spares : (x : ℕ) → Spared x m (offer q g write m).memory
    spares x = subst (λ (o : AfterOffer). Spared x m o.memory) (sym is_plain)
        (refused_spares q x g write (m.ledger.recorded q) m
        (ap (λ (o : AfterOffer). o.granted) (sym is_plain) ∙ fails))

    every : (e : Entry) → EachFrame (λ x. Spared x m (offer q g write m).memory × (held x ≡ held x)) e
    every e = all_parts (λ x. Spared x m (offer q g write m).memory × (held x ≡ held x)) e (λ x. (spares x, refl))

-- the offer of the page that the frame holds: at most the frame is owed it then
held_offer : (q : PageId) (g : ℕ) (write : Bool) (m : CloakedMemory) (held : HeldPages) → OwedIsHeld held m → CleanIsShown held m → held g ≡ Some q
    → (P : CloakedMemory → Type 0) → P m → P (with_owed g (Some q) m) → P (offer q g write m).memory
held_offer q g write m held owed clean here P stays changed = by_owed (owed_in m g) refl
  where
    by_owed : (o : Option PageId) → owed_in m g ≡ o → P (offer q g write m).memory
    by_owed (Some p) is =
        subst (λ (o : AfterOffer). P o.memory) (sym (owed_offer q g write m (is ∙ sym (owed g p is) ∙ here))) stays
    by_owed None is = subst (λ (o : AfterOffer). P o.memory) (sym (clean_offer q g write m is (λ f. clean.newest g f q here is) (clean.shown g q here is))) (by_write write)
      where
        by_write : (w : Bool) → P (taken q g w m)
        by_write true = changed
        by_write false = stays

pub held_agrees : ChangeKeeps → (held : HeldPages) (m : CloakedMemory) (q : PageId) (g : ℕ) (write : Bool) (t : Table) → OwedIsHeld held m
    → CleanIsShown held m → held g ≡ Some q
    → Agrees (present held m) t → Agrees (present held (offer q g write m).memory) t
held_agrees change held m q g write t owed clean here =
    keeps_all (EntryAgrees (present held m)) (EntryAgrees (present held (offer q g write m).memory)) t
    (λ e agrees. held_offer q g write m held owed clean here (λ n. EntryAgrees (present held n) e) agrees (change held m q g e here agrees))

pub remap_agrees : (mapped mapped' : SpaceId → ℕ → Option PageId) (s : SpaceId) (t : Table)
    → ((u : SpaceId) (va : ℕ) → same_space u s ≡ false → mapped' u va ≡ mapped u va)
    → All (IsMapped mapped) t.live → All (IsMapped mapped') (ending (is_of_space s) t).live
remap_agrees mapped mapped' s t same = keeps_ending (IsMapped mapped) (IsMapped mapped') (is_of_space s) t
    (λ e out. remap_keeps mapped mapped' s e out same)
