-- What a miss makes live agrees: its walk stays as it was, after what the access does then.
use Rattle.std.proofs.Common.{◌≡◌, ◌∙◌, ℕ, ◌/◌, inl, inr, Bool, true, false, List, length, Option, Some, None, Ok, refl, sym, ap, subst}
use Rattle.std.specs.Prelude.{IfSome}
use Rattle.std.specs.List.{All}
use Rattle.std.proofs.lemmas.Bool.{cases_eq, or_parts}
use Rattle.std.proofs.lemmas.Option.{none-some}
use Rattle.cloak_base.specs.Pages.{same_page}
use Rattle.cloak_base.specs.declared.names.Frame.{Frame}
use Rattle.cloak_base.specs.declared.names.Kind.{Kind}
use Rattle.cloak_base.specs.declared.names.Kind.TheVariants.{Store}
use Rattle.cloak_base.specs.declared.names.PageId.{PageId}
use Rattle.cloak_model.specs.declared.access.Access.{Access}
use Rattle.cloak_model.specs.declared.access.Walked.{Walked}
use Rattle.cloak_model.specs.Ask.{ask_walk}
use Rattle.cloak_model.specs.AskPages.{is_store}
use Rattle.cloak_model.specs.Asking.{Told}
use Rattle.cloak_model.specs.Cloaking.{CloakedMemory, AfterSettling, owed_in, settle, offer}
use Rattle.cloak_base.specs.Constants.{frame_of, is_in_frames}
use Rattle.cloak_model.specs.Memory.{is_in_ram}
use Rattle.cloak_model.specs.Walk.{Walk, walk}
use Rattle.cloak_model.specs.World.{World, MidStep, Flat, Cloaked, Alone, unnoted}
use Rattle.settling_ahead.proofs.Plans.{answer_in, along, paid, follow-cloaked, count_along}
use Rattle.settling_ahead.proofs.Planning.{plan_walk, walk_planned}
use Rattle.shadow_fold.specs.declared.entry.Entry.{Entry}
use Rattle.shadow_fold.specs.declared.entry.Regime.{Regime}
use Rattle.shadow_fold.specs.Agreement.{EntryAgrees, satp_in, access_in}
use Rattle.shadow_fold.specs.Entries.{IsWithin, is_frame, is_table}
use Rattle.shadow_fold.specs.Fold.{holds, entry_of}
use Rattle.shadow_fold.specs.Following.{AreBirthCalls}
use Rattle.shadow_fold.specs.Table.{Table}
use Rattle.shadow_fold.proofs.Agreeing.{keeps_insert}
use Rattle.shadow_law.specs.Walks.{IsSame}
use Rattle.shadow_law.specs.Agreeing.{HeldPages, present, frame, OwedIsHeld, AreOutside}
use Rattle.shadow_law.specs.Misses.{StayOutsideBut}
use Rattle.shadow_law.proofs.Walks.{walk_kept, walk_within, low_frame}
use Rattle.shadow_law.proofs.Changes.{Spared, map_some, both_some, not_frame}
use Rattle.shadow_law.proofs.Changes.{settle_spares, offer_spares, offer_count}
use Rattle.shadow_law.proofs.Born.{born_agrees}
use Rattle.cloak_model.proofs.Settling.{settle_unowed, count_settle}
use Rattle.settling_ahead.proofs.Reached.{walk_answer}

-- A walk by its words, each settled first.

-- a world that is this memory but for its events
quiet_memory : (w : World) (d : MidStep) → unnoted w ≡ unnoted (Cloaked d) → (c' : MidStep) × (w ≡ Cloaked c') × (c'.memory ≡ d.memory)
quiet_memory (Flat ram) d is = absurd cc
quiet_memory (Alone handed) d is = absurd cc
quiet_memory (Cloaked c') d is = (c', refl, ap (λ (w : World). memory_in w d.memory) is)
  where
    memory_in : World → CloakedMemory → CloakedMemory
    memory_in (Flat ram) m = m
    memory_in (Cloaked c) m = c.memory
    memory_in (Alone handed) m = m

pub asked_walk : (satp : ℕ) (a : Access) (c : MidStep) → let told = ask_walk satp a (Cloaked c) in
    (c' : MidStep) × (told.world ≡ Cloaked c') × (walk c'.memory.ram satp a ≡ told.answer)
asked_walk satp a c =
    let p = plan_walk (length c.memory.ram) satp a in
    let end = along p c.memory in
    let told = walk_planned (length c.memory.ram) satp a (Cloaked c) refl ∙ follow-cloaked p c in
    let left = quiet_memory (ask_walk satp a (Cloaked c)).world (paid c end) (ap (λ (t : Told Walk). t.world) told) in
    let answers : answer_in p end.memory.ram ≡ walk end.memory.ram satp a =
    ap (λ n. answer_in (plan_walk n satp a) end.memory.ram) (sym (count_along p c.memory)) ∙ walk_answer end.memory.ram satp a in (
      left.0,
      left.1,
      ap (λ (m : CloakedMemory). walk m.ram satp a) left.2 ∙ sym answers ∙ sym (ap (λ (t : Told Walk). t.answer) told),
    )

-- A walk whose table frames are spared.

walk_stays : (m m' : CloakedMemory) (satp : ℕ) (a : Access) (w : Walked) → length m'.ram ≡ length m.ram
    → IfSome w.pt1 (λ f. Spared f.0 m m') → IfSome w.pt0 (λ f. Spared f.0 m m')
    → walk m.ram satp a ≡ Ok w → walk m'.ram satp a ≡ Ok w
walk_stays m m' satp a w count first second = walk_kept m.ram m'.ram satp a w (record {
  count = count;
  first = map_some (λ f. Spared f.0 m m') (IsSame m.ram m'.ram) w.pt1 (λ f s. s.ram) first;
  second = map_some (λ f. Spared f.0 m m') (IsSame m.ram m'.ram) w.pt0 (λ f s. s.ram) second;
})

pub settled_walk : (held : HeldPages) (m : CloakedMemory) (f satp : ℕ) (a : Access) (w : Walked) → OwedIsHeld held m
    → AreOutside held w → walk m.ram satp a ≡ Ok w → walk (settle f m).memory.ram satp a ≡ Ok w
settled_walk held m f satp a w owed out leads = by_owed (owed_in m f) refl
  where
    m' : CloakedMemory
    m' = (settle f m).memory

    spared : (q : PageId) → owed_in m f ≡ Some q → (o : Option Frame) → IfSome o (λ x. held x.0 ≡ None)
        → IfSome o (λ x. Spared x.0 m m')
    spared q is o = map_some (λ x. held x.0 ≡ None) (λ x. Spared x.0 m m') o
        (λ x none. settle_spares f x.0 m (λ same. none-some q (sym none ∙ ap held same ∙ owed f q is)))

    by_owed : (o : Option PageId) → owed_in m f ≡ o → walk (settle f m).memory.ram satp a ≡ Ok w
    by_owed None is = subst (λ (s : AfterSettling). walk s.memory.ram satp a ≡ Ok w) (sym (settle_unowed f m is)) leads
    by_owed (Some q) is =
        walk_stays m m' satp a w (count_settle f m) (spared q is w.pt1 out.first) (spared q is w.pt0 out.second) leads

pub offered_walk : (held : HeldPages) (m : CloakedMemory) (q : PageId) (g : ℕ) (write : Bool) (satp : ℕ) (a : Access) (w : Walked)
    → OwedIsHeld held m → AreOutside held w → is_frame (frame g) w.pt1 ≡ false → is_frame (frame g) w.pt0 ≡ false
    → walk m.ram satp a ≡ Ok w → walk (offer q g write m).memory.ram satp a ≡ Ok w
offered_walk held m q g write satp a w owed out other1 other0 =
    walk_stays m m' satp a w (offer_count q g write m) (spared w.pt1 out.first other1) (spared w.pt0 out.second other0)
  where
    m' : CloakedMemory
    m' = (offer q g write m).memory

    spared : (o : Option Frame) → IfSome o (λ x. held x.0 ≡ None) → is_frame (frame g) o ≡ false → IfSome o (λ x. Spared x.0 m m')
    spared o none other = both_some (λ x. held x.0 ≡ None) (λ x. x.0 ≡ g → ⊥) (λ x. Spared x.0 m m') o
        (λ x h k. offer_spares q x.0 held g write m owed k (ap (holds (same_page q)) h)) none (not_frame g o other)

-- The entry of the walk.

pub open_entry_agrees : (held held' : HeldPages) (m : CloakedMemory) (regime : Regime) (va : ℕ) (kind : Kind) (w : Walked)
    → walk m.ram (satp_in regime) (access_in regime va kind) ≡ Ok w → is_in_ram m.ram w.pa ≡ true → OwedIsHeld held m
    → AreOutside held w → StayOutsideBut (frame_of w.pa) held held' → held' (frame_of w.pa) ≡ None
    → let m' = (settle (frame_of w.pa) m).memory in EntryAgrees (present held' m') (entry_of regime (va / 4096) kind w None)
open_entry_agrees held held' m regime va kind w leads inside owed out stay target =
    born_agrees (present held' m') regime va kind w None
    (settled_walk held m (frame_of w.pa) (satp_in regime) (access_in regime va kind) w owed out leads)
    (subst (λ n. is_in_frames n w.pa ≡ true) (sym (count_settle (frame_of w.pa) m)) inside)
    (record { first = stays w.pt1 out.first; second = stays w.pt0 out.second }) target
  where
    m' : CloakedMemory
    m' = (settle (frame_of w.pa) m).memory

    stay_each : (x : Frame) → held x.0 ≡ None → held' x.0 ≡ None
    stay_each x none = elim (cases_eq x.0 (frame_of w.pa)) [ inl same ↦ ap held' same ∙ target | inr other ↦ stay x.0 other none ]

    stays : (o : Option Frame) → IfSome o (λ x. held x.0 ≡ None) → IfSome o (λ x. held' x.0 ≡ None)
    stays o = map_some (λ x. held x.0 ≡ None) (λ x. held' x.0 ≡ None) o stay_each

pub page_entry_agrees : (held held' : HeldPages) (m : CloakedMemory) (regime : Regime) (va : ℕ) (kind : Kind) (w : Walked)
    (q : PageId) → walk m.ram (satp_in regime) (access_in regime va kind) ≡ Ok w → is_in_ram m.ram w.pa ≡ true
    → OwedIsHeld held m → AreOutside held w → let g = frame_of w.pa in
    let m' = (offer q g (is_store kind) m).memory in let e = entry_of regime (va / 4096) kind w (Some q) in
    is_table e.frame e ≡ false → StayOutsideBut g held held'
    → held' g ≡ Some q → (kind ≡ Store → owed_in m' g ≡ Some q) → EntryAgrees (present held' m') e
unfolding is_table
page_entry_agrees held held' m regime va kind w q leads inside owed out apart stay here stored =
    let others = or_parts (is_frame (frame (frame_of w.pa)) w.pt1) (is_frame (frame (frame_of w.pa)) w.pt0) apart in
    let other1 = others.0 in let other0 = others.1 in
    born_agrees (present held' m') regime va kind w (Some q)
    (offered_walk held m q g (is_store kind) (satp_in regime) (access_in regime va kind) w owed out other1 other0 leads)
    (subst (λ n. is_in_frames n w.pa ≡ true) (sym (offer_count q g (is_store kind) m)) inside)
    (record { first = stays w.pt1 out.first other1; second = stays w.pt0 out.second other0 }) (here, stored)
  where
    g : ℕ
    g = frame_of w.pa

    m' : CloakedMemory
    m' = (offer q g (is_store kind) m).memory

    stays : (o : Option Frame) → IfSome o (λ x. held x.0 ≡ None) → is_frame (frame g) o ≡ false → IfSome o (λ x. held' x.0 ≡ None)
    stays o none other = both_some (λ x. held x.0 ≡ None) (λ x. x.0 ≡ g → ⊥) (λ x. held' x.0 ≡ None) o
        (λ x h k. stay x.0 k h) none (not_frame g o other)

pub entry_within : (ram : List (List ℕ)) (regime : Regime) (va : ℕ) (kind : Kind) (w : Walked) (cloaked : Option PageId)
    → walk ram (satp_in regime) (access_in regime va kind) ≡ Ok w → is_in_ram ram w.pa ≡ true
    → IsWithin (length ram) (entry_of regime (va / 4096) kind w cloaked)
entry_within ram regime va kind w cloaked leads inside =
    let tables = walk_within ram (satp_in regime) (access_in regime va kind) w leads in
    record { target = low_frame ram w.pa inside; first = tables.0; second = tables.1 }

-- The table with the entry.

pub keeps_birth : (P : Entry → Type 0) (known : Bool) (e : Entry) (old new : Table) → AreBirthCalls known e old new
    → P e → All P old.live → All P new.live
keeps_birth P true e old new same this all = subst (λ (t : Table). All P t.live) (sym same) all
keeps_birth P false e old new made this all = keeps_insert P e old new made.0 this all
