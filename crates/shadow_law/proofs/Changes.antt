-- What an entry depends on, and what each change of memory leaves of it.
use Rattle.std.proofs.Common.{◌≡◌, ◌≢◌, ◌∙◌, ℕ, ◌*◌, ◌<◌, inl, inr, Bool, true, false, List, [], length, Option, Some, None, refl, sym, ap, subst}
use Rattle.std.specs.Prelude.{◌==◌, slice_index_or, slice_set, IfSome}
use Rattle.std.specs.Str.{bytes_eq}
use Rattle.std.proofs.lemmas.Bool.{false≢true, cases_eq, or_parts}
use Rattle.std.proofs.lemmas.Bool.Decides.{eqb_tells}
use Rattle.std.proofs.lemmas.List.{get_or-set_same, get_or-set_other, length-set}
use Rattle.cloak_base.specs.Random.{Random}
use Rattle.cloak_base.specs.Pages.{same_page}
use Rattle.cloak_base.proofs.Pages.{same_page-self}
use Rattle.cloak_base.specs.declared.names.Frame.{Frame}
use Rattle.cloak_base.specs.declared.names.PageId.{PageId}
use Rattle.cloak_base.specs.declared.names.SpaceId.{SpaceId}
use Rattle.cloak_model.specs.Contexts.{same_space}
use Rattle.cloak_model.specs.Ledger.{next_vector}
use Rattle.cloak_model.specs.Cloaking.{CloakedMemory, AfterSettling, AfterOffer, owed_in, with_shown_frame, with_owed, settle_owed, settle_if, settle, owes, owing_frame, settle_frame_if, with_comparison, taken, compared, unless_missed, offer}
use Rattle.shadow_fold.specs.declared.entry.Entry.{Entry}
use Rattle.shadow_fold.specs.declared.entry.Regime.{Regime}
use Rattle.shadow_fold.specs.declared.entry.Regime.TheVariants.{Outside, Inside}
use Rattle.shadow_fold.specs.Agreement.{EntryAgrees, TargetAgrees, HasInSpace, IsMapped}
use Rattle.shadow_fold.specs.Entries.{is_target, is_frame, is_table, sees_space, is_of_space}
use Rattle.shadow_fold.specs.Fold.{holds, table_holds, part_holds}
use Rattle.shadow_law.specs.Walks.{IsSame}
use Rattle.shadow_law.specs.Agreeing.{HeldPages, present, frame, OwedIsHeld}
use Rattle.shadow_law.proofs.Walks.{walk_kept}
use Rattle.cloak_model.proofs.Owing.{owing_at, owed_within}
use Rattle.cloak_model.proofs.Offering.{OfferKeeps}
use Rattle.cloak_model.proofs.Offering as fold
use Rattle.cloak_model.proofs.Settling.{count_settle}
use Rattle.cloak_base.proofs.Choices.{either}

-- target and table frames of an entry
pub record EachFrame (P : ℕ → Type 0) (e : Entry) : Type 0 where
  pub target : P e.frame.0
  pub first : IfSome e.pt1 (λ f. P f.0)
  pub second : IfSome e.pt0 (λ f. P f.0)

pub map_some : (P Q : Frame → Type 0) (o : Option Frame) → ((f : Frame) → P f → Q f) → IfSome o P → IfSome o Q
map_some P Q None step h = h
map_some P Q (Some f) step h = step f h

pub both_some : (P Q R : Frame → Type 0) (o : Option Frame) → ((f : Frame) → P f → Q f → R f) → IfSome o P → IfSome o Q → IfSome o R
both_some P Q R None step h k = h
both_some P Q R (Some f) step h k = step f h k

pub map_parts : (P Q : ℕ → Type 0) (e : Entry) → ((x : ℕ) → P x → Q x) → EachFrame P e → EachFrame Q e
map_parts P Q e step h = record {
  target = step e.frame.0 h.target;
  first = map_some (λ f. P f.0) (λ f. Q f.0) e.pt1 (λ f. step f.0) h.first;
  second = map_some (λ f. P f.0) (λ f. Q f.0) e.pt0 (λ f. step f.0) h.second;
}

pub all_parts : (P : ℕ → Type 0) (e : Entry) → ((x : ℕ) → P x) → EachFrame P e
all_parts P e every = record { target = every e.frame.0; first = all_some e.pt1; second = all_some e.pt0 }
  where
    all_some : (o : Option Frame) → IfSome o (λ f. P f.0)
    all_some None = tt
    all_some (Some f) = every f.0

both_parts : (P Q R : ℕ → Type 0) (e : Entry) → ((x : ℕ) → P x → Q x → R x) → EachFrame P e → EachFrame Q e → EachFrame R e
both_parts P Q R e step h k = record {
  target = step e.frame.0 h.target k.target;
  first = both_some (λ f. P f.0) (λ f. Q f.0) (λ f. R f.0) e.pt1 (λ f. step f.0) h.first k.first;
  second = both_some (λ f. P f.0) (λ f. Q f.0) (λ f. R f.0) e.pt0 (λ f. step f.0) h.second k.second;
}

-- tests that fail

other_number : (x y : ℕ) → (x == y) ≡ false → x ≡ y → ⊥
other_number x y e same = elim (eqb_tells x y) [ inl h ↦ false≢true (sym e ∙ h.0) | inr h ↦ h.1 same ]

pub not_frame : (f : ℕ) (o : Option Frame) → is_frame (frame f) o ≡ false → IfSome o (λ g. g.0 ≡ f → ⊥)
not_frame f None e = tt
not_frame f (Some g) e = other_number g.0 f e

not_tables : (f : ℕ) (e : Entry) → is_table (frame f) e ≡ false → IfSome e.pt1 (λ g. g.0 ≡ f → ⊥) × IfSome e.pt0 (λ g. g.0 ≡ f → ⊥)
unfolding is_table
not_tables f e out = let h = or_parts _ _ out in (not_frame f e.pt1 h.0, not_frame f e.pt0 h.1)

pub not_part : (f : ℕ) (e : Entry) → is_target (frame f) e ≡ false → is_table (frame f) e ≡ false → EachFrame (λ x. x ≡ f → ⊥) e
unfolding is_target
not_part f e target table =
    let t = not_tables f e table in record { target = other_number e.frame.0 f target; first = t.0; second = t.1 }

not_table_held : (held : HeldPages) (passes : PageId → Bool) (o : Option Frame) → table_holds held passes o ≡ false → IfSome o (λ f. holds passes (held f.0) ≡ false)
not_table_held held passes None e = tt
not_table_held held passes (Some f) e = e

not_holding : (held : HeldPages) (passes : PageId → Bool) (e : Entry) → part_holds held passes e ≡ false → EachFrame (λ x. holds passes (held x) ≡ false) e
unfolding part_holds
not_holding held passes e none =
    let h = or_parts _ _ none in let k = or_parts _ _ h.1 in
    record { target = h.0; first = not_table_held held passes e.pt1 k.0; second = not_table_held held passes e.pt0 k.1 }

-- A frame that a change spares.

pub record Spared (x : ℕ) (m m' : CloakedMemory) : Type 0 where
  pub ram : slice_index_or m'.ram x [] ≡ slice_index_or m.ram x []
  pub owed : owed_in m' x ≡ owed_in m x

pub spared_refl : (x : ℕ) (m : CloakedMemory) → Spared x m m
spared_refl x m = record { ram = refl; owed = refl }

pub spared_trans : (x : ℕ) (a b c : CloakedMemory) → Spared x a b → Spared x b c → Spared x a c
spared_trans x a b c f g = record { ram = g.ram ∙ f.ram; owed = g.owed ∙ f.owed }

-- an entry whose frames are spared, and hold what they held
pub keeps : (held held' : HeldPages) (m m' : CloakedMemory) (e : Entry) → length m'.ram ≡ length m.ram
    → EachFrame (λ x. Spared x m m' × (held' x ≡ held x)) e → EntryAgrees (present held m) e → EntryAgrees (present held' m') e
keeps held held' m m' e count parts agrees = record {
  walks = walk_kept m.ram m'.ram _ _ _ (record {
    count = count;
    first = map_some (λ f. Spared f.0 m m' × (held' f.0 ≡ held f.0)) (IsSame m.ram m'.ram) e.pt1 (λ f h. h.0.ram) parts.first;
    second = map_some (λ f. Spared f.0 m m' × (held' f.0 ≡ held f.0)) (IsSame m.ram m'.ram) e.pt0 (λ f h. h.0.ram) parts.second;
  }) agrees.walks;
  first = both_some (λ f. Spared f.0 m m' × (held' f.0 ≡ held f.0)) (λ f. held f.0 ≡ None) (λ f. held' f.0 ≡ None) e.pt1
      (λ f h k. h.1 ∙ k) parts.first agrees.first;
  second = both_some (λ f. Spared f.0 m m' × (held' f.0 ≡ held f.0)) (λ f. held f.0 ≡ None) (λ f. held' f.0 ≡ None) e.pt0
      (λ f h k. h.1 ∙ k) parts.second agrees.second;
  target = target e.cloaked agrees.target;
}
  where
    target : (o : Option PageId) → TargetAgrees (present held m) e o → TargetAgrees (present held' m') e o
    target None h = parts.target.1 ∙ h
    target (Some q) h = (parts.target.1 ∙ h.0, λ store. parts.target.0.owed ∙ h.1 store)

-- Writes.

pub write_keeps : (held : HeldPages) (m : CloakedMemory) (f : ℕ) (bytes : List ℕ) (e : Entry) → is_table (frame f) e ≡ false
    → EntryAgrees (present held m) e → EntryAgrees (present held (with_shown_frame f bytes m)) e
write_keeps held m f bytes e out agrees =
    let t = not_tables f e out in
    let other : (g : Frame) → (g.0 ≡ f → ⊥) → IsSame m.ram (slice_set m.ram f bytes) g = λ g n. get_or-set_other m.ram f g.0 bytes [] n in
    record {
      walks = walk_kept m.ram (slice_set m.ram f bytes) _ _ _ (record {
        count = length-set m.ram f bytes;
        first = map_some (λ g. g.0 ≡ f → ⊥) (IsSame m.ram (slice_set m.ram f bytes)) e.pt1 other t.0;
        second = map_some (λ g. g.0 ≡ f → ⊥) (IsSame m.ram (slice_set m.ram f bytes)) e.pt0 other t.1;
      }) agrees.walks;
      first = agrees.first;
      second = agrees.second;
      target = target e.cloaked agrees.target;
    }
  where
    m' : CloakedMemory
    m' = with_shown_frame f bytes m

    target : (o : Option PageId) → TargetAgrees (present held m) e o → TargetAgrees (present held m') e o
    target None h = h
    target (Some q) h = h

-- Settling.

spares_owed : (f x : ℕ) (q : PageId) (draw : Option (List ℕ × Random)) (m : CloakedMemory) → (x ≡ f → ⊥) → Spared x m (settle_owed f q draw m).memory
unfolding settle_owed
spares_owed f x q None m other = record { ram = get_or-set_other m.ram f x _ [] other; owed = get_or-set_other m.ledger.owed f x None None other }
spares_owed f x q (Some draw) m other = record { ram = get_or-set_other m.ram f x _ [] other; owed = get_or-set_other m.ledger.owed f x None None other }

spares_if : (f x : ℕ) (o : Option PageId) (m : CloakedMemory) → (x ≡ f → ⊥) → Spared x m (settle_if f o m).memory
unfolding settle_if
spares_if f x None m other = spared_refl x m
spares_if f x (Some q) m other = spares_owed f x q (next_vector m.ledger) m other

pub settle_spares : (f x : ℕ) (m : CloakedMemory) → (x ≡ f → ⊥) → Spared x m (settle f m).memory
unfolding settle
settle_spares f x m other = spares_if f x (owed_in m f) m other

pub touch_keeps : (held held' : HeldPages) (m : CloakedMemory) (f : ℕ) (e : Entry) → ((x : ℕ) → x ≢ f → held' x ≡ held x)
    → is_target (frame f) e ≡ false → is_table (frame f) e ≡ false
    → EntryAgrees (present held m) e → EntryAgrees (present held' (settle f m).memory) e
touch_keeps held held' m f e same target table agrees =
    keeps held held' m (settle f m).memory e (count_settle f m)
    (map_parts (λ x. x ≡ f → ⊥) (λ x. Spared x m (settle f m).memory × (held' x ≡ held x)) e
    (λ x other. (settle_spares f x m other, same x other)) (not_part f e target table)) agrees

-- Offering.

pub holds_self : (q : PageId) (o : Option PageId) → o ≡ Some q → holds (same_page q) o ≡ true
holds_self q o is = ap (holds (same_page q)) is ∙ same_page-self q

module _ (q : PageId) (x : ℕ) where
  frame_if_spares : (m : CloakedMemory) (o : Option ℕ) → ((f : ℕ) → o ≡ Some f → x ≡ f → ⊥) → Spared x m (settle_frame_if o m).memory
  frame_if_spares m None other = spared_refl x m
  frame_if_spares m (Some f) other = settle_spares f x m (other f refl)

  taken_spares : (g : ℕ) (write : Bool) (m : CloakedMemory) → (x ≡ g → ⊥) → Spared x m (taken q g write m)
  taken_spares g true m other = record { ram = refl; owed = get_or-set_other m.ledger.owed g x (Some q) None other }
  taken_spares g false m other = spared_refl x m

  compared_spares : (g : ℕ) (write : Bool) (o : Option (List ℕ)) (m : CloakedMemory) → (x ≡ g → ⊥) → Spared x m (compared q g write o m).memory
  unfolding compared
  compared_spares g write None m other = record { ram = refl; owed = get_or-set_other m.ledger.owed g x (Some q) None other }
  compared_spares g write (Some c) m other =
      let there : List ℕ = slice_index_or m.ram g [] in
      let m' = with_comparison there c m in
      let same : Spared x m m' = record { ram = refl; owed = refl } in
      either (λ (o : AfterOffer). Spared x m o.memory) (bytes_eq there c) _ _
      (spared_trans x m m' (taken q g write m') same (taken_spares g write m' other)) same

  unless_spares : (m : CloakedMemory) (s : AfterSettling) (next : CloakedMemory → AfterOffer) → Spared x m s.memory
      → Spared x s.memory (next s.memory).memory → Spared x m (unless_missed s next).memory
  unfolding unless_missed
  unless_spares m s next one two =
      either (λ (o : AfterOffer). Spared x m o.memory) s.missed _ _ one (spared_trans x m s.memory (next s.memory).memory one two)

  pub offer_spares : (held : HeldPages) (g : ℕ) (write : Bool) (m : CloakedMemory) → OwedIsHeld held m → (x ≡ g → ⊥) → holds (same_page q) (held x) ≡ false
      → Spared x m (offer q g write m).memory
  unfolding offer
  offer_spares held g write m owed other out =
      either (λ (o : AfterOffer). Spared x m o.memory) (owes q (owed_in m g)) _ _ (spared_refl x m)
      (unless_spares m (settle g m) (λ m'. unless_missed (settle_frame_if (owing_frame m' q) m') last) one
      (unless_spares m1 (settle_frame_if (owing_frame m1 q) m1) last (frame_if_spares m1 (owing_frame m1 q) apart)
      (compared_spares g write _ _ other)))
    where
      m1 : CloakedMemory
      m1 = (settle g m).memory

      one : Spared x m m1
      one = settle_spares g x m other

      -- a frame that is owed the page is not x
      apart : (f : ℕ) → owing_frame m1 q ≡ Some f → x ≡ f → ⊥
      apart f is same =
          let there : owed_in m x ≡ Some q = sym one.owed ∙ ap (owed_in m1) same ∙ owing_at m1 q f is in
          false≢true (sym out ∙ holds_self q (held x) (owed x q there))

      last : CloakedMemory → AfterOffer
      last = λ m''. compared q g write (m''.ledger.recorded q) m''

-- how many frames there are

abbrev HasFrames : ℕ → CloakedMemory → Type 0
HasFrames n m = length m.ram ≡ n

-- a frame that is owed a page is settled so
settled_as : (f : ℕ) (q : PageId) (m : CloakedMemory) → owed_in m f ≡ Some q → settle f m ≡ settle_owed f q (next_vector m.ledger) m
unfolding settle settle_if
settled_as f q m is = ap (λ o. settle_if f o m) is

counts : (n : ℕ) (q : PageId) → OfferKeeps q (HasFrames n) (HasFrames n)
counts n q = record {
  settles = λ f p m is same. ap (λ (a : AfterSettling). length a.memory.ram) (sym (settled_as f p m is)) ∙ (count_settle f m ∙ same);
  compares = λ a b m same. same;
  takes = λ g m clean same. same;
  stays = λ m same. same;
}

pub offer_count : (q : PageId) (g : ℕ) (write : Bool) (m : CloakedMemory) → length (offer q g write m).memory.ram ≡ length m.ram
offer_count q g write m = fold.offer_keeps (counts (length m.ram) q) g write m refl

pub offer_keeps : (held held' : HeldPages) (m : CloakedMemory) (q : PageId) (g : ℕ) (write : Bool) (e : Entry) → OwedIsHeld held m
    → ((x : ℕ) → x ≢ g → held x ≢ Some q → held' x ≡ held x)
    → is_target (frame g) e ≡ false → is_table (frame g) e ≡ false → part_holds held (same_page q) e ≡ false
    → EntryAgrees (present held m) e → EntryAgrees (present held' (offer q g write m).memory) e
offer_keeps held held' m q g write e owed same target table out agrees =
    let m' = (offer q g write m).memory in
    keeps held held' m m' e (offer_count q g write m)
    (both_parts (λ x. x ≡ g → ⊥) (λ x. holds (same_page q) (held x) ≡ false) (λ x. Spared x m m' × (held' x ≡ held x)) e
    (λ x other none. (
      offer_spares q x held g write m owed other none,
      same x other (λ is. false≢true (sym none ∙ holds_self q (held x) is)),
    ))
    (not_part g e target table) (not_holding held (same_page q) e out)) agrees

-- Regions.

pub remap_keeps : (mapped mapped' : SpaceId → ℕ → Option PageId) (s : SpaceId) (e : Entry) → is_of_space s e ≡ false
    → ((t : SpaceId) (va : ℕ) → same_space t s ≡ false → mapped' t va ≡ mapped t va) → IsMapped mapped e → IsMapped mapped' e
unfolding is_of_space
remap_keeps mapped mapped' s e out same has = by_page e.cloaked has
  where
    by_regime : (regime : Regime) (q : PageId) → sees_space s regime ≡ false → HasInSpace mapped regime (4096 * e.page) q
        → HasInSpace mapped' regime (4096 * e.page) q
    by_regime (Outside satp mode sum mxr) q out k = k
    by_regime (Inside satp sum mxr space) q out k = same space (4096 * e.page) out ∙ k

    by_page : (o : Option PageId) → IfSome o (HasInSpace mapped e.regime (4096 * e.page)) → IfSome o (HasInSpace mapped' e.regime (4096 * e.page))
    by_page None k = k
    by_page (Some q) k = by_regime e.regime q out k

-- A page that a frame holds is changed.

pub change_keeps : (held : HeldPages) (m : CloakedMemory) (q : PageId) (g : ℕ) (e : Entry) → held g ≡ Some q
    → EntryAgrees (present held m) e → EntryAgrees (present held (with_owed g (Some q) m)) e
change_keeps held m q g e here agrees =
    record { walks = agrees.walks; first = agrees.first; second = agrees.second; target = target e.cloaked agrees.target }
  where
    m' : CloakedMemory
    m' = with_owed g (Some q) m

    target : (o : Option PageId) → TargetAgrees (present held m) e o → TargetAgrees (present held m') e o
    target None h = h
    target (Some p) h = (
      h.0,
      λ store. elim (cases_eq e.frame.0 g) [
        | inl same ↦
            let low = subst (λ x. x < length m.ledger.owed) same (owed_within m e.frame.0 p (h.1 store)) in
            ap (owed_in m') same ∙ get_or-set_same m.ledger.owed g (Some q) None low ∙ sym here ∙ ap held (sym same) ∙ h.0
        | inr other ↦ get_or-set_other m.ledger.owed g e.frame.0 (Some q) None other ∙ h.1 store
      ],
    )
