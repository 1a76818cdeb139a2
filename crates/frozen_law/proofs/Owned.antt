-- Pages that are owed or recorded are of a kind: what each change of a memory leaves of that.
use Rattle.std.proofs.Common.{◌≡◌, ◌≢◌, ◌∙◌, ℕ, zero, suc, Bool, true, false, cond, List, [], ◌∷◌, slice_index_or, slice_set, Option, Some, None, IfSome, refl, sym, subst}
use Rattle.std.specs.Prelude.{is_some}
use Rattle.std.proofs.lemmas.Bool.{false≢true}
use Rattle.cloak_base.specs.Pages.{same_page, is_of, page_in}
use Rattle.cloak_base.specs.Random.{Random}
use Rattle.cloak_base.specs.declared.names.PageId.{PageId}
use Rattle.cloak_base.proofs.Pages.{is_of-here}
use Rattle.cloak_model.specs.Cloaking.{CloakedMemory, settle_owed, settle, offer}
use Rattle.cloak_model.specs.Ledger.{next_vector}
use Rattle.cloak_model.proofs.Offering.{SettlesKept, settle_keeps, OfferKeeps, offer_keeps}
use Rattle.cloak_model.specs.PageMoves.{copy_pages, drop_pages}
use Rattle.chain_law.proofs.ZeroWorlds.{NoneOwedOf}
use Rattle.frozen_law.proofs.Records.{page_tells}

pub record PagesAreOf (P : PageId → Type 0) (m : CloakedMemory) : Type 0 where
  pub owed : (f : ℕ) → IfSome (slice_index_or m.ledger.owed f None) P
  pub recorded : (q : PageId) → is_some (m.ledger.recorded q) ≡ true → P q

some_wide : (P Q : PageId → Type 0) (o : Option PageId) → ((q : PageId) → P q → Q q) → IfSome o P → IfSome o Q
some_wide P Q None wide here = tt
some_wide P Q (Some q) wide here = wide q here

-- a wider kind
pub of_wide : (P Q : PageId → Type 0) (m : CloakedMemory) → ((q : PageId) → P q → Q q) → PagesAreOf P m → PagesAreOf Q m
of_wide P Q m wide of = record {
  owed = λ f. some_wide P Q _ wide (of.owed f);
  recorded = λ q some. wide q (of.recorded q some);
}

each_set : (P : PageId → Type 0) (xs : List (Option PageId)) (i : ℕ) (o : Option PageId) → IfSome o P →
    ((k : ℕ) → IfSome (slice_index_or xs k None) P) → (k : ℕ) → IfSome (slice_index_or (slice_set xs i o) k None) P
each_set P [] i o here all k = all k
each_set P (x ∷ xs) zero o here all zero = here
each_set P (x ∷ xs) zero o here all (suc k) = all (suc k)
each_set P (x ∷ xs) (suc i) o here all zero = all zero
each_set P (x ∷ xs) (suc i) o here all (suc k) = each_set P xs i o here (λ n. all (suc n)) k

module _ (P : PageId → Type 0) where
  pub recorded_by : (t : Bool) (p q : PageId) (c : List ℕ) (old : Option (List ℕ)) → same_page p q ≡ t → P q →
      (is_some old ≡ true → P p) → is_some (cond t (Some c) old) ≡ true → P p
  recorded_by true p q c old is own later some = subst P (page_tells p q is) own
  recorded_by false p q c old is own later some = later some

  owed_of : (f : ℕ) (q : PageId) (draw : Option (List ℕ × Random)) (m : CloakedMemory) → P q → PagesAreOf P m →
      PagesAreOf P (settle_owed f q draw m).memory
  unfolding settle_owed
  owed_of f q None m own of = record { owed = each_set P m.ledger.owed f None tt of.owed; recorded = of.recorded }
  owed_of f q (Some draw) m own of = record {
    owed = each_set P m.ledger.owed f None tt of.owed;
    recorded = λ p some. recorded_by (same_page p q) p q _ (m.ledger.recorded p) refl own (of.recorded p) some;
  }

  settles_kind : SettlesKept (PagesAreOf P)
  settles_kind f q m is of =
      owed_of f q (next_vector m.ledger) m (subst (λ (o : Option PageId). IfSome o P) is (of.owed f)) of

  pub settle_of : (f : ℕ) (m : CloakedMemory) → PagesAreOf P m → PagesAreOf P (settle f m).memory
  settle_of f m of = settle_keeps (PagesAreOf P) settles_kind f m of

  offers_kind : (q : PageId) → P q → OfferKeeps q (PagesAreOf P) (PagesAreOf P)
  offers_kind q own = record {
    settles = settles_kind;
    compares = λ a b m of. record { owed = of.owed; recorded = of.recorded };
    takes = λ g m clean of.
        record { owed = each_set P m.ledger.owed g (Some q) own of.owed; recorded = of.recorded };
    stays = λ m of. of;
  }

  pub offer_of : (q : PageId) → P q → (g : ℕ) (write : Bool) (m : CloakedMemory) → PagesAreOf P m →
      PagesAreOf P (offer q g write m).memory
  offer_of q own g write m of = offer_keeps (offers_kind q own) g write m of

  -- Copies for pages of the kind.

  copied_by : (t : Bool) (there here : Option (List ℕ)) (own : Type 0) → (is_some there ≡ true → t ≡ true → own) →
      (is_some here ≡ true → own) → is_some (cond t there here) ≡ true → own
  copied_by true there here own copy old some = copy some refl
  copied_by false there here own copy old some = old some

  pub copy_of_kind : (domain from to : ℕ) (m : CloakedMemory) →
      ((q : PageId) → is_of domain to q ≡ true → P (page_in from q) → P q) → PagesAreOf P m →
      PagesAreOf P (copy_pages domain from to m)
  unfolding copy_pages
  copy_of_kind domain from to m closed of = record {
    owed = of.owed;
    recorded = λ q some. copied_by (is_of domain to q) (m.ledger.recorded (page_in from q)) (m.ledger.recorded q) (P q)
        (λ there t. closed q t (of.recorded (page_in from q) there)) (of.recorded q) some;
  }

  -- Pages that are dropped, of which no frame is owed any: the kind without them.

  abbrev pub Without : ℕ → ℕ → PageId → Type 0
  Without domain resource q = P q × (q.domain ≡ domain → q.resource ≢ resource)

  owed_without : (domain resource : ℕ) (o : Option PageId) → IfSome o P →
      ((q : PageId) → q.domain ≡ domain → q.resource ≡ resource → o ≢ Some q) → IfSome o (Without domain resource)
  owed_without domain resource None here none = tt
  owed_without domain resource (Some q) here none = (here, (λ own of. none q own of refl))

  recorded_without : (t : Bool) (old : Option (List ℕ)) (own : Type 0) → (t ≡ false → is_some old ≡ true → own) →
      is_some (cond t None old) ≡ true → own
  recorded_without true old own later some = absurd (false≢true some)
  recorded_without false old own later some = later refl some

  pub drop_of : (domain resource : ℕ) (m : CloakedMemory) → NoneOwedOf domain resource m → PagesAreOf P m →
      PagesAreOf (Without domain resource) (drop_pages domain resource m)
  unfolding drop_pages
  drop_of domain resource m none of = record {
    owed = λ f. owed_without domain resource (slice_index_or m.ledger.owed f None) (of.owed f)
        (λ q own here. none q own here f);
    recorded = λ q some. recorded_without (is_of domain resource q) (m.ledger.recorded q) (Without domain resource q)
        (λ t old. (
          of.recorded q old,
          (λ own here. absurd (false≢true (sym t ∙ is_of-here domain resource q own here))),
        )) some;
  }
