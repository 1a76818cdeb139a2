-- A fact of each live entry, through the calls of a table.
use Rattle.std.proofs.Common.{◌≡◌, nat_le, Bool, true, false, not, List, [], ◌∷◌, length, filter, find, if◌then◌else◌, Some, refl, sym, ap, subst, ◌∙◌}
use Rattle.std.specs.List.{All}
use Rattle.std.specs.List.Sorted.{IsPermutation}
use Rattle.std.proofs.lemmas.Bool.{false≢true}
use Rattle.std.proofs.lemmas.List.{map-id}
use Rattle.std.proofs.lemmas.List.Elements.{All-nil, All-cons, All-head, All-tail}
use Rattle.std.proofs.lemmas.Map.Views.{All-map-IsPermutation}
use Rattle.std.proofs.lemmas.Option.{none-some, same_Some}
use Rattle.shadow_fold.specs.declared.entry.Entry.{Entry}
use Rattle.shadow_fold.specs.Table.{Table, ending, emptied, with_room}

module _ {A : Type 0} (P : A → Type 0) where
  all_permuted : (xs ys : List A) → IsPermutation xs ys → All P xs → All P ys
  all_permuted xs ys same all =
      subst (All P) (map-id ys) (All-map-IsPermutation (λ x. x) P xs ys same (subst (All P) (sym (map-id xs)) all))

  -- what is found passes, and has the fact
  pub found : (p : A → Bool) (xs : List A) (e : A) → All P xs → find p xs ≡ Some e → (p e ≡ true) × P e
  found p [] e all is = absurd (none-some e is)
  found p (x ∷ xs) e all is = by_test (p x) refl (found p xs e (All-tail P x xs all)) is
    where
      by_test : (b : Bool) → p x ≡ b → (find p xs ≡ Some e → (p e ≡ true) × P e) → (if b then Some x else find p xs) ≡ Some e
          → (p e ≡ true) × P e
      by_test true passes rest is =
          let same : x ≡ e = same_Some _ _ is in (sym (ap p same) ∙ passes, subst P same (All-head P x xs all))
      by_test false fails rest is = rest is

  -- what passes q of what is left has the fact that those have that pass it
  all_changed : (Q : A → Type 0) (keep : A → Bool) (xs : List A) → ((x : A) → keep x ≡ true → P x → Q x) → All P xs
      → All Q (filter keep xs)
  all_changed Q keep [] step all = All-nil Q
  all_changed Q keep (x ∷ xs) step all = by_test (keep x) refl (all_changed Q keep xs step (All-tail P x xs all))
    where
      by_test : (b : Bool) → keep x ≡ b → All Q (filter keep xs)
          → All Q (if b then x ∷ filter keep xs else filter keep xs)
      by_test true is rest = All-cons Q x _ (step x is (All-head P x xs all)) rest
      by_test false is rest = rest

-- a change of the world that makes Q true of each entry that does not end
pub keeps_ending : (P Q : Entry → Type 0) (ends : Entry → Bool) (t : Table) → ((e : Entry) → ends e ≡ false → P e → Q e)
    → All P t.live → All Q (ending ends t).live
unfolding ending
keeps_ending P Q ends t step all =
    all_changed P Q (λ e. not (ends e)) t.live (λ e stays. step e (lived (ends e) stays)) all
  where
    lived : (b : Bool) → not b ≡ true → b ≡ false
    lived true e = absurd (false≢true e)
    lived false e = refl

keeps_room : (P : Entry → Type 0) (t : Table) → All P t.live → All P (with_room t).live
unfolding with_room emptied
keeps_room P t all = by_test (nat_le 1024 (length t.live))
  where
    by_test : (b : Bool) → All P (if b then emptied t else t).live
    by_test true = All-nil P
    by_test false = all

-- an entry that has the fact becomes live
pub keeps_insert : (P : Entry → Type 0) (e : Entry) (old new : Table) → IsPermutation (e ∷ (with_room old).live) new.live
    → P e → All P old.live → All P new.live
keeps_insert P e old new same this all = all_permuted P _ _ same (All-cons P e _ this (keeps_room P old all))
