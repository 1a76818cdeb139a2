-- The programs in their places.
use Rattle.std.proofs.Common.{◌≡◌, ◌≢◌, ◌≤◌, ◌∙◌, ℕ, zero, suc, false, List, [], ◌∷◌, Option, Some, None, length, slice_get, slice_set, refl, ap, sym, subst, inl, inr}
use Rattle.std.proofs.lemmas.Option.{slice_get_past}
use Rattle.std.proofs.lemmas.Bool.Decides.{Decides-eqb}
use Rattle.std.specs.Option.{ForSome, IfSome}
use Rattle.cloak_base.specs.declared.names.PageId.{PageId}
use Rattle.cloak_base.specs.Pages.{is_of}
use Rattle.cloak_base.proofs.Pages.{told, is_of-other}
use Rattle.cloak_model.specs.DomainState as program
use Rattle.cloak_model.specs.Resources.{Resources, resource_at}
use Rattle.cloak_pager.specs.State.{PagerState, IsNoneHeld}
use Rattle.hypercalls.specs.declared.domain.Domain.{Domain}
use Rattle.hypercalls.specs.Standing.{StandsFor, control_of, number_of}
use Rattle.joint_machine.specs.Turning.{HoldsNoFree, HoldsNoOthers}
use Rattle.joint_machine.specs.Programs.{AreNumbered, AreFreeUnused}
use Rattle.joint_machine.specs.Standing.{AreDomains}

-- there are as many
pub count_domains : (xs : List Domain) (ds : List program.Domain) → AreDomains xs ds → length xs ≡ length ds
count_domains [] [] are = refl
count_domains [] (d ∷ ds) are = absurd are
count_domains (x ∷ xs) [] are = absurd are
count_domains (x ∷ xs) (d ∷ ds) are = ap suc (count_domains xs ds are.1)

-- past the last there is none
pub none_past : (xs : List Domain) (ds : List program.Domain) (d : ℕ) → AreDomains xs ds → length xs ≤ d → slice_get ds d ≡ None
none_past xs ds d are past = slice_get_past ds d (subst (λ n. n ≤ d) (count_domains xs ds are) past)

-- the one of a place is that of the place
pub domain_at : (xs : List Domain) (ds : List program.Domain) (d : ℕ) (x : Domain) → AreDomains xs ds → slice_get xs d ≡ Some x → (was : program.Domain) × ((slice_get ds d ≡ Some was) × StandsFor x was)
domain_at [] ds d x are there = absurd (cc)
domain_at (y ∷ xs) [] d x are there = absurd are
domain_at (y ∷ xs) (a ∷ ds) zero x are there = (a, (refl, subst (λ (o : Domain). StandsFor o a) (cc) are.0))
domain_at (y ∷ xs) (a ∷ ds) (suc d) x are there = domain_at xs ds d x are.1 there

-- another one in its place
pub domains_set : (xs : List Domain) (ds : List program.Domain) (d : ℕ) (x : Domain) (after : program.Domain) → AreDomains xs ds → StandsFor x after → AreDomains (slice_set xs d x) (slice_set ds d after)
domains_set [] [] d x after are stands = tt
domains_set [] (a ∷ ds) d x after are stands = absurd are
domains_set (y ∷ xs) [] d x after are stands = absurd are
domains_set (y ∷ xs) (a ∷ ds) zero x after are stands = (stands, are.1)
domains_set (y ∷ xs) (a ∷ ds) (suc d) x after are stands = (are.0, domains_set xs ds d x after are.1 stands)

some_holds : {A : Type 0} (P : A → Type 0) (x z : A) → Some x ≡ Some z → P x → P z
some_holds P x z same holds = subst (λ (o : Option _). IfSome o P) same holds

-- what holds of each by its place holds with another of which it holds in its place
each_set : {A : Type 0} (P : ℕ → A → Type 0) (xs : List A) (d : ℕ) (x : A) → P d x → ((k : ℕ) → ForSome (slice_get xs k) (P k)) → (k : ℕ) → ForSome (slice_get (slice_set xs d x) k) (P k)
each_set P [] d x holds each k = each k
each_set P (y ∷ xs) zero x holds each zero = λ z there. some_holds (P 0) x z there holds
each_set P (y ∷ xs) zero x holds each (suc k) = each (suc k)
each_set P (y ∷ xs) (suc d) x holds each zero = each zero
each_set P (y ∷ xs) (suc d) x holds each (suc k) = each_set (λ n. P (suc n)) xs d x holds (λ n. each (suc n)) k

pub numbered_set : (xs : List Domain) (d : ℕ) (x : Domain) → number_of x ≡ d → AreNumbered xs → AreNumbered (slice_set xs d x)
numbered_set xs d x is numbered = each_set (λ n (y : Domain). number_of y ≡ n) xs d x is numbered

-- a program with the same resources in its place
pub free_same : (xs : List Domain) (pager : PagerState) (d : ℕ) (x y : Domain) → slice_get xs d ≡ Some x → (control_of y).resources ≡ (control_of x).resources → AreFreeUnused xs pager → AreFreeUnused (slice_set xs d y) pager
free_same xs pager d x y there same unused k n few z is free =
    each_set (λ m (o : Domain). resource_at (control_of o).resources n ≡ None → IsNoneHeld pager m n) xs d y
    (λ none. unused d n few x there (ap (λ (r : Resources). resource_at r n) (sym same) ∙ none))
    (λ m o at. unused m n few o at) k z is free

other_domain : (d m n : ℕ) (q : PageId) → m ≢ d → q.domain ≡ d → is_of m n q ≡ false
other_domain d m n q other here = is_of-other m n q (λ both. other (sym both.0 ∙ here))

still_unused : (pager pager' : PagerState) (d m n : ℕ) → m ≢ d → HoldsNoOthers d pager pager' → IsNoneHeld pager m n → IsNoneHeld pager' m n
still_unused pager pager' d m n other stay unused k q held = elim (told _ (Decides-eqb q.domain d)) [
  | inl here ↦ other_domain d m n q other here.1
  | inr there ↦ unused k q (stay.held k q there.1 held)
]

-- a program after its step in its place
pub free_stepped : (xs : List Domain) (pager pager' : PagerState) (d : ℕ) (x : Domain) → HoldsNoOthers d pager pager' → HoldsNoFree d (control_of x).resources pager' → AreFreeUnused xs pager → AreFreeUnused (slice_set xs d x) pager'
free_stepped xs pager pager' d x stay own unused k n few z is free = elim (told _ (Decides-eqb k d)) [
  | inl here ↦ subst (λ m. IsNoneHeld pager' m n) (sym here.1) (own.unused n few (subst (λ (o : Domain). resource_at (control_of o).resources n ≡ None) (at_own xs d x z (subst (λ m. slice_get (slice_set xs d x) m ≡ Some z) here.1 is)) free))
  | inr there ↦ still_unused pager pager' d k n there.1 stay (unused k n few z (at_other xs d k x z there.1 is) free)
]
  where
    at_own : (ys : List Domain) (i : ℕ) (y z : Domain) → slice_get (slice_set ys i y) i ≡ Some z → z ≡ y
    at_own [] i y z is = absurd (cc)
    at_own (o ∷ ys) zero y z is = cc
    at_own (o ∷ ys) (suc i) y z is = at_own ys i y z is

    at_other : (ys : List Domain) (i j : ℕ) (y z : Domain) → j ≢ i → slice_get (slice_set ys i y) j ≡ Some z → slice_get ys j ≡ Some z
    at_other [] i j y z n is = is
    at_other (o ∷ ys) zero zero y z n is = absurd (n refl)
    at_other (o ∷ ys) zero (suc j) y z n is = is
    at_other (o ∷ ys) (suc i) zero y z n is = is
    at_other (o ∷ ys) (suc i) (suc j) y z n is = at_other ys i j y z (λ e. n (ap suc e)) is

-- a program as its step begins
pub free_here : (xs : List Domain) (pager : PagerState) (d : ℕ) (x : Domain) → slice_get xs d ≡ Some x → AreFreeUnused xs pager → HoldsNoFree d (control_of x).resources pager
free_here xs pager d x there unused = record { unused = λ n few free. unused d n few x there free }
