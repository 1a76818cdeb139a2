-- The programs as a run begins, over plain variables.
use Rattle.std.proofs.Common.{◌≡◌, ◌<◌, ◌+◌, ℕ, zero, suc, List, [], ◌∷◌, ◌++◌, length, take, slice_index_or, slice_get, None, Some, ◌⊎◌, inl, inr, refl, ap, sym, ◌∙◌, subst, arith}
use Rattle.std.proofs.lemmas.List.{take_more, length-take, length_push}
use Rattle.cloak_model.specs.declared.image.Program.{Program}
use Rattle.cloak_model.specs.DomainState as model
use Rattle.cloak_model.specs.DomainState.{started_domain}
use Rattle.cloak_model.specs.Opening.{started_domains}
use Rattle.hypercalls.specs.declared.domain.Domain.{Domain}
use Rattle.hypercalls.specs.Standing.{StandsFor, number_of}
use Rattle.joint_machine.specs.Programs.{AreNumbered}
use Rattle.joint_machine.specs.Standing.{AreDomains}

domains_more : (xs : List Domain) (ds : List model.Domain) (x : Domain) (d : model.Domain) → AreDomains xs ds →
    StandsFor x d → AreDomains (xs ++ x ∷ []) (ds ++ d ∷ [])
domains_more [] [] x d are stands = (stands, tt)
domains_more [] (e ∷ ds) x d are stands = absurd are
domains_more (y ∷ xs) [] x d are stands = absurd are
domains_more (y ∷ xs) (e ∷ ds) x d are stands = (are.0, domains_more xs ds x d are.1 stands)

started_last : (n : ℕ) (programs : List Program) (p : Program) →
    started_domains n (programs ++ p ∷ [])
    ≡ started_domains n programs ++ started_domain (n + length programs) p.start ∷ []
started_last n [] p = ap (λ k. started_domain k p.start ∷ []) (let e : n ≡ n + 0 = omega arith in e)
started_last n (q ∷ programs) p =
    ap (λ (ds : List model.Domain). started_domain n q.start ∷ ds)
    (started_last (n + 1) programs p ∙ ap
    (λ k. started_domains (n + 1) programs ++ started_domain k p.start ∷ [])
    (let e : n + 1 + length programs ≡ n + suc (length programs) = omega arith in e))

-- one program more
domains_next : (xs : List Domain) (x : Domain) (i : ℕ) (p : Program) (programs : List Program) →
    AreDomains xs (started_domains 0 (take i programs)) → StandsFor x (started_domain i p.start) →
    i < length programs → p ≡ slice_index_or programs i p →
    AreDomains (xs ++ x ∷ []) (started_domains 0 (take (i + 1) programs))
domains_next xs x i p programs are stands more read =
    let whole : 0 + length (take i programs) ≡ i = (let e = length-take i programs in omega (arith, e)) in
    let more_is : started_domains 0 (take (i + 1) programs) ≡ started_domains 0 (take i programs) ++ started_domain i p.start ∷ [] =
    ap (started_domains 0) (take_more programs i p more)
    ∙ (started_last 0 (take i programs) (slice_index_or programs i p)
    ∙ (ap (λ n. started_domains 0 (take i programs) ++ started_domain n (slice_index_or programs i p).start ∷ []) whole
    ∙ ap (λ (q : Program). started_domains 0 (take i programs) ++ started_domain i q.start ∷ []) (sym read))) in
    subst (λ (ds : List model.Domain). AreDomains (xs ++ x ∷ []) ds) (sym more_is)
    (domains_more xs (started_domains 0 (take i programs)) x (started_domain i p.start) are stands)

pub get_pushed : {A : Type 0} (xs : List A) (x : A) (d : ℕ) (y : A) → slice_get (xs ++ x ∷ []) d ≡ Some y →
    (slice_get xs d ≡ Some y) ⊎ ((d ≡ length xs) × (x ≡ y))
get_pushed [] x zero y at = inr (refl, let e : x ≡ y = cc in e)
get_pushed [] x (suc d) y at = absurd (let no : None ≡ Some y = at in cc)
get_pushed (z ∷ xs) x zero y at = inl at
get_pushed (z ∷ xs) x (suc d) y at =
    elim (get_pushed xs x d y at) [ inl h ↦ inl h | inr h ↦ inr (ap suc h.0, h.1) ]

numbered_next : (xs : List Domain) (x : Domain) → AreNumbered xs → number_of x ≡ length xs →
    AreNumbered (xs ++ x ∷ [])
numbered_next xs x numbered number d y at = elim (get_pushed xs x d y at) [
  | inl h ↦ numbered d y h
  | inr h ↦ ap number_of (sym h.1) ∙ (number ∙ sym h.0)
]

-- the domains of the first i programs
pub record AreStarted (xs : List Domain) (i : ℕ) (programs : List Program) : Type 0 where
  pub stand : AreDomains xs (started_domains 0 (take i programs))
  pub numbered : AreNumbered xs
  pub count : length xs ≡ i

pub started_next : (xs ys : List Domain) (x : Domain) (i : ℕ) (p : Program) (programs : List Program) →
    AreStarted xs i programs → ys ≡ xs ++ x ∷ [] → StandsFor x (started_domain i p.start) → number_of x ≡ i →
    i < length programs → p ≡ slice_index_or programs i p → AreStarted ys (i + 1) programs
started_next xs ys x i p programs so_far pushed stands number more read =
    subst (λ (zs : List Domain). AreStarted zs (i + 1) programs) (sym pushed) (record {
      stand = domains_next xs x i p programs so_far.stand stands more read;
      numbered = numbered_next xs x so_far.numbered (number ∙ sym so_far.count);
      count = length_push xs x ∙ ap (λ n. n + 1) so_far.count;
    })
