-- An arena after an entry was taken out of all its chains.
use Rattle.std.proofs.Common.{◌≡◌, ℕ, zero, suc, inl, inr, Bool, true, false, List, [], ◌∷◌, map, length, get_or, slice_get, slice_set, Option, Some, None, refl, sym, ap, ◌∙◌, subst}
use Rattle.std.specs.Option.{is_some}
use Rattle.std.proofs.lemmas.Bool.{cases_eq, false≢true}
use Rattle.std.proofs.lemmas.List.{length-set}
use Rattle.std.proofs.lemmas.Option.{none-some, same_Some}
use Rattle.cloak_base.proofs.Lists.{slice_get-set_other}
use Rattle.chain_arena.specs.declared.chain.Chain.{Chain}
use Rattle.chain_arena.specs.declared.chain.Chain.TheVariants as chain
use Rattle.chain_arena.specs.Chains.{IsMemberOf, without}
use Rattle.chain_arena.specs.Arena.{Arena, Stands, chains, chain_at, unhooked, with_payload, IsTidyArena}
use Rattle.chain_arena.proofs.Callers.{long_unhooked, heads_kept}
use Rattle.chain_arena.proofs.Chains.{in_without, in_still, get_or-without}
use Rattle.cloak_base.specs.declared.names.Frame.{Frame}
use Rattle.shadow_fold.specs.declared.entry.Entry.{Entry}
use Rattle.multi_shadow.specs.Placed.{ArePlaced, LiesAt, bucket_of, number_of, without_if, emptied_if}

abbrev Not : Type 0 → Type 0
Not A = A → ⊥

some_number : (f : Option Frame) → is_some f ≡ true → (h : ℕ) × (number_of f ≡ Some h)
some_number None e = absurd (false≢true e)
some_number (Some f) e = (f.0, refl)

no_number : (f : Option Frame) → is_some f ≡ false → number_of f ≡ None
no_number None e = refl
no_number (Some f) e = absurd (false≢true (sym e))

-- the arena after the slot s left its chains and was given back
abbrev pub gone : Arena Entry → ℕ → Arena Entry
gone A s = with_payload (unhooked (unhooked (unhooked (unhooked A chain.Bucket s) chain.Target s) chain.First s) chain.Second s) s None

inside : (ps : List (Option Entry)) (s : ℕ) (e : Entry) → slice_get (slice_set ps s None) s ≡ Some (Some e) → ⊥
inside [] s e h = cc
inside (p ∷ ps) zero e h = none-some e (same_Some None (Some e) h)
inside (p ∷ ps) (suc s) e h = inside ps s e h

-- what is left at a slot of a list after one place was made None
pub left : (ps : List (Option Entry)) (s t : ℕ) (e : Entry) → slice_get (slice_set ps s None) t ≡ Some (Some e)
    → Not (t ≡ s) × (slice_get ps t ≡ Some (Some e))
left ps s t e h = elim (cases_eq t s) [
  | inl f ↦ absurd (inside ps s e (sym (ap (slice_get (slice_set ps s None)) f) ∙ h))
  | inr d ↦ (d, sym (slice_get-set_other ps s t None d) ∙ h)
]

gone_chain : (A : Arena Entry) (s : ℕ) (c : Chain) (h : ℕ) → chain_at (gone A s) c h ≡ without s (chain_at A c h)
gone_chain A s chain.Bucket h = get_or-without s A.buckets h
gone_chain A s chain.Target h = get_or-without s A.targets h
gone_chain A s chain.First h = get_or-without s A.firsts h
gone_chain A s chain.Second h = get_or-without s A.seconds h

module _ (A : Arena Entry) (placed : ArePlaced A) (s : ℕ) (e : Entry) (used : LiesAt A s e) where
  pub in_bucket : Stands A chain.Bucket s
  in_bucket =
      let h = bucket_of A.heads e.regime e.page e.kind in let p = placed.there chain.Bucket s h e used refl in
      (h, p.0, p.1)

  pub in_target : Stands A chain.Target s
  in_target = let p = placed.there chain.Target s e.frame.0 e used refl in (e.frame.0, p.0, p.1)

  pub in_first : is_some e.pt1 ≡ true → Stands A chain.First s
  in_first t = let o = some_number e.pt1 t in let p = placed.there chain.First s o.0 e used o.1 in (o.0, p.0, p.1)

  pub in_second : is_some e.pt0 ≡ true → Stands A chain.Second s
  in_second t = let o = some_number e.pt0 t in let p = placed.there chain.Second s o.0 e used o.1 in (o.0, p.0, p.1)

  pub not_first : is_some e.pt1 ≡ false → Not (Stands A chain.First s)
  not_first t st = none-some st.0 (sym (no_number e.pt1 t) ∙ placed.only chain.First s st.0 e st.1 st.2 used)

  pub not_second : is_some e.pt0 ≡ false → Not (Stands A chain.Second s)
  not_second t st = none-some st.0 (sym (no_number e.pt0 t) ∙ placed.only chain.Second s st.0 e st.1 st.2 used)

pub gone_placed : (A : Arena Entry) (s : ℕ) → ArePlaced A → IsTidyArena (gone A s) → ArePlaced (gone A s)
gone_placed A s placed tidy = record {
  tidy = tidy;
  there = λ c t h e u k. let o = left A.payloads s t e u in let p = placed.there c t h e o.1 k in
      (p.0, subst (IsMemberOf t) (sym (gone_chain A s c h)) (in_still s t (chain_at A c h) p.1 o.0));
  only = λ c t h e l p u. let o = left A.payloads s t e u in
      placed.only c t h e l (in_without s t (chain_at A c h) (subst (IsMemberOf t) (gone_chain A s c h) p)).0 o.1;
}

pub still_long : (A B : Arena Entry) (c : Chain) (s : ℕ) → B ≡ unhooked A c s
    → ((d : Chain) → length (chains A d) ≡ A.heads) → (d : Chain) → length (chains B d) ≡ B.heads
still_long A B c s now long d =
    subst (λ (D : Arena Entry). length (chains D d) ≡ D.heads) (sym now)
    (long_unhooked A c s d ∙ long d ∙ sym (heads_kept A c (map (without s) (chains A c))))

pub none_left : (A : Arena Entry) (s : ℕ) (c : Chain)
    → Not (Stands (unhooked (unhooked (unhooked (unhooked A chain.Bucket s) chain.Target s) chain.First s) chain.Second s) c s)
none_left A s chain.Bucket st = (in_without s s (get_or A.buckets st.0 []) (subst (IsMemberOf s) (get_or-without s A.buckets st.0) st.2)).1 refl
none_left A s chain.Target st = (in_without s s (get_or A.targets st.0 []) (subst (IsMemberOf s) (get_or-without s A.targets st.0) st.2)).1 refl
none_left A s chain.First st = (in_without s s (get_or A.firsts st.0 []) (subst (IsMemberOf s) (get_or-without s A.firsts st.0) st.2)).1 refl
none_left A s chain.Second st = (in_without s s (get_or A.seconds st.0 []) (subst (IsMemberOf s) (get_or-without s A.seconds st.0) st.2)).1 refl

pub gone_chains : (A B : Arena Entry) (s : ℕ) → B ≡ gone A s → (c : Chain) (h : ℕ) → chain_at B c h ≡ without s (chain_at A c h)
gone_chains A B s all c h = ap (λ D. chain_at D c h) all ∙ gone_chain A s c h

-- one slot emptied or not

pub emptied_left : (wanted : Bool) (ps : List (Option Entry)) (s t : ℕ) (e : Entry)
    → slice_get (emptied_if wanted s ps) t ≡ Some (Some e)
    → (wanted ≡ true → Not (t ≡ s)) × (slice_get ps t ≡ Some (Some e))
emptied_left true ps s t e h = let o = left ps s t e h in (λ w. o.0, o.1)
emptied_left false ps s t e h = (λ w. absurd (false≢true w), h)

pub emptied_stays : (wanted : Bool) (ps : List (Option Entry)) (s t : ℕ) (e : Entry) → (wanted ≡ true → Not (t ≡ s))
    → slice_get ps t ≡ Some (Some e) → slice_get (emptied_if wanted s ps) t ≡ Some (Some e)
emptied_stays true ps s t e other h = slice_get-set_other ps s t None (other refl) ∙ h
emptied_stays false ps s t e other h = h

pub emptied_long : (wanted : Bool) (ps : List (Option Entry)) (s : ℕ) → length (emptied_if wanted s ps) ≡ length ps
emptied_long true ps s = length-set ps s None
emptied_long false ps s = refl

pub without_stays : (wanted : Bool) (s t : ℕ) (xs : List ℕ) → Not (t ≡ s) → IsMemberOf t xs → IsMemberOf t (without_if wanted s xs)
without_stays true s t xs other p = in_still s t xs p other
without_stays false s t xs other p = p
