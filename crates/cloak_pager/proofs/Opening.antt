-- What a pager is at first, over plain variables.
use Rattle.std.proofs.Common.{◌≡◌, ◌<◌, ◌≤◌, ℕ, zero, suc, true, false, List, [], ◌∷◌, Option, None, Some, length, map}
use Rattle.std.proofs.Common.{get_or, slice_get, refl, ap, sym, ◌∙◌, subst, replicate, inl, inr}
use Rattle.std.proofs.lemmas.List.{get_or-map, get_or_past, length-map, length-replicate}
use Rattle.std.proofs.lemmas.Option.{get_or_from_slice_get}
use Rattle.std.proofs.lemmas.Bool.{cases_lt}
use Rattle.cloak_base.specs.declared.names.Frame.{Frame}
use Rattle.cloak_model.specs.Sealing.{Chained}
use Rattle.cloak_model.specs.Ledger.{Keys}
use Rattle.cloak_base.specs.declared.names.Meta.{Meta}
use Rattle.cloak_pager.specs.Homes.{HomeTable}
use Rattle.cloak_pager.specs.State.{PagerState, IsWholePager, IsWholeWithHomes, Names, page_of, owed_under, right_at}
use Rattle.cloak_pager.specs.State.{held_in, owed_at}
use Rattle.cloak_pager.specs.Turns.{IsNewPager, frame_numbered}
use Rattle.cloak_pager.specs.Relation.{FrameStands, PageStands, vector_in}
use Rattle.cloak_pager.specs.Asking.{none_wiped, StandsBlank}
use Rattle.cloak_pager.proofs.Pages.{IsBytes-zero_page}
use Rattle.cloak_pager.specs.declared.frame_right.FrameRight.{FrameRight}
use Rattle.cloak_pager.specs.declared.frame_right.FrameRight.TheVariants.{Outside, Spent}

-- the rights that a pager begins with
pub record NewRights (n : ℕ) (rights : List FrameRight) : Type 0 where
  pub count : length rights ≡ n
  pub outside : (k : ℕ) → k < n → get_or rights k Spent ≡ Outside (frame_numbered k)

pub new_rights : (n : ℕ) (outside : List Frame) (rights : List FrameRight) → length outside ≡ n →
    ((k : ℕ) → k < n → slice_get outside k ≡ Some (frame_numbered k)) → rights ≡ map (λ r. Outside r) outside →
    NewRights n rights
new_rights n outside rights count named made = record {
  count = rw (made, length-map) count;
  outside = λ k h.
      let there : k < length outside = rw count h in
      let name : Frame = frame_numbered k in
      let here : get_or outside k name ≡ name = get_or_from_slice_get outside k name name (named k h) in
      rw made (get_or-map (λ (r : Frame). Outside r) outside k name Spent there ∙ ap (λ (r : Frame). Outside r) here);
}

-- no frame holds or owes a page
pub nobody : (n domains : ℕ) (keys : Keys) (p : PagerState) → IsNewPager n domains keys p → (k : ℕ) →
    (held_in p k ≡ None) × (owed_at p k ≡ None)
nobody n domains keys p o k =
    elim (cases_lt k n) [
      | inl h ↦ (ap page_of (o.outside k h), ap owed_under (o.outside k h))
      | inr h ↦
          let spent : right_at p k ≡ Spent = get_or_past p.rights k Spent (rw o.count h) in
          (ap page_of spent, ap owed_under spent)
    ]

pub opened_whole : (n domains : ℕ) (keys : Keys) (p : PagerState) → IsNewPager n domains keys p → n ≤ 4096 →
    IsWholePager p
opened_whole n domains keys p o few = record {
  count = o.count ∙ sym (rw (o.zeros, length-replicate) refl);
  named = λ k h.
      let there : k < n = rw (o.zeros, length-replicate) at h in
      let N : FrameRight → Type 0 = λ x. Names p.table k x in
      subst N (sym (o.outside k there)) refl;
  one_home = λ f g q at at'. absurd (let no : None ≡ Some q = sym (nobody n domains keys p o f).0 ∙ at in cc);
  few = rw (o.zeros, length-replicate) few;
}

pub opened_kept : (n domains : ℕ) (keys : Keys) (p : PagerState) (homes : HomeTable) → IsNewPager n domains keys p →
    n ≤ 4096 → homes.domains ≡ domains → IsWholeWithHomes p homes
opened_kept n domains keys p homes o few is = record {
  whole = opened_whole n domains keys p o few;
  noted = λ k q held. absurd (let no : None ≡ Some q = sym (nobody n domains keys p o k).0 ∙ held in cc);
  domains = is ∙ sym o.domains_are;
}

-- rights that owe nothing
none_owed : (xs : List FrameRight) → ((k : ℕ) → owed_under (get_or xs k Spent) ≡ None) →
    replicate (length xs) None ≡ map owed_under xs
none_owed [] h = refl
none_owed (x ∷ xs) h =
    let here : owed_under x ≡ None = h zero in
    let later = none_owed xs (λ k. h (suc k)) in
    λ i. sym here i ∷ later i

pub opened_stands : (n domains : ℕ) (keys : Keys) (p : PagerState) → IsNewPager n domains keys p → n ≤ 4096 →
    keys.seal ≡ Chained → StandsBlank n keys p
opened_stands n domains keys p o few chained m b = record {
  whole = opened_whole n domains keys p o few;
  keys = b.keys_are ∙ sym o.keys_are;
  chained = ap (λ (k : Keys). k.seal) o.keys_are ∙ chained;
  count = ap (λ (x : List (List ℕ)). length x) (b.ram ∙ sym o.zeros);
  frames = λ f h.
      let there : f < n = rw (o.zeros, length-replicate) at h in
      let F : FrameRight → Type 0 = λ x. FrameStands p none_wiped m f x in
      subst F (sym (o.outside f there)) (ap (λ (x : List (List ℕ)). get_or x f []) (o.zeros ∙ sym b.ram));
  owed =
      b.owed ∙ (ap (λ (k : ℕ). replicate k None) (sym o.count)
      ∙ none_owed p.rights (λ k. (nobody n domains keys p o k).1));
  pages = λ q.
      let P : Option Meta → Type 0 = λ x. PageStands false m q x in
      subst P (sym (o.no_metas q)) (b.recorded q, λ kept free. b.plain q);
  vectors = λ q. b.vectors q ∙ ap vector_in (sym (o.no_metas q));
  plain = λ q kept. rw (b.plain q) IsBytes-zero_page;
  drained = λ q lost. absurd (let no : false ≡ true = lost in cc);
}
