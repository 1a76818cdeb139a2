-- What becomes of a pager when the metadata of whole resources changes, over plain variables.
use Rattle.std.proofs.Common.{◌≡◌, ◌<◌, ℕ, Bool, true, false, ◌&&◌, ◌||◌, List, [], Option, None, Some, length, get_or}
use Rattle.std.proofs.Common.{map, refl, ap, sym, ◌∙◌, subst, ◌⊎◌, inl, inr}
use Rattle.std.proofs.lemmas.Bool.{or_cases, or_parts}
use Rattle.aes_block.specs.Bytes.{IsBytes}
use Rattle.cloak_base.specs.Random.{next_draw}
use Rattle.cloak_base.specs.declared.names.PageId.{PageId}
use Rattle.cloak_base.specs.Pages.{zero_page, is_of, page_in, with_resource, with_copied}
use Rattle.cloak_model.specs.Ledger.{Keys}
use Rattle.cloak_model.specs.Cloaking.{CloakedMemory}
use Rattle.cloak_model.specs.PageMoves.{copy_pages, drop_pages}
use Rattle.cloak_base.specs.declared.names.Meta.{Meta}
use Rattle.protect_meta.specs.Table.{meta_at}
use Rattle.cloak_base.proofs.Pages.{is_of_tells, is_of-decides}
use Rattle.protect_meta.proofs.Rows.{chosen_true, chosen_false}
use Rattle.cloak_pager.specs.State.{PagerState, owed_under, right_at, held_in, owed_at, IsNoneOwed, IsNoneHeld}
use Rattle.cloak_pager.specs.Turns.{MetasTurn, CopiesPages, DropsPages}
use Rattle.cloak_pager.specs.Relation.{StandsForMemory, FrameStands, PageStands, IsUnowed, vector_in}
use Rattle.cloak_pager.specs.Asking.{FollowsCallStill, after_copy_pages, after_drop_pages, wiped_copies}
use Rattle.cloak_pager.specs.declared.frame_right.FrameRight.{FrameRight}
use Rattle.cloak_pager.proofs.Pages.{IsBytes-zero_page}
use Rattle.cloak_pager.proofs.Keeping.{rights_stay, whole_still}
use Rattle.cloak_pager.proofs.Stands.{frame_stays, owed_by_right, page_as}

-- The pager and the memory, of which pages that no frame holds alone changed.
pub record Moved (p p' : PagerState) (w w' : PageId → Bool) (m m' : CloakedMemory)
    (metas : PageId → Option Meta) : Type 0 where
  pub turns : MetasTurn p p' metas
  pub ram : m'.ram ≡ m.ram
  pub keys : m'.ledger.keys ≡ m.ledger.keys
  pub owed : m'.ledger.owed ≡ m.ledger.owed
  pub held : (k : ℕ) (o : PageId) → held_in p k ≡ Some o →
      (m'.plain o ≡ m.plain o) × (m'.ledger.recorded o ≡ m.ledger.recorded o) × (metas o ≡ meta_at p.table o)
      × (w' o ≡ w o)
  pub pages : (o : PageId) → PageStands (w' o) m' o (metas o)
  pub vectors : (o : PageId) → m'.ledger.iv o ≡ vector_in (metas o)
  pub plain : (o : PageId) → w' o ≡ false → IsBytes 4096 (m'.plain o)
  pub drained : (o : PageId) → w' o ≡ true → next_draw m'.ledger.stream ≡ None

pub stands_moved : (p p' : PagerState) (w w' : PageId → Bool) (m m' : CloakedMemory) (metas : PageId → Option Meta) →
    StandsForMemory p w m → Moved p p' w w' m m' metas → StandsForMemory p' w' m'
stands_moved p p' w w' m m' metas s v =
    let t = v.turns in
    record {
      whole = whole_still p p' p.frames metas s.whole t refl (λ k o held shown. rw (v.held k o held).2 shown);
      keys = v.keys ∙ (s.keys ∙ sym t.keys_stay);
      chained = ap (λ (k : Keys). k.seal) t.keys_stay ∙ s.chained;
      count = rw (v.ram, t.frames_are) s.count;
      frames = λ f inside.
          let there : f < length p.frames = rw t.frames_are at inside in
          let right : right_at p' f ≡ right_at p f = rights_stay p p' p.frames metas t f in
          subst (λ (h : FrameRight). FrameStands p' w' m' f h) (sym right)
          (frame_stays p p' w w' m m' f (right_at p f)
          (ap (λ (x : List (List ℕ)). get_or x f []) t.frames_are)
          (ap (λ (x : List (List ℕ)). get_or x f []) v.ram)
          v.keys
          (λ o held. let is = v.held f o held in (is.0, is.1, t.metas_are o ∙ is.2, is.3))
          (s.frames f there));
      owed = v.owed ∙ (s.owed ∙ ap (λ (x : List FrameRight). map owed_under x) (sym t.rights_are));
      pages = λ o. subst (λ (x : Option Meta). PageStands (w' o) m' o x) (sym (t.metas_are o)) (v.pages o);
      vectors = λ o. v.vectors o ∙ ap vector_in (sym (t.metas_are o));
      plain = v.plain;
      drained = v.drained;
    }

-- Copying.

-- whether a page is one of a resource, with its numbers if it is
pub of_tells : (domain resource : ℕ) (o : PageId) →
    ((is_of domain resource o ≡ true) × ((o.domain ≡ domain) × (o.resource ≡ resource))) ⊎
    (is_of domain resource o ≡ false)
of_tells domain resource o = elim (is_of_tells domain resource o) [ inl t ↦ inl t | inr f ↦ inr f.0 ]

-- a page beside one of this resource is of the other one
beside : (domain from : ℕ) (o : PageId) → o.domain ≡ domain → is_of domain from (page_in from o) ≡ true
beside domain from o d = (is_of-decides domain from (page_in from o)).1 (d, refl)

stays_kept : (a b c : Bool) → b ≡ false → (a || (b && c)) ≡ a
stays_kept true b c e = refl
stays_kept false b c e = ap (λ (x : Bool). x && c) e

pub follows_copy : (p p' : PagerState) (domain from to : ℕ) → CopiesPages p p' domain from to → IsNoneOwed p domain from →
    IsNoneHeld p domain to → FollowsCallStill {A = Unit {0}} p p' tt (after_copy_pages domain from to)
unfolding copy_pages
follows_copy p p' domain from to t shown away w m s =
    let metas : PageId → Option Meta = with_copied (meta_at p.table) domain from to in
    record {
      answer = refl;
      stands = stands_moved p p' w w' m m' metas s (record {
        turns = t;
        ram = refl;
        keys = refl;
        owed = refl;
        held = λ k o held.
            let other = away k o held in (
              chosen_false _ _ _ other,
              chosen_false _ _ _ other,
              chosen_false _ _ _ other,
              stays_kept (w o) (is_of domain to o) (w (page_in from o)) other,
            );
        pages = λ o.
            elim (of_tells domain to o) [
              | inl is ↦
                  let b : PageId = page_in from o in
                  let meta : metas o ≡ meta_at p.table b = chosen_true _ _ _ is.0 in
                  let stands : Option Meta → Type 0 = λ x. PageStands (w' o) m' o x in
                  subst stands (sym meta)
                  (page_as (w b) (w' o) m m' b o (meta_at p.table b) refl (chosen_true _ _ _ is.0)
                  (λ kept free. (kept_from o is.0 kept, unowed b (beside domain from o is.1.0), chosen_true _ _ _ is.0))
                  (s.pages b))
              | inr off ↦
                  let meta : metas o ≡ meta_at p.table o = chosen_false _ _ _ off in
                  let stands : Option Meta → Type 0 = λ x. PageStands (w' o) m' o x in
                  subst stands (sym meta)
                  (page_as (w o) (w' o) m m' o o (meta_at p.table o) refl (chosen_false _ _ _ off)
                  (λ kept free. ((or_parts (w o) _ kept).0, free, chosen_false _ _ _ off)) (s.pages o))
            ];
        vectors = λ o.
            elim (of_tells domain to o) [
              | inl is ↦
                  let b : PageId = page_in from o in
                  let meta : metas o ≡ meta_at p.table b = chosen_true _ _ _ is.0 in
                  let vector : m'.ledger.iv o ≡ m.ledger.iv b = chosen_true _ _ _ is.0 in
                  vector ∙ (s.vectors b ∙ ap vector_in (sym meta))
              | inr off ↦
                  let meta : metas o ≡ meta_at p.table o = chosen_false _ _ _ off in
                  let vector : m'.ledger.iv o ≡ m.ledger.iv o = chosen_false _ _ _ off in
                  vector ∙ (s.vectors o ∙ ap vector_in (sym meta))
            ];
        plain = λ o kept.
            elim (of_tells domain to o) [
              | inl is ↦
                  let e : m'.plain o ≡ m.plain (page_in from o) = chosen_true _ _ _ is.0 in
                  rw e (s.plain (page_in from o) (kept_from o is.0 kept))
              | inr off ↦
                  let e : m'.plain o ≡ m.plain o = chosen_false _ _ _ off in rw e (s.plain o (or_parts (w o) _ kept).0)
            ];
        drained = λ o lost.
            elim (or_cases (w o) (is_of domain to o && w (page_in from o)) lost) [
              | inl l ↦ s.drained o l
              | inr l ↦ s.drained (page_in from o) (and_right (is_of domain to o) (w (page_in from o)) l)
            ];
      });
      drawn = refl;
    }
  where
    w' : PageId → Bool
    w' = wiped_copies domain from to w

    m' : CloakedMemory
    m' = copy_pages domain from to m

    and_right : (a b : Bool) → (a && b) ≡ true → b ≡ true
    and_right true b e = e
    and_right false b e = absurd (cc)

    kept_from : (o : PageId) → is_of domain to o ≡ true → w' o ≡ false → w (page_in from o) ≡ false
    kept_from o is kept = ap (λ (x : Bool). x && w (page_in from o)) (sym is) ∙ (or_parts (w o) _ kept).1

    unowed : (b : PageId) → is_of domain from b ≡ true → IsUnowed m b
    unowed b is k owes =
        let at : owed_at p k ≡ Some b = sym (owed_by_right p w m s k) ∙ owes in
        let no = shown k b at in
        absurd (let both = sym is ∙ no in cc)

-- Dropping.

pub follows_drop : (p p' : PagerState) (domain resource : ℕ) → DropsPages p p' domain resource →
    IsNoneHeld p domain resource → FollowsCallStill {A = Unit {0}} p p' tt (after_drop_pages domain resource)
unfolding drop_pages
follows_drop p p' domain resource t away w m s =
    let metas : PageId → Option Meta = with_resource (meta_at p.table) domain resource None in
    record {
      answer = refl;
      stands = stands_moved p p' w w m m' metas s (record {
        turns = t;
        ram = refl;
        keys = refl;
        owed = refl;
        held = λ k o held.
            let other = away k o held in
            (chosen_false _ _ _ other, chosen_false _ _ _ other, chosen_false _ _ _ other, refl);
        pages = λ o.
            let stands : Option Meta → Type 0 = λ x. PageStands (w o) m' o x in
            elim (of_tells domain resource o) [
              | inl is ↦
                  let meta : metas o ≡ None = chosen_true _ _ _ is.0 in
                  subst stands (sym meta) (chosen_true _ _ _ is.0, λ kept free. chosen_true _ _ _ is.0)
              | inr off ↦
                  let meta : metas o ≡ meta_at p.table o = chosen_false _ _ _ off in
                  subst stands (sym meta)
                  (page_as (w o) (w o) m m' o o (meta_at p.table o) refl (chosen_false _ _ _ off)
                  (λ kept free. (kept, free, chosen_false _ _ _ off)) (s.pages o))
            ];
        vectors = λ o.
            elim (of_tells domain resource o) [
              | inl is ↦
                  let meta : metas o ≡ None = chosen_true _ _ _ is.0 in
                  let vector : m'.ledger.iv o ≡ None = chosen_true _ _ _ is.0 in
                  vector ∙ ap vector_in (sym meta)
              | inr off ↦
                  let meta : metas o ≡ meta_at p.table o = chosen_false _ _ _ off in
                  let vector : m'.ledger.iv o ≡ m.ledger.iv o = chosen_false _ _ _ off in
                  vector ∙ (s.vectors o ∙ ap vector_in (sym meta))
            ];
        plain = λ o kept.
            elim (of_tells domain resource o) [
              | inl is ↦ let e : m'.plain o ≡ zero_page = chosen_true _ _ _ is.0 in rw e IsBytes-zero_page
              | inr off ↦ let e : m'.plain o ≡ m.plain o = chosen_false _ _ _ off in rw e (s.plain o kept)
            ];
        drained = s.drained;
      });
      drawn = refl;
    }
  where
    m' : CloakedMemory
    m' = drop_pages domain resource m
