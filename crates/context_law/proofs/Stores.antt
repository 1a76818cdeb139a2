-- Which words a move stores in: the one that was written in, and pages of its own domain.
use Rattle.std.proofs.Common.{◌≡◌, ◌≢◌, ◌∙◌, ◌⊎◌, inl, inr, ℕ, ◌+◌, ◌/◌, ◌*◌, ◌%◌, ◌<◌, Bool, true, false, ◌&&◌, ◌||◌, refl, sym, ap, subst, arith, eq-eqb}
use Rattle.std.specs.Prelude.{nat_eq, nat_lt}
use Rattle.std.proofs.lemmas.Bool.{false≢true, and_parts, ltb-true, eqb-true, false_from_ne_true}
use Rattle.cloak_base.specs.Pages.{same_page}
use Rattle.cloak_base.proofs.Pages.{same_page-other}
use Rattle.cloak_base.specs.declared.names.PageId.{PageId}
use Rattle.cloak_model.specs.declared.context.PageWord.{PageWord}
use Rattle.cloak_model.specs.Contexts.{word_of_page, same_word}
use Rattle.cloak_model.specs.Effect.{IsWidth}
use Rattle.script_fold.proofs.Aligned.{IsAligned}
use Rattle.latest_store.specs.Sums.{reaches}
use Rattle.context_law.specs.Inside.{page_of}

pub or_none : (b : Bool) → b ≡ false → (b || false) ≡ false
or_none true is = absurd (false≢true (sym is))
or_none false is = refl

pub both_none : (a b : Bool) → a ≡ false → b ≡ false → (a || b) ≡ false
both_none true b is rest = absurd (false≢true (sym is))
both_none false b is rest = rest

-- A store of 1, 2 or 4 bytes at a multiple of its width: it lies in one word.

abbrev pub IsOnWord : ℕ → ℕ → Type 0
IsOnWord va width = (width ≡ 1) ⊎ (((width ≡ 2) × (va % 2 ≡ 0)) ⊎ ((width ≡ 4) × (va % 4 ≡ 0)))

pub on_word : (va width : ℕ) → IsAligned va width → IsOnWord va width
on_word va width at = by at.1
  where
    by : IsWidth width → IsOnWord va width
    by (inl one) = inl one
    by (inr (inl two)) = inr (inl (two, subst (λ (n : ℕ). va % n ≡ 0) two at.0))
    by (inr (inr four)) = inr (inr (four, subst (λ (n : ℕ). va % n ≡ 0) four at.0))

in_word : (va at width : ℕ) → at % 4 ≡ 0 → IsOnWord va width → va % 4096 < at + 4 → at < va % 4096 + width →
    at ≡ va % 4096 / 4 * 4
in_word va at width aligned (inl one) low high = omega (arith, aligned, one, low, high)
in_word va at width aligned (inr (inl two)) low high =
    let w = two.0 in let even = two.1 in omega (arith, aligned, w, even, low, high)
in_word va at width aligned (inr (inr four)) low high =
    let w = four.0 in let even = four.1 in omega (arith, aligned, w, even, low, high)

same_word_is : (word : PageWord) (q : PageId) (va : ℕ) → q.resource ≡ word.resource → q.page ≡ word.page →
    word.at ≡ va % 4096 / 4 * 4 → same_word word (word_of_page q va) ≡ true
same_word_is word q va resource page at =
    all (nat_eq word.resource q.resource) (nat_eq word.page q.page) (nat_eq word.at (va % 4096 / 4 * 4))
    (eq-eqb word.resource q.resource (sym resource)) (eq-eqb word.page q.page (sym page))
    (eq-eqb word.at (va % 4096 / 4 * 4) at)
  where
    all : (a b c : Bool) → a ≡ true → b ≡ true → c ≡ true → (a && (b && c)) ≡ true
    all true true true p q r = refl
    all true true false p q r = absurd (false≢true r)
    all true false c p q r = absurd (false≢true q)
    all false b c p q r = absurd (false≢true p)

-- it does not reach another word
pub misses_word : (n : ℕ) (word : PageWord) (q : PageId) (va width : ℕ) → word.at % 4 ≡ 0 → IsOnWord va width →
    same_word word (word_of_page q va) ≡ false →
    (same_page (page_of n word) q && reaches (va % 4096) width word.at) ≡ false
unfolding same_page
misses_word n word q va width aligned on other =
    let p = page_of n word in
    false_from_ne_true (same_page p q && reaches (va % 4096) width word.at) (λ meets.
    let parts = and_parts (same_page p q) (reaches (va % 4096) width word.at) meets in
    let page = and_parts (nat_eq n q.domain) (nat_eq word.resource q.resource && nat_eq word.page q.page) parts.0 in
    let names = and_parts (nat_eq word.resource q.resource) (nat_eq word.page q.page) page.1 in
    let reach = and_parts (nat_lt (va % 4096) (word.at + 4)) (nat_lt word.at (va % 4096 + width)) parts.1 in
    let at = in_word va word.at width aligned on (ltb-true (va % 4096) (word.at + 4) reach.0)
    (ltb-true word.at (va % 4096 + width) reach.1) in
    false≢true (sym other ∙ same_word_is word q va (sym (eqb-true word.resource q.resource names.0))
    (sym (eqb-true word.page q.page names.1)) at))

-- nor one of another domain
pub misses_domain : (d : ℕ) (word : PageWord) (q : PageId) (from width : ℕ) → q.domain ≢ d →
    (same_page (page_of d word) q && reaches from width word.at) ≡ false
misses_domain d word q from width other =
    ap (λ (b : Bool). b && reaches from width word.at)
    (same_page-other (page_of d word) q (λ same. other (ap (λ (x : PageId). x.domain) (sym same))))
