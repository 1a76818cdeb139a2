-- What a side answers, over each world that it stands for.
use Rattle.std.proofs.Common.{◌≡◌, ◌∙◌, ◌≢◌, ◌<◌, ◌≤◌, ◌*◌, ◌+◌, ◌-◌, nat_lt, sym, ap, subst, Option, refl, ℕ, Bool, List, [], length, slice_index_or, slice_set, arith, inl, inr, if◌then◌else◌}
use Rattle.std.proofs.lemmas.List.{get_or-set_same, get_or-set_other}
use Rattle.std.proofs.lemmas.Bool.Decides.{Decides-ltb}
use Rattle.cloak_base.specs.declared.names.Kind.{Kind}
use Rattle.cloak_base.specs.declared.names.PageId.{PageId}
use Rattle.cloak_base.specs.Pages.{zero_page, with_page, page_in, is_of}
use Rattle.cloak_base.proofs.Pages.{told, same_numbers, same_page_tells, is_of_tells}
use Rattle.cloak_model.specs.declared.answer.Answer.{Answer}
use Rattle.cloak_model.specs.Memory.{with_value_in}
use Rattle.cloak_model.specs.Asking.{Follows, FollowsWhere, FollowsFrom}
use Rattle.cloak_model.specs.World.{Alone, Handed, HasPage, plain_of}
use Rattle.cloak_model.specs.AskPages.{next_answer, is_for_access, is_for_value, is_for_clearing, of_width, ask_reach, ask_write, ask_get, ask_put, ask_clear, ask_copy, ask_forget}
use Rattle.alone_views.specs.DomainPages.{HasPlain}
use Rattle.alone_views.specs.Side.{IsOwnPage, StandsForHanded, IsAloneNow, IsAlone, answers_in, answers_of}
use Rattle.alone_views.specs.declared.side.HandedSide.{HandedSide}

-- where a page stands
abbrev pub place : PageId → ℕ
place q = q.resource * 1024 + q.page

-- the side takes the next answer
abbrev pub Takes : HandedSide → HandedSide → Answer → (Answer → Bool) → Type 0
Takes side side' given is_fit = (h : Handed) → StandsForHanded side h → FollowsFrom IsAloneNow side' given (next_answer is_fit h.answers h)

-- the same if a question was noted before
pub takes_noted : (side noted side' : HandedSide) (given : Answer) (is_fit : Answer → Bool) → noted.pages ≡ side.pages →
    noted.first ≡ side.first → noted.second ≡ side.second → noted.unfit ≡ side.unfit → Takes noted side' given is_fit →
    Takes side side' given is_fit
takes_noted side noted side' given is_fit pages first second unfit takes h stands = takes h (record {
  pages = subst (λ (x : List (List ℕ)). HasPlain x h.plain) (sym pages) stands.pages;
  answers = ap (λ (o : Option Answer). answers_in o noted.second) first ∙ (ap (λ (o : Option Answer). answers_in side.first o) second ∙ stands.answers);
  unfit = unfit ∙ stands.unfit;
})

pub reach_follows : (side side' : HandedSide) (given : Answer) (q : PageId) (va : ℕ) (kind : Kind) → Takes side side' given is_for_access →
    FollowsWhere (HasPage va q) IsAlone side side' given (ask_reach q va kind)
unfolding ask_reach
reach_follows side side' given q va kind takes first (Alone h) has stands unclashed = takes h stands
reach_follows side side' given q va kind takes first _ has stands unclashed = absurd stands

pub put_follows : (side side' : HandedSide) (given : Answer) (va width value : ℕ) → Takes side side' given is_for_access →
    Follows IsAlone side side' given (ask_put va width value)
unfolding ask_put
put_follows side side' given va width value takes first (Alone h) stands unclashed = takes h stands
put_follows side side' given va width value takes first _ stands unclashed = absurd stands

pub clear_follows : (side side' : HandedSide) (given : Answer) (domain : ℕ) (marked : List Bool) → Takes side side' given is_for_clearing →
    Follows IsAlone side side' given (ask_clear domain marked)
unfolding ask_clear
clear_follows side side' given domain marked takes first (Alone h) stands unclashed = takes h stands
clear_follows side side' given domain marked takes first _ stands unclashed = absurd stands

pub get_follows : (side side' : HandedSide) (taken given : Answer) (va width : ℕ) → given ≡ of_width width taken → Takes side side' taken is_for_value →
    Follows IsAlone side side' given (ask_get va width)
unfolding ask_get
get_follows side side' taken given va width cut takes first (Alone h) stands unclashed =
    let told = takes h stands in record { answer = cut ∙ ap (λ (a : Answer). of_width width a) told.answer; stands = told.stands }
get_follows side side' taken given va width cut takes first _ stands unclashed = absurd stands

-- different pages stand at different places
apart : (domain : ℕ) (p q : PageId) → IsOwnPage domain p → IsOwnPage domain q → place p ≡ place q → p ≡ q
apart domain p q hp hq same =
    let pp = hp.page in let qp = hq.page in
    let resources : p.resource ≡ q.resource = omega (arith, pp, qp, same) in
    same_numbers p q (hp.domain_is ∙ sym hq.domain_is) resources (omega (arith, pp, qp, same))

-- the pages after one was replaced
pages_set : (domain : ℕ) (pages : List (List ℕ)) (plain : PageId → List ℕ) (q p : PageId) (bytes : List ℕ) → length pages ≡ 16384 → IsOwnPage domain q → IsOwnPage domain p
    → slice_index_or pages (place p) [] ≡ plain p → slice_index_or (slice_set pages (place q) bytes) (place p) [] ≡ with_page plain q bytes p
pages_set domain pages plain q p bytes all hq hp was = elim (same_page_tells p q) [
  | inl e ↦ rw (e.0, e.1) (get_or-set_same pages (place q) bytes [] (let a = hq.resource in let b = hq.page in omega (arith, all, a, b)))
  | inr e ↦ rw (e.0, get_or-set_other pages (place q) (place p) bytes [] (λ same. e.1 (apart domain p q hp hq same))) was
]

-- What is left as it was by a call that changes pages alone.
pub record ChangesPages (side side' : HandedSide) : Type 0 where
  pub same_domain : side'.domain ≡ side.domain
  pub answers : answers_of side' ≡ answers_of side
  pub unfit : side'.unfit ≡ side.unfit

-- a page of the side's domain
abbrev page_at : ℕ → ℕ → ℕ → PageId
page_at domain resource page = record { domain = domain; resource = resource; page = page }

is_page : (domain resource page : ℕ) → resource < 16 → page < 1024 → IsOwnPage domain (page_at domain resource page)
is_page domain resource page low few = record { domain_is = refl; resource = low; page = few }

pub write_follows : (side side' : HandedSide) (q : PageId) (at width value : ℕ) → ChangesPages side side' → length side.pages ≡ 16384 → IsOwnPage side.domain q
    → side'.pages ≡ slice_set side.pages (place q) (with_value_in (slice_index_or side.pages (place q) []) at width value) →
    Follows IsAlone side side' tt (ask_write q at width value)
unfolding ask_write
write_follows side side' q at width value kept all hq now first (Alone h) stands unclashed = record {
  answer = refl;
  stands = record {
    pages = λ resource page low few.
        let p = page_at q.domain resource page in
        let hp : IsOwnPage side.domain p = record { domain_is = hq.domain_is; resource = low; page = few } in
        ap (λ (pages : List (List ℕ)). slice_index_or pages (place p) []) now
        ∙ (pages_set side.domain side.pages (plain_of (Alone h)) q p (with_value_in (slice_index_or side.pages (place q) []) at width value) all hq hp (stands.pages resource page low few)
        ∙ ap (λ (bytes : List ℕ). with_page (plain_of (Alone h)) q (with_value_in bytes at width value) p) (stands.pages q.resource q.page hq.resource hq.page));
    answers = kept.answers ∙ stands.answers;
    unfit = kept.unfit ∙ stands.unfit;
  };
}
write_follows side side' q at width value kept all hq now first _ stands unclashed = absurd stands

-- what stands in the pages of one resource and in those of the others, by the number of the resource
by_resource : (domain r : ℕ) (p : PageId) (was now : PageId → List ℕ) (bytes : List ℕ) → p.domain ≡ domain → p.page < 1024 → place p < 16384 →
    (r * 1024 ≤ place p → place p < r * 1024 + 1024 → p.resource ≡ r → bytes ≡ now p) →
    (place p < r * 1024 → bytes ≡ was p) → (r * 1024 + 1024 ≤ place p → bytes ≡ was p) →
    bytes ≡ (if is_of domain r p then now p else was p)
by_resource domain r p was now bytes own low all inside below above = elim (is_of_tells domain r p) [
  | inl e ↦ let is = e.1.1 in rw e.0 (inside (omega (arith, is)) (omega (arith, is, low)) is)
  | inr e ↦ rw e.0 (elim (told (nat_lt p.resource r) (Decides-ltb p.resource r)) [
    | inl less ↦ (let l = less.1 in below (omega (arith, l, low)))
    | inr more ↦ (let m = more.1 in let other : p.resource ≢ r = (λ same. e.1 (own, same)) in above (omega (arith, m, other)))
  ])
]

within : (p : PageId) → p.resource < 16 → p.page < 1024 → place p < 16384
within p low few = omega (arith, low, few)

pub copy_follows : (side side' : HandedSide) (domain from to : ℕ) → domain ≡ side.domain → from < 16 → to < 16 → ChangesPages side side'
    → ((k : ℕ) → to * 1024 ≤ k → k < to * 1024 + 1024 → slice_index_or side'.pages k [] ≡ slice_index_or side.pages (from * 1024 + (k - to * 1024)) [])
    → ((k : ℕ) → k < to * 1024 → slice_index_or side'.pages k [] ≡ slice_index_or side.pages k [])
    → ((k : ℕ) → to * 1024 + 1024 ≤ k → slice_index_or side'.pages k [] ≡ slice_index_or side.pages k [])
    → Follows IsAlone side side' tt (ask_copy domain from to)
unfolding ask_copy
copy_follows side side' domain from to own low_from low_to kept inside below above first (Alone h) stands unclashed = record {
  answer = refl;
  stands = record {
    pages = λ resource page low few.
        let p = page_at domain resource page in
        by_resource domain to p (plain_of (Alone h)) (λ q. plain_of (Alone h) (page_in from q)) (slice_index_or side'.pages (place p) []) refl few (within p low few)
        (λ least most is.
        inside (place p) least most
        ∙ (ap (λ k. slice_index_or side.pages k []) (let same : from * 1024 + (place p - to * 1024) ≡ place (page_in from p) = omega (arith, is) in same)
        ∙ stands.pages from page low_from few))
        (λ less. below (place p) less ∙ stands.pages resource page low few)
        (λ more. above (place p) more ∙ stands.pages resource page low few);
    answers = kept.answers ∙ stands.answers;
    unfit = kept.unfit ∙ stands.unfit;
  };
}
copy_follows side side' domain from to own low_from low_to kept inside below above first _ stands unclashed = absurd stands

pub forget_follows : (side side' : HandedSide) (domain resource : ℕ) → domain ≡ side.domain → ChangesPages side side'
    → ((k : ℕ) → resource * 1024 ≤ k → k < resource * 1024 + 1024 → slice_index_or side'.pages k [] ≡ zero_page)
    → ((k : ℕ) → k < resource * 1024 → slice_index_or side'.pages k [] ≡ slice_index_or side.pages k [])
    → ((k : ℕ) → resource * 1024 + 1024 ≤ k → slice_index_or side'.pages k [] ≡ slice_index_or side.pages k [])
    → Follows IsAlone side side' tt (ask_forget domain resource)
unfolding ask_forget
forget_follows side side' domain resource own kept inside below above first (Alone h) stands unclashed = record {
  answer = refl;
  stands = record {
    pages = λ r page low few.
        let p = page_at domain r page in
        by_resource domain resource p (plain_of (Alone h)) (λ q. zero_page) (slice_index_or side'.pages (place p) []) refl few (within p low few)
        (λ least most is. inside (place p) least most)
        (λ less. below (place p) less ∙ stands.pages r page low few)
        (λ more. above (place p) more ∙ stands.pages r page low few);
    answers = kept.answers ∙ stands.answers;
    unfit = kept.unfit ∙ stands.unfit;
  };
}
forget_follows side side' domain resource own kept inside below above first _ stands unclashed = absurd stands
