-- Draws, and frames that are owed a page: settling takes none more of both together, and an offer one.
use Rattle.std.proofs.Common.{◌≡◌, ℕ, zero, suc, ◌+◌, ◌-◌, ◌^◌, ◌≤◌, List, [], ◌∷◌, slice_set, slice_index_or, Option, Some, None, ap, arith}
use Rattle.std.proofs.Math.Nat.{min-le_left}
use Rattle.cloak_base.specs.Random.{Random}
use Rattle.cloak_base.specs.declared.names.PageId.{PageId}
use Rattle.cloak_model.specs.AskPages.{ask_write, ask_copy, ask_forget}
use Rattle.cloak_model.specs.Cloaking.{CloakedMemory, owed_in, settle_owed, settle}
use Rattle.cloak_model.specs.Contexts.{Context}
use Rattle.cloak_model.specs.DomainState.{Control, Domain}
use Rattle.cloak_model.specs.DomainStep.{domain_step}
use Rattle.cloak_model.specs.Ending.{ask_end}
use Rattle.cloak_model.specs.Fork.{marked, copies, copy_each}
use Rattle.cloak_model.specs.Hypercalls.{Hypercall, hypercall}
use Rattle.cloak_model.specs.Ledger.{next_vector}
use Rattle.cloak_model.specs.PageMoves.{copy_pages, drop_pages}
use Rattle.cloak_model.specs.World.{World, Cloaked}
use Rattle.cloak_model.specs.Script.{played}
use Rattle.cloak_model.proofs.Offering.{SettlesKept, settle_keeps, OfferKeeps, offer_keeps}
use Rattle.limit_law.proofs.Worlds.{InWorld, end_keeps}
use Rattle.frozen_law.proofs.Ends.{hypercall_keeps}
use Rattle.frozen_law.proofs.Worlds.{EachAdds, Adds, none_more, adding}
use Rattle.frozen_law.proofs.Questions.{Kept, reach_keeps, clear_keeps}
use Rattle.frozen_law.proofs.Walks.{AnyPage, any_page, Stores, step_keeps}

-- How many frames are owed a page.

abbrev weight : Option PageId → ℕ
weight None = 0
weight (Some q) = 1

abbrev pub owing : List (Option PageId) → ℕ
owing [] = 0
owing (o ∷ owed) = weight o + owing owed

pub one_less : (xs : List (Option PageId)) (f : ℕ) (q : PageId) → slice_index_or xs f None ≡ Some q →
    owing (slice_set xs f None) + 1 ≡ owing xs
one_less [] f q is = absurd cc
one_less (x ∷ xs) zero q is =
    let here : weight x ≡ 1 = ap weight is in omega (arith, here)
one_less (x ∷ xs) (suc f) q is = let rest = one_less xs f q is in omega (arith, rest)

one_more : (xs : List (Option PageId)) (f : ℕ) (q : PageId) → owing (slice_set xs f (Some q)) ≤ owing xs + 1
one_more [] f q = omega arith
one_more (x ∷ xs) zero q = omega arith
one_more (x ∷ xs) (suc f) q = let rest = one_more xs f q in omega (arith, rest)

-- Draws and such frames are at most n.

abbrev pub AreFew : ℕ → CloakedMemory → Type 0
AreFew n m = m.ledger.draws + owing m.ledger.owed ≤ n

pub few_wide : (a b : ℕ) (m : CloakedMemory) → a ≤ b → AreFew a m → AreFew b m
few_wide a b m low few = omega (arith, low, few)

owed_few : (n f : ℕ) (q : PageId) (draw : Option (List ℕ × Random)) (m : CloakedMemory) → owed_in m f ≡ Some q →
    AreFew n m → AreFew n (settle_owed f q draw m).memory
unfolding settle_owed
owed_few n f q None m is few = let gone = one_less m.ledger.owed f q is in omega (arith, gone, few)
owed_few n f q (Some draw) m is few =
    let gone = one_less m.ledger.owed f q is in
    let most = min-le_left (m.ledger.draws + 1) (2 ^ 64 - 1) in
    omega (arith, gone, most, few)

settles_few : (n : ℕ) → SettlesKept (AreFew n)
settles_few n f q m is few = owed_few n f q (next_vector m.ledger) m is few

pub settle_few : (n f : ℕ) (m : CloakedMemory) → AreFew n m → AreFew n (settle f m).memory
settle_few n f m few = settle_keeps (AreFew n) (settles_few n) f m few

offers_few : (n : ℕ) (q : PageId) → OfferKeeps q (AreFew n) (AreFew (n + 1))
offers_few n q = record {
  settles = settles_few n;
  compares = λ a b m few. few;
  takes = λ g m clean few. let more = one_more m.ledger.owed g q in omega (arith, more, few);
  stays = λ m few. few_wide n (n + 1) m (omega arith) few;
}

-- Worlds.

abbrev FewIn : ℕ → World → Type 0
FewIn n w = InWorld (AreFew n) w

few_adds : EachAdds AnyPage AreFew
few_adds = record {
  wider = few_wide;
  settles = settle_few;
  stores = λ n pa width value m few. few;
  offers = λ n q own g write m few. offer_keeps (offers_few n q) g write m few;
}

changes : Kept AnyPage (Adds AreFew)
changes = adding AnyPage AreFew few_adds

adds_copy : (d from to : ℕ) (w : World) → Adds AreFew 0 w (ask_copy d from to w).world
unfolding ask_copy copy_pages
adds_copy d from to (Cloaked c) = none_more AnyPage AreFew few_adds _ _ (λ n. record { by = λ few. few })
adds_copy d from to _ = record { by = λ n few. tt }

adds_forget : (d n : ℕ) (w : World) → Adds AreFew 0 w (ask_forget d n w).world
unfolding ask_forget drop_pages
adds_forget d n (Cloaked c) = none_more AnyPage AreFew few_adds _ _ (λ k. record { by = λ few. few })
adds_forget d n _ = record { by = λ k few. tt }

adds_write : (q : PageId) (at width value : ℕ) (w : World) → Adds AreFew 0 w (ask_write q at width value w).world
unfolding ask_write
adds_write q at width value (Cloaked c) = none_more AnyPage AreFew few_adds _ _ (λ n. record { by = λ few. few })
adds_write q at width value _ = record { by = λ n few. tt }

stores : Stores AnyPage (Adds AreFew)
stores q own va kind at width value w is ok =
    changes.chained 1 0 _ _ _ (reach_keeps AnyPage (Adds AreFew) changes q own va kind w) (adds_write q at width value _)

-- Hypercalls.

adds_copies : (d : ℕ) (list : List (ℕ × ℕ)) (w : World) → Adds AreFew 0 w (played (copy_each d list) w).world
unfolding copy_each
adds_copies d [] w = changes.same w
adds_copies d (copy ∷ rest) w =
    changes.chained 0 0 _ _ _ (adds_copy d copy.0 copy.1 w) (adds_copies d rest (ask_copy d copy.0 copy.1 w).world)

adds_hypercall : (d : Control) (h : Hypercall) (slot : ℕ) (c : Context) (w : World) →
    Adds AreFew 0 w (played (hypercall h slot c d) w).world
adds_hypercall d h slot c w =
    hypercall_keeps AnyPage (Adds AreFew) changes adds_forget d (λ x v ok.
    changes.chained 0 0 _ _ _ (clear_keeps AnyPage (Adds AreFew) changes d.number (marked x.space d.resources) v)
    (adds_copies d.number (copies x.space d.resources) _)) h slot c w

-- The step, and the end of a domain.

pub step_few : (n slot : ℕ) (d : Domain) (w : World) → FewIn n w → FewIn (n + 2) (domain_step slot d w).world
step_few n slot d w few =
    (step_keeps AnyPage (Adds AreFew) changes stores d (any_page d.control.number d.control.resources) (adds_hypercall d.control)
    slot w).by n few

pub end_few : (n d : ℕ) (w : World) → FewIn n w → FewIn n (ask_end d w).world
unfolding drop_pages
end_few n d w few = end_keeps (AreFew n) (settle_few n) (λ d' resource m few'. few') d w few
