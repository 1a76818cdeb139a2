-- Pages that are owed or recorded are held: after each step of a program.
use Rattle.std.proofs.Common.{◌≡◌, ◌≢◌, ◌∙◌, inl, inr, ℕ, ◌<◌, Bool, true, false, cond, List, [], ◌∷◌, map, slice_index_or, Option, Some, None, IfSome, refl, sym, subst, zero-add}
use Rattle.std.specs.Prelude.{All, IsSomeAnd, is_some, nat_eq}
use Rattle.std.specs.List.{list_any}
use Rattle.std.proofs.lemmas.Bool.{false≢true, or_cases, eqb-true}
use Rattle.std.proofs.lemmas.List.{length-set}
use Rattle.std.proofs.lemmas.List.Elements.{All-nil, All-cons, All-head, All-tail}
use Rattle.cloak_base.specs.Constants.{frame_of}
use Rattle.cloak_base.specs.Pages.{is_of, page_in}
use Rattle.cloak_base.specs.Registers.{register}
use Rattle.cloak_base.specs.declared.names.PageId.{PageId}
use Rattle.cloak_model.specs.declared.context.Phase.{Phase}
use Rattle.cloak_model.specs.declared.context.Phase.TheVariants.{Plain, CopyIn, Waiting, CopyOut}
use Rattle.cloak_model.specs.declared.context.PageWord.{PageWord}
use Rattle.cloak_model.specs.declared.inside.Copied.{Copied}
use Rattle.cloak_model.specs.declared.inside.Copied.TheVariants as copied
use Rattle.cloak_model.specs.declared.inside.Ran.{Ran}
use Rattle.cloak_model.specs.declared.inside.Ran.TheVariants as ran
use Rattle.cloak_model.specs.declared.resource.Owner.TheVariants.{Space}
use Rattle.cloak_model.specs.declared.resource.Resource.{Resource}
use Rattle.cloak_model.specs.Asking.{Told}
use Rattle.cloak_model.specs.AskPages.{ask_write, ask_copy, ask_forget}
use Rattle.cloak_model.specs.Calls.{copy_in_step, copy_out_step}
use Rattle.cloak_model.specs.Cloaking.{CloakedMemory}
use Rattle.cloak_model.specs.Contexts.{Context, context_at}
use Rattle.cloak_model.specs.DomainState.{Control, Domain}
use Rattle.cloak_model.specs.DomainStep.{domain_script, DomainStepped, instruction_ended, copy_ended, after_write, phase_step, step_if, domain_step}
use Rattle.cloak_model.specs.Files.{file_resource}
use Rattle.cloak_model.specs.Fork.{marked, private_numbers, copies, copy_each, forget_each, forked, forked_resources}
use Rattle.cloak_model.specs.Hypercalls.{Stepped, Hypercall, hypercall, hypercall_of}
use Rattle.cloak_model.specs.InsideStep.{instruction_inside}
use Rattle.cloak_model.specs.Ledger.{Ledger}
use Rattle.cloak_model.specs.PageMoves.{drop_pages}
use Rattle.cloak_model.specs.Resources.{Resources, resource_at, new_resource, map_region, unmap_region, is_private_to, without_space, drop_space}
use Rattle.cloak_model.specs.World.{World, Cloaked}
use Rattle.cloak_model.specs.Script.{played}
use Rattle.cloak_model.proofs.Playing.{by_plain, by_copy_in, by_copy_out, by_ecall}
use Rattle.hypercall_kinds.specs.Kinds.{cleared, CallKind, MakesNew, MakesFile, Maps, Unmaps, Stops, Forks, EndsSpace, after}
use Rattle.hypercall_kinds.proofs.ByKinds.{by_kinds}
use Rattle.kernel_isolation.proofs.Settlings.{HasPlaces}
use Rattle.resource_map.specs.Kept.{IsSound}
use Rattle.resource_map.proofs.Copies.{marked_all, some_from_private}
use Rattle.resource_map.proofs.Lists.{get_or-map_all, inside_from_some}
use Rattle.resource_map.proofs.Places.{any-places}
use Rattle.chain_law.proofs.Zeros.{keeps_places, settle_fresh, offer_offered}
use Rattle.limit_law.proofs.Worlds.{InWorld, in_wide}
use Rattle.chain_law.proofs.ZeroWorlds.{clear_clears, NoneOwedIn}
use Rattle.frozen_law.specs.Held.{IsHeldBy}
use Rattle.frozen_law.proofs.HeldCopies.{closed_all, fork_stay}
use Rattle.frozen_law.proofs.HeldPages.{IsKind, pages_held, HeldStay, new_stay, file_stay, map_stay, unmap_stay}
use Rattle.frozen_law.proofs.Owned.{PagesAreOf, of_wide, settle_of, offer_of, copy_of_kind, Without, drop_of}
use Rattle.frozen_law.proofs.Questions.{Kept, reach_keeps, clear_keeps}
use Rattle.frozen_law.proofs.Walks.{Stores, instruction_keeps, copy_in_keeps, copy_out_keeps}
use Rattle.frozen_law.proofs.Worlds.{EachAdds, Adds, adding}

abbrev pub OfIn : (PageId → Type 0) → World → Type 0
OfIn P w = InWorld (PagesAreOf P) w

wide_in : (P Q : PageId → Type 0) (w : World) → ((q : PageId) → P q → Q q) → OfIn P w → OfIn Q w
wide_in P Q w wide of = in_wide (PagesAreOf P) (PagesAreOf Q) (λ m. of_wide P Q m wide) w of

-- Each change of a world, and so each question, for pages of a kind.

module _ (P : PageId → Type 0) where
  abbrev pub KnowsOf : CloakedMemory → Type 0
  KnowsOf m = HasPlaces m × PagesAreOf P m

  abbrev pub Learns : ℕ → World → World → Type 0
  Learns = Adds (λ n. KnowsOf)

  pub same_of : (m n : CloakedMemory) → n.ledger ≡ m.ledger → PagesAreOf P m → PagesAreOf P n
  same_of m n same of = record {
    owed = λ f. subst (λ (l : Ledger). IfSome (slice_index_or l.owed f None) P) (sym same) (of.owed f);
    recorded = λ q some. of.recorded q (subst (λ (l : Ledger). is_some (l.recorded q) ≡ true) same some);
  }

  knows_adds : EachAdds P (λ n. KnowsOf)
  knows_adds = record {
    wider = λ a b m low knows. knows;
    settles = λ n f m knows. (keeps_places m _ (settle_fresh f m) knows.0, settle_of P f m knows.1);
    stores = λ n pa width value m knows.
        (knows.0 ∙ sym (length-set m.ram (frame_of pa) _), same_of m _ refl knows.1);
    offers = λ n q own g write m knows.
        (keeps_places m _ (offer_offered q g write m).stay knows.0, offer_of P q own g write m knows.1);
  }

  pub changes : Kept P Learns
  changes = adding P (λ n. KnowsOf) knows_adds

  write_knows : (q : PageId) (at width value : ℕ) (w : World) → InWorld KnowsOf w →
      InWorld KnowsOf (ask_write q at width value w).world
  unfolding ask_write
  write_knows q at width value (Cloaked c) knows = (knows.0, same_of c.memory _ refl knows.1)
  write_knows q at width value _ knows = tt

  pub stores : Stores P Learns
  stores q own va kind at width value w is ok = record {
    by = λ n knows. write_knows q at width value _ ((reach_keeps P Learns changes q own va kind w).by n knows);
  }

  pub of_knows : (w : World) → InWorld KnowsOf w → OfIn P w
  of_knows = in_wide KnowsOf (PagesAreOf P) (λ m knows. knows.1)

  pub places_know : (w : World) → InWorld KnowsOf w → InWorld HasPlaces w
  places_know = in_wide KnowsOf HasPlaces (λ m knows. knows.0)

  -- Copies.

  copy_in : (d from to : ℕ) (w : World) →
      ((q : PageId) → is_of d to q ≡ true → P (page_in from q) → P q) → OfIn P w → OfIn P (ask_copy d from to w).world
  unfolding ask_copy
  copy_in d from to (Cloaked c) closed of = copy_of_kind P d from to c.memory closed of
  copy_in d from to _ closed of = tt

  abbrev IsClosedAt : ℕ → ℕ × ℕ → Type 0
  IsClosedAt d copy = (q : PageId) → is_of d copy.1 q ≡ true → P (page_in copy.0 q) → P q

  pub copies_in : (d : ℕ) (list : List (ℕ × ℕ)) (w : World) → All (IsClosedAt d) list → OfIn P w →
      OfIn P (played (copy_each d list) w).world
  unfolding copy_each
  copies_in d [] w all of = of
  copies_in d (copy ∷ rest) w all of =
      copies_in d rest (ask_copy d copy.0 copy.1 w).world (All-tail (IsClosedAt d) copy rest all)
      (copy_in d copy.0 copy.1 w (All-head (IsClosedAt d) copy rest all) of)

-- Pages that are dropped, number after number.

abbrev pub IsApart : ℕ → List ℕ → PageId → Type 0
IsApart d numbers q = q.domain ≡ d → All (λ n. q.resource ≢ n) numbers

drop_in : (P : PageId → Type 0) (d n : ℕ) (w : World) → NoneOwedIn d n w → OfIn P w →
    OfIn (Without P d n) (ask_forget d n w).world
unfolding ask_forget
drop_in P d n (Cloaked c) none of = drop_of P d n c.memory none of
drop_in P d n _ none of = tt

forget_owes : (d n : ℕ) (w : World) (resource : ℕ) → NoneOwedIn d resource w →
    NoneOwedIn d resource (ask_forget d n w).world
unfolding ask_forget drop_pages
forget_owes d n (Cloaked c) resource none = none
forget_owes d n _ resource none = tt

pub forgets_in : (P : PageId → Type 0) (d : ℕ) (numbers : List ℕ) (w : World) → All (λ n. NoneOwedIn d n w) numbers →
    OfIn P w → OfIn (λ q. P q × IsApart d numbers q) (played (forget_each d numbers) w).world
unfolding forget_each
forgets_in P d [] w none of = wide_in P (λ q. P q × IsApart d [] q) w (λ q here. (here, (λ own. All-nil _))) of
forgets_in P d (n ∷ numbers) w none of =
    let v : World = (ask_forget d n w).world in
    wide_in (λ q. Without P d n q × IsApart d numbers q) (λ q. P q × IsApart d (n ∷ numbers) q)
    (played (forget_each d numbers) v).world
    (λ q here. (
      here.0.0,
      (λ own. All-cons (λ (k : ℕ). q.resource ≢ k) n numbers (here.0.1 own) (here.1 own)),
    ))
    (forgets_in (Without P d n) d numbers v
    (λ k default low. forget_owes d n w _ (All-tail (λ (i : ℕ). NoneOwedIn d i w) n numbers none k default low))
    (drop_in P d n w (All-head (λ (i : ℕ). NoneOwedIn d i w) n numbers none) of))

-- A resource that is not private to a space is there after its end.

apart_any : (n : ℕ) (xs : List ℕ) → list_any (λ m. nat_eq m n) xs ≡ true → All (λ k. n ≢ k) xs → ⊥
apart_any n [] any apart = false≢true any
apart_any n (x ∷ xs) any apart = elim (or_cases (nat_eq x n) (list_any (λ m. nat_eq m n) xs) any) [
  | inl here ↦ All-head (λ (k : ℕ). n ≢ k) x xs apart (sym (eqb-true x n here))
  | inr there ↦ apart_any n xs there (All-tail (λ (k : ℕ). n ≢ k) x xs apart)
]

not_private : (space : ℕ) (r : Resources) (n : ℕ) → All (λ k. n ≢ k) (private_numbers space r) → (t : Bool) →
    is_private_to space (resource_at r n) ≡ t → t ≡ false
not_private space r n apart false is = refl
not_private space r n apart true is =
    let inside = inside_from_some r.held n (some_from_private space (resource_at r n) is) in
    absurd (apart_any n (private_numbers space r)
    (subst (λ (k : ℕ). list_any (λ m. nat_eq m k) (private_numbers space r) ≡ true) (zero-add n)
    (any-places (is_private_to space) None 0 n r.held inside is)) apart)

kept_by : (o : Option Resource) (t : Bool) → t ≡ false → cond t None o ≡ o
kept_by o true is = absurd (false≢true (sym is))
kept_by o false is = refl

dropped_held : (space : ℕ) (r : Resources) (q : PageId) → All (λ k. q.resource ≢ k) (private_numbers space r) →
    IsHeldBy r q → IsHeldBy (drop_space space r) q
unfolding drop_space
dropped_held space r q apart here =
    let o = resource_at r q.resource in
    let same : slice_index_or (map (without_space space) r.held) q.resource None ≡ o =
    get_or-map_all (without_space space) None None r.held q.resource refl
    ∙ kept_by o (is_private_to space o) (not_private space r q.resource apart (is_private_to space o) refl) in
    subst (λ (x : Option Resource). IsSomeAnd x (λ held. q.page < held.pages)) (sym same) here

-- Hypercalls.

module _ (Other : PageId → Type 0) (d : Control) (sound : IsSound d.resources) where
  abbrev Kind : Resources → PageId → Type 0
  Kind r = IsKind d.number r Other

  abbrev Was : PageId → Type 0
  Was = Kind d.resources

  kind_wide : (r : Resources) → HeldStay d.resources r → (q : PageId) → Was q → Kind r q
  kind_wide r stay q here = record { own = λ same. stay q (here.own same); other = here.other }

  -- what holds of a call's answer
  abbrev Holds : Told Stepped → Type 0
  Holds t = OfIn (Kind t.answer.control.resources) t.world

  later : (r : Resources) (w : World) → HeldStay d.resources r → OfIn Was w → OfIn (Kind r) w
  later r w stay of = wide_in Was (Kind r) w (kind_wide r stay) of

  module _ (h : Hypercall) (slot : ℕ) (c : Context) (w : World) (knows : InWorld (KnowsOf Was) w) where
    of : OfIn Was w
    of = of_knows Was w knows

    of_cleared : OfIn Was (cleared c d w).world
    of_cleared =
        of_knows Was (cleared c d w).world
        ((clear_keeps Was (Learns Was) (changes Was) d.number (marked c.space d.resources) w).by 0 knows)

    kind_holds : (k : CallKind h slot c d w) → Holds (after h slot c d w k)
    unfolding forked
    kind_holds (MakesNew pages) =
        later (new_resource (Space c.space) pages d.resources).resources w
        (new_stay (Space c.space) pages d.resources) of
    kind_holds (MakesFile pages) =
        later (file_resource (register c.regs 10) pages d.resources).resources w
        (file_stay (register c.regs 10) pages d.resources) of
    kind_holds (Maps g) = later (map_region c.space g d.resources).resources w (map_stay c.space g d.resources) of
    kind_holds (Unmaps start) =
        later (unmap_region c.space start d.resources).resources w (unmap_stay c.space start d.resources) of
    kind_holds (Stops other) = of_cleared
    kind_holds (Forks free new is room slots spaces ok) =
        let r' : Resources = forked_resources c.space new d.resources in
        copies_in (Kind r') d.number (copies c.space d.resources) (cleared c d w).world
        (closed_all c.space new d.resources sound d.number Other)
        (later r' (cleared c d w).world (fork_stay c.space new d.resources sound) of_cleared)
    kind_holds (EndsSpace is none ok) =
        let r = d.resources in
        let numbers = private_numbers c.space r in
        let clear = clear_clears d.number (marked c.space r) w (places_know Was w knows) ok in
        let marks = marked_all c.space r in
        wide_in (λ q. Was q × IsApart d.number numbers q) (Kind (drop_space c.space r))
        (played (forget_each d.number numbers) (cleared c d w).world).world
        (λ q here. record {
          own = λ same. dropped_held c.space r q (here.1 same) (here.0.own same);
          other = here.0.other;
        })
        (forgets_in Was d.number numbers (cleared c d w).world (λ k default low. clear _ (marks k default low))
        of_cleared)
    kind_holds _ = of

    hypercall_holds : Holds (played (hypercall h slot c d) w)
    hypercall_holds = by_kinds Holds h slot c d w kind_holds

-- The step.

module _ (Other : PageId → Type 0) (d : Domain) (sound : IsSound d.control.resources) where
  abbrev Mine : Resources → PageId → Type 0
  Mine r = IsKind d.control.number r Other

  abbrev Now : PageId → Type 0
  Now = Mine d.control.resources

  abbrev StepHolds : Told DomainStepped → Type 0
  StepHolds t = OfIn (Mine t.answer.domain.control.resources) t.world

  ended_holds : (slot : ℕ) (c : Context) (e : Ran) (w : World) → InWorld (KnowsOf Now) w →
      StepHolds (played (instruction_ended slot d c e) w)
  unfolding instruction_ended
  ended_holds slot c ran.Ecall w knows =
      by_ecall StepHolds slot d c w (hypercall_holds Other d.control sound (hypercall_of c) slot c w knows)
  ended_holds slot c _ w knows = of_knows Now w knows

  copied_same : (slot : ℕ) (c : Context) (e : Copied) →
      (copy_ended slot d c e).domain.control.resources ≡ d.control.resources
  unfolding copy_ended
  copied_same slot c copied.Going = refl
  copied_same slot c _ = refl

  written_same : (wrote : Option PageWord) (s : DomainStepped) →
      (after_write wrote s).domain.control.resources ≡ s.domain.control.resources
  written_same None s = refl
  written_same (Some place) s = refl

  same_holds : (r : Resources) (w : World) → r ≡ d.control.resources → OfIn Now w → OfIn (Mine r) w
  same_holds r w same of = subst (λ (x : Resources). OfIn (Mine x) w) (sym same) of

  wrote_holds : (wrote : Option PageWord) (s : DomainStepped) (w : World) → OfIn (Mine s.domain.control.resources) w →
      OfIn (Mine (after_write wrote s).domain.control.resources) w
  wrote_holds None s w of = of
  wrote_holds (Some place) s w of = of

  phase_holds : (phase : Phase) (slot : ℕ) (c : Context) (w : World) → InWorld (KnowsOf Now) w →
      StepHolds (played (phase_step phase slot c d) w)
  unfolding phase_step
  phase_holds Plain slot c w knows =
      let t = played (instruction_inside d.control.number d.control.resources c) w in
      let there = (instruction_keeps Now (Learns Now) (changes Now) (stores Now) d.control.number d.control.resources c w
      (pages_held d.control.number d.control.resources Other sound c.space)).by 0 knows in
      let s = played (instruction_ended slot d t.answer.context t.answer.ending) t.world in
      by_plain StepHolds slot c d w
      (wrote_holds t.answer.wrote s.answer s.world (ended_holds slot t.answer.context t.answer.ending t.world there))
  phase_holds (CopyIn done) slot c w knows =
      let t = played (copy_in_step d.control.number d.control.resources c done) w in
      by_copy_in StepHolds done slot c d w
      (same_holds _ t.world (copied_same slot t.answer.context t.answer.ending)
      (of_knows Now t.world
      ((copy_in_keeps Now (Learns Now) (changes Now) (stores Now) d.control.number d.control.resources c done w
      (pages_held d.control.number d.control.resources Other sound c.space)).by 0 knows)))
  phase_holds Waiting slot c w knows = of_knows Now w knows
  phase_holds (CopyOut done total) slot c w knows =
      let t = played (copy_out_step d.control.number d.control.resources c done total) w in
      by_copy_out StepHolds done total slot c d w
      (wrote_holds t.answer.wrote (copy_ended slot d t.answer.context t.answer.ending) t.world
      (same_holds _ t.world (copied_same slot t.answer.context t.answer.ending)
      (of_knows Now t.world
      ((copy_out_keeps Now (Learns Now) (changes Now) (stores Now) d.control.number d.control.resources c done total w
      (pages_held d.control.number d.control.resources Other sound c.space)).by 0 knows))))

  step_if_holds : (o : Option Context) (slot : ℕ) (w : World) → InWorld (KnowsOf Now) w →
      StepHolds (played (step_if o slot d) w)
  unfolding step_if
  step_if_holds None slot w knows = of_knows Now w knows
  step_if_holds (Some c) slot w knows = phase_holds c.phase slot c w knows

  pub step_holds : (slot : ℕ) (w : World) → InWorld (KnowsOf Now) w → StepHolds (domain_step slot d w)
  unfolding domain_step domain_script
  step_holds slot w knows = step_if_holds (context_at d.control.contexts slot) slot w knows
