-- A run from its opening on, and the laws.
use Rattle.std.proofs.Common.{◌≡◌, ◌≢◌, ◌∙◌, inl, inr, ℕ, zero, suc, ◌+◌, ◌/◌, ◌%◌, ◌<◌, ◌≤◌, Bool, true, false, cond, List, [], ◌∷◌, length, map, slice_get, slice_index, Option, Some, None, IfSome, Ok, refl, sym, ap, subst, arith, eq-eqb}
use Rattle.std.specs.Prelude.{nat_eq, ◌==◌, ◌&&◌, replicate}
use Rattle.std.proofs.lemmas.Bool.{false≢true, and_parts, or_parts, eqb-true, cases_lt, false_from_ne_true}
use Rattle.std.proofs.lemmas.List.Folds.{list_any-append}
use Rattle.cloak_base.proofs.Pages.{is_of-other}
use Rattle.cloak_base.specs.Registers.{register}
use Rattle.cloak_base.specs.declared.names.PageId.{PageId}
use Rattle.rv_isa.specs.Table.{instruction}
use Rattle.rv_isa.specs.declared.instr.Instr.{Instr}
use Rattle.rv_atomic.specs.Table.{atomic_instruction}
use Rattle.rv_atomic.specs.declared.atomic.Atomic.{Atomic}
use Rattle.rv_atomic.specs.declared.atomic.AtomicOp.{AtomicOp}
use Rattle.rv_atomic.specs.declared.atomic.AtomicOp.TheVariants.{Sc}
use Rattle.cloak_model.specs.declared.context.Phase.{Phase}
use Rattle.cloak_model.specs.declared.context.Phase.TheVariants.{Plain, CopyIn, Waiting, CopyOut}
use Rattle.cloak_model.specs.declared.context.PageWord.{PageWord}
use Rattle.cloak_model.specs.declared.image.Bundle.{Bundle}
use Rattle.cloak_model.specs.declared.image.Program.{Program}
use Rattle.cloak_model.specs.Items.{Item}
use Rattle.cloak_model.specs.Items as item
use Rattle.cloak_model.specs.Beginning.{Beginning, IsBeginning, opening_from}
use Rattle.cloak_model.specs.Bundle.{IsInGrammar}
use Rattle.cloak_model.specs.Cloaking.{CloakedMemory}
use Rattle.cloak_model.specs.Contexts.{Context, context_at, context_number, domain_of, slot_of, word_of_page, same_word, is_reserved, started_contexts}
use Rattle.cloak_model.specs.DomainState.{Control, Domain, started_control, started_domain}
use Rattle.cloak_model.specs.Halves.{inward_half}
use Rattle.cloak_model.specs.Joint.{Moment, Turn, hart_in, joint_step}
use Rattle.cloak_model.specs.Opening.{numbers_below, RunEdge, started_joint, started_domains}
use Rattle.cloak_model.specs.Parts.{Joint}
use Rattle.cloak_model.specs.Run.{Run, turns_from, run_from, joint_after, first_moment, run_of}
use Rattle.cloak_model.specs.StoredFiles.{FileContents}
use Rattle.kernel_isolation.specs.Isolation.{joint_until}
use Rattle.kernel_isolation.proofs.FilesAdded.{IsGiven, KeepsDomainIf, given_keeps}
use Rattle.kernel_isolation.proofs.Isolated.{until_read, of_opened}
use Rattle.resource_map.proofs.Lists.{get_or-replicate_none}
use Rattle.frozen_state.specs.Limits.{IsPageWord, IsContext, KeepsLimits}
use Rattle.limit_law.proofs.Runs.{runs_keep_limits}
use Rattle.limit_law.proofs.Openings.{begins}
use Rattle.page_law.specs.Ciphers.{items_of_turn}
use Rattle.page_law.specs.OwnPages.{context_of_step, is_end_of, ends_in}
use Rattle.page_law.proofs.OwnPages.{moment_behind, step_is}
use Rattle.latest_store.specs.Moves.{Move, Drops, latest_value}
use Rattle.latest_store.specs.Sums.{writes_in}
use Rattle.latest_store.specs.Deeds.{both_granted, page_for, step_moves, ending_moves, end_moves}
use Rattle.latest_store.specs.LatestStore.{history_until}
use Rattle.latest_store.proofs.Moved.{Agrees}
use Rattle.latest_store.proofs.Histories.{runs_give_latest, has_step}
use Rattle.latest_store.proofs.Over.{GoesOver, step_goes_over}
use Rattle.context_law.specs.Inside.{Reached, placed_reached, atomic_reached, word_reached, fetched_reached, phase_reached, context_reached, program_reached, step_reached, moves_of_step, all_moves_of_step, page_of, reserved_by, stored_with, stored_by, WasReservedInside, ContextsKeepReservations, ContextsStoreReserved}
use Rattle.context_law.proofs.Marks.{mark_of, mark_at}
use Rattle.context_law.proofs.Others.{Misses}
use Rattle.context_law.proofs.Stores.{both_none}
use Rattle.context_law.proofs.Spared.{IsUsed}
use Rattle.context_law.proofs.MarkedPages.{MayMap, is_used}
use Rattle.context_law.proofs.HeldMarks.{HoldsMark, HoldsMarks, runs_hold_marks}
use Rattle.context_law.proofs.TurnMarks.{mark_in, marks_in, used_in, UsedIn, MarksAfter, step_marks}
use Rattle.kernel_isolation.proofs.Numbers.{number_of_context}
use Rattle.cloak_model.proofs.Steps.{after_step}

-- The opening: no context has a reservation.

none_started : (pc sp k : ℕ) (word : PageWord) → mark_at (started_contexts pc sp) k ≡ Some word → ⊥
unfolding started_contexts
none_started pc sp zero word is = cc
none_started pc sp (suc k) word is =
    let none : context_at (replicate 7 None) k ≡ None = get_or-replicate_none 7 k in
    let gone : mark_at (replicate 7 None) k ≡ None = ap mark_of none in
    cc

none_begun : (e : ℕ) (programs : List Program) (d k : ℕ) (word : PageWord) →
    marks_in (started_domains e programs) d k ≡ Some word → ⊥
unfolding started_domain started_control
none_begun e [] zero k word is = cc
none_begun e [] (suc d) k word is = cc
none_begun e (p ∷ programs) zero k word is = none_started p.start.entry p.start.sp k word is
none_begun e (p ∷ programs) (suc d) k word is = none_begun (e + 1) programs d k word is

abbrev HasNone : Joint → Type 0
HasNone j = (d k : ℕ) (word : PageWord) → marks_in j.domains d k ≡ Some word → ⊥

none_joint : (b : Bundle) (m : CloakedMemory) → HasNone (started_joint b m)
unfolding started_joint
none_joint b m d k word is = none_begun 0 b.programs d k word is

-- a file leaves contexts as they are
mark_stays : (was now : Option Domain) (k : ℕ) → KeepsDomainIf was now → mark_in now k ≡ mark_in was k
mark_stays None None k keeps = refl
mark_stays None (Some now) k keeps = absurd keeps
mark_stays (Some was) None k keeps = absurd keeps
mark_stays (Some was) (Some now) k keeps =
    ap (λ (contexts : List (Option Context)). mark_at contexts k) keeps.contexts

none_given : (f : FileContents) (j j' : Joint) → IsGiven f j j' → HasNone j → HasNone j'
none_given f j j' given none d k word is =
    none d k word
    (sym (mark_stays (slice_get j.domains d) (slice_get j'.domains d) k ((given_keeps f j j' given).domains d)) ∙ is)

-- The steps.

-- what is known of the step after n steps
abbrev StepMarks : Bundle → Beginning → Run → ℕ → Type 0
StepMarks b from r n =
    MarksAfter (history_until b from n r) (joint_until n r).domains (context_of_step b r n)
    (items_of_turn (slice_get r.turns n)) (joint_until (suc n) r).domains

run_step : (b : Bundle) (from : Beginning) (budget : ℕ) (o : RunEdge) → opening_from b from ≡ Ok o →
    let r = run_of b budget o in
    (n : ℕ) → suc n ≤ length r.turns → Agrees (history_until b from n r) (joint_until n r).memory.plain →
    StepMarks b from r n
unfolding run_of
run_step b from budget o opens n low agrees =
    let r : Run = run_of b budget o in
    let turns : List Turn = turns_from budget (first_moment b o.joint) in
    let step = has_step turns n (omega (arith, low)) in
    let t = step.turn in
    let m : Moment = moment_behind (first_moment b o.joint) n turns in
    let steady = (until_read b from budget o opens n (omega (arith, low))).steady in
    let earlier : List Move = history_until b from n r in
    let inside : ℕ → Option ℕ = λ k.
    (hart_in m.joint (slice_index b.kernel.schedule (k % length b.kernel.schedule))).inside in
    let after : MarksAfter earlier m.joint.domains (inside m.steps) t.items t.joint.domains =
    subst (λ (x : Turn). MarksAfter earlier m.joint.domains (inside m.steps) x.items x.joint.domains)
    (step_is budget n (first_moment b o.joint) t step.is) (step_marks earlier m steady.programs agrees) in
    let number : m.steps ≡ n = omega arith in
    let after' : MarksAfter earlier m.joint.domains (inside n) t.items t.joint.domains =
    subst (λ (k : ℕ). MarksAfter earlier m.joint.domains (inside k) t.items t.joint.domains) number after in
    let after'' : MarksAfter earlier m.joint.domains (context_of_step b r n) (items_of_turn (slice_get r.turns n))
    t.joint.domains =
    subst (λ (found : Option Turn).
    MarksAfter earlier m.joint.domains (context_of_step b r n) (items_of_turn found) t.joint.domains)
    (sym step.is) after' in
    subst (λ (j : Joint).
    MarksAfter earlier m.joint.domains (context_of_step b r n) (items_of_turn (slice_get r.turns n)) j.domains)
    (sym (after_step o.joint turns n t step.is)) after''

run_gone : (b : Bundle) (from : Beginning) (budget : ℕ) (o : RunEdge) → opening_from b from ≡ Ok o →
    let r = run_of b budget o in
    (n : ℕ) → suc n ≤ length r.turns → (d : ℕ) → ends_in d (items_of_turn (slice_get r.turns n)) ≡ true →
    GoesOver d (joint_until (suc n) r)
unfolding run_of
run_gone b from budget o opens n low d ends =
    let turns : List Turn = turns_from budget (first_moment b o.joint) in
    let step = has_step turns n (omega (arith, low)) in
    let t = step.turn in
    let m : Moment = moment_behind (first_moment b o.joint) n turns in
    let steady = (until_read b from budget o opens n (omega (arith, low))).steady in
    let same : joint_step m ≡ t = step_is budget n (first_moment b o.joint) t step.is in
    let here : ends_in d (joint_step m).items ≡ true =
    ap (λ (x : Turn). ends_in d x.items) same
    ∙ ap (λ (found : Option Turn). ends_in d (items_of_turn found)) (sym step.is) ∙ ends in
    subst (GoesOver d) (sym (after_step o.joint turns n t step.is))
    (subst (λ (x : Turn). GoesOver d x.joint) same (step_goes_over d m steady.programs here))

-- The law, of a run of which these are known.

-- each reservation is of such a word
abbrev AreAligned : Run → Type 0
AreAligned r = (n d k : ℕ) (word : PageWord) → marks_in (joint_until n r).domains d k ≡ Some word → word.at % 4 ≡ 0

abbrev AreKept : Bundle → Beginning → Run → ℕ → Type 0
AreKept b from r n =
    (d k : ℕ) (word : PageWord) → marks_in (joint_until n r).domains d k ≡ Some word →
    (k < 8) × WasReservedInside b from r n (context_number d k) word

own_domain : (d k : ℕ) → k < 8 → domain_of (context_number d k) ≡ d
own_domain d k less = omega (arith, less)

-- one more step, in which the word was not written
still_reserved : (b : Bundle) (from : Beginning) (r : Run) (n ctx : ℕ) (word : PageWord) →
    WasReservedInside b from r n ctx word →
    Misses (domain_of ctx) word (all_moves_of_step b from r n) → WasReservedInside b from r (suc n) ctx word
still_reserved b from r n ctx word was misses =
    let before = was.before in
    record {
      step = was.step;
      before = omega (arith, before);
      own = was.own;
      reserved = was.reserved;
      unwritten = λ k since to. elim (cases_lt k n) [
        | inl less ↦ was.unwritten k since (omega (arith, less))
        | inr past ↦
            let same : n ≡ k = omega (arith, past, to) in
            subst (λ (x : ℕ). Misses (domain_of ctx) word (all_moves_of_step b from r x)) same misses
      ];
    }

-- The end of another domain drops no page of this one.

ending_misses : (d : ℕ) (word : PageWord) (item : Item) → is_end_of d item ≡ false →
    Misses d word (ending_moves item)
ending_misses d word (item.Ended e) live =
    all_drops (numbers_below 16)
  where
    other : e ≢ d
    other same = false≢true (sym live ∙ eq-eqb e d same)

    all_drops : (list : List ℕ) → Misses d word (map (λ (n : ℕ). Drops e n) list)
    all_drops [] = refl
    all_drops (n ∷ list) = both_none _ _ (is_of-other e n (page_of d word) (λ is. other (sym is.0))) (all_drops list)
ending_misses d word _ live = refl

ends_miss : (d : ℕ) (word : PageWord) (items : List Item) → ends_in d items ≡ false → Misses d word (end_moves items)
ends_miss d word [] live = refl
ends_miss d word (item ∷ items) live =
    let parts = or_parts (is_end_of d item) (ends_in d items) live in
    list_any-append (writes_in (page_of d word) word.at) (ending_moves item) (end_moves items)
    ∙ both_none _ _ (ending_misses d word item parts.0) (ends_miss d word items parts.1)

no_moves : (history : List Move) (domains : List Domain) (items : List Item) (d : ℕ) (word : PageWord) →
    Misses d word (step_moves history domains None items)
unfolding step_moves
no_moves history domains items d word = refl

-- each reservation is of a page whose resource is in use
abbrev AreUsed : Run → Type 0
AreUsed r =
    (n d k : ℕ) (word : PageWord) → marks_in (joint_until n r).domains d k ≡ Some word →
    UsedIn (joint_until n r).domains d word.resource

-- a domain that ended in a step has no contexts
abbrev GoneAfter : Run → ℕ → Type 0
GoneAfter r n =
    (d : ℕ) → ends_in d (items_of_turn (slice_get r.turns n)) ≡ true → GoesOver d (joint_until (suc n) r)

not_over : (d k : ℕ) (word : PageWord) (j : Joint) → GoesOver d j → marks_in j.domains d k ≡ Some word → ⊥
not_over d k word j gone is =
    let there = gone.over.there in
    let idle = gone.over.idle k in
    let none : marks_in j.domains d k ≡ None =
    ap (λ (p : Option Domain). mark_in p k) there ∙ ap mark_of idle in
    cc

module _ (b : Bundle) (from : Beginning) (r : Run) (n : ℕ) (kept : AreKept b from r n) (aligned : AreAligned r)
    (used : AreUsed r) (gone : GoneAfter r n)
  where
    -- no end of a domain drops a page in which a reservation is after the step
    ends_spare : (d k : ℕ) (word : PageWord) → marks_in (joint_until (suc n) r).domains d k ≡ Some word →
        Misses d word (end_moves (items_of_turn (slice_get r.turns n)))
    ends_spare d k word is =
        ends_miss d word (items_of_turn (slice_get r.turns n))
        (false_from_ne_true (ends_in d (items_of_turn (slice_get r.turns n))) (λ ends.
        not_over d k word (joint_until (suc n) r) (gone d ends) is))

    -- the reservation stood before, and no move of the step writes in its word
    stands : (inside : Option ℕ) → context_of_step b r n ≡ inside → (d k : ℕ) (word : PageWord) →
        marks_in (joint_until (suc n) r).domains d k ≡ Some word →
        marks_in (joint_until n r).domains d k ≡ Some word →
        Misses d word
        (step_moves (history_until b from n r) (joint_until n r).domains inside (items_of_turn (slice_get r.turns n))) →
        (k < 8) × WasReservedInside b from r (suc n) (context_number d k) word
    stands inside own d k word is was misses =
        let before = kept d k word was in
        let here : Misses d word (moves_of_step b from r n) =
        subst (λ (o : Option ℕ). Misses d word
        (step_moves (history_until b from n r) (joint_until n r).domains o (items_of_turn (slice_get r.turns n))))
        (sym own) misses in
        let all : Misses d word (all_moves_of_step b from r n) =
        list_any-append (writes_in (page_of d word) word.at) (moves_of_step b from r n)
        (end_moves (items_of_turn (slice_get r.turns n)))
        ∙ both_none _ _ here (ends_spare d k word is) in (
          before.0,
          still_reserved b from r n (context_number d k) word before.1
              (subst (λ (e : ℕ). Misses e word (all_moves_of_step b from r n)) (sym (own_domain d k before.0)) all),
        )

    kept_by : (inside : Option ℕ) → context_of_step b r n ≡ inside →
        MarksAfter (history_until b from n r) (joint_until n r).domains inside (items_of_turn (slice_get r.turns n))
        (joint_until (suc n) r).domains → AreKept b from r (suc n)
    kept_by None own marks d k word is = stands None own d k word is (marks d k word is) (no_moves _ _ _ d word)
    kept_by (Some ctx) own marks d k word is = elim (marks d k word (aligned (suc n) d k word is) is) [
      | inl makes ↦
          let e : ctx / 8 ≡ d = makes.domain in
          let s : ctx % 8 ≡ k = makes.slot in
          let number : ctx ≡ context_number d k = omega (arith, e, s) in
          let low : k < 8 = omega (arith, s) in (
            low,
            record {
              step = n;
              before = omega arith;
              own = own ∙ ap (λ (x : ℕ). Some x) number;
              reserved = ap (λ (o : Option ℕ). reserved_by
                  (step_reached (history_until b from n r) (joint_until n r).domains o
                  (items_of_turn (slice_get r.turns n))))
                  own ∙ makes.by;
              unwritten = λ later since to. absurd (omega (arith, since, to));
            },
          )
      | inr stood ↦
          stands (Some ctx) own d k word is stood.was
          (stood.unwritten (used n d k word stood.was) (used (suc n) d k word is))
    ]

-- as it begins, and over each step
record IsKnown (b : Bundle) (from : Beginning) (r : Run) : Type 0 where
  pub begins : HasNone (joint_until 0 r)
  pub steps : (n : ℕ) → suc n ≤ length r.turns → Agrees (history_until b from n r) (joint_until n r).memory.plain →
      StepMarks b from r n
  pub gone : (n : ℕ) → suc n ≤ length r.turns → GoneAfter r n

run_known : (b : Bundle) (from : Beginning) (budget : ℕ) (o : RunEdge) → opening_from b from ≡ Ok o →
    IsKnown b from (run_of b budget o)
unfolding run_of joint_after
run_known b from budget o opens = record {
  begins = begins HasNone b from (λ m. none_joint b m) none_given o opens;
  steps = run_step b from budget o opens;
  gone = run_gone b from budget o opens;
}

all_kept : (b : Bundle) (from : Beginning) (r : Run) → IsKnown b from r → AreAligned r → AreUsed r →
    ((n : ℕ) → n ≤ length r.turns → Agrees (history_until b from n r) (joint_until n r).memory.plain) →
    (n : ℕ) → n ≤ length r.turns → AreKept b from r n
all_kept b from r known aligned used agrees zero low d k word is = absurd (known.begins d k word is)
all_kept b from r known aligned used agrees (suc n) low d k word is =
    let low' : n ≤ length r.turns = omega (arith, low) in
    kept_by b from r n (all_kept b from r known aligned used agrees n low') aligned used (known.gone n low)
    (context_of_step b r n) refl
    (known.steps n low (agrees n low')) d k word is

-- Places of words.

place_aligned : (o : Option PageWord) (word : PageWord) → IfSome o IsPageWord → o ≡ Some word → word.at % 4 ≡ 0
place_aligned None word here is = absurd cc
place_aligned (Some place) word here is =
    let same : place ≡ word = cc in subst (λ (x : PageWord). x.at % 4 ≡ 0) same here.aligned

context_aligned : (r : _) (o : Option Context) (word : PageWord) → IfSome o (IsContext r) → mark_of o ≡ Some word →
    word.at % 4 ≡ 0
context_aligned r None word here is = absurd cc
context_aligned r (Some c) word here is = place_aligned c.mark word here.steady.mark is

program_aligned : (o : Option Domain) (k : ℕ) (word : PageWord) →
    ((program : Domain) → o ≡ Some program → KeepsLimits program.control) → mark_in o k ≡ Some word → word.at % 4 ≡ 0
program_aligned None k word limits is = absurd cc
program_aligned (Some program) k word limits is =
    context_aligned program.control.resources (context_at program.control.contexts k) word
    ((limits program refl).contexts k) is

are_aligned : (b : Bundle) (from : Beginning) (budget : ℕ) (r : Run) → IsInGrammar b → run_from b from budget ≡ Ok r →
    AreAligned r
are_aligned b from budget r grammar runs n d k word is =
    program_aligned (slice_get (joint_until n r).domains d) k word
    (λ program there. runs_keep_limits b from budget r grammar runs n d program there) is

-- Their resources.

program_used : (o : Option Domain) (k : ℕ) (word : PageWord) → IfSome o HoldsMarks → mark_in o k ≡ Some word →
    used_in o word.resource ≡ true
program_used None k word held is = absurd cc
program_used (Some program) k word held is =
    context_used (context_at program.control.contexts k) (held k) is
  where
    marked : (space : ℕ) (mark : Option PageWord) →
        IfSome mark (λ place. MayMap program.control.resources space place.resource) → mark ≡ Some word →
        IsUsed program.control.resources word.resource
    marked space None here is = absurd cc
    marked space (Some place) here is =
        let same : place ≡ word = cc in
        subst (λ (x : PageWord). IsUsed program.control.resources x.resource) same
        (is_used program.control.resources space place.resource here)

    context_used : (o : Option Context) → IfSome o (HoldsMark program.control.resources) → mark_of o ≡ Some word →
        IsUsed program.control.resources word.resource
    context_used None here is = absurd cc
    context_used (Some c) here is = marked c.space c.mark here is

are_used : (b : Bundle) (from : Beginning) (budget : ℕ) (r : Run) → IsInGrammar b → run_from b from budget ≡ Ok r →
    AreUsed r
are_used b from budget r grammar runs n d k word is =
    program_used (slice_get (joint_until n r).domains d) k word (runs_hold_marks b from budget r grammar runs n d) is

run_kept : (b : Bundle) (from : Beginning) (budget : ℕ) (r : Run) → IsInGrammar b → IsBeginning b from →
    run_from b from budget ≡ Ok r → (n : ℕ) → n ≤ length r.turns → AreKept b from r n
run_kept b from budget r grammar begins runs =
    let gives = runs_give_latest b from budget r grammar begins runs in
    all_kept b from r
    (of_opened b budget (IsKnown b from) (opening_from b from) r runs (λ o opens. run_known b from budget o opens))
    (are_aligned b from budget r grammar runs) (are_used b from budget r grammar runs) (λ n low. gives.pages n low)

-- The laws.

pub contexts_keep_reservations : ContextsKeepReservations
contexts_keep_reservations b from budget r grammar begins runs n low d slot program c word there context mark =
    (run_kept b from budget r grammar begins runs n low d slot word
    (ap (λ (o : Option Domain). mark_in o slot) there ∙ ap mark_of context ∙ mark)).1

-- SC stores the word that its context had reserved.

same_place : (x y : PageWord) → x.resource ≡ y.resource → x.page ≡ y.page → x.at ≡ y.at → x ≡ y
same_place x y a b c = λ i. record { resource = a i; page = b i; at = c i }

one_word : (x y : PageWord) → same_word x y ≡ true → x ≡ y
one_word x y is =
    let parts = and_parts (nat_eq x.resource y.resource) (nat_eq x.page y.page && nat_eq x.at y.at) is in
    let rest = and_parts (nat_eq x.page y.page) (nat_eq x.at y.at) parts.1 in
    same_place x y (eqb-true x.resource y.resource parts.0) (eqb-true x.page y.page rest.0)
    (eqb-true x.at y.at rest.1)

reserved_place : (place : PageWord) (mark : Option PageWord) → is_reserved place mark ≡ true → mark ≡ Some place
reserved_place place None is = absurd cc
reserved_place place (Some x) is = ap (λ (y : PageWord). Some y) (one_word x place is)

conditional_mark : (test : Bool) (place : PageWord) (mark : Option PageWord) (word : PageWord) →
    is_reserved place mark ≡ test → cond test (Some place) None ≡ Some word → mark ≡ Some word
conditional_mark true place mark word test is = reserved_place place mark test ∙ is
conditional_mark false place mark word test is = absurd cc

stored_mark : (op : AtomicOp) (place : PageWord) (mark : Option PageWord) (word : PageWord) →
    stored_with op place mark ≡ Some word → mark ≡ Some word
stored_mark Sc place mark word is = conditional_mark (is_reserved place mark) place mark word refl is
stored_mark _ place mark word is = absurd cc

-- an atomic instruction that stores so is of a context with this reservation
abbrev StoresOwn : Option PageWord → Option Reached → Type 0
StoresOwn mark reached = (word : PageWord) → stored_by reached ≡ Some word → mark ≡ Some word

own_if : (test : Bool) (mark : Option PageWord) (reached : Option Reached) → StoresOwn mark reached →
    StoresOwn mark (cond test reached None)
own_if true mark reached own word is = own word is
own_if false mark reached own word is = absurd cc

placed_own : (c : Context) (a : Atomic) (place : Option PageId) → StoresOwn c.mark (placed_reached c a place)
placed_own c a None word is = absurd cc
placed_own c a (Some q) word is = stored_mark a.op (word_of_page q (register c.regs a.rs1)) c.mark word is

atomic_own : (d : Control) (c : Context) (a : Option Atomic) → StoresOwn c.mark (atomic_reached d c a)
atomic_own d c None word is = absurd cc
atomic_own d c (Some a) word is =
    let va = register c.regs a.rs1 in
    own_if (va % 4 == 0) c.mark (placed_reached c a (page_for d c va)) (placed_own c a (page_for d c va)) word is

word_own : (d : Control) (c : Context) (value : ℕ) (i : Option Instr) → StoresOwn c.mark (word_reached d c value i)
word_own d c value None word is = atomic_own d c (atomic_instruction value) word is
word_own d c value (Some i) word is = absurd cc

fetched_own : (history : List Move) (d : Control) (c : Context) (place : Option PageId) →
    StoresOwn c.mark (fetched_reached history d c place)
fetched_own history d c None word is = absurd cc
fetched_own history d c (Some q) word is =
    let value : ℕ = latest_value history q (c.pc % 4096) 4 in word_own d c value (instruction value) word is

phase_own : (p : Phase) (history : List Move) (d : Control) (c : Context) (told : List Item) →
    StoresOwn c.mark (phase_reached p history d c told)
phase_own Plain history d c told word is =
    own_if (both_granted told) c.mark (fetched_reached history d c (page_for d c c.pc))
    (fetched_own history d c (page_for d c c.pc)) word is
phase_own (CopyIn done) history d c told word is = absurd cc
phase_own Waiting history d c told word is = absurd cc
phase_own (CopyOut done total) history d c told word is = absurd cc

context_own : (o : Option Context) (history : List Move) (d : Control) (told : List Item) →
    StoresOwn (mark_of o) (context_reached o history d told)
context_own None history d told word is = absurd cc
context_own (Some c) history d told word is = phase_own c.phase history d c told word is

program_own : (o : Option Domain) (history : List Move) (slot : ℕ) (told : List Item) →
    StoresOwn (mark_in o slot) (program_reached o history slot told)
program_own None history slot told word is = absurd cc
program_own (Some d) history slot told word is =
    context_own (context_at d.control.contexts slot) history d.control told word is

pub contexts_store_reserved : ContextsStoreReserved
contexts_store_reserved b from budget r grammar begins runs n ctx word low own stores =
    let j : Joint = joint_until n r in
    let history : List Move = history_until b from n r in
    let items : List Item = items_of_turn (slice_get r.turns n) in
    let here : stored_by (step_reached history j.domains (Some ctx) items) ≡ Some word =
    ap (λ (o : Option ℕ). stored_by (step_reached history j.domains o items)) (sym own) ∙ stores in
    let mark : marks_in j.domains (domain_of ctx) (slot_of ctx) ≡ Some word =
    program_own (slice_get j.domains (domain_of ctx)) history (slot_of ctx) (inward_half (domain_of ctx) items) word
    here in
    subst (λ (x : ℕ). WasReservedInside b from r n x word) (number_of_context ctx)
    (run_kept b from budget r grammar begins runs n (omega (arith, low)) (domain_of ctx) (slot_of ctx) word mark).1
