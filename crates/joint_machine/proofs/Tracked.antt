-- What a step of a hart does to memory, by what its parts do.
use Rattle.std.proofs.Common.{◌≡◌, ◌∙◌, ◌+◌, add-one, arith, map, ℕ, Bool, true, false, [], ◌∷◌, ◌++◌, List, Option, Some, None, refl, ap, sym, subst}
use Rattle.std.specs.List.{All}
use Rattle.std.specs.Prelude.{slice_get}
use Rattle.std.proofs.lemmas.List.{append-nil, map-append}
use Rattle.cloak_base.specs.declared.names.SpaceId.{SpaceId}
use Rattle.cloak_model.specs.declared.inside.Went.{Went}
use Rattle.cloak_model.specs.Asking.{Told}
use Rattle.cloak_model.specs.Contexts.{Context, context_at, domain_of, slot_of}
use Rattle.cloak_model.specs.Csr.{interrupt_due}
use Rattle.cloak_model.specs.DomainState as program
use Rattle.cloak_model.specs.DomainStep.{DomainStepped, domain_step}
use Rattle.cloak_model.specs.Hart.{Hart}
use Rattle.cloak_model.specs.DomainAlone.{runs_on}
use Rattle.cloak_model.specs.Joint.{Turn, by_interrupt, cloak_of, cloak_outside, hart_in, inside_step, pages_for}
use Rattle.cloak_model.specs.KernelStep.{kernel_step, ticked}
use Rattle.cloak_model.specs.Parts as model
use Rattle.cloak_model.specs.World.{MidStep, Cloaked, events_of, items_of, is_clashed}
use Rattle.cloak_model.specs.declared.regime.InsideRegime.{InsideRegime}
use Rattle.cloaked_side.specs.Tracking.{AreAll, Tracks, TracksBy, GoesBy, IsGone, spent_in}
use Rattle.cloak_model.specs.Opening.{numbers_below}
use Rattle.cloaked_side.proofs.Spending.{ending_misses, maps_ending, maps_still, spends_looks, spends_more, spends_none, spends_still, spends_then}
use Rattle.shadow_fold.specs.Reads.{AskedByStep, reads_due}
use Rattle.shadow_fold.proofs.Agreeing.{keeps_ending}
use Rattle.cloak_model.specs.Items.{Item}
use Rattle.cloaked_side.specs.declared.memory.Memory.{Memory}
use Rattle.cloaked_side.proofs.Tracking.{goes_on, no_events, tracks_on}
use Rattle.cloak_model.specs.Events.{Event, Space}
use Rattle.cloak_pager.specs.State.{PagerState, held_in}
use Rattle.shadow_fold.specs.Entries.{is_of_space}
use Rattle.shadow_fold.specs.Table.{Table, ending}
use Rattle.shadow_fold.specs.Events as events
use Rattle.shadow_fold.specs.Fold.{Fold, after_event, after_events}
use Rattle.joint_machine.specs.Turning.{IsSameButMarks, begun, spaces_below}
use Rattle.joint_machine.proofs.Insides.{step_unclashed}
use Rattle.joint_machine.proofs.Running.{run_asks, run_step}

-- A hart outside.

-- the plain step of a hart in its place
pub plainly_goes : (old new : Memory) (j : model.Joint) (number : ℕ) (h : Hart) (disk : List ℕ) → h ≡ hart_in j number → disk ≡ j.disk →
    (let told = kernel_step h disk (Cloaked (cloak_outside j.memory h)) in
    GoesBy old new (record { space = None; events = events_of told.world; items = items_of told.world; changed = [] })) →
    GoesBy old new (events.asked_outside j (hart_in j number))
plainly_goes old new j number h disk is at goes =
    subst (λ (x : Hart). GoesBy old new (events.asked_outside j x)) is
    (subst (λ (d : List ℕ). let told = kernel_step h d (Cloaked (cloak_outside j.memory h)) in
    GoesBy old new (record { space = None; events = events_of told.world; items = items_of told.world; changed = [] })) at goes)

-- A hart inside.

-- Nothing was asked.

pub goes_still : (memory : Memory) (space : Option SpaceId) → GoesBy memory memory (record { space = space; events = []; items = []; changed = [] })
goes_still memory space = record {
  tracks = λ s keeps. subst (λ (u : Fold). Tracks memory u) (no_events space s) keeps;
  spends = spends_more 0 0 0 (reads_due (record { space = space; events = []; items = []; changed = [] })) (spent_in memory) (spent_in memory) (omega arith)
      (spends_none (spent_in memory));
  maps = λ mapped make are. are;
  gone = tt;
}

-- Reservations have no part in it.

-- with this pager, and these translations
abbrev seeing : Memory → PagerState → Table → Bool → Memory
seeing memory pager shadows counting = record memory { pager = pager; shadows = shadows; counting = counting }

pub goes_same : (old mid new : Memory) (a : AskedByStep) → IsSameButMarks mid new → GoesBy old mid a → GoesBy old new a
goes_same old mid new a same goes =
    let first : GoesBy old (seeing old mid.pager mid.shadows mid.counting) a =
    record { tracks = goes.tracks; spends = goes.spends; maps = goes.maps; gone = all_gone mid (seeing old mid.pager mid.shadows mid.counting) refl a.changed goes.gone } in
    let last : GoesBy old (seeing old new.pager new.shadows new.counting) a =
    subst (λ (p : PagerState). GoesBy old (seeing old p new.shadows new.counting) a) (sym same.pager)
    (subst (λ (t : Table). GoesBy old (seeing old mid.pager t new.counting) a) (sym same.shadows)
    (subst (λ (b : Bool). GoesBy old (seeing old mid.pager mid.shadows b) a) (sym same.counting) first)) in
    record { tracks = last.tracks; spends = last.spends; maps = last.maps; gone = all_gone (seeing old new.pager new.shadows new.counting) new refl a.changed last.gone }
  where
    all_gone : (m m' : Memory) → m'.shadows ≡ m.shadows → (changed : List SpaceId) → AreAll (IsGone m) changed → AreAll (IsGone m') changed
    all_gone m m' is [] are = tt
    all_gone m m' is (x ∷ changed) are = (
      subst (λ (t : Table). All (λ e. is_of_space x e ≡ false) t.live) (sym is) are.0,
      all_gone m m' is changed are.1,
    )

-- a space changed or ended, and its translations with it
all_ended : (x : SpaceId) (t : Table) → All (λ e. is_of_space x e ≡ false) (ending (is_of_space x) t).live
all_ended x t = keeps_ending (λ e. Unit {0}) (λ e. is_of_space x e ≡ false) (is_of_space x) t (λ e stays is. stays) (λ k e inside. tt)

pub goes_ended : (old new : Memory) (x : SpaceId) → new ≡ record old { shadows = ending (is_of_space x) old.shadows } → (space : Option SpaceId) →
    GoesBy old new (record { space = space; events = []; items = []; changed = x ∷ [] })
unfolding after_events after_event
goes_ended old new x is space = record {
  tracks = subst (λ (m : Memory). TracksBy old m (after_events space (Space x ∷ []))) (sym is)
      (λ s keeps. goes_on space (Space x) old.counting old.shadows (ending (is_of_space x) old.shadows) (held_in old.pager) (held_in old.pager) s keeps (λ counts. refl) (λ f. keeps.pages f));
  spends = spends_more 0 0 0 (reads_due (record { space = space; events = []; items = []; changed = x ∷ [] })) (spent_in old) (spent_in new) (omega arith)
      (spends_still old new (ap (λ (m : Memory). m.pager.reads) is)
      (ap (λ (m : Memory). m.shadows.counts.misses) is ∙ ending_misses (is_of_space x) old.shadows));
  maps = maps_still old new space [] (maps_ending old new (is_of_space x) (ap (λ (m : Memory). m.shadows) is));
  gone = (subst (λ (m : Memory). IsGone m x) (sym is) (all_ended x old.shadows), tt);
}

-- the spaces of a domain, one after another
pub goes_none : (memory : Memory) (d : ℕ) (space : Option SpaceId) → GoesBy memory memory (record { space = space; events = []; items = []; changed = spaces_below d 0 })
goes_none memory d space = goes_still memory space

-- what is gone stays gone as another space ends
stays_gone : (old new : Memory) (x : SpaceId) → new ≡ record old { shadows = ending (is_of_space x) old.shadows } → (gone : List SpaceId) → AreAll (IsGone old) gone → AreAll (IsGone new) gone
stays_gone old new x is [] are = tt
stays_gone old new x is (y ∷ gone) are = (
  subst (λ (m : Memory). IsGone m y) (sym is)
      (keeps_ending (λ e. is_of_space y e ≡ false) (λ e. is_of_space y e ≡ false) (is_of_space x) old.shadows (λ e stays none. none) are.0),
  stays_gone old new x is gone are.1,
)

all_then : (P : SpaceId → Type 0) (xs ys : List SpaceId) → AreAll P xs → AreAll P ys → AreAll P (xs ++ ys)
all_then P [] ys first second = second
all_then P (x ∷ xs) ys first second = (first.0, all_then P xs ys first.1 second)

-- one more space
goes_more : (old mid new : Memory) (x : SpaceId) (changed : List SpaceId) (space : Option SpaceId) → new ≡ record mid { shadows = ending (is_of_space x) mid.shadows } →
    GoesBy old mid (record { space = space; events = []; items = []; changed = changed }) →
    GoesBy old new (record { space = space; events = []; items = []; changed = changed ++ x ∷ [] })
goes_more old mid new x changed space is first =
    let second = goes_ended mid new x is space in
    let nothing : AskedByStep = record { space = space; events = []; items = []; changed = changed } in
    record {
      tracks = subst (λ (xs : List Event). TracksBy old new (after_events space xs)) (sym (map-append (λ s. Space s) changed (x ∷ [])))
          (tracks_on old mid new space (map (λ s. Space s) changed) (map (λ s. Space s) (x ∷ [])) first.tracks second.tracks);
      spends = spends_then 0 0 (reads_due nothing) (reads_due nothing) (spent_in old) (spent_in mid) (spent_in new) first.spends second.spends;
      maps = λ mapped make are. second.maps mapped tt (first.maps mapped tt are);
      gone = all_then (IsGone new) changed (x ∷ []) (stays_gone mid new x is changed first.gone) second.gone;
    }

pub goes_next : (old mid new : Memory) (d n : ℕ) (space : Option SpaceId) → new ≡ record mid { shadows = ending (is_of_space (record { domain = d; number = n })) mid.shadows } →
    GoesBy old mid (record { space = space; events = []; items = []; changed = spaces_below d n }) →
    GoesBy old new (record { space = space; events = []; items = []; changed = spaces_below d (n + 1) })
goes_next old mid new d n space is first =
    let named : ℕ → SpaceId = λ k. record { domain = d; number = k } in
    subst (λ (xs : List SpaceId). GoesBy old new (record { space = space; events = []; items = []; changed = xs }))
    (sym (ap (λ (k : ℕ). spaces_below d k) (add-one n) ∙ map-append named (numbers_below n) (n ∷ [])))
    (goes_more old mid new (named n) (spaces_below d n) space is first)

-- an interrupt is due
pub goes_due : (memory : Memory) (due : Bool) (j : model.Joint) (h : Hart) (d slot : ℕ) (was : program.Domain) (c : Option Context) → due ≡ true →
    GoesBy memory memory (events.asked_if due j h d slot was c)
goes_due memory due j h d slot was c is = subst (λ (b : Bool). GoesBy memory memory (events.asked_if b j h d slot was c)) (sym is) (goes_still memory None)

-- questions, and then the end of spaces
pub goes_then : (old mid new : Memory) (space : Option SpaceId) (es : List Event) (is : List Item) (changed : List SpaceId) →
    GoesBy old mid (record { space = space; events = es; items = is; changed = [] }) →
    GoesBy mid new (record { space = space; events = []; items = []; changed = changed }) →
    GoesBy old new (record { space = space; events = es; items = is; changed = changed })
goes_then old mid new space es is changed first second =
    let a : AskedByStep = record { space = space; events = es; items = is; changed = [] } in
    let b : AskedByStep = record { space = space; events = []; items = []; changed = changed } in
    record {
      tracks = tracks_on old mid new space es (map (λ s. Space s) changed)
          (subst (λ (xs : List Event). TracksBy old mid (after_events space xs)) (append-nil es) first.tracks) second.tracks;
      spends = spends_looks (omega arith)
          (spends_more (0 + 0) 0 (reads_due a + reads_due b) (reads_due (record { space = space; events = es; items = is; changed = changed }))
          (spent_in old) (spent_in new) (omega arith)
          (spends_then 0 0 (reads_due a) (reads_due b) (spent_in old) (spent_in mid) (spent_in new) first.spends second.spends));
      maps = λ mapped make are. second.maps mapped tt (first.maps mapped make are);
      gone = second.gone;
    }

-- what is told of a program's step, if the slot has this context
abbrev pub told_in : model.Joint → Hart → ℕ → ℕ → program.Domain → Option Context → Told DomainStepped
told_in j h d slot was c = domain_step slot was (Cloaked (cloak_of j.memory h d (pages_for was c)))

-- a context made its step, and then a space of its domain changed or ended, or none
pub goes_stepped : (old mid new : Memory) (due : Bool) (j : model.Joint) (number : ℕ) (h : Hart) (d slot : ℕ) (was : program.Domain) (c : Context) (space : SpaceId) (regime : InsideRegime) (ended : Went) →
    due ≡ false → context_at was.control.contexts slot ≡ Some c → record { domain = d; number = c.space } ≡ space →
    begun j.memory regime slot was ≡ cloak_of j.memory h d (pages_for was (context_at was.control.contexts slot)) →
    (let told = domain_step slot was (Cloaked (begun j.memory regime slot was)) in is_clashed told.world ≡ false →
    (ended ≡ told.answer.went) ×
    GoesBy old mid (record { space = Some space; events = events_of told.world; items = items_of told.world; changed = [] })) →
    ((s : Option SpaceId) → GoesBy mid new (record { space = s; events = []; items = []; changed = events.changed_by d ended })) →
    (by_interrupt due j number h d slot was).joint.memory.ledger.clashed ≡ false →
    GoesBy old new (events.asked_if due j h d slot was (context_at was.control.contexts slot))
goes_stepped old mid new due j number h d slot was c space regime ended is there here begins steps ends none =
    subst (λ (b : Bool). GoesBy old new (events.asked_if b j h d slot was (context_at was.control.contexts slot))) (sym is)
    (subst (λ (o : Option Context). GoesBy old new (events.asked_if false j h d slot was o)) (sym there) program)
  where
    Made : MidStep → Type 0
    Made k = let told = domain_step slot was (Cloaked k) in (ended ≡ told.answer.went) ×
        GoesBy old mid (record { space = Some space; events = events_of told.world; items = items_of told.world; changed = [] })

    unclashed : is_clashed (told_in j h d slot was (context_at was.control.contexts slot)).world ≡ false
    unclashed = step_unclashed j number h d slot was (subst (λ (b : Bool). (by_interrupt b j number h d slot was).joint.memory.ledger.clashed ≡ false) is none)

    made : Made (cloak_of j.memory h d (pages_for was (Some c)))
    made =
        subst (λ (o : Option Context). Made (cloak_of j.memory h d (pages_for was o))) there
        (subst (λ (k : MidStep). is_clashed (domain_step slot was (Cloaked k)).world ≡ false → Made k) begins steps unclashed)

    program : GoesBy old new (events.asked_by j h d slot was c)
    program =
        let told = told_in j h d slot was (Some c) in
        subst (λ (x : SpaceId). GoesBy old new (record { space = Some x; events = events_of told.world; items = items_of told.world; changed = events.changed_by d told.answer.went })) (sym here)
        (goes_then old mid new (Some space) (events_of told.world) (items_of told.world) (events.changed_by d told.answer.went) made.1
        (subst (λ (x : Went). GoesBy mid new (record { space = Some space; events = []; items = []; changed = events.changed_by d x })) made.0 (ends (Some space))))

-- the context does not run on the hart
pub goes_stopped : (old new : Memory) (a : AskedByStep) → IsSameButMarks old new → a ≡ events.nothing_asked → GoesBy old new a
goes_stopped old new a same nothing =
    goes_same old old new a same (subst (λ (x : AskedByStep). GoesBy old old x) (sym nothing) (goes_still old None))

-- the step of a program in its place
pub goes_turned : (old new : Memory) (j : model.Joint) (number : ℕ) (h at_start : Hart) (ctx : ℕ) (was : program.Domain) → h ≡ at_start → slice_get j.domains (domain_of ctx) ≡ Some was →
    runs_on number (context_at was.control.contexts (slot_of ctx)) ≡ true →
    ((by_interrupt (interrupt_due h.mode h.csrs) j number h (domain_of ctx) (slot_of ctx) was).joint.memory.ledger.clashed ≡ false →
    GoesBy old new (events.asked_if (interrupt_due h.mode h.csrs) j h (domain_of ctx) (slot_of ctx) was (context_at was.control.contexts (slot_of ctx)))) →
    (inside_step j number at_start ctx (slice_get j.domains (domain_of ctx))).joint.memory.ledger.clashed ≡ false →
    GoesBy old new (events.asked_inside j number at_start (domain_of ctx) (slot_of ctx) (slice_get j.domains (domain_of ctx)))
goes_turned old new j number h at_start ctx was same at runs goes unclashed =
    let d = domain_of ctx in
    let o = slice_get j.domains d in
    let unclashed_h = subst (λ (y : Hart). (inside_step j number y ctx o).joint.memory.ledger.clashed ≡ false) (sym same) unclashed in
    subst (λ (y : Hart). GoesBy old new (events.asked_inside j number y d (slot_of ctx) o)) same
    (subst (λ (a : AskedByStep). GoesBy old new a) (sym (run_asks j number h d ctx o was at runs))
    (goes (subst (λ (t : Turn). t.joint.memory.ledger.clashed ≡ false) (run_step j number h ctx o was at runs) unclashed_h)))

-- A hart, by the context that it runs.

pub goes_outside : (old new : Memory) (j : model.Joint) (number : ℕ) (h at : Hart) → h ≡ at → h.inside ≡ None → GoesBy old new (events.asked_outside j at) →
    GoesBy old new (events.asked_of j number at at.inside)
goes_outside old new j number h at is none goes =
    subst (λ (o : Option ℕ). GoesBy old new (events.asked_of j number at o)) (sym (sym (ap (λ (x : Hart). x.inside) is) ∙ none)) goes

pub goes_inside : (old new : Memory) (j : model.Joint) (number ctx : ℕ) (h at : Hart) → h ≡ at → h.inside ≡ Some ctx →
    GoesBy old new (events.asked_inside j number (ticked at) (domain_of ctx) (slot_of ctx) (slice_get j.domains (domain_of ctx))) →
    GoesBy old new (events.asked_of j number at at.inside)
goes_inside old new j number ctx h at is some goes =
    subst (λ (o : Option ℕ). GoesBy old new (events.asked_of j number at o)) (sym (sym (ap (λ (x : Hart). x.inside) is) ∙ some)) goes
