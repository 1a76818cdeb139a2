-- A step of a hart, and the end of a domain after it.
use Rattle.std.proofs.Common.{◌≡◌, ◌≢◌, ◌∙◌, ◌+◌, ℕ, zero, suc, Bool, true, false, List, [], ◌∷◌, ◌++◌, Option, Some, None, length, map, slice_get, slice_set, refl, ap, arith, sym, subst, if◌then◌else◌}
use Rattle.std.specs.Prelude.{◌<◌, not, IsSome}
use Rattle.std.proofs.lemmas.Bool.{false≢true}
use Rattle.std.proofs.lemmas.List.{append-nil, append_assoc}
use Rattle.std.proofs.lemmas.Option.{none-some}
use Rattle.cloak_base.specs.declared.causes.Stop.TheVariants as stop
use Rattle.cloak_base.specs.declared.causes.Violation.{Violation}
use Rattle.cloak_base.specs.declared.names.SpaceId.{SpaceId}
use Rattle.cloak_model.specs.declared.inside.Went.{Went}
use Rattle.cloak_model.specs.declared.inside.Went.TheVariants as went
use Rattle.cloak_model.specs.Items.{Item}
use Rattle.cloak_model.specs.Items as item
use Rattle.cloak_model.specs.Cloaking.{CloakedMemory}
use Rattle.cloak_model.specs.Contexts.{Context, context_at, domain_of, slot_of}
use Rattle.cloak_model.specs.DomainState as program
use Rattle.cloak_model.specs.Ending.{ended_domain, spaces_of, without_roots}
use Rattle.cloak_model.specs.Events.{Event, Space}
use Rattle.cloak_model.specs.Exchange.{Piece, Emits, item_pieces}
use Rattle.cloak_model.specs.Hart.{Hart}
use Rattle.cloak_model.specs.Joint.{Turn, after_domain_step, answers_violation, by_interrupt, by_running, domain_ended, domain_met, end_domain, ends_once, ends_resumed, inside_step, memory_of, refuses, stop_without_miss, turn_of}
use Rattle.cloak_model.specs.KernelStep.{ticked}
use Rattle.cloak_model.specs.Parts as model
use Rattle.cloak_model.specs.World.{World, events_of, items_of}
use Rattle.cloak_base.specs.declared.names.PageId.{PageId}
use Rattle.cloak_pager.specs.State.{PagerState, IsNoneHeld, held_in}
use Rattle.cloaked_side.specs.Ending.{ended_world}
use Rattle.cloaked_side.specs.Holding.{Holds}
use Rattle.cloaked_side.specs.Telling.{HoldsWorld}
use Rattle.cloaked_side.specs.Tracking.{GoesBy, Tracks, TracksBy, spent_in}
use Rattle.cloaked_side.specs.declared.memory.Memory.{Memory}
use Rattle.cloak_model.proofs.Emitting.{emits_items, emits_none}
use Rattle.cloaked_side.proofs.Spending.{due_then, maps_on, spends_looks, spends_more, spends_then}
use Rattle.cloaked_side.proofs.Tracking.{tracks_on}
use Rattle.hypercalls.specs.declared.domain.Domain.{Domain}
use Rattle.hypercalls.specs.Standing.{StandsFor}
use Rattle.shadow_fold.specs.Agreement.{IsMapped}
use Rattle.shadow_fold.specs.Events as events
use Rattle.shadow_fold.specs.Fold.{Fold, after_events}
use Rattle.shadow_fold.specs.Reads.{AskedByStep, reads_due}
use Rattle.thread_context.specs.Recorded.{root_at}
use Rattle.joint_machine.specs.declared.ended_step.EndedStep.{EndedStep}
use Rattle.joint_machine.specs.declared.joint.Joint.{Joint}
use Rattle.joint_machine.specs.declared.turned.Turned.{Turned}
use Rattle.joint_machine.specs.Standing.{AreDomains, StandsForJoint, TakesTurn, shown_byte}
use Rattle.joint_machine.specs.Turning.{EndsAfter, EndsTurn, has_left, nothing_in, spaces_below}
use Rattle.joint_machine.proofs.Ends.{ArePlain, end_plain, end_root, plain_events, plain_makes, plain_then}
use Rattle.joint_machine.proofs.Gone.{holds_rooted}
use Rattle.joint_machine.proofs.Insides.{holds_memory, stepped_joint}
use Rattle.joint_machine.specs.Programs.{AreFreeUnused}
use Rattle.joint_machine.proofs.Places.{domain_at, domains_set, free_stepped}
use Rattle.joint_machine.proofs.Tracked.{goes_then, told_in}
use Rattle.shadow_fold.proofs.Looks.{looks_then}

-- The program that ends.

-- the one of a place
pub at_end : (xs : List Domain) (ds : List program.Domain) (d : ℕ) (x : Domain) (was : program.Domain) →
    AreDomains xs ds → slice_get xs d ≡ Some x → slice_get ds d ≡ Some was →
    StandsFor x was
at_end xs ds d x was are here there =
    let at = domain_at xs ds d x are here in
    let same : at.0 ≡ was = (let both : Some at.0 ≡ Some was = sym at.1.0 ∙ there in cc) in
    subst (λ (a : program.Domain). StandsFor x a) same at.1.1

-- there is one in each place that the code has
pub program_at : (xs : List Domain) (ds : List program.Domain) (d : ℕ) → AreDomains xs ds → d < length xs →
    (was : program.Domain) × (slice_get ds d ≡ Some was)
program_at [] ds d are inside = absurd (omega (arith, inside))
program_at (x ∷ xs) [] d are inside = absurd are
program_at (x ∷ xs) (a ∷ ds) zero are inside = (a, refl)
program_at (x ∷ xs) (a ∷ ds) (suc d) are inside = program_at xs ds d are.1
    (let less : d < length xs = omega (arith, inside) in less)

-- no frame holds a page of it
pub free_ended : (xs : List Domain) (pager pager' : PagerState) (d : ℕ) (x : Domain) →
    ((k : ℕ) (q : PageId) → q.domain ≢ d → held_in pager' k ≡ Some q → held_in pager k ≡ Some q) →
    ((r : ℕ) → IsNoneHeld pager' d r) →
    AreFreeUnused xs pager → AreFreeUnused (slice_set xs d x) pager'
free_ended xs pager pager' d x others none unused =
    free_stepped xs pager pager' d x (record { held = others }) (record { unused = λ n few free. none n }) unused

-- What follows a step.

-- a domain ended
pub ends_domain : {E : Type 0} (gave : E → E → List Piece → Type 0) (e e' e'' : E) (old new : Joint) (d : ℕ)
    (x' : Domain) (mid : Memory) (v : Violation) (t : Turn) (was : program.Domain) →
    StandsForJoint old t.joint → StandsFor x' (ended_domain was) →
    new.harts.items ≡ old.harts.items → new.disk ≡ old.disk → new.domains.items ≡ slice_set old.domains.items d x' →
    ((s : SpaceId) → root_at new.roots s ≡ without_roots d (root_at old.roots) s) →
    new.ended ≡ slice_set old.ended d (Some v) → new.refused ≡ old.refused →
    HoldsWorld mid (ended_world t.joint.memory d) → ((m : CloakedMemory) → Holds mid m → Holds new.memory m) →
    Emits gave e e' (item_pieces (items_of (ended_world t.joint.memory d))) →
    Emits gave e' e'' (item_pieces (item.Ended d ∷ [])) →
    EndsAfter gave e e'' new t (end_domain d was v t)
unfolding end_domain
ends_domain gave e e' e'' old new d x' mid v t was s stands harts disk domains roots ended refused holds keeps first
    second =
    let w = ended_world t.joint.memory d in
    let m = memory_of w t.joint.memory in
    record {
      more = items_of w ++ item.Ended d ∷ [];
      items_are = refl;
      emits = emits_items (items_of w) (item.Ended d ∷ []) first second;
      console = refl;
      halt = refl;
      stands = record {
        harts = harts ∙ s.harts;
        disk = disk ∙ s.disk;
        memory = holds_rooted new.memory m (without_roots d m.ledger.root)
            (keeps m (holds_memory mid w t.joint.memory holds));
        domains = subst (λ (xs : List Domain). AreDomains xs (slice_set t.joint.domains d (ended_domain was)))
            (sym domains)
            (domains_set old.domains.items t.joint.domains d x' (ended_domain was) s.domains stands);
        roots = λ q. roots q ∙ ap (λ (root : SpaceId → Option ℕ). without_roots d root q)
            ((λ i u. s.roots u i) ∙ sym (end_root t.joint.memory d));
        ended = ended ∙ ap (λ (xs : List (Option Violation)). slice_set xs d (Some v)) s.ended;
        refused = refused ∙ s.refused;
      };
    }

-- nothing
pub ends_same : {E : Type 0} (gave : E → E → List Piece → Type 0) (e : E) (new : Joint) (t : Turn) →
    StandsForJoint new t.joint → EndsAfter gave e e new t t
ends_same gave e new t s = record {
  more = [];
  items_are = sym (append-nil t.items);
  emits = emits_none gave e;
  console = refl;
  halt = refl;
  stands = s;
}

-- none is left to end
pub ends_refused : {E : Type 0} (gave : E → E → List Piece → Type 0) (e : E) (new : Joint) (t : Turn) →
    StandsForJoint new (refuses t).joint → EndsAfter gave e e new t (refuses t)
ends_refused gave e new t s = record {
  more = [];
  items_are = sym (append-nil t.items);
  emits = emits_none gave e;
  console = refl;
  halt = refl;
  stands = s;
}

-- By whether there is a domain that has not ended.

abbrev pub left_of : Option program.Domain → Bool
left_of None = false
left_of (Some was) = not was.control.ended

pub left_there : (xs : List Domain) (ds : List program.Domain) (d : ℕ) → AreDomains xs ds →
    has_left (slice_get xs d) ≡ left_of (slice_get ds d)
left_there [] [] d are = refl
left_there [] (a ∷ ds) d are = absurd are
left_there (x ∷ xs) [] d are = absurd are
left_there (x ∷ xs) (a ∷ ds) zero are = ap (λ (k : program.Control). not k.ended) (sym are.0.control)
left_there (x ∷ xs) (a ∷ ds) (suc d) are = left_there xs ds d are.1

not_true : (b : Bool) → not b ≡ true → b ≡ false
not_true true is = absurd (false≢true is)
not_true false is = refl

not_false : (b : Bool) → not b ≡ false → b ≡ true
not_false true is = refl
not_false false is = absurd (false≢true (sym is))

left_some : (o : Option program.Domain) → left_of o ≡ true →
    (was : program.Domain) × ((o ≡ Some was) × (was.control.ended ≡ false))
left_some None is = absurd (false≢true is)
left_some (Some was) is = (was, (refl, not_true was.control.ended is))

-- what the code found, of the list that it was lent
pub left_lent : (xs ys : List Domain) (d n : ℕ) (found now : Bool) → xs ≡ ys → d ≡ n →
    found ≡ has_left (slice_get xs d) → found ≡ now → has_left (slice_get ys n) ≡ now
left_lent xs ys d n found now same at value is =
    ap (λ (zs : List Domain). has_left (slice_get zs n)) (sym same)
    ∙ ap (λ (k : ℕ). has_left (slice_get xs k)) (sym at) ∙ sym value ∙ is

-- a refused resuming, by it
pub resumed_ends : (xs : List Domain) (ds : List program.Domain) (d : ℕ) (v : Violation) (t : Turn) →
    AreDomains xs ds → has_left (slice_get xs d) ≡ true →
    (was : program.Domain) ×
    ((slice_get ds d ≡ Some was) × (ends_resumed (slice_get ds d) d v t ≡ end_domain d was v t))
unfolding ends_resumed ends_once
resumed_ends xs ds d v t are is =
    let at = left_some (slice_get ds d) (sym (left_there xs ds d are) ∙ is) in (
      at.0,
      (
        at.1.0,
        ap (λ (o : Option program.Domain). ends_resumed o d v t) at.1.0
            ∙ ap (λ (b : Bool). ends_once b d at.0 v t) at.1.1,
      ),
    )

refused_if : (o : Option program.Domain) (d : ℕ) (v : Violation) (t : Turn) → left_of o ≡ false →
    ends_resumed o d v t ≡ refuses t
unfolding ends_resumed ends_once
refused_if None d v t is = refl
refused_if (Some was) d v t is = ap (λ (b : Bool). ends_once b d was v t) (not_false was.control.ended is)

pub resumed_refuses : (xs : List Domain) (ds : List program.Domain) (d : ℕ) (v : Violation) (t : Turn) →
    AreDomains xs ds → has_left (slice_get xs d) ≡ false →
    ends_resumed (slice_get ds d) d v t ≡ refuses t
resumed_refuses xs ds d v t are is = refused_if (slice_get ds d) d v t (sym (left_there xs ds d are) ∙ is)

-- what it asks

pub asked_ends : (xs : List Domain) (ds : List program.Domain) (d : ℕ) (m : CloakedMemory) (a : AskedByStep) →
    AreDomains xs ds → has_left (slice_get xs d) ≡ true →
    (was : program.Domain) ×
    ((slice_get ds d ≡ Some was) × (events.ended_resumed (slice_get ds d) d m a ≡ events.with_end d was m a))
asked_ends xs ds d m a are is =
    let at = left_some (slice_get ds d) (sym (left_there xs ds d are) ∙ is) in (
      at.0,
      (
        at.1.0,
        ap (λ (o : Option program.Domain). events.ended_resumed o d m a) at.1.0
            ∙ ap (λ (b : Bool). events.ended_once b d at.0 m a) at.1.1,
      ),
    )

unasked_if : (o : Option program.Domain) (d : ℕ) (m : CloakedMemory) (a : AskedByStep) → left_of o ≡ false →
    events.ended_resumed o d m a ≡ a
unasked_if None d m a is = refl
unasked_if (Some was) d m a is = ap (λ (b : Bool). events.ended_once b d was m a) (not_false was.control.ended is)

pub asked_refuses : (xs : List Domain) (ds : List program.Domain) (d : ℕ) (m : CloakedMemory) (a : AskedByStep) →
    AreDomains xs ds → has_left (slice_get xs d) ≡ false →
    events.ended_resumed (slice_get ds d) d m a ≡ a
asked_refuses xs ds d m a are is = unasked_if (slice_get ds d) d m a (sym (left_there xs ds d are) ∙ is)

-- What it does to memory.

-- the same for whichever space it is asked
pub goes_spaced : (old new : Memory) (space : Option SpaceId) (es : List Event) (is : List Item) → ArePlain es →
    GoesBy old new (record { space = None; events = es; items = is; changed = [] }) →
    GoesBy old new (record { space = space; events = es; items = is; changed = [] })
goes_spaced old new space es is plain goes = record {
  tracks = λ s keeps.
      subst (λ (u : Fold). Tracks new u) (plain_events None space (es ++ []) s (plain_then es [] plain tt))
      (goes.tracks s keeps);
  spends = goes.spends;
  maps = λ mapped make are. goes.maps mapped (plain_makes (IsMapped mapped) None es plain) are;
  gone = tt;
}

-- a domain ended: its pages, and then its spaces
pub goes_domain : (old mid new : Memory) (m : CloakedMemory) (d : ℕ) (was : program.Domain) (space : Option SpaceId) →
    length was.control.resources.spaces ≡ 8 →
    (let w = ended_world m d in GoesBy old mid
    (record { space = None; events = events_of w; items = items_of w; changed = [] })) →
    GoesBy mid new (record { space = space; events = []; items = []; changed = spaces_below d 8 }) →
    GoesBy old new (events.with_end d was m (nothing_in space))
goes_domain old mid new m d was space eight pages spaces =
    let w = ended_world m d in
    subst (λ (n : ℕ). GoesBy old new
    (record { space = space; events = events_of w; items = items_of w; changed = spaces_below d n })) (sym eight)
    (goes_then old mid new space (events_of w) (items_of w) (spaces_below d 8)
    (goes_spaced old mid space (events_of w) (items_of w) (end_plain m d) pages) spaces)

-- a step that changed no space, and then more
pub goes_both : (old mid new : Memory) (space : Option SpaceId) (es fs : List Event) (is js : List Item)
    (changed : List SpaceId) →
    GoesBy old mid (record { space = space; events = es; items = is; changed = [] }) →
    GoesBy mid new (record { space = space; events = fs; items = js; changed = changed }) →
    GoesBy old new (record { space = space; events = es ++ fs; items = is ++ js; changed = changed })
goes_both old mid new space es fs is js changed first second =
    let told = map (λ s. Space s) changed in
    let n = reads_due (record { space = space; events = es; items = is; changed = [] }) in
    let k = reads_due (record { space = space; events = fs; items = js; changed = changed }) in
    let due = due_then space es fs is js in
    record {
      tracks = subst (λ (xs : List Event). TracksBy old new (after_events space xs)) (sym (append_assoc es fs told))
          (tracks_on old mid new space es (fs ++ told)
          (subst (λ (xs : List Event). TracksBy old mid (after_events space xs))
          (append-nil es) first.tracks) second.tracks);
      spends = spends_looks (let looks = looks_then es fs in omega (arith, looks))
          (spends_more (0 + 0) 0 (n + k) (reads_due
          (record { space = space; events = es ++ fs; items = is ++ js; changed = changed }))
          (spent_in old) (spent_in new) (omega (arith, due))
          (spends_then 0 0 n k (spent_in old) (spent_in mid) (spent_in new) first.spends second.spends));
      maps = maps_on old mid new space es fs first.maps second.maps;
      gone = second.gone;
    }

module _ (old mid new : Memory) (a : AskedByStep) (same : a.changed ≡ []) (first : GoesBy old mid a) where
  abbrev without : AskedByStep
  without = record { space = a.space; events = a.events; items = a.items; changed = [] }

  unchanged : GoesBy old mid without
  unchanged = subst (λ (xs : List SpaceId). GoesBy old mid
      (record { space = a.space; events = a.events; items = a.items; changed = xs })) same first

  -- a domain ended after it
  goes_ending : (d : ℕ) (was : program.Domain) (m : CloakedMemory) →
      GoesBy mid new (events.with_end d was m (nothing_in a.space)) →
      GoesBy old new (events.with_end d was m a)
  goes_ending d was m second =
      let w = ended_world m d in
      subst (λ (xs : List SpaceId). GoesBy old new
      (record {
        space = a.space;
        events = a.events ++ events_of w;
        items = a.items ++ items_of w;
        changed = xs ++
            spaces_of d was;
      }))
      (sym same)
      (goes_both old mid new a.space a.events (events_of w) a.items (items_of w) (spaces_of d was) unchanged second)

  -- nothing was asked after it
  goes_quietly : GoesBy mid new (nothing_in a.space) → GoesBy old new a
  goes_quietly second =
      subst (λ (xs : List SpaceId). GoesBy old new
      (record { space = a.space; events = a.events; items = a.items; changed = xs })) (sym same)
      (goes_then old mid new a.space a.events a.items [] unchanged second)

  goes_once : (ended : Bool) (d : ℕ) (was : program.Domain) (m : CloakedMemory) →
      GoesBy mid new (events.ended_once ended d was m (nothing_in a.space)) →
      GoesBy old new (events.ended_once ended d was m a)
  goes_once true d was m second = goes_quietly second
  goes_once false d was m second = goes_ending d was m second

  goes_resumed : (o : Option program.Domain) (d : ℕ) (m : CloakedMemory) →
      GoesBy mid new (events.ended_resumed o d m (nothing_in a.space)) →
      GoesBy old new (events.ended_resumed o d m a)
  goes_resumed None d m second = goes_quietly second
  goes_resumed (Some was) d m second = goes_once was.control.ended d was m second

  goes_asked : (o : Option program.Domain) (d : ℕ) (m : CloakedMemory) →
      GoesBy mid new (events.ended_asked o d m (nothing_in a.space)) →
      GoesBy old new (events.ended_asked o d m a)
  goes_asked None d m second = goes_quietly second
  goes_asked (Some was) d m second = goes_ending d was m second

  pub goes_answered : (inside : Option ℕ) (v : Violation) (j : model.Joint) →
      GoesBy mid new (events.ended_by inside (Some v) j (nothing_in a.space)) →
      GoesBy old new (events.ended_by inside (Some v) j a)
  goes_answered None v j second = goes_resumed (slice_get j.domains (domain_met v)) (domain_met v) j.memory second
  goes_answered (Some ctx) v j second = goes_asked (slice_get j.domains (domain_of ctx))
      (domain_of ctx) j.memory second

-- A step that met a violation changed no space.

went_unchanged : (j : model.Joint) (number : ℕ) (h : Hart) (d : ℕ) (w : World) (ended : Went) (v : Violation) →
    (domain_ended j number h d w ended).violation ≡ Some v → events.changed_by d ended ≡ []
unfolding domain_ended
went_unchanged j number h d w went.Stay v met = refl
went_unchanged j number h d w went.Stopped v met = refl
went_unchanged j number h d w (went.Remapped space) v met = absurd (none-some v met)
went_unchanged j number h d w (went.Leave s) v met = refl
went_unchanged j number h d w (went.SpaceGone space s) v met = absurd (none-some v met)

slot_unchanged : (j : model.Joint) (number : ℕ) (h : Hart) (d slot : ℕ) (was : program.Domain) (v : Violation)
    (o : Option Context) →
    (let told = told_in j h d slot was o in
    (domain_ended (stepped_joint j d told) number h d told.world told.answer.went).violation ≡ Some v) →
    (events.asked_if false j h d slot was o).changed ≡ []
slot_unchanged j number h d slot was v None met = refl
slot_unchanged j number h d slot was v (Some c) met =
    let told = told_in j h d slot was (Some c) in
    went_unchanged (stepped_joint j d told) number h d told.world told.answer.went v met

due_unchanged : (due : Bool) (j : model.Joint) (number : ℕ) (h : Hart) (d slot : ℕ) (was : program.Domain)
    (v : Violation) →
    (by_interrupt due j number h d slot was).violation ≡ Some v →
    (events.asked_if due j h d slot was (context_at was.control.contexts slot)).changed ≡ []
unfolding by_interrupt after_domain_step
due_unchanged true j number h d slot was v met = refl
due_unchanged false j number h d slot was v met = slot_unchanged j number h d slot was v
    (context_at was.control.contexts slot) met

running_unchanged : (runs : Bool) (j : model.Joint) (number : ℕ) (h : Hart) (ctx : ℕ) (was : program.Domain)
    (v : Violation) →
    (by_running runs j number h ctx was).violation ≡ Some v →
    (events.asked_running runs j h (domain_of ctx) (slot_of ctx) was).changed ≡ []
unfolding by_running
running_unchanged false j number h ctx was v met = refl
running_unchanged true j number h ctx was v met = due_unchanged _ j number h (domain_of ctx) (slot_of ctx) was v met

inside_unchanged : (j : model.Joint) (number : ℕ) (h : Hart) (ctx : ℕ) (o : Option program.Domain) (v : Violation) →
    (inside_step j number h ctx o).violation ≡ Some v →
    (events.asked_inside j number h (domain_of ctx) (slot_of ctx) o).changed ≡ []
unfolding inside_step
inside_unchanged j number h ctx None v met = refl
inside_unchanged j number h ctx (Some was) v met = running_unchanged _ j number h ctx was v met

pub met_unchanged : (j : model.Joint) (number : ℕ) (h : Hart) (inside : Option ℕ) (v : Violation) →
    (turn_of j number h inside).violation ≡ Some v → (events.asked_of j number h inside).changed ≡ []
unfolding turn_of
met_unchanged j number h None v met = refl
met_unchanged j number h (Some ctx) v met = inside_unchanged j number (ticked h) ctx
    (slice_get j.domains (domain_of ctx)) v met

-- The whole step.

-- a turn, and what follows it
pub takes_step : {E : Type 0} (gave : E → E → List Piece → Type 0) (e e' e'' : E) (mid new : Joint) (given : EndedStep)
    (result : Turned) (t after : Turn) →
    EndsTurn gave e e' mid given t → EndsAfter gave e' e'' new t after → result.console ≡ given.console →
    result.stop ≡ (if new.memory.missed then Some stop.NoRandom else stop_without_miss given.halt) →
    TakesTurn gave e e'' new result after
takes_step gave e e' e'' mid new given result t after step ends console stops = record {
  emits = subst (λ (items : List Item). Emits gave e e'' (item_pieces items)) (sym ends.items_are)
      (emits_items t.items ends.more step.emits ends.emits);
  console = ap (λ (o : Option ℕ). shown_byte o) console ∙ step.console ∙ sym ends.console;
  stop =
      stops
      ∙ ap (λ (b : Bool). if b then Some stop.NoRandom else stop_without_miss given.halt) ends.stands.memory.missed
      ∙ ap (λ (o : Option ℕ). if after.joint.memory.ledger.missed then Some stop.NoRandom else stop_without_miss o)
      (step.halt ∙ sym ends.halt);
  stands = ends.stands;
}

-- what follows, by what the hart was inside and by the violation that the step met
pub answers_as : {E : Type 0} (gave : E → E → List Piece → Type 0) (e e' : E) (new : Joint)
    (inside inside' : Option ℕ) (met met' : Option Violation) (t : Turn) →
    inside ≡ inside' → met ≡ met' → EndsAfter gave e e' new t (answers_violation inside met t) →
    EndsAfter gave e e' new t (answers_violation inside' met' t)
answers_as gave e e' new inside inside' met met' t same met_same ends =
    subst (λ (o : Option Violation). EndsAfter gave e e' new t (answers_violation inside' o t)) met_same
    (subst (λ (o : Option ℕ). EndsAfter gave e e' new t (answers_violation o met t)) same ends)

-- a step did this to memory, and what followed did that
pub goes_step : (old mid new : Memory) (j after : model.Joint) (number : ℕ) (h : Hart) (inside : Option ℕ)
    (met : Option Violation) →
    inside ≡ h.inside → met ≡ (turn_of j number h h.inside).violation →
    GoesBy old mid (events.asked_of j number h h.inside) → (met ≡ None → new ≡ mid) →
    ((space : Option SpaceId) → IsSome met → GoesBy mid new (events.ended_by inside met after (nothing_in space))) →
    GoesBy old new (events.ended_by h.inside (turn_of j number h h.inside).violation after
    (events.asked_of j number h h.inside))
goes_step old mid new j after number h inside met same is first none more = by met is none more
  where
    a : AskedByStep
    a = events.asked_of j number h h.inside

    by : (met : Option Violation) → met ≡ (turn_of j number h h.inside).violation → (met ≡ None → new ≡ mid) →
        ((space : Option SpaceId) → IsSome met →
        GoesBy mid new (events.ended_by inside met after (nothing_in space))) →
        GoesBy old new (events.ended_by h.inside (turn_of j number h h.inside).violation after a)
    by None is none more =
        subst (λ (o : Option Violation). GoesBy old new (events.ended_by h.inside o after a)) is
        (subst (λ (m : Memory). GoesBy old m a) (sym (none refl)) first)
    by (Some v) is none more =
        subst (λ (o : Option Violation). GoesBy old new (events.ended_by h.inside o after a)) is
        (goes_answered old mid new a (met_unchanged j number h h.inside v (sym is)) first h.inside v after
        (subst (λ (o : Option ℕ). GoesBy mid new (events.ended_by o (Some v) after (nothing_in a.space))) same
        (more a.space refl)))
