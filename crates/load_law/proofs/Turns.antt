-- The step of a hart whose context is to make a load: how its domain's step ended, and then a violation.
use Rattle.std.proofs.Common.{◌≡◌, ◌∙◌, ℕ, zero, suc, ◌<◌, Bool, true, false, cond, List, [], ◌∷◌, ◌++◌, length, Option, Some, None, refl, sym, ap, subst, arith, append_assoc, eq-eqb}
use Rattle.std.specs.Prelude.{is_some, option_and_then, slice_get, slice_set, slice_index_or}
use Rattle.std.proofs.lemmas.Bool.{false≢true}
use Rattle.std.proofs.lemmas.Grind.{flat_map-append}
use Rattle.std.proofs.lemmas.List.{get_or-set_same}
use Rattle.std.proofs.lemmas.List.Elements.{filter-append}
use Rattle.cloak_base.specs.declared.causes.Shown.{Shown}
use Rattle.cloak_base.specs.declared.causes.Stop.TheVariants as stop
use Rattle.cloak_base.specs.declared.causes.Violation.{Violation}
use Rattle.cloak_base.specs.declared.causes.Violation.TheVariants as violation
use Rattle.cloak_base.specs.declared.names.PageId.{PageId}
use Rattle.cloak_model.specs.declared.context.Why.TheVariants.{Trap}
use Rattle.cloak_model.specs.declared.inside.Went.{Went}
use Rattle.cloak_model.specs.declared.inside.Went.TheVariants as went
use Rattle.cloak_model.specs.Items.{Item}
use Rattle.cloak_model.specs.Items as item
use Rattle.cloak_model.specs.Asking.{Told}
use Rattle.cloak_model.specs.AskPages.{ask_forget}
use Rattle.cloak_model.specs.Contexts.{Context, context_at, context_number, domain_of, slot_of, suspended, shown}
use Rattle.cloak_model.specs.DomainState.{Domain}
use Rattle.cloak_model.specs.DomainStep.{DomainStepped, domain_step}
use Rattle.cloak_model.specs.Ending.{ask_end, cloak_for, ended_domain}
use Rattle.cloak_model.specs.Halves.{is_inward, inward_half}
use Rattle.cloak_model.specs.Hart.{Hart}
use Rattle.cloak_model.specs.Joint.{Moment, Turn, next_hart, memory_of, domain_ended, with_domain, after_domain_step, end_domain, ends_asked, answers_violation, step_before_end, joint_step, stop_of, stop_without_miss}
use Rattle.cloak_model.specs.KernelStep.{ticked}
use Rattle.cloak_model.specs.Parts.{Joint}
use Rattle.cloak_model.specs.World.{World, Cloaked, items_of, is_missed}
use Rattle.domain_isolation.proofs.Endings.{end_world, end_leaves}
use Rattle.domain_isolation.proofs.InOrder.{get_set_same}
use Rattle.script_fold.proofs.Endings.{keeps_end}
use Rattle.script_fold.proofs.InstructionScripts.{IsOwnPage}
use Rattle.domain_isolation.proofs.Steady.{is_cloaked}
use Rattle.frozen_state.specs.Limits.{has_ended, TellsEnded}
use Rattle.latest_store.specs.Moves.{Move}
use Rattle.latest_store.proofs.Moved.{Agrees}
use Rattle.cause_law.specs.Causes.{context_running}
use Rattle.cause_law.proofs.Over.{ended_empty}
use Rattle.cause_law.specs.Presented.{hart_of_step, StepsInside, world_inside}
use Rattle.load_law.specs.Due.{Question, DueLoad, load_due}
use Rattle.load_law.specs.Outcomes.{SeenOfStep, left_by, left_in, Asks, First, Second, IsFaultOf, LoadEnds, Completed, Absent, Ended, Stopped}
use Rattle.load_law.proofs.Questions.{left_append, IsQuiet, IsFine, IsRefused, IsMissing, quiet_settled}
use Rattle.load_law.proofs.Steps.{Goes, GoesOn, Leaves, Refused, Misses, step_goes}
use Rattle.load_law.proofs.Moves.{load_if}
use Rattle.domain_isolation.proofs.InsideSteps.{memory_missed, with_leave}
use Rattle.cause_law.proofs.Presented.{context_turn}

-- What is seen of a turn.
abbrev pub seen_of : DueLoad → ℕ → Turn → SeenOfStep
seen_of due ctx t = record {
  told = inward_half (domain_of ctx) t.items;
  loads = load_if due (inward_half (domain_of ctx) t.items);
  left = left_in t.items;
  listed = slice_index_or t.joint.ended (domain_of ctx) None;
  context = context_running t.joint ctx;
  stop = stop_of t;
}

same_seen : (x y : SeenOfStep) → x.told ≡ y.told → x.loads ≡ y.loads → x.left ≡ y.left → x.listed ≡ y.listed →
    x.context ≡ y.context → x.stop ≡ y.stop → x ≡ y
same_seen x y a b c d e f =
    λ i. record { told = a i; loads = b i; left = c i; listed = d i; context = e i; stop = f i }

abbrev pub EndsSo : Context → ℕ → DueLoad → Turn → Type 0
EndsSo c ctx due t = LoadEnds c ctx due (seen_of due ctx t)

-- it is seen so, and these are its loads
seen_so : (c : Context) (ctx : ℕ) (due : DueLoad) (t : Turn) (y : SeenOfStep) → load_if due y.told ≡ y.loads →
    inward_half (domain_of ctx) t.items ≡ y.told → left_in t.items ≡ y.left →
    slice_index_or t.joint.ended (domain_of ctx) None ≡ y.listed → context_running t.joint ctx ≡ y.context →
    stop_of t ≡ y.stop → LoadEnds c ctx due y → EndsSo c ctx due t
seen_so c ctx due t y loads told left listed there stops ends =
    subst (LoadEnds c ctx due)
    (sym (same_seen (seen_of due ctx t) y told (ap (load_if due) told ∙ loads) left listed there stops)) ends

-- the context of a domain that is there
running_is : (j : Joint) (ctx : ℕ) (x : Domain) → slice_get j.domains (domain_of ctx) ≡ Some x →
    context_running j ctx ≡ context_at x.control.contexts (slot_of ctx)
running_is j ctx x there =
    ap (option_and_then (λ (d : Domain). context_at d.control.contexts (slot_of ctx))) there

fault_loads : (d : ℕ) (due : DueLoad) (earlier : List Item) (q : Question) (cause : ℕ) → Asks d due earlier q →
    load_if due (earlier ++ item.Absent d cause ∷ []) ≡ []
fault_loads d due _ _ cause First = refl
fault_loads d due _ _ cause Second = refl

stop_loads : (d : ℕ) (due : DueLoad) (earlier : List Item) (q : Question) → Asks d due earlier q →
    load_if due (earlier ++ item.Stopped d ∷ []) ≡ []
stop_loads d due _ _ First = refl
stop_loads d due _ _ Second = refl

end_loads : (d : ℕ) (due : DueLoad) (earlier : List Item) (q : Question) → Asks d due earlier q →
    load_if due (earlier ++ item.Stopped d ∷ item.Ended d ∷ []) ≡ []
end_loads d due _ _ First = refl
end_loads d due _ _ Second = refl

-- A machine in the step of a context: a draw is missing in it if one is in the world, and the domain there is this one
-- and was not listed.
record Stands (j : Joint) (ctx : ℕ) (w : World) (x : Domain) : Type 0 where
  pub missed : is_cloaked w ≡ true → j.memory.ledger.missed ≡ is_missed w
  pub listed : slice_index_or j.ended (domain_of ctx) None ≡ None
  pub there : slice_get j.domains (domain_of ctx) ≡ Some x

missed_stop : (t : Turn) → t.halt ≡ None → t.joint.memory.ledger.missed ≡ true → stop_of t ≡ Some stop.NoRandom
missed_stop t none missed = ap (λ (b : Bool). cond b (Some stop.NoRandom) (stop_without_miss t.halt)) missed

drawn_stop : (t : Turn) → t.halt ≡ None → t.joint.memory.ledger.missed ≡ false → stop_of t ≡ None
drawn_stop t none drawn =
    ap (λ (b : Bool). cond b (Some stop.NoRandom) (stop_without_miss t.halt)) drawn ∙ ap stop_without_miss none

-- how a step of the joint machine ends that ended so
abbrev pub after_went : Joint → ℕ → Hart → ℕ → World → Went → Turn
after_went j number h ctx w g =
    let t = domain_ended j number h (domain_of ctx) w g in answers_violation (Some ctx) t.violation t

goes_on : (c : Context) (ctx : ℕ) (due : DueLoad) (j : Joint) (number : ℕ) (h : Hart) (w : World) (x : Domain) →
    inward_half (domain_of ctx) (items_of w) ≡ item.Ok (domain_of ctx) ∷ item.Ok (domain_of ctx) ∷ [] → IsFine w →
    Stands j ctx w x → EndsSo c ctx due (after_went j number h ctx w went.Stay)
unfolding domain_ended answers_violation
goes_on c ctx due j number h w x told fine stands =
    let t = after_went j number h ctx w went.Stay in
    seen_so c ctx due t _ refl told fine.quiet.left stands.listed refl
    (drawn_stop t refl (stands.missed fine.quiet.form ∙ fine.drawn)) (Completed (context_running t.joint ctx))

leave_last : (items : List Item) (s : Shown) → left_in items ≡ [] → left_in (items ++ item.Leave s ∷ []) ≡ s ∷ []
leave_last items s none =
    flat_map-append left_by items (item.Leave s ∷ []) ∙ ap (λ (l : List Shown). l ++ s ∷ []) none

leaves : (c : Context) (ctx : ℕ) (due : DueLoad) (j : Joint) (number : ℕ) (h : Hart) (w : World) (x : Domain)
    (earlier : List Item) (q : Question) (cause : ℕ) → Asks (domain_of ctx) due earlier q → IsFaultOf q.kind cause →
    inward_half (domain_of ctx) (items_of w) ≡ earlier ++ item.Absent (domain_of ctx) cause ∷ [] → IsFine w →
    Stands j ctx w x → context_at x.control.contexts (slot_of ctx) ≡ Some (suspended c) →
    EndsSo c ctx due (after_went j number h ctx w (went.Leave (shown c ctx (Trap cause q.address))))
unfolding domain_ended answers_violation
leaves c ctx due j number h w x earlier q cause asks fault told fine stands rests =
    let s = shown c ctx (Trap cause q.address) in
    let t = after_went j number h ctx w (went.Leave s) in
    seen_so c ctx due t _ (fault_loads (domain_of ctx) due earlier q cause asks)
    (with_leave (domain_of ctx) (items_of w) s ∙ told) (leave_last (items_of w) s fine.quiet.left) stands.listed
    (running_is j ctx x stands.there ∙ rests) (drawn_stop t refl (stands.missed fine.quiet.form ∙ fine.drawn))
    (Absent earlier q asks cause fault)

-- a draw is missing, and no violation was met
stops_calm : (c : Context) (ctx : ℕ) (due : DueLoad) (t : Turn) (earlier : List Item) (q : Question) →
    Asks (domain_of ctx) due earlier q → t.halt ≡ None →
    inward_half (domain_of ctx) t.items ≡ earlier ++ item.Stopped (domain_of ctx) ∷ [] → left_in t.items ≡ [] →
    slice_index_or t.joint.ended (domain_of ctx) None ≡ None → context_running t.joint ctx ≡ Some c →
    t.joint.memory.ledger.missed ≡ true → EndsSo c ctx due (answers_violation (Some ctx) None t)
unfolding answers_violation
stops_calm c ctx due t earlier q asks none told left listed there missed =
    seen_so c ctx due t _ (stop_loads (domain_of ctx) due earlier q asks) told left listed there
    (missed_stop t none missed) (Stopped earlier q asks)

misses : (c : Context) (ctx : ℕ) (due : DueLoad) (j : Joint) (number : ℕ) (h : Hart) (w : World) (x : Domain)
    (earlier : List Item) (q : Question) → Asks (domain_of ctx) due earlier q →
    inward_half (domain_of ctx) (items_of w) ≡ earlier ++ item.Stopped (domain_of ctx) ∷ [] → IsMissing w →
    Stands j ctx w x → context_at x.control.contexts (slot_of ctx) ≡ Some c →
    EndsSo c ctx due (after_went j number h ctx w went.Stopped)
unfolding domain_ended
misses c ctx due j number h w x earlier q asks told missing stands stays =
    let t = domain_ended j number h (domain_of ctx) w went.Stopped in
    subst (λ (o : Option Violation). EndsSo c ctx due (answers_violation (Some ctx) o t)) (sym missing.quiet.met)
    (stops_calm c ctx due t earlier q asks refl told missing.quiet.left stands.listed
    (running_is j ctx x stands.there ∙ stays) (stands.missed missing.quiet.form ∙ missing.missed))

-- The end of a domain shows no leave.

quiet_forget : (d resource : ℕ) (w : World) → IsQuiet w → IsQuiet (ask_forget d resource w).world
unfolding ask_forget
quiet_forget d resource (Cloaked c) q = record { form = refl; left = q.left; met = q.met }
quiet_forget d resource _ q = absurd (false≢true q.form)

quiet_end : (d : ℕ) (w : World) → IsQuiet w → IsQuiet (ask_end d w).world
quiet_end d w q =
    keeps_end (λ u v. IsQuiet u → IsQuiet v)
    (record {
      same = λ u there. there;
      chained = λ u v x first second there. second (first there);
      settled = quiet_settled;
    })
    quiet_forget d w q

-- a place that is written and then taken has what was written
taken_place : (places : List (Option Violation)) (d : ℕ) (v : Violation) →
    is_some (slice_index_or (slice_set places d (Some v)) d None) ≡ true →
    slice_index_or (slice_set places d (Some v)) d None ≡ Some v
taken_place [] d v is = absurd (false≢true is)
taken_place (x ∷ places) zero v is = refl
taken_place (x ∷ places) (suc d) v is = taken_place places d v is

ended_has : (o : Option Domain) (x : Domain) → o ≡ Some (ended_domain x) → has_ended o ≡ true
unfolding ended_domain
ended_has None x is = absurd cc
ended_has (Some y) x is = ap has_ended is

no_context : (x : Domain) (slot : ℕ) → context_at (ended_domain x).control.contexts slot ≡ None
unfolding ended_domain
no_context x slot = ended_empty x refl slot

domain_ends : (c : Context) (ctx : ℕ) (due : DueLoad) (x : Domain) (t : Turn) (earlier : List Item) (q : Question)
    (p : PageId) (f : _) → Asks (domain_of ctx) due earlier q → q.page ≡ Some p → p.domain ≡ domain_of ctx →
    t.halt ≡ None → inward_half (domain_of ctx) t.items ≡ earlier ++ item.Stopped (domain_of ctx) ∷ [] →
    left_in t.items ≡ [] → slice_get t.joint.domains (domain_of ctx) ≡ Some x →
    TellsEnded (end_domain (domain_of ctx) x (violation.Page p f) t).joint →
    EndsSo c ctx due (end_domain (domain_of ctx) x (violation.Page p f) t)
unfolding end_domain
domain_ends c ctx due x t earlier q p f asks page own none told left there tells =
    let d = domain_of ctx in
    let v : Violation = violation.Page p f in
    let t' : Turn = end_domain d x v t in
    let shows : List Item = items_of (end_world d t.joint.memory) in
    let quiet = quiet_end d (Cloaked (cloak_for t.joint.memory d)) (record { form = refl; left = refl; met = refl }) in
    let end : inward_half d (shows ++ item.Ended d ∷ []) ≡ item.Ended d ∷ [] =
    filter-append (is_inward d) shows (item.Ended d ∷ [])
    ∙ (ap (λ (l : List Item). l ++ inward_half d (item.Ended d ∷ [])) ((end_leaves d t.joint.memory).items d)
    ∙ ap (λ (b : Bool). cond b (item.Ended d ∷ []) []) (eq-eqb d d refl)) in
    let half : inward_half d t'.items ≡ earlier ++ item.Stopped d ∷ item.Ended d ∷ [] =
    filter-append (is_inward d) t.items (shows ++ item.Ended d ∷ [])
    ∙ (ap (λ (l : List Item). inward_half d t.items ++ l) end
    ∙ (ap (λ (l : List Item). l ++ item.Ended d ∷ []) told
    ∙ append_assoc earlier (item.Stopped d ∷ []) (item.Ended d ∷ []))) in
    let listed : slice_index_or t'.joint.ended d None ≡ Some v =
    taken_place t.joint.ended d v
    (tells.taken d
    ∙ ended_has (slice_get t'.joint.domains d) x (get_set_same t.joint.domains d x (ended_domain x) there)) in
    seen_so c ctx due t' _ (end_loads d due earlier q asks) half
    (left_append t.items (shows ++ item.Ended d ∷ []) (left_append shows (item.Ended d ∷ []) refl ∙ quiet.left) ∙ left)
    listed
    (running_is t'.joint ctx (ended_domain x) (get_set_same t.joint.domains d x (ended_domain x) there)
    ∙ no_context x (slot_of ctx))
    (ap (λ (halt : Option ℕ). cond t'.joint.memory.ledger.missed (Some stop.NoRandom) (stop_without_miss halt)) none)
    (Ended earlier q asks p page own f t'.joint.memory.ledger.missed)

refuses : (c : Context) (ctx : ℕ) (due : DueLoad) (j : Joint) (number : ℕ) (h : Hart) (w : World) (x : Domain)
    (earlier : List Item) (q : Question) → Asks (domain_of ctx) due earlier q →
    inward_half (domain_of ctx) (items_of w) ≡ earlier ++ item.Stopped (domain_of ctx) ∷ [] →
    IsOwnPage (domain_of ctx) q.page → IsRefused q.page w → Stands j ctx w x →
    TellsEnded (after_went j number h ctx w went.Stopped).joint →
    EndsSo c ctx due (after_went j number h ctx w went.Stopped)
unfolding domain_ended answers_violation ends_asked
refuses c ctx due j number h w x earlier q asks told own refused stands =
    let d = domain_of ctx in
    let v : Violation = violation.Page refused.found refused.frame in
    let t : Turn = domain_ended j number h d w went.Stopped in
    let turn : after_went j number h ctx w went.Stopped ≡ end_domain d x v t =
    ap (λ (o : Option Violation). answers_violation (Some ctx) o t) refused.met
    ∙ ap (λ (o : Option Domain). ends_asked o d v t) stands.there in
    subst (λ (t' : Turn). TellsEnded t'.joint → EndsSo c ctx due t') (sym turn)
    (domain_ends c ctx due x t earlier q refused.found refused.frame asks refused.is
    (subst (IsOwnPage d) refused.is own) refl told refused.left stands.there)

-- what the step of its domain told
abbrev pub told_in : (m : Moment) → StepsInside m → Told DomainStepped
told_in m s = domain_step (slot_of s.ctx) s.domain (world_inside m s)

abbrev pub joint_in : (m : Moment) → StepsInside m → Joint
joint_in m s =
    record (with_domain (domain_of s.ctx) (told_in m s).answer.domain m.joint) {
      memory = memory_of (told_in m s).world m.joint.memory;
    }

pub whole_step : (m : Moment) (s : StepsInside m) →
    joint_step m
    ≡ after_went (joint_in m s) (next_hart m) (ticked (hart_of_step m)) s.ctx (told_in m s).world
    (told_in m s).answer.went
unfolding joint_step after_domain_step
whole_step m s =
    ap (λ (o : Option ℕ). let t = step_before_end m in answers_violation o t.violation t) s.runs
    ∙ ap (λ (t : Turn). answers_violation (Some s.ctx) t.violation t) (context_turn m s)

whole_number : (n ctx : ℕ) → n ≡ domain_of ctx → context_number n (slot_of ctx) ≡ ctx
whole_number n ctx own = omega (arith, own)

-- a place that has a context is there
place_there : (contexts : List (Option Context)) (slot : ℕ) (c : Context) → context_at contexts slot ≡ Some c →
    slot < length contexts
place_there [] slot c there = absurd cc
place_there (x ∷ contexts) zero c there = omega arith
place_there (x ∷ contexts) (suc slot) c there = let low = place_there contexts slot c there in omega (arith, low)

-- as the step of the domain ended
went_ends : (c : Context) (ctx : ℕ) (d : Domain) (due : DueLoad) (j : Joint) (number : ℕ) (h : Hart)
    (answers : List Item) (x : DomainStepped) (w : World) → d.control.number ≡ domain_of ctx →
    context_at d.control.contexts (slot_of ctx) ≡ Some c →
    inward_half (domain_of ctx) (items_of w) ≡ answers → Stands j ctx w x.domain →
    TellsEnded (after_went j number h ctx w x.went).joint → Goes (slot_of ctx) d c due answers x w →
    EndsSo c ctx due (after_went j number h ctx w x.went)
went_ends c ctx d due j number h answers x w own there told stands tells (GoesOn is stays fine) =
    subst (λ (g : Went). EndsSo c ctx due (after_went j number h ctx w g)) (sym stays)
    (goes_on c ctx due j number h w x.domain
    (told ∙ (is ∙ ap (λ (n : ℕ). item.Ok n ∷ item.Ok n ∷ []) own)) fine stands)
went_ends c ctx d due j number h answers x w own there told stands tells
    (Leaves earlier q asks cause fault is left rests fine) =
    let same : x.went ≡ went.Leave (shown c ctx (Trap cause q.address)) =
    left ∙ ap (λ (k : ℕ). went.Leave (shown c k (Trap cause q.address))) (whole_number d.control.number ctx own) in
    let after : context_at x.domain.control.contexts (slot_of ctx) ≡ Some (suspended c) =
    ap (λ (l : List (Option Context)). context_at l (slot_of ctx)) rests
    ∙ get_or-set_same d.control.contexts (slot_of ctx) (Some (suspended c)) None
    (place_there d.control.contexts (slot_of ctx) c there) in
    subst (λ (g : Went). EndsSo c ctx due (after_went j number h ctx w g)) (sym same)
    (leaves c ctx due j number h w x.domain earlier q cause
    (subst (λ (n : ℕ). Asks n due earlier q) own asks) fault
    (told ∙ (is ∙ ap (λ (n : ℕ). earlier ++ item.Absent n cause ∷ []) own)) fine stands after)
went_ends c ctx d due j number h answers x w own there told stands tells
    (Refused earlier q asks is stops page refused) =
    subst (λ (g : Went). TellsEnded (after_went j number h ctx w g).joint →
    EndsSo c ctx due (after_went j number h ctx w g)) (sym stops)
    (refuses c ctx due j number h w x.domain earlier q (subst (λ (n : ℕ). Asks n due earlier q) own asks)
    (told ∙ (is ∙ ap (λ (n : ℕ). earlier ++ item.Stopped n ∷ []) own))
    (subst (λ (n : ℕ). IsOwnPage n q.page) own page) refused stands) tells
went_ends c ctx d due j number h answers x w own there told stands tells (Misses earlier q asks is stops same missing) =
    subst (λ (g : Went). EndsSo c ctx due (after_went j number h ctx w g)) (sym stops)
    (misses c ctx due j number h w x.domain earlier q (subst (λ (n : ℕ). Asks n due earlier q) own asks)
    (told ∙ (is ∙ ap (λ (n : ℕ). earlier ++ item.Stopped n ∷ []) own)) missing stands
    (ap (λ (l : List (Option Context)). context_at l (slot_of ctx)) same ∙ there))

-- The step of a moment at which no draw is missing and the program is not listed.
pub moment_ends : (m : Moment) (s : StepsInside m) (history : List Move) (due : DueLoad) →
    s.domain.control.number ≡ domain_of s.ctx → Agrees history m.joint.memory.plain →
    m.joint.memory.ledger.missed ≡ false → slice_index_or m.joint.ended (domain_of s.ctx) None ≡ None →
    TellsEnded (joint_step m).joint →
    load_due s.context.phase history s.domain.control s.context ≡ Some due →
    EndsSo s.context s.ctx due (joint_step m)
moment_ends m s history due own agrees drawn listed tells is =
    let w : World = world_inside m s in
    let t = told_in m s in
    let g = step_goes (slot_of s.ctx) s.domain history m.joint.memory.plain s.context due w s.there agrees is
    (record { quiet = record { form = refl; left = refl; met = refl }; drawn = drawn })
    (record { form = refl; regime = sym own; pages = refl; told = refl }) in
    let whole = whole_step m s in
    subst (EndsSo s.context s.ctx due) (sym whole)
    (went_ends s.context s.ctx s.domain due (joint_in m s) (next_hart m) (ticked (hart_of_step m)) g.answers
    t.answer t.world own s.there (ap (λ (n : ℕ). inward_half n (items_of t.world)) (sym own) ∙ g.told)
    (record {
      missed = memory_missed t.world m.joint.memory;
      listed = listed;
      there = get_set_same m.joint.domains (domain_of s.ctx) s.domain t.answer.domain s.program;
    })
    (subst (λ (x : Turn). TellsEnded x.joint) whole tells) g.goes)
