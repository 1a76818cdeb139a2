-- Whether the context that a hart is inside runs on it.
use Rattle.std.proofs.Common.{◌≡◌, ◌∙◌, ◌<◌, ℕ, zero, suc, [], ◌∷◌, Bool, true, false, List, Option, Some, None, length, slice_get, refl, ap, sym, subst, if◌then◌else◌}
use Rattle.std.specs.Prelude.{option_map, IsSome}
use Rattle.std.proofs.lemmas.Option.{none-some}
use Rattle.cloak_model.specs.Contexts.{Context, context_at, domain_of, slot_of}
use Rattle.cloak_model.specs.Csr.{interrupt_due}
use Rattle.cloak_model.specs.DomainAlone.{is_hart, runs_on}
use Rattle.cloak_model.specs.DomainState as program
use Rattle.cloak_model.specs.Hart.{Hart}
use Rattle.cloak_model.specs.Joint.{by_interrupt, by_running, inside_step, left, not_running}
use Rattle.cloak_model.specs.Parts as model
use Rattle.hypercalls.specs.declared.domain.Domain.{Domain}
use Rattle.hypercalls.specs.Standing.{StandsFor, control_of}
use Rattle.shadow_fold.specs.Events as events
use Rattle.joint_machine.specs.Standing.{AreDomains}
use Rattle.joint_machine.specs.Turning.{running_in, running_space}
use Rattle.joint_machine.proofs.Places.{domain_at}

-- How the code finds the space.

-- It does not run.

-- the context does not run on the hart
abbrev pub IsStopped : ℕ → ℕ → Option program.Domain → Type 0
IsStopped hart ctx None = Unit {0}
IsStopped hart ctx (Some was) = runs_on hart (context_at was.control.contexts (slot_of ctx)) ≡ false

stopped_if : (space : ℕ) (b : Bool) → (if b then Some space else None) ≡ None → b ≡ false
stopped_if space true none = absurd (none-some space (sym none))
stopped_if space false none = refl

stopped_at : (hart : ℕ) (o : Option Context) → running_space hart o ≡ None → runs_on hart o ≡ false
stopped_at hart None none = refl
stopped_at hart (Some c) none = stopped_if c.space (is_hart hart c.on) none

pub not_run : (xs : List Domain) (ds : List program.Domain) (hart ctx : ℕ) → AreDomains xs ds →
    running_in hart ctx (slice_get xs (domain_of ctx)) ≡ None →
    IsStopped hart ctx (slice_get ds (domain_of ctx))
not_run xs ds hart ctx are none = at xs ds (domain_of ctx) are none
  where
    one : (x : Domain) (was : program.Domain) → StandsFor x was → running_in hart ctx (Some x) ≡ None →
        IsStopped hart ctx (Some was)
    one x was stands none =
        subst (λ (k : program.Control). runs_on hart (context_at k.contexts (slot_of ctx)) ≡ false)
        (sym stands.control)
        (stopped_at hart (context_at (control_of x).contexts (slot_of ctx)) none)

    at : (xs : List Domain) (ds : List program.Domain) (d : ℕ) → AreDomains xs ds →
        running_in hart ctx (slice_get xs d) ≡ None → IsStopped hart ctx (slice_get ds d)
    at [] [] d are none = tt
    at [] (a ∷ ds) d are none = absurd are
    at (x ∷ xs) [] d are none = absurd are
    at (x ∷ xs) (a ∷ ds) zero are none = one x a are.0 none
    at (x ∷ xs) (a ∷ ds) (suc d) are none = at xs ds d are.1 none

-- then the hart leaves it
pub unrun_step : (j : model.Joint) (number : ℕ) (h : Hart) (ctx : ℕ) (o : Option program.Domain) →
    IsStopped number ctx o →
    inside_step j number h ctx o ≡ left j number h [] (not_running ctx)
unfolding inside_step by_running
unrun_step j number h ctx None stopped = refl
unrun_step j number h ctx (Some was) stopped = ap (λ (b : Bool). by_running b j number h ctx was) stopped

-- and nothing is asked
pub unrun_asks : (j : model.Joint) (number : ℕ) (h : Hart) (d ctx : ℕ) (o : Option program.Domain) →
    IsStopped number ctx o →
    events.asked_inside j number h d (slot_of ctx) o ≡ events.nothing_asked
unrun_asks j number h d ctx None stopped = refl
unrun_asks j number h d ctx (Some was) stopped = ap
    (λ (b : Bool). events.asked_running b j h d (slot_of ctx) was) stopped

-- It runs.

-- the program of the context, which runs on the hart
pub record RunsOn (ds : List program.Domain) (hart ctx : ℕ) (x : Domain) : Type 0 where
  pub was : program.Domain
  pub there : slice_get ds (domain_of ctx) ≡ Some was
  pub stands : StandsFor x was
  pub runs : runs_on hart (context_at was.control.contexts (slot_of ctx)) ≡ true

running_if : (space found : ℕ) (b : Bool) → (if b then Some found else None) ≡ Some space → b ≡ true
running_if space found true is = refl
running_if space found false is = absurd (none-some space is)

running_at : (hart space : ℕ) (o : Option Context) → running_space hart o ≡ Some space → runs_on hart o ≡ true
running_at hart space None is = absurd (none-some space is)
running_at hart space (Some c) is = running_if space c.space (is_hart hart c.on) is

found_if : (space found : ℕ) (b : Bool) → (if b then Some found else None) ≡ Some space → Some found ≡ Some space
found_if space found true is = is
found_if space found false is = absurd (none-some space is)

pub found_at : (hart space : ℕ) (o : Option Context) → running_space hart o ≡ Some space →
    option_map (λ (c : Context). c.space) o ≡ Some space
found_at hart space None is = absurd (none-some space is)
found_at hart space (Some c) is = found_if space c.space (is_hart hart c.on) is

-- a slot whose context has this space is taken
taken_if : (o : Option Context) (space : ℕ) → option_map (λ (c : Context). c.space) o ≡ Some space →
    (c : Context) × ((o ≡ Some c) × (c.space ≡ space))
taken_if None space is = absurd (none-some space is)
taken_if (Some c) space is = (c, (refl, cc))

pub taken_slot : (domain : Domain) (was : program.Domain) (slot space : ℕ) → StandsFor domain was →
    option_map (λ (c : Context). c.space) (context_at (control_of domain).contexts slot) ≡ Some space →
    (c : Context) × ((context_at was.control.contexts slot ≡ Some c) × (c.space ≡ space))
taken_slot domain was slot space stands is =
    subst (λ (k : program.Control). (c : Context) × ((context_at k.contexts slot ≡ Some c) × (c.space ≡ space)))
    (sym stands.control)
    (taken_if (context_at (control_of domain).contexts slot) space is)

pub is_taken : (o : Option Context) (space : ℕ) → option_map (λ (c : Context). c.space) o ≡ Some space → IsSome o
is_taken None space is = absurd (none-some space is)
is_taken (Some c) space is = refl

pub some_of : {A : Type 0} (o : Option A) (x : A) → o ≡ Some x → IsSome o
some_of o x is = subst (λ (p : Option _). IsSome p) (sym is) refl

pub found_in : (hart ctx space : ℕ) (o : Option Domain) (x : Domain) → o ≡ Some x →
    running_in hart ctx o ≡ Some space →
    option_map (λ (c : Context). c.space) (context_at (control_of x).contexts (slot_of ctx)) ≡ Some space
found_in hart ctx space o x here is =
    found_at hart space (context_at (control_of x).contexts (slot_of ctx))
    (subst (λ (p : Option Domain). running_in hart ctx p ≡ Some space) here is)

pub run_there : (xs : List Domain) (ds : List program.Domain) (hart ctx space : ℕ) (x : Domain) → AreDomains xs ds →
    slice_get xs (domain_of ctx) ≡ Some x →
    running_in hart ctx (slice_get xs (domain_of ctx)) ≡ Some space → RunsOn ds hart ctx x
run_there xs ds hart ctx space x are here is =
    let at = domain_at xs ds (domain_of ctx) x are here in
    let found = subst (λ (p : Option Domain). running_in hart ctx p ≡ Some space) here is in
    let runs = running_at hart space (context_at (control_of x).contexts (slot_of ctx)) found in
    record {
      was = at.0;
      there = at.1.0;
      stands = at.1.1;
      runs = subst (λ (k : program.Control). runs_on hart (context_at k.contexts (slot_of ctx)) ≡ true)
          (sym at.1.1.control) runs;
    }

-- then the interrupt is taken that is due, or its context makes a step
pub run_step : (j : model.Joint) (number : ℕ) (h : Hart) (ctx : ℕ) (o : Option program.Domain)
    (was : program.Domain) → o ≡ Some was →
    runs_on number (context_at was.control.contexts (slot_of ctx)) ≡ true →
    inside_step j number h ctx o ≡ by_interrupt (interrupt_due h.mode h.csrs) j number h (domain_of ctx)
    (slot_of ctx) was
unfolding inside_step by_running
run_step j number h ctx o was there runs =
    ap (λ (x : Option program.Domain). inside_step j number h ctx x) there
    ∙ ap (λ (b : Bool). by_running b j number h ctx was) runs

pub run_asks : (j : model.Joint) (number : ℕ) (h : Hart) (d ctx : ℕ) (o : Option program.Domain)
    (was : program.Domain) → o ≡ Some was →
    runs_on number (context_at was.control.contexts (slot_of ctx)) ≡ true →
    events.asked_inside j number h d (slot_of ctx) o ≡ events.asked_if (interrupt_due h.mode h.csrs) j h d
    (slot_of ctx) was (context_at was.control.contexts (slot_of ctx))
run_asks j number h d ctx o was there runs =
    ap (λ (x : Option program.Domain). events.asked_inside j number h d (slot_of ctx) x) there
    ∙ ap (λ (b : Bool). events.asked_running b j h d (slot_of ctx) was) runs

-- What the code found, of the list that it was lent.

pub found_lent : (xs ys : List Domain) (hart ctx : ℕ) (r o : Option ℕ) → xs ≡ ys →
    r ≡ running_in hart ctx (slice_get xs (domain_of ctx)) → r ≡ o →
    running_in hart ctx (slice_get ys (domain_of ctx)) ≡ o
found_lent xs ys hart ctx r o same value is =
    ap (λ (zs : List Domain). running_in hart ctx (slice_get zs (domain_of ctx))) (sym same) ∙ sym value ∙ is

pub inside_lent : (xs ys : List Domain) (ctx space : ℕ) (r : Option ℕ) → xs ≡ ys →
    (IsSome r → domain_of ctx < length xs) → r ≡ Some space →
    domain_of ctx < length ys
inside_lent xs ys ctx space r same there is = subst (λ (zs : List Domain). domain_of ctx < length zs) same
    (there (some_of r space is))
