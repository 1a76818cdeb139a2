-- What holds of the joint machine between two steps: each program has its place for its number, and a context runs on a
-- hart only if that hart is inside it.
use Rattle.std.proofs.Common.{◌≡◌, ◌≢◌, ◌∙◌, ◌⊎◌, inl, inr, ◌+◌, ◌<◌, ◌≤◌, true, false, cond, suc, zero, pred, ℕ, Bool, List, [], ◌∷◌, Option, Some, None, Ok, Err, refl, ap, sym, subst, eq-eqb, eqb-true, ne_eqb, arith, length, length-set, nat_eq}
use Rattle.std.specs.Prelude.{◌&&◌, ◌==◌, is_some, replicate, slice_get, slice_set, slice_index_or}
use Rattle.std.proofs.lemmas.Bool.{false≢true, cases_lt, eqb-false, false_from_ne_true, and_left, and_right, and_from, and_parts}
use Rattle.std.proofs.lemmas.List.{get_or-set_same, get_or-set_other, get_or_past}
use Rattle.cloak_base.specs.declared.names.HartId.{HartId}
use Rattle.cloak_model.specs.declared.context.ResumeFault.TheVariants.{Busy}
use Rattle.cloak_model.specs.declared.context.Phase.{Phase}
use Rattle.cloak_model.specs.declared.context.Phase.TheVariants.{Waiting}
use Rattle.cloak_model.specs.Hart.{Hart, started}
use Rattle.cloak_model.specs.Contexts.{Context, Resumed, context_at, domain_of, slot_of, resume_at, resume_if, with_context}
use Rattle.cloak_model.specs.Calls.{finish_call}
use Rattle.cloak_model.specs.DomainState.{Control, Domain}
use Rattle.cloak_model.specs.Ending.{ended_domain}
use Rattle.cloak_model.specs.DomainStep.{answer_in, answer_taken, resume_told, resume_slot}
use Rattle.cloak_model.specs.DomainAlone.{is_hart, runs_on, slot_on, is_granted}
use Rattle.script_fold.proofs.Runs.{runs_in, set_same, set_others, MovesSlot}
use Rattle.std.proofs.lemmas.Option.{same_Some}
use Rattle.cloak_model.proofs.ResumeParts.{answer_taken_number}
use Rattle.cloak_base.proofs.Lists.{slice_get-set_other}

pub decided : (a b : ℕ) → (a ≡ b) ⊎ (a ≢ b)
decided a b = decided_by (nat_eq a b) refl
  where
    decided_by : (test : Bool) → nat_eq a b ≡ test → (a ≡ b) ⊎ (a ≢ b)
    decided_by true is = inl (eqb-true a b is)
    decided_by false is = inr (eqb-false a b is)

-- the context that a hart runs
abbrev pub inside_at : List Hart → ℕ → Option ℕ
inside_at harts n = (slice_index_or harts n (started 0 0)).inside

-- it is that of this slot of this domain
abbrev pub is_running : ℕ → ℕ → Option ℕ → Bool
is_running d slot None = false
is_running d slot (Some ctx) = (domain_of ctx == d) && (slot_of ctx == slot)

-- There are `count` harts; each program has its place for its number; and a context runs on a hart only if the hart is
-- inside it. A hart may be inside one that does not run: its resuming was refused, or its domain ended.
pub record InOrder (count : ℕ) (harts : List Hart) (domains : List Domain) : Type 0 where
  pub harts_count : length harts ≡ count
  pub numbers : (d : ℕ) (domain : Domain) → slice_get domains d ≡ Some domain → domain.control.number ≡ d
  pub runs : (d : ℕ) (domain : Domain) → slice_get domains d ≡ Some domain → (hart slot : ℕ) →
      runs_in hart domain.control.contexts slot ≡ true → is_running d slot (inside_at harts hart) ≡ true

-- Harts.

pub started_outside : (entry n : ℕ) → (started entry n).inside ≡ None
unfolding started
started_outside entry n = refl

pub inside_set_same : (harts : List Hart) (n : ℕ) (h : Hart) → n < length harts →
    inside_at (slice_set harts n h) n ≡ h.inside
inside_set_same harts n h within = ap (λ (x : Hart). x.inside) (get_or-set_same harts n h (started 0 0) within)

pub inside_set_other : (harts : List Hart) (n m : ℕ) (h : Hart) → m ≢ n →
    inside_at (slice_set harts n h) m ≡ inside_at harts m
inside_set_other harts n m h other = ap (λ (x : Hart). x.inside) (get_or-set_other harts n m h (started 0 0) other)

-- a hart that stays where it is
pub inside_set_kept : (harts : List Hart) (n : ℕ) (h : Hart) → h.inside ≡ inside_at harts n → (m : ℕ) →
    inside_at (slice_set harts n h) m ≡ inside_at harts m
inside_set_kept harts n h kept m = elim (decided m n) [
  | inl same ↦ elim (cases_lt n (length harts)) [
    | inl within ↦ subst (λ (k : ℕ). inside_at (slice_set harts n h) k ≡ inside_at harts k) (sym same)
        (inside_set_same harts n h within ∙ kept)
    | inr past ↦
        subst (λ (k : ℕ). inside_at (slice_set harts n h) k ≡ inside_at harts k) (sym same)
        (ap (λ (x : Hart). x.inside) (get_or_past (slice_set harts n h) n (started 0 0)
        (subst (λ (k : ℕ). k ≤ n) (sym (length-set harts n h)) past) ∙ sym (get_or_past harts n (started 0 0) past)))
  ]
  | inr other ↦ inside_set_other harts n m h other
]

-- Domains.

pub get_set_same : {A : Type 0} (xs : List A) (i : ℕ) (old new : A) → slice_get xs i ≡ Some old →
    slice_get (slice_set xs i new) i ≡ Some new
get_set_same [] i old new is = absurd cc
get_set_same (x ∷ xs) zero old new is = refl
get_set_same (x ∷ xs) (suc i) old new is = get_set_same xs i old new is

-- What a step of one hart, in one domain, leaves in order.

-- the harts of another domain's contexts
abbrev OthersKept : ℕ → List Hart → List Hart → Type 0
OthersKept e harts harts' =
    (d slot m : ℕ) → d ≢ e → is_running d slot (inside_at harts m) ≡ true →
    is_running d slot (inside_at harts' m) ≡ true

-- the contexts of this domain
abbrev RunsSo : ℕ → List Hart → List (Option Context) → Type 0
RunsSo e harts contexts = (m slot : ℕ) → runs_in m contexts slot ≡ true → is_running e slot (inside_at harts m) ≡ true

with_one : (count : ℕ) (harts harts' : List Hart) (domains : List Domain) (e : ℕ) (old new : Domain) →
    InOrder count harts domains →
    slice_get domains e ≡ Some old → length harts' ≡ length harts → new.control.number ≡ old.control.number →
    RunsSo e harts' new.control.contexts → OthersKept e harts harts' → InOrder count harts' (slice_set domains e new)
with_one count harts harts' domains e old new order is counted number runs others =
    record {
      harts_count = counted ∙ order.harts_count;
      numbers = λ d domain found. elim (decided d e) [
        | inl same ↦
            let it : domain ≡ new = same_Some domain new (sym found ∙ ap (slice_get (slice_set domains e new)) same
            ∙ get_set_same domains e old new is) in
            ap (λ (x : Domain). x.control.number) it ∙ number ∙ order.numbers e old is ∙ sym same
        | inr other ↦ order.numbers d domain (sym (slice_get-set_other domains e d new other) ∙ found)
      ];
      runs = λ d domain found m slot on. elim (decided d e) [
        | inl same ↦
            let it : domain ≡ new = same_Some domain new (sym found ∙ ap (slice_get (slice_set domains e new)) same
            ∙ get_set_same domains e old new is) in
            ap (λ (k : ℕ). is_running k slot (inside_at harts' m)) same
            ∙ runs m slot (ap (λ (x : Domain). runs_in m x.control.contexts slot) (sym it) ∙ on)
        | inr other ↦
            others d slot m other (order.runs d domain (sym (slice_get-set_other domains e d new other) ∙ found) m slot on)
      ];
    }

-- A hart that stays where it is: outside, or in a context that goes on.

pub order_kept : (count : ℕ) (harts : List Hart) (domains : List Domain) (n : ℕ) (h : Hart) →
    InOrder count harts domains →
    h.inside ≡ inside_at harts n → InOrder count (slice_set harts n h) domains
order_kept count harts domains n h order kept = record {
  harts_count = length-set harts n h ∙ order.harts_count;
  numbers = order.numbers;
  runs = λ d domain found m slot on. ap (is_running d slot) (inside_set_kept harts n h kept m)
      ∙ order.runs d domain found m slot on;
}

moves_nothing : (slot : ℕ) (old new : Control) → MovesSlot slot false old new → (m s : ℕ) →
    runs_in m new.contexts s ≡ runs_in m old.contexts s
moves_nothing slot old new moves m s = elim (decided s slot) [
  | inl same ↦ ap (runs_in m new.contexts) same ∙ moves.own m ∙ ap (runs_in m old.contexts) (sym same)
  | inr other ↦ moves.others m s other
]

pub order_stays : (count : ℕ) (harts : List Hart) (domains : List Domain) (n : ℕ) (h : Hart) (e slot : ℕ)
    (old new : Domain) → InOrder count harts domains →
    slice_get domains e ≡ Some old → h.inside ≡ inside_at harts n → MovesSlot slot false old.control new.control →
    InOrder count (slice_set harts n h) (slice_set domains e new)
order_stays count harts domains n h e slot old new order is kept moves =
    with_one count harts (slice_set harts n h) domains e old new order is (length-set harts n h) moves.number
    (λ m s on. ap (is_running e s) (inside_set_kept harts n h kept m)
    ∙ order.runs e old is m s (sym (moves_nothing slot old.control new.control moves m s) ∙ on))
    (λ d s m other on. ap (is_running d s) (inside_set_kept harts n h kept m) ∙ on)

-- A hart that leaves its context.

running_other : (ctx e d slot : ℕ) → domain_of ctx ≡ e → d ≢ e → is_running d slot (Some ctx) ≡ false
running_other ctx e d slot own other = and_left _ _ (ne_eqb (domain_of ctx) d (λ same. other (sym same ∙ own)))

running_other_slot : (ctx d slot : ℕ) → slot ≢ slot_of ctx → is_running d slot (Some ctx) ≡ false
running_other_slot ctx d slot other = and_right _ _ (ne_eqb (slot_of ctx) slot (λ same. other (sym same)))

running_own : (ctx : ℕ) → is_running (domain_of ctx) (slot_of ctx) (Some ctx) ≡ true
running_own ctx = and_from _ _ (eq-eqb (domain_of ctx) (domain_of ctx) refl) (eq-eqb (slot_of ctx) (slot_of ctx) refl)

pub order_leaves : (count : ℕ) (harts : List Hart) (domains : List Domain) (n : ℕ) (h : Hart) (ctx : ℕ)
    (old new : Domain) → InOrder count harts domains →
    slice_get domains (domain_of ctx) ≡ Some old → inside_at harts n ≡ Some ctx →
    MovesSlot (slot_of ctx) true old.control new.control →
    InOrder count (slice_set harts n h) (slice_set domains (domain_of ctx) new)
order_leaves count harts domains n h ctx old new order is runs moves =
    let e = domain_of ctx in
    let slot = slot_of ctx in
    let harts' = slice_set harts n h in
    with_one count harts harts' domains e old new order is (length-set harts n h) moves.number
    (λ m s on. elim (decided s slot) [
      | inl it ↦ absurd (false≢true (sym (ap (runs_in m new.control.contexts) it ∙ moves.own m) ∙ on))
      | inr other ↦
          let was : is_running e s (inside_at harts m) ≡ true = order.runs e old is m s (sym (moves.others m s other) ∙ on) in
          (elim (decided m n) [
            | inl same ↦
                absurd (false≢true (sym (ap (λ (k : ℕ). is_running e s (inside_at harts k)) same ∙ ap (is_running e s) runs
                ∙ running_other_slot ctx e s other) ∙ was))
            | inr apart ↦ ap (is_running e s) (inside_set_other harts n m h apart) ∙ was
          ])
    ])
    (λ d s m other on. elim (decided m n) [
      | inl same ↦
          absurd (false≢true (sym (ap (λ (k : ℕ). is_running d s (inside_at harts k)) same ∙ ap (is_running d s) runs
          ∙ running_other ctx e d s refl other) ∙ on))
      | inr apart ↦ ap (is_running d s) (inside_set_other harts n m h apart) ∙ on
    ])

-- A hart that enters a context, which may not run, and one that leaves a context that does not run on it.

order_moves : (count : ℕ) (harts : List Hart) (domains : List Domain) (n : ℕ) (h : Hart) → InOrder count harts domains →
    ((d : ℕ) (domain : Domain) → slice_get domains d ≡ Some domain → (slot : ℕ) →
    runs_in n domain.control.contexts slot ≡ true → ⊥) → InOrder count (slice_set harts n h) domains
order_moves count harts domains n h order none = record {
  harts_count = length-set harts n h ∙ order.harts_count;
  numbers = order.numbers;
  runs = λ d domain found m slot on. elim (decided m n) [
    | inl same ↦ absurd (none d domain found slot (ap (λ (k : ℕ). runs_in k domain.control.contexts slot) (sym same) ∙ on))
    | inr apart ↦ ap (is_running d slot) (inside_set_other harts n m h apart) ∙ order.runs d domain found m slot on
  ];
}

pub order_enters : (count : ℕ) (harts : List Hart) (domains : List Domain) (n : ℕ) (h : Hart) →
    InOrder count harts domains → inside_at harts n ≡ None → InOrder count (slice_set harts n h) domains
order_enters count harts domains n h order out =
    order_moves count harts domains n h order
    (λ d domain found slot on. false≢true (ap (is_running d slot) (sym out) ∙ order.runs d domain found n slot on))

second_of : (a b : Bool) → (a && b) ≡ true → b ≡ true
second_of true b is = is
second_of false b is = absurd (false≢true is)

pub order_gone : (count : ℕ) (harts : List Hart) (domains : List Domain) (n : ℕ) (h : Hart) (ctx : ℕ) →
    InOrder count harts domains → inside_at harts n ≡ Some ctx →
    ((domain : Domain) → slice_get domains (domain_of ctx) ≡ Some domain →
    runs_in n domain.control.contexts (slot_of ctx) ≡ false) → InOrder count (slice_set harts n h) domains
order_gone count harts domains n h ctx order runs not_here =
    order_moves count harts domains n h order
    (λ d domain found slot on.
    let in_it : is_running d slot (Some ctx) ≡ true = ap (is_running d slot) (sym runs) ∙ order.runs d domain found n slot on in
    let at : domain_of ctx ≡ d = eqb-true (domain_of ctx) d (and_parts _ _ in_it).0 in
    let place : slot_of ctx ≡ slot = eqb-true (slot_of ctx) slot (second_of (domain_of ctx == d) _ in_it) in
    false≢true (sym (not_here domain (ap (slice_get domains) at ∙ found))
    ∙ ap (runs_in n domain.control.contexts) place ∙ on))

-- A domain that ends.

none_at : (n s : ℕ) → let none : Option Context = None in slice_index_or (replicate n none) s none ≡ none
none_at zero s = refl
none_at (suc n) zero = refl
none_at (suc n) (suc s) = none_at n s

pub order_ends : (count : ℕ) (harts : List Hart) (domains : List Domain) (e : ℕ) (old : Domain) →
    InOrder count harts domains → slice_get domains e ≡ Some old →
    InOrder count harts (slice_set domains e (ended_domain old))
unfolding ended_domain
order_ends count harts domains e old order is =
    with_one count harts harts domains e old (ended_domain old) order is refl refl
    (λ m s on. absurd (false≢true (sym (ap (λ (o : Option Context). runs_on m o) (none_at 8 s)) ∙ on)))
    (λ d s m other on. on)

-- A hart that resumes a context.

-- what a resuming that was granted makes of the contexts
pub record SlotResumed (slot hart : ℕ) (old new : Control) : Type 0 where
  pub number : new.number ≡ old.number
  pub idle : (m : ℕ) → runs_in m old.contexts slot ≡ false
  pub here : (m : ℕ) → runs_in m new.contexts slot ≡ (hart == m)
  pub others : (m s : ℕ) → s ≢ slot → runs_in m new.contexts s ≡ runs_in m old.contexts s

pub order_resumes : (count : ℕ) (harts : List Hart) (domains : List Domain) (n : ℕ) (h : Hart) (ctx : ℕ)
    (old new : Domain) → InOrder count harts domains →
    slice_get domains (domain_of ctx) ≡ Some old → n < length harts → inside_at harts n ≡ None →
    h.inside ≡ Some ctx → SlotResumed (slot_of ctx) n old.control new.control →
    InOrder count (slice_set harts n h) (slice_set domains (domain_of ctx) new)
order_resumes count harts domains n h ctx old new order is within runs goes resumes =
    let e = domain_of ctx in
    let slot = slot_of ctx in
    let harts' = slice_set harts n h in
    let in_it : inside_at harts' n ≡ Some ctx = inside_set_same harts n h within ∙ goes in
    with_one count harts harts' domains e old new order is (length-set harts n h) resumes.number
    (λ m s on. elim (decided s slot) [
      | inl it ↦
          let same : n ≡ m = eqb-true n m (sym (ap (runs_in m new.control.contexts) it ∙ resumes.here m) ∙ on) in
          ap (λ (k : ℕ). is_running e s (inside_at harts' k)) (sym same) ∙ ap (is_running e s) in_it
          ∙ ap (λ (x : ℕ). is_running e x (Some ctx)) it ∙ running_own ctx
      | inr other ↦
          let was : is_running e s (inside_at harts m) ≡ true = order.runs e old is m s (sym (resumes.others m s other) ∙ on) in
          (elim (decided m n) [
            | inl same ↦
                absurd (false≢true (sym (ap (λ (k : ℕ). is_running e s (inside_at harts k)) same
                ∙ ap (is_running e s) runs) ∙ was))
            | inr apart ↦ ap (is_running e s) (inside_set_other harts n m h apart) ∙ was
          ])
    ])
    (λ d s m other on. elim (decided m n) [
      | inl same ↦
          absurd (false≢true (sym (ap (λ (k : ℕ). is_running d s (inside_at harts k)) same ∙ ap (is_running d s) runs) ∙ on))
      | inr apart ↦ ap (is_running d s) (inside_set_other harts n m h apart) ∙ on
    ])

-- the answer that a context takes leaves it on its hart

either_on : (test : Bool) (c d : Context) (on : Option HartId) → c.on ≡ on → d.on ≡ on → (cond test c d).on ≡ on
either_on true c d on first second = first
either_on false c d on first second = second

finish_on : (answer : ℕ) (c : Context) → (finish_call answer c).on ≡ c.on
unfolding finish_call
finish_on answer c = either_on _ _ _ c.on refl refl

answer_in_on : (p : Phase) (answer : ℕ) (c : Context) → (answer_in p answer c).on ≡ c.on
unfolding answer_in
answer_in_on Waiting answer c = finish_on answer c
answer_in_on _ answer c = refl

answer_taken_runs : (slot answer : ℕ) (o : Option Context) (d : Control) → context_at d.contexts slot ≡ o → (m s : ℕ) →
    runs_in m (answer_taken slot answer o d).contexts s ≡ runs_in m d.contexts s
unfolding answer_taken
answer_taken_runs slot answer None d is m s = refl
answer_taken_runs slot answer (Some c) d is m s =
    set_same m d.contexts slot (Some (answer_in c.phase answer c))
    (ap (is_hart m) (answer_in_on c.phase answer c) ∙ ap (runs_on m) (sym is)) s

set_here : (m : ℕ) (contexts : List (Option Context)) (slot : ℕ) (c : Context) (new : Context) →
    context_at contexts slot ≡ Some c →
    runs_in m (slice_set contexts slot (Some new)) slot ≡ is_hart m new.on
set_here m [] slot c new is = absurd cc
set_here m (x ∷ contexts) zero c new is = refl
set_here m (x ∷ contexts) (suc slot) c new is = set_here m contexts slot c new is

-- with the context that is there, on no hart
resumed_there : (slot hart answer : ℕ) (c : Context) (old : Control) → context_at old.contexts slot ≡ Some c →
    c.on ≡ None →
    SlotResumed slot hart old (resume_told slot answer (Ok tt)
    (record old { contexts = with_context slot (record c { on = Some (record { 0 = hart }) }) old.contexts })).control
unfolding resume_told
resumed_there slot hart answer c old is idle =
    let new = record c { on = Some (record { 0 = hart }) } in
    let d : Control = record old { contexts = with_context slot new old.contexts } in
    let o = context_at d.contexts slot in
    record {
      number = answer_taken_number slot answer o d;
      idle = λ m. ap (runs_on m) is ∙ ap (is_hart m) idle;
      here = λ m. answer_taken_runs slot answer o d refl m slot ∙ set_here m old.contexts slot c new is;
      others = λ m s other. answer_taken_runs slot answer o d refl m s
          ∙ set_others m old.contexts slot (Some new) s other;
    }

resumed_on : (slot hart answer : ℕ) (on : Option HartId) (c : Context) (old : Control) →
    context_at old.contexts slot ≡ Some c → c.on ≡ on →
    let made : Resumed = cond (is_some on) (record { answer = Err Busy; contexts = old.contexts })
    (record {
      answer = Ok tt;
      contexts = with_context slot
          (record c { on = Some (record { 0 = hart }) }) old.contexts;
    }) in
    is_granted (resume_told slot answer made.answer (record old { contexts = made.contexts })).answer ≡ true →
    SlotResumed slot hart old (resume_told slot answer made.answer (record old { contexts = made.contexts })).control
unfolding resume_told
resumed_on slot hart answer None c old is idle granted = resumed_there slot hart answer c old is idle
resumed_on slot hart answer (Some on) c old is idle granted = absurd (false≢true granted)

resumed_if : (slot hart answer : ℕ) (o : Option Context) (old : Control) → context_at old.contexts slot ≡ o →
    let made = resume_if slot hart o old.contexts in
    is_granted (resume_told slot answer made.answer (record old { contexts = made.contexts })).answer ≡ true →
    SlotResumed slot hart old (resume_told slot answer made.answer (record old { contexts = made.contexts })).control
unfolding resume_if resume_told
resumed_if slot hart answer None old is granted = absurd (false≢true granted)
resumed_if slot hart answer (Some c) old is granted = resumed_on slot hart answer c.on c old is refl granted

pub resume_resumes : (slot hart answer : ℕ) (old : Control) →
    is_granted (resume_slot slot hart answer old).answer ≡ true →
    SlotResumed slot hart old (resume_slot slot hart answer old).control
unfolding resume_slot resume_at
resume_resumes slot hart answer old granted =
    resumed_if slot hart answer (context_at old.contexts slot) old refl granted

-- The slot that runs on a hart.

pub slot_none : (hart k : ℕ) (contexts : List (Option Context)) → ((s : ℕ) → runs_in hart contexts s ≡ false) →
    slot_on hart k contexts ≡ None
unfolding slot_on
slot_none hart k [] none = refl
slot_none hart k (c ∷ contexts) none =
    ap (λ (b : Bool). cond b (Some k) (slot_on hart (k + 1) contexts)) (none 0)
    ∙ slot_none hart (k + 1) contexts (λ s. none (suc s))

pub slot_found : (hart k slot : ℕ) (contexts : List (Option Context)) → runs_in hart contexts slot ≡ true →
    ((s : ℕ) → s ≢ slot → runs_in hart contexts s ≡ false) →
    slot_on hart k contexts ≡ Some (k + slot)
unfolding slot_on
slot_found hart k slot [] own others = absurd (false≢true own)
slot_found hart k zero (c ∷ contexts) own others =
    let same : k ≡ k + 0 = omega arith in
    ap (λ (b : Bool). cond b (Some k) (slot_on hart (k + 1) contexts)) own ∙ ap (λ (n : ℕ). Some n) same
slot_found hart k (suc slot) (c ∷ contexts) own others =
    let same : k + 1 + slot ≡ k + suc slot = omega arith in
    ap (λ (b : Bool). cond b (Some k) (slot_on hart (k + 1) contexts))
    (others 0 (λ e. let clash : 0 ≡ suc slot = e in omega arith))
    ∙ slot_found hart (k + 1) slot contexts own (λ s other. others (suc s) (λ same. other (ap pred same)))
    ∙ ap (λ (n : ℕ). Some n) same

-- of a hart outside, or in a context of another program
pub slot_outside : (count : ℕ) (harts : List Hart) (domains : List Domain) (d : ℕ) (domain : Domain) (hart : ℕ) →
    InOrder count harts domains → slice_get domains d ≡ Some domain →
    inside_at harts hart ≡ None → slot_on hart 0 domain.control.contexts ≡ None
slot_outside count harts domains d domain hart order is out =
    slot_none hart 0 domain.control.contexts (λ s. false_from_ne_true _ (λ on.
    false≢true (ap (is_running d s) (sym out) ∙ order.runs d domain is hart s on)))

pub slot_other : (count : ℕ) (harts : List Hart) (domains : List Domain) (d : ℕ) (domain : Domain) (hart ctx : ℕ) →
    InOrder count harts domains → slice_get domains d ≡ Some domain →
    inside_at harts hart ≡ Some ctx → d ≢ domain_of ctx → slot_on hart 0 domain.control.contexts ≡ None
slot_other count harts domains d domain hart ctx order is runs other =
    slot_none hart 0 domain.control.contexts (λ s. false_from_ne_true _ (λ on.
    false≢true (sym (running_other ctx (domain_of ctx) d s refl other) ∙ ap (is_running d s) (sym runs)
    ∙ order.runs d domain is hart s on)))

-- of a hart in a context of the program that does not run on it
pub slot_idle : (count : ℕ) (harts : List Hart) (domains : List Domain) (domain : Domain) (hart ctx : ℕ) →
    InOrder count harts domains → slice_get domains (domain_of ctx) ≡ Some domain → inside_at harts hart ≡ Some ctx →
    runs_in hart domain.control.contexts (slot_of ctx) ≡ false → slot_on hart 0 domain.control.contexts ≡ None
slot_idle count harts domains domain hart ctx order is runs idle =
    slot_none hart 0 domain.control.contexts (λ s. elim (decided s (slot_of ctx)) [
      | inl same ↦ ap (runs_in hart domain.control.contexts) same ∙ idle
      | inr other ↦ false_from_ne_true _ (λ on.
          false≢true (sym (running_other_slot ctx (domain_of ctx) s other) ∙ ap (is_running (domain_of ctx) s) (sym runs)
          ∙ order.runs (domain_of ctx) domain is hart s on))
    ])

-- of a hart in a context of the program itself, which runs on it
pub slot_own : (count : ℕ) (harts : List Hart) (domains : List Domain) (domain : Domain) (hart ctx : ℕ) →
    InOrder count harts domains → slice_get domains (domain_of ctx) ≡ Some domain →
    inside_at harts hart ≡ Some ctx → runs_in hart domain.control.contexts (slot_of ctx) ≡ true →
    slot_on hart 0 domain.control.contexts ≡ Some (slot_of ctx)
slot_own count harts domains domain hart ctx order is runs here =
    let e = domain_of ctx in
    let same : 0 + slot_of ctx ≡ slot_of ctx = omega arith in
    slot_found hart 0 (slot_of ctx) domain.control.contexts here
    (λ s other. false_from_ne_true _ (λ on.
    false≢true (sym (running_other_slot ctx e s other) ∙ ap (is_running e s) (sym runs)
    ∙ order.runs e domain is hart s on)))
    ∙ ap (λ (n : ℕ). Some n) same
