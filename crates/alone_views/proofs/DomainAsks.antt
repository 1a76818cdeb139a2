-- A step of a program that runs alone asks at most two questions, and changes its pages only after the last one. So if
-- an answer is missing, nothing has changed.
use Rattle.std.proofs.Common.{◌≡◌, ◌∙◌, ◌<◌, ◌≤◌, ◌+◌, ◌%◌, ◌⊎◌, inl, inr, ℕ, zero, suc, Bool, true, false, cond, List, [], ◌∷◌, length, Option, Some, None, Result, Ok, Err, refl, ap, sym, subst, arith}
use Rattle.std.specs.Prelude.{◌==◌, nat_le}
use Rattle.std.specs.List.{list_any}
use Rattle.cloak_base.specs.Registers.{register}
use Rattle.cloak_base.specs.declared.names.PageId.{PageId}
use Rattle.rv_isa.specs.Table.{instruction}
use Rattle.rv_isa.specs.declared.instr.Instr.{Instr}
use Rattle.rv_isa.specs.declared.instr.Instr.TheVariants.{Ecall, Ebreak}
use Rattle.rv_atomic.specs.Table.{atomic_instruction}
use Rattle.rv_atomic.specs.declared.atomic.Atomic.{Atomic}
use Rattle.rv_atomic.specs.declared.atomic.AtomicOp.{AtomicOp}
use Rattle.rv_atomic.specs.declared.atomic.AtomicOp.TheVariants.{Lr, Sc}
use Rattle.cloak_model.specs.declared.answer.Answer.{Answer}
use Rattle.cloak_model.specs.declared.answer.Answer.TheVariants as told
use Rattle.cloak_model.specs.declared.context.Phase.{Phase}
use Rattle.cloak_model.specs.declared.context.Phase.TheVariants.{Plain, CopyIn, Waiting, CopyOut}
use Rattle.cloak_model.specs.declared.context.PageWord.{PageWord}
use Rattle.cloak_model.specs.declared.inside.Copied.{Copied}
use Rattle.cloak_model.specs.declared.inside.Copied.TheVariants as copied
use Rattle.cloak_model.specs.declared.inside.Ended.{Ended}
use Rattle.cloak_model.specs.declared.inside.Ended.TheVariants as ends
use Rattle.cloak_model.specs.declared.inside.Forked.{Forked}
use Rattle.cloak_model.specs.declared.inside.Forked.TheVariants as forked
use Rattle.cloak_model.specs.declared.inside.Ran.{Ran}
use Rattle.cloak_model.specs.declared.inside.Ran.TheVariants as ran
use Rattle.cloak_model.specs.declared.outcome.Effect.{Effect}
use Rattle.cloak_model.specs.declared.outcome.Effect.TheVariants as does
use Rattle.cloak_model.specs.declared.resource.MapFault.{MapFault}
use Rattle.cloak_model.specs.AskPages.{next_answer, unfit, is_for_access, is_for_value, is_for_clearing, of_width, ask_reach, ask_read, ask_write, ask_get, ask_put, ask_clear, ask_copy, ask_forget}
use Rattle.cloak_model.specs.Asking.{Told}
use Rattle.cloak_model.specs.Calls as calls
use Rattle.cloak_model.specs.Calls.{Copy}
use Rattle.cloak_model.specs.Contexts.{Context, context_at, is_reserved, word_of_page, end_at}
use Rattle.cloak_model.specs.DomainState.{Control, Domain}
use Rattle.cloak_model.specs.DomainStep as step
use Rattle.cloak_model.specs.DomainStep.{DomainStepped, domain_script, domain_step}
use Rattle.cloak_model.specs.Effect.{effect}
use Rattle.cloak_model.specs.Fork as forks
use Rattle.cloak_model.specs.Fork.{Fork, End}
use Rattle.cloak_model.specs.Hypercalls as calling
use Rattle.cloak_model.specs.Hypercalls.{Stepped, Hypercall}
use Rattle.cloak_model.specs.InsideStep as inside
use Rattle.cloak_model.specs.InsideStep.{AfterInstruction}
use Rattle.cloak_model.specs.Resources.{Resources, page_at}
use Rattle.cloak_model.specs.Script as script
use Rattle.cloak_model.specs.Script.{Question, Reach, Get, Put, Clear, Change, Write, Forget, Script, Gives, Asks, Reads, Changes, asked, played, ◌>>=◌}
use Rattle.cloak_model.specs.World.{World, Alone, Handed}
use Rattle.cloak_base.proofs.Choices.{either}

-- Since a step began over pages and answers, its pages have not changed, and at most k answers were taken.
record Kept (k : ℕ) (h now : Handed) : Type 0 where
  fit : now.unfit ≡ false
  plain : now.plain ≡ h.plain
  used : length h.answers ≤ length now.answers + k

-- A question found no answer of its kind: the pages have not changed, and if none is left, fewer than two were
-- handed in.
pub record Lacks (h now : Handed) : Type 0 where
  pub unfit : now.unfit ≡ true
  pub plain : now.plain ≡ h.plain
  pub few : now.answers ≡ [] → length h.answers < 2

-- Either each question found its answer, or one did not, and then Stops is true of the result.
abbrev pub Outcome : {A : Type 0} → Handed → (Handed → Type 0) → (A → Type 0) → A → World → Type 0
Outcome h Good Stops a (Alone now) = Good now ⊎ (Lacks h now × Stops a)
Outcome h Good Stops a _ = ⊥

-- Questions.

abbrev Answered : ℕ → Handed → Answer → World → Type 0
Answered k h a w = Outcome h (Kept k h) (λ (x : Answer). x ≡ told.Stopped) a w

abbrev IsAnswered : ℕ → Handed → Told Answer → Type 0
IsAnswered k h t = Answered k h t.answer t.world

asked_fit : (h now : Handed) (k : ℕ) (b : Bool) (a : Answer) (rest : List Answer) → now.answers ≡ a ∷ rest →
    Kept k h now →
    IsAnswered (k + 1) h (cond b (record { answer = a; world = Alone (record now { answers = rest }) }) (unfit now))
asked_fit h now k true a rest is kept = inl (record {
  fit = kept.fit;
  plain = kept.plain;
  used = (let u = kept.used in let e = ap length is in omega (arith, u, e));
})
asked_fit h now k false a rest is kept = inr (record { unfit = refl; plain = kept.plain; few = λ none. cc }, refl)

asked_next : (h now : Handed) (k : ℕ) (is_fit : Answer → Bool) (rest : List Answer) → k ≤ 1 → now.answers ≡ rest →
    Kept k h now → IsAnswered (k + 1) h (next_answer is_fit rest now)
unfolding next_answer
asked_next h now k is_fit [] low is kept =
    inr (
      record {
        unfit = refl;
        plain = kept.plain;
        few = λ none. (let u = kept.used in let e = ap length none in omega (arith, u, e));
      },
      refl,
    )
asked_next h now k is_fit (a ∷ rest) low is kept = asked_fit h now k (is_fit a) a rest is kept

cut : (h : Handed) (k width : ℕ) (a : Answer) (w : World) → Answered k h a w → Answered k h (of_width width a) w
cut h k width a (Alone now) (inl good) = inl good
cut h k width a (Alone now) (inr lacks) = inr (lacks.0, ap (λ (x : Answer). of_width width x) lacks.1)
cut h k width a _ o = absurd o

asked_one : (h now : Handed) (k : ℕ) (question : Question) → k ≤ 1 → Kept k h now →
    IsAnswered (k + 1) h (asked question (Alone now))
unfolding ask_reach ask_get ask_put ask_clear
asked_one h now k (Reach q va kind) low kept = asked_next h now k is_for_access now.answers low refl kept
asked_one h now k (Get va width) low kept =
    cut h (k + 1) width _ _ (asked_next h now k is_for_value now.answers low refl kept)
asked_one h now k (Put va width value) low kept = asked_next h now k is_for_access now.answers low refl kept
asked_one h now k (Clear domain marked) low kept = asked_next h now k is_for_clearing now.answers low refl kept

-- Scripts that ask few questions.

-- the script is at an end that is so
abbrev IsEnd : {A : Type 0} → (A → Type 0) → Script A → Type 0
IsEnd P (Gives a) = P a
IsEnd P _ = ⊥

-- A script asks at most k questions, and none after a change. One that is answered with Stopped is the last, and the
-- end then is P. Each end, and how many questions are still free there, is E.
abbrev Within : {A : Type 0} → (A → ℕ → Type 0) → (A → Type 0) → Script A → ℕ → Type 0
Within E P (Gives a) k = E a k
Within E P (Asks question more) zero = ⊥
Within E P (Asks question more) (suc k) = ((a : Answer) → Within E P (more a) k) × IsEnd P (more told.Stopped)
Within E P (Reads q at width more) k = (value : ℕ) → Within E P (more value) k
Within E P (Changes it more) k = Within E P more 0

-- an end of which nothing is said
abbrev Any : {A : Type 0} → A → ℕ → Type 0
Any a k = Unit {0}

end_then : {A B : Type 0} (P : A → Type 0) (Q : B → Type 0) (s : Script A) (next : A → Script B) → IsEnd P s →
    ((a : A) → P a → IsEnd Q (next a)) → IsEnd Q (s >>= next)
end_then P Q (Gives a) next is stops = stops a is
end_then P Q _ next is stops = absurd is

within_then : {A B : Type 0} (E : A → ℕ → Type 0) (F : B → ℕ → Type 0) (P : A → Type 0) (Q : B → Type 0)
    (s : Script A) (next : A → Script B) (k : ℕ) → Within E P s k →
    ((a : A) (j : ℕ) → E a j → Within F Q (next a) j) → ((a : A) → P a → IsEnd Q (next a)) →
    Within F Q (s >>= next) k
within_then E F P Q (Gives a) next k is second stops = second a k is
within_then E F P Q (Asks question more) next zero is second stops = absurd is
within_then E F P Q (Asks question more) next (suc k) is second stops = (
  (λ a. within_then E F P Q (more a) next k (is.0 a) second stops),
  end_then P Q (more told.Stopped) next is.1 stops,
)
within_then E F P Q (Reads q at width more) next k is second stops =
    λ value. within_then E F P Q (more value) next k (is value) second stops
within_then E F P Q (Changes it more) next k is second stops = within_then E F P Q more next 0 is second stops

-- what a script ends with is made into an end of the whole
within_told : {A B : Type 0} (P : A → Type 0) (Q : B → Type 0) (s : Script A) (made : A → B) (k : ℕ) →
    Within Any P s k → ((a : A) → P a → Q (made a)) → Within Any Q (s >>= (λ a. Gives (made a))) k
within_told P Q s made k is stops = within_then Any Any P Q s (λ a. Gives (made a)) k is (λ a j any. tt) stops

-- What such a script makes of pages and answers.

abbrev IsFit : Handed → Type 0
IsFit now = now.unfit ≡ false

abbrev Goes : {A : Type 0} → Handed → (A → Type 0) → Told A → Type 0
Goes h P t = Outcome h IsFit P t.answer t.world

-- without questions
played_fit : {A : Type 0} (E : A → ℕ → Type 0) (P : A → Type 0) (s : Script A) (h now : Handed) → Within E P s 0 →
    now.unfit ≡ false → Goes h P (played s (Alone now))
unfolding ask_read ask_write ask_copy ask_forget
played_fit E P (Gives a) h now is fit = inl fit
played_fit E P (Asks question more) h now is fit = absurd is
played_fit E P (Reads q at width more) h now is fit = played_fit E P (more _) h now (is _) fit
played_fit E P (Changes (Write q at width value) more) h now is fit = played_fit E P more h _ is fit
played_fit E P (Changes (script.Copy domain from to) more) h now is fit = played_fit E P more h _ is fit
played_fit E P (Changes (Forget domain resource) more) h now is fit = played_fit E P more h _ is fit

-- at an end
stopped_here : {A : Type 0} (P : A → Type 0) (h now : Handed) (s : Script A) → Lacks h now → IsEnd P s →
    Goes h P (played s (Alone now))
stopped_here P h now (Gives a) lacks is = inr (lacks, is)
stopped_here P h now _ lacks is = absurd is

-- after a question
goes_on : {A : Type 0} (P : A → Type 0) (h : Handed) (k : ℕ) (more : Answer → Script A) (a : Answer) (w : World) →
    Answered k h a w → ((now : Handed) → Kept k h now → Goes h P (played (more a) (Alone now))) →
    IsEnd P (more told.Stopped) → Goes h P (played (more a) w)
goes_on P h k more a (Alone now) (inl kept) goes stops = goes now kept
goes_on P h k more a (Alone now) (inr lacks) goes stops =
    subst (λ (x : Answer). Goes h P (played (more x) (Alone now))) (sym lacks.1)
    (stopped_here P h now (more told.Stopped) lacks.0 stops)
goes_on P h k more a _ o goes stops = absurd o

played_within : {A : Type 0} (E : A → ℕ → Type 0) (P : A → Type 0) (s : Script A) (k j : ℕ) (h now : Handed) →
    Within E P s k → j + k ≤ 2 → Kept j h now → Goes h P (played s (Alone now))
unfolding ask_read
played_within E P (Gives a) k j h now is low kept = inl kept.fit
played_within E P (Asks question more) zero j h now is low kept = absurd is
played_within E P (Asks question more) (suc k) j h now is low kept =
    let t = asked question (Alone now) in
    goes_on P h (j + 1) more t.answer t.world (asked_one h now j question (omega (arith, low)) kept)
    (λ after taken. played_within E P (more t.answer) k (j + 1) h after (is.0 t.answer) (omega (arith, low)) taken)
    is.1
played_within E P (Reads q at width more) k j h now is low kept =
    played_within E P (more _) k j h now (is _) low kept
played_within E P (Changes it more) k j h now is low kept = played_fit E P (Changes it more) h now is kept.fit

-- An instruction.

-- how it may end: at an ecall it wrote nothing, and one more question is free
abbrev Ends : Ran → Option PageWord → ℕ → Type 0
Ends ran.Ecall None (suc k) = Unit {0}
Ends ran.Ecall None zero = ⊥
Ends ran.Ecall (Some word) k = ⊥
Ends _ wrote k = Unit {0}

-- how it ends once it stopped
abbrev Stops : Ran → Option PageWord → Type 0
Stops ran.Stopped None = Unit {0}
Stops ran.Stopped (Some word) = ⊥
Stops _ wrote = ⊥

abbrev Instructs : Script AfterInstruction → ℕ → Type 0
Instructs s k = Within (λ made j. Ends made.ending made.wrote j) (λ made. Stops made.ending made.wrote) s k

reached_asks : (c : Context) (va k : ℕ) (next : Script AfterInstruction) → Instructs next k → (a : Answer) →
    Instructs (inside.if_reached c va a next) k
reached_asks c va k next is told.Ok = is
reached_asks c va k next is _ = tt

got_asks : (c : Context) (va k : ℕ) (next : ℕ → Script AfterInstruction) → ((value : ℕ) → Instructs (next value) k) →
    (a : Answer) → Instructs (inside.if_got c va a next) k
got_asks c va k next is (told.Word value) = is value
got_asks c va k next is _ = tt

load_asks : (c : Context) (rd va width : ℕ) (signed : Bool) (place : Option PageId) →
    Instructs (inside.load_inside c rd va width signed place) 1
unfolding inside.load_inside
load_asks c rd va width signed (Some q) = (reached_asks c va 0 _ (λ value. tt), tt)
load_asks c rd va width signed None = (got_asks c va 0 _ (λ value. tt), tt)

store_asks : (c : Context) (va width value : ℕ) (place : Option PageId) →
    Instructs (inside.store_inside c va width value place) 1
unfolding inside.store_inside
store_asks c va width value (Some q) = (reached_asks c va 0 _ tt, tt)
store_asks c va width value None = (reached_asks c va 0 _ tt, tt)

granted_asks : (c : Context) (rd : ℕ) (op : AtomicOp) (q : PageId) (va operand : ℕ) →
    Instructs (inside.atomic_granted c rd op q va operand) 0
unfolding inside.atomic_granted
granted_asks c rd Lr q va operand = λ old. tt
granted_asks c rd Sc q va operand =
    either (λ s. Instructs s 0) (is_reserved (word_of_page q va) c.mark) _ _ tt tt
granted_asks c rd op q va operand = λ old. tt

placed_asks : (c : Context) (rd : ℕ) (op : AtomicOp) (va operand : ℕ) (place : Option PageId) →
    Instructs (inside.atomic_placed c rd op va operand place) 1
unfolding inside.atomic_placed
placed_asks c rd op va operand None = tt
placed_asks c rd op va operand (Some q) = (reached_asks c va 0 _ (granted_asks c rd op q va operand), tt)

system_asks : (c : Context) (i : Instr) → Instructs (inside.system_inside c i) 1
unfolding inside.system_inside
system_asks c Ecall = tt
system_asks c Ebreak = tt
system_asks c _ = tt

module _ (domain : ℕ) (r : Resources) (c : Context) where
  atomic_asks : (o : Option Atomic) → Instructs (inside.atomic_inside domain r c o) 1
  unfolding inside.atomic_inside
  atomic_asks None = tt
  atomic_asks (Some a) =
      let va = register c.regs a.rs1 in
      either (λ s. Instructs s 1) (va % 4 == 0) _ _
      (placed_asks c a.rd a.op va (register c.regs a.rs2) (page_at domain r c.space va)) tt

  done_asks : (i : Instr) (e : Effect) → Instructs (inside.done_inside domain r c i e) 1
  unfolding inside.done_inside
  done_asks i (does.Load rd va width signed) = load_asks c rd va width signed (page_at domain r c.space va)
  done_asks i (does.Store va width value) = store_asks c va width value (page_at domain r c.space va)
  done_asks i does.System = system_asks c i
  done_asks i _ = tt

  decoded_asks : (word : ℕ) (i : Option Instr) → Instructs (inside.decoded_inside domain r c word i) 1
  unfolding inside.decoded_inside
  decoded_asks word None = atomic_asks (atomic_instruction word)
  decoded_asks word (Some i) = done_asks i (effect i c.regs c.pc)

  fetch_asks : (place : Option PageId) → Instructs (inside.fetch domain r c place) 2
  unfolding inside.fetch
  fetch_asks None = tt
  fetch_asks (Some q) = (reached_asks c c.pc 1 _ (λ word. decoded_asks word (instruction word)), tt)

  instruction_asks : Instructs (inside.instruction_inside domain r c) 2
  unfolding inside.instruction_inside
  instruction_asks = fetch_asks (page_at domain r c.space c.pc)

-- A byte of a copy.

abbrev CopyStops : Copy → Type 0
CopyStops copy = (copy.ending ≡ copied.Stopped) × (copy.wrote ≡ None)

abbrev Copies : Script Copy → ℕ → Type 0
Copies s k = Within Any CopyStops s k

byte_reached : (c : Context) (va k : ℕ) (next : Script Copy) → Copies next k → (a : Answer) →
    Copies (calls.if_reached c va a next) k
byte_reached c va k next is told.Ok = is
byte_reached c va k next is _ = tt

byte_got : (c : Context) (va k : ℕ) (next : ℕ → Script Copy) → ((byte : ℕ) → Copies (next byte) k) → (a : Answer) →
    Copies (calls.if_got c va a next) k
byte_got c va k next is (told.Word byte) = is byte
byte_got c va k next is _ = tt

apart_asks : (c : Context) (place : Option PageId) (cloaked : Bool) (next : PageId → Script Copy) →
    ((q : PageId) → Copies (next q) 2) → Copies (calls.if_apart c place cloaked next) 2
apart_asks c (Some q) false next is = is q
apart_asks c _ _ next is = tt

module _ (domain : ℕ) (r : Resources) (c : Context) where
  copy_in_asks : (done : ℕ) → Copies (calls.copy_in_step domain r c done) 2
  unfolding calls.copy_in_step
  copy_in_asks done =
      let from : ℕ = calls.byte_address (calls.buffer c) done in
      let to : ℕ = calls.byte_address (calls.area c) done in
      either (λ s. Copies s 2) (nat_le (calls.call_length c) done) _ _ tt
      (apart_asks c (page_at domain r c.space from) (calls.is_cloaked r c to) _
      (λ q. (byte_reached c from 1 _ (λ byte. (byte_reached c to 0 _ tt, (refl, refl))), (refl, refl))))

  copy_out_asks : (done total : ℕ) → Copies (calls.copy_out_step domain r c done total) 2
  unfolding calls.copy_out_step
  copy_out_asks done total =
      let from : ℕ = calls.byte_address (calls.area c) done in
      let to : ℕ = calls.byte_address (calls.buffer c) done in
      either (λ s. Copies s 2) (nat_le total done) _ _ tt
      (apart_asks c (page_at domain r c.space to) (calls.is_cloaked r c from) _
      (λ q. (byte_got c from 1 _ (λ byte. (byte_reached c to 0 _ tt, (refl, refl))), (refl, refl))))

-- Forks and ends.

cleared_asks : {A : Type 0} (P : A → Type 0) (k : ℕ) (stopped : A) (next : Script A) → Within Any P next k →
    (a : Answer) → Within Any P (forks.if_cleared a stopped next) k
cleared_asks P k stopped next is told.Ok = is
cleared_asks P k stopped next is _ = tt

copies_ask : {A : Type 0} (P : A → Type 0) (domain : ℕ) (list : List (ℕ × ℕ)) (a : A) (k : ℕ) →
    Within Any P (forks.copy_each domain list >>= (λ done. Gives a)) k
unfolding forks.copy_each
copies_ask P domain [] a k = tt
copies_ask P domain (copy ∷ rest) a k = copies_ask P domain rest a 0

forgets_ask : {A : Type 0} (P : A → Type 0) (domain : ℕ) (list : List ℕ) (a : A) (k : ℕ) →
    Within Any P (forks.forget_each domain list >>= (λ done. Gives a)) k
unfolding forks.forget_each
forgets_ask P domain [] a k = tt
forgets_ask P domain (n ∷ rest) a k = forgets_ask P domain rest a 0

abbrev ForkStops : Fork → Type 0
ForkStops made = made.answer ≡ forked.Stopped

full_asks : (fits : Result (Unit {0}) MapFault) (unchanged : forks.Spaces) (next : Script Fork) (k : ℕ) →
    Within Any ForkStops next k → Within Any ForkStops (forks.or_full fits unchanged next) k
full_asks (Err fault) unchanged next k is = tt
full_asks (Ok fits) unchanged next k is = is

fork_asks : (domain : ℕ) (c : Context) (r : Resources) (contexts : List (Option Context)) (k : ℕ) →
    Within Any ForkStops (forks.fork domain c r contexts) (suc k)
unfolding forks.fork
fork_asks domain c r contexts k =
    full_asks (forks.fork_fits c.space r contexts) _ _ (suc k)
    (cleared_asks ForkStops k _ _ (copies_ask ForkStops domain (forks.copies c.space r) _ k), refl)

abbrev EndStops : End → Type 0
EndStops made = made.ending ≡ ends.Stopped

end_asks : (domain slot space : ℕ) (r : Resources) (contexts : List (Option Context)) (k : ℕ) →
    Within Any EndStops (forks.end_context domain slot space r contexts) (suc k)
unfolding forks.end_context
end_asks domain slot space r contexts k =
    either (λ s. Within Any EndStops s (suc k)) (list_any (forks.is_of_space space) (end_at slot contexts)) _ _ tt
    (cleared_asks EndStops k _ _ (forgets_ask EndStops domain (forks.private_numbers space r) _ k), refl)

-- Hypercalls, and the whole step.

abbrev Calls : Control → Script Stepped → ℕ → Type 0
Calls d s k = Within Any (λ made. made ≡ calling.stopped d) s k

hypercall_asks : (call : Hypercall) (slot : ℕ) (c : Context) (d : Control) (k : ℕ) →
    Calls d (calling.hypercall call slot c d) (suc k)
unfolding calling.hypercall calling.fork_call calling.fork_told calling.exit_call calling.end_told
hypercall_asks calling.ForkSpace slot c d k =
    within_told ForkStops _ (forks.fork d.number c d.resources d.contexts) _ (suc k)
    (fork_asks d.number c d.resources d.contexts k)
    (λ made stop. ap (λ (x : Forked). calling.fork_told slot c d x (calling.with_spaces made.spaces d)) stop)
hypercall_asks calling.Exit slot c d k =
    within_told EndStops _ (forks.end_context d.number slot c.space d.resources d.contexts) _ (suc k)
    (end_asks d.number slot c.space d.resources d.contexts k)
    (λ made stop. ap (λ (x : Ended). calling.end_told slot c d x (calling.with_spaces made.spaces d)) stop)
hypercall_asks _ slot c d k = tt

abbrev StepStops : Domain → DomainStepped → Type 0
StepStops d made = made.domain ≡ d

abbrev AsksFew : Domain → Script DomainStepped → ℕ → Type 0
AsksFew d s k = Within Any (StepStops d) s k

-- an ending, and then a write that came before it
abbrev then_written : ℕ → Domain → Context → Ran → Option PageWord → Script DomainStepped
then_written slot d c e wrote = step.instruction_ended slot d c e >>= (λ s. Gives (step.after_write wrote s))

call_asks : (slot : ℕ) (d : Domain) (c : Context) (k : ℕ) →
    AsksFew d (step.instruction_ended slot d c ran.Ecall) (suc k)
unfolding step.instruction_ended
call_asks slot d c k =
    within_told _ (StepStops d) (calling.hypercall (calling.hypercall_of c) slot c d.control) (step.within d) (suc k)
    (hypercall_asks (calling.hypercall_of c) slot c d.control k)
    (λ made stop. ap (λ (x : Stepped). (step.within d x).domain) stop)

ended_asks : (slot : ℕ) (d : Domain) (c : Context) (e : Ran) (wrote : Option PageWord) (k : ℕ) → Ends e wrote k →
    AsksFew d (then_written slot d c e wrote) k
unfolding step.instruction_ended
ended_asks slot d c ran.Ecall None (suc k) is =
    within_told (StepStops d) (StepStops d) (step.instruction_ended slot d c ran.Ecall) (step.after_write None) (suc k)
    (call_asks slot d c k) (λ made stop. stop)
ended_asks slot d c ran.Ecall None zero is = absurd is
ended_asks slot d c ran.Ecall (Some word) k is = absurd is
ended_asks slot d c _ wrote k is = tt

ended_stopped : (slot : ℕ) (d : Domain) (c : Context) (e : Ran) (wrote : Option PageWord) → Stops e wrote →
    IsEnd (StepStops d) (then_written slot d c e wrote)
unfolding step.instruction_ended
ended_stopped slot d c ran.Stopped None is = refl
ended_stopped slot d c ran.Stopped (Some word) is = absurd is
ended_stopped slot d c _ wrote is = absurd is

copy_stopped : (slot : ℕ) (d : Domain) (c : Context) (e : Copied) → e ≡ copied.Stopped →
    (step.copy_ended slot d c e).domain ≡ d
unfolding step.copy_ended
copy_stopped slot d c e stop = ap (λ (x : Copied). (step.copy_ended slot d c x).domain) stop

phase_asks : (phase : Phase) (slot : ℕ) (c : Context) (d : Domain) → AsksFew d (step.phase_step phase slot c d) 2
unfolding step.phase_step
phase_asks Plain slot c d =
    within_then _ Any _ (StepStops d) (inside.instruction_inside d.control.number d.control.resources c) _ 2
    (instruction_asks d.control.number d.control.resources c)
    (λ made j is. ended_asks slot d made.context made.ending made.wrote j is)
    (λ made stop. ended_stopped slot d made.context made.ending made.wrote stop)
phase_asks (CopyIn done) slot c d =
    within_told CopyStops (StepStops d) (calls.copy_in_step d.control.number d.control.resources c done) _ 2
    (copy_in_asks d.control.number d.control.resources c done)
    (λ copy stop. copy_stopped slot d copy.context copy.ending stop.0)
phase_asks Waiting slot c d = tt
phase_asks (CopyOut done total) slot c d =
    within_told CopyStops (StepStops d) (calls.copy_out_step d.control.number d.control.resources c done total) _ 2
    (copy_out_asks d.control.number d.control.resources c done total)
    (λ copy stop. let ended = step.copy_ended slot d copy.context copy.ending in
    ap (λ (x : Option PageWord). (step.after_write x ended).domain) stop.1
    ∙ copy_stopped slot d copy.context copy.ending stop.0)

step_if_asks : (o : Option Context) (slot : ℕ) (d : Domain) → AsksFew d (step.step_if o slot d) 2
unfolding step.step_if
step_if_asks None slot d = tt
step_if_asks (Some c) slot d = phase_asks c.phase slot c d

-- each question found its answer, or one did not and the program is as it was
abbrev pub Steps : Handed → Domain → Told DomainStepped → Type 0
Steps h d t = Outcome h IsFit (StepStops d) t.answer t.world

-- a step over pages and answers that no question has met yet
pub asks_step : (h : Handed) (slot : ℕ) (d : Domain) → h.unfit ≡ false → Steps h d (domain_step slot d (Alone h))
unfolding domain_step domain_script
asks_step h slot d fit =
    let o = context_at d.control.contexts slot in
    played_within Any (StepStops d) (step.step_if o slot d) 2 0 h h (step_if_asks o slot d) (omega arith)
    (record { fit = fit; plain = refl; used = omega arith })
