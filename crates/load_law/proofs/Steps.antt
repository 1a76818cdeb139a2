-- A step of a context that is to make a load, from the fetch of its instruction, or the byte of its call, to its end.
use Rattle.std.proofs.Common.{◌≡◌, ◌∙◌, ◌⊎◌, ℕ, ◌%◌, Bool, true, false, cond, List, [], ◌∷◌, ◌++◌, Option, Some, None, refl, sym, ap, subst, inl, inr}
use Rattle.std.specs.Prelude.{◌==◌, nat_le}
use Rattle.std.proofs.lemmas.Bool.{false≢true}
use Rattle.cloak_base.specs.Registers.{register}
use Rattle.cloak_base.specs.declared.names.Kind.{Kind}
use Rattle.cloak_base.specs.declared.names.Kind.TheVariants.{Fetch, Load, Store}
use Rattle.cloak_base.specs.declared.names.PageId.{PageId}
use Rattle.rv_isa.specs.Table.{instruction}
use Rattle.rv_isa.specs.declared.instr.Instr.{Instr}
use Rattle.rv_atomic.specs.Table.{atomic_instruction}
use Rattle.rv_atomic.specs.declared.atomic.Atomic.{Atomic}
use Rattle.rv_atomic.specs.declared.atomic.AtomicOp.{AtomicOp}
use Rattle.rv_atomic.specs.declared.atomic.AtomicOp.TheVariants.{Lr, Sc}
use Rattle.cloak_model.specs.declared.answer.Answer.{Answer}
use Rattle.cloak_model.specs.declared.answer.Answer.TheVariants as told
use Rattle.cloak_model.specs.declared.context.Phase.{Phase}
use Rattle.cloak_model.specs.declared.context.Phase.TheVariants.{Plain, CopyIn, Waiting, CopyOut}
use Rattle.cloak_model.specs.declared.context.Why.TheVariants.{Trap}
use Rattle.cloak_model.specs.declared.inside.Went.TheVariants as went
use Rattle.cloak_model.specs.Items.{Item}
use Rattle.cloak_model.specs.Items as item
use Rattle.cloak_model.specs.declared.outcome.Effect.{Effect}
use Rattle.cloak_model.specs.declared.outcome.Effect.TheVariants as does
use Rattle.cloak_model.specs.Asking.{Told, Asking, answered, then_ask}
use Rattle.cloak_model.specs.AskPages.{answer_item, ask_read, ask_write}
use Rattle.cloak_model.specs.Calls as calls
use Rattle.cloak_model.specs.Calls.{Copy, buffer, area, call_length, byte_address, is_cloaked, copy_in_step}
use Rattle.cloak_model.proofs.CallParts.{in_placed, in_step}
use Rattle.cloak_model.specs.Contexts.{Context, context_at, with_context, suspended}
use Rattle.cloak_model.specs.DomainState.{Control, Domain}
use Rattle.cloak_model.specs.DomainStep.{domain_script, DomainStepped, instruction_ended, copy_ended, after_write, phase_step, step_if, domain_step}
use Rattle.cloak_model.specs.Effect.{effect}
use Rattle.cloak_model.specs.Halves.{inward_half}
use Rattle.cloak_model.specs.Hypercalls.{shown_of}
use Rattle.cloak_model.specs.InsideStep.{AfterInstruction, if_reached, load_inside, atomic_granted, atomic_placed, traps, atomic_inside, done_inside, decoded_inside, fetch, instruction_inside}
use Rattle.cloak_model.specs.KernelStep.{atomic_kind, misaligned}
use Rattle.cloak_model.specs.Memory.{value_in}
use Rattle.cloak_model.specs.Resources.{page_at}
use Rattle.cloak_model.specs.World.{World, Flat, Cloaked, Alone, items_of, plain_of, with_plain}
use Rattle.cloak_model.specs.Script as scripts
use Rattle.cloak_model.specs.Script.{Reach, Put, Script, asked, played}
use Rattle.cloak_model.proofs.Playing.{by_plain, by_copy_in}
use Rattle.script_fold.proofs.InstructionScripts.{IsOwnPage, own_page}
use Rattle.latest_store.specs.Moves.{Move, latest_value}
use Rattle.latest_store.specs.Deeds.{page_for}
use Rattle.latest_store.proofs.Heard.{Heard, heard_asked, with_plain_rewrites}
use Rattle.latest_store.proofs.Moved.{Agrees}
use Rattle.latest_store.proofs.Values.{read_value}
use Rattle.load_law.specs.Due.{Question, DueLoad, instruction_load, atomic_load, effect_due, atomic_due, word_due, fetched_due, byte_load, copy_due, load_due}
use Rattle.load_law.specs.Outcomes.{Asks, First, Second, IsFaultOf}
use Rattle.load_law.proofs.Questions.{IsFine, IsRefused, IsMissing, Says, reach_says, put_says}

-- How the step of a domain ends that is to make a load, with these answers.
pub data Goes (slot : ℕ) (d : Domain) (c : Context) (due : DueLoad) (answers : List Item) (x : DomainStepped)
    (w : World) : Type 0 where
  GoesOn : answers ≡ item.Ok d.control.number ∷ item.Ok d.control.number ∷ [] → x.went ≡ went.Stay → IsFine w →
      Goes slot d c due answers x w
  Leaves : (earlier : List Item) (q : Question) → Asks d.control.number due earlier q → (cause : ℕ) →
      IsFaultOf q.kind cause → answers ≡ earlier ++ item.Absent d.control.number cause ∷ [] →
      x.went ≡ shown_of d.control slot c (Trap cause q.address) →
      x.domain.control.contexts ≡ with_context slot (suspended c) d.control.contexts → IsFine w →
      Goes slot d c due answers x w
  Refused : (earlier : List Item) (q : Question) → Asks d.control.number due earlier q →
      answers ≡ earlier ++ item.Stopped d.control.number ∷ [] → x.went ≡ went.Stopped →
      IsOwnPage d.control.number q.page → IsRefused q.page w → Goes slot d c due answers x w
  Misses : (earlier : List Item) (q : Question) → Asks d.control.number due earlier q →
      answers ≡ earlier ++ item.Stopped d.control.number ∷ [] → x.went ≡ went.Stopped →
      x.domain.control.contexts ≡ d.control.contexts → IsMissing w →
      Goes slot d c due answers x w

pub record StepGoes (slot : ℕ) (d : Domain) (c : Context) (due : DueLoad) (t : Told DomainStepped) : Type 0 where
  pub answers : List Item
  pub told : inward_half d.control.number (items_of t.world) ≡ answers
  pub goes : Goes slot d c due answers t.answer t.world

-- A question was not granted.

faulted : (slot : ℕ) (d : Domain) (plain : PageId → List ℕ) (c : Context) (due : DueLoad) (earlier : List Item)
    (q : Question) (cause : ℕ) (x : DomainStepped) (w : World) → Asks d.control.number due earlier q →
    IsFaultOf q.kind cause × IsFine w → x.went ≡ shown_of d.control slot c (Trap cause q.address) →
    x.domain.control.contexts ≡ with_context slot (suspended c) d.control.contexts →
    Heard d.control.number plain (earlier ++ item.Absent d.control.number cause ∷ []) w →
    StepGoes slot d c due (record { answer = x; world = w })
faulted slot d plain c due earlier q cause x w asks says left same heard = record {
  answers = earlier ++ item.Absent d.control.number cause ∷ [];
  told = heard.told;
  goes = Leaves earlier q asks cause says.0 refl left same says.1;
}

halted : (slot : ℕ) (d : Domain) (plain : PageId → List ℕ) (c : Context) (due : DueLoad) (earlier : List Item)
    (q : Question) (x : DomainStepped) (w : World) → Asks d.control.number due earlier q →
    IsOwnPage d.control.number q.page → IsRefused q.page w ⊎ IsMissing w → x.went ≡ went.Stopped →
    x.domain.control.contexts ≡ d.control.contexts →
    Heard d.control.number plain (earlier ++ item.Stopped d.control.number ∷ []) w →
    StepGoes slot d c due (record { answer = x; world = w })
halted slot d plain c due earlier q x w asks own (inl refused) stops same heard = record {
  answers = earlier ++ item.Stopped d.control.number ∷ [];
  told = heard.told;
  goes = Refused earlier q asks refl stops own refused;
}
halted slot d plain c due earlier q x w asks own (inr missing) stops same heard = record {
  answers = earlier ++ item.Stopped d.control.number ∷ [];
  told = heard.told;
  goes = Misses earlier q asks refl stops same missing;
}

completed : (slot : ℕ) (d : Domain) (plain : PageId → List ℕ) (c : Context) (due : DueLoad) (x : DomainStepped)
    (w : World) → x.went ≡ went.Stay → IsFine w →
    Heard d.control.number plain (item.Ok d.control.number ∷ item.Ok d.control.number ∷ []) w →
    StepGoes slot d c due (record { answer = x; world = w })
completed slot d plain c due x w stays fine heard = record {
  answers = item.Ok d.control.number ∷ item.Ok d.control.number ∷ [];
  told = heard.told;
  goes = GoesOn refl stays fine;
}

-- an instruction of page p asks so for its load
abbrev pub load_by : Context → PageId → Kind → PageId → ℕ → ℕ → DueLoad
load_by c p kind q va width = record {
  page = q;
  address = va;
  width = width;
  first = record { kind = Fetch; address = c.pc; page = Some p };
  second = record { kind = kind; address = va; page = Some q };
}

-- the fetch of an instruction in page p
abbrev fetch_of : Context → PageId → Question
fetch_of c p = record { kind = Fetch; address = c.pc; page = Some p }

-- The first question of an instruction is for itself.

load_first : (c : Context) (p : PageId) (kind : Kind) (va width : ℕ) (place : Option PageId) (due : DueLoad) →
    instruction_load c p kind va width place ≡ Some due → fetch_of c p ≡ due.first
load_first c p kind va width None due is = absurd cc
load_first c p kind va width (Some q) due is =
    let same : load_by c p kind q va width ≡ due = cc in ap (λ (x : DueLoad). x.first) same

atomic_first : (c : Context) (p : PageId) (op : AtomicOp) (va : ℕ) (place : Option PageId) (due : DueLoad) →
    atomic_load c p op va place ≡ Some due → fetch_of c p ≡ due.first
atomic_first c p Sc va place due is = absurd cc
atomic_first c p op va place due is = load_first c p (atomic_kind op) va 4 place due is

aligned_first : (aligned : Bool) (c : Context) (p : PageId) (op : AtomicOp) (va : ℕ) (place : Option PageId)
    (due : DueLoad) → cond aligned (atomic_load c p op va place) None ≡ Some due → fetch_of c p ≡ due.first
aligned_first true c p op va place due is = atomic_first c p op va place due is
aligned_first false c p op va place due is = absurd cc

effect_first : (d : Control) (c : Context) (p : PageId) (e : Effect) (due : DueLoad) →
    effect_due d c p e ≡ Some due → fetch_of c p ≡ due.first
unfolding effect_due
effect_first d c p (does.Load rd va width signed) due is = load_first c p Load va width (page_for d c va) due is
effect_first d c p _ due is = absurd cc

operation_first : (d : Control) (c : Context) (p : PageId) (o : Option Atomic) (due : DueLoad) →
    atomic_due d c p o ≡ Some due → fetch_of c p ≡ due.first
unfolding atomic_due
operation_first d c p None due is = absurd cc
operation_first d c p (Some a) due is =
    let va = register c.regs a.rs1 in aligned_first (va % 4 == 0) c p a.op va (page_for d c va) due is

word_first : (d : Control) (c : Context) (p : PageId) (word : ℕ) (i : Option Instr) (due : DueLoad) →
    word_due d c p word i ≡ Some due → fetch_of c p ≡ due.first
unfolding word_due
word_first d c p word None due is = operation_first d c p (atomic_instruction word) due is
word_first d c p word (Some i) due is = effect_first d c p (effect i c.regs c.pc) due is

nowhere : {P : Type 0} (c : Context) (p : PageId) (op : AtomicOp) (va : ℕ) (due : DueLoad) →
    atomic_load c p op va None ≡ Some due → P
nowhere c p Sc va due is = absurd cc
nowhere c p op va due is = absurd cc

atomic_second : (c : Context) (p : PageId) (op : AtomicOp) (va : ℕ) (q : PageId) (due : DueLoad) →
    atomic_load c p op va (Some q) ≡ Some due → load_by c p (atomic_kind op) q va 4 ≡ due
atomic_second c p Sc va q due is = absurd cc
atomic_second c p op va q due is = cc

fine_plain : (domain : ℕ) (plain : PageId → List ℕ) (w : World) → IsFine w → IsFine (with_plain domain plain w)
fine_plain domain plain (Flat seen) fine = fine
fine_plain domain plain (Cloaked c) fine = record {
  quiet = record { form = refl; left = fine.quiet.left; met = fine.quiet.met };
  drawn = fine.drawn;
}
fine_plain domain plain (Alone h) fine = absurd (false≢true fine.quiet.form)

module _ (slot : ℕ) (d : Domain) (plain : PageId → List ℕ) (c : Context) where
  -- how an instruction goes, its end, and then the end of reservations of the word that it wrote in
  abbrev DoesGo : DueLoad → Script AfterInstruction → World → Type 0
  DoesGo due s w =
      StepGoes slot d c due
      (then_ask (played s)
      (λ made. then_ask (played (instruction_ended slot d made.context made.ending))
      (λ stepped. answered (after_write made.wrote stepped))) w)

  abbrev Fetched : World → Type 0
  Fetched w = Heard d.control.number plain (item.Ok d.control.number ∷ []) w

  -- the rest is done if a question was granted
  reached_goes : (due : DueLoad) (earlier : List Item) (q : Question) (next : Script AfterInstruction) (a : Answer)
      (w : World) → Asks d.control.number due earlier q → IsOwnPage d.control.number q.page → Says q.page q.kind a w →
      Heard d.control.number plain (earlier ++ answer_item d.control.number a ∷ []) w →
      (IsFine w → Heard d.control.number plain (earlier ++ item.Ok d.control.number ∷ []) w → DoesGo due next w) →
      DoesGo due (if_reached c q.address a next) w
  unfolding instruction_ended
  reached_goes due earlier q next told.Ok w asks own says heard granted = granted says heard
  reached_goes due earlier q next (told.Absent cause) w asks own says heard granted =
      faulted slot d plain c due earlier q cause _ w asks says refl refl heard
  reached_goes due earlier q next (told.Word value) w asks own says heard granted = absurd says
  reached_goes due earlier q next told.Stopped w asks own says heard granted =
      halted slot d plain c due earlier q _ w asks own says refl refl heard

  -- the question of an instruction in page p for what it loads
  second_goes : (p q : PageId) (kind : Kind) (va width : ℕ) (next : Script AfterInstruction) (w : World) →
      q.domain ≡ d.control.number → IsFine w → Fetched w →
      ((v : World) → IsFine v →
      Heard d.control.number plain (item.Ok d.control.number ∷ item.Ok d.control.number ∷ []) v →
      DoesGo (load_by c p kind q va width) next v) →
      DoesGo (load_by c p kind q va width) (scripts.Asks (Reach q va kind) (λ a. if_reached c va a next)) w
  second_goes p q kind va width next w own fine heard granted =
      let due = load_by c p kind q va width in
      let t = asked (Reach q va kind) w in
      reached_goes due (item.Ok d.control.number ∷ []) due.second next t.answer t.world Second own
      (reach_says q va kind w fine.quiet)
      (heard_asked d.control.number plain (item.Ok d.control.number ∷ []) (Reach q va kind) w heard) (granted t.world)

  load_goes : (p : PageId) (rd va width : ℕ) (signed : Bool) (place : Option PageId) (due : DueLoad) (w : World) →
      IsOwnPage d.control.number place → instruction_load c p Load va width place ≡ Some due → IsFine w → Fetched w →
      DoesGo due (load_inside c rd va width signed place) w
  unfolding load_inside ask_read instruction_ended
  load_goes p rd va width signed None due w own is fine heard = absurd cc
  load_goes p rd va width signed (Some q) due w own is fine heard =
      let same : load_by c p Load q va width ≡ due = cc in
      subst (λ (x : DueLoad). DoesGo x (load_inside c rd va width signed (Some q)) w) same
      (second_goes p q Load va width _ w own fine heard
      (λ v fine' heard'. completed slot d plain c _ _ v refl fine' heard'))

  done_goes : (p : PageId) (i : Instr) (e : Effect) (due : DueLoad) (w : World) →
      effect_due d.control c p e ≡ Some due → IsFine w → Fetched w →
      DoesGo due (done_inside d.control.number d.control.resources c i e) w
  unfolding done_inside effect_due
  done_goes p i (does.Load rd va width signed) due w is fine heard =
      load_goes p rd va width signed (page_at d.control.number d.control.resources c.space va) due w
      (own_page d.control.number d.control.resources c.space va) is fine heard
  done_goes p i _ due w is fine heard = absurd cc

  -- Atomic instructions.

  granted_goes : (p : PageId) (rd : ℕ) (op : AtomicOp) (q : PageId) (va operand : ℕ) (due : DueLoad) (w : World) →
      atomic_load c p op va (Some q) ≡ Some due → IsFine w →
      Heard d.control.number plain (item.Ok d.control.number ∷ item.Ok d.control.number ∷ []) w →
      DoesGo due (atomic_granted c rd op q va operand) w
  unfolding atomic_granted ask_read ask_write instruction_ended
  granted_goes p rd Lr q va operand due w is fine heard = completed slot d plain c due _ w refl fine heard
  granted_goes p rd Sc q va operand due w is fine heard = absurd cc
  granted_goes p rd op q va operand due w is fine heard = record {
    answers = item.Ok d.control.number ∷ item.Ok d.control.number ∷ [];
    told = ap (inward_half d.control.number) (with_plain_rewrites q.domain _ w heard.form).items ∙ heard.told;
    goes = GoesOn refl refl (fine_plain q.domain _ w fine);
  }

  placed_goes : (p : PageId) (rd : ℕ) (op : AtomicOp) (va operand : ℕ) (place : Option PageId) (due : DueLoad)
      (w : World) → IsOwnPage d.control.number place → atomic_load c p op va place ≡ Some due → IsFine w →
      Fetched w → DoesGo due (atomic_placed c rd op va operand place) w
  unfolding atomic_placed
  placed_goes p rd op va operand None due w own is fine heard = nowhere c p op va due is
  placed_goes p rd op va operand (Some q) due w own is fine heard =
      let same = atomic_second c p op va q due is in
      subst (λ (x : DueLoad). DoesGo x (atomic_placed c rd op va operand (Some q)) w) same
      (second_goes p q (atomic_kind op) va 4 _ w own fine heard
      (λ v fine' heard'. granted_goes p rd op q va operand _ v (is ∙ ap (λ (x : DueLoad). Some x) (sym same)) fine'
      heard'))

  aligned_goes : (aligned : Bool) (p : PageId) (a : Atomic) (va : ℕ) (due : DueLoad) (w : World) →
      let place = page_at d.control.number d.control.resources c.space va in
      cond aligned (atomic_load c p a.op va place) None ≡ Some due → IsFine w → Fetched w →
      DoesGo due (cond aligned (atomic_placed c a.rd a.op va (register c.regs a.rs2) place)
      (traps c (misaligned a.op) va)) w
  aligned_goes true p a va due w is fine heard =
      placed_goes p a.rd a.op va (register c.regs a.rs2) (page_at d.control.number d.control.resources c.space va) due
      w (own_page d.control.number d.control.resources c.space va) is fine heard
  aligned_goes false p a va due w is fine heard = absurd cc

  atomic_goes : (p : PageId) (o : Option Atomic) (due : DueLoad) (w : World) →
      atomic_due d.control c p o ≡ Some due → IsFine w → Fetched w →
      DoesGo due (atomic_inside d.control.number d.control.resources c o) w
  unfolding atomic_inside atomic_due
  atomic_goes p None due w is fine heard = absurd cc
  atomic_goes p (Some a) due w is fine heard =
      let va = register c.regs a.rs1 in aligned_goes (va % 4 == 0) p a va due w is fine heard

  -- Every word.

  decoded_goes : (p : PageId) (word : ℕ) (i : Option Instr) (due : DueLoad) (w : World) →
      word_due d.control c p word i ≡ Some due → IsFine w → Fetched w →
      DoesGo due (decoded_inside d.control.number d.control.resources c word i) w
  unfolding decoded_inside word_due
  decoded_goes p word None due w is fine heard = atomic_goes p (atomic_instruction word) due w is fine heard
  decoded_goes p word (Some i) due w is fine heard = done_goes p i (effect i c.regs c.pc) due w is fine heard

  fetch_goes : (history : List Move) (place : Option PageId) (due : DueLoad) (w : World) →
      IsOwnPage d.control.number place → Agrees history plain → fetched_due history d.control c place ≡ Some due →
      IsFine w → Heard d.control.number plain [] w →
      DoesGo due (fetch d.control.number d.control.resources c place) w
  unfolding fetch fetched_due ask_read
  fetch_goes history None due w own agrees is fine heard = absurd cc
  fetch_goes history (Some p) due w own agrees is fine heard =
      let t = asked (Reach p c.pc Fetch) w in
      let word : ℕ = value_in (plain_of t.world p) (c.pc % 4096) 4 in
      reached_goes due [] (fetch_of c p) _ t.answer t.world
      (subst (λ (q : Question). Asks d.control.number due [] q) (sym (word_first d.control c p _ _ due is)) First) own
      (reach_says p c.pc Fetch w fine.quiet) (heard_asked d.control.number plain [] (Reach p c.pc Fetch) w heard)
      (λ fine' heard'.
      let same : word ≡ latest_value history p (c.pc % 4096) 4 =
      ap (λ (x : PageId → List ℕ). value_in (x p) (c.pc % 4096) 4) heard'.pages
      ∙ read_value history p (plain p) (c.pc % 4096) 4 (agrees p) in
      decoded_goes p word (instruction word) due t.world
      (ap (λ (x : ℕ). word_due d.control c p x (instruction x)) same ∙ is) fine' heard')

  instruction_goes : (history : List Move) (due : DueLoad) (w : World) → Agrees history plain →
      fetched_due history d.control c (page_for d.control c c.pc) ≡ Some due → IsFine w →
      Heard d.control.number plain [] w →
      DoesGo due (instruction_inside d.control.number d.control.resources c) w
  unfolding instruction_inside
  instruction_goes history due w agrees is fine heard =
      fetch_goes history (page_at d.control.number d.control.resources c.space c.pc) due w
      (own_page d.control.number d.control.resources c.space c.pc) agrees is fine heard

-- A byte of a call.

-- a copying step, and then its end
abbrev pub copied : ℕ → Domain → Script Copy → Asking DomainStepped
copied slot d s w = then_ask (played s) (λ copy. answered (copy_ended slot d copy.context copy.ending)) w

abbrev pub byte_by : Context → ℕ → PageId → DueLoad
byte_by c done q = record {
  page = q;
  address = byte_address (buffer c) done;
  width = 1;
  first = record { kind = Load; address = byte_address (buffer c) done; page = Some q };
  second = record { kind = Store; address = byte_address (area c) done; page = None };
}

module _ (slot : ℕ) (d : Domain) (plain : PageId → List ℕ) (c : Context) (done : ℕ) where
  -- the rest is done if a question was granted
  byte_goes : (due : DueLoad) (earlier : List Item) (q : Question) (next : Script Copy) (a : Answer) (w : World) →
      Asks d.control.number due earlier q → IsOwnPage d.control.number q.page → Says q.page q.kind a w →
      Heard d.control.number plain (earlier ++ answer_item d.control.number a ∷ []) w →
      (IsFine w → Heard d.control.number plain (earlier ++ item.Ok d.control.number ∷ []) w →
      StepGoes slot d c due (copied slot d next w)) →
      StepGoes slot d c due (copied slot d (calls.if_reached c q.address a next) w)
  unfolding copy_ended
  byte_goes due earlier q next told.Ok w asks own says heard granted = granted says heard
  byte_goes due earlier q next (told.Absent cause) w asks own says heard granted =
      faulted slot d plain c due earlier q cause _ w asks says refl refl heard
  byte_goes due earlier q next (told.Word value) w asks own says heard granted = absurd says
  byte_goes due earlier q next told.Stopped w asks own says heard granted =
      halted slot d plain c due earlier q _ w asks own says refl refl heard

  in_placed_goes : (place : Option PageId) (cloaked : Bool) (due : DueLoad) (w : World) →
      IsOwnPage d.control.number place →
      byte_load (byte_address (buffer c) done) (byte_address (area c) done) place cloaked ≡ Some due → IsFine w →
      Heard d.control.number plain [] w → StepGoes slot d c due (copied slot d (in_placed c done place cloaked) w)
  unfolding ask_read copy_ended
  in_placed_goes None cloaked due w own is fine heard = absurd cc
  in_placed_goes (Some q) true due w own is fine heard = absurd cc
  in_placed_goes (Some q) false due w own is fine heard =
      let it = byte_by c done q in
      let same : it ≡ due = cc in
      let from = byte_address (buffer c) done in
      let to = byte_address (area c) done in
      let reached = asked (Reach q from Load) w in
      let byte : ℕ = value_in (plain_of reached.world q) (from % 4096) 1 in
      let put = asked (Put to 1 byte) reached.world in
      subst (λ (x : DueLoad). StepGoes slot d c x (copied slot d (in_placed c done (Some q) false) w)) same
      (byte_goes it [] it.first _ reached.answer reached.world First own (reach_says q from Load w fine.quiet)
      (heard_asked d.control.number plain [] (Reach q from Load) w heard) (λ fine' heard'.
      byte_goes it (item.Ok d.control.number ∷ []) it.second _ put.answer put.world Second tt
      (put_says to 1 byte reached.world fine'.quiet)
      (heard_asked d.control.number plain (item.Ok d.control.number ∷ []) (Put to 1 byte) reached.world heard')
      (λ fine'' heard''. completed slot d plain c it _ put.world refl fine'' heard'')))

  in_step_goes : (all : Bool) (due : DueLoad) (w : World) →
      cond all None (byte_load (byte_address (buffer c) done) (byte_address (area c) done)
      (page_for d.control c (byte_address (buffer c) done))
      (is_cloaked d.control.resources c (byte_address (area c) done))) ≡ Some due →
      IsFine w → Heard d.control.number plain [] w →
      StepGoes slot d c due (copied slot d (in_step all d.control.number d.control.resources c done) w)
  in_step_goes true due w is fine heard = absurd cc
  in_step_goes false due w is fine heard =
      in_placed_goes _ _ due w
      (own_page d.control.number d.control.resources c.space (byte_address (buffer c) done)) is fine heard

-- Each step.

phase_goes : (p : Phase) (slot : ℕ) (d : Domain) (history : List Move) (plain : PageId → List ℕ) (c : Context)
    (due : DueLoad) (w : World) → Agrees history plain → load_due p history d.control c ≡ Some due → IsFine w →
    Heard d.control.number plain [] w → StepGoes slot d c due (played (phase_step p slot c d) w)
unfolding phase_step load_due copy_in_step copy_due
phase_goes Plain slot d history plain c due w agrees is fine heard =
    by_plain (StepGoes slot d c due) slot c d w (instruction_goes slot d plain c history due w agrees is fine heard)
phase_goes (CopyIn done) slot d history plain c due w agrees is fine heard =
    by_copy_in (StepGoes slot d c due) done slot c d w
    (in_step_goes slot d plain c done (nat_le (call_length c) done) due w is fine heard)
phase_goes Waiting slot d history plain c due w agrees is fine heard = absurd cc
phase_goes (CopyOut done total) slot d history plain c due w agrees is fine heard = absurd cc

pub step_goes : (slot : ℕ) (d : Domain) (history : List Move) (plain : PageId → List ℕ) (c : Context) (due : DueLoad)
    (w : World) → context_at d.control.contexts slot ≡ Some c → Agrees history plain →
    load_due c.phase history d.control c ≡ Some due → IsFine w → Heard d.control.number plain [] w →
    StepGoes slot d c due (domain_step slot d w)
unfolding domain_step domain_script step_if
step_goes slot d history plain c due w there agrees is fine heard =
    subst (λ (o : Option Context). StepGoes slot d c due (played (step_if o slot d) w)) (sym there)
    (phase_goes c.phase slot d history plain c due w agrees is fine heard)
