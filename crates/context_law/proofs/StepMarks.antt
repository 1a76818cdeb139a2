-- The reservations of a program's contexts over a step of one of them, and over an interrupt and a resuming.
use Rattle.std.proofs.Common.{◌≡◌, ◌∙◌, ◌⊎◌, inl, inr, ℕ, ◌%◌, Bool, true, false, cond, List, [], ◌∷◌, Option, Some, None, Result, Ok, Err, refl, sym, ap, subst}
use Rattle.std.specs.Prelude.{is_some}
use Rattle.std.specs.List.{list_any}
use Rattle.cloak_base.specs.declared.names.PageId.{PageId}
use Rattle.cloak_model.specs.declared.context.Phase.{Phase}
use Rattle.cloak_model.specs.declared.context.Phase.TheVariants.{Plain, CopyIn, Waiting, CopyOut}
use Rattle.cloak_model.specs.declared.context.ResumeFault.{ResumeFault}
use Rattle.cloak_model.specs.declared.context.PageWord.{PageWord}
use Rattle.cloak_model.specs.declared.inside.Copied.{Copied}
use Rattle.cloak_model.specs.declared.inside.Copied.TheVariants as copied
use Rattle.cloak_model.specs.declared.inside.Ran.{Ran}
use Rattle.cloak_model.specs.declared.inside.Ran.TheVariants as ran
use Rattle.cloak_model.specs.Items.{Item}
use Rattle.cloak_model.specs.Items as item
use Rattle.cloak_model.specs.Asking.{Told, answered, then_ask}
use Rattle.cloak_model.specs.Calls.{Copy, buffer, byte_address, copy_in_step, copy_out_step, finish_call}
use Rattle.cloak_model.specs.Contexts.{Context, context_at, set_word, in_phase, suspended, Resumed, resume_if, resume_at}
use Rattle.cloak_model.specs.DomainState.{Control, Domain}
use Rattle.cloak_model.specs.DomainStep.{domain_script, DomainStepped, instruction_ended, copy_ended, after_write, phase_step, step_if, domain_step, interrupt_if, interrupt, answer_in, answer_taken, resume_told, resume_slot}
use Rattle.cloak_model.specs.Halves.{inward_half}
use Rattle.cloak_model.specs.Hypercalls.{hypercall_of}
use Rattle.cloak_model.specs.InsideStep.{AfterInstruction, instruction_inside}
use Rattle.cloak_model.specs.Resources.{Resources, resource_at}
use Rattle.cloak_model.specs.World.{World, items_of}
use Rattle.cloak_model.specs.Script.{played}
use Rattle.cloak_model.proofs.Playing.{by_plain, by_copy_in, by_copy_out, by_ecall}
use Rattle.latest_store.specs.Moves.{Move}
use Rattle.latest_store.specs.Sums.{writes_in}
use Rattle.latest_store.specs.Deeds.{first_granted, both_granted, hypercall_moves, phase_moves, context_moves}
use Rattle.latest_store.proofs.Moved.{Agrees}
use Rattle.latest_store.proofs.Heard.{Heard, if_fetched}
use Rattle.context_law.specs.Inside.{page_of, Reached, reserved_by, phase_reached, context_reached}
use Rattle.context_law.proofs.Marks.{mark_of, mark_at, NoMore, OneMore, set_one, set_none, set_same, none_one, left_unwritten}
use Rattle.context_law.proofs.Answered.{EndBy}
use Rattle.context_law.proofs.Others.{Misses, misses_if, load_misses}
use Rattle.context_law.proofs.InstructionMarks.{writes_word, if_reached, IsCalling, DoneByInstruction, instruction_deed}
use Rattle.context_law.proofs.CopyMarks.{CopyDeed, copy_in_deed, copy_out_deed}
use Rattle.context_law.proofs.HypercallMarks.{hypercall_one}
use Rattle.context_law.proofs.Spared.{IsUsed, hypercall_spares}

-- A reservation that a context of this slot makes, or that stood before, in a word in which no move writes if the resource
-- of its page is in use before and after.
abbrev pub Origin : ℕ → Control → Resources → Option Reached → List Move → ℕ → PageWord → Type 0
Origin slot d r' reached moves k word =
    ((k ≡ slot) × (reserved_by reached ≡ Some word))
    ⊎ ((mark_at d.contexts k ≡ Some word)
    × (IsUsed d.resources word.resource → IsUsed r' word.resource → Misses d.number word moves))

-- a step of a program, by what it was told
pub record Stepping (slot : ℕ) (d : Domain) (moves : List Item → List Move) (reached : List Item → Option Reached)
    (t : Told DomainStepped) : Type 0 where
  pub answers : List Item
  pub told : inward_half d.control.number (items_of t.world) ≡ answers
  pub marks : (k : ℕ) (word : PageWord) → word.at % 4 ≡ 0 →
      mark_at t.answer.domain.control.contexts k ≡ Some word →
      Origin slot d.control t.answer.domain.control.resources (reached answers) (moves answers) k word

same_one : (slot : ℕ) (mark : Option PageWord) (contexts : List (Option Context)) → OneMore slot mark contexts contexts
same_one slot mark contexts k word is = inr is

-- what was written in
record LeftBy (wrote : Option PageWord) (s : DomainStepped) (k : ℕ) (word : PageWord) : Type 0 where
  pub was : mark_at s.domain.control.contexts k ≡ Some word
  pub free : writes_word word wrote ≡ false

left_by : (wrote : Option PageWord) (s : DomainStepped) (k : ℕ) (word : PageWord) →
    mark_at (after_write wrote s).domain.control.contexts k ≡ Some word → LeftBy wrote s k word
left_by None s k word is = record { was = is; free = refl }
left_by (Some place) s k word is =
    let left = left_unwritten place word s.domain.control.contexts k is in
    record { was = left.was; free = left.other }

-- nothing else of the program
written_resources : (wrote : Option PageWord) (s : DomainStepped) →
    (after_write wrote s).domain.control.resources ≡ s.domain.control.resources
written_resources None s = refl
written_resources (Some place) s = refl

-- An instruction.

ended_one : (slot : ℕ) (d : Domain) (k : Context) (e : Ran) (w : World) →
    OneMore slot k.mark d.control.contexts (played (instruction_ended slot d k e) w).answer.domain.control.contexts
unfolding instruction_ended
ended_one slot d k (ran.Trap cause address) w =
    none_one slot k.mark d.control.contexts _ (set_none d.control.contexts slot (Some (suspended k)) refl)
ended_one slot d k ran.Ecall w =
    by_ecall (λ t. OneMore slot k.mark d.control.contexts t.answer.domain.control.contexts) slot d k w
    (hypercall_one (hypercall_of k) slot k d.control w)
ended_one slot d k ran.Stopped w = same_one slot k.mark d.control.contexts
ended_one slot d k _ w = set_one d.control.contexts slot (Some k)

pub ended_world : (slot : ℕ) (d : Domain) (k : Context) (e : Ran) (w : World) → (e ≡ ran.Ecall → ⊥) →
    (played (instruction_ended slot d k e) w).world ≡ w
unfolding instruction_ended
ended_world slot d k ran.Ecall w other = absurd (other refl)
ended_world slot d k _ w other = refl

pub is_ecall : (e : Ran) → (e ≡ ran.Ecall) ⊎ (e ≡ ran.Ecall → ⊥)
is_ecall ran.Ecall = inl refl
is_ecall _ = inr (λ is. cc)

module _ (slot : ℕ) (d : Domain) (c : Context) (there : context_at d.control.contexts slot ≡ Some c) where
  -- the reservation of the context before
  own_mark : (k : ℕ) (word : PageWord) → k ≡ slot → c.mark ≡ Some word →
      mark_at d.control.contexts k ≡ Some word
  own_mark k word at is = ap (mark_at d.control.contexts) at ∙ ap mark_of there ∙ is

  -- what a hypercall does to pages, by what the program was told
  call_misses : (moves : List Item → List Move) (k : Context) (answers : List Item) (wrote : Option PageWord)
      (pages : PageId → List ℕ) (w : World) → IsCalling d.control c moves answers k →
      Heard d.control.number pages answers w →
      let u = played (instruction_ended slot d k ran.Ecall) w in
      (word : PageWord) → IsUsed d.control.resources word.resource →
      IsUsed (after_write wrote u.answer).domain.control.resources word.resource →
      Misses d.control.number word (if_fetched moves (inward_half d.control.number (items_of u.world)))
  call_misses moves k answers wrote pages w calling heard word before later =
      let n = d.control.number in
      let heard' : Heard n pages (item.Ok n ∷ []) w =
      subst (λ (l : List Item). Heard n pages l w) calling.asked heard in
      let spared = by_ecall (λ t. IsUsed t.answer.domain.control.resources word.resource →
      Misses n word (hypercall_moves (hypercall_of k) d.control k (inward_half n (items_of t.world)))) slot d k w
      (hypercall_spares slot k d.control pages w heard' (hypercall_of k) word before)
      (ap (λ (r : Resources). is_some (resource_at r word.resource))
      (sym (written_resources wrote (played (instruction_ended slot d k ran.Ecall) w).answer)) ∙ later) in
      let final : List Item = inward_half n (items_of (played (instruction_ended slot d k ran.Ecall) w).world) in
      misses_if n word (first_granted final) (moves final)
      (ap (list_any (writes_in (page_of n word) word.at))
      (calling.deeds final ∙ ap (λ (x : Context). hypercall_moves (hypercall_of x) d.control x final) (sym calling.same))
      ∙ spared)

  -- the step that an instruction's end makes of it
  abbrev EndsIn : (List Item → List Move) → Option Reached → Told AfterInstruction → Ran → Type 0
  EndsIn moves reached t e =
      Stepping slot d (if_fetched moves) (if_reached reached)
      (then_ask (played (instruction_ended slot d t.answer.context e))
      (λ s. answered (after_write t.answer.wrote s)) t.world)

  ended_call : (moves : List Item → List Move) (reached : Option Reached) (t : Told AfterInstruction) →
      EndBy d.control.number (DoneByInstruction d.control c moves reached) t → t.answer.ending ≡ ran.Ecall →
      EndsIn moves reached t ran.Ecall
  ended_call moves reached t deed is =
      let u = played (instruction_ended slot d t.answer.context ran.Ecall) t.world in
      let calling = deed.ends.calls is in
      let spared = call_misses moves t.answer.context deed.answers t.answer.wrote deed.pages t.world calling deed.heard in
      record {
        answers = inward_half d.control.number (items_of u.world);
        told = refl;
        marks = λ k word aligned has.
            let left = left_by t.answer.wrote u.answer k word has in
            elim (ended_one slot d t.answer.context ran.Ecall t.world k word left.was) [
              | inl here ↦
                  inr (own_mark k word here.0 (ap (λ (x : Context). x.mark) (sym calling.same) ∙ here.1), spared word)
              | inr before ↦ inr (before, spared word)
            ];
      }

  ended_other : (moves : List Item → List Move) (reached : Option Reached) (t : Told AfterInstruction) →
      EndBy d.control.number (DoneByInstruction d.control c moves reached) t → (t.answer.ending ≡ ran.Ecall → ⊥) →
      EndsIn moves reached t t.answer.ending
  ended_other moves reached t deed other =
      let u = played (instruction_ended slot d t.answer.context t.answer.ending) t.world in
      record {
        answers = deed.answers;
        told = ap (λ (w : World). inward_half d.control.number (items_of w))
            (ended_world slot d t.answer.context t.answer.ending t.world other) ∙ deed.heard.told;
        marks = λ k word aligned has.
            let left = left_by t.answer.wrote u.answer k word has in
            let unwritten = deed.ends.stores other word aligned left.free in
            elim (ended_one slot d t.answer.context t.answer.ending t.world k word left.was) [
              | inl here ↦
                  elim (deed.ends.mark word here.1) [
                    | inl before ↦ inr (own_mark k word here.0 before, (λ x y. unwritten))
                    | inr made ↦ inl (here.0, made)
                  ]
              | inr before ↦ inr (before, (λ x y. unwritten))
            ];
      }

  ended_stepping : (moves : List Item → List Move) (reached : Option Reached) (t : Told AfterInstruction) →
      EndBy d.control.number (DoneByInstruction d.control c moves reached) t → EndsIn moves reached t t.answer.ending
  ended_stepping moves reached t deed = elim (is_ecall t.answer.ending) [
    | inl call ↦ subst (EndsIn moves reached t) (sym call) (ended_call moves reached t deed call)
    | inr other ↦ ended_other moves reached t deed other
  ]

  -- A byte that is copied.

  copied_one : (k : Context) (e : Copied) →
      OneMore slot k.mark d.control.contexts (copy_ended slot d k e).domain.control.contexts
  unfolding copy_ended
  copied_one k copied.CallReady =
      none_one slot k.mark d.control.contexts _ (set_none d.control.contexts slot (Some (suspended k)) refl)
  copied_one k (copied.Absent cause address) =
      none_one slot k.mark d.control.contexts _ (set_none d.control.contexts slot (Some (suspended k)) refl)
  copied_one k copied.Stopped = same_one slot k.mark d.control.contexts
  copied_one k _ = set_one d.control.contexts slot (Some k)

  copied_marks : (moves : List Item → List Move) (reached : List Item → Option Reached) (t : Told Copy)
      (deed : EndBy d.control.number (CopyDeed d.control.number c moves) t) (wrote : Option PageWord) →
      ((word : PageWord) → word.at % 4 ≡ 0 → writes_word word wrote ≡ false →
      Misses d.control.number word (moves deed.answers)) → (k : ℕ) (word : PageWord) → word.at % 4 ≡ 0 →
      mark_at (after_write wrote (copy_ended slot d t.answer.context t.answer.ending)).domain.control.contexts k
      ≡ Some word →
      Origin slot d.control (after_write wrote (copy_ended slot d t.answer.context t.answer.ending)).domain.control.resources
      (reached deed.answers) (moves deed.answers) k word
  copied_marks moves reached t deed wrote stores k word aligned is =
      let left = left_by wrote (copy_ended slot d t.answer.context t.answer.ending) k word is in
      elim (copied_one t.answer.context t.answer.ending k word left.was) [
        | inl here ↦
            inr (own_mark k word here.0 (sym deed.ends.mark ∙ here.1), (λ x y. stores word aligned left.free))
        | inr before ↦ inr (before, (λ x y. stores word aligned left.free))
      ]

  -- Each step.

  abbrev Steps : Phase → List Move → Told DomainStepped → Type 0
  Steps p history t = Stepping slot d (phase_moves p history d.control c) (phase_reached p history d.control c) t

  phase_stepping : (p : Phase) (history : List Move) (plain : PageId → List ℕ) (w : World) → Agrees history plain →
      Heard d.control.number plain [] w → Steps p history (played (phase_step p slot c d) w)
  unfolding phase_step phase_moves
  phase_stepping Plain history plain w agrees heard =
      by_plain (Steps Plain history) slot c d w
      (ended_stepping _ _ (played (instruction_inside d.control.number d.control.resources c) w)
      (instruction_deed d.control plain c history w agrees heard))
  phase_stepping (CopyIn done) history plain w agrees heard =
      let t = played (copy_in_step d.control.number d.control.resources c done) w in
      let deed = copy_in_deed d.control plain c done w heard in
      by_copy_in (Steps (CopyIn done) history) done slot c d w (record {
        answers = deed.answers;
        told = deed.heard.told;
        marks = λ k word aligned is. copied_marks _ (λ answers. None) t deed None
            (λ word' aligned' free.
            misses_if d.control.number word' (both_granted deed.answers) _
            (load_misses d.control.number word' (byte_address (buffer c) done) 1 _)) k word aligned is;
      })
  phase_stepping Waiting history plain w agrees heard = record {
    answers = [];
    told = heard.told;
    marks = λ k word aligned is. inr (set_same d.control.contexts slot c c there refl k word is, (λ x y. refl));
  }
  phase_stepping (CopyOut done total) history plain w agrees heard =
      let t = played (copy_out_step d.control.number d.control.resources c done total) w in
      let deed = copy_out_deed d.control plain c done total w heard in
      by_copy_out (Steps (CopyOut done total) history) done total slot c d w (record {
        answers = deed.answers;
        told = deed.heard.told;
        marks = λ k word aligned is.
            copied_marks _ (λ answers. None) t deed t.answer.wrote deed.ends.stores k word aligned is;
      })

step_if_stepping : (o : Option Context) (slot : ℕ) (d : Domain) (history : List Move) (plain : PageId → List ℕ)
    (w : World) → context_at d.control.contexts slot ≡ o → Agrees history plain → Heard d.control.number plain [] w →
    Stepping slot d (context_moves o history d.control) (context_reached o history d.control)
    (played (step_if o slot d) w)
unfolding step_if context_moves
step_if_stepping None slot d history plain w there agrees heard = record {
  answers = [];
  told = heard.told;
  marks = λ k word aligned is. inr (is, (λ x y. refl));
}
step_if_stepping (Some c) slot d history plain w there agrees heard =
    phase_stepping slot d c there c.phase history plain w agrees heard

pub step_stepping : (slot : ℕ) (d : Domain) (history : List Move) (plain : PageId → List ℕ) (w : World) →
    Agrees history plain → Heard d.control.number plain [] w →
    Stepping slot d (context_moves (context_at d.control.contexts slot) history d.control)
    (context_reached (context_at d.control.contexts slot) history d.control) (domain_step slot d w)
unfolding domain_step domain_script
step_stepping slot d history plain w agrees heard = step_if_stepping _ slot d history plain w refl agrees heard

-- An interrupt.

interrupt_if_none : (o : Option Context) (slot : ℕ) (d : Control) →
    NoMore d.contexts (interrupt_if o slot d).control.contexts
unfolding interrupt_if
interrupt_if_none None slot d k word is = is
interrupt_if_none (Some c) slot d k word is = set_none d.contexts slot (Some (suspended c)) refl k word is

pub interrupt_none : (slot : ℕ) (d : Control) → NoMore d.contexts (interrupt slot d).control.contexts
unfolding interrupt
interrupt_none slot d = interrupt_if_none (context_at d.contexts slot) slot d

-- A resuming.

either_mark : (t : Bool) (x y c : Context) → x.mark ≡ c.mark → y.mark ≡ c.mark → (cond t x y).mark ≡ c.mark
either_mark true x y c here there = here
either_mark false x y c here there = there

finish_mark : (answer : ℕ) (c : Context) → (finish_call answer c).mark ≡ c.mark
unfolding finish_call
finish_mark answer c =
    either_mark _ (in_phase (CopyOut 0 answer) (set_word c 10 answer)) (in_phase Plain (set_word c 10 answer)) c refl
    refl

answer_mark : (p : Phase) (answer : ℕ) (c : Context) → (answer_in p answer c).mark ≡ c.mark
unfolding answer_in
answer_mark Waiting answer c = finish_mark answer c
answer_mark _ answer c = refl

taken_none : (slot answer : ℕ) (o : Option Context) (d : Control) → context_at d.contexts slot ≡ o →
    NoMore d.contexts (answer_taken slot answer o d).contexts
unfolding answer_taken
taken_none slot answer None d there k word is = is
taken_none slot answer (Some c) d there k word is =
    set_same d.contexts slot c (answer_in c.phase answer c) there (answer_mark c.phase answer c) k word is

told_none : (slot answer : ℕ) (a : Result (Unit {0}) ResumeFault) (d : Control) →
    NoMore d.contexts (resume_told slot answer a d).control.contexts
unfolding resume_told
told_none slot answer (Err f) d k word is = is
told_none slot answer (Ok done) d k word is = taken_none slot answer _ d refl k word is

busy_none : (busy : Bool) (contexts : List (Option Context)) (x y : Resumed) → NoMore contexts x.contexts →
    NoMore contexts y.contexts → NoMore contexts (cond busy x y).contexts
busy_none true contexts x y here there = here
busy_none false contexts x y here there = there

resume_if_none : (slot hart : ℕ) (o : Option Context) (contexts : List (Option Context)) →
    context_at contexts slot ≡ o → NoMore contexts (resume_if slot hart o contexts).contexts
unfolding resume_if
resume_if_none slot hart None contexts there k word is = is
resume_if_none slot hart (Some c) contexts there k word is =
    busy_none (is_some c.on) contexts _ _ (λ k' word' is'. is')
    (set_same contexts slot c (record c { on = Some (record { 0 = hart }) }) there refl) k word is

pub resume_none : (slot hart answer : ℕ) (d : Control) →
    NoMore d.contexts (resume_slot slot hart answer d).control.contexts
unfolding resume_slot resume_at
resume_none slot hart answer d k word is =
    let made = resume_if slot hart (context_at d.contexts slot) d.contexts in
    resume_if_none slot hart (context_at d.contexts slot) d.contexts refl k word
    (told_none slot answer made.answer (record d { contexts = made.contexts }) k word is)
