-- A step of the joint run: the machine fits as before, and what the step wrote are items of a record.
use Rattle.kernel_isolation.proofs.Ends.{end_shows}
use Rattle.cloak_model.specs.Exchange.{shown_words}
use Rattle.cloak_model.specs.DomainAlone.{runs_on}
use Rattle.cloak_model.specs.Opening.{numbers_below}
use Rattle.cloak_model.specs.Ending.{all_marked, settled_for, ask_end, cloak_for, ended_domain}
use Rattle.std.proofs.Common.{◌≡◌, ◌∙◌, ℕ, zero, suc, ◌<◌, Bool, true, false, List, [], ◌∷◌, ◌++◌, slice_get, Option, Some, None, IfSome, Result, Ok, Err, refl, sym, subst, arith, ◌+◌, length, ap}
use Rattle.std.specs.List.{AllByRecursion}
use Rattle.std.proofs.lemmas.Bool.{false≢true}
use Rattle.cloak_base.specs.declared.causes.Shown.{Shown}
use Rattle.cloak_base.specs.declared.causes.Violation.{Violation}
use Rattle.cloak_base.specs.declared.names.SpaceId.{SpaceId}
use Rattle.cloak_model.specs.declared.context.ResumeFault.{ResumeFault}
use Rattle.cloak_model.specs.declared.inside.Went.{Went}
use Rattle.cloak_model.specs.declared.inside.Went.TheVariants as went
use Rattle.cloak_model.specs.Items.{Item}
use Rattle.cloak_model.specs.Items as item
use Rattle.cloak_model.specs.declared.outcome.Kernel.{Kernel}
use Rattle.cloak_model.specs.declared.outcome.Kernel.TheVariants.{Stay, Put, Halt, Resume, Trapped}
use Rattle.cloak_model.specs.Ahead.{settle_touched, settled_step, made_after}
use Rattle.cloak_model.specs.Asking.{Told}
use Rattle.cloak_model.specs.Cloaking.{CloakedMemory, AfterSettling, seen_in}
use Rattle.cloak_model.specs.Contexts.{Admitted, context_at, domain_of, slot_of}
use Rattle.cloak_model.specs.Csr.{satp_of, interrupt_due}
use Rattle.cloak_model.specs.DomainState.{Control, Domain}
use Rattle.cloak_model.specs.DomainStep.{DomainStepped, domain_step}
use Rattle.cloak_model.specs.Hart.{Hart, started}
use Rattle.cloak_model.specs.Hypercalls.{Stepped}
use Rattle.cloak_model.specs.Joint.{Moment, Turn, next_hart, hart_in, with_hart, cloak_of, cloak_outside, memory_of, outside_ended, after_outside, outside_step, without_root, domain_ended, with_domain, after_domain_step, pages_for, interrupt_ended, after_interrupt, by_interrupt, inside_step, turn_of, joint_step, left, not_running, by_running, domain_met, end_domain, refuses, ends_once, ends_resumed, ends_asked, answers_violation, step_before_end, without_mark}
use Rattle.cloak_model.specs.KernelStep.{kernel_step, ticked}
use Rattle.cloak_model.specs.Leaving.{leave}
use Rattle.cloak_model.specs.Parts.{Joint}
use Rattle.cloak_model.specs.Record.{IsItem, IsWord}
use Rattle.cloak_model.specs.Resuming.{AfterResume, resume}
use Rattle.cloak_model.proofs.ResumeParts.{with_roots, by_root, by_context, by_domain}
use Rattle.cloak_model.specs.World.{World, MidStep, Flat, Cloaked, items_of}
use Rattle.settling_ahead.proofs.Touching.{writes_touched_alone}
use Rattle.kernel_isolation.proofs.Accounts.{is_joint, ram_seen}
use Rattle.kernel_isolation.proofs.StepAccounts.{accounts_domain_step}
use Rattle.range_law.specs.Writing.{AreBytes}
use Rattle.range_law.proofs.Bounds.{AreWords, all_or, all_set}
use Rattle.range_law.proofs.Harts.{HartFits, EndingFits, started_fits, ticked_fits, leave_fits}
use Rattle.range_law.proofs.Memories.{FramesFit, MemoryFits, ShowsFit, touched_fits}
use Rattle.range_law.proofs.Worlds.{CloakFits, WorldFits, ToldFits, frames_of, marked_fits}
use Rattle.range_law.proofs.KernelSteps.{kernel_step_told}
use Rattle.range_law.proofs.Controls.{ControlFits, WentFits, SteppedFits, DomainStepFits, domain_step_told, interrupt_fits, resume_slot_fits, forgets_fit}
use Rattle.cloak_base.proofs.Lists.{each_append}

abbrev pub ProgramFits : Domain → Type 0
ProgramFits d = ControlFits d.control

pub record JointFits (j : Joint) : Type 0 where
  pub harts : AllByRecursion HartFits j.harts
  pub disk : AreBytes j.disk
  pub memory : MemoryFits j.memory
  pub programs : AllByRecursion ProgramFits j.domains

pub record TurnFits (t : Turn) : Type 0 where
  pub joint : JointFits t.joint
  pub items : AllByRecursion IsItem t.items

hart_fits : (j : Joint) (number : ℕ) → JointFits j → HartFits (hart_in j number)
hart_fits j number fits =
    all_or HartFits j.harts number (started 0 0) fits.harts (started_fits 0 0 (omega arith) (omega arith))

with_hart_fits : (number : ℕ) (h : Hart) (j : Joint) → JointFits j → HartFits h → JointFits (with_hart number h j)
with_hart_fits number h j fits here = record {
  harts = all_set HartFits j.harts number h fits.harts here;
  disk = fits.disk;
  memory = fits.memory;
  programs = fits.programs;
}

with_domain_fits : (d : ℕ) (domain : Domain) (j : Joint) → JointFits j → ProgramFits domain →
    JointFits (with_domain d domain j)
with_domain_fits d domain j fits here = record {
  harts = fits.harts;
  disk = fits.disk;
  memory = fits.memory;
  programs = all_set ProgramFits j.domains d domain fits.programs here;
}

found_fits : (domains : List Domain) (d : ℕ) → AllByRecursion ProgramFits domains →
    IfSome (slice_get domains d) ProgramFits
found_fits [] d all = tt
found_fits (x ∷ domains) zero all = all.0
found_fits (x ∷ domains) (suc d) all = found_fits domains d all.1

-- Resuming.

record ResumeFits (r : AfterResume) : Type 0 where
  pub joint : JointFits r.joint
  pub items : AllByRecursion IsItem r.items

resume_none : (j : Joint) (violation : Option Violation) → JointFits j →
    ResumeFits (record { joint = j; items = []; violation = violation })
resume_none j violation fits = record { joint = fits; items = tt }

roots_fit : (root : SpaceId → Option ℕ) (m : CloakedMemory) → MemoryFits m → MemoryFits (with_roots root m)
roots_fit root m fits =
    record { ram = fits.ram; plain = fits.plain; keys = fits.keys; stream = fits.stream; places = fits.places }

root_fits : (j : Joint) (satp ctx reply : ℕ) (was : Domain) (control : Control) (admitted : Admitted)
    (answer : Result (Unit {0}) ResumeFault) → JointFits j → ControlFits control → IsWord ctx → IsWord reply →
    ResumeFits (by_root j satp ctx reply was control admitted answer)
unfolding by_root
root_fits j satp ctx reply was control admitted (Err fault) fits here c r = resume_none j _ fits
root_fits j satp ctx reply was control admitted (Ok done) fits here c r = record {
  joint = record {
    harts = fits.harts;
    disk = fits.disk;
    memory = roots_fit admitted.root j.memory fits.memory;
    programs = all_set ProgramFits j.domains (domain_of ctx) _ fits.programs here;
  };
  items = ((c, r), tt);
}

context_fits : (j : Joint) (satp ctx reply : ℕ) (was : Domain) (control : Control)
    (answer : Result (Unit {0}) ResumeFault) → JointFits j → ControlFits control → IsWord ctx → IsWord reply →
    ResumeFits (by_context j satp ctx reply was control answer)
unfolding by_context
context_fits j satp ctx reply was control (Err fault) fits here c r = resume_none j _ fits
context_fits j satp ctx reply was control (Ok done) fits here c r =
    root_fits j satp ctx reply was control _ _ fits here c r

domain_fits : (j : Joint) (hart satp ctx reply : ℕ) (found : Option Domain) → JointFits j → IfSome found ProgramFits →
    IsWord ctx → IsWord reply → ResumeFits (by_domain j hart satp ctx reply found)
unfolding by_domain
domain_fits j hart satp ctx reply None fits here c r = resume_none j _ fits
domain_fits j hart satp ctx reply (Some was) fits here c r =
    context_fits j satp ctx reply was _ _ fits (resume_slot_fits (slot_of ctx) hart reply was.control here r) c r

resume_fits : (j : Joint) (hart satp ctx reply : ℕ) → JointFits j → IsWord ctx → IsWord reply →
    ResumeFits (resume j hart satp ctx reply)
unfolding resume by_domain by_context by_root
resume_fits j hart satp ctx reply fits c r =
    domain_fits j hart satp ctx reply _ fits (found_fits j.domains (domain_of ctx) fits.programs) c r

-- A hart outside.

ended_fits : (j : Joint) (number : ℕ) (items : List Item) (e : Kernel) → JointFits j → AllByRecursion IsItem items →
    EndingFits e → TurnFits (outside_ended j number items e)
unfolding outside_ended
ended_fits j number items Stay fits all e = record { joint = fits; items = all }
ended_fits j number items Trapped fits all e = record { joint = fits; items = all }
ended_fits j number items (Put b) fits all e = record {
  joint = record { harts = fits.harts; disk = fits.disk; memory = fits.memory; programs = fits.programs };
  items = all;
}
ended_fits j number items (Halt value) fits all e = record { joint = fits; items = all }
ended_fits j number items (Resume ctx reply) fits all e =
    let r = resume_fits j number (satp_of (hart_in j number).csrs) ctx reply fits e.0 e.1 in
    record { joint = r.joint; items = each_append IsItem items _ all r.items }

outside_by : (j : Joint) (number : ℕ) (h : Hart) (s : AfterSettling) → JointFits j → HartFits h →
    ShowsFit s.ciphers s.memory → TurnFits (after_outside j number (made_after h j.disk (cloak_outside j.memory h) s))
unfolding after_outside made_after
outside_by j number h s fits here shows =
    let told = kernel_step h j.disk (Flat (seen_in s.memory)) in
    let made = kernel_step_told h j.disk (Flat (seen_in s.memory)) here fits.disk shows.memory.ram in
    let count = (writes_touched_alone h j.disk (seen_in s.memory)).count in
    let same = ram_seen told.world in
    ended_fits _ number _ told.answer.ending (record {
      harts = all_set HartFits j.harts number told.answer.hart fits.harts made.answer.hart;
      disk = made.answer.disk;
      memory = record {
        ram = subst FramesFit same (frames_of told.world made.world);
        plain = shows.memory.plain;
        keys = shows.memory.keys;
        stream = shows.memory.stream;
        places = shows.memory.places ∙ (sym count ∙ ap length same);
      };
      programs = fits.programs;
    }) shows.items made.answer.ending

outside_fits : (j : Joint) (number : ℕ) (h : Hart) → JointFits j → HartFits h → TurnFits (outside_step j number h)
unfolding outside_step settled_step
outside_fits j number h fits here =
    outside_by j number h (settle_touched h j.disk j.memory) fits here (touched_fits h j.disk j.memory fits.memory)

-- A hart inside.

left_fits : (j : Joint) (number : ℕ) (h : Hart) (items : List Item) (s : Shown) → JointFits j → HartFits h →
    AllByRecursion IsItem items → IsItem (item.Leave s) → AllByRecursion IsItem (items ++ item.Leave s ∷ [])
left_fits j number h items s fits here all shown = each_append IsItem items (item.Leave s ∷ []) all (shown, tt)

unmarked_fits : (number : ℕ) (m : CloakedMemory) → MemoryFits m → MemoryFits (without_mark number m)
unmarked_fits number m fits =
    record { ram = fits.ram; plain = fits.plain; keys = fits.keys; stream = fits.stream; places = fits.places }

left_joint : (number : ℕ) (h : Hart) (j : Joint) → JointFits j → HartFits h →
    JointFits (with_hart number h (record j { memory = without_mark number j.memory }))
left_joint number h j fits here = record {
  harts = all_set HartFits j.harts number h fits.harts here;
  disk = fits.disk;
  memory = unmarked_fits number j.memory fits.memory;
  programs = fits.programs;
}

root_gone : (s : SpaceId) (m : CloakedMemory) → MemoryFits m → MemoryFits (without_root s m)
root_gone s m fits =
    record { ram = fits.ram; plain = fits.plain; keys = fits.keys; stream = fits.stream; places = fits.places }

went_fits : (j : Joint) (number : ℕ) (h : Hart) (d : ℕ) (w : World) (how : Went) → JointFits j → HartFits h →
    AllByRecursion IsItem (items_of w) → WentFits how → TurnFits (domain_ended j number h d w how)
unfolding domain_ended
went_fits j number h d w (went.Leave s) fits here all ends = record {
  joint = left_joint number (leave h s) j fits (leave_fits h s here ends.1);
  items = left_fits j number h (items_of w) s fits here all ends;
}
went_fits j number h d w (went.SpaceGone space s) fits here all ends = record {
  joint = left_joint number (leave h s) _
      (record {
        harts = fits.harts;
        disk = fits.disk;
        memory = root_gone (record { domain = d; number = space }) j.memory fits.memory;
        programs = fits.programs;
      }) (leave_fits h s here ends.1);
  items = left_fits j number h (items_of w) s fits here all ends;
}
went_fits j number h d w _ fits here all ends =
    record { joint = with_hart_fits number h j fits here; items = all }

memory_of_fits : (w : World) (m : CloakedMemory) → is_joint w ≡ true → WorldFits w → MemoryFits (memory_of w m)
memory_of_fits (Cloaked c) m form fits = fits.memory
memory_of_fits _ m form fits = absurd (false≢true form)

items_of_fits : (w : World) → WorldFits w → AllByRecursion IsItem (items_of w)
items_of_fits (Cloaked c) fits = fits.items
items_of_fits _ fits = tt

told_fits : (j : Joint) (number : ℕ) (h : Hart) (d : ℕ) (told : Told DomainStepped) → JointFits j → HartFits h →
    ToldFits DomainStepFits told → is_joint told.world ≡ true → TurnFits (after_domain_step j number h d told)
unfolding after_domain_step
told_fits j number h d told fits here made form =
    went_fits _ number h d told.world told.answer.went (record {
      harts = fits.harts;
      disk = fits.disk;
      memory = memory_of_fits told.world j.memory form made.world;
      programs = all_set ProgramFits j.domains d told.answer.domain fits.programs made.answer.control;
    }) here (items_of_fits told.world made.world) made.answer.ended

interrupted_fits : (j : Joint) (number : ℕ) (h : Hart) (items : List Item) (how : Went) → JointFits j → HartFits h →
    AllByRecursion IsItem items → WentFits how → TurnFits (interrupt_ended j number h items how)
unfolding interrupt_ended
interrupted_fits j number h items (went.Leave s) fits here all ends = record {
  joint = left_joint number (leave h s) j fits (leave_fits h s here ends.1);
  items = left_fits j number h items s fits here all ends;
}
interrupted_fits j number h items _ fits here all ends =
    record { joint = with_hart_fits number h j fits here; items = all }

after_interrupt_fits : (j : Joint) (number : ℕ) (h : Hart) (d : ℕ) (was : Domain) (step : Stepped) → JointFits j →
    HartFits h → SteppedFits step → TurnFits (after_interrupt j number h d was step)
unfolding after_interrupt
after_interrupt_fits j number h d was step fits here made =
    interrupted_fits _ number h (item.Timer d ∷ []) step.went
    (with_domain_fits d (record was { control = step.control }) j fits made.control) here (tt, tt) made.ended

low_slot : (ctx : ℕ) → slot_of ctx < 8
low_slot ctx = omega arith

by_interrupt_fits : (due : Bool) (j : Joint) (number : ℕ) (h : Hart) (d ctx : ℕ) (was : Domain) → JointFits j →
    HartFits h → ProgramFits was → TurnFits (by_interrupt due j number h d (slot_of ctx) was)
unfolding by_interrupt
by_interrupt_fits true j number h d ctx was fits here program =
    after_interrupt_fits j number h d was _ fits here (interrupt_fits (slot_of ctx) was.control (low_slot ctx) program)
by_interrupt_fits false j number h d ctx was fits here program =
    let c : MidStep = cloak_of j.memory h d (pages_for was (context_at was.control.contexts (slot_of ctx))) in
    let world : CloakFits c = record { memory = fits.memory; items = tt } in
    let account = (accounts_domain_step (slot_of ctx) was (Cloaked c)).by
    (record { form = refl; places = fits.memory.places }) in
    told_fits j number h d (domain_step (slot_of ctx) was (Cloaked c)) fits here
    (domain_step_told (slot_of ctx) was (Cloaked c) (low_slot ctx) program world) account.joint.form

-- a hart leaves a context that does not run on it
gone_fits : (j : Joint) (number : ℕ) (h : Hart) (ctx : ℕ) → JointFits j → HartFits h → IsWord ctx →
    TurnFits (left j number h [] (not_running ctx))
gone_fits j number h ctx fits here word =
    let zero_word : IsWord 0 = omega arith in
    let cause_word : IsWord 24 = omega arith in
    let words : AreWords (shown_words (not_running ctx)) =
    (cause_word, (zero_word, (word, (zero_word, (zero_word, (zero_word, (zero_word, (zero_word, (zero_word, (zero_word, tt)))))))))) in
    record {
      joint = left_joint number (leave h (not_running ctx)) j fits (leave_fits h (not_running ctx) here words);
      items = left_fits j number h [] (not_running ctx) fits here tt (refl, words);
    }

running_fits : (runs : Bool) (j : Joint) (number : ℕ) (h : Hart) (ctx : ℕ) (was : Domain) → JointFits j →
    HartFits h → IsWord ctx → ProgramFits was → TurnFits (by_running runs j number h ctx was)
unfolding by_running
running_fits false j number h ctx was fits here word program = gone_fits j number h ctx fits here word
running_fits true j number h ctx was fits here word program =
    by_interrupt_fits (interrupt_due h.mode h.csrs) j number h (domain_of ctx) ctx was fits here program

inside_fits : (j : Joint) (number : ℕ) (h : Hart) (ctx : ℕ) (found : Option Domain) → JointFits j → HartFits h →
    IsWord ctx → IfSome found ProgramFits → TurnFits (inside_step j number h ctx found)
unfolding inside_step
inside_fits j number h ctx None fits here word program = gone_fits j number h ctx fits here word
inside_fits j number h ctx (Some was) fits here word program =
    running_fits (runs_on number (context_at was.control.contexts (slot_of ctx))) j number h ctx was fits here word program

turn_by : (j : Joint) (number : ℕ) (h : Hart) (inside : Option ℕ) → JointFits j → HartFits h → IfSome inside IsWord →
    TurnFits (turn_of j number h inside)
unfolding turn_of
turn_by j number h None fits here word = outside_fits j number h fits here
turn_by j number h (Some ctx) fits here word =
    inside_fits j number (ticked h) ctx _ fits (ticked_fits h here) word
    (found_fits j.domains (domain_of ctx) fits.programs)

-- The end of a domain.

settled_for_fits : (d f n : ℕ) (w : World) → WorldFits w → WorldFits (settled_for d f n w)
unfolding settled_for
settled_for_fits d f zero w fits = fits
settled_for_fits d f (suc n) w fits = settled_for_fits d (f + 1) n _ (marked_fits d all_marked f w fits)

end_fits : (d : ℕ) (m : CloakedMemory) → MemoryFits m → WorldFits (ask_end d (Cloaked (cloak_for m d))).world
unfolding ask_end
end_fits d m fits =
    let w = Cloaked (cloak_for m d) in
    forgets_fit d (numbers_below 16) _ (settled_for_fits d 0 (length m.ram) w (record { memory = fits; items = tt }))

ended_program_fits : (domain : Domain) → ProgramFits domain → ProgramFits (ended_domain domain)
unfolding ended_domain
ended_program_fits domain fits = record {
  number = fits.number;
  slots = record { few = omega arith; each = (tt, (tt, (tt, (tt, (tt, (tt, (tt, (tt, tt)))))))) };
  numbers = omega arith;
}

end_domain_fits : (d : ℕ) (domain : Domain) (v : Violation) (t : Turn) → TurnFits t → ProgramFits domain →
    TurnFits (end_domain d domain v t)
unfolding end_domain
end_domain_fits d domain v t fits program =
    let w = (ask_end d (Cloaked (cloak_for t.joint.memory d))).world in
    let e = end_shows d t.joint.memory fits.joint.memory.places in
    let world = end_fits d t.joint.memory fits.joint.memory in
    let m = memory_of_fits w t.joint.memory (ap is_joint e.is) world in
    record {
      joint = record {
        harts = fits.joint.harts;
        disk = fits.joint.disk;
        memory = record { ram = m.ram; plain = m.plain; keys = m.keys; stream = m.stream; places = m.places };
        programs = all_set ProgramFits t.joint.domains d (ended_domain domain) fits.joint.programs
            (ended_program_fits domain program);
      };
      items = each_append IsItem t.items _ fits.items
          (each_append IsItem (items_of w) (item.Ended d ∷ []) (items_of_fits w world) (tt, tt));
    }

refuses_fits : (t : Turn) → TurnFits t → TurnFits (refuses t)
refuses_fits t fits = record {
  joint = record {
    harts = fits.joint.harts;
    disk = fits.joint.disk;
    memory = fits.joint.memory;
    programs = fits.joint.programs;
  };
  items = fits.items;
}

ends_once_fits : (over : Bool) (d : ℕ) (domain : Domain) (v : Violation) (t : Turn) → TurnFits t → ProgramFits domain →
    TurnFits (ends_once over d domain v t)
unfolding ends_once
ends_once_fits true d domain v t fits program = refuses_fits t fits
ends_once_fits false d domain v t fits program = end_domain_fits d domain v t fits program

resumed_end_fits : (found : Option Domain) (d : ℕ) (v : Violation) (t : Turn) → TurnFits t → IfSome found ProgramFits →
    TurnFits (ends_resumed found d v t)
unfolding ends_resumed
resumed_end_fits None d v t fits program = refuses_fits t fits
resumed_end_fits (Some domain) d v t fits program = ends_once_fits domain.control.ended d domain v t fits program

asked_end_fits : (found : Option Domain) (d : ℕ) (v : Violation) (t : Turn) → TurnFits t → IfSome found ProgramFits →
    TurnFits (ends_asked found d v t)
unfolding ends_asked
asked_end_fits None d v t fits program = fits
asked_end_fits (Some domain) d v t fits program = end_domain_fits d domain v t fits program

answers_fits : (inside : Option ℕ) (o : Option Violation) (t : Turn) → TurnFits t → TurnFits (answers_violation inside o t)
unfolding answers_violation
answers_fits inside None t fits = fits
answers_fits None (Some v) t fits =
    resumed_end_fits _ (domain_met v) v t fits (found_fits t.joint.domains (domain_met v) fits.joint.programs)
answers_fits (Some ctx) (Some v) t fits =
    asked_end_fits _ (domain_of ctx) v t fits (found_fits t.joint.domains (domain_of ctx) fits.joint.programs)

pub turn_fits : (m : Moment) → JointFits m.joint → TurnFits (joint_step m)
unfolding joint_step
turn_fits m fits =
    let h : Hart = hart_in m.joint (next_hart m) in
    let here = hart_fits m.joint (next_hart m) fits in
    answers_fits h.inside _ (step_before_end m) (turn_by m.joint (next_hart m) h h.inside fits here here.inside)
