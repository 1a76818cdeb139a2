-- A step of the joint run is the kernel alone's.
use Rattle.std.proofs.Common.{append_assoc, ◌≡◌, ◌∙◌, ◌<◌, ℕ, suc, ◌-◌, ◌%◌, Bool, true, false, cond, List, [], ◌∷◌, ◌++◌, length, slice_get, slice_index, slice_set, Option, Some, None, Result, Ok, Err, is_some, refl, sym, ap, subst, arith, inl, inr}
use Rattle.std.proofs.lemmas.Bool.{false≢true, cases_lt}
use Rattle.std.proofs.lemmas.List.{append-nil, get_or_past, map-append}
use Rattle.cloak_base.specs.declared.causes.Shown.{Shown}
use Rattle.cloak_base.specs.declared.causes.Stop.{Stop}
use Rattle.cloak_base.specs.declared.causes.Stop.TheVariants as stop
use Rattle.cloak_base.specs.declared.causes.Violation.{Violation}
use Rattle.cloak_model.specs.declared.context.ResumeFault.{ResumeFault}
use Rattle.cloak_model.specs.declared.inside.Went.{Went}
use Rattle.cloak_model.specs.declared.inside.Went.TheVariants as went
use Rattle.cloak_model.specs.Items.{Item}
use Rattle.cloak_model.specs.Items as item
use Rattle.cloak_model.specs.declared.outcome.Kernel.{Kernel}
use Rattle.cloak_model.specs.declared.outcome.Kernel.TheVariants.{Put, Halt, Resume, Trapped}
use Rattle.cloak_model.specs.Ahead.{settle_touched, settled_step, made_after, with_shown}
use Rattle.cloak_model.specs.Asking.{Told}
use Rattle.cloak_model.specs.Cloaking.{CloakedMemory, AfterSettling, seen_in, with_seen}
use Rattle.cloak_model.specs.Contexts.{Admitted, context_at, context_number, domain_of, slot_of}
use Rattle.cloak_model.specs.Csr.{satp_of}
use Rattle.cloak_model.specs.DomainState.{Control, Domain}
use Rattle.cloak_model.specs.DomainStep.{DomainStepped}
use Rattle.cloak_model.specs.Hart.{Hart, started}
use Rattle.cloak_model.specs.Hypercalls.{Stepped}
use Rattle.cloak_model.specs.Joint.{Moment, Turn, quiet, next_hart, hart_in, with_hart, cloak_of, cloak_outside, memory_of, outside_ended, after_outside, outside_step, domain_ended, with_domain, after_domain_step, pages_for, interrupt_ended, after_interrupt, by_interrupt, left, not_running, by_running, inside_step, turn_of, domain_met, without_domain_roots, end_domain, refuses, ends_once, ends_resumed, ends_asked, answers_violation, step_before_end, joint_step, stop_of, without_mark}
use Rattle.cloak_model.specs.KernelAlone.{kernel_hart, with_kernel_hart, console_byte, has_halted, after_plain_step, kernel_seen, with_kernel_seen}
use Rattle.cloak_model.specs.KernelStep.{kernel_step, ticked}
use Rattle.cloak_model.specs.Leaving.{leave}
use Rattle.cloak_model.specs.Parts.{Joint, KernelPart, kernel_part}
use Rattle.cloak_model.specs.Resuming.{AfterResume, resume}
use Rattle.cloak_model.proofs.ResumeParts.{by_root, by_context, by_domain}
use Rattle.cloak_model.specs.World.{World, MidStep, Flat, Cloaked, Alone, items_of, cipher_items, seen_of}
use Rattle.std.specs.List.{find}
use Rattle.cloak_model.specs.Ahead.{is_owed}
use Rattle.cloak_model.specs.Ending.{ask_end, cloak_for, ended_domain}
use Rattle.cloak_model.specs.HostCalls.{SteppedKernel}
use Rattle.cloak_model.specs.Resuming.{violated}
use Rattle.cloak_model.specs.StepFrames.{step_frames}
use Rattle.settling_ahead.proofs.Laws.{settles_all}
use Rattle.settling_ahead.proofs.Touching.{reads_touched_alone, writes_touched_alone}
use Rattle.settling_ahead.specs.Touching.{AgreesIn}
use Rattle.kernel_isolation.proofs.Between.{KernelStepIsAlone, hart_behind}
use Rattle.kernel_isolation.proofs.Shown.{AreFrames, frames_stay}
use Rattle.kernel_isolation.proofs.OutsideSteps.{AreInward, HaltsAsStops, shown_part, plain_told, plain_part, outside_step_is_alone}
use Rattle.kernel_isolation.proofs.Settlings.{HasPlaces, ShownBy, length-with_shown, shown_unmarked, frames-append, touched_shown}
use Rattle.settling_ahead.proofs.Planning.{unmarked}
use Rattle.kernel_isolation.proofs.Resumes.{is_resume, marked, resume_keeps}
use Rattle.kernel_isolation.proofs.Ends.{AreOwed, with_shown-apart, find_none, EndsIn, end_shows}
use Rattle.kernel_isolation.proofs.Items.{AreWithin, with_items, with_items-append, length-with_items, within-append, ciphers_within, with_ciphers}
use Rattle.kernel_isolation.proofs.InsideSteps.{after_inside, ticked_hart, staying_step_is_alone, leaving_step_is_alone, left_inside}
use Rattle.kernel_isolation.proofs.Markers.{AreOfStep, of_step-append, ciphers_of_step, inward_of_step, within_of_step}
use Rattle.kernel_isolation.proofs.Accounts.{IsJointWorld, is_joint, Account, ram_seen}
use Rattle.kernel_isolation.proofs.StepAccounts.{accounts_domain_step}
use Rattle.kernel_isolation.proofs.Numbers.{AreFrom, ShowsContext, number_of_context, number_at, set_number, numbers_step, numbers_interrupt, resume_number}
use Rattle.cloak_model.specs.Memory.{Seen, with_mark}
use Rattle.settling_ahead.proofs.Plans.{with_shown-append}

-- What each step keeps of the joint machine.
pub record IsSteady (j : Joint) : Type 0 where
  pub places : HasPlaces j.memory
  pub programs : AreFrom 0 j.domains

-- with these Ciphers and the end of a domain after it, and whether or not it stops the run, a step is the kernel
-- alone's
abbrev pub Extends : List ℕ → ℕ → KernelPart → Turn → Type 0
Extends schedule n k t =
    (ciphers : List (ℕ × List ℕ)) (d : ℕ) (stops : Bool) → AreFrames t.joint.memory.ram ciphers →
    AreOwed t.joint.memory ciphers →
    KernelStepIsAlone schedule n k (t.items ++ (cipher_items ciphers ++ item.Ended d ∷ []))
    (shown_part ciphers (kernel_part t.joint)) stops

-- A step is the kernel alone's.
pub record TurnIsAlone (schedule : List ℕ) (n : ℕ) (j : Joint) (t : Turn) : Type 0 where
  pub alone : KernelStepIsAlone schedule n (kernel_part j) t.items (kernel_part t.joint) (is_some (stop_of t))
  -- none of its items is a marker
  pub items : AreOfStep t.items
  pub steady : IsSteady t.joint
  -- if it met a violation, it is the kernel alone's too with what is shown after it in frames that are owed a page
  pub extends : (v : Violation) → t.violation ≡ Some v → Extends schedule n (kernel_part j) t

-- the same step, told in other words
told_as : (schedule : List ℕ) (n : ℕ) (k : KernelPart) (items items' : List Item) (after after' : KernelPart)
    (stops : Bool) →
    items' ≡ items → after' ≡ after → KernelStepIsAlone schedule n k items after stops →
    KernelStepIsAlone schedule n k items' after' stops
told_as schedule n k items items' after after' stops written part step =
    subst (λ (l : List Item). KernelStepIsAlone schedule n k l after' stops) (sym written)
    (subst (λ (p : KernelPart). KernelStepIsAlone schedule n k items p stops) (sym part) step)

-- Resuming changes nothing that the kernel sees, and writes nothing outward.

record IsUnseen (j : Joint) (r : AfterResume) : Type 0 where
  pub part : kernel_part r.joint ≡ kernel_part j
  pub items : AreInward r.items
  pub steady : IsSteady r.joint
  pub refused : (v : Violation) → r.violation ≡ Some v → r ≡ violated j v

unseen_none : (j : Joint) (violation : Option Violation) → IsSteady j →
    IsUnseen j (record { joint = j; items = []; violation = violation })
unseen_none j violation steady = record {
  part = refl;
  items = tt;
  steady = steady;
  refused = λ v is. ap (λ (o : Option Violation). let r : AfterResume =
      record { joint = j; items = []; violation = o } in r) is;
}

unseen_root : (j : Joint) (satp ctx reply : ℕ) (was : Domain) (control : Control) (admitted : Admitted)
    (answer : Result (Unit {0}) ResumeFault) → IsSteady j → slice_get j.domains (domain_of ctx) ≡ Some was →
    control.number ≡ was.control.number → IsUnseen j (by_root j satp ctx reply was control admitted answer)
unfolding by_root
unseen_root j satp ctx reply was control admitted (Err fault) steady there same = unseen_none j _ steady
unseen_root j satp ctx reply was control admitted (Ok done) steady there same = record {
  part = refl;
  items = (refl, tt);
  steady = record {
    places = steady.places;
    programs = set_number (domain_of ctx) j.domains was (record was { control = control }) steady.programs there same;
  };
  refused = λ v is. let clash : None ≡ Some v = is in absurd cc;
}

unseen_context : (j : Joint) (satp ctx reply : ℕ) (was : Domain) (control : Control)
    (answer : Result (Unit {0}) ResumeFault) → IsSteady j → slice_get j.domains (domain_of ctx) ≡ Some was →
    control.number ≡ was.control.number → IsUnseen j (by_context j satp ctx reply was control answer)
unfolding by_context
unseen_context j satp ctx reply was control (Err fault) steady there same = unseen_none j _ steady
unseen_context j satp ctx reply was control (Ok done) steady there same =
    unseen_root j satp ctx reply was control _ _ steady there same

unseen_domain : (j : Joint) (hart satp ctx reply : ℕ) (found : Option Domain) → IsSteady j →
    slice_get j.domains (domain_of ctx) ≡ found → IsUnseen j (by_domain j hart satp ctx reply found)
unfolding by_domain
unseen_domain j hart satp ctx reply None steady there = unseen_none j _ steady
unseen_domain j hart satp ctx reply (Some was) steady there =
    unseen_context j satp ctx reply was _ _ steady there (resume_number (slot_of ctx) hart reply was.control)

unseen : (j : Joint) (hart satp ctx reply : ℕ) → IsSteady j → IsUnseen j (resume j hart satp ctx reply)
unfolding resume by_domain by_context by_root
unseen j hart satp ctx reply steady = unseen_domain j hart satp ctx reply _ steady refl

-- A hart outside: what its ending makes of the kernel's part, and what it writes.

record EndsAs (j : Joint) (items : List Item) (e : Kernel) (t : Turn) : Type 0 where
  pub others : List Item
  pub written : t.items ≡ items ++ others
  pub inward : AreInward others
  pub part : kernel_part t.joint ≡ record (kernel_part j) { console = j.console ++ console_byte e }
  pub halts : is_some (stop_of t) ≡ false → has_halted e ≡ false
  pub steady : IsSteady t.joint

console_same : (j : Joint) → kernel_part j ≡ record (kernel_part j) { console = j.console ++ [] }
console_same j =
    ap (λ (bytes : List ℕ). let k : KernelPart = record (kernel_part j) { console = bytes } in k)
    (sym (append-nil j.console))

some_either : (b : Bool) (x y : Stop) → is_some (cond b (Some x) (Some y)) ≡ true
some_either true x y = refl
some_either false x y = refl

halt_stops : (j : Joint) (items : List Item) (value : ℕ) →
    is_some (stop_of (record { joint = j; items = items; console = []; violation = None; halt = Some value }))
    ≡ false → false ≡ true
halt_stops j items value none = sym none ∙ some_either j.memory.ledger.missed stop.NoRandom (stop.Halt value)

ends_as : (j : Joint) (number : ℕ) (items : List Item) (e : Kernel) → IsSteady j →
    EndsAs j items e (outside_ended j number items e)
unfolding outside_ended
ends_as j number items (Put b) steady = record {
  others = [];
  written = sym (append-nil items);
  inward = tt;
  part = refl;
  halts = λ none. refl;
  steady = record { places = steady.places; programs = steady.programs };
}
ends_as j number items (Halt value) steady = record {
  others = [];
  written = sym (append-nil items);
  inward = tt;
  part = console_same j;
  halts = λ none. absurd (false≢true (halt_stops j items value none));
  steady = steady;
}
ends_as j number items (Resume ctx reply) steady =
    let r = unseen j number (satp_of (hart_in j number).csrs) ctx reply steady in
    record {
      others = _;
      written = refl;
      inward = r.items;
      part = r.part ∙ console_same j;
      halts = λ none. refl;
      steady = r.steady;
    }
ends_as j number items _ steady = record {
  others = [];
  written = sym (append-nil items);
  inward = tt;
  part = console_same j;
  halts = λ none. refl;
  steady = steady;
}

-- the law of such steps, for the hart of the turn
outside_for : (schedule : List ℕ) (n : ℕ) (k : KernelPart) (ciphers : List (ℕ × List ℕ)) (others : List Item)
    (stops : Bool)
    (number : ℕ) → hart_behind schedule n ≡ number → (kernel_hart k number).inside ≡ None → AreFrames k.ram ciphers →
    AreInward others → HaltsAsStops number (shown_part ciphers k) stops →
    KernelStepIsAlone schedule n k (cipher_items ciphers ++ others) (plain_part number (shown_part ciphers k)) stops
outside_for schedule n k ciphers others stops number same outside frames inward halts =
    subst (λ (x : ℕ).
    (kernel_hart k x).inside ≡ None → HaltsAsStops x (shown_part ciphers k) stops →
    KernelStepIsAlone schedule n k (cipher_items ciphers ++ others) (plain_part x (shown_part ciphers k)) stops) same
    (λ out ends. outside_step_is_alone schedule n k ciphers others stops out frames inward ends) outside halts

-- A resuming that is refused: what is shown after it may as well be shown before its step, which does not touch these
-- frames, writes none, and ends only its hart's reservation.

record IsRefused (j : Joint) (number : ℕ) (s : AfterSettling) (ctx reply : ℕ) : Type 0 where
  pub paid : find (is_owed s.memory) (step_frames (hart_in j number) s.memory.ram j.disk) ≡ None
  pub shown : ShownBy j.memory s.ciphers s.memory
  pub ends : (kernel_step (hart_in j number) j.disk (Flat (seen_in s.memory))).answer.ending ≡ Resume ctx reply

-- what the step tells after what is shown
refused_later : (j : Joint) (number : ℕ) (s : AfterSettling) (ctx reply : ℕ) (c : List (ℕ × List ℕ)) →
    IsRefused j number s ctx reply → AreOwed s.memory c →
    let a = (kernel_step (hart_in j number) j.disk (Flat (seen_in s.memory))).answer in
    let later : Seen = with_shown c (seen_in s.memory) in
    kernel_step (hart_in j number) j.disk (Flat later)
    ≡ record { answer = a; world = Flat (unmarked a.hart.id later) }
refused_later j number s ctx reply c r owed =
    let h = hart_in j number in
    let before : Seen = seen_in s.memory in
    let later : Seen = with_shown c before in
    let apart : Seen = marked before.marks later in
    let agrees : AgreesIn (step_frames h before.ram j.disk) before apart = record {
      count = length-with_shown c before;
      same = λ f there. with_shown-apart s.memory c before f
          (find_none (is_owed s.memory) (step_frames h before.ram j.disk) f r.paid there) owed;
      marks = refl;
    } in
    let same : (kernel_step h j.disk (Flat apart)).answer ≡ (kernel_step h j.disk (Flat before)).answer =
    reads_touched_alone h j.disk before apart agrees in
    let ends : (kernel_step h j.disk (Flat apart)).answer.ending ≡ Resume ctx reply =
    ap (λ (a : SteppedKernel). a.ending) same ∙ r.ends in
    resume_keeps h j.disk apart later.marks (ap is_resume ends)
    ∙ ap (λ (a : SteppedKernel). let t : Told SteppedKernel =
    record { answer = a; world = Flat (unmarked a.hart.id later) } in t) same

-- what it leaves of memory
refused_world : (j : Joint) (number : ℕ) (s : AfterSettling) (ctx reply : ℕ) → IsRefused j number s ctx reply →
    let told = kernel_step (hart_in j number) j.disk (Flat (seen_in s.memory)) in
    told.world ≡ Flat (unmarked told.answer.hart.id (seen_in s.memory))
refused_world j number s ctx reply r =
    ap (λ (told : Told SteppedKernel). told.world)
    (resume_keeps (hart_in j number) j.disk (seen_in s.memory) s.memory.marks (ap is_resume r.ends))

refused_part : (j : Joint) (number : ℕ) (s : AfterSettling) (ctx reply : ℕ) (c : List (ℕ × List ℕ)) →
    IsRefused j number s ctx reply → AreOwed s.memory c →
    let told = kernel_step (hart_in j number) j.disk (Flat (seen_in s.memory)) in
    let after : KernelPart = record {
      harts = slice_set j.harts number told.answer.hart;
      ram = (with_shown c (seen_of told.world)).ram;
      disk = told.answer.disk;
      console = j.console;
      marks = (with_shown c (seen_of told.world)).marks;
    } in
    let again = shown_part (s.ciphers ++ c) (kernel_part j) in
    (after ≡ plain_part number again) × (has_halted (plain_told number again).answer.ending ≡ false)
refused_part j number s ctx reply c r owed =
    let k : KernelPart = kernel_part j in
    let before : Seen = seen_in s.memory in
    let later : Seen = with_shown c before in
    let told = kernel_step (hart_in j number) j.disk (Flat before) in
    let hart : ℕ = told.answer.hart.id in
    let told_later = refused_later j number s ctx reply c r owed in
    let all : with_shown (s.ciphers ++ c) (seen_in j.memory) ≡ later =
    with_shown-append s.ciphers c (seen_in j.memory) ∙ ap (with_shown c) (sym r.shown.seen) in
    let shown : unmarked hart later ≡ with_shown c (seen_of told.world) =
    sym (shown_unmarked hart c before)
    ∙ ap (λ (w : World). with_shown c (seen_of w)) (sym (refused_world j number s ctx reply r)) in
    let made : Seen → KernelPart = λ seen. plain_part number (with_kernel_seen seen k) in
    let with_both : List ℕ → Seen → KernelPart = λ console seen. record {
      harts = slice_set j.harts number told.answer.hart;
      ram = seen.ram;
      disk = told.answer.disk;
      console = console;
      marks = seen.marks;
    } in
    let part : made later ≡ with_both j.console (with_shown c (seen_of told.world)) =
    ap (λ (t : Told SteppedKernel). after_plain_step k number t) told_later
    ∙ ap (λ (e : Kernel). with_both (j.console ++ console_byte e) (unmarked hart later)) r.ends
    ∙ ap (λ (bytes : List ℕ). with_both bytes (unmarked hart later)) (append-nil j.console)
    ∙ ap (with_both j.console) shown in (
      sym part ∙ ap made (sym all),
      ap (λ (seen : Seen). has_halted (plain_told number (with_kernel_seen seen k)).answer.ending) all
          ∙ ap (λ (t : Told SteppedKernel). has_halted t.answer.ending) told_later
          ∙ ap has_halted r.ends,
    )

refused_extends : (schedule : List ℕ) (n : ℕ) (j : Joint) (number : ℕ) (s : AfterSettling) (ctx reply : ℕ)
    (v : Violation) → hart_behind schedule n ≡ number → (hart_in j number).inside ≡ None →
    IsRefused j number s ctx reply →
    let told = kernel_step (hart_in j number) j.disk (Flat (seen_in s.memory)) in
    let after : Joint = record j {
      harts = slice_set j.harts number told.answer.hart;
      disk = told.answer.disk;
      memory = with_seen (seen_of told.world) s.memory;
    } in
    Extends schedule n (kernel_part j)
    (record (quiet after (cipher_items s.ciphers ++ [])) { violation = Some v })
refused_extends schedule n j number s ctx reply v same outside r c d stops frames owed =
    let k : KernelPart = kernel_part j in
    let told = kernel_step (hart_in j number) j.disk (Flat (seen_in s.memory)) in
    let p = refused_part j number s ctx reply c r owed in
    let count : length k.ram ≡ length (seen_of told.world).ram =
    sym (ap (λ (w : World). length (seen_of w).ram) (refused_world j number s ctx reply r)
    ∙ ap (λ (x : Seen). length x.ram) r.shown.seen ∙ length-with_shown s.ciphers (kernel_seen k)) in
    let all : AreFrames k.ram (s.ciphers ++ c) =
    frames-append k.ram s.ciphers c r.shown.frames (frames_stay (seen_of told.world).ram k.ram c count frames) in
    let items : (cipher_items s.ciphers ++ []) ++ (cipher_items c ++ item.Ended d ∷ [])
    ≡ cipher_items (s.ciphers ++ c) ++ item.Ended d ∷ [] =
    ap (λ (l : List Item). l ++ (cipher_items c ++ item.Ended d ∷ [])) (append-nil (cipher_items s.ciphers))
    ∙ sym (append_assoc (cipher_items s.ciphers) (cipher_items c) (item.Ended d ∷ []))
    ∙ ap (λ (l : List Item). l ++ item.Ended d ∷ [])
    (sym (map-append (λ (x : ℕ × List ℕ). item.Cipher x.0 x.1) s.ciphers c)) in
    told_as schedule n k (cipher_items (s.ciphers ++ c) ++ item.Ended d ∷ []) _ _ _ stops items p.0
    (outside_for schedule n k (s.ciphers ++ c) (item.Ended d ∷ []) stops number same outside all (refl, tt)
    (λ goes. p.1))

ends_extends : (schedule : List ℕ) (n : ℕ) (j : Joint) (number : ℕ) (s : AfterSettling) (e : Kernel) →
    hart_behind schedule n ≡ number → (hart_in j number).inside ≡ None → ShownBy j.memory s.ciphers s.memory →
    find (is_owed s.memory) (step_frames (hart_in j number) s.memory.ram j.disk) ≡ None →
    let told = kernel_step (hart_in j number) j.disk (Flat (seen_in s.memory)) in
    told.answer.ending ≡ e →
    let after : Joint = record j {
      harts = slice_set j.harts number told.answer.hart;
      disk = told.answer.disk;
      memory = with_seen (seen_of told.world) s.memory;
    } in
    IsSteady after →
    let t : Turn = outside_ended after number (cipher_items s.ciphers) e in
    (v : Violation) → t.violation ≡ Some v → Extends schedule n (kernel_part j) t
unfolding outside_ended
ends_extends schedule n j number s Trapped same outside shown paid is steady v met =
    let clash : None ≡ Some v = met in absurd cc
ends_extends schedule n j number s (Resume ctx reply) same outside shown paid is steady v met =
    let told = kernel_step (hart_in j number) j.disk (Flat (seen_in s.memory)) in
    let after : Joint = record j {
      harts = slice_set j.harts number told.answer.hart;
      disk = told.answer.disk;
      memory = with_seen (seen_of told.world) s.memory;
    } in
    let r : AfterResume = resume after number (satp_of (hart_in after number).csrs) ctx reply in
    let u : IsUnseen after r = unseen after number (satp_of (hart_in after number).csrs) ctx reply steady in
    subst (λ (x : AfterResume). Extends schedule n (kernel_part j)
    (record (quiet x.joint (cipher_items s.ciphers ++ x.items)) { violation = x.violation })) (sym (u.refused v met))
    (refused_extends schedule n j number s ctx reply v same outside
    (record { paid = paid; shown = shown; ends = is }))
ends_extends schedule n j number s _ same outside shown paid is steady v met = let clash : None ≡ Some v = met in absurd cc

-- the step, by the settling ahead of it
outside_by : (schedule : List ℕ) (n : ℕ) (j : Joint) (number : ℕ) (s : AfterSettling) →
    hart_behind schedule n ≡ number →
    IsSteady j → (hart_in j number).inside ≡ None → ShownBy j.memory s.ciphers s.memory →
    find (is_owed s.memory) (step_frames (hart_in j number) s.memory.ram j.disk) ≡ None →
    TurnIsAlone schedule n j
    (after_outside j number (made_after (hart_in j number) j.disk (cloak_outside j.memory (hart_in j number)) s))
unfolding after_outside made_after
outside_by schedule n j number s same steady outside shown paid =
    let h = hart_in j number in
    let k : KernelPart = kernel_part j in
    let told = kernel_step h j.disk (Flat (seen_in s.memory)) in
    let after : Joint = record {
      harts = slice_set j.harts number told.answer.hart;
      disk = told.answer.disk;
      console = j.console;
      memory = with_seen (seen_of told.world) s.memory;
      domains = j.domains;
      ended = j.ended;
      refused = j.refused;
    } in
    let items : List Item = cipher_items s.ciphers in
    let count = (writes_touched_alone h j.disk (seen_in s.memory)).count in
    let steady' : IsSteady after = record {
      places = shown.places ∙ (sym count ∙ ap length (ram_seen told.world));
      programs = steady.programs;
    } in
    let t : Turn = outside_ended after number items told.answer.ending in
    let e : EndsAs after items told.answer.ending t = ends_as after number items told.answer.ending steady' in
    let stops = is_some (stop_of t) in
    let made = λ (seen : Seen). plain_part number (with_kernel_seen seen k) in
    let part : kernel_part t.joint ≡ made (with_shown s.ciphers (kernel_seen k)) = e.part ∙ ap made shown.seen in
    let halts = subst (λ (seen : Seen). HaltsAsStops number (with_kernel_seen seen k) stops) shown.seen e.halts in
    record {
      alone = told_as schedule n k (items ++ e.others) t.items _ (kernel_part t.joint) stops e.written part
          (outside_for schedule n k s.ciphers e.others stops number same outside shown.frames e.inward halts);
      items = subst AreOfStep (sym e.written)
          (of_step-append items e.others (ciphers_of_step s.ciphers) (inward_of_step e.others e.inward));
      steady = e.steady;
      extends = λ v met. ends_extends schedule n j number s told.answer.ending same outside shown paid refl steady' v met;
    }

outside_turn : (schedule : List ℕ) (n : ℕ) (j : Joint) (number : ℕ) → hart_behind schedule n ≡ number → IsSteady j →
    (hart_in j number).inside ≡ None → TurnIsAlone schedule n j (outside_step j number (hart_in j number))
unfolding outside_step settled_step
outside_turn schedule n j number same steady outside =
    let h = hart_in j number in
    outside_by schedule n j number (settle_touched h j.disk j.memory) same steady outside
    (touched_shown h j.disk j.memory steady.places) (settles_all h j.disk j.memory)

-- A hart inside.

-- the joint machine after the items of a step inside
record IsReached (j j' : Joint) (items : List Item) : Type 0 where
  pub within : AreWithin j.memory.ram items
  pub part : kernel_part j' ≡ with_kernel_seen (with_items items (seen_in j.memory)) (kernel_part j)
  pub steady : IsSteady j'

-- the hart that makes the step
record IsInside (schedule : List ℕ) (n : ℕ) (j : Joint) (number ctx : ℕ) : Type 0 where
  pub turn : hart_behind schedule n ≡ number
  pub inside : (hart_in j number).inside ≡ Some ctx

there_by : (harts : List Hart) (number ctx : ℕ) → (started 0 0).inside ≡ None →
    (kernel_hart (record { harts = harts; ram = []; disk = []; console = []; marks = [] }) number).inside ≡ Some ctx →
    number < length harts
there_by harts number ctx none inside = elim (cases_lt number (length harts)) [
  | inl lt ↦ lt
  | inr ge ↦
      let clash : None ≡ Some ctx = sym none
      ∙ (ap (λ (h : Hart). h.inside) (sym (get_or_past harts number (started 0 0) ge)) ∙ inside) in
      absurd cc
]

started_outside : (started 0 0).inside ≡ None
unfolding started
started_outside = refl

stays_on : (schedule : List ℕ) (n : ℕ) (j j' : Joint) (number ctx : ℕ) (items : List Item) (t : Turn) →
    IsInside schedule n j number ctx → IsReached j j' items → t.items ≡ items →
    t.joint ≡ with_hart number (ticked (hart_in j number)) j' → Extends schedule n (kernel_part j) t
stays_on schedule n j j' number ctx items t inside reached written joint c d stops frames owed =
    let k : KernelPart = kernel_part j in
    let h = ticked (hart_in j number) in
    let more : List Item = cipher_items c ++ item.Ended d ∷ [] in
    let seen : seen_in t.joint.memory ≡ with_items items (kernel_seen k) =
    ap (λ (x : Joint). seen_in x.memory) joint ∙ ap (λ (p : KernelPart). kernel_seen p) reached.part in
    let part : kernel_part t.joint ≡ after_inside number h items k =
    ap (λ (x : Joint). kernel_part x) joint ∙ ap (with_kernel_hart number h) reached.part in
    let shown : with_shown c (with_items items (kernel_seen k)) ≡ with_items (items ++ more) (kernel_seen k) =
    sym (with_items-append items more (kernel_seen k)
    ∙ with_items-append (cipher_items c) (item.Ended d ∷ []) (with_items items (kernel_seen k))
    ∙ with_ciphers c (with_items items (kernel_seen k))) in
    let count : length k.ram ≡ length t.joint.memory.ram =
    sym (ap (λ (x : Seen). length x.ram) seen ∙ length-with_items items (kernel_seen k)) in
    let within : AreWithin k.ram (items ++ more) =
    within-append k.ram items more reached.within
    (within-append k.ram (cipher_items c) (item.Ended d ∷ [])
    (ciphers_within k.ram c (frames_stay t.joint.memory.ram k.ram c count frames)) (refl, tt)) in
    let step = subst (λ (x : ℕ). (kernel_hart k x).inside ≡ Some ctx →
    KernelStepIsAlone schedule n k (items ++ more) (after_inside x (ticked_hart x k) (items ++ more) k) stops) inside.turn
    (λ in'. staying_step_is_alone schedule n ctx k (items ++ more) stops in' within) inside.inside in
    told_as schedule n k (items ++ more) (t.items ++ more) _ (shown_part c (kernel_part t.joint)) stops
    (ap (λ (l : List Item). l ++ more) written)
    (ap (shown_part c) part
    ∙ ap (λ (x : Seen). with_kernel_seen x (with_kernel_hart number h k)) shown) step

staying : (schedule : List ℕ) (n : ℕ) (j j' : Joint) (number ctx : ℕ) (items : List Item) (t : Turn) →
    IsInside schedule n j number ctx → IsReached j j' items → t.items ≡ items →
    t.joint ≡ with_hart number (ticked (hart_in j number)) j' → TurnIsAlone schedule n j t
staying schedule n j j' number ctx items t inside reached written joint =
    let k : KernelPart = kernel_part j in
    let h = ticked (hart_in j number) in
    let stops = is_some (stop_of t) in
    let part : kernel_part t.joint ≡ after_inside number h items k =
    ap (λ (x : Joint). kernel_part x) joint ∙ ap (with_kernel_hart number h) reached.part in
    let step = subst (λ (x : ℕ). (kernel_hart k x).inside ≡ Some ctx →
    KernelStepIsAlone schedule n k items (after_inside x (ticked_hart x k) items k) stops) inside.turn
    (λ in'. staying_step_is_alone schedule n ctx k items stops in' reached.within) inside.inside in
    record {
      alone = told_as schedule n k items t.items _ (kernel_part t.joint) stops written part step;
      items = subst AreOfStep (sym written) (within_of_step j.memory.ram items reached.within);
      steady = subst IsSteady (sym joint) (record {
        places = reached.steady.places;
        programs = reached.steady.programs;
      });
      extends = λ v met. stays_on schedule n j j' number ctx items t inside reached written joint;
    }

leaving : (schedule : List ℕ) (n : ℕ) (j j' : Joint) (number ctx : ℕ) (items : List Item) (s : Shown) (t : Turn) →
    IsInside schedule n j number ctx → IsReached j j' items → s.ctx ≡ ctx → t.items ≡ items ++ item.Leave s ∷ [] →
    t.joint
    ≡ with_hart number (leave (ticked (hart_in j number)) s) (record j' { memory = without_mark number j'.memory }) →
    t.violation ≡ None → TurnIsAlone schedule n j t
leaving schedule n j j' number ctx items s t inside reached same written joint none =
    let k : KernelPart = kernel_part j in
    let h = leave (ticked (hart_in j number)) s in
    let stops = is_some (stop_of t) in
    let lt = there_by j.harts number ctx started_outside inside.inside in
    let in_ctx : (hart_in j number).inside ≡ Some s.ctx = inside.inside ∙ ap (λ (c : ℕ). Some c) (sym same) in
    let part : kernel_part t.joint ≡ left_inside number h items k =
    ap (λ (x : Joint). kernel_part x) joint
    ∙ ap (λ (p : KernelPart). with_kernel_hart number h (record p { marks = with_mark number None p.marks }))
    reached.part in
    let step = subst (λ (x : ℕ). x < length k.harts → (kernel_hart k x).inside ≡ Some s.ctx →
    KernelStepIsAlone schedule n k (items ++ item.Leave s ∷ [])
    (left_inside x (leave (ticked_hart x k) s) items k) stops)
    inside.turn (λ low in'. leaving_step_is_alone schedule n k items s stops low in' reached.within) lt in_ctx in
    record {
      alone = told_as schedule n k (items ++ item.Leave s ∷ []) t.items _ (kernel_part t.joint) stops written part step;
      items = subst AreOfStep (sym written)
          (of_step-append items (item.Leave s ∷ []) (within_of_step j.memory.ram items reached.within) (refl, tt));
      steady = subst IsSteady (sym joint) (record {
        places = reached.steady.places;
        programs = reached.steady.programs;
      });
      extends = λ v met. let clash : None ≡ Some v = sym none ∙ met in absurd cc;
    }

-- A program's step.

domain_turn : (schedule : List ℕ) (n : ℕ) (j j' : Joint) (number ctx d : ℕ) (w : World) (how : Went)
    (items : List Item) →
    IsInside schedule n j number ctx → IsReached j j' items → items_of w ≡ items → ShowsContext ctx how →
    TurnIsAlone schedule n j (domain_ended j' number (ticked (hart_in j number)) d w how)
unfolding domain_ended
domain_turn schedule n j j' number ctx d w (went.Leave s) items inside reached written shows =
    leaving schedule n j j' number ctx items s _ inside reached shows
    (ap (λ (l : List Item). l ++ item.Leave s ∷ []) written) refl refl
domain_turn schedule n j j' number ctx d w (went.SpaceGone space s) items inside reached written shows =
    leaving schedule n j _ number ctx items s _ inside
    (record {
      within = reached.within;
      part = reached.part;
      steady = record { places = reached.steady.places; programs = reached.steady.programs };
    })
    shows (ap (λ (l : List Item). l ++ item.Leave s ∷ []) written) refl refl
domain_turn schedule n j j' number ctx d w _ items inside reached written shows =
    staying schedule n j j' number ctx items _ inside reached written refl

pub memory_ram : (w : World) (m : CloakedMemory) → is_joint w ≡ true → seen_in (memory_of w m) ≡ seen_of w
memory_ram (Alone h) m form = absurd (false≢true form)
memory_ram _ m form = refl

pub memory_places : (w : World) (m : CloakedMemory) → IsJointWorld w → HasPlaces (memory_of w m)
memory_places (Cloaked c) m joint = joint.places
memory_places _ m joint = absurd (false≢true joint.form)

-- what a program's step told has come about
told_turn : (schedule : List ℕ) (n : ℕ) (j : Joint) (number ctx d : ℕ) (was : Domain) (c : MidStep)
    (told : Told DomainStepped) →
    IsInside schedule n j number ctx → IsSteady j → slice_get j.domains d ≡ Some was → c.memory ≡ j.memory →
    c.items ≡ [] →
    Account (Cloaked c) told.world → told.answer.domain.control.number ≡ was.control.number →
    ShowsContext ctx told.answer.went →
    TurnIsAlone schedule n j (after_domain_step j number (ticked (hart_in j number)) d told)
unfolding after_domain_step
told_turn schedule n j number ctx d was c told inside steady there memory none account number' shows =
    let j' : Joint = record (with_domain d told.answer.domain j) { memory = memory_of told.world j.memory } in
    let seen : seen_in (memory_of told.world j.memory) ≡ with_items account.items (seen_in j.memory) =
    memory_ram told.world j.memory account.joint.form
    ∙ (account.seen ∙ ap (λ (m : CloakedMemory). with_items account.items (seen_in m)) memory) in
    let reached : IsReached j j' account.items = record {
      within = subst (λ (m : CloakedMemory). AreWithin m.ram account.items) memory account.within;
      part = ap (λ (x : Seen). with_kernel_seen x (kernel_part j)) seen;
      steady = record {
        places = memory_places told.world j.memory account.joint;
        programs = set_number d j.domains was told.answer.domain steady.programs there number';
      };
    } in
    let written : items_of told.world ≡ account.items = account.written
    ∙ ap (λ (l : List Item). l ++ account.items) none in
    domain_turn schedule n j j' number ctx d told.world told.answer.went account.items inside reached written shows

-- Interrupts.

interrupt_turn : (schedule : List ℕ) (n : ℕ) (j j' : Joint) (number ctx : ℕ) (how : Went) (items : List Item) →
    IsInside schedule n j number ctx → IsReached j j' items → ShowsContext ctx how →
    TurnIsAlone schedule n j (interrupt_ended j' number (ticked (hart_in j number)) items how)
unfolding interrupt_ended
interrupt_turn schedule n j j' number ctx (went.Leave s) items inside reached shows =
    leaving schedule n j j' number ctx items s _ inside reached shows refl refl refl
interrupt_turn schedule n j j' number ctx _ items inside reached shows =
    staying schedule n j j' number ctx items _ inside reached refl refl

after_interrupt_turn : (schedule : List ℕ) (n : ℕ) (j : Joint) (number ctx d : ℕ) (was : Domain) (step : Stepped) →
    IsInside schedule n j number ctx → IsSteady j → slice_get j.domains d ≡ Some was →
    step.control.number ≡ was.control.number → ShowsContext ctx step.went →
    TurnIsAlone schedule n j (after_interrupt j number (ticked (hart_in j number)) d was step)
unfolding after_interrupt
after_interrupt_turn schedule n j number ctx d was step inside steady there same shows =
    interrupt_turn schedule n j _ number ctx step.went (item.Timer d ∷ []) inside
    (record {
      within = (refl, tt);
      part = refl;
      steady = record {
        places = steady.places;
        programs = set_number d j.domains was (record was { control = step.control }) steady.programs there same;
      };
    }) shows

-- the number of the context that steps is the one that the hart runs
shows_own : (ctx : ℕ) (was : Domain) (how : Went) → was.control.number ≡ domain_of ctx →
    ShowsContext (context_number was.control.number (slot_of ctx)) how → ShowsContext ctx how
shows_own ctx was how same shows =
    subst (λ (x : ℕ). ShowsContext x how)
    (ap (λ (d : ℕ). context_number d (slot_of ctx)) same ∙ number_of_context ctx) shows

domain_of_turn : (schedule : List ℕ) (n : ℕ) (due : Bool) (j : Joint) (number ctx : ℕ) (was : Domain) →
    IsInside schedule n j number ctx → IsSteady j → slice_get j.domains (domain_of ctx) ≡ Some was →
    TurnIsAlone schedule n j (by_interrupt due j number (ticked (hart_in j number)) (domain_of ctx) (slot_of ctx) was)
unfolding by_interrupt
domain_of_turn schedule n true j number ctx was inside steady there =
    let own = number_at (domain_of ctx) j.domains was steady.programs there in
    let keeps = numbers_interrupt (slot_of ctx) was.control in
    after_interrupt_turn schedule n j number ctx (domain_of ctx) was _ inside steady there keeps.number
    (shows_own ctx was _ own keeps.shows)
domain_of_turn schedule n false j number ctx was inside steady there =
    let own = number_at (domain_of ctx) j.domains was steady.programs there in
    let c : MidStep = cloak_of j.memory (ticked (hart_in j number)) (domain_of ctx)
    (pages_for was (context_at was.control.contexts (slot_of ctx))) in
    let keeps = numbers_step (slot_of ctx) was (Cloaked c) in
    let account = (accounts_domain_step (slot_of ctx) was (Cloaked c)).by
    (record { form = refl; places = steady.places }) in
    told_turn schedule n j number ctx (domain_of ctx) was c _ inside steady there refl refl account keeps.number
    (shows_own ctx was _ own keeps.shows)

-- a hart leaves a context that does not run on it
not_running_turn : (schedule : List ℕ) (n : ℕ) (j : Joint) (number ctx : ℕ) → IsInside schedule n j number ctx →
    IsSteady j → TurnIsAlone schedule n j (left j number (ticked (hart_in j number)) [] (not_running ctx))
not_running_turn schedule n j number ctx inside steady =
    leaving schedule n j j number ctx [] (not_running ctx) _ inside (record { within = tt; part = refl; steady = steady })
    refl refl refl refl

running_turn : (schedule : List ℕ) (n : ℕ) (runs : Bool) (j : Joint) (number ctx : ℕ) (was : Domain) →
    IsInside schedule n j number ctx → IsSteady j → slice_get j.domains (domain_of ctx) ≡ Some was →
    TurnIsAlone schedule n j (by_running runs j number (ticked (hart_in j number)) ctx was)
unfolding by_running
running_turn schedule n false j number ctx was inside steady there =
    not_running_turn schedule n j number ctx inside steady
running_turn schedule n true j number ctx was inside steady there =
    domain_of_turn schedule n _ j number ctx was inside steady there

inside_turn : (schedule : List ℕ) (n : ℕ) (j : Joint) (number ctx : ℕ) (found : Option Domain) →
    IsInside schedule n j number ctx → IsSteady j → slice_get j.domains (domain_of ctx) ≡ found →
    TurnIsAlone schedule n j (inside_step j number (ticked (hart_in j number)) ctx found)
unfolding inside_step
inside_turn schedule n j number ctx None inside steady there = not_running_turn schedule n j number ctx inside steady
inside_turn schedule n j number ctx (Some was) inside steady there =
    running_turn schedule n _ j number ctx was inside steady there

-- Every step.

turn_by : (schedule : List ℕ) (n : ℕ) (j : Joint) (number : ℕ) (inside : Option ℕ) → hart_behind schedule n ≡ number →
    IsSteady j → (hart_in j number).inside ≡ inside → TurnIsAlone schedule n j
    (turn_of j number (hart_in j number) inside)
unfolding turn_of
turn_by schedule n j number None same steady is = outside_turn schedule n j number same steady is
turn_by schedule n j number (Some ctx) same steady is =
    inside_turn schedule n j number ctx _ (record { turn = same; inside = is }) steady refl

-- The end of a domain after a step.

refused_alone : (schedule : List ℕ) (n : ℕ) (j : Joint) (t : Turn) → TurnIsAlone schedule n j t → (v : Violation) →
    t.violation ≡ Some v → TurnIsAlone schedule n j (refuses t)
refused_alone schedule n j t turn v met = record {
  alone = turn.alone;
  items = turn.items;
  steady = record { places = turn.steady.places; programs = turn.steady.programs };
  extends = λ v' met' c d stops frames owed. turn.extends v' met' c d stops frames owed;
}

-- a step that a domain's end follows, which nothing else may follow
pub record EndedIsAlone (schedule : List ℕ) (n : ℕ) (j : Joint) (t : Turn) : Type 0 where
  pub alone : KernelStepIsAlone schedule n (kernel_part j) t.items (kernel_part t.joint) (is_some (stop_of t))
  pub items : AreOfStep t.items
  pub steady : IsSteady t.joint

whole : (schedule : List ℕ) (n : ℕ) (j : Joint) (t : Turn) → TurnIsAlone schedule n j t → EndedIsAlone schedule n j t
whole schedule n j t turn = record { alone = turn.alone; items = turn.items; steady = turn.steady }

end_alone : (schedule : List ℕ) (n : ℕ) (j : Joint) (t : Turn) (d : ℕ) (domain : Domain) (v : Violation) →
    TurnIsAlone schedule n j t → t.violation ≡ Some v → slice_get t.joint.domains d ≡ Some domain →
    EndedIsAlone schedule n j (end_domain d domain v t)
unfolding end_domain ended_domain
end_alone schedule n j t d domain v turn met there =
    let e : EndsIn (cloak_for t.joint.memory d) (ask_end d (Cloaked (cloak_for t.joint.memory d))).world =
    end_shows d t.joint.memory turn.steady.places in
    let ended : World → Turn = λ w. record t {
      joint = record (with_domain d (ended_domain domain) t.joint) {
        memory = without_domain_roots d (memory_of w t.joint.memory);
        ended = slice_set t.joint.ended d (Some v);
      };
      items = t.items ++ (items_of w ++ item.Ended d ∷ []);
    } in
    subst (λ (w : World). EndedIsAlone schedule n j (ended w)) (sym e.is)
    (let more : List Item = cipher_items e.shows.ciphers ++ item.Ended d ∷ [] in
    let stops = is_some (stop_of (ended (Cloaked e.after))) in
    record {
      alone = told_as schedule n (kernel_part j) (t.items ++ more) _ _ (kernel_part (ended (Cloaked e.after)).joint) stops
          (ap (λ (l : List Item). t.items ++ (l ++ item.Ended d ∷ [])) e.shows.items)
          (ap (λ (x : Seen). with_kernel_seen x (kernel_part t.joint)) e.shows.shown.seen)
          (turn.extends v met e.shows.ciphers d stops e.shows.shown.frames e.shows.owed);
      items = of_step-append t.items (e.after.items ++ item.Ended d ∷ []) turn.items
          (subst (λ (l : List Item). AreOfStep (l ++ item.Ended d ∷ [])) (sym e.shows.items)
          (of_step-append (cipher_items e.shows.ciphers) (item.Ended d ∷ []) (ciphers_of_step e.shows.ciphers) (refl, tt)));
      steady = record {
        places = e.shows.shown.places;
        programs = set_number d t.joint.domains domain (ended_domain domain) turn.steady.programs there refl;
      };
    })

ends_once_alone : (schedule : List ℕ) (n : ℕ) (j : Joint) (t : Turn) (ended : Bool) (domain : Domain) (d : ℕ)
    (v : Violation) → TurnIsAlone schedule n j t → t.violation ≡ Some v → slice_get t.joint.domains d ≡ Some domain →
    EndedIsAlone schedule n j (ends_once ended d domain v t)
unfolding ends_once
ends_once_alone schedule n j t true domain d v turn met there =
    whole schedule n j (refuses t) (refused_alone schedule n j t turn v met)
ends_once_alone schedule n j t false domain d v turn met there = end_alone schedule n j t d domain v turn met there

resumed_alone : (schedule : List ℕ) (n : ℕ) (j : Joint) (t : Turn) (found : Option Domain) (d : ℕ) (v : Violation) →
    TurnIsAlone schedule n j t → t.violation ≡ Some v → slice_get t.joint.domains d ≡ found →
    EndedIsAlone schedule n j (ends_resumed found d v t)
unfolding ends_resumed
resumed_alone schedule n j t None d v turn met there =
    whole schedule n j (refuses t) (refused_alone schedule n j t turn v met)
resumed_alone schedule n j t (Some domain) d v turn met there =
    ends_once_alone schedule n j t domain.control.ended domain d v turn met there

asked_alone : (schedule : List ℕ) (n : ℕ) (j : Joint) (t : Turn) (found : Option Domain) (d : ℕ) (v : Violation) →
    TurnIsAlone schedule n j t → t.violation ≡ Some v → slice_get t.joint.domains d ≡ found →
    EndedIsAlone schedule n j (ends_asked found d v t)
unfolding ends_asked
asked_alone schedule n j t None d v turn met there = whole schedule n j t turn
asked_alone schedule n j t (Some domain) d v turn met there = end_alone schedule n j t d domain v turn met there

answers_alone : (schedule : List ℕ) (n : ℕ) (j : Joint) (t : Turn) (inside : Option ℕ) (o : Option Violation) →
    TurnIsAlone schedule n j t → t.violation ≡ o → EndedIsAlone schedule n j (answers_violation inside o t)
unfolding answers_violation
answers_alone schedule n j t inside None turn met = whole schedule n j t turn
answers_alone schedule n j t None (Some v) turn met = resumed_alone schedule n j t _ (domain_met v) v turn met refl
answers_alone schedule n j t (Some ctx) (Some v) turn met = asked_alone schedule n j t _ (domain_of ctx) v turn met refl

pub turn_is_alone : (m : Moment) → IsSteady m.joint → EndedIsAlone m.schedule m.steps m.joint (joint_step m)
unfolding joint_step
turn_is_alone m steady =
    let before : suc m.steps - 1 ≡ m.steps = omega arith in
    answers_alone m.schedule m.steps m.joint (step_before_end m) (hart_in m.joint (next_hart m)).inside _
    (turn_by m.schedule m.steps m.joint (next_hart m) _
    (ap (λ (n : ℕ). slice_index m.schedule (n % length m.schedule)) before) steady refl) refl
