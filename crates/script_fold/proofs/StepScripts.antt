-- Each hypercall, and each step of a program, is a script.
use Rattle.std.proofs.Common.{◌≡◌, ◌∙◌, ℕ, Bool, true, false, cond, Option, Some, None, Result, Ok, Err, refl, ap, sym, subst}
use Rattle.std.specs.Prelude.{is_some, unwrap_or}
use Rattle.cloak_model.specs.declared.inside.Forked.{Forked}
use Rattle.cloak_model.specs.declared.inside.Forked.TheVariants as forked
use Rattle.cloak_base.specs.declared.names.HartId.{HartId}
use Rattle.cloak_model.specs.declared.context.Phase.{Phase}
use Rattle.cloak_model.specs.declared.context.Phase.TheVariants.{Plain, CopyIn, Waiting, CopyOut}
use Rattle.cloak_model.specs.declared.inside.Copied.{Copied}
use Rattle.cloak_model.specs.declared.inside.Copied.TheVariants as copied
use Rattle.cloak_model.specs.declared.inside.Ended.{Ended}
use Rattle.cloak_model.specs.declared.inside.Ended.TheVariants as ends
use Rattle.cloak_model.specs.declared.inside.Ran.{Ran}
use Rattle.cloak_model.specs.declared.inside.Ran.TheVariants as ran
use Rattle.cloak_model.specs.declared.inside.Went.{Went}
use Rattle.cloak_model.specs.declared.inside.Went.TheVariants as went
use Rattle.cloak_model.specs.declared.inside.Begun.{Begun}
use Rattle.cloak_model.specs.declared.inside.Begun.TheVariants as begun
use Rattle.cloak_model.specs.declared.resource.MapFault.{MapFault}
use Rattle.cloak_model.specs.declared.resource.MapFault.TheVariants.{Full}
use Rattle.cloak_model.specs.Script.{Script, Gives, ◌>>=◌}
use Rattle.cloak_model.specs.Resources.{Resources, first_free}
use Rattle.cloak_model.specs.Contexts.{Context, context_at, context_number, moved_on, has_buffer, with_context, new_context}
use Rattle.cloak_model.specs.InsideStep as inside
use Rattle.cloak_model.specs.Calls as calls
use Rattle.cloak_model.proofs.CallParts as call_parts
use Rattle.cloak_model.specs.Fork as forks
use Rattle.cloak_model.specs.DomainState.{Control, Domain}
use Rattle.cloak_model.specs.Hypercalls as hyper
use Rattle.cloak_model.specs.DomainStep as steps
use Rattle.cloak_model.specs.DomainAlone.{is_hart, runs_on}
use Rattle.script_fold.proofs.Runs.{runs_in, MovesSlot, RunsTheSame, IsOnAs, slot_kept, slot_goes_on, slot_left, slot_ended, free_taken, has_left, slot_written}
use Rattle.script_fold.proofs.Scripts.{EndClaims, IsStop, Scripted, provided, scripted_under, scripted_gives, scripted_then, ChangesOnly, stop_then, only_then}
use Rattle.script_fold.proofs.InstructionScripts.{RunsOn, of_instruction, instruction_scripted}
use Rattle.script_fold.proofs.CopyScripts.{GoesOn, of_copy, copy_in_scripted, copy_out_scripted}
use Rattle.script_fold.proofs.ForkScripts.{HasForked, HasEnded, of_fork, fork_scripted, of_end, end_scripted}
use Rattle.cloak_model.specs.declared.context.PageWord.{PageWord}

-- Hypercalls.

-- a step that did not stop
abbrev pub HasGone : Went → Type 0
HasGone went.Stay = Unit {0}
HasGone (went.Leave s) = Unit {0}
HasGone went.Stopped = ⊥
HasGone (went.SpaceGone space s) = Unit {0}
HasGone (went.Remapped space) = Unit {0}

abbrev pub of_stepped : ℕ → Control → EndClaims hyper.Stepped
of_stepped slot d = record {
  each = λ s. MovesSlot slot (has_left s.went) d s.control;
  stopped = λ s. s.went ≡ went.Stopped;
  changed = λ s. HasGone s.went;
}

same_control : (d : Control) → RunsTheSame d d
same_control d = record { number = refl; each = λ hart s. refl }

answers_moves : (slot : ℕ) (c : Context) (value : ℕ) (d d' : Control) → IsOnAs slot c d → RunsTheSame d d' →
    MovesSlot slot false d (hyper.answers_word slot c value d').control
answers_moves slot c value d d' on same = slot_goes_on slot (hyper.with_answer c value) d d' on same

with_resources : (d : Control) (r : Resources) → RunsTheSame d (record d { resources = r })
with_resources d r = record { number = refl; each = λ hart s. refl }

-- a hypercall that asks nothing moves its slot so
abbrev MovesSo : ℕ → Control → hyper.Stepped → Type 0
MovesSo slot d s = MovesSlot slot (has_left s.went) d s.control

remapped_moves : (slot : ℕ) (c : Context) (answer : Result (Unit {0}) MapFault) (d d' : Control) → IsOnAs slot c d →
    RunsTheSame d d' →
    MovesSo slot d (hyper.remapped slot c answer d')
unfolding hyper.remapped
remapped_moves slot c (Ok done) d d' on same = answers_moves slot c 0 d d' on same
remapped_moves slot c (Err fault) d d' on same = answers_moves slot c (hyper.fault_word fault) d d' on same

thread_at_moves : (slot : ℕ) (c : Context) (free : Option ℕ) (d : Control) → IsOnAs slot c d →
    first_free d.contexts ≡ free →
    MovesSo slot d (hyper.thread_at slot c free d)
unfolding hyper.thread_at
thread_at_moves slot c None d on is = answers_moves slot c (hyper.fault_word Full) d d on (same_control d)
thread_at_moves slot c (Some free) d on is =
    let new = new_context c.space _ _ _ in
    answers_moves slot c (context_number d.number free) d (hyper.with_slot free new d) on
    (record {
      number = refl;
      each = λ hart s.
          subst (λ (n : ℕ). runs_in hart (with_context n new d.contexts) s ≡ runs_in hart d.contexts s)
          (ap (λ (o : Option ℕ). unwrap_or o 0) is)
          (free_taken new d.contexts refl (ap is_some is) hart s);
    })

either_moves : (slot : ℕ) (d : Control) (test : Bool) (s t : hyper.Stepped) → MovesSo slot d s → MovesSo slot d t →
    MovesSo slot d (cond test s t)
either_moves slot d true s t first second = first
either_moves slot d false s t first second = second

thread_moves : (slot : ℕ) (c : Context) (d : Control) → IsOnAs slot c d → MovesSo slot d (hyper.thread_call slot c d)
unfolding hyper.thread_call
thread_moves slot c d on =
    either_moves slot d _ (hyper.thread_at slot c (first_free d.contexts) d) _
    (thread_at_moves slot c (first_free d.contexts) d on refl)
    (answers_moves slot c _ d d on (same_control d))

-- a call begins on the same hart
either_on : (test : Bool) (s t : calls.BeginsCall) (c : Context) → s.context.on ≡ c.on → t.context.on ≡ c.on →
    (cond test s t).context.on ≡ c.on
either_on true s t c first second = first
either_on false s t c first second = second

copy_begin_on : (good : Bool) (c : Context) → (call_parts.copy_begin good c).context.on ≡ c.on
copy_begin_on false c = refl
copy_begin_on true c = either_on (calls.takes_bytes (calls.call_number c)) _ _ c refl refl

call_begin_on : (buffer : Bool) (r : Resources) (c : Context) → (call_parts.call_begin buffer r c).context.on ≡ c.on
call_begin_on false r c = refl
call_begin_on true r c = copy_begin_on _ c

begin_on : (r : Resources) (c : Context) → (calls.begin_call r c).context.on ≡ c.on
unfolding calls.begin_call
begin_on r c = call_begin_on (has_buffer (calls.call_number c)) r c

on_as : (slot : ℕ) (c c' : Context) (d : Control) → c'.on ≡ c.on → IsOnAs slot c d → IsOnAs slot c' d
on_as slot c c' d same on hart = ap (λ (o : Option HartId). is_hart hart o) same ∙ on hart

call_begun_moves : (slot : ℕ) (c : Context) (answer : Result Begun MapFault) (d : Control) → IsOnAs slot c d →
    MovesSo slot d (hyper.call_begun slot c answer d)
unfolding hyper.call_begun
call_begun_moves slot c (Err fault) d on = slot_goes_on slot _ d d on (same_control d)
call_begun_moves slot c (Ok begun.Copying) d on = slot_goes_on slot c d d on (same_control d)
call_begun_moves slot c (Ok begun.Leave) d on = slot_left slot c d

kernel_call_moves : (slot : ℕ) (c : Context) (d : Control) → IsOnAs slot c d →
    MovesSo slot d (hyper.kernel_call slot c d)
unfolding hyper.kernel_call
kernel_call_moves slot c d on =
    let begins = calls.begin_call d.resources (moved_on c) in
    call_begun_moves slot begins.context begins.answer d
    (on_as slot c begins.context d (begin_on d.resources (moved_on c)) on)

-- a fork's answer, told
fork_told_moves : (slot : ℕ) (c : Context) (d : Control) (f : forks.Fork)
    (answer : Forked) → (of_fork d.contexts).each f → IsOnAs slot c d →
    MovesSo slot d (hyper.fork_told slot c d answer (hyper.with_spaces f.spaces d))
unfolding hyper.fork_told
fork_told_moves slot c d f (forked.Refused fault) same on = answers_moves slot c (hyper.fault_word fault) d d on (same_control d)
fork_told_moves slot c d f forked.Stopped same on = slot_kept slot d
fork_told_moves slot c d f (forked.Child ctx) same on =
    answers_moves slot c ctx.0 d (hyper.with_spaces f.spaces d) on (record { number = refl; each = same })

fork_told_goes : (slot : ℕ) (c : Context) (d d' : Control) (answer : Forked) → HasForked answer →
    HasGone (hyper.fork_told slot c d answer d').went
unfolding hyper.fork_told
fork_told_goes slot c d d' (forked.Refused fault) has = absurd has
fork_told_goes slot c d d' forked.Stopped has = absurd has
fork_told_goes slot c d d' (forked.Child ctx) has = tt

fork_call_scripted : (slot : ℕ) (c : Context) (d : Control) →
    Scripted d.number (provided (IsOnAs slot c d) (of_stepped slot d)) (hyper.fork_call slot c d)
unfolding hyper.fork_call hyper.fork_told IsStop ChangesOnly
fork_call_scripted slot c d =
    scripted_then d.number (of_fork d.contexts) (provided (IsOnAs slot c d) (of_stepped slot d))
    (forks.fork d.number c d.resources d.contexts)
    (λ f. Gives (hyper.fork_told slot c d f.answer (hyper.with_spaces f.spaces d)))
    (fork_scripted d.number c d.resources d.contexts)
    (λ f. scripted_gives d.number (provided ((of_fork d.contexts).each f)
    (provided (IsOnAs slot c d) (of_stepped slot d))) _ (fork_told_moves slot c d f f.answer))
    (λ f is. ap (λ (answer : Forked).
    (hyper.fork_told slot c d answer (hyper.with_spaces f.spaces d)).went) is)
    (λ f has. fork_told_goes slot c d (hyper.with_spaces f.spaces d) f.answer has)

end_told_moves : (slot : ℕ) (c : Context) (d : Control) (x : forks.End) (ended : Ended) → x.ending ≡ ended →
    (of_end slot d.contexts).each x →
    MovesSo slot d (hyper.end_told slot c d ended (hyper.with_spaces x.spaces d))
unfolding hyper.end_told
end_told_moves slot c d x ends.Kept is freed =
    slot_ended slot d (hyper.with_spaces x.spaces d) refl
    (freed (λ stopped. let clash : ends.Kept ≡ ends.Stopped = sym is ∙ stopped in cc))
end_told_moves slot c d x (ends.SpaceGone space) is freed =
    slot_ended slot d (hyper.with_spaces x.spaces d) refl
    (freed (λ stopped. let clash : ends.SpaceGone space ≡ ends.Stopped = sym is ∙ stopped in cc))
end_told_moves slot c d x ends.Stopped is freed = slot_kept slot d

end_told_goes : (slot : ℕ) (c : Context) (d d' : Control) (ended : Ended) → HasEnded ended →
    HasGone (hyper.end_told slot c d ended d').went
unfolding hyper.end_told
end_told_goes slot c d d' ends.Kept has = tt
end_told_goes slot c d d' (ends.SpaceGone space) has = tt
end_told_goes slot c d d' ends.Stopped has = absurd has

exit_call_scripted : (slot : ℕ) (c : Context) (d : Control) →
    Scripted d.number (provided (IsOnAs slot c d) (of_stepped slot d)) (hyper.exit_call slot c d)
unfolding hyper.exit_call hyper.end_told IsStop ChangesOnly
exit_call_scripted slot c d =
    scripted_then d.number (of_end slot d.contexts) (provided (IsOnAs slot c d) (of_stepped slot d))
    (forks.end_context d.number slot c.space d.resources d.contexts)
    (λ x. Gives (hyper.end_told slot c d x.ending (hyper.with_spaces x.spaces d)))
    (end_scripted d.number slot c.space d.resources d.contexts)
    (λ x. scripted_gives d.number (provided ((of_end slot d.contexts).each x)
    (provided (IsOnAs slot c d) (of_stepped slot d))) _ (λ freed on. end_told_moves slot c d x x.ending refl freed))
    (λ x is. ap (λ (ended : Ended). (hyper.end_told slot c d ended (hyper.with_spaces x.spaces d)).went) is)
    (λ x has. end_told_goes slot c d (hyper.with_spaces x.spaces d) x.ending has)

pub hypercall_scripted : (h : hyper.Hypercall) (slot : ℕ) (c : Context) (d : Control) →
    Scripted d.number (provided (IsOnAs slot c d) (of_stepped slot d)) (hyper.hypercall h slot c d)
unfolding hyper.hypercall hyper.new_call hyper.map_call hyper.unmap_call hyper.file_call
hypercall_scripted hyper.New slot c d =
    scripted_gives d.number (provided (IsOnAs slot c d) (of_stepped slot d)) _
    (λ on. answers_moves slot c _ d _ on (with_resources d _))
hypercall_scripted hyper.Map slot c d =
    scripted_gives d.number (provided (IsOnAs slot c d) (of_stepped slot d)) _
    (λ on. remapped_moves slot c _ d _ on (with_resources d _))
hypercall_scripted hyper.Unmap slot c d =
    scripted_gives d.number (provided (IsOnAs slot c d) (of_stepped slot d)) _
    (λ on. remapped_moves slot c _ d _ on (with_resources d _))
hypercall_scripted hyper.File slot c d =
    scripted_gives d.number (provided (IsOnAs slot c d) (of_stepped slot d)) _
    (λ on. answers_moves slot c _ d _ on (with_resources d _))
hypercall_scripted hyper.Thread slot c d =
    scripted_gives d.number (provided (IsOnAs slot c d) (of_stepped slot d)) _ (λ on. thread_moves slot c d on)
hypercall_scripted hyper.ForkSpace slot c d = fork_call_scripted slot c d
hypercall_scripted hyper.Exit slot c d = exit_call_scripted slot c d
hypercall_scripted hyper.Call slot c d =
    scripted_gives d.number (provided (IsOnAs slot c d) (of_stepped slot d)) _ (λ on. kernel_call_moves slot c d on)
hypercall_scripted hyper.Unknown slot c d =
    scripted_gives d.number (provided (IsOnAs slot c d) (of_stepped slot d)) _
    (λ on. answers_moves slot c hyper.bad_call d d on (same_control d))

-- The step.

abbrev pub of_domain : ℕ → Domain → EndClaims steps.DomainStepped
of_domain slot d = record {
  each = λ s. MovesSlot slot (has_left s.went) d.control s.domain.control;
  stopped = λ s. s.went ≡ went.Stopped;
  changed = λ s. HasGone s.went;
}

-- from a context on its hart
abbrev of_context : ℕ → Context → Domain → EndClaims steps.DomainStepped
of_context slot c d = provided (IsOnAs slot c d.control) (of_domain slot d)

pub stays_moves : (slot : ℕ) (c : Context) (d : Control) → IsOnAs slot c d → MovesSo slot d (hyper.stays_inside slot c d)
stays_moves slot c d on = slot_goes_on slot c d d on (same_control d)

unfoldable pub instruction_ended_scripted : (slot : ℕ) (d : Domain) (c : Context) (e : Ran) →
    Scripted d.control.number (of_context slot c d) (steps.instruction_ended slot d c e)
unfolding steps.instruction_ended IsStop ChangesOnly
instruction_ended_scripted slot d c ran.Stay =
    scripted_gives d.control.number (of_context slot c d) _ (stays_moves slot c d.control)
instruction_ended_scripted slot d c (ran.Loaded address value) =
    scripted_gives d.control.number (of_context slot c d) _ (stays_moves slot c d.control)
instruction_ended_scripted slot d c (ran.Trap cause address) =
    scripted_gives d.control.number (of_context slot c d) _ (λ on. slot_left slot c d.control)
instruction_ended_scripted slot d c ran.Ecall =
    scripted_then d.control.number (provided (IsOnAs slot c d.control) (of_stepped slot d.control))
    (of_context slot c d)
    (hyper.hypercall (hyper.hypercall_of c) slot c d.control) (λ step. Gives (steps.within d step))
    (hypercall_scripted (hyper.hypercall_of c) slot c d.control)
    (λ step. scripted_gives d.control.number (provided (IsOnAs slot c d.control → MovesSo slot d.control step)
    (of_context slot c d)) _ (λ moves on. moves on))
    (λ step is. is) (λ step goes. goes)
instruction_ended_scripted slot d c ran.Stopped =
    scripted_gives d.control.number (of_context slot c d) _ (λ on. slot_kept slot d.control)

copy_ended_moves : (slot : ℕ) (d : Domain) (c : Context) (e : Copied) → IsOnAs slot c d.control →
    (of_domain slot d).each (steps.copy_ended slot d c e)
unfolding steps.copy_ended
copy_ended_moves slot d c copied.Going on = stays_moves slot c d.control on
copy_ended_moves slot d c copied.CallReady on = slot_left slot c d.control
copy_ended_moves slot d c copied.Done on = stays_moves slot c d.control on
copy_ended_moves slot d c (copied.Absent cause address) on = slot_left slot c d.control
copy_ended_moves slot d c copied.Stopped on = slot_kept slot d.control
copy_ended_moves slot d c copied.Refused on = stays_moves slot c d.control on
copy_ended_moves slot d c (copied.Loaded address byte) on = stays_moves slot c d.control on

copy_ended_goes : (slot : ℕ) (d : Domain) (c : Context) (e : Copied) → GoesOn e →
    HasGone (steps.copy_ended slot d c e).went
unfolding steps.copy_ended
copy_ended_goes slot d c copied.Going on = tt
copy_ended_goes slot d c e on = absurd on

copy_scripted : (slot : ℕ) (c : Context) (d : Domain) → IsOnAs slot c d.control → (ask : Script calls.Copy) →
    Scripted d.control.number (of_copy c) ask →
    Scripted d.control.number (of_domain slot d) (ask >>= (λ copy. Gives (steps.copy_ended slot d copy.context
    copy.ending)))
unfolding steps.copy_ended IsStop ChangesOnly
copy_scripted slot c d on ask first =
    scripted_then d.control.number (of_copy c) (of_domain slot d) ask
    (λ copy. Gives (steps.copy_ended slot d copy.context copy.ending)) first
    (λ copy. scripted_gives d.control.number (provided (copy.context.on ≡ c.on) (of_domain slot d)) _
    (λ same. copy_ended_moves slot d copy.context copy.ending (on_as slot c copy.context d.control same on)))
    (λ copy is. ap (λ (e : Copied). (steps.copy_ended slot d copy.context e).went) is)
    (λ copy goes. copy_ended_goes slot d copy.context copy.ending goes)

stopped_instruction : (slot : ℕ) (d : Domain) (c : Context) (e : Ran) → e ≡ ran.Stopped →
    IsStop (of_domain slot d) (steps.instruction_ended slot d c e)
unfolding steps.instruction_ended IsStop
stopped_instruction slot d c ran.Stopped is = refl
stopped_instruction slot d c e is = absurd cc

only_instruction : (slot : ℕ) (d : Domain) (c : Context) (e : Ran) → RunsOn e →
    ChangesOnly (of_domain slot d).changed (steps.instruction_ended slot d c e)
unfolding steps.instruction_ended ChangesOnly
only_instruction slot d c ran.Stay on = tt
only_instruction slot d c (ran.Loaded address value) on = tt
only_instruction slot d c (ran.Trap cause address) on = absurd on
only_instruction slot d c ran.Ecall on = absurd on
only_instruction slot d c ran.Stopped on = absurd on

-- A write, after an end.

moves_written : (slot : ℕ) (d : Domain) (wrote : Option PageWord) (s : steps.DomainStepped) →
    (of_domain slot d).each s → (of_domain slot d).each (steps.after_write wrote s)
moves_written slot d None s moves = moves
moves_written slot d (Some place) s moves = slot_written slot (has_left s.went) place d.control s.domain.control moves

went_written : (wrote : Option PageWord) (s : steps.DomainStepped) → (steps.after_write wrote s).went ≡ s.went
went_written None s = refl
went_written (Some place) s = refl

goes_written : (wrote : Option PageWord) (s : steps.DomainStepped) → HasGone s.went →
    HasGone (steps.after_write wrote s).went
goes_written None s goes = goes
goes_written (Some place) s goes = goes

-- a script, and then the write
abbrev then_written : Option PageWord → Script steps.DomainStepped → Script steps.DomainStepped
then_written wrote script = script >>= (λ s. Gives (steps.after_write wrote s))

stop_written : (slot : ℕ) (d : Domain) (wrote : Option PageWord) (script : Script steps.DomainStepped) →
    IsStop (of_domain slot d) script → IsStop (of_domain slot d) (then_written wrote script)
unfolding IsStop
stop_written slot d wrote script is =
    stop_then (of_domain slot d) (of_domain slot d) script (λ s. Gives (steps.after_write wrote s)) is
    (λ s stopped. went_written wrote s ∙ stopped)

only_written : (wrote : Option PageWord) (script : Script steps.DomainStepped) →
    ChangesOnly (λ (s : steps.DomainStepped). HasGone s.went) script →
    ChangesOnly (λ (s : steps.DomainStepped). HasGone s.went) (then_written wrote script)
unfolding ChangesOnly
only_written wrote script only = only_then _ _ script _ only (λ s goes. goes_written wrote s goes)

written_scripted : (n slot : ℕ) (d : Domain) (P : Type 0) (wrote : Option PageWord)
    (script : Script steps.DomainStepped) →
    Scripted n (provided P (of_domain slot d)) script →
    Scripted n (provided P (of_domain slot d)) (then_written wrote script)
unfolding IsStop ChangesOnly
written_scripted n slot d P wrote script inner =
    let e = provided P (of_domain slot d) in
    scripted_then n e e script (λ s. Gives (steps.after_write wrote s)) inner
    (λ s. scripted_gives n (provided (e.each s) e) _ (λ moves holds. moves_written slot d wrote s (moves holds)))
    (λ s stopped. went_written wrote s ∙ stopped) (λ s goes. goes_written wrote s goes)

copy_out_written : (slot : ℕ) (c : Context) (d : Domain) → IsOnAs slot c d.control → (ask : Script calls.Copy) →
    Scripted d.control.number (of_copy c) ask →
    Scripted d.control.number (of_domain slot d) (ask >>= (λ copy. Gives (steps.after_write copy.wrote
    (steps.copy_ended slot d copy.context copy.ending))))
unfolding steps.copy_ended IsStop ChangesOnly
copy_out_written slot c d on ask first =
    scripted_then d.control.number (of_copy c) (of_domain slot d) ask
    (λ copy. Gives (steps.after_write copy.wrote (steps.copy_ended slot d copy.context copy.ending))) first
    (λ copy. scripted_gives d.control.number (provided (copy.context.on ≡ c.on) (of_domain slot d)) _
    (λ same. moves_written slot d copy.wrote (steps.copy_ended slot d copy.context copy.ending)
    (copy_ended_moves slot d copy.context copy.ending (on_as slot c copy.context d.control same on))))
    (λ copy is. went_written copy.wrote (steps.copy_ended slot d copy.context copy.ending)
    ∙ ap (λ (e : Copied). (steps.copy_ended slot d copy.context e).went) is)
    (λ copy goes. goes_written copy.wrote (steps.copy_ended slot d copy.context copy.ending)
    (copy_ended_goes slot d copy.context copy.ending goes))

phase_scripted : (p : Phase) (slot : ℕ) (c : Context) (d : Domain) → IsOnAs slot c d.control →
    Scripted d.control.number (of_domain slot d) (steps.phase_step p slot c d)
unfolding steps.phase_step
phase_scripted Plain slot c d on =
    let n = d.control.number in
    scripted_then n (of_instruction c) (of_domain slot d) (inside.instruction_inside n d.control.resources c)
    (λ m. then_written m.wrote (steps.instruction_ended slot d m.context m.ending))
    (instruction_scripted n d.control.resources c)
    (λ m. written_scripted n slot d (m.context.on ≡ c.on) m.wrote (steps.instruction_ended slot d m.context m.ending)
    (scripted_under n (IsOnAs slot m.context d.control) (m.context.on ≡ c.on) (of_domain slot d)
    (steps.instruction_ended slot d m.context m.ending) (λ same. on_as slot c m.context d.control same on)
    (instruction_ended_scripted slot d m.context m.ending)))
    (λ m is. stop_written slot d m.wrote _ (stopped_instruction slot d m.context m.ending is))
    (λ m on. only_written m.wrote _ (only_instruction slot d m.context m.ending on))
phase_scripted (CopyIn done) slot c d on =
    copy_scripted slot c d on _ (copy_in_scripted d.control.number d.control.resources c done)
phase_scripted Waiting slot c d on =
    scripted_gives d.control.number (of_domain slot d) _ (stays_moves slot c d.control on)
phase_scripted (CopyOut done total) slot c d on =
    copy_out_written slot c d on _ (copy_out_scripted d.control.number d.control.resources c done total)

step_if_scripted : (o : Option Context) (slot : ℕ) (d : Domain) → context_at d.control.contexts slot ≡ o →
    Scripted d.control.number (of_domain slot d) (steps.step_if o slot d)
unfolding steps.step_if
step_if_scripted None slot d is = scripted_gives d.control.number (of_domain slot d) _ (slot_kept slot d.control)
step_if_scripted (Some c) slot d is = phase_scripted c.phase slot c d (λ hart. ap (runs_on hart) (sym is))

-- a step of a program is a script
pub step_scripted : (slot : ℕ) (d : Domain) → Scripted d.control.number (of_domain slot d) (steps.domain_script slot d)
unfolding steps.domain_script
step_scripted slot d = step_if_scripted (context_at d.control.contexts slot) slot d refl
