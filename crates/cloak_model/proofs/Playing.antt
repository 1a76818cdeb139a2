-- What a world makes of a script and then of one that depends on what it ends with. The questions of a script compute;
-- where a whole script goes before, these say so.
use Rattle.std.proofs.Common.{◌≡◌, ◌∙◌, ℕ, refl, subst, sym}
use Rattle.cloak_model.specs.declared.context.Phase.TheVariants.{Plain, CopyIn, CopyOut}
use Rattle.cloak_model.specs.declared.inside.Ran.TheVariants as ran
use Rattle.cloak_model.specs.World.{World}
use Rattle.cloak_model.specs.Asking.{Told, answered, then_ask}
use Rattle.cloak_model.specs.AskPages.{ask_read}
use Rattle.cloak_model.specs.Script.{Script, Gives, Asks, Reads, Changes, asked, changed, played, ◌>>=◌}
use Rattle.cloak_model.specs.Contexts.{Context}
use Rattle.cloak_model.specs.Calls.{copy_in_step, copy_out_step}
use Rattle.cloak_model.specs.DomainState.{Domain}
use Rattle.cloak_model.specs.DomainStep.{DomainStepped, instruction_ended, phase_step, copy_ended, after_write, within}
use Rattle.cloak_model.specs.Hypercalls.{hypercall, hypercall_of}
use Rattle.cloak_model.specs.InsideStep.{instruction_inside}

pub played_then : {A B : Type 0} (s : Script A) (next : A → Script B) (w : World) →
    played (s >>= next) w ≡ then_ask (played s) (λ a. played (next a)) w
played_then (Gives a) next w = refl
played_then (Asks question more) next w = played_then (more (asked question w).answer) next (asked question w).world
played_then (Reads q at width more) next w =
    played_then (more (ask_read q at width w).answer) next (ask_read q at width w).world
played_then (Changes it more) next w = played_then more next (changed it w).world

-- what holds of both holds of the whole
pub plays_both : {A B : Type 0} (P : Told B → Type 0) (s : Script A) (next : A → Script B) (w : World) →
    P (then_ask (played s) (λ a. played (next a)) w) → P (played (s >>= next) w)
plays_both P s next w holds = subst P (sym (played_then s next w)) holds

-- The parts of a step.

pub plain_played : (slot : ℕ) (c : Context) (d : Domain) (w : World) →
    played (phase_step Plain slot c d) w
    ≡ then_ask (played (instruction_inside d.control.number d.control.resources c))
    (λ made. then_ask (played (instruction_ended slot d made.context made.ending))
    (λ s. answered (after_write made.wrote s))) w
unfolding phase_step
plain_played slot c d w =
    let first = instruction_inside d.control.number d.control.resources c in
    let told = played first w in
    played_then first _ w
    ∙ played_then (instruction_ended slot d told.answer.context told.answer.ending) _ told.world

pub copy_in_played : (done slot : ℕ) (c : Context) (d : Domain) (w : World) →
    played (phase_step (CopyIn done) slot c d) w
    ≡ then_ask (played (copy_in_step d.control.number d.control.resources c done))
    (λ copy. answered (copy_ended slot d copy.context copy.ending)) w
unfolding phase_step
copy_in_played done slot c d w = played_then (copy_in_step d.control.number d.control.resources c done) _ w

pub copy_out_played : (done total slot : ℕ) (c : Context) (d : Domain) (w : World) →
    played (phase_step (CopyOut done total) slot c d) w
    ≡ then_ask (played (copy_out_step d.control.number d.control.resources c done total))
    (λ copy. answered (after_write copy.wrote (copy_ended slot d copy.context copy.ending))) w
unfolding phase_step
copy_out_played done total slot c d w =
    played_then (copy_out_step d.control.number d.control.resources c done total) _ w

pub ecall_played : (slot : ℕ) (d : Domain) (c : Context) (w : World) →
    played (instruction_ended slot d c ran.Ecall) w
    ≡ then_ask (played (hypercall (hypercall_of c) slot c d.control)) (λ step. answered (within d step)) w
unfolding instruction_ended
ecall_played slot d c w = played_then (hypercall (hypercall_of c) slot c d.control) _ w

-- What holds of the parts of a step, one after another, holds of the step.

pub by_plain : (P : Told DomainStepped → Type 0) (slot : ℕ) (c : Context) (d : Domain) (w : World) →
    P (then_ask (played (instruction_inside d.control.number d.control.resources c))
    (λ made. then_ask (played (instruction_ended slot d made.context made.ending))
    (λ s. answered (after_write made.wrote s))) w) →
    P (played (phase_step Plain slot c d) w)
by_plain P slot c d w holds = subst P (sym (plain_played slot c d w)) holds

pub by_copy_in : (P : Told DomainStepped → Type 0) (done slot : ℕ) (c : Context) (d : Domain) (w : World) →
    P (then_ask (played (copy_in_step d.control.number d.control.resources c done))
    (λ copy. answered (copy_ended slot d copy.context copy.ending)) w) →
    P (played (phase_step (CopyIn done) slot c d) w)
by_copy_in P done slot c d w holds = subst P (sym (copy_in_played done slot c d w)) holds

pub by_copy_out : (P : Told DomainStepped → Type 0) (done total slot : ℕ) (c : Context) (d : Domain) (w : World) →
    P (then_ask (played (copy_out_step d.control.number d.control.resources c done total))
    (λ copy. answered (after_write copy.wrote (copy_ended slot d copy.context copy.ending))) w) →
    P (played (phase_step (CopyOut done total) slot c d) w)
by_copy_out P done total slot c d w holds = subst P (sym (copy_out_played done total slot c d w)) holds

pub by_ecall : (P : Told DomainStepped → Type 0) (slot : ℕ) (d : Domain) (c : Context) (w : World) →
    P (then_ask (played (hypercall (hypercall_of c) slot c d.control)) (λ step. answered (within d step)) w) →
    P (played (instruction_ended slot d c ran.Ecall) w)
by_ecall P slot d c w holds = subst P (sym (ecall_played slot d c w)) holds
