-- What the console gains by an item, and that nothing else is emitted.
use Rattle.std.proofs.Common.{◌≡◌, ◌≤◌, ℕ, List, [], ◌++◌, length, sym, ◌∙◌, ap, subst, arith}
use Rattle.std.proofs.lemmas.List.{append-nil}
use Rattle.cloak_model.specs.Exchange.{Piece, Emits, shown_each}
use Rattle.cloak_model.proofs.Emitting.{emits_none}
use Rattle.cloak_model.specs.KernelAlone as model
use Rattle.cloak_model.specs.KernelAlone.{plain_step, kernel_step_ended, console_byte}
use Rattle.cloak_model.specs.declared.outcome.Kernel.{Kernel}
use Rattle.cloak_model.specs.declared.outcome.Kernel.TheVariants.{Put}
use Rattle.kernel_report.specs.declared.console.Console.{Console}
use Rattle.alone_views.specs.KernelConsole.{ConsoleCounts}
use Rattle.alone_views.specs.KernelStages.{stood_stage}
use Rattle.alone_views.specs.KernelChanges.{ChangesTo}
use Rattle.alone_views.specs.KernelStanding.{Gains, StandsForKernel, state_with, turns_of}
use Rattle.alone_views.specs.declared.kernel.KernelAlone.{KernelAlone}

-- the machine stands for the next state, with the same console
pub record ChangesFrom (new : KernelAlone) (turns : List ℕ) (s next : model.KernelAlone) : Type 0 where
  pub stands : StandsForKernel new turns next
  pub console : next.kernel.console ≡ s.kernel.console

changes_from : (old new : KernelAlone) (turns : List ℕ) (s : model.KernelAlone)
    (next : model.KernelAlone → model.KernelAlone) → ChangesTo old new next → StandsForKernel old turns s →
    ChangesFrom new turns s (next s)
changes_from old new turns s next becomes stands =
    let is : next s ≡ state_with new s.kernel.console = ap next stands.state ∙ sym (becomes.state s.kernel.console) in
    let same : (next s).kernel.console ≡ s.kernel.console = ap (λ (t : model.KernelAlone). t.kernel.console) is in
    record {
      stands = record {
        schedule = becomes.schedule ∙ stands.schedule;
        state = is ∙ ap (state_with new) (sym same);
        console = subst (λ (bytes : List ℕ). ConsoleCounts new.console bytes) (sym same)
            (subst (λ (c : Console). ConsoleCounts c s.kernel.console) (sym becomes.console) stands.console);
      };
      console = same;
    }

pub gains_nothing : {E : Type 0} (gave : E → E → List Piece → Type 0) (e : E) (old new : KernelAlone) (turns : List ℕ)
    (s : model.KernelAlone) (next : model.KernelAlone → model.KernelAlone) → ChangesTo old new next →
    StandsForKernel old turns s → Gains gave e e new turns s (next s)
gains_nothing {E} gave e old new turns s next becomes stands =
    let from = changes_from old new turns s next becomes stands in
    record {
      stands = from.stands;
      more = [];
      console = from.console ∙ sym (append-nil s.kernel.console);
      at_most_one = omega arith;
      emits = emits_none gave e;
    }

pub gains_then : {E : Type 0} (gave : E → E → List Piece → Type 0) (e e' : E) (mid new : KernelAlone) (turns : List ℕ)
    (s t : model.KernelAlone) (next : model.KernelAlone → model.KernelAlone) → Gains gave e e' mid turns s t →
    ChangesTo mid new next → Gains gave e e' new turns s (next t)
gains_then {E} gave e e' mid new turns s t next gains becomes =
    let from = changes_from mid new turns t next becomes gains.stands in
    record {
      stands = from.stands;
      more = gains.more;
      console = from.console ∙ gains.console;
      at_most_one = gains.at_most_one;
      emits = gains.emits;
    }

one_byte : (k : Kernel) → length (console_byte k) ≤ 1
one_byte (Put b) = omega arith
one_byte _ = omega arith

-- the byte of a plain step
pub gains_byte : {E : Type 0} (gave : E → E → List Piece → Type 0) (e e' : E) (old mid new : KernelAlone)
    (turns : List ℕ) (s : model.KernelAlone) (number : ℕ) (k : Kernel) → StandsForKernel old turns s →
    ((console : List ℕ) → state_with mid (console ++ console_byte k) ≡ plain_step number (state_with old console)) →
    mid.console ≡ old.console → ((console : List ℕ) → state_with new console ≡ state_with mid console) →
    turns_of new ≡ turns_of old →
    ((bytes : List ℕ) → ConsoleCounts mid.console bytes → ConsoleCounts new.console (bytes ++ console_byte k)) →
    Emits gave e e' (shown_each (console_byte k)) → Gains gave e e' new turns s (plain_step number s)
gains_byte {E} gave e e' old mid new turns s number k stands steps stays same schedule shows emits =
    let before = s.kernel.console in
    let is : plain_step number s ≡ state_with new (before ++ console_byte k) =
    ap (plain_step number) stands.state ∙ (sym (steps before) ∙ sym (same (before ++ console_byte k))) in
    let behind : (plain_step number s).kernel.console ≡ before ++ console_byte k =
    ap (λ (t : model.KernelAlone). t.kernel.console) is in
    record {
      stands = record {
        schedule = schedule ∙ stands.schedule;
        state = is ∙ ap (state_with new) (sym behind);
        console = subst (λ (bytes : List ℕ). ConsoleCounts new.console bytes) (sym behind)
            (shows before (subst (λ (c : Console). ConsoleCounts c before) (sym stays) stands.console));
      };
      more = console_byte k;
      console = behind;
      at_most_one = one_byte k;
      emits = emits;
    }

-- The end of a step.

stage_stood : (old : KernelAlone) (turns : List ℕ) (s : model.KernelAlone) (stage : model.KernelStage) →
    StandsForKernel old turns s → stood_stage old.stage ≡ stage → stage ≡ s.stage
stage_stood old turns s stage stands is = sym is ∙ ap (λ (t : model.KernelAlone). t.stage) (sym stands.state)

pub ends_outside : {E : Type 0} (gave : E → E → List Piece → Type 0) (e e' : E) (old new : KernelAlone) (turns : List ℕ)
    (s : model.KernelAlone) (hart : ℕ) → StandsForKernel old turns s → stood_stage old.stage ≡ model.Outside hart →
    Gains gave e e' new turns s (plain_step hart s) → Gains gave e e' new turns s (kernel_step_ended s.stage s)
unfolding kernel_step_ended
ends_outside {E} gave e e' old new turns s hart stands is gains =
    subst (λ (p : model.KernelStage). Gains gave e e' new turns s (kernel_step_ended p s))
    (stage_stood old turns s (model.Outside hart) stands is) gains
