-- The loads that a program completed before stay before those that a step completes, and nothing else depends on them.
use Rattle.std.proofs.Common.{◌≡◌, ◌∙◌, ℕ, zero, suc, List, [], ◌∷◌, slice_get, slice_set, slice_index_or, Option, Some, None, option_map, refl, sym, ap, append_assoc}
use Rattle.cloak_model.specs.declared.context.Phase.{Phase}
use Rattle.cloak_model.specs.declared.context.Phase.TheVariants.{Plain, CopyIn, Waiting, CopyOut}
use Rattle.cloak_model.specs.declared.context.PageWord.{PageWord}
use Rattle.cloak_model.specs.declared.inside.Copied.{Copied}
use Rattle.cloak_model.specs.declared.inside.Copied.TheVariants as copied
use Rattle.cloak_model.specs.declared.inside.Ran.{Ran}
use Rattle.cloak_model.specs.declared.inside.Ran.TheVariants as ran
use Rattle.cloak_model.specs.Asking.{Told, answered}
use Rattle.cloak_model.specs.Calls.{copy_in_step, copy_out_step}
use Rattle.cloak_model.specs.Contexts.{Context, context_at}
use Rattle.cloak_model.specs.DomainState.{Domain}
use Rattle.cloak_model.specs.DomainStep.{domain_script, DomainStepped, instruction_ended, copy_ended, after_write, phase_step, step_if, domain_step}
use Rattle.cloak_model.specs.Hypercalls.{Stepped, stays_inside, hypercall, hypercall_of}
use Rattle.cloak_model.specs.InsideStep.{instruction_inside}
use Rattle.cloak_model.specs.World.{World}
use Rattle.cloak_model.specs.Script.{Script, Gives, played, ◌>>=◌}
use Rattle.cloak_model.proofs.Playing.{played_then}
use Rattle.thaw_law.specs.Past.{PastLoads, with_loads_before, with_loads}

-- Programs by their numbers.

-- the past of a program
abbrev pub past_at : List PastLoads → ℕ → PastLoads
past_at loads d = slice_index_or loads d []

no_past : (found : Option Domain) → found ≡ option_map (with_loads_before []) found
no_past None = refl
no_past (Some d) = refl

pub get_with_loads : (loads : List PastLoads) (domains : List Domain) (d : ℕ) →
    slice_get (with_loads loads domains) d ≡ option_map (with_loads_before (past_at loads d)) (slice_get domains d)
get_with_loads [] domains d = no_past (slice_get domains d)
get_with_loads (past ∷ loads) [] d = refl
get_with_loads (past ∷ loads) (x ∷ domains) zero = refl
get_with_loads (past ∷ loads) (x ∷ domains) (suc d) = get_with_loads loads domains d

pub set_with_loads : (loads : List PastLoads) (domains : List Domain) (d : ℕ) (x : Domain) →
    slice_set (with_loads loads domains) d (with_loads_before (past_at loads d) x)
    ≡ with_loads loads (slice_set domains d x)
set_with_loads [] domains d x = refl
set_with_loads (past ∷ loads) [] d x = refl
set_with_loads (past ∷ loads) (y ∷ domains) zero x = refl
set_with_loads (past ∷ loads) (y ∷ domains) (suc d) x =
    ap (λ (rest : List Domain). with_loads_before past y ∷ rest) (set_with_loads loads domains d x)

-- A step of a program.

abbrev stepped_after : PastLoads → DomainStepped → DomainStepped
stepped_after past s = record s { domain = with_loads_before past s.domain }

abbrev pub told_after : PastLoads → Told DomainStepped → Told DomainStepped
told_after past told = record told { answer = stepped_after past told.answer }

-- a step that completed a load
abbrev loaded : Stepped → World → PastLoads → Told DomainStepped
loaded step w loads = record {
  answer = record { domain = record { control = step.control; loads = loads }; went = step.went };
  world = w;
}

module _ (past : PastLoads) (slot : ℕ) where
  -- the same script goes before, and then this one after the past
  then_after : {A : Type 0} (s : Script A) (now before : A → Script DomainStepped) (w : World) →
      ((a : A) (v : World) → played (now a) v ≡ told_after past (played (before a) v)) →
      played (s >>= now) w ≡ told_after past (played (s >>= before) w)
  then_after s now before w same =
      played_then s now w
      ∙ same (played s w).answer (played s w).world
      ∙ ap (told_after past) (sym (played_then s before w))

  ended_after : (d : Domain) (c : Context) (how : Ran) (w : World) →
      played (instruction_ended slot (with_loads_before past d) c how) w
      ≡ told_after past (played (instruction_ended slot d c how) w)
  unfolding instruction_ended
  ended_after d c (ran.Loaded address value) w =
      ap (loaded (stays_inside slot c d.control) w) (append_assoc past d.loads ((address, value) ∷ []))
  ended_after d c ran.Ecall w = then_after (hypercall (hypercall_of c) slot c d.control) _ _ w (λ step v. refl)
  ended_after d c _ w = refl

  copied_after : (d : Domain) (c : Context) (how : Copied) (w : World) →
      answered (copy_ended slot (with_loads_before past d) c how) w
      ≡ told_after past (answered (copy_ended slot d c how) w)
  unfolding copy_ended
  copied_after d c (copied.Loaded address byte) w =
      ap (loaded (stays_inside slot c d.control) w) (append_assoc past d.loads ((address, byte) ∷ []))
  copied_after d c _ w = refl

  write_after : (place : Option PageWord) (s : DomainStepped) (w : World) →
      answered (after_write place (stepped_after past s)) w ≡ told_after past (answered (after_write place s) w)
  write_after None s w = refl
  write_after (Some place) s w = refl

  written_after : (place : Option PageWord) (now before : Script DomainStepped) (w : World) →
      played now w ≡ told_after past (played before w) →
      played (now >>= (λ s. Gives (after_write place s))) w
      ≡ told_after past (played (before >>= (λ s. Gives (after_write place s))) w)
  written_after place now before w same =
      let told = played before w in
      played_then now _ w
      ∙ ap (λ (t : Told DomainStepped). answered (after_write place t.answer) t.world) same
      ∙ write_after place told.answer told.world
      ∙ ap (told_after past) (sym (played_then before _ w))

  phase_after : (phase : Phase) (c : Context) (d : Domain) (w : World) →
      played (phase_step phase slot c (with_loads_before past d)) w
      ≡ told_after past (played (phase_step phase slot c d) w)
  unfolding phase_step
  phase_after Plain c d w =
      then_after (instruction_inside d.control.number d.control.resources c) _ _ w
      (λ made v. written_after made.wrote
      (instruction_ended slot (with_loads_before past d) made.context made.ending)
      (instruction_ended slot d made.context made.ending) v (ended_after d made.context made.ending v))
  phase_after (CopyIn done) c d w =
      then_after (copy_in_step d.control.number d.control.resources c done) _ _ w
      (λ copy v. copied_after d copy.context copy.ending v)
  phase_after Waiting c d w = refl
  phase_after (CopyOut done total) c d w =
      then_after (copy_out_step d.control.number d.control.resources c done total) _ _ w
      (λ copy v. written_after copy.wrote (Gives _) (Gives _) v (copied_after d copy.context copy.ending v))

  step_if_after : (there : Option Context) (d : Domain) (w : World) →
      played (step_if there slot (with_loads_before past d)) w ≡ told_after past (played (step_if there slot d) w)
  unfolding step_if
  step_if_after None d w = refl
  step_if_after (Some c) d w = phase_after c.phase c d w

  pub domain_step_after : (d : Domain) (w : World) →
      domain_step slot (with_loads_before past d) w ≡ told_after past (domain_step slot d w)
  unfolding domain_step domain_script
  domain_step_after d w = step_if_after (context_at d.control.contexts slot) d w
