-- The steps of a run by stretches.
use Rattle.std.proofs.Common.{◌≡◌, ℕ, zero, suc, refl, Bool, true, List, [], ◌∷◌, ◌++◌, Option, None, Some, ◌∙◌, ap}
use Rattle.std.specs.Prelude.{◌&&◌, is_none}
use Rattle.std.proofs.lemmas.Bool.{and_parts}
use Rattle.cloak_base.specs.declared.causes.Stop.{Stop}
use Rattle.cloak_model.specs.Joint.{Moment, Turn, joint_step, after_turn, stop_of}
use Rattle.cloak_model.specs.Run.{turns_from}

-- n steps, one after another, and the moment after them
unfoldable pub first_turns : ℕ → Moment → List Turn
first_turns zero m = []
first_turns (suc n) m = let t = joint_step m in t ∷ first_turns n (after_turn m t)

unfoldable pub moment_after : ℕ → Moment → Moment
moment_after zero m = m
moment_after (suc n) m = moment_after n (after_turn m (joint_step m))

-- none of them stops the run
unfoldable pub goes_on : ℕ → Moment → Bool
goes_on zero m = true
goes_on (suc n) m = let t = joint_step m in is_none (stop_of t) && goes_on n (after_turn m t)

-- the sum, which computes at suc on the left
abbrev pub plus : ℕ → ℕ → ℕ
plus zero n = n
plus (suc k) n = suc (plus k n)

none : (o : Option Stop) → is_none o ≡ true → o ≡ None
none None h = refl
none (Some s) h = absurd (cc)

-- a step that stops nothing
pub turns_from-step : (n : ℕ) (m : Moment) (t : Turn) → joint_step m ≡ t → stop_of t ≡ None → turns_from (suc n) m ≡
    t ∷ turns_from n (after_turn m t)
unfolding turns_from
turns_from-step n m t e s = rw (e, s) refl

-- k steps that stop nothing
pub turns_from-plus : (k n : ℕ) (m : Moment) → goes_on k m ≡ true → turns_from (plus k n) m ≡ first_turns k m
    ++ turns_from n (moment_after k m)
unfolding first_turns moment_after goes_on
turns_from-plus zero n m h = refl
turns_from-plus (suc k) n m h =
    let t = joint_step m in
    let parts = and_parts (is_none (stop_of t)) (goes_on k (after_turn m t)) h in
    turns_from-step (plus k n) m t refl (none (stop_of t) parts.0)
    ∙ ap (λ (ts : List Turn). t ∷ ts) (turns_from-plus k n (after_turn m t) parts.1)
