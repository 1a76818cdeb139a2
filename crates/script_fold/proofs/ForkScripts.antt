-- The fork of a space and the end of a context are scripts.
use Rattle.std.proofs.Common.{◌≡◌, ℕ, Bool, true, false, List, [], ◌∷◌, Option, Result, Ok, Err, refl}
use Rattle.std.specs.Prelude.{is_some, ◌&&◌, unwrap_or, if◌then◌else◌}
use Rattle.std.specs.List.{list_any}
use Rattle.cloak_model.specs.declared.answer.Answer.{Answer}
use Rattle.cloak_model.specs.declared.answer.Answer.TheVariants as told
use Rattle.cloak_model.specs.declared.inside.Forked.{Forked}
use Rattle.cloak_model.specs.declared.inside.Forked.TheVariants as forked
use Rattle.cloak_model.specs.declared.inside.Ended.{Ended}
use Rattle.cloak_model.specs.declared.inside.Ended.TheVariants as ends
use Rattle.cloak_model.specs.declared.resource.MapFault.{MapFault}
use Rattle.cloak_model.specs.declared.resource.MapFault.TheVariants.{Full}
use Rattle.cloak_model.specs.Resources.{Resources, first_free}
use Rattle.cloak_model.specs.Contexts.{Context, end_at, with_context}
use Rattle.cloak_model.specs.Fork as forks
use Rattle.cloak_model.proofs.ForkParts as fork_parts
use Rattle.script_fold.proofs.Runs.{runs_in, free_taken}
use Rattle.cloak_model.specs.Script.{Script, Clear, Copy, Forget, ◌>>=◌}
use Rattle.script_fold.proofs.Scripts.{EndClaims, IsStop, Scripted, OnlyChanges, scripted_gives, scripted_asks, changes_then, changes_end}

-- Fork.

-- there is a new context
abbrev pub HasForked : Forked → Type 0
HasForked (forked.Refused fault) = ⊥
HasForked forked.Stopped = ⊥
HasForked (forked.Child ctx) = Unit {0}

-- the same contexts run as before
abbrev pub of_fork : List (Option Context) → EndClaims forks.Fork
of_fork contexts = record {
  each = λ f. (hart s : ℕ) → runs_in hart f.spaces.contexts s ≡ runs_in hart contexts s;
  stopped = λ f. f.answer ≡ forked.Stopped;
  changed = λ f. HasForked f.answer;
}

copies_scripted : (d : ℕ) {A : Type 0} (e : EndClaims A) (list : List (ℕ × ℕ)) (next : Script A) → OnlyChanges d e next →
    OnlyChanges d e (forks.copy_each d list >>= (λ done. next))
unfolding forks.copy_each
copies_scripted d e [] next second = second
copies_scripted d e (x ∷ list) next second =
    changes_then d e (Copy d x.0 x.1) refl (forks.copy_each d list >>= (λ done. next))
    (copies_scripted d e list next second)

unfoldable fork_cleared_scripted : (d : ℕ) (c : Context) (slot new : ℕ) (r : Resources)
    (contexts : List (Option Context)) →
    ((hart s : ℕ) → runs_in hart (with_context slot (forks.child new c) contexts) s ≡ runs_in hart contexts s) →
    (a : Answer) →
    Scripted d (of_fork contexts) (fork_parts.fork_cleared d c slot new r contexts a)
unfolding forks.forked
fork_cleared_scripted d c slot new r contexts free told.Ok =
    (copies_scripted d (of_fork contexts) (forks.copies c.space r) _ (changes_end d (of_fork contexts) _ free tt)).whole
fork_cleared_scripted d c slot new r contexts free (told.Absent cause) =
    scripted_gives d (of_fork contexts) _ (λ hart s. refl)
fork_cleared_scripted d c slot new r contexts free (told.Word value) =
    scripted_gives d (of_fork contexts) _ (λ hart s. refl)
fork_cleared_scripted d c slot new r contexts free told.Stopped = scripted_gives d (of_fork contexts) _ (λ hart s. refl)

-- what fits has a free slot
abbrev HasFree : List (Option Context) → Result (Unit {0}) MapFault → Type 0
HasFree contexts (Err fault) = Unit {0}
HasFree contexts (Ok fits) = is_some (first_free contexts) ≡ true

has_free_if : (contexts : List (Option Context)) (a b : Bool) → is_some (first_free contexts) ≡ a →
    HasFree contexts (if (a && b) then Ok tt else Err Full)
has_free_if contexts true true is = is
has_free_if contexts true false is = tt
has_free_if contexts false b is = tt

has_free : (space : ℕ) (r : Resources) (contexts : List (Option Context)) →
    HasFree contexts (forks.fork_fits space r contexts)
unfolding forks.fork_fits
has_free space r contexts = has_free_if contexts (is_some (first_free contexts)) _ refl

fork_if_scripted : (d : ℕ) (fits : Result (Unit {0}) MapFault) (c : Context) (r : Resources)
    (contexts : List (Option Context)) → HasFree contexts fits →
    Scripted d (of_fork contexts) (fork_parts.fork_if fits d c r contexts)
unfolding fork_cleared_scripted IsStop
fork_if_scripted d (Err fault) c r contexts free = scripted_gives d (of_fork contexts) _ (λ hart s. refl)
fork_if_scripted d (Ok fits) c r contexts free =
    let new = unwrap_or (first_free r.spaces) 0 in
    let slot = unwrap_or (first_free contexts) 0 in
    scripted_asks d (of_fork contexts) (Clear d (forks.marked c.space r)) refl (fork_parts.fork_cleared d c slot new r contexts)
    (fork_cleared_scripted d c slot new r contexts (free_taken (forks.child new c) contexts refl free)) refl

pub fork_scripted : (d : ℕ) (c : Context) (r : Resources) (contexts : List (Option Context)) →
    Scripted d (of_fork contexts) (forks.fork d c r contexts)
unfolding forks.fork
fork_scripted d c r contexts =
    fork_if_scripted d (forks.fork_fits c.space r contexts) c r contexts (has_free c.space r contexts)

-- End.

-- the context has ended
abbrev pub HasEnded : Ended → Type 0
HasEnded ends.Kept = Unit {0}
HasEnded (ends.SpaceGone space) = Unit {0}
HasEnded ends.Stopped = ⊥

-- the slot is free, unless the run stops
abbrev pub of_end : ℕ → List (Option Context) → EndClaims forks.End
of_end slot contexts = record {
  each = λ x. (x.ending ≡ ends.Stopped → ⊥) → x.spaces.contexts ≡ end_at slot contexts;
  stopped = λ x. x.ending ≡ ends.Stopped;
  changed = λ x. HasEnded x.ending;
}

forgets_scripted : (d : ℕ) {A : Type 0} (e : EndClaims A) (list : List ℕ) (next : Script A) → OnlyChanges d e next →
    OnlyChanges d e (forks.forget_each d list >>= (λ done. next))
unfolding forks.forget_each
forgets_scripted d e [] next second = second
forgets_scripted d e (n ∷ list) next second =
    changes_then d e (Forget d n) refl (forks.forget_each d list >>= (λ done. next))
    (forgets_scripted d e list next second)

unfoldable end_cleared_scripted : (d slot space : ℕ) (r : Resources) (contexts : List (Option Context)) (a : Answer) →
    Scripted d (of_end slot contexts) (fork_parts.end_cleared d slot space r contexts a)
end_cleared_scripted d slot space r contexts told.Ok =
    (forgets_scripted d (of_end slot contexts) (forks.private_numbers space r) _
    (changes_end d (of_end slot contexts) _ (λ goes. refl) tt)).whole
end_cleared_scripted d slot space r contexts (told.Absent cause) =
    scripted_gives d (of_end slot contexts) _ (λ goes. absurd (goes refl))
end_cleared_scripted d slot space r contexts (told.Word value) =
    scripted_gives d (of_end slot contexts) _ (λ goes. absurd (goes refl))
end_cleared_scripted d slot space r contexts told.Stopped =
    scripted_gives d (of_end slot contexts) _ (λ goes. absurd (goes refl))

end_if_scripted : (d : ℕ) (others : Bool) (slot space : ℕ) (r : Resources) (contexts : List (Option Context)) →
    Scripted d (of_end slot contexts) (fork_parts.end_if others d slot space r contexts)
unfolding end_cleared_scripted IsStop
end_if_scripted d true slot space r contexts = scripted_gives d (of_end slot contexts) _ (λ goes. refl)
end_if_scripted d false slot space r contexts =
    scripted_asks d (of_end slot contexts) (Clear d (forks.marked space r)) refl
    (fork_parts.end_cleared d slot space r contexts) (end_cleared_scripted d slot space r contexts) refl

pub end_scripted : (d slot space : ℕ) (r : Resources) (contexts : List (Option Context)) →
    Scripted d (of_end slot contexts) (forks.end_context d slot space r contexts)
unfolding forks.end_context
end_scripted d slot space r contexts =
    end_if_scripted d (list_any (forks.is_of_space space) (end_at slot contexts)) slot space r contexts
