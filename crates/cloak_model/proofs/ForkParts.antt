-- A fork and an end in parts, for proofs that go by cases: each is what the definition is, unfolded.
use Rattle.std.specs.Prelude.{ℕ, Bool, List, Option, Result, unwrap_or, if◌then◌else◌}
use Rattle.cloak_model.specs.declared.inside.Ended.TheVariants as ends
use Rattle.cloak_model.specs.declared.inside.Forked.TheVariants as forks
use Rattle.cloak_model.specs.declared.resource.MapFault.{MapFault}
use Rattle.cloak_model.specs.declared.answer.Answer.{Answer}
use Rattle.cloak_model.specs.Script.{Script, Gives, Clear, ask, ◌>>=◌}
use Rattle.cloak_model.specs.Contexts.{Context, context_number, end_at}
use Rattle.cloak_model.specs.Resources.{Resources, first_free, drop_space}
use Rattle.cloak_model.specs.Fork.{Fork, End, marked, copies, private_numbers, copy_each, forget_each, forked, or_full, if_cleared}

abbrev pub fork_stopped : Resources → List (Option Context) → Script Fork
fork_stopped r contexts =
    Gives (record { answer = forks.Stopped; spaces = record { contexts = contexts; resources = r } })

-- once the frames of private pages are settled
abbrev pub fork_cleared : ℕ → Context → ℕ → ℕ → Resources → List (Option Context) → Answer → Script Fork
fork_cleared domain c slot new r contexts answer =
    if_cleared answer (record { answer = forks.Stopped; spaces = record { contexts = contexts; resources = r } })
    (copy_each domain (copies c.space r) >>=
    (λ done. Gives (record {
      answer = forks.Child (record { 0 = context_number domain slot });
      spaces = forked c slot new r contexts;
    })))

-- if there is room
abbrev pub fork_if : Result (Unit {0}) MapFault → ℕ → Context → Resources → List (Option Context) → Script Fork
fork_if fits domain c r contexts =
    or_full fits (record { contexts = contexts; resources = r })
    (ask (Clear domain (marked c.space r)) >>=
    (fork_cleared domain c (unwrap_or (first_free contexts) 0) (unwrap_or (first_free r.spaces) 0) r contexts))

abbrev pub end_stopped : Resources → List (Option Context) → Script End
end_stopped r contexts =
    Gives (record { ending = ends.Stopped; spaces = record { contexts = contexts; resources = r } })

-- the last context of a space, once the frames of private pages are settled
abbrev pub end_cleared : ℕ → ℕ → ℕ → Resources → List (Option Context) → Answer → Script End
end_cleared domain slot space r contexts answer =
    if_cleared answer (record { ending = ends.Stopped; spaces = record { contexts = contexts; resources = r } })
    (forget_each domain (private_numbers space r) >>=
    (λ done. Gives (record {
      ending = ends.SpaceGone space;
      spaces = record { contexts = end_at slot contexts; resources = drop_space space r };
    })))

-- a context's end, by whether its space has others
abbrev pub end_if : Bool → ℕ → ℕ → ℕ → Resources → List (Option Context) → Script End
end_if others domain slot space r contexts =
    (if others
    then Gives (record { ending = ends.Kept; spaces = record { contexts = end_at slot contexts; resources = r } }) else
    ask (Clear domain (marked space r)) >>= (end_cleared domain slot space r contexts))
