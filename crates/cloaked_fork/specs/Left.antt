-- What a fork or an end returns, with what it leaves.
use Rattle.std.specs.Prelude.{ℕ, List, Option, unwrap_or}
use Rattle.cloak_base.specs.declared.names.CtxId.{CtxId}
use Rattle.cloak_model.specs.declared.inside.Ended.{Ended}
use Rattle.cloak_model.specs.declared.inside.Forked.{Forked}
use Rattle.cloak_model.specs.Contexts.{Context, context_number}
use Rattle.cloak_model.specs.Resources.{Resources, first_free}
use Rattle.cloak_model.specs.Fork.{Spaces, Fork, End, forked}

abbrev pub spaces : List (Option Context) → Resources → Spaces
spaces contexts r = record { contexts = contexts; resources = r }

abbrev pub made_fork : Forked → List (Option Context) → Resources → Fork
made_fork answer contexts r = record { answer = answer; spaces = spaces contexts r }

abbrev pub ending : Ended → List (Option Context) → Resources → End
ending ended contexts r = record { ending = ended; spaces = spaces contexts r }

-- the lowest number that is free, if one is
abbrev pub lowest : {A : Type 0} → List (Option A) → ℕ
lowest xs = unwrap_or (first_free xs) 0

-- the number of the new context, and contexts and resources with it and its space, which are at the lowest free numbers
abbrev pub new_context_number : ℕ → List (Option Context) → CtxId
new_context_number domain contexts = record { 0 = context_number domain (lowest contexts) }

abbrev pub forked_spaces : Context → Resources → List (Option Context) → Spaces
forked_spaces c r contexts = forked c (lowest contexts) (lowest r.spaces) r contexts
