use Rattle.std.proofs.Common.{◌≡◌, arith}
use Rattle.std.specs.Prelude.{true, false, Option, Some, None, is_none, option_map}
use Rattle.draw_command.proofs.run.is_free.Goals as goal

none_there : {A B : Type 0} (f : A → B) (o : Option A) → None ≡ option_map f o → true ≡ is_none o
none_there f o e = grind arith

one_there : {A B : Type 0} (f : A → B) (o : Option A) (b : B) → Some b ≡ option_map f o → false ≡ is_none o
one_there f o b e = grind arith

pub returns-in-None : goal.returns-in-None
returns-in-None c = λ number schedule s stands fit. none_there _ _ (c.in-None.ensures.value number schedule s stands fit)

pub returns-in-Some : goal.returns-in-Some
returns-in-Some c = λ number schedule s stands fit. one_there _ _ _ (c.in-Some.ensures.value number schedule s stands fit)
