-- A step of a copy into the area writes in no cloaked page.
use Rattle.std.proofs.Common.{◌≡◌, ℕ, Bool, true, false, Option, Some, None, refl}
use Rattle.cloak_base.specs.declared.names.PageId.{PageId}
use Rattle.cloak_model.specs.declared.answer.Answer.{Answer}
use Rattle.cloak_model.specs.declared.answer.Answer.TheVariants as told
use Rattle.cloak_model.specs.World.{World}
use Rattle.cloak_model.specs.Contexts.{Context}
use Rattle.cloak_model.specs.Resources.{Resources}
use Rattle.cloak_model.specs.Calls.{copy_in_step}
use Rattle.cloak_model.specs.Script.{played}
use Rattle.cloak_model.proofs.CallParts.{in_put, in_reached, in_placed, in_step}

put_writes_none : (c : Context) (done byte : ℕ) (a : Answer) (w : World) → (played (in_put c done byte a) w).answer.wrote ≡ None
put_writes_none c done byte told.Ok w = refl
put_writes_none c done byte (told.Absent cause) w = refl
put_writes_none c done byte (told.Word value) w = refl
put_writes_none c done byte told.Stopped w = refl

reached_writes_none : (c : Context) (q : PageId) (done : ℕ) (a : Answer) (w : World) → (played (in_reached c q done a) w).answer.wrote ≡ None
reached_writes_none c q done told.Ok w = put_writes_none c done _ _ _
reached_writes_none c q done (told.Absent cause) w = refl
reached_writes_none c q done (told.Word value) w = refl
reached_writes_none c q done told.Stopped w = refl

placed_writes_none : (c : Context) (done : ℕ) (place : Option PageId) (cloaked : Bool) (w : World) → (played (in_placed c done place cloaked) w).answer.wrote ≡ None
placed_writes_none c done None cloaked w = refl
placed_writes_none c done (Some q) true w = refl
placed_writes_none c done (Some q) false w = reached_writes_none c q done _ _

step_writes_none : (all : Bool) (domain : ℕ) (r : Resources) (c : Context) (done : ℕ) (w : World) → (played (in_step all domain r c done) w).answer.wrote ≡ None
step_writes_none true domain r c done w = refl
step_writes_none false domain r c done w = placed_writes_none c done _ _ w

pub copy_in_writes_none : (domain : ℕ) (r : Resources) (c : Context) (done : ℕ) (w : World) → (played (copy_in_step domain r c done) w).answer.wrote ≡ None
unfolding copy_in_step
copy_in_writes_none domain r c done w = step_writes_none _ domain r c done w
