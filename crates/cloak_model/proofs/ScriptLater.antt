-- No script goes back.
use Rattle.cloak_model.specs.AskPages.{ask_read}
use Rattle.cloak_model.specs.World.{World}
use Rattle.cloak_model.specs.Script.{Question, Reach, Get, Put, Clear, Change, Write, Copy, Forget, Script, Gives, Asks, Reads, Changes, asked, changed, played}
use Rattle.cloak_model.proofs.Later.{IsLater, IsLater-refl, IsLater-trans}
use Rattle.cloak_model.proofs.PagesLater.{later_reach, later_read, later_write, later_get, later_put, later_clear, later_copy, later_forget}

pub later_asked : (question : Question) (w : World) → IsLater w (asked question w).world
later_asked (Reach q va kind) w = later_reach q va kind w
later_asked (Get va width) w = later_get va width w
later_asked (Put va width value) w = later_put va width value w
later_asked (Clear domain marked) w = later_clear domain marked w

pub later_changed : (change : Change) (w : World) → IsLater w (changed change w).world
later_changed (Write q at width value) w = later_write q at width value w
later_changed (Copy domain from to) w = later_copy domain from to w
later_changed (Forget domain resource) w = later_forget domain resource w

pub later_played : {A : Type 0} (s : Script A) (w : World) → IsLater w (played s w).world
later_played (Gives a) w = IsLater-refl w
later_played (Asks question more) w =
    IsLater-trans _ _ _ (later_asked question w) (later_played (more (asked question w).answer) (asked question w).world)
later_played (Reads q at width more) w =
    IsLater-trans _ _ _ (later_read q at width w)
    (later_played (more (ask_read q at width w).answer) (ask_read q at width w).world)
later_played (Changes change more) w =
    IsLater-trans _ _ _ (later_changed change w) (later_played more (changed change w).world)

-- what follows a script's questions follows the script
pub ruleset laters = (later_reach, later_read, later_write, later_get, later_put, later_played)
