-- The page tables that are recorded: of each space the word of satp with which it was first resumed. A step of a program
-- leaves them as they are, and so does all that the end of a domain asks. (What records one, and what forgets one, is
-- in the step of the joint machine around it.)
use Rattle.std.specs.Prelude.{ℕ, ◌≡◌, Option, None}
use Rattle.cloak_base.specs.declared.names.SpaceId.{SpaceId}
use Rattle.cloak_model.specs.DomainState.{Domain}
use Rattle.cloak_model.specs.DomainStep.{domain_step}
use Rattle.cloak_model.specs.Ending.{ask_end}
use Rattle.cloak_model.specs.World.{World, Flat, Cloaked, Alone}

-- the page tables that are recorded in a world; none outside the joint machine
abbrev pub recorded_tables : World → SpaceId → Option ℕ
recorded_tables (Flat ram) = λ s. None
recorded_tables (Cloaked c) = c.memory.ledger.root
recorded_tables (Alone h) = λ s. None

-- The law, of each step of a program in each world.
abbrev pub StepKeepsTables : Type 0
StepKeepsTables =
    (slot : ℕ) (d : Domain) (w : World) → recorded_tables (domain_step slot d w).world ≡ recorded_tables w

-- The law, of what the end of each domain asks in each world.
abbrev pub EndKeepsTables : Type 0
EndKeepsTables = (d : ℕ) (w : World) → recorded_tables (ask_end d w).world ≡ recorded_tables w
