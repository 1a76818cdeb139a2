-- What a step does to frames and to translations that are known: its events, in the order in which they come about.
use Rattle.std.specs.Prelude.{ℕ, Bool, Option}
use Rattle.cloak_base.specs.declared.names.PageId.{PageId}
use Rattle.cloak_base.specs.declared.names.SpaceId.{SpaceId}
use Rattle.cloak_model.specs.declared.access.Access.{Access}
use Rattle.cloak_model.specs.declared.access.Walked.{Walked}

pub data Event : Type 0 where
  -- it is asked where an access leads under a satp
  Look : ℕ → Access → Event
  -- a frame is made outside
  Touch : ℕ → Event
  -- a page is offered in a frame, and that is granted or not
  Offer : PageId → ℕ → Bool → Event
  -- it is known where it leads: the walk that led there, and the cloaked page that lies there
  Born : ℕ → Access → Walked → Option PageId → Event
  -- a frame is read, to tell what its bytes are
  Read : ℕ → Event
  -- a byte of a frame is written
  Write : ℕ → Event
  -- a resource of a domain is dropped
  Drop : ℕ → ℕ → Event
  -- the regions of a space changed, or it ended
  Space : SpaceId → Event
