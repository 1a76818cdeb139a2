-- What a right names.
use Rattle.cloak_base.specs.declared.names.Frame.{Frame}
use Rattle.cloak_base.specs.declared.names.PageId.{PageId}

-- a frame and the page that it holds
pub record Holding : Type 0 where
  pub frame : Frame
  pub page : PageId
