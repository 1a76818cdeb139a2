-- Room for every frozen state of an image.
use Rattle.std.specs.Prelude.{ℕ, ◌≡◌, ◌≤◌, ◌*◌, [], vec_capacity}
use Rattle.cloak_model.specs.declared.image.KernelImage.{KernelImage}
use Rattle.frozen_state.specs.declared.room.FrozenRoom.{FrozenRoom}

-- Nothing is in these lists yet, and there is room for this many programs, for the harts and the frames of the image,
-- and for each page that a program can have.
pub record IsRoomFor (k : KernelImage) (programs : ℕ) (room : FrozenRoom) : Type 0 where
  pub no_domain : room.domains.items ≡ []
  pub no_hart : room.harts.items ≡ []
  pub no_frame : room.frames.items ≡ []
  pub no_page : room.recorded.items ≡ []
  pub domains : programs ≤ vec_capacity room.domains
  pub harts : k.harts ≤ vec_capacity room.harts
  pub frames : k.frames ≤ vec_capacity room.frames
  pub pages : programs * 16384 ≤ vec_capacity room.recorded
