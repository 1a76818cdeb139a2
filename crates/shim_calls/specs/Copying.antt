-- The step of a copy by the phase of the context, and when a byte to be copied does not fit.
use Rattle.std.specs.Prelude.{◌≡◌, ◌<◌, ◌⊎◌, ℕ, true, false}
use Rattle.cloak_model.specs.declared.context.Phase.{Phase}
use Rattle.cloak_model.specs.declared.context.Phase.TheVariants.{Plain, CopyIn, Waiting, CopyOut}
use Rattle.cloak_model.specs.declared.inside.Copied.TheVariants as copied
use Rattle.cloak_model.specs.Contexts.{Context}
use Rattle.cloak_model.specs.Calls.{Copy, copy_ends, copy_in_step, copy_out_step, buffer, area, call_length, byte_address, is_cloaked}
use Rattle.cloak_model.specs.Resources.{Resources}
use Rattle.cloak_model.specs.Script.{Script}

-- the next step of the copy that a context is in, by its phase; in no copy there is nothing left to do
unfoldable pub next_copy : Phase → ℕ → Resources → Context → Script Copy
next_copy Plain domain r c = copy_ends c copied.Done
next_copy (CopyIn done) domain r c = copy_in_step domain r c done
next_copy Waiting domain r c = copy_ends c copied.Done
next_copy (CopyOut done total) domain r c = copy_out_step domain r c done total

-- byte `done` of the buffer is not cloaked, or that of the area is
abbrev pub IsMisplaced : Resources → Context → ℕ → Type 0
IsMisplaced r c done = (is_cloaked r c (byte_address (buffer c) done) ≡ false) ⊎ (is_cloaked r c (byte_address (area c) done) ≡ true)

-- a byte is left, and it is not where the call needs it
abbrev pub NoLongerFits : Phase → Resources → Context → Type 0
NoLongerFits Plain r c = ⊥
NoLongerFits (CopyIn done) r c = (done < call_length c) × IsMisplaced r c done
NoLongerFits Waiting r c = ⊥
NoLongerFits (CopyOut done total) r c = (done < total) × IsMisplaced r c done
