-- Where the accesses of a hart lead, and what stands there.
use Rattle.std.specs.Prelude.{ℕ, ◌%◌, ◌==◌, ◌&&◌, Bool, List, length, Option, Some, None, Ok, Err, if◌then◌else◌}
use Rattle.cloak_base.specs.Constants.{is_in_frames}
use Rattle.cloak_base.specs.declared.names.Kind.{Kind}
use Rattle.cloak_model.specs.declared.access.Access.{Access}
use Rattle.cloak_model.specs.Csr.{satp_of}
use Rattle.cloak_model.specs.Effect.{is_width}
use Rattle.cloak_model.specs.Hart.{Hart}
use Rattle.cloak_model.specs.KernelStep.{access}
use Rattle.cloak_model.specs.Memory.{is_in_ram, value_at}
use Rattle.cloak_model.specs.Walk.{Walk, walk}

-- the address in RAM to which a walk led
abbrev pub place_led : List (List ℕ) → Walk → Option ℕ
place_led ram (Ok walked) = if is_in_ram ram walked.pa then Some walked.pa else None
place_led ram (Err cause) = None

-- the address in RAM where an access leads by the tables of this satp, if it leads there
abbrev pub led_by : List (List ℕ) → ℕ → Access → Option ℕ
led_by ram satp a = place_led ram (walk ram satp a)

-- and of a hart
abbrev pub led : List (List ℕ) → Hart → Kind → ℕ → Option ℕ
led ram h kind va = led_by ram (satp_of h.csrs) (access h kind va)

-- there are so many bytes at an address that is a multiple of their count
abbrev pub is_readable : ℕ → ℕ → ℕ → Bool
is_readable frames pa width = is_width width && (is_in_frames frames pa && (pa % width == 0))

-- the value there, 0 if there is none
abbrev pub value_there : List (List ℕ) → ℕ → ℕ → ℕ
value_there ram pa width = if is_readable (length ram) pa width then value_at ram pa width else 0
