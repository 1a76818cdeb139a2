-- A byte of the console as one sign.
use Rattle.std.specs.Prelude.{ℕ, ◌==◌, ◌&&◌, nat_le, if◌then◌else◌}

-- itself from `!` to `~`; a space and a line feed have pictures, and all others are a dot
abbrev pub sign_of_byte : ℕ → ℕ
sign_of_byte byte =
    if nat_le 33 byte && nat_le byte 126 then byte else
    if byte == 32 then 9251 else
    if byte == 10 then 8629 else 183
