-- What a frame or a block has, and what becomes of it.
use Rattle.std.specs.Prelude.{ℕ, Bool, true, false, Option, Some, None}
use Rattle.cloak_base.specs.declared.names.PageId.{PageId}
use Rattle.run_notes.specs.declared.look.CipherId.{CipherId}
use Rattle.run_notes.specs.declared.look.Look.{Look}
use Rattle.run_notes.specs.declared.look.Look.TheVariants as look
use Rattle.run_notes.specs.declared.look.Sight.{Sight}

-- nothing of a page
abbrev pub bare : Look → Sight
bare l = record { look = l; page = None; number = 0 }

-- this ciphertext; one that is not known, if there is none
abbrev pub cipher : Option CipherId → Sight
cipher None = bare look.Cipher
cipher (Some id) = record { look = look.Cipher; page = Some id.page; number = id.number }

-- a page in use that is newer than all that was shown of it
abbrev pub changed : PageId → ℕ → Sight
changed page shown = record { look = look.Changed; page = Some page; number = shown }

-- Ciphertext, as it was made or changed since.
abbrev pub is_cipher : Look → Bool
is_cipher look.Cipher = true
is_cipher look.Old = true
is_cipher look.Altered = true
is_cipher look.OldAltered = true
is_cipher look.Zeros = false
is_cipher look.Open = false
is_cipher look.Used = false
is_cipher look.Changed = false
is_cipher look.Lost = false

-- ciphertext as it was made: a store changes it
abbrev pub is_whole_cipher : Look → Bool
is_whole_cipher look.Cipher = true
is_whole_cipher look.Old = true
is_whole_cipher look.Altered = false
is_whole_cipher look.OldAltered = false
is_whole_cipher look.Zeros = false
is_whole_cipher look.Open = false
is_whole_cipher look.Used = false
is_whole_cipher look.Changed = false
is_whole_cipher look.Lost = false

-- Once something was stored there in the open.

abbrev pub stored_by : Look → Sight → Sight
stored_by look.Zeros s = bare look.Open
stored_by look.Cipher s = record s { look = look.Altered }
stored_by look.Old s = record s { look = look.OldAltered }
stored_by look.Altered s = s
stored_by look.OldAltered s = s
stored_by look.Open s = s
stored_by look.Used s = s
stored_by look.Changed s = s
stored_by look.Lost s = s

abbrev pub stored : Sight → Sight
stored s = stored_by s.look s

-- Once no page takes what is there.

abbrev pub aged_by : Look → Sight → Sight
aged_by look.Cipher s = record s { look = look.Old }
aged_by look.Altered s = record s { look = look.OldAltered }
aged_by look.Old s = s
aged_by look.OldAltered s = s
aged_by look.Zeros s = s
aged_by look.Open s = s
aged_by look.Used s = s
aged_by look.Changed s = s
aged_by look.Lost s = s

abbrev pub aged : Sight → Sight
aged s = aged_by s.look s

-- The page that is in use there, if it is newer than what was shown of it.

abbrev pub held_by : Look → Option PageId → Option PageId
held_by look.Changed page = page
held_by look.Zeros page = None
held_by look.Open page = None
held_by look.Cipher page = None
held_by look.Old page = None
held_by look.Altered page = None
held_by look.OldAltered page = None
held_by look.Used page = None
held_by look.Lost page = None

abbrev pub held : Sight → Option PageId
held s = held_by s.look s.page
