-- An item of a record in words. Numbers are decimal, words eight hexadecimal digits, digests SHA-256 in hexadecimal.
use Rattle.std.specs.Prelude.{ℕ, ◌==◌, ◌||◌, List, [], ◌++◌, codes, decimal, nat_le, if◌then◌else◌}
use Rattle.hex.specs.Hex.{encode_lower}
use Rattle.sha2.specs.Sha256.{sha256}
use Rattle.cloak_base.specs.declared.causes.Shown.{Shown}
use Rattle.cloak_model.specs.Items.{Item}
use Rattle.cloak_model.specs.Items as item
use Rattle.cloak_model.specs.Report.{hexadecimal, words_text}
use Rattle.record_text.specs.Names.{cause_name, call_name}

abbrev pub program_named : ℕ → List ℕ
program_named domain = codes "program " ++ decimal domain

abbrev pub context_named : ℕ → List ℕ
context_named ctx = codes "context " ++ decimal ctx

abbrev pub cipher_text : ℕ → List ℕ → List ℕ
cipher_text frame bytes = codes "frame " ++ (decimal frame ++ (codes " is shown as " ++ encode_lower (sha256 bytes)))

abbrev pub put_text : ℕ → ℕ → ℕ → List ℕ
put_text address width value =
    codes "a program stores " ++ (hexadecimal value ++ (codes " of width " ++ (decimal width ++ (codes " at " ++ hexadecimal address))))

-- the call with which a context leaves, and its arguments
abbrev pub call_text : Shown → List ℕ
call_text s = codes ": " ++ (call_name s.number ++ (codes " (" ++ (hexadecimal s.number ++ (codes ") with" ++ words_text s.args))))

abbrev pub page_text : Shown → List ℕ
page_text s = codes " at page " ++ hexadecimal s.stval

-- the page is shown for the causes that are about an address
abbrev pub leave_end : Shown → List ℕ
leave_end s =
    if s.cause == 8 then call_text s else
    if nat_le 16 s.cause || (s.cause == 2 || s.cause == 3) then [] else page_text s

abbrev pub leave_text : Shown → List ℕ
leave_text s = context_named s.ctx ++ (codes " leaves: " ++ (cause_name s.cause ++ leave_end s))

-- what a program was answered
abbrev pub inward_text : ℕ → List ℕ → List ℕ
inward_text domain words = program_named domain ++ words

abbrev pub absent_text : ℕ → ℕ → List ℕ
absent_text domain cause = inward_text domain (codes " finds its address absent: ") ++ cause_name cause

abbrev pub word_text : ℕ → ℕ → List ℕ
word_text domain value = inward_text domain (codes " loads, uncloaked, ") ++ hexadecimal value

abbrev pub resume_text : ℕ → ℕ → ℕ → List ℕ
resume_text domain ctx answer =
    context_named ctx ++ (codes " of " ++ (program_named domain ++ (codes " is resumed with answer " ++ hexadecimal answer)))

-- an item that is no marker
unfoldable pub item_text : Item → List ℕ
item_text (item.Cipher frame bytes) = cipher_text frame bytes
item_text (item.Put address width value) = put_text address width value
item_text (item.Leave s) = leave_text s
item_text (item.Step number) = []
item_text (item.Close steps) = []
item_text item.End = []
item_text (item.Ok domain) = inward_text domain (codes " is granted its access")
item_text (item.Absent domain cause) = absent_text domain cause
item_text (item.Word domain value) = word_text domain value
item_text (item.Timer domain) = inward_text domain (codes " is interrupted by the timer")
item_text (item.Resume domain ctx answer) = resume_text domain ctx answer
item_text (item.Stopped domain) = inward_text domain (codes " asks what ends it or stops the run")
item_text (item.Ended domain) = inward_text domain (codes " is ended")
