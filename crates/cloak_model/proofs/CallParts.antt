-- The steps of a copy in parts, for proofs that go by cases: each is what the definition is, unfolded.
use Rattle.std.specs.Prelude.{ℕ, ◌+◌, ◌%◌, Bool, Option, Some, Ok, Err, if◌then◌else◌}
use Rattle.cloak_base.specs.declared.names.Kind.TheVariants.{Load, Store}
use Rattle.cloak_base.specs.declared.names.PageId.{PageId}
use Rattle.cloak_model.specs.declared.context.Phase.TheVariants.{Plain, CopyIn, Waiting, CopyOut}
use Rattle.cloak_model.specs.declared.inside.Begun.TheVariants.{Copying}
use Rattle.cloak_model.specs.declared.inside.Copied.TheVariants as copied
use Rattle.cloak_model.specs.declared.resource.MapFault.TheVariants.{BadArg}
use Rattle.cloak_model.specs.declared.answer.Answer.{Answer}
use Rattle.cloak_model.specs.Script.{Script, Gives, Reach, Get, Put, Write, ask, read, change, ◌>>=◌}
use Rattle.cloak_model.specs.Contexts.{Context, in_phase, word_of_page}
use Rattle.cloak_model.specs.Resources.{Resources, page_at}
use Rattle.cloak_model.specs.Calls.{Copy, BeginsCall, buffer, area, call_number, takes_bytes, is_cloaked, is_good, waiting, copy_ends, byte_address, if_reached, if_got, if_apart}

-- byte `done` was put into the area
abbrev pub in_put : Context → ℕ → ℕ → Answer → Script Copy
in_put c done byte answer =
    if_reached c (byte_address (area c) done) answer
    (copy_ends (in_phase (CopyIn (done + 1)) c) (copied.Loaded (byte_address (buffer c) done) byte))

-- byte `done` of the buffer was reached in page q
abbrev pub in_reached : Context → PageId → ℕ → Answer → Script Copy
in_reached c q done answer =
    if_reached c (byte_address (buffer c) done) answer
    (read q (byte_address (buffer c) done % 4096) 1 >>=
    (λ byte. ask (Put (byte_address (area c) done) 1 byte) >>= (in_put c done byte)))

-- byte `done` goes to the area: where it lies in the buffer, and whether the area there is cloaked
abbrev pub in_placed : Context → ℕ → Option PageId → Bool → Script Copy
in_placed c done page cloaked =
    if_apart c page cloaked (λ q. ask (Reach q (byte_address (buffer c) done) Load) >>= (in_reached c q done))

-- a step of a copy into the area, by whether all bytes are there
abbrev pub in_step : Bool → ℕ → Resources → Context → ℕ → Script Copy
in_step over domain r c done =
    (if over then copy_ends (in_phase Waiting c) copied.CallReady else
    in_placed c done (page_at domain r c.space (byte_address (buffer c) done)) (is_cloaked r c (byte_address (area c) done)))

-- byte `done` is stored in page q, which was reached
abbrev pub out_reached : Context → PageId → ℕ → ℕ → ℕ → Answer → Script Copy
out_reached c q done total byte answer =
    if_reached c (byte_address (buffer c) done) answer
    (change (Write q (byte_address (buffer c) done % 4096) 1 byte) >>=
    (λ stored. Gives (record {
      context = in_phase (CopyOut (done + 1) total) c;
      ending = copied.Going;
      wrote = Some (word_of_page q (byte_address (buffer c) done));
    })))

-- byte `done` of the area was got, and goes to page q
abbrev pub out_got : Context → PageId → ℕ → ℕ → Answer → Script Copy
out_got c q done total answer =
    if_got c (byte_address (area c) done) answer
    (λ byte. ask (Reach q (byte_address (buffer c) done) Store) >>= (out_reached c q done total byte))

-- byte `done` goes to the buffer: where it lies there, and whether the area there is cloaked
abbrev pub out_placed : Context → ℕ → ℕ → Option PageId → Bool → Script Copy
out_placed c done total page cloaked =
    if_apart c page cloaked (λ q. ask (Get (byte_address (area c) done) 1) >>= (out_got c q done total))

-- a step of a copy into the buffer, by whether all bytes are there
abbrev pub out_step : Bool → ℕ → Resources → Context → ℕ → ℕ → Script Copy
out_step over domain r c done total =
    (if over then copy_ends (in_phase Plain c) copied.Done else
    out_placed c done total (page_at domain r c.space (byte_address (buffer c) done)) (is_cloaked r c (byte_address (area c) done)))

-- a call with a buffer, by whether this is good
abbrev pub copy_begin : Bool → Context → BeginsCall
copy_begin good c =
    if good then
    (if takes_bytes (call_number c) then record { answer = Ok Copying; context = in_phase (CopyIn 0) c } else waiting c) else
    record { answer = Err BadArg; context = c }

-- a call, by whether it has a buffer
abbrev pub call_begin : Bool → Resources → Context → BeginsCall
call_begin buffered r c = if buffered then copy_begin (is_good r c) c else waiting c
