-- What a shelf over memory has at a name after a call that sets a file.
use Rattle.std.proofs.Common.{◌≡◌, ℕ, List, ◌++◌, ◌∙◌, ap, Some, Result, Ok, Err, OnOk, OnErr}
use Rattle.std.specs.FinMap.{insert}
use Rattle.cloak_base.specs.declared.causes.Failed.{Failed}
use Rattle.io_traits.specs.Memory.{MemoryFiles, Files, bytes_of}
use Rattle.io_traits.specs.Told.{Grows, OtherFiles}
use Rattle.io_traits.proofs.Tables.{bytes_of-insert, bytes_of-insert_other}

-- after a success a file is set, and after a failure all files stand as they stood
pub record SetsFile {A : Type 0} (r : Result A Failed) (old new : Files) (name bytes : List ℕ) : Type 0 where
  pub set : OnOk r (new ≡ insert old name bytes)
  pub same : OnErr r (new ≡ old)

pub SetsFile-at : {A : Type 0} (r : Result A Failed) (old new after_ok after_err : MemoryFiles) (name bytes : List ℕ) →
    OnOk r (new ≡ after_ok) → OnErr r (new ≡ after_err) → after_ok.files ≡ insert old.files name bytes →
    after_err.files ≡ old.files →
    SetsFile r old.files new.files name bytes
SetsFile-at (Ok a) old new after_ok after_err name bytes ok err sets stays =
    record { set = ap (λ s. s.files) ok ∙ sets; same = tt }
SetsFile-at (Err e) old new after_ok after_err name bytes ok err sets stays =
    record { set = tt; same = ap (λ s. s.files) err ∙ stays }

pub SetsFile-here : {A : Type 0} (r : Result A Failed) (old new : Files) (name bytes : List ℕ) →
    SetsFile r old new name bytes → OnOk r (bytes_of new name ≡ bytes)
SetsFile-here (Ok a) old new name bytes s = ap (λ files. bytes_of files name) s.set ∙ bytes_of-insert old name bytes
SetsFile-here (Err e) old new name bytes s = tt

pub SetsFile-others : {A : Type 0} (r : Result A Failed) (old new : Files) (name bytes : List ℕ) →
    SetsFile r old new name bytes →
    OtherFiles name (λ other. Some (bytes_of old other)) (λ other. Some (bytes_of new other))
SetsFile-others (Ok a) old new name bytes s = λ other apart.
    ap (λ (l : List ℕ). Some l)
    (ap (λ files. bytes_of files other) s.set ∙ bytes_of-insert_other old name bytes other apart)
SetsFile-others (Err e) old new name bytes s = λ other apart. ap (λ files. Some (bytes_of files other)) s.same

-- a file that is set to its bytes and a piece grew by the piece
pub SetsFile-grows : {A : Type 0} (r : Result A Failed) (old new : Files) (name piece : List ℕ) →
    SetsFile r old new name (bytes_of old name ++ piece) →
    OnOk r (Grows (Some (bytes_of old name)) (Some (bytes_of new name)) piece)
SetsFile-grows (Ok a) old new name piece s = λ before told.
    SetsFile-here (Ok a) old new name (bytes_of old name ++ piece) s ∙ ap (λ (l : List ℕ). l ++ piece) told
SetsFile-grows (Err e) old new name piece s = tt
