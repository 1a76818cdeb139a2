-- Files that are only read.
use Rattle.std.proofs.Common.{◌≡◌, ◌∙◌, ℕ, List, Option, Result, Ok, Err, IsErrAnd, IfErr, refl, sym, subst}
use Rattle.io_traits.specs.Told.{SameFiles}
use Rattle.command_parts.specs.Outside.{FilesOutside, OnlyRead}
use Rattle.asm_text.specs.Making.{FailsToRead}
use Rattle.manifest.specs.Reading.{IsNoReadFault, IsWant, ReadsParts}
use Rattle.manifest.specs.declared.fault.PackError.{PackError}
use Rattle.manifest.specs.declared.fault.PackError.TheVariants.{ReadFault, NoMemory, Faulty}

pub same_held : (old new : List ℕ → Option (List ℕ)) → SameFiles old new → new ≡ old
same_held old new same = λ i name. same name i

pub read_nothing : {S : Type 0} (files : FilesOutside S) → OnlyRead files files
read_nothing files = record { held = λ name. refl; reading = refl; writing = refl }

pub read_more : {S : Type 0} (first mid last : FilesOutside S) → OnlyRead first mid → OnlyRead mid last → OnlyRead first last
read_more first mid last one two = record {
  held = λ name. two.held name ∙ one.held name;
  reading = two.reading ∙ one.reading;
  writing = two.writing ∙ one.writing;
}

pub fails_later : {S : Type 0} (first mid last : FilesOutside S) → OnlyRead first mid → FailsToRead mid last →
    FailsToRead first last
fails_later first mid last one two = record {
  held = λ name. two.held name ∙ one.held name;
  reading = rw (← one.reading) two.reading;
  writing = two.writing ∙ one.writing;
}

-- a fault is handed on, and files were only read before it
pub handed_on : {S B : Type 0} (A : Type 0) (first mid last : FilesOutside S) (e : PackError) (r : Result B PackError) →
    OnlyRead first mid → ReadsParts {A = A} mid last (Err e) → IsErrAnd r (λ f. f ≡ e) → ReadsParts first last r
handed_on A first mid last e (Ok x) one two is = absurd is
handed_on {S} {B} A first mid last ReadFault (Err f) one two is =
    subst (λ (x : PackError). ReadsParts {A = B} first last (Err x)) (sym is) (fails_later first mid last one two)
handed_on {S} {B} A first mid last NoMemory (Err f) one two is =
    subst (λ (x : PackError). ReadsParts {A = B} first last (Err x)) (sym is) (read_more first mid last one two)
handed_on {S} {B} A first mid last (Faulty fault) (Err f) one two is =
    subst (λ (x : PackError). ReadsParts {A = B} first last (Err x)) (sym is) (read_more first mid last one two)

pub only_lacks : {S B : Type 0} (first last : FilesOutside S) (r : Result B PackError) →
    OnlyRead first last → IsErrAnd r (λ f. f ≡ NoMemory) → ReadsParts first last r
only_lacks first last (Ok x) one is = absurd is
only_lacks {S} {B} first last (Err f) one is =
    subst (λ (x : PackError). ReadsParts {A = B} first last (Err x)) (sym is) one

-- a function that reads no file failed, and files were only read before it
pub unread : {S B : Type 0} (first last : FilesOutside S) (e : PackError) (r : Result B PackError) → OnlyRead first last →
    IsNoReadFault e → IsErrAnd r (λ f. f ≡ e) → ReadsParts first last r
unread first last e (Ok x) one none is = absurd is
unread first last ReadFault (Err f) one none is = absurd none
unread {S} {B} first last NoMemory (Err f) one none is =
    subst (λ (x : PackError). ReadsParts {A = B} first last (Err x)) (sym is) one
unread {S} {B} first last (Faulty fault) (Err f) one none is =
    subst (λ (x : PackError). ReadsParts {A = B} first last (Err x)) (sym is) one

-- the same of what it returned
pub returned_unread : {S B : Type 0} (first last : FilesOutside S) (r : Result B PackError) → OnlyRead first last →
    IfErr r IsNoReadFault → ReadsParts first last r
returned_unread first last (Ok x) one none = one
returned_unread first last (Err ReadFault) one none = absurd none
returned_unread first last (Err NoMemory) one none = one
returned_unread first last (Err (Faulty fault)) one none = one

-- want of memory is no fault of reading
pub want_unread : (e : PackError) → IsWant e → IsNoReadFault e
want_unread ReadFault want = absurd want
want_unread NoMemory want = tt
want_unread (Faulty fault) want = absurd want
