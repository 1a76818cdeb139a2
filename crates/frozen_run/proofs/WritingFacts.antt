-- What a pen added, piece by piece.
use Rattle.std.proofs.Common.{◌≡◌, ◌<◌, ◌+◌, ℕ, Bool, true, false, List, [], ◌∷◌, ◌++◌, length, take, get_or, ap, refl, sym, ◌∙◌, subst, append_assoc, arith}
use Rattle.std.proofs.Common.{Option, Result, Ok, Err, OnOk, OnErr, is_err}
use Rattle.std.proofs.lemmas.List.{flat_map_more, take_more}
use Rattle.std.specs.List.{flat_map}
use Rattle.sha2.specs.Hashers.{Holds256}
use Rattle.sha2.specs.Sha256.{sha256}
use Rattle.cloak_base.specs.declared.causes.Failed.{Failed}
use Rattle.io_traits.specs.declared.shelf.Shelf as shelves
use Rattle.io_traits.specs.Told.{Tells, Grows, GrowsByFront, Counts, OtherFiles}
use Rattle.io_traits.proofs.ToldFacts.{Grows-append, Grows-none, GrowsByFront-append, GrowsByFront-first, Rose-after}
use Rattle.frozen_run.specs.declared.pen.Pen.{Pen}
use Rattle.frozen_run.specs.Writing.{Adds, HasAdded, AddsMore, TellsFront}

-- Shelves.

-- what an appending did, by its answer
pub adds_by_answer : {S : Type 0} (of_shelf : shelves.Ghosts S) (failed : Bool) (name : List ℕ) (before after : S)
    (piece : List ℕ) (r : Result Unit Failed) → failed ≡ is_err r →
    OnOk r (Grows (of_shelf.held before name) (of_shelf.held after name) piece) →
    OnErr r (GrowsByFront (of_shelf.held before name) (of_shelf.held after name) piece) →
    OtherFiles name (of_shelf.held before) (of_shelf.held after) →
    Counts (of_shelf.writing_faults before) (of_shelf.writing_faults after) r →
    of_shelf.reading_faults after ≡ of_shelf.reading_faults before → Adds of_shelf failed name before after piece
adds_by_answer of_shelf failed name before after piece (Ok u) is ok err others writing reading = record {
  whole = λ well. ok;
  front = λ ill. absurd (let clash : true ≡ false = sym ill ∙ is in cc);
  others = others;
  no_fault = λ well. writing;
  fault = λ ill. absurd (let clash : true ≡ false = sym ill ∙ is in cc);
  reading = reading;
}
adds_by_answer of_shelf failed name before after piece (Err e) is ok err others writing reading = record {
  whole = λ well. absurd (let clash : true ≡ false = sym is ∙ well in cc);
  front = λ ill. err;
  others = others;
  no_fault = λ well. absurd (let clash : true ≡ false = sym is ∙ well in cc);
  fault = λ ill. writing;
  reading = reading;
}

-- bytes that were added whole, and then more
pub adds_then : {S : Type 0} (of_shelf : shelves.Ghosts S) (was failed : Bool) (name : List ℕ) (start mid after : S)
    (xs ys : List ℕ) → was ≡ false → Adds of_shelf was name start mid xs → Adds of_shelf failed name mid after ys →
    Adds of_shelf failed name start after (xs ++ ys)
adds_then of_shelf was failed name start mid after xs ys well one two = record {
  whole = λ ok. Grows-append _ _ _ xs ys (one.whole well) (two.whole ok);
  front = λ ill. GrowsByFront-append _ _ _ xs ys (one.whole well) (two.front ill);
  others = λ other apart. two.others other apart ∙ one.others other apart;
  no_fault = λ ok. two.no_fault ok ∙ one.no_fault well;
  fault = λ ill. Rose-after _ _ _ (one.no_fault well) (two.fault ill);
  reading = two.reading ∙ one.reading;
}

-- a front of bytes, of which more were to come
pub adds_front : {S : Type 0} (of_shelf : shelves.Ghosts S) (failed : Bool) (name : List ℕ) (start after : S)
    (xs ys : List ℕ) → failed ≡ true → Adds of_shelf failed name start after xs →
    Adds of_shelf failed name start after (xs ++ ys)
adds_front of_shelf failed name start after xs ys ill one = record {
  whole = λ well. absurd (let clash : true ≡ false = sym ill ∙ well in cc);
  front = λ same. GrowsByFront-first _ _ xs ys (one.front same);
  others = one.others;
  no_fault = λ well. absurd (let clash : true ≡ false = sym ill ∙ well in cc);
  fault = one.fault;
  reading = one.reading;
}

-- nothing was added
pub adds_none : {S : Type 0} (of_shelf : shelves.Ghosts S) (failed : Bool) (name : List ℕ) (s : S) → failed ≡ false →
    Adds of_shelf failed name s s []
adds_none of_shelf failed name s well = record {
  whole = λ same. Grows-none _;
  front = λ ill. absurd (let clash : true ≡ false = sym ill ∙ well in cc);
  others = λ other apart. refl;
  no_fault = λ same. refl;
  fault = λ ill. absurd (let clash : true ≡ false = sym ill ∙ well in cc);
  reading = refl;
}

-- Pens.

-- one that did not adds a piece
pub gives_piece : {S : Type 0} (of_shelf : shelves.Ghosts S) (old new : Pen S) (bytes : List ℕ) → old.failed ≡ false →
    new.name ≡ old.name → Adds of_shelf new.failed new.name.now old.shelf.now new.shelf.now bytes →
    ((m : List ℕ) → Holds256 old.digest m → Holds256 new.digest (m ++ bytes)) → AddsMore of_shelf old new bytes
gives_piece of_shelf old new bytes well name adds digest = record {
  name = name;
  more = λ start before had. record {
    adds = adds_then of_shelf old.failed new.failed new.name.now start old.shelf.now new.shelf.now before bytes well
        (rw name had.adds) adds;
    digest = λ ok. digest before (had.digest well);
  };
}

-- bytes, and then more
pub gives_then : {S : Type 0} {of_shelf : shelves.Ghosts S} {old mid new : Pen S} {xs ys : List ℕ} →
    AddsMore of_shelf old mid xs → AddsMore of_shelf mid new ys → AddsMore of_shelf old new (xs ++ ys)
gives_then {S} {of_shelf} {old} {mid} {new} {xs} {ys} one two = record {
  name = two.name ∙ one.name;
  more = λ start before had.
      subst (λ (l : List ℕ). HasAdded of_shelf start new l) (append_assoc before xs ys)
      (two.more start (before ++ xs) (one.more start before had));
}

-- the next of some values
pub gives_each : {S X : Type 0} {of_shelf : shelves.Ghosts S} {old mid new : Pen S} (bytes : X → List ℕ) (xs : List X)
    (i : ℕ) (x : X) → i < length xs → x ≡ get_or xs i x → AddsMore of_shelf old mid (flat_map bytes (take i xs)) →
    AddsMore of_shelf mid new (bytes x) → AddsMore of_shelf old new (flat_map bytes (take (i + 1) xs))
gives_each {S} {X} {of_shelf} {old} {mid} {new} bytes xs i x low is one two =
    subst (λ (l : List ℕ). AddsMore of_shelf old new l)
    (flat_map_more bytes [] (take i xs) x
    ∙ ap (λ (l : List X). flat_map bytes l)
    (ap (λ (y : X). take i xs ++ y ∷ []) is ∙ sym (take_more xs i x low)))
    (gives_then one two)

-- a pen that has added nothing yet
pub has_none : {S : Type 0} (of_shelf : shelves.Ghosts S) (pen : Pen S) → pen.failed ≡ false → Holds256 pen.digest [] →
    HasAdded of_shelf pen.shelf.now pen []
has_none of_shelf pen well empty = record {
  adds = adds_none of_shelf pen.failed pen.name.now pen.shelf.now well;
  digest = λ ok. empty;
}

-- a pen that failed before its last bytes
pub adds_body : {S : Type 0} (of_shelf : shelves.Ghosts S) (name : List ℕ) (start : S) (pen : Pen S)
    (body rest : List ℕ) → pen.name.now ≡ name → pen.failed ≡ true → HasAdded of_shelf start pen body →
    Adds of_shelf true name start pen.shelf.now (body ++ rest)
adds_body of_shelf name start pen body rest same ill had =
    subst (λ (n : List ℕ). Adds of_shelf true n start pen.shelf.now (body ++ rest)) same
    (subst (λ (b : Bool). Adds of_shelf b pen.name.now start pen.shelf.now (body ++ rest)) ill
    (adds_front of_shelf pen.failed pen.name.now start pen.shelf.now body rest ill had.adds))

-- one that did not, and then the digest
pub adds_digest : {S : Type 0} (of_shelf : shelves.Ghosts S) (name : List ℕ) (start : S) (pen : Pen S) (after : S)
    (body digest : List ℕ) (r : Result Unit Failed) → pen.name.now ≡ name → pen.failed ≡ false →
    HasAdded of_shelf start pen body → digest ≡ sha256 body →
    OnOk r (Grows (of_shelf.held pen.shelf.now name) (of_shelf.held after name) digest) →
    OnErr r (GrowsByFront (of_shelf.held pen.shelf.now name) (of_shelf.held after name) digest) →
    OtherFiles name (of_shelf.held pen.shelf.now) (of_shelf.held after) →
    Counts (of_shelf.writing_faults pen.shelf.now) (of_shelf.writing_faults after) r →
    of_shelf.reading_faults after ≡ of_shelf.reading_faults pen.shelf.now →
    Adds of_shelf (is_err r) name start after (body ++ sha256 body)
adds_digest of_shelf name start pen after body digest r same well had is ok err others writing reading =
    adds_then of_shelf pen.failed (is_err r) name start pen.shelf.now after body (sha256 body) well
    (subst (λ (n : List ℕ). Adds of_shelf pen.failed n start pen.shelf.now body) same had.adds)
    (subst (λ (bytes : List ℕ). Adds of_shelf (is_err r) name pen.shelf.now after bytes) is
    (adds_by_answer of_shelf (is_err r) name pen.shelf.now after digest r refl ok err others writing reading))

-- the same of the shelf that a pen gave back
pub at_end : {S : Type 0} {of_shelf : shelves.Ghosts S} {failed : Bool} {name : List ℕ} {start now end : S}
    {bytes : List ℕ} → end ≡ now → Adds of_shelf failed name start now bytes → Adds of_shelf failed name start end bytes
at_end {S} {of_shelf} {failed} {name} {start} {now} {end} {bytes} same adds = rw same adds

-- Files.

-- whatever was to be written, none of it is
front_none : (told : Option (List ℕ)) (bytes : List ℕ) → Tells told [] → TellsFront told bytes
front_none told bytes tells = (0, omega arith, tells)

-- What a beginning did.
pub record Begins {S : Type 0} (of_shelf : shelves.Ghosts S) (name : List ℕ) (before after : S) : Type 0 where
  pub empty : Tells (of_shelf.held after name) []
  pub others : OtherFiles name (of_shelf.held before) (of_shelf.held after)
  pub writing : of_shelf.writing_faults after ≡ of_shelf.writing_faults before
  pub reading : of_shelf.reading_faults after ≡ of_shelf.reading_faults before
