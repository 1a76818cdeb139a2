-- What a shelf holds: bytes on the disk, and what is gathered after them.
use Rattle.std.proofs.Common.{◌≡◌, ◌≢◌, ◌≤◌, ◌+◌, ℕ, Bool, true, false, cond, List, [], ◌++◌, length, take, drop, sym, ◌∙◌}
use Rattle.std.proofs.Common.{Result, Ok, Err, OnErr}
use Rattle.std.proofs.Common.{ap, subst, arith, Option, None, Some, IfSome, IsSome, IsNone, IsTrue, refl, inl, inr, ◌⊎◌}
use Rattle.std.proofs.Math.Seq.{take-add}
use Rattle.std.proofs.lemmas.List.{take-append-drop, take_all, drop_all}
use Rattle.std.proofs.lemmas.Slice.Eq.{bytes_eq-Decides}
use Rattle.std.specs.Str.{bytes_eq}
use Rattle.std.specs.Io.KnownBytes.{append_known}
use Rattle.io_traits.specs.Told.{SameFiles, OtherFiles, Tells, Grows, GrowsByFront}
use Rattle.io_traits.proofs.ToldFacts.{GrowsByFront-take}
use Rattle.system_io.specs.Disks.{Extends}
use Rattle.system_io.specs.Files.{ReaderState, ShelfState, IsAhead, IsReading, IsSound, held_in}
use Rattle.system_io.proofs.Writes.{append_known-append, append_known-nil, Grows-known}

pub Extends-none : (old : List ℕ → Option (List ℕ)) (name : List ℕ) → Extends old old name []
Extends-none old name = record { grown = sym (append_known-nil (old name)); others = λ other _. refl }

pub Extends-more : (a b c : List ℕ → Option (List ℕ)) (name piece part : List ℕ) (n more : ℕ) → part ≡ drop n piece →
    Extends a b name (take n piece) → Extends b c name (take more part) → Extends a c name (take (n + more) piece)
Extends-more a b c name piece part n more is first second = record {
  grown =
      second.grown ∙ ap (λ (o : Option (List ℕ)). append_known o (take more part)) first.grown
      ∙ append_known-append (a name) (take n piece) (take more part)
      ∙ ap (λ (l : List ℕ). append_known (a name) (take n piece ++ take more l)) is
      ∙ ap (λ (l : List ℕ). append_known (a name) l) (sym (take-add n more piece));
  others = λ other apart. second.others other apart ∙ first.others other apart;
}

-- what stays between two calls
pub Extends-after : (a b c : List ℕ → Option (List ℕ)) (name piece : List ℕ) → SameFiles a b → Extends b c name piece →
    Extends a c name piece
Extends-after a b c name piece same ext = record {
  grown = ext.grown ∙ ap (λ (o : Option (List ℕ)). append_known o piece) (same name);
  others = λ other apart. ext.others other apart ∙ same other;
}

Extends-before : (a b c : List ℕ → Option (List ℕ)) (name piece : List ℕ) → Extends a b name piece → SameFiles b c →
    Extends a c name piece
Extends-before a b c name piece ext same = record {
  grown = same name ∙ ext.grown;
  others = λ other apart. same other ∙ ext.others other apart;
}

by_name : (b : Bool) (P : Type 0) (name other : List ℕ) → (b ≡ true → other ≡ name) → (other ≡ name → b ≡ true) →
    (other ≡ name → P) → (other ≢ name → P) → P
by_name true P name other is to here away = here (is refl)
by_name false P name other is to here away = away (λ same. let never : false ≡ true = to same in cc)

-- a name is another or not
pub named : (P : Type 0) (name other : List ℕ) → (other ≡ name → P) → (other ≢ name → P) → P
named P name other here away =
    let d = bytes_eq-Decides other name in by_name (bytes_eq other name) P name other d.0 d.1 here away

-- no bytes more are the same files
pub Extends-same : (a b : List ℕ → Option (List ℕ)) (name : List ℕ) → Extends a b name [] → SameFiles a b
Extends-same a b name ext = λ other. named (b other ≡ a other) name other
    (λ same. subst (λ (m : List ℕ). b m ≡ a m) (sym same) (ext.grown ∙ append_known-nil (a name)))
    (λ apart. ext.others other apart)

-- what is gathered for the name, and for another
here : (g name other : List ℕ) → other ≡ name → cond (bytes_eq other name) g [] ≡ g
here g name other same = ap (λ (b : Bool). cond b g []) ((bytes_eq-Decides other name).1 same)

away : (b : Bool) (g : List ℕ) → (b ≡ true → ⊥) → cond b g [] ≡ []
away true g apart = absurd (apart refl)
away false g apart = refl

apart_from : (g name other : List ℕ) → other ≢ name → cond (bytes_eq other name) g [] ≡ []
apart_from g name other apart = away (bytes_eq other name) g (λ same. apart ((bytes_eq-Decides other name).0 same))

nothing : (b : Bool) (g : List ℕ) → g ≡ [] → cond b g [] ≡ []
nothing true g none = none
nothing false g none = refl

-- if nothing is gathered, the bytes are those of the disk
pub held-idle : {D : Type 0} (told : D → List ℕ → Option (List ℕ)) (s : ShelfState D) → s.gathered ≡ [] →
    SameFiles (told s.disk) (held_in told s)
unfolding held_in
held-idle told s none = λ name.
    ap (λ (l : List ℕ). append_known (told s.disk name) l) (nothing (bytes_eq name s.name) s.gathered none)
    ∙ append_known-nil (told s.disk name)

-- if nothing is gathered before and after, and the disk stays, all stays
pub held-same : {D : Type 0} (told : D → List ℕ → Option (List ℕ)) (old new : ShelfState D) → old.gathered ≡ [] →
    new.gathered ≡ [] → SameFiles (told old.disk) (told new.disk) → SameFiles (held_in told old) (held_in told new)
held-same told old new none none' same = λ name.
    held-idle told new none' name ∙ same name ∙ sym (held-idle told old none name)

-- the bytes of the name that is being written, and of another
held-here : {D : Type 0} (told : D → List ℕ → Option (List ℕ)) (s : ShelfState D) →
    held_in told s s.name ≡ append_known (told s.disk s.name) s.gathered
unfolding held_in
held-here told s = ap (λ (l : List ℕ). append_known (told s.disk s.name) l) (here s.gathered s.name s.name refl)

held-away : {D : Type 0} (told : D → List ℕ → Option (List ℕ)) (s : ShelfState D) (name : List ℕ) → name ≢ s.name →
    held_in told s name ≡ told s.disk name
unfolding held_in
held-away told s name apart =
    ap (λ (l : List ℕ). append_known (told s.disk name) l) (apart_from s.gathered s.name name apart)
    ∙ append_known-nil (told s.disk name)

-- a front of what is gathered is written
pub held-moved : {D : Type 0} (told : D → List ℕ → Option (List ℕ)) (old new : ShelfState D) (n : ℕ) →
    Extends (told old.disk) (told new.disk) old.name (take n old.gathered) → new.name ≡ old.name →
    new.gathered ≡ drop n old.gathered → SameFiles (held_in told old) (held_in told new)
held-moved told old new n ext same rest = λ name.
    named (held_in told new name ≡ held_in told old name) old.name name
    (λ is. subst (λ (m : List ℕ). held_in told new m ≡ held_in told old m) (sym is)
    (subst (λ (m : List ℕ). held_in told new m ≡ append_known (told new.disk m) new.gathered) same (held-here told new)
    ∙ ap (λ (l : List ℕ). append_known (told new.disk old.name) l) rest
    ∙ ap (λ (o : Option (List ℕ)). append_known o (drop n old.gathered)) ext.grown
    ∙ append_known-append (told old.disk old.name) (take n old.gathered) (drop n old.gathered)
    ∙ ap (λ (l : List ℕ). append_known (told old.disk old.name) l) (take-append-drop n old.gathered)
    ∙ sym (held-here told old)))
    (λ apart. held-away told new name (λ is. apart (is ∙ same)) ∙ ext.others name apart
    ∙ sym (held-away told old name apart))

-- a piece is gathered
pub held-gathered : {D : Type 0} (told : D → List ℕ → Option (List ℕ)) (old new : ShelfState D) (piece : List ℕ) →
    new.disk ≡ old.disk → new.name ≡ old.name → new.gathered ≡ old.gathered ++ piece →
    Extends (held_in told old) (held_in told new) old.name piece
held-gathered told old new piece disk same more = record {
  grown =
      subst (λ (m : List ℕ). held_in told new m ≡ append_known (told new.disk m) new.gathered) same (held-here told new)
      ∙ ap (λ d. append_known (told d old.name) new.gathered) disk
      ∙ ap (λ (l : List ℕ). append_known (told old.disk old.name) l) more
      ∙ sym (append_known-append (told old.disk old.name) old.gathered piece)
      ∙ ap (λ (o : Option (List ℕ)). append_known o piece) (sym (held-here told old));
  others = λ name apart.
      held-away told new name (λ is. apart (is ∙ same)) ∙ ap (λ d. told d name) disk
      ∙ sym (held-away told old name apart);
}

-- a piece is written, and nothing is gathered
pub held-written : {D : Type 0} (told : D → List ℕ → Option (List ℕ)) (old new : ShelfState D) (piece : List ℕ) →
    old.gathered ≡ [] → new.gathered ≡ [] → Extends (told old.disk) (told new.disk) old.name piece →
    Extends (held_in told old) (held_in told new) old.name piece
held-written told old new piece none none' ext = record {
  grown =
      held-idle told new none' old.name ∙ ext.grown
      ∙ ap (λ (o : Option (List ℕ)). append_known o piece) (sym (held-idle told old none old.name));
  others = λ name apart. held-idle told new none' name ∙ ext.others name apart ∙ sym (held-idle told old none name);
}

-- a file is emptied, for which alone something was gathered, and nothing is gathered any more
pub held-others : {D : Type 0} (told : D → List ℕ → Option (List ℕ)) (old new : ShelfState D) (name : List ℕ) →
    (old.name ≡ name) ⊎ (old.gathered ≡ []) → new.gathered ≡ [] → OtherFiles name (told old.disk) (told new.disk) →
    OtherFiles name (held_in told old) (held_in told new)
held-others told old new name (inl same) none others = λ other apart.
    held-idle told new none other ∙ others other apart
    ∙ sym (held-away told old other (λ is. apart (is ∙ same)))
held-others told old new name (inr idle) none others = λ other apart.
    held-idle told new none other ∙ others other apart ∙ sym (held-idle told old idle other)

pub held-emptied : {D : Type 0} (told : D → List ℕ → Option (List ℕ)) (new : ShelfState D) (name : List ℕ) →
    new.gathered ≡ [] → Tells (told new.disk name) [] → Tells (held_in told new name) []
held-emptied told new name none empty =
    subst (λ (o : Option (List ℕ)). Tells o []) (sym (held-idle told new none name)) empty

-- the disk has the same bytes, and so does the shelf
pub held-kept : {D : Type 0} (told : D → List ℕ → Option (List ℕ)) (old new : ShelfState D) →
    SameFiles (told old.disk) (told new.disk) → new.name ≡ old.name → new.gathered ≡ old.gathered →
    SameFiles (held_in told old) (held_in told new)
held-kept told old new files same rest = λ name.
    named (held_in told new name ≡ held_in told old name) old.name name
    (λ is. subst (λ (m : List ℕ). held_in told new m ≡ held_in told old m) (sym is)
    (subst (λ (m : List ℕ). held_in told new m ≡ append_known (told new.disk m) new.gathered) same (held-here told new)
    ∙ ap (λ (l : List ℕ). append_known (told new.disk old.name) l) rest
    ∙ ap (λ (o : Option (List ℕ)). append_known o old.gathered) (files old.name)
    ∙ sym (held-here told old)))
    (λ apart. held-away told new name (λ is. apart (is ∙ same)) ∙ files name ∙ sym (held-away told old name apart))

-- what was read ahead stays while the bytes do
pub reading-same : {F : Type 0} (a b : List ℕ → Option (List ℕ)) (is_of : F → List ℕ → Type 0) (is_at : F → ℕ → Type 0)
    (s : ReaderState F) (o : Option F) → SameFiles a b → IfSome o (IsAhead a is_of is_at s) → IfSome o (IsAhead b is_of is_at s)
reading-same a b is_of is_at s None same reads = tt
reading-same a b is_of is_at s (Some file) same reads = record {
  named = reads.named;
  placed = reads.placed;
  ahead = subst (λ (o : Option (List ℕ)). IfSome o (λ all. s.window ≡ take (length s.window) (drop s.start all)))
      (sym (same s.name)) reads.ahead;
}

take-none : (n : ℕ) (g : List ℕ) → g ≡ [] → take n g ≡ []
take-none n g none = ap (λ (l : List ℕ). take n l) none ∙ take_all n [] (omega arith)

drop-none : (n : ℕ) (g : List ℕ) → g ≡ [] → drop n g ≡ []
drop-none n g none = ap (λ (l : List ℕ). drop n l) none ∙ drop_all n [] (omega arith)

-- if a file is being read, nothing was gathered, so nothing was written
reading-written : {F : Type 0} (a b : List ℕ → Option (List ℕ)) (is_of : F → List ℕ → Type 0) (is_at : F → ℕ → Type 0)
    (s : ReaderState F) (o : Option F) (name g : List ℕ) (n : ℕ) → (IsSome o → g ≡ []) → n ≤ length g →
    Extends a b name (take n g) → IfSome o (IsAhead a is_of is_at s) → IfSome o (IsAhead b is_of is_at s)
reading-written a b is_of is_at s None name g n idle few ext reads = tt
reading-written a b is_of is_at s (Some file) name g n idle few ext reads =
    let none : g ≡ [] = idle refl in
    let zero_taken : take n g ≡ [] = take-none n g none in
    reading-same a b is_of is_at s (Some file)
    (Extends-same a b name (subst (λ (l : List ℕ). Extends a b name l) zero_taken ext)) reads

-- a front of what is gathered is written
pub sound-written : {F : Type 0} (a b : List ℕ → Option (List ℕ)) (is_of : F → List ℕ → Type 0) (is_at : F → ℕ → Type 0)
    (file file' : F) (name g g' : List ℕ) (n : ℕ) (reader : ReaderState F) →
    IsSound a is_of is_at (Some file) name g reader → n ≤ length g → g' ≡ drop n g →
    ((m : List ℕ) → is_of file m → is_of file' m) →
    ((m : List ℕ) → is_of file m → Extends a b m (take n g)) →
    IsSound b is_of is_at (Some file') name g' reader
sound-written a b is_of is_at file file' name g g' n reader sound few rest keeps told = record {
  named = keeps name sound.named;
  idle = λ none. absurd (let never : true ≡ false = none in cc);
  apart = λ opened. rest ∙ drop-none n g (sound.apart opened);
  reads = reading-written a b is_of is_at reader reader.source name g n sound.apart few (told name sound.named) sound.reads;
}

-- what changed since is no part of what a shelf holds
pub held-after : {D : Type 0} (told : D → List ℕ → Option (List ℕ)) (old before like new : ShelfState D) → new ≡ like →
    like.disk ≡ before.disk → like.name ≡ before.name → like.gathered ≡ before.gathered →
    SameFiles (held_in told old) (held_in told before) → SameFiles (held_in told old) (held_in told new)
held-after {D} told old before like new is disk same rest files = λ name.
    held-kept told before new
    (λ other. ap (λ (s : ShelfState D). told s.disk other) is ∙ ap (λ (d : D). told d other) disk)
    (ap (λ (s : ShelfState D). s.name) is ∙ same) (ap (λ (s : ShelfState D). s.gathered) is ∙ rest) name
    ∙ files name

-- what a reading call says of the disk is said of the shelf
pub told_by_held : {D : Type 0} (told : D → List ℕ → Option (List ℕ)) (old mid : ShelfState D) (name : List ℕ)
    (P : List ℕ → Type 0) → SameFiles (held_in told old) (held_in told mid) → mid.gathered ≡ [] →
    IfSome (told mid.disk name) P → IfSome (held_in told old name) P
told_by_held told old mid name P files none said =
    subst (λ (o : Option (List ℕ)). IfSome o P) (sym (held-idle told mid none name) ∙ files name) said

-- the same, of a whole piece
pub held-gathered_all : {D : Type 0} (told : D → List ℕ → Option (List ℕ)) (old new : ShelfState D) (piece : List ℕ) →
    new.disk ≡ old.disk → new.name ≡ old.name → new.gathered ≡ old.gathered ++ piece →
    Extends (held_in told old) (held_in told new) old.name (take (length piece) piece)
held-gathered_all told old new piece disk same more =
    subst (λ (l : List ℕ). Extends (held_in told old) (held_in told new) old.name l)
    (sym (take_all (length piece) piece (omega arith))) (held-gathered told old new piece disk same more)

-- the same, once what was gathered is written out
pub held-gathers : {D : Type 0} (told : D → List ℕ → Option (List ℕ)) (old mid new : ShelfState D) (piece : List ℕ) →
    SameFiles (held_in told old) (held_in told mid) → mid.name ≡ old.name → new.disk ≡ mid.disk → new.name ≡ mid.name →
    new.gathered ≡ mid.gathered ++ piece →
    Extends (held_in told old) (held_in told new) old.name (take (length piece) piece)
held-gathers told old mid new piece files named disk same more =
    Extends-after (held_in told old) (held_in told mid) (held_in told new) old.name (take (length piece) piece) files
    (subst (λ (m : List ℕ). Extends (held_in told mid) (held_in told new) m (take (length piece) piece)) named
    (held-gathered_all told mid new piece disk same more))

pub held-writes : {D : Type 0} (told : D → List ℕ → Option (List ℕ)) (old mid new : ShelfState D) (piece : List ℕ) →
    SameFiles (held_in told old) (held_in told mid) → mid.name ≡ old.name → mid.gathered ≡ [] → new.gathered ≡ [] →
    Extends (told mid.disk) (told new.disk) mid.name piece → Extends (held_in told old) (held_in told new) old.name piece
held-writes told old mid new piece files named none none' ext =
    Extends-after (held_in told old) (held_in told mid) (held_in told new) old.name piece files
    (subst (λ (m : List ℕ). Extends (held_in told mid) (held_in told new) m piece) named
    (held-written told mid new piece none none' ext))

pub held-then-same : {D : Type 0} (told : D → List ℕ → Option (List ℕ)) (old mid new : ShelfState D) →
    SameFiles (held_in told old) (held_in told mid) → mid.gathered ≡ [] → new.gathered ≡ [] →
    SameFiles (told mid.disk) (told new.disk) → SameFiles (held_in told old) (held_in told new)
held-then-same told old mid new files none none' same = λ name. held-same told mid new none none' same name ∙ files name

-- a piece that was added, as the contracts of a shelf say it
pub Extends-grows : (a b : List ℕ → Option (List ℕ)) (name named piece : List ℕ) → named ≡ name →
    Extends a b named piece → Grows (a name) (b name) piece
Extends-grows a b name named piece is ext =
    Grows-known (a name) (b name) piece (subst (λ (m : List ℕ). b m ≡ append_known (a m) piece) is ext.grown)

pub Extends-front : (a b : List ℕ → Option (List ℕ)) (name named piece : List ℕ) → named ≡ name →
    (n : ℕ) × (n ≤ length piece) × Extends a b named (take n piece) → GrowsByFront (a name) (b name) piece
Extends-front a b name named piece is part =
    GrowsByFront-take (a name) (b name) piece part.0 part.1 (Extends-grows a b name named (take part.0 piece) is part.2)

pub Extends-others : (a b : List ℕ → Option (List ℕ)) (name named piece : List ℕ) → named ≡ name →
    Extends a b named piece → OtherFiles name a b
Extends-others a b name named piece is ext = λ other apart. ext.others other (λ same. apart (same ∙ is))

pub SameFiles-then : (a b c : List ℕ → Option (List ℕ)) → SameFiles a b → SameFiles b c → SameFiles a c
SameFiles-then a b c first second = λ name. second name ∙ first name

pub OtherFiles-through : (a b c d : List ℕ → Option (List ℕ)) (name : List ℕ) → SameFiles a b → OtherFiles name b c →
    SameFiles c d → OtherFiles name a d
OtherFiles-through a b c d name first others last =
    λ other apart. last other ∙ others other apart ∙ first other

-- what a call that emptied a file and then failed says
pub failed-through : (a b c d : Option (List ℕ)) → b ≡ a → (c ≡ b) ⊎ Tells c [] → d ≡ c → (d ≡ a) ⊎ Tells d []
failed-through a b c d first (inl same) last = inl (last ∙ same ∙ first)
failed-through a b c d first (inr empty) last = inr (subst (λ (o : Option (List ℕ)). Tells o []) (sym last) empty)

-- a front of a piece that was added, between two steps that change nothing
pub front-through : (a b c d : List ℕ → Option (List ℕ)) (name piece : List ℕ) → SameFiles a b →
    (n : ℕ) × (n ≤ length piece) × Extends b c name (take n piece) → SameFiles c d →
    (n : ℕ) × (n ≤ length piece) × Extends a d name (take n piece)
front-through a b c d name piece first part last = (
  part.0,
  part.1,
  Extends-before a c d name (take part.0 piece) (Extends-after a b c name (take part.0 piece) first part.2) last,
)

pub same_name : {D : Type 0} (new like : ShelfState D) → new ≡ like → new.name ≡ like.name
same_name {D} new like is = ap (λ (s : ShelfState D). s.name) is

-- what holds anyway holds after a failure
pub on_err : {A E : Type 0} (r : Result A E) (P : Type 0) → P → OnErr r P
on_err (Ok a) P p = tt
on_err (Err e) P p = p
