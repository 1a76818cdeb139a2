-- What an outlet wrote, piece by piece.
use Rattle.std.proofs.Common.{◌≡◌, ℕ, Bool, true, false, List, [], ◌∷◌, ◌++◌, length, take, refl, sym, ◌∙◌}
use Rattle.std.proofs.Common.{ap, subst, append_assoc, arith, length-append, Option, Some, None, Result, Ok, Err}
use Rattle.std.proofs.Common.{OnOk, OnErr, is_err}
use Rattle.std.proofs.lemmas.List.{append-nil}
use Rattle.cloak_base.specs.declared.causes.Failed.{Failed}
use Rattle.io_traits.specs.declared.shelf.Shelf as shelves
use Rattle.io_traits.specs.declared.sink.Sink as sinks
use Rattle.io_traits.specs.Told.{Tells, Puts, Grows, GrowsByFront, Counts, SameFiles, OtherFiles}
use Rattle.io_traits.proofs.ToldFacts.{Grows-none, Grows-append, GrowsByFront-whole, Rose-after}
use Rattle.cloak_model.specs.Exchange.{Piece, recorded, shown, recorded_bytes, shown_bytes, Emits}
use Rattle.cloak_model.proofs.Pieces.{recorded_bytes-append, shown_bytes-append}
use Rattle.run_command.specs.declared.outlet.Outlet.{Outlet}
use Rattle.command_parts.specs.Outside.{FilesOutside, Output, Outside, files, output, outside}
use Rattle.run_command.specs.Adding.{Adds}
use Rattle.run_command.specs.Outlet.{Wrote, WroteAll, WroteFront, Writes, Gave}

-- Bytes of pieces.

recorded_one : (ps : List Piece) (bytes : List ℕ) →
    recorded_bytes ps ++ bytes ≡ recorded_bytes (ps ++ recorded bytes ∷ [])
recorded_one ps bytes = ap (λ (l : List ℕ). recorded_bytes ps ++ l) (sym (append-nil bytes)) ∙ sym
    (recorded_bytes-append ps (recorded bytes ∷ []))

recorded_same : (ps : List Piece) (bytes : List ℕ) → recorded_bytes ps ≡ recorded_bytes (ps ++ shown bytes ∷ [])
recorded_same ps bytes = sym (append-nil (recorded_bytes ps)) ∙ sym (recorded_bytes-append ps (shown bytes ∷ []))

shown_one : (ps : List Piece) (bytes : List ℕ) → shown_bytes ps ++ bytes ≡ shown_bytes (ps ++ shown bytes ∷ [])
shown_one ps bytes = ap (λ (l : List ℕ). shown_bytes ps ++ l) (sym (append-nil bytes)) ∙ sym
    (shown_bytes-append ps (shown bytes ∷ []))

shown_same : (ps : List Piece) (bytes : List ℕ) → shown_bytes ps ≡ shown_bytes (ps ++ recorded bytes ∷ [])
shown_same ps bytes = sym (append-nil (shown_bytes ps)) ∙ sym (shown_bytes-append ps (recorded bytes ∷ []))

-- A front that was written has one length, whatever stood before it.
pub fixed_front : (old new : Option (List ℕ)) (piece : List ℕ) → GrowsByFront old new piece →
    (n : ℕ) × Grows old new (take n piece)
fixed_front (Some x) new piece front = let f = front x refl in
    (f.0, λ before told. subst (λ (l : List ℕ). Tells new (l ++ take f.0 piece)) told f.2)
fixed_front None None piece front = (0, λ before told. tt)
fixed_front None (Some y) piece front =
    let f = front (y ++ 0 ∷ []) tt in
    absurd (let long = ap (λ (l : List ℕ). length l) f.2 in let one = length-append y (0 ∷ []) in let more =
    length-append (y ++ 0 ∷ []) (take f.0 piece) in omega (arith, long, one, more))

-- The calls.

-- what putting to the output did
pub record Shows {S O A : Type 0} (r : Result A Failed) (bytes : List ℕ) (mid after : Outside S O) : Type 0 where
  pub ok : OnOk r (Grows mid.output.taken after.output.taken bytes)
  pub err : OnErr r (GrowsByFront mid.output.taken after.output.taken bytes)
  pub faults : Counts mid.output.faults after.output.faults r
  pub files : after.files ≡ mid.files

-- these pieces, and one more of the record
wrote_recorded : {S O : Type 0} (name : List ℕ) (before mid after : Outside S O) (ps : List Piece) (bytes : List ℕ) →
    Wrote name before mid ps →
    Grows (mid.files.held name) (after.files.held name) bytes → OtherFiles name mid.files.held after.files.held →
    after.files.reading ≡ mid.files.reading → after.output ≡ mid.output →
    Wrote name before after (ps ++ recorded bytes ∷ [])
wrote_recorded {S} {O} name before mid after ps bytes w grows others reading output = record {
  file = subst (λ (l : List ℕ). Grows (before.files.held name) (after.files.held name) l) (recorded_one ps bytes)
      (Grows-append (before.files.held name) (mid.files.held name) (after.files.held name) (recorded_bytes ps) bytes
      w.file grows);
  output = subst (λ (l : List ℕ). Grows before.output.taken after.output.taken l) (shown_same ps bytes)
      (subst (λ (o : Output O). Grows before.output.taken o.taken (shown_bytes ps)) (sym output) w.output);
  others = λ other apart. others other apart ∙ w.others other apart;
  reading = reading ∙ w.reading;
}

-- these pieces, and one more of the output
wrote_shown : {S O : Type 0} (name : List ℕ) (before mid after : Outside S O) (ps : List Piece) (bytes : List ℕ) →
    Wrote name before mid ps →
    Grows mid.output.taken after.output.taken bytes → after.files ≡ mid.files →
    Wrote name before after (ps ++ shown bytes ∷ [])
wrote_shown {S} {O} name before mid after ps bytes w grows files = record {
  file = subst (λ (l : List ℕ). Grows (before.files.held name) (after.files.held name) l) (recorded_same ps bytes)
      (subst (λ (f : FilesOutside S). Grows (before.files.held name) (f.held name) (recorded_bytes ps)) (sym files) w.file);
  output = subst (λ (l : List ℕ). Grows before.output.taken after.output.taken l) (shown_one ps bytes)
      (Grows-append before.output.taken mid.output.taken after.output.taken (shown_bytes ps) bytes w.output grows);
  others = subst (λ (f : FilesOutside S). OtherFiles name before.files.held f.held) (sym files) w.others;
  reading = ap (λ (f : FilesOutside S). f.reading) files ∙ w.reading;
}

writes_recorded : {S O : Type 0} (failed : Bool) (name : List ℕ) (before mid after : Outside S O) (ps : List Piece)
    (bytes : List ℕ) → WroteAll name before mid ps → Adds failed name mid.files after.files bytes →
    after.output ≡ mid.output → Writes failed name before after (ps ++ recorded bytes ∷ [])
writes_recorded {S} {O} false name before mid after ps bytes w adds output = record {
  wrote = wrote_recorded name before mid after ps bytes w.wrote (adds.whole refl) adds.others adds.reading output;
  nothing_rose = record {
    reading = adds.reading ∙ w.nothing_rose.reading;
    writing = adds.no_fault refl ∙ w.nothing_rose.writing;
    faults = ap (λ (o : Output O). o.faults) output ∙ w.nothing_rose.faults;
  };
}
writes_recorded {S} {O} true name before mid after ps bytes w adds output =
    let front = fixed_front _ _ bytes (adds.front refl) in
    record {
      cut = record { whole = ps; piece = recorded bytes; rest = []; place = refl; bytes = front.0 };
      wrote = wrote_recorded name before mid after ps (take front.0 bytes) w.wrote front.1 adds.others adds.reading
          output;
      fault = (
        Rose-after _ _ _ w.nothing_rose.writing (adds.fault refl),
        ap (λ (o : Output O). o.faults) output ∙
            w.nothing_rose.faults,
      );
    }

writes_shown : {S O A : Type 0} (r : Result A Failed) (name : List ℕ) (before mid after : Outside S O)
    (ps : List Piece) (bytes : List ℕ) →
    WroteAll name before mid ps → Shows r bytes mid after → Writes (is_err r) name before after (ps ++ shown bytes ∷ [])
writes_shown {S} {O} {A} (Ok u) name before mid after ps bytes w call = record {
  wrote = wrote_shown name before mid after ps bytes w.wrote call.ok call.files;
  nothing_rose = record {
    reading = ap (λ (f : FilesOutside S). f.reading) call.files ∙ w.nothing_rose.reading;
    writing = ap (λ (f : FilesOutside S). f.writing) call.files ∙ w.nothing_rose.writing;
    faults = call.faults ∙ w.nothing_rose.faults;
  };
}
writes_shown {S} {O} {A} (Err e) name before mid after ps bytes w call =
    let front = fixed_front _ _ bytes call.err in
    record {
      cut = record { whole = ps; piece = shown bytes; rest = []; place = refl; bytes = front.0 };
      wrote = wrote_shown name before mid after ps (take front.0 bytes) w.wrote front.1 call.files;
      fault = (
        ap (λ (f : FilesOutside S). f.writing) call.files ∙ w.nothing_rose.writing,
        Rose-after _ _ _
            w.nothing_rose.faults call.faults,
      );
    }

-- after a fault nothing is written any more of what comes
writes_none : {S O : Type 0} (name : List ℕ) (before after : Outside S O) (ps qs : List Piece) →
    WroteFront name before after ps → WroteFront name before after (ps ++ qs)
writes_none name before after ps qs w = record {
  cut = record {
    whole = w.cut.whole;
    piece = w.cut.piece;
    rest = w.cut.rest ++ qs;
    place = ap (λ (l : List Piece). l ++ qs) w.cut.place ∙ append_assoc w.cut.whole (w.cut.piece ∷ w.cut.rest) qs;
    bytes = w.cut.bytes;
  };
  wrote = w.wrote;
  fault = w.fault;
}

-- The pen.

-- a piece that was appended, by the answer of the call
pub adds_piece : {S : Type 0} (failed : Bool) (name : List ℕ) (before after : FilesOutside S) (piece : List ℕ)
    (r : Result Unit Failed) → failed ≡ is_err r → OnOk r (Grows (before.held name) (after.held name) piece) →
    OnErr r (GrowsByFront (before.held name) (after.held name) piece) → OtherFiles name before.held after.held →
    Counts before.writing after.writing r → after.reading ≡ before.reading → Adds failed name before after piece
adds_piece failed name before after piece (Ok u) is ok err others writing reading = record {
  whole = λ well. ok;
  front = λ ill. absurd (let clash : true ≡ false = sym ill ∙ is in cc);
  others = others;
  no_fault = λ well. writing;
  fault = λ ill. absurd (let clash : true ≡ false = sym ill ∙ is in cc);
  reading = reading;
}
adds_piece failed name before after piece (Err e) is ok err others writing reading = record {
  whole = λ well. absurd (let clash : true ≡ false = sym is ∙ well in cc);
  front = λ ill. err;
  others = others;
  no_fault = λ well. absurd (let clash : true ≡ false = sym is ∙ well in cc);
  fault = λ ill. writing;
  reading = reading;
}

on_ok : {A : Type 0} (r : Result Unit Failed) → A → OnOk r A
on_ok (Ok u) a = a
on_ok (Err e) a = tt

on_err : {A : Type 0} (r : Result Unit Failed) → A → OnErr r A
on_err (Ok u) a = tt
on_err (Err e) a = a

-- a piece that was appended before all is written out: it stays whole
pub adds_flushed : {S : Type 0} (was failed : Bool) (name : List ℕ) (before mid after : FilesOutside S)
    (piece : List ℕ) (r : Result Unit Failed) → Adds was name before mid piece → was ≡ false → failed ≡ is_err r →
    SameFiles mid.held after.held → Counts mid.writing after.writing r → after.reading ≡ mid.reading →
    Adds failed name before after piece
adds_flushed was failed name before mid after piece r adds well is same writing reading =
    let whole =
    subst (λ (t : Option (List ℕ)). Grows (before.held name) t piece) (sym (same name)) (adds.whole well) in
    adds_piece failed name before after piece r is (on_ok r whole)
    (on_err r (GrowsByFront-whole (before.held name) (after.held name) piece whole))
    (λ other apart. same other ∙ adds.others other apart)
    (subst (λ (n : ℕ). Counts n after.writing r) (adds.no_fault well) writing) (reading ∙ adds.reading)

-- The outlet.

-- an outlet that failed takes pieces and does nothing
pub emits_failed : {S O : Type 0} (of_shelf : shelves.Ghosts S) (of_sink : sinks.Ghosts O) (o : Outlet S O of_shelf)
    (ps : List Piece) → o.pen.failed ≡ true → Emits (Gave of_shelf of_sink) o o ps
emits_failed {S} {O} of_shelf of_sink o ps failed = record {
  more = λ first before gave.
      let at = λ (x : Outlet S O of_shelf). outside of_shelf of_sink x.pen.shelf.now x.out.now in
      record {
        shelf = gave.shelf;
        output = gave.output;
        name = gave.name;
        wrote = λ fresh.
            subst (λ (b : Bool). Writes b first.pen.name.now (at first) (at o) (before ++ ps)) (sym failed)
            (writes_none first.pen.name.now (at first) (at o) before ps
            (subst (λ (b : Bool). Writes b first.pen.name.now (at first) (at o) before) failed (gave.wrote fresh)));
      };
}

-- a piece that was added to the record
pub emits_recorded : {S O : Type 0} (of_shelf : shelves.Ghosts S) (of_sink : sinks.Ghosts O)
    (old new : Outlet S O of_shelf) (bytes : List ℕ) → old.pen.failed ≡ false →
    new.pen.shelf.ghost_name ≡ old.pen.shelf.ghost_name → new.out ≡ old.out → new.pen.name ≡ old.pen.name →
    Adds new.pen.failed old.pen.name.now (files of_shelf old.pen.shelf.now) (files of_shelf new.pen.shelf.now) bytes →
    Emits (Gave of_shelf of_sink) old new (recorded bytes ∷ [])
emits_recorded {S} {O} of_shelf of_sink old new bytes fresh shelf out name adds =
    record {
      more = λ first before gave.
          let at = λ (x : Outlet S O of_shelf). outside of_shelf of_sink x.pen.shelf.now x.out.now in
          let same : old.pen.name.now ≡ first.pen.name.now = ap (λ (n : _). n.now) gave.name in
          record {
            shelf = shelf ∙ gave.shelf;
            output = ap (λ (o : _). o.ghost_name) out ∙ gave.output;
            name = name ∙ gave.name;
            wrote = λ begun.
                writes_recorded new.pen.failed first.pen.name.now (at first) (at old) (at new) before bytes
                (subst (λ (b : Bool). Writes b first.pen.name.now (at first) (at old) before) fresh (gave.wrote begun))
                (subst (λ (n : List ℕ). Adds new.pen.failed n (at old).files (at new).files bytes) same adds)
                (ap (λ (o : _). output of_sink o.now) out);
          };
    }

-- a piece that was put to the output
pub emits_shown : {S O A : Type 0} (of_shelf : shelves.Ghosts S) (of_sink : sinks.Ghosts O)
    (old new : Outlet S O of_shelf) (bytes : List ℕ) (r : Result A Failed) → old.pen.failed ≡ false →
    new.pen.failed ≡ is_err r → new.out.ghost_name ≡ old.out.ghost_name → new.pen.shelf ≡ old.pen.shelf →
    new.pen.name ≡ old.pen.name →
    OnOk r (Grows (of_sink.taken old.out.now) (of_sink.taken new.out.now) bytes) →
    OnErr r (GrowsByFront (of_sink.taken old.out.now) (of_sink.taken new.out.now) bytes) →
    Counts (of_sink.faults old.out.now) (of_sink.faults new.out.now) r →
    Emits (Gave of_shelf of_sink) old new (shown bytes ∷ [])
emits_shown {S} {O} {A} of_shelf of_sink old new bytes r fresh failed out shelf name ok err counts =
    record {
      more = λ first before gave.
          let at = λ (x : Outlet S O of_shelf). outside of_shelf of_sink x.pen.shelf.now x.out.now in
          let call : Shows r bytes (at old) (at new) = record {
            ok = ok;
            err = err;
            faults = counts;
            files = ap (λ (s : _). files of_shelf s.now) shelf;
          } in
          record {
            shelf = ap (λ (s : _). s.ghost_name) shelf ∙ gave.shelf;
            output = out ∙ gave.output;
            name = name ∙ gave.name;
            wrote = λ begun.
                subst (λ (b : Bool). Writes b first.pen.name.now (at first) (at new) (before ++ shown bytes ∷ []))
                (sym failed)
                (writes_shown r first.pen.name.now (at first) (at old) (at new) before bytes
                (subst (λ (b : Bool). Writes b first.pen.name.now (at first) (at old) before) fresh (gave.wrote begun))
                call);
          };
    }

-- the parts of what a text that was put did
pub Puts-parts : (old new : Option (List ℕ)) (before now : ℕ) (text : List ℕ) (r : Result Unit Failed) →
    Puts old new before now text r →
    OnOk r (Grows old new text) × OnErr r (GrowsByFront old new text) × Counts before now r
Puts-parts old new before now text (Ok u) puts = (puts.0, tt, puts.1)
Puts-parts old new before now text (Err e) puts = (tt, puts.0, puts.1)

-- an outlet to which nothing was given yet
gave_start : {S O : Type 0} (of_shelf : shelves.Ghosts S) (of_sink : sinks.Ghosts O) (o : Outlet S O of_shelf) →
    Gave of_shelf of_sink o o []
gave_start of_shelf of_sink o = record {
  shelf = refl;
  output = refl;
  name = refl;
  wrote = λ fresh.
      let at = outside of_shelf of_sink o.pen.shelf.now o.out.now in
      subst (λ (b : Bool). Writes b o.pen.name.now at at []) (sym fresh) (record {
        wrote = record {
          file = Grows-none (of_shelf.held o.pen.shelf.now o.pen.name.now);
          output = Grows-none (of_sink.taken o.out.now);
          others = λ other apart. refl;
          reading = refl;
        };
        nothing_rose = record { reading = refl; writing = refl; faults = refl };
      });
}

-- what was given to an outlet from its start on
pub gave_all : {S O : Type 0} {of_shelf : shelves.Ghosts S} {of_sink : sinks.Ghosts O} {old new : Outlet S O of_shelf}
    {pieces : List Piece} → Emits (Gave of_shelf of_sink) old new pieces → Gave of_shelf of_sink old new pieces
gave_all {S} {O} {of_shelf} {of_sink} {old} {new} {pieces} emits = emits.more old [] (gave_start of_shelf of_sink old)

-- a piece of the record under another name
pub recorded_as : {E : Type 0} {gave : E → E → List Piece → Type 0} {e f : E} {x y : List ℕ} → x ≡ y →
    Emits gave e f (recorded x ∷ []) → Emits gave e f (recorded y ∷ [])
recorded_as {E} {gave} {e} {f} {x} {y} same emits =
    subst (λ (bytes : List ℕ). Emits gave e f (recorded bytes ∷ [])) same emits
