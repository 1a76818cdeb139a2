-- A record that was begun, and what was written then, seen from before the files of the run were read.
use Rattle.std.proofs.Common.{◌≡◌, ◌<◌, ◌≤◌, ◌-◌, ◌^◌, ◌∙◌, ℕ, Bool, false, List, [], ◌∷◌, ◌++◌, length, take, refl, sym, ap, subst, length-append, arith, Option, Some, None, Result, OnOk, is_err}
use Rattle.cloak_base.specs.declared.causes.Failed.{Failed}
use Rattle.io_traits.specs.declared.shelf.Shelf as shelves
use Rattle.io_traits.specs.declared.sink.Sink as sinks
use Rattle.io_traits.specs.Told.{Counts, Tells, Grows, GrowsByFront, Rose, OtherFiles}
use Rattle.cloak_model.specs.Exchange.{Piece, shown_bytes}
use Rattle.command_parts.specs.Outside.{FilesOutside, NothingRose, OnlyRead, Output, Outside, Raised, outside}
use Rattle.command_parts.proofs.FaultFacts.{counted, succeeded}
use Rattle.run_command.specs.declared.outlet.Outlet.{Outlet}
use Rattle.run_command.specs.Outlet.{FailedAt, Gave, Writes, WroteAll}
use Rattle.run_command.specs.Recording.{GrowsSome}
use Rattle.run_command.proofs.AnswerFacts.{failed_above, failed_since}

-- No count stands at its last value.
pub record AreLow {S O : Type 0} (before : Outside S O) : Type 0 where
  pub writing : before.files.writing < 2 ^ 64 - 1
  pub faults : before.output.faults < 2 ^ 64 - 1

pub are_low : {S O : Type 0} (before now : FilesOutside S) (out : Output O) → OnlyRead before now →
    now.writing < 2 ^ 64 - 1 → out.faults < 2 ^ 64 - 1 → AreLow (record { files = before; output = out })
are_low {S} {O} before now out read low_writing low_faults =
    record { writing = subst (λ n. n < 2 ^ 64 - 1) read.writing low_writing; faults = low_faults }

-- The record was begun.
pub record HasBegunRecord {S O : Type 0} (name : List ℕ) (before mid : Outside S O) : Type 0 where
  pub empty : Tells (mid.files.held name) []
  pub others : OtherFiles name before.files.held mid.files.held
  pub reading : mid.files.reading ≡ before.files.reading
  pub writing : mid.files.writing ≡ before.files.writing
  pub output : mid.output ≡ before.output

pub begins : {S O : Type 0} (name : List ℕ) (before now mid : FilesOutside S) (out : Output O)
    (r : Result Unit Failed) → OnlyRead before now → OnOk r (Tells (mid.held name) []) →
    OtherFiles name now.held mid.held → Counts now.writing mid.writing r → mid.reading ≡ now.reading →
    is_err r ≡ false → HasBegunRecord name (record { files = before; output = out }) (record { files = mid; output = out })
begins {S} {O} name before now mid out r read emptied others writing reading well = record {
  empty = succeeded r _ well emptied;
  others = λ other apart. others other apart ∙ read.held other;
  reading = reading ∙ read.reading;
  writing = counted _ _ r well writing ∙ read.writing;
  output = refl;
}

pub grows_from : {S O : Type 0} (before mid : Outside S O) (after : Option (List ℕ)) (text : List ℕ) →
    mid.output ≡ before.output → Grows mid.output.taken after text → Grows before.output.taken after text
grows_from {S} {O} before mid after text same grows = subst (λ (o : Output O). Grows o.taken after text) same grows

pub fault_since : {S O : Type 0} {name : List ℕ} {before mid : Outside S O} (after : Outside S O) (piece : Piece) →
    AreLow before → HasBegunRecord name before mid → FailedAt Rose piece mid after → FailedAt Raised piece before after
fault_since {S} {O} {name} {before} {mid} after piece low begun fault =
    failed_above piece before after low.writing low.faults
    (failed_since piece before mid after begun.writing begun.output fault)

-- Some pieces were written then, whatever run they are of.
pub record AtPieces {S O : Type 0} (name : List ℕ) (before mid : Outside S O) : Type 0 where
  pub grows : GrowsSome before.output.taken mid.output.taken
  pub others : OtherFiles name before.files.held mid.files.held
  pub nothing_rose : NothingRose before mid

pub at_pieces : {S O : Type 0} {name : List ℕ} {before mid after : Outside S O} {pieces : List Piece} →
    HasBegunRecord name before mid → WroteAll name mid after pieces → AtPieces name before after
at_pieces {S} {O} {name} {before} {mid} {after} {pieces} begun all = record {
  grows = (shown_bytes pieces, grows_from before mid _ _ begun.output all.wrote.output);
  others = λ other apart. all.wrote.others other apart ∙ begun.others other apart;
  nothing_rose = record {
    reading = all.nothing_rose.reading ∙ begun.reading;
    writing = all.nothing_rose.writing ∙ begun.writing;
    faults = all.nothing_rose.faults ∙ ap (λ (o : Output O). o.faults) begun.output;
  };
}

-- What an outlet over a record that was begun wrote, under the names that the shelf and the output have afterwards.
pub wrote_since : {S O : Type 0} {of_shelf : shelves.Ghosts S} {of_sink : sinks.Ghosts O} {first now : Outlet S O of_shelf}
    {pieces : List Piece} (failed : Bool) (s' : S) (o' : O) → Gave of_shelf of_sink first now pieces →
    first.pen.failed ≡ false → now.pen.failed ≡ failed → s' ≡ now.pen.shelf.now → o' ≡ now.out.now →
    Writes failed first.pen.name.now (outside of_shelf of_sink first.pen.shelf.now first.out.now)
    (outside of_shelf of_sink s' o') pieces
wrote_since {S} {O} {of_shelf} {of_sink} {first} {now} {pieces} failed s' o' gave fresh is same_shelf same_out =
    let before = outside of_shelf of_sink first.pen.shelf.now first.out.now in
    subst (λ (b : Bool). Writes b first.pen.name.now before (outside of_shelf of_sink s' o') pieces) is
    (subst (λ (s : S). Writes now.pen.failed first.pen.name.now before (outside of_shelf of_sink s o') pieces)
    (sym same_shelf)
    (subst (λ (o : O). Writes now.pen.failed first.pen.name.now before
    (outside of_shelf of_sink now.pen.shelf.now o) pieces) (sym same_out) (gave.wrote fresh)))

-- A front that was shown has one length, whatever stood before it.
pub front_of_text : (old new : Option (List ℕ)) (text : List ℕ) → GrowsByFront old new text →
    (n : ℕ) × (n ≤ length text) × Grows old new (take n text)
front_of_text (Some x) new text front =
    let f = front x refl in
    (f.0, f.1, λ before told. subst (λ (l : List ℕ). Tells new (l ++ take f.0 text)) told f.2)
front_of_text None None text front = (0, omega arith, λ before told. tt)
front_of_text None (Some y) text front =
    let f = front (y ++ 0 ∷ []) tt in
    absurd (let long = ap (λ (l : List ℕ). length l) f.2 in let one = length-append y (0 ∷ []) in let more =
    length-append (y ++ 0 ∷ []) (take f.0 text) in omega (arith, long, one, more))
