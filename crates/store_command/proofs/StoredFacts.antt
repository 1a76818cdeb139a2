-- What a run that was made left, seen from before its files were read.
use Rattle.std.proofs.Common.{◌≡◌, ◌∙◌, ◌⊎◌, ℕ, ◌+◌, true, false, List, [], ◌∷◌, ◌++◌, length, take, refl, sym, ap, subst, append_assoc, arith, inl, inr, Option, Result, Ok, Err, OnErr, is_err, IsOk, codes}
use Rattle.std.specs.Prelude.{◌≢◌}
use Rattle.std.proofs.lemmas.List.{append-nil}
use Rattle.cloak_base.specs.declared.causes.Failed.{Failed}
use Rattle.cloak_base.specs.declared.causes.Stop.{Stop}
use Rattle.cloak_base.specs.declared.causes.Stop.TheVariants as stop
use Rattle.io_traits.specs.Told.{Counts, Tells, Grows, GrowsByFront, OtherFiles, Puts}
use Rattle.io_traits.proofs.ToldFacts.{Grows-append, Grows-none, Tells_after, Rose-after}
use Rattle.cloak_model.specs.Beginning.{AreContents}
use Rattle.cloak_model.specs.Bundle.{bundle_bytes}
use Rattle.cloak_model.specs.Exchange.{Piece, recorded, shown, record_magic, item_pieces, recorded_bytes, shown_bytes}
use Rattle.cloak_model.specs.Run.{Run, closing_pieces, due, report_of, turns_pieces}
use Rattle.cloak_model.specs.StoredFiles.{FileContents, store_bytes}
use Rattle.cloak_model.specs.StoredRun.{contents_of}
use Rattle.cloak_machine.specs.declared.end.RunEnd.{RunEnd}
use Rattle.cloak_machine.specs.Ending.{end_is_refused, end_report}
use Rattle.command_words.specs.Command as spec
use Rattle.command_parts.specs.declared.status.Status.{Status}
use Rattle.command_parts.specs.declared.status.Status.TheVariants as status
use Rattle.command_parts.specs.Outside.{FilesOutside, NothingRose, OnlyRead, Output, Outside}
use Rattle.command_parts.specs.Storing.{AreFiles, StoreSources}
use Rattle.command_parts.proofs.FaultFacts.{raised, counted, failed, risen, succeeded}
use Rattle.run_command.specs.Outlet.{WroteAll, WroteFront, pieces_left}
use Rattle.run_command.specs.Recording.{GrowsSome}
use Rattle.run_command.specs.Running.{IsStatusOfStop, status_of}
use Rattle.run_command.proofs.BegunFacts.{AreLow, AtPieces, HasBegunRecord, fault_since, front_of_text, grows_from}
use Rattle.cloak_model.proofs.Pieces.{recorded_bytes-append, shown_bytes-append}
use Rattle.run_command.proofs.OutletFacts.{Puts-parts}
use Rattle.store_command.specs.declared.prepare.ForStoring.{ForStoring}
use Rattle.store_command.specs.Leaving.{BreaksOff, BreaksOffFirst, HasFiles, HasFirst, HasOldOrFront, LeavesAll, OtherThanStored, first_due, last_due, new_bytes, next_bytes}
use Rattle.store_command.specs.Preparing.{IsForStoring}
use Rattle.store_command.specs.Recording.{RunsOver, Stores}
use Rattle.store_command.specs.Writing.{BrokeInNew, BrokeInNext, EndsAs, KeepsRoom, LeavesFiles, WritesFiles, WroteFiles, with_bytes_at}
use Rattle.store_command.proofs.Lengths.{disk_replaced}

-- The names that are written are different words.
pub record Apart (names : spec.StoreNames) : Type 0 where
  pub new : names.record_name ≢ names.new_name
  pub next : names.record_name ≢ names.next_name
  pub both : names.new_name ≢ names.next_name

flipped : {a b : List ℕ} → a ≢ b → b ≢ a
flipped {a} {b} apart = λ same. apart (sym same)

pub has_first : {S O : Type 0} {names : spec.StoreNames} {before mid after : Outside S O} {r : Run} →
    HasBegunRecord names.record_name before mid → WroteAll names.record_name mid after (first_due r) →
    HasFirst names r before after
has_first {S} {O} {names} {before} {mid} {after} {r} begun all = record {
  file = Tells_after (mid.files.held names.record_name) (after.files.held names.record_name) []
      (recorded_bytes (first_due r)) begun.empty all.wrote.file;
  output = grows_from before mid _ _ begun.output all.wrote.output;
}

pub breaks_first : {S O : Type 0} {names : spec.StoreNames} {before mid after : Outside S O} {r : Run} → AreLow before →
    HasBegunRecord names.record_name before mid → WroteFront names.record_name mid after (first_due r) →
    BreaksOffFirst names r before after
breaks_first {S} {O} {names} {before} {mid} {after} {r} low begun front = record {
  cut = front.cut;
  file = Tells_after (mid.files.held names.record_name) (after.files.held names.record_name) []
      (recorded_bytes (pieces_left front.cut)) begun.empty front.wrote.file;
  output = grows_from before mid _ _ begun.output front.wrote.output;
  others = λ other apart. front.wrote.others other apart ∙ begun.others other apart;
  fault = fault_since after front.cut.piece low begun front.fault;
}

-- What is left for the files.

pub new_is : (counter : ℕ) {s : StoreSources} {old new : ForStoring} {end : RunEnd} {r : Run} → IsForStoring s old →
    KeepsRoom old new → EndsAs old new end r → r.stop ≢ stop.NoRandom →
    store_bytes new.mac (counter + 1) new.table ≡ new_bytes s counter r
new_is counter {s} {old} {new} {end} {r} left keeps ends drawn =
    λ i. store_bytes ((keeps.mac ∙ left.mac) i) (counter + 1) (ends.table drawn i)

pub next_is : {s : StoreSources} {old new : ForStoring} {end : RunEnd} {r : Run} → IsForStoring s old → EndsAs old new end r →
    bundle_bytes s.version s.bundle ≡ s.bytes → length r.closed.joint.disk ≡ length s.bundle.kernel.disk →
    new.next.items ≡ next_bytes s r
next_is {s} {old} {new} {end} {r} left ends spelled long =
    ends.next
    ∙ ((λ i. with_bytes_at (left.from i) r.closed.joint.disk ((left.next ∙ sym spelled) i))
    ∙ disk_replaced s.version s.bundle r.closed.joint.disk long)

-- The files.

stopped_else : (value : ℕ) → stop.Halt value ≢ stop.NoRandom
stopped_else value same = absurd (let clash : stop.Halt value ≡ stop.NoRandom = same in cc)

budget_else : stop.Budget ≢ stop.NoRandom
budget_else same = absurd (let clash : stop.Budget ≡ stop.NoRandom = same in cc)

broke_in : {S : Type 0} {names : spec.StoreNames} {new next : List ℕ} {before after : FilesOutside S}
    (r : Result Unit Failed) → WritesFiles names new next before after r → is_err r ≡ true →
    BrokeInNew names new before after ⊎ BrokeInNext names new next before after
broke_in {S} {names} {new} {next} {before} {after} (Ok done) writes ill =
    absurd (let clash : true ≡ false = sym ill in cc)
broke_in {S} {names} {new} {next} {before} {after} (Err e) writes ill = writes

wrote_both : {S : Type 0} {names : spec.StoreNames} {new next : List ℕ} {before after : FilesOutside S}
    (r : Result Unit Failed) → WritesFiles names new next before after r → is_err r ≡ false →
    WroteFiles names new next before after
wrote_both {S} {names} {new} {next} {before} {after} (Ok done) writes well = writes
wrote_both {S} {names} {new} {next} {before} {after} (Err e) writes well =
    absurd (let clash : true ≡ false = well in cc)

never_err : (r : Result Unit Failed) → IsOk r → is_err r ≡ true → ⊥
never_err (Ok done) ok ill = absurd (let clash : true ≡ false = sym ill in cc)
never_err (Err e) ok ill = absurd (let clash : false ≡ true = ok in cc)

-- writing them failed, so they were due
pub record FilesFailed {S : Type 0} (stopped : Stop) (names : spec.StoreNames) (new next : List ℕ)
    (before after : FilesOutside S) : Type 0 where
  pub drawn : stopped ≢ stop.NoRandom
  pub broke : BrokeInNew names new before after ⊎ BrokeInNext names new next before after

pub files_failed : {S : Type 0} (stopped : Stop) {names : spec.StoreNames} {new next : List ℕ}
    {before after : FilesOutside S} (r : Result Unit Failed) → LeavesFiles stopped names new next before after r →
    is_err r ≡ true → FilesFailed stopped names new next before after
files_failed {S} stop.NoRandom {names} {new} {next} {before} {after} r leaves ill = absurd (never_err r leaves.1 ill)
files_failed {S} stop.Budget {names} {new} {next} {before} {after} r leaves ill =
    record { drawn = budget_else; broke = broke_in r leaves ill }
files_failed {S} (stop.Halt value) {names} {new} {next} {before} {after} r leaves ill =
    record { drawn = stopped_else value; broke = broke_in r leaves ill }

-- both were written, or none was due
pub record FilesLeft {S : Type 0} (stopped : Stop) (names : spec.StoreNames) (new next : List ℕ)
    (before after : FilesOutside S) : Type 0 where
  pub wrote : stopped ≢ stop.NoRandom → WroteFiles names new next before after
  pub none : stopped ≡ stop.NoRandom → after ≡ before
  pub others : (other : List ℕ) → other ≢ names.new_name → other ≢ names.next_name → after.held other ≡ before.held other
  pub writing : after.writing ≡ before.writing
  pub reading : after.reading ≡ before.reading

files_wrote : {S : Type 0} {stopped : Stop} {names : spec.StoreNames} {new next : List ℕ}
    {before after : FilesOutside S} → stopped ≢ stop.NoRandom → WroteFiles names new next before after →
    FilesLeft stopped names new next before after
files_wrote {S} {stopped} {names} {new} {next} {before} {after} drawn wrote = record {
  wrote = λ due. wrote;
  none = λ missed. absurd (drawn missed);
  others = wrote.others;
  writing = wrote.writing;
  reading = wrote.reading;
}

pub files_left : {S : Type 0} (stopped : Stop) {names : spec.StoreNames} {new next : List ℕ}
    {before after : FilesOutside S} (r : Result Unit Failed) → LeavesFiles stopped names new next before after r →
    is_err r ≡ false → FilesLeft stopped names new next before after
files_left {S} stop.NoRandom {names} {new} {next} {before} {after} r leaves well = record {
  wrote = λ due. absurd (due refl);
  none = λ missed. leaves.0;
  others = λ other one two. ap (λ (f : FilesOutside S). f.held other) leaves.0;
  writing = ap (λ (f : FilesOutside S). f.writing) leaves.0;
  reading = ap (λ (f : FilesOutside S). f.reading) leaves.0;
}
files_left {S} stop.Budget {names} {new} {next} {before} {after} r leaves well =
    files_wrote budget_else (wrote_both r leaves well)
files_left {S} (stop.Halt value) {names} {new} {next} {before} {after} r leaves well =
    files_wrote (stopped_else value) (wrote_both r leaves well)

-- a file that was not written whole, seen from before the record was begun
old_or_front : (name bytes : List ℕ) (first mid after : List ℕ → Option (List ℕ)) → mid name ≡ first name →
    HasOldOrFront name bytes mid after → HasOldOrFront name bytes first after
old_or_front name bytes first mid after same (inl old) = inl (old ∙ same)
old_or_front name bytes first mid after same (inr front) = inr front

pub breaks_files : {S O : Type 0} {names : spec.StoreNames} {counter : ℕ} {s : StoreSources} {r : Run} {new next : List ℕ}
    {before mid after : Outside S O} → AreLow before → Apart names → AtPieces names.record_name before mid →
    HasFirst names r before mid → after.output ≡ mid.output → r.stop ≢ stop.NoRandom → new ≡ new_bytes s counter r →
    next ≡ next_bytes s r →
    BrokeInNew names new mid.files after.files ⊎ BrokeInNext names new next mid.files after.files →
    BreaksOff names counter s r before after
breaks_files {S} {O} {names} {counter} {s} {r} {new} {next} {before} {mid} {after} low apart at has same drawn is_new
    is_next (inl broke) = inr (inl (record {
      due_files = drawn;
      first = record {
        file = subst (λ (t : Option (List ℕ)). Tells t (recorded_bytes (first_due r)))
            (sym (broke.others names.record_name apart.new)) has.file;
        output = subst (λ (o : Output O). Grows before.output.taken o.taken (shown_bytes (first_due r))) (sym same)
            has.output;
      };
      new = subst (λ (bytes : List ℕ). HasOldOrFront names.new_name bytes before.files.held after.files.held) is_new
          (old_or_front names.new_name new before.files.held mid.files.held after.files.held (at.others names.new_name (flipped apart.new)) broke.new_file);
      next = broke.others names.next_name (flipped apart.both) ∙ at.others names.next_name (flipped apart.next);
      writing = raised (Rose-after _ _ _ at.nothing_rose.writing broke.writing) low.writing;
      faults = ap (λ (o : Output O). o.faults) same ∙ at.nothing_rose.faults;
    }))
breaks_files {S} {O} {names} {counter} {s} {r} {new} {next} {before} {mid} {after} low apart at has same drawn is_new
    is_next (inr broke) = inr (inr (inl (record {
      due_files = drawn;
      first = record {
        file = subst (λ (t : Option (List ℕ)). Tells t (recorded_bytes (first_due r)))
            (sym (broke.others names.record_name apart.new apart.next)) has.file;
        output = subst (λ (o : Output O). Grows before.output.taken o.taken (shown_bytes (first_due r))) (sym same)
            has.output;
      };
      new = subst (λ (bytes : List ℕ). Tells (after.files.held names.new_name) bytes) is_new broke.new_file;
      next = subst (λ (bytes : List ℕ). HasOldOrFront names.next_name bytes before.files.held after.files.held) is_next
          (old_or_front names.next_name next before.files.held mid.files.held after.files.held (at.others names.next_name (flipped apart.next)) broke.next_file);
      writing = raised (Rose-after _ _ _ at.nothing_rose.writing broke.writing) low.writing;
      faults = ap (λ (o : Output O). o.faults) same ∙ at.nothing_rose.faults;
    })))

-- after the files, whatever run they are of
pub record AtFiles {S O : Type 0} (names : spec.StoreNames) (before mid : Outside S O) : Type 0 where
  pub grows : GrowsSome before.output.taken mid.output.taken
  pub others : OtherThanStored names before.files.held mid.files.held
  pub nothing_rose : NothingRose before mid

pub at_files : {S O : Type 0} {stopped : Stop} {names : spec.StoreNames} {new next : List ℕ}
    {before mid after : Outside S O} → AtPieces names.record_name before mid → after.output ≡ mid.output →
    FilesLeft stopped names new next mid.files after.files → AtFiles names before after
at_files {S} {O} {stopped} {names} {new} {next} {before} {mid} {after} at same files = record {
  grows = (at.grows.0, subst (λ (o : Output O). Grows before.output.taken o.taken at.grows.0) (sym same) at.grows.1);
  others = λ other one two three. files.others other two three ∙ at.others other one;
  nothing_rose = record {
    reading = files.reading ∙ at.nothing_rose.reading;
    writing = files.writing ∙ at.nothing_rose.writing;
    faults = ap (λ (o : Output O). o.faults) same ∙ at.nothing_rose.faults;
  };
}

-- and of this run
pub record HasBoth {S O : Type 0} (names : spec.StoreNames) (counter : ℕ) (s : StoreSources) (r : Run)
    (before mid : Outside S O) : Type 0 where
  pub file : Tells (mid.files.held names.record_name) (recorded_bytes (first_due r))
  pub output : Grows before.output.taken mid.output.taken (shown_bytes (first_due r))
  pub stored : r.stop ≢ stop.NoRandom → HasFiles names counter s r mid.files.held
  pub unstored : r.stop ≡ stop.NoRandom → OtherFiles names.record_name before.files.held mid.files.held

pub has_both : {S O : Type 0} {stopped : Stop} {names : spec.StoreNames} {counter : ℕ} {s : StoreSources} {r : Run}
    {new next : List ℕ} {before mid after : Outside S O} → Apart names → AtPieces names.record_name before mid →
    HasFirst names r before mid → stopped ≡ r.stop → after.output ≡ mid.output →
    (r.stop ≢ stop.NoRandom → new ≡ new_bytes s counter r) → next ≡ next_bytes s r →
    (r.stop ≢ stop.NoRandom → AreContents r.closed.joint.memory.ledger.keys (contents_of r.closed.joint)) →
    FilesLeft stopped names new next mid.files after.files → HasBoth names counter s r before after
has_both {S} {O} {stopped} {names} {counter} {s} {r} {new} {next} {before} {mid} {after} apart at has stops same is_new
    is_next fits files = record {
      file = subst (λ (t : Option (List ℕ)). Tells t (recorded_bytes (first_due r)))
          (sym (files.others names.record_name apart.new apart.next)) has.file;
      output = subst (λ (o : Output O). Grows before.output.taken o.taken (shown_bytes (first_due r))) (sym same)
          has.output;
      stored = λ drawn. let wrote = files.wrote (λ missed. drawn (sym stops ∙ missed)) in record {
        new = subst (λ (bytes : List ℕ). Tells (after.files.held names.new_name) bytes) (is_new drawn) wrote.new_file;
        next = subst (λ (bytes : List ℕ). Tells (after.files.held names.next_name) bytes) is_next wrote.next_file;
        fit = fits drawn;
      };
      unstored = λ missed other apart.
          ap (λ (f : FilesOutside S). f.held other) (files.none (stops ∙ missed)) ∙ at.others other apart;
    }

-- The lines at the end.

-- what is due, by what is due first and last
due_parts : (r : Run) → due r ≡ first_due r ++ (shown (codes "\n") ∷ shown (report_of r) ∷ [])
unfolding due
due_parts r =
    let last = shown (codes "\n") ∷ shown (report_of r) ∷ [] in
    ap (λ (ps : List Piece). recorded record_magic ∷ ps)
    (sym (append_assoc (item_pieces r.opened.items) (turns_pieces 1 r.turns ++ closing_pieces r) last
    ∙ ap (λ (ps : List Piece). item_pieces r.opened.items ++ ps)
    (append_assoc (turns_pieces 1 r.turns) (closing_pieces r) last)))

recorded_due : (r : Run) → recorded_bytes (first_due r) ≡ recorded_bytes (due r)
recorded_due r =
    sym (ap recorded_bytes (due_parts r)
    ∙ (recorded_bytes-append (first_due r) _ ∙ append-nil (recorded_bytes (first_due r))))

shown_due : (r : Run) → shown_bytes (first_due r) ++ last_due r ≡ shown_bytes (due r)
shown_due r =
    sym (ap shown_bytes (due_parts r)
    ∙ (shown_bytes-append (first_due r) _
    ∙ ap (λ (l : List ℕ). shown_bytes (first_due r) ++ (codes "\n" ++ l)) (append-nil (report_of r))))

-- what was shown of the lines of an end
pub record ShowsEnd {S O : Type 0} (end : RunEnd) (r : Result Unit Failed) (mid after : Outside S O) : Type 0 where
  pub puts : Puts mid.output.taken after.output.taken mid.output.faults after.output.faults
      (codes "\n" ++ end_report end) r
  pub files : after.files ≡ mid.files

lines_of : {old new : ForStoring} {end : RunEnd} {r : Run} → EndsAs old new end r → codes "\n" ++ end_report end ≡ last_due r
lines_of {old} {new} {end} {r} ends = ap (λ (l : List ℕ). codes "\n" ++ l) ends.report

pub breaks_last : {S O : Type 0} {names : spec.StoreNames} {counter : ℕ} {s : StoreSources} {r : Run} {old new : ForStoring}
    {end : RunEnd} {before mid after : Outside S O} (shows : Result Unit Failed) → AreLow before →
    AtFiles names before mid → HasBoth names counter s r before mid → EndsAs old new end r →
    ShowsEnd end shows mid after → is_err shows ≡ true → BreaksOff names counter s r before after
breaks_last {S} {O} {names} {counter} {s} {r} {old} {new} {end} {before} {mid} {after} shows low at has ends lines ill =
    let parts = Puts-parts _ _ _ _ (codes "\n" ++ end_report end) shows lines.puts in
    let front = front_of_text mid.output.taken after.output.taken (last_due r)
    (subst (λ (text : List ℕ). GrowsByFront mid.output.taken after.output.taken text) (lines_of ends)
    (failed shows _ ill parts.1)) in
    inr (inr (inr (record {
      file = subst (λ (f : FilesOutside S). Tells (f.held names.record_name) (recorded_bytes (first_due r)))
          (sym lines.files) has.file;
      bytes = front.0;
      few = front.1;
      output = Grows-append _ _ _ (shown_bytes (first_due r)) (take front.0 (last_due r)) has.output front.2;
      stored = λ drawn. subst (λ (f : FilesOutside S). HasFiles names counter s r f.held) (sym lines.files)
          (has.stored drawn);
      unstored = λ missed. subst (λ (f : FilesOutside S). OtherFiles names.record_name before.files.held f.held)
          (sym lines.files) (has.unstored missed);
      writing = ap (λ (f : FilesOutside S). f.writing) lines.files ∙ at.nothing_rose.writing;
      faults = raised (Rose-after _ _ _ at.nothing_rose.faults (risen _ _ shows ill parts.2)) low.faults;
    })))

pub leaves_all : {S O : Type 0} {names : spec.StoreNames} {counter : ℕ} {s : StoreSources} {r : Run} {old new : ForStoring}
    {end : RunEnd} {given : Status} {before mid after : Outside S O} (shows : Result Unit Failed) →
    HasBoth names counter s r before mid → EndsAs old new end r → ShowsEnd end shows mid after →
    is_err shows ≡ false → given ≡ status_of end.stop (end_is_refused end) →
    LeavesAll names counter s r given before after
leaves_all {S} {O} {names} {counter} {s} {r} {old} {new} {end} {given} {before} {mid} {after} shows has ends lines well
    is =
    let parts = Puts-parts _ _ _ _ (codes "\n" ++ end_report end) shows lines.puts in
    let grows = Grows-append _ _ _ (shown_bytes (first_due r)) (last_due r) has.output
    (subst (λ (text : List ℕ). Grows mid.output.taken after.output.taken text) (lines_of ends)
    (succeeded shows _ well parts.0)) in
    record {
      status = is ∙ (λ i. status_of (ends.stop i) (ends.refused i));
      file = subst (λ (bytes : List ℕ). Tells (after.files.held names.record_name) bytes) (recorded_due r)
          (subst (λ (f : FilesOutside S). Tells (f.held names.record_name) (recorded_bytes (first_due r)))
          (sym lines.files) has.file);
      output = subst (λ (text : List ℕ). Grows before.output.taken after.output.taken text) (shown_due r) grows;
      stored = λ drawn. subst (λ (f : FilesOutside S). HasFiles names counter s r f.held) (sym lines.files)
          (has.stored drawn);
      unstored = λ missed. subst (λ (f : FilesOutside S). OtherFiles names.record_name before.files.held f.held)
          (sym lines.files) (has.unstored missed);
    }

-- The exits.

pub not_begun : {S O : Type 0} (names : spec.StoreNames) (counter steps : ℕ) (s : StoreSources)
    (before now after : FilesOutside S) (out : Output O) (r : Result Unit Failed) → OnlyRead before now →
    AreLow {S = S} {O = O} (record { files = before; output = out }) →
    OnErr r ((after.held names.record_name ≡ now.held names.record_name) ⊎ Tells (after.held names.record_name) []) →
    OtherFiles names.record_name now.held after.held → Counts now.writing after.writing r →
    after.reading ≡ now.reading → is_err r ≡ true →
    Stores names counter steps s (record { files = before; output = out }) (record { files = after; output = out })
    status.WriteFault
not_begun {S} {O} names counter steps s before now after out r read low file others writing reading ill =
    let rises = raised (Rose-after _ _ _ read.writing (risen _ _ r ill writing)) low.writing in
    let keeps : OtherFiles names.record_name before.held after.held = λ other apart. others other apart ∙ read.held other in
    inr (
      refl,
      record {
        breaks_off = inl (record {
          file = elim (failed r _ ill file) [
            | inl same ↦ inl (same ∙ read.held names.record_name)
            | inr empty ↦ inr (0, omega arith, empty)
          ];
          others = keeps;
          untouched = refl;
          writing = rises;
        });
        grows = ([], Grows-none _);
        others = λ other one two three. keeps other one;
        reading = reading ∙ read.reading;
        fault = (recorded [], (rises, refl));
      },
    )

pub front_of_first : {S O : Type 0} {names : spec.StoreNames} {counter steps : ℕ} {s : StoreSources}
    {before mid after : Outside S O} {pieces : List Piece} → AreLow before → HasBegunRecord names.record_name before mid →
    WroteFront names.record_name mid after pieces →
    ((files : List FileContents) → AreFiles s files →
    RunsOver s steps (λ r. BreaksOff names counter s r before after) files) →
    Stores names counter steps s before after status.WriteFault
front_of_first {S} {O} {names} {counter} {steps} {s} {before} {mid} {after} {pieces} low begun front each = inr (
  refl,
  record {
    breaks_off = inr each;
    grows = (shown_bytes (pieces_left front.cut), grows_from before mid _ _ begun.output front.wrote.output);
    others = λ other one two three. front.wrote.others other one ∙ begun.others other one;
    reading = front.wrote.reading ∙ begun.reading;
    fault = (front.cut.piece, fault_since after front.cut.piece low begun front.fault);
  },
)

pub front_of_files : {S O : Type 0} {names : spec.StoreNames} {counter steps : ℕ} {s : StoreSources}
    {new next : List ℕ} {before mid after : Outside S O} → AreLow before → AtPieces names.record_name before mid →
    after.output ≡ mid.output →
    BrokeInNew names new mid.files after.files ⊎ BrokeInNext names new next mid.files after.files →
    ((files : List FileContents) → AreFiles s files →
    RunsOver s steps (λ r. BreaksOff names counter s r before after) files) →
    Stores names counter steps s before after status.WriteFault
front_of_files {S} {O} {names} {counter} {steps} {s} {new} {next} {before} {mid} {after} low at same (inl broke) each =
    inr (
      refl,
      record {
        breaks_off = inr each;
        grows = (at.grows.0, subst (λ (o : Output O). Grows before.output.taken o.taken at.grows.0) (sym same) at.grows.1);
        others = λ other one two three. broke.others other two ∙ at.others other one;
        reading = broke.reading ∙ at.nothing_rose.reading;
        fault = (
          recorded [],
          (
            raised (Rose-after _ _ _ at.nothing_rose.writing broke.writing) low.writing,
            ap (λ (o : Output O). o.faults) same ∙ at.nothing_rose.faults,
          ),
        );
      },
    )
front_of_files {S} {O} {names} {counter} {steps} {s} {new} {next} {before} {mid} {after} low at same (inr broke) each =
    inr (
      refl,
      record {
        breaks_off = inr each;
        grows = (at.grows.0, subst (λ (o : Output O). Grows before.output.taken o.taken at.grows.0) (sym same) at.grows.1);
        others = λ other one two three. broke.others other two three ∙ at.others other one;
        reading = broke.reading ∙ at.nothing_rose.reading;
        fault = (
          recorded [],
          (
            raised (Rose-after _ _ _ at.nothing_rose.writing broke.writing) low.writing,
            ap (λ (o : Output O). o.faults) same ∙ at.nothing_rose.faults,
          ),
        );
      },
    )

pub front_of_last : {S O : Type 0} {names : spec.StoreNames} {counter steps : ℕ} {s : StoreSources} (end : RunEnd)
    {before mid after : Outside S O} (shows : Result Unit Failed) → AreLow before → AtFiles names before mid →
    ShowsEnd end shows mid after → is_err shows ≡ true →
    ((files : List FileContents) → AreFiles s files →
    RunsOver s steps (λ r. BreaksOff names counter s r before after) files) →
    Stores names counter steps s before after status.WriteFault
front_of_last {S} {O} {names} {counter} {steps} {s} end {before} {mid} {after} shows low at lines ill each =
    let text = codes "\n" ++ end_report end in
    let parts = Puts-parts _ _ _ _ text shows lines.puts in
    let front = front_of_text mid.output.taken after.output.taken text (failed shows _ ill parts.1) in
    inr (
      refl,
      record {
        breaks_off = inr each;
        grows = (
          at.grows.0 ++ take front.0 text,
          Grows-append _ _ _ at.grows.0 (take front.0 text) at.grows.1 front.2,
        );
        others = λ other one two three.
            ap (λ (f : FilesOutside S). f.held other) lines.files ∙ at.others other one two three;
        reading = ap (λ (f : FilesOutside S). f.reading) lines.files ∙ at.nothing_rose.reading;
        fault = (
          shown [],
          (
            ap (λ (f : FilesOutside S). f.writing) lines.files ∙ at.nothing_rose.writing,
            raised (Rose-after _ _ _ at.nothing_rose.faults (risen _ _ shows ill parts.2)) low.faults,
          ),
        );
      },
    )

pub all_of_last : {S O : Type 0} {names : spec.StoreNames} {counter steps : ℕ} {s : StoreSources} (end : RunEnd)
    {given : Status} {before mid after : Outside S O} (shows : Result Unit Failed) → AtFiles names before mid →
    ShowsEnd end shows mid after → is_err shows ≡ false → IsStatusOfStop given →
    ((files : List FileContents) → AreFiles s files →
    RunsOver s steps (λ r. LeavesAll names counter s r given before after) files) →
    Stores names counter steps s before after given
all_of_last {S} {O} {names} {counter} {steps} {s} end {given} {before} {mid} {after} shows at lines well some each =
    let text = codes "\n" ++ end_report end in
    let parts = Puts-parts _ _ _ _ text shows lines.puts in
    inl (record {
      leaves = each;
      some_stop = some;
      grows = (
        at.grows.0 ++ text,
        Grows-append _ _ _ at.grows.0 text at.grows.1 (succeeded shows _ well parts.0),
      );
      others = λ other one two three.
          ap (λ (f : FilesOutside S). f.held other) lines.files ∙ at.others other one two three;
      nothing_rose = record {
        reading = ap (λ (f : FilesOutside S). f.reading) lines.files ∙ at.nothing_rose.reading;
        writing = ap (λ (f : FilesOutside S). f.writing) lines.files ∙ at.nothing_rose.writing;
        faults = counted _ _ shows well parts.2 ∙ at.nothing_rose.faults;
      };
    })
