-- What is due was written, or a front of it.
use Rattle.std.proofs.Common.{◌≡◌, ◌∙◌, ◌⊎◌, ℕ, true, List, [], refl, inl, inr, Result, OnErr, is_err}
use Rattle.cloak_base.specs.declared.causes.Failed.{Failed}
use Rattle.cloak_model.specs.Exchange.{Piece, recorded_bytes}
use Rattle.io_traits.specs.Told.{Counts, OtherFiles, Tells}
use Rattle.io_traits.proofs.ToldFacts.{Rose-after, Tells_after}
use Rattle.command_parts.specs.Outside.{FilesOutside, OnlyRead, Output, Outside}
use Rattle.command_parts.proofs.FaultFacts.{failed, raised, risen}
use Rattle.run_command.specs.Outlet.{WroteAll, WroteFront, pieces_left}
use Rattle.run_command.proofs.BegunFacts.{AreLow, HasBegunRecord, fault_since, grows_from}
use Rattle.frozen_commands.specs.Writing.{BeginsNoRecord, HasWritten, IsCutOff}

pub has_written : {S O : Type 0} {name : List ℕ} {before mid after : Outside S O} {pieces : List Piece} →
    HasBegunRecord name before mid → WroteAll name mid after pieces → HasWritten pieces name before after
has_written {S} {O} {name} {before} {mid} {after} {pieces} begun all = record {
  file = Tells_after (mid.files.held name) (after.files.held name) [] (recorded_bytes pieces) begun.empty all.wrote.file;
  output = grows_from before mid _ _ begun.output all.wrote.output;
}

pub is_cut_off : {S O : Type 0} {name : List ℕ} {before mid after : Outside S O} {pieces : List Piece} →
    AreLow before → HasBegunRecord name before mid → WroteFront name mid after pieces → IsCutOff pieces name before after
is_cut_off {S} {O} {name} {before} {mid} {after} {pieces} low begun front = record {
  cut = front.cut;
  left = record {
    file = Tells_after (mid.files.held name) (after.files.held name) [] (recorded_bytes (pieces_left front.cut))
        begun.empty front.wrote.file;
    output = grows_from before mid _ _ begun.output front.wrote.output;
  };
  fault = fault_since after front.cut.piece low begun front.fault;
}

-- the record could not be begun
pub begins_no_record : {S O : Type 0} (name : List ℕ) (before now after : FilesOutside S) (out : Output O)
    (r : Result Unit Failed) → OnlyRead before now → AreLow {S = S} {O = O} (record { files = before; output = out }) →
    OnErr r ((after.held name ≡ now.held name) ⊎ Tells (after.held name) []) →
    OtherFiles name now.held after.held → Counts now.writing after.writing r → is_err r ≡ true →
    BeginsNoRecord {S = S} {O = O} name (record { files = before; output = out }) (record { files = after; output = out })
begins_no_record {S} {O} name before now after out r read low file others writing ill = record {
  file = elim (failed r _ ill file) [
    | inl same ↦ inl (same ∙ read.held name)
    | inr empty ↦ inr empty
  ];
  others = λ other apart. others other apart ∙ read.held other;
  untouched = refl;
  writing = raised (Rose-after _ _ _ read.writing (risen _ _ r ill writing)) low.writing;
}
