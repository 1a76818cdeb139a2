-- What is recorded of pages is enough to go on with them: the laws of records, of whole pages, and of those of which
-- none is recorded, at each moment from which a run goes on.
use Rattle.std.proofs.Common.{◌≡◌, ◌∙◌, length, Some, None, sym, ap, inl, inr}
use Rattle.std.proofs.lemmas.Bool.{false≢true, cases_lt}
use Rattle.std.proofs.lemmas.List.{get_or_past}
use Rattle.cloak_base.specs.declared.names.PageId.{PageId}
use Rattle.cloak_base.proofs.Pages.{same_page-self}
use Rattle.cloak_model.specs.Cloaking.{CloakedMemory, owes, owing_frame}
use Rattle.chain_law.proofs.ZeroRuns.{unshown_are_zeros}
use Rattle.kernel_isolation.specs.Isolation.{joint_until}
use Rattle.frozen_law.specs.Fit.{RunsFitPages}
use Rattle.frozen_law.specs.Records.{IsUnowed}
use Rattle.frozen_law.proofs.MissedRuns.{nothing_is_missed}
use Rattle.frozen_law.proofs.Pages.{pages_are_whole}
use Rattle.frozen_law.proofs.RecordRuns.{records_tell_pages}
use Rattle.cloak_base.proofs.Lists.{fails_all}
use Rattle.range_law.proofs.Beginnings.{is_beginning}

-- a page that no frame is owed
unowed : (m : CloakedMemory) (q : PageId) → owing_frame m q ≡ None → IsUnowed q m
unowed m q none f owed = elim (cases_lt f (length m.ledger.owed)) [
  | inl low ↦
      false≢true (sym (fails_all (owes q) m.ledger.owed f None none low) ∙ (ap (owes q) owed ∙ same_page-self q))
  | inr past ↦ nothing (sym (get_or_past m.ledger.owed f None past) ∙ owed)
]
  where
    nothing : None ≡ Some q → ⊥
    nothing is = absurd cc

pub runs_fit_pages : RunsFitPages
runs_fit_pages b from budget r grammar bytes all is n on =
    let drawn = nothing_is_missed b from budget r is n on in
    let zeros = unshown_are_zeros b from budget r is n in
    let m : CloakedMemory = (joint_until n r).memory in
    record {
      bytes = λ q. pages_are_whole b from budget r grammar bytes all is n q;
      vectors = λ q. zeros.0 q;
      recorded = λ q c iv there vector none.
          records_tell_pages b from budget r (is_beginning b from all) is n drawn q c iv (unowed m q none) there vector;
      fresh = λ q none unshown. zeros.1 drawn q (none, unowed m q unshown);
    }
