use Rattle.std.proofs.Common.{◌≡◌, Bool, List, Option, map, All}
use Rattle.std.specs.Prelude.{option_map}
use Rattle.cloak_base.specs.declared.names.PageId.{PageId}
use Rattle.cloak_model.specs.Cloaking.{CloakedMemory}
use Rattle.cloak_model.specs.Ledger.{domain_key}
use Rattle.cloak_model.specs.StoredFiles.{PageContent, IsSealedIfShown, meta_of}
use Rattle.protect_meta.specs.FileTable.{file_at}
use Rattle.cloak_pager.specs.Relation.{StandsForMemory}
use Rattle.joint_machine.specs.Filing.{KeepsOtherPages}
use Rattle.joint_machine.proofs.Continued.{AreFreshFrom, RestoresTo}
use Rattle.joint_machine.proofs.filing.restore_pages.Given as goal

-- the pages so far go on
abbrev pub invariant-loop-page : goal.invariant-loop-page
invariant-loop-page l = record {
  others : KeepsOtherPages l.domain l.resource l.fn.pager l.pager;
  fresh : AreFreshFrom l.pager l.domain l.resource l.page;
  restores : (wiped : PageId → Bool) (m : CloakedMemory) (contents : List (Option PageContent)) →
      StandsForMemory l.fn.pager wiped m → All (IsSealedIfShown (domain_key m.ledger.keys l.domain)) contents →
      map (option_map meta_of) contents ≡ (file_at l.files l.file).pages →
      RestoresTo l.pager wiped l.domain l.resource l.page contents m;
}
