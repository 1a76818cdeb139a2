-- A frame that is owed a page shows it sealed, while no metadata is written. Only the answer tells of what is shown: the
-- table tells of what was shown of the page before.
use Rattle.std.specs.Prelude.{ℕ, ◌≡◌, List, Some}
use Rattle.sha2.specs.Sha256.{sha256}
use Rattle.cloak_base.specs.declared.names.PageId.{PageId}
use Rattle.cloak_base.specs.declared.names.Meta.{Meta}
use Rattle.cloak_model.specs.Chain.{cbc}
use Rattle.protect_meta.specs.Table.{meta_at}
use Rattle.cloak_pager.specs.State.{PagerState, key_for, owed_at, bytes_in}
use Rattle.cloak_pager.specs.Turns.{ShowsNow}

-- Frame f was owed a page. It is outside now and shows the page sealed under this IV, and this metadata tells of that. The
-- metadata of each page stays.
pub record FreezesFrame (old new : PagerState) (f : ℕ) (iv : List ℕ) (told : Meta) : Type 0 where
  pub page : PageId
  pub owed : owed_at old f ≡ Some page
  pub shows : ShowsNow old new f (cbc (key_for old page) iv (bytes_in old f)) (meta_at old.table)
  pub told_is : told ≡ record { iv = iv; digest = sha256 (cbc (key_for old page) iv (bytes_in old f)) }
