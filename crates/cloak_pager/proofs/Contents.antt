-- What metadata tells of the content of a page, over plain variables.
use Rattle.std.proofs.Common.{◌≡◌, ℕ, Bool, false, List, Option, None, Some, refl, ap, sym, subst}
use Rattle.std.specs.Prelude.{option_map}
use Rattle.aes_block.specs.Bytes.{IsBytes}
use Rattle.cloak_base.specs.declared.names.PageId.{PageId}
use Rattle.cloak_base.specs.declared.names.Meta.{Meta}
use Rattle.cloak_model.specs.Ledger.{key_of}
use Rattle.cloak_model.specs.Cloaking.{CloakedMemory}
use Rattle.cloak_model.specs.StoredFiles.{PageContent, meta_of, IsSealedIfShown}
use Rattle.cloak_model.specs.StoredRun.{shown_content, content_of}
use Rattle.protect_meta.specs.Table.{meta_at}
use Rattle.cloak_pager.specs.State.{PagerState}
use Rattle.cloak_pager.specs.Relation.{PageStands, IsUnowed, vector_in}
use Rattle.cloak_pager.specs.Asking.{TellsContent, KnowsContent}

-- what metadata tells of a page whose content is this
abbrev TellsOf : Bool → CloakedMemory → PageId → Option Meta → Option PageContent → Type 0
TellsOf lost m q t c =
    (option_map meta_of c ≡ t) × (lost ≡ false → IsUnowed m q → IsSealedIfShown (key_of m.ledger q) c)

tells_of : (lost : Bool) (m : CloakedMemory) (q : PageId) (t : Option Meta) → PageStands lost m q t →
    m.ledger.iv q ≡ vector_in t → (lost ≡ false → IsBytes 4096 (m.plain q)) → TellsOf lost m q t (content_of m q)
tells_of lost m q None s vector plain =
    let C : Option (List ℕ) → Option (List ℕ) → Type 0 = λ r v. TellsOf lost m q None (shown_content (m.plain q) r v) in
    let here : C None None = (refl, λ kept free. tt) in
    subst (λ (r : Option (List ℕ)). C r (m.ledger.iv q)) (sym s.0)
    (subst (λ (v : Option (List ℕ)). C None v) (sym vector) here)
tells_of lost m q (Some t) s vector plain =
    let C : Option (List ℕ) → Option (List ℕ) → Type 0 =
    λ r v. TellsOf lost m q (Some t) (shown_content (m.plain q) r v) in
    let here : C (Some s.bytes) (Some t.iv) = (
      ap (λ (d : List ℕ). Some (record { iv = t.iv; digest = d })) s.digest,
      λ kept free. record { plain = plain kept; cipher = s.sealed kept free },
    ) in
    subst (λ (r : Option (List ℕ)). C r (m.ledger.iv q)) (sym s.is)
    (subst (λ (v : Option (List ℕ)). C (Some s.bytes) v) (sym vector) here)

-- the metadata that the pager has of a page
pub knows_content : (p : PagerState) (q : PageId) (t : Option Meta) → t ≡ meta_at p.table q → KnowsContent p q t
knows_content p q t is w m s =
    let told = tells_of (w q) m q (meta_at p.table q) (s.pages q) (s.vectors q) (s.plain q) in
    subst (λ (x : Option Meta). TellsContent (w q) m q x) (sym is) (record { tells = told.0; sealed = told.1 })
