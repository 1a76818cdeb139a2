-- What is recorded of pages tells their newest bytes, at every moment of a run.
use Rattle.std.proofs.Common.{◌≡◌, ◌∙◌, ℕ, ◌+◌, Bool, cond, List, [], ◌∷◌, Option, Some, None, IfSome, Ok, refl, sym, ap, subst}
use Rattle.std.specs.Prelude.{All}
use Rattle.std.proofs.lemmas.List.Elements.{All-nil, All-head, All-tail}
use Rattle.cloak_base.specs.Pages.{same_page}
use Rattle.cloak_base.specs.Random.{Random}
use Rattle.cloak_base.specs.declared.names.PageId.{PageId}
use Rattle.cloak_model.specs.declared.image.Bundle.{Bundle}
use Rattle.cloak_model.specs.Beginning.{Beginning, Fresh, Stored, IsBeginning, opening_from, with_content, with_contents}
use Rattle.cloak_model.specs.Cloaking.{CloakedMemory, ciphertext_of}
use Rattle.cloak_model.specs.Ledger.{Keys, domain_key, key_of, next_vector}
use Rattle.cloak_model.specs.Opening.{RunEdge, started_joint, started_ledger, started_memory}
use Rattle.cloak_model.specs.PageMoves.{place, place_with}
use Rattle.cloak_model.specs.Parts.{Joint}
use Rattle.cloak_model.specs.Sealing.{Chained, sealed_by}
use Rattle.cloak_model.specs.StoredFiles.{PageContent, FileContents, IsSealedIfShown, HasSealedPages}
use Rattle.cloak_model.specs.World.{Cloaked}
use Rattle.kernel_isolation.proofs.FilesAdded.{HasKeys, IsGiven, files_carry, files_of, opens_over}
use Rattle.limit_law.proofs.Memories.{Carries, carried_at}
use Rattle.frozen_law.specs.Records.{RecordsTell, RecordsTellPages}
use Rattle.limit_law.proofs.Openings.{programs_placed}
use Rattle.frozen_law.proofs.Records.{told_by, made_so, page_tells, settle_tell}
use Rattle.frozen_law.proofs.RecordSteps.{step_tells, end_tells}

-- A step.

tell_carries : Carries RecordsTell RecordsTell
tell_carries = record {
  settled = settle_tell;
  later = λ m tell. tell;
  stepped = λ slot was c places tell. step_tells slot was (Cloaked c) (places, tell);
  seen = λ s m tell. tell;
  rooted = λ root m tell. tell;
  ended = λ d m tell. end_tells d _ tell;
}

-- The opening: the pages of programs, and those of files.

-- under these keys
abbrev TellUnder : Keys → CloakedMemory → Type 0
TellUnder keys m = (m.ledger.keys ≡ keys) × RecordsTell m

place_tell : (keys : Keys) (q : PageId) (f : ℕ) (bytes : List ℕ) (draw : Option (List ℕ × Random)) (m : CloakedMemory) →
    TellUnder keys m → IfSome (place_with q f bytes draw m) (TellUnder keys)
unfolding place_with
place_tell keys q f bytes None m here = tt
place_tell keys q f bytes (Some draw) m here = (
  here.0,
  (λ drawn p c iv unowed recorded vector.
      let t = same_page p q in
      let key = key_of m.ledger p in
      let seal = m.ledger.keys.seal in
      told_by t seal key _ (m.ledger.recorded p) _ (m.ledger.iv p) (cond t bytes (m.plain p)) c iv
      (λ is made under.
      made_so seal key bytes draw.0 c iv
      (subst (λ (x : PageId). Some (ciphertext_of m.ledger x draw.0 bytes) ≡ Some c) (page_tells p q is) made) under
      ∙ ap (λ (b : Bool). sealed_by seal key iv (cond b bytes (m.plain p))) (sym is))
      (λ is before under.
      here.1 drawn p c iv unowed before under ∙ ap (λ (b : Bool). sealed_by seal key iv (cond b bytes (m.plain p))) (sym is))
      recorded vector),
)

placed_tell : (keys : Keys) (q : PageId) (f : ℕ) (bytes : List ℕ) (m : CloakedMemory) → TellUnder keys m →
    IfSome (place q f bytes m) (TellUnder keys)
unfolding place
placed_tell keys q f bytes m here = place_tell keys q f bytes (next_vector m.ledger) m here

started_tell : (b : Bundle) (keys : Keys) (rest : Random) → TellUnder keys (started_memory b.kernel keys rest)
unfolding started_memory started_ledger
started_tell b keys rest = (refl, (λ drawn q c iv unowed recorded vector. let clash : None ≡ Some c = recorded in absurd cc))

content_tell : (keys : Keys) (d resource page : ℕ) (content : Option PageContent) (m : CloakedMemory) →
    keys.seal ≡ Chained → IsSealedIfShown (domain_key keys d) content → TellUnder keys m →
    TellUnder keys (with_content (record { domain = d; resource = resource; page = page }) content m)
content_tell keys d resource page None m chained sealed here = here
content_tell keys d resource page (Some content) m chained sealed here = (
  here.0,
  (λ drawn p c iv unowed recorded vector.
      let q : PageId = record { domain = d; resource = resource; page = page } in
      let t = same_page p q in
      let key = key_of m.ledger p in
      let seal = m.ledger.keys.seal in
      told_by t seal key (Some content.cipher) (m.ledger.recorded p) (Some content.iv) (m.ledger.iv p)
      (cond t content.plain (m.plain p)) c iv
      (λ is made under.
      let same : q ≡ p = page_tells p q is in
      let keyed : domain_key keys d ≡ key =
      ap (λ (k : Keys). domain_key k d) (sym here.0) ∙ ap (λ (x : PageId). key_of m.ledger x) same in
      let by : Chained ≡ seal = sym (ap (λ (k : Keys). k.seal) here.0 ∙ chained) in
      let cipher : content.cipher ≡ sealed_by seal key content.iv content.plain =
      sealed.cipher ∙ (λ i. sealed_by (by i) (keyed i) content.iv content.plain) in
      made_so seal key content.plain content.iv c iv (ap Some (sym cipher) ∙ made) under
      ∙ ap (λ (b : Bool). sealed_by seal key iv (cond b content.plain (m.plain p))) (sym is))
      (λ is before under.
      here.1 drawn p c iv unowed before under
      ∙ ap (λ (b : Bool). sealed_by seal key iv (cond b content.plain (m.plain p))) (sym is)) recorded vector),
)

contents_tell : (keys : Keys) (d resource page : ℕ) (contents : List (Option PageContent)) (m : CloakedMemory) →
    keys.seal ≡ Chained → All (IsSealedIfShown (domain_key keys d)) contents → TellUnder keys m →
    TellUnder keys (with_contents d resource page contents m)
unfolding with_contents
contents_tell keys d resource page [] m chained all here = here
contents_tell keys d resource page (c ∷ contents) m chained all here =
    contents_tell keys d resource (page + 1) contents _ chained
    (All-tail (IsSealedIfShown (domain_key keys d)) c contents all)
    (content_tell keys d resource page c m chained (All-head (IsSealedIfShown (domain_key keys d)) c contents all) here)

record BeginsSo (keys : Keys) (files : List FileContents) (j : Joint) : Type 0 where
  chained : keys.seal ≡ Chained
  sealed : All (HasSealedPages keys) files
  tell : TellUnder keys j.memory

given_tell : (keys : Keys) (f : FileContents) (rest : List FileContents) (x y : Joint) → IsGiven f x y →
    BeginsSo keys (f ∷ rest) x → BeginsSo keys rest y
given_tell keys f rest x y given here = record {
  chained = here.chained;
  sealed = All-tail (HasSealedPages keys) f rest here.sealed;
  tell = subst (λ (j : Joint). TellUnder keys j.memory) given.is
      (contents_tell keys f.domain given.resource 0 f.pages x.memory here.chained (All-head (HasSealedPages keys) f rest here.sealed)
      here.tell);
}

joint_tell : (keys : Keys) (b : Bundle) (m : CloakedMemory) → TellUnder keys m →
    TellUnder keys (started_joint b m).memory
unfolding started_joint
joint_tell keys b m here = here

-- the files of a beginning are sealed under its keys
files_sealed : (b : Bundle) (from : Beginning) (keys : Keys) (rest : Random) → IsBeginning b from →
    HasKeys b from keys rest → All (HasSealedPages keys) (files_of from)
files_sealed b (Fresh stream) keys rest is has = All-nil (HasSealedPages keys)
files_sealed b (Stored handed stream files) keys rest is has =
    subst (λ (k : Keys). All (HasSealedPages k) files) (sym has.are) is.sealed

-- and for chained AES
keys_chained : (b : Bundle) (from : Beginning) (keys : Keys) (rest : Random) → HasKeys b from keys rest →
    keys.seal ≡ Chained
keys_chained b (Fresh stream) keys rest has = ap (λ (k : Keys). k.seal) has.are
keys_chained b (Stored handed stream files) keys rest has = ap (λ (k : Keys). k.seal) has.are

opened_tell : (b : Bundle) (from : Beginning) (o : RunEdge) → IsBeginning b from → opening_from b from ≡ Ok o →
    RecordsTell o.joint.memory
opened_tell b from o is opens =
    let over = opens_over b from o opens in
    let keys = over.keys in
    let placed = subst (λ (m : Option CloakedMemory). IfSome m (TellUnder keys)) over.placed
    (programs_placed (TellUnder keys) (placed_tell keys) 0 b.programs _ (started_tell b keys over.stream)) in
    (files_carry (BeginsSo keys) (given_tell keys) (files_of from) (started_joint b over.memory) o.joint over.added
    (record {
      chained = keys_chained b from keys over.stream over.has_keys;
      sealed = files_sealed b from keys over.stream is over.has_keys;
      tell = joint_tell keys b over.memory placed;
    })).tell.1

pub records_tell_pages : RecordsTellPages
records_tell_pages b from budget r beginning is n =
    (carried_at RecordsTell tell_carries b from budget r (λ o opens. opened_tell b from o beginning opens) is n).memory
