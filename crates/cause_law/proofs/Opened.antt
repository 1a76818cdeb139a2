-- As a run begins, no frame is owed a page, and no domain has ended.
use Rattle.std.proofs.Common.{◌≡◌, ◌∙◌, ◌≤◌, ℕ, zero, suc, ◌+◌, List, [], ◌∷◌, length, Option, Some, None, Ok, refl, sym, ap, subst, inl, inr}
use Rattle.std.specs.Prelude.{slice_index_or, option_and_then, replicate}
use Rattle.std.proofs.lemmas.Bool.{cases_lt}
use Rattle.std.proofs.lemmas.List.{get_or_past, get_or-replicate, length-replicate}
use Rattle.cloak_base.specs.declared.causes.Violation.{Violation}
use Rattle.cloak_base.specs.declared.names.PageId.{PageId}
use Rattle.cloak_base.specs.Random.{Random}
use Rattle.cloak_model.specs.declared.image.Bundle.{Bundle}
use Rattle.cloak_model.specs.declared.image.KernelImage.{KernelImage}
use Rattle.cloak_model.specs.declared.image.Program.{Program}
use Rattle.cloak_model.specs.Beginning.{Beginning, opening_from}
use Rattle.cloak_model.specs.Cloaking.{CloakedMemory, owed_in}
use Rattle.cloak_model.specs.Contexts.{Context, context_at}
use Rattle.cloak_model.specs.Ledger.{Keys, next_vector}
use Rattle.cloak_model.specs.Opening.{RunEdge, started_ledger, started_memory, started_joint, place_pages, place_programs}
use Rattle.cloak_model.specs.PageMoves.{place_with, place}
use Rattle.cloak_model.specs.Parts.{Joint}
use Rattle.kernel_isolation.proofs.FilesAdded.{KeepsMachine, added_keep, was_there, files_of, opens_over}
use Rattle.kernel_isolation.proofs.Opened.{is_opened}
use Rattle.cause_law.proofs.Ends.{IsSound}
use Rattle.cause_law.proofs.Over.{AreEmpty, AreListed, started_empty, started_listed}

-- a memory, if there is one, has this owed
abbrev HasOwed : List (Option PageId) → Option CloakedMemory → Type 0
HasOwed owed None = Unit {0}
HasOwed owed (Some m) = m.ledger.owed ≡ owed

place_with_owed : (q : PageId) (f : ℕ) (bytes : List ℕ) (draw : Option (List ℕ × Random)) (m : CloakedMemory) →
    HasOwed m.ledger.owed (place_with q f bytes draw m)
unfolding place_with
place_with_owed q f bytes None m = tt
place_with_owed q f bytes (Some draw) m = refl

place_owed : (q : PageId) (f : ℕ) (bytes : List ℕ) (m : CloakedMemory) → HasOwed m.ledger.owed (place q f bytes m)
unfolding place
place_owed q f bytes m = place_with_owed q f bytes (next_vector m.ledger) m

then_owed : (owed : List (Option PageId)) (next : CloakedMemory → Option CloakedMemory) (o : Option CloakedMemory) →
    HasOwed owed o → ((m : CloakedMemory) → HasOwed m.ledger.owed (next m)) → HasOwed owed (option_and_then next o)
then_owed owed next None has more = tt
then_owed owed next (Some m) has more = subst (λ (l : List (Option PageId)). HasOwed l (next m)) has (more m)

pages_owed : (d : ℕ) (p : Program) (n : ℕ) (m : CloakedMemory) → HasOwed m.ledger.owed (place_pages d p n m)
pages_owed d p zero m = refl
pages_owed d p (suc n) m =
    then_owed m.ledger.owed _ (place_pages d p n m) (pages_owed d p n m) (λ x. place_owed _ _ _ x)

programs_owed : (d : ℕ) (programs : List Program) (m : CloakedMemory) →
    HasOwed m.ledger.owed (place_programs d programs m)
programs_owed d [] m = refl
programs_owed d (p ∷ programs) m =
    then_owed m.ledger.owed _ (place_pages d p p.start.pages m) (pages_owed d p p.start.pages m)
    (λ x. programs_owed (d + 1) programs x)

none_owed : (frames f : ℕ) (none : Option PageId) → slice_index_or (replicate frames none) f none ≡ none
none_owed frames f none = elim (cases_lt f frames) [
  | inl low ↦ get_or-replicate frames f none none low
  | inr past ↦ get_or_past (replicate frames none) f none
      (subst (λ (n : ℕ). n ≤ f) (sym (length-replicate frames none)) past)
]

started_owes : (k : KernelImage) (keys : Keys) (stream : Random) (f : ℕ) →
    slice_index_or (started_memory k keys stream).ledger.owed f None ≡ None
unfolding started_memory started_ledger
started_owes k keys stream f = none_owed k.frames f None

-- no frame of a machine is owed a page
abbrev OwesNothing : RunEdge → Type 0
OwesNothing o = (f : ℕ) → owed_in o.joint.memory f ≡ None

opened_owes : (b : Bundle) (from : Beginning) (o : RunEdge) → opening_from b from ≡ Ok o → OwesNothing o
unfolding started_joint
opened_owes b from o opens f =
    let over = opens_over b from o opens in
    let keeps = added_keep (files_of from) (started_joint b over.memory) o.joint over.added in
    let start : CloakedMemory = started_memory b.kernel over.keys over.stream in
    let placed = subst (HasOwed start.ledger.owed) over.placed (programs_owed 0 b.programs start) in
    ap (λ (l : List (Option PageId)). slice_index_or l f None) (keeps.memory.owed ∙ placed)
    ∙ started_owes b.kernel over.keys over.stream f

-- no program has ended
abbrev IsStarted : Joint → Type 0
IsStarted j = AreEmpty j.domains × AreListed j.domains (replicate 4 None)

-- what has ended of a machine as a run begins: nothing
abbrev AtStart : Joint → Type 0
AtStart j = (j.ended ≡ replicate 4 None) × (j.refused ≡ 0) × IsStarted j

bare_start : (b : Bundle) (m : CloakedMemory) → AtStart (started_joint b m)
unfolding started_joint
bare_start b m = (refl, refl, (started_empty 0 b.programs, started_listed b.programs))

-- files leave it so
kept_start : (j j' : Joint) → KeepsMachine j j' → AtStart j → AtStart j'
kept_start j j' keeps start = (
  keeps.ended ∙ start.0,
  keeps.refused ∙ start.1,
  (
    λ d domain there over slot.
        let was = was_there j j' d domain keeps there in
        ap (λ (contexts : List (Option Context)). context_at contexts slot) was.keeps.contexts
        ∙ start.2.0 d was.domain was.there (sym was.keeps.ended ∙ over) slot,
    λ d domain low there.
        let was = was_there j j' d domain keeps there in
        was.keeps.ended ∙ start.2.1 d was.domain low was.there,
  ),
)

pub opened_start : (b : Bundle) (from : Beginning) (o : RunEdge) → opening_from b from ≡ Ok o → AtStart o.joint
opened_start b from o opens =
    let over = opens_over b from o opens in
    kept_start (started_joint b over.memory) o.joint
    (added_keep (files_of from) (started_joint b over.memory) o.joint over.added) (bare_start b over.memory)

pub opened_sound : (b : Bundle) (from : Beginning) (o : RunEdge) → opening_from b from ≡ Ok o → IsSound o.joint
opened_sound b from o opens =
    let start = opened_start b from o opens in
    record {
      places = ap (λ (l : List (Option Violation)). length l) start.0;
      listed = subst (AreListed o.joint.domains) (sym start.0) start.2.1;
      kept = record {
        places = (is_opened b from o opens).steady.places;
        once = λ f g q one two.
            let none = opened_owes b from o opens f in
            let clash : None ≡ Some q = sym none ∙ one in absurd cc;
      };
      empty = start.2.0;
    }
