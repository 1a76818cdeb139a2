-- What follows the step of a program.
use Rattle.std.proofs.Common.{◌≡◌, ◌∙◌, ◌⊎◌, inl, inr, ℕ, Bool, true, false, List, [], ◌∷◌, Option, Some, None, refl, sym, subst, if◌then◌else◌}
use Rattle.std.proofs.lemmas.List.{append-nil}
use Rattle.cloak_base.specs.declared.names.SpaceId.{SpaceId}
use Rattle.cloak_base.specs.declared.causes.Shown.{Shown}
use Rattle.cloak_base.specs.declared.causes.Violation.{Violation}
use Rattle.cloak_model.specs.Items as item
use Rattle.cloak_model.specs.declared.inside.Went.{Went}
use Rattle.cloak_model.specs.declared.inside.Went.TheVariants as went
use Rattle.cloak_model.specs.Cloaking.{CloakedMemory}
use Rattle.cloak_model.specs.Contexts.{forget_root, same_space}
use Rattle.cloak_model.specs.Exchange.{Piece, Emits, item_pieces}
use Rattle.cloak_model.specs.Hart.{Hart}
use Rattle.cloak_model.specs.Joint.{domain_ended, without_root}
use Rattle.cloak_model.specs.Leaving.{leave}
use Rattle.cloak_model.specs.Parts as model
use Rattle.cloak_model.proofs.ResumeParts.{with_roots}
use Rattle.cloak_model.specs.World.{World, items_of, violation_of}
use Rattle.cloak_base.specs.declared.names.PageId.{PageId}
use Rattle.cloak_base.specs.declared.names.Meta.{Meta}
use Rattle.cloak_pager.specs.State.{PagerState}
use Rattle.cloak_pager.specs.Relation.{FrameStands, PageStands}
use Rattle.cloak_pager.specs.declared.frame_right.FrameRight.{FrameRight}
use Rattle.cloak_pager.specs.declared.frame_right.FrameRight.TheVariants.{Outside, Clean, Changed, Spent}
use Rattle.cloaked_side.specs.Holding.{Holds}
use Rattle.cloaked_side.specs.declared.memory.Memory.{Memory}
use Rattle.cloak_model.proofs.Emitting.{emits_none}
use Rattle.thread_context.specs.Recorded.{root_at}
use Rattle.joint_machine.specs.Turning.{AreRoots, IsCarriedOut, Unmarks}

frame_rooted : (p : PagerState) (wiped : PageId → Bool) (m : CloakedMemory) (root : SpaceId → Option ℕ) (f : ℕ) (r : FrameRight) → FrameStands p wiped m f r → FrameStands p wiped (with_roots root m) f r
frame_rooted p wiped m root f (Outside r) stands = stands
frame_rooted p wiped m root f (Clean r) stands = record { newest = stands.newest; shown = stands.shown; long = stands.long; sealed = stands.sealed }
frame_rooted p wiped m root f (Changed r) stands = stands
frame_rooted p wiped m root f Spent stands = stands

page_rooted : (lost : Bool) (m : CloakedMemory) (root : SpaceId → Option ℕ) (q : PageId) (t : Option Meta) → PageStands lost m q t → PageStands lost (with_roots root m) q t
page_rooted lost m root q None stands = stands
page_rooted lost m root q (Some t) stands = record { bytes = stands.bytes; is = stands.is; digest = stands.digest; sealed = stands.sealed }

-- a memory stands for the same whatever page tables are recorded
pub holds_rooted : (memory : Memory) (m : CloakedMemory) (root : SpaceId → Option ℕ) → Holds memory m → Holds memory (with_roots root m)
holds_rooted memory m root h = record {
  wiped = h.wiped;
  pager = record {
    whole = h.pager.whole;
    keys = h.pager.keys;
    chained = h.pager.chained;
    count = h.pager.count;
    frames = λ f inside. frame_rooted memory.pager h.wiped m root f _ (h.pager.frames f inside);
    owed = h.pager.owed;
    pages = λ q. page_rooted (h.wiped q) m root q _ (h.pager.pages q);
    vectors = h.pager.vectors;
    plain = h.pager.plain;
    drained = h.pager.drained;
  };
  whole = h.whole;
  stream = h.stream;
  draws = h.draws;
  missed = h.missed;
  agrees = h.agrees;
  room = h.room;
  marks = h.marks;
}

module _ {E : Type 0} (gave : E → E → List Piece → Type 0) (e : E) (h : Hart) (d : ℕ) (roots : List (List (Option ℕ))) (memory : Memory) (given : Option Violation) (j : model.Joint) (number : ℕ) (w : World) (ended : Went) where
  pub goes_stay : ended ≡ went.Stay → given ≡ None → AreRoots roots j.memory.ledger.root → IsCarriedOut gave e e h roots memory memory given j number (items_of w) (domain_ended j number h d w ended)
  unfolding domain_ended
  goes_stay is none same = subst (λ (x : Went). IsCarriedOut gave e e h roots memory memory given j number (items_of w) (domain_ended j number h d w x)) (sym is) (record {
    more = [];
    items_are = sym (append-nil (items_of w));
    emits = emits_none gave e;
    violation = none;
    console = refl;
    halt = refl;
    harts = refl;
    domains = refl;
    disk = refl;
    ends = record { ended = refl; refused = refl };
    roots_are = same;
    holds = λ holds. holds;
  })

  pub goes_remapped : (space : ℕ) → ended ≡ went.Remapped space → given ≡ None → AreRoots roots j.memory.ledger.root → IsCarriedOut gave e e h roots memory memory given j number (items_of w) (domain_ended j number h d w ended)
  unfolding domain_ended
  goes_remapped space is none same = subst (λ (x : Went). IsCarriedOut gave e e h roots memory memory given j number (items_of w) (domain_ended j number h d w x)) (sym is) (record {
    more = [];
    items_are = sym (append-nil (items_of w));
    emits = emits_none gave e;
    violation = none;
    console = refl;
    halt = refl;
    harts = refl;
    domains = refl;
    disk = refl;
    ends = record { ended = refl; refused = refl };
    roots_are = same;
    holds = λ holds. holds;
  })

  pub goes_inside : ((ended ≡ went.Stay) ⊎ ((space : ℕ) × (ended ≡ went.Remapped space))) → given ≡ None → AreRoots roots j.memory.ledger.root → IsCarriedOut gave e e h roots memory memory given j number (items_of w) (domain_ended j number h d w ended)
  goes_inside is none same = elim is [
    | inl stay ↦ goes_stay stay none same
    | inr remapped ↦ goes_remapped remapped.0 remapped.1 none same
  ]

  pub goes_stopped : ended ≡ went.Stopped → given ≡ violation_of w → AreRoots roots j.memory.ledger.root → IsCarriedOut gave e e h roots memory memory given j number (items_of w) (domain_ended j number h d w ended)
  unfolding domain_ended
  goes_stopped is met same = subst (λ (x : Went). IsCarriedOut gave e e h roots memory memory given j number (items_of w) (domain_ended j number h d w x)) (sym is) (record {
    more = [];
    items_are = sym (append-nil (items_of w));
    emits = emits_none gave e;
    violation = met;
    console = refl;
    halt = refl;
    harts = refl;
    domains = refl;
    disk = refl;
    ends = record { ended = refl; refused = refl };
    roots_are = same;
    holds = λ holds. holds;
  })

  pub goes_out : (s : Shown) (e' : E) (h' : Hart) (memory' : Memory) → Unmarks number memory memory' → ended ≡ went.Leave s → given ≡ None → AreRoots roots j.memory.ledger.root → h' ≡ leave h s → Emits gave e e' (item_pieces (item.Leave s ∷ [])) →
      IsCarriedOut gave e e' h' roots memory memory' given j number (items_of w) (domain_ended j number h d w ended)
  unfolding domain_ended
  goes_out s e' h' memory' unmarks is none same left emits = subst (λ (x : Went). IsCarriedOut gave e e' h' roots memory memory' given j number (items_of w) (domain_ended j number h d w x)) (sym is) (subst (λ (y : Hart). IsCarriedOut gave e e' y roots memory memory' given j number (items_of w) (domain_ended j number h d w (went.Leave s))) (sym left) (record {
    more = item.Leave s ∷ [];
    items_are = refl;
    emits = emits;
    violation = none;
    console = refl;
    halt = refl;
    harts = refl;
    domains = refl;
    disk = refl;
    ends = record { ended = refl; refused = refl };
    roots_are = same;
    holds = unmarks.holds j.memory;
  }))

  pub goes_away : (space : ℕ) (s : Shown) (e' : E) (h' : Hart) (memory' : Memory) → Unmarks number memory memory' → ended ≡ went.SpaceGone space s → given ≡ None → AreRoots roots (forget_root (record { domain = d; number = space }) j.memory.ledger.root) → h' ≡ leave h s → Emits gave e e' (item_pieces (item.Leave s ∷ [])) →
      IsCarriedOut gave e e' h' roots memory memory' given j number (items_of w) (domain_ended j number h d w ended)
  unfolding domain_ended
  goes_away space s e' h' memory' unmarks is none gone left emits = subst (λ (x : Went). IsCarriedOut gave e e' h' roots memory memory' given j number (items_of w) (domain_ended j number h d w x)) (sym is) (subst (λ (y : Hart). IsCarriedOut gave e e' y roots memory memory' given j number (items_of w) (domain_ended j number h d w (went.SpaceGone space s))) (sym left) (record {
    more = item.Leave s ∷ [];
    items_are = refl;
    emits = emits;
    violation = none;
    console = refl;
    halt = refl;
    harts = refl;
    domains = refl;
    disk = refl;
    ends = record { ended = refl; refused = refl };
    roots_are = gone;
    holds = λ holds. unmarks.holds (without_root (record { domain = d; number = space }) j.memory)
        (holds_rooted memory j.memory (forget_root (record { domain = d; number = space }) j.memory.ledger.root) holds);
  }))

-- the page tables without that of a space are those of which it is forgotten
pub roots_forgotten : (roots roots' : List (List (Option ℕ))) (s : SpaceId) (root : SpaceId → Option ℕ) → AreRoots roots root → AreRoots roots' (forget_root s (λ t. root_at roots t)) → AreRoots roots' (forget_root s root)
roots_forgotten roots roots' s root are gone = λ t. gone t ∙ either (same_space t s) t
  where
    either : (b : Bool) (t : SpaceId) → (if b then None else root_at roots t) ≡ (if b then None else root t)
    either true t = refl
    either false t = are t
