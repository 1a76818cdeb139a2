-- Frames that are settled one after another, over plain variables.
use Rattle.std.proofs.Common.{◌≡◌, ◌<◌, ◌+◌, ℕ, zero, suc, List, length, Option, None, refl, ap, sym, ◌∙◌, subst, arith, add-one, inl, inr}
use Rattle.cloak_base.specs.declared.names.SpaceId.{SpaceId}
use Rattle.cloak_model.specs.Hart.{Hart}
use Rattle.cloak_model.specs.Cloaking.{CloakedMemory, settle}
use Rattle.cloak_model.specs.Exchange.{Piece}
use Rattle.cloak_model.specs.Joint.{cloak_outside, hart_in}
use Rattle.cloak_model.specs.Parts as model
use Rattle.cloak_model.specs.Run.{closing, settled_below}
use Rattle.cloak_model.specs.World.{MidStep, cipher_items, settled_in}
use Rattle.script_fold.proofs.Rooted.{settle_root}
use Rattle.thread_context.specs.Recorded.{root_at}
use Rattle.cloak_pager.specs.State.{PagerState, page_of, held_in}
use Rattle.cloak_pager.specs.Turns.{StaysBut}
use Rattle.cloak_pager.proofs.Pages.{same_or_not}
use Rattle.cloaked_side.specs.Holding.{Holds, Settles}
use Rattle.cloaked_side.specs.declared.memory.Memory.{Memory}
use Rattle.cloak_model.proofs.Emitting.{emits_none, emits_items}
use Rattle.joint_machine.specs.declared.joint.Joint.{Joint}
use Rattle.joint_machine.specs.Closing.{SettlesFrames}
use Rattle.joint_machine.specs.Standing.{AreDomains, ShowsAs, StandsForJoint}

-- What is held.

pub outside_next : (old new : PagerState) (i : ℕ) → ((k : ℕ) → k < i → held_in old k ≡ None) → StaysBut i old new →
    held_in new i ≡ None → (k : ℕ) → k < i + 1 → held_in new k ≡ None
outside_next old new i before stays here k below = elim (same_or_not k i) [
  | inl same ↦ subst (λ (n : ℕ). held_in new n ≡ None) (sym same) here
  | inr other ↦ ap page_of (stays.rights k other) ∙ before k (omega (arith, below, other))
]

-- What is settled.

pub settles_none : {E : Type 0} (gave : E → E → List Piece → Type 0) (e : E) (memory : Memory) (m : CloakedMemory)
    (h : Hart) → Holds memory m → SettlesFrames gave e e memory (settled_below 0 (cloak_outside m h))
unfolding settled_below
settles_none gave e memory m h holds = record { holds = holds; emits = emits_none gave e }

settles_next : {E : Type 0} (gave : E → E → List Piece → Type 0) (e f g : E) (old new : Memory) (i : ℕ) (c : MidStep) →
    SettlesFrames gave e f old c →
    ((m : CloakedMemory) → Holds old m → Settles gave f g new (settle i m)) → SettlesFrames gave e g new (settled_in i c)
settles_next gave e f g old new i c so_far settles =
    let s = settles c.memory so_far.holds in
    record {
      holds = s.holds;
      emits = emits_items c.items (cipher_items (settle i c.memory).ciphers) so_far.emits s.emits;
    }

pub settles_more : {E : Type 0} (gave : E → E → List Piece → Type 0) (e f g : E) (old new : Memory) (i : ℕ) (c : MidStep) →
    SettlesFrames gave e f old (settled_below i c) →
    ((m : CloakedMemory) → Holds old m → Settles gave f g new (settle i m)) →
    SettlesFrames gave e g new (settled_below (i + 1) c)
unfolding settled_below
settles_more gave e f g old new i c so_far settles =
    subst (λ (n : ℕ). SettlesFrames gave e g new (settled_below n c)) (sym (add-one i))
    (settles_next gave e f g old new i (settled_below i c) so_far settles)

-- The page tables that are recorded stay.

below_roots : (n : ℕ) (c : MidStep) (s : SpaceId) → (settled_below n c).memory.ledger.root s ≡ c.memory.ledger.root s
unfolding settled_below
below_roots zero c s = refl
below_roots (suc n) c s =
    ap (λ (root : SpaceId → Option ℕ). root s) (settle_root n (settled_below n c).memory) ∙ below_roots n c s

-- The closing.

-- a machine whose memory alone changed, and in which all frames are settled
pub closes_as : {E : Type 0} (gave : E → E → List Piece → Type 0) (e e' : E) (old new : Joint) (j : model.Joint) (n : ℕ) →
    StandsForJoint old j → n ≡ length j.memory.ram → new.harts ≡ old.harts → new.disk ≡ old.disk →
    new.domains ≡ old.domains → new.roots ≡ old.roots → new.ended ≡ old.ended → new.refused ≡ old.refused →
    SettlesFrames gave e e' new.memory (settled_below n (cloak_outside j.memory (hart_in j 0))) →
    ShowsAs gave e e' new (closing j)
unfolding closing
closes_as gave e e' old new j n stands count harts disk domains roots ended refused settles =
    let all = subst (λ k. SettlesFrames gave e e' new.memory (settled_below k (cloak_outside j.memory (hart_in j 0)))) count settles in
    record {
      emits = all.emits;
      stands = record {
        harts = ap (λ (x : _). x.items) harts ∙ stands.harts;
        disk = disk ∙ stands.disk;
        memory = all.holds;
        domains = subst (λ (x : _). AreDomains x.items j.domains) (sym domains) stands.domains;
        roots = λ s.
            ap (λ (x : _). root_at x s) roots
            ∙ (stands.roots s ∙ sym (below_roots (length j.memory.ram) (cloak_outside j.memory (hart_in j 0)) s));
        ended = ended ∙ stands.ended;
        refused = refused ∙ stands.refused;
      };
    }
