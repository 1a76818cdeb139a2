-- The closing of a run keeps the keys and the disk, and the cause tells whether a draw was missing.
use Rattle.std.proofs.Common.{◌≡◌, ◌≢◌, ◌∙◌, ℕ, zero, suc, Bool, true, false, if◌then◌else◌, List, length, Option, Some, None, refl}
use Rattle.cloak_base.specs.Random.{Random}
use Rattle.cloak_base.specs.declared.causes.Stop.{Stop}
use Rattle.cloak_base.specs.declared.causes.Stop.TheVariants as stop
use Rattle.cloak_base.specs.declared.names.PageId.{PageId}
use Rattle.cloak_model.specs.Cloaking.{CloakedMemory, settle, settle_owed}
use Rattle.cloak_model.specs.Joint.{cloak_outside, hart_in}
use Rattle.cloak_model.specs.Ledger.{next_vector}
use Rattle.cloak_model.specs.Parts.{Joint}
use Rattle.cloak_model.proofs.Offering.{settle_keeps}
use Rattle.cloak_model.specs.Run.{closing, settled_below}
use Rattle.cloak_model.specs.World.{MidStep}

owed_keys : (f : ℕ) (q : PageId) (draw : Option (List ℕ × Random)) (m : CloakedMemory) →
    (settle_owed f q draw m).memory.ledger.keys ≡ m.ledger.keys
unfolding settle_owed
owed_keys f q None m = refl
owed_keys f q (Some draw) m = refl

settle_keys : (f : ℕ) (m : CloakedMemory) → (settle f m).memory.ledger.keys ≡ m.ledger.keys
settle_keys f m =
    settle_keeps (λ x. x.ledger.keys ≡ m.ledger.keys)
    (λ g q x is same. owed_keys g q (next_vector x.ledger) x ∙ same) f m refl

below_keys : (n : ℕ) (c : MidStep) → (settled_below n c).memory.ledger.keys ≡ c.memory.ledger.keys
unfolding settled_below
below_keys zero c = refl
below_keys (suc n) c = settle_keys n (settled_below n c).memory ∙ below_keys n c

pub closing_keys : (j : Joint) → (closing j).joint.memory.ledger.keys ≡ j.memory.ledger.keys
unfolding closing
closing_keys j = below_keys (length j.memory.ram) (cloak_outside j.memory (hart_in j 0))

pub closing_disk : (j : Joint) → (closing j).joint.disk ≡ j.disk
unfolding closing
closing_disk j = refl

-- if the cause is not that a draw was missing, none was
pub not_missed : (missed : Bool) (given : Stop) → (if missed then stop.NoRandom else given) ≢ stop.NoRandom → missed ≡ false
not_missed false given other = refl
not_missed true given other = absurd (other refl)
