-- What a closing shows under a blind seal.
use Rattle.std.proofs.Common.{◌≡◌, ◌∙◌, ℕ, zero, suc, [], ◌∷◌, refl, sym, ap, subst, length}
use Rattle.std.specs.Prelude.{◌++◌}
use Rattle.cloak_model.specs.Events.{Touch}
use Rattle.cloak_model.specs.Cloaking.{AfterSettling}
use Rattle.cloak_model.specs.World.{MidStep, cipher_items, settled_in}
use Rattle.cloak_model.specs.Parts.{Joint}
use Rattle.cloak_model.specs.Joint.{cloak_outside, hart_in}
use Rattle.cloak_model.specs.Opening.{RunEdge}
use Rattle.cloak_model.specs.Run.{settled_below, closing}
use Rattle.cloak_model.specs.Veil.{veiled, IsBlind}
use Rattle.cloak_model.specs.VeilWorld.{veiled_step}
use Rattle.cloak_model.specs.BlindRuns.{veiled_joint, veiled_edge, seal_in, BlindClosingsAgree}
use Rattle.cloak_model.proofs.Veils.{settle_veils}
use Rattle.cloak_model.proofs.VeilWorlds.{settle_seal}

in_veils : (f : ℕ) (c : MidStep) → IsBlind c.memory.ledger.keys.seal → veiled_step (settled_in f (veiled_step c)) ≡ veiled_step (settled_in f c)
in_veils f c blind =
    ap (λ (s : AfterSettling). veiled_step (record c {
      memory = s.memory;
      items = c.items ++ cipher_items s.ciphers;
      events = c.events ++ Touch f ∷ [];
    })) (settle_veils f c.memory blind)

below_seal : (n : ℕ) (c : MidStep) → (settled_below n c).memory.ledger.keys.seal ≡ c.memory.ledger.keys.seal
unfolding settled_below
below_seal zero c = refl
below_seal (suc n) c = settle_seal n (settled_below n c).memory ∙ below_seal n c

below_veils : (n : ℕ) (c : MidStep) → IsBlind c.memory.ledger.keys.seal → veiled_step (settled_below n (veiled_step c)) ≡ veiled_step (settled_below n c)
unfolding settled_below
below_veils zero c blind = refl
below_veils (suc n) c blind =
    let x : MidStep = settled_below n c in
    let x' : MidStep = settled_below n (veiled_step c) in
    sym (in_veils n x' (subst IsBlind (sym (below_seal n (veiled_step c))) blind))
    ∙ (ap (λ (y : MidStep). veiled_step (settled_in n y)) (below_veils n c blind)
    ∙ in_veils n x (subst IsBlind (sym (below_seal n c)) blind))

-- what a closing comes to, told of the veiled machine
abbrev closed_by : Joint → RunEdge
closed_by j =
    let c = settled_below (length j.memory.ram) (cloak_outside j.memory (hart_in j 0)) in
    record { joint = record j { memory = veiled c.memory }; items = c.items }

closing_is : (j : Joint) → IsBlind (seal_in j) → veiled_edge (closing j) ≡ closed_by (veiled_joint j)
unfolding closing
closing_is j blind =
    sym (ap (λ (c : MidStep). let e : RunEdge = record { joint = record (veiled_joint j) { memory = c.memory }; items = c.items } in e)
    (below_veils (length j.memory.ram) (cloak_outside j.memory (hart_in j 0)) blind))

pub blind_closings_agree : BlindClosingsAgree
blind_closings_agree j j' e blind =
    closing_is j blind
    ∙ (ap closed_by e ∙ sym (closing_is j' (subst IsBlind (ap (λ (x : Joint). seal_in x) e) blind)))
