-- Steps after steps: their pieces, and what they end with.
use Rattle.std.proofs.Common.{◌≡◌, ◌∙◌, ℕ, suc, ◌+◌, List, [], ◌∷◌, ◌++◌, length, append_assoc, Option, refl, sym, ap, arith}
use Rattle.cloak_base.specs.declared.causes.Stop.{Stop}
use Rattle.cloak_model.specs.Exchange.{Piece}
use Rattle.cloak_model.specs.Joint.{Turn, stop_of}
use Rattle.cloak_model.specs.Parts.{Joint}
use Rattle.cloak_model.specs.Run.{joint_after, last_stop, turn_pieces, turns_pieces}

pub turns_pieces-append : (number : ℕ) (ts us : List Turn) →
    turns_pieces number (ts ++ us) ≡ turns_pieces number ts ++ turns_pieces (number + length ts) us
unfolding turns_pieces
turns_pieces-append number [] us = ap (λ n. turns_pieces n us) (let e : number ≡ number + 0 = omega arith in e)
turns_pieces-append number (t ∷ ts) us =
    ap (λ (ps : List Piece). turn_pieces number t ++ ps)
    (turns_pieces-append (suc number) ts us ∙ ap (λ n. turns_pieces (suc number) ts ++ turns_pieces n us)
    (let e : suc number + length ts ≡ number + suc (length ts) = omega arith in e))
    ∙ sym (append_assoc (turn_pieces number t) (turns_pieces (suc number) ts)
    (turns_pieces (number + suc (length ts)) us))

pub joint_after-append : (j : Joint) (ts us : List Turn) → joint_after j (ts ++ us) ≡ joint_after (joint_after j ts) us
unfolding joint_after
joint_after-append j [] us = refl
joint_after-append j (t ∷ ts) us = joint_after-append t.joint ts us

pub last_stop-append : (so_far : Option Stop) (ts us : List Turn) →
    last_stop so_far (ts ++ us) ≡ last_stop (last_stop so_far ts) us
unfolding last_stop
last_stop-append so_far [] us = refl
last_stop-append so_far (t ∷ ts) us = last_stop-append (stop_of t) ts us
