use Rattle.std.proofs.Common.{ℕ, List, ◌∷◌, ◌++◌, ap}
use Rattle.std.specs.List.{flat_map}
use Rattle.cloak_model.specs.Bits.{word}
use Rattle.cloak_model.specs.DomainState.{hart_byte, phase_bytes}
use Rattle.domain_page.specs.Writing.{Appends}
use Rattle.domain_page.proofs.Written.{then, renamed, take-rest}
use Rattle.domain_page.proofs.writing.put_context.Goals as goal

pub returns-clause-written : goal.returns-clause-written
returns-clause-written c =
    let phase : Appends c.put-hart.new.into c.put_phase-phase.new.into c.put-hart.result c.put_phase-phase.result (phase_bytes c.c.inside.phase) = c.put_phase-phase.ensures.written in
    rw (← c.c.view_is)
    (renamed (then c.put-hart.ensures (then phase (then c.put_words-place.ensures.written c.put_words.ensures.written)))
    (rw (c.hart_byte.ensures, c.words.ensures.value)
    (ap (λ (rest : List ℕ). 1 ∷ (hart_byte c.c.inside.on ∷ (phase_bytes c.c.inside.phase ++ (word c.c.inside.space ++ (word c.c.inside.pc ++ flat_map word rest)))))
    (take-rest c.c.inside.regs 31 c.words.ensures.count))))
