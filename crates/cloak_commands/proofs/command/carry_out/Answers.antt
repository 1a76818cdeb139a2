use Rattle.std.proofs.Common.{◌≡◌, ◌∙◌, List, ap, refl, sym, inl, map, string_bytes}
use Rattle.command_words.specs.Command as spec
use Rattle.command_words.specs.Request.{asked_of}
use Rattle.command_parts.specs.declared.refusal.Refusal.TheVariants as refusal
use Rattle.command_parts.proofs.Refused.{only_refuses}
use Rattle.cloak_commands.proofs.Asked.{answers_asked, keeps_same, wants_memory}
use Rattle.cloak_commands.proofs.command.carry_out.Goals as goal

pub returns-in-Err-clause-answers : goal.returns-in-Err-clause-answers
returns-in-Err-clause-answers g c = wants_memory _ _ _ _ refl c.requires.output c.refuse.ensures

pub returns-in-Err-clause-kept : goal.returns-in-Err-clause-kept
returns-in-Err-clause-kept g c = keeps_same _ _ _

pub returns-in-Faulty-clause-answers : goal.returns-in-Faulty-clause-answers
returns-in-Faulty-clause-answers g c =
    let is : spec.Faulty c.in-Faulty.fault ≡ spec.words_of (map string_bytes c.args.words.now.items) =
    ap (λ r. asked_of r) (sym c.in-Faulty.is) ∙ (c.in-Ok.ensures.asked
    ∙ ap (λ (ws : List _). spec.words_of (map string_bytes ws)) c.as_slice.ensures.value) in
    answers_asked (spec.Faulty c.in-Faulty.fault) _ _ _ _ is
    (only_refuses {asked = spec.Faulty c.in-Faulty.fault} {r = refusal.Usage c.in-Faulty.fault}
    (record { cause = inl (record { faulty = refl; untouched = refl }); held = λ name. refl; writing = refl })
    c.requires.output c.refuse-in-Faulty.ensures)
