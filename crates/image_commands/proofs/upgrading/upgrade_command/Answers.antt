use Rattle.std.proofs.Common.{◌∙◌, refl}
use Rattle.command_parts.proofs.Refused.{no_bundle, unread}
use Rattle.image_commands.proofs.Upgraded.{not_made, upgrade_refuses, upgrades}
use Rattle.image_commands.proofs.upgrading.upgrade_command.Goals as goal

pub returns-in-Err-clause-answers : goal.returns-in-Err-clause-answers
returns-in-Err-clause-answers g c =
    let e = c.in-Err.ensures in
    upgrade_refuses (unread c.in-Err.refusal _ _ _ e.bundle)
    (no_bundle c.in-Err.refusal _ _ refl e.bundle e.unread c.requires.reading e.files e.writing) c.requires.output c.refuse.ensures

pub returns-in-Ok-version_2_bytes-clause-answers : goal.returns-in-Ok-version_2_bytes-clause-answers
returns-in-Ok-version_2_bytes-clause-answers g c =
    let e = c.in-Ok.ensures in
    let made = c.in-Ok-version_2_bytes.ensures in
    upgrades _ _ _ _ _ c.in-Ok.bundle e.bundle.1 made.1 e.files e.bundle.0 e.writing _
    (c.write_upgraded.ensures.answers c.in-Ok.bundle (c.as_slice.ensures.value ∙ made.0))

pub returns-clause-answers : goal.returns-clause-answers
returns-clause-answers g c =
    let e = c.in-Ok.ensures in
    not_made _ _ c.in-Ok.bundle c.in-Err-version_2_bytes.refusal c.in-Err-version_2_bytes.ensures e.bundle.1
    (record { held = e.files; reading = e.bundle.0; writing = e.writing }) c.requires.output
    c.refuse-in-Err-version_2_bytes.ensures

pub returns-in-Err-clause-kept : goal.returns-in-Err-clause-kept
returns-in-Err-clause-kept g c = λ other apart. c.in-Err.ensures.files other

pub returns-in-Ok-version_2_bytes-clause-kept : goal.returns-in-Ok-version_2_bytes-clause-kept
returns-in-Ok-version_2_bytes-clause-kept g c =
    λ other apart. c.write_upgraded.ensures.others other apart ∙ c.in-Ok.ensures.files other

pub returns-clause-kept : goal.returns-clause-kept
returns-clause-kept g c = λ other apart. c.in-Ok.ensures.files other
