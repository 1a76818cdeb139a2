-- Of the causes of what `gen` and `demo` return, those of faults do not occur if no count rose.
use Rattle.std.proofs.Common.{◌⊎◌, ℕ, refl, ap, inl, inr}
use Rattle.command_parts.specs.declared.status.Status.{Status}
use Rattle.command_parts.specs.declared.status.Status.TheVariants as status
use Rattle.command_parts.specs.Outside.{FilesOutside, Output}
use Rattle.image_commands.specs.Demonstrating.{HasDemonstrated}
use Rattle.completeness.specs.Images.{DemosAreComplete, Demonstrated, GensAreComplete, LacksMemory}
use Rattle.completeness.proofs.Faults.{never_rose}

pub gens_are_complete : (S O : Type 0) → GensAreComplete S O
gens_are_complete S O n name status.Done before after given nothing = inr (record { status = refl; has = given })
gens_are_complete S O n name status.WriteFault before after (inl given) nothing =
    absurd (never_rose _ _ nothing.writing given.file.writing)
gens_are_complete S O n name status.WriteFault before after (inr (inl given)) nothing =
    absurd (never_rose _ _ nothing.faults given.line_cut.faults)
gens_are_complete S O n name status.WriteFault before after (inr (inr given)) nothing =
    absurd (never_rose _ _ nothing.faults given.line.faults)
gens_are_complete S O n name status.NoMemory before after given nothing = inl (record {
  status = refl;
  line = record {
    held = λ file. ap (λ (f : FilesOutside S). f.held file) given.untouched;
    shown = given.line.text_shown;
  };
})
gens_are_complete S O n name status.Violation before after given nothing = absurd given
gens_are_complete S O n name status.Usage before after given nothing = absurd given
gens_are_complete S O n name status.BadBundle before after given nothing = absurd given
gens_are_complete S O n name status.ReadFault before after given nothing = absurd given
gens_are_complete S O n name status.NoRandom before after given nothing = absurd given
gens_are_complete S O n name status.BadRecord before after given nothing = absurd given
gens_are_complete S O n name status.BadStore before after given nothing = absurd given
gens_are_complete S O n name status.Frozen before after given nothing = absurd given
gens_are_complete S O n name status.BadState before after given nothing = absurd given

demonstrated : {O : Type 0} (n steps : ℕ) (answer : Status) (before after : Output O) →
    HasDemonstrated n steps answer before after → LacksMemory answer before after ⊎ Demonstrated n steps answer before after
demonstrated {O} n steps answer before after has = inr (record {
  made = has.made;
  is_run = has.is_run;
  status = has.status;
  lines = has.lines;
})

pub demos_are_complete : (O : Type 0) → DemosAreComplete O
demos_are_complete O n steps status.Done before after given same = demonstrated n steps status.Done before after given
demos_are_complete O n steps status.Violation before after given same =
    demonstrated n steps status.Violation before after given
demos_are_complete O n steps status.NoRandom before after given same =
    demonstrated n steps status.NoRandom before after given
demos_are_complete O n steps status.WriteFault before after (inl given) same = absurd (never_rose _ _ same given.faults)
demos_are_complete O n steps status.WriteFault before after (inr given) same = absurd (never_rose _ _ same given.faults)
demos_are_complete O n steps status.NoMemory before after given same =
    inl (record { status = refl; line = given.text_shown })
demos_are_complete O n steps status.Usage before after given same = absurd given
demos_are_complete O n steps status.BadBundle before after given same = absurd given
demos_are_complete O n steps status.ReadFault before after given same = absurd given
demos_are_complete O n steps status.BadRecord before after given same = absurd given
demos_are_complete O n steps status.BadStore before after given same = absurd given
demos_are_complete O n steps status.Frozen before after given same = absurd given
demos_are_complete O n steps status.BadState before after given same = absurd given
