-- Harts and contexts hold words, at every moment of a run.
use Rattle.std.proofs.Common.{◌≡◌, Option, Some, None, Ok}
use Rattle.cloak_model.specs.declared.image.Bundle.{Bundle}
use Rattle.cloak_model.specs.Beginning.{Beginning, opening_from}
use Rattle.cloak_model.specs.Bundle.{IsInGrammar}
use Rattle.cloak_model.specs.Contexts.{Context}
use Rattle.cloak_model.specs.DomainState.{Domain}
use Rattle.cloak_model.specs.Hart.{Hart}
use Rattle.cloak_model.specs.Opening.{RunEdge}
use Rattle.cloak_model.specs.Parts.{Joint}
use Rattle.range_law.specs.Writing.{IsOfBytes, IsBeginningOfBytes}
use Rattle.range_law.proofs.Controls.{SlotFits}
use Rattle.range_law.proofs.Harts.{HartFits}
use Rattle.range_law.proofs.Opened.{opened_fits}
use Rattle.range_law.proofs.Turns.{ProgramFits, JointFits, turn_fits}
use Rattle.frozen_state.specs.Words.{HasSlotWords}
use Rattle.limit_law.proofs.Moments.{at_every_moment}
use Rattle.limit_law.specs.Words.{HasHartWords, HasProgramWords, HasWords, RunsHaveWords}
use Rattle.cloak_base.proofs.Lists.{each_weaker}

slot_words : (o : Option Context) → SlotFits o → HasSlotWords o
slot_words None fits = tt
slot_words (Some c) fits = record { regs = fits.regs; pc = fits.pc }

program_words : (d : Domain) → ProgramFits d → HasProgramWords d
program_words d fits = record {
  number = fits.number;
  contexts = each_weaker SlotFits HasSlotWords d.control.contexts slot_words fits.slots.each;
}

hart_words : (h : Hart) → HartFits h → HasHartWords h
hart_words h fits = record { regs = fits.regs; csrs = fits.csrs; pc = fits.pc; inside = fits.inside }

words : (j : Joint) → JointFits j → HasWords j
words j fits = record {
  harts = each_weaker HartFits HasHartWords j.harts hart_words fits.harts;
  programs = each_weaker ProgramFits HasProgramWords j.domains program_words fits.programs;
}

pub opened_words : (b : Bundle) (from : Beginning) → IsInGrammar b → IsOfBytes b → IsBeginningOfBytes b from →
    (o : RunEdge) → opening_from b from ≡ Ok o → JointFits o.joint
opened_words b from grammar bytes all o opens = (opened_fits b from o grammar bytes all opens).joint

pub runs_have_words : RunsHaveWords
runs_have_words b from budget r grammar bytes all is n =
    words _
    (at_every_moment JointFits b from budget r (opened_words b from grammar bytes all)
    (λ m same fits. (turn_fits m fits).joint) is n)
