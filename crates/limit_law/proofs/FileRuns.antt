-- The numbers of files are words: over each step of the joint machine, and in a run.
use Rattle.std.proofs.Common.{◌≡◌, ℕ, zero, suc, ◌+◌, List, [], ◌∷◌, length, slice_get, Option, Some, None, IfSome, Ok, sym, subst}
use Rattle.std.specs.Prelude.{All}
use Rattle.std.specs.List.{AllByRecursion}
use Rattle.std.proofs.lemmas.List.Elements.{All-nil, All-cons, All-head, All-tail}
use Rattle.cloak_model.specs.declared.image.Bundle.{Bundle}
use Rattle.cloak_model.specs.declared.image.Program.{Program}
use Rattle.cloak_model.specs.declared.resource.Resource.{Resource}
use Rattle.cloak_model.specs.Beginning.{Beginning, Fresh, Stored, opening_from}
use Rattle.cloak_model.specs.Bundle.{IsInGrammar}
use Rattle.cloak_model.specs.Cloaking.{CloakedMemory}
use Rattle.cloak_model.specs.DomainState.{Domain, started_control, started_domain}
use Rattle.cloak_model.specs.DomainStep.{interrupt}
use Rattle.cloak_model.specs.Ending.{ended_domain}
use Rattle.cloak_model.specs.Opening.{RunEdge, started_joint, started_domains}
use Rattle.cloak_model.specs.Parts.{Joint}
use Rattle.cloak_model.specs.Record.{IsWord}
use Rattle.cloak_model.specs.Resources.{resource_at, started_resources}
use Rattle.cloak_model.specs.StoredFiles.{FileContents, IsFile, stored_file, table_of}
use Rattle.range_law.specs.Writing.{IsOfBytes, IsBeginningOfBytes}
use Rattle.range_law.proofs.Adding.{all_files_keep}
use Rattle.range_law.proofs.Controls.{slot_fits}
use Rattle.range_law.proofs.Turns.{ProgramFits, JointFits, turn_fits}
use Rattle.kernel_isolation.proofs.FilesAdded.{IsGiven, files_of, opens_over}
use Rattle.resource_map.proofs.Lists.{get_or-replicate_none}
use Rattle.frozen_state.specs.Words.{HasOwnerWord, AreFileWords}
use Rattle.limit_law.specs.Files.{RunsHaveFileWords}
use Rattle.limit_law.proofs.Files.{file_words, step_file_words}
use Rattle.limit_law.proofs.Moments.{IsKept, at_every_moment}
use Rattle.limit_law.proofs.Openings.{given_all}
use Rattle.limit_law.proofs.Programs.{AllOf, KeptInside, step_all}
use Rattle.limit_law.proofs.Runs.{JointKeeps, next_is_low, opened_keep, limits_are_kept}
use Rattle.limit_law.proofs.Turns.{Keeps}
use Rattle.limit_law.proofs.Words.{opened_words}
use Rattle.cloak_model.proofs.ResumeParts.{resume_slot_resources, interrupt_if_resources}

abbrev Words : Domain → Type 0
Words d = AreFileWords d.control.resources

abbrev AllWords : List Domain → Type 0
AllWords domains = AllOf Words domains

-- A step.

-- what is known of a program besides
record IsFit (d : Domain) : Type 0 where
  limits : Keeps d
  words : ProgramFits d

end_words : (d : Domain) → Words (ended_domain d)
unfolding ended_domain
end_words d n =
    subst (λ (o : Option Resource). IfSome o (λ held. HasOwnerWord held.owner)) (sym (get_or-replicate_none 16 n)) tt

words_kept : KeptInside IsFit Words
unfolding interrupt
words_kept = record {
  step = λ slot d w known here. step_file_words slot d w known.limits (slot_fits d.control.contexts slot known.words.slots) here;
  interrupted = λ slot d here. subst AreFileWords (sym (interrupt_if_resources _ slot d.control)) here;
  resumed = λ slot hart reply d low here. subst AreFileWords (sym (resume_slot_resources slot hart reply d.control)) here;
  ended = λ d here. end_words d;
}

fit_at : (domains : List Domain) (d : ℕ) → IfSome (slice_get domains d) Keeps → AllByRecursion ProgramFits domains →
    IfSome (slice_get domains d) IsFit
fit_at [] d keeps all = tt
fit_at (x ∷ domains) zero keeps all = record { limits = keeps; words = all.0 }
fit_at (x ∷ domains) (suc d) keeps all = fit_at domains d keeps all.1

-- The opening: a program begins without files, and the number of each file that is added is a word.

first_words : (pages base n : ℕ) →
    IfSome (resource_at (started_resources pages base) n) (λ (held : Resource). HasOwnerWord held.owner)
unfolding started_resources
first_words pages base zero = tt
first_words pages base (suc n) =
    subst (λ (o : Option Resource). IfSome o (λ held. HasOwnerWord held.owner)) (sym (get_or-replicate_none 15 n)) tt

started_words : (d : ℕ) (p : Program) → Words (started_domain d p.start)
unfolding started_domain started_control
started_words d p = first_words p.start.pages p.start.base

domains_words : (d : ℕ) (programs : List Program) → AllWords (started_domains d programs)
domains_words d [] k = tt
domains_words d (p ∷ programs) zero = started_words d p
domains_words d (p ∷ programs) (suc k) = domains_words (d + 1) programs k

joint_words : (b : Bundle) (m : CloakedMemory) → AllWords (started_joint b m).domains
unfolding started_joint
joint_words b m = domains_words 0 b.programs

abbrev HasWordNumber : FileContents → Type 0
HasWordNumber f = IsWord f.number

given_words : (f : FileContents) (x y : Joint) → HasWordNumber f → IsGiven f x y → AllWords x.domains → AllWords y.domains
given_words f x y number =
    given_all Words f x y (λ d words. file_words f.number (length f.pages) d.control.resources words number)

table_numbers : (files : List FileContents) → All IsFile (table_of files) → All HasWordNumber files
table_numbers [] all = All-nil HasWordNumber
table_numbers (f ∷ files) all =
    All-cons HasWordNumber f files (All-head IsFile (stored_file f) (table_of files) all).number
    (table_numbers files (All-tail IsFile (stored_file f) (table_of files) all))

numbers : (b : Bundle) (from : Beginning) → IsBeginningOfBytes b from → All HasWordNumber (files_of from)
numbers b (Fresh stream) all = All-nil HasWordNumber
numbers b (Stored keys stream files) all = table_numbers files all.contents.table.each

opened_files : (b : Bundle) (from : Beginning) → IsBeginningOfBytes b from → (o : RunEdge) →
    opening_from b from ≡ Ok o → AllWords o.joint.domains
opened_files b from all o opens =
    let over = opens_over b from o opens in
    all_files_keep (λ (j : Joint). AllWords j.domains) HasWordNumber given_words (files_of from)
    (started_joint b over.memory) o.joint (numbers b from all) over.added (joint_words b over.memory)

-- The run.

record IsFitJoint (j : Joint) : Type 0 where
  limits : JointKeeps j
  words : JointFits j
  files : AllWords j.domains

file_words_are_kept : (b : Bundle) → IsInGrammar b → IsKept IsFitJoint b.kernel.schedule
file_words_are_kept b grammar m same here = record {
  limits = limits_are_kept b grammar m same here.limits;
  words = (turn_fits m here.words).joint;
  files = step_all IsFit Words words_kept m (next_is_low b m grammar same)
      (λ d. fit_at m.joint.domains d (here.limits d) here.words.programs) here.files;
}

file_words_begin : (b : Bundle) (from : Beginning) → IsInGrammar b → IsOfBytes b → IsBeginningOfBytes b from →
    (o : RunEdge) → opening_from b from ≡ Ok o → IsFitJoint o.joint
file_words_begin b from grammar bytes all o opens = record {
  limits = opened_keep b from grammar o opens;
  words = opened_words b from grammar bytes all o opens;
  files = opened_files b from all o opens;
}

at_domain : (found : Option Domain) (program : Domain) → found ≡ Some program → IfSome found Words → Words program
at_domain None program is here = absurd cc
at_domain (Some x) program is here = let same : x ≡ program = cc in subst Words same here

pub runs_have_file_words : RunsHaveFileWords
runs_have_file_words b from budget r grammar bytes all is n d program there =
    at_domain _ program there
    ((at_every_moment IsFitJoint b from budget r (file_words_begin b from grammar bytes all)
    (file_words_are_kept b grammar) is n).files d)
