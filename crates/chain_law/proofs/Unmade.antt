-- A program that ended in a run has left no file.
use Rattle.std.proofs.Common.{◌≡◌, ◌∙◌, ℕ, true, List, length, slice_get, Option, Some, None, refl, sym, ap, subst}
use Rattle.std.proofs.lemmas.Bool.{false≢true}
use Rattle.cloak_base.specs.declared.names.PageId.{PageId}
use Rattle.cloak_model.specs.DomainState.{Domain}
use Rattle.cloak_model.specs.Files.{holds_file}
use Rattle.cloak_model.specs.Opening.{RunEdge}
use Rattle.cloak_model.specs.Parts.{Joint}
use Rattle.cloak_model.specs.Resources.{resource_at}
use Rattle.cloak_model.specs.Run.{Run, closing}
use Rattle.std.proofs.lemmas.List.Quantifiers.{position-Some}
use Rattle.kernel_isolation.specs.Isolation.{joint_until}
use Rattle.limit_law.proofs.EndedRuns.{ended_are_gone}
use Rattle.chain_law.specs.Chain.{FilePage, page_of_file, EndUnmakesFiles}
use Rattle.chain_law.proofs.GoesOn.{is_page}
use Rattle.chain_law.proofs.ZeroRuns.{closed_is}

closing_domains : (j : Joint) → (closing j).joint.domains ≡ j.domains
unfolding closing
closing_domains j = refl

none_of : (domains : List Domain) (p : FilePage) (program : Domain) → slice_get domains p.domain ≡ Some program →
    ((n : ℕ) → resource_at program.control.resources n ≡ None) → (o : Option PageId) → page_of_file domains p ≡ o →
    page_of_file domains p ≡ None
none_of domains p program there none None is = is
none_of domains p program there none (Some q) is =
    let page = is_page domains p q is in
    let own : page.program ≡ program = same_program page.program program (sym page.there ∙ there) in
    let holds =
    (position-Some (holds_file p.number) page.program.control.resources.held page.resource None page.place).1 in
    absurd (false≢true (ap (holds_file p.number) (sym (none page.resource))
    ∙ subst (λ (x : Domain). holds_file p.number (resource_at x.control.resources page.resource) ≡ true) own holds))
  where
    same_program : (x y : Domain) → Some x ≡ Some y → x ≡ y
    same_program x y is = cc

pub end_unmakes_files : EndUnmakesFiles
end_unmakes_files m made p program there ended =
    let r : Run = m.run in
    let domains : r.closed.joint.domains ≡ (joint_until (length r.turns) r).domains =
    ap (λ (o : RunEdge). o.joint.domains) (closed_is m.bundle m.from m.budget r made.runs)
    ∙ closing_domains (joint_until (length r.turns) r) in
    let gone = ended_are_gone m.bundle m.from m.budget r made.in_grammar made.runs (length r.turns) p.domain program
    (ap (λ (l : List Domain). slice_get l p.domain) (sym domains) ∙ there) ended in
    none_of r.closed.joint.domains p program there gone.nothing.resources _ refl
