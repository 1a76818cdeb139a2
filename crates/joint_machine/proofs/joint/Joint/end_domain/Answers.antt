use Rattle.std.proofs.Common.{◌∙◌, ◌≤◌, length, slice_set, ap, refl, subst, sym}
use Rattle.std.proofs.lemmas.List.{length-set}
use Rattle.std.proofs.lemmas.Option.{slice_get_read}
use Rattle.cloak_model.specs.DomainState as program
use Rattle.cloak_pager.specs.State.{PagerState}
use Rattle.cloak_model.proofs.Emitting.{emits_then}
use Rattle.joint_machine.proofs.AfterEnd.{at_end, ends_domain, free_ended, goes_domain}
use Rattle.joint_machine.specs.Programs.{AreFreeUnused}
use Rattle.joint_machine.proofs.Places.{numbered_set}
use Rattle.joint_machine.proofs.joint.Joint.end_domain.Goals as goal

pub invariant_of-self : goal.invariant_of-self
invariant_of-self g c =
    let domains = c.args.self.now.domains.items in
    let d = c.args.d in
    let x = c.index_mut.result.now in
    let x' = c.end_all.new.self in
    let there = slice_get_read domains _ d x refl c.requires c.index_mut.ensures.value in
    record {
      few_harts = c.args.self.now.few_harts;
      few = subst (λ n. n ≤ 4) (sym (length-set domains d x')) c.args.self.now.few;
      served = length-set domains d x' ∙ c.args.self.now.served ∙ sym c.end_pages.ensures.size.domains
          ∙ sym c.end_spaces.ensures.size.domains;
      numbered = numbered_set domains d x' (c.end_all.ensures.number
          ∙ c.args.self.now.numbered d x there) c.args.self.now.numbered;
      unused = subst (λ (p : PagerState). AreFreeUnused (slice_set domains d x') p)
          (sym c.end_spaces.ensures.same_pager)
          (free_ended domains c.args.self.now.memory.pager c.end_pages.new.memory.pager d x'
          c.end_pages.ensures.others c.end_pages.ensures.none c.args.self.now.unused);
    }

pub returns-clause-emits_some : goal.returns-clause-emits_some
returns-clause-emits_some g c = (_, emits_then c.end_pages.ensures.emits_some.1 c.item.ensures)

pub returns-clause-ends : goal.returns-clause-ends
returns-clause-ends g c t was s there =
    let domains = c.args.self.now.domains.items in
    let d = c.args.d in
    let x = c.index_mut.result.now in
    let here = slice_get_read domains _ d x refl c.requires c.index_mut.ensures.value in
    let stands = at_end domains t.joint.domains d x was s.domains here there in
    let pages = c.end_pages.ensures.ends t.joint.memory s.memory in
    ends_domain g.E.Emit.gave _ c.end_pages.new.e _ c.args.self.now _ d c.end_all.new.self c.end_pages.new.memory
    c.args.v t was s (c.end_all.ensures.ends was stands)
    refl refl refl c.forget_all.ensures.each refl refl pages.holds c.end_spaces.ensures.holds pages.emits
    c.item.ensures

pub returns-clause-goes : goal.returns-clause-goes
returns-clause-goes g c j was space s there =
    let domains = c.args.self.now.domains.items in
    let d = c.args.d in
    let x = c.index_mut.result.now in
    let here = slice_get_read domains _ d x refl c.requires c.index_mut.ensures.value in
    let stands = at_end domains j.domains d x was s.domains here there in
    goes_domain c.args.self.now.memory c.end_pages.new.memory _ j.memory d was space
    (ap (λ (k : program.Control). length k.resources.spaces) stands.control ∙ c.end_all.ensures.spaces)
    (c.end_pages.ensures.goes j.memory s.memory) (c.end_spaces.ensures.goes space)
