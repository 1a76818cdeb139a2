use Rattle.std.proofs.Common.{◌∙◌, ◌≤◌, ◌/◌, ap, refl, subst, sym}
use Rattle.std.proofs.lemmas.List.{length-set}
use Rattle.std.proofs.lemmas.Option.{slice_get_read}
use Rattle.cloak_model.specs.Csr.{satp_of}
use Rattle.cloak_model.specs.Hart.{Hart}
use Rattle.joint_machine.proofs.Places.{free_same, numbered_set}
use Rattle.joint_machine.proofs.Resumed.{resumes_none, resumes_there}
use Rattle.joint_machine.proofs.Turns.{hart_is}
use Rattle.joint_machine.proofs.joint.Joint.resume.Goals as goal

pub returns-then-d-len-clause-resumes : goal.returns-then-d-len-clause-resumes
returns-then-d-len-clause-resumes g c j s =
    resumes_none g.E.Emit.gave _ _ _ j c.args.number _ c.args.ctx c.args.answer
    (record { harts = s.harts; disk = s.disk; memory = s.memory; domains = s.domains; roots = s.roots; ended = s.ended; refused = s.refused })
    (subst (λ n. n ≤ c.args.ctx / 8) (c.len.ensures ∙ c.args.self.now.domains.ok.0) c.if-d-len.true) refl

pub invariant_of-self-2 : goal.invariant_of-self-2
invariant_of-self-2 g c =
    let domains = c.args.self.now.domains.items in
    let d = c.args.ctx / 8 in
    let x = c.index_mut.result.now in
    let x' = c.resume_in.new.domain in
    let there = slice_get_read domains c.len.result d x (c.len.ensures ∙ c.args.self.now.domains.ok.0) c.if-d-len.false c.index_mut.ensures.value in
    record {
      few_harts = c.args.self.now.few_harts;
      few = subst (λ n. n ≤ 4) (sym (length-set domains d x')) c.args.self.now.few;
      served = length-set domains d x' ∙ c.args.self.now.served;
      numbered = numbered_set domains d x' (c.resume_in.ensures.number ∙ c.args.self.now.numbered d x there) c.args.self.now.numbered;
      unused = free_same domains c.args.self.now.memory.pager d x x' there c.resume_in.ensures.resources c.args.self.now.unused;
    }

pub returns-clause-resumes : goal.returns-clause-resumes
returns-clause-resumes g c j s =
    let domains = c.args.self.now.domains.items in
    let d = c.args.ctx / 8 in
    let x = c.index_mut.result.now in
    let there = slice_get_read domains c.len.result d x (c.len.ensures ∙ c.args.self.now.domains.ok.0) c.if-d-len.false c.index_mut.ensures.value in
    let hart = hart_is c.args.self.now.harts.items j.harts c.args.number c.index.result.now s.harts c.requires c.index.ensures in
    let satp = c.satp-satp.ensures ∙ ap (λ (h : Hart). satp_of h.csrs) (c.behind-self.view_is ∙ hart) in
    resumes_there g.E.Emit.gave _ _ c.args.self.now _ _ j c.args.number c.satp-satp.result _ c.args.ctx c.args.answer x c.resume_in.new.domain satp s there refl refl refl refl refl refl
    (λ was at stands. c.resume_in.ensures.resumes j was at stands s.roots)
