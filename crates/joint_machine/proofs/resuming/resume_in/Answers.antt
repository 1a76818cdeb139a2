use Rattle.std.proofs.Common.{◌∙◌, ◌%◌, refl, sym}
use Rattle.hypercalls.specs.Standing.{control_of}
use Rattle.joint_machine.proofs.Resumed.{no_fault, resume_granted, resumes_refused, resumes_mapping, resumes_granted}
use Rattle.joint_machine.proofs.resuming.resume_in.Goals as goal

pub returns-in_default-clause-resumes : goal.returns-in_default-clause-resumes
returns-in_default-clause-resumes g c j was there stands are =
    resumes_refused g.E.Emit.gave _ c.args.domain.now c.args.roots.now c.args.hart.0 c.args.satp c.args.ctx c.args.answer _ j was there stands are
    c.idle_space.result c.idle_space.ensures.value c.in_default.is refl

pub returns-then-is_err-clause-resumes : goal.returns-then-is_err-clause-resumes
returns-then-is_err-clause-resumes g c j was there stands are =
    resumes_mapping g.E.Emit.gave _ c.args.domain.now c.args.roots.now c.args.hart.0 c.args.satp c.args.ctx c.args.answer _ j was there stands are
    c.admit.new.self c.idle_space.result c.in-Some.space c.admit.result c.is_err.result c.is_err.ensures.value c.if-is_err.true c.admit.ensures.refused_unchanged
    c.idle_space.ensures.value c.in-Some.is c.admit.ensures.as_defined refl

pub unreachable-requires : goal.unreachable-requires
unreachable-requires g c =
    no_fault c.resume.result _ c.in-Err.field-0 c.in-Err.is c.resume.ensures.answer
    (resume_granted (control_of c.args.domain.now) (c.args.ctx % 8) c.args.hart.0 c.args.answer c.in-Some.space (sym c.in-Some.is ∙ c.idle_space.ensures.value))

pub returns-clause-resumes : goal.returns-clause-resumes
returns-clause-resumes g c j was there stands are =
    resumes_granted g.E.Emit.gave _ c.args.domain.now c.args.roots.now c.args.hart.0 c.args.satp c.args.ctx c.args.answer _ j was there stands are
    _ c.idle_space.result c.in-Some.space c.admit.result c.is_err.result c.resume.result c.resume.new.self c.admit.new.self
    c.idle_space.ensures.value c.is_err.ensures.value c.if-is_err.false c.in-Some.is c.admit.ensures.as_defined c.admit.ensures.each
    (c.resume.ensures.resumes was stands) c.item.ensures refl
