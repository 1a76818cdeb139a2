use Rattle.std.proofs.Common.{refl}
use Rattle.alone_views.proofs.DomainTakes.{resumed_with, resumes, resumes_not}
use Rattle.alone_views.proofs.domain.DomainAlone.resume.Goals as goal

pub returns-in-Ok-clause-takes : goal.returns-in-Ok-clause-takes
returns-in-Ok-clause-takes c = λ s stands.
    resumed_with _ c.args.slot c.args.answer s _ _ c.hart.ensures.value
    (resumes c.args.self.now _ s c.args.slot c.hart.result c.args.answer stands (c.in-Ok.ensures.resumes s.part.domain stands.part.domain) refl refl refl refl)

pub returns-in-Err-clause-takes : goal.returns-in-Err-clause-takes
returns-in-Err-clause-takes c = λ s stands.
    resumed_with _ c.args.slot c.args.answer s _ _ c.hart.ensures.value
    (resumes_not _ c.resume.new.self s c.args.slot c.hart.result c.args.answer c.args.self.now.steps _ (c.in-Err.ensures.resumes s.part.domain stands.part.domain) c.fail.ensures.unfit stands.steps)
