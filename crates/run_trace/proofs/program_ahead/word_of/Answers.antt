use Rattle.std.proofs.Common.{◌≡◌, ℕ, Option, None, refl, subst}
use Rattle.cloak_model.specs.Contexts.{Context}
use Rattle.run_trace.specs.ProgramTrace.{word_of}
use Rattle.run_trace.proofs.program_ahead.word_of.Goals as goal

pub returns-in-Plain : goal.returns-in-Plain
returns-in-Plain c number turns s stands fits =
    subst (λ (x : Context). c.word_there.result ≡ word_of s.part x) c.c.view_is
    (rw c.in-Plain.is (c.word_there.ensures number turns s stands fits))

pub returns-in-CopyIn : goal.returns-in-CopyIn
returns-in-CopyIn c number turns s stands fits =
    subst (λ (x : Context). let o : Option ℕ = None in o ≡ word_of s.part x) c.c.view_is (rw c.in-CopyIn.is refl)

pub returns-in-Waiting : goal.returns-in-Waiting
returns-in-Waiting c number turns s stands fits =
    subst (λ (x : Context). let o : Option ℕ = None in o ≡ word_of s.part x) c.c.view_is (rw c.in-Waiting.is refl)

pub returns-in-CopyOut : goal.returns-in-CopyOut
returns-in-CopyOut c number turns s stands fits =
    subst (λ (x : Context). let o : Option ℕ = None in o ≡ word_of s.part x) c.c.view_is (rw c.in-CopyOut.is refl)
