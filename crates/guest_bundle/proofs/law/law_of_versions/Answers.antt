use Rattle.guest_bundle.proofs.Versions.{versions_agree}
use Rattle.guest_bundle.proofs.law.law_of_versions.Goals as goal

pub returns : goal.returns
returns c = versions_agree
