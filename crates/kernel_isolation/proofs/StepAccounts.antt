-- What a program's step writes accounts for RAM.
use Rattle.std.proofs.Common.{ℕ}
use Rattle.cloak_model.specs.DomainState.{Domain}
use Rattle.cloak_model.specs.DomainStep.{domain_step}
use Rattle.cloak_model.specs.World.{World}
use Rattle.script_fold.proofs.ByQuestions.{keeps_by}
use Rattle.script_fold.proofs.Folding.{step_keeps}
use Rattle.kernel_isolation.proofs.Accounts.{Accounts, account_step}

pub accounts_domain_step : (slot : ℕ) (d : Domain) (w : World) → Accounts w (domain_step slot d w).world
accounts_domain_step slot d w =
    let n = d.control.number in step_keeps Accounts slot d (keeps_by n Accounts (account_step n)) w
