use Rattle.hypercall_kinds.proofs.ByKinds.{hypercall_kind}
use Rattle.hypercall_kinds.proofs.law_of_kinds.Goals as goal

pub returns : goal.returns
returns c = hypercall_kind
