use Rattle.std.proofs.Common.{◌<◌, ℕ, List, All, subst}
use Rattle.alone_files.proofs.giving.opened.Goals as goal

pub returns-clause-whole : goal.returns-clause-whole
returns-clause-whole c = record {
  long = c.open_page.array_long;
  bytes = subst (λ (l : List ℕ). All (λ b. b < 256) l) c.as_slice.ensures c.are_bytes.ensures;
}
