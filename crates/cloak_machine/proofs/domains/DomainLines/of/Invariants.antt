use Rattle.std.proofs.Common.{◌≡◌, ◌<◌, ◌^◌, List, ◌++◌, map, length, All}
use Rattle.std.specs.Vec.Iter.{into_iter_items, into_iter_len}
use Rattle.cloak_model.specs.DomainState as model
use Rattle.cloak_model.specs.DomainState.{domain_line}
use Rattle.joint_machine.specs.Standing.{AreDomains}
use Rattle.cloak_machine.specs.Lines.{lines_kept}
use Rattle.cloak_machine.proofs.domains.DomainLines.of.Given as goal

-- the lines of the programs so far
abbrev pub invariant-loop-domain : goal.invariant-loop-domain
invariant-loop-domain l = record {
  rest : l.yielded ++ into_iter_items l.domain-iterator ≡ into_iter_items l.initial.domain-iterator;
  counted : into_iter_len l.domain-iterator ≡ length (into_iter_items l.domain-iterator);
  count : l.lines.count ≡ length l.yielded;
  text : (ds : List model.Domain) → AreDomains l.yielded ds → All (λ d. length d.loads < 2 ^ 64) ds →
      lines_kept l.lines ≡ map domain_line ds;
}
