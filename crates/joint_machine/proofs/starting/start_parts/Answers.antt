use Rattle.std.proofs.Common.{refl}
use Rattle.cloak_model.specs.Opening.{started_memory}
use Rattle.cloaked_side.specs.Holding.{Holds}
use Rattle.std.proofs.Common.{subst, List, ℕ}
use Rattle.cloak_model.specs.Sealing.{Chained}
use Rattle.joint_machine.proofs.Opens.{low_keys}
use Rattle.joint_machine.proofs.starting.start_parts.Goals as goal

pub groups_of-requires-clause-keys : goal.groups_of-requires-clause-keys
groups_of-requires-clause-keys c = low_keys c.args.kernel.frames c.args.programs.now c.args.programs.now refl c.requires.programs

pub start_domains-requires-clause-fit : goal.start_domains-requires-clause-fit
start_domains-requires-clause-fit c = (c.args.kernel.frames, c.requires.programs)

pub returns : goal.returns
returns c = record {
  harts = c.in_ok-harts.ensures;
  memory = subst (λ (group : List ℕ). Holds c.in_ok-memory.memory
      (started_memory c.args.kernel (record { numbered = c.args.keys; group = group; seal = Chained }) c.args.s))
      c.groups_of.ensures.value c.in_ok-memory.ensures.holds;
  frames = c.in_ok-memory.ensures.frames;
  served = c.in_ok-memory.ensures.domains;
  ready = c.in_ok-memory.ensures.ready;
  empty = c.in_ok-memory.ensures.empty;
  domains = c.in_ok-domains.ensures.stand;
  count = c.in_ok-domains.ensures.count;
  numbered = c.in_ok-domains.ensures.numbered;
  disk = c.in_ok-memory.ensures.disk;
  ended = refl;
  refused = refl;
}
