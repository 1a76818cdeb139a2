use Rattle.joint_machine.proofs.Showing.{opening_emits}
use Rattle.joint_machine.proofs.joint.Joint.show_opening.Goals as goal

pub returns-clause-shows : goal.returns-clause-shows
returns-clause-shows g c b from o opens same stands = record {
  emits =
      opening_emits g.E.Emit.gave c.args.e.now c.show_placed.new.e c.args.self.now.memory c.args.placings.now b from o opens same
      stands.memory c.requires.outside c.show_placed.ensures.emits;
  stands = record {
    harts = stands.harts;
    disk = stands.disk;
    memory = c.show_placed.ensures.read.holds o.joint.memory stands.memory;
    domains = stands.domains;
    roots = stands.roots;
    ended = stands.ended;
    refused = stands.refused;
  };
}
