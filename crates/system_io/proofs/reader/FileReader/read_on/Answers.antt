use Rattle.system_io.proofs.Windows.{copied_filled}
use Rattle.system_io.proofs.reader.FileReader.read_on.Goals as goal

pub returns-clause-copied : goal.returns-clause-copied
returns-clause-copied g c =
    copied_filled _ _ _ c.read_ahead.new.self c.args.at c.go_to.new.self.position c.copy.result c.args.into.now _
    c.args.self.now.name c.go_to.new.self.name c.in_ok-go_to.ensures.moved c.in_ok-read_ahead.ensures.same_name
    c.in_ok-go_to.ensures.same_name c.in_ok-read_ahead.ensures.reads c.in_ok-read_ahead.ensures.open
    c.in_ok-read_ahead.ensures.before c.copy.ensures.count c.copy.ensures.copied c.in_ok-read_ahead.ensures.end
