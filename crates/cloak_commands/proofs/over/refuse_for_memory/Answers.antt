use Rattle.cloak_commands.proofs.OnDisk.{completes_over, has_run, judges_over, refused_in_part, refused_whole}
use Rattle.cloak_commands.proofs.over.refuse_for_memory.Goals.{then-n, else-n}
use Rattle.cloak_commands.proofs.over.refuse_for_memory.Goals as goal

pub returns : goal.returns
returns g c = elim c.if-n.branch [
  | then-n w ↦
      let over =
      refused_whole c.args.words.now g.D.FileSystem.told c.args.disk _ _ c.write_front-n.result
      c.write_front-n.ensures.told w.if-n.true in
      rw w.status-is (record {
        exits = over;
        complete = completes_over c.args.words.now over;
        bundle_first = judges_over c.args.words.now over;
        run = has_run c.args.words.now (completes_over c.args.words.now over);
      })
  | else-n w ↦
      let over =
      refused_in_part c.args.words.now g.D.FileSystem.told c.args.disk _ _ c.write_front-n.result
      c.write_front-n.ensures.told c.write_front-n.ensures.count in
      rw w.status-is (record {
        exits = over;
        complete = completes_over c.args.words.now over;
        bundle_first = judges_over c.args.words.now over;
        run = has_run c.args.words.now (completes_over c.args.words.now over);
      })
]
