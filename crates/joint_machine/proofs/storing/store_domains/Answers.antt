use Rattle.std.proofs.Common.{◌∙◌, ◌++◌, List, map, ap}
use Rattle.cloak_model.specs.StoredFiles.{StoredFile}
use Rattle.joint_machine.specs.Storing.{known_file, places_of}
use Rattle.joint_machine.proofs.Known.{domains_next}
use Rattle.joint_machine.proofs.storing.store_domains.Goals as goal

pub loop-number-preserved : goal.loop-number-preserved
loop-number-preserved c =
    let t = c.args.pager.now.table in
    let n = c.loop-number.number in
    let done = c.store_domain.ensures in record {
      table = done.table;
      told = done.added
          ∙ (ap (λ (l : List StoredFile). l ++ map (known_file t n) (places_of c.index-domains-number.result)) c.loop-number.invariant.told
          ∙ domains_next t c.args.domains.now n c.index-domains-number.result c.loop-number-test.true c.index-domains-number.is);
      follows = done.follows;
      room = done.room;
      page_room = done.page_room;
    }
