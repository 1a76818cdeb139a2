use Rattle.std.proofs.Common.{◌∙◌, ap, arith, rules, List, length}
use Rattle.command_parts.proofs.FileFacts.{front_more, few_more}
use Rattle.command_parts.proofs.files.read_into.Goals as goal

pub loop-piece-preserved : goal.loop-piece-preserved
loop-piece-preserved g c =
    let grown = rw c.if-is_err.ensures.negation at c.extend_from_slice.ensures.items in
    let least = c.min.ensures in
    let so_far = c.len-in-loop-piece-2.ensures in
    let here = c.len-in-loop-piece.ensures in
    let before = c.loop-piece.invariant in
    record {
      front = front_more _ _ c.loop-piece.bytes.items c.extend_from_slice.new.self.items c.read_at.new.into
          c.loop-piece.piece c.len-in-loop-piece.result c.in-Ok.n c.min.result
          (before.files c.args.name.now) (search rules) c.in-Ok.ensures.copied (omega (arith, least))
          before.front grown;
      few = few_more c.loop-piece.bytes.items c.extend_from_slice.new.self.items c.read_at.new.into c.min.result
          c.args.count grown (search rules);
      files = λ name. c.in-Ok.ensures.files name ∙ before.files name;
      reading = c.in-Ok.ensures.reading before.settled ∙ before.reading;
      settled = c.in-Ok.ensures.settled before.settled;
      writing = c.in-Ok.ensures.writing before.settled ∙ before.writing;
    }
