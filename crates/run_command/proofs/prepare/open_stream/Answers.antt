use Rattle.std.proofs.Common.{refl, subst}
use Rattle.range_law.specs.Writing.{AreBytes}
use Rattle.run_command.proofs.PrepareFacts.{numbered_bytes}
use Rattle.run_command.proofs.prepare.open_stream.Goals as goal

pub returns-in-Ok-clause-stream : goal.returns-in-Ok-clause-stream
returns-in-Ok-clause-stream g c =
    let front = c.in-Ok.ensures in
    rw c.in-FromFile.is (
      front.reading,
      record {
        bytes = c.in-Ok.bytes.items;
        handed_in = c.bytes.ensures;
        few = front.fits;
        front = front.bytes;
      },
      rw c.bytes.ensures (subst AreBytes c.as_slice.ensures.value c.are_bytes.ensures),
    )

pub returns-in-Numbered-clause-stream : goal.returns-in-Numbered-clause-stream
returns-in-Numbered-clause-stream g c =
    rw c.in-Numbered.is (refl, c.numbered.ensures, rw c.numbered.ensures (numbered_bytes c.in-Numbered.number))
