use Rattle.std.proofs.Common.{subst}
use Rattle.std.specs.List.{AllByRecursion}
use Rattle.cloak_model.specs.declared.image.Program.{Program}
use Rattle.cloak_model.specs.declared.image.Segment.{Segment}
use Rattle.range_law.specs.Writing.{AreBytes}
use Rattle.run_command.proofs.prepare.image_is_of_bytes.Goals as goal

pub returns : goal.returns
returns c = record {
  segments = subst (AllByRecursion (λ (x : Segment). AreBytes x.bytes)) c.as_slice.ensures c.segments_are_bytes.ensures;
  disk = subst AreBytes c.as_slice-2.ensures c.are_bytes.ensures;
  programs = subst (AllByRecursion (λ (x : Program). AreBytes x.bytes)) c.as_slice-3.ensures
      c.programs_are_bytes.ensures;
}
