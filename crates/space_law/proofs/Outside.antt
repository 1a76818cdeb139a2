-- The entries that a step of a hart outside makes are of no page.
use Rattle.std.proofs.Common.{None}
use Rattle.cloak_model.specs.World.{Cloaked}
use Rattle.script_fold.proofs.KernelWalks.{kernel_keeps}
use Rattle.space_law.specs.Mapping.{MakesOutside}
use Rattle.space_law.proofs.Questions.{Maps, map_reaches}

pub makes_outside : MakesOutside
makes_outside mapped h disk k all =
    (kernel_keeps (Maps mapped None) (map_reaches mapped None) h disk (Cloaked k)).by all
