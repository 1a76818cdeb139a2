-- The laws, in their own words; and a memory whose page tables are those of a world.
use Rattle.std.proofs.Common.{◌≡◌, refl}
use Rattle.cloak_model.specs.Cloaking.{CloakedMemory}
use Rattle.cloak_model.specs.Joint.{memory_of}
use Rattle.cloak_model.specs.World.{World, Flat, Cloaked, Alone}
use Rattle.script_fold.specs.Tables.{StepKeepsTables, EndKeepsTables, recorded_tables}
use Rattle.script_fold.proofs.Rooted.{rooted_domain_step, rooted_end}

pub step_keeps_tables : StepKeepsTables
step_keeps_tables slot d w = (rooted_domain_step slot d w).root

pub end_keeps_tables : EndKeepsTables
end_keeps_tables d w = (rooted_end d w).root

pub memory_root : (w : World) (m : CloakedMemory) → recorded_tables w ≡ m.ledger.root →
    (memory_of w m).ledger.root ≡ m.ledger.root
memory_root (Flat ram) m same = refl
memory_root (Cloaked c) m same = same
memory_root (Alone handed) m same = refl
