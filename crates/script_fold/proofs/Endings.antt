-- What each change of a world keeps, the end of a domain keeps: its frames are settled, and its pages are dropped.
use Rattle.std.proofs.Common.{ℕ, zero, suc, ◌+◌, List, [], ◌∷◌, length}
use Rattle.cloak_model.specs.AskPages.{settled_if_marked, ask_forget}
use Rattle.cloak_model.specs.Ending.{all_marked, settled_for, ask_end}
use Rattle.cloak_model.specs.Fork.{forget_each}
use Rattle.cloak_model.specs.Script.{played}
use Rattle.cloak_model.specs.Opening.{numbers_below}
use Rattle.cloak_model.specs.World.{World, ram_of}
use Rattle.script_fold.proofs.Questions.{Settles, keeps_if_marked}

pub keeps_settled_for : (R : World → World → Type 0) (k : Settles R) (d f n : ℕ) (w : World) → R w (settled_for d f n w)
unfolding settled_for
keeps_settled_for R k d f zero w = k.same w
keeps_settled_for R k d f (suc n) w =
    k.chained _ _ _ (keeps_if_marked R k d all_marked f w)
    (keeps_settled_for R k d (f + 1) n (settled_if_marked d all_marked f w))

pub keeps_forgets : (R : World → World → Type 0) → ((w : World) → R w w) → ((u v w : World) → R u v → R v w → R u w) →
    ((d resource : ℕ) (w : World) → R w (ask_forget d resource w).world) → (d : ℕ) (numbers : List ℕ) (w : World) →
    R w (played (forget_each d numbers) w).world
unfolding forget_each
keeps_forgets R same chained forgets d [] w = same w
keeps_forgets R same chained forgets d (n ∷ numbers) w =
    chained _ _ _ (forgets d n w) (keeps_forgets R same chained forgets d numbers (ask_forget d n w).world)

pub keeps_end : (R : World → World → Type 0) (k : Settles R) →
    ((d resource : ℕ) (w : World) → R w (ask_forget d resource w).world) → (d : ℕ) (w : World) → R w (ask_end d w).world
unfolding ask_end
keeps_end R k forgets d w =
    let settled = settled_for d 0 (length (ram_of w)) w in
    k.chained _ _ _ (keeps_settled_for R k d 0 (length (ram_of w)) w)
    (keeps_forgets R k.same k.chained forgets d (numbers_below 16) settled)
