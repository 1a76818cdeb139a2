-- What settling a frame keeps of a memory, settling ahead of a step keeps.
use Rattle.std.proofs.Common.{ℕ, zero, suc, List, find, Option, Some, None}
use Rattle.cloak_model.specs.Ahead.{is_owed, settle_found, settle_while, settle_touched}
use Rattle.cloak_model.specs.Cloaking.{CloakedMemory, AfterSettling, settle}
use Rattle.cloak_model.specs.Hart.{Hart}

abbrev pub SettleKeeps : (CloakedMemory → Type 0) → Type 0
SettleKeeps P = (f : ℕ) (m : CloakedMemory) → P m → P (settle f m).memory

module _ (P : CloakedMemory → Type 0) (settles : SettleKeeps P) where
  found_keeps : (o : Option ℕ) (next : CloakedMemory → AfterSettling) (m : CloakedMemory) → P m →
      ((x : CloakedMemory) → P x → P (next x).memory) → P (settle_found o next m).memory
  found_keeps None next m here more = here
  found_keeps (Some f) next m here more = more (settle f m).memory (settles f m here)

  while_keeps : (frames : List (List ℕ) → List ℕ) (n : ℕ) (m : CloakedMemory) → P m → P (settle_while frames n m).memory
  unfolding settle_while
  while_keeps frames zero m here = here
  while_keeps frames (suc n) m here =
      found_keeps (find (is_owed m) (frames m.ram)) (settle_while frames n) m here
      (λ x there. while_keeps frames n x there)

  pub touched_keeps : (h : Hart) (disk : List ℕ) (m : CloakedMemory) → P m → P (settle_touched h disk m).memory
  unfolding settle_touched
  touched_keeps h disk m here = while_keeps _ _ m here
