-- The kernel's part of the joint machine is a function of the kernel's image and the outward half of the exchange.
use Rattle.std.specs.Prelude.{ℕ, ◌≡◌, ◌≤◌, List, [], ◌∷◌, ◌++◌, length, map, take, None, Ok}
use Rattle.cloak_model.specs.declared.image.Bundle.{Bundle}
use Rattle.cloak_model.specs.declared.image.KernelImage.{KernelImage}
use Rattle.cloak_model.specs.Items.{Item}
use Rattle.cloak_model.specs.Items as item
use Rattle.cloak_model.specs.Beginning.{Beginning}
use Rattle.cloak_model.specs.Exchange.{steps_items}
use Rattle.cloak_model.specs.Halves.{outward_half}
use Rattle.cloak_model.specs.Joint.{Turn}
use Rattle.cloak_model.specs.KernelAlone.{KernelAlone, kernel_alone}
use Rattle.cloak_model.specs.Parts.{Joint, KernelPart, kernel_part}
use Rattle.cloak_model.specs.Record.{IsExchange}
use Rattle.cloak_model.specs.Run.{Run, run_from, joint_after, exchange, run_outward_half}

-- what each of these steps wrote after its marker
abbrev pub items_by_step : List Turn → List (List Item)
items_by_step turns = map (λ (t : Turn). t.items) turns

-- what a run wrote in its opening and its first n steps, with their markers, and a Close after it
abbrev pub items_until : ℕ → Run → List Item
items_until n r =
    r.opened.items ++ (steps_items 1 (items_by_step (take n r.turns)) ++ item.Close n ∷ [])

-- the joint machine after the opening and the first n steps
abbrev pub joint_until : ℕ → Run → Joint
joint_until n r = joint_after r.opened.joint (take n r.turns)

-- The kernel alone has this kernel part, and no item was unfit.
pub record HasKernel (s : KernelAlone) (k : KernelPart) : Type 0 where
  pub fits : s.unfit ≡ None
  pub same : s.kernel ≡ k

-- After the opening and after each step the kernel's part is that of the kernel alone, which has read the outward half
-- so far.
abbrev pub KernelIsAlone : Type 0
KernelIsAlone =
    (b : Bundle) (from : Beginning) (budget : ℕ) (r : Run) → run_from b from budget ≡ Ok r → (n : ℕ) →
    n ≤ length r.turns →
    HasKernel (kernel_alone b.kernel (outward_half (items_until n r))) (kernel_part (joint_until n r))

-- So it is as the run was closed, with all that it wrote.
abbrev pub KernelEndsAlone : Type 0
KernelEndsAlone =
    (b : Bundle) (from : Beginning) (budget : ℕ) (r : Run) → run_from b from budget ≡ Ok r →
    HasKernel (kernel_alone b.kernel (exchange r)) (kernel_part r.closed.joint)

-- Two runs agree in the kernel: they made as many steps, and after each of them, and as they were closed, the kernel's
-- part is one.
pub record AgreeInKernel (r r' : Run) : Type 0 where
  pub steps : length r'.turns ≡ length r.turns
  pub after : (n : ℕ) → n ≤ length r.turns → kernel_part (joint_until n r') ≡ kernel_part (joint_until n r)
  pub closed : kernel_part r'.closed.joint ≡ kernel_part r.closed.joint

-- Whatever programs, beginnings and budgets they have, runs with one kernel image and one outward half do.
abbrev pub KernelDependsOnHalf : Type 0
KernelDependsOnHalf =
    (b b' : Bundle) (from from' : Beginning) (budget budget' : ℕ) (r r' : Run) → run_from b from budget ≡ Ok r →
    run_from b' from' budget' ≡ Ok r' → b'.kernel ≡ b.kernel → run_outward_half r' ≡ run_outward_half r →
    AgreeInKernel r r'

-- The items of a run are in the order of an exchange.
abbrev pub WritesAnExchange : Type 0
WritesAnExchange =
    (b : Bundle) (from : Beginning) (budget : ℕ) (r : Run) → run_from b from budget ≡ Ok r → IsExchange (exchange r)

-- The kernel alone ignores inward items.
abbrev pub OutwardHalfSuffices : Type 0
OutwardHalfSuffices =
    (k : KernelImage) (items : List Item) → kernel_alone k (outward_half items) ≡ kernel_alone k items
