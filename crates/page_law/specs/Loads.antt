-- A completed cloaked load gives the newest bytes of its page.
use Rattle.std.specs.Prelude.{ℕ, ◌≡◌, ◌%◌, List, [], ◌∷◌, ◌++◌, slice_get, Some, Ok}
use Rattle.cloak_base.specs.declared.names.PageId.{PageId}
use Rattle.cloak_model.specs.declared.image.Bundle.{Bundle}
use Rattle.cloak_model.specs.Beginning.{Beginning}
use Rattle.cloak_model.specs.Contexts.{Context, context_at}
use Rattle.cloak_model.specs.DomainState.{Domain}
use Rattle.cloak_model.specs.Effect.{IsWidth}
use Rattle.cloak_model.specs.Joint.{Turn}
use Rattle.cloak_model.specs.Memory.{value_in}
use Rattle.cloak_model.specs.Resources.{Resources, page_at}
use Rattle.cloak_model.specs.Run.{Run, run_from}
use Rattle.page_law.specs.Ciphers.{}
use Rattle.kernel_isolation.specs.Isolation.{joint_until}

-- The value is the bytes of one width that the page at the address has.
pub record IsLoadOf (number : ℕ) (r : Resources) (space : ℕ) (plain : PageId → List ℕ) (va value : ℕ) : Type 0 where
  pub page : PageId
  pub lies : page_at number r space va ≡ Some page
  pub width : ℕ
  pub is_width : IsWidth width
  pub same : value ≡ value_in (plain page) (va % 4096) width

-- What a step does to the completed loads of a program, whose pages had these newest bytes: it adds none, or one by a
-- context, of its space.
pub data LoadsNewest (was : Domain) (plain : PageId → List ℕ) (now : Domain) : Type 0 where
  NoLoad : now.loads ≡ was.loads → LoadsNewest was plain now
  OneLoad : (slot : ℕ) (c : Context) → context_at was.control.contexts slot ≡ Some c → (va value : ℕ) →
      now.loads ≡ was.loads ++ (va, value) ∷ [] →
      IsLoadOf was.control.number was.control.resources c.space plain va value → LoadsNewest was plain now

-- Each load that a step of a run completes gives the bytes that its page had as the step found it.
abbrev pub StepsLoadNewest : Type 0
StepsLoadNewest =
    (b : Bundle) (from : Beginning) (budget : ℕ) (r : Run) → run_from b from budget ≡ Ok r →
    (n : ℕ) (t : Turn) → slice_get r.turns n ≡ Some t → (d : ℕ) (was now : Domain) →
    slice_get (joint_until n r).domains d ≡ Some was → slice_get t.joint.domains d ≡ Some now →
    LoadsNewest was (joint_until n r).memory.plain now
