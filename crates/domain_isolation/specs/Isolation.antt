-- A program's half of isolation: what a program has is a function of its image, the schedule and its own half of the
-- exchange.
use Rattle.std.specs.Prelude.{ℕ, ◌≡◌, ◌≤◌, List, length, slice_get, Option, Some, None, Ok}
use Rattle.cloak_model.specs.declared.image.Bundle.{Bundle}
use Rattle.cloak_model.specs.declared.image.Program.{Program}
use Rattle.cloak_model.specs.Items.{Item}
use Rattle.cloak_model.specs.Beginning.{Beginning}
use Rattle.cloak_model.specs.Bundle.{IsInGrammar}
use Rattle.cloak_model.specs.Halves.{inward_half}
use Rattle.cloak_model.specs.Parts.{DomainPart, domain_part}
use Rattle.cloak_model.specs.Run.{Run, run_from, exchange, run_inward_half}
use Rattle.cloak_model.specs.DomainAlone.{DomainAlone, domain_alone_from, part_from}
use Rattle.kernel_isolation.specs.Isolation.{items_until, joint_until}

-- The program alone, from any part on, ignores the items that are not in its half.
abbrev pub InwardHalfSuffices : Type 0
InwardHalfSuffices =
    (d : ℕ) (schedule : List ℕ) (p : DomainPart) (items : List Item) →
    domain_alone_from d schedule p (inward_half d items) ≡ domain_alone_from d schedule p items

-- A run of a bundle from this beginning, in which this program is domain d.
pub record Hosts (b : Bundle) (d : ℕ) (p : Program) (from : Beginning) (r : Run) : Type 0 where
  pub in_grammar : IsInGrammar b
  pub program : slice_get b.programs d ≡ Some p
  pub budget : ℕ
  pub runs : run_from b from budget ≡ Ok r

-- The program alone has the part that there is in the joint machine, and no item was unfit.
pub record HasDomain (s : DomainAlone) (part : Option DomainPart) : Type 0 where
  pub fits : s.unfit ≡ None
  pub same : Some s.part ≡ part

-- After the opening and after each step the joint machine has the domain part of the program alone, which began with
-- the files of the beginning that are its own, and has read its inward half so far.
abbrev pub DomainIsAlone : Type 0
DomainIsAlone =
    (b : Bundle) (d : ℕ) (p : Program) (from : Beginning) (r : Run) → Hosts b d p from r → (n : ℕ) →
    n ≤ length r.turns →
    HasDomain (domain_alone_from d b.kernel.schedule (part_from d from p) (inward_half d (items_until n r)))
    (domain_part (joint_until n r) d)

-- So it is as the run was closed, with all that it wrote.
abbrev pub DomainEndsAlone : Type 0
DomainEndsAlone =
    (b : Bundle) (d : ℕ) (p : Program) (from : Beginning) (r : Run) → Hosts b d p from r →
    HasDomain (domain_alone_from d b.kernel.schedule (part_from d from p) (exchange r)) (domain_part r.closed.joint d)

-- Two runs agree in a domain: they made as many steps, and after each of them, and as they were closed, its part is
-- one.
pub record AgreeInDomain (d : ℕ) (r r' : Run) : Type 0 where
  pub steps : length r'.turns ≡ length r.turns
  pub after : (n : ℕ) → n ≤ length r.turns → domain_part (joint_until n r') d ≡ domain_part (joint_until n r) d
  pub closed : domain_part r'.closed.joint d ≡ domain_part r.closed.joint d

-- Whatever kernels, other programs, keys, streams and budgets they have, runs with one schedule, one program as domain
-- d, one part of it as they begin, and one inward half for it do. In all runs without files it begins with one part.
abbrev pub DomainDependsOnHalf : Type 0
DomainDependsOnHalf =
    (b b' : Bundle) (d : ℕ) (p : Program) (from from' : Beginning) (r r' : Run) → Hosts b d p from r →
    Hosts b' d p from' r' → b'.kernel.schedule ≡ b.kernel.schedule → part_from d from' p ≡ part_from d from p →
    run_inward_half d r' ≡ run_inward_half d r → AgreeInDomain d r r'
