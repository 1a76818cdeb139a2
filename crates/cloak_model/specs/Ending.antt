-- The end of a domain (this project's rule). The kernel is shown what it has yet to see of the domain's pages, by rising
-- frame; then the pages are dropped, and contexts, spaces and resources are free. The completed loads stay.
use Rattle.std.specs.Prelude.{ℕ, ◌+◌, zero, suc, nat_eq, Bool, true, false, List, [], length, replicate, map, Option, None, if◌then◌else◌}
use Rattle.cloak_base.specs.declared.names.SpaceId.{SpaceId}
use Rattle.cloak_model.specs.Cloaking.{CloakedMemory}
use Rattle.cloak_model.specs.World.{World, MidStep, Handed, ram_of}
use Rattle.cloak_model.specs.Asking.{Asking}
use Rattle.cloak_model.specs.AskPages.{settled_if_marked}
use Rattle.cloak_model.specs.Script.{played}
use Rattle.cloak_model.specs.Fork.{forget_each}
use Rattle.cloak_model.specs.Opening.{numbers_below}
use Rattle.cloak_model.specs.DomainState.{Control, Domain}

-- Its pages.

-- every number of a resource is marked
abbrev pub all_marked : List Bool
all_marked = replicate 16 true

-- of n frames from f on, by rising number, each that is owed a page of the domain is settled; a missing draw does not
-- cut this short
unfoldable pub settled_for : ℕ → ℕ → ℕ → World → World
settled_for domain f zero w = w
settled_for domain f (suc n) w = settled_for domain (f + 1) n (settled_if_marked domain all_marked f w)

-- The frames that are owed pages of a domain are settled, and then its pages are dropped, those of each number of a
-- resource, by rising number. Of a number that is free there is nothing to drop.
unfoldable pub ask_end : ℕ → Asking (Unit {0})
ask_end domain w = played (forget_each domain (numbers_below 16)) (settled_for domain 0 (length (ram_of w)) w)

-- the memory as a domain's end begins, which no hart asks for
abbrev pub cloak_for : CloakedMemory → ℕ → MidStep
cloak_for m domain = record {
  memory = m;
  items = [];
  events = [];
  violation = None;
  regime = record { satp = 0; sum = false; mxr = false; domain = domain };
  pages = λ va. None;
}

-- a program's pages as its end begins, which runs alone
abbrev pub handed_for : (ℕ → ℕ → List ℕ) → Handed
handed_for plain = record { plain = plain; answers = []; unfit = false }

-- Its spaces.

-- every number of a space of a domain, by rising number
abbrev pub spaces_of : ℕ → Domain → List SpaceId
spaces_of d domain =
    map (λ (n : ℕ). let s : SpaceId = record { domain = d; number = n } in s)
    (numbers_below (length domain.control.resources.spaces))

-- the page tables without those of a domain's spaces
abbrev pub without_roots : ℕ → (SpaceId → Option ℕ) → SpaceId → Option ℕ
without_roots domain root s = if nat_eq s.domain domain then None else root s

-- What is kept beside its pages.

-- every slot, space and number of a resource is free
abbrev pub ended_control : Control → Control
ended_control d = record d {
  contexts = replicate 8 None;
  resources = record { held = replicate 16 None; spaces = replicate 8 None };
  ended = true;
}

unfoldable pub ended_domain : Domain → Domain
ended_domain d = record d { control = ended_control d.control }
