-- The bytes of a program's pages.
use Rattle.std.specs.Prelude.{ℕ, ◌≡◌, ◌+◌, ◌*◌, ◌<◌, List, [], slice_index_or}
use Rattle.cloak_model.specs.DomainAlone.{handed_of}
use Rattle.cloak_model.specs.Ending.{ask_end, handed_for}
use Rattle.cloak_model.specs.World.{Alone}

-- these are the pages of all resources, one resource of 1024 pages after another
abbrev pub HasPlain : List (List ℕ) → (ℕ → ℕ → List ℕ) → Type 0
HasPlain pages plain = (resource page : ℕ) → resource < 16 → page < 1024 →
    slice_index_or pages (resource * 1024 + page) [] ≡ plain resource page

-- the pages of all resources once the domain has ended
abbrev pub ended_plain : ℕ → (ℕ → ℕ → List ℕ) → ℕ → ℕ → List ℕ
ended_plain domain plain = (handed_of (ask_end domain (Alone (handed_for plain))).world).plain
