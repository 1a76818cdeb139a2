-- What the walk of an access depends on.
use Rattle.std.specs.Prelude.{ℕ, ◌≡◌, ◌+◌, ◌*◌, ◌/◌, ◌%◌, ◌<◌, List, [], ◌∷◌, ◌++◌, length, slice_index_or, Option, Some, None, Ok, Err, IfSome}
use Rattle.cloak_base.specs.declared.names.Frame.{Frame}
use Rattle.cloak_model.specs.declared.access.Access.{Access}
use Rattle.cloak_model.specs.declared.access.Walked.{Walked}
use Rattle.cloak_model.specs.Walk.{Walk, walk, walk_tables}

abbrev pub listed : Option Frame → List ℕ
listed None = []
listed (Some f) = f.0 ∷ []

-- the table frames that led somewhere
abbrev pub tables_of : Walked → List ℕ
tables_of w = listed w.pt1 ++ listed w.pt0

-- an access that leads somewhere read the frames that it names
abbrev pub WalkReaches : Type 0
WalkReaches = (ram : List (List ℕ)) (satp : ℕ) (a : Access) (w : Walked) → walk ram satp a ≡ Ok w
    → walk_tables ram satp a ≡ tables_of w

-- a frame has the same bytes in both memories
abbrev pub IsSame : List (List ℕ) → List (List ℕ) → Frame → Type 0
IsSame ram ram' f = slice_index_or ram' f.0 [] ≡ slice_index_or ram f.0 []

-- two memories of as many frames, with the same bytes in these tables
pub record HaveSameTables (pt1 pt0 : Option Frame) (ram ram' : List (List ℕ)) : Type 0 where
  pub count : length ram' ≡ length ram
  pub first : IfSome pt1 (IsSame ram ram')
  pub second : IfSome pt0 (IsSame ram ram')

-- it still leads there if those frames are the same
abbrev pub WalkKept : Type 0
WalkKept = (ram ram' : List (List ℕ)) (satp : ℕ) (a : Access) (w : Walked) → HaveSameTables w.pt1 w.pt0 ram ram'
    → walk ram satp a ≡ Ok w → walk ram' satp a ≡ Ok w

-- a walk that leads so much further
abbrev pub moved : ℕ → Walk → Walk
moved k (Ok w) = Ok (record w { pa = w.pa + k })
moved k (Err cause) = Err cause

-- the access of the same kind to the start of the page
abbrev pub page_access : Access → Access
page_access a = record a { va = 4096 * (a.va / 4096) }

-- all addresses of a page lead as far past where its start leads as they lie past its start
abbrev pub WalkOfPage : Type 0
WalkOfPage = (ram : List (List ℕ)) (satp : ℕ) (a : Access)
    → walk ram satp a ≡ moved (a.va % 4096) (walk ram satp (page_access a))

-- the frame is one of n
abbrev pub IsBelow : ℕ → Option Frame → Type 0
IsBelow n o = IfSome o (λ f. f.0 < n)

-- the frames that led somewhere are frames of RAM
abbrev pub WalkWithin : Type 0
WalkWithin = (ram : List (List ℕ)) (satp : ℕ) (a : Access) (w : Walked) → walk ram satp a ≡ Ok w
    → IsBelow (length ram) w.pt1 × IsBelow (length ram) w.pt0
