-- What a step does, as texts that are put one after another: the first after a gap, each other after a semicolon.
use Rattle.std.specs.Prelude.{ℕ, ◌≡◌, ◌-◌, ◌==◌, List, [], ◌∷◌, ◌++◌, codes, drop, if◌then◌else◌}
use Rattle.kernel_report.specs.Putting.{Putting, PutsMore}

-- 40 blanks
abbrev pub blanks : List ℕ
blanks = codes "                                        "

-- so many blanks, at most 40
abbrev pub pad : ℕ → List ℕ
pad count = drop (40 - count) blanks

-- before a text: so many blanks, or a semicolon if there are none
abbrev pub gap_text : ℕ → List ℕ
gap_text gap = if gap == 0 then codes "; " else pad gap

abbrev pub joined : ℕ → List (List ℕ) → List ℕ
joined gap [] = []
joined gap (e ∷ effects) = gap_text gap ++ (e ++ joined 0 effects)

-- the gap after these texts
abbrev pub gap_after : ℕ → List (List ℕ) → ℕ
gap_after gap [] = gap
gap_after gap (e ∷ effects) = 0

-- These texts were put, after a gap, and this gap is left.
pub record PutsEffects (old new : Putting) (gap left : ℕ) (effects : List (List ℕ)) : Type 0 where
  pub text : PutsMore old new (joined gap effects)
  pub gap_left : left ≡ gap_after gap effects
