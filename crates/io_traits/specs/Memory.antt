-- The values of the shelf and the sink over memory.
use Rattle.std.specs.Prelude.{ℕ, ◌+◌, ◌-◌, ◌^◌, min, List, [], Option, unwrap_or, IsSome, refl}
use Rattle.std.specs.Ordering.{nat_cmp}
use Rattle.std.specs.Cmp.Lexicographic.{slice_cmp}
use Rattle.std.specs.Coded.{Coded, code_by, coded×, coded_ℕ, coded_list, coded_option}
use Rattle.std.specs.FinMap as map

-- a count that is one higher, or stands at its last value
abbrev pub one_more : ℕ → ℕ
one_more n = min (n + 1) (2 ^ 64 - 1)

-- what a sink took, the numbers of the calls that are to fail, and its counts of calls and faults
pub record MemoryOutput : Type 0 where
  pub taken : List ℕ
  pub fails : List ℕ
  pub calls : ℕ
  pub faults : ℕ

-- files by name
abbrev pub Files : Type 0
Files = map.FinMap (slice_cmp nat_cmp) (List ℕ)

-- the bytes of a name, none if it is not there
abbrev pub bytes_of : Files → List ℕ → List ℕ
bytes_of files name = unwrap_or (map.get files name) []

-- a file of this name is there
abbrev pub IsThere : Files → List ℕ → Type 0
IsThere files name = IsSome (map.get files name)

-- the files of a shelf, the numbers of the calls that are to fail, its counts of calls and faults, and the name of the file
-- of which reading failed last, if there was memory to keep it
pub record MemoryFiles : Type 0 where
  pub files : Files
  pub fails : List ℕ
  pub calls : ℕ
  pub reading_faults : ℕ
  pub writing_faults : ℕ
  pub unread : Option (List ℕ)

-- a shelf is stored as the tuple of its fields
abbrev pub memory_files_code : Coded MemoryFiles
memory_files_code =
    code_by (Files × (List ℕ × (ℕ × (ℕ × (ℕ × Option (List ℕ))))))
    (coded× (map.code (coded_list coded_ℕ) (coded_list coded_ℕ))
    (coded× (coded_list coded_ℕ) (coded× coded_ℕ (coded× coded_ℕ (coded× coded_ℕ (coded_option (coded_list coded_ℕ)))))))
    (λ s. (s.files, (s.fails, (s.calls, (s.reading_faults, (s.writing_faults, s.unread))))))
    (λ p. record {
      files = p.0;
      fails = p.1.0;
      calls = p.1.1.0;
      reading_faults = p.1.1.1.0;
      writing_faults = p.1.1.1.1.0;
      unread = p.1.1.1.1.1;
    })
    (λ _. refl)
