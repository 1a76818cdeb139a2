-- What a console stands for.
use Rattle.std.specs.Prelude.{ℕ, ◌≡◌, List, ◌++◌, length, take}
use Rattle.sha2.specs.Hashers.{Holds256}
use Rattle.kernel_report.specs.declared.console.Console.{Console}

-- the console was shown these bytes, of which some are hashed, and the others wait
pub record ConsoleShows (c : Console) (bytes : List ℕ) : Type 0 where
  pub hashed : List ℕ
  pub digest : Holds256 c.hasher hashed
  pub all : bytes ≡ hashed ++ take c.waiting c.gathered
  pub count : c.count ≡ length bytes
