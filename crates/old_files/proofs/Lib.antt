pub mod OldFacts
