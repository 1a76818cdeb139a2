mod FormFacts
mod FoundFacts
mod NumberFacts
