pub mod BundleFacts
pub mod FaultFacts
pub mod FileFacts
pub mod PutFacts
pub mod Refused
pub mod StreamFacts
