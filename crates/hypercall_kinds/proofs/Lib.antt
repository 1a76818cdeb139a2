pub mod ByKinds
