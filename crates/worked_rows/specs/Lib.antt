-- what the rows run
pub mod Images
pub mod Runs
pub mod JointRuns
-- the rows
pub mod ImageRows
pub mod DomainRows
pub mod JointRows
pub mod MemoryRows
pub mod AloneRows
pub mod AtomicRows
pub mod StoreRows
pub mod PremiseRows
