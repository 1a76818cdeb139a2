mod KernelEnds
mod KernelFits
mod KernelGains
pub mod KernelHarts
mod KernelItems
mod KernelRam
mod KernelSteps
pub mod DomainAsks
pub mod DomainFiles
pub mod DomainHarts
pub mod DomainLoads
pub mod DomainPlaces
pub mod DomainSlots
pub mod DomainTakes
pub mod DomainTried
pub mod DomainZeros
pub mod SideAnswers
pub mod SideFollows
