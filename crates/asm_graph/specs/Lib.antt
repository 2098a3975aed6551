pub mod Graphs
pub mod Labels
pub mod Paths
pub mod PathGraphs
pub mod WayLaw
pub mod Arrows
pub mod Dot
pub mod code
