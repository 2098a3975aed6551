pub mod Standing
pub mod StandingLaws
pub mod ClashOfRun
pub mod code
