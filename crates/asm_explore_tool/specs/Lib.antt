pub mod Faults
pub mod GivenTexts
pub mod Outputs
