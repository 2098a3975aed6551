-- Free. Steps between declarations: calls of rules and uses of derived functions, cycles and ranks.
pub mod AcyclicNames
pub mod CallsAndUses
pub mod CycleNotes
pub mod CycleSearchSteps
pub mod HeightsAreRanks
pub mod MarkedIsReached
pub mod MarkedNodes
pub mod Ranks
pub mod ReachabilityTest
pub mod SearchesInTurn
pub mod Simulation
pub mod StepFaults
pub mod StepsCollected
