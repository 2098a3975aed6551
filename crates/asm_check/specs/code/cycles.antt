-- Bridge to the code. Steps between declarations: calls of rules and uses of derived functions, cycles and ranks.
pub mod CallsAndUses
pub mod CycleSearch
pub mod Graph
pub mod MarkedNodes
pub mod StepFaults
pub mod StepTables
pub mod StepsOfBody
