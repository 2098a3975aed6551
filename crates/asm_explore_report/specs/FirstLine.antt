-- Definition. The first line of a report that has found a fault, which these words describe.
--     place_of fault step               where a fault of a step is said to be
--     fault_line fault step words       the line for a fault of a step
--     first_state_line words            the line for a first state in which a condition isn't true
use Rattle.std.specs.Prelude.{ℕ, List, ◌++◌, ◌-◌, codes, decimal}
use Rattle.asm_explore.specs.declared.fault.Fault.{Fault}
use Rattle.asm_explore.specs.declared.fault.Fault.TheVariants.{Exhausted, Inconsistent, Wrong, Deadlock}

-- A step goes wrong, or the state that it leads to; a deadlock is the state that it begins in.
abbrev pub place_of : Fault → (step : ℕ) → List ℕ
place_of Exhausted step = codes "in step " ++ decimal step
place_of Inconsistent step = codes "in step " ++ decimal step
place_of Wrong step = codes "after step " ++ decimal step
place_of Deadlock step = codes "after step " ++ decimal (step - 1)

abbrev pub fault_line : Fault → (step : ℕ) → (words : List ℕ) → List ℕ
fault_line fault step words = codes "fault " ++ (place_of fault step ++ (codes ": " ++ words))

abbrev pub first_state_line : (words : List ℕ) → List ℕ
first_state_line words = codes "fault after step 0: " ++ words
