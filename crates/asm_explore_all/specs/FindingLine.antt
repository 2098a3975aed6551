-- Definition. The first line of a report of all runs.
--     first_line finding words     what is found; these words describe the fault, if there is one
use Rattle.std.specs.Prelude.{ℕ, List, ◌++◌, Option, Some, None, codes, decimal}
use Rattle.asm_explore.specs.declared.exploration_result.Finding.{Finding}
use Rattle.asm_explore.specs.declared.exploration_result.Finding.TheVariants as finding
use Rattle.asm_explore_report.specs.FirstLine.{fault_line, first_state_line}

abbrev safe : ℕ → List ℕ
safe depth = codes "safe up to " ++ (decimal depth ++ codes " steps")

-- what ended the search, and up to how many steps it is safe, if up to any
abbrev pub limit_line : (name : List ℕ) → Option ℕ → List ℕ
limit_line name None = name
limit_line name (Some depth) = name ++ (codes ", " ++ safe depth)

abbrev pub first_line : Finding → (words : List ℕ) → List ℕ
first_line finding.Closed words = codes "closed"
first_line (finding.SafeTo depth) words = safe depth
first_line (finding.BadStep bad) words = fault_line bad.fault bad.step words
first_line finding.WrongFirst words = first_state_line words
first_line (finding.TooManyStates safe_to) words = limit_line (codes "too many states") safe_to
first_line (finding.TooManyOutcomes safe_to crowd) words = limit_line (codes "too many outcomes") safe_to
first_line (finding.NoMemory safe_to) words = limit_line (codes "too much memory") safe_to
first_line (finding.Unwritten unwritten) words = fault_line unwritten.fault unwritten.step words
