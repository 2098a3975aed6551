-- Definition. The numbers of faults, and the pair of offset and number that a finding stands for.
use Rattle.std.specs.Prelude.{ℕ, Option, Some, None}
use Rattle.asm_check.specs.declared.error.FaultKind.{FaultKind}
use Rattle.asm_check.specs.declared.error.FaultKind.TheVariants.{Twice, Unknown, Arity, NotControlled, CyclicRule, CyclicDerived, Init, TooMany, TableEntry, ResultUse}
use Rattle.asm_check.specs.declared.error.CheckError.{CheckError}
use Rattle.asm_syntax.specs.SourceTree.{Spec, Term}
use Rattle.asm_syntax.specs.declared.input_error.InputError.{InputError}
use Rattle.asm_syntax.specs.declared.input_error.InputError.TheVariants.{Memory, Named}
use Rattle.asm_check.specs.Faults.{IsLeastFault}
use Rattle.asm_check.specs.TermFaults.{IsLeastTermFault}

abbrev pub number_of : FaultKind → ℕ
number_of Twice = 8
number_of Unknown = 9
number_of Arity = 10
number_of NotControlled = 11
number_of CyclicRule = 12
number_of CyclicDerived = 13
number_of Init = 14
number_of TooMany = 15
number_of TableEntry = 16
number_of ResultUse = 17

abbrev pub fault_of : CheckError → ℕ × ℕ
fault_of e = (e.at, number_of e.kind)

abbrev pub found_of : Option CheckError → Option (ℕ × ℕ)
found_of None = None
found_of (Some e) = Some (fault_of e)

-- what a refusal says of the specification: nothing if memory ran out
abbrev pub Explains : Spec → InputError CheckError → Type 0
Explains spec Memory = Unit {0}
Explains spec (Named e) = IsLeastFault spec e.at (number_of e.kind)

-- what it says of a term that is asked of the specification
abbrev pub ExplainsTerm : Spec → Term → InputError CheckError → Type 0
ExplainsTerm spec t Memory = Unit {0}
ExplainsTerm spec t (Named e) = IsLeastTermFault spec t e.at (number_of e.kind)
