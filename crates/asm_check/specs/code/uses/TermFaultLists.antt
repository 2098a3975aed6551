-- Bridge to the code. The faults of the uses in a term, as a list, and what a name may stand for
-- there, by its number.
--     wrong_in_term spec u         the number of what is wrong with a use in a term, if anything is
--     faults_in_term spec u        the same, with its offset
--     arguments_by spec n          how many arguments the name with this number has, if it can stand
--                                  in a term
--     universe_by n                whether it is a universe
use Rattle.std.specs.Prelude.{ℕ, Bool, true, false, cond, nat_eq, List, [], ◌∷◌, length, Option, Some, None, option_map}
use Rattle.asm_syntax.specs.SourceTree.{Spec}
use Rattle.asm_check.specs.Limits.{domain_of}
use Rattle.asm_check.specs.Names.{Meaning, Derived, Role, InTerm, AsUniverse, AsResult, Use, declared, is_known, arguments_of}
use Rattle.asm_check.specs.Numbers.{functions_of, derived_of, declared_with_number}
use Rattle.asm_check.specs.declared.checked.NameNumber.{NameNumber}
use Rattle.asm_check.specs.declared.checked.NameNumber.TheVariants as number

-- ---- faults

-- n arguments, where so many are asked for, or no name can stand
abbrev pub wrong_count : Option ℕ → (n : ℕ) → Option ℕ
wrong_count None n = Some 9
wrong_count (Some count) n = cond (nat_eq n count) None (Some 10)

-- of a name that is declared so. In a term there are no other roles than the first three.
abbrev pub wrong_in : Role → (is_bound : Bool) → (n : ℕ) → Option Meaning → Option ℕ
wrong_in InTerm b n m = wrong_count (arguments_of InTerm b m) n
wrong_in AsUniverse b n m = cond (is_known AsUniverse false m) None (Some 9)
wrong_in AsResult b n m = cond b None (Some 17)
wrong_in role b n m = None

abbrev pub wrong_in_term : Spec → Use → Option ℕ
wrong_in_term spec u = wrong_in u.role u.is_bound u.count (declared spec u.name.text)

abbrev pub at_offset : ℕ → Option ℕ → List (ℕ × ℕ)
at_offset at None = []
at_offset at (Some number) = (at, number) ∷ []

abbrev pub faults_in_term : Spec → Use → List (ℕ × ℕ)
faults_in_term spec u = at_offset u.name.at (wrong_in_term spec u)

-- ---- numbers

-- how many arguments a function has that is declared so
abbrev pub arity_of : Meaning → ℕ
arity_of (Derived xs t) = length xs
arity_of m = length (domain_of m)

abbrev pub arguments_by : Spec → Option NameNumber → Option ℕ
arguments_by spec None = None
arguments_by spec (Some (number.Universe n)) = None
arguments_by spec (Some (number.Element n)) = Some 0
arguments_by spec (Some (number.Function n)) = option_map arity_of (declared_with_number (functions_of spec) n)
arguments_by spec (Some (number.Derived n)) = option_map arity_of (declared_with_number (derived_of spec) n)
arguments_by spec (Some (number.Rule n)) = None

abbrev pub universe_by : Option NameNumber → Bool
universe_by (Some (number.Universe n)) = true
universe_by it = false
