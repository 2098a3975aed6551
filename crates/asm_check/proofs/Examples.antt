-- Law. Examples of faults of small specifications. Above each one is its text, after the line
-- `CoreASM T` and, if nothing else is said, `init M`. Each line ends with a line feed, and indices
-- are counted from 0.
use Rattle.std.proofs.Common.{◌≡◌, ℕ, ◌+◌, ◌≤ℤ◌, pos, List, [], ◌∷◌, None, Some, refl, arith}
use Rattle.std.specs.Prelude.{codes}
use Rattle.std.proofs.lemmas.Int.{ints}
use Rattle.asm_state.specs.Bounds.{greatest_number}
use Rattle.asm_state.specs.declared.signature_limits.TheConstants.{MAX_LOCATIONS}
use Rattle.asm_state.specs.declared.number.Number.{Number}
use Rattle.asm_state.specs.declared.function.FunctionKind.TheVariants.{Controlled, Static}
use Rattle.asm_syntax.specs.declared.term.Literal.TheVariants as literal
use Rattle.asm_syntax.specs.SourceTree.{Name, Term, Constant, Named, Result, no_terms, term_then, Skip, Assign, Call, Let, While, SetResult, Const, Plain, Entry, Each, Entries, Item, Init, Enum, Universe, Function, Derived, NamedRule, Spec}
use Rattle.asm_check.specs.code.FaultLists.{twice_faults, use_faults, init_faults, limit_faults, entry_faults, main_rules_with_result}
use Rattle.asm_check.specs.Faults.{IsLeastFault, IsWellFormed}
use Rattle.asm_check.specs.Limits.{is_controlled, size_of, domain_of, lists_of}
use Rattle.asm_check.specs.Names as names
use Rattle.asm_check.specs.Names.{Meaning, declared, declarations, first_declarations, uses}
use Rattle.asm_check.specs.Numbers.{elements_of, rules_of}
use Rattle.asm_check.specs.Shapes.{texts_of}
use Rattle.asm_check.specs.WithinLimits.{total}
use Rattle.asm_check.specs.CallGraph.{called, used, height}
use Rattle.asm_check.proofs.AllFaults.{least_is, none_is}

-- ---- parts of trees

abbrev name : ℕ → List ℕ → Name
name at text = record { at = at; text = text }

abbrev number : (n : ℕ) → pos n ≤ℤ greatest_number → Number
number n small = record { value = pos n; low = omega (arith, ints); high = small }

abbrev zero' : Number
zero' = number 0 (omega (arith, ints))

abbrev one : Number
one = number 1 (omega (arith, ints))

abbrev nought : Term
nought = Constant (literal.Number zero')

abbrev no_value : Const
no_value = Plain literal.Undef

abbrev entry : ℕ → Number → Entry
entry at n = record { at = at; arguments = Plain (literal.Number n) ∷ []; value = no_value }

-- the name with one argument
abbrev applied : Name → Term
applied x = Named x (term_then nought no_terms)

abbrev d' : List ℕ
d' = codes "d"

abbrev e' : List ℕ
e' = codes "e"

abbrev g' : List ℕ
g' = codes "g"

abbrev p' : List ℕ
p' = codes "p"

abbrev r' : List ℕ
r' = codes "r"

abbrev result' : List ℕ
result' = codes "result"

abbrev x' : List ℕ
x' = codes "x"

abbrev y' : List ℕ
y' = codes "y"

abbrev z' : List ℕ
z' = codes "z"

abbrev E' : List ℕ
E' = codes "E"

abbrev M' : List ℕ
M' = codes "M"

abbrev U' : List ℕ
U' = codes "U"

abbrev V' : List ℕ
V' = codes "V"

abbrev with_length : ℕ → List Item → Spec
with_length length items = record { name = name 8 (codes "T"); items = items; length = length }

-- after `init M`
abbrev text : ℕ → List Item → Spec
text length items = with_length length (Init (name 15 M') ∷ items)

-- `rule M = skip`, with `M` at this offset
abbrev main : ℕ → Item
main at = NamedRule (name at M') [] Skip

-- `function controlled x initially 0`, as the first of these lines
abbrev x_declared : Item
x_declared = Function (name 37 x') Controlled [] None (Some (Each (Plain (literal.Number zero'))))

-- ---- no fault

-- rule M = skip
abbrev skipping : Spec
skipping = text 31 (main 22 ∷ [])

no_fault_in_skipping : IsWellFormed skipping
unfolding declared declarations first_declarations uses called used height twice_faults use_faults init_faults limit_faults entry_faults main_rules_with_result
no_fault_in_skipping = none_is skipping refl

-- rule M = r(0)
-- rule r(p) = skip
abbrev calling : Spec
calling = text 48 (NamedRule (name 22 M') [] (Call None (name 26 r') (term_then nought no_terms)) ∷ NamedRule (name 36 r') (name 38 p' ∷ []) Skip ∷ [])

no_fault_in_calling : IsWellFormed calling
unfolding declared declarations first_declarations uses called used height twice_faults use_faults init_faults limit_faults entry_faults main_rules_with_result
no_fault_in_calling = none_is calling refl

-- function controlled x initially 0
-- rule M = x <- r
-- rule r = result := 0
abbrev answering : Spec
answering = text 88 (x_declared ∷ NamedRule (name 56 M') [] (Call (Some (name 60 x', no_terms)) (name 65 r') no_terms) ∷ NamedRule (name 72 r') [] (SetResult (name 76 result') nought) ∷ [])

no_fault_in_answering : IsWellFormed answering
unfolding declared declarations first_declarations uses called used height twice_faults use_faults init_faults limit_faults entry_faults main_rules_with_result
no_fault_in_answering = none_is answering refl

-- universe U = 0 .. 1
-- function static g : U initially { (1) -> undef, (0) -> undef }
-- rule M = skip
abbrev tabled : Spec
tabled = text 114 (Universe (name 26 U') zero' one ∷ Function (name 53 g') Static (name 57 U' ∷ []) None (Some (Entries (entry 71 one ∷ entry 85 zero' ∷ []))) ∷ main 105 ∷ [])

no_fault_in_tabled : IsWellFormed tabled
unfolding declared declarations first_declarations uses called used height twice_faults use_faults init_faults limit_faults entry_faults main_rules_with_result
no_fault_in_tabled = none_is tabled refl

-- universe U = 0 .. 254
-- universe V = 0 .. 256
-- function controlled x : U * V
-- rule M = skip
abbrev all_locations : Spec
all_locations =
    text 105 (Universe (name 26 U') zero' (number 254 (omega (arith, ints))) ∷ Universe (name 48 V') zero' (number 256 (omega (arith, ints))) ∷ Function (name 81 x') Controlled (name 85 U' ∷ name 89 V' ∷ []) None None ∷ main 96 ∷ [])

-- 255 * 257 of argument lists, and the stray location
as_many_as_there_can_be : total is_controlled (λ m. lists_of all_locations (domain_of m) + 1) (first_declarations all_locations) ≡ MAX_LOCATIONS
unfolding declarations first_declarations
as_many_as_there_can_be = refl

no_fault_in_all_locations : IsWellFormed all_locations
unfolding declared declarations first_declarations uses called used height twice_faults use_faults init_faults limit_faults entry_faults main_rules_with_result
no_fault_in_all_locations = none_is all_locations refl

-- ---- one fault of each number, or the least of several

-- rule M = skip
-- rule M(p) = skip
abbrev declared_again : Spec
declared_again = text 48 (main 22 ∷ NamedRule (name 36 M') (name 38 p' ∷ []) Skip ∷ [])

fault_in_declared_again : IsLeastFault declared_again 36 8
unfolding declared declarations first_declarations uses called used height twice_faults use_faults init_faults limit_faults entry_faults main_rules_with_result
fault_in_declared_again = least_is declared_again 36 8 refl

-- rule M = skip
-- rule ANY = skip
abbrev declared_from_the_start : Spec
declared_from_the_start = text 47 (main 22 ∷ NamedRule (name 36 (codes "ANY")) [] Skip ∷ [])

fault_in_declared_from_the_start : IsLeastFault declared_from_the_start 36 8
unfolding declared declarations first_declarations uses called used height twice_faults use_faults init_faults limit_faults entry_faults main_rules_with_result
fault_in_declared_from_the_start = least_is declared_from_the_start 36 8 refl

-- rule M = skip
-- derived d(p, p) = 0
abbrev parameter_twice : Spec
parameter_twice = text 51 (main 22 ∷ Derived (name 39 d') (name 41 p' ∷ name 44 p' ∷ []) nought ∷ [])

fault_in_parameter_twice : IsLeastFault parameter_twice 44 8
unfolding declared declarations first_declarations uses called used height twice_faults use_faults init_faults limit_faults entry_faults main_rules_with_result
fault_in_parameter_twice = least_is parameter_twice 44 8 refl

-- rule M = x := 0
abbrev unknown_target : Spec
unknown_target = text 33 (NamedRule (name 22 M') [] (Assign (name 26 x') no_terms nought) ∷ [])

fault_in_unknown_target : IsLeastFault unknown_target 26 9
unfolding declared declarations first_declarations uses called used height twice_faults use_faults init_faults limit_faults entry_faults main_rules_with_result
fault_in_unknown_target = least_is unknown_target 26 9 refl

-- rule M = while y do skip endwhile
abbrev unknown_condition : Spec
unknown_condition = text 51 (NamedRule (name 22 M') [] (While (Named (name 32 y') no_terms) Skip) ∷ [])

fault_in_unknown_condition : IsLeastFault unknown_condition 32 9
unfolding declared declarations first_declarations uses called used height twice_faults use_faults init_faults limit_faults entry_faults main_rules_with_result
fault_in_unknown_condition = least_is unknown_condition 32 9 refl

-- rule M = x <- r
-- rule r = skip
abbrev unknown_location : Spec
unknown_location = text 47 (NamedRule (name 22 M') [] (Call (Some (name 26 x', no_terms)) (name 31 r') no_terms) ∷ NamedRule (name 38 r') [] Skip ∷ [])

fault_in_unknown_location : IsLeastFault unknown_location 26 9
unfolding declared declarations first_declarations uses called used height twice_faults use_faults init_faults limit_faults entry_faults main_rules_with_result
fault_in_unknown_location = least_is unknown_location 26 9 refl

-- function controlled x initially 0
-- rule M = x <- r
abbrev unknown_answer : Spec
unknown_answer = text 67 (x_declared ∷ NamedRule (name 56 M') [] (Call (Some (name 60 x', no_terms)) (name 65 r') no_terms) ∷ [])

fault_in_unknown_answer : IsLeastFault unknown_answer 65 9
unfolding declared declarations first_declarations uses called used height twice_faults use_faults init_faults limit_faults entry_faults main_rules_with_result
fault_in_unknown_answer = least_is unknown_answer 65 9 refl

-- enum E = { e }
-- rule M = let y = e(0) in skip endlet
abbrev element_with_argument : Spec
element_with_argument = text 69 (Enum (name 22 E') (name 28 e' ∷ []) ∷ NamedRule (name 37 M') [] (Let (name 45 y') (applied (name 49 e')) Skip) ∷ [])

fault_in_element_with_argument : IsLeastFault element_with_argument 49 10
unfolding declared declarations first_declarations uses called used height twice_faults use_faults init_faults limit_faults entry_faults main_rules_with_result
fault_in_element_with_argument = least_is element_with_argument 49 10 refl

-- rule M = let y = 0 in let z = y(0) in skip endlet endlet
abbrev bound_with_argument : Spec
bound_with_argument = text 74 (NamedRule (name 22 M') [] (Let (name 30 y') nought (Let (name 43 z') (applied (name 47 y')) Skip)) ∷ [])

fault_in_bound_with_argument : IsLeastFault bound_with_argument 47 10
unfolding declared declarations first_declarations uses called used height twice_faults use_faults init_faults limit_faults entry_faults main_rules_with_result
fault_in_bound_with_argument = least_is bound_with_argument 47 10 refl

-- function controlled x initially 0
-- rule M = x(0) <- r
-- rule r = skip
abbrev location_with_argument : Spec
location_with_argument = text 84 (x_declared ∷ NamedRule (name 56 M') [] (Call (Some (name 60 x', term_then nought no_terms)) (name 68 r') no_terms) ∷ NamedRule (name 75 r') [] Skip ∷ [])

fault_in_location_with_argument : IsLeastFault location_with_argument 60 10
unfolding declared declarations first_declarations uses called used height twice_faults use_faults init_faults limit_faults entry_faults main_rules_with_result
fault_in_location_with_argument = least_is location_with_argument 60 10 refl

-- function controlled x initially 0
-- rule M = x <- r(0)
-- rule r = skip
abbrev answer_with_argument : Spec
answer_with_argument = text 84 (x_declared ∷ NamedRule (name 56 M') [] (Call (Some (name 60 x', no_terms)) (name 65 r') (term_then nought no_terms)) ∷ NamedRule (name 75 r') [] Skip ∷ [])

fault_in_answer_with_argument : IsLeastFault answer_with_argument 65 10
unfolding declared declarations first_declarations uses called used height twice_faults use_faults init_faults limit_faults entry_faults main_rules_with_result
fault_in_answer_with_argument = least_is answer_with_argument 65 10 refl

-- function static g initially 1
-- rule M = g := 2
abbrev static_target : Spec
static_target = text 63 (Function (name 33 g') Static [] None (Some (Each (Plain (literal.Number one)))) ∷ NamedRule (name 52 M') [] (Assign (name 56 g') no_terms nought) ∷ [])

fault_in_static_target : IsLeastFault static_target 56 11
unfolding declared declarations first_declarations uses called used height twice_faults use_faults init_faults limit_faults entry_faults main_rules_with_result
fault_in_static_target = least_is static_target 56 11 refl

-- function static g initially 1
-- rule M = g <- r
-- rule r = skip
abbrev static_location : Spec
static_location = text 77 (Function (name 33 g') Static [] None (Some (Each (Plain (literal.Number one)))) ∷ NamedRule (name 52 M') [] (Call (Some (name 56 g', no_terms)) (name 61 r') no_terms) ∷ NamedRule (name 68 r') [] Skip ∷ [])

fault_in_static_location : IsLeastFault static_location 56 11
unfolding declared declarations first_declarations uses called used height twice_faults use_faults init_faults limit_faults entry_faults main_rules_with_result
fault_in_static_location = least_is static_location 56 11 refl

-- rule M = let y = 0 in y := 0 endlet
abbrev bound_target : Spec
bound_target = text 53 (NamedRule (name 22 M') [] (Let (name 30 y') nought (Assign (name 39 y') no_terms nought)) ∷ [])

fault_in_bound_target : IsLeastFault bound_target 39 11
unfolding declared declarations first_declarations uses called used height twice_faults use_faults init_faults limit_faults entry_faults main_rules_with_result
fault_in_bound_target = least_is bound_target 39 11 refl

-- rule M = r
-- rule r = M
abbrev circle_of_calls : Spec
circle_of_calls = text 39 (NamedRule (name 22 M') [] (Call None (name 26 r') no_terms) ∷ NamedRule (name 33 r') [] (Call None (name 37 M') no_terms) ∷ [])

fault_in_circle_of_calls : IsLeastFault circle_of_calls 22 12
unfolding declared declarations first_declarations uses called used height twice_faults use_faults init_faults limit_faults entry_faults main_rules_with_result
fault_in_circle_of_calls = least_is circle_of_calls 22 12 refl

-- function controlled x initially 0
-- rule M = x <- M
abbrev circle_of_answers : Spec
circle_of_answers = text 67 (x_declared ∷ NamedRule (name 56 M') [] (Call (Some (name 60 x', no_terms)) (name 65 M') no_terms) ∷ [])

fault_in_circle_of_answers : IsLeastFault circle_of_answers 56 12
unfolding declared declarations first_declarations uses called used height twice_faults use_faults init_faults limit_faults entry_faults main_rules_with_result
fault_in_circle_of_answers = least_is circle_of_answers 56 12 refl

-- rule M = skip
-- derived d = d
abbrev circle_of_uses : Spec
circle_of_uses = text 45 (main 22 ∷ Derived (name 39 d') [] (Named (name 43 d') no_terms) ∷ [])

fault_in_circle_of_uses : IsLeastFault circle_of_uses 39 13
unfolding declared declarations first_declarations uses called used height twice_faults use_faults init_faults limit_faults entry_faults main_rules_with_result
fault_in_circle_of_uses = least_is circle_of_uses 39 13 refl

-- without `init M`
-- rule M = skip
abbrev no_start : Spec
no_start = with_length 24 (main 15 ∷ [])

fault_in_no_start : IsLeastFault no_start 24 14
unfolding declared declarations first_declarations uses called used height twice_faults use_faults init_faults limit_faults entry_faults main_rules_with_result
fault_in_no_start = least_is no_start 24 14 refl

-- init r
-- rule M = skip
-- rule r = skip
abbrev two_starts : Spec
two_starts = text 52 (Init (name 22 r') ∷ main 29 ∷ NamedRule (name 43 r') [] Skip ∷ [])

fault_in_two_starts : IsLeastFault two_starts 22 14
unfolding declared declarations first_declarations uses called used height twice_faults use_faults init_faults limit_faults entry_faults main_rules_with_result
fault_in_two_starts = least_is two_starts 22 14 refl

-- rule M(p) = skip
abbrev start_with_parameter : Spec
start_with_parameter = text 34 (NamedRule (name 22 M') (name 24 p' ∷ []) Skip ∷ [])

fault_in_start_with_parameter : IsLeastFault start_with_parameter 15 14
unfolding declared declarations first_declarations uses called used height twice_faults use_faults init_faults limit_faults entry_faults main_rules_with_result
fault_in_start_with_parameter = least_is start_with_parameter 15 14 refl

-- universe U = 0 .. 4096
-- rule M = skip
abbrev wide_universe : Spec
wide_universe = text 54 (Universe (name 26 U') zero' (number 4096 (omega (arith, ints))) ∷ main 45 ∷ [])

fault_in_wide_universe : IsLeastFault wide_universe 26 15
unfolding declared declarations first_declarations uses called used height twice_faults use_faults init_faults limit_faults entry_faults main_rules_with_result
fault_in_wide_universe = least_is wide_universe 26 15 refl

-- universe U = 0 .. 255
-- universe V = 0 .. 255
-- function controlled x : U * V
-- rule M = skip
abbrev too_many_locations : Spec
too_many_locations =
    text 105 (Universe (name 26 U') zero' (number 255 (omega (arith, ints))) ∷ Universe (name 48 V') zero' (number 255 (omega (arith, ints))) ∷ Function (name 81 x') Controlled (name 85 U' ∷ name 89 V' ∷ []) None None ∷ main 96 ∷ [])

fault_in_too_many_locations : IsLeastFault too_many_locations 81 15
unfolding declared declarations first_declarations uses called used height twice_faults use_faults init_faults limit_faults entry_faults main_rules_with_result
fault_in_too_many_locations = least_is too_many_locations 81 15 refl

-- universe U = 0 .. 0
-- function static g : U initially { (0) -> undef, (0) -> undef }
-- rule M = skip
abbrev entry_twice : Spec
entry_twice = text 114 (Universe (name 26 U') zero' zero' ∷ Function (name 53 g') Static (name 57 U' ∷ []) None (Some (Entries (entry 71 zero' ∷ entry 85 zero' ∷ []))) ∷ main 105 ∷ [])

fault_in_entry_twice : IsLeastFault entry_twice 85 16
unfolding declared declarations first_declarations uses called used height twice_faults use_faults init_faults limit_faults entry_faults main_rules_with_result
fault_in_entry_twice = least_is entry_twice 85 16 refl

-- universe U = 0 .. 0
-- function static g : U initially { (1) -> undef }
-- rule M = skip
abbrev entry_outside : Spec
entry_outside = text 100 (Universe (name 26 U') zero' zero' ∷ Function (name 53 g') Static (name 57 U' ∷ []) None (Some (Entries (entry 71 one ∷ []))) ∷ main 91 ∷ [])

fault_in_entry_outside : IsLeastFault entry_outside 71 16
unfolding declared declarations first_declarations uses called used height twice_faults use_faults init_faults limit_faults entry_faults main_rules_with_result
fault_in_entry_outside = least_is entry_outside 71 16 refl

-- derived d = result
-- rule M = skip
abbrev derived_answer : Spec
derived_answer = text 50 (Derived (name 25 d') [] (Result (name 29 result')) ∷ main 41 ∷ [])

fault_in_derived_answer : IsLeastFault derived_answer 29 17
unfolding declared declarations first_declarations uses called used height twice_faults use_faults init_faults limit_faults entry_faults main_rules_with_result
fault_in_derived_answer = least_is derived_answer 29 17 refl

-- rule M = r
-- rule r = result := 0
abbrev answer_to_nobody : Spec
answer_to_nobody = text 49 (NamedRule (name 22 M') [] (Call None (name 26 r') no_terms) ∷ NamedRule (name 33 r') [] (SetResult (name 37 result') nought) ∷ [])

fault_in_answer_to_nobody : IsLeastFault answer_to_nobody 26 17
unfolding declared declarations first_declarations uses called used height twice_faults use_faults init_faults limit_faults entry_faults main_rules_with_result
fault_in_answer_to_nobody = least_is answer_to_nobody 26 17 refl

-- function controlled x initially 0
-- rule M = r
-- rule r = x := result
abbrev answer_that_is_read : Spec
answer_that_is_read = text 83 (x_declared ∷ NamedRule (name 56 M') [] (Call None (name 60 r') no_terms) ∷ NamedRule (name 67 r') [] (Assign (name 71 x') no_terms (Result (name 76 result'))) ∷ [])

fault_in_answer_that_is_read : IsLeastFault answer_that_is_read 60 17
unfolding declared declarations first_declarations uses called used height twice_faults use_faults init_faults limit_faults entry_faults main_rules_with_result
fault_in_answer_that_is_read = least_is answer_that_is_read 60 17 refl

-- rule M = result := 0
abbrev start_that_answers : Spec
start_that_answers = text 38 (NamedRule (name 22 M') [] (SetResult (name 26 result') nought) ∷ [])

fault_in_start_that_answers : IsLeastFault start_that_answers 15 17
unfolding declared declarations first_declarations uses called used height twice_faults use_faults init_faults limit_faults entry_faults main_rules_with_result
fault_in_start_that_answers = least_is start_that_answers 15 17 refl

-- ---- a later declaration counts for nothing else

-- enum E = { d, e }
-- enum U = { e, g }
-- rule M = skip
-- rule M(p) = skip
abbrev repeating : Spec
repeating = text 84 (Enum (name 22 E') (name 28 d' ∷ name 31 e' ∷ []) ∷ Enum (name 40 U') (name 46 e' ∷ name 49 g' ∷ []) ∷ main 58 ∷ NamedRule (name 72 M') (name 74 p' ∷ []) Skip ∷ [])

the_first_counts : declared repeating M' ≡ Some (names.NamedRule [] Skip)
unfolding declared declarations
the_first_counts = refl

one_rule : texts_of (rules_of repeating) ≡ M' ∷ []
unfolding declarations first_declarations
one_rule = refl

three_elements : texts_of (elements_of repeating) ≡ d' ∷ e' ∷ g' ∷ []
unfolding declarations first_declarations
three_elements = refl

of_the_first_enumeration : declared repeating e' ≡ Some (names.Element 1)
unfolding declared declarations
of_the_first_enumeration = refl

one_of_its_own : size_of repeating (names.Enumeration 2) ≡ 1
unfolding declarations first_declarations
one_of_its_own = refl
