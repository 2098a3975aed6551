-- Free. A program declares each name as what its number stands for, and universes have the values
-- of the signature's.
use Rattle.std.proofs.Common.{◌≡◌, ℕ, ◌<◌, Bool, true, false, cond, List, [], ◌∷◌, length, Option, Some, None, refl, sym, ap, ◌∙◌, arith}
use Rattle.std.specs.Prelude.{find, option_map, slice_get}
use Rattle.std.specs.List.{filter_map, cons_option}
use Rattle.asm_state.specs.declared.value.Value.{Value}
use Rattle.asm_state.specs.declared.function.Function as state
use Rattle.asm_state.specs.declared.function.FunctionKind.{FunctionKind}
use Rattle.asm_state.specs.declared.function.FunctionKind.TheVariants as kind
use Rattle.asm_state.specs.Signature.{Shape}
use Rattle.asm_syntax.specs.SourceTree.{Spec}
use Rattle.asm_syntax.specs.Tree.{Name}
use Rattle.asm_check.proofs.NameLemmas.FirstOfName.{texts_are_told}
use Rattle.asm_check.proofs.NumberLemmas.SignatureNumbers.{signature_numbers}
use Rattle.asm_check.specs.Faults.{IsWellFormed}
use Rattle.asm_check.specs.code.numbers.NumberTables.{IsInRange}
use Rattle.asm_check.specs.Names as names
use Rattle.asm_check.specs.Names.{Meaning, Declaration, declarations, is_text, declared as check_declared}
use Rattle.asm_check.specs.Numbers.{derived_of, rules_of, declared_with_number, named, named_as}
use Rattle.asm_check.specs.Shapes.{shape_of}
use Rattle.asm_check.specs.declared.checked.NameNumber.{NameNumber}
use Rattle.asm_check.specs.declared.checked.NameNumber.TheVariants as number
use Rattle.asm_meaning.specs.Program.{Declared, declared, look_up, Universe}
use Rattle.asm_meaning.specs.Value.{universe, elements_of}
use Rattle.asm_meaning.specs.Declarations.{held_as, function_at, body_of, universe_number, declared_in_program, numbered, paired, program_of}

-- what is found among the declarations that mean something
found : (spec : Spec) (x : Name) (ds : List Declaration) → (find (λ d. is_text d.name.text x) ds ≡ None → declared_in_program spec x ≡ None)
    → look_up (filter_map (paired spec) ds) x ≡ declared_in_program spec x
found spec x [] h = sym (h refl)
found spec x (d ∷ ds) h = by (found spec x ds) (is_text d.name.text x) refl
  where
    behind : (o : Option Declared) → is_text d.name.text x ≡ false → look_up (filter_map (paired spec) ds) x ≡ declared_in_program spec x
        → look_up (cons_option (option_map (λ it. (d.name.text, it)) o) (filter_map (paired spec) ds)) x ≡ declared_in_program spec x
    behind None e rest = rest
    behind (Some it) e rest = ap (λ b. cond b (Some it) (look_up (filter_map (paired spec) ds) x)) e ∙ rest

    here : (o : Option Declared) → o ≡ declared_in_program spec x → is_text d.name.text x ≡ true → (None ≡ declared_in_program spec x → look_up (filter_map (paired spec) ds) x ≡ declared_in_program spec x)
        → look_up (cons_option (option_map (λ it. (d.name.text, it)) o) (filter_map (paired spec) ds)) x ≡ declared_in_program spec x
    here None is e rest = rest is
    here (Some it) is e rest = ap (λ b. cond b (Some it) (look_up (filter_map (paired spec) ds) x)) e ∙ is

    by : ((find (λ d. is_text d.name.text x) ds ≡ None → declared_in_program spec x ≡ None) → look_up (filter_map (paired spec) ds) x ≡ declared_in_program spec x)
        → (b : Bool) → is_text d.name.text x ≡ b → look_up (filter_map (paired spec) (d ∷ ds)) x ≡ declared_in_program spec x
    by rest true e = here (declared_in_program spec d.name.text) (ap (declared_in_program spec) ((texts_are_told d.name.text x).0 e)) e (λ is. rest (λ none. sym is))
    by rest false e = behind (declared_in_program spec d.name.text) e (rest (λ none. h (ap (λ b. cond b (Some d) (find (λ d. is_text d.name.text x) ds)) e ∙ none)))

undeclared : (spec : Spec) (x : Name) → find (λ d. is_text d.name.text x) (declarations spec) ≡ None → declared_in_program spec x ≡ None
unfolding named check_declared
undeclared spec x e = ap (λ o. numbered spec (named_as spec x (option_map (λ d. d.meaning) o))) e

pub program_declares : (spec : Spec) (x : Name) → declared (program_of spec) x ≡ declared_in_program spec x
unfolding program_of
program_declares spec x = found spec x (declarations spec) (undeclared spec x)

-- ---- universes

elements_meant : (spec : Spec) (x : Name) → universe (program_of spec) x ≡ elements_of (numbered spec (named spec x))
elements_meant spec x = ap elements_of (program_declares spec x)

numbered_is : (spec : Spec) (it : Option NameNumber) (n : ℕ) (vs : List Value) → universe_number it ≡ Some n
    → slice_get (shape_of spec).universes n ≡ Some vs → elements_of (numbered spec it) ≡ vs
numbered_is spec (Some (number.Universe m)) n vs e at = let same : m ≡ n = cc in ap (λ k. elements_of (option_map Universe (slice_get (shape_of spec).universes k))) same ∙ ap (λ u. elements_of (option_map Universe u)) at
numbered_is spec (Some (number.Element m)) n vs e at = cc
numbered_is spec (Some (number.Function m)) n vs e at = cc
numbered_is spec (Some (number.Derived m)) n vs e at = cc
numbered_is spec (Some (number.Rule m)) n vs e at = cc
numbered_is spec None n vs e at = cc

pub universe_names-some : (spec : Spec) (x : Name) (n : ℕ) (vs : List Value) → universe_number (named spec x) ≡ Some n
    → slice_get (shape_of spec).universes n ≡ Some vs → universe (program_of spec) x ≡ vs
universe_names-some spec x n vs e at = elements_meant spec x ∙ numbered_is spec (named spec x) n vs e at

held_is_no_universe : (shape : Shape) (f : ℕ) (it : state.Function) (k : FunctionKind) → elements_of (Some (held_as shape f it k)) ≡ []
held_is_no_universe shape f it kind.Controlled = refl
held_is_no_universe shape f it kind.Static = refl

function_is_no_universe : (shape : Shape) (f : ℕ) (it : Option state.Function) → elements_of (function_at shape f it) ≡ []
function_is_no_universe shape f None = refl
function_is_no_universe shape f (Some it) = held_is_no_universe shape f it it.kind

body_is_no_universe : (m : Option Meaning) → elements_of (body_of m) ≡ []
body_is_no_universe None = refl
body_is_no_universe (Some names.Predeclared) = refl
body_is_no_universe (Some (names.Range first last)) = refl
body_is_no_universe (Some (names.Enumeration k)) = refl
body_is_no_universe (Some (names.Element k)) = refl
body_is_no_universe (Some (names.Controlled domain)) = refl
body_is_no_universe (Some (names.Static domain)) = refl
body_is_no_universe (Some (names.Derived xs t)) = refl
body_is_no_universe (Some (names.NamedRule xs P)) = refl

number_is_no_universe : (spec : Spec) (it : Option NameNumber) → universe_number it ≡ None → elements_of (numbered spec it) ≡ []
number_is_no_universe spec None is = refl
number_is_no_universe spec (Some (number.Universe n)) is = cc
number_is_no_universe spec (Some (number.Element n)) is = refl
number_is_no_universe spec (Some (number.Function f)) is = function_is_no_universe (shape_of spec) f (slice_get (shape_of spec).functions f)
number_is_no_universe spec (Some (number.Derived d)) is = body_is_no_universe (declared_with_number (derived_of spec) d)
number_is_no_universe spec (Some (number.Rule r)) is = body_is_no_universe (declared_with_number (rules_of spec) r)

pub universe_names-none : (spec : Spec) (x : Name) → universe_number (named spec x) ≡ None → universe (program_of spec) x ≡ []
universe_names-none spec x is = elements_meant spec x ∙ number_is_no_universe spec (named spec x) is

-- the number of a universe is that of one in the signature
pub universe_names-in_range : (spec : Spec) (it : Option NameNumber) (n : ℕ) → IsWellFormed spec → IsInRange spec it → universe_number it ≡ Some n
    → n < length (shape_of spec).universes
universe_names-in_range spec (Some (number.Universe m)) n good below e = let same = (signature_numbers spec good).count_of_universes in let is : m ≡ n = cc in omega (arith, same, below, is)
universe_names-in_range spec (Some (number.Element m)) n good below e = cc
universe_names-in_range spec (Some (number.Function m)) n good below e = cc
universe_names-in_range spec (Some (number.Derived m)) n good below e = cc
universe_names-in_range spec (Some (number.Rule m)) n good below e = cc
universe_names-in_range spec None n good below e = cc
