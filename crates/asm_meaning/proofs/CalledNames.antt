-- Free. What a call tells, and does, of a name that stands for no rule.
use Rattle.std.proofs.Common.{◌≡◌, ℕ, zero, suc, true, List, [], ◌∷◌, Option, Some, None, refl, sym, ap, ◌∙◌, arith}
use Rattle.std.specs.List.{All}
use Rattle.std.specs.Prelude.{option_map, slice_get}
use Rattle.std.proofs.lemmas.List.Elements.{filter_passes}
use Rattle.asm_state.specs.declared.function.Function as state
use Rattle.asm_state.specs.declared.function.FunctionKind.{FunctionKind}
use Rattle.asm_state.specs.declared.function.FunctionKind.TheVariants as kind
use Rattle.asm_state.specs.declared.value.Value.{Value}
use Rattle.asm_state.specs.Location.{State}
use Rattle.asm_state.specs.Signature.{Shape}
use Rattle.asm_syntax.specs.SourceTree.{Spec}
use Rattle.asm_syntax.specs.Tree as tree
use Rattle.asm_check.specs.Names as names
use Rattle.asm_check.specs.Names.{Meaning, Declaration, first_declarations}
use Rattle.asm_check.specs.Numbers.{is_derived, derived_of, declared_with_number, named}
use Rattle.asm_check.specs.Shapes.{shape_of}
use Rattle.asm_check.specs.declared.checked.NameNumber.{NameNumber}
use Rattle.asm_check.specs.declared.checked.NameNumber.TheVariants as number
use Rattle.asm_reader.specs.ScriptLines.{Script, pick}
use Rattle.asm_meaning.specs.Declarations.{held_as, function_at, body_of, numbered, program_of, rule_number}
use Rattle.asm_meaning.specs.Does.{nothing, does}
use Rattle.asm_meaning.specs.Program.{Program, Declared, Universe, Environment, declared}
use Rattle.asm_meaning.specs.Story.{Story, Silent, Telling, outcome_of, called_tells, telling, tells_within, tells}
use Rattle.asm_meaning.specs.Yields.{Path}
use Rattle.asm_meaning.proofs.MeantDeclarations.{program_declares}
use Rattle.asm_meaning.proofs.Stories.{told_outcomes}

module _ (program : Program) (turns : ℕ) (chosen : Path → ℕ) (body : tree.Rule → Telling) (to : Option (tree.Name × tree.Terms)) (ts : tree.Terms) (A : State) (e : Environment) (p : Path) where
  abbrev calls : Option Declared → Story
  calls it = called_tells program turns chosen body it to ts A e p

  held_is_no_rule : (shape : Shape) (f : ℕ) (it : state.Function) (k : FunctionKind) → Silent ≡ calls (Some (held_as shape f it k))
  held_is_no_rule shape f it kind.Controlled = refl
  held_is_no_rule shape f it kind.Static = refl

  function_is_no_rule : (shape : Shape) (f : ℕ) (it : Option state.Function) → Silent ≡ calls (function_at shape f it)
  function_is_no_rule shape f None = refl
  function_is_no_rule shape f (Some it) = held_is_no_rule shape f it it.kind

  universe_is_no_rule : (u : Option (List Value)) → Silent ≡ calls (option_map Universe u)
  universe_is_no_rule None = refl
  universe_is_no_rule (Some vs) = refl

  derived_is_no_rule : (m : Meaning) → is_derived m ≡ true → Silent ≡ calls (body_of (Some m))
  derived_is_no_rule (names.NamedRule xs P) is = cc
  derived_is_no_rule m is = refl

  none_is_a_rule : (ds : List Declaration) (d : ℕ) → All (λ d. is_derived d.meaning ≡ true) ds → Silent ≡ calls (body_of (declared_with_number ds d))
  none_is_a_rule [] d each = refl
  none_is_a_rule (d ∷ ds) zero each = derived_is_no_rule d.meaning (each 0 d (omega arith))
  none_is_a_rule (d ∷ ds) (suc n) each = none_is_a_rule ds n (λ k d below. each (suc k) d (omega arith))

  no_rule : (spec : Spec) (it : Option NameNumber) → rule_number it ≡ None → Silent ≡ calls (numbered spec it)
  no_rule spec None other = refl
  no_rule spec (Some (number.Universe n)) other = universe_is_no_rule (slice_get (shape_of spec).universes n)
  no_rule spec (Some (number.Element n)) other = refl
  no_rule spec (Some (number.Function f)) other = function_is_no_rule (shape_of spec) f (slice_get (shape_of spec).functions f)
  no_rule spec (Some (number.Derived d)) other = none_is_a_rule (derived_of spec) d (filter_passes (λ d. is_derived d.meaning) (first_declarations spec))
  no_rule spec (Some (number.Rule r)) other = cc

-- ---- what a call tells

-- the body of the rule that is called is told one nesting further down
call_tells : (program : Program) (turns : ℕ) (script : Script) (step : ℕ) (A : State) (e : Environment) (p : Path) (to : Option (tree.Name × tree.Terms)) (f : tree.Name) (ts : tree.Terms)
    → tells program turns script step A e p (tree.Call to f ts)
    ≡ called_tells program turns (pick script step) (tells_within program turns (pick script step) 16) (declared program f) to ts A e p
unfolding tells tells_within telling
call_tells program turns script step A e p to f ts = refl

pub untold_names : (spec : Spec) (turns : ℕ) (script : Script) (step : ℕ) (A : State) (e : Environment) (p : Path) (to : Option (tree.Name × tree.Terms)) (f : tree.Name) (ts : tree.Terms) (it : Option NameNumber)
    → it ≡ named spec f → rule_number it ≡ None → Silent ≡ tells (program_of spec) turns script step A e p (tree.Call to f ts)
untold_names spec turns script step A e p to f ts it is other =
    let runs = called_tells (program_of spec) turns (pick script step) (tells_within (program_of spec) turns (pick script step) 16) in
    no_rule (program_of spec) turns (pick script step) (tells_within (program_of spec) turns (pick script step) 16) to ts A e p spec it other
    ∙ ap (λ n. runs (numbered spec n) to ts A e p) is
    ∙ ap (λ it. runs it to ts A e p) (sym (program_declares spec f))
    ∙ sym (call_tells (program_of spec) turns script step A e p to f ts)

pub called_names : (spec : Spec) (turns : ℕ) (script : Script) (step : ℕ) (A : State) (e : Environment) (p : Path) (to : Option (tree.Name × tree.Terms)) (f : tree.Name) (ts : tree.Terms) (it : Option NameNumber)
    → it ≡ named spec f → rule_number it ≡ None → nothing ≡ does (program_of spec) turns script step A e p (tree.Call to f ts)
called_names spec turns script step A e p to f ts it is other =
    ap outcome_of (untold_names spec turns script step A e p to f ts it is other) ∙ told_outcomes (program_of spec) turns script step A e p (tree.Call to f ts)
