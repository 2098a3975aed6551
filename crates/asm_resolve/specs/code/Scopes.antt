-- Bridge to the code. What the pass keeps.
--     slots_in parameters             the names of the positions in the body of a rule or a derived
--                                     function
--     slots_of scope, names_of scope  the names of the positions, with what each stands for, and
--                                     without
--     scope_environment scope         an environment in which these names are bound
--     IsBody spec d c                 c stands for the body of the derived function numbered d
--     AreResolvedBodies spec bodies   a place for each derived function, with its body or none
--     term_resolved checked scope t c      c stands for a term of the code in a specification
use Rattle.std.specs.Prelude.{◌≡◌, ℕ, List, [], ◌∷◌, map, length, slice_get, Option, Some}
use Rattle.std.specs.Arc.{arc_value}
use Rattle.std.specs.declared.sync.Arc.{Arc}
use Rattle.std.proofs.Common.{Global}
use Rattle.asm_state.specs.declared.operation.Op.{Op}
use Rattle.asm_syntax.specs.SourceTree.{Spec}
use Rattle.asm_syntax.specs.Tree.{Name, Term as Plain, Chain, Named}
use Rattle.asm_syntax.specs.PlainTree.{plain_term, plain_terms, plain_links}
use Rattle.asm_syntax.specs.code.Views.{term_of, terms_of, links_of, spec_of}
use Rattle.asm_syntax.specs.declared.term.Term.{Term}
use Rattle.asm_check.specs.Numbers.{derived_of}
use Rattle.asm_check.specs.Shapes.{shape_of}
use Rattle.asm_check.specs.declared.checked.Checked.{Checked}
use Rattle.asm_check.specs.declared.checked.NameNumber.TheVariants as number
use Rattle.asm_meaning.specs.Declarations.{numbered, program_of}
use Rattle.asm_meaning.specs.code.MeantTrees.{text_of}
use Rattle.asm_meaning.specs.Program.{Derived, Environment, bind_values}
use Rattle.asm_code.specs.code.CodeTree as tree
use Rattle.asm_code.specs.code.CodeViews.{code_of, codes_of}
use Rattle.asm_code.specs.declared.code.Code.{Code}
use Rattle.asm_resolve.specs.code.ResolvedTerms.{IsResolved, AreResolved}
use Rattle.asm_resolve.specs.code.Slots.{Slot, called_slots, value_slot, names_in}
use Rattle.asm_resolve.specs.declared.parameters.Parameters.{Parameters}
use Rattle.asm_resolve.specs.declared.scope.Scope.{Scope}
use Rattle.asm_resolve.specs.declared.scope.Scope.TheVariants as scopes

abbrev pub slots_in : Parameters → List Slot
slots_in parameters = called_slots parameters.answers (map text_of parameters.names.now)

abbrev pub slots_of : Scope → List Slot
slots_of scopes.Empty = []
slots_of (scopes.Within' x p outer) = value_slot x.now.text ∷ slots_of outer
slots_of (scopes.Called parameters) = slots_in parameters.now

abbrev pub names_of : Scope → List Name
names_of scope = names_in (slots_of scope)

abbrev pub scope_environment : Scope → Environment
scope_environment scope = bind_values (names_of scope) []

module _ (spec : Spec) where
  abbrev pub resolved_in : List Name → Plain → tree.Code → Type 0
  resolved_in = IsResolved (program_of spec) (shape_of spec)

  pub record IsBody (d : ℕ) (c : tree.Code) : Type 0 where
    pub parameters : List Name
    pub body : Plain
    pub stands : numbered spec (Some (number.Derived d)) ≡ Some (Derived parameters body)
    pub resolved : resolved_in parameters body c

  pub record AreResolvedBodies (bodies : List (Option (Arc Code Global))) : Type 0 where
    pub as_many : length bodies ≡ length (derived_of spec)
    pub each : (d : ℕ) (c : Arc Code Global) → slice_get bodies d ≡ Some (Some c) → IsBody d (code_of (arc_value c))

abbrev pub term_resolved : Checked → Scope → Term → Code → Type 0
term_resolved checked s t c = resolved_in (spec_of checked.spec) (names_of s) (plain_term (term_of t)) (code_of c)

-- under one more name
abbrev pub inner_resolved : Checked → Scope → Name → Term → Code → Type 0
inner_resolved checked s x t c = resolved_in (spec_of checked.spec) (x ∷ names_of s) (plain_term (term_of t)) (code_of c)

abbrev pub named_resolved : Checked → Scope → Name → List Term → Code → Type 0
named_resolved checked s x ts c = resolved_in (spec_of checked.spec) (names_of s) (Named x (plain_terms (terms_of (map term_of ts)))) (code_of c)

abbrev pub all_resolved : Checked → Scope → List Term → List Code → Type 0
all_resolved checked s ts cs = AreResolved (program_of (spec_of checked.spec)) (shape_of (spec_of checked.spec)) (names_of s) (plain_terms (terms_of (map term_of ts))) (codes_of (map code_of cs))

abbrev pub chain_resolved : Checked → Scope → Term → List (Op × Term) → Code → Type 0
chain_resolved checked s t links c = resolved_in (spec_of checked.spec) (names_of s) (Chain (plain_term (term_of t)) (plain_links (links_of (map (λ (l : Op × Term). (l.0, term_of l.1)) links)))) (code_of c)
