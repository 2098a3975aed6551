-- Bridge to the code. Conditions, as terms of the code.
--     IsConditionOf spec asked t      the text spells the term that this is, alone, and it has no
--                                     fault over the specification
--     AreConditionsOf                 each of several texts is that of a condition, whose term is a
--                                     link of a chain of `and`
--     AreAnds links                   each link is an `and`
--     MayBeConditionOf                the condition of a text, if there is one
--     IsJoined links t                the chain of these links after `true`, or no term if there
--                                     are none
--     terms_in links                  the terms of links
use Rattle.std.specs.Prelude.{◌≡◌, ℕ, true, List, [], ◌∷◌, map, Option, Some, None, ⊤}
use Rattle.std.proofs.Common.{Vec, Box, Global}
use Rattle.asm_state.specs.declared.operation.Op.{Op}
use Rattle.asm_state.specs.declared.operation.Op.TheVariants.{And}
use Rattle.asm_syntax.specs.SourceTree as source
use Rattle.asm_syntax.specs.code.Views.{term_of, test_of}
use Rattle.asm_syntax.specs.declared.term.Literal.TheVariants.{Truth}
use Rattle.asm_syntax.specs.declared.term.Term.{Term}
use Rattle.asm_syntax.specs.declared.term.Term.TheVariants.{Chain, Constant}
use Rattle.asm_explore_texts.specs.Conditions.{IsAskedOf, MayBeAskedOf}

abbrev pub IsConditionOf : source.Spec → (asked : List ℕ) → Term → Type 0
IsConditionOf spec asked t = IsAskedOf spec asked (term_of t)

abbrev pub AreConditionsOf : source.Spec → List (List ℕ) → List (Op × Term) → Type 0
AreConditionsOf spec [] [] = ⊤
AreConditionsOf spec [] (link ∷ links) = ⊥
AreConditionsOf spec (asked ∷ more) [] = ⊥
AreConditionsOf spec (asked ∷ more) (link ∷ links) = (link.0 ≡ And) × IsConditionOf spec asked link.1 × AreConditionsOf spec more links

abbrev pub AreAnds : List (Op × Term) → Type 0
AreAnds [] = ⊤
AreAnds (link ∷ links) = (link.0 ≡ And) × AreAnds links

abbrev pub MayBeConditionOf : source.Spec → Option (List ℕ) → Option Term → Type 0
MayBeConditionOf spec asked t = MayBeAskedOf spec asked (test_of t)

abbrev pub IsJoined : List (Op × Term) → Option Term → Type 0
IsJoined [] t = t ≡ None
IsJoined (link ∷ links) t = (first : Box Term Global) × (rest : Vec (Op × Term) Global)
    × (t ≡ Some (Chain first rest)) × (first.value ≡ Constant (Truth true)) × (rest.items ≡ link ∷ links)

abbrev pub terms_in : List (Op × Term) → List source.Term
terms_in links = map (λ (link : Op × Term). term_of link.1) links
