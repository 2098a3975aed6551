-- Definition. Conditions on states, from their texts.
--     IsAskedOf spec asked t          the text spells this term alone, which has no fault over the
--                                     specification
--     IsConditionError spec asked e   what is wrong with a text that is no condition, and where
--     ExplainsCondition spec asked e  the same, if a refusal names it
--     AreAskedOf spec texts terms     each of several texts spells the term with its number
--     MayBeAskedOf spec text t        the same of a text, if there is one
use Rattle.std.specs.Prelude.{◌≡◌, ℕ, List, [], ◌∷◌, map, Option, Some, None, ⊤}
use Rattle.asm_syntax.specs.SourceTree as source
use Rattle.asm_syntax.specs.declared.input_error.InputError.{InputError}
use Rattle.asm_syntax.specs.declared.input_error.InputError.TheVariants.{Memory, Named}
use Rattle.asm_reader.specs.Refusals.{refusal_offset}
use Rattle.asm_reader.specs.TermText.{IsTermText, IsTermRefusal}
use Rattle.asm_check.specs.Errors.{number_of}
use Rattle.asm_check.specs.TermFaults.{IsLeastTermFault, IsWellFormedTerm}
use Rattle.asm_explore_words.specs.declared.fault.TextError.{TextError}
use Rattle.asm_explore_words.specs.declared.fault.TextError.TheVariants as text
use Rattle.asm_explore_texts.specs.declared.condition.ConditionError.{ConditionError}
use Rattle.asm_explore_texts.specs.declared.conditions.Condition.{Condition}

pub record IsAskedOf (spec : source.Spec) (asked : List ℕ) (t : source.Term) : Type 0 where
  pub spelled : IsTermText asked t
  pub well_formed : IsWellFormedTerm spec t

-- ---- refusals

-- the term that the text spells has this as its first fault
pub record IsFaultyTerm (spec : source.Spec) (asked : List ℕ) (at number : ℕ) : Type 0 where
  pub term : source.Term
  pub spelled : IsTermText asked term
  pub fault : IsLeastTermFault spec term at number

abbrev pub IsErrorAt : source.Spec → (asked : List ℕ) → TextError → (at : Option ℕ) → Type 0
IsErrorAt spec asked (text.Read e) at = IsTermRefusal asked e × (at ≡ refusal_offset e)
IsErrorAt spec asked (text.Check e) at = IsFaultyTerm spec asked e.at (number_of e.kind) × (at ≡ Some e.at)
IsErrorAt spec asked (text.Script e) at = ⊥

abbrev pub IsConditionError : source.Spec → (asked : List ℕ) → ConditionError → Type 0
IsConditionError spec asked e = IsErrorAt spec asked e.error e.at

-- what is wrong with the text, if the refusal names it
abbrev pub ExplainsCondition : source.Spec → (asked : List ℕ) → InputError ConditionError → Type 0
ExplainsCondition spec asked Memory = Unit {0}
ExplainsCondition spec asked (Named e) = IsConditionError spec asked e

-- ---- several conditions

abbrev pub AreAskedOf : source.Spec → List (List ℕ) → List source.Term → Type 0
AreAskedOf spec [] [] = ⊤
AreAskedOf spec [] (t ∷ terms) = ⊥
AreAskedOf spec (asked ∷ more) [] = ⊥
AreAskedOf spec (asked ∷ more) (t ∷ terms) = IsAskedOf spec asked t × AreAskedOf spec more terms

abbrev pub MayBeAskedOf : source.Spec → Option (List ℕ) → Option source.Term → Type 0
MayBeAskedOf spec None t = t ≡ None
MayBeAskedOf spec (Some asked) None = ⊥
MayBeAskedOf spec (Some asked) (Some t) = IsAskedOf spec asked t

-- ---- the texts

abbrev pub text_of : Option Condition → Option (List ℕ)
text_of None = None
text_of (Some c) = Some c.text.items

abbrev pub texts_of : List Condition → List (List ℕ)
texts_of cs = map (λ c. c.text.items) cs
