-- Definition. Which words a text can go on with.
--     IsBeginning is_condition text    the text is that of a specification, or of a condition, or the
--                                      beginning of one
--     goes_on before word              the text before a place, and the word in a line behind it
use Rattle.std.specs.Prelude.{◌⊎◌, ℕ, Bool, true, false, List, ◌∷◌, ◌++◌}
use Rattle.asm_syntax.specs.SourceTree as source
use Rattle.asm_reader.specs.Specification.{IsSpecification}
use Rattle.asm_reader.specs.Refusals.{IsRefusal}
use Rattle.asm_reader.specs.TermText.{IsTermText, IsTermRefusal}
use Rattle.asm_reader.specs.declared.error.ReadError.TheVariants.{UnexpectedEnd}

abbrev pub IsBeginning : (is_condition : Bool) → List ℕ → Type 0
IsBeginning false text = ((s : source.Spec) × IsSpecification text s) ⊎ IsRefusal text UnexpectedEnd
IsBeginning true text = ((t : source.Term) × IsTermText text t) ⊎ IsTermRefusal text UnexpectedEnd

abbrev pub goes_on : (before word : List ℕ) → List ℕ
goes_on before word = before ++ 10 ∷ word
