-- Bridge to the code. Places among the tokens of a text.
--     beginning text rest    the text before the first of these tokens; all of it, if there is none
use Rattle.std.specs.Prelude.{ℕ, List, [], ◌∷◌, take}
use Rattle.asm_syntax.specs.declared.token.Token.{Token}

abbrev pub beginning : (text : List ℕ) → (rest : List Token) → List ℕ
beginning text [] = text
beginning text (token ∷ tokens) = take token.start text
