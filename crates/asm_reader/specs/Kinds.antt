-- Definition. Kinds of tokens, up to the value of a number.
use Rattle.std.specs.Prelude.{Bool, true, false, ◌||◌, List, [], ◌∷◌, Option, Some, None, if◌then◌else◌}
use denote.Enum.Bare.{sameb}
use Rattle.asm_syntax.specs.contracts.token.Symbol as symbol
use Rattle.asm_syntax.specs.contracts.token.Keyword as word
use Rattle.asm_syntax.specs.declared.token.Kind.{Kind}
use Rattle.asm_syntax.specs.declared.token.Kind.TheVariants.{Name, Number, Symbol, Keyword}
use Rattle.asm_syntax.specs.declared.token.Token.{Token}

-- two kinds are one, or both are numbers
abbrev pub alike : Kind → Kind → Bool
alike Name Name = true
alike Name (Number n) = false
alike Name (Symbol b) = false
alike Name (Keyword b) = false
alike (Number m) Name = false
alike (Number m) (Number n) = true
alike (Number m) (Symbol b) = false
alike (Number m) (Keyword b) = false
alike (Symbol a) Name = false
alike (Symbol a) (Number n) = false
alike (Symbol a) (Symbol b) = sameb symbol.the_type a b
alike (Symbol a) (Keyword b) = false
alike (Keyword a) Name = false
alike (Keyword a) (Number n) = false
alike (Keyword a) (Symbol b) = false
alike (Keyword a) (Keyword b) = sameb word.the_type a b

abbrev pub is_one_of : List Kind → Kind → Bool
is_one_of [] k = false
is_one_of (a ∷ ks) k = alike a k || is_one_of ks k

-- whether the list begins with a token of one of these kinds
abbrev pub begins : List Kind → List Token → Bool
begins ks [] = false
begins ks (t ∷ ts) = is_one_of ks t.kind

-- what a table has for a kind
abbrev pub looked_up : {A : Type 0} → List (Kind × A) → Kind → Option A
looked_up [] k = None
looked_up (row ∷ rows) k = if alike row.0 k then Some row.1 else looked_up rows k

abbrev pub keys : {A : Type 0} → List (Kind × A) → List Kind
keys [] = []
keys (row ∷ rows) = row.0 ∷ keys rows
