-- Bridge to the code. What the functions of the code read as declarations and as whole
-- specifications.
use Rattle.std.specs.Prelude.{ℕ, true, false, List, [], ◌∷◌, length, Option, Some}
use Rattle.asm_state.specs.declared.function.FunctionKind.{FunctionKind}
use Rattle.asm_state.specs.declared.number.Number.{Number as WholeNumber}
use Rattle.asm_syntax.specs.declared.token.Kind.{Kind}
use Rattle.asm_syntax.specs.declared.token.Kind.TheVariants.{Number, Symbol, Keyword}
use Rattle.asm_syntax.specs.declared.token.Symbol.TheVariants.{Open, Close, OpenBrace, CloseBrace, Comma, Colon, Equal, Minus, Times, Arrow, Dots}
use Rattle.asm_syntax.specs.declared.token.Keyword.{Keyword as ReservedWord}
use Rattle.asm_syntax.specs.declared.token.Keyword.TheVariants.{CoreAsm, Use, Init, Enum, Universe, Function, Initially, Derived, Rule}
use Rattle.asm_syntax.specs.declared.term.Literal.TheVariants as literal
use Rattle.asm_syntax.specs.SourceTree as source
use Rattle.asm_reader.specs.Kinds.{keys}
use Rattle.asm_reader.specs.code.Steps.{Reader, pair_of, mapped, either_of, option_of, repeated_of, number_at, choice_at, past_of, separated_of, enclosed_of, between_of, braced_of}
use Rattle.asm_reader.specs.TermGrammar.{constants, listed}
use Rattle.asm_reader.specs.Grammar.{function_kinds, typed}
use Rattle.asm_reader.specs.code.TermReading.{name_at, term_at}
use Rattle.asm_reader.specs.code.RuleReading.{rule_at}

-- what items begin with
abbrev pub item_starts : List Kind
item_starts = Keyword Use ∷ Keyword Init ∷ Keyword Enum ∷ Keyword Universe ∷ Keyword Function ∷ Keyword Derived ∷ Keyword Rule ∷ []

unfoldable pub int_at : Reader WholeNumber
int_at = either_of (Symbol Minus ∷ []) (past_of (Symbol Minus) (number_at true)) (number_at false)

-- the first and the last number of a universe
abbrev pub range_at : Reader (WholeNumber × WholeNumber)
range_at = pair_of int_at (past_of (Symbol Dots) int_at)

module _ (text : List ℕ) where
  unfoldable pub constant_at : Reader source.Const
  constant_at = either_of (Symbol Minus ∷ Number 0 ∷ []) (mapped (λ n. source.Plain (literal.Number n)) int_at)
      (either_of (keys constants) (mapped source.Plain (choice_at constants)) (mapped source.Element (name_at text)))

  abbrev pub constants_at : Reader (List source.Const)
  constants_at = separated_of (Symbol Comma) constant_at

  abbrev pub names_at : Kind → Reader (List source.Name)
  names_at between = separated_of between (name_at text)

  -- the name between a word and `=`, the one after `->`, and what is after `function`
  abbrev pub titled_at : ReservedWord → Reader source.Name
  titled_at word = braced_of (Keyword word) (Symbol Equal) (name_at text)

  abbrev pub behind_arrow_at : Reader source.Name
  behind_arrow_at = past_of (Symbol Arrow) (name_at text)

  abbrev pub declared_at : Reader (FunctionKind × source.Name)
  declared_at = past_of (Keyword Function) (pair_of (choice_at function_kinds) (name_at text))

  unfoldable pub codomain_at : Reader (Option source.Name)
  codomain_at = option_of (Symbol Arrow ∷ []) (past_of (Symbol Arrow) (name_at text))

  unfoldable pub type_at : Reader (List source.Name × Option source.Name)
  type_at = either_of (Symbol Arrow ∷ []) (mapped (λ x. ([], Some x)) (past_of (Symbol Arrow) (name_at text))) (pair_of (names_at (Symbol Times)) codomain_at)

  unfoldable pub signature_at : Reader (List source.Name × Option source.Name)
  signature_at = mapped typed (option_of (Symbol Colon ∷ []) (past_of (Symbol Colon) type_at))

  unfoldable pub use_at : Reader source.Item
  use_at = mapped source.Uses (past_of (Keyword Use) (name_at text))

  unfoldable pub init_at : Reader source.Item
  init_at = mapped source.Init (past_of (Keyword Init) (name_at text))

  unfoldable pub elements_at : Reader (List source.Name)
  elements_at = braced_of (Symbol OpenBrace) (Symbol CloseBrace) (names_at (Symbol Comma))

  unfoldable pub enum_at : Reader source.Item
  enum_at = mapped (λ r. source.Enum r.0 r.1) (past_of (Keyword Enum) (pair_of (name_at text) (past_of (Symbol Equal) elements_at)))

  unfoldable pub universe_at : Reader source.Item
  universe_at = mapped (λ r. source.Universe r.0 r.1.0 r.1.1) (past_of (Keyword Universe) (pair_of (name_at text) (past_of (Symbol Equal) (pair_of int_at (past_of (Symbol Dots) int_at)))))

  -- n levels may open
  module _ (n : ℕ) where
    unfoldable pub entry_at : Reader source.Entry
    entry_at = mapped (λ r. record { at = r.0.0.start; arguments = r.0.1; value = r.1 })
        (pair_of (enclosed_of n (Symbol Open) (Symbol Close) constants_at) (past_of (Symbol Arrow) constant_at))

    abbrev pub entries_at : Reader (List source.Entry)
    entries_at = separated_of (Symbol Comma) entry_at

    unfoldable pub braced_entries_at : Reader (List source.Entry)
    braced_entries_at = braced_of (Symbol OpenBrace) (Symbol CloseBrace) entries_at

    unfoldable pub table_at : Reader source.Given
    table_at = either_of (Symbol OpenBrace ∷ []) (mapped source.Entries braced_entries_at) (mapped source.Each constant_at)

    unfoldable pub initially_at : Reader (Option source.Given)
    initially_at = option_of (Keyword Initially ∷ []) (past_of (Keyword Initially) table_at)

    unfoldable pub parameters_at : Reader (List source.Name)
    parameters_at = mapped listed (option_of (Symbol Open ∷ []) (between_of n (Symbol Open) (Symbol Close) (names_at (Symbol Comma))))

    -- a name and its parameters, between a word and `=`
    abbrev pub heading_at : ReservedWord → Reader (source.Name × List source.Name)
    heading_at word = braced_of (Keyword word) (Symbol Equal) (pair_of (name_at text) parameters_at)

    unfoldable pub function_at : Reader source.Item
    function_at = mapped (λ r. source.Function r.1.0 r.0 r.1.1.0.0 r.1.1.0.1 r.1.1.1)
        (past_of (Keyword Function) (pair_of (choice_at function_kinds) (pair_of (name_at text) (pair_of signature_at initially_at))))

    unfoldable pub derived_at : Reader source.Item
    derived_at = mapped (λ r. source.Derived r.0 r.1.0 r.1.1) (past_of (Keyword Derived) (pair_of (name_at text) (pair_of parameters_at (past_of (Symbol Equal) (term_at text n)))))

    unfoldable pub rule_item_at : Reader source.Item
    rule_item_at = mapped (λ r. source.NamedRule r.0 r.1.0 r.1.1) (past_of (Keyword Rule) (pair_of (name_at text) (pair_of parameters_at (past_of (Symbol Equal) (rule_at text n)))))

    unfoldable pub item_at : Reader source.Item
    item_at = either_of (Keyword Use ∷ []) use_at (either_of (Keyword Init ∷ []) init_at (either_of (Keyword Enum ∷ []) enum_at (either_of (Keyword Universe ∷ []) universe_at
        (either_of (Keyword Function ∷ []) function_at (either_of (Keyword Derived ∷ []) derived_at rule_item_at)))))

    abbrev pub items_at : Reader (List source.Item)
    items_at = repeated_of item_starts item_at

    unfoldable pub specification_at : Reader source.Spec
    specification_at = mapped (λ r. record { name = r.0; items = r.1; length = length text }) (past_of (Keyword CoreAsm) (pair_of (name_at text) (repeated_of item_starts item_at)))
