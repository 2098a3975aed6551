-- Definition. The grammar of declarations and of whole specifications, with the source trees that
-- its texts make.
use Rattle.std.specs.Prelude.{ℕ, List, [], ◌∷◌, length, Option, Some, None}
use Rattle.asm_state.specs.declared.number.Number.{Number}
use Rattle.asm_syntax.specs.declared.token.Kind.{Kind}
use Rattle.asm_syntax.specs.declared.token.Kind.TheVariants.{Symbol, Keyword}
use Rattle.asm_syntax.specs.declared.token.Symbol.TheVariants.{Open, Close, OpenBrace, CloseBrace, Comma, Colon, Equal, Minus, Times, Arrow, Dots}
use Rattle.asm_syntax.specs.declared.token.Keyword.TheVariants.{CoreAsm, Use, Init, Enum, Universe, Function, Controlled, Static, Initially, Derived, Rule}
use Rattle.asm_syntax.specs.declared.term.Literal.TheVariants as literal
use Rattle.asm_state.specs.declared.function.FunctionKind.{FunctionKind}
use Rattle.asm_state.specs.declared.function.FunctionKind.TheVariants as function_kind
use Rattle.asm_syntax.specs.SourceTree as source
use Rattle.asm_reader.specs.Productions.{Production, ◌then◌, ◌or◌, optional, repeated, ◌makes◌, number, negative_number, choice, past, separated, enclosed, between}
use Rattle.asm_reader.specs.TermGrammar.{name, constants, listed, any_term}
use Rattle.asm_reader.specs.RuleGrammar.{any_rule}

-- ---- trees

abbrev pub function_kinds : List (Kind × FunctionKind)
function_kinds = (Keyword Controlled, function_kind.Controlled) ∷ (Keyword Static, function_kind.Static) ∷ []

-- the universes and the codomain of a type that may be left out
abbrev pub typed : Option (List source.Name × Option source.Name) → List source.Name × Option source.Name
typed None = ([], None)
typed (Some t) = t

-- ---- productions, for names whose bytes are in this text

-- [ "-" ] number
unfoldable pub int : Production Number
int = past (Symbol Minus) negative_number or number

module _ (text : List ℕ) where
  -- int | "true" | "false" | "undef" | name
  unfoldable pub constant : Production source.Const
  constant = (int makes (λ n. source.Plain (literal.Number n))) or (choice constants makes source.Plain) or (name text makes source.Element)

  -- "(" constant { "," constant } ")" "->" constant
  unfoldable pub entry : Production source.Entry
  entry = (enclosed (Symbol Open) (Symbol Close) (separated (Symbol Comma) constant) then past (Symbol Arrow) constant)
      makes (λ r. record { at = r.0.0.start; arguments = r.0.1; value = r.1 })

  -- "{" entry { "," entry } "}" | constant
  unfoldable pub table : Production source.Given
  table = (between (Symbol OpenBrace) (Symbol CloseBrace) (separated (Symbol Comma) entry) makes source.Entries) or (constant makes source.Each)

  -- "->" name | name { "*" name } [ "->" name ]
  unfoldable pub type : Production (List source.Name × Option source.Name)
  type = (past (Symbol Arrow) (name text) makes (λ x. ([], Some x)))
      or (separated (Symbol Times) (name text) then optional (past (Symbol Arrow) (name text)))

  -- [ ":" type ]
  unfoldable pub signature : Production (List source.Name × Option source.Name)
  signature = optional (past (Symbol Colon) type) makes typed

  -- [ "(" name { "," name } ")" ]
  unfoldable pub parameters : Production (List source.Name)
  parameters = optional (between (Symbol Open) (Symbol Close) (separated (Symbol Comma) (name text))) makes listed

  -- "use" name
  unfoldable pub use_item : Production source.Item
  use_item = past (Keyword Use) (name text) makes source.Uses

  -- "init" name
  unfoldable pub init_item : Production source.Item
  init_item = past (Keyword Init) (name text) makes source.Init

  -- "enum" name "=" "{" name { "," name } "}"
  unfoldable pub enum_item : Production source.Item
  enum_item = past (Keyword Enum) (name text then past (Symbol Equal) (between (Symbol OpenBrace) (Symbol CloseBrace) (separated (Symbol Comma) (name text))))
      makes (λ r. source.Enum r.0 r.1)

  -- "universe" name "=" int ".." int
  unfoldable pub universe_item : Production source.Item
  universe_item = past (Keyword Universe) (name text then past (Symbol Equal) (int then past (Symbol Dots) int))
      makes (λ r. source.Universe r.0 r.1.0 r.1.1)

  -- "function" ( "controlled" | "static" ) name signature [ "initially" table ]
  unfoldable pub function_item : Production source.Item
  function_item = past (Keyword Function) (choice function_kinds then name text then signature then optional (past (Keyword Initially) table))
      makes (λ r. source.Function r.1.0 r.0 r.1.1.0.0 r.1.1.0.1 r.1.1.1)

  -- over the terms and the rules that are bodies
  module _ (term : Production source.Term) (rule : Production source.Rule) where
    -- "derived" name parameters "=" term
    unfoldable pub derived_item : Production source.Item
    derived_item = past (Keyword Derived) (name text then parameters then past (Symbol Equal) term)
        makes (λ r. source.Derived r.0 r.1.0 r.1.1)

    -- "rule" name parameters "=" rule
    unfoldable pub rule_item : Production source.Item
    rule_item = past (Keyword Rule) (name text then parameters then past (Symbol Equal) rule)
        makes (λ r. source.NamedRule r.0 r.1.0 r.1.1)

    unfoldable pub item : Production source.Item
    item = use_item or init_item or enum_item or universe_item or function_item or derived_item or rule_item

    -- "CoreASM" name { item }
    unfoldable pub specification_over : Production source.Spec
    specification_over = past (Keyword CoreAsm) (name text then repeated item) makes (λ r. record { name = r.0; items = r.1; length = length text })

  abbrev pub specification : Production source.Spec
  specification = specification_over (any_term text) (any_rule text)
