-- Free. The readers of whole numbers, constants, tables, types and parameters are exact.
use Rattle.std.proofs.Common.{◌≡◌, ℕ, suc, Bool, true, false, List, [], ◌∷◌, Option, Some, None, refl, inl, inr}
use Rattle.asm_state.specs.declared.number.Number.{Number as WholeNumber}
use Rattle.asm_syntax.specs.declared.token.Kind.{Kind}
use Rattle.asm_syntax.specs.declared.token.Kind.TheVariants.{Name, Number, Symbol, Keyword}
use Rattle.asm_syntax.specs.declared.token.Symbol.TheVariants.{Open, Close, OpenBrace, CloseBrace, Comma, Colon, Minus, Times, Arrow}
use Rattle.asm_syntax.specs.declared.token.Keyword.TheVariants.{Initially, True, False, Undef}
use Rattle.asm_syntax.specs.declared.token.Token.{Token}
use Rattle.asm_syntax.specs.declared.term.Literal.TheVariants as literal
use Rattle.asm_syntax.specs.SourceTree as source
use Rattle.asm_reader.specs.Kinds.{keys}
use Rattle.asm_reader.specs.Levels.{opens, after_token}
use Rattle.asm_reader.specs.Productions.{Production, ◌then◌, ◌or◌, optional, ◌makes◌, number, negative_number, choice, past, separated, enclosed, between}
use Rattle.asm_reader.specs.code.Steps.{pair_of, mapped, either_of, option_of, number_at, choice_at, past_of, enclosed_of, between_of}
use Rattle.asm_reader.specs.TermGrammar.{name, constants, listed}
use Rattle.asm_reader.specs.code.TermReading.{name_at}
use Rattle.asm_reader.specs.Grammar as g
use Rattle.asm_reader.specs.Grammar.{typed}
use Rattle.asm_reader.specs.code.Reading as r
use Rattle.asm_reader.proofs.Lists.{alike_symbol, alike_word, within_self}
use Rattle.asm_reader.proofs.ExactLemmas.Readers.{IsExact, Begins, Ends, HasText, IsSingle, exact_pair, exact_makes, exact_optional, ends_none, ends_by}
use Rattle.asm_reader.proofs.ExactLemmas.ExactTokens.{depth, IsPlain, exact_past, has_past, has_makes, has_then, begins_makes, begins_then, begins_past, optional_ends, begins_or, exact_or}
use Rattle.asm_reader.proofs.ExactLemmas.EnclosedReaders.{begins_enclosed, begins_between, has_enclosed, has_between, exact_enclosed, exact_between, exact_braced, begins_separated, has_separated, exact_separated}
use Rattle.asm_reader.proofs.ExactLemmas.Choices.{exact_choice, begins_choice, constants_plain, has_constant, exact_number, has_number, begins_number}
use Rattle.asm_reader.proofs.ExactLemmas.TermExact.{exact_name, has_name, begins_name}

-- ---- sets of kinds

abbrev pub number_first : List Kind
number_first = Symbol Minus ∷ Number 0 ∷ []

-- what a constant that is no number begins with
abbrev pub word_first : List Kind
word_first = Keyword True ∷ Keyword False ∷ Keyword Undef ∷ Name ∷ []

abbrev pub constant_first : List Kind
constant_first = Symbol Minus ∷ Number 0 ∷ word_first

-- what carries on a type that is whole
abbrev pub type_more : List Kind
type_more = Symbol Arrow ∷ Symbol Times ∷ []

abbrev pub signature_more : List Kind
signature_more = Symbol Colon ∷ type_more

-- ---- whole numbers

pub begins_int : Begins number_first g.int
unfolding g.int
begins_int = begins_or (Symbol Minus ∷ []) (Number 0 ∷ []) number_first (past (Symbol Minus) negative_number) number (begins_past (Symbol Minus) negative_number) (begins_number false) refl refl

pub has_int : HasText g.int
unfolding g.int
has_int = let one = has_number false in (one.0, one.1, inr one.2)

pub exact_int : (n : ℕ) (q : Bool) → IsExact (depth n q) (depth n false) [] g.int g.int r.int_at
unfolding g.int r.int_at
exact_int n q = exact_or (depth n q) (depth n false) [] [] [] (Symbol Minus ∷ []) (Number 0 ∷ []) (past (Symbol Minus) negative_number) number (past (Symbol Minus) negative_number) number (begins_past (Symbol Minus) negative_number) (begins_number false) refl refl refl
    (past_of (Symbol Minus) (number_at true)) (number_at false)
    (exact_past n q (depth n false) [] (Symbol Minus) (alike_symbol Minus) (refl, refl, refl) negative_number negative_number (has_number true) (number_at true) (exact_number true n false)) (exact_number false n q)

-- ---- constants

abbrev a_number : WholeNumber → source.Const
a_number n = source.Plain (literal.Number n)

-- "true" | "false" | "undef"
abbrev of_table : Production source.Const
of_table = choice constants makes source.Plain

begins_of_table : Begins (keys constants) of_table
begins_of_table = begins_makes (keys constants) (choice constants) source.Plain (begins_choice 0 false constants has_constant constants_plain)

-- ---- after a token that opens a level, for an entry and for parameters

-- the token `(` and the token `)`, when n = m + 1 levels may open before the first of them
opened : (t : Token) → t.kind ≡ Symbol Open → opens false t.kind ≡ true
opened t e = rw e refl

entered : (n m : ℕ) (t : Token) → t.kind ≡ Symbol Open → n ≡ suc m → after_token (depth n false) t ≡ depth m true
entered n m t k e = rw (k, e) refl

left : (n m : ℕ) (t : Token) → t.kind ≡ Symbol Close → n ≡ suc m → after_token (depth m false) t ≡ depth n false
left n m t k e = rw (k, e) refl

module _ (text : List ℕ) where
  abbrev element : Production source.Const
  element = name text makes source.Element

  begins_element : Begins (Name ∷ []) element
  begins_element = begins_makes (Name ∷ []) (name text) source.Element (begins_name text)

  begins_word : Begins word_first (of_table or element)
  begins_word = begins_or (keys constants) (Name ∷ []) word_first of_table element begins_of_table begins_element refl refl

  pub begins_constant : Begins constant_first (g.constant text)
  unfolding g.constant
  begins_constant = begins_or number_first word_first constant_first (g.int makes a_number) (of_table or element) (begins_makes number_first g.int a_number begins_int) begins_word refl refl

  pub has_a_constant : HasText (g.constant text)
  unfolding g.constant
  has_a_constant = let one = has_makes g.int a_number has_int in (one.0, one.1, inl one.2)

  pub exact_constant : (n : ℕ) (q : Bool) → IsExact (depth n q) (depth n false) [] (g.constant text) (g.constant text) (r.constant_at text)
  unfolding g.constant r.constant_at
  exact_constant n q = exact_or (depth n q) (depth n false) [] [] [] number_first word_first (g.int makes a_number) (of_table or element) (g.int makes a_number) (of_table or element) (begins_makes number_first g.int a_number begins_int) begins_word refl refl refl
      (mapped a_number r.int_at) (either_of (keys constants) (mapped source.Plain (choice_at constants)) (mapped source.Element (name_at text)))
      (exact_makes (depth n q) (depth n false) [] g.int g.int a_number r.int_at (exact_int n q))
      (exact_or (depth n q) (depth n false) [] [] [] (keys constants) (Name ∷ []) of_table element of_table element begins_of_table begins_element refl refl refl
      (mapped source.Plain (choice_at constants)) (mapped source.Element (name_at text))
      (exact_makes (depth n q) (depth n false) [] (choice constants) (choice constants) source.Plain (choice_at constants) (exact_choice n q constants has_constant constants_plain))
      (exact_makes (depth n q) (depth n false) [] (name text) (name text) source.Element (name_at text) (exact_name text n q)))

  -- ---- names with tokens between them

  abbrev pub names : Kind → Production (List source.Name)
  names k = separated k (name text)

  exact_names : (n : ℕ) (q : Bool) (k : Kind) → IsSingle k → IsPlain k → IsExact (depth n q) (depth n false) (k ∷ []) (names k) (names k) (r.names_at text k)
  exact_names n q k single plain = exact_separated n q [] (k ∷ []) k single plain refl (within_self (k ∷ [])) refl (name text) (name text) (has_name text) (name_at text) (exact_name text n q) (exact_name text n false)

  exact_commas : (n : ℕ) (q : Bool) → IsExact (depth n q) (depth n false) (Symbol Comma ∷ []) (names (Symbol Comma)) (names (Symbol Comma)) (r.names_at text (Symbol Comma))
  exact_commas n q = exact_names n q (Symbol Comma) (alike_symbol Comma) (refl, refl, refl)

  -- ---- entries and tables

  abbrev given_constants : Production (List source.Const)
  given_constants = separated (Symbol Comma) (g.constant text)

  abbrev at_offset : Production (Token × List source.Const)
  at_offset = enclosed (Symbol Open) (Symbol Close) given_constants

  abbrev value : Production source.Const
  value = past (Symbol Arrow) (g.constant text)

  abbrev entry_made : (Token × List source.Const) × source.Const → source.Entry
  entry_made v = record { at = v.0.0.start; arguments = v.0.1; value = v.1 }

  pub begins_entry : Begins (Symbol Open ∷ []) (g.entry text)
  unfolding g.entry
  begins_entry = begins_makes (Symbol Open ∷ []) (at_offset then value) entry_made (begins_then (Symbol Open ∷ []) at_offset value (begins_enclosed (Symbol Open) (Symbol Close) given_constants))

  has_given : HasText given_constants
  has_given = has_separated (Symbol Comma) (g.constant text) has_a_constant

  has_entry : HasText (g.entry text)
  unfolding g.entry
  has_entry = has_makes (at_offset then value) entry_made (has_then at_offset value (has_enclosed (Symbol Open) (Symbol Close) given_constants has_given) (has_past (Symbol Arrow) (g.constant text) has_a_constant))

  abbrev entries : Production (List source.Entry)
  entries = separated (Symbol Comma) (g.entry text)

  abbrev braced_entries : Production (List source.Entry)
  braced_entries = between (Symbol OpenBrace) (Symbol CloseBrace) entries

  begins_entries : Begins (Symbol OpenBrace ∷ []) (braced_entries makes source.Entries)
  begins_entries = begins_makes (Symbol OpenBrace ∷ []) braced_entries source.Entries (begins_between (Symbol OpenBrace) (Symbol CloseBrace) entries)

  begins_each : Begins constant_first (g.constant text makes source.Each)
  begins_each = begins_makes constant_first (g.constant text) source.Each begins_constant

  has_table : HasText (g.table text)
  unfolding g.table
  has_table = let one = has_makes (g.constant text) source.Each has_a_constant in (one.0, one.1, inr one.2)

  abbrev pub initial : Production (Option source.Given)
  initial = optional (past (Keyword Initially) (g.table text))

  -- ---- types

  abbrev codomain : Production (Option source.Name)
  codomain = optional (past (Symbol Arrow) (name text))

  abbrev only_codomain : source.Name → List source.Name × Option source.Name
  only_codomain x = ([], Some x)

  abbrev constant_type : Production (List source.Name × Option source.Name)
  constant_type = past (Symbol Arrow) (name text) makes only_codomain

  abbrev type_of_names : Production (List source.Name × Option source.Name)
  type_of_names = names (Symbol Times) then codomain

  begins_constant_type : Begins (Symbol Arrow ∷ []) constant_type
  begins_constant_type = begins_makes (Symbol Arrow ∷ []) (past (Symbol Arrow) (name text)) only_codomain (begins_past (Symbol Arrow) (name text))

  begins_type_of_names : Begins (Name ∷ []) type_of_names
  begins_type_of_names = begins_then (Name ∷ []) (names (Symbol Times)) codomain (begins_separated (Name ∷ []) (Symbol Times) (name text) (begins_name text))

  has_type : HasText (g.type text)
  unfolding g.type
  has_type = let one = has_makes (past (Symbol Arrow) (name text)) only_codomain (has_past (Symbol Arrow) (name text) (has_name text)) in (one.0, one.1, inl one.2)

  codomain_ends : Ends (Symbol Times ∷ []) type_more codomain
  codomain_ends = optional_ends (Symbol Times ∷ []) type_more (Symbol Arrow ∷ []) (past (Symbol Arrow) (name text)) (ends_by (Symbol Times ∷ []) type_more (Symbol Arrow ∷ []) (past (Symbol Arrow) (name text)) (begins_past (Symbol Arrow) (name text)) refl) refl

  pub has_signature : HasText (g.signature text)
  unfolding g.signature
  has_signature = has_makes (optional (past (Symbol Colon) (g.type text))) typed ([], None, refl)

  abbrev in_parentheses : Production (List source.Name)
  in_parentheses = between (Symbol Open) (Symbol Close) (names (Symbol Comma))

  -- the names of an enumeration
  abbrev pub elements : Production (List source.Name)
  elements = between (Symbol OpenBrace) (Symbol CloseBrace) (names (Symbol Comma))

  pub has_elements : HasText elements
  has_elements = has_between (Symbol OpenBrace) (Symbol CloseBrace) (names (Symbol Comma)) (has_separated (Symbol Comma) (name text) (has_name text))

  pub has_parameters : HasText (g.parameters text)
  unfolding g.parameters
  has_parameters = has_makes (optional in_parentheses) listed ([], None, refl)

  -- n levels may open
  module _ (n : ℕ) where
    exact_given : (m : ℕ) → n ≡ suc m → IsExact (depth m true) (depth m false) (Symbol Comma ∷ []) given_constants given_constants (r.constants_at text)
    exact_given m e = exact_separated m true [] (Symbol Comma ∷ []) (Symbol Comma) (alike_symbol Comma) (refl, refl, refl) refl refl refl (g.constant text) (g.constant text) has_a_constant (r.constant_at text) (exact_constant m true) (exact_constant m false)

    exact_at_offset : IsExact (depth n false) (depth n false) [] at_offset at_offset (enclosed_of n (Symbol Open) (Symbol Close) (r.constants_at text))
    exact_at_offset = exact_enclosed n false true (Symbol Open) (Symbol Close) (alike_symbol Open) (alike_symbol Close) opened (entered n) (left n) (Symbol Comma ∷ []) refl given_constants given_constants has_given (r.constants_at text) exact_given

    pub exact_entry : IsExact (depth n false) (depth n false) [] (g.entry text) (g.entry text) (r.entry_at text n)
    unfolding g.entry r.entry_at
    exact_entry = exact_makes (depth n false) (depth n false) [] (at_offset then value) (at_offset then value) entry_made (pair_of (enclosed_of n (Symbol Open) (Symbol Close) (r.constants_at text)) (past_of (Symbol Arrow) (r.constant_at text)))
        (exact_pair (depth n false) (depth n false) (depth n false) [] [] at_offset at_offset value value (ends_none [] value) (has_past (Symbol Arrow) (g.constant text) has_a_constant)
        (enclosed_of n (Symbol Open) (Symbol Close) (r.constants_at text)) (past_of (Symbol Arrow) (r.constant_at text)) exact_at_offset
        (exact_past n false (depth n false) [] (Symbol Arrow) (alike_symbol Arrow) (refl, refl, refl) (g.constant text) (g.constant text) has_a_constant (r.constant_at text) (exact_constant n false)))

    exact_entries : IsExact (depth n false) (depth n false) (Symbol Comma ∷ []) entries entries (r.entries_at text n)
    exact_entries = exact_separated n false [] (Symbol Comma ∷ []) (Symbol Comma) (alike_symbol Comma) (refl, refl, refl) refl refl refl (g.entry text) (g.entry text) has_entry (r.entry_at text n) exact_entry exact_entry

    exact_braced_entries : IsExact (depth n false) (depth n false) [] braced_entries braced_entries (r.braced_entries_at text n)
    unfolding r.braced_entries_at
    exact_braced_entries = exact_braced n false (Symbol OpenBrace) (Symbol CloseBrace) (alike_symbol OpenBrace) (refl, refl, refl) (alike_symbol CloseBrace) (refl, refl, refl) (Symbol Comma ∷ []) refl entries entries
        (has_separated (Symbol Comma) (g.entry text) has_entry) (r.entries_at text n) exact_entries

    exact_table : IsExact (depth n false) (depth n false) [] (g.table text) (g.table text) (r.table_at text n)
    unfolding g.table r.table_at
    exact_table = exact_or (depth n false) (depth n false) [] [] [] (Symbol OpenBrace ∷ []) constant_first (braced_entries makes source.Entries) (g.constant text makes source.Each) (braced_entries makes source.Entries) (g.constant text makes source.Each) begins_entries begins_each refl refl refl
        (mapped source.Entries (r.braced_entries_at text n)) (mapped source.Each (r.constant_at text))
        (exact_makes (depth n false) (depth n false) [] braced_entries braced_entries source.Entries (r.braced_entries_at text n) exact_braced_entries)
        (exact_makes (depth n false) (depth n false) [] (g.constant text) (g.constant text) source.Each (r.constant_at text) (exact_constant n false))

    pub exact_initially : IsExact (depth n false) (depth n false) (Keyword Initially ∷ []) initial initial (r.initially_at text n)
    unfolding r.initially_at
    exact_initially = exact_optional (depth n false) [] (Keyword Initially ∷ []) (Keyword Initially ∷ []) (past (Keyword Initially) (g.table text)) (past (Keyword Initially) (g.table text)) (begins_past (Keyword Initially) (g.table text)) refl refl (past_of (Keyword Initially) (r.table_at text n))
        (exact_past n false (depth n false) [] (Keyword Initially) (alike_word Initially) (refl, refl, refl) (g.table text) (g.table text) has_table (r.table_at text n) exact_table)

    exact_arrow : IsExact (depth n false) (depth n false) [] (past (Symbol Arrow) (name text)) (past (Symbol Arrow) (name text)) (past_of (Symbol Arrow) (name_at text))
    exact_arrow = exact_past n false (depth n false) [] (Symbol Arrow) (alike_symbol Arrow) (refl, refl, refl) (name text) (name text) (has_name text) (name_at text) (exact_name text n false)

    exact_codomain : IsExact (depth n false) (depth n false) type_more codomain codomain (r.codomain_at text)
    unfolding r.codomain_at
    exact_codomain = exact_optional (depth n false) [] type_more (Symbol Arrow ∷ []) (past (Symbol Arrow) (name text)) (past (Symbol Arrow) (name text)) (begins_past (Symbol Arrow) (name text)) refl refl (past_of (Symbol Arrow) (name_at text)) exact_arrow

    exact_type : IsExact (depth n false) (depth n false) type_more (g.type text) (g.type text) (r.type_at text)
    unfolding g.type r.type_at
    exact_type = exact_or (depth n false) (depth n false) [] type_more type_more (Symbol Arrow ∷ []) (Name ∷ []) constant_type type_of_names constant_type type_of_names begins_constant_type begins_type_of_names refl refl refl
        (mapped only_codomain (past_of (Symbol Arrow) (name_at text))) (pair_of (r.names_at text (Symbol Times)) (r.codomain_at text))
        (exact_makes (depth n false) (depth n false) [] (past (Symbol Arrow) (name text)) (past (Symbol Arrow) (name text)) only_codomain (past_of (Symbol Arrow) (name_at text)) exact_arrow)
        (exact_pair (depth n false) (depth n false) (depth n false) (Symbol Times ∷ []) type_more (names (Symbol Times)) (names (Symbol Times)) codomain codomain codomain_ends ([], None, refl)
        (r.names_at text (Symbol Times)) (r.codomain_at text) (exact_names n false (Symbol Times) (alike_symbol Times) (refl, refl, refl)) exact_codomain)

    pub exact_signature : IsExact (depth n false) (depth n false) signature_more (g.signature text) (g.signature text) (r.signature_at text)
    unfolding g.signature r.signature_at
    exact_signature = exact_makes (depth n false) (depth n false) signature_more (optional (past (Symbol Colon) (g.type text))) (optional (past (Symbol Colon) (g.type text))) typed (option_of (Symbol Colon ∷ []) (past_of (Symbol Colon) (r.type_at text)))
        (exact_optional (depth n false) type_more signature_more (Symbol Colon ∷ []) (past (Symbol Colon) (g.type text)) (past (Symbol Colon) (g.type text)) (begins_past (Symbol Colon) (g.type text)) refl refl (past_of (Symbol Colon) (r.type_at text))
        (exact_past n false (depth n false) type_more (Symbol Colon) (alike_symbol Colon) (refl, refl, refl) (g.type text) (g.type text) has_type (r.type_at text) exact_type))

    pub exact_elements : IsExact (depth n false) (depth n false) [] elements elements (r.elements_at text)
    unfolding r.elements_at
    exact_elements = exact_braced n false (Symbol OpenBrace) (Symbol CloseBrace) (alike_symbol OpenBrace) (refl, refl, refl) (alike_symbol CloseBrace) (refl, refl, refl) (Symbol Comma ∷ []) refl (names (Symbol Comma)) (names (Symbol Comma))
        (has_separated (Symbol Comma) (name text) (has_name text)) (r.names_at text (Symbol Comma)) (exact_commas n false)

    exact_in_parentheses : IsExact (depth n false) (depth n false) [] in_parentheses in_parentheses (between_of n (Symbol Open) (Symbol Close) (r.names_at text (Symbol Comma)))
    exact_in_parentheses = exact_between n false true (Symbol Open) (Symbol Close) (alike_symbol Open) (alike_symbol Close) opened (entered n) (left n) (Symbol Comma ∷ []) refl (names (Symbol Comma)) (names (Symbol Comma))
        (has_separated (Symbol Comma) (name text) (has_name text)) (r.names_at text (Symbol Comma)) (λ m e. exact_commas m true)

    pub exact_parameters : IsExact (depth n false) (depth n false) (Symbol Open ∷ []) (g.parameters text) (g.parameters text) (r.parameters_at text n)
    unfolding g.parameters r.parameters_at
    exact_parameters = exact_makes (depth n false) (depth n false) (Symbol Open ∷ []) (optional in_parentheses) (optional in_parentheses) listed (option_of (Symbol Open ∷ []) (between_of n (Symbol Open) (Symbol Close) (r.names_at text (Symbol Comma))))
        (exact_optional (depth n false) [] (Symbol Open ∷ []) (Symbol Open ∷ []) in_parentheses in_parentheses (begins_between (Symbol Open) (Symbol Close) (names (Symbol Comma))) refl refl (between_of n (Symbol Open) (Symbol Close) (r.names_at text (Symbol Comma))) exact_in_parentheses)
