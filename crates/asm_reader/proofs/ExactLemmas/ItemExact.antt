-- Free. The readers of items and of whole specifications are exact.
use Rattle.std.proofs.Common.{◌≡◌, ℕ, suc, ◌+◌, true, false, List, [], ◌∷◌, length, Option, None, refl, subst, arith}
use Rattle.asm_state.specs.declared.number.Number.{Number as WholeNumber}
use Rattle.asm_syntax.specs.declared.token.Kind.{Kind}
use Rattle.asm_syntax.specs.declared.token.Kind.TheVariants.{Symbol, Keyword}
use Rattle.asm_syntax.specs.declared.token.Symbol.TheVariants.{Open, Colon, Equal, Arrow, Dots}
use Rattle.asm_syntax.specs.declared.token.Keyword.TheVariants.{CoreAsm, Use, Init, Enum, Universe, Function, Controlled, Static, Initially, Derived, Rule}
use Rattle.asm_state.specs.declared.function.FunctionKind.{FunctionKind}
use Rattle.asm_state.specs.declared.function.FunctionKind.TheVariants as function_kind
use Rattle.asm_syntax.specs.SourceTree as source
use Rattle.asm_reader.specs.Levels.{Depth}
use Rattle.asm_reader.specs.Productions.{Production, ◌then◌, ◌or◌, repeated, choice, past}
use Rattle.asm_reader.specs.code.Steps.{Reader, pair_of, either_of, repeated_of, choice_at, past_of}
use Rattle.asm_reader.specs.TermGrammar.{name, term_within, any_term}
use Rattle.asm_reader.specs.code.TermReading.{name_at, term_at}
use Rattle.asm_reader.specs.RuleGrammar.{rule_within, any_rule}
use Rattle.asm_reader.specs.code.RuleReading.{rule_at}
use Rattle.asm_reader.specs.Grammar as g
use Rattle.asm_reader.specs.Grammar.{function_kinds}
use Rattle.asm_reader.specs.code.Reading as r
use Rattle.asm_reader.specs.code.Reading.{item_starts}
use Rattle.asm_reader.proofs.Lists.{alike_symbol, alike_word, apart, within}
use Rattle.asm_reader.proofs.ExactLemmas.Readers.{IsExact, Begins, Ends, HasText, exact_pair, exact_makes, exact_repeated, exact_with, ends_none, ends_by}
use Rattle.asm_reader.proofs.ExactLemmas.ExactTokens.{depth, exact_past, has_past, has_then, begins_makes, begins_past, optional_ends, begins_or, exact_or}
use Rattle.asm_reader.proofs.ExactLemmas.Choices.{some_choice, PlainRows, exact_choice}
use Rattle.asm_reader.proofs.ExactLemmas.TermExact.{term_more, has_name, exact_name, has_term}
use Rattle.asm_reader.proofs.WiderLemmas.TermWider.{exact_any_term}
use Rattle.asm_reader.proofs.ExactLemmas.RuleExact.{rule_more, has_rule, exact_any_rule}
use Rattle.asm_reader.proofs.ExactLemmas.ContentExact.{signature_more, initial, elements, has_int, exact_int, has_signature, exact_signature, exact_initially, has_elements, exact_elements, has_parameters, exact_parameters}

-- ---- what carries on an item that is whole

abbrev function_more : List Kind
function_more = Keyword Initially ∷ signature_more

abbrev pub item_more : List Kind
item_more = Keyword Initially ∷ Symbol Colon ∷ Symbol Arrow ∷ rule_more

-- what carries on a specification that is whole
abbrev pub items_more : List Kind
items_more = Keyword Use ∷ Keyword Init ∷ Keyword Enum ∷ Keyword Universe ∷ Keyword Function ∷ Keyword Derived ∷ Keyword Rule ∷ item_more

kinds_plain : PlainRows function_kinds
kinds_plain = ((refl, refl, refl), alike_word Controlled, ((refl, refl, refl), alike_word Static, tt))

has_kind : HasText (choice function_kinds)
has_kind = some_choice (Keyword Controlled) function_kind.Controlled function_kinds refl

module _ (text : List ℕ) where
  -- ---- what items are put together from

  abbrev set_elements : Production (List source.Name)
  set_elements = past (Symbol Equal) (elements text)

  abbrev enum_parts : Production (source.Name × List source.Name)
  enum_parts = name text then set_elements

  abbrev enum_made : source.Name × List source.Name → source.Item
  enum_made v = source.Enum v.0 v.1

  abbrev last_number : Production WholeNumber
  last_number = past (Symbol Dots) g.int

  abbrev set_range : Production (WholeNumber × WholeNumber)
  set_range = past (Symbol Equal) (g.int then last_number)

  abbrev universe_parts : Production (source.Name × (WholeNumber × WholeNumber))
  universe_parts = name text then set_range

  abbrev universe_made : source.Name × (WholeNumber × WholeNumber) → source.Item
  universe_made v = source.Universe v.0 v.1.0 v.1.1

  abbrev typed_parts : Production ((List source.Name × Option source.Name) × Option source.Given)
  typed_parts = g.signature text then initial text

  abbrev function_parts : Production (FunctionKind × (source.Name × ((List source.Name × Option source.Name) × Option source.Given)))
  function_parts = choice function_kinds then (name text then typed_parts)

  abbrev function_made : FunctionKind × (source.Name × ((List source.Name × Option source.Name) × Option source.Given)) → source.Item
  function_made v = source.Function v.1.0 v.0 v.1.1.0.0 v.1.1.0.1 v.1.1.1

  -- the parameters of a derived function or of a rule, and its body
  abbrev declared_parts : {A : Type 0} → Production A → Production (source.Name × (List source.Name × A))
  declared_parts X = name text then (g.parameters text then past (Symbol Equal) X)

  abbrev derived_made : source.Name × (List source.Name × source.Term) → source.Item
  derived_made v = source.Derived v.0 v.1.0 v.1.1

  abbrev rule_item_made : source.Name × (List source.Name × source.Rule) → source.Item
  rule_item_made v = source.NamedRule v.0 v.1.0 v.1.1

  -- ---- what items begin with

  begins_use : Begins (Keyword Use ∷ []) (g.use_item text)
  unfolding g.use_item
  begins_use = begins_makes (Keyword Use ∷ []) (past (Keyword Use) (name text)) source.Uses (begins_past (Keyword Use) (name text))

  begins_init : Begins (Keyword Init ∷ []) (g.init_item text)
  unfolding g.init_item
  begins_init = begins_makes (Keyword Init ∷ []) (past (Keyword Init) (name text)) source.Init (begins_past (Keyword Init) (name text))

  begins_enum : Begins (Keyword Enum ∷ []) (g.enum_item text)
  unfolding g.enum_item
  begins_enum = begins_makes (Keyword Enum ∷ []) (past (Keyword Enum) enum_parts) enum_made (begins_past (Keyword Enum) enum_parts)

  begins_universe : Begins (Keyword Universe ∷ []) (g.universe_item text)
  unfolding g.universe_item
  begins_universe = begins_makes (Keyword Universe ∷ []) (past (Keyword Universe) universe_parts) universe_made (begins_past (Keyword Universe) universe_parts)

  begins_function : Begins (Keyword Function ∷ []) (g.function_item text)
  unfolding g.function_item
  begins_function = begins_makes (Keyword Function ∷ []) (past (Keyword Function) function_parts) function_made (begins_past (Keyword Function) function_parts)

  begins_derived : (X : Production source.Term) (S : Production source.Rule) → Begins (Keyword Derived ∷ []) (g.derived_item text X S)
  unfolding g.derived_item
  begins_derived X S = begins_makes (Keyword Derived ∷ []) (past (Keyword Derived) (declared_parts X)) derived_made (begins_past (Keyword Derived) (declared_parts X))

  begins_rule_item : (X : Production source.Term) (S : Production source.Rule) → Begins (Keyword Rule ∷ []) (g.rule_item text X S)
  unfolding g.rule_item
  begins_rule_item X S = begins_makes (Keyword Rule ∷ []) (past (Keyword Rule) (declared_parts S)) rule_item_made (begins_past (Keyword Rule) (declared_parts S))

  -- the items from one on, in the order of the grammar
  module _ (X : Production source.Term) (S : Production source.Rule) where
    abbrev from_derived : Production source.Item
    from_derived = g.derived_item text X S or g.rule_item text X S

    abbrev from_function : Production source.Item
    from_function = g.function_item text or from_derived

    abbrev from_universe : Production source.Item
    from_universe = g.universe_item text or from_function

    abbrev from_enum : Production source.Item
    from_enum = g.enum_item text or from_universe

    abbrev from_init : Production source.Item
    from_init = g.init_item text or from_enum

    begins_from_derived : Begins (Keyword Derived ∷ Keyword Rule ∷ []) from_derived
    begins_from_derived = begins_or (Keyword Derived ∷ []) (Keyword Rule ∷ []) (Keyword Derived ∷ Keyword Rule ∷ []) (g.derived_item text X S) (g.rule_item text X S) (begins_derived X S) (begins_rule_item X S) refl refl

    begins_from_function : Begins (Keyword Function ∷ Keyword Derived ∷ Keyword Rule ∷ []) from_function
    begins_from_function = begins_or (Keyword Function ∷ []) (Keyword Derived ∷ Keyword Rule ∷ []) (Keyword Function ∷ Keyword Derived ∷ Keyword Rule ∷ []) (g.function_item text) from_derived begins_function begins_from_derived refl refl

    begins_from_universe : Begins (Keyword Universe ∷ Keyword Function ∷ Keyword Derived ∷ Keyword Rule ∷ []) from_universe
    begins_from_universe = begins_or (Keyword Universe ∷ []) (Keyword Function ∷ Keyword Derived ∷ Keyword Rule ∷ []) (Keyword Universe ∷ Keyword Function ∷ Keyword Derived ∷ Keyword Rule ∷ []) (g.universe_item text) from_function begins_universe begins_from_function refl refl

    begins_from_enum : Begins (Keyword Enum ∷ Keyword Universe ∷ Keyword Function ∷ Keyword Derived ∷ Keyword Rule ∷ []) from_enum
    begins_from_enum = begins_or (Keyword Enum ∷ []) (Keyword Universe ∷ Keyword Function ∷ Keyword Derived ∷ Keyword Rule ∷ []) (Keyword Enum ∷ Keyword Universe ∷ Keyword Function ∷ Keyword Derived ∷ Keyword Rule ∷ []) (g.enum_item text) from_universe begins_enum begins_from_universe refl refl

    begins_from_init : Begins (Keyword Init ∷ Keyword Enum ∷ Keyword Universe ∷ Keyword Function ∷ Keyword Derived ∷ Keyword Rule ∷ []) from_init
    begins_from_init = begins_or (Keyword Init ∷ []) (Keyword Enum ∷ Keyword Universe ∷ Keyword Function ∷ Keyword Derived ∷ Keyword Rule ∷ []) (Keyword Init ∷ Keyword Enum ∷ Keyword Universe ∷ Keyword Function ∷ Keyword Derived ∷ Keyword Rule ∷ []) (g.init_item text) from_enum begins_init begins_from_enum refl refl

    pub begins_item : Begins item_starts (g.item text X S)
    unfolding g.item
    begins_item = begins_or (Keyword Use ∷ []) (Keyword Init ∷ Keyword Enum ∷ Keyword Universe ∷ Keyword Function ∷ Keyword Derived ∷ Keyword Rule ∷ []) item_starts (g.use_item text) from_init begins_use begins_from_init refl refl

  -- ---- texts of the parts, and what may follow them

  has_enum_parts : HasText enum_parts
  has_enum_parts = has_then (name text) set_elements (has_name text) (has_past (Symbol Equal) (elements text) (has_elements text))

  has_range : HasText (g.int then last_number)
  has_range = has_then g.int last_number has_int (has_past (Symbol Dots) g.int has_int)

  has_universe_parts : HasText universe_parts
  has_universe_parts = has_then (name text) set_range (has_name text) (has_past (Symbol Equal) (g.int then last_number) has_range)

  has_initial : HasText (initial text)
  has_initial = ([], None, refl)

  has_typed : HasText typed_parts
  has_typed = has_then (g.signature text) (initial text) (has_signature text) has_initial

  initial_ends : Ends signature_more function_more (initial text)
  initial_ends = optional_ends signature_more function_more (Keyword Initially ∷ []) (past (Keyword Initially) (g.table text))
      (ends_by signature_more function_more (Keyword Initially ∷ []) (past (Keyword Initially) (g.table text)) (begins_past (Keyword Initially) (g.table text)) refl) refl

  -- n levels may open
  module _ (n : ℕ) where
    abbrev d : Depth
    d = depth n false

    exact_use : IsExact d d [] (g.use_item text) (g.use_item text) (r.use_at text)
    unfolding g.use_item r.use_at
    exact_use = exact_makes d d [] (past (Keyword Use) (name text)) (past (Keyword Use) (name text)) source.Uses (past_of (Keyword Use) (name_at text))
        (exact_past n false d [] (Keyword Use) (alike_word Use) (refl, refl, refl) (name text) (name text) (has_name text) (name_at text) (exact_name text n false))

    exact_init : IsExact d d [] (g.init_item text) (g.init_item text) (r.init_at text)
    unfolding g.init_item r.init_at
    exact_init = exact_makes d d [] (past (Keyword Init) (name text)) (past (Keyword Init) (name text)) source.Init (past_of (Keyword Init) (name_at text))
        (exact_past n false d [] (Keyword Init) (alike_word Init) (refl, refl, refl) (name text) (name text) (has_name text) (name_at text) (exact_name text n false))

    -- after the `=` of a declaration
    exact_set : {A : Type 0} (more : List Kind) (P N : Production A) → HasText P → (f : Reader A) → IsExact d d more P N f → IsExact d d more (past (Symbol Equal) P) (past (Symbol Equal) N) (past_of (Symbol Equal) f)
    exact_set more = exact_past n false d more (Symbol Equal) (alike_symbol Equal) (refl, refl, refl)

    -- a name, and what comes after it
    exact_named : {A : Type 0} (more : List Kind) (P N : Production A) → HasText P → (f : Reader A) → IsExact d d more P N f → IsExact d d more (name text then P) (name text then N) (pair_of (name_at text) f)
    exact_named more P N some f h = exact_pair d d d [] more (name text) (name text) P N (ends_none more N) some (name_at text) f (exact_name text n false) h

    exact_enum : IsExact d d [] (g.enum_item text) (g.enum_item text) (r.enum_at text)
    unfolding g.enum_item r.enum_at
    exact_enum = exact_makes d d [] (past (Keyword Enum) enum_parts) (past (Keyword Enum) enum_parts) enum_made (past_of (Keyword Enum) (pair_of (name_at text) (past_of (Symbol Equal) (r.elements_at text))))
        (exact_past n false d [] (Keyword Enum) (alike_word Enum) (refl, refl, refl) enum_parts enum_parts has_enum_parts (pair_of (name_at text) (past_of (Symbol Equal) (r.elements_at text)))
        (exact_named [] set_elements set_elements (has_past (Symbol Equal) (elements text) (has_elements text)) (past_of (Symbol Equal) (r.elements_at text))
        (exact_set [] (elements text) (elements text) (has_elements text) (r.elements_at text) (exact_elements text n))))

    exact_range : IsExact d d [] (g.int then last_number) (g.int then last_number) (pair_of r.int_at (past_of (Symbol Dots) r.int_at))
    exact_range = exact_pair d d d [] [] g.int g.int last_number last_number (ends_none [] last_number) (has_past (Symbol Dots) g.int has_int) r.int_at (past_of (Symbol Dots) r.int_at) (exact_int n false)
        (exact_past n false d [] (Symbol Dots) (alike_symbol Dots) (refl, refl, refl) g.int g.int has_int r.int_at (exact_int n false))

    exact_universe : IsExact d d [] (g.universe_item text) (g.universe_item text) (r.universe_at text)
    unfolding g.universe_item r.universe_at
    exact_universe = exact_makes d d [] (past (Keyword Universe) universe_parts) (past (Keyword Universe) universe_parts) universe_made (past_of (Keyword Universe) (pair_of (name_at text) (past_of (Symbol Equal) (pair_of r.int_at (past_of (Symbol Dots) r.int_at)))))
        (exact_past n false d [] (Keyword Universe) (alike_word Universe) (refl, refl, refl) universe_parts universe_parts has_universe_parts (pair_of (name_at text) (past_of (Symbol Equal) (pair_of r.int_at (past_of (Symbol Dots) r.int_at))))
        (exact_named [] set_range set_range (has_past (Symbol Equal) (g.int then last_number) has_range) (past_of (Symbol Equal) (pair_of r.int_at (past_of (Symbol Dots) r.int_at)))
        (exact_set [] (g.int then last_number) (g.int then last_number) has_range (pair_of r.int_at (past_of (Symbol Dots) r.int_at)) exact_range)))

    exact_typed : IsExact d d function_more typed_parts typed_parts (pair_of (r.signature_at text) (r.initially_at text n))
    exact_typed = exact_pair d d d signature_more function_more (g.signature text) (g.signature text) (initial text) (initial text) initial_ends has_initial (r.signature_at text) (r.initially_at text n) (exact_signature text n)
        (exact_with d d (Keyword Initially ∷ []) function_more (initial text) (initial text) refl (r.initially_at text n) (exact_initially text n))

    exact_function : IsExact d d function_more (g.function_item text) (g.function_item text) (r.function_at text n)
    unfolding g.function_item r.function_at
    exact_function = exact_makes d d function_more (past (Keyword Function) function_parts) (past (Keyword Function) function_parts) function_made (past_of (Keyword Function) (pair_of (choice_at function_kinds) named_on))
        (exact_past n false d function_more (Keyword Function) (alike_word Function) (refl, refl, refl) function_parts function_parts (has_then (choice function_kinds) (name text then typed_parts) has_kind has_named) (pair_of (choice_at function_kinds) named_on)
        (exact_pair d d d [] function_more (choice function_kinds) (choice function_kinds) (name text then typed_parts) (name text then typed_parts) (ends_none function_more (name text then typed_parts)) has_named (choice_at function_kinds) named_on
        (exact_choice n false function_kinds has_kind kinds_plain)
        (exact_named function_more typed_parts typed_parts has_typed (pair_of (r.signature_at text) (r.initially_at text n)) exact_typed)))
      where
        named_on : Reader (source.Name × ((List source.Name × Option source.Name) × Option source.Given))
        named_on = pair_of (name_at text) (pair_of (r.signature_at text) (r.initially_at text n))

        has_named : HasText (name text then typed_parts)
        has_named = has_then (name text) typed_parts (has_name text) has_typed

    -- a name, parameters and a body after `=`
    exact_declared_parts : {A : Type 0} (more : List Kind) (P N : Production A) → HasText P → (f : Reader A) → IsExact d d more P N f
        → IsExact d d more (declared_parts P) (declared_parts N) (pair_of (name_at text) (pair_of (r.parameters_at text n) (past_of (Symbol Equal) f)))
    exact_declared_parts more P N some f h = exact_named more (g.parameters text then past (Symbol Equal) P) (g.parameters text then past (Symbol Equal) N) (has_then (g.parameters text) (past (Symbol Equal) P) (has_parameters text) (has_past (Symbol Equal) P some))
        (pair_of (r.parameters_at text n) (past_of (Symbol Equal) f))
        (exact_pair d d d (Symbol Open ∷ []) more (g.parameters text) (g.parameters text) (past (Symbol Equal) P) (past (Symbol Equal) N) (ends_by (Symbol Open ∷ []) more (Symbol Equal ∷ []) (past (Symbol Equal) N) (begins_past (Symbol Equal) N) refl) (has_past (Symbol Equal) P some)
        (r.parameters_at text n) (past_of (Symbol Equal) f) (exact_parameters text n) (exact_set more P N some f h))

    has_declared_parts : {A : Type 0} (P : Production A) → HasText P → HasText (declared_parts P)
    has_declared_parts P some = has_then (name text) (g.parameters text then past (Symbol Equal) P) (has_name text) (has_then (g.parameters text) (past (Symbol Equal) P) (has_parameters text) (has_past (Symbol Equal) P some))

    -- ---- terms and rules that nest at most n + 1 levels deep

    abbrev pub term : Production source.Term
    term = term_within text (suc n)

    abbrev pub rule : Production source.Rule
    rule = rule_within text (suc n)

    pub exact_term : IsExact d d term_more term (any_term text) (term_at text n)
    exact_term = subst (λ j. IsExact d d term_more (term_within text (suc j)) (any_term text) (term_at text n)) none_more (exact_any_term text n 0 false)
      where
        none_more : n + 0 ≡ n
        none_more = omega arith

    exact_rule : IsExact d d rule_more rule (any_rule text) (rule_at text n)
    exact_rule = subst (λ j. IsExact d d rule_more (rule_within text (suc j)) (any_rule text) (rule_at text n)) none_more (exact_any_rule text n 0)
      where
        none_more : n + 0 ≡ n
        none_more = omega arith

    exact_derived : IsExact d d term_more (g.derived_item text term rule) (g.derived_item text (any_term text) (any_rule text)) (r.derived_at text n)
    unfolding g.derived_item r.derived_at
    exact_derived = exact_makes d d term_more (past (Keyword Derived) (declared_parts term)) (past (Keyword Derived) (declared_parts (any_term text))) derived_made (past_of (Keyword Derived) (pair_of (name_at text) (pair_of (r.parameters_at text n) (past_of (Symbol Equal) (term_at text n)))))
        (exact_past n false d term_more (Keyword Derived) (alike_word Derived) (refl, refl, refl) (declared_parts term) (declared_parts (any_term text)) (has_declared_parts term (has_term text (suc n))) (pair_of (name_at text) (pair_of (r.parameters_at text n) (past_of (Symbol Equal) (term_at text n))))
        (exact_declared_parts term_more term (any_term text) (has_term text (suc n)) (term_at text n) exact_term))

    exact_rule_item : IsExact d d rule_more (g.rule_item text term rule) (g.rule_item text (any_term text) (any_rule text)) (r.rule_item_at text n)
    unfolding g.rule_item r.rule_item_at
    exact_rule_item = exact_makes d d rule_more (past (Keyword Rule) (declared_parts rule)) (past (Keyword Rule) (declared_parts (any_rule text))) rule_item_made (past_of (Keyword Rule) (pair_of (name_at text) (pair_of (r.parameters_at text n) (past_of (Symbol Equal) (rule_at text n)))))
        (exact_past n false d rule_more (Keyword Rule) (alike_word Rule) (refl, refl, refl) (declared_parts rule) (declared_parts (any_rule text)) (has_declared_parts rule (has_rule text (suc n))) (pair_of (name_at text) (pair_of (r.parameters_at text n) (past_of (Symbol Equal) (rule_at text n))))
        (exact_declared_parts rule_more rule (any_rule text) (has_rule text (suc n)) (rule_at text n) exact_rule))

    -- ---- items

    abbrev either_item : Production source.Item
    either_item = g.item text term rule

    abbrev any_item : Production source.Item
    any_item = g.item text (any_term text) (any_rule text)

    -- one more kind of item before the others
    exact_before : (ks js less : List Kind) (P N Q M : Production source.Item) → Begins ks N → Begins js M → apart js ks ≡ true → within less item_more ≡ true
        → (f h : Reader source.Item) → IsExact d d less P N f → IsExact d d item_more Q M h → IsExact d d item_more (P or Q) (N or M) (either_of ks f h)
    exact_before ks js less P N Q M b c differ u = exact_or d d less item_more item_more ks js P Q N M b c differ u refl

    pub exact_item : IsExact d d item_more either_item any_item (r.item_at text n)
    unfolding g.item r.item_at
    exact_item = exact_before (Keyword Use ∷ []) (Keyword Init ∷ Keyword Enum ∷ Keyword Universe ∷ Keyword Function ∷ Keyword Derived ∷ Keyword Rule ∷ []) [] (g.use_item text) (g.use_item text) (from_init term rule) (from_init (any_term text) (any_rule text)) begins_use (begins_from_init (any_term text) (any_rule text)) refl refl (r.use_at text) init_on exact_use
        (exact_before (Keyword Init ∷ []) (Keyword Enum ∷ Keyword Universe ∷ Keyword Function ∷ Keyword Derived ∷ Keyword Rule ∷ []) [] (g.init_item text) (g.init_item text) (from_enum term rule) (from_enum (any_term text) (any_rule text)) begins_init (begins_from_enum (any_term text) (any_rule text)) refl refl (r.init_at text) enum_on exact_init
        (exact_before (Keyword Enum ∷ []) (Keyword Universe ∷ Keyword Function ∷ Keyword Derived ∷ Keyword Rule ∷ []) [] (g.enum_item text) (g.enum_item text) (from_universe term rule) (from_universe (any_term text) (any_rule text)) begins_enum (begins_from_universe (any_term text) (any_rule text)) refl refl (r.enum_at text) universe_on exact_enum
        (exact_before (Keyword Universe ∷ []) (Keyword Function ∷ Keyword Derived ∷ Keyword Rule ∷ []) [] (g.universe_item text) (g.universe_item text) (from_function term rule) (from_function (any_term text) (any_rule text)) begins_universe (begins_from_function (any_term text) (any_rule text)) refl refl (r.universe_at text) function_on exact_universe
        (exact_before (Keyword Function ∷ []) (Keyword Derived ∷ Keyword Rule ∷ []) function_more (g.function_item text) (g.function_item text) (from_derived term rule) (from_derived (any_term text) (any_rule text)) begins_function (begins_from_derived (any_term text) (any_rule text)) refl refl (r.function_at text n) derived_on exact_function
        (exact_or d d term_more rule_more item_more (Keyword Derived ∷ []) (Keyword Rule ∷ []) (g.derived_item text term rule) (g.rule_item text term rule) (g.derived_item text (any_term text) (any_rule text)) (g.rule_item text (any_term text) (any_rule text))
        (begins_derived (any_term text) (any_rule text)) (begins_rule_item (any_term text) (any_rule text)) refl refl refl (r.derived_at text n) (r.rule_item_at text n) exact_derived exact_rule_item)))))
      where
        derived_on : Reader source.Item
        derived_on = either_of (Keyword Derived ∷ []) (r.derived_at text n) (r.rule_item_at text n)

        function_on : Reader source.Item
        function_on = either_of (Keyword Function ∷ []) (r.function_at text n) derived_on

        universe_on : Reader source.Item
        universe_on = either_of (Keyword Universe ∷ []) (r.universe_at text) function_on

        enum_on : Reader source.Item
        enum_on = either_of (Keyword Enum ∷ []) (r.enum_at text) universe_on

        init_on : Reader source.Item
        init_on = either_of (Keyword Init ∷ []) (r.init_at text) enum_on

    exact_items : IsExact d d items_more (repeated either_item) (repeated any_item) (repeated_of item_starts (r.item_at text n))
    exact_items = exact_repeated d item_more items_more item_starts either_item any_item (begins_item term rule) (begins_item (any_term text) (any_rule text)) refl refl refl (r.item_at text n) exact_item

    abbrev spec_made : source.Name × List source.Item → source.Spec
    spec_made v = record { name = v.0; items = v.1; length = length text }

    -- If n levels may open, the reader of specifications takes those that nest one level deeper at
    -- most, and what it refuses is no specification at any depth.
    pub exact_specification : IsExact d d items_more (g.specification_over text term rule) (g.specification text) (r.specification_at text n)
    unfolding g.specification_over r.specification_at
    exact_specification = exact_makes d d items_more (past (Keyword CoreAsm) (name text then repeated either_item)) (past (Keyword CoreAsm) (name text then repeated any_item)) spec_made (past_of (Keyword CoreAsm) (pair_of (name_at text) (repeated_of item_starts (r.item_at text n))))
        (exact_past n false d items_more (Keyword CoreAsm) (alike_word CoreAsm) (refl, refl, refl) (name text then repeated either_item) (name text then repeated any_item) (has_then (name text) (repeated either_item) (has_name text) ([], [], refl)) (pair_of (name_at text) (repeated_of item_starts (r.item_at text n)))
        (exact_named items_more (repeated either_item) (repeated any_item) ([], [], refl) (repeated_of item_starts (r.item_at text n)) exact_items))
