-- Free. Exact readers of numbers, and of tokens of a table.
use Rattle.std.proofs.Common.{◌≡◌, ℕ, pos, Bool, true, false, List, [], ◌∷◌, Some, refl, sym, ap, ◌∙◌, is_some, inl, inr}
use Rattle.asm_state.specs.declared.number.Number.{Number as WholeNumber}
use Rattle.asm_state.specs.declared.operation.Op.TheVariants as op
use Rattle.asm_syntax.specs.declared.token.Kind.{Kind}
use Rattle.asm_syntax.specs.declared.token.Kind.TheVariants as kind
use Rattle.asm_syntax.specs.declared.token.Kind.TheVariants.{Number, Symbol, Keyword}
use Rattle.asm_syntax.specs.declared.token.Symbol.TheVariants.{Plus, Minus, Times, Equal, NotEqual, Less, AtMost, Greater, AtLeast}
use Rattle.asm_syntax.specs.declared.token.Keyword.TheVariants.{Or, And, Div, Mod, True, False, Undef}
use Rattle.asm_syntax.specs.declared.token.Token.{Token}
use Rattle.asm_syntax.specs.declared.term.Literal.TheVariants as literal
use Rattle.asm_reader.specs.Kinds.{alike, is_one_of, looked_up, keys}
use Rattle.asm_reader.specs.Productions.{Production, signed, number_by, choice}
use Rattle.asm_reader.specs.code.Steps.{number_at, number_of_kind, choice_at}
use Rattle.asm_reader.specs.TermGrammar.{constants, disjunctions, conjunctions, comparisons, additions, products}
use Rattle.asm_reader.proofs.Lists.{or_cases, alike_symbol, alike_word}
use Rattle.asm_reader.proofs.Tables.{looked_up_keys}
use Rattle.asm_state.proofs.ValueLaws.{value_laws}
use Rattle.asm_reader.proofs.ExactLemmas.Readers.{IsExact, Begins, HasText, IsSingle, exact_wider}
use Rattle.asm_reader.proofs.ExactLemmas.ExactTokens.{depth, IsPlain, exact_one, begins_one}

-- ---- tables

pub some_choice : {A : Type 0} (k : Kind) (x : A) (table : List (Kind × A)) → looked_up table k ≡ Some x → HasText (choice table)
some_choice k x table e = let t : Token = record { kind = k; start = 0; end = 0 } in (t ∷ [], x, (t, refl, e))

-- no token of the table opens or closes a level, and each kind there has one token
abbrev pub PlainRows : {A : Type 0} → List (Kind × A) → Type 0
PlainRows [] = Unit {0}
PlainRows (row ∷ rows) = IsPlain row.0 × IsSingle row.0 × PlainRows rows

plain_rows : {A : Type 0} (rows : List (Kind × A)) → PlainRows rows → (k : Kind) → is_one_of (keys rows) k ≡ true → IsPlain k
plain_rows [] h k e = absurd cc
plain_rows (row ∷ rows) h k e = elim (or_cases (alike row.0 k) (is_one_of (keys rows) k) e) [
  | inl d ↦ rw (h.1 k d) h.0
  | inr d ↦ plain_rows rows h.2 k d
]

module _ {A : Type 0} (n : ℕ) (q : Bool) (table : List (Kind × A)) (some : HasText (choice table)) (plain : PlainRows table) where
  in_keys : (k : Kind) → is_some (looked_up table k) ≡ true → is_one_of (keys table) k ≡ true
  in_keys k e = sym (looked_up_keys table k) ∙ e

  pub exact_choice : IsExact (depth n q) (depth n false) [] (choice table) (choice table) (choice_at table)
  exact_choice [] = exact_one n q (keys table) (looked_up table) in_keys (plain_rows table plain) some []
  exact_choice (t ∷ ts) = exact_one n q (keys table) (looked_up table) in_keys (plain_rows table plain) some (t ∷ ts)

  pub begins_choice : Begins (keys table) (choice table)
  begins_choice = begins_one n q (keys table) (looked_up table) in_keys (plain_rows table plain)

-- ---- the tables of terms

pub constants_plain : PlainRows constants
constants_plain = ((refl, refl, refl), alike_word True, ((refl, refl, refl), alike_word False, ((refl, refl, refl), alike_word Undef, tt)))

pub has_constant : HasText (choice constants)
has_constant = some_choice (Keyword True) (literal.Truth true) constants refl

pub products_plain : PlainRows products
products_plain = ((refl, refl, refl), alike_symbol Times, ((refl, refl, refl), alike_word Div, ((refl, refl, refl), alike_word Mod, tt)))

pub has_products : HasText (choice products)
has_products = some_choice (Symbol Times) op.Multiply products refl

pub additions_plain : PlainRows additions
additions_plain = ((refl, refl, refl), alike_symbol Plus, ((refl, refl, refl), alike_symbol Minus, tt))

pub has_additions : HasText (choice additions)
has_additions = some_choice (Symbol Plus) op.Add additions refl

pub comparisons_plain : PlainRows comparisons
comparisons_plain = (
  (refl, refl, refl),
  alike_symbol Equal,
  (
    (refl, refl, refl),
    alike_symbol NotEqual,
    (
      (refl, refl, refl),
      alike_symbol Less,
      ((refl, refl, refl), alike_symbol AtMost, ((refl, refl, refl), alike_symbol Greater, ((refl, refl, refl), alike_symbol AtLeast, tt))),
    ),
  ),
)

pub has_comparisons : HasText (choice comparisons)
has_comparisons = some_choice (Symbol Equal) op.Equal comparisons refl

pub conjunctions_plain : PlainRows conjunctions
conjunctions_plain = ((refl, refl, refl), alike_word And, tt)

pub has_conjunctions : HasText (choice conjunctions)
has_conjunctions = some_choice (Keyword And) op.And conjunctions refl

pub disjunctions_plain : PlainRows disjunctions
disjunctions_plain = ((refl, refl, refl), alike_word Or, tt)

pub has_disjunctions : HasText (choice disjunctions)
has_disjunctions = some_choice (Keyword Or) op.Or disjunctions refl

-- ---- numbers

module _ (b : Bool) where
  number_known : (k : Kind) → is_some (number_of_kind b k) ≡ true → is_one_of (Number 0 ∷ []) k ≡ true
  number_known kind.Name e = absurd cc
  number_known (Number m) e = refl
  number_known (Symbol s) e = absurd cc
  number_known (Keyword w) e = absurd cc

  number_plain : (k : Kind) → is_one_of (Number 0 ∷ []) k ≡ true → IsPlain k
  number_plain kind.Name e = absurd cc
  number_plain (Number m) e = (refl, refl, refl)
  number_plain (Symbol s) e = absurd cc
  number_plain (Keyword w) e = absurd cc

  -- the tokens that have a number in the range
  abbrev numbers : Production WholeNumber
  numbers ts x = (t : Token) × (ts ≡ t ∷ []) × (number_of_kind b t.kind ≡ Some x)

  is_number : (k : Kind) (x : WholeNumber) → number_of_kind b k ≡ Some x → (m : ℕ) × (k ≡ Number m) × (x.value ≡ signed b m)
  is_number kind.Name x e = absurd cc
  is_number (Number m) x e = (m, refl, (value_laws.with_value (signed b m) x).0 e)
  is_number (Symbol s) x e = absurd cc
  is_number (Keyword w) x e = absurd cc

  wide : (ts : List Token) (x : WholeNumber) → numbers ts x → number_by b ts x
  wide ts x m = let h = is_number m.0.kind x m.2 in (m.0, h.0, m.1, h.1, h.2)

  narrow : (ts : List Token) (x : WholeNumber) → number_by b ts x → numbers ts x
  narrow ts x m = (m.0, m.2, ap (number_of_kind b) m.3 ∙ (value_laws.with_value (signed b m.1) x).1 m.4)

  zero_number : (c : Bool) → (x : WholeNumber) × (x.value ≡ signed c 0)
  zero_number true = (record { value = pos 0; low = record { le = tt }; high = record { le = tt } }, refl)
  zero_number false = (record { value = pos 0; low = record { le = tt }; high = record { le = tt } }, refl)

  pub has_number : HasText (number_by b)
  has_number = let t : Token = record { kind = Number 0; start = 0; end = 0 } in let z = zero_number b in (t ∷ [], z.0, (t, 0, refl, refl, z.1))

  some_numbers : HasText numbers
  some_numbers = (has_number.0, has_number.1, narrow has_number.0 has_number.1 has_number.2)

  pub begins_number : Begins (Number 0 ∷ []) (number_by b)
  begins_number ts x m = rw (m.2, m.3) refl

  pub exact_number : (n : ℕ) (q : Bool) → IsExact (depth n q) (depth n false) [] (number_by b) (number_by b) (number_at b)
  exact_number n q = exact_wider (depth n q) (depth n false) [] [] numbers numbers (number_by b) (number_by b) wide narrow refl (number_at b) both
    where
      both : IsExact (depth n q) (depth n false) [] numbers numbers (number_at b)
      both [] = exact_one n q (Number 0 ∷ []) (number_of_kind b) number_known number_plain some_numbers []
      both (t ∷ ts) = exact_one n q (Number 0 ∷ []) (number_of_kind b) number_known number_plain some_numbers (t ∷ ts)
