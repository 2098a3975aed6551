-- Definition. What a grammar is put together from. A production relates lists of tokens to what
-- they make.
use Rattle.std.specs.Prelude.{◌≡◌, ◌⊎◌, ℕ, ℤ, pos, neg_ℤ, Bool, true, false, if◌then◌else◌, List, [], ◌∷◌, ◌++◌, Option, Some, None}
use Rattle.asm_state.specs.declared.number.Number.{Number}
use Rattle.asm_syntax.specs.declared.token.Kind.{Kind}
use Rattle.asm_syntax.specs.declared.token.Kind.TheVariants as kind
use Rattle.asm_syntax.specs.declared.token.Token.{Token}
use Rattle.asm_reader.specs.Kinds.{looked_up}

abbrev pub Production : Type 0 → Type 1
Production A = List Token → A → Type 0

-- one token of this kind
abbrev pub token : Kind → Production Token
token k ts t = (ts ≡ t ∷ []) × (t.kind ≡ k)

-- one part after the other
pub record Sequence {A B : Type 0} (p : Production A) (q : Production B) (ts : List Token) (made : A × B) : Type 0 where
  pub front : List Token
  pub back : List Token
  pub whole : ts ≡ front ++ back
  pub first : p front made.0
  pub second : q back made.1

infixr 12 ◌then◌
abbrev pub ◌then◌ : {A B : Type 0} → Production A → Production B → Production (A × B)
p then q = Sequence p q

infixr 10 ◌or◌
abbrev pub ◌or◌ : {A : Type 0} → Production A → Production A → Production A
(p or q) ts x = p ts x ⊎ q ts x

-- at most once
abbrev pub optional : {A : Type 0} → Production A → Production (Option A)
optional p ts None = ts ≡ []
optional p ts (Some x) = p ts x

-- any number of times
abbrev pub repeated : {A : Type 0} → Production A → Production (List A)
repeated p ts [] = ts ≡ []
repeated p ts (x ∷ xs) = (front back : List Token) × (ts ≡ front ++ back) × p front x × repeated p back xs

-- what f makes of the part
infixr 11 ◌makes◌
abbrev pub ◌makes◌ : {A B : Type 0} → Production A → (A → B) → Production B
(p makes f) ts y = (x : _) × p ts x × (y ≡ f x)

-- a part that has no text
abbrev pub nothing : {A : Type 0} → Production A
nothing ts x = ⊥

-- a value, or its negative
abbrev pub signed : (is_negative : Bool) → ℕ → ℤ
signed is_negative n = if is_negative then neg_ℤ (pos n) else pos n

-- the number that a token stands for, or its negative
abbrev pub number_by : (is_negative : Bool) → Production Number
number_by is_negative ts x = (t : Token) × (n : ℕ) × (ts ≡ t ∷ []) × (t.kind ≡ kind.Number n) × (x.value ≡ signed is_negative n)

abbrev pub number : Production Number
number = number_by false

abbrev pub negative_number : Production Number
negative_number = number_by true

-- one of the tokens of a table, and what is next to it there
abbrev pub choice : {A : Type 0} → List (Kind × A) → Production A
choice table ts x = (t : Token) × (ts ≡ t ∷ []) × (looked_up table t.kind ≡ Some x)

-- the part after a token of this kind
abbrev pub past : {A : Type 0} → Kind → Production A → Production A
past k p = (token k then p) makes (λ r. r.1)

-- once or more
abbrev pub several : {A : Type 0} → Production A → Production (List A)
several p = (p then repeated p) makes (λ r. r.0 ∷ r.1)

-- a part without a bound on nesting
abbrev pub at_any_depth : {A : Type 0} → (ℕ → Production A) → Production A
at_any_depth p ts x = (n : ℕ) × p n ts x

-- once or more, with a token of this kind between two of them
abbrev pub separated : {A : Type 0} → Kind → Production A → Production (List A)
separated k p = (p then repeated (past k p)) makes (λ r. r.0 ∷ r.1)

-- a part between a token that opens and one that closes, with the first of the two
abbrev pub enclosed : {A : Type 0} → (opener close : Kind) → Production A → Production (Token × A)
enclosed k close p = (token k then p then token close) makes (λ r. (r.0, r.1.0))

-- the part between the two alone
abbrev pub between : {A : Type 0} → (opener close : Kind) → Production A → Production A
between k close p = enclosed k close p makes (λ r. r.1)
