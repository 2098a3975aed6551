-- Free. How far tokens go.
use Rattle.std.proofs.Common.{◌≡◌, ◌≢◌, ℕ, List, [], ◌∷◌, ◌++◌, Bool, true, false, not, refl, ap, sym, subst, ◌∙◌}
use Rattle.std.specs.Prelude.{IsTrue, All}
use Rattle.std.proofs.lemmas.Bool.{and_parts, or_left, or_right}
use Rattle.std.proofs.lemmas.List.Elements.{All-nil, All-cons, All-head, All-tail}
use Rattle.std.specs.Char.{is_ascii_digit}
use Rattle.asm_syntax.specs.declared.token.Kind.{Kind}
use Rattle.asm_syntax.specs.declared.token.Kind.TheVariants.{Name, Number, Symbol, Keyword}
use Rattle.asm_syntax.specs.declared.token.Symbol as symbol
use Rattle.asm_syntax.specs.declared.token.Keyword as word
use Rattle.asm_syntax.specs.Tokens.{is_letter, is_letter_or_digit, BeginsBy, IsName, Spells, IsLongest}
use Rattle.asm_syntax.specs.Spellings.{symbol_text, word_text}
use Rattle.asm_syntax.proofs.Texts.{begins_plain, all_in_names, is_name, is_short, symbol_is_plain, symbol_is_short, word_is_name}
use Rattle.asm_syntax.proofs.Bytes.{letter_no_digit}

-- ---- lists

pub each : (P : ℕ → Type 0) (xs : List ℕ) (c : ℕ) (ys : List ℕ) → All P (xs ++ c ∷ ys) → P c
each P [] c ys all = All-head P c ys all
each P (x ∷ xs) c ys all = each P xs c ys (All-tail P x (xs ++ c ∷ ys) all)

no_true : (b : Bool) → b ≡ true → not b ≡ true → ⊥
no_true true h i = absurd (cc)
no_true false h i = absurd (cc)

-- ---- names

all_tested : (text : List ℕ) → all_in_names text ≡ true → All (λ c. IsTrue (is_letter_or_digit c)) text
all_tested [] h = All-nil (λ c. IsTrue (is_letter_or_digit c))
all_tested (b ∷ bytes) h = All-cons (λ c. IsTrue (is_letter_or_digit c)) b bytes (and_parts _ _ h).0 (all_tested bytes (and_parts _ _ h).1)

name_tested : (text : List ℕ) → is_name text ≡ true → IsName text
name_tested [] h = absurd (cc)
name_tested (b ∷ bytes) h = ((and_parts _ _ h).0, all_tested bytes (and_parts _ _ h).1)

pub word_named : (text : List ℕ) (w : word.Keyword) → text ≡ word_text w → IsName text
word_named text w e = subst IsName (sym e) (name_tested (word_text w) (word_is_name w))

name_all : (text : List ℕ) → IsName text → All (λ c. IsTrue (is_letter_or_digit c)) text
name_all [] h = absurd h
name_all (b ∷ bytes) h = All-cons (λ c. IsTrue (is_letter_or_digit c)) b bytes (or_left (is_letter b) (is_ascii_digit b) h.0) h.1

pub symbol_first : (s : symbol.Symbol) (b : ℕ) (bytes : List ℕ) → b ∷ bytes ≡ symbol_text s → is_letter_or_digit b ≡ true → ⊥
symbol_first s b bytes e h = no_true (is_letter_or_digit b) h (ap begins_plain e ∙ symbol_is_plain s)

digit_in_names : (c : ℕ) → is_ascii_digit c ≡ true → is_letter_or_digit c ≡ true
digit_in_names c h = or_right (is_letter c) (is_ascii_digit c) h

letter_in_names : (c : ℕ) → is_letter c ≡ true → is_letter_or_digit c ≡ true
letter_in_names c h = or_left (is_letter c) (is_ascii_digit c) h

-- a token that begins with a letter or digit goes no further than letters and digits do
goes_on : (b : ℕ) (bytes : List ℕ) (c : ℕ) (more : List ℕ) (k : Kind) → is_letter_or_digit b ≡ true → Spells (b ∷ bytes ++ c ∷ more) k → is_letter_or_digit c ≡ true
goes_on b bytes c more Name first s = each (λ c. IsTrue (is_letter_or_digit c)) (b ∷ bytes) c more (name_all (b ∷ bytes ++ c ∷ more) s.0)
goes_on b bytes c more (Number n) first s = digit_in_names c (each (λ c. IsTrue (is_ascii_digit c)) (b ∷ bytes) c more s.1)
goes_on b bytes c more (Symbol x) first s = absurd (symbol_first x b (bytes ++ c ∷ more) s first)
goes_on b bytes c more (Keyword w) first s = each (λ c. IsTrue (is_letter_or_digit c)) (b ∷ bytes) c more (name_all (b ∷ bytes ++ c ∷ more) (word_named _ w s))

digits_go_on : (b : ℕ) (bytes : List ℕ) (c : ℕ) (more : List ℕ) (k : Kind) → is_ascii_digit b ≡ true → Spells (b ∷ bytes ++ c ∷ more) k → is_ascii_digit c ≡ true
digits_go_on b bytes c more Name first s = absurd (letter_no_digit b s.0.0 first)
digits_go_on b bytes c more (Number n) first s = each (λ c. IsTrue (is_ascii_digit c)) (b ∷ bytes) c more s.1
digits_go_on b bytes c more (Symbol x) first s = absurd (symbol_first x b (bytes ++ c ∷ more) s (digit_in_names b first))
digits_go_on b bytes c more (Keyword w) first s = absurd (letter_no_digit b (word_named _ w s).0 first)

begins_by : (p : ℕ → Bool) (text : List ℕ) (c : ℕ) (bytes : List ℕ) → text ≡ c ∷ bytes → p c ≡ true → BeginsBy p text
begins_by p text c bytes e h = subst (BeginsBy p) (sym e) h

pub name_longest : (b : ℕ) (bytes behind : List ℕ) → is_letter b ≡ true → ¬ BeginsBy is_letter_or_digit behind → IsLongest (b ∷ bytes) behind
name_longest b bytes behind first stops [] rest k e s = refl
name_longest b bytes behind first stops (c ∷ more) rest k e s = absurd (stops (begins_by is_letter_or_digit behind c (more ++ rest) e (goes_on b bytes c more k (letter_in_names b first) s)))

pub number_longest : (b : ℕ) (bytes behind : List ℕ) → is_ascii_digit b ≡ true → ¬ BeginsBy is_ascii_digit behind → IsLongest (b ∷ bytes) behind
number_longest b bytes behind first stops [] rest k e s = refl
number_longest b bytes behind first stops (c ∷ more) rest k e s = absurd (stops (begins_by is_ascii_digit behind c (more ++ rest) e (digits_go_on b bytes c more k first s)))

-- ---- symbols

-- a token that begins with no letter or digit is a symbol
symbol_only : (a : ℕ) (bytes : List ℕ) (k : Kind) → ¬ (is_letter a ≡ true) → ¬ (is_ascii_digit a ≡ true) → Spells (a ∷ bytes) k → (s : symbol.Symbol) × (a ∷ bytes ≡ symbol_text s)
symbol_only a bytes Name letter digit s = absurd (letter s.0.0)
symbol_only a bytes (Number n) letter digit s = absurd (digit (All-head (λ c. IsTrue (is_ascii_digit c)) a bytes s.1))
symbol_only a bytes (Symbol x) letter digit s = (x, s)
symbol_only a bytes (Keyword w) letter digit s = absurd (letter (word_named _ w s).0)

short_text : (s : symbol.Symbol) (text : List ℕ) → text ≡ symbol_text s → is_short text ≡ false → ⊥
short_text s text e long = let no : true ≡ false = sym (symbol_is_short s) ∙ ap is_short (sym e) ∙ long in absurd (cc)

pub single_longest : (a : ℕ) (bytes : List ℕ) → ¬ (is_letter a ≡ true) → ¬ (is_ascii_digit a ≡ true) → ((s : symbol.Symbol) (x y : ℕ) (behind : List ℕ) → a ∷ bytes ≡ x ∷ y ∷ behind → symbol_text s ≢ x ∷ y ∷ []) → IsLongest (a ∷ []) bytes
single_longest a bytes letter digit none [] rest k e s = refl
single_longest a bytes letter digit none (c ∷ []) rest k e s = let found = symbol_only a (c ∷ []) k letter digit s in absurd (none found.0 a c rest (ap (λ l. a ∷ l) e) (sym found.1))
single_longest a bytes letter digit none (c ∷ d ∷ more) rest k e s = let found = symbol_only a (c ∷ d ∷ more) k letter digit s in absurd (short_text found.0 _ found.1 refl)

pub double_longest : (a b : ℕ) (bytes : List ℕ) → ¬ (is_letter a ≡ true) → ¬ (is_ascii_digit a ≡ true) → IsLongest (a ∷ b ∷ []) bytes
double_longest a b bytes letter digit [] rest k e s = refl
double_longest a b bytes letter digit (c ∷ more) rest k e s = let found = symbol_only a (b ∷ c ∷ more) k letter digit s in absurd (short_text found.0 _ found.1 refl)

pub no_empty_token : (k : Kind) → Spells [] k → ⊥
no_empty_token Name s = s.0
no_empty_token (Number n) s = s.0 refl
no_empty_token (Symbol x) s = short_text x [] s refl
no_empty_token (Keyword w) s = word_named [] w s

pub no_token : (a : ℕ) (bytes : List ℕ) → ¬ (is_letter a ≡ true) → ¬ (is_ascii_digit a ≡ true) → ((s : symbol.Symbol) (x y : ℕ) (behind : List ℕ) → a ∷ bytes ≡ x ∷ y ∷ behind → symbol_text s ≢ x ∷ y ∷ []) → ((s : symbol.Symbol) → symbol_text s ≢ a ∷ [])
    → (piece behind : List ℕ) (k : Kind) → a ∷ bytes ≡ piece ++ behind → ¬ Spells piece k
no_token a bytes letter digit double single [] behind k e s = no_empty_token k s
no_token a bytes letter digit double single (x ∷ []) behind k e s =
    let same : a ≡ x = cc in
    let P : ℕ → Type 0 = λ n. Spells (n ∷ []) k in
    let found = symbol_only a [] k letter digit (subst P (sym same) s) in single found.0 (sym found.1)
no_token a bytes letter digit double single (x ∷ y ∷ []) behind k e s =
    let same : a ≡ x = cc in
    let P : ℕ → Type 0 = λ n. Spells (n ∷ y ∷ []) k in
    let found = symbol_only a (y ∷ []) k letter digit (subst P (sym same) s) in
    double found.0 a y behind (e ∙ ap (λ n. n ∷ y ∷ behind) (sym same)) (sym found.1)
no_token a bytes letter digit double single (x ∷ y ∷ z ∷ piece) behind k e s =
    let same : a ≡ x = cc in
    let P : ℕ → Type 0 = λ n. Spells (n ∷ y ∷ z ∷ piece) k in
    let found = symbol_only a (y ∷ z ∷ piece) k letter digit (subst P (sym same) s) in short_text found.0 _ found.1 refl
