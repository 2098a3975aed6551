-- Free. A lexer of lists, which computes. What it returns for a text are the text's tokens, or its
-- fault.
--     front_at               what a text begins with
--     lexed                  the tokens of a text, or its fault
use Rattle.std.proofs.Common.{◌≡◌, ◌≢◌, ℕ, zero, suc, ◌+◌, ◌-◌, ◌≤◌, ◌<◌, List, [], ◌∷◌, ◌++◌, length, take, drop, Bool, true, false, refl, ap, sym, subst, ◌∙◌, inl, inr, length-drop, take-append-drop, arith}
use Rattle.std.proofs.lemmas.Bool.{both_ways}
use Rattle.std.proofs.lemmas.List.{length-take}
use Rattle.std.proofs.lemmas.Slice.Eq.{bytes_eq-Decides}
use Rattle.std.specs.Prelude.{◌⊎◌, Option, Some, None, Result, Ok, Err, bytes_eq, nat_le, if◌then◌else◌, codes, take_while}
use Rattle.std.specs.Char.{is_ascii_digit}
use Rattle.asm_syntax.specs.declared.token.Kind.TheVariants as kind
use Rattle.asm_syntax.specs.declared.token.Symbol.{Symbol}
use Rattle.asm_syntax.specs.declared.token.Token.{Token}
use Rattle.asm_syntax.specs.declared.token.Keyword.{Keyword}
use Rattle.asm_syntax.specs.declared.error.LexError.{LexError}
use Rattle.asm_syntax.specs.declared.error.LexError.TheVariants as fault
use Rattle.asm_syntax.specs.declared.front.Front.{Front}
use Rattle.asm_syntax.specs.declared.front.Front.TheVariants as front
use Rattle.asm_syntax.specs.Spellings.{symbol_text, word_text}
use Rattle.asm_syntax.specs.Tokens.{max_length, max_number, is_blank, is_letter, is_letter_or_digit, BeginsBy, AreTokens, IsFault}
use Rattle.asm_syntax.specs.code.Fronts.{value_of, line_length, length_before_close, begins_by_letter, IsPlain, IsFront}
use Rattle.asm_syntax.proofs.OneKind.{first_with, all_symbols, all_words, symbol_found, word_found}
use Rattle.asm_syntax.proofs.NameFronts.{name_front, number_front, bad_number_front}
use Rattle.asm_syntax.proofs.FillerFronts.{FillerParts, blank_front, line_front, block_front, never_closed}
use Rattle.asm_syntax.proofs.SymbolFronts.{double_front, single_front, nothing_front}
use Rattle.asm_syntax.proofs.Steps.{Lexed, start, filler_step, token_step, done, bad_number, open_comment, bad_byte}

-- ---- what a text begins with

abbrev name_by : ℕ → Option Keyword → Front
name_by n (Some w) = front.Token (kind.Keyword w) n
name_by n None = front.Token kind.Name n

abbrev name_length : List ℕ → ℕ
name_length text = length (take_while is_letter_or_digit text)

abbrev name_at : List ℕ → Front
name_at text = name_by (name_length text) (first_with word_text all_words (take (name_length text) text))

abbrev number_by : ℕ → ℕ → (is_small is_followed : Bool) → Front
number_by n v true false = front.Token (kind.Number v) n
number_by n v true true = front.BadNumber
number_by n v false followed = front.BadNumber

abbrev digits_at : List ℕ → List ℕ
digits_at text = take_while is_ascii_digit text

abbrev number_at : List ℕ → Front
number_at text = number_by (length (digits_at text)) (value_of 0 (digits_at text)) (nat_le (value_of 0 (digits_at text)) max_number) (begins_by_letter (drop (length (digits_at text)) text))

abbrev block_by : Option ℕ → Front
block_by (Some n) = front.Filler (n + 4)
block_by None = front.OpenComment

abbrev symbol_by : ℕ → Option Symbol → Front → Front
symbol_by n (Some s) other = front.Token (kind.Symbol s) n
symbol_by n None other = other

abbrev single_at : ℕ → Front
single_at a = symbol_by 1 (first_with symbol_text all_symbols (a ∷ [])) front.BadByte

abbrev symbol_at : List ℕ → Front
symbol_at [] = front.BadByte
symbol_at (a ∷ []) = single_at a
symbol_at (a ∷ b ∷ bytes) = symbol_by 2 (first_with symbol_text all_symbols (a ∷ b ∷ [])) (single_at a)

-- the two bytes come first
abbrev has_mark : List ℕ → List ℕ → Bool
has_mark mark text = bytes_eq (take 2 text) mark

-- by whether a blank, a letter, a digit, `//` or `/*` comes first
abbrev front_by : (blank letter digit line block : Bool) → List ℕ → Front
front_by true letter digit line block text = front.Filler 1
front_by false true digit line block text = name_at text
front_by false false true line block text = number_at text
front_by false false false true block text = front.Filler (2 + line_length (drop 2 text))
front_by false false false false true text = block_by (length_before_close (drop 2 text))
front_by false false false false false text = symbol_at text

abbrev front_at : ℕ → List ℕ → Front
front_at b bytes = front_by (is_blank b) (is_letter b) (is_ascii_digit b) (has_mark (codes "//") (b ∷ bytes)) (has_mark (codes "/*") (b ∷ bytes)) (b ∷ bytes)

-- ---- it does begin with that

module _ {A : Type 0} (f : A → List ℕ) where
  -- the first with this text has it
  has_text : (all : List A) (text : List ℕ) (a : A) → first_with f all text ≡ Some a → text ≡ f a
  has_text [] text a e = absurd cc
  has_text (b ∷ all) text a e = by (bytes_eq (f b) text) refl (has_text all text a) e
    where
      by : (r : Bool) → bytes_eq (f b) text ≡ r → (first_with f all text ≡ Some a → text ≡ f a) → (if r then Some b else first_with f all text) ≡ Some a → text ≡ f a
      by true h later g = let same : b ≡ a = cc in sym ((bytes_eq-Decides (f b) text).0 h) ∙ ap f same
      by false h later g = later g

  -- if none is found, no one has it
  none_has : (all : List A) (text : List ℕ) → ((a : A) → first_with f all (f a) ≡ Some a) → first_with f all text ≡ None → (a : A) → text ≢ f a
  none_has all text found none a e = let both : None ≡ Some a = sym none ∙ ap (first_with f all) e ∙ found a in absurd cc

is_name : (text : List ℕ) → BeginsBy is_letter text → IsFront text (name_at text)
is_name text letter = by (first_with word_text all_words (take n text)) refl
  where
    n : ℕ
    n = name_length text

    by : (o : Option Keyword) → first_with word_text all_words (take n text) ≡ o → IsFront text (name_by n o)
    by (Some w) e = name_front text n (kind.Keyword w) letter refl (λ named. has_text word_text all_words (take n text) w e) (λ behind bad. bad)
    by None e = name_front text n kind.Name letter refl (λ named. (named, none_has word_text all_words (take n text) word_found e)) (λ behind bad. bad)

within_is : (a b : ℕ) → nat_le a b ≡ true → a ≤ b
within_is a b h = grind arith

above_is : (a b : ℕ) → nat_le a b ≡ false → b < a
above_is a b h = grind arith

is_number : (text : List ℕ) → BeginsBy is_ascii_digit text → IsFront text (number_at text)
is_number text digit = by (nat_le v max_number) (begins_by_letter (drop n text)) refl refl
  where
    n : ℕ
    n = length (digits_at text)

    v : ℕ
    v = value_of 0 (digits_at text)

    by : (small followed : Bool) → nat_le v max_number ≡ small → begins_by_letter (drop n text) ≡ followed → IsFront text (number_by n v small followed)
    by true false s f = number_front text n v digit refl (inl refl) (within_is v max_number s) f
    by true true s f = bad_number_front text n v digit refl (inl refl) (inr f)
    by false followed s f = bad_number_front text n v digit refl (inl refl) (inl (above_is v max_number s))

mark_is : (mark text : List ℕ) → has_mark mark text ≡ true → text ≡ mark ++ drop 2 text
mark_is mark text h = sym (take-append-drop 2 text) ∙ ap (λ l. l ++ drop 2 text) ((bytes_eq-Decides (take 2 text) mark).0 h)

is_line : (text : List ℕ) → has_mark (codes "//") text ≡ true → FillerParts text (2 + line_length (drop 2 text))
is_line text h = subst (λ (t : List ℕ). FillerParts t (2 + line_length (drop 2 text))) (sym (mark_is (codes "//") text h)) (line_front (drop 2 text))

is_block : (text : List ℕ) → has_mark (codes "/*") text ≡ true → IsFront text (block_by (length_before_close (drop 2 text)))
is_block text h = by (length_before_close (drop 2 text)) refl
  where
    by : (o : Option ℕ) → length_before_close (drop 2 text) ≡ o → IsFront text (block_by o)
    by (Some n) e = subst (λ (t : List ℕ). FillerParts t (n + 4)) (sym (mark_is (codes "/*") text h)) (block_front (drop 2 text) n e)
    by None e = (drop 2 text, mark_is (codes "/*") text h, never_closed (drop 2 text) e)

is_single : (a : ℕ) (bytes : List ℕ) → IsPlain (a ∷ bytes) → ((s : Symbol) (x y : ℕ) (behind : List ℕ) → a ∷ bytes ≡ x ∷ y ∷ behind → symbol_text s ≢ x ∷ y ∷ []) → IsFront (a ∷ bytes) (single_at a)
is_single a bytes plain no_double = by (first_with symbol_text all_symbols (a ∷ [])) refl
  where
    by : (o : Option Symbol) → first_with symbol_text all_symbols (a ∷ []) ≡ o → IsFront (a ∷ bytes) (symbol_by 1 o front.BadByte)
    by (Some s) e = single_front (a ∷ bytes) s plain no_double (sym (has_text symbol_text all_symbols (a ∷ []) s e))
    by None e = nothing_front (a ∷ bytes) plain no_double (λ s same. none_has symbol_text all_symbols (a ∷ []) symbol_found e s (sym same))

is_symbol : (text : List ℕ) → IsPlain text → IsFront text (symbol_at text)
is_symbol [] p = absurd (p.some refl)
is_symbol (a ∷ []) p = is_single a [] p (λ s x y behind e. absurd cc)
is_symbol (a ∷ b ∷ bytes) p = by (first_with symbol_text all_symbols (a ∷ b ∷ [])) refl
  where
    by : (o : Option Symbol) → first_with symbol_text all_symbols (a ∷ b ∷ []) ≡ o → IsFront (a ∷ b ∷ bytes) (symbol_by 2 o (single_at a))
    by (Some s) e = double_front (a ∷ b ∷ bytes) s p (omega arith) (sym (has_text symbol_text all_symbols (a ∷ b ∷ []) s e))
    by None e = is_single a (b ∷ bytes) p (λ s x y behind whole same. none_has symbol_text all_symbols (a ∷ b ∷ []) symbol_found e s (ap (take 2) whole ∙ sym same))

is_front : (b : ℕ) (bytes : List ℕ) → IsFront (b ∷ bytes) (front_at b bytes)
is_front b bytes = by (is_blank b) (is_letter b) (is_ascii_digit b) (has_mark (codes "//") (b ∷ bytes)) (has_mark (codes "/*") (b ∷ bytes)) refl refl refl refl refl
  where
    by : (u v w x y : Bool) → is_blank b ≡ u → is_letter b ≡ v → is_ascii_digit b ≡ w → has_mark (codes "//") (b ∷ bytes) ≡ x → has_mark (codes "/*") (b ∷ bytes) ≡ y → IsFront (b ∷ bytes) (front_by u v w x y (b ∷ bytes))
    by true v w x y blank letter digit line block = blank_front (b ∷ bytes) blank
    by false true w x y blank letter digit line block = is_name (b ∷ bytes) letter
    by false false true x y blank letter digit line block = is_number (b ∷ bytes) digit
    by false false false true y blank letter digit line block = is_line (b ∷ bytes) line
    by false false false false true blank letter digit line block = is_block (b ∷ bytes) block
    by false false false false false blank letter digit line block = is_symbol (b ∷ bytes) (record {
      some = λ e. absurd cc;
      blank = λ h. both_ways (is_blank b) blank h;
      letter = λ h. both_ways (is_letter b) letter h;
      digit = λ h. both_ways (is_ascii_digit b) digit h;
      line_comment = λ behind e. both_ways (has_mark (codes "//") (b ∷ bytes)) line (ap (has_mark (codes "//")) e);
      block_comment = λ behind e. both_ways (has_mark (codes "/*") (b ∷ bytes)) block (ap (has_mark (codes "/*")) e);
    })

-- ---- whole texts

abbrev LexResult : Type 0
LexResult = Result (List Token) LexError

abbrev Lexer : Type 0
Lexer = List Token → ℕ → List ℕ → LexResult

-- what is after the first bytes
abbrev behind : ℕ → List ℕ → List ℕ
behind m rest = take (length rest - m) (drop m rest)

-- on from this front, by a lexer of what is after it
abbrev from_front : Lexer → Front → Lexer
from_front more (front.Filler m) ts at rest = more ts (at + m) (behind m rest)
from_front more (front.Token k m) ts at rest = more (ts ++ (record { kind = k; start = at; end = at + m }) ∷ []) (at + m) (behind m rest)
from_front more front.BadNumber ts at rest = Err (fault.BadNumber at)
from_front more front.OpenComment ts at rest = Err (fault.OpenComment at)
from_front more front.BadByte ts at rest = Err (fault.BadByte at)

-- After these tokens, up to the offset `at`. Each turn takes a byte at least.
abbrev lexed_within : ℕ → Lexer
lexed_within zero ts at rest = Ok ts
lexed_within (suc n) ts at [] = Ok ts
lexed_within (suc n) ts at (b ∷ bytes) = from_front (lexed_within n) (front_at b bytes) ts at (b ∷ bytes)

abbrev pub lexed : List ℕ → LexResult
lexed text = if nat_le (length text) max_length then lexed_within (suc (length text)) [] 0 text else Err fault.TooLong

-- the result is right
abbrev pub IsRight : List ℕ → LexResult → Type 0
IsRight text (Ok ts) = AreTokens text ts
IsRight text (Err e) = IsFault text e

module _ (text : List ℕ) (short : length text ≤ max_length) where
  abbrev IsRightWithin : ℕ → Lexer → Type 0
  IsRightWithin n f = (ts : List Token) (at : ℕ) (rest : List ℕ) → length rest < n → Lexed text ts at rest → IsRight text (f ts at rest)

  shorter : (rest : List ℕ) (m : ℕ) → 0 < m → 0 < length rest → length (behind m rest) < length rest
  shorter rest m some more = omega (arith, length-take (length rest - m) (drop m rest), length-drop m rest)

  right_from : (ts : List Token) (at b : ℕ) (bytes : List ℕ) (more : Lexer) → Lexed text ts at (b ∷ bytes) → IsRightWithin (length (b ∷ bytes)) more → (f : Front) → IsFront (b ∷ bytes) f → IsRight text (from_front more f ts at (b ∷ bytes))
  right_from ts at b bytes more lexed right (front.Filler m) parts =
      right ts (at + m) (behind m (b ∷ bytes)) (shorter (b ∷ bytes) m parts.some (omega arith)) (filler_step text ts at (b ∷ bytes) m lexed (omega arith) parts)
  right_from ts at b bytes more lexed right (front.Token k m) parts =
      let t : Token = record { kind = k; start = at; end = at + m } in
      right (ts ++ t ∷ []) (at + m) (behind m (b ∷ bytes)) (shorter (b ∷ bytes) m parts.some (omega arith)) (token_step text ts at (b ∷ bytes) t m lexed (omega arith) parts refl refl)
  right_from ts at b bytes more lexed right front.BadNumber bad = bad_number text ts at (b ∷ bytes) lexed short (omega arith) bad
  right_from ts at b bytes more lexed right front.OpenComment unclosed = open_comment text ts at (b ∷ bytes) lexed short (omega arith) unclosed
  right_from ts at b bytes more lexed right front.BadByte nothing = bad_byte text ts at (b ∷ bytes) lexed short (omega arith) nothing

  right_within : (n : ℕ) → IsRightWithin n (lexed_within n)
  right_within zero ts at rest room lexed = absurd (omega (arith, room))
  right_within (suc n) ts at [] room lexed = done text ts at [] lexed short refl
  right_within (suc n) ts at (b ∷ bytes) room lexed =
      right_from ts at b bytes (lexed_within n) lexed (λ us offset rest less. right_within n us offset rest (omega (arith, less, room))) (front_at b bytes) (is_front b bytes)

pub is_right : (text : List ℕ) → IsRight text (lexed text)
is_right text = by (nat_le (length text) max_length) refl
  where
    by : (r : Bool) → nat_le (length text) max_length ≡ r → IsRight text (if r then lexed_within (suc (length text)) [] 0 text else Err fault.TooLong)
    by true h = let short = within_is (length text) max_length h in right_within text short (suc (length text)) [] 0 text (omega arith) (start text)
    by false h = above_is (length text) max_length h

-- what the lexer returns, if it is known
pub answers : (text : List ℕ) (r : LexResult) → lexed text ≡ r → IsRight text r
answers text r e = subst (IsRight text) e (is_right text)

pub tokens_or_a_fault : (text : List ℕ) → ((ts : List Token) × AreTokens text ts) ⊎ ((e : LexError) × IsFault text e)
tokens_or_a_fault text = by (lexed text) (is_right text)
  where
    by : (r : LexResult) → IsRight text r → ((ts : List Token) × AreTokens text ts) ⊎ ((e : LexError) × IsFault text e)
    by (Ok ts) right = inl (ts, right)
    by (Err e) right = inr (e, right)
