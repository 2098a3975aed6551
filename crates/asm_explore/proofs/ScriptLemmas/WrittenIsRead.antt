-- Free. What is written is read back.
--     number_back, path_back, line_back     a number, a path, a line
--     lines_back                            the lines of a text, and an empty one at its end
--     reads_back                            a text of lines is the script of just these lines
use Rattle.std.proofs.Common.{◌≡◌, ◌≢◌, ℕ, zero, suc, ◌+◌, ◌-◌, ◌*◌, ◌/◌, ◌%◌, ◌<◌, ◌≤◌, Bool, true, false, cond, ◌&&◌, ◌||◌, ◌==◌, nat_eq, nat_le, List, [], ◌∷◌, ◌++◌, length, map, get_or, Some, None, is_none, not, codes, decimal, ◌⊎◌, inl, inr, refl, sym, ap, subst, ◌∙◌, arith, eq-eqb}
use Rattle.std.specs.List.{All, list_all, list_any, slice_split}
use Rattle.std.specs.Char.{is_ascii_digit}
use Rattle.std.specs.Cmp.Derive.{both_true}
use Rattle.std.specs.Cmp.Lexicographic.{pointwise}
use Rattle.std.specs.Str.{bytes_eq}
use Rattle.std.specs.Str.Lines.{strip_carriage_return}
use Rattle.std.proofs.lemmas.Bool.{eqb-true, ne_eqb}
use Rattle.std.proofs.lemmas.Bool.Decides.{nat_tests}
use Rattle.std.proofs.lemmas.Fmt.{decimal_by_steps, decimal_nonempty, length-decimal-le}
use Rattle.std.proofs.lemmas.List.{append-nil, append_assoc}
use Rattle.std.proofs.lemmas.List.Splits.{slice_split_at, slice_split_none}
use Rattle.std.proofs.lemmas.List.Sums.{fold-append}
use Rattle.std.proofs.lemmas.Slice.Eq.{bytes_eq-Decides}
use Rattle.asm_syntax.specs.code.Fronts.{value_of}
use Rattle.asm_reader.specs.ExactLines.{exactly}
use Rattle.asm_reader.specs.ScriptLines.{Line, ForStep, is_line_of, line_then, script_of}
use Rattle.asm_reader.specs.ScriptText.{AreFaultless, IsScript, is_bad, is_repeated, is_skipped, line_of, line_of_fields, line_with, lines_of, number_of, number_then, numbers_of, path_of, said, said_in, says_again, script_in, step_with, when_of}
use Rattle.asm_explore.specs.code.OutcomeLists.{Each}
use Rattle.asm_explore.specs.WrittenScripts.{AreShort, AreSteps, IsShort, IsTextOf, dotted, line_text, lines_text, numbers_in, numbers_of_line, path_text}
use Rattle.asm_explore.proofs.ScriptLemmas.LinesLeftOut.{AreApart, IsApart}
use Rattle.asm_explore.proofs.OutcomeLemmas.ListLemmas.{each_append, each_first, each_last, each_weaker}

-- ---- digits

abbrev IsDigit : ℕ → Type 0
IsDigit b = (48 ≤ b) × (b ≤ 57)

record Spells (k : ℕ) (bytes : List ℕ) : Type 0 where
  digits : Each IsDigit bytes
  value : value_of 0 bytes ≡ k

one_digit : (k : ℕ) → k < 10 → Spells k ((48 + k) ∷ [])
one_digit k low = record { digits = ((omega arith, omega arith), tt); value = omega arith }

more_digits : (k : ℕ) (ds : List ℕ) → 10 ≤ k → Spells (k / 10) ds → Spells k (ds ++ (48 + k % 10) ∷ [])
more_digits k ds high h = record {
  digits = each_append IsDigit ds ((48 + k % 10) ∷ []) h.digits ((omega arith, omega arith), tt);
  value = fold-append (λ v b. 10 * v + (b - 48)) 0 ds ((48 + k % 10) ∷ []) ∙ (ap (λ v. 10 * v + (48 + k % 10 - 48)) h.value ∙ last);
}
  where
    last : 10 * (k / 10) + (48 + k % 10 - 48) ≡ k
    last = omega arith

decimal_spells : (k : ℕ) → IsShort k → Spells k (decimal k)
decimal_spells k short = decimal_by_steps Spells one_digit more_digits k (omega (arith, short))

digit_tests : (bytes : List ℕ) → Each IsDigit bytes → list_all is_ascii_digit bytes ≡ true
digit_tests [] h = refl
digit_tests (b ∷ bytes) h =
    let low : nat_le 48 b ≡ true = grind (arith, nat_tests, h.0.0) in
    let high : nat_le b 57 ≡ true = grind (arith, nat_tests, h.0.1) in
    both_true (both_true low high) (digit_tests bytes h.1)

some_digit : (k : ℕ) → IsShort k → 0 < length (decimal k)
some_digit k short = decimal_nonempty k (omega (arith, short))

pub number_back : (k : ℕ) → IsShort k → number_of (decimal k) ≡ Some k
number_back k short =
    let spells = decimal_spells k short in
    let at_least : 0 < length (decimal k) = some_digit k short in
    let at_most : length (decimal k) ≤ 9 = length-decimal-le 9 k (omega arith) short (omega (arith, short)) in
    let some : nat_le 1 (length (decimal k)) ≡ true = grind (arith, nat_tests) in
    let few : nat_le (length (decimal k)) 9 ≡ true = grind (arith, nat_tests) in
    ap (λ t. cond t (Some (value_of 0 (decimal k))) None) (both_true (both_true some few) (digit_tests (decimal k) spells.digits)) ∙ ap Some spells.value

-- ---- parts

all_from : {X : Type 0} (P : X → Type 0) (xs : List X) → Each P xs → All P xs
all_from P [] h k d low = absurd (omega (arith, low))
all_from P (x ∷ xs) h zero d low = h.0
all_from P (x ∷ xs) h (suc k) d low = all_from P xs h.1 k d (omega (arith, low))

abbrev IsOther : ℕ → ℕ → Type 0
IsOther c b = (b == c) ≡ false

-- the first part, if no byte of it is the one between parts
cut : (c : ℕ) (first rest : List ℕ) → Each (IsOther c) first → slice_split (λ b. b == c) (first ++ c ∷ rest) ≡ first ∷ slice_split (λ b. b == c) rest
cut c first rest h = slice_split_at (λ b. b == c) first c rest (all_from (IsOther c) first h) (eq-eqb c c refl)

uncut : (c : ℕ) (bytes : List ℕ) → Each (IsOther c) bytes → slice_split (λ b. b == c) bytes ≡ bytes ∷ []
uncut c bytes h = slice_split_none (λ b. b == c) bytes (all_from (IsOther c) bytes h)

-- what paths have, and what lines have
abbrev IsPathByte : ℕ → Type 0
IsPathByte b = (45 ≤ b) × (b ≤ 57)

abbrev IsLineByte : ℕ → Type 0
IsLineByte b = (32 ≤ b) × (b ≤ 57)

digits_of : (k : ℕ) → IsShort k → Each IsDigit (decimal k)
digits_of k short = (decimal_spells k short).digits

other_than_digit : (c : ℕ) → c < 48 → (b : ℕ) → IsDigit b → IsOther c b
other_than_digit c low b h = ne_eqb b c (λ same. omega (arith, h.0))

other_in_number : (c : ℕ) → c < 48 → (k : ℕ) → IsShort k → Each (IsOther c) (decimal k)
other_in_number c low k short = each_weaker IsDigit (IsOther c) (other_than_digit c low) (decimal k) (digits_of k short)

path_byte : (b : ℕ) → IsDigit b → IsPathByte b
path_byte b h = (omega (arith, h.0), h.1)

dotted_bytes : (ks : List ℕ) → AreShort ks → Each IsPathByte (dotted ks)
dotted_bytes [] h = tt
dotted_bytes (k ∷ ks) h =
    ((omega arith, omega arith), each_append IsPathByte (decimal k) (dotted ks) (each_weaker IsDigit IsPathByte path_byte (decimal k) (digits_of k h.0)) (dotted_bytes ks h.1))

path_bytes : (p : List ℕ) → AreShort p → Each IsPathByte (path_text p)
path_bytes [] h = ((omega arith, omega arith), tt)
path_bytes (k ∷ ks) h = each_append IsPathByte (decimal k) (dotted ks) (each_weaker IsDigit IsPathByte path_byte (decimal k) (digits_of k h.0)) (dotted_bytes ks h.1)

other_in_path : (c : ℕ) → c < 45 → (p : List ℕ) → AreShort p → Each (IsOther c) (path_text p)
other_in_path c low p h = each_weaker IsPathByte (IsOther c) (λ b it. ne_eqb b c (λ same. omega (arith, it.0))) (path_text p) (path_bytes p h)

-- a text that begins with a digit isn't one byte that is none
no_sign : (c : ℕ) (ds rest : List ℕ) → c < 48 → 0 < length ds → Each IsDigit ds → bytes_eq (ds ++ rest) (c ∷ []) ≡ false
no_sign c [] rest low some h = absurd (omega (arith, some))
no_sign c (d ∷ ds) rest low some h = ap (λ t. t && pointwise nat_eq (ds ++ rest) []) (other_than_digit c low d h.0)

cond_false : {A : Type 0} (b : Bool) (x y : A) → b ≡ false → cond b x y ≡ y
cond_false true x y h = cc
cond_false false x y h = refl

cond_true : {A : Type 0} (b : Bool) (x y : A) → b ≡ true → cond b x y ≡ x
cond_true true x y h = refl
cond_true false x y h = cc

-- ---- paths

numbers_back : (k : ℕ) (ks : List ℕ) → AreShort (k ∷ ks) → numbers_of (slice_split (λ b. b == 46) (decimal k ++ dotted ks)) ≡ Some (k ∷ ks)
numbers_back k [] h =
    ap (λ it. numbers_of (slice_split (λ b. b == 46) it)) (append-nil (decimal k))
    ∙ (ap numbers_of (uncut 46 (decimal k) (other_in_number 46 (omega arith) k h.0)) ∙ ap (λ it. number_then it (Some [])) (number_back k h.0))
numbers_back k (j ∷ js) h =
    let parts = slice_split (λ b. b == 46) (decimal j ++ dotted js) in
    ap numbers_of (cut 46 (decimal k) (decimal j ++ dotted js) (other_in_number 46 (omega arith) k h.0))
    ∙ (ap (λ it. number_then it (numbers_of parts)) (number_back k h.0) ∙ ap (number_then (Some k)) (numbers_back j js h.1))

path_back : (p : List ℕ) → AreShort p → path_of (path_text p) ≡ Some p
path_back [] h = refl
path_back (k ∷ ks) h =
    cond_false _ _ _ (no_sign 45 (decimal k) (dotted ks) (omega arith) (some_digit k h.0) (digits_of k h.0)) ∙ numbers_back k ks h

-- ---- lines

-- a line that a text may have
record IsFit (line : Line) : Type 0 where
  short : AreShort (numbers_of_line line)
  step : 1 ≤ line.step

-- a line without its end
abbrev front : Line → List ℕ
front line = decimal line.step ++ 32 ∷ (path_text line.path ++ 32 ∷ decimal line.choice)

front_is : (line : Line) → line_text line ≡ front line ++ 10 ∷ []
front_is line =
    sym (append_assoc (decimal line.step) (32 ∷ (path_text line.path ++ 32 ∷ decimal line.choice)) (10 ∷ [])
    ∙ ap (λ it. decimal line.step ++ 32 ∷ it) (append_assoc (path_text line.path) (32 ∷ decimal line.choice) (10 ∷ [])))

when_back : (i : ℕ) → IsShort i → when_of (decimal i) ≡ step_with (Some i)
when_back i short =
    cond_false _ _ _ (ap (λ it. bytes_eq it (codes "*")) (sym (append-nil (decimal i))) ∙ no_sign 42 (decimal i) [] (omega arith) (some_digit i short) (digits_of i short))
    ∙ ap step_with (number_back i short)

for_step : (i k : ℕ) (p : List ℕ) → 1 ≤ i → line_with (step_with (Some i)) (Some p) (Some k) ≡ Some (ForStep (record { step = i; path = p; choice = k }))
for_step i k p h =
    let counts : nat_le 1 i ≡ true = grind (arith, nat_tests) in
    ap (λ w. line_with w (Some p) (Some k)) (cond_true _ _ _ counts)

fields_back : (line : Line) → IsFit line → slice_split (λ b. b == 32) (front line) ≡ decimal line.step ∷ path_text line.path ∷ decimal line.choice ∷ []
fields_back line fit =
    let last = uncut 32 (decimal line.choice) (other_in_number 32 (omega arith) line.choice fit.short.1.0) in
    let middle = cut 32 (path_text line.path) (decimal line.choice) (other_in_path 32 (omega arith) line.path fit.short.1.1) in
    cut 32 (decimal line.step) (path_text line.path ++ 32 ∷ decimal line.choice) (other_in_number 32 (omega arith) line.step fit.short.0)
    ∙ ap (λ parts. decimal line.step ∷ parts) (middle ∙ ap (λ parts. path_text line.path ∷ parts) last)

line_back : (line : Line) → IsFit line → line_of (front line) ≡ Some (ForStep line)
line_back line fit =
    ap line_of_fields (fields_back line fit)
    ∙ (ap (λ w. line_with w (path_of (path_text line.path)) (number_of (decimal line.choice))) (when_back line.step fit.short.0)
    ∙ (ap (λ p. line_with (step_with (Some line.step)) p (number_of (decimal line.choice))) (path_back line.path fit.short.1.1)
    ∙ (ap (λ k. line_with (step_with (Some line.step)) (Some line.path) k) (number_back line.choice fit.short.1.0) ∙ for_step line.step line.choice line.path fit.step)))

-- ---- the lines of a text

line_byte : (b : ℕ) → IsPathByte b → IsLineByte b
line_byte b h = (omega (arith, h.0), h.1)

number_line_bytes : (k : ℕ) → IsShort k → Each IsLineByte (decimal k)
number_line_bytes k short = each_weaker IsDigit IsLineByte (λ b h. line_byte b (path_byte b h)) (decimal k) (digits_of k short)

front_bytes : (line : Line) → IsFit line → Each IsLineByte (front line)
front_bytes line fit =
    let space : IsLineByte 32 = (omega arith, omega arith) in
    let number = number_line_bytes line.choice fit.short.1.0 in
    let path = each_weaker IsPathByte IsLineByte line_byte (path_text line.path) (path_bytes line.path fit.short.1.1) in
    each_append IsLineByte (decimal line.step) (32 ∷ (path_text line.path ++ 32 ∷ decimal line.choice)) (number_line_bytes line.step fit.short.0)
    (space, each_append IsLineByte (path_text line.path) (32 ∷ decimal line.choice) path (space, number))

each_get : (P : ℕ → Type 0) (xs : List ℕ) (i d : ℕ) → P d → Each P xs → P (get_or xs i d)
each_get P [] i d none h = none
each_get P (x ∷ xs) zero d none h = h.0
each_get P (x ∷ xs) (suc i) d none h = each_get P xs i d none h.1

no_return : (bytes : List ℕ) → Each IsLineByte bytes → strip_carriage_return bytes ≡ bytes
no_return bytes h =
    cond_false _ _ _ (ne_eqb (get_or bytes (length bytes - 1) 0) 13
    (each_get (λ b. b ≢ 13) bytes (length bytes - 1) 0 (λ same. omega (arith, same)) (each_weaker IsLineByte (λ b. b ≢ 13) (λ b it same. omega (arith, it.0, same)) bytes h)))

lines_back : (lines : List Line) → Each IsFit lines → lines_of (lines_text lines) ≡ map front lines ++ [] ∷ []
lines_back [] h = refl
lines_back (line ∷ lines) h =
    let rest = lines_text lines in
    let bytes = front_bytes line h.0 in
    let split : line_text line ++ rest ≡ front line ++ 10 ∷ rest = ap (λ it. it ++ rest) (front_is line) ∙ append_assoc (front line) (10 ∷ []) rest in
    let first : slice_split (λ b. b == 10) (front line ++ 10 ∷ rest) ≡ front line ∷ slice_split (λ b. b == 10) rest =
    cut 10 (front line) rest (each_weaker IsLineByte (IsOther 10) (λ b it. ne_eqb b 10 (λ same. omega (arith, it.0))) (front line) bytes) in
    ap lines_of split ∙ (ap (map strip_carriage_return) first
    ∙ (ap (λ it. it ∷ lines_of rest) (no_return (front line) bytes) ∙ ap (λ it. front line ∷ it) (lines_back lines h.1)))

-- ---- what they say

unskipped : (ds rest : List ℕ) → 0 < length ds → Each IsDigit ds → is_skipped (ds ++ rest) ≡ false
unskipped [] rest some h = absurd (omega (arith, some))
unskipped (d ∷ ds) rest some h = other_than_digit 35 (omega arith) d h.0

front_unskipped : (line : Line) → IsFit line → is_skipped (front line) ≡ false
front_unskipped line fit = unskipped (decimal line.step) (32 ∷ (path_text line.path ++ 32 ∷ decimal line.choice)) (some_digit line.step fit.short.0) (digits_of line.step fit.short.0)

said_back : (line : Line) → IsFit line → said (is_skipped (front line)) (line_of (front line)) ≡ ForStep line ∷ []
said_back line fit = ap (λ b. said b (line_of (front line))) (front_unskipped line fit) ∙ ap (said false) (line_back line fit)

fronts_say : (lines : List Line) (more : List (List ℕ)) → Each IsFit lines → said_in (map front lines ++ more) ≡ map ForStep lines ++ said_in more
fronts_say [] more h = refl
fronts_say (line ∷ lines) more h =
    ap (λ it. it ++ said_in (map front lines ++ more)) (said_back line h.0) ∙ ap (λ it. ForStep line ∷ it) (fronts_say lines more h.1)

script_back : (lines : List Line) → script_of (map ForStep lines) ≡ exactly lines
script_back [] = refl
script_back (line ∷ lines) = ap (line_then (ForStep line)) (script_back lines)

-- what the lines say, and what they say with an empty line after them
fronts_script : (lines : List Line) (more : List (List ℕ)) → said_in more ≡ [] → Each IsFit lines → script_in (map front lines ++ more) ≡ exactly lines
fronts_script lines more none h =
    ap script_of (fronts_say lines more h ∙ (ap (λ it. map ForStep lines ++ it) none ∙ append-nil (map ForStep lines))) ∙ script_back lines

-- ---- no fault

record Stands (lines : List Line) (before : List (List ℕ)) (bytes : List ℕ) : Type 0 where
  earlier : List Line
  line : Line
  later : List Line
  is : lines ≡ earlier ++ line ∷ later
  before_is : before ≡ map front earlier
  bytes_is : bytes ≡ front line

no_more : {X : Type 0} (xs ys : List X) (y : X) → [] ≡ xs ++ y ∷ ys → ⊥
no_more [] ys y e = cc
no_more (x ∷ xs) ys y e = cc

-- a line of a text is the last one, or stands for one of the lines
where_in : (lines : List Line) (before after : List (List ℕ)) (bytes : List ℕ) → map front lines ++ [] ∷ [] ≡ before ++ bytes ∷ after
    → (bytes ≡ []) ⊎ Stands lines before bytes
where_in [] [] after bytes e = inl (cc)
where_in [] (b ∷ before) after bytes e = let rest : [] ≡ before ++ bytes ∷ after = cc in absurd (no_more before after bytes rest)
where_in (line ∷ lines) [] after bytes e =
    let is : bytes ≡ front line = cc in
    inr (record { earlier = []; line = line; later = lines; is = refl; before_is = refl; bytes_is = is })
where_in (line ∷ lines) (b ∷ before) after bytes e =
    let first : b ≡ front line = cc in
    let rest : map front lines ++ [] ∷ [] ≡ before ++ bytes ∷ after = cc in
    later first (where_in lines before after bytes rest)
  where
    later : b ≡ front line → (bytes ≡ []) ⊎ Stands lines before bytes → (bytes ≡ []) ⊎ Stands (line ∷ lines) (b ∷ before) bytes
    later first (inl h) = inl h
    later first (inr s) = inr (record {
      earlier = line ∷ s.earlier;
      line = s.line;
      later = s.later;
      is = ap (λ it. line ∷ it) s.is;
      before_is = ap (λ it. it ∷ before) first ∙ ap (λ it. front line ∷ it) s.before_is;
      bytes_is = s.bytes_is;
    })

not_again : (earlier line : Line) → IsApart earlier line → is_line_of line.step line.path earlier ≡ false
not_again earlier line apart = by_tests (nat_eq earlier.step line.step) (pointwise nat_eq earlier.path line.path) refl refl
  where
    by_tests : (a b : Bool) → nat_eq earlier.step line.step ≡ a → pointwise nat_eq earlier.path line.path ≡ b → (a && b) ≡ false
    by_tests true true p q = absurd (apart (eqb-true earlier.step line.step p, (bytes_eq-Decides earlier.path line.path).0 q))
    by_tests true false p q = refl
    by_tests false b p q = refl

none_before : (earlier : List Line) (line : Line) (later : List Line) → AreApart (earlier ++ line ∷ later) → list_any (is_line_of line.step line.path) earlier ≡ false
none_before [] line later h = refl
none_before (one ∷ earlier) line later h =
    ap (λ b. b || list_any (is_line_of line.step line.path) earlier) (not_again one line (each_last (IsApart one) earlier (line ∷ later) h.0).0) ∙ none_before earlier line later h.1

module _ (lines : List Line) (fit : Each IsFit lines) (apart : AreApart lines) where
  unrepeated : (before : List (List ℕ)) (bytes : List ℕ) → Stands lines before bytes → is_bad bytes || is_repeated before bytes ≡ false
  unrepeated before bytes s =
      let fits : Each IsFit (s.earlier ++ s.line ∷ s.later) = subst (Each IsFit) s.is fit in
      let here : IsFit s.line = (each_last IsFit s.earlier (s.line ∷ s.later) fits).0 in
      let script : script_in (map front s.earlier) ≡ exactly s.earlier =
      ap script_in (sym (append-nil (map front s.earlier))) ∙ fronts_script s.earlier [] refl (each_first IsFit s.earlier (s.line ∷ s.later) fits) in
      let good : is_bad (front s.line) ≡ false =
      ap (λ b. not b && is_none (line_of (front s.line))) (front_unskipped s.line here) ∙ ap is_none (line_back s.line here) in
      let new : is_repeated (map front s.earlier) (front s.line) ≡ false =
      ap (says_again (script_in (map front s.earlier))) (said_back s.line here)
      ∙ (ap (λ it. says_again it (ForStep s.line ∷ [])) script ∙ none_before s.earlier s.line s.later (subst AreApart s.is apart)) in
      ap (λ it. is_bad it || is_repeated before it) s.bytes_is ∙ (ap (λ it. is_bad (front s.line) || is_repeated it (front s.line)) s.before_is
      ∙ (ap (λ b. b || is_repeated (map front s.earlier) (front s.line)) good ∙ new))

  faultless : AreFaultless (map front lines ++ [] ∷ [])
  faultless before after bytes e = by_place (where_in lines before after bytes e)
    where
      by_place : (bytes ≡ []) ⊎ Stands lines before bytes → is_bad bytes || is_repeated before bytes ≡ false
      by_place (inl empty) = ap (λ it. is_bad it || is_repeated before it) empty
      by_place (inr s) = unrepeated before bytes s

fit_lines : (lines : List Line) → AreShort (numbers_in lines) → AreSteps lines → Each IsFit lines
fit_lines [] h g = tt
fit_lines (line ∷ lines) h g = (
  record { short = each_first IsShort (numbers_of_line line) (numbers_in lines) h; step = g.0 },
  fit_lines lines (each_last IsShort (numbers_of_line line) (numbers_in lines) h) g.1,
)

pub reads_back : (lines : List Line) (text : List ℕ) → IsTextOf lines text → AreSteps lines → AreApart lines → IsScript text (exactly lines)
reads_back lines text it steps apart =
    let fit = fit_lines lines it.short steps in
    let are : lines_of text ≡ map front lines ++ [] ∷ [] = ap lines_of it.is ∙ lines_back lines fit in
    record {
      fits = it.fits;
      faultless = subst AreFaultless (sym are) (faultless lines fit apart);
      says = sym (ap script_in are ∙ fronts_script lines ([] ∷ []) refl fit);
    }
