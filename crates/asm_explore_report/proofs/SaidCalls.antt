-- Free. The call of `asm` that a report has says its own numbers.
--     call_says     the steps and the turns in its line
use Rattle.std.proofs.Common.{◌≡◌, ◌∙◌, ℕ, ◌+◌, ◌-◌, ◌*◌, ◌/◌, ◌%◌, ◌≤◌, ◌<◌, ◌==◌, Bool, true, false, cond, not, List, [], ◌∷◌, ◌++◌, length, take, drop, codes, decimal, Some, None, refl, sym, ap, arith}
use Rattle.std.specs.Prelude.{◌&&◌, nat_le, option_and_then, unwrap_or, ⊤}
use Rattle.std.specs.Char.{is_ascii_digit}
use Rattle.std.specs.Cmp.Derive.{both_true}
use Rattle.std.specs.List.{list_all, prefix_len}
use Rattle.std.specs.Str.{bytes_eq}
use Rattle.std.proofs.lemmas.Bool.{eqb-true, ne_eqb}
use Rattle.std.proofs.lemmas.Bool.Decides.{nat_tests}
use Rattle.std.proofs.lemmas.Fmt.{decimal_by_steps, decimal_nonempty, length-decimal-le}
use Rattle.std.proofs.lemmas.Grind.{common_steps}
use Rattle.std.proofs.lemmas.List.{map-append}
use Rattle.std.proofs.lemmas.List.Sums.{fold-append}
use Rattle.asm_syntax.specs.Tokens.{value_of}
use Rattle.asm_explore_texts.specs.Comments.{in_one_line, shown}
use Rattle.asm_explore_texts.specs.RunNumbers.{behind, behind_word, first_word, is_blank, number_of, numbers_behind, numbers_in_line, numbers_with, turns_in, value_from, value_in}
use Rattle.asm_explore_report.specs.Commands.{command, file_word, file_words, guard_of, is_plain, quoted, shell_word, turns_words}

-- no word goes on here
abbrev ends_word : (rest : List ℕ) → Bool
ends_word [] = true
ends_word (byte ∷ rest) = is_blank byte

-- behind the script
abbrev turns_behind : (rest : List ℕ) → ℕ
turns_behind rest = unwrap_or (option_and_then (λ bytes. number_of 1 (first_word bytes)) (behind (codes " --turns ") rest)) 1000

behind_script : (rest : List ℕ) → turns_in (codes " --script THIS" ++ rest) ≡ turns_behind rest
behind_script rest = refl

-- ---- digits

abbrev AreDigits : List ℕ → Type 0
AreDigits [] = ⊤
AreDigits (b ∷ bytes) = (48 ≤ b) × (b ≤ 57) × AreDigits bytes

record Spells (k : ℕ) (bytes : List ℕ) : Type 0 where
  digits : AreDigits bytes
  value : value_of 0 bytes ≡ k

and_one : (bytes : List ℕ) (b : ℕ) → AreDigits bytes → 48 ≤ b → b ≤ 57 → AreDigits (bytes ++ b ∷ [])
and_one [] b h low high = (low, high, tt)
and_one (c ∷ bytes) b h low high = (h.0, h.1, and_one bytes b h.2 low high)

one_digit : (k : ℕ) → k < 10 → Spells k ((48 + k) ∷ [])
one_digit k low = record { digits = (omega arith, omega arith, tt); value = omega arith }

more_digits : (k : ℕ) (ds : List ℕ) → 10 ≤ k → Spells (k / 10) ds → Spells k (ds ++ (48 + k % 10) ∷ [])
more_digits k ds high h = record {
  digits = and_one ds (48 + k % 10) h.digits (omega arith) (omega arith);
  value = fold-append (λ v b. 10 * v + (b - 48)) 0 ds ((48 + k % 10) ∷ []) ∙ (ap (λ v. 10 * v + (48 + k % 10 - 48)) h.value ∙ last);
}
  where
    last : 10 * (k / 10) + (48 + k % 10 - 48) ≡ k
    last = omega arith

spelled : (k : ℕ) → k ≤ 1_000_000 → Spells k (decimal k)
spelled k low = decimal_by_steps Spells one_digit more_digits k (omega (arith, low))

digit_tests : (bytes : List ℕ) → AreDigits bytes → list_all is_ascii_digit bytes ≡ true
digit_tests [] h = refl
digit_tests (b ∷ bytes) h =
    let low : nat_le 48 b ≡ true = grind (arith, nat_tests, h.0) in
    let high : nat_le b 57 ≡ true = grind (arith, nat_tests, h.1) in
    both_true (both_true low high) (digit_tests bytes h.2)

as_shown : (bytes : List ℕ) → AreDigits bytes → in_one_line bytes ≡ bytes
as_shown [] h = refl
as_shown (b ∷ bytes) h =
    let other : (b == 10) ≡ false = ne_eqb b 10 (λ same. omega (arith, h.0)) in
    ap (λ t. cond t 32 b ∷ in_one_line bytes) other ∙ ap (λ bs. b ∷ bs) (as_shown bytes h.2)

digits_before : (bytes rest : List ℕ) → AreDigits bytes → ends_word rest ≡ true → prefix_len (λ b. not (is_blank b)) (bytes ++ rest) ≡ length bytes
digits_before [] [] h e = refl
digits_before [] (b ∷ rest) h e = ap (λ t. cond (not t) (1 + prefix_len (λ b. not (is_blank b)) rest) 0) e
digits_before (b ∷ bytes) rest h e =
    let other : is_blank b ≡ false = ne_eqb b 32 (λ same. omega (arith, h.0)) in
    let before = digits_before bytes rest h.2 e in
    ap (λ t. cond (not t) (1 + prefix_len (λ b. not (is_blank b)) (bytes ++ rest)) 0) other ∙ omega (arith, before)

front_taken : (bytes rest : List ℕ) → take (length bytes) (bytes ++ rest) ≡ bytes
front_taken bytes rest = grind (arith, common_steps)

front_dropped : (bytes rest : List ℕ) → drop (length bytes) (bytes ++ rest) ≡ rest
front_dropped bytes rest = grind (arith, common_steps)

word_of : (bytes rest : List ℕ) → AreDigits bytes → ends_word rest ≡ true → first_word (bytes ++ rest) ≡ bytes
word_of bytes rest h e = ap (λ n. take n (bytes ++ rest)) (digits_before bytes rest h e) ∙ front_taken bytes rest

behind_digits : (bytes rest : List ℕ) → AreDigits bytes → ends_word rest ≡ true → behind_word (bytes ++ rest) ≡ rest
behind_digits bytes rest h e = ap (λ w. drop (length w) (bytes ++ rest)) (word_of bytes rest h e) ∙ front_dropped bytes rest

-- ---- numbers

number_back : (least k : ℕ) → least ≤ k → k ≤ 1_000_000 → number_of least (decimal k) ≡ Some k
number_back least k low high =
    let spells = spelled k high in
    let at_least : 0 < length (decimal k) = decimal_nonempty k (omega (arith, high)) in
    let at_most : length (decimal k) ≤ 7 = length-decimal-le 7 k (omega arith) (omega (arith, high)) (omega (arith, high)) in
    let some : nat_le 1 (length (decimal k)) ≡ true = grind (arith, nat_tests) in
    let few : nat_le (length (decimal k)) 7 ≡ true = grind (arith, nat_tests) in
    let above : nat_le least k ≡ true = grind (arith, nat_tests) in
    let below : nat_le k 1_000_000 ≡ true = grind (arith, nat_tests) in
    let value : value_in (decimal k) ≡ Some k =
    ap (λ t. cond t (Some (value_of 0 (decimal k))) None) (both_true (both_true some few) (digit_tests (decimal k) spells.digits)) ∙ ap Some spells.value in
    ap (option_and_then (value_from least)) value ∙ ap (λ t. cond t (Some k) None) (both_true above below)

number_before : (least k : ℕ) (rest : List ℕ) → least ≤ k → k ≤ 1_000_000 → ends_word rest ≡ true → number_of least (first_word (decimal k ++ rest)) ≡ Some k
number_before least k rest low high e = ap (number_of least) (word_of (decimal k) rest (spelled k high).digits e) ∙ number_back least k low high

-- ---- the name of the file

-- no hyphen is at its front
abbrev IsGuarded : List ℕ → Type 0
IsGuarded [] = ⊤
IsGuarded (b ∷ bytes) = (b == 45) ≡ false

word_guarded : (bytes : List ℕ) → IsGuarded bytes → IsGuarded (shell_word bytes)
word_guarded [] h = refl
word_guarded (b ∷ bytes) h = go (list_all is_plain (b ∷ bytes))
  where
    go : (t : Bool) → IsGuarded (cond t (b ∷ bytes) (quoted (b ∷ bytes)))
    go true = h
    go false = refl

name_guarded : (name : List ℕ) → IsGuarded (guard_of name ++ name)
name_guarded [] = tt
name_guarded (b ∷ name) = go (b == 45) refl
  where
    go : (t : Bool) → (b == 45) ≡ t → IsGuarded (cond t (codes "./") [] ++ b ∷ name)
    go true is = refl
    go false is = is

shown_guarded : (bytes : List ℕ) → IsGuarded bytes → IsGuarded (in_one_line bytes)
shown_guarded [] h = tt
shown_guarded (b ∷ bytes) h = go (b == 10)
  where
    go : (t : Bool) → (cond t 32 b == 45) ≡ false
    go true = refl
    go false = h

no_turns : (bytes : List ℕ) → IsGuarded bytes → behind (codes " --turns ") (32 ∷ bytes) ≡ None
no_turns [] h = refl
no_turns (b ∷ bytes) h = ap (λ t. cond (t && bytes_eq (take 7 bytes) (codes "-turns ")) (Some (drop 8 (b ∷ bytes))) None) h

-- ---- behind the script

abbrev name_shown : List ℕ → List ℕ
name_shown name = in_one_line (file_words name)

name_ends : (name : List ℕ) → ends_word (name_shown name) ≡ true
name_ends name = go (bytes_eq name (codes "-"))
  where
    go : (t : Bool) → ends_word (in_one_line (cond t [] (codes " " ++ file_word name))) ≡ true
    go true = refl
    go false = refl

name_without_turns : (name : List ℕ) → turns_behind (name_shown name) ≡ 1000
name_without_turns name = go (bytes_eq name (codes "-"))
  where
    go : (t : Bool) → turns_behind (in_one_line (cond t [] (codes " " ++ file_word name))) ≡ 1000
    go true = refl
    go false =
        let word = in_one_line (file_word name) in
        ap (λ o. unwrap_or (option_and_then (λ bytes. number_of 1 (first_word bytes)) o) 1000)
        (no_turns word (shown_guarded (file_word name) (word_guarded (guard_of name ++ name) (name_guarded name))))

abbrev rest_shown : (turns : ℕ) → List ℕ → List ℕ
rest_shown turns name = in_one_line (turns_words turns ++ file_words name)

record SaysTurns (n : ℕ) (rest : List ℕ) : Type 0 where
  ends : ends_word rest ≡ true
  turns : turns_behind rest ≡ n

rest_says : (turns : ℕ) (name : List ℕ) → 1 ≤ turns → turns ≤ 1_000_000 → SaysTurns turns (rest_shown turns name)
rest_says turns name low high = go (turns == 1000) refl
  where
    words : Bool → List ℕ
    words t = in_one_line (cond t [] (codes " --turns " ++ decimal turns) ++ file_words name)

    go : (t : Bool) → (turns == 1000) ≡ t → SaysTurns turns (words t)
    go true is = record { ends = name_ends name; turns = name_without_turns name ∙ sym (eqb-true turns 1000 is) }
    go false is =
        let behind_it : in_one_line (decimal turns ++ file_words name) ≡ decimal turns ++ name_shown name =
        map-append shown (decimal turns) (file_words name) ∙ ap (λ d. d ++ name_shown name) (as_shown (decimal turns) (spelled turns high).digits) in
        record {
          ends = refl;
          turns = ap (λ bytes. unwrap_or (number_of 1 (first_word bytes)) 1000) behind_it ∙ ap (λ o. unwrap_or o 1000) (number_before 1 turns (name_shown name) low high (name_ends name));
        }

-- ---- the whole line

pub call_says : (steps turns : ℕ) (name : List ℕ) → steps ≤ 1_000_000 → 1 ≤ turns → turns ≤ 1_000_000
    → numbers_in_line (codes "# " ++ in_one_line (command steps turns name)) ≡ Some (record { steps = steps; turns = turns })
call_says steps turns name few low high =
    let rest = rest_shown turns name in
    let says = rest_says turns name low high in
    let script = codes " --script THIS" ++ rest in
    let line : in_one_line (decimal steps ++ (codes " --script THIS" ++ (turns_words turns ++ file_words name))) ≡ decimal steps ++ script =
    map-append shown (decimal steps) (codes " --script THIS" ++ (turns_words turns ++ file_words name))
    ∙ ap (λ d. d ++ script) (as_shown (decimal steps) (spelled steps few).digits) in
    let number = number_before 0 steps script (omega arith) few refl in
    let back = behind_digits (decimal steps) script (spelled steps few).digits refl in
    ap numbers_behind line
    ∙ (ap (option_and_then (λ k. numbers_with k (behind_word (decimal steps ++ script)))) number
    ∙ (ap (numbers_with steps) back
    ∙ ap (λ n. Some (record { steps = steps; turns = n })) (behind_script rest ∙ says.turns)))
