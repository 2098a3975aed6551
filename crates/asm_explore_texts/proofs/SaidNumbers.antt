-- Free. The numbers that a script says.
--     line_with_numbers, line_without_numbers
--                                  those of one line more
--     end_of                       all lines
--     numbers_made                 those of a line that has some
--     steps_in_range, turns_in_range
--                                  each is in its range
use Rattle.std.proofs.Common.{◌≡◌, ◌∙◌, ℕ, ◌≤◌, ◌==◌, Bool, true, false, cond, List, [], ◌∷◌, ◌++◌, length, ◌-◌, take, drop, map, codes, Option, None, Some, Bor, refl, sym, ap, subst, arith}
use Rattle.std.specs.Prelude.{◌&&◌, nat_le, IfSome, option_and_then, option_map, unwrap_or}
use Rattle.std.specs.Iterator.{Yields}
use Rattle.std.specs.Option.{option_or}
use Rattle.std.specs.Str.Lines.{strip_carriage_return}
use Rattle.std.proofs.lemmas.Grind.{common_steps}
use Rattle.std.proofs.lemmas.Iterator.{YieldsList}
use Rattle.std.proofs.lemmas.Iterator.Consumers.{YieldsList-end}
use Rattle.std.proofs.lemmas.List.{map-append}
use Rattle.std.proofs.lemmas.Option.{IfSome_then}
use Rattle.asm_reader.specs.ScriptText.{lines_of}
use Rattle.asm_explore_texts.specs.RunNumbers.{behind, behind_word, first_word, last_numbers, number_of, numbers_behind, numbers_in_line, numbers_said, numbers_with, turns_in, turns_named, value_from, value_in}
use Rattle.asm_explore_texts.specs.declared.run_numbers.RunNumbers.{RunNumbers}

or_none : (o : Option RunNumbers) → option_or o None ≡ o
or_none None = refl
or_none (Some numbers) = refl

or_grouped : (a b c : Option RunNumbers) → option_or (option_or a b) c ≡ option_or a (option_or b c)
or_grouped None b c = refl
or_grouped (Some numbers) b c = refl

later_line : (lines : List (List ℕ)) (line : List ℕ) → last_numbers (lines ++ line ∷ []) ≡ option_or (numbers_in_line line) (last_numbers lines)
later_line [] line = sym (or_none (numbers_in_line line))
later_line (one ∷ lines) line =
    ap (λ o. option_or o (numbers_in_line one)) (later_line lines line) ∙ or_grouped (numbers_in_line line) (last_numbers lines) (numbers_in_line one)

-- the lines so far, as the code has them
abbrev stripped : List (Bor (List ℕ)) → List (List ℕ)
stripped lines = map strip_carriage_return (map (λ line. line.now) lines)

one_more : (lines : List (Bor (List ℕ))) (line : Bor (List ℕ))
    → last_numbers (stripped (lines ++ line ∷ [])) ≡ option_or (numbers_in_line (strip_carriage_return line.now)) (last_numbers (stripped lines))
one_more lines line =
    ap (λ ls. last_numbers (map strip_carriage_return ls)) (map-append (λ (l : Bor (List ℕ)). l.now) lines (line ∷ []))
    ∙ (ap last_numbers (map-append strip_carriage_return (map (λ l. l.now) lines) (line.now ∷ [])) ∙ later_line (stripped lines) (strip_carriage_return line.now))

module _ (lines : List (Bor (List ℕ))) (line : Bor (List ℕ)) (bytes : List ℕ) (r : Option RunNumbers) (is : bytes ≡ strip_carriage_return line.now) (said : r ≡ numbers_in_line bytes) where
  pub line_with_numbers : (numbers : RunNumbers) → r ≡ Some numbers → last_numbers (stripped (lines ++ line ∷ [])) ≡ Some numbers
  line_with_numbers numbers some =
      one_more lines line ∙ ap (λ o. option_or o (last_numbers (stripped lines))) (ap numbers_in_line (sym is) ∙ (sym said ∙ some))

  pub line_without_numbers : (found : Option RunNumbers) → r ≡ None → last_numbers (stripped lines) ≡ found → last_numbers (stripped (lines ++ line ∷ [])) ≡ found
  line_without_numbers found none before =
      one_more lines line ∙ (ap (λ o. option_or o (last_numbers (stripped lines))) (ap numbers_in_line (sym is) ∙ (sym said ∙ none)) ∙ before)

-- where the lines end
pub end_of : {S A B : Type 0} {steps : S → Option A → S → Type 0} {v : A → B} {s : S} {all : List B} (xs : List A) (t : S) (y : Yields steps s xs t) (r : Option A) (u : S)
    → r ≡ None → steps t r u → YieldsList steps v s all → map v xs ≡ all
end_of xs t y r u is goes road = (YieldsList-end road xs t y r u is goes).0

-- ---- one line

all_behind : (word text : List ℕ) → take (length text - length word) (drop (length word) text) ≡ drop (length word) text
all_behind word text = grind (arith, common_steps)

with_some : (steps : ℕ) (rest : List ℕ) → (length rest == 0) ≡ false → numbers_with steps rest ≡ Some (record { steps = steps; turns = turns_in rest })
with_some steps [] h = cc
with_some steps (b ∷ rest) h = refl

pub numbers_made : (line text word rest : List ℕ) (r : Option (Bor (List ℕ))) (n : Option ℕ) (steps turns : ℕ)
    → option_map (λ b. b.now) r ≡ behind (codes "# asm --steps ") line → option_map (λ b. b.now) r ≡ Some text
    → word ≡ first_word text → n ≡ number_of 0 word → n ≡ Some steps
    → rest ≡ take (length text - length word) (drop (length word) text) → (length rest == 0) ≡ false → turns ≡ turns_in rest
    → Some (record { steps = steps; turns = turns }) ≡ numbers_in_line line
numbers_made line text word rest r n steps turns first is_text is_word is_number some is_rest more is_turns =
    sym (ap (option_and_then numbers_behind) (sym first ∙ is_text)
    ∙ (ap (option_and_then (λ k. numbers_with k (behind_word text))) number
    ∙ (ap (numbers_with steps) (sym behind_it)
    ∙ (with_some steps rest more ∙ ap (λ m. Some (record { steps = steps; turns = m })) (sym is_turns)))))
  where
    number : number_of 0 (first_word text) ≡ Some steps
    number = ap (number_of 0) (sym is_word) ∙ (sym is_number ∙ some)

    behind_it : rest ≡ behind_word text
    behind_it = is_rest ∙ (all_behind word text ∙ ap (λ w. drop (length w) text) is_word)

-- ---- ranges

abbrev IsFrom : (least n : ℕ) → Type 0
IsFrom least n = (least ≤ n) × (n ≤ 1_000_000)

value_in_range : (least value : ℕ) → IfSome (value_from least value) (IsFrom least)
value_in_range least value = go (nat_le least value) (nat_le value 1_000_000) refl refl
  where
    go : (a b : Bool) → nat_le least value ≡ a → nat_le value 1_000_000 ≡ b → IfSome (cond (a && b) (Some value) None) (IsFrom least)
    go true true low high = (grind (arith, low), grind (arith, high))
    go true false low high = tt
    go false b low high = tt

number_in_range : (least : ℕ) (o : Option ℕ) → IfSome (option_and_then (value_from least) o) (IsFrom least)
number_in_range least None = tt
number_in_range least (Some value) = value_in_range least value

named_in_range : (o : Option (List ℕ)) → IfSome (option_and_then (λ bytes. number_of 1 (first_word bytes)) o) (IsFrom 1)
named_in_range None = tt
named_in_range (Some bytes) = number_in_range 1 (value_in (first_word bytes))

or_thousand : (o : Option ℕ) → IfSome o (IsFrom 1) → IsFrom 1 (unwrap_or o 1000)
or_thousand None h = (omega arith, omega arith)
or_thousand (Some n) h = h

abbrev AreInRange : RunNumbers → Type 0
AreInRange numbers = IsFrom 0 numbers.steps × IsFrom 1 numbers.turns

with_in_range : (steps : ℕ) (rest : List ℕ) → IsFrom 0 steps → IfSome (numbers_with steps rest) AreInRange
with_in_range steps [] h = tt
with_in_range steps (b ∷ rest) h = (h, or_thousand (turns_named (b ∷ rest)) (named_in_range (behind (codes " --script THIS --turns ") (b ∷ rest))))

number_with_in_range : (steps : Option ℕ) (rest : List ℕ) → IfSome steps (IsFrom 0) → IfSome (option_and_then (λ k. numbers_with k rest) steps) AreInRange
number_with_in_range None rest h = tt
number_with_in_range (Some steps) rest h = with_in_range steps rest h

behind_in_range : (o : Option (List ℕ)) → IfSome (option_and_then numbers_behind o) AreInRange
behind_in_range None = tt
behind_in_range (Some bytes) = number_with_in_range (number_of 0 (first_word bytes)) (behind_word bytes) (number_in_range 0 (value_in (first_word bytes)))

or_in_range : (a b : Option RunNumbers) → IfSome a AreInRange → IfSome b AreInRange → IfSome (option_or a b) AreInRange
or_in_range None b h k = k
or_in_range (Some numbers) b h k = h

lines_in_range : (lines : List (List ℕ)) → IfSome (last_numbers lines) AreInRange
lines_in_range [] = tt
lines_in_range (line ∷ lines) = or_in_range (last_numbers lines) (numbers_in_line line) (lines_in_range lines) (behind_in_range (behind (codes "# asm --steps ") line))

in_range : (script : List ℕ) (r : Option RunNumbers) → r ≡ numbers_said script → IfSome r AreInRange
in_range script r is = subst (λ o. IfSome o AreInRange) (sym is) (lines_in_range (lines_of script))

pub steps_in_range : (script : List ℕ) (r : Option RunNumbers) → r ≡ numbers_said script → IfSome r (λ numbers. numbers.steps ≤ 1_000_000)
steps_in_range script r is = IfSome_then r (in_range script r is) (λ numbers h. h.0.1)

pub turns_in_range : (script : List ℕ) (r : Option RunNumbers) → r ≡ numbers_said script → IfSome r (λ numbers. (1 ≤ numbers.turns) × (numbers.turns ≤ 1_000_000))
turns_in_range script r is = IfSome_then r (in_range script r is) (λ numbers h. h.1)
