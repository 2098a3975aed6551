-- Free. The first line of a script that has a fault: how lines without one grow, and that no other
-- line is the first.
use Rattle.std.proofs.Common.{◌≡◌, ℕ, suc, ◌+◌, ◌<◌, ◌≤◌, ◌==◌, Bool, true, false, not, ◌&&◌, ◌||◌, List, [], ◌∷◌, ◌++◌, length, map, get_or, take, drop, Option, None, Some, Bor, is_none, Result, Ok, Err, IfErr, append_assoc, refl, sym, ap, subst, ◌∙◌, inl, inr, true≢false, arith}
use Rattle.std.proofs.lemmas.Bool.{or_left, or_right}
use Rattle.std.proofs.lemmas.List.{append-nil, map-append, length-append, length-map, length-take-le, take-append-drop, take_more, drop_more}
use Rattle.std.proofs.lemmas.Simd.{map-map}
use Rattle.std.specs.List.{slice_split}
use Rattle.std.specs.Prelude.{IsErrAnd}
use Rattle.asm_syntax.specs.declared.input_error.InputError.{InputError}
use Rattle.asm_syntax.specs.declared.input_error.InputError.TheVariants.{Memory, Named}
use Rattle.std.specs.Str.Lines.{strip_carriage_return}
use Rattle.asm_reader.specs.ScriptLines.{SaidLine, Script, script_of}
use Rattle.asm_reader.specs.code.LinesSaid.{then_line}
use Rattle.asm_reader.specs.ScriptText.{line_of, is_skipped, said, said_in, script_in, has_line_of, is_bad, says_again, is_repeated, AreFaultless, IsFirstFaulty, IsRefusalOfLines, IsScript, IsScriptRefusal, lines_of, max_script}
use Rattle.asm_reader.specs.ScriptRefusals.{ExplainsScript, ExplainsLines}
use Rattle.asm_reader.specs.declared.script_error.ScriptError.{ScriptError}
use Rattle.asm_reader.specs.declared.script_error.ScriptError.TheVariants.{BadLine, Repeated, TooLong}
use Rattle.asm_reader.proofs.TokenFronts.{two_fronts}
use Rattle.asm_reader.proofs.ScriptLemmas.MoreLines.{script_of_push}

-- ---- one line more

pub no_lines_faulty : AreFaultless []
no_lines_faulty before after bytes e = absurd (omega (arith, ap length e, length-append before (bytes ∷ after)))

module _ (before : List (List ℕ)) (bytes : List ℕ) where
  pub said_push : said_in (before ++ bytes ∷ []) ≡ said_in before ++ said (is_skipped bytes) (line_of bytes)
  said_push = by before
    where
      by : (lines : List (List ℕ)) → said_in (lines ++ bytes ∷ []) ≡ said_in lines ++ said (is_skipped bytes) (line_of bytes)
      by [] = append-nil _
      by (l ∷ lines) = ap (λ more. said (is_skipped l) (line_of l) ++ more) (by lines) ∙ sym (append_assoc (said (is_skipped l) (line_of l)) (said_in lines) (said (is_skipped bytes) (line_of bytes)))

  pub faultless_push : AreFaultless before → is_bad bytes || is_repeated before bytes ≡ false → AreFaultless (before ++ bytes ∷ [])
  faultless_push faultless fine front back line e = elim (two_fronts before front bytes line [] back e) [
    | inl p ↦ rw (← p.0, ← p.1) fine
    | inr (inl p) ↦ absurd (omega (arith, ap length e, ap length p.1, length-append before (bytes ∷ []), length-append front (line ∷ back), length-append before (bytes ∷ p.0)))
    | inr (inr p) ↦ faultless front p.0 line p.1
  ]

-- ---- when the lines are read one by one

-- the lines, each without its carriage return
abbrev pub without_returns : List (Bor (List ℕ)) → List (List ℕ)
without_returns lines = map (λ l. strip_carriage_return l.now) lines

module _ (lines : List (Bor (List ℕ))) (i : ℕ) (d : Bor (List ℕ)) (bytes : List ℕ) (within : i < length lines) (here : bytes ≡ strip_carriage_return (get_or lines i d).now) where
  abbrev before : List (List ℕ)
  before = without_returns (take i lines)

  abbrev up_to : List (List ℕ)
  up_to = without_returns (take (i + 1) lines)

  one_more : up_to ≡ before ++ bytes ∷ []
  one_more =
      ap without_returns (take_more lines i d within) ∙ map-append (λ l. strip_carriage_return l.now) (take i lines) (get_or lines i d ∷ [])
      ∙ ap (λ b. before ++ b ∷ []) (sym here)

  faultless_more : AreFaultless before → is_bad bytes || is_repeated before bytes ≡ false → AreFaultless up_to
  faultless_more faultless fine = subst AreFaultless (sym one_more) (faultless_push before bytes faultless fine)

  script_more : script_of (said_in before ++ said (is_skipped bytes) (line_of bytes)) ≡ script_in up_to
  script_more = ap script_of (sym (said_push before bytes)) ∙ ap script_in (sym one_more)

  first_faulty : (has_fault : (before : List (List ℕ)) → List ℕ → Bool) → has_fault before bytes ≡ true → AreFaultless before → IsFirstFaulty has_fault (without_returns lines) (i + 1)
  first_faulty has_fault fault faultless = record {
    before = before;
    bytes = bytes;
    after = without_returns (drop (i + 1) lines);
    parts =
        ap without_returns (sym (take-append-drop i lines) ∙ ap (λ l. take i lines ++ l) (drop_more lines i d within))
        ∙ map-append (λ l. strip_carriage_return l.now) (take i lines) (get_or lines i d ∷ drop (i + 1) lines)
        ∙ ap (λ b. before ++ b ∷ without_returns (drop (i + 1) lines)) (sym here);
    number = omega (arith, length-map (take i lines) (λ (l : Bor (List ℕ)). strip_carriage_return l.now), length-take-le i lines (omega arith));
    fault = fault;
    first = faultless;
  }

  -- a line that is skipped has no fault and says nothing
  module _ (s : is_skipped bytes ≡ true) where
    pub skipped_more : AreFaultless before → AreFaultless up_to
    skipped_more faultless = faultless_more faultless (λ j. (not (s j) && is_none (line_of bytes)) || says_again (script_in before) (said (s j) (line_of bytes)))

    pub skipped_says : (script : Script) → script ≡ script_in before → script ≡ script_in up_to
    skipped_says script e = e ∙ ap script_of (sym (append-nil _) ∙ ap (λ b. said_in before ++ said b (line_of bytes)) (sym s)) ∙ script_more

  -- a line of no form is the first that has a fault
  pub bad_line : is_skipped bytes ≡ false → line_of bytes ≡ None → AreFaultless before → IsFirstFaulty (λ before. is_bad) (without_returns lines) (i + 1)
  bad_line s o = first_faulty (λ before. is_bad) (λ j. not (s j) && is_none (o j))

  module _ (s : is_skipped bytes ≡ false) (line : SaidLine) (o : line_of bytes ≡ Some line) (script : Script) (says : script ≡ script_in before) where
    -- so is one that repeats another
    pub repeated_line : has_line_of script line ≡ true → AreFaultless before → IsFirstFaulty is_repeated (without_returns lines) (i + 1)
    repeated_line e = first_faulty is_repeated ((λ j. says_again (sym says j) (said (s j) (o j))) ∙ e)

    -- and any other has none
    pub taken_more : has_line_of script line ≡ false → AreFaultless before → AreFaultless up_to
    taken_more e faultless = faultless_more faultless ((λ j. (not (s j) && is_none (o j)) || says_again (sym says j) (said (s j) (o j))) ∙ e)

    pub taken_says : then_line script line ≡ script_in up_to
    taken_says = ap (λ t. then_line t line) says ∙ sym (script_of_push (said_in before) line) ∙ (λ j. script_of (said_in before ++ said (sym s j) (sym o j))) ∙ script_more

-- ---- the whole text

-- the lines of a text, read from its parts
pub lines_read : (parts : List (Bor (List ℕ))) (text : List ℕ) → map (λ p. p.now) parts ≡ slice_split (λ b. b == 10) text → without_returns parts ≡ lines_of text
lines_read parts text e = sym (map-map strip_carriage_return (λ (p : Bor (List ℕ)). p.now) parts) ∙ ap (map strip_carriage_return) e

module _ (text : List ℕ) (lines : List (List ℕ)) (are_lines : lines ≡ lines_of text) (fits : length text ≤ max_script) where
  pub script_read : AreFaultless lines → IsScript text (script_in (lines_of text))
  script_read faultless = record { fits = fits; faultless = subst AreFaultless are_lines faultless; says = refl }

  refusal_read : (e : InputError ScriptError) → ExplainsLines lines e → ExplainsScript text e
  refusal_read Memory p = tt
  refusal_read (Named (BadLine n)) p = (fits, subst (λ ls. IsRefusalOfLines ls (BadLine n)) are_lines p)
  refusal_read (Named (Repeated n)) p = (fits, subst (λ ls. IsRefusalOfLines ls (Repeated n)) are_lines p)
  refusal_read (Named TooLong) p = absurd p

  -- a refusal of the lines that is handed on
  pub refusal_handed : {S : Type 0} (r : Result S (InputError ScriptError)) (e : InputError ScriptError) → IsErrAnd r (λ d. d ≡ e) → ExplainsLines lines e → IfErr r (ExplainsScript text)
  refusal_handed (Ok s) e same p = tt
  refusal_handed (Err d) e same p = refusal_read d (subst (ExplainsLines lines) (sym same) p)

-- ---- one first line with a fault

abbrev is_faulty : (before : List (List ℕ)) → List ℕ → Bool
is_faulty before bytes = is_bad bytes || is_repeated before bytes

not_both : (before : List (List ℕ)) (bytes : List ℕ) → is_bad bytes ≡ true → ¬ (is_repeated before bytes ≡ true)
not_both before bytes = by (is_skipped bytes) (line_of bytes)
  where
    by : (s : Bool) (o : Option SaidLine) → not s && is_none o ≡ true → ¬ (says_again (script_in before) (said s o) ≡ true)
    by true o p q = true≢false (sym p)
    by false None p q = true≢false (sym q)
    by false (Some line) p q = true≢false (sym p)

module _ (lines : List (List ℕ)) where
  bad_first : (n : ℕ) → IsFirstFaulty (λ before. is_bad) lines n → IsFirstFaulty is_faulty lines n
  bad_first n p = record { before = p.before; bytes = p.bytes; after = p.after; parts = p.parts; number = p.number; fault = or_left _ _ p.fault; first = p.first }

  repeated_first : (n : ℕ) → IsFirstFaulty is_repeated lines n → IsFirstFaulty is_faulty lines n
  repeated_first n p = record { before = p.before; bytes = p.bytes; after = p.after; parts = p.parts; number = p.number; fault = or_right _ _ p.fault; first = p.first }

  none_faulty : (n : ℕ) → IsFirstFaulty is_faulty lines n → ¬ AreFaultless lines
  none_faulty n p faultless = true≢false (sym p.fault ∙ faultless p.before p.after p.bytes p.parts)

  one_first : (m n : ℕ) (p : IsFirstFaulty is_faulty lines m) (q : IsFirstFaulty is_faulty lines n) → (p.before ≡ q.before) × (p.bytes ≡ q.bytes)
  one_first m n p q = elim (two_fronts p.before q.before p.bytes q.bytes p.after q.after (sym p.parts ∙ q.parts)) [
    | inl e ↦ e
    | inr (inl k) ↦ absurd (true≢false (sym p.fault ∙ q.first p.before k.0 p.bytes k.1))
    | inr (inr k) ↦ absurd (true≢false (sym q.fault ∙ p.first q.before k.0 q.bytes k.1))
  ]

  one_number : (m n : ℕ) → IsFirstFaulty is_faulty lines m → IsFirstFaulty is_faulty lines n → m ≡ n
  one_number m n p q = p.number ∙ ap (λ before. suc (length before)) (one_first m n p q).0 ∙ sym q.number

  bad_or_repeated : (m n : ℕ) → IsFirstFaulty (λ before. is_bad) lines m → ¬ IsFirstFaulty is_repeated lines n
  unfolding bad_first repeated_first
  bad_or_repeated m n p q =
      let same = one_first m n (bad_first m p) (repeated_first n q) in
      not_both q.before q.bytes (ap is_bad (sym same.1) ∙ p.fault) q.fault

  none_of_lines : (e : ScriptError) → IsRefusalOfLines lines e → ¬ AreFaultless lines
  none_of_lines (BadLine n) p = none_faulty n (bad_first n p)
  none_of_lines (Repeated n) p = none_faulty n (repeated_first n p)
  none_of_lines TooLong p = absurd p

  one_of_lines : (e f : ScriptError) → IsRefusalOfLines lines e → IsRefusalOfLines lines f → e ≡ f
  one_of_lines (BadLine m) (BadLine n) p q = ap BadLine (one_number m n (bad_first m p) (bad_first n q))
  one_of_lines (BadLine m) (Repeated n) p q = absurd (bad_or_repeated m n p q)
  one_of_lines (BadLine m) TooLong p q = absurd q
  one_of_lines (Repeated m) (BadLine n) p q = absurd (bad_or_repeated n m q p)
  one_of_lines (Repeated m) (Repeated n) p q = ap Repeated (one_number m n (repeated_first m p) (repeated_first n q))
  one_of_lines (Repeated m) TooLong p q = absurd q
  one_of_lines TooLong f p q = absurd p

-- ---- one refusal, and none if there is a script

module _ (text : List ℕ) where
  no_script_beside_a_refusal : (s : Script) (e : ScriptError) → IsScript text s → ¬ IsScriptRefusal text e
  no_script_beside_a_refusal s (BadLine n) k p = none_of_lines (lines_of text) (BadLine n) p.1 k.faultless
  no_script_beside_a_refusal s (Repeated n) k p = none_of_lines (lines_of text) (Repeated n) p.1 k.faultless
  no_script_beside_a_refusal s TooLong k p = absurd (omega (arith, p, k.fits))

  pub one_script_refusal : (e f : ScriptError) → IsScriptRefusal text e → IsScriptRefusal text f → e ≡ f
  one_script_refusal (BadLine m) (BadLine n) p q = one_of_lines (lines_of text) (BadLine m) (BadLine n) p.1 q.1
  one_script_refusal (BadLine m) (Repeated n) p q = one_of_lines (lines_of text) (BadLine m) (Repeated n) p.1 q.1
  one_script_refusal (BadLine m) TooLong p q = absurd (omega (arith, p.0, q))
  one_script_refusal (Repeated m) (BadLine n) p q = one_of_lines (lines_of text) (Repeated m) (BadLine n) p.1 q.1
  one_script_refusal (Repeated m) (Repeated n) p q = one_of_lines (lines_of text) (Repeated m) (Repeated n) p.1 q.1
  one_script_refusal (Repeated m) TooLong p q = absurd (omega (arith, p.0, q))
  one_script_refusal TooLong (BadLine n) p q = absurd (omega (arith, p, q.0))
  one_script_refusal TooLong (Repeated n) p q = absurd (omega (arith, p, q.0))
  one_script_refusal TooLong TooLong p q = refl

  -- if the text spells a script, only memory can run out
  pub only_memory : (s : Script) → IsScript text s → (e : InputError ScriptError) → ExplainsScript text e → e ≡ Memory
  only_memory s k Memory p = refl
  only_memory s k (Named e) p = absurd (no_script_beside_a_refusal s e k p)
