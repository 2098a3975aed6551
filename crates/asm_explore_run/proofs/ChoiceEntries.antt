-- Free. Entries for choices, one after the other.
--     lines_more, step_more        the lines of one choice more, and of one step more
--     entries_more                 the comment of one entry more
--     asked_more, all_more         what is asked in one choice more, and in one step more
--     listed_first, listed_next    one candidate more
--     candidates_told              the candidates of a choice
use Rattle.std.proofs.Common.{◌≡◌, ◌∙◌, ◌+◌, ◌-◌, ◌<◌, ℕ, zero, suc, Option, List, [], ◌∷◌, ◌++◌, length, map, min, take, get_or, codes, Vec, Global, append_assoc, append-nil, refl, inl, inr, sym, ap, arith}
use Rattle.std.specs.List.{enumerate_from, flat_map}
use Rattle.std.proofs.lemmas.Grind.{flat_map-append}
use Rattle.std.proofs.lemmas.Bool.{cases_lt}
use Rattle.std.proofs.lemmas.List.{length-map, length-take-le, map-append, take_all, take_more}
use Rattle.asm_state.specs.declared.value.Value.{Value}
use Rattle.asm_run.specs.Trace.{TraceNames}
use Rattle.asm_explore.specs.declared.choices.choice_point.ChoicePoint.{ChoicePoint}
use Rattle.asm_explore.specs.declared.outcomes.listed_outcome.Choice.{Choice}
use Rattle.asm_explore.specs.ChoicePoints.{Asking}
use Rattle.asm_explore.specs.RunChoices.{asked_said, choices_made, lines_forward, lines_from}
use Rattle.asm_explore.specs.code.AskedPieces.{all_said}
use Rattle.asm_explore.specs.ChoiceLines.{lines_for}
use Rattle.asm_explore_report.specs.declared.commented.Entry.{Entry}
use Rattle.asm_explore_run.specs.ChoicesText.{AreEntriesOf, IsEntryOf, candidate_text, candidates_text, greatest_listed, listed, others_text, taken_behind}
use Rattle.asm_reader.specs.ScriptLines.{Line}

-- ---- lines

for_both : (step : ℕ) (cs ds : List Choice) → lines_for step (cs ++ ds) ≡ lines_for step cs ++ lines_for step ds
for_both step [] ds = refl
for_both step (c ∷ cs) ds = ap (λ ls. record { step = step; path = c.path; choice = c.number } ∷ ls) (for_both step cs ds)

-- the lines of the first choices of a step, and of one more
pub lines_more : (step : ℕ) (asked : List ChoicePoint) (i : ℕ) (a : ChoicePoint) (old new : List Line) → i < length asked → a ≡ get_or asked i a
    → new ≡ (old ++ lines_for step (choices_made (take i asked))) ++ lines_for step (choices_made (a ∷ [])) → new ≡ old ++ lines_for step (choices_made (take (i + 1) asked))
lines_more step asked i a old new low is grown =
    grown ∙ append_assoc old (lines_for step (choices_made (take i asked))) (lines_for step (choices_made (a ∷ [])))
    ∙ ap (λ t. old ++ t)
    (sym (ap (λ xs. lines_for step (choices_made xs)) (take_more asked i a low ∙ ap (λ d. take i asked ++ d ∷ []) (sym is))
    ∙ ap (lines_for step) (map-append (λ (d : ChoicePoint). d.choice) (take i asked) (a ∷ []))
    ∙ for_both step (choices_made (take i asked)) (choices_made (a ∷ []))))

abbrev pub steps_made : List (Vec ChoicePoint Global) → List (List Choice)
steps_made steps = map (λ (asked : Vec ChoicePoint Global). choices_made asked.items) steps

from_both : (i : ℕ) (steps : List (List Choice)) (cs : List Choice) → lines_from i (steps ++ cs ∷ []) ≡ lines_from i steps ++ lines_for (i + length steps) cs
from_both i [] cs = let same : i ≡ i + 0 = omega arith in append-nil (lines_for i cs) ∙ ap (λ n. lines_for n cs) same
from_both i (ds ∷ steps) cs =
    let same : suc i + length steps ≡ i + length (ds ∷ steps) = omega arith in
    ap (λ ls. lines_for i ds ++ ls) (from_both (suc i) steps cs ∙ ap (λ n. lines_from (suc i) steps ++ lines_for n cs) same)
    ∙ sym (append_assoc (lines_for i ds) (lines_from (suc i) steps) (lines_for (i + length (ds ∷ steps)) cs))

-- the lines of one step more
pub step_more : (steps : List (Vec ChoicePoint Global)) (k : ℕ) (asked : Vec ChoicePoint Global) (new : List Line) → k < length steps → asked ≡ get_or steps k asked
    → new ≡ lines_forward (steps_made (take k steps)) ++ lines_for (k + 1) (choices_made asked.items) → new ≡ lines_forward (steps_made (take (k + 1) steps))
step_more steps k asked new low is grown =
    let first = take k steps in
    let count : 1 + length (steps_made first) ≡ k + 1 = omega (arith, length-map first (λ (cs : Vec ChoicePoint Global). choices_made cs.items), length-take-le k steps (omega (arith, low)), low) in
    grown
    ∙ sym (ap (λ xs. lines_forward (steps_made xs)) (take_more steps k asked low ∙ ap (λ d. first ++ d ∷ []) (sym is))
    ∙ ap lines_forward (map-append (λ (cs : Vec ChoicePoint Global). choices_made cs.items) first (asked ∷ []))
    ∙ from_both 1 (steps_made first) (choices_made asked.items)
    ∙ ap (λ n. lines_forward (steps_made first) ++ lines_for n (choices_made asked.items)) count)

-- ---- comments

module _ (text : List ℕ) (names : TraceNames) where
  pub entries_more : (asked : List Asking) (entries : List Entry) (a : Asking) (entry : Entry) → AreEntriesOf text names asked entries → IsEntryOf text names a entry
      → AreEntriesOf text names (asked ++ a ∷ []) (entries ++ entry ∷ [])
  entries_more [] [] a entry are is = (is, tt)
  entries_more [] (x ∷ entries) a entry are is = absurd are
  entries_more (x ∷ asked) [] a entry are is = absurd are
  entries_more (x ∷ asked) (y ∷ entries) a entry are is = (are.0, entries_more asked entries a entry are.1 is)

-- what is asked in one choice more
pub asked_more : (before : List Asking) (asked : List ChoicePoint) (i : ℕ) (a : ChoicePoint) → i < length asked → a ≡ get_or asked i a
    → (before ++ all_said (take i asked)) ++ all_said (a ∷ []) ≡ before ++ all_said (take (i + 1) asked)
asked_more before asked i a low is =
    append_assoc before (all_said (take i asked)) (all_said (a ∷ []))
    ∙ ap (λ t. before ++ t) (sym (ap all_said (take_more asked i a low ∙ ap (λ d. take i asked ++ d ∷ []) (sym is)) ∙ map-append asked_said (take i asked) (a ∷ [])))

abbrev pub steps_asked : List (Vec ChoicePoint Global) → List Asking
steps_asked steps = flat_map (λ step. step) (map (λ (asked : Vec ChoicePoint Global). map asked_said asked.items) steps)

-- and in one step more
pub all_more : (steps : List (Vec ChoicePoint Global)) (k : ℕ) (asked : Vec ChoicePoint Global) → k < length steps → asked ≡ get_or steps k asked
    → steps_asked (take k steps) ++ all_said asked.items ≡ steps_asked (take (k + 1) steps)
all_more steps k asked low is =
    let first = take k steps in
    let said : List (Vec ChoicePoint Global) → List (List Asking) = λ xs. map (λ (ys : Vec ChoicePoint Global). map asked_said ys.items) xs in
    ap (λ t. steps_asked first ++ t) (sym (append-nil (all_said asked.items)))
    ∙ sym (ap steps_asked (take_more steps k asked low ∙ ap (λ d. first ++ d ∷ []) (sym is))
    ∙ ap (flat_map (λ step. step)) (map-append (λ (ys : Vec ChoicePoint Global). map asked_said ys.items) first (asked ∷ []))
    ∙ flat_map-append (λ step. step) (said first) (all_said asked.items ∷ []))

-- ---- candidates

enumerated_more : {X : Type 0} (n : ℕ) (xs : List X) (y : X) (k : ℕ) → k ≡ n + length xs → enumerate_from n (xs ++ y ∷ []) ≡ enumerate_from n xs ++ (k, y) ∷ []
enumerated_more n [] y k is = let same : n ≡ k = omega (arith, is) in ap (λ m. (m, y) ∷ []) same
enumerated_more n (x ∷ xs) y k is = ap (λ ps. (n, x) ∷ ps) (enumerated_more (n + 1) xs y k (omega (arith, is)))

module _ (names : TraceNames) (taken : ℕ) where
  abbrev next : ℕ × Value → List ℕ
  next c = codes ", " ++ candidate_text names taken c

  listed_more : (v : Value) (vs : List Value) (k : ℕ) (w : Value) → k ≡ suc (length vs) → listed names taken (v ∷ (vs ++ w ∷ [])) ≡ listed names taken (v ∷ vs) ++ next (k, w)
  listed_more v vs k w is =
      let first = candidate_text names taken (0, v) in
      let others = flat_map next (enumerate_from 1 vs) in
      ap (λ ps. first ++ flat_map next ps) (enumerated_more 1 vs w k (omega (arith, is)))
      ∙ ap (λ t. first ++ t) (flat_map-append next (enumerate_from 1 vs) ((k, w) ∷ []) ∙ ap (λ t. others ++ t) (append-nil (next (k, w))))
      ∙ sym (append_assoc first others (next (k, w)))

  pub listed_first : (vs : List Value) (i : ℕ) (w : Value) (old new : List ℕ) → i < length vs → i ≡ 0 → w ≡ get_or vs i w
      → new ≡ (old ++ listed names taken (take i vs)) ++ candidate_text names taken (i, w) → new ≡ old ++ listed names taken (take (i + 1) vs)
  listed_first [] i w old new low first is grown = absurd (omega (arith, low))
  listed_first (v ∷ vs) zero w old new low first is grown =
      grown ∙ ap (λ t. t ++ candidate_text names taken (0, w)) (append-nil old)
      ∙ ap (λ u. old ++ candidate_text names taken (0, u)) is ∙ ap (λ t. old ++ t) (sym (append-nil (candidate_text names taken (0, v))))
  listed_first (v ∷ vs) (suc i) w old new low first is grown = absurd (omega (arith, first))

  pub listed_next : (vs : List Value) (i : ℕ) (w : Value) (old new : List ℕ) → i < length vs → 0 < i → w ≡ get_or vs i w
      → new ≡ ((old ++ listed names taken (take i vs)) ++ codes ", ") ++ candidate_text names taken (i, w) → new ≡ old ++ listed names taken (take (i + 1) vs)
  listed_next [] i w old new low later is grown = absurd (omega (arith, low))
  listed_next (v ∷ vs) zero w old new low later is grown = absurd (omega (arith, later))
  listed_next (v ∷ vs) (suc i) w old new low later is grown =
      let before = listed names taken (v ∷ take i vs) in
      let count : suc i ≡ suc (length (take i vs)) = omega (arith, low, length-take-le i vs (omega (arith, low))) in
      let up : suc (i + 1) ≡ suc i + 1 = omega arith in
      grown ∙ append_assoc (old ++ before) (codes ", ") (candidate_text names taken (suc i, w)) ∙ append_assoc old before (next (suc i, w))
      ∙ ap (λ t. old ++ t)
      (sym (listed_more v (take i vs) (suc i) w count)
      ∙ ap (λ xs. listed names taken (v ∷ xs)) (sym (take_more vs i w (omega (arith, low)) ∙ ap (λ d. take i vs ++ d ∷ []) (sym is))))
      ∙ ap (λ n. old ++ listed names taken (take n (v ∷ vs))) up

  -- the first candidates, and how many more there are
  first_shown : (vs : List Value) (shown : ℕ) → shown ≡ min (length vs) greatest_listed → take shown vs ≡ take greatest_listed vs
  first_shown vs shown is =
      elim (cases_lt (length vs) greatest_listed) [
        | inl low ↦ take_all shown vs (omega (arith, is, low)) ∙ sym (take_all greatest_listed vs (omega (arith, low)))
        | inr many ↦ let same : shown ≡ greatest_listed = omega (arith, is, many) in ap (λ n. take n vs) same
      ]

  pub candidates_told : (vs : List Value) (shown : ℕ) (behind : Option Value) (old middle new : List ℕ) → shown ≡ min (length vs) greatest_listed → behind ≡ taken_behind taken vs
      → middle ≡ old ++ listed names taken (take shown vs) → new ≡ middle ++ others_text names (length vs - shown) behind → new ≡ old ++ candidates_text names taken vs
  candidates_told vs shown behind old middle new is found first more =
      let left : length vs - shown ≡ length vs - greatest_listed = omega (arith, is) in
      let others = others_text names (length vs - greatest_listed) (taken_behind taken vs) in
      more ∙ (λ j. first j ++ others_text names (left j) (found j)) ∙ append_assoc old (listed names taken (take shown vs)) others
      ∙ ap (λ xs. old ++ (listed names taken xs ++ others)) (first_shown vs shown is)
