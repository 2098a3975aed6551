-- Free. What is asked in sequences and turns, from part to part.
--     parts_left, seq_asks, order_next, order_end     what is left of a sequence
--     turns_left, iterate_asks, turns_step, turns_end what is left of turns
--     skip_none, assign_none    what asks nothing
--     IsAsking          on the way: what was asked so far, and what is left upon the set so far,
--                       are the whole
--     begins            before the first part
--     part_on, turn_on  after one with which it goes on
--     part_ends, turn_ends, gone      if it ends with one, or with one that is exhausted
use Rattle.std.proofs.Common.{◌++◌, ◌≡◌, ◌∙◌, ◌+◌, ◌-◌, ◌<◌, ◌≤◌, ℕ, arith, suc, Bool, true, false, cond, not, ◌||◌, List, [], length, get_or, map, drop, Option, Some, None, inl, inr, refl, sym, ap, add-one, append_assoc, append-nil, ◌⊎◌}
use Rattle.std.proofs.Math.Bool.{or-true}
use Rattle.std.proofs.Math.ListN.{drop_of_length-le}
use Rattle.std.proofs.lemmas.List.{at_drop_more}
use Rattle.std.proofs.lemmas.Bool.{false_from_ne_true}
use Rattle.asm_reader.specs.declared.picks.Picks.{Ghosts}
use Rattle.asm_state.specs.Location.{State}
use Rattle.asm_state.specs.Signature.{Shape}
use Rattle.asm_state.specs.Updates.{UpdateSet, IsConsistent, is_consistent, is_none, none, merge, fire}
use Rattle.asm_state.proofs.UpdateLemmas.UnionsAndMerges.{merge_laws}
use Rattle.asm_state.proofs.UpdateLemmas.Summaries.{fire_laws}
use Rattle.asm_state.proofs.UpdateLemmas.Updates.{test_laws}
use Rattle.asm_updates.specs.code.SummaryRanges.{SummaryRanges}
use Rattle.asm_updates.specs.code.Stands.{Stands}
use Rattle.asm_eval.specs.code.PartSets.{IsPartSet, ends_parts, ends_turns}
use Rattle.asm_meaning.specs.Yields.{Path, Result, Gives, Exhausted, at}
use Rattle.asm_eval.specs.declared.part_set.PartSet.{PartSet}
use Rattle.asm_eval.proofs.SequenceLaws.{part_laws-consistent_part as consistent_part, part_laws-ending_part as ending_part, part_laws-some_turn as some_turn, part_laws-consistent_turn as consistent_turn, part_laws-ending_turn as ending_turn}
use Rattle.asm_code.specs.code.BoundValues.{arguments_of, bound_of}
use Rattle.asm_code.specs.code.CodeTree as codes
use Rattle.asm_code.specs.code.Readings.{reading}
use Rattle.asm_code.specs.code.RuleMeaning.{target_location}
use Rattle.asm_code.specs.code.RuleStories.{telling}
use Rattle.asm_code.specs.code.RuleTree as tree
use Rattle.asm_code.specs.code.RuleViews.{rule_of, rules_of}
use Rattle.asm_code.specs.declared.rule_code.RuleCode.{RuleCode}
use Rattle.asm_eval.specs.code.Evaluation.{evaluation_choices, frame_locations, rule_in, evaluation_shape, evaluation_state}
use Rattle.asm_eval.specs.code.Frames.{readings_of}
use Rattle.asm_eval.specs.declared.frame.Frame.{Frame}
use Rattle.asm_eval.specs.declared.evaluation.Evaluation.{Evaluation}
use Rattle.asm_explore.specs.ChoicePoints.{Asking, after_set}
use Rattle.asm_explore.specs.code.AskedRules.{after_turn_set}
use Rattle.asm_explore.specs.code.AskedPieces.{asks_at, order_asked, turns_asked, IsUpon}
use Rattle.asm_explore.proofs.ChoiceLemmas.AskedParts.{target_asks, order_first, turns_first}
use Rattle.asm_explore.proofs.OutcomeLemmas.SequenceOutcomes.{none_consistent}

-- ---- whether a sequence goes on

abbrev After : Type 0
After = Result → (UpdateSet → List Asking) → List Asking

unless : (b : Bool) (xs ys : List Asking) → b ≡ false → cond b xs ys ≡ ys
unless b xs ys is = ap (λ so. cond so xs ys) is

when : (b : Bool) (xs ys : List Asking) → b ≡ true → cond b xs ys ≡ xs
when b xs ys is = ap (λ so. cond so xs ys) is

good : (V : UpdateSet) → IsConsistent V → is_consistent V ≡ true
good V consistent = (test_laws.consistency V).1 consistent

faulty : (V : UpdateSet) → ¬ (IsConsistent V) → is_consistent V ≡ false
faulty V bad = false_from_ne_true (is_consistent V) (λ is. bad ((test_laws.consistency V).0 is))

pub after_good : {X : Type 0} (V : UpdateSet) (rest : UpdateSet → List X) → IsConsistent V → after_set (Gives V) rest ≡ rest V
after_good V rest consistent = ap (λ so. cond so (rest V) []) (good V consistent)

pub after_faulty : {X : Type 0} (V : UpdateSet) (rest : UpdateSet → List X) → ¬ (IsConsistent V) → after_set (Gives V) rest ≡ []
after_faulty V rest bad = ap (λ so. cond so (rest V) []) (faulty V bad)

neither : (V : UpdateSet) → (V ≡ none → ⊥) → IsConsistent V → (is_none V || not (is_consistent V)) ≡ false
neither V some consistent =
    ap (λ so. is_none V || not so) (good V consistent) ∙ ap (λ so. so || false) (false_from_ne_true (is_none V) (λ is. some ((test_laws.emptiness V).0 is)))

last_one : (V : UpdateSet) → (V ≡ none) ⊎ (¬ (IsConsistent V)) → (is_none V || not (is_consistent V)) ≡ true
last_one V (inl empty) = ap (λ so. so || not (is_consistent V)) ((test_laws.emptiness V).1 empty)
last_one V (inr bad) = ap (λ so. is_none V || not so) (faulty V bad) ∙ or-true (is_none V)

turn_good : (V : UpdateSet) (rest : UpdateSet → List Asking) → (V ≡ none → ⊥) → IsConsistent V → after_turn_set (Gives V) rest ≡ rest V
turn_good V rest some consistent = unless (is_none V || not (is_consistent V)) [] (rest V) (neither V some consistent)

turn_last : (V : UpdateSet) (rest : UpdateSet → List Asking) → (V ≡ none) ⊎ (¬ (IsConsistent V)) → after_turn_set (Gives V) rest ≡ []
turn_last V rest ends = when (is_none V || not (is_consistent V)) [] (rest V) (last_one V ends)

-- ---- from part to part

pub record IsAsking (shape : Shape) (A : State) (so_far : SummaryRanges) (left : State → List Asking) (whole now : List Asking) : Type 0 where
  pub set : UpdateSet
  pub stands : Stands shape so_far set
  pub consistent : IsConsistent set
  pub asked : now ++ left (fire A set) ≡ whole

pub begins : (shape : Shape) (A : State) (so_far : SummaryRanges) (left : State → List Asking) (old total : List Asking) → Stands shape so_far none → left A ≡ total
    → IsAsking shape A so_far left (old ++ total) old
begins shape A so_far left old total stands is = record {
  set = none;
  stands = stands;
  consistent = none_consistent;
  asked = ap (λ B. old ++ left B) (fire_laws.of_none A) ∙ ap (λ xs. old ++ xs) is;
}

-- nothing is left
pub gone : (shape : Shape) (A : State) (so_far : SummaryRanges) (left : State → List Asking) (whole now : List Asking) → ((B : State) → left B ≡ [])
    → IsAsking shape A so_far left whole now → now ≡ whole
gone shape A so_far left whole now empty it = sym (append-nil now) ∙ ap (λ xs. now ++ xs) (sym (empty (fire A it.set))) ∙ it.asked

module _ {P : Type 0} {picks : Ghosts P} (evaluation : Evaluation P picks) (f : Frame) (q : Path) (R : tree.RuleCode) (so_far joined : SummaryRanges) (left left_then : State → List Asking) (whole now new : List Asking) where
  abbrev here : State → Result
  here B = (rule_in evaluation f q R B).result

  abbrev Steps : After → Type 0
  Steps after = (B : State) → left B ≡ asks_at evaluation f q R B ++ after (here B) (λ V. left_then (fire B V))

  abbrev IsOn : Type 0
  IsOn = IsAsking (evaluation_shape evaluation) (evaluation_state evaluation) so_far left whole now

  abbrev Upon : Option PartSet → Type 0
  Upon next = (U : UpdateSet) → Stands (evaluation_shape evaluation) so_far U → IsConsistent U → IsUpon evaluation f q R U joined now new next

  -- upon a set: what was asked, and what comes after it
  asked_then : (after : After) → Steps after → (it : IsOn) → new ≡ now ++ asks_at evaluation f q R (fire (evaluation_state evaluation) it.set)
      → new ++ after (here (fire (evaluation_state evaluation) it.set)) (λ V. left_then (fire (fire (evaluation_state evaluation) it.set) V)) ≡ whole
  asked_then after steps it is =
      let B = fire (evaluation_state evaluation) it.set in
      let rest = after (here B) (λ V. left_then (fire B V)) in
      ap (λ xs. xs ++ rest) is ∙ append_assoc now (asks_at evaluation f q R B) rest ∙ ap (λ xs. now ++ xs) (sym (steps B)) ∙ it.asked

  on_by : (after : After) → Steps after → (part : PartSet) → ((V : UpdateSet) → IsPartSet V part → IsConsistent V)
      → ((V : UpdateSet) → IsPartSet V part → (rest : UpdateSet → List Asking) → after (Gives V) rest ≡ rest V) → Upon (Some part) → IsOn
      → IsAsking (evaluation_shape evaluation) (evaluation_state evaluation) joined left_then whole new
  on_by after steps part consistent goes upon it =
      let A = evaluation_state evaluation in
      let U = it.set in
      let next = upon U it.stands it.consistent in
      let V = next.joins.0 in
      let kind = next.joins.2 in
      let good_set = consistent V kind in
      record {
        set = merge U V;
        stands = next.joins.3;
        consistent = merge_laws.consistent U V it.consistent good_set;
        asked = ap (λ B. new ++ left_then B) (merge_laws.firing A U V)
            ∙ ap (λ xs. new ++ xs) (sym (goes V kind (λ W. left_then (fire (fire A U) W))))
            ∙ ap (λ r. new ++ after r (λ W. left_then (fire (fire A U) W))) (sym next.joins.1)
            ∙ asked_then after steps it next.asked;
      }

  ends_by : (after : After) → Steps after → (part : PartSet) → ((V : UpdateSet) → IsPartSet V part → (rest : UpdateSet → List Asking) → after (Gives V) rest ≡ []) → Upon (Some part) → IsOn
      → new ≡ whole
  ends_by after steps part stops upon it =
      let next = upon it.set it.stands it.consistent in
      let V = next.joins.0 in
      let B = fire (evaluation_state evaluation) it.set in
      sym (append-nil new)
      ∙ ap (λ xs. new ++ xs) (sym (stops V next.joins.2 (λ W. left_then (fire B W))))
      ∙ ap (λ r. new ++ after r (λ W. left_then (fire B W))) (sym next.joins.1)
      ∙ asked_then after steps it next.asked

  exhausted_by : (after : After) → Steps after → ((p : Path) (rest : UpdateSet → List Asking) → after (Exhausted p) rest ≡ []) → Upon None → IsOn → new ≡ whole
  exhausted_by after steps stops upon it =
      let next = upon it.set it.stands it.consistent in
      let B = fire (evaluation_state evaluation) it.set in
      sym (append-nil new)
      ∙ ap (λ xs. new ++ xs) (sym (stops next.joins.0 (λ W. left_then (fire B W))))
      ∙ ap (λ r. new ++ after r (λ W. left_then (fire B W))) (sym next.joins.1)
      ∙ asked_then after steps it next.asked

  pub part_on : Steps after_set → (part : PartSet) → ends_parts part ≡ false → Upon (Some part) → IsOn → IsAsking (evaluation_shape evaluation) (evaluation_state evaluation) joined left_then whole new
  part_on steps part goes =
      on_by after_set steps part (λ V kind. consistent_part V part kind goes) (λ V kind rest. after_good V rest (consistent_part V part kind goes))

  pub part_ends : Steps after_set → (part : PartSet) → ends_parts part ≡ true → Upon (Some part) → IsOn → new ≡ whole
  part_ends steps part ends = ends_by after_set steps part (λ V kind rest. after_faulty V rest (ending_part V part kind ends))

  pub part_exhausted : Steps after_set → Upon None → IsOn → new ≡ whole
  part_exhausted steps = exhausted_by after_set steps (λ p rest. refl)

  pub turn_on : Steps after_turn_set → (part : PartSet) → ends_turns part ≡ false → Upon (Some part) → IsOn → IsAsking (evaluation_shape evaluation) (evaluation_state evaluation) joined left_then whole new
  turn_on steps part goes =
      on_by after_turn_set steps part (λ V kind. consistent_turn V part kind goes) (λ V kind rest. turn_good V rest (some_turn V part kind goes) (consistent_turn V part kind goes))

  pub turn_ends : Steps after_turn_set → (part : PartSet) → ends_turns part ≡ true → Upon (Some part) → IsOn → new ≡ whole
  turn_ends steps part ends = ends_by after_turn_set steps part (λ V kind rest. turn_last V rest (ending_turn V part kind ends))

  pub turn_exhausted : Steps after_turn_set → Upon None → IsOn → new ≡ whole
  turn_exhausted steps = exhausted_by after_turn_set steps (λ p rest. refl)

-- ---- what is left

module _ {P : Type 0} {picks : Ghosts P} (evaluation : Evaluation P picks) (f : Frame) (p : Path) where
  abbrev pub parts_left : List RuleCode → ℕ → State → List Asking
  parts_left Rs i B = order_asked evaluation f p i (rules_of (map rule_of (drop i Rs))) B

  pub seq_asks : (Rs : List RuleCode) (B : State) → parts_left Rs 0 B ≡ asks_at evaluation f p (tree.Seq (rules_of (map rule_of Rs))) B
  unfolding telling
  seq_asks Rs B = refl

  pub order_next : (Rs : List RuleCode) (i : ℕ) (R : RuleCode) → i < length Rs → R ≡ get_or Rs i R → (B : State)
      → parts_left Rs i B ≡ asks_at evaluation f (at p i) (rule_of R) B ++ after_set (rule_in evaluation f (at p i) (rule_of R) B).result (λ V. parts_left Rs (i + 1) (fire B V))
  unfolding telling
  order_next Rs i R low is B =
      at_drop_more (λ (some : List RuleCode). order_asked evaluation f p i (rules_of (map rule_of some)) B) Rs i R low
      ∙ order_first (evaluation_shape evaluation) evaluation.turns (evaluation_choices evaluation) (rule_of (get_or Rs i R)) (readings_of (evaluation_shape evaluation) f) (frame_locations (evaluation_shape evaluation) f) []
      (rules_of (map rule_of (drop (i + 1) Rs))) i B p
      ∙ ap (λ k. asks_at evaluation f (at p i) (rule_of (get_or Rs i R)) B
      ++ after_set (rule_in evaluation f (at p i) (rule_of (get_or Rs i R)) B).result (λ V. order_asked evaluation f p k (rules_of (map rule_of (drop (i + 1) Rs))) (fire B V))) (sym (add-one i))
      ∙ ap (λ (x : RuleCode). asks_at evaluation f (at p i) (rule_of x) B ++ after_set (rule_in evaluation f (at p i) (rule_of x) B).result (λ V. parts_left Rs (i + 1) (fire B V))) (sym is)

  pub order_end : (Rs : List RuleCode) (i : ℕ) → length Rs ≤ i → (B : State) → parts_left Rs i B ≡ []
  unfolding telling
  order_end Rs i past B = ap (λ some. order_asked evaluation f p i (rules_of (map rule_of some)) B) (drop_of_length-le Rs past)

  abbrev pub turns_left : tree.RuleCode → (left t : ℕ) → State → List Asking
  turns_left R left t B = turns_asked evaluation f p left t R B

  pub iterate_asks : (R : tree.RuleCode) (B : State) → turns_left R evaluation.turns 0 B ≡ asks_at evaluation f p (tree.Iterate R) B
  unfolding telling
  iterate_asks R B = refl

  pub turns_next : (R : tree.RuleCode) (left t : ℕ) (B : State)
      → turns_left R (suc left) t B ≡ asks_at evaluation f (at p t) R B ++ after_turn_set (rule_in evaluation f (at p t) R B).result (λ V. turns_left R left (t + 1) (fire B V))
  turns_next R left t B =
      turns_first (evaluation_shape evaluation) evaluation.turns (evaluation_choices evaluation) R (readings_of (evaluation_shape evaluation) f) (frame_locations (evaluation_shape evaluation) f) [] left t B p
      ∙ ap (λ k. asks_at evaluation f (at p t) R B ++ after_turn_set (rule_in evaluation f (at p t) R B).result (λ V. turns_left R left k (fire B V))) (sym (add-one t))

  -- of `all` turns
  pub turns_step : (R : tree.RuleCode) (all t : ℕ) → t < all → (B : State)
      → turns_left R (all - t) t B ≡ asks_at evaluation f (at p t) R B ++ after_turn_set (rule_in evaluation f (at p t) R B).result (λ V. turns_left R (all - (t + 1)) (t + 1) (fire B V))
  turns_step R all t low B =
      let count : suc (all - (t + 1)) ≡ all - t = omega (arith, low) in
      ap (λ n. turns_left R n t B) (sym count) ∙ turns_next R (all - (t + 1)) t B

  pub turns_end : (R : tree.RuleCode) (t : ℕ) (B : State) → turns_left R 0 t B ≡ []
  turns_end R t B = refl

  -- ---- what asks nothing

  pub skip_none : (R : tree.RuleCode) (B : State) → R ≡ tree.Skip → asks_at evaluation f p R B ≡ []
  unfolding telling
  skip_none R B is = ap (λ Q. asks_at evaluation f p Q B) is

  pub assign_none : (R : tree.RuleCode) (to : tree.Place) (t : codes.Code) (B : State) → R ≡ tree.Assign to t → asks_at evaluation f p R B ≡ []
  unfolding telling
  assign_none R to t B is =
      let shape = evaluation_shape evaluation in
      let rs = readings_of shape f in
      let ls = frame_locations shape f in
      ap (λ Q. asks_at evaluation f p Q B) is
      ∙ target_asks p (target_location shape to rs ls B) (reading shape t rs B) (arguments_of shape to rs [] B) (bound_of rs ls B)
