-- Free. Resolved rules in order, and turns of one: what the next part or the next turn makes of a
-- sequence that is underway.
--     parts_left, turns_left          what is left of the parts from a number on, of the turns from
--                                     a number on
--     part_goes_on, turn_goes_on      after a part or a turn with a good set
--     part_ends, turn_ends            after one whose set ends the sequence
--     parts_end                       if no part is left
--     part_stops, turn_stops          a part or a turn is exhausted
--     turns_stop                      no turn is left
use Rattle.std.proofs.Common.{◌≡◌, ◌≢◌, ℕ, zero, suc, ◌+◌, ◌-◌, ◌<◌, ◌≤◌, List, length, map, drop, slice_index_or, ◌⊎◌, sym, ap, ◌∙◌, arith, add-one}
use Rattle.std.specs.Prelude.{Result as Returned, Err, IfErr, IsErrAnd}
use Rattle.std.proofs.lemmas.List.{at_drop_more, at_drop_all}
use Rattle.asm_state.specs.Location.{State}
use Rattle.asm_state.specs.Signature.{Shape}
use Rattle.asm_state.specs.Updates.{UpdateSet, IsConsistent, none, merge, fire}
use Rattle.asm_state.proofs.UpdateLemmas.UnionsAndMerges.{merge_laws}
use Rattle.asm_updates.specs.code.SummaryRanges.{SummaryRanges}
use Rattle.asm_meaning.specs.Does.{Outcome, nothing, part_and, turn_and, in_order, turns_of}
use Rattle.asm_eval.specs.code.FormedOutcomes.{IsMergedPart, IsStoppedAt}
use Rattle.asm_eval.specs.code.PartSets.{IsPartSet}
use Rattle.asm_meaning.specs.Program.{nothing_bound}
use Rattle.asm_meaning.specs.Value.{Reading}
use Rattle.asm_meaning.specs.Yields.{Path, Exhausted, at}
use Rattle.asm_eval.specs.declared.part_set.PartSet.{PartSet}
use Rattle.asm_eval.specs.declared.stopped.Stopped.{Stopped}
use Rattle.asm_eval.proofs.SequenceLaws.{part_laws-good_part as good_part, part_laws-faulty_part as faulty_part, part_laws-exhausted_part as exhausted_part, part_laws-good_turn as good_turn, part_laws-last_turn as last_turn, part_laws-exhausted_turn as exhausted_turn, stopping_laws-handed_on as stopped_on}
use Rattle.asm_code.specs.code.RuleMeaning.{Locations, meaning, meanings}
use Rattle.asm_code.specs.code.RuleTree as tree
use Rattle.asm_code.specs.code.RuleViews.{rule_of, rules_of}
use Rattle.asm_code.specs.declared.rule_code.RuleCode.{RuleCode}
use Rattle.asm_eval.proofs.SequencesUpon.{IsUpon, upon_goes_on, upon_ends_with, upon_ends, upon_ends_at}

module _ (shape : Shape) (turns : ℕ) (chosen : Path → ℕ) (rs : List Reading) (ls : Locations) (p : Path) where
  abbrev in_order_from : ℕ → List RuleCode → State → Outcome
  in_order_from i Ps A = in_order (meanings shape turns chosen (rules_of (map rule_of Ps)) rs ls) i A nothing_bound p

  abbrev turns_from : ℕ → ℕ → tree.RuleCode → State → Outcome
  turns_from left t r A = turns_of (λ A e p. meaning shape turns chosen r rs ls A p) left t A nothing_bound p

  abbrev pub parts_left : List RuleCode → ℕ → State → Outcome
  parts_left Ps i = in_order_from i (drop i Ps)

  abbrev pub turns_left : ℕ → tree.RuleCode → ℕ → State → Outcome
  turns_left limit r t = turns_from (limit - t) t r

  -- the part or the turn with this number
  abbrev pub numbered : Path → ℕ → tree.RuleCode → State → Outcome
  numbered q k r A = meaning shape turns chosen r rs ls A (at q k)

  abbrev part_then : Outcome → (UpdateSet → Outcome) → Outcome
  part_then o rest = part_and o.result o.instances rest

  abbrev turn_then : Outcome → (UpdateSet → Outcome) → Outcome
  turn_then o rest = turn_and o.result o.instances rest

  one_left : (n k : ℕ) → k < n → n - k ≡ suc (n - (k + 1))
  one_left n k h = omega arith

  none_left : (n k : ℕ) → n ≤ k → n - k ≡ zero
  none_left n k h = omega arith

  next_part : (q : Path) (Ps : List RuleCode) (i : ℕ) (P : RuleCode) (A : State) → q ≡ p → i < length Ps → P ≡ slice_index_or Ps i P
      → parts_left Ps i A ≡ part_then (numbered q i (rule_of P) A) (λ U. parts_left Ps (i + 1) (fire A U))
  unfolding meanings
  next_part q Ps i P A same low is =
      at_drop_more (λ (some : List RuleCode). in_order_from i some A) Ps i P low
      ∙ ap (λ k. part_then (numbered p i (rule_of (slice_index_or Ps i P)) A) (λ U. in_order_from k (drop (i + 1) Ps) (fire A U))) (sym (add-one i))
      ∙ ap (λ (x : RuleCode). part_then (numbered p i (rule_of x) A) (λ U. parts_left Ps (i + 1) (fire A U))) (sym is)
      ∙ ap (λ there. part_then (numbered there i (rule_of P) A) (λ U. parts_left Ps (i + 1) (fire A U))) (sym same)

  no_part : (Ps : List RuleCode) (i : ℕ) (A : State) → length Ps ≤ i → parts_left Ps i A ≡ nothing
  unfolding meanings
  no_part Ps i A past = at_drop_all (λ (some : List RuleCode). in_order_from i some A) Ps i past

  next_turn : (q : Path) (limit t n : ℕ) (r : tree.RuleCode) (A : State) → q ≡ p → t < limit → n ≡ t
      → turns_left limit r t A ≡ turn_then (numbered q n r A) (λ U. turns_left limit r (t + 1) (fire A U))
  next_turn q limit t n r A same low is =
      ap (λ m. turns_from m t r A) (one_left limit t low)
      ∙ ap (λ k. turn_then (numbered p t r A) (λ U. turns_from (limit - (t + 1)) k r (fire A U))) (sym (add-one t))
      ∙ ap (λ there. turn_then (numbered there t r A) (λ U. turns_left limit r (t + 1) (fire A U))) (sym same)
      ∙ ap (λ m. turn_then (numbered q m r A) (λ U. turns_left limit r (t + 1) (fire A U))) (sym is)

  no_turn : (limit t : ℕ) (r : tree.RuleCode) (A : State) → limit ≤ t → (turns_left limit r t A).result ≡ Exhausted p
  no_turn limit t r A past = ap (λ n. (turns_from n t r A).result) (none_left limit t past)

  module _ (A : State) (U : UpdateSet) (total : Outcome) (so_far : SummaryRanges) (whole : PartSet) (before now : ℕ) where
    -- ---- parts

    module _ (Ps : List RuleCode) (i : ℕ) (under : IsUpon shape U (fire A U) total (parts_left Ps i) so_far whole before now) where
      abbrev parts_then : UpdateSet → Outcome
      parts_then V = parts_left Ps (i + 1) (fire (fire (fire A U) under.set) V)

      module _ (q : Path) (P : RuleCode) (same : q ≡ p) (low : i < length Ps) (is : P ≡ slice_index_or Ps i P) where
        abbrev part : Outcome
        part = numbered q i (rule_of P) (fire A (merge U under.set))

        then_part : parts_left Ps i (fire (fire A U) under.set) ≡ part_then part parts_then
        then_part =
            next_part q Ps i P (fire (fire A U) under.set) same low is
            ∙ ap (λ (B : State). part_then (numbered q i (rule_of P) B) parts_then) (sym (merge_laws.firing A U under.set))

        pub part_goes_on : (joined : SummaryRanges) (is_set both : PartSet) (after : ℕ) (on : IsMergedPart shape part (merge U under.set) joined is_set now after) → IsConsistent on.set
            → IsPartSet (merge under.set on.set) both → IsUpon shape U (fire A U) total (parts_left Ps (i + 1)) joined both before after
        part_goes_on joined is_set both after on consistent joins =
            upon_goes_on shape U (fire A U) total (parts_left Ps i) so_far whole before now under part (parts_left Ps (i + 1)) joined is_set both after on consistent joins
            (then_part ∙ good_part part on.set parts_then on.gives consistent)

        pub part_ends : (joined : SummaryRanges) (is_set both : PartSet) (after : ℕ) (on : IsMergedPart shape part (merge U under.set) joined is_set now after) → ¬ (IsConsistent on.set)
            → IsPartSet (merge under.set on.set) both → IsMergedPart shape total U joined both before after
        part_ends joined is_set both after on faulty joins =
            upon_ends_with shape U (fire A U) total (parts_left Ps i) so_far whole before now under part joined is_set both after on joins
            (then_part ∙ faulty_part part on.set parts_then on.gives faulty)

        pub part_stops : {S T : Type 0} (path : Path) (given : Returned S Stopped) (returned : Returned T Stopped) (stop : Stopped)
            → given ≡ Err stop → IsErrAnd returned (λ again. again ≡ stop) → IfErr given (IsStoppedAt part path) → IfErr returned (IsStoppedAt total path)
        part_stops path given returned stop was again =
            stopped_on part total path given returned stop was again
            (λ there at. upon_ends_at shape U (fire A U) total (parts_left Ps i) so_far whole before now under there
            (ap (λ (o : Outcome). o.result) then_part ∙ exhausted_part part parts_then there at))

      pub parts_end : length Ps ≤ i → IsMergedPart shape total U so_far whole before now
      parts_end past = upon_ends shape U (fire A U) total (parts_left Ps i) so_far whole before now under (no_part Ps i (fire (fire A U) under.set) past)

    -- ---- turns

    module _ (limit : ℕ) (r : tree.RuleCode) (t : ℕ) (under : IsUpon shape U (fire A U) total (turns_left limit r t) so_far whole before now) where
      abbrev turns_then : UpdateSet → Outcome
      turns_then V = turns_left limit r (t + 1) (fire (fire (fire A U) under.set) V)

      module _ (q : Path) (number : ℕ) (same : q ≡ p) (low : t < limit) (is : number ≡ t) where
        abbrev turn : Outcome
        turn = numbered q number r (fire A (merge U under.set))

        then_turn : turns_left limit r t (fire (fire A U) under.set) ≡ turn_then turn turns_then
        then_turn =
            next_turn q limit t number r (fire (fire A U) under.set) same low is
            ∙ ap (λ (B : State). turn_then (numbered q number r B) turns_then) (sym (merge_laws.firing A U under.set))

        pub turn_goes_on : (joined : SummaryRanges) (is_set both : PartSet) (after : ℕ) (on : IsMergedPart shape turn (merge U under.set) joined is_set now after) → on.set ≢ none → IsConsistent on.set
            → IsPartSet (merge under.set on.set) both → IsUpon shape U (fire A U) total (turns_left limit r (t + 1)) joined both before after
        turn_goes_on joined is_set both after on some consistent joins =
            upon_goes_on shape U (fire A U) total (turns_left limit r t) so_far whole before now under turn (turns_left limit r (t + 1)) joined is_set both after on consistent joins
            (then_turn ∙ good_turn turn on.set turns_then on.gives some consistent)

        pub turn_ends : (joined : SummaryRanges) (is_set both : PartSet) (after : ℕ) (on : IsMergedPart shape turn (merge U under.set) joined is_set now after) → (on.set ≡ none) ⊎ (¬ (IsConsistent on.set))
            → IsPartSet (merge under.set on.set) both → IsMergedPart shape total U joined both before after
        turn_ends joined is_set both after on last joins =
            upon_ends_with shape U (fire A U) total (turns_left limit r t) so_far whole before now under turn joined is_set both after on joins
            (then_turn ∙ last_turn turn on.set turns_then on.gives last)

        pub turn_stops : {S T : Type 0} (path : Path) (given : Returned S Stopped) (returned : Returned T Stopped) (stop : Stopped)
            → given ≡ Err stop → IsErrAnd returned (λ again. again ≡ stop) → IfErr given (IsStoppedAt turn path) → IfErr returned (IsStoppedAt total path)
        turn_stops path given returned stop was again =
            stopped_on turn total path given returned stop was again
            (λ there at. upon_ends_at shape U (fire A U) total (turns_left limit r t) so_far whole before now under there
            (ap (λ (o : Outcome). o.result) then_turn ∙ exhausted_turn turn turns_then there at))

      pub turns_stop : limit ≤ t → total.result ≡ Exhausted p
      turns_stop past = upon_ends_at shape U (fire A U) total (turns_left limit r t) so_far whole before now under p (no_turn limit t r (fire (fire A U) under.set) past)

  pub iterate_yields_turns : (r : tree.RuleCode) (A : State) → turns_left turns r 0 A ≡ meaning shape turns chosen (tree.Iterate r) rs ls A p
  unfolding meaning
  iterate_yields_turns r A = ap (λ n. turns_from n 0 r A) whole
    where
      whole : turns - 0 ≡ turns
      whole = omega arith
