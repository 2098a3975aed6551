-- Free. What stands of rules in order, and of turns of one, from part to part.
--     none_consistent      the set of no updates is consistent
--     Continues            how the story that is left goes on after a part: it ends with that of
--                          the part, or goes on by a part's set
--     order_left, turns_left          the story that is left from a number on
--     order_goes, turns_go            it goes on so
--     turns_begin          the story of an `iterate` is what is left from its first turn on
--     order_end, turns_end            at the end nothing stands in it
--     IsWalked             the sets so far, the assignments that stand in what they make, and what
--                          is left
--     walk_begins, walk_none, walk_off, walk_on, walk_ends            from part to part
use Rattle.std.proofs.Common.{◌≡◌, ◌≢◌, ℕ, suc, ◌+◌, ◌-◌, ◌<◌, ◌≤◌, Bool, true, false, cond, not, ◌||◌, List, [], ◌∷◌, length, map, drop, get_or, Option, Some, refl, sym, ap, subst, ◌∙◌, arith, add-one}
use Rattle.std.proofs.lemmas.Bool.{false_from_ne_true}
use Rattle.std.proofs.lemmas.List.{at_drop_more}
use Rattle.std.proofs.Math.ListN.{drop_of_length-le}
use Rattle.asm_state.specs.declared.value.Value.{Value}
use Rattle.asm_state.specs.Location.{Location, Stray, State}
use Rattle.asm_state.specs.Signature.{Shape}
use Rattle.asm_state.specs.Updates.{UpdateSet, IsConsistent, is_consistent, is_none, none, merge, fire}
use Rattle.asm_state.proofs.UpdateLemmas.UnionsAndMerges.{merge_laws}
use Rattle.asm_state.proofs.UpdateLemmas.Members.{member_laws}
use Rattle.asm_state.proofs.UpdateLemmas.Summaries.{fire_laws}
use Rattle.asm_state.proofs.UpdateLemmas.Updates.{test_laws}
use Rattle.asm_updates.specs.code.SummaryRanges.{SummaryRanges}
use Rattle.asm_updates.specs.code.Stands.{Stands}
use Rattle.asm_reader.specs.declared.picks.Picks.{Ghosts}
use Rattle.asm_eval.specs.code.PartSets.{IsPartSet, ends_parts, ends_turns}
use Rattle.asm_meaning.specs.Does.{Outcome}
use Rattle.asm_meaning.specs.Program.{nothing_bound}
use Rattle.asm_meaning.specs.Story.{Story, Then, outcome_of, part_then, turn_then, turns_tell}
use Rattle.asm_meaning.specs.Yields.{Path, Result, Gives, Exhausted, at}
use Rattle.asm_eval.specs.declared.part_set.PartSet.{PartSet}
use Rattle.asm_eval.specs.declared.part_set.PartSet.TheVariants as part_set
use Rattle.asm_code.specs.code.RuleStories.{telling, tellings}
use Rattle.asm_code.specs.code.RuleTree as tree
use Rattle.asm_code.specs.code.RuleViews.{rule_of, rules_of}
use Rattle.asm_code.specs.declared.rule_code.RuleCode.{RuleCode}
use Rattle.asm_code.proofs.RuleStories.{code_outcomes}
use Rattle.asm_eval.specs.code.Evaluation.{evaluation_choices, evaluation_shape, frame_locations, rule_in}
use Rattle.asm_eval.specs.code.Frames.{readings_of}
use Rattle.asm_eval.specs.declared.frame.Frame.{Frame}
use Rattle.asm_eval.specs.declared.evaluation.Evaluation.{Evaluation}
use Rattle.asm_clash.specs.Standing.{Assigned, later, stands}
use Rattle.asm_clash.specs.code.StandingRules.{IsNext, order_story, story_in}
use Rattle.asm_clash.proofs.Leaves.{not_some}

pub none_consistent : IsConsistent none
none_consistent = record { one_value = λ l v w h k. absurd (member_laws.of_none l v h); no_stray = λ f v. member_laws.of_none (Stray f) v }

-- ---- how a story goes on after a part

-- in the state A, after a part with this result and this story
pub record Continues (ends : PartSet → Bool) (left rest : State → Story) (A : State) (r : Result) (s : Story) : Type 0 where
  pub exhausted : (q : Path) → r ≡ Exhausted q → left A ≡ s
  pub last : (V : UpdateSet) (part : PartSet) → r ≡ Gives V → IsPartSet V part → ends part ≡ true → left A ≡ s
  pub more : (V : UpdateSet) (part : PartSet) → r ≡ Gives V → IsPartSet V part → ends part ≡ false → IsConsistent V × (left A ≡ Then s (rest (fire A V)))

module _ (V : UpdateSet) where
  consistent_is : IsConsistent V → is_consistent V ≡ true
  consistent_is good = (test_laws.consistency V).1 good

  faulty_is : ¬ (IsConsistent V) → is_consistent V ≡ false
  faulty_is faulty = false_from_ne_true (is_consistent V) (λ e. faulty ((test_laws.consistency V).0 e))

  some_is : V ≢ none → is_none V ≡ false
  some_is some = false_from_ne_true (is_none V) (λ e. some ((test_laws.emptiness V).0 e))

  always_ends : (b : Bool) → (b || true) ≡ true
  always_ends true = refl
  always_ends false = refl

  module _ (s : Story) (rest : UpdateSet → Story) where
    last_part : (part : PartSet) → IsPartSet V part → ends_parts part ≡ true → part_then (Gives V) s rest ≡ s
    last_part part_set.Empty is e = cc
    last_part part_set.Consistent is e = cc
    last_part part_set.Inconsistent is e = ap (λ b. cond b (Then s (rest V)) s) (faulty_is is)

    by_good : IsConsistent V → IsConsistent V × (part_then (Gives V) s rest ≡ Then s (rest V))
    by_good good = (good, ap (λ b. cond b (Then s (rest V)) s) (consistent_is good))

    next_part : (part : PartSet) → IsPartSet V part → ends_parts part ≡ false → IsConsistent V × (part_then (Gives V) s rest ≡ Then s (rest V))
    next_part part_set.Empty is e = by_good (subst IsConsistent (sym is) none_consistent)
    next_part part_set.Consistent is e = by_good is.1
    next_part part_set.Inconsistent is e = cc

    last_turn : (part : PartSet) → IsPartSet V part → ends_turns part ≡ true → turn_then (Gives V) s rest ≡ s
    last_turn part_set.Empty is e = ap (λ b. cond (b || not (is_consistent V)) s (Then s (rest V))) ((test_laws.emptiness V).1 is)
    last_turn part_set.Consistent is e = cc
    last_turn part_set.Inconsistent is e =
        ap (λ b. cond (is_none V || not b) s (Then s (rest V))) (faulty_is is) ∙ ap (λ b. cond b s (Then s (rest V))) (always_ends (is_none V))

    next_turn : (part : PartSet) → IsPartSet V part → ends_turns part ≡ false → IsConsistent V × (turn_then (Gives V) s rest ≡ Then s (rest V))
    next_turn part_set.Empty is e = cc
    next_turn part_set.Consistent is e = (is.1, λ i. cond (some_is is.0 i || not (consistent_is is.1 i)) s (Then s (rest V)))
    next_turn part_set.Inconsistent is e = cc

module _ (left rest : State → Story) (A : State) (r : Result) (s : Story) where
  abbrev after : UpdateSet → Story
  after U = rest (fire A U)

  by_part : left A ≡ part_then r s after → Continues ends_parts left rest A r s
  by_part goes =
      let here : (x : Result) → r ≡ x → left A ≡ part_then x s after = λ x gives. goes ∙ ap (λ y. part_then y s after) gives in
      record {
        exhausted = λ q gives. here (Exhausted q) gives;
        last = λ V part gives is e. here (Gives V) gives ∙ last_part V s after part is e;
        more = λ V part gives is e. let next = next_part V s after part is e in (next.0, here (Gives V) gives ∙ next.1);
      }

  by_turn : left A ≡ turn_then r s after → Continues ends_turns left rest A r s
  by_turn goes =
      let here : (x : Result) → r ≡ x → left A ≡ turn_then x s after = λ x gives. goes ∙ ap (λ y. turn_then y s after) gives in
      record {
        exhausted = λ q gives. here (Exhausted q) gives;
        last = λ V part gives is e. here (Gives V) gives ∙ last_turn V s after part is e;
        more = λ V part gives is e. let next = next_turn V s after part is e in (next.0, here (Gives V) gives ∙ next.1);
      }

-- ---- what is left

module _ {P : Type 0} {picks : Ghosts P} (r : Evaluation P picks) (gs : List Value) (f : Frame) (p : Path) where
  abbrev story : tree.RuleCode → ℕ → State → Story
  story R k A = story_in r gs f (at p k) R A

  abbrev yields : tree.RuleCode → ℕ → State → Result
  yields R k A = (rule_in r f (at p k) R A).result

  told : (R : tree.RuleCode) (k : ℕ) (A : State) → (outcome_of (story R k A)).result ≡ yields R k A
  told R k A = ap (λ (o : Outcome). o.result) (code_outcomes (evaluation_shape r) r.turns (evaluation_choices r) R (readings_of (evaluation_shape r) f) (frame_locations (evaluation_shape r) f) gs A (at p k))

  abbrev order_from : ℕ → List RuleCode → State → Story
  order_from i Ps A = order_story r gs f p i (rules_of (map rule_of Ps)) A

  abbrev pub order_left : List RuleCode → ℕ → State → Story
  order_left Ps i A = order_from i (drop i Ps) A

  order_next : (Ps : List RuleCode) (i : ℕ) (P : RuleCode) (A : State) → i < length Ps → P ≡ get_or Ps i P
      → order_left Ps i A ≡ part_then (yields (rule_of P) i A) (story (rule_of P) i A) (λ U. order_left Ps (i + 1) (fire A U))
  unfolding tellings
  order_next Ps i P A low is =
      let t : RuleCode → Story = λ Q. story (rule_of Q) i A in
      at_drop_more (λ (some : List RuleCode). order_from i some A) Ps i P low
      ∙ ap (λ k. part_then (outcome_of (t (get_or Ps i P))).result (t (get_or Ps i P)) (λ U. order_from k (drop (i + 1) Ps) (fire A U))) (sym (add-one i))
      ∙ ap (λ (x : RuleCode). part_then (outcome_of (t x)).result (t x) (λ U. order_left Ps (i + 1) (fire A U))) (sym is)
      ∙ ap (λ x. part_then x (t P) (λ U. order_left Ps (i + 1) (fire A U))) (told (rule_of P) i A)

  pub order_goes : (Ps : List RuleCode) (i : ℕ) (P : RuleCode) (A : State) → i < length Ps → P ≡ get_or Ps i P
      → Continues ends_parts (order_left Ps i) (order_left Ps (i + 1)) A (yields (rule_of P) i A) (story (rule_of P) i A)
  order_goes Ps i P A low is = by_part (order_left Ps i) (order_left Ps (i + 1)) A (yields (rule_of P) i A) (story (rule_of P) i A) (order_next Ps i P A low is)

  pub order_end : (Ps : List RuleCode) (i : ℕ) (l : Location) (A : State) → length Ps ≤ i → stands l (order_left Ps i A) ≡ []
  unfolding tellings
  order_end Ps i l A past = ap (λ some. stands l (order_from i some A)) (drop_of_length-le Ps past)

  abbrev turns_from : tree.RuleCode → (left t : ℕ) → State → Story
  turns_from R left t A = turns_tell (λ B e q. story_in r gs f q R B) left t A nothing_bound p

  abbrev pub turns_left : tree.RuleCode → ℕ → State → Story
  turns_left R t A = turns_from R (r.turns - t) t A

  pub turns_begin : (R : tree.RuleCode) (A : State) → story_in r gs f p (tree.Iterate R) A ≡ turns_left R 0 A
  unfolding telling
  turns_begin R A = let all : r.turns ≡ r.turns - 0 = omega arith in ap (λ n. turns_from R n 0 A) all

  turns_next : (R : tree.RuleCode) (t : ℕ) (A : State) → t < r.turns → turns_left R t A ≡ turn_then (yields R t A) (story R t A) (λ U. turns_left R (t + 1) (fire A U))
  turns_next R t A low =
      let less : r.turns - t ≡ suc (r.turns - (t + 1)) = omega (arith, low) in
      ap (λ n. turns_from R n t A) less
      ∙ ap (λ k. turn_then (outcome_of (story R t A)).result (story R t A) (λ U. turns_from R (r.turns - (t + 1)) k (fire A U))) (sym (add-one t))
      ∙ ap (λ x. turn_then x (story R t A) (λ U. turns_left R (t + 1) (fire A U))) (told R t A)

  pub turns_go : (R : tree.RuleCode) (t k : ℕ) (A : State) → t < r.turns → k ≡ t → Continues ends_turns (turns_left R t) (turns_left R (t + 1)) A (yields R k A) (story R k A)
  turns_go R t k A low same =
      subst (λ n. Continues ends_turns (turns_left R t) (turns_left R (t + 1)) A (yields R n A) (story R n A)) (sym same)
      (by_turn (turns_left R t) (turns_left R (t + 1)) A (yields R t A) (story R t A) (turns_next R t A low))

  pub turns_end : (R : tree.RuleCode) (t : ℕ) (l : Location) (A : State) → r.turns ≤ t → stands l (turns_left R t A) ≡ []
  turns_end R t l A past = let nothing : r.turns - t ≡ 0 = omega (arith, past) in ap (λ n. stands l (turns_from R n t A)) nothing

-- ---- from part to part

later_group : (xs ys zs : List Assigned) → later (later xs ys) zs ≡ later xs (later ys zs)
later_group xs ys [] = refl
later_group xs ys (z ∷ zs) = refl

later_first : (xs : List Assigned) → later [] xs ≡ xs
later_first [] = refl
later_first (x ∷ xs) = refl

pub record IsWalked (shape : Shape) (l : Location) (A : State) (all : Story) (left : State → Story) (found : List Assigned) (so_far : SummaryRanges) : Type 0 where
  pub set : UpdateSet
  pub made : Stands shape so_far set
  pub consistent : IsConsistent set
  pub same : stands l all ≡ later found (stands l (left (fire A set)))

pub walk_begins : {shape : Shape} {l : Location} {A : State} {all : Story} (left : State → Story) (so_far : SummaryRanges) → all ≡ left A → Stands shape so_far none → IsWalked shape l A all left [] so_far
walk_begins {shape} {l} {A} left so_far whole empty = record {
  set = none;
  made = empty;
  consistent = none_consistent;
  same = ap (stands l) (whole ∙ ap left (sym (fire_laws.of_none A))) ∙ sym (later_first (stands l (left (fire A none))));
}

module _ {shape : Shape} {l : Location} {A : State} {all : Story} {left : State → Story} {found : List Assigned} {so_far : SummaryRanges} (under : IsWalked shape l A all left found so_far) where
  pub walk_ends : stands l (left (fire A under.set)) ≡ [] → found ≡ stands l all
  walk_ends nothing = sym (under.same ∙ ap (later found) nothing)

  module _ {ends : PartSet → Bool} {rest : State → Story} {r : Result} {s : Story} (goes : Continues ends left rest (fire A under.set) r s)
      (joined : SummaryRanges) (o : Option PartSet) (next : IsNext shape under.set r joined o) where
    abbrev now : List Assigned
    now = later found (stands l s)

    stops : left (fire A under.set) ≡ s → now ≡ stands l all
    stops e = sym (under.same ∙ ap (λ t. later found (stands l t)) e)

    pub walk_none : ((part : PartSet) → o ≡ Some part → ⊥) → now ≡ stands l all
    walk_none other = let on = subst (IsNext shape under.set r joined) (not_some o other) next in stops (goes.exhausted on.0 on.1)

    pub walk_off : (part : PartSet) → o ≡ Some part → ends part ≡ true → now ≡ stands l all
    walk_off part some e = let on = subst (IsNext shape under.set r joined) some next in stops (goes.last on.0 part on.1 on.2 e)

    pub walk_on : (part : PartSet) → o ≡ Some part → ends part ≡ false → IsWalked shape l A all rest now joined
    walk_on part some e =
        let on = subst (IsNext shape under.set r joined) some next in
        let more = goes.more on.0 part on.1 on.2 e in
        record {
          set = merge under.set on.0;
          made = on.3;
          consistent = merge_laws.consistent under.set on.0 under.consistent more.0;
          same =
              under.same ∙ ap (λ t. later found (stands l t)) more.1 ∙ sym (later_group found (stands l s) (stands l (rest (fire (fire A under.set) on.0))))
              ∙ ap (λ B. later now (stands l (rest B))) (sym (merge_laws.firing A under.set on.0));
        }
