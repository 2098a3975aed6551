-- Bridge to the code. What is asked in a piece of a resolved rule.
--     all_said asked          what was asked, of the code
--     asks_at evaluation f p R A what is asked in R under a frame, at a path and in a state
--     piece_asks              in a whole piece
--     order_asked, turns_asked    in rules in order, and in turns, from a number on
--     own_choice, own_asks    at a `choose` itself
--     HasCount n o            the set of an outcome has this count of locations
--     IsUpon                  what was asked in the next part upon a set, and how the sequence goes
--                             on
use Rattle.std.specs.Prelude.{◌≡◌, ◌%◌, ◌++◌, ℕ, List, [], ◌∷◌, length, map, Option, Some, None}
use Rattle.asm_reader.specs.declared.picks.Picks.{Ghosts}
use Rattle.asm_state.specs.Location.{State}
use Rattle.asm_state.specs.Signature.{Shape}
use Rattle.asm_state.specs.Updates.{UpdateSet, fire, merge}
use Rattle.asm_state.specs.declared.value.Value.{Value}
use Rattle.asm_updates.specs.code.SummaryRanges.{SummaryRanges}
use Rattle.asm_updates.specs.code.Stands.{Stands}
use Rattle.asm_eval.specs.code.PartSets.{IsPartSet}
use Rattle.asm_meaning.specs.Value.{Reading}
use Rattle.asm_meaning.specs.Yields.{Path, Result, Gives, Exhausted}
use Rattle.asm_eval.specs.declared.outcome.Outcome.{Outcome}
use Rattle.asm_eval.specs.declared.outcome.Outcome.TheVariants as outcome
use Rattle.asm_eval.specs.declared.part_set.PartSet.{PartSet}
use Rattle.asm_code.specs.code.RuleMeaning.{passing}
use Rattle.asm_code.specs.code.RuleTree.{RuleCode, Skip, Assign, Par, Seq, If, Let, Forall, Choose, Iterate, Call, RuleCodes}
use Rattle.asm_code.specs.code.RuleViews.{rule_of}
use Rattle.asm_eval.specs.code.Frames.{readings_of}
use Rattle.asm_eval.specs.code.Evaluation.{evaluation_choices, frame_locations, rule_in, evaluation_shape, evaluation_state}
use Rattle.asm_eval.specs.declared.frame.Frame.{Frame}
use Rattle.asm_eval.specs.declared.piece.Piece.{Piece}
use Rattle.asm_eval.specs.declared.evaluation.Evaluation.{Evaluation}
use Rattle.asm_explore.specs.declared.choices.choice_point.ChoicePoint.{ChoicePoint}
use Rattle.asm_explore.specs.ChoicePoints.{Asking}
use Rattle.asm_explore.specs.code.AskedRules.{asks, order_asks, turns_ask}
use Rattle.asm_explore.specs.RunChoices.{asked_said}

abbrev pub all_said : List ChoicePoint → List Asking
all_said asked = map asked_said asked

-- the one that is taken of these candidates
abbrev pub own_choice : Path → (chosen : ℕ) → List Value → List Asking
own_choice p n [] = []
own_choice p n (v ∷ vs) = record { choice = record { path = p; number = n % length (v ∷ vs) }; candidates = v ∷ vs } ∷ []

abbrev pub HasCount : ℕ → Outcome → Type 0
HasCount n (outcome.Set set instances) = set.count ≡ n
HasCount n (outcome.Exhausted p) = Unit {0}

module _ (shape : Shape) (chosen : Path → ℕ) where
  abbrev pub own_asks : RuleCode → List Reading → State → Path → List Asking
  own_asks Skip rs A p = []
  own_asks (Assign to t) rs A p = []
  own_asks (Par Ps) rs A p = []
  own_asks (Seq Ps) rs A p = []
  own_asks (If c P Q) rs A p = []
  own_asks (Let t P) rs A p = []
  own_asks (Forall u c P) rs A p = []
  own_asks (Choose u c P Q) rs A p = own_choice p (chosen p) (passing shape u c rs A)
  own_asks (Iterate P) rs A p = []
  own_asks (Call P to ts) rs A p = []

module _ {P : Type 0} {picks : Ghosts P} (evaluation : Evaluation P picks) where
  abbrev pub asks_at : Frame → Path → RuleCode → State → List Asking
  asks_at f p R A = asks (evaluation_shape evaluation) evaluation.turns (evaluation_choices evaluation) R (readings_of (evaluation_shape evaluation) f) (frame_locations (evaluation_shape evaluation) f) A p

  abbrev pub piece_asks : Piece → List Asking
  piece_asks piece = asks_at piece.frame piece.path (rule_of piece.rule.now) (evaluation_state evaluation)

  abbrev pub own_at : Piece → List Asking
  own_at piece = own_asks (evaluation_shape evaluation) (evaluation_choices evaluation) (rule_of piece.rule.now) (readings_of (evaluation_shape evaluation) piece.frame) (evaluation_state evaluation) piece.path

  -- rules in order, from number k on
  abbrev pub order_asked : Frame → Path → ℕ → RuleCodes → State → List Asking
  order_asked f p k Rs A =
      order_asks (evaluation_shape evaluation) evaluation.turns (evaluation_choices evaluation) Rs (readings_of (evaluation_shape evaluation) f) (frame_locations (evaluation_shape evaluation) f) k A p

  -- turns from number t on, `left` of them
  abbrev pub turns_asked : Frame → Path → (left t : ℕ) → RuleCode → State → List Asking
  turns_asked f p left t R A =
      turns_ask (evaluation_shape evaluation) evaluation.turns (evaluation_choices evaluation) R (readings_of (evaluation_shape evaluation) f) (frame_locations (evaluation_shape evaluation) f) left t A p

  -- what kind of set a part yields, which is joined to the set so far; or there is none if it is
  -- exhausted
  abbrev pub Joins : UpdateSet → (joined : SummaryRanges) → Result → Option PartSet → Type 0
  Joins U joined r (Some part) = (V : UpdateSet) × (r ≡ Gives V) × IsPartSet V part × Stands (evaluation_shape evaluation) joined (merge U V)
  Joins U joined r None = (q : Path) × (r ≡ Exhausted q)

  pub record IsUpon (f : Frame) (p : Path) (R : RuleCode) (U : UpdateSet) (joined : SummaryRanges) (old new : List Asking) (next : Option PartSet) : Type 0 where
    pub asked : new ≡ old ++ asks_at f p R (fire (evaluation_state evaluation) U)
    pub joins : Joins U joined (rule_in evaluation f p R (fire (evaluation_state evaluation) U)).result next
