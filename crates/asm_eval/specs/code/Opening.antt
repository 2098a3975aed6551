-- Bridge to the code. What a piece of a resolved rule is opened to.
--     Work                the work of a piece: a rule, what its positions stand for, its path, and
--                         which part of it
--     work_of shape piece, part_of, all_of
--     part_works          the parts of a `par`, each at the path of its number
--     spans               the positions from one to before another in spans of `cut` of them,
--                         except the last one
--     body_works          the body for each value that passes, at the path of the value's position
--     opened              the works that a work is opened to, and the elements that are counted in
--                         it; none if it is closed
use Rattle.std.specs.Prelude.{ℕ, zero, suc, ◌+◌, ◌-◌, ◌++◌, min, nat_le, cond, List, [], ◌∷◌, length, map, Option, Some, None}
use Rattle.asm_state.specs.Location.{State}
use Rattle.asm_state.specs.Signature.{Shape}
use Rattle.asm_state.specs.declared.value.Value.{Value}
use Rattle.asm_meaning.specs.code.Intervals.{between}
use Rattle.asm_meaning.specs.Taken.{taken}
use Rattle.asm_meaning.specs.Value.{Reading, is_true}
use Rattle.asm_meaning.specs.Yields.{Path, at}
use Rattle.asm_eval.specs.declared.part.Part.{Part}
use Rattle.asm_eval.specs.declared.part.Part.TheVariants as part
use Rattle.asm_code.specs.code.CodeTree.{Code}
use Rattle.asm_code.specs.code.Readings.{always, reading, universe_at}
use Rattle.asm_code.specs.code.RuleMeaning.{Locations, result_locations, result_readings, optional_target_location, named_readings, passes, passing}
use Rattle.asm_code.specs.code.RuleTree.{RuleCode, Skip, Assign, Par, Seq, If, Let, Forall, Choose, Iterate, Call, RuleCodes, no_rules, rule_then}
use Rattle.asm_code.specs.code.RuleViews.{rule_of}
use Rattle.asm_eval.specs.code.Frames.{readings_of}
use Rattle.asm_eval.specs.code.Evaluation.{frame_locations}
use Rattle.asm_eval.specs.declared.piece.Piece.{Piece}

pub record Work : Type 0 where
  pub rule : RuleCode
  pub readings : List Reading
  pub locations : Locations
  pub path : Path
  pub part : Part

abbrev pub work_of : Shape → Piece → Work
work_of shape piece = record { rule = rule_of piece.rule.now; readings = readings_of shape piece.frame; locations = frame_locations shape piece.frame; path = piece.path; part = piece.part }

abbrev pub part_of : RuleCode → List Reading → Locations → Path → Part → Work
part_of P rs ls p its = record { rule = P; readings = rs; locations = ls; path = p; part = its }

abbrev pub all_of : RuleCode → List Reading → Locations → Path → Work
all_of P rs ls p = part_of P rs ls p part.Whole

-- the rule number k beneath another
abbrev pub one_work : RuleCode → List Reading → Locations → Path → (k : ℕ) → Option (List Work × ℕ)
one_work P rs ls p k = Some (all_of P rs ls (at p k) ∷ [], 0)

-- for the candidate that is taken, or else the other rule
abbrev pub choice_works : Option Value → RuleCode → RuleCode → List Reading → Locations → Path → Option (List Work × ℕ)
choice_works (Some v) P Q rs ls p = one_work P (always v ∷ rs) (None ∷ ls) p 0
choice_works None P Q rs ls p = one_work Q rs ls p 1

abbrev pub part_works : (k : ℕ) → RuleCodes → List Reading → Locations → Path → List Work
part_works k no_rules rs ls p = []
part_works k (rule_then P Ps) rs ls p = all_of P rs ls (at p k) ∷ part_works (k + 1) Ps rs ls p

-- at most `most` spans, each from the end of the one before
abbrev pub spans : (cut most from to : ℕ) → List Part
spans cut zero from to = []
spans cut (suc most) from to = cond (nat_le to from) [] (part.Span from (min (from + cut) to) ∷ spans cut most (min (from + cut) to) to)

-- each work is that of an element, and is counted
abbrev pub counted_works : List Work → Option (List Work × ℕ)
counted_works works = Some (works, length works)

module _ (shape : Shape) (A : State) where
  abbrev pub body_works : Option Code → RuleCode → List Reading → Locations → Path → (k : ℕ) → List Value → List Work
  body_works c P rs ls p k [] = []
  body_works c P rs ls p k (v ∷ vs) =
      cond (passes shape c (always v ∷ rs) A)
      (all_of P (always v ∷ rs) (None ∷ ls) (at p k) ∷ body_works c P rs ls p (k + 1) vs)
      (body_works c P rs ls p (k + 1) vs)

  -- the elements at an interval of positions: spans if there are more than the cut, and else bodies
  abbrev pub span_works : (cut : ℕ) → (over : ℕ) → Option Code → RuleCode → List Reading → Locations → Path → (from to : ℕ) → Option (List Work × ℕ)
  span_works cut u c P rs ls p from to =
      cond (nat_le (to - from) cut)
      (counted_works (body_works c P rs ls p from (between from to (universe_at shape u))))
      (Some (map (part_of (Forall u c P) rs ls p) (spans cut (to - from) from to), 0))

  module _ (chosen : Path → ℕ) (cut : ℕ) where
    abbrev pub rule_works : RuleCode → List Reading → Locations → Path → Option (List Work × ℕ)
    rule_works Skip rs ls p = None
    rule_works (Assign to t) rs ls p = None
    rule_works (Seq Ps) rs ls p = None
    rule_works (Iterate P) rs ls p = None
    rule_works (Par Ps) rs ls p = Some (part_works 0 Ps rs ls p, 0)
    rule_works (If c P Q) rs ls p = cond (is_true (reading shape c rs A)) (one_work P rs ls p 0) (one_work Q rs ls p 1)
    rule_works (Let t P) rs ls p = one_work P (always (reading shape t rs A) ∷ rs) (None ∷ ls) p 0
    rule_works (Forall u c P) rs ls p = span_works cut u c P rs ls p 0 (length (universe_at shape u))
    rule_works (Choose u c P Q) rs ls p = choice_works (taken (chosen p) (passing shape u c rs A)) P Q rs ls p
    rule_works (Call P to ts) rs ls p =
        one_work P (result_readings (optional_target_location shape to rs ls A) ++ named_readings shape ts rs) (result_locations (optional_target_location shape to rs ls A)) p 0

    abbrev pub part_opened : RuleCode → List Reading → Locations → Path → Part → Option (List Work × ℕ)
    part_opened R rs ls p part.Whole = rule_works R rs ls p
    part_opened (Forall u c P) rs ls p (part.Span from to) = span_works cut u c P rs ls p from to
    part_opened R rs ls p (part.Span from to) = None

    abbrev pub opened : Work → Option (List Work × ℕ)
    opened work = part_opened work.rule work.readings work.locations work.path work.part
