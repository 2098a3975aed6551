-- Bridge to the code. The pieces of resolved rules, and what they yield.
--     IsInterval shape u from to      positions that rise, and lie in the universe numbered u
--     IsPiece shape piece             its code is sound, and a span's rule is a `forall`
--     positions_in shape piece        at how many positions a piece's `forall` is evaluated
--     HasAtMost o n                   a number is at most n, if there is one
--     piece_yields at piece           all of its rule, or the elements at its positions
use Rattle.std.specs.Prelude.{ℕ, ◌-◌, ◌≤◌, Option, Some, None, length}
use Rattle.asm_reader.specs.declared.picks.Picks.{Ghosts}
use Rattle.asm_state.specs.Signature.{Shape}
use Rattle.asm_meaning.specs.Does.{Outcome, nothing}
use Rattle.asm_meaning.specs.Yields.{Path}
use Rattle.asm_eval.specs.declared.part.Part.{Part}
use Rattle.asm_eval.specs.declared.part.Part.TheVariants as part
use Rattle.asm_code.specs.code.Readings.{universe_at}
use Rattle.asm_code.specs.code.RuleMeaning.{IsSoundRule}
use Rattle.asm_code.specs.code.RuleTree.{RuleCode, Forall}
use Rattle.asm_code.specs.code.RuleViews.{rule_of}
use Rattle.asm_eval.specs.code.Frames.{IsSoundFrame}
use Rattle.asm_eval.specs.code.Evaluation.{rule_at, span_at}
use Rattle.asm_eval.specs.declared.frame.Frame.{Frame}
use Rattle.asm_eval.specs.declared.piece.Piece.{Piece}
use Rattle.asm_eval.specs.declared.evaluation.Evaluation.{Evaluation}

pub record IsInterval (shape : Shape) (u from to : ℕ) : Type 0 where
  pub rises : from ≤ to
  pub within : to ≤ length (universe_at shape u)

abbrev pub IsPartOf : Shape → RuleCode → Part → Type 0
IsPartOf shape R part.Whole = Unit {0}
IsPartOf shape (Forall u c P) (part.Span from to) = IsInterval shape u from to
IsPartOf shape R (part.Span from to) = ⊥

abbrev pub IsPiece : Shape → Piece → Type 0
IsPiece shape piece = IsSoundRule shape (rule_of piece.rule.now) × IsSoundFrame shape piece.frame × IsPartOf shape (rule_of piece.rule.now) piece.part

abbrev pub all_positions : Shape → RuleCode → Option ℕ
all_positions shape (Forall u c P) = Some (length (universe_at shape u))
all_positions shape R = None

abbrev pub positions : Shape → RuleCode → Part → Option ℕ
positions shape R part.Whole = all_positions shape R
positions shape R (part.Span from to) = Some (to - from)

abbrev pub HasAtMost : Option ℕ → ℕ → Type 0
HasAtMost None n = Unit {0}
HasAtMost (Some k) n = k ≤ n

abbrev pub positions_in : Shape → Piece → Option ℕ
positions_in shape piece = positions shape (rule_of piece.rule.now) piece.part

module _ {P : Type 0} {picks : Ghosts P} (evaluation : Evaluation P picks) where
  abbrev pub part_yields : Frame → Path → RuleCode → Part → Outcome
  part_yields f p R part.Whole = rule_at evaluation f p R
  part_yields f p (Forall u c P) (part.Span from to) = span_at evaluation f p u c P from to
  part_yields f p R (part.Span from to) = nothing

  abbrev pub piece_yields : Piece → Outcome
  piece_yields piece = part_yields piece.frame piece.path (rule_of piece.rule.now) piece.part
