-- Bridge to the code. What a piece of a resolved rule is opened to, and that opening loses nothing.
--     is_closed R       a rule that isn't opened
--     IsCutPart, IsCut  a span has at most `cut` positions
--     Opens             the pieces that a piece is opened to have just the works that its work is
--                       opened to
--     AreParts          pieces yield together what an outcome is, and nothing is lost or counted
--                       twice
--     OpeningLaws       what a piece is opened to are its parts, and always the same works
use Rattle.std.specs.Prelude.{◌≡◌, ◌<◌, ◌≤◌, ◌+◌, ℕ, Bool, true, false, List, [], map, All, Option, Some, None}
use Rattle.asm_reader.specs.declared.picks.Picks.{Ghosts}
use Rattle.asm_state.specs.Signature.{Shape}
use Rattle.asm_meaning.specs.Does.{Outcome}
use Rattle.asm_meaning.specs.code.OutcomesBeside.{counting, all_both}
use Rattle.asm_eval.specs.declared.part.Part.{Part}
use Rattle.asm_eval.specs.declared.part.Part.TheVariants as part
use Rattle.asm_code.specs.code.RuleTree.{RuleCode, Skip, Assign, Par, Seq, If, Let, Forall, Choose, Iterate, Call}
use Rattle.asm_code.specs.code.RuleViews.{rule_of}
use Rattle.asm_eval.specs.code.Opening.{Work, work_of, opened}
use Rattle.asm_eval.specs.code.Pieces.{IsPiece, piece_yields}
use Rattle.asm_eval.specs.code.Evaluation.{evaluation_choices, evaluation_shape, evaluation_state}
use Rattle.asm_eval.specs.declared.open.Opened.{Opened}
use Rattle.asm_eval.specs.declared.open.Opened.TheVariants as opening
use Rattle.asm_eval.specs.declared.piece.Piece.{Piece}
use Rattle.asm_eval.specs.declared.evaluation.Evaluation.{Evaluation}

abbrev pub is_closed : RuleCode → Bool
is_closed Skip = true
is_closed (Assign to t) = true
is_closed (Seq Ps) = true
is_closed (Iterate P) = true
is_closed (Par Ps) = false
is_closed (If c P Q) = false
is_closed (Let t P) = false
is_closed (Forall u c P) = false
is_closed (Choose u c P Q) = false
is_closed (Call P to ts) = false

-- a span is always opened
abbrev pub is_closed_part : RuleCode → Part → Bool
is_closed_part R part.Whole = is_closed R
is_closed_part R (part.Span from to) = false

abbrev pub IsCutPart : ℕ → Part → Type 0
IsCutPart cut part.Whole = Unit {0}
IsCutPart cut (part.Span from to) = to ≤ from + cut

abbrev pub IsCut : ℕ → Piece → Type 0
IsCut cut piece = IsCutPart cut piece.part

abbrev pub pieces_in : Opened → List Piece
pieces_in (opening.Pieces pieces n) = pieces.items
pieces_in opening.Closed = []

-- the works of the pieces, with the number of elements counted; none if it is closed
abbrev pub works_in : Shape → Opened → Option (List Work × ℕ)
works_in shape (opening.Pieces pieces n) = Some (map (work_of shape) pieces.items, n)
works_in shape opening.Closed = None

module _ {P : Type 0} {picks : Ghosts P} (evaluation : Evaluation P picks) where
  abbrev pub pieces_yield : List Piece → Outcome
  pieces_yield pieces = all_both (map (piece_yields evaluation) pieces)

  -- something whose works are these is opened so
  pub record OpensTo (its_works : Option (List Work × ℕ)) (o : Opened) : Type 0 where
    pub works : works_in (evaluation_shape evaluation) o ≡ its_works
    pub are_pieces : All (IsPiece (evaluation_shape evaluation)) (pieces_in o)

  module _ (cut : ℕ) where
    pub record AreParts (o : Outcome) (pieces : List Piece) (instances : ℕ) : Type 0 where
      pub loses_nothing : o ≡ counting instances (pieces_yield pieces)
      pub are_pieces : All (IsPiece (evaluation_shape evaluation)) pieces
      pub are_cut : All (IsCut cut) pieces

    abbrev pub Opens : Piece → Opened → Type 0
    Opens piece = OpensTo (opened (evaluation_shape evaluation) (evaluation_state evaluation) (evaluation_choices evaluation) cut (work_of (evaluation_shape evaluation) piece))

    -- what comes of opening something that yields o, which is closed or isn't
    abbrev pub Gives : (closed : Bool) → Outcome → Opened → Type 0
    Gives closed o (opening.Pieces pieces n) = (closed ≡ false) × AreParts o pieces.items n
    Gives closed o opening.Closed = closed ≡ true

pub record OpeningLaws {P : Type 0} {picks : Ghosts P} (evaluation : Evaluation P picks) : Type 0 where
  pub loses_nothing : (cut : ℕ) (piece : Piece) (o : Opened) → 0 < cut → IsPiece (evaluation_shape evaluation) piece → Opens evaluation cut piece o
      → Gives evaluation cut (is_closed_part (rule_of piece.rule.now) piece.part) (piece_yields evaluation piece) o
  -- a piece is opened in one way
  pub one_way : (cut : ℕ) (piece : Piece) (o q : Opened) → Opens evaluation cut piece o → Opens evaluation cut piece q
      → works_in (evaluation_shape evaluation) o ≡ works_in (evaluation_shape evaluation) q
