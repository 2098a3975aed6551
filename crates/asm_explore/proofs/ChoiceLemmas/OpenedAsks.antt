-- Free. What is asked in a piece is what its own `choose` asks, and what is asked in the pieces to
-- which it is opened.
--     piece_falls         each of these is of a smaller rule, and has all of it
--     pieces_ask          what is asked in a piece that is opened
--     formed_counted      the set of an outcome has as many locations as the state
use Rattle.std.proofs.Common.{◌++◌, ◌≡◌, ◌∙◌, ◌<◌, ℕ, false, List, [], ◌∷◌, length, get_or, map, Option, Some, Vec, Global, refl, sym, ap, subst}
use Rattle.std.specs.List.{All, flat_map}
use Rattle.std.proofs.lemmas.List.Elements.{All-get_or}
use Rattle.std.proofs.lemmas.List.Folds.{flat_map-map}
use Rattle.asm_reader.specs.declared.picks.Picks.{Ghosts}
use Rattle.asm_state.specs.Location.{State}
use Rattle.asm_state.specs.Signature.{Shape, count_of}
use Rattle.asm_meaning.specs.Does as does
use Rattle.asm_eval.specs.code.FormedOutcomes.{IsFormed}
use Rattle.asm_meaning.specs.Value.{Reading}
use Rattle.asm_meaning.specs.Yields.{Path}
use Rattle.asm_eval.specs.declared.outcome.Outcome.{Outcome}
use Rattle.asm_eval.specs.declared.outcome.Outcome.TheVariants as outcome
use Rattle.asm_eval.specs.declared.part.Part.TheVariants as part
use Rattle.asm_code.specs.code.RuleMeaning.{Locations, rule_size}
use Rattle.asm_code.specs.code.RuleTree.{RuleCode, Skip, Assign, Par, Seq, If, Let, Forall, Choose, Iterate, Call}
use Rattle.asm_code.specs.code.RuleViews.{rule_of}
use Rattle.asm_eval.specs.code.Frames.{readings_of}
use Rattle.asm_eval.specs.code.OpenedPieces.{Opens, is_closed, pieces_in, works_in}
use Rattle.asm_eval.specs.code.Opening.{Work, work_of, part_opened, rule_works}
use Rattle.asm_eval.specs.code.Pieces.{HasAtMost, IsPiece, all_positions}
use Rattle.asm_eval.specs.code.Evaluation.{evaluation_choices, frame_locations, evaluation_shape, evaluation_state}
use Rattle.asm_eval.specs.declared.open.Opened.{Opened}
use Rattle.asm_eval.specs.declared.open.Opened.TheVariants as opening
use Rattle.asm_eval.specs.declared.piece.Piece.{Piece}
use Rattle.asm_eval.specs.declared.evaluation.Evaluation.{Evaluation}
use Rattle.asm_explore.specs.code.AskedPieces.{HasCount, own_at, piece_asks}
use Rattle.asm_explore.specs.ListElements.{Each}
use Rattle.asm_explore.proofs.ChoiceLemmas.AskedWorks.{IsBelow, all_ask, opened_asks, work_asks, works_fall, works_of}
use Rattle.asm_explore.proofs.Elements.{each_at}

pub formed_counted : (shape : Shape) (o : does.Outcome) (formed : Outcome) → IsFormed shape o formed → HasCount (count_of shape) formed
formed_counted shape o (outcome.Set set instances) h = h.count
formed_counted shape o (outcome.Exhausted p) h = tt

-- a rule that is opened isn't closed
open_rule : (shape : Shape) (A : State) (chosen : Path → ℕ) (cut : ℕ) (R : RuleCode) (rs : List Reading) (ls : Locations) (p : Path) (works : List Work) (n : ℕ)
    → Some (works, n) ≡ rule_works shape A chosen cut R rs ls p → is_closed R ≡ false
open_rule shape A chosen cut Skip rs ls p works n is = cc
open_rule shape A chosen cut (Assign to t) rs ls p works n is = cc
open_rule shape A chosen cut (Seq Ps) rs ls p works n is = cc
open_rule shape A chosen cut (Iterate P) rs ls p works n is = cc
open_rule shape A chosen cut (Par Ps) rs ls p works n is = refl
open_rule shape A chosen cut (If c P Q) rs ls p works n is = refl
open_rule shape A chosen cut (Let t P) rs ls p works n is = refl
open_rule shape A chosen cut (Forall u c P) rs ls p works n is = refl
open_rule shape A chosen cut (Choose u c P Q) rs ls p works n is = refl
open_rule shape A chosen cut (Call P to ts) rs ls p works n is = refl

each_mapped : {X Y : Type 0} (P : Y → Type 0) (f : X → Y) (xs : List X) → Each P (map f xs) → Each (λ x. P (f x)) xs
each_mapped P f [] h = tt
each_mapped P f (x ∷ xs) h = (h.0, each_mapped P f xs h.1)

module _ {P : Type 0} {picks : Ghosts P} (evaluation : Evaluation P picks) (piece : Piece) (cut : ℕ) (whole : piece.part ≡ part.Whole)
    (few : HasAtMost (all_positions (evaluation_shape evaluation) (rule_of piece.rule.now)) cut) (o : Opened) (opens : Opens evaluation cut piece o)
    (pieces : Vec Piece Global) (n : ℕ) (is : o ≡ opening.Pieces pieces n) where
  abbrev shape : Shape
  shape = evaluation_shape evaluation

  abbrev R : RuleCode
  R = rule_of piece.rule.now

  abbrev rs : List Reading
  rs = readings_of shape piece.frame

  abbrev ls : Locations
  ls = frame_locations shape piece.frame

  abbrev its_works : Option (List Work × ℕ)
  its_works = rule_works shape (evaluation_state evaluation) (evaluation_choices evaluation) cut R rs ls piece.path

  works_are : Some (map (work_of shape) pieces.items, n) ≡ its_works
  works_are =
      ap (works_in shape) (sym is) ∙ opens.works ∙ ap (λ its. part_opened shape (evaluation_state evaluation) (evaluation_choices evaluation) cut R rs ls piece.path its) whole

  pub piece_falls : (i : ℕ) (q : Piece) → i < length pieces.items → q ≡ get_or pieces.items i q
      → (rule_size (rule_of q.rule.now) < rule_size R) × (q.part ≡ part.Whole) × IsPiece shape q
  piece_falls i q low there =
      let falls = subst (Each (IsBelow (rule_size R))) (sym (ap works_of works_are)) (works_fall shape (evaluation_state evaluation) (evaluation_choices evaluation) cut R rs ls piece.path few) in
      let one = each_at (λ (q : Piece). IsBelow (rule_size R) (work_of shape q)) pieces.items i q low there (each_mapped (IsBelow (rule_size R)) (work_of shape) pieces.items falls) in
      let all = subst (λ it. All (IsPiece shape) (pieces_in it)) is opens.are_pieces in
      (one.smaller, one.whole, subst (IsPiece shape) (sym there) (All-get_or (IsPiece shape) pieces.items i q low all))

  pub pieces_ask : piece_asks evaluation piece ≡ own_at evaluation piece ++ flat_map (piece_asks evaluation) pieces.items
  pieces_ask =
      opened_asks shape evaluation.turns (evaluation_choices evaluation) (evaluation_state evaluation) rs ls piece.path cut R
      (open_rule shape (evaluation_state evaluation) (evaluation_choices evaluation) cut R rs ls piece.path (map (work_of shape) pieces.items) n works_are) few
      ∙ ap (λ ws. own_at evaluation piece ++ all_ask shape evaluation.turns (evaluation_choices evaluation) (evaluation_state evaluation) ws) (sym (ap works_of works_are))
      ∙ ap (λ xs. own_at evaluation piece ++ xs) (flat_map-map (work_asks shape evaluation.turns (evaluation_choices evaluation) (evaluation_state evaluation)) (work_of shape) pieces.items)
