-- Bridge to the code. Rounds over the pieces of a region. Each task of a round opens its piece,
-- works it whole and puts its set into the table of the region, or finds it exhausted. What is
-- opened is worked in later rounds.
--     set_of r                     the set of a result that gives one
--     new_pieces outs              the new pieces that tasks returned, in the order of the tasks
--     count_instances n outs       n and the instances that tasks counted, cut off if they don't
--                                  fit
--     least_path, least_of_all     the least exhausted path of those that are known and those that
--                                  tasks found
--     StandsForOutcome o U n at    the set U, n instances and the least exhausted path stand for
--                                  the outcome o
--     Holds shape o hands n at     the same of the set that many hands have put
--     OutTells o out               what an out says of the outcome of its task's piece
--     Puts n o out more            the entries that the task n puts: those of its piece's set if it
--                                  is worked whole, and else none
--     added o out                  the set of these entries
--     IsLeft cut out               new pieces are pieces and are cut, and come of a cut alone
--     is_opened                    whether a task opens its piece
--     IsTaskRun, RunsPiece         what the run of a task returns, and what it puts
--     LeavesWhole                  the same of a task that works its piece whole
--     IsTask                       the tasks of a round are numbered as its pieces are
--     IsRound                      what was held, with what the pieces do, is what is held after
--                                  the round, with what the new pieces do
use Rattle.std.specs.Prelude.{◌≡◌, ℕ, ◌+◌, ◌<◌, nat_le, Bool, true, false, ◌&&◌, not, List, [], ◌∷◌, ◌++◌, Option, Some, None, IfSome, IfOk, IfErr, MatchOption, All, min, length, map, slice_get, Result, Ok, Err}
use Rattle.std.specs.declared.alloc.AllocError.{AllocError}
use Rattle.asm_state.specs.Signature.{Shape}
use Rattle.asm_state.specs.Updates.{UpdateSet, none}
use Rattle.asm_striped.specs.declared.board.Put.{Put}
use Rattle.asm_striped.specs.code.Seats.{SeatState}
use Rattle.asm_reader.specs.declared.picks.Picks.{Ghosts}
use Rattle.asm_meaning.specs.Does.{Outcome, both}
use Rattle.asm_eval.specs.code.FormedOutcomes.{greatest_count}
use Rattle.asm_meaning.specs.code.OutcomesBeside.{counting}
use Rattle.asm_meaning.specs.Yields.{Path, Gives, Exhausted, first_path}
use Rattle.asm_meaning.specs.Yields as yields
use Rattle.asm_code.specs.code.RuleViews.{rule_of}
use Rattle.asm_eval.specs.code.OpenedPieces.{IsCut, is_closed_part, pieces_yield}
use Rattle.asm_eval.specs.code.Pieces.{IsPiece, piece_yields, positions_in}
use Rattle.asm_eval.specs.declared.piece.Piece.{Piece}
use Rattle.asm_eval.specs.declared.evaluation.Evaluation.{Evaluation}
use Rattle.asm_run.specs.declared.hand.RegionHand.{RegionHand}
use Rattle.asm_run.specs.declared.job.RegionOut.{RegionOut}
use Rattle.asm_run.specs.declared.job.RegionOut.TheVariants as region
use Rattle.asm_run.specs.code.Hands.{AreEntriesOf, LogGrows, LogsStand}

-- ---- what the outs of a round say together

abbrev pub set_of : yields.Result → UpdateSet
set_of (Gives U) = U
set_of (Exhausted p) = none

abbrev pub new_pieces : List RegionOut → List Piece
new_pieces [] = []
new_pieces (region.Pieces pieces n ∷ outs) = pieces.items ++ new_pieces outs
new_pieces (region.Done n ∷ outs) = new_pieces outs
new_pieces (region.Exhausted p ∷ outs) = new_pieces outs

abbrev pub count_instances : ℕ → List RegionOut → ℕ
count_instances n [] = n
count_instances n (region.Pieces pieces k ∷ outs) = count_instances (min (n + k) greatest_count) outs
count_instances n (region.Done k ∷ outs) = count_instances (min (n + k) greatest_count) outs
count_instances n (region.Exhausted p ∷ outs) = count_instances n outs

abbrev pub least_path : Option Path → Path → Path
least_path None q = q
least_path (Some p) q = first_path p q

abbrev pub least_of_all : Option Path → List RegionOut → Option Path
least_of_all at [] = at
least_of_all at (region.Pieces pieces n ∷ outs) = least_of_all at outs
least_of_all at (region.Done n ∷ outs) = least_of_all at outs
least_of_all at (region.Exhausted q ∷ outs) = least_of_all (Some (least_path at q)) outs

-- if memory was refused there is no out
abbrev pub TaskResult : Type 0
TaskResult = Result RegionOut AllocError

abbrev pub out_of : TaskResult → RegionOut
out_of (Ok r) = r
out_of (Err e) = region.Done 0

abbrev pub outs_of : List TaskResult → List RegionOut
outs_of outs = map out_of outs

-- ---- what is held between rounds

-- of an exhausted outcome nothing is said but its path
abbrev pub StandsForOutcome : Outcome → UpdateSet → ℕ → Option Path → Type 0
StandsForOutcome o U n None = (o.result ≡ Gives U) × (n ≡ min o.instances greatest_count)
StandsForOutcome o U n (Some p) = o.result ≡ Exhausted p

pub record Holds (shape : Shape) (o : Outcome) (hands : List RegionHand) (instances : ℕ) (at : Option Path) : Type 0 where
  pub set : UpdateSet
  pub stand : LogsStand shape hands set
  pub reads : StandsForOutcome o set instances at

-- ---- the run of a task

abbrev pub IsLeft : Shape → Option ℕ → RegionOut → Type 0
IsLeft shape cut (region.Pieces pieces n) = MatchOption cut ⊥ (λ k. All (IsPiece shape) pieces.items × All (IsCut k) pieces.items)
IsLeft shape cut (region.Done n) = Unit {0}
IsLeft shape cut (region.Exhausted p) = Unit {0}

-- no more positions than this
abbrev pub is_within : ℕ → Option ℕ → Bool
is_within k None = false
is_within k (Some n) = nat_le n k

abbrev pub is_short : Shape → ℕ → Piece → Bool
is_short shape k piece = is_within k (positions_in shape piece)

-- with a cut, each piece that can be opened; if there are enough pieces, a `forall` that is short
-- is left whole
abbrev pub is_opened : Shape → Option ℕ → (are_enough : Bool) → Piece → Bool
is_opened shape None are_enough piece = false
is_opened shape (Some k) are_enough piece = not (are_enough && is_short shape k piece) && not (is_closed_part (rule_of piece.rule.now) piece.part)

abbrev pub shows_pieces : RegionOut → Bool
shows_pieces (region.Pieces pieces n) = true
shows_pieces (region.Done n) = false
shows_pieces (region.Exhausted p) = false

module _ {P : Type 0} {picks : Ghosts P} (evaluation : Evaluation P picks) where
  abbrev pub OutTells : Outcome → RegionOut → Type 0
  OutTells o (region.Pieces pieces n) = o ≡ counting n (pieces_yield evaluation pieces.items)
  OutTells o (region.Done n) = (o.result ≡ Gives (set_of o.result)) × (n ≡ min o.instances greatest_count)
  OutTells o (region.Exhausted p) = o.result ≡ Exhausted p

  abbrev pub added : Outcome → RegionOut → UpdateSet
  added o (region.Pieces pieces n) = none
  added o (region.Done n) = set_of o.result
  added o (region.Exhausted p) = none

  module _ (shape : Shape) where
    abbrev pub Puts : ℕ → Outcome → RegionOut → List Put → Type 0
    Puts n o (region.Pieces pieces k) more = more ≡ []
    Puts n o (region.Done k) more = AreEntriesOf shape n (set_of o.result) more
    Puts n o (region.Exhausted p) more = more ≡ []

    module _ (cut : Option ℕ) where
      pub record IsTaskRun (n : ℕ) (o : Outcome) (before : SeatState) (out : RegionOut) (after : SeatState) : Type 0 where
        pub tells : OutTells o out
        pub left : IsLeft shape cut out
        pub more : List Put
        pub puts : Puts n o out more
        pub grows : LogGrows before more after

      -- if memory was refused, nothing was put
      abbrev pub Leaves : (are_enough : Bool) → Piece → ℕ → RegionHand → TaskResult → RegionHand → Type 0
      Leaves are_enough piece n before (Ok out) after = IsTaskRun n (piece_yields evaluation piece) before.seat out after.seat × (shows_pieces out ≡ is_opened shape cut are_enough piece)
      Leaves are_enough piece n before (Err e) after = LogGrows before.seat [] after.seat

      abbrev pub RunsPiece : (are_enough : Bool) → List Piece → ℕ → RegionHand → TaskResult → RegionHand → Type 0
      RunsPiece are_enough pieces n before out after = (piece : Piece) → slice_get pieces n ≡ Some piece → Leaves are_enough piece n before out after

    -- what a task leaves that works its piece whole
    pub record LeavesWhole (n : ℕ) (o : Outcome) (before after : SeatState) (result : TaskResult) : Type 0 where
      pub worked : IfOk result (λ out. IsTaskRun None n o before out after)
      pub refused : IfErr result (λ _. LogGrows before [] after)

-- a cut is from 1
pub record IsTask (shape : Shape) (cut : Option ℕ) (pieces : List Piece) (n : ℕ) : Type 0 where
  pub in_range : n < length pieces
  pub are_pieces : All (IsPiece shape) pieces
  pub is_cut : IfSome cut (λ k. 0 < k)

-- ---- a round

pub record IsRound {P : Type 0} {picks : Ghosts P} (evaluation : Evaluation P picks) (shape : Shape) (o : Outcome) (pieces next : List Piece) (hands : List RegionHand) (instances : ℕ) (at : Option Path) : Type 0 where
  pub done : Outcome
  pub loses_nothing : both o (pieces_yield evaluation pieces) ≡ both done (pieces_yield evaluation next)
  pub holds : Holds shape done hands instances at
