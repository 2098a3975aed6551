-- Bridge to the code. The assignments whose updates stand in an evaluation of rules.
--     story_in at gs f p R A        the story of R under a frame, at p and in the state A, with an
--                                   evaluation's choices, if `result` stands for a location with
--                                   the arguments gs
--     order_story                   the same of rules one after the other
--     stands_in at l gs f p R A, order_in     what stands of these stories at the location l
--     stands_at                     what stands of a rule in what the evaluation's view shows
--     assigned_at l to d            what stands of an assignment to a target's location, if it has
--                                   one
--     arguments_at, optional_arguments_at     the arguments of a target in what a view shows
--     given_below                   what gs is for the pieces to which a rule is opened
--     bound_in, bound_at            the values of the names that are bound in a frame
--     detail_at                     what an assignment reads there
--     IsNext                        what comes of the next part of a sequence: the set so far is
--                                   joined with its own
use Rattle.std.specs.Prelude.{◌≡◌, ◌++◌, ℕ, List, [], ◌∷◌, map, Option, Some, None}
use Rattle.asm_state.specs.declared.value.Value.{Value}
use Rattle.asm_state.specs.Location.{Location, State}
use Rattle.asm_state.specs.Signature.{Shape}
use Rattle.asm_state.specs.Updates.{UpdateSet, merge}
use Rattle.asm_state.specs.Words.{value_of_code}
use Rattle.asm_updates.specs.code.SummaryRanges.{SummaryRanges}
use Rattle.asm_updates.specs.code.Stands.{Stands}
use Rattle.asm_reader.specs.declared.picks.Picks.{Ghosts}
use Rattle.asm_eval.specs.code.PartSets.{IsPartSet}
use Rattle.asm_meaning.specs.Program.{nothing_bound}
use Rattle.asm_meaning.specs.Story.{Story, order_tells, target_tells}
use Rattle.asm_meaning.specs.Yields.{Path, Result, Gives, Exhausted}
use Rattle.asm_eval.specs.declared.part_set.PartSet.{PartSet}
use Rattle.asm_eval.specs.code.ShownViews.{shown}
use Rattle.asm_eval.specs.declared.view.View.{View}
use Rattle.asm_code.specs.code.BoundValues.{arguments_of, bound_of, optional_arguments}
use Rattle.asm_code.specs.code.CodeTree.{Code}
use Rattle.asm_code.specs.code.Readings.{reading}
use Rattle.asm_code.specs.code.RuleStories.{telling, tellings}
use Rattle.asm_code.specs.code.RuleTree.{Place, RuleCode, Call, RuleCodes}
use Rattle.asm_eval.specs.code.Frames.{code_value, readings_of}
use Rattle.asm_eval.specs.code.Evaluation.{evaluation_choices, frame_locations, evaluation_shape, evaluation_state}
use Rattle.asm_eval.specs.declared.frame.Frame.{Frame}
use Rattle.asm_eval.specs.declared.frame.Frame.TheVariants as frame
use Rattle.asm_eval.specs.declared.evaluation.Evaluation.{Evaluation}
use Rattle.asm_clash.specs.Standing.{Assigned, stands}

module _ {P : Type 0} {picks : Ghosts P} (at : Evaluation P picks) (gs : List Value) where
  abbrev pub story_in : Frame → Path → RuleCode → State → Story
  story_in f p R A = telling (evaluation_shape at) at.turns (evaluation_choices at) R (readings_of (evaluation_shape at) f) (frame_locations (evaluation_shape at) f) gs A p

  abbrev pub order_story : Frame → Path → ℕ → RuleCodes → State → Story
  order_story f p k Rs A = order_tells (tellings (evaluation_shape at) at.turns (evaluation_choices at) Rs (readings_of (evaluation_shape at) f) (frame_locations (evaluation_shape at) f) gs) k A nothing_bound p

module _ {P : Type 0} {picks : Ghosts P} (at : Evaluation P picks) (l : Location) (gs : List Value) where
  abbrev pub stands_in : Frame → Path → RuleCode → State → List Assigned
  stands_in f p R A = stands l (story_in at gs f p R A)

  abbrev pub stands_at : Frame → Path → RuleCode → List Assigned
  stands_at f p R = stands_in f p R (evaluation_state at)

  abbrev pub order_in : Frame → Path → ℕ → RuleCodes → State → List Assigned
  order_in f p k Rs A = stands l (order_story at gs f p k Rs A)

abbrev pub assigned_at : Location → Option Location → Assigned → List Assigned
assigned_at l to d = stands l (target_tells d.path to d.value d.arguments d.bound)

abbrev pub arguments_at : View → Frame → (given : List Value) → Place → List Value
arguments_at view f gs to = arguments_of view.signature.now to (readings_of view.signature.now f) gs (shown view)

abbrev pub optional_arguments_at : View → Frame → (given : List Value) → Option Place → List Value
optional_arguments_at view f gs to = optional_arguments view.signature.now to (readings_of view.signature.now f) gs (shown view)

-- in the body of a rule that is called, those of the target of the call
abbrev pub given_by : RuleCode → (List Value) → (Option Place → List Value) → List Value
given_by (Call P to ts) gs of_target = of_target to
given_by R gs of_target = gs

abbrev pub given_below : View → Frame → (given : List Value) → RuleCode → List Value
given_below view f gs R = given_by R gs (optional_arguments_at view f gs)

-- the values of the names that are bound in a frame: those of a caller aren't seen, except the codes
-- of the arguments, which are valued there
abbrev pub bound_in : View → Frame → List Value
bound_in view frame.Empty = []
bound_in view (frame.One' v p outer) = value_of_code v.value ∷ bound_in view outer
bound_in view (frame.Values' vs p outer) = vs.now ++ bound_in view outer
bound_in view (frame.Terms' answer codes p caller) = map (code_value view caller) codes.now

-- which are those that its positions stand for
abbrev pub bound_at : View → Frame → List Value
bound_at view f = bound_of (readings_of view.signature.now f) (frame_locations view.signature.now f) (shown view)

abbrev pub detail_at : View → Frame → (given : List Value) → Place → Code → Path → Assigned
detail_at view f gs to t p = record {
  path = p;
  value = reading view.signature.now t (readings_of view.signature.now f) (shown view);
  arguments = arguments_at view f gs to;
  bound = bound_at view f;
}

-- of a part with this result, after the set U; none if it is exhausted
abbrev pub IsNext : Shape → UpdateSet → Result → (so_far : SummaryRanges) → Option PartSet → Type 0
IsNext shape U r so_far None = (q : Path) × (r ≡ Exhausted q)
IsNext shape U r so_far (Some part) = (V : UpdateSet) × (r ≡ Gives V) × IsPartSet V part × Stands shape so_far (merge U V)
