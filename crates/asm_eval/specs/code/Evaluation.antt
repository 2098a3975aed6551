-- Bridge to the code. What an evaluation of rules stands for.
--     frame_locations shape f   the locations that the positions of a frame stand for
--     rule_at at f p P          what P yields in what an evaluation's view shows, under a frame and
--                               at p
--     rule_upon                 the same in the state in which a set has been fired
--     parts_at, in_order_at     what rules yield, beside and after each other
--     in_order_upon             after each other in the state in which a set has been fired
--     HasLocations at made      the set that is being formed has the locations of the state
use Rattle.std.specs.Prelude.{◌≡◌, ℕ, Bool, List, [], ◌∷◌, ◌++◌, map, Option, None, option_map}
use Rattle.asm_state.specs.declared.value.Value.{Value}
use Rattle.asm_state.specs.Location.{Location, State}
use Rattle.asm_state.specs.Signature.{Shape, count_of, location_at}
use Rattle.asm_state.specs.Updates.{UpdateSet, fire}
use Rattle.asm_reader.specs.ScriptLines.{Script, pick}
use Rattle.asm_reader.specs.declared.picks.Picks.{Ghosts}
use Rattle.asm_meaning.specs.Does.{Outcome, parts, in_order, each}
use Rattle.asm_meaning.specs.code.Intervals.{between}
use Rattle.asm_meaning.specs.Targets.{update}
use Rattle.asm_meaning.specs.Program.{nothing_bound}
use Rattle.asm_eval.specs.code.ShownViews.{shown}
use Rattle.asm_meaning.specs.Yields.{Path, Gives}
use Rattle.asm_meaning.specs.Yields as yields
use Rattle.asm_eval.specs.declared.choices.Choices.{Choices}
use Rattle.asm_eval.specs.declared.outcome.Forming.{Forming}
use Rattle.asm_eval.specs.declared.view.View.{View}
use Rattle.asm_code.specs.code.CodeTree as codes
use Rattle.asm_code.specs.code.CodeViews.{code_of}
use Rattle.asm_code.specs.code.Readings.{always, reading, universe_at}
use Rattle.asm_code.specs.code.RuleMeaning.{Locations, result_locations, meaning, meanings, passes, passing, target_location, optional_target_location}
use Rattle.asm_code.specs.code.RuleTree.{Place, RuleCode, RuleCodes}
use Rattle.asm_code.specs.declared.code.Code.{Code}
use Rattle.asm_eval.specs.code.Frames.{readings_of}
use Rattle.asm_eval.specs.declared.frame.Frame.{Frame}
use Rattle.asm_eval.specs.declared.frame.Frame.TheVariants as frame
use Rattle.asm_eval.specs.declared.evaluation.Evaluation.{Evaluation}

abbrev pub location_numbered : Shape → Option ℕ → Option Location
location_numbered shape n = option_map (location_at shape) n

abbrev pub frame_locations : Shape → Frame → Locations
frame_locations shape frame.Empty = []
frame_locations shape (frame.One' v p outer) = None ∷ frame_locations shape outer
frame_locations shape (frame.Values' vs p outer) = map (λ (v : Value). None) vs.now ++ frame_locations shape outer
frame_locations shape (frame.Terms' answer codes p caller) = result_locations (location_numbered shape answer)

-- the location of a target in what a view shows
abbrev pub target_in : View → Frame → Place → Option Location
target_in view f to = target_location view.signature.now to (readings_of view.signature.now f) (frame_locations view.signature.now f) (shown view)

abbrev pub optional_target_in : View → Frame → Option Place → Option Location
optional_target_in view f to = optional_target_location view.signature.now to (readings_of view.signature.now f) (frame_locations view.signature.now f) (shown view)

abbrev pub passes_in : View → Frame → Option Code → Bool
passes_in view f c = passes view.signature.now (option_map code_of c) (readings_of view.signature.now f) (shown view)

-- what an assignment yields
abbrev pub assigned : View → Frame → Place → codes.Code → Outcome
assigned view f to t = record { result = Gives (update (target_in view f to) (reading view.signature.now t (readings_of view.signature.now f) (shown view))); instances = 0 }

-- whether a value passes, bound at position 0
abbrev pub is_passing : View → Frame → Option Code → Value → Bool
is_passing view f c v = passes view.signature.now (option_map code_of c) (always v ∷ readings_of view.signature.now f) (shown view)

abbrev pub passing_in : View → Frame → (over : ℕ) → Option Code → List Value
passing_in view f u c = passing view.signature.now u (option_map code_of c) (readings_of view.signature.now f) (shown view)

-- what a rule yields in what a view shows, under a frame and at a path, with these choices
abbrev pub rule_shown : {P : Type 0} (script : P → Script) → View → Choices P → (turns : ℕ) → Frame → Path → RuleCode → Outcome
rule_shown script view choices turns f p R =
    let shape = view.signature.now in
    meaning shape turns (pick (script choices.script.now) choices.step) R (readings_of shape f) (frame_locations shape f) (shown view) p

-- the script is the one by which a `P` picks
module _ {P : Type 0} {picks : Ghosts P} (at : Evaluation P picks) where
  abbrev pub evaluation_shape : Shape
  evaluation_shape = at.view.now.signature.now

  abbrev pub evaluation_state : State
  evaluation_state = shown at.view.now

  abbrev pub evaluation_choices : Path → ℕ
  evaluation_choices = pick (picks.script at.choices.now.script.now) at.choices.now.step

  abbrev pub HasLocations : Forming → Type 0
  HasLocations made = made.set.count ≡ count_of evaluation_shape

  abbrev pub rule_in : Frame → Path → RuleCode → State → Outcome
  rule_in f p R A = meaning evaluation_shape at.turns evaluation_choices R (readings_of evaluation_shape f) (frame_locations evaluation_shape f) A p

  abbrev pub rule_at : Frame → Path → RuleCode → Outcome
  rule_at f p R = rule_in f p R evaluation_state

  abbrev pub rule_upon : UpdateSet → Frame → Path → RuleCode → Outcome
  rule_upon U f p R = rule_in f p R (fire evaluation_state U)

  abbrev pub parts_at : Frame → Path → ℕ → RuleCodes → Outcome
  parts_at f p k Rs = parts (meanings evaluation_shape at.turns evaluation_choices Rs (readings_of evaluation_shape f) (frame_locations evaluation_shape f)) k evaluation_state nothing_bound p

  abbrev pub in_order_in : Frame → Path → ℕ → RuleCodes → State → Outcome
  in_order_in f p k Rs A = in_order (meanings evaluation_shape at.turns evaluation_choices Rs (readings_of evaluation_shape f) (frame_locations evaluation_shape f)) k A nothing_bound p

  abbrev pub in_order_at : Frame → Path → RuleCodes → Outcome
  in_order_at f p Rs = in_order_in f p 0 Rs evaluation_state

  abbrev pub in_order_upon : UpdateSet → Frame → Path → RuleCodes → Outcome
  in_order_upon U f p Rs = in_order_in f p 0 Rs (fire evaluation_state U)

  -- the body for each value at the positions from one to before another for which the condition
  -- holds
  abbrev pub elements_at : Frame → Path → Option codes.Code → RuleCode → (k : ℕ) → List Value → Outcome
  elements_at f p c R k vs =
      each (λ v n. meaning evaluation_shape at.turns evaluation_choices R (always v ∷ readings_of evaluation_shape f) (None ∷ frame_locations evaluation_shape f) evaluation_state (yields.at p n))
      (λ v. passes evaluation_shape c (always v ∷ readings_of evaluation_shape f) evaluation_state) k vs

  abbrev pub span_at : Frame → Path → (over : ℕ) → Option codes.Code → RuleCode → (from to : ℕ) → Outcome
  span_at f p u c R from to = elements_at f p c R from (between from to (universe_at evaluation_shape u))
