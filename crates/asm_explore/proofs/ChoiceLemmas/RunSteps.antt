-- Free. What is asked in a run, from step to step.
--     steps_on, steps_end     after a step with which the run goes on; after one in which it ends
--     steps_begin, none_left  before the first step; if no step is left
--     said_choices, run_choices    the choices of what was asked
--     for_more, from_more     the lines of one choice more, and of one step more
--     lines_counted           steps count from 1
use Rattle.std.proofs.Common.{◌++◌, ◌≡◌, ◌∙◌, ◌+◌, ◌-◌, ◌<◌, ◌≤◌, ℕ, suc, List, [], ◌∷◌, length, get_or, map, take, Some, None, Vec, Global, refl, sym, ap, append-nil, append_assoc, arith}
use Rattle.std.proofs.lemmas.List.{length-map, length-take-le, map-append, take_more}
use Rattle.asm_state.specs.Location.{State}
use Rattle.asm_state.specs.Signature.{Shape, state_of}
use Rattle.asm_state.specs.Updates.{fire}
use Rattle.asm_state.specs.declared.value.Value.{Value}
use Rattle.asm_reader.specs.ScriptLines.{Script}
use Rattle.asm_meaning.specs.Run.{Specification}
use Rattle.asm_meaning.specs.Yields.{Result, Gives, Exhausted}
use Rattle.asm_explore.specs.declared.choices.choice_point.ChoicePoint.{ChoicePoint}
use Rattle.asm_explore.specs.declared.outcomes.listed_outcome.Choice.{Choice}
use Rattle.asm_explore.specs.declared.choices.run_choices.RunChoices.{RunChoices}
use Rattle.asm_explore.specs.ChoicePoints.{after_set, choices_of}
use Rattle.asm_explore.specs.code.OutcomeLists.{Situation}
use Rattle.asm_explore.specs.code.StepLeads.{LeadsTo}
use Rattle.asm_explore.specs.code.ReachedStates.{steps_from}
use Rattle.asm_explore.specs.RunChoices.{asked_said, asked_in, choices_made, choices_in, from_step, lines_from, lines_forward}
use Rattle.asm_explore.specs.ChoiceLines.{lines_for}
use Rattle.asm_explore.specs.WrittenScripts.{AreSteps}
use Rattle.asm_explore.proofs.ChoiceLemmas.AskedOrder.{after_good, after_faulty}
use Rattle.asm_explore.proofs.Elements.{each_append}
use Rattle.asm_explore.proofs.ScriptLemmas.ScriptToState.{for_counted}

leads_on : {X : Type 0} (shape : Shape) (A : State) (r : Result) (next : List Value) (rest : State → List X) → LeadsTo shape A r (Some next)
    → after_set r (λ U. rest (fire A U)) ≡ rest (state_of shape next)
leads_on shape A (Exhausted q) next rest h = absurd h
leads_on shape A (Gives U) next rest h = after_good U (λ V. rest (fire A V)) h.0 ∙ ap rest (sym h.1)

leads_nowhere : {X : Type 0} (shape : Shape) (A : State) (r : Result) (rest : State → List X) → LeadsTo shape A r None → after_set r (λ U. rest (fire A U)) ≡ []
leads_nowhere shape A (Exhausted q) rest h = refl
leads_nowhere shape A (Gives U) rest h = after_faulty U (λ V. rest (fire A V)) h

module _ {X : Type 0} (specification : Specification) (turns : ℕ) (its : State → Situation → X) (script : Script) (shape : Shape) where
  abbrev from_now : ℕ → ℕ → State → List X
  from_now left i A = from_step specification turns its script left i A

  abbrev pub situation : ℕ → Situation
  situation i = record { script = script; step = i }

  steps_next : (left i n : ℕ) (A : State) → suc n ≡ left → from_now left i A ≡ its A (situation i) ∷ after_set (steps_from specification turns A (situation i)) (λ U. from_now n (suc i) (fire A U))
  steps_next left i n A is = ap (λ k. from_now k i A) (sym is)

  -- `done` steps are done, of at most `all`
  pub steps_on : (all done : ℕ) (A : State) (next : List Value) (so_far : List X) (one : X) → done < all → one ≡ its A (situation (done + 1))
      → LeadsTo shape A (steps_from specification turns A (situation (done + 1))) (Some next)
      → (so_far ++ one ∷ []) ++ from_now (all - (done + 1)) (done + 1 + 1) (state_of shape next) ≡ so_far ++ from_now (all - done) (done + 1) A
  steps_on all done A next so_far one low is leads =
      let i = done + 1 in
      let n = all - (done + 1) in
      let count : suc n ≡ all - done = omega (arith, low) in
      let after : suc (done + 1) ≡ done + 1 + 1 = omega arith in
      append_assoc so_far (one ∷ []) (from_now n (done + 1 + 1) (state_of shape next))
      ∙ ap (λ k. so_far ++ one ∷ from_now n k (state_of shape next)) (sym after)
      ∙ ap (λ xs. so_far ++ one ∷ xs) (sym (leads_on shape A (steps_from specification turns A (situation i)) next (from_now n (suc i)) leads))
      ∙ ap (λ (x : X). so_far ++ x ∷ after_set (steps_from specification turns A (situation i)) (λ U. from_now n (suc i) (fire A U))) is
      ∙ ap (λ xs. so_far ++ xs) (sym (steps_next (all - done) i n A count))

  pub steps_end : (all done : ℕ) (A : State) (so_far : List X) (one : X) → done < all → one ≡ its A (situation (done + 1))
      → LeadsTo shape A (steps_from specification turns A (situation (done + 1))) None → so_far ++ one ∷ [] ≡ so_far ++ from_now (all - done) (done + 1) A
  steps_end all done A so_far one low is leads =
      let i = done + 1 in
      let n = all - (done + 1) in
      let count : suc n ≡ all - done = omega (arith, low) in
      ap (λ xs. so_far ++ one ∷ xs) (sym (leads_nowhere shape A (steps_from specification turns A (situation i)) (from_now n (suc i)) leads))
      ∙ ap (λ (x : X). so_far ++ x ∷ after_set (steps_from specification turns A (situation i)) (λ U. from_now n (suc i) (fire A U))) is
      ∙ ap (λ xs. so_far ++ xs) (sym (steps_next (all - done) i n A count))

  pub steps_begin : (all : ℕ) (A : State) → A ≡ specification.initial → from_now (all - 0) (0 + 1) A ≡ from_now all 1 specification.initial
  steps_begin all A is =
      let every : all - 0 ≡ all = omega arith in
      (λ j. from_now (every j) 1 (is j))

  pub none_left : (all done : ℕ) (A : State) (so_far : List X) → all ≤ done → so_far ≡ so_far ++ from_now (all - done) (done + 1) A
  none_left all done A so_far past =
      let none : all - done ≡ 0 = omega (arith, past) in
      sym (append-nil so_far) ∙ ap (λ n. so_far ++ from_now n (done + 1) A) (sym none)

-- ---- the choices of what was asked

pub said_choices : (asked : List ChoicePoint) → choices_of (map asked_said asked) ≡ choices_made asked
said_choices [] = refl
said_choices (a ∷ asked) = ap (λ (cs : List Choice). a.choice ∷ cs) (said_choices asked)

all_choices : (steps : List (Vec ChoicePoint Global)) → map choices_of (map (λ (asked : Vec ChoicePoint Global). map asked_said asked.items) steps) ≡ map (λ (asked : Vec ChoicePoint Global). choices_made asked.items) steps
all_choices [] = refl
all_choices (asked ∷ steps) = (λ i. said_choices asked.items i ∷ all_choices steps i)

abbrev pub steps_made : List (Vec ChoicePoint Global) → List (List Choice)
steps_made steps = map (λ (asked : Vec ChoicePoint Global). choices_made asked.items) steps

pub run_choices : (run : RunChoices) → map choices_of (asked_in run) ≡ choices_in run
run_choices run = all_choices run.steps.items

-- ---- lines

for_both : (step : ℕ) (cs ds : List Choice) → lines_for step (cs ++ ds) ≡ lines_for step cs ++ lines_for step ds
for_both step [] ds = refl
for_both step (c ∷ cs) ds = ap (λ ls. record { step = step; path = c.path; choice = c.number } ∷ ls) (for_both step cs ds)

pub for_more : (step : ℕ) (asked : List ChoicePoint) (k : ℕ) (a : ChoicePoint) → k < length asked → a ≡ get_or asked k a
    → lines_for step (choices_made (take k asked)) ++ record { step = step; path = a.choice.path; choice = a.choice.number } ∷ [] ≡ lines_for step (choices_made (take (k + 1) asked))
for_more step asked k a low is =
    sym (ap (λ xs. lines_for step (choices_made xs)) (take_more asked k a low ∙ ap (λ d. take k asked ++ d ∷ []) (sym is))
    ∙ ap (lines_for step) (map-append (λ (d : ChoicePoint). d.choice) (take k asked) (a ∷ []))
    ∙ for_both step (choices_made (take k asked)) (a.choice ∷ []))

-- the lines of steps, and of others after them
from_both : (i : ℕ) (steps more : List (List Choice)) → lines_from i (steps ++ more) ≡ lines_from i steps ++ lines_from (i + length steps) more
from_both i [] more = let same : i ≡ i + 0 = omega arith in ap (λ n. lines_from n more) same
from_both i (cs ∷ steps) more =
    let same : suc i + length steps ≡ i + length (cs ∷ steps) = omega arith in
    ap (λ ls. lines_for i cs ++ ls) (from_both (suc i) steps more ∙ ap (λ n. lines_from (suc i) steps ++ lines_from n more) same)
    ∙ sym (append_assoc (lines_for i cs) (lines_from (suc i) steps) (lines_from (i + length (cs ∷ steps)) more))

pub from_more : (i : ℕ) (steps : List (List Choice)) (cs : List Choice) → lines_from i (steps ++ cs ∷ []) ≡ lines_from i steps ++ lines_for (i + length steps) cs
from_more i steps cs = from_both i steps (cs ∷ []) ∙ ap (λ ls. lines_from i steps ++ ls) (append-nil (lines_for (i + length steps) cs))

-- of one step more
pub step_more : (steps : List (Vec ChoicePoint Global)) (k : ℕ) (asked : Vec ChoicePoint Global) → k < length steps → asked ≡ get_or steps k asked
    → lines_forward (steps_made (take k steps)) ++ lines_for (k + 1) (choices_made asked.items) ≡ lines_forward (steps_made (take (k + 1) steps))
step_more steps k asked low is =
    let first = take k steps in
    let count : 1 + length (steps_made first) ≡ k + 1 = omega (arith, length-map first (λ (cs : Vec ChoicePoint Global). choices_made cs.items), length-take-le k steps (omega (arith, low)), low) in
    sym (ap (λ xs. lines_forward (steps_made xs)) (take_more steps k asked low ∙ ap (λ d. first ++ d ∷ []) (sym is))
    ∙ ap lines_forward (map-append (λ (cs : Vec ChoicePoint Global). choices_made cs.items) first (asked ∷ []))
    ∙ from_more 1 (steps_made first) (choices_made asked.items)
    ∙ ap (λ n. lines_forward (steps_made first) ++ lines_for n (choices_made asked.items)) count)

from_counted : (i : ℕ) (steps : List (List Choice)) → 1 ≤ i → AreSteps (lines_from i steps)
from_counted i [] low = tt
from_counted i (cs ∷ steps) low =
    each_append (λ l. 1 ≤ l.step) (lines_for i cs) (lines_from (suc i) steps) (for_counted i cs low) (from_counted (suc i) steps (omega (arith, low)))

pub lines_counted : (steps : List (List Choice)) → AreSteps (lines_forward steps)
lines_counted steps = from_counted 1 steps (omega arith)
