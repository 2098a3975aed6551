-- Definition. The trace of a run, as bytes.
--     TraceNames                      what functions and elements are called
--     value_text, location_text       how values and locations are written
--     steps_text                      the fired steps, each with a line for each location that its
--                                     set names
--     IsEndText, state_text           the line at the end; the last state, without what is undef
--     IsTrace names ls i run bytes    these bytes are the trace of the run from step i on, with the
--                                     locations ls in their order
use Rattle.std.specs.Prelude.{◌≡◌, ℕ, suc, min, true, false, List, [], ◌∷◌, ◌++◌, Option, Some, None, slice_index_or, codes, decimal}
use Rattle.std.specs.List.{flat_map}
use Rattle.std.specs.Fmt.{signed_decimal}
use Rattle.asm_state.specs.declared.value.Value.{Value}
use Rattle.asm_state.specs.declared.value.Value.TheVariants.{Undef, Truth, Number, Element}
use Rattle.asm_state.specs.Location.{Location, Proper, Stray, State}
use Rattle.asm_state.specs.Updates.{UpdateSet, Range, range_at, Fault, Clash, Outside, IsFirstFault}
use Rattle.asm_meaning.specs.Does.{greatest_count}
use Rattle.asm_meaning.specs.Yields.{Path}
use Rattle.asm_meaning.specs.Run.{End, AtLimit, AtExhausted, AtFault, FiredStep, Run}

pub record TraceNames : Type 0 where
  pub functions : List (List ℕ)
  pub elements : List (List ℕ)

abbrev pub line_end : List ℕ
line_end = 10 ∷ []

-- ---- values, locations, paths

abbrev pub function_text : TraceNames → ℕ → List ℕ
function_text names f = slice_index_or names.functions f []

-- with the names of the elements
abbrev pub value_text : List (List ℕ) → Value → List ℕ
value_text elements Undef = codes "undef"
value_text elements (Truth false) = codes "false"
value_text elements (Truth true) = codes "true"
value_text elements (Number n) = signed_decimal n.value
value_text elements (Element e) = slice_index_or elements e.index []

-- values joined by a comma and a space
abbrev pub values_text : List (List ℕ) → Value → List Value → List ℕ
values_text elements v [] = value_text elements v
values_text elements v (w ∷ vs) = value_text elements v ++ (codes ", " ++ values_text elements w vs)

-- a function without arguments is written as its name
abbrev pub location_text : TraceNames → Location → List ℕ
location_text names (Proper f []) = function_text names f
location_text names (Proper f (v ∷ vs)) = function_text names f ++ (codes "(" ++ (values_text names.elements v vs ++ codes ")"))
location_text names (Stray f) = function_text names f

-- numbers joined by dots
abbrev pub numbers_text : ℕ → List ℕ → List ℕ
numbers_text k [] = decimal k
numbers_text k (j ∷ ks) = decimal k ++ (codes "." ++ numbers_text j ks)

abbrev pub path_text : Path → List ℕ
path_text [] = codes "-"
path_text (k ∷ ks) = numbers_text k ks

-- ---- steps

abbrev pub update_text : TraceNames → Location → Option Range → List ℕ
update_text names l None = []
update_text names l (Some r) = location_text names l ++ (codes " := " ++ (value_text names.elements r.least ++ line_end))

-- a line for each of these locations that the set names
abbrev pub set_text : TraceNames → List Location → UpdateSet → List ℕ
set_text names ls U = flat_map (λ l. update_text names l (range_at U l)) ls

-- the number of instances is cut off if it doesn't fit 64 bits
abbrev pub step_text : TraceNames → List Location → ℕ → FiredStep → List ℕ
step_text names ls i step =
    codes "step " ++ (decimal i ++ (codes " instances " ++ (decimal (min step.instances greatest_count) ++ (line_end ++ set_text names ls step.set))))

-- the fired steps, from number i on
abbrev pub steps_text : TraceNames → List Location → ℕ → List FiredStep → List ℕ
steps_text names ls i [] = []
steps_text names ls i (step ∷ steps) = step_text names ls i step ++ steps_text names ls (suc i) steps

-- ---- the end

-- a location, with the least and the greatest of its values
abbrev pub clash_text : TraceNames → Location → Range → List ℕ
clash_text names l r =
    location_text names l
    ++ (codes " least " ++ (value_text names.elements r.least ++ (codes " greatest " ++ value_text names.elements r.greatest)))

-- a fault in words, with these between its kind and what it is
abbrev pub fault_words : TraceNames → (between : List ℕ) → Fault → List ℕ
fault_words names between (Clash l r) = codes "clash" ++ (between ++ clash_text names l r)
fault_words names between (Outside f) = codes "outside" ++ (between ++ function_text names f)

-- the same of an exhausted rule at this path
abbrev pub exhausted_words : (between : List ℕ) → Path → List ℕ
exhausted_words between p = codes "exhausted" ++ (between ++ (codes "place " ++ path_text p))

-- what a trace has there, for the step in which it ends
abbrev pub at_step : ℕ → List ℕ
at_step i = codes " step " ++ (decimal i ++ codes " ")

abbrev pub end_line : (words : List ℕ) → List ℕ
end_line words = codes "end " ++ (words ++ line_end)

abbrev pub IsEndText : TraceNames → End → List ℕ → Type 0
IsEndText names AtLimit text = text ≡ end_line (codes "limit")
IsEndText names (AtExhausted i p) text = text ≡ end_line (exhausted_words (at_step i) p)
IsEndText names (AtFault i U) text = (fault : Fault) × IsFirstFault U fault × (text ≡ end_line (fault_words names (at_step i) fault))

abbrev pub content_text : TraceNames → Location → Value → List ℕ
content_text names l Undef = []
content_text names l v = location_text names l ++ (codes " = " ++ (value_text names.elements v ++ line_end))

abbrev pub state_text : TraceNames → List Location → State → List ℕ
state_text names ls A = codes "state" ++ (line_end ++ flat_map (λ l. content_text names l (A l)) ls)

-- ---- the whole

pub record IsTrace (names : TraceNames) (ls : List Location) (i : ℕ) (run : Run) (bytes : List ℕ) : Type 0 where
  pub end_text : List ℕ
  pub is_end : IsEndText names run.end end_text
  pub whole : bytes ≡ steps_text names ls i run.steps ++ (end_text ++ state_text names ls run.last)
