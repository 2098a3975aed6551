-- Definition. The rows of a run as lines of JSON, for programs.
--     value_json s v           a value as traces have it, in quotes, or null if it is undef
--     unhidden elements        those that no later one of the same name hides
--     choice_json s asking     a choice: its variable, the value that is taken, and the elements of
--                              the foralls around it, the outermost first
--     state_json s shown A     the values of the shown locations in a state
--     row_json                 the row of a step: its number, what is chosen in it, and the state
--                              after it, unless the run ends in it
--     rows_json                the rows from a number on
--     end_json more words      how the run ends, and, if there are any, how many more locations
--                              change, and the lines of its script that name no choice of it
--     json_text                the row of the first state, those of the steps, and the end
use Rattle.std.specs.Prelude.{ℕ, zero, suc, ◌-◌, cond, List, [], ◌∷◌, ◌++◌, map, length, Option, Some, None, codes, decimal}
use Rattle.std.specs.List.{list_any}
use Rattle.std.specs.Str.{bytes_eq}
use Rattle.asm_state.specs.Location.{State}
use Rattle.asm_state.specs.declared.value.Value.{Value}
use Rattle.asm_state.specs.declared.value.Value.TheVariants.{Undef}
use Rattle.asm_syntax.specs.SourceTree.{Spec}
use Rattle.asm_run.specs.Trace.{location_text, value_text}
use Rattle.asm_run.specs.Written.{names_in}
use Rattle.asm_explore.specs.ChoicePoints.{Asking}
use Rattle.asm_explore_texts.specs.Places.{Place, place_at, variable_in}
use Rattle.asm_explore_table.specs.ChosenTexts.{elements_in, name_text, taken}
use Rattle.asm_explore_table.specs.JsonTexts.{line_text, list_by, object_text, string_text}
use Rattle.asm_explore_table.specs.Rows.{Row}
use Rattle.asm_explore_table.specs.RunWords.{RunWords}
use Rattle.asm_explore_table.specs.Tables.{columns, numbered, shown_columns}

-- the names of an object differ
abbrev pub unhidden : List (List ℕ × Value) → List (List ℕ × Value)
unhidden [] = []
unhidden ((x, v) ∷ more) = cond (list_any (λ later. bytes_eq later.0 x) more) (unhidden more) ((x, v) ∷ unhidden more)

module _ (s : Spec) where
  abbrev pub value_json : Value → List ℕ
  value_json Undef = codes "null"
  value_json v = string_text (value_text (names_in s).elements v)

  -- ---- what is chosen

  abbrev pub element_member : (List ℕ × Value) → List ℕ × List ℕ
  element_member (x, v) = (x, value_json v)

  abbrev pub elements_json : List (List ℕ × Value) → List ℕ
  elements_json elements = object_text (map element_member (unhidden elements))

  abbrev pub choice_at : Option Place → Value → List ℕ
  choice_at place v =
      object_text ((codes "name", string_text (name_text (variable_in place)))
      ∷ (codes "value", value_json v)
      ∷ (codes "elements", elements_json (elements_in place))
      ∷ [])

  abbrev pub choice_json : Asking → List ℕ
  choice_json asking = choice_at (place_at s asking.choice.path) (taken asking)

  -- ---- rows

  abbrev pub location_member : State → (n : ℕ) → List ℕ × List ℕ
  location_member A n = (location_text (names_in s) (numbered s n), value_json (A (numbered s n)))

  module _ (shown : List ℕ) where
    abbrev pub state_json : State → List ℕ
    state_json A = object_text (map (location_member A) shown)

    abbrev pub state_member : Option State → List (List ℕ × List ℕ)
    state_member None = []
    state_member (Some A) = (codes "state", state_json A) ∷ []

    abbrev pub row_json : (number : ℕ) → List Asking → (after : Option State) → List ℕ
    row_json number asked after =
        line_text ((codes "step", decimal number) ∷ (codes "chosen", list_by choice_json asked) ∷ state_member after)

    abbrev pub rows_json : (number : ℕ) → List Row → List ℕ
    rows_json number [] = []
    rows_json number (row ∷ rows) = row_json number row.asked row.after ++ rows_json (suc number) rows

-- ---- the end

abbrev pub more_member : ℕ → List (List ℕ × List ℕ)
more_member zero = []
more_member (suc n) = (codes "more", decimal (suc n)) ∷ []

abbrev pub unmet_member : List (List ℕ) → List (List ℕ × List ℕ)
unmet_member [] = []
unmet_member (line ∷ lines) = (codes "unmet", list_by string_text (line ∷ lines)) ∷ []

abbrev pub end_json : (more : ℕ) → RunWords → List ℕ
end_json more words = line_text ((codes "end", string_text words.end) ∷ (more_member more ++ unmet_member words.unmet))

-- ---- the whole

abbrev pub json_text : Spec → (names : List (List ℕ)) → RunWords → (first : State) → List Row → List ℕ
json_text s names words first rows =
    let all = columns s names rows in
    let shown = shown_columns names all in
    row_json s shown 0 [] (Some first) ++ (rows_json s shown 1 rows ++ end_json (length all - length shown) words)
