-- Bridge to the code. Parts of lines of JSON, as the code writes them.
--     separator is_first             a comma, unless this is the first of a list
--     listed_from text is_first xs   what is left of a list, of which this is the first or not
--     more_members members           members behind others
--     choice_front, row_front        what stands before the elements of a choice, and before the
--                                    state of a row
--     key_text s n                   what stands before the value of a location
--     IsKeyed s column               a column has that
--     locations_in columns           the locations of columns
use Rattle.std.specs.Prelude.{◌≡◌, ◌<◌, ℕ, Bool, true, false, List, [], ◌++◌, map, codes, decimal}
use Rattle.std.specs.List.{flat_map, join_by}
use Rattle.asm_state.specs.Signature.{count_of}
use Rattle.asm_state.specs.declared.value.Value.{Value}
use Rattle.asm_syntax.specs.SourceTree.{Spec}
use Rattle.asm_check.specs.Shapes.{shape_of}
use Rattle.asm_run.specs.Trace.{location_text}
use Rattle.asm_run.specs.Written.{names_in}
use Rattle.asm_explore.specs.ChoicePoints.{Asking}
use Rattle.asm_explore_table.specs.JsonRows.{choice_json, value_json}
use Rattle.asm_explore_table.specs.JsonTexts.{list_by, member_text, string_text}
use Rattle.asm_explore_table.specs.Tables.{numbered}
use Rattle.asm_explore_table.specs.declared.json_state.JsonColumn.{JsonColumn}

abbrev pub separator : (is_first : Bool) → List ℕ
separator true = []
separator false = codes ","

abbrev pub listed_from : {X : Type 0} → (text : X → List ℕ) → (is_first : Bool) → List X → List ℕ
listed_from text true xs = join_by text (codes ",") xs
listed_from text false xs = flat_map (λ x. codes "," ++ text x) xs

abbrev pub more_members : List (List ℕ × List ℕ) → List ℕ
more_members members = listed_from member_text false members

module _ (s : Spec) where
  abbrev pub choice_front : (name : List ℕ) → Value → List ℕ
  choice_front name v = codes "{\"name\":" ++ (string_text name ++ (codes ",\"value\":" ++ (value_json s v ++ codes ",\"elements\":")))

  abbrev pub row_front : (number : ℕ) → List Asking → List ℕ
  row_front number asked = codes "{\"step\":" ++ (decimal number ++ (codes ",\"chosen\":" ++ list_by (choice_json s) asked))

  abbrev pub key_text : (n : ℕ) → List ℕ
  key_text n = string_text (location_text (names_in s) (numbered s n)) ++ codes ":"

  pub record IsKeyed (column : JsonColumn) : Type 0 where
    pub within : column.location < count_of (shape_of s)
    pub key : column.key.items ≡ key_text column.location

abbrev pub locations_in : List JsonColumn → List ℕ
locations_in columns = map (λ c. c.location) columns
