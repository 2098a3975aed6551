-- Definition. What is chosen in a step, in lines.
--     ChosenText               a choice in words: the elements of the foralls around it, and the
--                              variable with its value
--     chosen_text s asking     that of a choice that a step of the specification makes
--     pieces before texts      choices as they stand in a line, behind one with these elements: the
--                              elements come once before choices that have them alike; a comma
--                              stands between these, and else a semicolon
--     wrapped pieces           pieces in lines, of at most 40 bytes unless one piece is longer
--     chosen_lines s asked     the lines of all choices of a step: none if nothing is asked
use Rattle.std.specs.Prelude.{ℕ, ◌+◌, cond, nat_le, List, [], ◌∷◌, ◌++◌, map, length, Option, Some, None, slice_index_or, codes}
use Rattle.std.specs.Str.{bytes_eq}
use Rattle.asm_state.specs.declared.value.Value.{Value}
use Rattle.asm_state.specs.declared.value.Value.TheVariants.{Undef}
use Rattle.asm_syntax.specs.SourceTree.{Name, Spec}
use Rattle.asm_run.specs.Trace.{value_text}
use Rattle.asm_run.specs.Written.{names_in}
use Rattle.asm_explore.specs.ChoicePoints.{Asking}
use Rattle.asm_explore_texts.specs.Places.{Place, place_at, variable_in}

pub record ChosenText : Type 0 where
  pub elements : List ℕ
  pub given : List ℕ

-- the candidate that is taken
abbrev pub taken : Asking → Value
taken asking = slice_index_or asking.candidates asking.choice.number Undef

abbrev pub name_text : Option Name → List ℕ
name_text None = []
name_text (Some x) = x.text

abbrev pub elements_in : Option Place → List (List ℕ × Value)
elements_in None = []
elements_in (Some place) = place.elements

module _ (s : Spec) where
  -- a name and its value
  abbrev pub given_text : (name : List ℕ) → Value → List ℕ
  given_text name v = name ++ (codes " = " ++ value_text (names_in s).elements v)

  -- behind others
  abbrev pub more_elements : List (List ℕ × Value) → List ℕ
  more_elements [] = []
  more_elements ((x, v) ∷ more) = codes ", " ++ (given_text x v ++ more_elements more)

  abbrev pub elements_text : List (List ℕ × Value) → List ℕ
  elements_text [] = []
  elements_text ((x, v) ∷ more) = given_text x v ++ more_elements more

  abbrev pub text_at : Option Place → Value → ChosenText
  text_at place v = record { elements = elements_text (elements_in place); given = given_text (name_text (variable_in place)) v }

  abbrev pub chosen_text : Asking → ChosenText
  chosen_text asking = text_at (place_at s asking.choice.path) (taken asking)

-- ---- in lines

-- the elements of a choice, unless those before it are the same
abbrev pub intro : (before own : List ℕ) → List ℕ
intro before [] = []
intro before (b ∷ own) = cond (bytes_eq (b ∷ own) before) [] ((b ∷ own) ++ codes ": ")

abbrev pub mark : (own : List ℕ) → List ChosenText → List ℕ
mark own [] = []
mark own (next ∷ more) = cond (bytes_eq own next.elements) (codes ",") (codes ";")

abbrev pub pieces : (before : List ℕ) → List ChosenText → List (List ℕ)
pieces before [] = []
pieces before (one ∷ more) = (intro before one.elements ++ (one.given ++ mark one.elements more)) ∷ pieces one.elements more

abbrev pub longest_line : ℕ
longest_line = 40

-- behind a line that has begun
abbrev pub wrapped_behind : (line : List ℕ) → List (List ℕ) → List (List ℕ)
wrapped_behind line [] = line ∷ []
wrapped_behind line (piece ∷ more) =
    cond (nat_le (length line + (1 + length piece)) longest_line) (wrapped_behind (line ++ (32 ∷ piece)) more) (line ∷ wrapped_behind piece more)

abbrev pub wrapped : List (List ℕ) → List (List ℕ)
wrapped [] = []
wrapped (piece ∷ more) = wrapped_behind piece more

abbrev pub chosen_lines : Spec → List Asking → List (List ℕ)
chosen_lines s asked = wrapped (pieces [] (map (chosen_text s) asked))
