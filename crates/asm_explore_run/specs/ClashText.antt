-- Definition. What is printed of the assignments by which a run ends.
--     located end vs                  where an assignment puts its value whose arguments are vs: at
--                                     the location of a clash; and if its update is outside of its
--                                     function, at that with these arguments
--     assignment_text                 its path, its location and its value
--     AreApart offsets                none of the offsets is among those behind it
--     AreNamesFor                     a name of the text is at an offset, and for each value that is
--                                     bound one at an offset of its own
--     is_hidden text inner at         one of the names at these offsets is that at `at`
--     bound_text                      values that are bound, the innermost first, each with the name
--                                     at its offset, if no inner one hides it
--     IsPlacedLine                    where an assignment is in the text, what it is, and what is
--                                     bound there: which names of the text are at these places is free
--     IsLineOf, AreLinesOf            the lines of assignments: each is such a line, or has only what
--                                     the assignment is
--     more count                      the line for so many assignments that aren't shown
--     clash_text first shown rest     a first comment, those that are shown, and how many more there
--                                     are
--     greatest_shown                  so many lines of assignments don't fit into a script
--     IsClashText                     the first of them are shown, as many as fit into a script; the
--                                     first comment is always printed
use Rattle.std.specs.Prelude.{◌≡◌, ◌⊎◌, ◌+◌, ◌-◌, ◌<◌, ◌≤◌, ◌==◌, ℕ, zero, suc, Bool, false, cond, ⊤, List, [], ◌∷◌, ◌++◌, All, length, take, slice_get, Some, codes, decimal}
use Rattle.std.specs.List.{list_any}
use Rattle.std.specs.Str.{bytes_eq}
use Rattle.asm_state.specs.declared.value.Value.{Value}
use Rattle.asm_state.specs.Location.{Proper}
use Rattle.asm_reader.specs.ScriptText.{max_script}
use Rattle.asm_run.specs.Trace.{TraceNames, location_text, path_text, value_text}
use Rattle.asm_run.specs.declared.end.End.{End}
use Rattle.asm_run.specs.declared.end.End.TheVariants.{Limit, Clash, Outside, Exhausted}
use Rattle.asm_clash.specs.declared.assignment.Assignment.{Assignment}
use Rattle.asm_explore_texts.specs.Comments.{comments}
use Rattle.asm_explore_texts.specs.Positions.{IsNameAt, name_at, position_text}

module _ (names : TraceNames) where
  abbrev pub located : End → List Value → List ℕ
  located (Clash i f ws least greatest) vs = location_text names (Proper f ws)
  located (Outside i f) vs = location_text names (Proper f vs)
  located (Exhausted i p) vs = []
  located Limit vs = []

  abbrev pub assignment_text : (location : List ℕ) → Assignment → List ℕ
  assignment_text location a = codes "place " ++ (path_text a.path ++ (codes ": " ++ (location ++ (codes " := " ++ value_text names.elements a.value))))

abbrev pub AreApart : (offsets : List ℕ) → Type 0
AreApart [] = ⊤
AreApart (at ∷ others) = (list_any (λ other. other == at) others ≡ false) × AreApart others

module _ (text : List ℕ) where
  pub record AreNamesFor (at : ℕ) (bound : List ℕ) (vs : List Value) : Type 0 where
    pub place : IsNameAt text at
    pub names : All (IsNameAt text) bound
    pub each : length bound ≡ length vs
    pub apart : AreApart bound

  abbrev pub is_hidden : (inner : List ℕ) → ℕ → Bool
  is_hidden inner at = list_any (λ other. bytes_eq (name_at text other) (name_at text at)) inner

module _ (text : List ℕ) (names : TraceNames) where
  abbrev pub bound_value : (inner : List ℕ) → ℕ → Value → List ℕ
  bound_value inner at v = cond (is_hidden text inner at) [] (codes ", " ++ (name_at text at ++ (codes " = " ++ value_text names.elements v)))

  -- behind those at the offsets `inner`
  abbrev pub bound_text : (inner : List ℕ) → List ℕ → List Value → List ℕ
  bound_text inner [] vs = []
  bound_text inner (at ∷ bound) [] = []
  bound_text inner (at ∷ bound) (v ∷ vs) = bound_value inner at v ++ bound_text (inner ++ at ∷ []) bound vs

  module _ (end : End) where
    pub record IsPlacedLine (a : Assignment) (line : List ℕ) : Type 0 where
      pub at : ℕ
      pub bound : List ℕ
      pub are_names : AreNamesFor text at bound a.bound.items
      pub is :
          let said = assignment_text names (located names end a.arguments.items) a in
          line ≡ position_text text at ++ (codes ", " ++ (said ++ bound_text [] bound a.bound.items))

    abbrev pub IsLineOf : Assignment → (line : List ℕ) → Type 0
    IsLineOf a line = IsPlacedLine a line ⊎ (line ≡ assignment_text names (located names end a.arguments.items) a)

    abbrev pub AreLinesOf : List Assignment → List (List ℕ) → Type 0
    AreLinesOf [] [] = Unit {0}
    AreLinesOf (a ∷ found) (line ∷ lines) = IsLineOf a line × AreLinesOf found lines
    AreLinesOf found lines = ⊥

abbrev pub more : ℕ → List (List ℕ)
more zero = []
more (suc count) = (codes "and " ++ (decimal (suc count) ++ codes " more")) ∷ []

abbrev pub clash_text : (first : List ℕ) → (shown : List (List ℕ)) → (rest : ℕ) → List ℕ
clash_text first shown rest = comments (first ∷ (shown ++ more rest))

abbrev pub greatest_shown : ℕ
greatest_shown = 69_906

-- of so many assignments, of which these are the first
pub record IsClashText (text : List ℕ) (names : TraceNames) (end : End) (first : List ℕ) (found : List Assignment) (count : ℕ) (printed : List ℕ) : Type 0 where
  pub shown : List (List ℕ)
  pub rest : ℕ
  pub of_first : AreLinesOf text names end (take (length shown) found) shown
  pub all : length shown + rest ≡ count
  pub is : printed ≡ clash_text first shown rest
  pub fits : (length printed ≤ max_script) ⊎ (shown ≡ [])
  -- With the next one it would be too long.
  pub most : (rest ≡ 0)
      ⊎ ((a : Assignment) × (line : List ℕ) × (slice_get found (length shown) ≡ Some a) × IsLineOf text names end a line
      × (max_script < length (clash_text first (shown ++ line ∷ []) (rest - 1))))
