-- Bridge to the code. The choices of lists of outcomes.
--     choice_lists fs          the choices of each outcome of a list
--     AreSomeOf xs ys          these are some of those, each taken once, in whatever order
--     behind cs ways           each of the lists, after these choices
--     all_joined left right    each of the one list, with each of the other after it
--     with_choice p k ways     each of the lists, with one more choice after it
use Rattle.std.specs.Prelude.{◌≡◌, ℕ, List, [], ◌∷◌, ◌++◌, map}
use Rattle.asm_meaning.specs.Yields.{Path}
use Rattle.asm_explore.specs.declared.outcomes.listed_outcome.Choice.{Choice}
use Rattle.asm_explore.specs.declared.outcomes.listed_outcome.ListedOutcome.{ListedOutcome}

abbrev pub choice_lists : List ListedOutcome → List (List Choice)
choice_lists fs = map (λ f. f.choices) fs

abbrev pub AreSomeOf : {X : Type 0} → List X → List X → Type 0
AreSomeOf [] ys = Unit {0}
AreSomeOf {X} (x ∷ xs) ys = (before : List X) × (after : List X) × (ys ≡ before ++ x ∷ after) × AreSomeOf xs (before ++ after)

abbrev pub behind : List Choice → List (List Choice) → List (List Choice)
behind cs ways = map (λ ds. cs ++ ds) ways

abbrev pub all_joined : (left right : List (List Choice)) → List (List Choice)
all_joined [] right = []
all_joined (cs ∷ left) right = behind cs right ++ all_joined left right

abbrev pub with_choice : Path → ℕ → List (List Choice) → List (List Choice)
with_choice p k ways = map (λ cs. cs ++ record { path = p; number = k } ∷ []) ways
