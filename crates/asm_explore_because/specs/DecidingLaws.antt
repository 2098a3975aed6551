-- Law. That a condition isn't true follows from the part that decides it.
--     FollowsFromPart      what is wanted of a part isn't so, if what is wanted of the part that
--                          decides it isn't so
--     FailsInPart          and the other way round
--     FollowsFromLine      a condition isn't true, if a line is of the part that decides it
use Rattle.std.specs.Prelude.{◌≡◌, ℕ, true, false, List, []}
use Rattle.asm_state.specs.Location.{State}
use Rattle.asm_syntax.specs.SourceTree.{Spec, Term}
use Rattle.asm_check.specs.Faults.{IsWellFormed}
use Rattle.asm_meaning.specs.Value.{is_true}
use Rattle.asm_explore_because.specs.Because.{IsBecause}
use Rattle.asm_explore_because.specs.Parts.{Decides, Part, fails, value_under}

abbrev pub FollowsFromPart : Type 0
FollowsFromPart = (s : Spec) (A : State) (p q : Part) → IsWellFormed s → Decides s A p q → fails s A q ≡ true → fails s A p ≡ true

abbrev pub FailsInPart : Type 0
FailsInPart = (s : Spec) (A : State) (p q : Part) → IsWellFormed s → Decides s A p q → fails s A p ≡ true → fails s A q ≡ true

abbrev pub FollowsFromLine : Type 0
FollowsFromLine = (s : Spec) (A : State) (t : Term) (line : List ℕ) → IsWellFormed s → IsBecause s A t line → is_true (value_under s A [] t) ≡ false
