-- Bridge to the code. The table and the least fault, as declarations are met one after another.
--     IsGathered first ds entries found           after the declarations ds, if first was found
--                                                 before them
--     Gathers more entries found entries' found'  the declarations `more` lead from the first pair
--                                                 to the second
use Rattle.std.specs.Prelude.{◌≡◌, ℕ, List, [], ◌++◌, map, flat_map, Option, nat_eq}
use Rattle.std.specs.Borrow.{Bor}
use Rattle.std.specs.Cmp.Lexicographic.{pointwise}
use Rattle.std.specs.List.{list_any}
use Rattle.asm_syntax.specs.SourceTree.{Name, Item}
use Rattle.asm_check.specs.Names.{Text, Declaration, Predeclared, declares, first_of_each, is_among, text_of}
use Rattle.asm_check.specs.Faults.{parameters_of}
use Rattle.asm_check.specs.code.FaultLists.{repeats, at_with}
use Rattle.asm_check.specs.code.LeastFaults.{least_after}
use Rattle.asm_check.specs.code.names.Tables.{Entry, declaration_of}

abbrev pub repeated : List Declaration → List (ℕ × ℕ)
repeated ds = at_with 8 (repeats [] (map (λ d. d.name) ds))

pub record IsGathered (first : Option (ℕ × ℕ)) (ds : List Declaration) (entries : List Entry) (found : Option (ℕ × ℕ)) : Type 0 where
  pub table : map declaration_of entries ≡ first_of_each [] ds
  pub least : found ≡ least_after first (repeated ds)

pub record Gathers (more : List Declaration) (entries : List Entry) (found : Option (ℕ × ℕ)) (entries' : List Entry) (found' : Option (ℕ × ℕ)) : Type 0 where
  pub after : (first : Option (ℕ × ℕ)) (ds : List Declaration) → IsGathered first ds entries found → IsGathered first (ds ++ more) entries' found'

-- a name without an offset
abbrev pub predeclares : Text → Declaration
predeclares x = declares (record { at = 0; text = x }) Predeclared

-- parameters that are in their list before
abbrev pub parameter_faults : List Item → List (ℕ × ℕ)
parameter_faults items = at_with 8 (flat_map (λ item. repeats [] (parameters_of item)) items)

-- after the names xs of a list: those that were seen, and the least fault
pub record IsSeen (first : Option (ℕ × ℕ)) (xs : List Name) (keys : List (Bor (List ℕ))) (found : Option (ℕ × ℕ)) : Type 0 where
  pub seen : (x : Text) → list_any (λ (k : Bor (List ℕ)). pointwise nat_eq x k.now) keys ≡ is_among (map text_of xs) x
  pub least : found ≡ least_after first (at_with 8 (repeats [] xs))
