-- Bridge to the code. What has a position while a rule or a term is resolved: names, from the
-- innermost one on.
--     Slot                        a name, and whether it stands for a location, as `result` does in
--                                 a call that has a target
--     position_of names x         the position of a name, which is that of the first of its text
--     result_position slots x     the same if the first of its text stands for a location
--     called_slots answers xs     the slots in the body of a rule with these parameters: of a call
--                                 with a target, or without
--     found_from n slots x        the position of a name when the first slot has this one, and
--                                 whether it stands for a location there
--     is_spelled x y              whether a search for the text x in an ordered map ends at the
--                                 text y
--     AreFirst xs positions       an ordered map has the positions of these names
use Rattle.std.specs.Prelude.{◌≡◌, ℕ, suc, Bool, true, false, cond, List, [], ◌∷◌, map, Option, Some, None, option_map, slice_index_or}
use Rattle.std.specs.Cmp.Lexicographic.{slice_cmp}
use Rattle.std.specs.Map.{lookup}
use Rattle.std.specs.Ordering.{is_eq, nat_cmp}
use Rattle.std.proofs.Common.{Vec, Global}
use Rattle.asm_syntax.specs.Tree.{Name, result}
use Rattle.asm_meaning.specs.Program.{is_name}

pub record Slot : Type 0 where
  pub name : Name
  pub located : Bool

abbrev pub value_slot : Name → Slot
value_slot x = record { name = x; located = false }

abbrev pub result_slot : Slot
result_slot = record { name = result; located = true }

abbrev pub names_in : List Slot → List Name
names_in slots = map (λ (s : Slot). s.name) slots

abbrev pub position_of : List Name → Name → Option ℕ
position_of [] x = None
position_of (y ∷ ys) x = cond (is_name y x) (Some 0) (option_map suc (position_of ys x))

abbrev pub is_located : List Slot → ℕ → Bool
is_located slots i = (slice_index_or slots i (value_slot [])).located

abbrev pub located_position : List Slot → Option ℕ → Option ℕ
located_position slots None = None
located_position slots (Some i) = cond (is_located slots i) (Some i) None

abbrev pub result_position : List Slot → Name → Option ℕ
result_position slots x = located_position slots (position_of (names_in slots) x)

abbrev pub called_slots : Bool → List Name → List Slot
called_slots false xs = map value_slot xs
called_slots true xs = result_slot ∷ map value_slot xs

abbrev pub found_from : ℕ → List Slot → Name → Option (ℕ × Bool)
found_from n [] x = None
found_from n (s ∷ slots) x = cond (is_name s.name x) (Some (n, s.located)) (found_from (suc n) slots x)

abbrev pub is_spelled : List ℕ → List ℕ → Bool
is_spelled x y = is_eq (slice_cmp nat_cmp x y)

abbrev pub AreFirst : List Name → List (Vec ℕ Global × ℕ) → Type 0
AreFirst xs positions = (x : Name) → lookup (λ (q : Vec ℕ Global). is_spelled x q.items) positions ≡ position_of xs x
