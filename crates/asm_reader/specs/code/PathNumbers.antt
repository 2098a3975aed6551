-- Bridge to the code. Lines of a script, found by their order: paths are at places, which make a
-- tree, and lines are at places and steps.
--     entry_at entries n k           what an ordered map has at a place and a number
--     number_of_path ways p          the place of a path: from the place 0 each number leads to the
--                                    next place
--     found ways exact s p           what is at the place of a path and a step
--     every_found ways every p       what is at the place of a path in every step
--     IsTree ways                    places are found in one way only, and have the numbers below
--                                    count_of ways
--     AreFound, AreEveryFound        the results are those of the lines for one step, and of those
--                                    for every step
--     Says places script             all that the lines of the script say is found
--     IsNext old n k m new           from the place n the number k leads to m, which is a new place
--                                    if it led to none
--     HasPathNumber old p n new      the path p is at n, and all else that was said is found as
--                                    before
use Rattle.std.specs.Prelude.{◌≡◌, ◌⊎◌, ◌≤◌, ◌<◌, ◌^◌, ℕ, Bool, cond, List, [], ◌∷◌, length, get_or, ◌+◌, Option, Some, None}
use Rattle.std.specs.Map.{lookup}
use Rattle.std.specs.Ordering.{is_eq, nat_cmp, ordering_then}
use Rattle.asm_reader.specs.declared.path_numbers.PathNumbers.{PathNumbers}
use Rattle.asm_reader.specs.ScriptLines.{Line, EveryLine, Script, exact_choice, every_choice}

abbrev pub is_pair : ℕ → ℕ → ℕ × ℕ → Bool
is_pair n k pair = is_eq (ordering_then (nat_cmp n pair.0) (nat_cmp k pair.1))

abbrev pub entry_at : List ((ℕ × ℕ) × ℕ) → ℕ → ℕ → Option ℕ
entry_at entries n k = lookup (is_pair n k) entries

-- the map has no number of more than 32 bits after a place
abbrev pub AreShort : List ((ℕ × ℕ) × ℕ) → Type 0
AreShort entries = (n k : ℕ) → 2 ^ 32 ≤ k → entry_at entries n k ≡ None

-- ---- places

abbrev pub entry_from : List ((ℕ × ℕ) × ℕ) → Option ℕ → ℕ → Option ℕ
entry_from entries None k = None
entry_from entries (Some n) k = entry_at entries n k

-- where a path leads from a place, if there is one
abbrev pub path_number_from : List ((ℕ × ℕ) × ℕ) → Option ℕ → List ℕ → Option ℕ
path_number_from ways place [] = place
path_number_from ways place (k ∷ p) = path_number_from ways (entry_from ways place k) p

abbrev pub number_of_path : List ((ℕ × ℕ) × ℕ) → List ℕ → Option ℕ
number_of_path ways p = path_number_from ways (Some 0) p

-- the first place, and one for each number that leads from a place
abbrev pub count_of : List ((ℕ × ℕ) × ℕ) → ℕ
count_of ways = length ways + 1

pub record IsTree (ways : List ((ℕ × ℕ) × ℕ)) : Type 0 where
  pub apart : (p q : List ℕ) (n : ℕ) → number_of_path ways p ≡ Some n → number_of_path ways q ≡ Some n → p ≡ q
  pub inside : (n k m : ℕ) → entry_at ways n k ≡ Some m → m < count_of ways
  pub fresh : (n k : ℕ) → count_of ways ≤ n → entry_at ways n k ≡ None
  pub short : AreShort ways

-- ---- what is at places

abbrev pub found : (ways exact : List ((ℕ × ℕ) × ℕ)) → ℕ → List ℕ → Option ℕ
found ways exact s p = entry_from exact (number_of_path ways p) s

abbrev pub every_at : List (Option ℕ) → Option ℕ → Option ℕ
every_at every None = None
every_at every (Some n) = get_or every n None

abbrev pub every_found : List ((ℕ × ℕ) × ℕ) → List (Option ℕ) → List ℕ → Option ℕ
every_found ways every p = every_at every (number_of_path ways p)

pub record AreFound (lines : List Line) (ways exact : List ((ℕ × ℕ) × ℕ)) : Type 0 where
  pub finds : (s : ℕ) (p : List ℕ) → found ways exact s p ≡ exact_choice lines s p
  pub fresh : (n s : ℕ) → count_of ways ≤ n → entry_at exact n s ≡ None
  pub short : AreShort exact

pub record AreEveryFound (lines : List EveryLine) (ways : List ((ℕ × ℕ) × ℕ)) (every : List (Option ℕ)) : Type 0 where
  pub finds : (p : List ℕ) → every_found ways every p ≡ every_choice lines p
  pub room : length every ≤ count_of ways

pub record HoldsScript (script : Script) (ways entries : List ((ℕ × ℕ) × ℕ)) (slots : List (Option ℕ)) : Type 0 where
  pub tree : IsTree ways
  pub exact : AreFound script.exact ways entries
  pub every : AreEveryFound script.every ways slots

abbrev pub Says : PathNumbers → Script → Type 0
Says places script = HoldsScript script places.ways.entries places.exact.entries places.every.items

-- ---- one place more

pub record IsAdded (old : List ((ℕ × ℕ) × ℕ)) (n k m : ℕ) (new : List ((ℕ × ℕ) × ℕ)) : Type 0 where
  pub number : m ≡ count_of old
  pub count : count_of new ≡ count_of old + 1
  pub short : k < 2 ^ 32
  pub absent : entry_at old n k ≡ None
  pub put : (i j : ℕ) → entry_at new i j ≡ cond (is_pair n k (i, j)) (Some m) (entry_at old i j)

abbrev pub IsNext : List ((ℕ × ℕ) × ℕ) → ℕ → ℕ → ℕ → List ((ℕ × ℕ) × ℕ) → Type 0
IsNext old n k m new = ((new ≡ old) × (entry_at old n k ≡ Some m)) ⊎ IsAdded old n k m new

abbrev pub HasPathNumber : List ((ℕ × ℕ) × ℕ) → List ℕ → ℕ → List ((ℕ × ℕ) × ℕ) → Type 0
HasPathNumber old p n new = (script : Script) (exact : List ((ℕ × ℕ) × ℕ)) (every : List (Option ℕ)) → HoldsScript script old exact every → HoldsScript script new exact every × (number_of_path new p ≡ Some n)
