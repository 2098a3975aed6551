-- Bridge to the code. Codes whose numbers are ones of a signature.
--     IsLocationNumber shape n    n is the number of a location
--     IsCell shape n          n is the number of a location that isn't stray
--     IsSound shape t         each number in t is that of a universe, of a function, or of such a
--                             location
use Rattle.std.specs.Prelude.{◌<◌, ◌≤◌, ◌+◌, ◌*◌, ℕ, length, IsTrue}
use Rattle.asm_state.specs.declared.signature_limits.TheConstants.{MAX_LOCATIONS}
use Rattle.asm_state.specs.Signature.{Shape, count_of, functions_of, location_at}
use Rattle.asm_state.specs.Updates.{is_proper}
use Rattle.asm_code.specs.code.CodeTree.{Code, Constant, Local, Cell, Row, Grid, Held, Derived, With, Both, Chain, Exists, Every, Codes, no_codes, code_then, Links, no_links, link_then}

abbrev pub count : Codes → ℕ
count no_codes = 0
count (code_then t ts) = 1 + count ts

pub record IsLocationNumber (shape : Shape) (n : ℕ) : Type 0 where
  pub in_range : n < count_of shape
  pub few : n ≤ MAX_LOCATIONS

pub record IsCell (shape : Shape) (n : ℕ) : Type 0 where
  pub in_range : n < count_of shape
  pub few : n ≤ MAX_LOCATIONS
  pub proper : IsTrue (is_proper (location_at shape n))

module _ (shape : Shape) where
  abbrev pub IsUniverseNumber : ℕ → Type 0
  IsUniverseNumber u = u < length shape.universes

  -- `many` numbers from the first on
  abbrev pub AreCells : (first many : ℕ) → Type 0
  AreCells first many = (i : ℕ) → i < many → IsCell shape (first + i)

  -- a function that isn't a derived one has at most four arguments
  abbrev mutual
    pub IsSound : Code → Type 0
    IsSound (Constant v) = Unit {0}
    IsSound (Local i) = Unit {0}
    IsSound (Cell n) = IsCell shape n
    IsSound (Row first low many t) = AreCells first many × IsSound t
    IsSound (Grid first low rows left columns s t) = AreCells first (rows * columns) × IsSound s × IsSound t
    IsSound (Held f ts) = (f < functions_of shape) × (count ts ≤ 4) × AreSound ts
    IsSound (Derived t ts) = IsSound t × AreSound ts
    IsSound (With o t v) = IsSound t
    IsSound (Both o s t) = IsSound s × IsSound t
    IsSound (Chain t links) = IsSound t × AreSoundLinks links
    IsSound (Exists u t) = IsUniverseNumber u × IsSound t
    IsSound (Every u t) = IsUniverseNumber u × IsSound t

    pub AreSound : Codes → Type 0
    AreSound no_codes = Unit {0}
    AreSound (code_then t ts) = IsSound t × AreSound ts

    pub AreSoundLinks : Links → Type 0
    AreSoundLinks no_links = Unit {0}
    AreSoundLinks (link_then o t links) = IsSound t × AreSoundLinks links
