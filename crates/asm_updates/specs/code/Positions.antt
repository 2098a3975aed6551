-- Bridge to the code. Positions by location, in pages of 64 locations that follow one another. Page
-- 0 stands for all pages that are not made.
--     page_in ps a          the number of page a
--     slot_in ps n          where the position of location n is
--     position_in ps qs n   the position of location n, which is 0 if none was given
--     position_of p n       the same, of pages and positions together
--     ArePages ps qs        each page that is made has places of its own, and page 0 has 0 at each
--                           place
use Rattle.std.specs.Prelude.{◌≡◌, ℕ, ◌<◌, ◌≤◌, ◌+◌, ◌*◌, ◌/◌, ◌%◌, List, length, slice_index_or}

abbrev pub page_in : List ℕ → ℕ → ℕ
page_in ps a = slice_index_or ps a 0

abbrev pub slot_in : List ℕ → ℕ → ℕ
slot_in ps n = page_in ps (n / 64) * 64 + n % 64

abbrev pub position_in : List ℕ → List ℕ → ℕ → ℕ
position_in ps qs n = slice_index_or qs (slot_in ps n) 0

pub record Paged : Type 0 where
  pub pages : List ℕ
  pub positions : List ℕ

abbrev pub position_of : Paged → ℕ → ℕ
position_of p n = position_in p.pages p.positions n

abbrev pub IsMade : List ℕ → ℕ → Type 0
IsMade ps n = 0 < page_in ps (n / 64)

pub record ArePages (ps qs : List ℕ) : Type 0 where
  pub empty : (r : ℕ) → r < 64 → slice_index_or qs r 0 ≡ 0
  pub within : (a : ℕ) → 0 < page_in ps a → page_in ps a * 64 + 64 ≤ length qs
  pub whole : length qs % 64 ≡ 0
  pub apart : (a b : ℕ) → 0 < page_in ps a → page_in ps a ≡ page_in ps b → a ≡ b
