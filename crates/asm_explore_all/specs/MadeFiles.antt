-- Definition. Files that are made.
--     MadeFile                   a file's name, and its bytes
--     Makes old new files        the files that are known to be made grow by these, in order
--     IsCut made file            a file of this name, with a front of its bytes
--     StopsAt old new name files    they grow by those before a file of this name; this one may be
--                                made too, with a front of its bytes
--     MakesFirst old new files   they grow by the first of these
use Rattle.std.specs.Prelude.{◌≡◌, ◌⊎◌, ℕ, List, [], ◌∷◌, ◌++◌, Option, Some, None, take, ⊤}

abbrev pub MadeFile : Type 0
MadeFile = List ℕ × List ℕ

abbrev pub Makes : (old new : Option (List MadeFile)) → List MadeFile → Type 0
Makes None new files = ⊤
Makes (Some before) None files = ⊥
Makes (Some before) (Some after) files = after ≡ before ++ files

-- ---- files that may be cut

abbrev pub IsCut : (made file : MadeFile) → Type 0
IsCut made file = (n : ℕ) × (made ≡ (file.0, take n file.1))

pub record StopsAt (old new : Option (List MadeFile)) (name : List ℕ) (files : List MadeFile) : Type 0 where
  pub before : List MadeFile
  pub file : MadeFile
  pub others : List MadeFile
  pub split : files ≡ before ++ file ∷ others
  pub named : file.0 ≡ name
  pub made : Makes old new before ⊎ ((cut : MadeFile) × IsCut cut file × Makes old new (before ++ cut ∷ []))

abbrev pub MakesFirst : (old new : Option (List MadeFile)) → List MadeFile → Type 0
MakesFirst old new files = (n : ℕ) × Makes old new (take n files)
