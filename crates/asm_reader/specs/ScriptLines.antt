-- Definition. Scripts: which candidate a choose takes. A script is a pair of finite maps, from
-- steps and paths, and from paths alone.
--     Line, EveryLine           the number of a candidate, for a step and a path; and for a path in
--                               every step
--     SaidLine                  either of them
--     Script                    the lines for one step, and those for every step; of a key the
--                               first counts
--     script_of lines           the script of some lines, in their order
--     pick script step p        the number for this step and path; if there is none, the one for
--                               this path in every step; else 0
use Rattle.std.specs.Prelude.{ℕ, Bool, cond, ◌&&◌, List, [], ◌∷◌, Option, Some, None, nat_eq}
use Rattle.std.specs.Cmp.Lexicographic.{pointwise}
use Rattle.std.specs.Option.{option_or, unwrap_or}

pub record Line : Type 0 where
  pub step : ℕ
  pub path : List ℕ
  pub choice : ℕ

pub record EveryLine : Type 0 where
  pub path : List ℕ
  pub choice : ℕ

pub data SaidLine : Type 0 where
  ForStep : Line → SaidLine
  ForEvery : EveryLine → SaidLine

pub record Script : Type 0 where
  pub exact : List Line
  pub every : List EveryLine

abbrev pub no_lines : Script
no_lines = record { exact = []; every = [] }

abbrev pub line_then : SaidLine → Script → Script
line_then (ForStep line) rest = record { exact = line ∷ rest.exact; every = rest.every }
line_then (ForEvery line) rest = record { exact = rest.exact; every = line ∷ rest.every }

abbrev pub script_of : List SaidLine → Script
script_of [] = no_lines
script_of (line ∷ lines) = line_then line (script_of lines)

-- ---- what a script picks

abbrev pub is_line_of : ℕ → List ℕ → Line → Bool
is_line_of step p line = nat_eq line.step step && pointwise nat_eq line.path p

abbrev pub is_line_at : List ℕ → EveryLine → Bool
is_line_at p line = pointwise nat_eq line.path p

abbrev pub exact_choice : List Line → ℕ → List ℕ → Option ℕ
exact_choice [] step p = None
exact_choice (line ∷ lines) step p = cond (is_line_of step p line) (Some line.choice) (exact_choice lines step p)

abbrev pub every_choice : List EveryLine → List ℕ → Option ℕ
every_choice [] p = None
every_choice (line ∷ lines) p = cond (is_line_at p line) (Some line.choice) (every_choice lines p)

abbrev pub pick : Script → ℕ → List ℕ → ℕ
pick script step p = unwrap_or (option_or (exact_choice script.exact step p) (every_choice script.every p)) 0
