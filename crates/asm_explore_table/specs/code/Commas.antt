-- Bridge to the code. A comma where a list goes on.
--     comma before     a comma and a blank, unless nothing comes before
use Rattle.std.specs.Prelude.{ℕ, zero, suc, List, [], codes}

abbrev pub comma : (before : ℕ) → List ℕ
comma zero = []
comma (suc before) = codes ", "
