-- Bridge to the code. Where names are in the text, as the code has them.
--     offsets names     of each its offset
use Rattle.std.specs.Prelude.{ℕ, List, map}
use Rattle.asm_syntax.specs.declared.name.Name.{Name}
use denote.Ref.{Bor}

abbrev pub offsets : List (Bor Name) → List ℕ
offsets names = map (λ name. name.now.at) names
