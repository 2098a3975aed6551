-- Free. What is in a table of kinds.
use Rattle.std.proofs.Common.{◌≡◌, Bool, true, false, cond, ◌||◌, List, [], ◌∷◌, Option, Some, refl, ap, is_some, ◌∙◌}
use Rattle.asm_syntax.specs.declared.token.Kind.{Kind}
use Rattle.asm_reader.specs.Kinds.{alike, is_one_of, looked_up, keys}

some_or : {A : Type 0} (b : Bool) (x : A) (o : Option A) → is_some (cond b (Some x) o) ≡ (b || is_some o)
some_or true x o = refl
some_or false x o = refl

pub looked_up_keys : {A : Type 0} (table : List (Kind × A)) (k : Kind) → is_some (looked_up table k) ≡ is_one_of (keys table) k
looked_up_keys [] k = refl
looked_up_keys (row ∷ rows) k = some_or (alike row.0 k) row.1 (looked_up rows k) ∙ ap (λ b. alike row.0 k || b) (looked_up_keys rows k)
