-- Free. How many values universes have.
use Rattle.std.proofs.Common.{◌≡◌, length, refl}
use Rattle.asm_state.specs.Universe.{count_between}
use Rattle.asm_state.proofs.Domains.{universe_laws}
use Rattle.asm_syntax.specs.SourceTree.{Spec}
use Rattle.asm_check.specs.Names as names
use Rattle.asm_check.specs.Names.{Meaning, Range, Enumeration}
use Rattle.asm_check.specs.Limits.{size_of}
use Rattle.asm_check.specs.Shapes.{universe_values}

-- a universe has as many values as are counted
pub length_values : (spec : Spec) (m : Meaning) → length (universe_values spec m) ≡ size_of spec m
length_values spec (Range first last) = universe_laws.number_count first (count_between first last)
length_values spec (Enumeration k) = universe_laws.element_count _ (size_of spec (Enumeration k))
length_values spec names.Predeclared = refl
length_values spec (names.Element k) = refl
length_values spec (names.Controlled domain) = refl
length_values spec (names.Static domain) = refl
length_values spec (names.Derived xs t) = refl
length_values spec (names.NamedRule xs P) = refl
