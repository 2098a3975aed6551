-- Law. What is found to stand at a location is what the set has there.
--     StandingLaws      if a story gives a set, the values of each location in it are those of the
--                       assignments that stand there
use Rattle.std.specs.Prelude.{◌≡◌}
use Rattle.asm_state.specs.Location.{Location}
use Rattle.asm_state.specs.Updates.{UpdateSet}
use Rattle.asm_meaning.specs.Story.{Story, outcome_of}
use Rattle.asm_meaning.specs.Yields.{Gives}
use Rattle.asm_clash.specs.Standing.{AreValuesAt, stands}

pub record StandingLaws : Type 0 where
  pub in_set : (l : Location) (s : Story) (U : UpdateSet) → (outcome_of s).result ≡ Gives U → AreValuesAt U l (stands l s)
