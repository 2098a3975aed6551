-- Definition. The conditions that are asked of a specification, by the bytes of their texts.
--     AreAllAsked asked spec t terms     the texts spell these terms, and t is true just when each
--                                        of them is
use Rattle.std.specs.Prelude.{◌≡◌, ℕ, List, Option, Some}
use Rattle.std.specs.List.{list_all}
use Rattle.asm_state.specs.Location.{State}
use Rattle.asm_syntax.specs.SourceTree.{Spec, Term}
use Rattle.asm_explore.specs.Conditions.{condition_holds}
use Rattle.asm_explore_texts.specs.Conditions.{AreAskedOf}

pub record AreAllAsked (asked : List (List ℕ)) (spec : Spec) (t : Option Term) (terms : List Term) : Type 0 where
  pub each : AreAskedOf spec asked terms
  pub all : (A : State) → condition_holds spec t A ≡ list_all (λ one. condition_holds spec (Some one) A) terms
