-- Bridge to the code. The conditions that are asked of a specification, joined to one term of the
-- code.
--     AreAllJoined asked checked t     the term is true just when each of the conditions with these
--                                     texts is
use Rattle.std.specs.Prelude.{◌≡◌, ℕ, List, Option, Some}
use Rattle.std.specs.List.{list_all}
use Rattle.asm_state.specs.Location.{State}
use Rattle.asm_state.specs.declared.operation.Op.{Op}
use Rattle.asm_syntax.specs.code.Views.{spec_of}
use Rattle.asm_syntax.specs.declared.term.Term.{Term}
use Rattle.asm_check.specs.declared.checked.Checked.{Checked}
use Rattle.asm_explore.specs.code.ResolvedConditions.{term_holds}
use Rattle.asm_explore_texts.specs.code.CodedConditions.{AreConditionsOf, IsJoined}

pub record AreAllJoined (asked : List (List ℕ)) (checked : Checked) (t : Option Term) : Type 0 where
  pub links : List (Op × Term)
  pub each : AreConditionsOf (spec_of checked.spec) asked links
  pub joined : IsJoined links t
  -- all of them hold just when the one that is asked holds
  pub all : (A : State) → term_holds checked t A ≡ list_all (λ link. term_holds checked (Some link.1) A) links
