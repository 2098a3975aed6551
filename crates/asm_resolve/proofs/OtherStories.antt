-- Law. Codes that yield what a rule does, and tell something else, don't stand for it.
--     idle_choice       nothing doesn't stand for a choice between rules that do nothing
--     swapped_parts     of two assignments beside each other, their codes in reverse stand for them
--                       only if both give the same value to the same location
use Rattle.std.proofs.Common.{◌≡◌, ℕ, List, [], ◌∷◌, Option, Some, None, sym, ap, subst, ◌∙◌}
use Rattle.std.specs.List.{filter}
use Rattle.asm_state.specs.Location.{Location, State}
use Rattle.asm_state.specs.Signature.{Shape, location_at}
use Rattle.asm_state.specs.declared.value.Value.{Value}
use Rattle.asm_state.specs.declared.value.Value.TheVariants.{Undef}
use Rattle.asm_reader.specs.ScriptLines.{no_lines, pick}
use Rattle.asm_syntax.specs.Tree as tree
use Rattle.asm_syntax.specs.Tree.{Name, Rule}
use Rattle.asm_meaning.specs.Program.{Program, nothing_bound, with_value}
use Rattle.asm_meaning.specs.Ranks.{IsRanked}
use Rattle.asm_meaning.specs.Story.{Story, Silent, Assigns, Chooses, Instance, Beside, Then, Exhausts, one_tells, tells}
use Rattle.asm_meaning.specs.StoryLaws.{ToldCases}
use Rattle.asm_meaning.specs.Value.{holds, universe}
use Rattle.asm_meaning.specs.Yields.{at}
use Rattle.asm_meaning.proofs.Stories.{told_by_cases}
use Rattle.asm_code.specs.code.CodeTree as term_codes
use Rattle.asm_code.specs.code.Readings.{reading}
use Rattle.asm_code.specs.code.RuleStories.{telling}
use Rattle.asm_code.specs.code.RuleTree as codes
use Rattle.asm_resolve.specs.code.ResolvedRules.{IsResolvedRule}
use Rattle.asm_resolve.proofs.StandingPositions.{stands_nothing}

abbrev IsSilent : Story → Type 0
IsSilent Silent = Unit {0}
IsSilent (Assigns p l v ws bs) = ⊥
IsSilent (Chooses p k vs s) = ⊥
IsSilent (Instance s) = ⊥
IsSilent (Beside s t) = ⊥
IsSilent (Then s t) = ⊥
IsSilent (Exhausts p) = ⊥

-- what the first of two stories assigns
abbrev first_assigned : Story → Option (Location × Value)
first_assigned (Assigns p l v ws bs) = Some (l, v)
first_assigned (Beside s t) = first_assigned s
first_assigned Silent = None
first_assigned (Chooses p k vs s) = None
first_assigned (Instance s) = None
first_assigned (Then s t) = None
first_assigned (Exhausts p) = None

module _ (program : Program) (rank : Name → ℕ) (ranked : IsRanked program rank) (shape : Shape) where
  abbrev cases : ToldCases program 0 no_lines 1 rank
  cases = told_by_cases program rank 0 no_lines 1 ranked

  abbrev undefined : State
  undefined l = Undef

  pub idle_choice : (x u : Name) (v : Value) (vs : List Value) → universe program u ≡ v ∷ vs → IsResolvedRule program shape [] (tree.Choose x u None tree.Skip tree.Skip) codes.Skip → ⊥
  unfolding telling
  idle_choice x u v vs some it =
      let story : Value → Story = λ v. tells program 0 no_lines 1 undefined (with_value x v nothing_bound) (at [] 0) tree.Skip in
      let other : Story = tells program 0 no_lines 1 undefined nothing_bound (at [] 1) tree.Skip in
      let told : Silent ≡ one_tells [] (pick no_lines 1 []) (filter (λ w. holds program undefined (with_value x w nothing_bound) None) (v ∷ vs)) story other =
      it.tells 0 no_lines 1 nothing_bound [] [] [] undefined [] (stands_nothing program) ∙ cases.of_choose x u None tree.Skip tree.Skip undefined nothing_bound []
      ∙ ap (λ us. one_tells [] (pick no_lines 1 []) (filter (λ w. holds program undefined (with_value x w nothing_bound) None) us) story other) some in
      subst IsSilent told tt

  abbrev given : ℕ → Value → Option (Location × Value)
  given n v = Some (location_at shape n, v)

  pub swapped_parts : (P Q : Rule) (m n : ℕ) (v w : Value)
      → (let c = codes.Assign (codes.Cell m) (term_codes.Constant v) in
      let d = codes.Assign (codes.Cell n) (term_codes.Constant w) in
      IsResolvedRule program shape [] P c → IsResolvedRule program shape [] Q d
      → IsResolvedRule program shape [] (tree.Par (tree.rule_then P (tree.rule_then Q tree.no_rules))) (codes.Par (codes.rule_then d (codes.rule_then c codes.no_rules)))
      → given n w ≡ given m v)
  unfolding telling reading
  swapped_parts P Q m n v w first second it =
      let stands = stands_nothing program in
      ap first_assigned
      (it.tells 0 no_lines 1 nothing_bound [] [] [] undefined [] stands ∙ cases.of_par (tree.rule_then P (tree.rule_then Q tree.no_rules)) undefined nothing_bound []
      ∙ ap (λ s. Beside s (Beside (tells program 0 no_lines 1 undefined nothing_bound (at [] 1) Q) Silent)) (sym (first.tells 0 no_lines 1 nothing_bound [] [] [] undefined (at [] 0) stands)))
