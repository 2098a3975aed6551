-- Free. The law of choice for specifications without faults.
use Rattle.std.proofs.Common.{◌≡◌, List, [], ◌∷◌, Option, None, Some, refl, arith}
use Rattle.asm_syntax.specs.SourceTree as source
use Rattle.asm_syntax.specs.SourceTree.{Spec}
use Rattle.asm_syntax.specs.Tree.{Name, Rule}
use Rattle.asm_check.specs.Faults.{IsWellFormed, inits}
use Rattle.asm_check.specs.Ranks.{derived_rank, rule_rank}
use Rattle.asm_meaning.specs.Declarations.{main_rule, program_of, rule_body, specification_of}
use Rattle.asm_meaning.specs.Program.{Declared, Controlled, Derived, Enumerated, NamedRule, Static, Universe, declared}
use Rattle.asm_meaning.specs.Ranks.{CallsBelow}
use Rattle.asm_meaning.specs.SpecificationLaw.{SpecificationsAreRanked, SpecificationRunsAreFree, SpecificationRunsHaveScripts}
use Rattle.asm_meaning.specs.Value.{nesting}
use Rattle.asm_meaning.proofs.RanksInPrograms.{declared_ranks-derived as ranked, declared_ranks-derived_low as rank_low, declared_ranks-rules as rules_ranked, declared_ranks-rule_low as rule_rank_low}
use Rattle.asm_meaning.proofs.Run.{free_runs, scripted_runs}
use Rattle.asm_meaning.proofs.CallsAndUses.{lower}

module _ (spec : Spec) (good : IsWellFormed spec) where
  abbrev Below : Rule → Type 0
  Below P = CallsBelow (program_of spec) (rule_rank spec) nesting P

  body : (f : Name) (xs : List Name) (P : Rule) → declared (program_of spec) f ≡ Some (NamedRule xs P) → Below P
  body f xs P d =
      let low = rule_rank_low spec f good in
      lower (program_of spec) (rule_rank spec) (rule_rank spec f) nesting (omega arith) P (rules_ranked spec good f xs P d)

  body_of : (f : Name) (it : Option Declared) → declared (program_of spec) f ≡ it → Below (rule_body it)
  body_of f None d = tt
  body_of f (Some (Universe vs)) d = tt
  body_of f (Some (Enumerated v)) d = tt
  body_of f (Some (Controlled n domain)) d = tt
  body_of f (Some (Static domain table)) d = tt
  body_of f (Some (Derived xs t)) d = tt
  body_of f (Some (NamedRule xs P)) d = body f xs P d

  main : (names : List source.Name) → Below (main_rule spec names)
  main [] = tt
  main (x ∷ more) = body_of x.text (declared (program_of spec) x.text) refl

pub are_ranked : SpecificationsAreRanked
are_ranked spec good = record {
  rank = rule_rank spec;
  ranked = rules_ranked spec good;
  bodies = body spec good;
  main = main spec good (inits spec);
  rank_low = λ f. rule_rank_low spec f good;
  derived = derived_rank spec;
  derived_ranked = ranked spec good;
  derived_low = λ f. rank_low spec f good;
}

pub runs_are_free : SpecificationRunsAreFree
runs_are_free spec turns script steps good =
    let r = are_ranked spec good in
    let s = specification_of spec in
    scripted_runs s.program r.rank turns s.main script steps 1 s.initial r.ranked r.main

pub runs_have_scripts : SpecificationRunsHaveScripts
runs_have_scripts spec turns steps sets end last good is =
    let r = are_ranked spec good in
    let s = specification_of spec in
    free_runs s.program r.rank turns s.main steps 1 s.initial sets end last r.ranked r.main is
