use Rattle.std.proofs.Common.{◌+◌, ◌*◌, [], map, take, Some}
use Rattle.asm_state.specs.declared.value.Value.TheVariants.{Undef}
use Rattle.asm_syntax.specs.code.Views.{spec_of, term_of, links_of}
use Rattle.asm_syntax.specs.PlainTree.{plain_term, plain_links}
use Rattle.asm_syntax.specs.Tree as tree
use Rattle.asm_check.specs.Shapes.{shape_of}
use Rattle.asm_check.specs.declared.checked.NameNumber.TheVariants as number
use Rattle.asm_meaning.specs.Declarations.{numbered, program_of}
use Rattle.asm_meaning.specs.Program.{with_value}
use Rattle.asm_meaning.specs.code.TermValues.{program}
use Rattle.asm_meaning.specs.code.Weights.{weight}
use Rattle.asm_meaning.specs.code.TreeWeights.{term_weight, named_weight, body_weight, link_of}
use Rattle.asm_code.specs.code.CodeViews as code
use Rattle.asm_resolve.specs.code.ResolvedTerms.{AreResolvedLinks}
use Rattle.asm_resolve.specs.code.Scopes.{AreResolvedBodies, all_resolved, names_of, scope_environment}
use Rattle.asm_resolve.proofs.resolve.+resolve.Given as goal

abbrev pub decreases-resolve : goal.decreases-resolve
decreases-resolve l = 4 * term_weight (program l.checked.now) (scope_environment l.scope.now) l.term.now + 3

abbrev pub decreases-resolve_within : goal.decreases-resolve_within
decreases-resolve_within l = 4 * term_weight (program l.checked.now) (with_value l.name.now.text Undef (scope_environment l.scope.now)) l.term.now + 4

abbrev pub decreases-resolve_chain : goal.decreases-resolve_chain
decreases-resolve_chain l = 4 * weight (program l.checked.now) (scope_environment l.scope.now) (tree.Chain (plain_term (term_of l.first.now)) (plain_links (links_of (map link_of l.rest.now)))) + 2

abbrev pub decreases-resolve_name : goal.decreases-resolve_name
decreases-resolve_name l = 4 * named_weight (program l.checked.now) (scope_environment l.scope.now) l.name.now.text l.arguments.now + 2

abbrev pub decreases-resolve_function : goal.decreases-resolve_function
decreases-resolve_function l = 4 * named_weight (program l.checked.now) (scope_environment l.scope.now) l.name.now.text l.arguments.now + 1

abbrev pub decreases-resolve_all : goal.decreases-resolve_all
decreases-resolve_all l = 4 * named_weight (program l.checked.now) (scope_environment l.scope.now) l.name.now.text l.arguments.now

abbrev pub decreases-resolve_body : goal.decreases-resolve_body
decreases-resolve_body l = body_weight (program l.checked.now) (numbered (spec_of l.checked.now.spec) (Some (number.Derived l.d))) []

-- the links so far
abbrev pub invariant-resolve_chain-loop-operation : goal.invariant-resolve_chain-loop-operation
invariant-resolve_chain-loop-operation l = record {
  links : AreResolvedLinks (program_of (spec_of l.checked.spec)) (shape_of (spec_of l.checked.spec)) (names_of l.scope)
      (plain_links (links_of (map link_of (take l.operation-index l.rest)))) (code.links_of (map code.link_of l.links.items));
  bodies : AreResolvedBodies (spec_of l.checked.spec) l.bodies.items;
}

-- the arguments so far
abbrev pub invariant-resolve_all-loop-argument : goal.invariant-resolve_all-loop-argument
invariant-resolve_all-loop-argument l = record {
  codes : all_resolved l.checked l.scope (take l.argument-index l.arguments) l.codes.items;
  bodies : AreResolvedBodies (spec_of l.checked.spec) l.bodies.items;
}
