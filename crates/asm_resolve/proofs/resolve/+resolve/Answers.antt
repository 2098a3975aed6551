use Rattle.std.proofs.Common.{[], ◌∷◌, ◌+◌, ◌≡◌, length, map, take, Some, refl, sym, ap, subst, ◌∙◌, arith}
use Rattle.std.specs.Prelude.{IfSome, slice_index_or}
use Rattle.std.specs.Arc.{arc_value}
use Rattle.std.proofs.lemmas.Grind.{common_steps}
use Rattle.std.proofs.lemmas.List.{take_all}
use Rattle.std.proofs.lemmas.Option.{slice_get-get_or}
use Rattle.asm_state.proofs.ValueLaws.{value_laws}
use Rattle.asm_state.specs.SignatureLimits.{Fits}
use Rattle.asm_state.specs.declared.operation.Op.TheVariants.{Not as not_op, Negate}
use Rattle.asm_state.specs.declared.value.Value.TheVariants.{Undef}
use Rattle.asm_syntax.specs.Tree as tree
use Rattle.asm_syntax.specs.PlainTree.{literal_value, plain_term, plain_terms, plain_links}
use Rattle.asm_syntax.specs.code.Views.{spec_of, term_of, terms_of, links_of}
use Rattle.asm_check.proofs.NumberLemmas.ShapeFits.{signature_fits}
use Rattle.asm_check.specs.code.numbers.NumberTables.{IsInRange}
use Rattle.asm_check.specs.Shapes.{shape_of}
use Rattle.asm_check.specs.declared.checked.NameNumber.TheVariants as number
use Rattle.asm_meaning.proofs.TreeWeights.{tree_weights-argument as argument_lighter, tree_weights-body as body_lighter}
use Rattle.asm_resolve.proofs.WeightsFall.{falls}
use Rattle.asm_meaning.specs.code.TreeWeights.{body_weight, link_of, term_weight}
use Rattle.asm_meaning.proofs.NumberedValues.{numbered_names-element as element_below, numbered_names-function as function_below, numbered_names-derived as numbered_derived, numbered_names-universe_undef as universe_undef, numbered_names-rule_undef as named_rule_undef}
use Rattle.asm_meaning.proofs.TreeWeights.{tree_weights-of_not as not_falls, tree_weights-negative as negative_falls}
use Rattle.asm_meaning.proofs.PlainForms.{plain_terms-constant as plain_constant, plain_terms-chain as plain_chain, plain_terms-of_not as plain_not, plain_terms-negative as plain_negative, plain_terms-exists as plain_exists, plain_terms-every as plain_every}
use Rattle.asm_meaning.specs.Declarations.{numbered, program_of}
use Rattle.asm_meaning.specs.Program.{with_value, bind_values}
use Rattle.asm_meaning.specs.code.TermValues.{program, declared_value}
use Rattle.asm_meaning.specs.code.Weights.{weight}
use Rattle.asm_code.specs.code.CodeTree as codes
use Rattle.asm_code.specs.code.CodeViews.{code_of, codes_of}
use Rattle.asm_code.specs.code.CodeViews as code_view
use Rattle.asm_code.specs.code.Readings.{reading}
use Rattle.asm_code.specs.code.SoundCodes.{IsSound}
use Rattle.asm_resolve.specs.code.FunctionCodes.{IsRead}
use Rattle.asm_state.specs.Operation.{op}
use Rattle.asm_code.specs.declared.code.Code.TheVariants as code
use Rattle.asm_code.proofs.CodeForms.{code_laws-constant_form as constant_form, code_laws-local_form as local_form, code_laws-with_form as with_form, code_laws-chain_form as chain_form, code_laws-exists_form as exists_form, code_laws-every_form as every_form}
use Rattle.asm_resolve.specs.code.ResolvedTerms.{IsResolved, AreResolvedLinks}
use Rattle.asm_resolve.specs.code.Scopes.{AreResolvedBodies, IsBody, all_resolved, chain_resolved as chain_has_code, named_resolved, names_of, scope_environment, slots_in, term_resolved}
use Rattle.asm_resolve.proofs.ResolvedLists.{as_resolved, if_both, if_ok, one_more, one_more_link, only_link, operand_falls, only_one, only_two, none_at_all}
use Rattle.asm_resolve.proofs.TermPasses.{local_resolved, function_resolved, derived_resolved, constant_resolved, literal_resolved, not_resolved, negative_resolved, chain_resolved, link_resolved, exists_resolved, every_resolved, exists_of_none, every_of_none}
use Rattle.asm_resolve.proofs.ScopeLaws.{scope_free, parameter_names}
use Rattle.asm_resolve.proofs.KeptBodies.{body_is}
use Rattle.asm_resolve.proofs.resolve.+resolve.Goals as goal

-- ---- terms

pub resolve-resolve_chain-requires : goal.resolve-resolve_chain-requires
resolve-resolve_chain-requires t c =
    let a = c.args in
    let whole = ap (weight (program a.checked.now) (scope_environment a.scope.now)) (plain_chain a.term.now c.in-Chain.first c.in-Chain.rest c.in-Chain.is) in
    let begin = ap (λ u. weight (program a.checked.now) (scope_environment a.scope.now) (tree.Chain (plain_term (term_of u)) (plain_links (links_of (map link_of c.as_slice-in-Chain.result.now))))) c.deref.ensures in
    let rest = ap (λ ls. weight (program a.checked.now) (scope_environment a.scope.now) (tree.Chain (plain_term (term_of c.in-Chain.first.value)) (plain_links (links_of (map link_of ls))))) c.as_slice-in-Chain.ensures.value in
    (omega (arith, c.decreases, whole, begin, rest), c.requires.bodies)

pub resolve-returns-in-Chain-clause-resolved : goal.resolve-returns-in-Chain-clause-resolved
resolve-returns-in-Chain-clause-resolved t c =
    let a = c.args in
    let spec = spec_of a.checked.now.spec in
    let is = plain_chain a.term.now c.in-Chain.first c.in-Chain.rest c.in-Chain.is
    ∙ ap (λ u. tree.Chain (plain_term (term_of u)) (plain_links (links_of (map link_of c.in-Chain.rest.items)))) (sym c.deref.ensures)
    ∙ ap (λ ls. tree.Chain (plain_term (term_of c.deref.result.now)) (plain_links (links_of (map link_of ls)))) (sym c.as_slice-in-Chain.ensures.value) in
    if_ok c.resolve_chain.result _ (term_resolved a.checked.now a.scope.now a.term.now)
    (λ k it. subst (λ u. IsResolved (program_of spec) (shape_of spec) (names_of a.scope.now) u (code_of k)) (sym is) it) c.resolve_chain.ensures.resolved

-- ---- chains

pub resolve_chain-resolve-requires : goal.resolve_chain-resolve-requires
resolve_chain-resolve-requires t c =
    let a = c.args in
    let it = (falls a.checked.now (scope_environment a.scope.now)).at_first (plain_term (term_of a.first.now)) (plain_links (links_of (map link_of a.rest.now))) in
    (omega (arith, c.decreases, it), c.requires.bodies)

pub resolve_chain-resolve-requires-then-rest-eq1 : goal.resolve_chain-resolve-requires-then-rest-eq1
resolve_chain-resolve-requires-then-rest-eq1 t c =
    let a = c.args in
    let it = operand_falls (program a.checked.now) _ (scope_environment a.scope.now) (falls a.checked.now (scope_environment a.scope.now)) (plain_term (term_of a.first.now)) a.rest.now 0 c.index-rest-0.result
    (omega (arith, c.if-rest-eq1.true)) c.index-rest-0.is in
    (omega (arith, c.decreases, it), c.in_ok-left.ensures.bodies)

pub resolve_chain-resolve-requires-in-loop-operation : goal.resolve_chain-resolve-requires-in-loop-operation
resolve_chain-resolve-requires-in-loop-operation t c =
    let a = c.args in
    let it = operand_falls (program a.checked.now) _ (scope_environment a.scope.now) (falls a.checked.now (scope_environment a.scope.now)) (plain_term (term_of a.first.now)) a.rest.now c.loop-operation.operation-index c.loop-operation-item.result
    c.loop-operation-test.true c.loop-operation-item.is in
    (omega (arith, c.decreases, it), c.loop-operation.invariant.bodies)

pub resolve_chain-resolve-requires-2 : goal.resolve_chain-resolve-requires-2
resolve_chain-resolve-requires-2 t c =
    let a = c.args in
    let it = (falls a.checked.now (scope_environment a.scope.now)).at_first (plain_term (term_of a.first.now)) (plain_links (links_of (map link_of a.rest.now))) in
    (omega (arith, c.decreases, it), c.loop-operation.invariant.bodies)

pub resolve_chain-returns-then-rest-eq1-clause-resolved : goal.resolve_chain-returns-then-rest-eq1-clause-resolved
resolve_chain-returns-then-rest-eq1-clause-resolved t c =
    let a = c.args in
    let spec = spec_of a.checked.now.spec in
    let shape = shape_of spec in
    let o = c.index-rest-0.result.0 in
    let left = code_of c.in_ok-left.left in
    let right = code_of c.in_ok-right.right in
    if_both c.make_link.result (λ k. IsSound shape left → IsSound shape right → IsSound shape (code_of k)) (λ rs A k. reading shape (code_of k) rs A ≡ op o (reading shape left rs A) (reading shape right rs A))
    (chain_has_code a.checked.now a.scope.now a.first.now a.rest.now) (c.make_link.ensures.sound shape) (c.make_link.ensures.reads shape)
    (λ k sound reads. only_link (program_of spec) shape (names_of a.scope.now) (plain_term (term_of a.first.now)) a.rest.now c.index-rest-0.result (code_of k) c.if-rest-eq1.true c.index-rest-0.is
    (link_resolved spec a.checked.now.well_formed (names_of a.scope.now) o (plain_term (term_of a.first.now)) (plain_term (term_of c.index-rest-0.result.1)) left right (code_of k)
    c.in_ok-left.ensures.resolved c.in_ok-right.ensures.resolved sound reads))

pub resolve_chain-returns-clause-resolved : goal.resolve_chain-returns-clause-resolved
resolve_chain-returns-clause-resolved t c =
    let a = c.args in
    let spec = spec_of a.checked.now.spec in
    let links = c.loop-operation.links in
    let are = subst (λ ls. AreResolvedLinks (program_of spec) (shape_of spec) (names_of a.scope.now) (plain_links (links_of (map link_of ls))) (code_view.links_of (map code_view.link_of links.items)))
    (take_all c.loop-operation.operation-index a.rest.now (omega arith)) c.loop-operation.invariant.links in
    as_resolved (program_of spec) (shape_of spec) (names_of a.scope.now) _ _ _ _ refl
    (chain_form (code.Chain c.in_ok-new.field-0 links) c.in_ok-new.field-0 links refl ∙ ap (λ k. codes.Chain (code_of k) (code_view.links_of (map code_view.link_of links.items))) c.in_ok-new.ensures.ok)
    (chain_resolved spec a.checked.now.well_formed (names_of a.scope.now) (plain_term (term_of a.first.now)) (code_of c.in_ok-begin.begin) c.in_ok-begin.ensures.resolved
    (plain_links (links_of (map link_of a.rest.now))) (code_view.links_of (map code_view.link_of links.items)) are)

pub resolve_chain-loop-operation-init : goal.resolve_chain-loop-operation-init
resolve_chain-loop-operation-init t c =
    let a = c.args in
    let spec = spec_of a.checked.now.spec in record {
      links = subst (λ ls. AreResolvedLinks (program_of spec) (shape_of spec) (names_of a.scope.now) tree.no_links (code_view.links_of (map code_view.link_of ls))) (sym c.in_ok-links.ensures.items) (tt {0});
      bodies = c.requires.bodies;
    }

pub resolve_chain-loop-operation-preserved : goal.resolve_chain-loop-operation-preserved
resolve_chain-loop-operation-preserved t c =
    let a = c.args in
    let spec = spec_of a.checked.now.spec in
    let more = one_more_link (program_of spec) (shape_of spec) (names_of a.scope.now) a.rest.now c.loop-operation.links.items c.loop-operation.operation-index c.loop-operation-item.result
    (c.loop-operation-item.result.0, c.in_ok-right-2.right) c.loop-operation-test.true c.loop-operation-item.is c.loop-operation.invariant.links refl c.in_ok-right-2.ensures.resolved in record {
      links = subst (λ ls. AreResolvedLinks (program_of spec) (shape_of spec) (names_of a.scope.now) (plain_links (links_of (map link_of (take (c.loop-operation.operation-index + 1) a.rest.now)))) (code_view.links_of (map code_view.link_of ls)))
          (sym c.in_ok-push.ensures.items) more;
      bodies = c.in_ok-right-2.ensures.bodies;
    }

pub resolve-resolve-requires : goal.resolve-resolve-requires
resolve-resolve-requires t c =
    let a = c.args in
    let it = not_falls a.checked.now (scope_environment a.scope.now) a.term.now c.in-Not.inner c.in-Not.is c.deref-in-Not.result.now c.deref-in-Not.ensures in
    (omega (arith, c.decreases, it), c.requires.bodies)

pub resolve-resolve-requires-in-Negative : goal.resolve-resolve-requires-in-Negative
resolve-resolve-requires-in-Negative t c =
    let a = c.args in
    let it = negative_falls a.checked.now (scope_environment a.scope.now) a.term.now c.in-Negative.inner c.in-Negative.is c.deref-in-Negative.result.now c.deref-in-Negative.ensures in
    (omega (arith, c.decreases, it), c.requires.bodies)

pub resolve-resolve_within-requires : goal.resolve-resolve_within-requires
resolve-resolve_within-requires t c =
    let a = c.args in
    let it = (falls a.checked.now (scope_environment a.scope.now)).at_exists c.in-Exists.name.text c.in-Exists.over.text (plain_term (term_of c.in-Exists.test.value)) Undef in
    let whole = ap (weight (program a.checked.now) (scope_environment a.scope.now)) (plain_exists a.term.now c.in-Exists.name c.in-Exists.over c.in-Exists.test c.in-Exists.is) in
    let same = ap (λ t. weight (program a.checked.now) (with_value c.in-Exists.name.text Undef (scope_environment a.scope.now)) (plain_term (term_of t))) c.deref-in-Some.ensures in
    (omega (arith, c.decreases, it, whole, same), c.requires.bodies)

pub resolve-resolve_within-requires-in-Some-universe_numbered : goal.resolve-resolve_within-requires-in-Some-universe_numbered
resolve-resolve_within-requires-in-Some-universe_numbered t c =
    let a = c.args in
    let it = (falls a.checked.now (scope_environment a.scope.now)).at_every c.in-Every.name.text c.in-Every.over.text (plain_term (term_of c.in-Every.test.value)) Undef in
    let whole = ap (weight (program a.checked.now) (scope_environment a.scope.now)) (plain_every a.term.now c.in-Every.name c.in-Every.over c.in-Every.test c.in-Every.is) in
    let same = ap (λ t. weight (program a.checked.now) (with_value c.in-Every.name.text Undef (scope_environment a.scope.now)) (plain_term (term_of t))) c.deref-in-Some-universe_numbered.ensures in
    (omega (arith, c.decreases, it, whole, same), c.requires.bodies)

pub resolve_within-resolve-requires : goal.resolve_within-resolve-requires
resolve_within-resolve-requires t c = (omega (arith, c.decreases), c.requires.bodies)

pub resolve-returns-in-Constant-clause-resolved : goal.resolve-returns-in-Constant-clause-resolved
resolve-returns-in-Constant-clause-resolved t c =
    let a = c.args in
    let spec = spec_of a.checked.now.spec in
    as_resolved (program_of spec) (shape_of spec) (names_of a.scope.now) _ _ _ _ (plain_constant a.term.now c.in-Constant.literal c.in-Constant.is)
    (constant_form (code.Constant c.value.result) c.value.result refl ∙ ap codes.Constant c.value.ensures) (literal_resolved spec a.checked.now.well_formed (names_of a.scope.now) (literal_value c.in-Constant.literal))

pub resolve-returns-in_ok-new-in-Not-clause-resolved : goal.resolve-returns-in_ok-new-in-Not-clause-resolved
resolve-returns-in_ok-new-in-Not-clause-resolved t c =
    let a = c.args in
    let spec = spec_of a.checked.now.spec in
    as_resolved (program_of spec) (shape_of spec) (names_of a.scope.now) _ _ _ _ (plain_not a.term.now c.in-Not.inner c.in-Not.is ∙ ap (λ t. tree.Not (plain_term (term_of t))) (sym c.deref-in-Not.ensures))
    (with_form (code.With not_op c.in_ok-new-in-Not.field-0 c.undef.result) not_op c.in_ok-new-in-Not.field-0 c.undef.result refl ∙ (λ i. codes.With not_op (code_of (c.in_ok-new-in-Not.ensures.ok i)) (c.undef.ensures i)))
    (not_resolved spec a.checked.now.well_formed (names_of a.scope.now) _ _ c.in_ok-inner-in-Not.ensures.resolved)

pub resolve-returns-in_ok-new-in-Negative-clause-resolved : goal.resolve-returns-in_ok-new-in-Negative-clause-resolved
resolve-returns-in_ok-new-in-Negative-clause-resolved t c =
    let a = c.args in
    let spec = spec_of a.checked.now.spec in
    as_resolved (program_of spec) (shape_of spec) (names_of a.scope.now) _ _ _ _ (plain_negative a.term.now c.in-Negative.inner c.in-Negative.is ∙ ap (λ t. tree.Negative (plain_term (term_of t))) (sym c.deref-in-Negative.ensures))
    (with_form (code.With Negate c.in_ok-new-in-Negative.field-0 c.undef-in-Negative.result) Negate c.in_ok-new-in-Negative.field-0 c.undef-in-Negative.result refl ∙ (λ i. codes.With Negate (code_of (c.in_ok-new-in-Negative.ensures.ok i)) (c.undef-in-Negative.ensures i)))
    (negative_resolved spec a.checked.now.well_formed (names_of a.scope.now) _ _ c.in_ok-inner-in-Negative.ensures.resolved)

pub resolve-returns-in-None-clause-resolved : goal.resolve-returns-in-None-clause-resolved
resolve-returns-in-None-clause-resolved t c =
    let a = c.args in
    let spec = spec_of a.checked.now.spec in
    as_resolved (program_of spec) (shape_of spec) (names_of a.scope.now) _ _ _ _ (plain_exists a.term.now c.in-Exists.name c.in-Exists.over c.in-Exists.test c.in-Exists.is)
    (constant_form (code.Constant c.truth.result) c.truth.result refl ∙ ap codes.Constant c.truth.ensures) (exists_of_none spec a.checked.now.well_formed (names_of a.scope.now) c.in-Exists.name.text c.in-Exists.over.text (plain_term (term_of c.in-Exists.test.value)) c.in-None.ensures.none)

pub resolve-returns-in_ok-test-in-Some-clause-resolved : goal.resolve-returns-in_ok-test-in-Some-clause-resolved
resolve-returns-in_ok-test-in-Some-clause-resolved t c =
    let a = c.args in
    let spec = spec_of a.checked.now.spec in
    let n = c.in-Some.over in
    as_resolved (program_of spec) (shape_of spec) (names_of a.scope.now) _ _ _ _
    (plain_exists a.term.now c.in-Exists.name c.in-Exists.over c.in-Exists.test c.in-Exists.is ∙ ap (λ t. tree.Exists c.in-Exists.name.text c.in-Exists.over.text (plain_term (term_of t))) (sym c.deref-in-Some.ensures))
    (exists_form (code.Exists n c.in_ok-test-in-Some.test) n c.in_ok-test-in-Some.test refl)
    (exists_resolved spec a.checked.now.well_formed (names_of a.scope.now) c.in-Exists.name.text c.in-Exists.over.text _ n _ c.in-Some.ensures.number
    (slice_index_or (shape_of spec).universes n []) (slice_get-get_or (shape_of spec).universes n [] c.in-Some.ensures.known) c.in_ok-test-in-Some.ensures.resolved)

pub resolve-returns-in-None-universe_numbered-clause-resolved : goal.resolve-returns-in-None-universe_numbered-clause-resolved
resolve-returns-in-None-universe_numbered-clause-resolved t c =
    let a = c.args in
    let spec = spec_of a.checked.now.spec in
    as_resolved (program_of spec) (shape_of spec) (names_of a.scope.now) _ _ _ _ (plain_every a.term.now c.in-Every.name c.in-Every.over c.in-Every.test c.in-Every.is)
    (constant_form (code.Constant c.truth-in-None-universe_numbered.result) c.truth-in-None-universe_numbered.result refl ∙ ap codes.Constant c.truth-in-None-universe_numbered.ensures) (every_of_none spec a.checked.now.well_formed (names_of a.scope.now) c.in-Every.name.text c.in-Every.over.text (plain_term (term_of c.in-Every.test.value)) c.in-None-universe_numbered.ensures.none)

pub resolve-returns-in_ok-test-in-Some-universe_numbered-clause-resolved : goal.resolve-returns-in_ok-test-in-Some-universe_numbered-clause-resolved
resolve-returns-in_ok-test-in-Some-universe_numbered-clause-resolved t c =
    let a = c.args in
    let spec = spec_of a.checked.now.spec in
    let n = c.in-Some-universe_numbered.over in
    as_resolved (program_of spec) (shape_of spec) (names_of a.scope.now) _ _ _ _
    (plain_every a.term.now c.in-Every.name c.in-Every.over c.in-Every.test c.in-Every.is ∙ ap (λ t. tree.Every c.in-Every.name.text c.in-Every.over.text (plain_term (term_of t))) (sym c.deref-in-Some-universe_numbered.ensures))
    (every_form (code.Every n c.in_ok-test-in-Some-universe_numbered.test) n c.in_ok-test-in-Some-universe_numbered.test refl)
    (every_resolved spec a.checked.now.well_formed (names_of a.scope.now) c.in-Every.name.text c.in-Every.over.text _ n _ c.in-Some-universe_numbered.ensures.number
    (slice_index_or (shape_of spec).universes n []) (slice_get-get_or (shape_of spec).universes n [] c.in-Some-universe_numbered.ensures.known) c.in_ok-test-in-Some-universe_numbered.ensures.resolved)

-- ---- under one more name

pub resolve_within-returns-clause-resolved : goal.resolve_within-returns-clause-resolved
resolve_within-returns-clause-resolved t c =
    let a = c.args in
    let spec = spec_of a.checked.now.spec in
    subst (λ k. IsResolved (program_of spec) (shape_of spec) (a.name.now.text ∷ names_of a.scope.now) (plain_term (term_of a.term.now)) (code_of k)) (sym c.in_ok-new.ensures.ok) c.in_ok-code.ensures.resolved

-- ---- arguments

pub resolve_all-resolve-requires : goal.resolve_all-resolve-requires
resolve_all-resolve-requires t c =
    let a = c.args in
    let it = argument_lighter a.checked.now (scope_environment a.scope.now) a.name.now.text a.arguments.now c.loop-argument.argument-index c.argument-item.result (omega arith) c.argument-item.is in
    (omega (arith, c.decreases, it), c.loop-argument.invariant.bodies)

pub resolve_all-loop-argument-preserved : goal.resolve_all-loop-argument-preserved
resolve_all-loop-argument-preserved t c =
    let a = c.args in
    let spec = spec_of a.checked.now.spec in
    let more = one_more (program_of spec) (shape_of spec) (names_of a.scope.now) a.arguments.now c.loop-argument.codes.items c.loop-argument.argument-index c.argument-item.result c.in_ok-resolve.field-0
    (omega arith) c.argument-item.is c.loop-argument.invariant.codes c.in_ok-resolve.ensures.resolved in record {
      codes = subst (λ ks. all_resolved a.checked.now a.scope.now (take (c.loop-argument.argument-index + 1) a.arguments.now) ks) (sym c.in_ok-push.ensures.items) more;
      bodies = c.in_ok-resolve.ensures.bodies;
    }

-- ---- bodies

pub resolve_body-known_body-requires : goal.resolve_body-known_body-requires
resolve_body-known_body-requires t c = omega (arith, c.requires.known, c.requires.bodies.as_many, ap length c.as_slice.ensures.value)

pub resolve_body-keep-requires : goal.resolve_body-keep-requires
resolve_body-keep-requires t c = omega (arith, c.requires.known, c.in_ok-code.ensures.bodies.as_many)

pub resolve_body-returns-in-Some-clause-body : goal.resolve_body-returns-in-Some-clause-body
resolve_body-returns-in-Some-clause-body t c =
    let spec = spec_of c.args.checked.now.spec in
    subst (λ o. IfSome o (λ k. IsBody spec c.args.d (code_of (arc_value k)))) c.in-Some.is (c.in_ok-body.ensures spec (subst (AreResolvedBodies spec) (sym c.as_slice.ensures.value) c.requires.bodies))

pub resolve_body-resolve-requires : goal.resolve_body-resolve-requires
resolve_body-resolve-requires t c =
    let a = c.args in
    let stands = numbered_derived (spec_of a.checked.now.spec) (Some (number.Derived a.d)) a.d c.derived.result.0.now c.derived.result.1.now refl c.derived.ensures in
    let it = ap (λ it. body_weight (program a.checked.now) it []) stands in
    let scope = ap (λ ns. term_weight (program a.checked.now) (bind_values ns []) c.derived.result.1.now) (parameter_names (slots_in c.in_ok-parameters.parameters) c.derived.result.0.now c.in_ok-parameters.ensures) in
    (omega (arith, c.decreases, it, scope), c.requires.bodies)

pub resolve_body-returns-clause-body : goal.resolve_body-returns-clause-body
resolve_body-returns-clause-body t c =
    let a = c.args in
    body_is (spec_of a.checked.now.spec) a.d c.derived.result.0.now c.derived.result.1.now c.derived.ensures (slots_in c.in_ok-parameters.parameters) c.in_ok-parameters.ensures
    c.in_ok-code.code (arc_value c.in_ok-body-2.body) c.in_ok-body-2.ensures.ok c.in_ok-code.ensures.resolved

pub resolve_body-returns-clause-bodies : goal.resolve_body-returns-clause-bodies
resolve_body-returns-clause-bodies t c =
    let a = c.args in
    c.keep.ensures (spec_of a.checked.now.spec) c.in_ok-code.ensures.bodies
    (body_is (spec_of a.checked.now.spec) a.d c.derived.result.0.now c.derived.result.1.now c.derived.ensures (slots_in c.in_ok-parameters.parameters) c.in_ok-parameters.ensures
    c.in_ok-code.code (arc_value c.in_ok-kept.kept) (c.in_ok-kept.ensures ∙ c.in_ok-body-2.ensures.ok) c.in_ok-code.ensures.resolved)

-- ---- functions

pub resolve_function-make_cell-requires-clause-fits : goal.resolve_function-make_cell-requires-clause-fits
resolve_function-make_cell-requires-clause-fits t c = subst Fits (sym c.signature-signature.ensures) (signature_fits (spec_of c.args.checked.now.spec) c.args.checked.now.well_formed)

pub resolve_function-returns-then-is_empty-clause-resolved : goal.resolve_function-returns-then-is_empty-clause-resolved
resolve_function-returns-then-is_empty-clause-resolved t c =
    let a = c.args in
    let spec = spec_of a.checked.now.spec in
    let none : length a.arguments.now ≡ 0 = grind (arith, common_steps, sym c.is_empty.ensures ∙ c.if-is_empty.true) in
    function_resolved spec a.checked.now.well_formed (names_of a.scope.now) a.name.now.text (plain_terms (terms_of (map term_of a.arguments.now))) a.f c.requires.free c.requires.stands codes.no_codes (code_of c.make_cell.result)
    (none_at_all (program_of spec) (shape_of spec) (names_of a.scope.now) a.arguments.now none) (subst (λ s. IsRead s a.f codes.no_codes (code_of c.make_cell.result)) c.signature-signature.ensures c.make_cell.ensures)

pub resolve_function-resolve-requires : goal.resolve_function-resolve-requires
resolve_function-resolve-requires t c =
    let a = c.args in
    let it = argument_lighter a.checked.now (scope_environment a.scope.now) a.name.now.text a.arguments.now 0 c.index-arguments-0.result (omega (arith, c.if-arguments-eq1.true)) c.index-arguments-0.is in
    (omega (arith, c.decreases, it), c.requires.bodies)

pub resolve_function-make_row-requires-clause-fits : goal.resolve_function-make_row-requires-clause-fits
resolve_function-make_row-requires-clause-fits t c = subst Fits (sym c.signature-signature.ensures) (signature_fits (spec_of c.args.checked.now.spec) c.args.checked.now.well_formed)

pub resolve_function-returns-then-arguments-eq1-clause-resolved : goal.resolve_function-returns-then-arguments-eq1-clause-resolved
resolve_function-returns-then-arguments-eq1-clause-resolved t c =
    let a = c.args in
    let spec = spec_of a.checked.now.spec in
    let are = only_one (program_of spec) (shape_of spec) (names_of a.scope.now) a.arguments.now c.index-arguments-0.result c.in_ok-argument.argument c.if-arguments-eq1.true c.index-arguments-0.is c.in_ok-argument.ensures.resolved in
    if_ok c.make_row.result _ (named_resolved a.checked.now a.scope.now a.name.now.text a.arguments.now)
    (λ k read. function_resolved spec a.checked.now.well_formed (names_of a.scope.now) a.name.now.text (plain_terms (terms_of (map term_of a.arguments.now))) a.f c.requires.free c.requires.stands
    (codes.code_then (code_of c.in_ok-argument.argument) codes.no_codes) (code_of k) are
    (subst (λ s. IsRead s a.f (codes.code_then (code_of c.in_ok-argument.argument) codes.no_codes) (code_of k)) c.signature-signature.ensures read)) c.make_row.ensures

pub resolve_function-resolve-requires-then-arguments-eq2 : goal.resolve_function-resolve-requires-then-arguments-eq2
resolve_function-resolve-requires-then-arguments-eq2 t c =
    let a = c.args in
    let it = argument_lighter a.checked.now (scope_environment a.scope.now) a.name.now.text a.arguments.now 0 c.index-arguments-0-then-arguments-eq2.result (omega (arith, c.if-arguments-eq2.true)) c.index-arguments-0-then-arguments-eq2.is in
    (omega (arith, c.decreases, it), c.requires.bodies)

pub resolve_function-resolve-requires-then-arguments-eq2-2 : goal.resolve_function-resolve-requires-then-arguments-eq2-2
resolve_function-resolve-requires-then-arguments-eq2-2 t c =
    let a = c.args in
    let it = argument_lighter a.checked.now (scope_environment a.scope.now) a.name.now.text a.arguments.now 1 c.index-arguments-1.result (omega (arith, c.if-arguments-eq2.true)) c.index-arguments-1.is in
    (omega (arith, c.decreases, it), c.in_ok-row.ensures.bodies)

pub resolve_function-make_grid-requires-clause-fits : goal.resolve_function-make_grid-requires-clause-fits
resolve_function-make_grid-requires-clause-fits t c = subst Fits (sym c.signature-signature.ensures) (signature_fits (spec_of c.args.checked.now.spec) c.args.checked.now.well_formed)

pub resolve_function-returns-then-arguments-eq2-clause-resolved : goal.resolve_function-returns-then-arguments-eq2-clause-resolved
resolve_function-returns-then-arguments-eq2-clause-resolved t c =
    let a = c.args in
    let spec = spec_of a.checked.now.spec in
    let two = codes.code_then (code_of c.in_ok-row.row) (codes.code_then (code_of c.in_ok-column.column) codes.no_codes) in
    let are = only_two (program_of spec) (shape_of spec) (names_of a.scope.now) a.arguments.now c.index-arguments-0-then-arguments-eq2.result c.index-arguments-1.result c.in_ok-row.row c.in_ok-column.column c.if-arguments-eq2.true
    c.index-arguments-0-then-arguments-eq2.is c.index-arguments-1.is c.in_ok-row.ensures.resolved c.in_ok-column.ensures.resolved in
    if_ok c.make_grid.result _ (named_resolved a.checked.now a.scope.now a.name.now.text a.arguments.now)
    (λ k read. function_resolved spec a.checked.now.well_formed (names_of a.scope.now) a.name.now.text (plain_terms (terms_of (map term_of a.arguments.now))) a.f c.requires.free c.requires.stands
    two (code_of k) are (subst (λ s. IsRead s a.f two (code_of k)) c.signature-signature.ensures read)) c.make_grid.ensures

pub resolve_function-make_function-requires-clause-fits : goal.resolve_function-make_function-requires-clause-fits
resolve_function-make_function-requires-clause-fits t c = subst Fits (sym c.signature-signature.ensures) (signature_fits (spec_of c.args.checked.now.spec) c.args.checked.now.well_formed)

pub resolve_function-returns-clause-resolved : goal.resolve_function-returns-clause-resolved
resolve_function-returns-clause-resolved t c =
    let a = c.args in
    let spec = spec_of a.checked.now.spec in
    let cs = codes_of (map code_of c.in_ok-arguments.arguments.items) in
    function_resolved spec a.checked.now.well_formed (names_of a.scope.now) a.name.now.text (plain_terms (terms_of (map term_of a.arguments.now))) a.f c.requires.free c.requires.stands
    cs (code_of c.make_function.result) c.in_ok-arguments.ensures.resolved (subst (λ s. IsRead s a.f cs (code_of c.make_function.result)) c.signature-signature.ensures c.make_function.ensures)

-- ---- names

pub resolve_name-returns-in-Some-clause-resolved : goal.resolve_name-returns-in-Some-clause-resolved
resolve_name-returns-in-Some-clause-resolved t c =
    let a = c.args in
    let spec = spec_of a.checked.now.spec in
    as_resolved (program_of spec) (shape_of spec) (names_of a.scope.now) _ _ _ _ refl (local_form (code.Local c.in-Some.i) c.in-Some.i refl)
    (local_resolved spec a.checked.now.well_formed (names_of a.scope.now) a.name.now.text (plain_terms (terms_of (map term_of a.arguments.now))) c.in-Some.i (sym c.in_ok-i.ensures ∙ c.in-Some.is))

pub resolve_name-resolve_function-requires : goal.resolve_name-resolve_function-requires
resolve_name-resolve_function-requires t c =
    let a = c.args in
    let spec = spec_of a.checked.now.spec in
    let is = c.in-Some-Function.is ∙ ap Some c.in-Some-Function.field-0-is in (
      omega (arith, c.decreases),
      (
        c.requires.bodies,
        (
          sym c.in_ok-i.ensures ∙ c.in_default.is,
          (
            sym is ∙ c.named_text.ensures.named,
            function_below spec (shape_of spec) c.named_text.result c.in-Some-Function.f a.checked.now.well_formed refl c.named_text.ensures.in_range is,
          ),
        ),
      ),
    )

pub resolve_name-overflow_cast-e : goal.resolve_name-overflow_cast-e
resolve_name-overflow_cast-e t c =
    let low = element_below (spec_of c.args.checked.now.spec) c.named_text.result c.in-Some-Element.e c.args.checked.now.well_formed c.named_text.ensures.in_range (c.in-Some-Element.is ∙ ap Some c.in-Some-Element.field-0-is) in
    omega (arith, low)

pub resolve_name-invariant_of-of : goal.resolve_name-invariant_of-of
resolve_name-invariant_of-of t c = record {
  in_range = element_below (spec_of c.args.checked.now.spec) c.named_text.result c.in-Some-Element.e c.args.checked.now.well_formed c.named_text.ensures.in_range (c.in-Some-Element.is ∙ ap Some c.in-Some-Element.field-0-is);
}

pub resolve_name-resolve_body-requires : goal.resolve_name-resolve_body-requires
resolve_name-resolve_body-requires t c =
    let a = c.args in
    let spec = spec_of a.checked.now.spec in
    let is = c.in-Some-Derived.is ∙ ap Some c.in-Some-Derived.field-0-is in
    let it = body_lighter a.checked.now (scope_environment a.scope.now) a.name.now.text a.arguments.now (Some (number.Derived c.in-Some-Derived.d)) []
    (scope_free (program a.checked.now) a.scope.now a.name.now.text (sym c.in_ok-i.ensures ∙ c.in_default.is)) (sym is ∙ c.named_text.ensures.named) in
    (omega (arith, c.decreases, it), (c.requires.bodies, subst (IsInRange spec) is c.named_text.ensures.in_range))

pub resolve_name-returns-in-Some-Element-clause-resolved : goal.resolve_name-returns-in-Some-Element-clause-resolved
resolve_name-returns-in-Some-Element-clause-resolved t c =
    let a = c.args in
    let spec = spec_of a.checked.now.spec in
    let is = c.in-Some-Element.is ∙ ap Some c.in-Some-Element.field-0-is in
    as_resolved (program_of spec) (shape_of spec) (names_of a.scope.now) _ _ _ _ refl (constant_form (code.Constant c.of.result) c.of.result refl ∙ ap codes.Constant c.of.ensures)
    (constant_resolved spec a.checked.now.well_formed (names_of a.scope.now) a.name.now.text (plain_terms (terms_of (map term_of a.arguments.now))) (Some (number.Element c.in-Some-Element.e)) _
    (sym c.in_ok-i.ensures ∙ c.in_default.is) (sym is ∙ c.named_text.ensures.named) (λ A vs. value_laws.element_at c.in-Some-Element.e _ refl))

pub resolve_name-returns-in_ok-arguments-in-Some-Derived-clause-resolved : goal.resolve_name-returns-in_ok-arguments-in-Some-Derived-clause-resolved
resolve_name-returns-in_ok-arguments-in-Some-Derived-clause-resolved t c =
    let a = c.args in
    let spec = spec_of a.checked.now.spec in
    let is = c.in-Some-Derived.is ∙ ap Some c.in-Some-Derived.field-0-is in
    let body = c.in_ok-body-in-Some-Derived.ensures.body in
    let b = c.in_ok-body-in-Some-Derived.body in
    let cs = c.in_ok-arguments-in-Some-Derived.arguments in
    if_ok c.make_derived.result (λ k. code_of k ≡ codes.Derived (code_of (arc_value b)) (codes_of (map code_of cs.items))) _
    (λ k form. as_resolved (program_of spec) (shape_of spec) (names_of a.scope.now) _ _ _ _ refl form
    (derived_resolved spec a.checked.now.well_formed (names_of a.scope.now) a.name.now.text (plain_terms (terms_of (map term_of a.arguments.now))) c.in-Some-Derived.d (sym c.in_ok-i.ensures ∙ c.in_default.is)
    (sym is ∙ c.named_text.ensures.named) body.parameters body.body body.stands (code_of (arc_value b)) body.resolved (codes_of (map code_of cs.items)) c.in_ok-arguments-in-Some-Derived.ensures.resolved))
    c.make_derived.ensures

pub resolve_name-returns-in-Some-Universe-clause-resolved : goal.resolve_name-returns-in-Some-Universe-clause-resolved
resolve_name-returns-in-Some-Universe-clause-resolved t c =
    let a = c.args in
    let spec = spec_of a.checked.now.spec in
    let is = c.in-Some-Universe.is ∙ ap Some c.in-Some-Universe.field-0-is in
    as_resolved (program_of spec) (shape_of spec) (names_of a.scope.now) _ _ _ _ refl (constant_form (code.Constant c.undef.result) c.undef.result refl ∙ ap codes.Constant c.undef.ensures)
    (constant_resolved spec a.checked.now.well_formed (names_of a.scope.now) a.name.now.text (plain_terms (terms_of (map term_of a.arguments.now))) c.named_text.result Undef
    (sym c.in_ok-i.ensures ∙ c.in_default.is) c.named_text.ensures.named (λ A vs. universe_undef (program_of spec) A vs spec c.in-Some-Universe.field-0-0 ∙ ap (λ it. declared_value (program_of spec) A (numbered spec it) vs) (sym is)))

pub resolve_name-returns-in-Some-Rule-clause-resolved : goal.resolve_name-returns-in-Some-Rule-clause-resolved
resolve_name-returns-in-Some-Rule-clause-resolved t c =
    let a = c.args in
    let spec = spec_of a.checked.now.spec in
    let is = c.in-Some-Rule.is ∙ ap Some c.in-Some-Rule.field-0-is in
    as_resolved (program_of spec) (shape_of spec) (names_of a.scope.now) _ _ _ _ refl (constant_form (code.Constant c.undef-in-Some-Rule.result) c.undef-in-Some-Rule.result refl ∙ ap codes.Constant c.undef-in-Some-Rule.ensures)
    (constant_resolved spec a.checked.now.well_formed (names_of a.scope.now) a.name.now.text (plain_terms (terms_of (map term_of a.arguments.now))) c.named_text.result Undef
    (sym c.in_ok-i.ensures ∙ c.in_default.is) c.named_text.ensures.named (λ A vs. named_rule_undef (program_of spec) A vs spec c.in-Some-Rule.field-0-0 ∙ ap (λ it. declared_value (program_of spec) A (numbered spec it) vs) (sym is)))

pub resolve_name-returns-in-None-clause-resolved : goal.resolve_name-returns-in-None-clause-resolved
resolve_name-returns-in-None-clause-resolved t c =
    let a = c.args in
    let spec = spec_of a.checked.now.spec in
    let is = c.in-None.is in
    as_resolved (program_of spec) (shape_of spec) (names_of a.scope.now) _ _ _ _ refl (constant_form (code.Constant c.undef-in-None.result) c.undef-in-None.result refl ∙ ap codes.Constant c.undef-in-None.ensures)
    (constant_resolved spec a.checked.now.well_formed (names_of a.scope.now) a.name.now.text (plain_terms (terms_of (map term_of a.arguments.now))) c.named_text.result Undef
    (sym c.in_ok-i.ensures ∙ c.in_default.is) c.named_text.ensures.named (λ A vs. ap (λ it. declared_value (program_of spec) A (numbered spec it) vs) (sym is)))
