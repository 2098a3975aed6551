use Rattle.std.proofs.Common.{◌≡◌, ◌++◌, map, drop}
use Rattle.asm_check.specs.code.uses.UseViews.{use_of}
use Rattle.asm_check.specs.code.uses.UseCollector.{binders_of, parameters_of}
use Rattle.asm_syntax.specs.code.Views.{term_of, terms_of, links_of}
use Rattle.asm_check.specs.Names.{uses_of_terms, uses_of_links}
use Rattle.asm_check.specs.code.uses.UseCollector.{bound_of}
use Rattle.asm_check.proofs.uses.collector.Collector.+term_uses.Given as goal

abbrev pub invariant-links-loop-term : goal.invariant-links-loop-term
invariant-links-loop-term l = record {
  found : map use_of l.self.found.items ++ uses_of_links (links_of (map (λ k. (k.0, term_of k.1)) (drop l.term-index l.term-items))) (bound_of l.fn.self) ≡ map use_of l.fn.self.found.items ++ uses_of_links (links_of (map (λ k. (k.0, term_of k.1)) l.fn.links.items)) (bound_of l.fn.self);
  binders : binders_of l.self ≡ binders_of l.fn.self;
  parameters : parameters_of l.self ≡ parameters_of l.fn.self;
}

abbrev pub invariant-terms-loop-term : goal.invariant-terms-loop-term
invariant-terms-loop-term l = record {
  found : map use_of l.self.found.items ++ uses_of_terms (terms_of (map term_of (drop l.term-index l.term-items))) (bound_of l.fn.self) ≡ map use_of l.fn.self.found.items ++ uses_of_terms (terms_of (map term_of l.fn.terms.items)) (bound_of l.fn.self);
  binders : binders_of l.self ≡ binders_of l.fn.self;
  parameters : parameters_of l.self ≡ parameters_of l.fn.self;
}
