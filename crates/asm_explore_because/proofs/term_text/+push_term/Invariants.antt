use Rattle.std.proofs.Common.{◌≡◌, ◌++◌, map, drop}
use Rattle.std.specs.Prelude.{codes}
use Rattle.asm_syntax.specs.SourceTree.{terms_of}
use Rattle.asm_syntax.specs.code.Views.{term_of}
use Rattle.asm_explore_because.specs.PrintedTerms.{links_text, more_text, terms_text}
use Rattle.asm_explore_because.specs.code.CodedTerms.{links_in}
use Rattle.asm_explore_because.proofs.term_text.+push_term.Given as goal

abbrev pub invariant-push_links-loop-operation : goal.invariant-push_links-loop-operation
invariant-push_links-loop-operation l =
    l.line.items ++ links_text l.asked (links_in (drop l.operation-index l.rest)) ≡ l.fn.line.items ++ links_text l.asked (links_in l.rest)

abbrev pub invariant-push_terms-loop-i : goal.invariant-push_terms-loop-i
invariant-push_terms-loop-i l =
    l.line.items ++ (more_text (terms_of (map term_of (drop l.i l.terms))) ++ codes ")") ≡ l.fn.line.items ++ terms_text (terms_of (map term_of l.terms))
