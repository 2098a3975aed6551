use Rattle.std.proofs.Common.{◌≡◌, ◌+◌, ◌*◌, [], ◌∷◌, length}
use Rattle.asm_syntax.specs.declared.token.Kind.TheVariants.{Symbol}
use Rattle.asm_syntax.specs.declared.token.Symbol.TheVariants.{Comma}
use Rattle.asm_syntax.specs.code.Views.{term_of}
use Rattle.asm_reader.specs.Kinds.{keys}
use Rattle.asm_reader.specs.code.ViewsOfParts.{link_of}
use Rattle.asm_reader.specs.code.Steps.{below, each_of, repeated_of, past_of}
use Rattle.asm_reader.specs.code.TermReading.{table_of, link_at, term_at}
use Rattle.asm_reader.proofs.Loops.{with_front}
use Rattle.asm_reader.proofs.Precedences.{operand_rank}
use Rattle.asm_reader.proofs.parser.Parser.+terms.Given as goal

abbrev pub decreases-arguments : goal.decreases-arguments
decreases-arguments l = l.levels * 40

abbrev pub decreases-parenthesized : goal.decreases-parenthesized
decreases-parenthesized l = l.levels * 40

abbrev pub decreases-applied : goal.decreases-applied
decreases-applied l = l.levels * 40 + 1

abbrev pub decreases-primary : goal.decreases-primary
decreases-primary l = l.levels * 40 + 2

abbrev pub decreases-factor : goal.decreases-factor
decreases-factor l = l.levels * 40 + 3

abbrev pub decreases-operand : goal.decreases-operand
decreases-operand l = l.levels * 40 + operand_rank l.of

abbrev pub decreases-chain : goal.decreases-chain
decreases-chain l = l.levels * 40 + operand_rank l.of + 4

abbrev pub decreases-links : goal.decreases-links
decreases-links l = l.levels * 40 + operand_rank l.of + 1

abbrev pub decreases-longer_chain : goal.decreases-longer_chain
decreases-longer_chain l = l.levels * 40 + operand_rank l.of + 2

abbrev pub decreases-chain_from : goal.decreases-chain_from
decreases-chain_from l = l.levels * 40 + operand_rank l.of + 3

abbrev pub decreases-other_side : goal.decreases-other_side
decreases-other_side l = l.levels * 40 + 14

abbrev pub decreases-longer_comparison : goal.decreases-longer_comparison
decreases-longer_comparison l = l.levels * 40 + 15

abbrev pub decreases-compared : goal.decreases-compared
decreases-compared l = l.levels * 40 + 16

abbrev pub decreases-comparison : goal.decreases-comparison
decreases-comparison l = l.levels * 40 + 17

abbrev pub decreases-negation : goal.decreases-negation
decreases-negation l = l.levels * 40 + 18

abbrev pub decreases-term_from : goal.decreases-term_from
decreases-term_from l = l.levels * 40 + 28

abbrev pub decreases-term : goal.decreases-term
decreases-term l = l.levels * 40 + 29

abbrev pub decreases-next_term : goal.decreases-next_term
decreases-next_term l = l.levels * 40 + 30

abbrev pub decreases-terms : goal.decreases-terms
decreases-terms l = l.levels * 40 + 31

abbrev pub decreases-quantified : goal.decreases-quantified
decreases-quantified l = l.levels * 40 + 30

abbrev pub decreases-exists : goal.decreases-exists
decreases-exists l = l.levels * 40 + 31

abbrev pub decreases-every : goal.decreases-every
decreases-every l = l.levels * 40 + 31

abbrev pub decreases-inner : goal.decreases-inner
decreases-inner l = l.levels * 40 + 32

abbrev pub invariant-terms-loop-self : goal.invariant-terms-loop-self
invariant-terms-loop-self l = record {
  read : with_front (each_of term_of l.all) (repeated_of (Symbol Comma ∷ []) (past_of (Symbol Comma) (term_at l.fn.self.text.now l.levels)) l.self.tokens.rest.now)
      ≡ with_front (each_of term_of l.initial.all) (repeated_of (Symbol Comma ∷ []) (past_of (Symbol Comma) (term_at l.fn.self.text.now l.levels)) l.initial.self.tokens.rest.now);
  text : l.self.text.now ≡ l.fn.self.text.now;
}

abbrev pub decreases-terms-loop-self : goal.decreases-terms-loop-self
decreases-terms-loop-self l = length l.self.tokens.rest.now

abbrev pub invariant-links-loop-of : goal.invariant-links-loop-of
invariant-links-loop-of l = record {
  read : with_front (each_of link_of l.rest) (repeated_of (keys (table_of l.of)) (link_at l.fn.self.text.now l.levels (below (term_at l.fn.self.text.now) l.levels) l.of) l.self.tokens.rest.now)
      ≡ with_front (each_of link_of l.initial.rest) (repeated_of (keys (table_of l.of)) (link_at l.fn.self.text.now l.levels (below (term_at l.fn.self.text.now) l.levels) l.of) l.initial.self.tokens.rest.now);
  text : l.self.text.now ≡ l.fn.self.text.now;
}

abbrev pub decreases-links-loop-of : goal.decreases-links-loop-of
decreases-links-loop-of l = length l.self.tokens.rest.now
