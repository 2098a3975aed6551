-- Free. What spelled a specification by the old grammar spells it still.
use Rattle.std.proofs.Common.{ℕ, zero, suc, List, inl, inr}
use Rattle.asm_syntax.specs.SourceTree as source
use Rattle.asm_reader.specs.Levels.{at_depth}
use Rattle.asm_reader.specs.Productions.{Production, nothing, at_any_depth}
use Rattle.asm_reader.specs.TermGrammar.{answer, term_over, term_within, any_term}
use Rattle.asm_reader.specs.RuleGrammar.{value, block_rule, rule_over, rule_within, any_rule}
use Rattle.asm_reader.specs.Specification.{max_nesting}
use Rattle.asm_reader.specs.OldGrammar.{old_term_within, old_rule_over, old_rule_within, StillSpells, StillIsSpecification}
use Rattle.asm_reader.proofs.WiderLemmas.WiderParts.{Includes}
use Rattle.asm_reader.proofs.WiderLemmas.TermWider.{wider_disjunction}
use Rattle.asm_reader.proofs.WiderLemmas.RuleWider.{wider_call, wider_assignment, wider_par, wider_seq, wider_if, wider_let, wider_forall, wider_choose, wider_iterate}
use Rattle.asm_reader.proofs.WiderLemmas.ItemWider.{wider_specification}
use Rattle.asm_reader.proofs.OldGrammarLemmas.OldTokens.{old_tokens, same_depth}

module _ (text : List ℕ) where
  still_term : (n : ℕ) → Includes (old_term_within text n) (term_within text n)
  unfolding old_term_within term_within
  still_term zero = wider_disjunction text nothing nothing (λ ts x p. p) nothing (answer text) (λ ts x p. absurd p)
  still_term (suc n) = wider_disjunction text (old_term_within text n) (term_within text n) (still_term n) nothing (answer text) (λ ts x p. absurd p)

  module _ (X Y : Production source.Term) (S T : Production source.Rule) (h : Includes X Y) (k : Includes S T) where
    still_value : Includes (term_over text X nothing) (value text Y T)
    still_value = wider_disjunction text X Y h nothing (answer text) (λ ts x p. absurd p)

    still_rule_over : Includes (old_rule_over text X S) (rule_over text Y T)
    unfolding old_rule_over rule_over block_rule
    still_rule_over ts x (inl p) = inl p
    still_rule_over ts x (inr (inl (inl p))) = inr (inl (inl (wider_call text X Y S T h k ts x p)))
    still_rule_over ts x (inr (inl (inr p))) = inr (inl (inr (inl (wider_assignment text X Y S T h k (term_over text X nothing) (value text Y T) still_value ts x p))))
    still_rule_over ts x (inr (inr (inl p))) = inr (inr (inr (inl (wider_par text X Y S T h k ts x p))))
    still_rule_over ts x (inr (inr (inr (inl p)))) = inr (inr (inr (inr (inl (wider_seq text X Y S T h k ts x p)))))
    still_rule_over ts x (inr (inr (inr (inr (inl p))))) = inr (inr (inr (inr (inr (inl (wider_if text X Y S T h k ts x p))))))
    still_rule_over ts x (inr (inr (inr (inr (inr (inl p)))))) = inr (inr (inr (inr (inr (inr (inl (wider_let text X Y S T h k ts x p)))))))
    still_rule_over ts x (inr (inr (inr (inr (inr (inr (inl p))))))) = inr (inr (inr (inr (inr (inr (inr (inl (wider_forall text X Y S T h k ts x p))))))))
    still_rule_over ts x (inr (inr (inr (inr (inr (inr (inr (inl p)))))))) = inr (inr (inr (inr (inr (inr (inr (inr (inl (wider_choose text X Y S T h k ts x p)))))))))
    still_rule_over ts x (inr (inr (inr (inr (inr (inr (inr (inr p)))))))) = inr (inr (inr (inr (inr (inr (inr (inr (inr (inl (wider_iterate text X Y S T h k ts x p))))))))))

  still_rule : (n : ℕ) → Includes (old_rule_within text n) (rule_within text n)
  unfolding old_rule_within rule_within
  still_rule zero = still_rule_over nothing nothing nothing nothing (λ ts x p. p) (λ ts x p. p)
  still_rule (suc n) = still_rule_over (old_term_within text n) (term_within text n) (old_rule_within text n) (rule_within text n) (still_term n) (still_rule n)

pub still_spells : StillSpells
still_spells text = wider_specification text (at_any_depth (old_term_within text)) (any_term text) (at_any_depth (old_rule_within text)) (any_rule text)
    (λ ts x p. (p.0, still_term text p.0 ts x p.1)) (λ ts x p. (p.0, still_rule text p.0 ts x p.1))

pub still_is_specification : StillIsSpecification
still_is_specification text s m = (m.0, m.1, (still_spells text m.0 s m.2, rw (same_depth m.0 (at_depth max_nesting) ((old_tokens text).old m.0 s m.2)) m.3))
