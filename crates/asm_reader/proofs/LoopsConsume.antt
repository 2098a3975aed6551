-- Free. The readers that are in the code's loops take a token at least.
use Rattle.std.proofs.Common.{ℕ, suc, ◌+◌, false, List, [], ◌∷◌}
use Rattle.asm_syntax.specs.declared.token.Kind.TheVariants.{Name, Symbol}
use Rattle.asm_syntax.specs.declared.token.Symbol.TheVariants.{Open}
use Rattle.asm_reader.specs.TermGrammar.{name, term_within, any_term}
use Rattle.asm_reader.specs.code.TermReading.{name_at, term_at}
use Rattle.asm_reader.specs.RuleGrammar.{rule_within, any_rule}
use Rattle.asm_reader.specs.code.RuleReading.{rule_at}
use Rattle.asm_reader.specs.Grammar.{constant, entry, item}
use Rattle.asm_reader.specs.code.Reading.{item_starts, constant_at, entry_at, item_at}
use Rattle.asm_reader.proofs.Loops.{Consumes}
use Rattle.asm_reader.proofs.ExactLemmas.ExactTokens.{depth, exact_consumes}
use Rattle.asm_reader.proofs.ExactLemmas.TermExact.{term_first, term_more, begins_name, exact_name, begins_term}
use Rattle.asm_reader.proofs.WiderLemmas.TermWider.{exact_any_term}
use Rattle.asm_reader.proofs.ExactLemmas.RuleExact.{rule_first, rule_more, begins_rule, exact_any_rule}
use Rattle.asm_reader.proofs.ExactLemmas.ContentExact.{constant_first, begins_constant, exact_constant, begins_entry, exact_entry}
use Rattle.asm_reader.proofs.ExactLemmas.ItemExact.{item_more, term, rule, begins_item, exact_item}

pub name_consumes : (text : List ℕ) → Consumes (name_at text)
name_consumes text = exact_consumes (depth 0 false) (depth 0 false) [] (Name ∷ []) (name text) (name text) (name_at text) (begins_name text) (exact_name text 0 false)

pub constant_consumes : (text : List ℕ) → Consumes (constant_at text)
constant_consumes text = exact_consumes (depth 0 false) (depth 0 false) [] constant_first (constant text) (constant text) (constant_at text) (begins_constant text) (exact_constant text 0 false)

pub entry_consumes : (text : List ℕ) (n : ℕ) → Consumes (entry_at text n)
entry_consumes text n = exact_consumes (depth n false) (depth n false) [] (Symbol Open ∷ []) (entry text) (entry text) (entry_at text n) (begins_entry text) (exact_entry text n)

pub term_consumes : (text : List ℕ) (n : ℕ) → Consumes (term_at text n)
term_consumes text n = exact_consumes (depth n false) (depth n false) term_more term_first (term_within text (suc (n + 0))) (any_term text) (term_at text n) (begins_term text (suc (n + 0))) (exact_any_term text n 0 false)

pub rule_consumes : (text : List ℕ) (n : ℕ) → Consumes (rule_at text n)
rule_consumes text n = exact_consumes (depth n false) (depth n false) rule_more rule_first (rule_within text (suc (n + 0))) (any_rule text) (rule_at text n) (begins_rule text (suc (n + 0))) (exact_any_rule text n 0)

pub item_consumes : (text : List ℕ) (n : ℕ) → Consumes (item_at text n)
item_consumes text n = exact_consumes (depth n false) (depth n false) item_more item_starts (item text (term text n) (rule text n)) (item text (any_term text) (any_rule text)) (item_at text n) (begins_item text (term text n) (rule text n)) (exact_item text n)
