use Rattle.std.proofs.lemmas.Result.{err_from_is_err_and}
use Rattle.asm_syntax.specs.code.Views.{term_of}
use Rattle.asm_reader.specs.TermGrammar.{any_term}
use Rattle.asm_reader.proofs.TermSpellings.{term_spells_all, term_spells_less, term_spells_none}
use Rattle.asm_reader.proofs.OneRefusal.{only_memory}
use Rattle.asm_reader.proofs.term_reading.read_term_tokens.Goals as goal

pub returns-in_err-read-clause-refused : goal.returns-in_err-read-clause-refused
returns-in_err-read-clause-refused c =
    let p = err_from_is_err_and c.from_residual.result c.from_residual.ensures.1 in
    rw (p.1, p.2) (term_spells_none c.args.text.now c.args.tokens.now c.in_err-read.field-0.0 c.in_err-read.ensures.read)

pub returns-in_err-read-clause-accepted : goal.returns-in_err-read-clause-accepted
returns-in_err-read-clause-accepted c t h =
    let p = err_from_is_err_and c.from_residual.result c.from_residual.ensures.1 in
    rw (p.1, p.2) (only_memory (any_term c.args.text.now) c.args.tokens.now t h c.in_err-read.field-0.0 (term_spells_none c.args.text.now c.args.tokens.now c.in_err-read.field-0.0 c.in_err-read.ensures.read))

pub returns-in-empty-clause-found : goal.returns-in-empty-clause-found
returns-in-empty-clause-found c = term_spells_all c.args.text.now c.args.tokens.now (term_of c.in_ok-read.read) c.term.new.self.tokens.rest.now c.in_ok-read.ensures.read c.in-empty.len_below

pub returns-in-len1-up-clause-refused : goal.returns-in-len1-up-clause-refused
returns-in-len1-up-clause-refused c = term_spells_less c.args.text.now c.args.tokens.now (term_of c.in_ok-read.read) c.term.new.self.tokens.rest.now _ c.in_ok-read.ensures.read c.in-len1-up.len_at_least

pub returns-in-len1-up-clause-accepted : goal.returns-in-len1-up-clause-accepted
returns-in-len1-up-clause-accepted c t h = only_memory (any_term c.args.text.now) c.args.tokens.now t h _ (term_spells_less c.args.text.now c.args.tokens.now (term_of c.in_ok-read.read) c.term.new.self.tokens.rest.now _ c.in_ok-read.ensures.read c.in-len1-up.len_at_least)
