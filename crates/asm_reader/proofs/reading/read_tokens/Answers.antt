use Rattle.std.proofs.lemmas.Result.{err_from_is_err_and}
use Rattle.asm_syntax.specs.code.Views.{spec_of}
use Rattle.asm_reader.specs.Grammar.{specification}
use Rattle.asm_reader.proofs.Spellings.{spells_all, spells_less, spells_none}
use Rattle.asm_reader.proofs.OneRefusal.{only_memory}
use Rattle.asm_reader.proofs.reading.read_tokens.Goals as goal

pub returns-in_err-read-clause-refused : goal.returns-in_err-read-clause-refused
returns-in_err-read-clause-refused c =
    let p = err_from_is_err_and c.from_residual.result c.from_residual.ensures.1 in
    rw (p.1, p.2) (spells_none c.args.text.now c.args.tokens.now c.in_err-read.field-0.0 c.in_err-read.ensures.parsed.read)

pub returns-in_err-read-clause-accepted : goal.returns-in_err-read-clause-accepted
returns-in_err-read-clause-accepted c s h =
    let p = err_from_is_err_and c.from_residual.result c.from_residual.ensures.1 in
    rw (p.1, p.2) (only_memory (specification c.args.text.now) c.args.tokens.now s h c.in_err-read.field-0.0 (spells_none c.args.text.now c.args.tokens.now c.in_err-read.field-0.0 c.in_err-read.ensures.parsed.read))

pub returns-in-empty-clause-found : goal.returns-in-empty-clause-found
returns-in-empty-clause-found c = spells_all c.args.text.now c.args.tokens.now (spec_of c.in_ok-read.read) c.specification.new.self.tokens.rest.now c.in_ok-read.ensures.parsed.read c.in-empty.len_below

pub returns-in-len1-up-clause-refused : goal.returns-in-len1-up-clause-refused
returns-in-len1-up-clause-refused c = spells_less c.args.text.now c.args.tokens.now (spec_of c.in_ok-read.read) c.specification.new.self.tokens.rest.now _ c.in_ok-read.ensures.parsed.read c.in-len1-up.len_at_least

pub returns-in-len1-up-clause-accepted : goal.returns-in-len1-up-clause-accepted
returns-in-len1-up-clause-accepted c s h = only_memory (specification c.args.text.now) c.args.tokens.now s h _ (spells_less c.args.text.now c.args.tokens.now (spec_of c.in_ok-read.read) c.specification.new.self.tokens.rest.now _ c.in_ok-read.ensures.parsed.read c.in-len1-up.len_at_least)
