use Rattle.asm_check.proofs.NameLemmas.Lookups.{named_at, undeclared}
use Rattle.asm_check.proofs.names.first_names.position.Goals as goal

pub returns-clause-name : goal.returns-clause-name
returns-clause-name c = named_at c.args.names.now c.args.name.now c.as_bytes.result.now c.get_index_of.result c.as_bytes.ensures c.get_index_of.ensures.index

pub returns-clause-missing : goal.returns-clause-missing
returns-clause-missing c = λ spec table.
    undeclared spec c.args.names.now c.args.name.now c.as_bytes.result.now c.get_index_of.result table c.as_bytes.ensures c.get_index_of.ensures.found
