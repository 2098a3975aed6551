-- Free. The rule of the table meets the laws of such rules.
use Rattle.std.proofs.Common.{[], ◌∙◌}
use Rattle.atomic_table.proofs.Lists.{set_else}
use Rattle.asm_striped.specs.code.Board.{IsBoard, joined}
use Rattle.asm_striped.specs.code.BoardLaws.{RuleLaws}
use Rattle.asm_striped.proofs.Steps.{begins, ends, splits, joins, opens}

pub rule_laws : RuleLaws IsBoard
rule_laws = record {
  says = λ extent s r. r.shows;
  opens = λ extent words marks. opens extent words marks;
  begins = λ extent s id v e r at idle share is. begins extent s (v, []) id e r at idle share is;
  ends = λ extent s id v e r at begun share. ends extent s (v, []) id e r at begun share;
  splits = λ extent s id v r at enough. splits extent id v enough s r at;
  joins = λ extent s id v other w r at there apart idle other_idle share.
      joins extent id v other w idle other_idle share s r at apart (set_else s.views id other (joined v w) apart ∙ there);
}
