-- Definition. A tree without its offsets: what it means doesn't depend on where its names are.
--     plain_term, plain_rule     a rule that is left out does nothing. `while c do P endwhile` is
--                                `iterate if c then P endif enditerate`, and `result` is a name, to
--                                which something can be assigned
use Rattle.std.specs.Prelude.{Option, Some, None, option_map}
use Rattle.asm_state.specs.declared.value.Value.{Value}
use Rattle.asm_state.specs.declared.value.Value.TheVariants as value
use Rattle.asm_syntax.specs.declared.term.Literal.{Literal}
use Rattle.asm_syntax.specs.declared.term.Literal.TheVariants as literal
use Rattle.asm_syntax.specs.Tree as tree
use Rattle.asm_syntax.specs.SourceTree as source

abbrev pub literal_value : Literal → Value
literal_value literal.Undef = value.Undef
literal_value (literal.Truth b) = value.Truth b
literal_value (literal.Number n) = value.Number n

abbrev mutual
  pub plain_term : source.Term → tree.Term
  plain_term (source.Constant l) = tree.Constant (literal_value l)
  plain_term (source.Named x ts) = tree.Named x.text (plain_terms ts)
  plain_term (source.Chain t links) = tree.Chain (plain_term t) (plain_links links)
  plain_term (source.Not t) = tree.Not (plain_term t)
  plain_term (source.Negative t) = tree.Negative (plain_term t)
  plain_term (source.Exists x u t) = tree.Exists x.text u.text (plain_term t)
  plain_term (source.Every x u t) = tree.Every x.text u.text (plain_term t)
  plain_term (source.Result x) = tree.Named x.text tree.no_terms

  pub plain_terms : source.Terms → tree.Terms
  plain_terms source.no_terms = tree.no_terms
  plain_terms (source.term_then t ts) = tree.term_then (plain_term t) (plain_terms ts)

  pub plain_links : source.Links → tree.Links
  plain_links source.no_links = tree.no_links
  plain_links (source.link_then o t links) = tree.link_then o (plain_term t) (plain_links links)

abbrev pub plain_target : Option (source.Name × source.Terms) → Option (tree.Name × tree.Terms)
plain_target None = None
plain_target (Some (f, ts)) = Some (f.text, plain_terms ts)

abbrev mutual
  pub plain_rule : source.Rule → tree.Rule
  plain_rule source.Skip = tree.Skip
  plain_rule (source.Assign f ts t) = tree.Assign f.text (plain_terms ts) (plain_term t)
  plain_rule (source.Call to f ts) = tree.Call (plain_target to) f.text (plain_terms ts)
  plain_rule (source.Par Ps) = tree.Par (plain_rules Ps)
  plain_rule (source.Seq Ps) = tree.Seq (plain_rules Ps)
  plain_rule (source.If c P Q) = tree.If (plain_term c) (plain_rule P) (plain_branch Q)
  plain_rule (source.Let x t P) = tree.Let x.text (plain_term t) (plain_rule P)
  plain_rule (source.Forall x u c P) = tree.Forall x.text u.text (option_map plain_term c) (plain_rule P)
  plain_rule (source.Choose x u c P Q) = tree.Choose x.text u.text (option_map plain_term c) (plain_rule P) (plain_branch Q)
  plain_rule (source.Iterate P) = tree.Iterate (plain_rule P)
  plain_rule (source.While c P) = tree.Iterate (tree.If (plain_term c) (plain_rule P) tree.Skip)
  plain_rule (source.SetResult x t) = tree.Assign x.text tree.no_terms (plain_term t)

  pub plain_rules : source.Rules → tree.Rules
  plain_rules source.no_rules = tree.no_rules
  plain_rules (source.rule_then P Ps) = tree.rule_then (plain_rule P) (plain_rules Ps)

  pub plain_branch : source.Branch → tree.Rule
  plain_branch source.left_out = tree.Skip
  plain_branch (source.written P) = plain_rule P
