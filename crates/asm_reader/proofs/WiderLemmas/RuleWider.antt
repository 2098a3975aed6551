-- Free. Rules over more terms and more rules are more rules.
use Rattle.std.proofs.Common.{ℕ, List, None, Some, inl, inr}
use Rattle.asm_syntax.specs.declared.token.Kind.{Kind}
use Rattle.asm_syntax.specs.declared.token.Kind.TheVariants.{Symbol, Keyword}
use Rattle.asm_syntax.specs.declared.token.Symbol.TheVariants.{Assign, LeftArrow, Equal}
use Rattle.asm_syntax.specs.declared.token.Keyword.TheVariants.{Par, EndPar, Seq, EndSeq, If, Then, Else, EndIf, Let, In, EndLet, Forall, With, Do, EndForall, Choose, IfNone, EndChoose, Iterate, EndIterate, While, EndWhile}
use Rattle.asm_syntax.specs.SourceTree as source
use Rattle.asm_syntax.specs.code.Views.{rules_of}
use Rattle.asm_reader.specs.Productions.{Production, ◌then◌, optional, ◌makes◌, past, several, between}
use Rattle.asm_reader.specs.TermGrammar.{name, result_name, binding, applied, answer}
use Rattle.asm_reader.specs.RuleGrammar.{branch, call, assignment, call_by_result, result_rule, value, par_rule, seq_rule, if_rule, let_rule, forall_rule, choose_rule, iterate_rule, while_rule, block_rule, rule_over}
use Rattle.asm_reader.proofs.WiderLemmas.TermWider.{wider_applied, wider_disjunction}
use Rattle.asm_reader.proofs.WiderLemmas.WiderParts.{Includes, same_part, wider_then, wider_optional, wider_makes, wider_past, wider_several, wider_between}
use Rattle.asm_reader.proofs.ExactLemmas.Blocks.{if_body, let_body, forall_body, choose_body, while_body}

module _ (text : List ℕ) (X Y : Production source.Term) (S T : Production source.Rule) (h : Includes X Y) (k : Includes S T) where
  pub wider_call : Includes (call text X S) (call text Y T)
  unfolding call
  wider_call = wider_makes (applied text X) (applied text Y) (λ r. source.Call None r.0 r.1) (wider_applied text X Y h)

  wider_answering_call : Includes (call_by_result text X S) (call_by_result text Y T)
  unfolding call_by_result
  wider_answering_call = wider_makes (applied text X then past (Symbol LeftArrow) (applied text X)) (applied text Y then past (Symbol LeftArrow) (applied text Y)) (λ r. source.Call (Some r.0) r.1.0 r.1.1)
      (wider_then (applied text X) (applied text Y) (past (Symbol LeftArrow) (applied text X)) (past (Symbol LeftArrow) (applied text Y)) (wider_applied text X Y h)
      (wider_past (Symbol LeftArrow) (applied text X) (applied text Y) (wider_applied text X Y h)))

  -- with more terms that are assigned
  module _ (V W : Production source.Term) (i : Includes V W) where
    pub wider_assignment : Includes (assignment text X S V) (assignment text Y T W)
    unfolding assignment
    wider_assignment = wider_makes (applied text X then past (Symbol Assign) V) (applied text Y then past (Symbol Assign) W) (λ r. source.Assign r.0.0 r.0.1 r.1)
        (wider_then (applied text X) (applied text Y) (past (Symbol Assign) V) (past (Symbol Assign) W) (wider_applied text X Y h) (wider_past (Symbol Assign) V W i))

    wider_result_rule : Includes (result_rule text X S V) (result_rule text Y T W)
    unfolding result_rule
    wider_result_rule = wider_makes (result_name text then past (Symbol Assign) V) (result_name text then past (Symbol Assign) W) (λ r. source.SetResult r.0 r.1)
        (wider_then (result_name text) (result_name text) (past (Symbol Assign) V) (past (Symbol Assign) W) (same_part (result_name text)) (wider_past (Symbol Assign) V W i))

  wider_value : Includes (value text X S) (value text Y T)
  wider_value = wider_disjunction text X Y h (answer text) (answer text) (same_part (answer text))

  -- what is between two tokens
  wider_frame : {A : Type 0} (opener close : Kind) (B C : Production A) (f : A → source.Rule) → Includes B C → Includes (between opener close B makes f) (between opener close C makes f)
  wider_frame opener close B C f i = wider_makes (between opener close B) (between opener close C) f (wider_between opener close B C i)

  pub wider_par : Includes (par_rule text X S) (par_rule text Y T)
  unfolding par_rule
  wider_par = wider_frame (Keyword Par) (Keyword EndPar) (several S) (several T) (λ r. source.Par (rules_of r)) (wider_several S T k)

  pub wider_seq : Includes (seq_rule text X S) (seq_rule text Y T)
  unfolding seq_rule
  wider_seq = wider_frame (Keyword Seq) (Keyword EndSeq) (several S) (several T) (λ r. source.Seq (rules_of r)) (wider_several S T k)

  pub wider_iterate : Includes (iterate_rule text X S) (iterate_rule text Y T)
  unfolding iterate_rule
  wider_iterate = wider_frame (Keyword Iterate) (Keyword EndIterate) S T source.Iterate k

  -- a rule after a token, and one more that may be left out
  wider_two : (a b : Kind) → Includes (past a S then optional (past b S)) (past a T then optional (past b T))
  wider_two a b = wider_then (past a S) (past a T) (optional (past b S)) (optional (past b T)) (wider_past a S T k) (wider_optional (past b S) (past b T) (wider_past b S T k))

  pub wider_if : Includes (if_rule text X S) (if_rule text Y T)
  unfolding if_rule
  wider_if = wider_frame (Keyword If) (Keyword EndIf) (if_body text X S) (if_body text Y T) (λ r. source.If r.0 r.1.0 (branch r.1.1))
      (wider_then X Y (past (Keyword Then) S then optional (past (Keyword Else) S)) (past (Keyword Then) T then optional (past (Keyword Else) T)) h (wider_two (Keyword Then) (Keyword Else)))

  pub wider_let : Includes (let_rule text X S) (let_rule text Y T)
  unfolding let_rule
  wider_let = wider_frame (Keyword Let) (Keyword EndLet) (let_body text X S) (let_body text Y T) (λ r. source.Let r.0 r.1.0 r.1.1)
      (wider_then (name text) (name text) (past (Symbol Equal) X then past (Keyword In) S) (past (Symbol Equal) Y then past (Keyword In) T) (same_part (name text))
      (wider_then (past (Symbol Equal) X) (past (Symbol Equal) Y) (past (Keyword In) S) (past (Keyword In) T) (wider_past (Symbol Equal) X Y h) (wider_past (Keyword In) S T k)))

  -- after a binding and a condition
  wider_bound : {A : Type 0} (B C : Production A) → Includes B C → Includes (binding text then optional (past (Keyword With) X) then B) (binding text then optional (past (Keyword With) Y) then C)
  wider_bound B C i = wider_then (binding text) (binding text) (optional (past (Keyword With) X) then B) (optional (past (Keyword With) Y) then C) (same_part (binding text))
      (wider_then (optional (past (Keyword With) X)) (optional (past (Keyword With) Y)) B C (wider_optional (past (Keyword With) X) (past (Keyword With) Y) (wider_past (Keyword With) X Y h)) i)

  pub wider_forall : Includes (forall_rule text X S) (forall_rule text Y T)
  unfolding forall_rule
  wider_forall = wider_frame (Keyword Forall) (Keyword EndForall) (forall_body text X S) (forall_body text Y T) (λ r. source.Forall r.0.0 r.0.1 r.1.0 r.1.1)
      (wider_bound (past (Keyword Do) S) (past (Keyword Do) T) (wider_past (Keyword Do) S T k))

  pub wider_choose : Includes (choose_rule text X S) (choose_rule text Y T)
  unfolding choose_rule
  wider_choose = wider_frame (Keyword Choose) (Keyword EndChoose) (choose_body text X S) (choose_body text Y T) (λ r. source.Choose r.0.0 r.0.1 r.1.0 r.1.1.0 (branch r.1.1.1))
      (wider_bound (past (Keyword Do) S then optional (past (Keyword IfNone) S)) (past (Keyword Do) T then optional (past (Keyword IfNone) T)) (wider_two (Keyword Do) (Keyword IfNone)))

  wider_while : Includes (while_rule text X S) (while_rule text Y T)
  unfolding while_rule
  wider_while = wider_frame (Keyword While) (Keyword EndWhile) (while_body text X S) (while_body text Y T) (λ r. source.While r.0 r.1) (wider_then X Y (past (Keyword Do) S) (past (Keyword Do) T) h (wider_past (Keyword Do) S T k))

  wider_block : Includes (block_rule text X S) (block_rule text Y T)
  unfolding block_rule
  wider_block ts x (inl p) = inl (wider_par ts x p)
  wider_block ts x (inr (inl p)) = inr (inl (wider_seq ts x p))
  wider_block ts x (inr (inr (inl p))) = inr (inr (inl (wider_if ts x p)))
  wider_block ts x (inr (inr (inr (inl p)))) = inr (inr (inr (inl (wider_let ts x p))))
  wider_block ts x (inr (inr (inr (inr (inl p))))) = inr (inr (inr (inr (inl (wider_forall ts x p)))))
  wider_block ts x (inr (inr (inr (inr (inr (inl p)))))) = inr (inr (inr (inr (inr (inl (wider_choose ts x p))))))
  wider_block ts x (inr (inr (inr (inr (inr (inr (inl p))))))) = inr (inr (inr (inr (inr (inr (inl (wider_iterate ts x p)))))))
  wider_block ts x (inr (inr (inr (inr (inr (inr (inr p))))))) = inr (inr (inr (inr (inr (inr (inr (wider_while ts x p)))))))

  pub wider_rule : Includes (rule_over text X S) (rule_over text Y T)
  unfolding rule_over
  wider_rule ts x (inl p) = inl p
  wider_rule ts x (inr (inl (inl p))) = inr (inl (inl (wider_call ts x p)))
  wider_rule ts x (inr (inl (inr (inl p)))) = inr (inl (inr (inl (wider_assignment (value text X S) (value text Y T) wider_value ts x p))))
  wider_rule ts x (inr (inl (inr (inr p)))) = inr (inl (inr (inr (wider_answering_call ts x p))))
  wider_rule ts x (inr (inr (inl p))) = inr (inr (inl (wider_result_rule (value text X S) (value text Y T) wider_value ts x p)))
  wider_rule ts x (inr (inr (inr p))) = inr (inr (inr (wider_block ts x p)))
