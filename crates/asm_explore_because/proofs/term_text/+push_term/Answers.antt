use Rattle.std.proofs.Common.{◌≡◌, ◌∙◌, ◌++◌, ◌+◌, List, ℕ, sym, ap, append_assoc}
use Rattle.std.specs.Prelude.{codes}
use Rattle.std.proofs.lemmas.Result.{on_ok_weaker}
use Rattle.asm_state.specs.declared.operation.Op.{Op}
use Rattle.asm_syntax.specs.SourceTree as source
use Rattle.asm_syntax.specs.code.ViewCases.{term_of-Chain, term_of-Not, term_of-Negative, term_of-Exists, term_of-Every}
use Rattle.asm_syntax.specs.code.Views.{name_of, term_of}
use Rattle.asm_syntax.specs.declared.term.Term.{Term}
use Rattle.asm_explore_because.proofs.PrintedTexts.{after_binding}
use Rattle.asm_explore_because.specs.PrintedTerms.{chain_strength, links_text, operand, strength, term_text}
use Rattle.asm_explore_because.specs.code.CodedTerms.{links_in}
use Rattle.asm_explore_because.proofs.term_text.+push_term.Goals as goal

pub push_term-returns-in_ok-push_operand-in-Chain : goal.push_term-returns-in_ok-push_operand-in-Chain
push_term-returns-in_ok-push_operand-in-Chain t c =
    let line = c.args.line.now.items in
    let first : source.Term = term_of c.deref.result.now in
    let links : source.Links = links_in c.in-Chain.rest.items in
    let asked = c.chain_strength-asked.result + 1 in
    let own = λ (n : ℕ). operand n (strength first) (term_text first) in
    let same : asked ≡ chain_strength links + 1 = ap (λ n. n + 1) (c.chain_strength-asked.ensures.strength ∙ ap (λ (ls : List (Op × Term)). chain_strength (links_in ls)) c.as_slice-in-Chain.ensures.value) in
    let is : term_of c.args.term.now ≡ source.Chain first links =
    ap term_of c.in-Chain.is ∙ term_of-Chain c.in-Chain.first c.in-Chain.rest ∙ ap (λ (u : Term). source.Chain (term_of u) links) (sym c.deref.ensures) in
    let front : c.push_operand.new.line.items ≡ line ++ own asked = c.in_ok-push_operand-in-Chain.ensures in
    on_ok_weaker c.push_links.result
    (λ e. e ∙ ap (λ l. l ++ links_text asked (links_in c.as_slice-in-Chain-2.result.now)) front
    ∙ ap (λ (ls : List (Op × Term)). (line ++ own asked) ++ links_text asked (links_in ls)) c.as_slice-in-Chain-2.ensures.value
    ∙ append_assoc line (own asked) (links_text asked links) ∙ ap (λ n. line ++ (own n ++ links_text n links)) same ∙ ap (λ v. line ++ term_text v) (sym is))
    c.push_links.ensures

pub push_term-returns-in_ok-extend_from_slice-in-Not : goal.push_term-returns-in_ok-extend_from_slice-in-Not
push_term-returns-in_ok-extend_from_slice-in-Not t c =
    let is : term_of c.args.term.now ≡ source.Not (term_of c.deref-in-Not.result.now) =
    ap term_of c.in-Not.is ∙ term_of-Not c.in-Not.inner ∙ ap (λ u. source.Not (term_of u)) (sym c.deref-in-Not.ensures) in
    let own = operand 3 (strength (term_of c.deref-in-Not.result.now)) (term_text (term_of c.deref-in-Not.result.now)) in
    on_ok_weaker c.push_operand-in-Not.result (λ e. e ∙ ap (λ l. l ++ own) c.in_ok-extend_from_slice-in-Not.ensures.items ∙ append_assoc c.args.line.now.items (codes "not ") own ∙ ap (λ u. c.args.line.now.items ++ term_text u) (sym is))
    c.push_operand-in-Not.ensures

pub push_term-returns-in_ok-extend_from_slice-in-Negative : goal.push_term-returns-in_ok-extend_from_slice-in-Negative
push_term-returns-in_ok-extend_from_slice-in-Negative t c =
    let is : term_of c.args.term.now ≡ source.Negative (term_of c.deref-in-Negative.result.now) =
    ap term_of c.in-Negative.is ∙ term_of-Negative c.in-Negative.inner ∙ ap (λ u. source.Negative (term_of u)) (sym c.deref-in-Negative.ensures) in
    let own = operand 7 (strength (term_of c.deref-in-Negative.result.now)) (term_text (term_of c.deref-in-Negative.result.now)) in
    on_ok_weaker c.push_operand-in-Negative.result (λ e. e ∙ ap (λ l. l ++ own) c.in_ok-extend_from_slice-in-Negative.ensures.items ∙ append_assoc c.args.line.now.items (codes "-") own ∙ ap (λ u. c.args.line.now.items ++ term_text u) (sym is))
    c.push_operand-in-Negative.ensures

pub push_term-returns-in_ok-push_binding-in-Exists : goal.push_term-returns-in_ok-push_binding-in-Exists
push_term-returns-in_ok-push_binding-in-Exists t c =
    let x = c.in-Exists.name in
    let u = c.in-Exists.over in
    let own = term_text (term_of c.deref-in-Exists.result.now) ++ codes ")" in
    let is : term_of c.args.term.now ≡ source.Exists (name_of x) (name_of u) (term_of c.deref-in-Exists.result.now) =
    ap term_of c.in-Exists.is ∙ term_of-Exists x u c.in-Exists.test ∙ ap (λ (v : Term). source.Exists (name_of x) (name_of u) (term_of v)) (sym c.deref-in-Exists.ensures) in
    let front : c.push_binding.new.line.items ≡ c.args.line.now.items ++ (codes "(exists " ++ (x.text ++ (codes " in " ++ (u.text ++ codes " with ")))) = c.in_ok-push_binding-in-Exists.ensures in
    on_ok_weaker c.push_last.result
    (λ e. e ∙ ap (λ l. l ++ own) front ∙ after_binding c.args.line.now.items (codes "(exists ") x.text (codes " in ") u.text (codes " with ") own ∙ ap (λ v. c.args.line.now.items ++ term_text v) (sym is))
    c.push_last.ensures

pub push_term-returns-in_ok-push_binding-in-Every : goal.push_term-returns-in_ok-push_binding-in-Every
push_term-returns-in_ok-push_binding-in-Every t c =
    let x = c.in-Every.name in
    let u = c.in-Every.over in
    let own = term_text (term_of c.deref-in-Every.result.now) ++ codes ")" in
    let is : term_of c.args.term.now ≡ source.Every (name_of x) (name_of u) (term_of c.deref-in-Every.result.now) =
    ap term_of c.in-Every.is ∙ term_of-Every x u c.in-Every.test ∙ ap (λ (v : Term). source.Every (name_of x) (name_of u) (term_of v)) (sym c.deref-in-Every.ensures) in
    let front : c.push_binding-in-Every.new.line.items ≡ c.args.line.now.items ++ (codes "(forall " ++ (x.text ++ (codes " in " ++ (u.text ++ codes " holds ")))) = c.in_ok-push_binding-in-Every.ensures in
    on_ok_weaker c.push_last-in-Every.result
    (λ e. e ∙ ap (λ l. l ++ own) front ∙ after_binding c.args.line.now.items (codes "(forall ") x.text (codes " in ") u.text (codes " holds ") own ∙ ap (λ v. c.args.line.now.items ++ term_text v) (sym is))
    c.push_last-in-Every.ensures
