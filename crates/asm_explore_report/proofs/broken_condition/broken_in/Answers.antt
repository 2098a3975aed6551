use Rattle.std.proofs.Common.{◌≡◌, Bool, List, ◌∙◌, ◌+◌, ◌∷◌, ◌++◌, suc, take, drop, get_or, length, sym, ap, subst, arith, IfSome}
use Rattle.std.specs.List.{list_all}
use Rattle.std.proofs.lemmas.List.{drop_more, length-map, length-take-le, map-append, take-append-drop, take_all}
use Rattle.asm_state.specs.Location.{State}
use Rattle.asm_state.specs.Signature.{state_of}
use Rattle.asm_state.specs.declared.operation.Op.{Op}
use Rattle.asm_syntax.specs.SourceTree.{Term as Source, Spec}
use Rattle.asm_syntax.specs.code.Views.{spec_of, term_of}
use Rattle.asm_syntax.specs.declared.term.Term.{Term}
use Rattle.asm_check.specs.Shapes.{shape_of}
use Rattle.asm_meaning.specs.Value.{is_true}
use Rattle.asm_explore_because.specs.Because.{IsBecause}
use Rattle.asm_explore_report.specs.FaultWords.{broken_words, value_in}
use Rattle.asm_explore_texts.specs.code.CodedConditions.{terms_in}
use Rattle.asm_explore_report.proofs.AskedTerms.{all_terms}
use Rattle.asm_explore_report.proofs.broken_condition.broken_in.Goals as goal

pub returns-in-Some-clause-found : goal.returns-in-Some-clause-found
returns-in-Some-clause-found c links joined =
    let checked = c.args.checked.now in
    let s : Spec = spec_of checked.spec in
    let A : State = state_of (shape_of s) c.args.state.now in
    let items = c.parts-links.result.now in
    let same : items ≡ links = c.parts-links.ensures links joined in
    let k = c.loop-k.k in
    let link = c.index-links-k.result in
    let front : length (take k items) ≡ k = length-take-le k items (omega (arith, c.loop-k-test.true)) in
    let number : k + 1 ≡ suc (length (terms_in (take k items))) = omega (arith, length-map (take k items) (λ (l : Op × Term). term_of l.1), front) in
    let split : links ≡ take k items ++ link ∷ drop (k + 1) items =
    sym same ∙ (sym (take-append-drop k items) ∙ ap (λ t. take k items ++ t) (drop_more items k link c.loop-k-test.true ∙ ap (λ l. l ∷ drop (k + 1) items) (sym c.index-links-k.is))) in
    let at = get_or items k link in
    let same_link : at ≡ link = sym c.index-links-k.is in
    let found : IsBecause s A (term_of at.1) c.in-Some.line.items = subst (λ o. IfSome o (λ line. IsBecause s A (term_of at.1) line.items)) c.in-Some.is c.in_ok-line.ensures.found in
    let because : IsBecause s A (term_of link.1) c.in-Some.line.items = subst (λ (l : Op × Term). IsBecause s A (term_of l.1) c.in-Some.line.items) same_link found in
    let told = c.in_ok-told_of.ensures in
    record {
      before = terms_in (take k items);
      one = term_of link.1;
      after = terms_in (drop (k + 1) items);
      parts = ap terms_in split ∙ map-append (λ (l : Op × Term). term_of l.1) (take k items) (link ∷ drop (k + 1) items);
      held = all_terms (λ t. is_true (value_in s t A)) (take k items) ∙ c.loop-k.invariant;
      broken = c.deciding_laws.ensures.line s A (term_of link.1) c.in-Some.line.items checked.well_formed because;
      are = told.0 ∙ ap (λ (l : Op × Term). broken_words s (k + 1) (value_in s (term_of l.1) A)) same_link ∙ ap (λ n. broken_words s n (value_in s (term_of link.1) A)) number;
      line = c.in-Some.line.items;
      because = because;
      is_line = told.1;
    }

pub returns-clause-all_true : goal.returns-clause-all_true
returns-clause-all_true c links joined =
    let s = spec_of c.args.checked.now.spec in
    let items = c.parts-links.result.now in
    let same : items ≡ links = c.parts-links.ensures links joined in
    let k = c.loop-k.k in
    let whole : take k items ≡ items = take_all k items (omega (arith, c.loop-k-test.false)) in
    let holds : Source → Bool = λ t. is_true (value_in s t (state_of (shape_of s) c.args.state.now)) in
    ap (λ (some : List (Op × Term)). list_all holds (terms_in some)) (sym same ∙ sym whole) ∙ all_terms holds (take k items) ∙ c.loop-k.invariant
