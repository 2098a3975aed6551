use Rattle.std.proofs.Common.{◌≡◌, ◌∙◌, ◌-◌, ◌+◌, ◌<◌, ◌≤◌, ◌∷◌, ◌++◌, [], List, ℕ, Some, length, take, inl, inr, refl, append-nil, ap, sym, subst, arith, length-append}
use Rattle.std.specs.Prelude.{◌⊎◌, slice_get}
use Rattle.std.proofs.lemmas.Bool.{cases_lt}
use Rattle.std.proofs.lemmas.List.{length-take, take_more}
use Rattle.asm_syntax.specs.code.Views.{spec_of}
use Rattle.asm_reader.specs.ScriptText.{max_script}
use Rattle.asm_run.specs.Written.{names_in}
use Rattle.asm_clash.specs.declared.assignment.Assignment.{Assignment}
use Rattle.asm_explore_texts.specs.Comments.{comment, comments}
use Rattle.asm_explore_run.specs.ClashText.{AreLinesOf, IsLineOf, clash_text, greatest_shown, more}
use Rattle.asm_explore_run.proofs.ClashLines.{as_many, found_at, lines_more, one_more, too_many, with_rest}
use Rattle.asm_explore_run.proofs.clash_text.clash_text.Goals as goal

pub loop-k-preserved : goal.loop-k-preserved
loop-k-preserved c =
    let names = names_in (spec_of c.args.checked.now.spec) in
    let end = c.args.end.now in
    let all = c.args.assignments.now in
    let first = c.args.first.now in
    let lines = c.loop-k.invariant.0 in
    let line = c.as_slice.result.now in
    let n = c.args.count in
    let k = c.loop-k.k in
    let a = c.index-assignments-k.result in
    let low : k < length all = omega (arith, c.loop-k-test.true) in
    let added = c.in_ok-fits.ensures.added c.if-not-fits.false in
    let left : (n - k) - 1 ≡ n - (k + 1) = omega arith in (
      lines ++ line ∷ [],
      omega (arith, length-append lines (line ∷ []), c.loop-k.invariant.1),
      added.0 ∙ (ap (λ t. t ++ comment line) c.loop-k.invariant.2 ∙ one_more first lines line),
      inl (subst (λ rest. length (c.add_if_it_fits.new.text.items ++ comments (more rest)) ≤ max_script) left added.1),
      subst (λ (xs : List Assignment). AreLinesOf c.args.text.now names end xs (lines ++ line ∷ [])) (sym (take_more all k a low ∙ ap (λ (x : Assignment). take k all ++ x ∷ []) (sym c.index-assignments-k.is)))
          (lines_more c.args.text.now names end (take k all) lines a line c.loop-k.invariant.4 (subst (IsLineOf c.args.text.now names end a) (sym c.as_slice.ensures.value) c.in_ok-line.ensures)),
    )

pub returns-then-not-fits : goal.returns-then-not-fits
returns-then-not-fits c =
    let names = names_in (spec_of c.args.checked.now.spec) in
    let end = c.args.end.now in
    let all = c.args.assignments.now in
    let first = c.args.first.now in
    let lines = c.loop-k.invariant.0 in
    let line = c.as_slice.result.now in
    let k = c.loop-k.k in
    let a = c.index-assignments-k.result in
    let low : k < length all = omega (arith, c.loop-k-test.true) in
    let rest = c.args.count - k in
    let shown = c.loop-k.shown.items in
    let left = c.in_ok-fits.ensures.left c.if-not-fits.true in
    let text : c.add_rest.new.text.items ≡ shown ++ comments (more rest) = c.in_ok-add_rest.ensures ∙ ap (λ t. t ++ comments (more rest)) left.0 in
    let longer : (shown ++ comment line) ++ comments (more (rest - 1)) ≡ clash_text first (lines ++ line ∷ []) (rest - 1) =
    ap (λ t. t ++ comments (more (rest - 1))) (ap (λ t. t ++ comment line) c.loop-k.invariant.2 ∙ one_more first lines line)
    ∙ with_rest first (lines ++ line ∷ []) (more (rest - 1)) in
    record {
      shown = lines;
      rest = rest;
      of_first = subst (λ n. AreLinesOf c.args.text.now names end (take n all) lines) (sym c.loop-k.invariant.1) c.loop-k.invariant.4;
      all = omega (arith, c.loop-k.invariant.1, low, c.requires);
      is = text ∙ (ap (λ t. t ++ comments (more rest)) c.loop-k.invariant.2 ∙ with_rest first lines (more rest));
      fits = elim c.loop-k.invariant.3 [
        | inl fit ↦ inl (subst (λ (t : List ℕ). length t ≤ max_script) (sym text) fit)
        | inr none ↦ inr none
      ];
      most = inr (
        a,
        line,
        subst (λ n. slice_get all n ≡ Some a) (sym c.loop-k.invariant.1) (found_at all k a low c.index-assignments-k.is),
        subst (IsLineOf c.args.text.now names end a) (sym c.as_slice.ensures.value) c.in_ok-line.ensures,
        subst (λ (t : List ℕ). max_script < length t) longer left.1,
      );
    }

pub returns : goal.returns
returns c =
    let names = names_in (spec_of c.args.checked.now.spec) in
    let end = c.args.end.now in
    let all = c.args.assignments.now in
    let first = c.args.first.now in
    let lines = c.loop-k.invariant.0 in
    let k = c.loop-k.k in
    let rest = c.args.count - k in
    let shown = c.loop-k.shown.items in
    let past : length all ≤ k = omega (arith, c.loop-k-test.false) in
    let are = c.loop-k.invariant.4 in
    let whole : k ≡ length all = omega (arith, past, sym c.loop-k.invariant.1 ∙ sym (as_many c.args.text.now names end (take k all) lines are), length-take k all) in
    let fit = subst (λ t. (length (t ++ comments (more rest)) ≤ max_script) ⊎ (lines ≡ [])) c.loop-k.invariant.2 c.loop-k.invariant.3 in
    let few : length lines < greatest_shown = elim (cases_lt (length lines) greatest_shown) [
      | inl low ↦ low
      | inr many ↦ absurd (too_many c.args.text.now names end (take k all) first lines (more rest) are many fit)
    ] in
    let nothing : rest ≡ 0 = omega (arith, whole, few, c.loop-k.invariant.1, c.requires) in
    record {
      shown = lines;
      rest = 0;
      of_first = subst (λ n. AreLinesOf c.args.text.now names end (take n all) lines) (sym c.loop-k.invariant.1) are;
      all = omega (arith, c.loop-k.invariant.1, nothing, whole, c.requires);
      is = c.loop-k.invariant.2 ∙ sym (append-nil (comments (first ∷ lines))) ∙ with_rest first lines [];
      fits = elim fit [
        | inl fits ↦ inl (omega (arith, fits, ap length c.loop-k.invariant.2, length-append (comments (first ∷ lines)) (comments (more rest))))
        | inr none ↦ inr none
      ];
      most = inl refl;
    }
