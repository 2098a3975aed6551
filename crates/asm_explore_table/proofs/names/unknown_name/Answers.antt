use Rattle.std.proofs.Common.{◌≡◌, ◌∙◌, ◌+◌, ◌++◌, [], Bor, List, ℕ, ap, drop, subst, sym, take, true}
use Rattle.std.specs.Prelude.{All}
use Rattle.std.proofs.lemmas.List.{drop_more, map-append, take-append-drop, take_all}
use Rattle.asm_syntax.specs.code.Views.{spec_of}
use Rattle.asm_explore_table.specs.Tables.{is_known}
use Rattle.asm_explore_table.specs.code.StepsMade.{names_said}
use Rattle.asm_explore_table.proofs.names.unknown_name.Goals as goal

pub returns-then-not-branch-clause-some : goal.returns-then-not-branch-clause-some
returns-then-not-branch-clause-some c =
    let names = c.args.names.now in
    let k = c.loop-k.k in
    let none : Bor (List ℕ) = record { ref_ptr = (0, 0); now = [] } in
    record {
      before = names_said (take k names);
      after = names_said (drop (k + 1) names);
      parts = ap names_said (sym (take-append-drop k names)) ∙ map-append (λ (name : Bor (List ℕ)). name.now) (take k names) (drop k names)
          ∙ ap (λ (left : List (Bor (List ℕ))). names_said (take k names) ++ names_said left) (drop_more names k none c.loop-k-test.true);
      known = c.loop-k.invariant;
      unknown = sym c.in_ok-is_known.ensures ∙ c.if-not-branch.true;
    }

pub returns-clause-none : goal.returns-clause-none
returns-clause-none c =
    let names = c.args.names.now in
    subst (λ (some : List (Bor (List ℕ))). All (λ name. is_known (spec_of c.args.checked.now.spec) name ≡ true) (names_said some)) (take_all c.loop-k.k names c.loop-k-test.false) c.loop-k.invariant
