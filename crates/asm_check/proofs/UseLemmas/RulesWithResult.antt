-- Free. Rules with a result, as the table says.
use Rattle.std.proofs.Common.{◌≡◌, ℕ, ◌<◌, Bool, false, ◌||◌, List, [], ◌∷◌, length, map, get_or, refl, sym, ap, ◌∙◌}
use Rattle.std.specs.List.{list_any}
use Rattle.std.proofs.lemmas.List.{get_or-map}
use Rattle.asm_syntax.specs.SourceTree.{Spec}
use Rattle.asm_check.specs.code.uses.RulesWithResult.{is_with_result, AreWithResult}
use Rattle.asm_check.specs.Names.{Text, declared, has_result_in_body, is_result}
use Rattle.asm_check.specs.code.names.Tables.{Entry, IsTableOf, text_at}
use Rattle.asm_check.specs.code.uses.UseViews.{use_of}
use Rattle.asm_check.specs.declared.uses.declaration_uses.Use.{Use as CodeUse}
use Rattle.asm_check.proofs.NameLemmas.EachNameOnce.{entry_there, position_declared}
use Rattle.asm_check.proofs.CycleLemmas.StepsCollected.{got}

-- what is at a position of the table has a result, if the name does
pub answers_at : (spec : Spec) (entries : List Entry) (answering : List Bool) (i : ℕ) (x : Text) → IsTableOf spec entries → AreWithResult entries answering → i < length entries
    → text_at entries i ≡ x → get_or answering i false ≡ has_result_in_body (declared spec x)
answers_at spec entries answering i x table are below name =
    let there = entry_there entries i below in
    ap (λ bs. get_or bs i false) are
    ∙ get_or-map is_with_result entries i there.0 false below
    ∙ ap is_with_result (got entries i there.0 there.1)
    ∙ ap has_result_in_body (sym (position_declared spec entries table i there.0 there.1))
    ∙ ap (λ y. has_result_in_body (declared spec y)) name

-- the word among the uses that the code has
pub any_result : (us : List CodeUse) → list_any (λ u. is_result u.role) (map use_of us) ≡ list_any (λ (u : CodeUse). is_result (use_of u).role) us
any_result [] = refl
any_result (u ∷ us) = ap (λ b. is_result (use_of u).role || b) (any_result us)
