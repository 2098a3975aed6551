-- Free. What a look-up in the table of names finds.
use Rattle.std.proofs.Common.{◌≡◌, ℕ, suc, ◌<◌, nat_eq, Bool, true, false, cond, List, [], ◌∷◌, length, map, Option, Some, None, refl, sym, ap, subst, ◌∙◌, arith, position, is_some}
use Rattle.std.specs.Prelude.{find, option_map, IfSome, IfNone, not, nat_lt, ◌+◌}
use Rattle.std.specs.Bool.{one_answer}
use Rattle.std.specs.Cmp.{unsigned_Decides}
use Rattle.std.specs.Cmp.Lexicographic.{pointwise}
use Rattle.std.specs.List.{position_or_len}
use Rattle.std.specs.Map.{keys_of, lookup}
use Rattle.std.proofs.lemmas.Slice.Eq.{slice_eq-Decides}
use Rattle.asm_syntax.specs.SourceTree.{Spec}
use Rattle.asm_check.specs.declared.names.declared_as.Declaration.{Declaration as CodeDeclaration}
use Rattle.asm_check.specs.Names as names
use Rattle.asm_check.specs.Names.{Text, Declaration, is_text, is_among, first_declarations, declared}
use Rattle.asm_check.specs.code.names.Tables.{Entry, declared_as_view, declaration_of, IsTableOf, text_at}
use Rattle.asm_check.specs.code.names.TextKeys.{is_key}
use Rattle.asm_check.proofs.NameLemmas.FirstDeclarations.{first_stands}
use Rattle.asm_check.proofs.NameLemmas.FirstOfName.{same_text}

pub none_of : {X : Type 0} (o : Option X) → is_some o ≡ false → o ≡ None
none_of None e = refl
none_of (Some x) e = cc

abbrev pub is_of : Text → Declaration → Bool
is_of x d = is_text d.name.text x

pub text_turned : (x y : Text) → pointwise nat_eq x y ≡ is_text y x
text_turned x y =
    let d = slice_eq-Decides unsigned_Decides y x (is_text y x) refl in
    one_answer (pointwise nat_eq x y) (is_text y x) (slice_eq-Decides unsigned_Decides x y (pointwise nat_eq x y) refl)
    (λ e. sym (d.0 e), λ e. d.1 (sym e))

abbrev found_in : Text → List Entry → Option names.Meaning
found_in x entries = option_map (λ d. d.meaning) (find (is_of x) (map declaration_of entries))

looked_up : (entries : List Entry) (x : Text) → option_map (λ (d : CodeDeclaration). declared_as_view d.meaning) (lookup (is_key x) entries) ≡ found_in x entries
looked_up [] x = refl
looked_up (e ∷ es) x =
    ap (λ b. option_map (λ (d : CodeDeclaration). declared_as_view d.meaning) (cond b (Some e.1) (lookup (is_key x) es))) (text_turned x e.0.now)
    ∙ by_test (is_text e.0.now x) (looked_up es x)
  where
    by_test : (b : Bool) → option_map (λ (d : CodeDeclaration). declared_as_view d.meaning) (lookup (is_key x) es) ≡ found_in x es
        → option_map (λ (d : CodeDeclaration). declared_as_view d.meaning) (cond b (Some e.1) (lookup (is_key x) es))
        ≡ option_map (λ d. d.meaning) (cond b (Some (declaration_of e)) (find (is_of x) (map declaration_of es)))
    by_test true rest = refl
    by_test false rest = rest

-- what is found is what the name is declared as
pub looked_up_declared : (spec : Spec) (entries : List Entry) (x : Text) → IsTableOf spec entries
    → option_map (λ (d : CodeDeclaration). declared_as_view d.meaning) (lookup (is_key x) entries) ≡ declared spec x
looked_up_declared spec entries x table =
    looked_up entries x ∙ ap (λ ds. option_map (λ d. d.meaning) (find (is_of x) ds)) table ∙ first_stands spec x

-- the same, of what `get` returns
pub got_declared : (spec : Spec) (entries : List Entry) (x key : Text) (got : Option CodeDeclaration) → IsTableOf spec entries → key ≡ x
    → got ≡ lookup (is_key key) entries → option_map (λ (d : CodeDeclaration). declared_as_view d.meaning) got ≡ declared spec x
got_declared spec entries x key got table e found =
    ap (option_map (λ (d : CodeDeclaration). declared_as_view d.meaning)) (found ∙ ap (λ y. lookup (is_key y) entries) e) ∙ looked_up_declared spec entries x table

-- ---- positions

abbrev index : Text → List Entry → ℕ
index x entries = position_or_len (is_key x) (keys_of entries)

at_index : (entries : List Entry) (x : Text) → index x entries < length (keys_of entries) → text_at entries (index x entries) ≡ x
at_index [] x h = absurd (omega (arith, h))
at_index (e ∷ es) x h = by_test (is_key x e.0) refl h (at_index es x)
  where
    by_test : (b : Bool) → is_key x e.0 ≡ b → cond (not b) (1 + index x es) 0 < suc (length (keys_of es)) → (index x es < length (keys_of es) → text_at es (index x es) ≡ x)
        → text_at (e ∷ es) (cond (not b) (1 + index x es) 0) ≡ x
    by_test true is below rest = same_text e.0.now x (sym (text_turned x e.0.now) ∙ is)
    by_test false other below rest =
        let next : 1 + index x es ≡ suc (index x es) = omega arith in
        ap (text_at (e ∷ es)) next ∙ rest (omega (arith, below))

-- the name at the position that is found
pub named_at : (entries : List Entry) (x key : Text) (r : Option ℕ) → key ≡ x → r ≡ position (is_key key) (keys_of entries) → IfSome r (λ i. text_at entries i ≡ x)
named_at entries x key r e found =
    subst (λ y. IfSome r (λ i. text_at entries i ≡ y)) e
    (subst (λ o. IfSome o (λ i. text_at entries i ≡ key)) (sym found) (by_test (nat_lt (index key entries) (length (keys_of entries))) refl))
  where
    by_test : (b : Bool) → nat_lt (index key entries) (length (keys_of entries)) ≡ b → IfSome (cond b (Some (index key entries)) None) (λ i. text_at entries i ≡ key)
    by_test true below = at_index entries key (grind (arith, below))
    by_test false above = tt

-- a name that has no position isn't declared
pub undeclared : (spec : Spec) (entries : List Entry) (x key : Text) (r : Option ℕ) → IsTableOf spec entries → key ≡ x → is_some r ≡ is_some (lookup (is_key key) entries)
    → IfNone r (declared spec x ≡ None)
undeclared spec entries x key (Some i) table e found = tt
undeclared spec entries x key None table e found = sym (got_declared spec entries x key None table e (none_there (lookup (is_key key) entries) found))
  where
    none_there : (o : Option CodeDeclaration) → false ≡ is_some o → None ≡ o
    none_there None h = refl
    none_there (Some d) h = cc
