-- Free. An ordered map by texts.
--     spelled_same        a search ends where the texts are the same
--     lookup_inserted     what it finds after one more text was put there
use Rattle.std.proofs.Common.{◌≡◌, ℕ, Bool, true, false, cond, List, [], ◌∷◌, Option, Some, Ordering, Less, Equal, Greater, refl, sym, ap, ◌∙◌, true≢false, nat_eq}
use Rattle.std.specs.Cmp.{unsigned_ties}
use Rattle.std.specs.Cmp.Lexicographic.{pointwise, slice_cmp, lists_ties, bytes_decides, nat_list_eq_equiv}
use Rattle.std.specs.Map.{lookup}
use Rattle.std.specs.BTreeMap.{insert_entry}
use Rattle.std.specs.Ordering.{is_eq, match_ordering, nat_cmp}
use Rattle.asm_resolve.specs.code.Slots.{is_spelled}

pub spelled_same : (x y : List ℕ) → is_spelled x y ≡ pointwise nat_eq x y
spelled_same x y = sym (lists_ties nat_cmp unsigned_ties x y)

spelled_turned : (x y : List ℕ) → is_spelled x y ≡ is_spelled y x
spelled_turned x y = spelled_same x y ∙ nat_list_eq_equiv.symm x y ∙ sym (spelled_same y x)

module _ {Q V : Type 0} (spelled : Q → List ℕ) (k : Q) (v : V) where
  abbrev in_turn : Q → Q → Ordering
  in_turn a b = slice_cmp nat_cmp (spelled a) (spelled b)

  abbrev finds : List ℕ → Q → Bool
  finds x q = is_spelled x (spelled q)

  never_both : (x : List ℕ) (q : Q) → in_turn k q ≡ Greater → finds x k ≡ true → finds x q ≡ true → ⊥
  never_both x q above at_k at_q =
      let one : x ≡ spelled k = (bytes_decides x (spelled k)).0 (sym (spelled_same x (spelled k)) ∙ at_k) in
      true≢false (sym at_q ∙ ap (λ y. is_spelled y (spelled q)) one ∙ ap is_eq above)

  pub lookup_inserted : (es : List (Q × V)) (x : List ℕ) → lookup (finds x) (insert_entry in_turn es k v) ≡ cond (is_spelled (spelled k) x) (Some v) (lookup (finds x) es)
  lookup_inserted es x = inserted es ∙ ap (λ b. cond b (Some v) (lookup (finds x) es)) (spelled_turned x (spelled k))
    where
      alike : (b : Bool) (w : V) (o : Option V) → cond b (Some v) o ≡ cond b (Some v) (cond b (Some w) o)
      alike true w o = refl
      alike false w o = refl

      apart : (a b : Bool) (w : V) (o : Option V) → (a ≡ true → b ≡ true → ⊥) → cond b (Some w) (cond a (Some v) o) ≡ cond a (Some v) (cond b (Some w) o)
      apart true true w o never = absurd (never refl refl)
      apart true false w o never = refl
      apart false true w o never = refl
      apart false false w o never = refl

      inserted : (es : List (Q × V)) → lookup (finds x) (insert_entry in_turn es k v) ≡ cond (finds x k) (Some v) (lookup (finds x) es)
      inserted [] = refl
      inserted (e ∷ es) = by_order (in_turn k e.0) refl (inserted es)
        where
          by_order : (o : Ordering) → in_turn k e.0 ≡ o → lookup (finds x) (insert_entry in_turn es k v) ≡ cond (finds x k) (Some v) (lookup (finds x) es)
              → lookup (finds x) (match_ordering o ((k, v) ∷ e ∷ es) ((e.0, v) ∷ es) (e ∷ insert_entry in_turn es k v)) ≡ cond (finds x k) (Some v) (cond (finds x e.0) (Some e.1) (lookup (finds x) es))
          by_order Less is rest = refl
          by_order Equal is rest =
              let one : spelled k ≡ spelled e.0 = (bytes_decides (spelled k) (spelled e.0)).0 (sym (spelled_same (spelled k) (spelled e.0)) ∙ ap is_eq is) in
              let same : finds x e.0 ≡ finds x k = ap (is_spelled x) (sym one) in
              ap (λ b. cond b (Some v) (lookup (finds x) es)) same ∙ alike (finds x k) e.1 (lookup (finds x) es)
              ∙ ap (λ b. cond (finds x k) (Some v) (cond b (Some e.1) (lookup (finds x) es))) (sym same)
          by_order Greater is rest =
              ap (cond (finds x e.0) (Some e.1)) rest ∙ apart (finds x k) (finds x e.0) e.1 (lookup (finds x) es) (never_both x e.0 is)
