-- Free. Laws of update sets: their order, their members, and the tests.
use Rattle.std.proofs.Common.{◌≡◌, ℕ, Bool, true, false, not, ◌&&◌, ◌||◌, List, [], ◌∷◌, refl, sym, ap, subst, ◌∙◌, arith}
use Rattle.std.specs.Bool.{Decides, nat_eq}
use Rattle.std.proofs.lemmas.Bool.Decides.{nat_tests}
use Rattle.std.specs.Cmp.{IsTotalOrder, Equal-is, tied_itself}
use Rattle.std.specs.FinMap.{IsAntisymmetric}
use Rattle.std.specs.FinSet as set
use Rattle.std.specs.List.{list_all, list_any}
use Rattle.std.specs.Ordering.{eq_by_cmp}
use Rattle.std.specs.declared.cmp.Ordering.{Ordering}
use Rattle.std.proofs.lemmas.Cmp.{on_total, then_total}
use Rattle.std.proofs.lemmas.Bool.{false≢true, and_parts, and_from, or_right}
use Rattle.asm_state.specs.declared.value.Value.{Value}
use Rattle.asm_state.specs.Value.{value_cmp, value_cmp-total, value_cmp-antisymmetric}
use Rattle.asm_state.specs.Location.{Location, Proper, Stray, location_cmp, location_cmp-total, location_cmp-antisymmetric, first_tie, second_tie}
use Rattle.asm_state.specs.Updates.{Update, UpdateSet, update, update_cmp, IsConsistent, none, is_none, is_proper, are_alike, is_consistent}
use Rattle.asm_state.specs.UpdateLaws.{TestLaws}

pub update_cmp-total : IsTotalOrder update_cmp
update_cmp-total = then_total (on_total (λ (u : Update). u.location) location_cmp-total) (on_total (λ (u : Update). u.value) value_cmp-total)

pub update_cmp-antisymmetric : IsAntisymmetric update_cmp
update_cmp-antisymmetric u w e i = record {
  location = location_cmp-antisymmetric u.location w.location (first_tie _ _ e) i;
  value = value_cmp-antisymmetric u.value w.value (second_tie (location_cmp u.location w.location) _ e) i;
}

module _ {K : Type 0} {R : K → K → Ordering} (o : IsTotalOrder R) (same : IsAntisymmetric R) (p : K → Bool) where
  -- what each element passes a member passes
  pub passes_at : (xs : List K) (q : K) → list_all p xs ≡ true → list_any (eq_by_cmp R q) xs ≡ true → p q ≡ true
  passes_at [] q h m = absurd (false≢true m)
  passes_at (x ∷ xs) q h m =
      elim (eq_by_cmp R q x) as (λ b. eq_by_cmp R q x ≡ b → (b || list_any (eq_by_cmp R q) xs) ≡ true → p q ≡ true) [
        | true ↦ λ tie _. subst (λ y. p y ≡ true) (sym (same q x ((Equal-is (R q x)).0 tie))) (and_parts (p x) _ h).0
        | false ↦ λ _ later. passes_at xs q (and_parts (p x) _ h).1 later
      ] refl m

  -- each element passes if each member does
  pub passes_all : (xs : List K) → ((q : K) → list_any (eq_by_cmp R q) xs ≡ true → p q ≡ true) → list_all p xs ≡ true
  passes_all [] each = refl
  passes_all (x ∷ xs) each =
      and_from (p x) _
      (each x (ap (λ b. b || list_any (eq_by_cmp R x) xs) ((Equal-is (R x x)).1 (tied_itself o x))))
      (passes_all xs (λ q m. each q (or_right (eq_by_cmp R q x) _ m)))

-- a set as the list of its updates
abbrev lists : UpdateSet → Update → Type 0
lists U u = list_any (eq_by_cmp update_cmp u) (set.items U) ≡ true

listed : (U : UpdateSet) (u : Update) → set.contains U u ≡ true → lists U u
listed U u h = sym (set.contains-items U u) ∙ h

unlisted : (U : UpdateSet) (u : Update) → lists U u → set.contains U u ≡ true
unlisted U u h = set.contains-items U u ∙ h

-- what each update of a set passes
pub passes_in : (p : Update → Bool) (U : UpdateSet) (u : Update) → list_all p (set.items U) ≡ true → set.contains U u ≡ true → p u ≡ true
passes_in p U u h m = passes_at update_cmp-total update_cmp-antisymmetric p (set.items U) u h (listed U u m)

pub passes_each : (p : Update → Bool) (U : UpdateSet) → ((u : Update) → set.contains U u ≡ true → p u ≡ true) → list_all p (set.items U) ≡ true
passes_each p U each = passes_all update_cmp-total update_cmp-antisymmetric p (set.items U) (λ u m. each u (unlisted U u m))

pub same_location : (l m : Location) → eq_by_cmp location_cmp l m ≡ true → l ≡ m
same_location l m e = location_cmp-antisymmetric l m ((Equal-is (location_cmp l m)).0 e)

pub same_value : (v w : Value) → eq_by_cmp value_cmp v w ≡ true → v ≡ w
same_value v w e = value_cmp-antisymmetric v w ((Equal-is (value_cmp v w)).0 e)

pub location_itself : (l : Location) → eq_by_cmp location_cmp l l ≡ true
location_itself l = (Equal-is (location_cmp l l)).1 (tied_itself location_cmp-total l)

pub value_itself : (v : Value) → eq_by_cmp value_cmp v v ≡ true
value_itself v = (Equal-is (value_cmp v v)).1 (tied_itself value_cmp-total v)

-- two updates of one location that are alike have one value
alike_value : (l : Location) (v w : Value) → are_alike (update l v) (update l w) ≡ true → v ≡ w
alike_value l v w h = same_value v w (second_of (eq_by_cmp location_cmp l l) _ (location_itself l) h)
  where
    second_of : (a b : Bool) → a ≡ true → (not a || b) ≡ true → b ≡ true
    second_of a b e h = grind arith

-- two updates are alike if one location means one value
alike_from : (u w : Update) → (u.location ≡ w.location → u.value ≡ w.value) → are_alike u w ≡ true
alike_from u w one =
    elim (eq_by_cmp location_cmp u.location w.location) as (λ b. eq_by_cmp location_cmp u.location w.location ≡ b → (not b || eq_by_cmp value_cmp u.value w.value) ≡ true) [
      | true ↦ λ tie. subst (λ v. eq_by_cmp value_cmp u.value v ≡ true) (one (same_location u.location w.location tie)) (value_itself u.value)
      | false ↦ λ _. refl
    ] refl

proper_is : (l : Location) → ((f : ℕ) → l ≡ Stray f → ⊥) → is_proper l ≡ true
proper_is (Proper f vs) h = refl
proper_is (Stray f) h = absurd (h f refl)

Decides-is_consistent : (U : UpdateSet) → Decides (is_consistent U) (IsConsistent U)
unfolding is_consistent
Decides-is_consistent U = (forth, back)
  where
    at_each : is_consistent U ≡ true → (u : Update) → set.contains U u ≡ true → (is_proper u.location && list_all (are_alike u) (set.items U)) ≡ true
    at_each h u m = passes_in (λ u. is_proper u.location && list_all (are_alike u) (set.items U)) U u h m

    forth : is_consistent U ≡ true → IsConsistent U
    forth h = record {
      one_value = λ l v w hv hw. alike_value l v w (passes_in (are_alike (update l v)) U (update l w) (and_parts (is_proper l) (list_all (are_alike (update l v)) (set.items U)) (at_each h (update l v) hv)).1 hw);
      no_stray = λ f v m. false≢true (and_parts false (list_all (are_alike (update (Stray f) v)) (set.items U)) (at_each h (update (Stray f) v) m)).0;
    }

    back : IsConsistent U → is_consistent U ≡ true
    back c = passes_each (λ u. is_proper u.location && list_all (are_alike u) (set.items U)) U (λ u m. and_from _ _
        (proper_is u.location (λ f e. c.no_stray f u.value (subst (λ l. set.contains U (update l u.value) ≡ true) e m)))
        (passes_each (are_alike u) U (λ w n. alike_from u w (λ e. c.one_value w.location u.value w.value (subst (λ l. set.contains U (update l u.value) ≡ true) e m) n))))

Decides-is_none : (U : UpdateSet) → Decides (is_none U) (U ≡ none)
Decides-is_none U = (λ e. set.empty_of_len U (zero_is _ e), λ e. subst (λ V. is_none V ≡ true) (sym e) empty_is)
  where
    zero_is : (n : ℕ) → nat_eq n 0 ≡ true → n ≡ 0
    zero_is n e = grind (arith, nat_tests)

    empty_is : is_none none ≡ true
    empty_is = ap (λ n. nat_eq n 0) (set.len-empty update_cmp)

pub test_laws : TestLaws
test_laws = record { emptiness = Decides-is_none; consistency = Decides-is_consistent }
