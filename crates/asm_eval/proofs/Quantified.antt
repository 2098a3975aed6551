-- Free. Tests over the values of a universe: one that settles the whole, and those of a prefix,
-- which do not.
use Rattle.std.proofs.Common.{◌≡◌, ℕ, ◌+◌, ◌≤◌, Bool, true, false, ◌||◌, ◌&&◌, List, [], ◌∷◌, length, take, drop, get_or, Some, sym, ap, ◌∙◌}
use Rattle.std.specs.Prelude.{slice_get, slice_index_or}
use Rattle.std.specs.List.{list_any, list_all}
use Rattle.std.proofs.lemmas.List.{take_all, take-append-drop}
use Rattle.std.proofs.lemmas.List.Folds.{list_any_more, list_all_more, list_any_at, list_all_at}
use Rattle.std.proofs.lemmas.Option.{slice_get_within, get_or_from_slice_get}
use Rattle.asm_state.specs.declared.value.Value.{Value}
use Rattle.asm_state.specs.declared.value.Value.TheVariants.{Truth}
use Rattle.asm_state.specs.Location.{State}
use Rattle.asm_state.specs.Signature.{Shape}
use Rattle.asm_meaning.specs.Value.{Reading, is_true}
use Rattle.asm_code.specs.code.CodeTree.{Code, Exists, Every}
use Rattle.asm_code.specs.code.Readings.{always, reading}
use Rattle.asm_eval.proofs.BlockLemmas.{any_further, all_further}

any_here : {X : Type 0} (p : X → Bool) (xs : List X) (i : ℕ) (x : X) → slice_get xs i ≡ Some x → p x ≡ true → list_any p xs ≡ true
any_here p xs i x at here = list_any_at p xs i x (slice_get_within xs i x at) (ap p (get_or_from_slice_get xs i x x at) ∙ here)

not_all_here : {X : Type 0} (p : X → Bool) (xs : List X) (i : ℕ) (x : X) → slice_get xs i ≡ Some x → p x ≡ false → list_all p xs ≡ false
not_all_here p xs i x at here = list_all_at p xs i x (slice_get_within xs i x at) (ap p (get_or_from_slice_get xs i x x at) ∙ here)

pub none_more : {X : Type 0} (p : X → Bool) (xs : List X) (i : ℕ) (x : X) → slice_get xs i ≡ Some x
    → list_any p (take i xs) ≡ false → p x ≡ false → list_any p (take (i + 1) xs) ≡ false
none_more p xs i x at before here =
    list_any_more p xs i x (slice_get_within xs i x at) ∙ ap (λ b. b || p (get_or xs i x)) before ∙ ap p (get_or_from_slice_get xs i x x at) ∙ here

pub all_more : {X : Type 0} (p : X → Bool) (xs : List X) (i : ℕ) (x : X) → slice_get xs i ≡ Some x
    → list_all p (take i xs) ≡ true → p x ≡ true → list_all p (take (i + 1) xs) ≡ true
all_more p xs i x at before here =
    list_all_more p xs i x (slice_get_within xs i x at) ∙ ap (λ b. b && p (get_or xs i x)) before ∙ ap p (get_or_from_slice_get xs i x x at) ∙ here

-- how many values the universe with a number has
pub as_many : (us : List (List Value)) (n : ℕ) (vs : List Value) (m : ℕ) → slice_get us n ≡ Some vs → m ≡ length vs → m ≡ length (slice_index_or us n [])
as_many us n vs m is same = same ∙ ap length (sym (get_or_from_slice_get us n vs [] is))

-- ---- the test of a code

module _ (shape : Shape) (rs : List Reading) (A : State) (u : ℕ) (t : Code) where
  abbrev pub passes : Value → Bool
  passes v = is_true (reading shape t (always v ∷ rs) A)

  exists_is : (vs : List Value) (b : Bool) → slice_get shape.universes u ≡ Some vs → list_any passes vs ≡ b → Truth b ≡ reading shape (Exists u t) rs A
  unfolding reading
  exists_is vs b is found = sym (ap (λ us. Truth (list_any passes us)) (get_or_from_slice_get shape.universes u vs [] is) ∙ ap Truth found)

  every_is : (vs : List Value) (b : Bool) → slice_get shape.universes u ≡ Some vs → list_all passes vs ≡ b → Truth b ≡ reading shape (Every u t) rs A
  unfolding reading
  every_is vs b is found = sym (ap (λ us. Truth (list_all passes us)) (get_or_from_slice_get shape.universes u vs [] is) ∙ ap Truth found)

  pub exists_at : (vs : List Value) (i : ℕ) (v : Value) → slice_get shape.universes u ≡ Some vs → slice_get vs i ≡ Some v → passes v ≡ true
      → Truth true ≡ reading shape (Exists u t) rs A
  exists_at vs i v is at here = exists_is vs true is (any_here passes vs i v at here)

  pub fails_at : (vs : List Value) (i : ℕ) (v : Value) → slice_get shape.universes u ≡ Some vs → slice_get vs i ≡ Some v → passes v ≡ false
      → Truth false ≡ reading shape (Every u t) rs A
  fails_at vs i v is at here = every_is vs false is (not_all_here passes vs i v at here)

  pub exists_past : (vs : List Value) (i : ℕ) → slice_get shape.universes u ≡ Some vs → length vs ≤ i → list_any passes (take i vs) ≡ false
      → Truth false ≡ reading shape (Exists u t) rs A
  exists_past vs i is past before = exists_is vs false is (ap (list_any passes) (sym (take_all i vs past)) ∙ before)

  pub every_past : (vs : List Value) (i : ℕ) → slice_get shape.universes u ≡ Some vs → length vs ≤ i → list_all passes (take i vs) ≡ true
      → Truth true ≡ reading shape (Every u t) rs A
  every_past vs i is past before = every_is vs true is (ap (list_all passes) (sym (take_all i vs past)) ∙ before)

  -- and if the values from a position on are looked at in another way
  pub exists_further : (vs : List Value) (i j : ℕ) (b : Bool) → slice_get shape.universes u ≡ Some vs → i ≡ j → list_any passes (take i vs) ≡ false → b ≡ list_any passes (drop j vs)
      → Truth b ≡ reading shape (Exists u t) rs A
  exists_further vs i j b is same before left =
      exists_is vs b is (any_further passes vs (take i vs) (drop i vs) (sym (take-append-drop i vs)) before ∙ ap (λ n. list_any passes (drop n vs)) same ∙ sym left)

  pub every_further : (vs : List Value) (i j : ℕ) (b : Bool) → slice_get shape.universes u ≡ Some vs → i ≡ j → list_all passes (take i vs) ≡ true → b ≡ list_all passes (drop j vs)
      → Truth b ≡ reading shape (Every u t) rs A
  every_further vs i j b is same before left =
      every_is vs b is (all_further passes vs (take i vs) (drop i vs) (sym (take-append-drop i vs)) before ∙ ap (λ n. list_all passes (drop n vs)) same ∙ sym left)
