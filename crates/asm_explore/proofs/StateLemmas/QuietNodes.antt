-- Free. Lists of the quiet nodes.
--     just_more, just_next         one more element, which isn't listed, or is
--     just_first                   what the first one is that is listed
--     rested_*                     nodes, looked at one after the other
--     alive_whole, first_quiet     what the list says once the search has ended
use Rattle.std.proofs.Common.{◌≡◌, ℕ, zero, suc, ◌+◌, ◌<◌, ◌≤◌, Bool, true, List, [], ◌∷◌, ◌++◌, length, take, drop, get_or, ◌⊎◌, inl, inr, refl, sym, ap, subst, ◌∙◌, arith}
use Rattle.std.specs.Prelude.{slice_get, Some}
use Rattle.std.proofs.lemmas.List.{take_all, take_more, take-append-le, take-append-drop}
use Rattle.std.proofs.lemmas.Option.{get_or_from_slice_get, slice_get_within}
use Rattle.asm_state.specs.Location.{State}
use Rattle.asm_state.specs.Signature.{Shape}
use Rattle.asm_meaning.specs.Run.{Specification}
use Rattle.asm_explore.specs.code.PackedNodes.{Node}
use Rattle.asm_explore.specs.code.OutcomeLists.{Each}
use Rattle.asm_explore.specs.code.QuietStates.{AreJust, IsLookedAt, IsRested, RestsSo, IsFirstQuiet}
use Rattle.asm_explore.specs.code.ReachedStates.{state_at, Rises, IsLooked}
use Rattle.asm_explore.specs.Search.{IsQuiet, IsDeadlock, HoldsBefore}
use Rattle.asm_explore.proofs.OutcomeLemmas.ListLemmas.{each_append, each_weaker}
use Rattle.asm_explore.proofs.StateLemmas.MoreNodes.{holds_before, looked_whole}

module _ {X : Type 0} (P : X → Type 0) where
  pub just_more : (k : ℕ) (xs : List X) (ks : List ℕ) (x : X) → ¬ (P x) → AreJust P k xs ks → AreJust P k (xs ++ x ∷ []) ks
  just_more k [] ks x not just = inl (not, just)
  just_more k (y ∷ xs) ks x not (inl h) = inl (h.0, just_more (suc k) xs ks x not h.1)
  just_more k (y ∷ xs) ks x not (inr h) = inr (h.0, (h.1.0, h.1.1, just_more (suc k) xs h.1.0 x not h.1.2))

  pub just_next : (k : ℕ) (xs : List X) (ks : List ℕ) (x : X) → P x → AreJust P k xs ks → AreJust P k (xs ++ x ∷ []) (ks ++ (k + length xs) ∷ [])
  just_next k [] ks x so just =
      let here : k + 0 ≡ k = omega arith in
      inr (so, ([], ap (λ ns. ns ++ (k + 0) ∷ []) just ∙ ap (λ n. n ∷ []) here, refl))
  just_next k (y ∷ xs) ks x so (inl h) =
      let place : suc k + length xs ≡ k + suc (length xs) = omega arith in
      inl (h.0, subst (λ n. AreJust P (suc k) (xs ++ x ∷ []) (ks ++ n ∷ [])) place (just_next (suc k) xs ks x so h.1))
  just_next k (y ∷ xs) ks x so (inr h) =
      let place : suc k + length xs ≡ k + suc (length xs) = omega arith in
      inr (
        h.0,
        (
          h.1.0 ++ (k + suc (length xs)) ∷ [],
          ap (λ ns. ns ++ (k + suc (length xs)) ∷ []) h.1.1,
          subst (λ n. AreJust P (suc k) (xs ++ x ∷ []) (h.1.0 ++ n ∷ [])) place (just_next (suc k) xs h.1.0 x so h.1.2),
        ),
      )

  -- the first one that is listed
  pub just_first : (k : ℕ) (xs : List X) (i : ℕ) (ks : List ℕ) → AreJust P k xs (i ∷ ks)
      → (j : ℕ) × (x : X) × (i ≡ k + j) × (slice_get xs j ≡ Some x) × P x × Each (λ y. ¬ (P y)) (take j xs)
  just_first k [] i ks just = cc
  just_first k (x ∷ xs) i ks (inl h) =
      let later = just_first (suc k) xs i ks h.1 in
      (suc later.0, later.1, omega (arith, later.2), later.3, later.4, (h.0, later.5))
  just_first k (x ∷ xs) i ks (inr h) =
      let same : i ≡ k = cc in
      (0, x, omega (arith, same), refl, h.0, tt)

module _ (shape : Shape) (specification : Specification) (turns : ℕ) (rests within : State → Bool) (depth : ℕ) where
  abbrev IsListed : Node → Type 0
  IsListed n = IsLookedAt shape specification turns within depth n × IsQuiet specification turns (state_at shape n)

  abbrev IsAlive : Node → Type 0
  IsAlive n = IsLookedAt shape specification turns within depth n → ¬ (IsDeadlock specification turns rests (state_at shape n))

  pub rested_none : (nodes : List Node) (quiet : List ℕ) → quiet ≡ [] → IsRested shape specification turns rests within depth 0 nodes quiet
  rested_none nodes quiet none = record { just = none; alive = tt }

  -- the next node, among those that were there
  next_taken : (i : ℕ) (n : Node) (old new more : List Node) → slice_get old i ≡ Some n → new ≡ old ++ more → take (i + 1) new ≡ take i old ++ n ∷ []
  next_taken i n old new more there is =
      let low : i < length old = slice_get_within old i n there in
      ap (take (i + 1)) is ∙ take-append-le (i + 1) old more (omega (arith, low)) ∙ take_more old i n low
      ∙ ap (λ m. take i old ++ m ∷ []) (get_or_from_slice_get old i n n there)

  length_taken : {X : Type 0} (xs : List X) (i : ℕ) → i ≤ length xs → length (take i xs) ≡ i
  length_taken xs zero low = refl
  length_taken [] (suc i) low = absurd (omega (arith, low))
  length_taken (x ∷ xs) (suc i) low = ap suc (length_taken xs i (omega (arith, low)))

  -- there are more nodes
  pub rested_same : (i : ℕ) (old new more : List Node) (quiet now : List ℕ) → i ≤ length old → new ≡ old ++ more → now ≡ quiet
      → IsRested shape specification turns rests within depth i old quiet → IsRested shape specification turns rests within depth i new now
  rested_same i old new more quiet now low is same rested =
      let first : take i new ≡ take i old = ap (take i) is ∙ take-append-le i old more low in
      record {
        just = subst (λ ns. AreJust IsListed 0 ns now) (sym first) (subst (AreJust IsListed 0 (take i old)) (sym same) rested.just);
        alive = subst (Each IsAlive) (sym first) rested.alive;
      }

  -- one isn't looked at
  pub rested_past : (i : ℕ) (n : Node) (nodes : List Node) (quiet : List ℕ) → slice_get nodes i ≡ Some n → ¬ (IsLookedAt shape specification turns within depth n)
      → IsRested shape specification turns rests within depth i nodes quiet → IsRested shape specification turns rests within depth (i + 1) nodes quiet
  rested_past i n nodes quiet there past rested =
      let low : i < length nodes = slice_get_within nodes i n there in
      let next : take (i + 1) nodes ≡ take i nodes ++ n ∷ [] = take_more nodes i n low ∙ ap (λ m. take i nodes ++ m ∷ []) (get_or_from_slice_get nodes i n n there) in
      record {
        just = subst (λ ns. AreJust IsListed 0 ns quiet) (sym next) (just_more IsListed 0 (take i nodes) quiet n (λ listed. past listed.0) rested.just);
        alive = subst (Each IsAlive) (sym next) (each_append IsAlive (take i nodes) (n ∷ []) rested.alive ((λ at. absurd (past at)), tt));
      }

  -- one is
  pub rested_more : (i : ℕ) (n : Node) (old new more : List Node) (quiet now : List ℕ) → slice_get old i ≡ Some n → new ≡ old ++ more → IsLookedAt shape specification turns within depth n
      → RestsSo specification turns rests (state_at shape n) i quiet now
      → IsRested shape specification turns rests within depth i old quiet → IsRested shape specification turns rests within depth (i + 1) new now
  rested_more i n old new more quiet now there is at so rested =
      let low : i < length old = slice_get_within old i n there in
      let next = next_taken i n old new more there is in
      record {
        just = subst (λ ns. AreJust IsListed 0 ns now) (sym next) (by_quiet low so.1);
        alive = subst (Each IsAlive) (sym next) (each_append IsAlive (take i old) (n ∷ []) rested.alive ((λ at. so.0), tt));
      }
    where
      by_quiet : i < length old → (IsQuiet specification turns (state_at shape n) × (now ≡ quiet ++ i ∷ [])) ⊎ (¬ (IsQuiet specification turns (state_at shape n)) × (now ≡ quiet))
          → AreJust IsListed 0 (take i old ++ n ∷ []) now
      by_quiet low (inl h) =
          let long : length (take i old) ≡ i = length_taken old i (omega (arith, low)) in
          let place : 0 + length (take i old) ≡ i = omega (arith, long) in
          subst (AreJust IsListed 0 (take i old ++ n ∷ [])) (ap (λ k. quiet ++ k ∷ []) place ∙ sym h.1)
          (just_next IsListed 0 (take i old) quiet n (at, h.0) rested.just)
      by_quiet low (inr h) =
          subst (AreJust IsListed 0 (take i old ++ n ∷ [])) (sym h.1)
          (just_more IsListed 0 (take i old) quiet n (λ listed. h.0 listed.1) rested.just)

  -- ---- once the search has ended

  -- of a node that is less deep, and within
  abbrev Lives : ℕ → Node → Type 0
  Lives below n = n.depth < below → within (state_at shape n) ≡ true → ¬ (IsDeadlock specification turns rests (state_at shape n))

  abbrev Moves : ℕ → Node → Type 0
  Moves below n = n.depth < below → within (state_at shape n) ≡ true → ¬ (IsQuiet specification turns (state_at shape n))

  pub alive_whole : (i whole : ℕ) (nodes : List Node) (quiet : List ℕ) → whole ≤ depth → Each (λ n. whole ≤ n.depth) (drop i nodes)
      → IsRested shape specification turns rests within depth i nodes quiet
      → Each (λ n. n.depth < whole → within (state_at shape n) ≡ true → ¬ (IsDeadlock specification turns rests (state_at shape n))) nodes
  alive_whole i whole nodes quiet low rest rested =
      subst (Each (Lives whole)) (take-append-drop i nodes)
      (each_append (Lives whole) (take i nodes) (drop i nodes)
      (each_weaker IsAlive (Lives whole) (λ n alive deep inside. alive (omega (arith, deep, low), inside)) (take i nodes) rested.alive)
      (each_weaker (λ n. whole ≤ n.depth) (Lives whole) (λ n high deep inside. absurd (omega (arith, deep, high))) (drop i nodes) rest))

  pub alive_all : (i : ℕ) (nodes : List Node) (quiet : List ℕ) → length nodes ≤ i → IsRested shape specification turns rests within depth i nodes quiet
      → Each (λ n. n.depth < depth → within (state_at shape n) ≡ true → ¬ (IsDeadlock specification turns rests (state_at shape n))) nodes
  alive_all i nodes quiet past rested =
      subst (Each (Lives depth)) (take_all i nodes past) (each_weaker IsAlive (Lives depth) (λ n alive deep inside. alive (deep, inside)) (take i nodes) rested.alive)

  -- ---- the first one

  pub each_got_of : {X : Type 0} (P : X → Type 0) (xs : List X) → ((k : ℕ) (x : X) → slice_get xs k ≡ Some x → P x) → Each P xs
  each_got_of P [] all = tt
  each_got_of P (x ∷ xs) all = (all 0 x refl, each_got_of P xs (λ k y there. all (suc k) y there))

  drop_got : {X : Type 0} (xs : List X) (first k : ℕ) (x : X) → slice_get (drop first xs) k ≡ Some x → slice_get xs (first + k) ≡ Some x
  drop_got xs zero k x there =
      let same : 0 + k ≡ k = omega arith in
      ap (slice_get xs) same ∙ there
  drop_got [] (suc first) k x there = cc
  drop_got (y ∷ xs) (suc first) k x there =
      let same : suc first + k ≡ suc (first + k) = omega arith in
      ap (slice_get (y ∷ xs)) same ∙ drop_got xs first k x there

  take_got : {X : Type 0} (xs : List X) (i k : ℕ) (x : X) → slice_get (take i xs) k ≡ Some x → (k < i) × (slice_get xs k ≡ Some x)
  take_got [] zero k x there = cc
  take_got [] (suc i) k x there = cc
  take_got (y ∷ xs) zero k x there = cc
  take_got (y ∷ xs) (suc i) zero x there = (omega arith, there)
  take_got (y ∷ xs) (suc i) (suc k) x there =
      let later = take_got xs i k x there in
      (omega (arith, later.0), later.1)

  take_take : {X : Type 0} (xs : List X) (i j : ℕ) → j ≤ i → take j (take i xs) ≡ take j xs
  take_take [] zero zero low = refl
  take_take [] zero (suc j) low = refl
  take_take [] (suc i) zero low = refl
  take_take [] (suc i) (suc j) low = refl
  take_take (x ∷ xs) zero zero low = refl
  take_take (x ∷ xs) zero (suc j) low = absurd (omega (arith, low))
  take_take (x ∷ xs) (suc i) zero low = refl
  take_take (x ∷ xs) (suc i) (suc j) low = ap (λ ys. x ∷ ys) (take_take xs i j (omega (arith, low)))

  behind : (nodes : List Node) (j k : ℕ) (n : Node) → Rises nodes → slice_get nodes j ≡ Some n → j ≤ k → Each (λ m. n.depth ≤ m.depth) (drop k nodes)
  behind nodes j k n rises there upto =
      each_got_of (λ m. n.depth ≤ m.depth) (drop k nodes) (λ l m here. rises j (k + l) n m (omega (arith, upto)) there (drop_got nodes k l m here))

  pub first_quiet : (right : State → Bool) (i : ℕ) (nodes : List Node) (quiet : List ℕ) → IsLooked shape specification turns right within depth i nodes
      → IsRested shape specification turns rests within depth i nodes quiet → IsFirstQuiet shape specification turns within nodes quiet
  first_quiet right i nodes [] so_far rested = tt
  first_quiet right i nodes (q ∷ quiet) so_far rested =
      let one = just_first IsListed 0 (take i nodes) q quiet rested.just in
      let j = one.0 in
      let n = one.1 in
      let same : q ≡ j = omega (arith, one.2) in
      let there = take_got nodes i j n one.3 in
      let searched = looked_whole shape specification turns right within depth i n.depth nodes (omega (arith, one.4.0.0)) (behind nodes j i n so_far.rises there.1 (omega (arith, there.0))) so_far in (
        n,
        ap (slice_get nodes) same ∙ there.1,
        one.4.0.1,
        one.4.1,
        holds_before shape specification turns right within n.depth nodes searched (λ A. ¬ (IsQuiet specification turns A))
            (subst (Each (Moves n.depth)) (take-append-drop j nodes)
            (each_append (Moves n.depth) (take j nodes) (drop j nodes)
            (each_weaker (λ m. ¬ (IsListed m)) (Moves n.depth) (λ m no deep inside still. no ((omega (arith, deep, one.4.0.0), inside), still)) (take j nodes)
            (subst (Each (λ m. ¬ (IsListed m))) (take_take nodes i j (omega (arith, there.0))) one.5))
            (each_weaker (λ m. n.depth ≤ m.depth) (Moves n.depth) (λ m high deep inside. absurd (omega (arith, high, deep))) (drop j nodes) (behind nodes j j n so_far.rises there.1 (omega arith))))),
      )

  pub first_listed : (nodes : List Node) (quiet : List ℕ) (i d : ℕ) → 0 < length quiet → i ≡ get_or quiet 0 d → IsFirstQuiet shape specification turns within nodes quiet
      → (n : Node) × (slice_get nodes i ≡ Some n) × (within (state_at shape n) ≡ true) × IsQuiet specification turns (state_at shape n)
      × HoldsBefore specification turns within (λ A. ¬ (IsQuiet specification turns A)) n.depth
  first_listed nodes [] i d some is first = absurd (omega (arith, some))
  first_listed nodes (q ∷ quiet) i d some is first = (first.0, ap (slice_get nodes) is ∙ first.1, first.2, first.3, first.4)
