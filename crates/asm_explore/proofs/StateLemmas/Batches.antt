-- Free. The nodes that are expanded at once.
--     next_in, map_last              one more of the nodes from a place on
--     batch_at, shallow_at           what holds of each of their states
--     each_mapped, each_between      what holds of all nodes holds of these
--     same_node                      one node is at a place
--     front_states, front_each, front_few, front_none     what holds of the first ones of them
use Rattle.std.proofs.Common.{◌≡◌, ℕ, zero, suc, ◌+◌, ◌-◌, ◌<◌, ◌≤◌, List, [], ◌∷◌, ◌++◌, map, take, drop, length, get_or, refl, sym, ap, subst, ◌∙◌, arith}
use Rattle.std.specs.Prelude.{slice_get, Some}
use Rattle.std.proofs.lemmas.List.{take_more, length-drop}
use Rattle.std.proofs.lemmas.Option.{get_or_from_slice_get, slice_get_within}
use Rattle.asm_state.specs.declared.value.Value.{Value}
use Rattle.asm_explore.specs.code.PackedNodes.{Node}
use Rattle.asm_explore.specs.code.OutcomeLists.{Each}
use Rattle.asm_explore.proofs.StateLemmas.PackedNodes.{get_or_drop}

pub next_in : (nodes : List Node) (first i number : ℕ) (n : Node) → first + i ≡ number → slice_get nodes number ≡ Some n
    → take (i + 1) (drop first nodes) ≡ take i (drop first nodes) ++ n ∷ []
next_in nodes first i number n at there =
    let xs = drop first nodes in
    let low : number < length nodes = slice_get_within nodes number n there in
    let inside : i < length xs = omega (arith, length-drop first nodes, at, low) in
    let place : number - first ≡ i = omega (arith, at) in
    take_more xs i n inside
    ∙ ap (λ m. take i xs ++ m ∷ [])
    (ap (λ k. get_or xs k n) (sym place) ∙ get_or_drop nodes first number n (omega (arith, at)) ∙ get_or_from_slice_get nodes number n n there)

pub map_last : (xs : List Node) (n : Node) → map (λ (m : Node). m.state) (xs ++ n ∷ []) ≡ map (λ (m : Node). m.state) xs ++ n.state ∷ []
map_last [] n = refl
map_last (x ∷ xs) n = ap (λ ys. x.state ∷ ys) (map_last xs n)

got_front : {X : Type 0} (xs : List X) (m k : ℕ) (n : X) → k < m → slice_get xs k ≡ Some n → slice_get (take m xs) k ≡ Some n
got_front [] m k n low there = cc
got_front (x ∷ xs) zero k n low there = absurd (omega (arith, low))
got_front (x ∷ xs) (suc m) zero n low there = there
got_front (x ∷ xs) (suc m) (suc k) n low there = got_front xs m k n (omega (arith, low)) there

got_back : {X : Type 0} (xs : List X) (first k : ℕ) (n : X) → slice_get xs (first + k) ≡ Some n → slice_get (drop first xs) k ≡ Some n
got_back xs zero k n there =
    let same : k ≡ 0 + k = omega arith in
    ap (slice_get xs) same ∙ there
got_back [] (suc first) k n there = cc
got_back (x ∷ xs) (suc first) k n there =
    let same : suc (first + k) ≡ suc first + k = omega arith in
    got_back xs first k n (ap (slice_get (x ∷ xs)) same ∙ there)

got : {X : Type 0} (xs : List X) (first m k : ℕ) (n : X) → k < m → slice_get xs (first + k) ≡ Some n → slice_get (take m (drop first xs)) k ≡ Some n
got xs first m k n low there = got_front (drop first xs) m k n low (got_back xs first k n there)

pub each_there : {X : Type 0} (P : X → Type 0) (xs : List X) (k : ℕ) (x : X) → Each P xs → slice_get xs k ≡ Some x → P x
each_there P [] k x h there = cc
each_there P (y ∷ ys) zero x h there = subst P (cc) h.0
each_there P (y ∷ ys) (suc k) x h there = each_there P ys k x h.1 there

pub shallow_at : (P : Node → Type 0) (nodes : List Node) (first m k : ℕ) (n : Node) → Each P (take m (drop first nodes)) → k < m → slice_get nodes (first + k) ≡ Some n → P n
shallow_at P nodes first m k n h low there = each_there P (take m (drop first nodes)) k n h (got nodes first m k n low there)

mapped_at : (xs : List Node) (k : ℕ) (n : Node) (d : List Value) → slice_get xs k ≡ Some n → get_or (map (λ (m : Node). m.state) xs) k d ≡ n.state
mapped_at [] k n d there = cc
mapped_at (x ∷ xs) zero n d there = cc
mapped_at (x ∷ xs) (suc k) n d there = mapped_at xs k n d there

pub batch_at : (nodes : List Node) (first k : ℕ) (states : List (List Value)) (n : Node) (d : List Value) → states ≡ map (λ (m : Node). m.state) (take (length states) (drop first nodes))
    → k < length states → slice_get nodes (first + k) ≡ Some n → get_or states k d ≡ n.state
batch_at nodes first k states n d is low there =
    ap (λ ss. get_or ss k d) is ∙ mapped_at (take (length states) (drop first nodes)) k n d (got nodes first (length states) k n low there)

pub each_mapped : (P : List Value → Type 0) (xs : List Node) → Each (λ (n : Node). P n.state) xs → Each P (map (λ (n : Node). n.state) xs)
each_mapped P [] h = tt
each_mapped P (x ∷ xs) h = (h.0, each_mapped P xs h.1)

pub each_between : (P : Node → Type 0) (nodes : List Node) (first m : ℕ) → Each P nodes → Each P (take m (drop first nodes))
each_between P [] zero zero h = tt
each_between P [] zero (suc m) h = tt
each_between P [] (suc first) zero h = tt
each_between P [] (suc first) (suc m) h = tt
each_between P (n ∷ nodes) zero zero h = tt
each_between P (n ∷ nodes) zero (suc m) h = (h.0, each_between P nodes zero m h.1)
each_between P (n ∷ nodes) (suc first) m h = each_between P nodes first m h.1

pub same_node : (nodes : List Node) (i : ℕ) (n m : Node) → slice_get nodes i ≡ Some n → slice_get nodes i ≡ Some m → n ≡ m
same_node nodes i n m there here = cc

pub no_items : {X : Type 0} (xs ys : List X) → xs ≡ ys → length xs ≡ 0 → ys ≡ []
no_items xs [] is none = refl
no_items xs (y ∷ ys) is none = absurd (omega (arith, none, ap length is))

-- ---- the first ones

pub front_states : (states : List (List Value)) (xs : List Node) (m : ℕ) → states ≡ map (λ (n : Node). n.state) (take (length states) xs)
    → take m states ≡ map (λ (n : Node). n.state) (take (length (take m states)) xs)
front_states states xs zero is = refl
front_states [] xs (suc m) is = refl
front_states (s ∷ ss) [] (suc m) is = absurd (omega (arith, ap length is))
front_states (s ∷ ss) (x ∷ xs) (suc m) is =
    let head : s ≡ x.state = cc in
    let tail : ss ≡ map (λ (n : Node). n.state) (take (length ss) xs) = cc in
    ap (λ y. y ∷ take m ss) head ∙ ap (λ ys. x.state ∷ ys) (front_states ss xs m tail)

pub front_each : (P : Node → Type 0) (xs : List Node) (n m : ℕ) → m ≤ n → Each P (take n xs) → Each P (take m xs)
front_each P xs n zero low h = tt
front_each P xs zero (suc m) low h = absurd (omega (arith, low))
front_each P [] (suc n) (suc m) low h = tt
front_each P (x ∷ xs) (suc n) (suc m) low h = (h.0, front_each P xs n m (omega (arith, low)) h.1)

pub front_few : {X : Type 0} (xs : List X) (m : ℕ) → length (take m xs) ≤ length xs
front_few xs zero = omega arith
front_few [] (suc m) = omega arith
front_few (x ∷ xs) (suc m) = let few = front_few xs m in omega (arith, few)

pub front_none : {X : Type 0} (xs : List X) (m : ℕ) → (0 < length xs → 0 < m) → take m xs ≡ [] → xs ≡ []
front_none [] m some is = refl
front_none (x ∷ xs) zero some is = absurd (omega (arith, some (omega arith)))
front_none (x ∷ xs) (suc m) some is = absurd (omega (arith, ap length is))
