-- Free. Nodes each of which has a state of its own.
--     mapped_at            what a mapped list has
--     own_more             one more node, whose state is new
--     own_first            one before them
--     own_added            one more if memory isn't refused
--     added_ok, added_err    so it is said of the same nodes
--     contents_same        contents that are the same state are the same
--     states_different     the states of the nodes are different
use Rattle.std.proofs.Common.{◌≡◌, ℕ, zero, suc, ◌+◌, List, [], ◌∷◌, ◌++◌, ◌⊎◌, length, map, inl, inr, sym, ap, subst, ◌∙◌, arith}
use Rattle.std.specs.Option.{option_map}
use Rattle.std.specs.Prelude.{slice_get, Some, Result, Ok, Err, OnErr, OnOk}
use Rattle.std.proofs.lemmas.List.{ext_get_or, length-map}
use Rattle.std.proofs.lemmas.Option.{same_Some, slice_get_within, slice_get-map}
use Rattle.asm_state.specs.code.Contents.{IsStateOf}
use Rattle.asm_state.specs.declared.value.Value.{Value}
use Rattle.asm_state.specs.declared.value.Value.TheVariants.{Undef}
use Rattle.asm_state.specs.Signature.{Shape, location_at, state_of}
use Rattle.asm_state.proofs.StatesByNumbers.{state_laws}
use Rattle.asm_explore.specs.code.IndexedNodes.{HaveOwnStates, IsNew}
use Rattle.asm_explore.specs.ListElements.{Each}
use Rattle.asm_explore.specs.code.PackedNodes.{Node}
use Rattle.asm_explore.specs.code.ReachedStates.{state_at}
use Rattle.asm_explore.specs.StateLists.{AreDifferent}
use Rattle.asm_explore.proofs.StateLemmas.MoreNodes.{each_got, slice_split, some_at}

pub mapped_at : {X Y : Type 0} (f : X → Y) (xs : List X) (i : ℕ) (x : X) → slice_get xs i ≡ Some x → slice_get (map f xs) i ≡ Some (f x)
mapped_at f xs i x there = slice_get-map f xs i ∙ ap (option_map f) there

pub own_more : (nodes : List Node) (one : Node) → HaveOwnStates nodes → IsNew nodes one.state → HaveOwnStates (nodes ++ one ∷ [])
own_more nodes one own new i j m n less here there = by_place (slice_split nodes (one ∷ []) i m here) (slice_split nodes (one ∷ []) j n there)
  where
    by_place : (slice_get nodes i ≡ Some m) ⊎ ((k : ℕ) × (i ≡ length nodes + k) × (slice_get (one ∷ []) k ≡ Some m))
        → (slice_get nodes j ≡ Some n) ⊎ ((k : ℕ) × (j ≡ length nodes + k) × (slice_get (one ∷ []) k ≡ Some n)) → m.state ≡ n.state → ⊥
    by_place (inl a) (inl b) same = own i j m n less a b same
    by_place (inl a) (inr (zero, at, b)) same =
        let last : one ≡ n = cc in
        new i m a (same ∙ ap (λ (x : Node). x.state) (sym last))
    by_place (inl a) (inr (suc k, at, b)) same = omega (arith, slice_get_within (one ∷ []) (suc k) n b)
    by_place (inr a) (inl b) same = omega (arith, less, a.1, slice_get_within nodes j n b)
    by_place (inr a) (inr b) same = omega (arith, less, a.1, b.1, slice_get_within (one ∷ []) b.0 n b.2)

pub own_first : (nodes : List Node) (one : Node) → HaveOwnStates nodes → IsNew nodes one.state → HaveOwnStates (one ∷ nodes)
own_first nodes one own new zero zero m n less here there same = omega (arith, less)
own_first nodes one own new zero (suc j) m n less here there same =
    let first : one ≡ m = cc in
    new j n there (sym same ∙ ap (λ (x : Node). x.state) (sym first))
own_first nodes one own new (suc i) zero m n less here there same = omega (arith, less)
own_first nodes one own new (suc i) (suc j) m n less here there same = own i j m n (omega (arith, less)) here there same

pub own_added : {X E : Type 0} (r : Result X E) (old new : List Node) (one : Node) → HaveOwnStates old → IsNew old one.state
    → OnOk r (new ≡ old ++ one ∷ []) → OnErr r (new ≡ old) → HaveOwnStates new
own_added (Ok x) old new one own is_new ok err = subst HaveOwnStates (sym ok) (own_more old one own is_new)
own_added (Err e) old new one own is_new ok err = subst HaveOwnStates (sym err) own

pub added_ok : {X E : Type 0} (r : Result X E) (old said new : List Node) (one : Node) → old ≡ said → OnOk r (new ≡ old ++ one ∷ []) → OnOk r (new ≡ said ++ one ∷ [])
added_ok (Ok x) old said new one same ok = ok ∙ ap (λ nodes. nodes ++ one ∷ []) same
added_ok (Err e) old said new one same ok = tt

pub added_err : {X E : Type 0} (r : Result X E) (old said new : List Node) → old ≡ said → OnErr r (new ≡ old) → OnErr r (new ≡ said)
added_err (Ok x) old said new same err = tt
added_err (Err e) old said new same err = err ∙ same

module _ (shape : Shape) where
  pub contents_same : (xs ys : List Value) → IsStateOf shape xs → IsStateOf shape ys → state_of shape xs ≡ state_of shape ys → xs ≡ ys
  contents_same xs ys one other same =
      ext_get_or Undef xs ys (one.whole ∙ sym other.whole)
      (λ i low. state_laws.content_at shape xs i one (omega (arith, low, one.whole)) ∙ ap (λ A. A (location_at shape i)) same
      ∙ sym (state_laws.content_at shape ys i other (omega (arith, low, one.whole))))

  pub states_different : (nodes : List Node) → Each (λ n. IsStateOf shape n.state) nodes → HaveOwnStates nodes → AreDifferent (map (state_at shape) nodes)
  states_different nodes kept own i j less low same =
      let many = length-map nodes (state_at shape) in
      let m = some_at nodes i (omega (arith, less, low, many)) in
      let n = some_at nodes j (omega (arith, low, many)) in
      let alike = same_Some (state_at shape m.0) (state_at shape n.0) (sym (mapped_at (state_at shape) nodes i m.0 m.1) ∙ (same ∙ mapped_at (state_at shape) nodes j n.0 n.1)) in
      own i j m.0 n.0 less m.1 n.1
      (contents_same m.0.state n.0.state (each_got (λ (x : Node). IsStateOf shape x.state) nodes i m.0 kept m.1) (each_got (λ (x : Node). IsStateOf shape x.state) nodes j n.0 kept n.1) alike)
