-- Free. Which of the states that a search has reached it has looked at.
--     counted          how many of these are quiet: they are those of the first nodes that are less
--                      deep than the search goes
--     looks_through    each state that few steps lead to is one of them
--     holds_less       what holds of states that few steps lead to holds of those that fewer lead to
--     known_told       up to how many steps it is safe
use Rattle.std.proofs.Common.{◌≡◌, ℕ, zero, suc, ◌<◌, ◌≤◌, Bool, true, List, [], ◌∷◌, length, map, take, drop, ◌⊎◌, inl, inr, refl, ap, arith}
use Rattle.std.specs.Prelude.{slice_get, Some}
use Rattle.std.proofs.lemmas.Bool.{cases_lt}
use Rattle.std.proofs.lemmas.Option.{slice_get_within}
use Rattle.asm_state.specs.Location.{State}
use Rattle.asm_state.specs.Signature.{Shape}
use Rattle.asm_meaning.specs.Run.{Specification}
use Rattle.asm_explore.specs.declared.states.deadlocks.Deadlocks.{Deadlocks}
use Rattle.asm_explore.specs.declared.states.deadlocks.Deadlocks.TheVariants as found
use Rattle.asm_explore.specs.code.Deadlocks.{before, safe_of}
use Rattle.asm_explore.specs.ListElements.{Each}
use Rattle.asm_explore.specs.code.LookedStates.{LooksThrough}
use Rattle.asm_explore.specs.code.PackedNodes.{Node}
use Rattle.asm_explore.specs.code.QuietStates.{AreJust, IsLookedAt, IsRested}
use Rattle.asm_explore.specs.code.ReachedStates.{IsLooked, Rises, state_at}
use Rattle.asm_explore.specs.ExplorationResults.{known_to}
use Rattle.asm_explore.specs.Search.{HoldsBefore, IsQuiet}
use Rattle.asm_explore.specs.StateLists.{Counts, IsAmongFirst}
use Rattle.asm_explore.proofs.StateLemmas.OwnStates.{mapped_at}
use Rattle.asm_explore.proofs.StateLemmas.MoreNodes.{each_got, holds_always, holds_before, looked_done, looked_whole}

each_there : {X : Type 0} (P : X → Type 0) (xs : List X) → ((j : ℕ) (x : X) → slice_get xs j ≡ Some x → P x) → Each P xs
each_there P [] all = tt
each_there P (x ∷ xs) all = (all 0 x refl, each_there P xs (λ j y there. all (suc j) y there))

nowhere : {X : Type 0} (P : Type 0) (j : ℕ) (x : X) → slice_get [] j ≡ Some x → P
nowhere P j x there = cc

rises_rest : (n : Node) (nodes : List Node) → Rises (n ∷ nodes) → Rises nodes
rises_rest n nodes rises i j m o upto here there = rises (suc i) (suc j) m o (omega (arith, upto)) here there

-- nodes from one on are so deep at least
left_deep : (whole i j : ℕ) (nodes : List Node) (n : Node) → Each (λ n. whole ≤ n.depth) (drop i nodes) → slice_get nodes j ≡ Some n → i ≤ j → whole ≤ n.depth
left_deep whole zero j nodes n rest there low = each_got (λ n. whole ≤ n.depth) nodes j n rest there
left_deep whole (suc i) j [] n rest there low = nowhere (whole ≤ n.depth) j n there
left_deep whole (suc i) zero (m ∷ nodes) n rest there low = absurd (omega (arith, low))
left_deep whole (suc i) (suc j) (m ∷ nodes) n rest there low = left_deep whole i j nodes n rest there (omega (arith, low))

module _ (shape : Shape) (specification : Specification) (turns : ℕ) (rests within : State → Bool) (depth : ℕ) where
  abbrev IsListed : Node → Type 0
  IsListed n = IsLookedAt shape specification turns within depth n × IsQuiet specification turns (state_at shape n)

  abbrev IsCounted : State → Type 0
  IsCounted A = (within A ≡ true) × IsQuiet specification turns A

  -- the first `looked` nodes are those of the first i that are less deep than the search goes
  abbrev HasLooked : (i looked : ℕ) → List Node → Type 0
  HasLooked i looked nodes = (j : ℕ) (n : Node) → j < i → slice_get nodes j ≡ Some n → n.depth < depth → j < looked

  abbrev CountsFirst : (i : ℕ) → List Node → ℕ → Type 0
  CountsFirst i nodes number = (looked : ℕ) × Counts IsCounted (take looked (map (state_at shape) nodes)) number × HasLooked i looked nodes

  none_listed : (k : ℕ) (nodes : List Node) (ks : List ℕ) → Each (λ n. depth ≤ n.depth) nodes → AreJust IsListed k nodes ks → ks ≡ []
  none_listed k [] ks deep just = just
  none_listed k (n ∷ nodes) ks deep (inl h) = none_listed (suc k) nodes ks deep.1 h.1
  none_listed k (n ∷ nodes) ks deep (inr h) = absurd (omega (arith, deep.0, h.0.0.0))

  all_deep : (i : ℕ) (nodes : List Node) → ((j : ℕ) (m : Node) → slice_get nodes j ≡ Some m → depth ≤ m.depth) → Each (λ n. depth ≤ n.depth) (take i nodes)
  all_deep zero nodes deep = tt
  all_deep (suc i) [] deep = tt
  all_deep (suc i) (n ∷ nodes) deep = (deep 0 n refl, all_deep i nodes (λ j m there. deep (suc j) m there))

  looked_next : (i looked : ℕ) (n : Node) (nodes : List Node) → HasLooked i looked nodes → HasLooked (suc i) (suc looked) (n ∷ nodes)
  looked_next i looked n nodes has zero m low there less = omega arith
  looked_next i looked n nodes has (suc j) m low there less = omega (arith, has j m (omega (arith, low)) there less)

  pub counted : (i k : ℕ) (nodes : List Node) (ks : List ℕ) → Rises nodes → AreJust IsListed k (take i nodes) ks → CountsFirst i nodes (length ks)
  counted zero k nodes ks rises just = (0, ap length just, λ j n low there less. absurd (omega (arith, low)))
  counted (suc i) k [] ks rises just = (0, ap length just, λ j n low there less. nowhere (j < 0) j n there)
  counted (suc i) k (n ∷ nodes) ks rises (inl h) = by_depth (cases_lt n.depth depth) (counted i (suc k) nodes ks (rises_rest n nodes rises) h.1)
    where
      by_depth : (n.depth < depth) ⊎ (depth ≤ n.depth) → CountsFirst i nodes (length ks) → CountsFirst (suc i) (n ∷ nodes) (length ks)
      by_depth (inl shallow) rest = (suc rest.0, inl ((λ so. h.0 ((shallow, so.0), so.1)), rest.1), looked_next i rest.0 n nodes rest.2)
      by_depth (inr deep) rest =
          let below = λ (j : ℕ) (m : Node) (there : slice_get (n ∷ nodes) j ≡ Some m). rises 0 j n m (omega arith) refl there in (
            0,
            ap length (none_listed k (take (suc i) (n ∷ nodes)) ks (all_deep (suc i) (n ∷ nodes) (λ j m there. omega (arith, deep, below j m there))) (inl h)),
            λ j m low there less. absurd (omega (arith, deep, less, below j m there)),
          )
  counted (suc i) k (n ∷ nodes) ks rises (inr h) =
      let rest = counted i (suc k) nodes h.1.0 (rises_rest n nodes rises) h.1.2 in
      (suc rest.0, inr ((h.0.0.1, h.0.1), (length h.1.0, ap length h.1.1, rest.1)), looked_next i rest.0 n nodes rest.2)

  among : (i looked below : ℕ) (nodes : List Node) → HasLooked i looked nodes → ((j : ℕ) (n : Node) → slice_get nodes j ≡ Some n → n.depth < below → (j < i) × (n.depth < depth))
      → Each (λ n. n.depth < below → within (state_at shape n) ≡ true → IsAmongFirst looked (map (state_at shape) nodes) (state_at shape n)) nodes
  among i looked below nodes has low =
      each_there (λ n. n.depth < below → within (state_at shape n) ≡ true → IsAmongFirst looked (map (state_at shape) nodes) (state_at shape n)) nodes
      (λ j n there less inside.
      let at = low j n there less in
      (j, has j n at.0 there at.1, mapped_at (state_at shape) nodes j n there))

  pub looks_through : (right : State → Bool) (i whole : ℕ) (nodes : List Node) (quiet : List ℕ) (closed : Type 0) → whole ≤ depth → Each (λ n. whole ≤ n.depth) (drop i nodes)
      → IsLooked shape specification turns right within depth i nodes → IsRested shape specification turns rests within depth i nodes quiet
      → (closed → (length nodes ≤ i) × Each (λ n. n.depth < depth) nodes) → LooksThrough shape specification turns within whole closed nodes (length quiet)
  looks_through right i whole nodes quiet closed low rest so_far rested shut =
      let first = counted i 0 nodes quiet so_far.rises rested.just in
      let looked : ℕ = first.0 in
      record {
        looked = looked;
        quiet = first.1;
        before = holds_before shape specification turns right within whole nodes (looked_whole shape specification turns right within depth i whole nodes low rest so_far)
            (IsAmongFirst looked (map (state_at shape) nodes)) (among i looked whole nodes first.2 (λ j n there less. (early j n there less (cases_lt j i), omega (arith, less, low))));
        always = λ is.
            let all = shut is in
            holds_always shape specification turns right within depth nodes (looked_done shape specification turns right within depth i nodes all.0 so_far) all.1
            (IsAmongFirst looked (map (state_at shape) nodes)) (among i looked depth nodes first.2 (λ j n there less. (omega (arith, all.0, slice_get_within nodes j n there), less)));
      }
    where
      early : (j : ℕ) (n : Node) → slice_get nodes j ≡ Some n → n.depth < whole → (j < i) ⊎ (i ≤ j) → j < i
      early j n there less (inl soon) = soon
      early j n there less (inr late) = absurd (omega (arith, less, left_deep whole i j nodes n rest there late))

pub holds_less : (specification : Specification) (turns : ℕ) (within : State → Bool) (D : State → Type 0) (less depth : ℕ) → less ≤ depth
    → HoldsBefore specification turns within D depth → HoldsBefore specification turns within D less
holds_less specification turns within D less depth low holds script k below stays = holds script k (omega (arith, below, low)) stays

pub known_before : (whole : ℕ) → known_to (before whole) ≤ whole
known_before zero = omega arith
known_before (suc whole) = omega arith

pub known_told : (whole : ℕ) (deadlocks : Deadlocks) → known_to (safe_of whole deadlocks) ≤ whole
known_told whole found.None = omega arith
known_told whole (found.At number) = known_before whole
known_told whole (found.Unknown number crowd) = known_before whole
known_told whole found.NoMemory = known_before whole
