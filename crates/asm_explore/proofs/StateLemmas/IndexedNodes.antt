-- Free. An index of nodes by the hashes of their states.
--     hash_push, hash_more     the hash of one more content
--     kept_stands, new_stands  what stands in the slots after one more is noted
--     filled                   slots that are free
--     none_taken               of free slots none is taken
--     indexed_none, indexed_more    no node, and one more
--     taken_push               the first nodes and the next one
--     found_stands             where a node stands that has a state
--     stands_taken             the search for a node's hash comes to no free slot before it
use Rattle.std.proofs.Common.{◌≡◌, ◌≢◌, ℕ, zero, suc, ◌+◌, ◌-◌, ◌<◌, ◌≤◌, List, [], ◌∷◌, ◌++◌, ◌⊎◌, length, get_or, replicate, set, take, inl, inr, refl, sym, ap, subst, ◌∙◌, arith}
use Rattle.std.specs.Prelude.{slice_get, Some}
use Rattle.std.proofs.lemmas.Bool.{cases_lt, cases_eq}
use Rattle.std.proofs.lemmas.List.{length-append, length-set, take_all, get_or-set_same, get_or-set_other, take_more}
use Rattle.std.proofs.lemmas.Option.{get_or_from_slice_get, slice_get_within}
use Rattle.asm_state.specs.code.Codes.{code_of}
use Rattle.asm_state.specs.declared.value.Value.{Value}
use Rattle.asm_explore.specs.code.IndexedNodes.{IsFreeFor, IsIndexed, IsTakenUpTo, StandsAt, slot_of, tag_at, tag_of_hash, taken_slots}
use Rattle.asm_explore.specs.code.PackedNodes.{Node}
use Rattle.asm_explore.specs.code.StateHashes.{hash_from, hash_of_contents, next_hash}
use Rattle.asm_explore.proofs.StateLemmas.MoreNodes.{slice_split}
use Rattle.asm_explore.proofs.StateLemmas.FreeSlots.{taken_more}

pub hash_push : (hash : ℕ) (vs : List Value) (v : Value) → hash_from hash (vs ++ v ∷ []) ≡ next_hash (hash_from hash vs) (code_of v)
hash_push hash [] v = refl
hash_push hash (w ∷ vs) v = hash_push (next_hash hash (code_of w)) vs v

pub hash_more : (vs : List Value) (i : ℕ) (d : Value) → i < length vs → hash_of_contents (take (i + 1) vs) ≡ next_hash (hash_of_contents (take i vs)) (code_of (get_or vs i d))
hash_more vs i d low = ap hash_of_contents (take_more vs i d low) ∙ hash_push 0x9E37_79B9_7F4A_7C15 (take i vs) (get_or vs i d)

pub tag_positive : (hash : ℕ) → tag_of_hash hash ≢ 0
unfolding tag_of_hash
tag_positive hash none = omega (arith, none)

-- a slot of an index to which another one is noted
module _ (slots tags : List ℕ) (hash at : ℕ) (free : IsFreeFor tags hash at) (value tag : ℕ) (some : tag ≢ 0) where
  many : length (set tags at tag) ≡ length tags
  many = length-set tags at tag

  taken_still : (other steps : ℕ) → IsTakenUpTo tags other steps → IsTakenUpTo (set tags at tag) other steps
  taken_still other steps taken k low none =
      let place = slot_of other (length tags) k in
      let here : tag_at (set tags at tag) place ≡ 0 = ap (λ n. tag_at (set tags at tag) (slot_of other n k)) (sym many) ∙ none in
      elim (cases_eq place at) [
        | inl same ↦ taken k low (ap (tag_at tags) same ∙ free.free)
        | inr others ↦ taken k low (sym (get_or-set_other tags at place tag 0 others) ∙ here)
      ]

  pub kept_stands : (other number steps : ℕ) → StandsAt slots tags other number steps → StandsAt (set slots at value) (set tags at tag) other number steps
  kept_stands other number steps stands =
      let place = slot_of other (length tags) steps in
      let others : place ≢ at = λ same. tag_positive other (sym stands.tag ∙ (ap (tag_at tags) same ∙ free.free)) in
      record {
        low = omega (arith, stands.low, many);
        taken = taken_still other steps stands.taken;
        tag = ap (λ n. tag_at (set tags at tag) (slot_of other n steps)) many ∙ (get_or-set_other tags at place tag 0 others ∙ stands.tag);
        slot = ap (λ n. get_or (set slots at value) (slot_of other n steps) 0) many ∙ (get_or-set_other slots at place value 0 others ∙ stands.slot);
      }

pub new_stands : (slots tags : List ℕ) (hash at number : ℕ) (free : IsFreeFor tags hash at) → length slots ≡ length tags
    → StandsAt (set slots at (number + 1)) (set tags at (tag_of_hash hash)) hash number free.steps
new_stands slots tags hash at number free same =
    let tag = tag_of_hash hash in
    let is : slot_of hash (length (set tags at tag)) free.steps ≡ at = ap (λ n. slot_of hash n free.steps) (length-set tags at tag) ∙ sym free.is in
    record {
      low = omega (arith, free.low, length-set tags at tag);
      taken = taken_still slots tags hash at free (number + 1) tag (tag_positive hash) hash free.steps free.taken;
      tag = ap (tag_at (set tags at tag)) is ∙ get_or-set_same tags at tag 0 free.within;
      slot = ap (λ k. get_or (set slots at (number + 1)) k 0) is ∙ get_or-set_same slots at (number + 1) 0 (omega (arith, free.within, same));
    }

pub filled : (old new : List ℕ) (count places : ℕ) → old ≡ [] → count ≡ 0 → new ≡ take places old ++ replicate (places - count) 0 → new ≡ replicate places 0
filled old new count places none zero_count is =
    let first : take places old ≡ [] = ap (take places) none ∙ take_all places [] (omega arith) in
    let many : places - count ≡ places = omega (arith, zero_count) in
    is ∙ (ap (λ xs. xs ++ replicate (places - count) 0) first ∙ ap (λ n. replicate n 0) many)

pub none_taken : (places : ℕ) → taken_slots (replicate places 0) ≡ 0
none_taken zero = refl
none_taken (suc places) = none_taken places

pub indexed_none : (slots tags : List ℕ) (places : ℕ) → slots ≡ replicate places 0 → tags ≡ replicate places 0 → IsIndexed [] slots tags
indexed_none slots tags places free_slots free_tags = record {
  same = ap length (free_slots ∙ sym free_tags);
  few = omega (arith, ap taken_slots free_tags, none_taken places);
  stands = λ number n there. absurd (omega (arith, slice_get_within [] number n there));
}

pub taken_push : (nodes : List Node) (k : ℕ) (n : Node) → slice_get nodes k ≡ Some n → take k nodes ++ n ∷ [] ≡ take (k + 1) nodes
taken_push nodes k n there =
    sym (take_more nodes k n (slice_get_within nodes k n there) ∙ ap (λ m. take k nodes ++ m ∷ []) (get_or_from_slice_get nodes k n n there))

pub found_stands : (nodes : List Node) (slots tags : List ℕ) (hash : ℕ) (state : List Value) → IsIndexed nodes slots tags → hash ≡ hash_of_contents state
    → (number : ℕ) (n : Node) → slice_get nodes number ≡ Some n → n.state ≡ state → (steps : ℕ) × StandsAt slots tags hash number steps
found_stands nodes slots tags hash state indexed is number n there same =
    let old = indexed.stands number n there in
    (old.0, subst (λ h. StandsAt slots tags h number old.0) (ap hash_of_contents same ∙ sym is) old.1)

pub indexed_more : (nodes : List Node) (n : Node) (slots tags : List ℕ) (hash at number : ℕ) → IsFreeFor tags hash at → length nodes ≡ number → hash ≡ hash_of_contents n.state
    → IsIndexed nodes slots tags → IsIndexed (nodes ++ n ∷ []) (set slots at (number + 1)) (set tags at (tag_of_hash hash))
indexed_more nodes n slots tags hash at number free count is indexed = record {
  same = length-set slots at (number + 1) ∙ (indexed.same ∙ sym (length-set tags at (tag_of_hash hash)));
  few = omega (arith, indexed.few, taken_more tags at (tag_of_hash hash) free.within free.free (tag_positive hash), length-append nodes (n ∷ []));
  stands = λ k m there. by_place k m (slice_split nodes (n ∷ []) k m there);
}
  where
    by_place : (k : ℕ) (m : Node) → (slice_get nodes k ≡ Some m) ⊎ ((i : ℕ) × (k ≡ length nodes + i) × (slice_get (n ∷ []) i ≡ Some m))
        → (steps : ℕ) × StandsAt (set slots at (number + 1)) (set tags at (tag_of_hash hash)) (hash_of_contents m.state) k steps
    by_place k m (inl there) =
        let old = indexed.stands k m there in
        (old.0, kept_stands slots tags hash at free (number + 1) (tag_of_hash hash) (tag_positive hash) (hash_of_contents m.state) k old.0 old.1)
    by_place k m (inr (zero, same, there)) =
        let one : n ≡ m = cc in
        let last : number ≡ k = omega (arith, same, count) in (
          free.steps,
          subst (λ h. StandsAt (set slots at (number + 1)) (set tags at (tag_of_hash hash)) h k free.steps) (is ∙ ap (λ (x : Node). hash_of_contents x.state) one)
              (subst (λ j. StandsAt (set slots at (number + 1)) (set tags at (tag_of_hash hash)) hash j free.steps) last
              (new_stands slots tags hash at number free indexed.same)),
        )
    by_place k m (inr (suc i, same, there)) = absurd (omega (arith, slice_get_within (n ∷ []) (suc i) m there))

-- the search for a node's hash comes to no free slot before it
pub stands_taken : (slots tags : List ℕ) (hash number steps so_far : ℕ) → StandsAt slots tags hash number steps → so_far ≤ steps
    → tag_at tags (slot_of hash (length tags) so_far) ≢ 0
stands_taken slots tags hash number steps so_far stands low none = elim (cases_lt so_far steps) [
  | inl less ↦ stands.taken so_far less none
  | inr most ↦
      let same : so_far ≡ steps = omega (arith, low, most) in
      tag_positive hash (sym stands.tag ∙ (ap (λ k. tag_at tags (slot_of hash (length tags) k)) (sym same) ∙ none))
]
