-- Bridge to the code. An index of nodes by the hashes of their states: slots in a circle, each of
-- which is free or has the number of a node, from 1, and the tag of its state's hash.
--     tag_of_hash hash                   the tag of a hash, which isn't 0
--     first_slot_of hash places          the slot where the search for a hash begins
--     slot_after places at               the slot after another
--     slot_from places first steps       the slot so many steps after another
--     IsTakenUpTo tags hash steps        none of the slots is free that the search for a hash comes
--                                        to in fewer steps
--     StandsAt slots tags hash number steps    the search for a hash comes to this node so
--     taken_slots tags                   how many slots aren't free
--     IsIndexed nodes slots tags         it comes to each node by the hash of its state, and no more
--                                        slots are taken than there are nodes
--     IsFreeFor tags hash at             the search for a hash comes to this slot first of all that
--                                        are free
--     IsNew nodes state                  no node has this state
--     HaveOwnStates nodes                no two nodes have the same state
use Rattle.std.specs.Prelude.{◌≡◌, ◌≢◌, ◌<◌, ◌≤◌, ◌+◌, ◌/◌, ◌%◌, ◌^◌, ℕ, zero, suc, List, [], ◌∷◌, length, cond, nat_lt, bit_xor, slice_get, slice_index_or, Some}
use Rattle.asm_state.specs.declared.value.Value.{Value}
use Rattle.asm_explore.specs.code.PackedNodes.{Node}
use Rattle.asm_explore.specs.code.StateHashes.{hash_of_contents}

unfoldable pub tag_of_hash : (hash : ℕ) → ℕ
tag_of_hash hash = hash / 2 ^ 57 + 128

unfoldable pub first_slot_of : (hash places : ℕ) → ℕ
first_slot_of hash places = bit_xor hash (hash / 2 ^ 29) % places

abbrev pub slot_after : (places at : ℕ) → ℕ
slot_after places at = cond (nat_lt (at + 1) places) (at + 1) 0

abbrev pub slot_from : (places first steps : ℕ) → ℕ
slot_from places first zero = first
slot_from places first (suc steps) = slot_after places (slot_from places first steps)

-- the slot to which the search for a hash comes in so many steps
abbrev pub slot_of : (hash places steps : ℕ) → ℕ
slot_of hash places steps = slot_from places (first_slot_of hash places) steps

abbrev pub tag_at : List ℕ → (at : ℕ) → ℕ
tag_at tags at = slice_index_or tags at 0

abbrev pub IsTakenUpTo : (tags : List ℕ) (hash steps : ℕ) → Type 0
IsTakenUpTo tags hash steps = (k : ℕ) → k < steps → tag_at tags (slot_of hash (length tags) k) ≢ 0

pub record StandsAt (slots tags : List ℕ) (hash number steps : ℕ) : Type 0 where
  pub low : steps < length tags
  pub taken : IsTakenUpTo tags hash steps
  pub tag : tag_at tags (slot_of hash (length tags) steps) ≡ tag_of_hash hash
  pub slot : slice_index_or slots (slot_of hash (length tags) steps) 0 ≡ number + 1

abbrev pub taken_slots : (tags : List ℕ) → ℕ
taken_slots [] = 0
taken_slots (zero ∷ tags) = taken_slots tags
taken_slots (suc tag ∷ tags) = suc (taken_slots tags)

pub record IsIndexed (nodes : List Node) (slots tags : List ℕ) : Type 0 where
  pub same : length slots ≡ length tags
  pub few : taken_slots tags ≤ length nodes
  pub stands : (number : ℕ) (n : Node) → slice_get nodes number ≡ Some n
      → (steps : ℕ) × StandsAt slots tags (hash_of_contents n.state) number steps

pub record IsFreeFor (tags : List ℕ) (hash at : ℕ) : Type 0 where
  pub steps : ℕ
  pub low : steps < length tags
  pub taken : IsTakenUpTo tags hash steps
  pub is : at ≡ slot_of hash (length tags) steps
  pub within : at < length tags
  pub free : tag_at tags at ≡ 0

abbrev pub IsNew : List Node → (state : List Value) → Type 0
IsNew nodes state = (number : ℕ) (n : Node) → slice_get nodes number ≡ Some n → n.state ≢ state

abbrev pub HaveOwnStates : List Node → Type 0
HaveOwnStates nodes = (i j : ℕ) (m n : Node) → i < j → slice_get nodes i ≡ Some m → slice_get nodes j ≡ Some n → m.state ≢ n.state
