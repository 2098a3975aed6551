-- Free. A walk along the candidates, which are the elements of a universe that pass a test, and the
-- candidate that is taken. The lemmas that are public are the clauses of candidate_laws.
use Rattle.std.proofs.Common.{◌≡◌, ℕ, suc, ◌+◌, ◌≤◌, ◌<◌, ◌%◌, Bool, true, false, cond, List, [], ◌∷◌, ◌++◌, length, take, drop, filter, get_or, Option, Some, None, refl, sym, ap, append_assoc, ◌∙◌, arith}
use Rattle.std.specs.Prelude.{slice_get, slice_index_or}
use Rattle.std.proofs.Math.Nat.{mod-eq_of_lt}
use Rattle.std.proofs.Math.Seq.{get_or-append_seam}
use Rattle.std.proofs.lemmas.List.{take_all, take-append-drop, length-append}
use Rattle.std.proofs.lemmas.List.Elements.{filter-append, filter_more}
use Rattle.std.proofs.lemmas.List.Filters.{length-filter_more}
use Rattle.std.proofs.lemmas.Option.{slice_get_within, slice_get_past, slice_get_read, get_or_from_slice_get}
use Rattle.asm_state.specs.declared.value.Value.{Value}
use Rattle.asm_meaning.specs.Does.{Outcome, one_of}
use Rattle.asm_eval.specs.declared.found_candidate.FoundCandidate.TheVariants.{At, TooFew}
use Rattle.asm_meaning.specs.Taken.{taken}
use Rattle.asm_eval.specs.code.FoundCandidates.{found_among, found_candidate}

-- ---- the elements that pass a test

module _ (p : Value → Bool) (vs : List Value) (i : ℕ) where
  -- an element that passes comes after those before it
  passes_at : (v : Value) → slice_get vs i ≡ Some v → p v ≡ true → filter p vs ≡ filter p (take i vs) ++ v ∷ filter p (drop (i + 1) vs)
  passes_at v at here =
      let low : i < length vs = slice_get_within vs i v at in
      let read : get_or vs i v ≡ v = get_or_from_slice_get vs i v v at in
      let here_is : cond (p (get_or vs i v)) (get_or vs i v ∷ []) [] ≡ v ∷ [] = ap (λ w. cond (p w) (w ∷ []) []) read ∙ ap (λ b. cond b (v ∷ []) []) here in
      ap (filter p) (sym (take-append-drop (i + 1) vs)) ∙ filter-append p (take (i + 1) vs) (drop (i + 1) vs)
      ∙ ap (λ xs. xs ++ filter p (drop (i + 1) vs)) (filter_more p vs i v low ∙ ap (λ xs. filter p (take i vs) ++ xs) here_is)
      ∙ append_assoc (filter p (take i vs)) (v ∷ []) (filter p (drop (i + 1) vs))

  -- the number of those that passed so far, after an element that passes and after one that doesn't
  pub candidate_laws-one_more : (v : Value) (n : ℕ) → slice_get vs i ≡ Some v → p v ≡ true → n ≡ length (filter p (take i vs)) → n + 1 ≡ length (filter p (take (i + 1) vs))
  candidate_laws-one_more v n at here so_far =
      let more = length-filter_more p vs i v (slice_get_within vs i v at) in
      let one : ◌≡◌ {A = ℕ} (cond (p (get_or vs i v)) 1 0) 1 = ap (λ (b : Bool). cond {A = ℕ} b 1 0) (ap p (get_or_from_slice_get vs i v v at) ∙ here) in
      omega (arith, more, one)

  pub candidate_laws-none_more : (v : Value) (n : ℕ) → slice_get vs i ≡ Some v → p v ≡ false → n ≡ length (filter p (take i vs)) → n ≡ length (filter p (take (i + 1) vs))
  candidate_laws-none_more v n at here so_far =
      let more = length-filter_more p vs i v (slice_get_within vs i v at) in
      let nothing : ◌≡◌ {A = ℕ} (cond (p (get_or vs i v)) 1 0) 0 = ap (λ (b : Bool). cond {A = ℕ} b 1 0) (ap p (get_or_from_slice_get vs i v v at) ∙ here) in
      omega (arith, more, nothing)

  -- ---- the end of a walk

  pub candidate_laws-met : (v : Value) (n : ℕ) → slice_get vs i ≡ Some v → p v ≡ true → n ≡ length (filter p (take i vs)) → At v ≡ found_candidate n (filter p vs)
  candidate_laws-met v n at here so_far =
      let whole = passes_at v at here in
      let before : List Value = filter p (take i vs) in
      let behind : List Value = filter p (drop (i + 1) vs) in
      let long : length (filter p vs) ≡ length before + suc (length behind) = ap length whole ∙ length-append before (v ∷ behind) in
      let read : v ≡ get_or (filter p vs) n v = sym ((λ j. get_or (whole j) (so_far j) v) ∙ get_or-append_seam before v behind v) in
      sym (ap (found_among (length (filter p vs))) (slice_get_read (filter p vs) (length (filter p vs)) n v refl (omega arith) read))

  pub candidate_laws-passed : (n k : ℕ) → length vs ≤ i → n ≡ length (filter p (take i vs)) → n ≤ k → TooFew n ≡ found_candidate k (filter p vs)
  candidate_laws-passed n k past so_far behind =
      let all : n ≡ length (filter p vs) = so_far ∙ ap (λ xs. length (filter p xs)) (take_all i vs past) in
      ap TooFew all ∙ sym (ap (found_among (length (filter p vs))) (slice_get_past (filter p vs) k (omega arith)))

-- ---- the candidate that is taken

met_within : (n : ℕ) (o : Option Value) (v : Value) → At v ≡ found_among n o → o ≡ Some v
met_within n None v ends = cc
met_within n (Some w) v ends = cc

passed_length : (n : ℕ) (o : Option Value) (m : ℕ) → TooFew m ≡ found_among n o → m ≡ n
passed_length n None m ends = cc
passed_length n (Some w) m ends = cc

pub candidate_laws-taken : (k : ℕ) (vs : List Value) (v : Value) → At v ≡ found_candidate k vs → Some v ≡ taken k vs
candidate_laws-taken k [] v ends = cc
candidate_laws-taken k (u ∷ us) v ends =
    let at = met_within (length (u ∷ us)) (slice_get (u ∷ us) k) v ends in
    let low : k < length (u ∷ us) = slice_get_within (u ∷ us) k v at in
    sym (ap Some (ap (λ n. get_or (u ∷ us) n u) (mod-eq_of_lt low) ∙ get_or_from_slice_get (u ∷ us) k v u at))

pub candidate_laws-taken_again : (k n : ℕ) (vs : List Value) (v : Value) → TooFew n ≡ found_candidate k vs → At v ≡ found_candidate (k % n) vs → Some v ≡ taken k vs
candidate_laws-taken_again k n [] v passed ends = cc
candidate_laws-taken_again k n (u ∷ us) v passed ends =
    let all : n ≡ length (u ∷ us) = passed_length (length (u ∷ us)) (slice_get (u ∷ us) k) n passed in
    let at = met_within (length (u ∷ us)) (slice_get (u ∷ us) (k % n)) v ends in
    sym (ap Some (ap (λ m. get_or (u ∷ us) (k % m) u) (sym all) ∙ get_or_from_slice_get (u ∷ us) (k % n) v u at))

-- what a `choose` does whose candidate is taken, and one that has none
pub candidate_laws-some : (n : ℕ) (vs : List Value) (v : Value) (m : Value → Outcome) (other : Outcome) → Some v ≡ taken n vs → m v ≡ one_of n vs m other
candidate_laws-some n [] v m other is = cc
candidate_laws-some n (w ∷ ws) v m other is = let same : v ≡ slice_index_or (w ∷ ws) (n % length (w ∷ ws)) w = cc in ap m same

pub candidate_laws-none : (n : ℕ) (vs : List Value) (m : Value → Outcome) (other : Outcome) → None ≡ taken n vs → other ≡ one_of n vs m other
candidate_laws-none n [] m other is = refl
candidate_laws-none n (w ∷ ws) m other is = cc
