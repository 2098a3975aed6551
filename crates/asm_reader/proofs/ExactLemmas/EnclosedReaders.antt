-- Free. Exact readers of parts between an opening and a closing token, and of parts with tokens
-- between them.
use Rattle.std.proofs.Common.{◌≡◌, ℕ, suc, Bool, true, false, List, [], ◌∷◌, refl}
use Rattle.asm_syntax.specs.declared.token.Kind.{Kind}
use Rattle.asm_syntax.specs.declared.token.Token.{Token}
use Rattle.asm_reader.specs.Levels.{opens, after_token}
use Rattle.asm_reader.specs.Productions.{Production, token, ◌then◌, repeated, past, separated, enclosed, between}
use Rattle.asm_reader.specs.code.Steps.{Reader, expect, enter, pair_of, repeated_of, past_of, separated_of, enclosed_of, between_of, framed_of, braced_of}
use Rattle.asm_reader.proofs.Lists.{apart, within}
use Rattle.asm_reader.proofs.ExactLemmas.Readers.{IsExact, Begins, Ends, HasText, IsSingle, exact_token, exact_pair, exact_makes, exact_repeated, repeated_ends, exact_entered, ends_none, ends_by, has_token, begins_token}
use Rattle.asm_reader.proofs.ExactLemmas.ExactTokens.{depth, IsPlain, exact_plain, exact_past, has_makes, has_then, begins_makes, begins_then, begins_past}

module _ {A : Type 0} (k close : Kind) (P : Production A) where
  pub begins_enclosed : Begins (k ∷ []) (enclosed k close P)
  begins_enclosed = begins_makes (k ∷ []) (token k then P then token close) (λ r. (r.0, r.1.0)) (begins_then (k ∷ []) (token k) (P then token close) (begins_token k))

  pub begins_between : Begins (k ∷ []) (between k close P)
  begins_between = begins_makes (k ∷ []) (enclosed k close P) (λ r. r.1) begins_enclosed

  pub has_enclosed : HasText P → HasText (enclosed k close P)
  has_enclosed some = has_makes (token k then P then token close) (λ r. (r.0, r.1.0)) (has_then (token k) (P then token close) (has_token k) (has_then P (token close) some (has_token close)))

  pub has_between : HasText P → HasText (between k close P)
  has_between some = has_makes (enclosed k close P) (λ r. r.1) (has_enclosed some)

-- what closes a part doesn't carry it on
ends_close : (close : Kind) (more : List Kind) → apart (close ∷ []) more ≡ true → Ends more [] (token close)
ends_close close more differ = ends_by more [] (close ∷ []) (token close) (begins_token close) differ

-- a token that opens a level, a part and the token that closes the level. After the first, `(` or
-- not, m levels may open if n = m + 1
module _ (n : ℕ) (q p : Bool) (k close : Kind) (single : IsSingle k) (last : IsSingle close) (opened : (t : Token) → t.kind ≡ k → opens q t.kind ≡ true)
    (entered : (m : ℕ) (t : Token) → t.kind ≡ k → n ≡ suc m → after_token (depth n q) t ≡ depth m p) (left : (m : ℕ) (t : Token) → t.kind ≡ close → n ≡ suc m → after_token (depth m false) t ≡ depth n false) where
  pub exact_enclosed : {A : Type 0} (more : List Kind) → apart (close ∷ []) more ≡ true → (P N : Production A) → HasText P → (f : Reader A) → ((m : ℕ) → n ≡ suc m → IsExact (depth m p) (depth m false) more P N f)
      → IsExact (depth n q) (depth n false) [] (enclosed k close P) (enclosed k close N) (enclosed_of n k close f)
  exact_enclosed more differ P N some f h = exact_makes (depth n q) (depth n false) [] (token k then P then token close) (token k then N then token close) (λ r. (r.0, r.1.0)) (pair_of (enter n k) (pair_of f (expect close)))
      (exact_entered n q (depth n false) [] k single opened (λ m. depth m p) entered (P then token close) (N then token close) (has_then P (token close) some (has_token close)) (pair_of f (expect close))
      (λ m e. exact_pair (depth m p) (depth m false) (depth n false) more [] P N (token close) (token close) (ends_close close more differ) (has_token close) f (expect close)
      (h m e) (exact_token (depth m false) (depth n false) [] close last refl (λ t d. left m t d e))))

  pub exact_between : {A : Type 0} (more : List Kind) → apart (close ∷ []) more ≡ true → (P N : Production A) → HasText P → (f : Reader A) → ((m : ℕ) → n ≡ suc m → IsExact (depth m p) (depth m false) more P N f)
      → IsExact (depth n q) (depth n false) [] (between k close P) (between k close N) (between_of n k close f)
  exact_between more differ P N some f h = exact_makes (depth n q) (depth n false) [] (enclosed k close P) (enclosed k close N) (λ r. r.1) (enclosed_of n k close f) (exact_enclosed more differ P N some f h)

-- the same when neither token counts as a level
pub exact_braced : {A : Type 0} (n : ℕ) (q : Bool) (k close : Kind) → IsSingle k → IsPlain k → IsSingle close → IsPlain close → (more : List Kind) → apart (close ∷ []) more ≡ true → (P N : Production A) → HasText P
    → (f : Reader A) → IsExact (depth n false) (depth n false) more P N f → IsExact (depth n q) (depth n false) [] (between k close P) (between k close N) (braced_of k close f)
exact_braced n q k close single plain last plain_last more differ P N some f h = exact_makes (depth n q) (depth n false) [] (enclosed k close P) (enclosed k close N) (λ r. r.1) (framed_of k close f)
    (exact_makes (depth n q) (depth n false) [] (token k then P then token close) (token k then N then token close) (λ r. (r.0, r.1.0)) (pair_of (expect k) (pair_of f (expect close)))
    (exact_pair (depth n q) (depth n false) (depth n false) [] [] (token k) (token k) (P then token close) (N then token close) (ends_none [] (N then token close)) (has_then P (token close) some (has_token close)) (expect k) (pair_of f (expect close))
    (exact_plain n q k single plain)
    (exact_pair (depth n false) (depth n false) (depth n false) more [] P N (token close) (token close) (ends_close close more differ) (has_token close) f (expect close) h (exact_plain n false close last plain_last))))

-- ---- parts with tokens of one kind between them

pub begins_separated : {A : Type 0} (ks : List Kind) (k : Kind) (P : Production A) → Begins ks P → Begins ks (separated k P)
begins_separated ks k P b = begins_makes ks (P then repeated (past k P)) (λ r. r.0 ∷ r.1) (begins_then ks P (repeated (past k P)) b)

pub has_separated : {A : Type 0} (k : Kind) (P : Production A) → HasText P → HasText (separated k P)
has_separated k P some = has_makes (P then repeated (past k P)) (λ r. r.0 ∷ r.1) (has_then P (repeated (past k P)) some ([], [], refl))

pub exact_separated : {A : Type 0} (n : ℕ) (q : Bool) (less more : List Kind) (k : Kind) → IsSingle k → IsPlain k → within less more ≡ true → within (k ∷ []) more ≡ true → apart (k ∷ []) less ≡ true
    → (P N : Production A) → HasText P → (f : Reader A) → IsExact (depth n q) (depth n false) less P N f → IsExact (depth n false) (depth n false) less P N f
    → IsExact (depth n q) (depth n false) more (separated k P) (separated k N) (separated_of k f)
exact_separated n q less more k single plain in_more between_more differ P N some f h i = exact_makes (depth n q) (depth n false) more (P then repeated (past k P)) (N then repeated (past k N)) (λ r. r.0 ∷ r.1)
    (pair_of f (repeated_of (k ∷ []) (past_of k f)))
    (exact_pair (depth n q) (depth n false) (depth n false) less more P N (repeated (past k P)) (repeated (past k N))
    (repeated_ends (depth n false) less more (k ∷ []) (past k P) (past k N) (begins_past k P) (begins_past k N) in_more between_more differ)
    ([], [], refl) f (repeated_of (k ∷ []) (past_of k f)) h
    (exact_repeated (depth n false) less more (k ∷ []) (past k P) (past k N) (begins_past k P) (begins_past k N) in_more between_more differ (past_of k f) (exact_past n false (depth n false) less k single plain P N some f i)))
