-- Free. The readers of rules are exact.
use Rattle.std.proofs.Common.{◌≡◌, ◌⊎◌, ℕ, zero, suc, ◌+◌, Bool, false, List, [], ◌∷◌, Some, None, refl, sym, subst, arith, inl, inr}
use Rattle.std.proofs.lemmas.List.{append-nil}
use Rattle.asm_syntax.specs.declared.token.Kind.{Kind}
use Rattle.asm_syntax.specs.declared.token.Kind.TheVariants as kind
use Rattle.asm_syntax.specs.declared.token.Kind.TheVariants.{Symbol, Keyword}
use Rattle.asm_syntax.specs.declared.token.Symbol.TheVariants.{Assign, LeftArrow}
use Rattle.asm_syntax.specs.declared.token.Keyword.TheVariants.{Skip, Result}
use Rattle.asm_syntax.specs.declared.token.Token.{Token}
use Rattle.asm_syntax.specs.SourceTree as source
use Rattle.asm_reader.specs.Productions.{Production, token, ◌then◌, ◌or◌, optional, ◌makes◌, nothing, past}
use Rattle.asm_reader.specs.code.Steps.{Reader, refuse, expect, pair_of, either_of, mapped}
use Rattle.asm_reader.specs.TermGrammar.{applied, result_name, term_within, any_term}
use Rattle.asm_reader.specs.code.TermReading.{applied_at, result_at, disjunction_at, term_at}
use Rattle.asm_reader.specs.RuleGrammar.{skip_rule, call, assignment, call_by_result, value, result_rule, block_rule, rule_over, rule_within, any_rule}
use Rattle.asm_reader.specs.code.RuleReading.{Applied, named_rule, skip_at, value_at, called_at, behind_name_at, named_rule_at, result_rule_at, block_at, rule_over_at, rule_at}
use Rattle.asm_reader.proofs.Lists.{alike_symbol, alike_word, within_self}
use Rattle.asm_reader.proofs.ExactLemmas.Readers.{IsExact, Begins, HasText, exact_pair, exact_makes, exact_optional, exact_wider, ends_by, ends_none, has_token, begins_token}
use Rattle.asm_reader.proofs.ExactLemmas.ExactTokens.{depth, exact_plain, exact_past, has_past, has_makes, begins_makes, begins_then, begins_past, begins_or, exact_or, optional_ends}
use Rattle.asm_reader.proofs.WiderLemmas.WiderParts.{Includes}
use Rattle.asm_reader.proofs.ExactLemmas.TermExact.{term_first, primary_more, term_more, begins_result_name, begins_applied, has_applied, has_disjunction, has_term, begins_term, exact_result_name, exact_applied, exact_disjunction}
use Rattle.asm_reader.proofs.WiderLemmas.TermWider.{begins_any_term, deeper, exact_any_term}
use Rattle.asm_reader.proofs.ExactLemmas.Blocks.{block_first, begins_block, exact_block}
pub use Rattle.asm_reader.proofs.ExactLemmas.Blocks.{rule_first, rule_more}
pub use Rattle.asm_reader.proofs.WiderLemmas.RuleWider.{wider_rule}

-- ---- sets of kinds

-- what comes after a name with its arguments
abbrev behind_first : List Kind
behind_first = Symbol Assign ∷ Symbol LeftArrow ∷ []

-- what the rules begin with that begin neither with `skip` nor with a name
abbrev last_first : List Kind
last_first = Keyword Result ∷ block_first

-- ---- what rules begin with, and that there are some

begins_skip : Begins (Keyword Skip ∷ []) skip_rule
unfolding skip_rule
begins_skip = begins_makes (Keyword Skip ∷ []) (token (Keyword Skip)) (λ _. source.Skip) (begins_token (Keyword Skip))

has_skip : HasText skip_rule
unfolding skip_rule
has_skip = has_makes (token (Keyword Skip)) (λ _. source.Skip) (has_token (Keyword Skip))

abbrev as_value : source.Term → source.Term ⊎ Applied
as_value t = inl t

abbrev as_called : Applied → source.Term ⊎ Applied
as_called c = inr c

module _ (text : List ℕ) (X : Production source.Term) (S : Production source.Rule) where
  -- ":=" term
  abbrev assigned : Production source.Term
  assigned = past (Symbol Assign) (value text X S)

  -- "<-" name [ arguments ]
  abbrev called : Production Applied
  called = past (Symbol LeftArrow) (applied text X)

  -- what comes after a name with its arguments
  abbrev behind_name : Production (source.Term ⊎ Applied)
  behind_name = (assigned makes as_value) or (called makes as_called)

  -- the three productions that begin with a name, as one
  abbrev named : Production source.Rule
  named = (applied text X then optional behind_name) makes named_rule

  -- and as the grammar has them
  abbrev named_rules : Production source.Rule
  named_rules = call text X S or assignment text X S (value text X S) or call_by_result text X S

  is_assigned : (ts : List Token) (t : source.Term) → behind_name ts (inl t) → assigned ts t
  is_assigned ts t (inl p) = subst (assigned ts) (same_term p.0 p.2) p.1
    where
      same_term : (u : source.Term) → ◌≡◌ {A = source.Term ⊎ Applied} (inl t) (inl u) → u ≡ t
      same_term u e = cc
  is_assigned ts t (inr p) = absurd (not_both p.0 p.2)
    where
      not_both : (c : Applied) → ◌≡◌ {A = source.Term ⊎ Applied} (inl t) (inr c) → ⊥
      not_both c e = cc

  is_called : (ts : List Token) (c : Applied) → behind_name ts (inr c) → called ts c
  is_called ts c (inl p) = absurd (not_both p.0 p.2)
    where
      not_both : (t : source.Term) → ◌≡◌ {A = source.Term ⊎ Applied} (inr c) (inl t) → ⊥
      not_both t e = cc
  is_called ts c (inr p) = subst (called ts) (same_call p.0 p.2) p.1
    where
      same_call : (d : Applied) → ◌≡◌ {A = source.Term ⊎ Applied} (inr c) (inr d) → d ≡ c
      same_call d e = cc

  named_wide : Includes named named_rules
  unfolding call assignment call_by_result
  named_wide ts x ((v, None), s, e) = inl (v, rw (s.whole, s.second) (rw (append-nil s.front) s.first), e)
  named_wide ts x ((v, Some (inl t)), s, e) = inr (inl ((v, t), record { front = s.front; back = s.back; whole = s.whole; first = s.first; second = is_assigned s.back t s.second }, e))
  named_wide ts x ((v, Some (inr c)), s, e) = inr (inr ((v, c), record { front = s.front; back = s.back; whole = s.whole; first = s.first; second = is_called s.back c s.second }, e))

  named_narrow : Includes named_rules named
  unfolding call assignment call_by_result
  named_narrow ts x (inl c) = ((c.0, None), record { front = ts; back = []; whole = sym (append-nil ts); first = c.1; second = refl }, c.2)
  named_narrow ts x (inr (inl c)) = ((c.0.0, Some (inl c.0.1)), record { front = c.1.front; back = c.1.back; whole = c.1.whole; first = c.1.first; second = inl (c.0.1, c.1.second, refl) }, c.2)
  named_narrow ts x (inr (inr c)) = ((c.0.0, Some (inr c.0.1)), record { front = c.1.front; back = c.1.back; whole = c.1.whole; first = c.1.first; second = inr (c.0.1, c.1.second, refl) }, c.2)

  begins_assigned : Begins (Symbol Assign ∷ []) (assigned makes as_value)
  begins_assigned = begins_makes (Symbol Assign ∷ []) assigned as_value (begins_past (Symbol Assign) (value text X S))

  begins_called : Begins (Symbol LeftArrow ∷ []) (called makes as_called)
  begins_called = begins_makes (Symbol LeftArrow ∷ []) called as_called (begins_past (Symbol LeftArrow) (applied text X))

  begins_behind_name : Begins behind_first behind_name
  begins_behind_name = begins_or (Symbol Assign ∷ []) (Symbol LeftArrow ∷ []) behind_first (assigned makes as_value) (called makes as_called) begins_assigned begins_called refl refl

  begins_named : Begins (kind.Name ∷ []) named_rules
  begins_named ts x p = begins_makes (kind.Name ∷ []) (applied text X then optional behind_name) named_rule (begins_then (kind.Name ∷ []) (applied text X) (optional behind_name) (begins_applied text X)) ts x (named_narrow ts x p)

  begins_result_rule : Begins (Keyword Result ∷ []) (result_rule text X S (value text X S))
  unfolding result_rule
  begins_result_rule = begins_makes (Keyword Result ∷ []) (result_name text then assigned) (λ r. source.SetResult r.0 r.1) (begins_then (Keyword Result ∷ []) (result_name text) assigned (begins_result_name text))

  -- the rules that begin with `result` and those with an end word, and with them those that begin
  -- with a name
  abbrev last_rules : Production source.Rule
  last_rules = result_rule text X S (value text X S) or block_rule text X S

  begins_last : Begins last_first last_rules
  begins_last = begins_or (Keyword Result ∷ []) block_first last_first (result_rule text X S (value text X S)) (block_rule text X S) begins_result_rule (begins_block text X S) refl refl

  begins_other : Begins (kind.Name ∷ last_first) (named_rules or last_rules)
  begins_other = begins_or (kind.Name ∷ []) last_first (kind.Name ∷ last_first) named_rules last_rules begins_named begins_last refl refl

  begins_rule_over : Begins rule_first (rule_over text X S)
  unfolding rule_over
  begins_rule_over = begins_or (Keyword Skip ∷ []) (kind.Name ∷ last_first) rule_first skip_rule (named_rules or last_rules) begins_skip begins_other refl refl

  has_rule_over : HasText (rule_over text X S)
  unfolding rule_over
  has_rule_over = (has_skip.0, has_skip.1, inl has_skip.2)

-- ---- productions

exact_skip : (n : ℕ) → IsExact (depth n false) (depth n false) [] skip_rule skip_rule skip_at
unfolding skip_rule skip_at
exact_skip n = exact_makes (depth n false) (depth n false) [] (token (Keyword Skip)) (token (Keyword Skip)) (λ _. source.Skip) (expect (Keyword Skip)) (exact_plain n false (Keyword Skip) (alike_word Skip) (refl, refl, refl))

-- `term` and `rule` read P and Q, and what they refuse is no N and no M.
module _ (text : List ℕ) (n : ℕ) (term : Reader source.Term) (P N : Production source.Term) (some : HasText P) (starts : Begins term_first P) (first : Begins term_first N)
    (exact : (m : ℕ) (q : Bool) → n ≡ suc m → IsExact (depth m q) (depth m false) term_more P N term)
    (rule : Reader source.Rule) (Q M : Production source.Rule) (has : HasText Q) (starts_rule : Begins rule_first Q) (first_rule : Begins rule_first M)
    (exact_rule : (m : ℕ) → n ≡ suc m → IsExact (depth m false) (depth m false) rule_more Q M rule) where
  abbrev behind_at : Reader (source.Term ⊎ Applied)
  behind_at = either_of (Symbol Assign ∷ []) (mapped as_value (value_at text n term rule)) (mapped as_called (called_at text n term rule))

  exact_value : IsExact (depth n false) (depth n false) term_more (assigned text P Q) (assigned text N M) (value_at text n term rule)
  exact_value = exact_past n false (depth n false) term_more (Symbol Assign) (alike_symbol Assign) (refl, refl, refl) (value text P Q) (value text N M) (has_disjunction text P) (disjunction_at text n term)
      (exact_disjunction text n term P N some starts first exact false)

  exact_called : IsExact (depth n false) (depth n false) primary_more (called text P Q) (called text N M) (called_at text n term rule)
  exact_called = exact_past n false (depth n false) primary_more (Symbol LeftArrow) (alike_symbol LeftArrow) (refl, refl, refl) (applied text P) (applied text N) (has_applied text P) (applied_at text n term)
      (exact_applied text n term P N some starts first exact false)

  exact_behind_name : IsExact (depth n false) (depth n false) term_more (behind_name text P Q) (behind_name text N M) behind_at
  exact_behind_name = exact_or (depth n false) (depth n false) term_more primary_more term_more (Symbol Assign ∷ []) (Symbol LeftArrow ∷ []) (assigned text P Q makes as_value) (called text P Q makes as_called) (assigned text N M makes as_value) (called text N M makes as_called)
      (begins_assigned text N M) (begins_called text N M) refl refl refl (mapped as_value (value_at text n term rule)) (mapped as_called (called_at text n term rule))
      (exact_makes (depth n false) (depth n false) term_more (assigned text P Q) (assigned text N M) as_value (value_at text n term rule) exact_value)
      (exact_makes (depth n false) (depth n false) primary_more (called text P Q) (called text N M) as_called (called_at text n term rule) exact_called)

  exact_named : IsExact (depth n false) (depth n false) rule_more (named_rules text P Q) (named_rules text N M) (named_rule_at text n term rule)
  unfolding named_rule_at
  exact_named = exact_wider (depth n false) (depth n false) rule_more rule_more (named text P Q) (named text N M) (named_rules text P Q) (named_rules text N M) (named_wide text P Q) (named_narrow text N M) (within_self rule_more)
      (mapped named_rule (pair_of (applied_at text n term) (behind_name_at text n term rule)))
      (exact_makes (depth n false) (depth n false) rule_more (applied text P then optional (behind_name text P Q)) (applied text N then optional (behind_name text N M)) named_rule (pair_of (applied_at text n term) (behind_name_at text n term rule))
      (exact_pair (depth n false) (depth n false) (depth n false) primary_more rule_more (applied text P) (applied text N) (optional (behind_name text P Q)) (optional (behind_name text N M))
      (optional_ends primary_more rule_more behind_first (behind_name text N M) (ends_by primary_more rule_more behind_first (behind_name text N M) (begins_behind_name text N M) refl) refl)
      ([], None, refl) (applied_at text n term) (behind_name_at text n term rule) (exact_applied text n term P N some starts first exact false)
      (exact_optional (depth n false) term_more rule_more behind_first (behind_name text P Q) (behind_name text N M) (begins_behind_name text N M) refl refl behind_at exact_behind_name)))

  exact_result_rule : IsExact (depth n false) (depth n false) term_more (result_rule text P Q (value text P Q)) (result_rule text N M (value text N M)) (result_rule_at text n term rule)
  unfolding result_rule result_rule_at
  exact_result_rule = exact_makes (depth n false) (depth n false) term_more (result_name text then assigned text P Q) (result_name text then assigned text N M) (λ r. source.SetResult r.0 r.1) (pair_of (result_at text) (value_at text n term rule))
      (exact_pair (depth n false) (depth n false) (depth n false) [] term_more (result_name text) (result_name text) (assigned text P Q) (assigned text N M) (ends_none term_more (assigned text N M)) (has_past (Symbol Assign) (value text P Q) (has_disjunction text P))
      (result_at text) (value_at text n term rule) (exact_result_name text n false) exact_value)

  exact_last : IsExact (depth n false) (depth n false) rule_more (last_rules text P Q) (last_rules text N M) (either_of (Keyword Result ∷ []) (result_rule_at text n term rule) (block_at text n term rule))
  exact_last = exact_or (depth n false) (depth n false) term_more [] rule_more (Keyword Result ∷ []) block_first (result_rule text P Q (value text P Q)) (block_rule text P Q) (result_rule text N M (value text N M)) (block_rule text N M)
      (begins_result_rule text N M) (begins_block text N M) refl refl refl (result_rule_at text n term rule) (block_at text n term rule) exact_result_rule
      (exact_block text n term P N some (λ m e. exact m false e) rule Q M has starts_rule first_rule exact_rule)

  exact_rule_over : IsExact (depth n false) (depth n false) rule_more (rule_over text P Q) (rule_over text N M) (rule_over_at text n term rule)
  unfolding rule_over rule_over_at
  exact_rule_over = exact_or (depth n false) (depth n false) [] rule_more rule_more (Keyword Skip ∷ []) (kind.Name ∷ last_first) skip_rule (named_rules text P Q or last_rules text P Q) skip_rule (named_rules text N M or last_rules text N M)
      begins_skip (begins_other text N M) refl refl refl skip_at (either_of (kind.Name ∷ []) (named_rule_at text n term rule) (either_of (Keyword Result ∷ []) (result_rule_at text n term rule) (block_at text n term rule))) (exact_skip n)
      (exact_or (depth n false) (depth n false) rule_more rule_more rule_more (kind.Name ∷ []) last_first (named_rules text P Q) (last_rules text P Q) (named_rules text N M) (last_rules text N M)
      (begins_named text N M) (begins_last text N M) refl refl refl (named_rule_at text n term rule) (either_of (Keyword Result ∷ []) (result_rule_at text n term rule) (block_at text n term rule)) exact_named exact_last)

-- ---- rules at any depth

module _ (text : List ℕ) where
  opened_at : (ts : List Token) (x : source.Rule) (n : ℕ) → rule_within text n ts x → rule_over text (any_term text) (any_rule text) ts x
  unfolding rule_within
  opened_at ts x zero q = wider_rule text nothing (any_term text) nothing (any_rule text) (λ us y v. absurd v) (λ us y v. absurd v) ts x q
  opened_at ts x (suc n) q = wider_rule text (term_within text n) (any_term text) (rule_within text n) (any_rule text) (λ us y v. (n, v)) (λ us y v. (n, v)) ts x q

  pub begins_rule : (n : ℕ) → Begins rule_first (rule_within text n)
  unfolding rule_within
  begins_rule zero = begins_rule_over text nothing nothing
  begins_rule (suc n) = begins_rule_over text (term_within text n) (rule_within text n)

  pub has_rule : (n : ℕ) → HasText (rule_within text n)
  unfolding rule_within
  has_rule zero = has_rule_over text nothing nothing
  has_rule (suc n) = has_rule_over text (term_within text n) (rule_within text n)

  pub begins_any_rule : Begins rule_first (any_rule text)
  begins_any_rule ts x p = begins_rule p.0 ts x p.1

  -- what a rule over any terms and rules is exact for, rules are too
  closed : (n d : ℕ) (term : Reader source.Term) (rule : Reader source.Rule) → ((k : ℕ) (p : Bool) → n ≡ suc k → IsExact (depth k p) (depth k false) term_more (term_within text (n + d)) (any_term text) term)
      → ((k : ℕ) → n ≡ suc k → IsExact (depth k false) (depth k false) rule_more (rule_within text (n + d)) (any_rule text) rule)
      → IsExact (depth n false) (depth n false) rule_more (rule_over text (term_within text (n + d)) (rule_within text (n + d))) (any_rule text) (rule_over_at text n term rule)
  closed n d term rule h k = exact_wider (depth n false) (depth n false) rule_more rule_more bounded (rule_over text (any_term text) (any_rule text)) bounded (any_rule text) (λ _ _ p. p) (λ ts x p. opened_at ts x p.0 p.1) (within_self rule_more) (rule_over_at text n term rule)
      (exact_rule_over text n term (term_within text (n + d)) (any_term text) (has_term text (n + d)) (begins_term text (n + d)) (begins_any_term text) h
      rule (rule_within text (n + d)) (any_rule text) (has_rule (n + d)) (begins_rule (n + d)) begins_any_rule k)
    where
      bounded : Production source.Rule
      bounded = rule_over text (term_within text (n + d)) (rule_within text (n + d))

  rule_deeper : (n k d : ℕ) (f : Reader source.Rule) → suc n ≡ suc k → IsExact (depth n false) (depth n false) rule_more (rule_within text (suc (n + d))) (any_rule text) f
      → IsExact (depth k false) (depth k false) rule_more (rule_within text (suc n + d)) (any_rule text) f
  rule_deeper n k d f e h =
      let same : n ≡ k = omega arith in
      let sum_is : suc (n + d) ≡ suc n + d = omega arith in
      subst (λ j. IsExact (depth j false) (depth j false) rule_more (rule_within text (suc n + d)) (any_rule text) f) same (subst (λ j. IsExact (depth n false) (depth n false) rule_more (rule_within text j) (any_rule text) f) sum_is h)

  -- If n levels may open, the reader of rules takes rules that nest one level deeper at most, and
  -- what it refuses is no rule at any depth.
  pub exact_any_rule : (n d : ℕ) → IsExact (depth n false) (depth n false) rule_more (rule_within text (suc (n + d))) (any_rule text) (rule_at text n)
  unfolding rule_within rule_at
  exact_any_rule zero d = closed zero d refuse refuse (λ k p e. absurd (omega arith)) (λ k e. absurd (omega arith))
  exact_any_rule (suc n) d = closed (suc n) d (term_at text n) (rule_at text n) (λ k p e. deeper text n k d p (term_at text n) e (exact_any_term text n d p)) (λ k e. rule_deeper n k d (rule_at text n) e (exact_any_rule n d))
