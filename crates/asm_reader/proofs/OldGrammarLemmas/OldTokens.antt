-- Free. Tokens that spell something by the old grammar have no `while` and no `endwhile`.
use Rattle.std.proofs.Common.{◌≡◌, ℕ, zero, suc, Bool, true, false, ◌||◌, List, [], ◌∷◌, ◌++◌, Option, Some, None, is_some, refl, sym, ap, ◌∙◌, inl, inr}
use Rattle.asm_syntax.specs.declared.token.Kind.{Kind}
use Rattle.asm_syntax.specs.declared.token.Kind.TheVariants.{Keyword}
use Rattle.asm_syntax.specs.declared.token.Keyword.TheVariants.{While, EndWhile}
use Rattle.asm_syntax.specs.declared.token.Token.{Token}
use Rattle.asm_syntax.specs.SourceTree as source
use Rattle.asm_reader.specs.Kinds.{alike, is_one_of, keys}
use Rattle.asm_reader.specs.Levels.{Depth, openers, closers, opens_by, opens, after_token_by, after_token, depth_after}
use Rattle.asm_reader.specs.Productions.{Production, token, ◌then◌, ◌or◌, optional, repeated, ◌makes◌, nothing, number_by, choice, past, several, separated, enclosed, between, at_any_depth}
use Rattle.asm_reader.specs.TermGrammar as g
use Rattle.asm_reader.specs.RuleGrammar as r
use Rattle.asm_reader.specs.Grammar as d
use Rattle.asm_reader.specs.OldGrammar.{old_term_within, old_rule_over, old_rule_within, old_specification, old_openers, old_closers, old_depth_after}
use Rattle.asm_reader.proofs.Lists.{apart, apart_kinds}
use Rattle.asm_reader.proofs.Tables.{looked_up_keys}

abbrev new_words : List Kind
new_words = Keyword While ∷ Keyword EndWhile ∷ []

abbrev pub AreOld : List Token → Type 0
AreOld [] = Unit {0}
AreOld (t ∷ ts) = (is_one_of new_words t.kind ≡ false) × AreOld ts

pub record IsOld {A : Type 0} (P : Production A) : Type 0 where
  pub old : (ts : List Token) (x : A) → P ts x → AreOld ts

-- ---- what is put together from such parts

old_append : (xs ys : List Token) → AreOld xs → AreOld ys → AreOld (xs ++ ys)
old_append [] ys h k = k
old_append (x ∷ xs) ys h k = (h.0, old_append xs ys h.1 k)

old_token : (k : Kind) → is_one_of new_words k ≡ false → IsOld (token k)
old_token k e = record { old = λ ts t p. rw p.0 (rw p.1 e, tt) }

module _ {A B : Type 0} {P : Production A} {Q : Production B} (p : IsOld P) (q : IsOld Q) where
  old_then : IsOld (P then Q)
  old_then = record { old = λ ts x s. rw s.whole (old_append s.front s.back (p.old s.front x.0 s.first) (q.old s.back x.1 s.second)) }

module _ {A : Type 0} {P Q : Production A} (p : IsOld P) (q : IsOld Q) where
  either_old : (ts : List Token) (x : A) → (P or Q) ts x → AreOld ts
  either_old ts x (inl m) = p.old ts x m
  either_old ts x (inr m) = q.old ts x m

  old_or : IsOld (P or Q)
  old_or = record { old = either_old }

module _ {A : Type 0} {P : Production A} (p : IsOld P) where
  optional_old : (ts : List Token) (x : Option A) → optional P ts x → AreOld ts
  optional_old ts None m = rw m tt
  optional_old ts (Some x) m = p.old ts x m

  old_optional : IsOld (optional P)
  old_optional = record { old = optional_old }

  repeated_old : (ts : List Token) (xs : List A) → repeated P ts xs → AreOld ts
  repeated_old ts [] m = rw m tt
  repeated_old ts (x ∷ xs) m = rw m.2 (old_append m.0 m.1 (p.old m.0 x m.3) (repeated_old m.1 xs m.4))

  old_repeated : IsOld (repeated P)
  old_repeated = record { old = repeated_old }

  old_makes : {B : Type 0} (f : A → B) → IsOld (P makes f)
  old_makes f = record { old = λ ts y m. p.old ts m.0 m.1 }

old_nothing : {A : Type 0} → IsOld (nothing {A = A})
old_nothing = record { old = λ ts x p. absurd p }

old_any : {A : Type 0} {P : ℕ → Production A} → ((n : ℕ) → IsOld (P n)) → IsOld (at_any_depth P)
old_any p = record { old = λ ts x m. (p m.0).old ts x m.1 }

old_number : (b : Bool) → IsOld (number_by b)
old_number b = record { old = λ ts x m. rw m.2 (rw m.3 refl, tt) }

-- a kind that is among others
not_new : (ks : List Kind) (k : Kind) → apart ks new_words ≡ true → is_one_of ks k ≡ true → is_one_of new_words k ≡ false
not_new ks k e p = by (is_one_of new_words k) refl
  where
    by : (v : Bool) → is_one_of new_words k ≡ v → v ≡ false
    by true q = absurd (apart_kinds ks new_words k e p q)
    by false q = refl

old_choice : {A : Type 0} (table : List (Kind × A)) → apart (keys table) new_words ≡ true → IsOld (choice table)
old_choice table e = record { old = λ ts x m. rw m.1 (not_new (keys table) m.0.kind e (sym (looked_up_keys table m.0.kind) ∙ ap is_some m.2), tt) }

module _ {A : Type 0} {P : Production A} (p : IsOld P) where
  old_past : (k : Kind) → is_one_of new_words k ≡ false → IsOld (past k P)
  old_past k e = old_makes (old_then (old_token k e) p) (λ r. r.1)

  old_several : IsOld (several P)
  old_several = old_makes (old_then p (old_repeated p)) (λ r. r.0 ∷ r.1)

  old_enclosed : (k close : Kind) → is_one_of new_words k ≡ false → is_one_of new_words close ≡ false → IsOld (enclosed k close P)
  old_enclosed k close e f = old_makes (old_then (old_token k e) (old_then p (old_token close f))) (λ r. (r.0, r.1.0))

  old_between : (k close : Kind) → is_one_of new_words k ≡ false → is_one_of new_words close ≡ false → IsOld (between k close P)
  old_between k close e f = old_makes (old_enclosed k close e f) (λ r. r.1)

old_separated : {A : Type 0} {P : Production A} (p : IsOld P) (k : Kind) → is_one_of new_words k ≡ false → IsOld (separated k P)
old_separated p k e = old_makes (old_then p (old_repeated (old_past p k e))) (λ r. r.0 ∷ r.1)

ruleset parts = (old_between, old_enclosed, old_separated, old_several, old_past, old_then, old_or, old_optional, old_repeated, old_token, old_number, old_choice, old_makes)

-- ---- terms

module _ (text : List ℕ) where
  old_name : IsOld (g.name text)
  old_name = search parts depth 9

  old_binding : IsOld (g.binding text)
  unfolding g.binding
  old_binding = search (parts, old_name) depth 9

  module _ (X : Production source.Term) (h : IsOld X) where
    old_arguments : IsOld (g.arguments text X)
    unfolding g.arguments
    old_arguments = search parts depth 9

    old_applied : IsOld (g.applied text X)
    unfolding g.applied
    old_applied = search (parts, old_name, old_arguments) depth 9

    old_exists : IsOld (g.exists_term text X)
    unfolding g.exists_term
    old_exists = search (parts, old_binding) depth 9

    old_every : IsOld (g.every_term text X)
    unfolding g.every_term
    old_every = search (parts, old_binding) depth 9

    old_inner : IsOld (g.inner text X)
    unfolding g.inner
    old_inner = search (parts, old_exists, old_every) depth 9

    old_primary : IsOld (g.primary text X nothing)
    unfolding g.primary
    old_primary = search (parts, old_nothing, old_applied, old_inner) depth 9

    old_factor : IsOld (g.factor text X nothing)
    unfolding g.factor
    old_factor = search (parts, old_primary) depth 9

    old_product : IsOld (g.product text X nothing)
    unfolding g.product
    old_product = search (parts, old_factor) depth 9

    old_sum : IsOld (g.sum text X nothing)
    unfolding g.sum
    old_sum = search (parts, old_product) depth 9

    old_comparison : IsOld (g.comparison text X nothing)
    unfolding g.comparison
    old_comparison = search (parts, old_sum) depth 9

    old_negation : IsOld (g.negation text X nothing)
    unfolding g.negation
    old_negation = search (parts, old_comparison) depth 9

    old_conjunction : IsOld (g.conjunction text X nothing)
    unfolding g.conjunction
    old_conjunction = search (parts, old_negation) depth 9

    old_term_over : IsOld (g.term_over text X nothing)
    unfolding g.term_over
    old_term_over = search (parts, old_conjunction) depth 9

  old_term : (n : ℕ) → IsOld (old_term_within text n)
  unfolding old_term_within
  old_term zero = old_term_over nothing old_nothing
  old_term (suc n) = old_term_over (old_term_within text n) (old_term n)

  -- ---- rules

  old_skip : IsOld r.skip_rule
  unfolding r.skip_rule
  old_skip = search parts depth 9

  module _ (X : Production source.Term) (S : Production source.Rule) (h : IsOld X) (k : IsOld S) where
    old_call : IsOld (r.call text X S)
    unfolding r.call
    old_call = search (parts, old_applied) depth 9

    old_assignment : IsOld (r.assignment text X S (g.term_over text X nothing))
    unfolding r.assignment
    old_assignment = search (parts, old_applied, old_term_over) depth 9

    old_par : IsOld (r.par_rule text X S)
    unfolding r.par_rule
    old_par = search parts depth 9

    old_seq : IsOld (r.seq_rule text X S)
    unfolding r.seq_rule
    old_seq = search parts depth 9

    old_if : IsOld (r.if_rule text X S)
    unfolding r.if_rule
    old_if = search parts depth 9

    old_let : IsOld (r.let_rule text X S)
    unfolding r.let_rule
    old_let = search (parts, old_name) depth 9

    old_forall : IsOld (r.forall_rule text X S)
    unfolding r.forall_rule
    old_forall = search (parts, old_binding) depth 9

    old_choose : IsOld (r.choose_rule text X S)
    unfolding r.choose_rule
    old_choose = search (parts, old_binding) depth 9

    old_iterate : IsOld (r.iterate_rule text X S)
    unfolding r.iterate_rule
    old_iterate = search parts depth 9

    old_over : IsOld (old_rule_over text X S)
    unfolding old_rule_over
    old_over = search (old_or, old_skip, old_call, old_assignment, old_par, old_seq, old_if, old_let, old_forall, old_choose, old_iterate) depth 9

  old_rule : (n : ℕ) → IsOld (old_rule_within text n)
  unfolding old_rule_within
  old_rule zero = old_over nothing nothing old_nothing old_nothing
  old_rule (suc n) = old_over (old_term_within text n) (old_rule_within text n) (old_term n) (old_rule n)

  -- ---- declarations

  old_int : IsOld d.int
  unfolding d.int
  old_int = search parts depth 9

  old_constant : IsOld (d.constant text)
  unfolding d.constant
  old_constant = search (parts, old_int, old_name) depth 9

  old_entry : IsOld (d.entry text)
  unfolding d.entry
  old_entry = search (parts, old_constant) depth 9

  old_table : IsOld (d.table text)
  unfolding d.table
  old_table = search (parts, old_entry, old_constant) depth 9

  old_type : IsOld (d.type text)
  unfolding d.type
  old_type = search (parts, old_name) depth 9

  old_signature : IsOld (d.signature text)
  unfolding d.signature
  old_signature = search (parts, old_type) depth 9

  old_parameters : IsOld (d.parameters text)
  unfolding d.parameters
  old_parameters = search (parts, old_name) depth 9

  old_use : IsOld (d.use_item text)
  unfolding d.use_item
  old_use = search (parts, old_name) depth 9

  old_init : IsOld (d.init_item text)
  unfolding d.init_item
  old_init = search (parts, old_name) depth 9

  old_enum : IsOld (d.enum_item text)
  unfolding d.enum_item
  old_enum = search (parts, old_name) depth 9

  old_universe : IsOld (d.universe_item text)
  unfolding d.universe_item
  old_universe = search (parts, old_name, old_int) depth 9

  old_function : IsOld (d.function_item text)
  unfolding d.function_item
  old_function = search (parts, old_name, old_signature, old_table) depth 9

  module _ (X : Production source.Term) (S : Production source.Rule) (h : IsOld X) (k : IsOld S) where
    old_derived : IsOld (d.derived_item text X S)
    unfolding d.derived_item
    old_derived = search (parts, old_name, old_parameters) depth 9

    old_rule_item : IsOld (d.rule_item text X S)
    unfolding d.rule_item
    old_rule_item = search (parts, old_name, old_parameters) depth 9

    old_item : IsOld (d.item text X S)
    unfolding d.item
    old_item = search (old_or, old_use, old_init, old_enum, old_universe, old_function, old_derived, old_rule_item) depth 9

    old_whole : IsOld (d.specification_over text X S)
    unfolding d.specification_over
    old_whole = search (parts, old_name, old_item) depth 9

  pub old_tokens : IsOld (old_specification text)
  old_tokens = old_whole (at_any_depth (old_term_within text)) (at_any_depth (old_rule_within text)) (old_any old_term) (old_any old_rule)

-- ---- levels

alike_none : (k : Kind) → is_one_of new_words k ≡ false → (alike (Keyword While) k ≡ false) × (alike (Keyword EndWhile) k ≡ false)
alike_none k e = by (alike (Keyword While) k) (alike (Keyword EndWhile) k) e
  where
    by : (x y : Bool) → (x || (y || false)) ≡ false → (x ≡ false) × (y ≡ false)
    by true y p = absurd cc
    by false true p = absurd cc
    by false false p = (refl, refl)

same_openers : (k : Kind) → is_one_of new_words k ≡ false → is_one_of openers k ≡ is_one_of old_openers k
same_openers k e = rw (alike_none k e).0 refl

same_closers : (k : Kind) → is_one_of new_words k ≡ false → is_one_of closers k ≡ is_one_of old_closers k
same_closers k e = rw (alike_none k e).1 refl

same_opens : (q : Bool) (k : Kind) → is_one_of new_words k ≡ false → opens q k ≡ opens_by old_openers q k
same_opens true k e = rw (same_openers k e) refl
same_opens false k e = same_openers k e

same_token : (c : Depth) (t : Token) → is_one_of new_words t.kind ≡ false → after_token c t ≡ after_token_by old_openers old_closers c t
same_token c t e = rw (same_opens c.in_front t.kind e, same_closers t.kind e) refl

pub same_depth : (ts : List Token) (c : Depth) → AreOld ts → depth_after c ts ≡ old_depth_after c ts
same_depth [] c h = refl
same_depth (t ∷ ts) c h = ap (λ (v : Depth). depth_after v ts) (same_token c t h.0) ∙ same_depth ts (after_token_by old_openers old_closers c t) h.1
