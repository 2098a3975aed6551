-- Free. What the rules of a command, which are known, say of its arguments.
use Rattle.std.proofs.Common.{◌&&◌, ◌≡◌, ◌<◌, ◌∙◌, ap, ℕ, zero, suc, Bool, true, false, is_some, not, List, [], ◌∷◌, length, map, Option, None, Some, refl, sym, arith}
use Rattle.std.specs.List.{list_all, slice_index_or}
use Rattle.std.specs.Str.{bytes_eq}
use Rattle.clap.specs.Built.{AddsArg, IsPlainArg}
use Rattle.clap.specs.Simple.{App, app_of, with_rule}
use Rattle.clap.specs.Walk.{Rule, Text, is_empty, is_free_arg, is_simple_arg, rule_of}
use Rattle.clap.proofs.SimpleLemmas.{is_false, is_nil}
use Rattle.clap.proofs.WalkLemmas.{both}
use Rattle.clap.specs.declared.builder.arg.Arg.{Arg}
use Rattle.clap.specs.declared.builder.command.Command.{Command}

-- the rule at this index, and no other, has the id
abbrev pub is_alone : Text → List Rule → ℕ → Bool
is_alone id [] k = false
is_alone id (r ∷ rs) zero = bytes_eq r.id id && list_all (λ x. not (bytes_eq x.id id)) rs
is_alone id (r ∷ rs) (suc k) = not (bytes_eq r.id id) && is_alone id rs k

none_has : (id : Text) (xs : List Arg) → list_all (λ x. not (bytes_eq x.id id)) (map rule_of xs) ≡ true
    → (j : ℕ) (e : Arg) → j < length xs → bytes_eq (slice_index_or xs j e).id.now id ≡ true → ⊥
none_has id [] all j e low same = omega arith
none_has id (x ∷ xs) all zero e low same = let no = is_false _ (both (not (bytes_eq x.id.now id)) _ all).0 in let bad : true ≡ false = sym same ∙ no in cc
none_has id (x ∷ xs) all (suc j) e low same = none_has id xs (both (not (bytes_eq x.id.now id)) _ all).1 j e (omega arith) same

pub alone : (id : Text) (xs : List Arg) (k : ℕ) → is_alone id (map rule_of xs) k ≡ true
    → (j : ℕ) (e : Arg) → j < length xs → bytes_eq (slice_index_or xs j e).id.now id ≡ true → j ≡ k
alone id [] k only j e low same = absurd (omega arith)
alone id (x ∷ xs) zero only zero e low same = refl
alone id (x ∷ xs) zero only (suc j) e low same = absurd (none_has id xs (both (bytes_eq x.id.now id) _ only).1 j e (omega arith) same)
alone id (x ∷ xs) (suc k) only zero e low same = let no = is_false _ (both (not (bytes_eq x.id.now id)) _ only).0 in let bad : true ≡ false = sym same ∙ no in cc
alone id (x ∷ xs) (suc k) only (suc j) e low same = ap suc (alone id xs k (both (not (bytes_eq x.id.now id)) _ only).1 j e (omega arith) same)

pub index_low : (id : Text) (xs : List Arg) (k : ℕ) → is_alone id (map rule_of xs) k ≡ true → k < length xs
index_low id [] k only = let bad : false ≡ true = only in cc
index_low id (x ∷ xs) zero only = omega arith
index_low id (x ∷ xs) (suc k) only = let low = index_low id xs k (both (not (bytes_eq x.id.now id)) _ only).1 in omega arith

-- the rule at an index is that of the argument there
pub rule_at : (xs : List Arg) (k : ℕ) (d : Arg) (r : Rule) → k < length xs → rule_of (slice_index_or xs k d) ≡ slice_index_or (map rule_of xs) k r
rule_at [] k d r low = absurd (omega arith)
rule_at (x ∷ xs) zero d r low = refl
rule_at (x ∷ xs) (suc k) d r low = rule_at xs k d r (omega arith)

-- ---- an argument by its rule

-- what a rule that is simple says of its argument
record IsSimple (a : Arg) : Type 0 where
  pub overrides : a.overrides.items ≡ []
  pub conditions : a.default_vals_ifs.items ≡ []
  pub groups : a.groups.items ≡ []
  pub delimiter : a.val_delim ≡ None
  pub global : a.global ≡ false

is_none : {X : Type 0} (o : Option X) → not (is_some o) ≡ true → o ≡ None
is_none None e = refl
is_none (Some x) e = let bad : false ≡ true = e in cc

simple : (a : Arg) → is_simple_arg a ≡ true → IsSimple a
simple a e =
    let overrides = both (is_empty a.overrides.items) _ e in
    let conditions = both (is_empty a.default_vals_ifs.items) _ overrides.1 in
    let groups = both (is_empty a.groups.items) _ conditions.1 in
    let delimiter = both (not (is_some a.val_delim)) _ groups.1 in
    let terminator = both (not (is_some a.terminator)) _ delimiter.1 in
    let hyphens = both (not a.allow_hyphen_values) _ terminator.1 in
    let negatives = both (not a.allow_negative_numbers) _ hyphens.1 in
    let equals = both (not a.require_equals) _ negatives.1 in
    record {
      overrides = is_nil _ overrides.0;
      conditions = is_nil _ conditions.0;
      groups = is_nil _ groups.0;
      delimiter = is_none _ delimiter.0;
      global = is_false a.global (both (not a.last) _ equals.1).1;
    }

pub undelimited : (a : Arg) → is_simple_arg a ≡ true → a.val_delim ≡ None
undelimited a e = (simple a e).delimiter

pub unconditional : (a : Arg) → is_simple_arg a ≡ true → a.default_vals_ifs.items ≡ []
unconditional a e = (simple a e).conditions

pub plain_arg : (a : Arg) → is_simple_arg a ≡ true → is_free_arg a ≡ true → IsPlainArg a
plain_arg a e free =
    let exclusive = both (not a.exclusive) _ free in
    let conflicts = both (is_empty a.conflicts.items) _ exclusive.1 in
    (is_false a.exclusive exclusive.0, is_nil _ conflicts.0, (simple a e).overrides, (simple a e).groups)

-- one more argument, whose rule is known
pub grown : (old new : Command) (a : Arg) (known : App) (rule : Rule) → AddsArg old a new → app_of old ≡ known → rule_of a ≡ rule → rule.is_simple ≡ true
    → app_of new ≡ with_rule known rule
grown old new a known rule added before is plain =
    added.shape (simple a (ap (λ r. r.is_simple) is ∙ plain)).global ∙ (ap (λ app. with_rule app (rule_of a)) before ∙ ap (with_rule known) is)
