-- Free. A command whose rules are known has, after a parse, a value of each argument that is
-- required or has a default.
--     has_value       one that passed the argument's parser
--     have_numbers    those of options with numbers
--     has_text        a text of one that is required
use Rattle.std.proofs.Common.{◌≡◌, ◌⊎◌, ◌∙◌, ◌<◌, ◌≤◌, ap, ℕ, zero, suc, Bool, true, false, not, List, [], ◌∷◌, length, map, is_some, is_none, Option, Some, None, codes, refl, sym, subst, inl, inr, arith}
use Rattle.std.specs.Prelude.{if◌then◌else◌, pos, ⊤}
use Rattle.std.specs.Str.{bytes_eq}
use Rattle.std.proofs.lemmas.Slice.Eq.{bytes_eq-Decides}
use Rattle.std.specs.List.{All, list_all, slice_index_or}
use Rattle.clap.specs.Built.{IsParsedFrom, IsPlain}
use Rattle.clap.specs.Facts.{args_of, groups_of, least_values, unwrap_or_range}
use Rattle.clap.specs.Matches.{found_of, matched_of, one_text, first_value}
use Rattle.clap.specs.Simple.{App, app_of}
use Rattle.clap.specs.Texts.{items_of}
use Rattle.clap.specs.Values.{Accepts, read_as, reading_of}
use Rattle.clap.specs.Walk.{Rule, Text, is_empty, is_free_arg, is_simple_arg, rule_of, texts}
use Rattle.clap.specs.declared.builder.action.ArgAction.TheVariants.{Set}
use Rattle.clap.specs.declared.builder.arg.Arg.{Arg}
use Rattle.clap.specs.declared.builder.command.Command.{Command}
use Rattle.clap.specs.declared.builder.command.Command.TheViews.{out-Command}
use Rattle.clap.specs.declared.builder.value_parser.ValueParser.{ValueParser}
use Rattle.clap.specs.declared.builder.value_parser.ValueParser.TheVariants.{Signed, Unsigned}
use Rattle.clap.specs.declared.parser.matches.ArgMatches.{ArgMatches}
use Rattle.clap.specs.declared.parser.matches.Found.{Found}
use Rattle.clap.proofs.CallerLemmas.{default_present, present_has_entry, required_has_value, required_present}
use Rattle.clap.proofs.SimpleLemmas.{is_false, is_nil}
use Rattle.clap.proofs.TakesLemmas.{each_rule}
use Rattle.clap.proofs.WalkLemmas.{both}
use Rattle.asm_limits.specs.Limits.{NumberOption}
use Rattle.asm_limits.specs.code.NumberOptions.{as_option}
use Rattle.asm_limits.specs.declared.run_limits.NumberOption as code
use Rattle.asm_arguments.specs.Arguments.{number, positional, with_rules}
use Rattle.asm_arguments.specs.Numbers.{HasNumber, HaveNumbers}
use Rattle.asm_arguments.proofs.GivenValues.{is_found, is_read}
use Rattle.asm_arguments.proofs.Rules.{alone, is_alone, index_low, plain_arg, undelimited, unconditional, rule_at}

-- no argument has anything to do with another, and no setting changes how words are read
pub record IsUnrelated (app : App) : Type 0 where
  pub simple : list_all (λ r. r.is_simple) app.top.rules ≡ true
  pub free : list_all (λ r. r.is_free) app.top.rules ≡ true
  pub plain : app.top.is_plain ≡ true
  pub negates : app.top.subcommand_negates_reqs ≡ false

-- a value with this parser, which is required or has a default
pub record IsValueRule (rule : Rule) (name : Text) (q : ValueParser) : Type 0 where
  pub id : rule.id ≡ name
  pub set : rule.action ≡ Some Set
  pub parser : rule.parser ≡ Some q
  pub range : rule.range ≡ None
  pub stands : (rule.required ≡ true) ⊎ (0 < length rule.defaults)

-- what the entry of such a value has
pub record HasValue (found : Found) (name : Text) (q : ValueParser) : Type 0 where
  pub text : Text
  pub is_first : first_value found name ≡ Some text
  pub is_handed : one_text found name ≡ Some (read_as (reading_of q) text)
  pub ignores_case : Bool
  pub passed : Accepts ignores_case q text

-- a text, which is required
pub record IsTextRule (rule : Rule) (name : Text) : Type 0 where
  pub id : rule.id ≡ name
  pub set : rule.action ≡ Some Set
  pub range : rule.range ≡ None
  pub stands : rule.required ≡ true

-- ---- options with numbers

abbrev pub no_rule : Rule
no_rule = positional []

-- where the first rule with a name is
abbrev pub place : Text → List Rule → ℕ
place name [] = 0
place name (rule ∷ rules) = if bytes_eq rule.id name then 0 else suc (place name rules)

-- the option is one of the rules, and there is no other one with its name
abbrev pub IsOption : List Rule → NumberOption → Type 0
IsOption rules option =
    (is_alone option.name rules (place option.name rules) ≡ true)
    × (slice_index_or rules (place option.name rules) no_rule ≡ number option)
    × ((bytes_eq option.name [] ≡ false) × (bytes_eq option.name (codes "help") ≡ false) × (bytes_eq option.name (codes "version") ≡ false))

abbrev pub AreOptions : List Rule → List NumberOption → Type 0
AreOptions rules [] = ⊤
AreOptions rules (option ∷ options) = IsOption rules option × AreOptions rules options

differs : (name other : Text) → bytes_eq name other ≡ false → name ≡ other → ⊥
differs name other not_same same = let same_bytes : bytes_eq name other ≡ true = (bytes_eq-Decides name other).1 same in let bad : true ≡ false = sym same_bytes ∙ not_same in cc

stands : (option : NumberOption) (rule : Rule) → rule ≡ number option → (rule.required ≡ true) ⊎ (0 < length rule.defaults)
stands option rule is = go option.default refl
  where
    go : (o : Option Text) → option.default ≡ o → (rule.required ≡ true) ⊎ (0 < length rule.defaults)
    go None none = inl (ap (λ r. r.required) is ∙ ap is_none none)
    go (Some text) some = inr (rw (ap (λ r. r.defaults) is, some) (omega arith))

-- one more argument for each of some options of the code, which are known
pub grown_by : (old new : Command) (known : App) (options : List code.NumberOption) (said : List NumberOption)
    → app_of new ≡ with_rules (app_of old) (map number (map as_option options)) → app_of old ≡ known → map as_option options ≡ said
    → app_of new ≡ with_rules known (map number said)
grown_by old new known options said added before are =
    added ∙ (ap (λ app. with_rules app (map number (map as_option options))) before ∙ ap (λ os. with_rules known (map number os)) are)

-- ---- what a parse finds

any_of : (xs : List Arg) → 0 < length xs → Arg
any_of [] some = absurd (omega arith)
any_of (x ∷ xs) some = x

count_kept : (xs : List _) → 0 < length (texts xs) → 0 < length xs
count_kept [] some = some
count_kept (x ∷ xs) some = omega arith

module _ (c : Command) (m : ArgMatches) (p : IsParsedFrom c m) (app : App) (known : app_of c ≡ app) (u : IsUnrelated app) where
  rules : map rule_of (args_of c) ≡ app.top.rules
  rules = ap (λ x. x.top.rules) known

  fields : app.top.is_plain ≡ true → (groups_of c ≡ []) × ((out-Command c).has_globals ≡ false)
  fields plain =
      let all = ap (λ x. x.top.is_plain) known ∙ plain in
      let groups = both (is_empty (groups_of c)) _ all in
      let external = both (not (out-Command c).allow_external_subcommands) _ groups.1 in
      (is_nil (groups_of c) groups.0, is_false (out-Command c).has_globals (both (not (out-Command c).has_globals) _ external.1).0)

  simple : All (λ a. is_simple_arg a ≡ true) (args_of c)
  simple = each_rule (λ r. r.is_simple) (args_of c) (ap (list_all (λ r. r.is_simple)) rules ∙ u.simple)

  free : All (λ a. is_free_arg a ≡ true) (args_of c)
  free = each_rule (λ r. r.is_free) (args_of c) (ap (list_all (λ r. r.is_free)) rules ∙ u.free)

  plain : IsPlain c
  plain = (λ k d low. plain_arg (slice_index_or (args_of c) k d) (simple k d low) (free k d low), (fields u.plain).0)

  pub has_value : (k : ℕ) (name : Text) (q : ValueParser) (r : Rule) → is_alone name app.top.rules k ≡ true
      → IsValueRule (slice_index_or app.top.rules k r) name q → (name ≡ [] → ⊥) → (name ≡ codes "help" → ⊥) → (name ≡ codes "version" → ⊥)
      → HasValue (found_of m) name q
  has_value k name q r once is named no_help no_version =
      let once' : is_alone name (map rule_of (args_of c)) k ≡ true = rw rules once in
      let low = index_low name (args_of c) k once' in
      let d = any_of (args_of c) (omega arith) in
      let a = slice_index_or (args_of c) k d in
      let rule : rule_of a ≡ slice_index_or app.top.rules k r = rule_at (args_of c) k d r low ∙ ap (λ rs. slice_index_or rs k r) rules in
      let same : a.id.now ≡ name = ap (λ x. x.id) rule ∙ is.id in
      let globals = (fields u.plain).1 in
      let negates : (out-Command c).subcommand_negates_reqs ≡ false = ap (λ x. x.top.subcommand_negates_reqs) known ∙ u.negates in
      let some_value : 1 ≤ least_values a = let none : a.num_vals ≡ None = ap (λ x. x.range) rule ∙ is.range in subst (λ n. 1 ≤ (unwrap_or_range n).start_inclusive) (sym none) (omega arith) in
      let stands : is_some (matched_of (found_of m) a.id.now) ≡ true = elim is.stands [
        | inl required ↦ present_has_entry (found_of m) a.id.now
            (required_present c m p plain globals negates k d low (ap (λ x. x.required) rule ∙ required))
        | inr some ↦
            let texts_some : 0 < length (texts (items_of a.default_vals)) = rw (ap (λ x. x.defaults) rule) some in
            let has = default_present c m p globals k d low (unconditional a (simple k d low), count_kept _ texts_some) in
            is_found _ _ has.0 has.1 has.2
      ] in
      let read = is_read c m p plain globals k d low
      (λ j e low same-id. alone name (args_of c) k once' j e low (rw same at same-id))
      (λ nameless. named (sym same ∙ nameless))
      (λ auto. elim auto [ inl h ↦ no_help (sym same ∙ h) | inr v ↦ no_version (sym same ∙ v) ])
      (ap (λ x. x.action) rule ∙ is.set) (undelimited a (simple k d low)) some_value q
      (ap (λ x. x.parser) rule ∙ is.parser) stands in
      record {
        text = read.text;
        is_first = subst (λ (w : Text). first_value (found_of m) w ≡ Some read.text) same read.is_first;
        is_handed = subst (λ (w : Text). one_text (found_of m) w ≡ Some (read_as (reading_of q) read.text)) same read.is_handed;
        ignores_case = a.ignore_case;
        passed = read.passed;
      }

  has_number : (option : NumberOption) → IsOption app.top.rules option → HasNumber (found_of m) option
  has_number option is =
      let rule = is.1 in
      let k = place option.name app.top.rules in
      let named = differs option.name [] is.2.0 in
      let no_help = differs option.name (codes "help") is.2.1 in
      let no_version = differs option.name (codes "version") is.2.2 in
      let value = has_value k option.name (Signed (pos option.bounds.least) (pos option.bounds.most)) no_rule is.0
      (record {
        id = ap (λ r. r.id) rule;
        set = ap (λ r. r.action) rule;
        parser = ap (λ r. r.parser) rule;
        range = ap (λ r. r.range) rule;
        stands = stands option (slice_index_or app.top.rules k no_rule) rule;
      }) named no_help no_version in
      record { text = value.text; is_first = value.is_first; is_handed = value.is_handed; is_within = value.passed }

  pub have_numbers : (options : List NumberOption) → AreOptions app.top.rules options → HaveNumbers (found_of m) options
  have_numbers [] are = tt
  have_numbers (option ∷ options) are = (has_number option are.0, have_numbers options are.1)

  pub has_text : (k : ℕ) (name : Text) (r : Rule) → is_alone name app.top.rules k ≡ true
      → IsTextRule (slice_index_or app.top.rules k r) name → (name ≡ [] → ⊥) → (name ≡ codes "help" → ⊥) → (name ≡ codes "version" → ⊥)
      → is_some (first_value (found_of m) name) ≡ true
  has_text k name r once is named no_help no_version =
      let once' : is_alone name (map rule_of (args_of c)) k ≡ true = rw rules once in
      let low = index_low name (args_of c) k once' in
      let d = any_of (args_of c) (omega arith) in
      let a = slice_index_or (args_of c) k d in
      let rule : rule_of a ≡ slice_index_or app.top.rules k r = rule_at (args_of c) k d r low ∙ ap (λ rs. slice_index_or rs k r) rules in
      let same : a.id.now ≡ name = ap (λ x. x.id) rule ∙ is.id in
      let negates : (out-Command c).subcommand_negates_reqs ≡ false = ap (λ x. x.top.subcommand_negates_reqs) known ∙ u.negates in
      let some_value : 1 ≤ least_values a = let none : a.num_vals ≡ None = ap (λ x. x.range) rule ∙ is.range in subst (λ n. 1 ≤ (unwrap_or_range n).start_inclusive) (sym none) (omega arith) in
      let has = required_has_value c m p plain (fields u.plain).1 negates k d low (ap (λ x. x.required) rule ∙ is.stands)
      (ap (λ x. x.action) rule ∙ is.set) (undelimited a (simple k d low)) some_value
      (λ j e low same-id. alone name (args_of c) k once' j e low (rw same at same-id))
      (λ nameless. named (sym same ∙ nameless))
      (λ auto. elim auto [ inl h ↦ no_help (sym same ∙ h) | inr v ↦ no_version (sym same ∙ v) ]) in
      subst (λ (w : Text). is_some (first_value (found_of m) w) ≡ true) same has
