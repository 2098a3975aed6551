-- Free. Numbers of 64 bits that may be left out.
--     may_have_unsigned    after a parse there is one of each option that takes one, if the option
--                          has an entry
--     may_be_unsigned      what is read of such an entry is the number of its row
use Rattle.std.proofs.Common.{◌≡◌, ◌∙◌, ◌<◌, ◌≤◌, ap, ℕ, Bool, true, List, [], ◌∷◌, length, map, Option, Some, None, is_some, codes, refl, sym, subst, inl, inr, arith}
use Rattle.std.specs.Prelude.{Result}
use Rattle.std.specs.List.{All, list_all, slice_index_or}
use Rattle.std.specs.Str.Parse.{ParsesUnsigned}
use Rattle.clap.specs.Built.{IsParsedFrom, IsPlain}
use Rattle.clap.specs.Facts.{args_of, groups_of, least_values, unwrap_or_range}
use Rattle.clap.specs.Matches.{ReadsOne, first_value, found_of, matched_of, one_text}
use Rattle.clap.specs.Simple.{App, app_of}
use Rattle.clap.specs.Walk.{Rule, Text, is_empty, is_free_arg, is_simple_arg, rows_of, rule_of}
use Rattle.clap.specs.declared.builder.action.ArgAction.TheVariants.{Set}
use Rattle.clap.specs.declared.builder.arg.Arg.{Arg}
use Rattle.clap.specs.declared.builder.command.Command.{Command}
use Rattle.clap.specs.declared.builder.value_parser.ValueParser.TheVariants.{Unsigned}
use Rattle.clap.specs.declared.parser.matches.ArgMatches.{ArgMatches}
use Rattle.clap.specs.declared.parser.matches.Found.{Found}
use Rattle.clap.specs.declared.parser.matches.MatchedArg.{MatchedArg}
use Rattle.clap.proofs.SimpleLemmas.{is_nil}
use Rattle.clap.proofs.TakesLemmas.{each_rule}
use Rattle.clap.proofs.WalkLemmas.{both}
use Rattle.asm_arguments.proofs.GivenNumbers.{IsUnrelated}
use Rattle.asm_arguments.proofs.GivenValues.{IsRead, is_read}
use Rattle.asm_arguments.proofs.ReadNumbers.{first_of_rows}
use Rattle.asm_arguments.proofs.Rules.{alone, index_low, is_alone, plain_arg, rule_at, undelimited}
use Rattle.asm_explore_words.specs.CommandLine.{most_unsigned}
use Rattle.asm_explore_words.specs.WordsSaid.{MayBeUnsigned, MayHaveUnsigned}
use Rattle.asm_explore_words.proofs.AllCommands.{no_globals}
use Rattle.asm_explore_words.proofs.UnsignedNumbers.{read_unsigned}

-- an option with such numbers
pub record IsUnsignedRule (rule : Rule) (name : Text) : Type 0 where
  pub id : rule.id ≡ name
  pub set : rule.action ≡ Some Set
  pub parser : rule.parser ≡ Some (Unsigned 0 most_unsigned)
  pub range : rule.range ≡ None

any_of : (xs : List Arg) → 0 < length xs → Arg
any_of [] some = absurd (omega arith)
any_of (x ∷ xs) some = x

-- what the entry of an argument has, if there is one
of_entry : (m : ArgMatches) (id name : Text) (ignores_case : Bool) → id ≡ name
    → (is_some (matched_of (found_of m) id) ≡ true → IsRead m id (Unsigned 0 most_unsigned) ignores_case) → MayHaveUnsigned (found_of m) name
of_entry m id name ignores_case same read = go (matched_of (found_of m) name) refl
  where
    go : (o : Option MatchedArg) → matched_of (found_of m) name ≡ o → MayHaveUnsigned (found_of m) name
    go None none = inl none
    go (Some x) some =
        let value = read (rw (same, some) refl) in
        inr (record {
          text = value.text;
          is_first = subst (λ (w : Text). first_value (found_of m) w ≡ Some value.text) same value.is_first;
          is_handed = subst (λ (w : Text). one_text (found_of m) w ≡ Some value.text) same value.is_handed;
          is_within = value.passed;
        })

module _ (c : Command) (m : ArgMatches) (p : IsParsedFrom c m) (app : App) (known : app_of c ≡ app) (u : IsUnrelated app) where
  rules : map rule_of (args_of c) ≡ app.top.rules
  rules = ap (λ x. x.top.rules) known

  simple : All (λ a. is_simple_arg a ≡ true) (args_of c)
  simple = each_rule (λ r. r.is_simple) (args_of c) (ap (list_all (λ r. r.is_simple)) rules ∙ u.simple)

  free : All (λ a. is_free_arg a ≡ true) (args_of c)
  free = each_rule (λ r. r.is_free) (args_of c) (ap (list_all (λ r. r.is_free)) rules ∙ u.free)

  plain : IsPlain c
  plain =
      let groups = both (is_empty (groups_of c)) _ (ap (λ x. x.top.is_plain) known ∙ u.plain) in
      (λ k d low. plain_arg (slice_index_or (args_of c) k d) (simple k d low) (free k d low), is_nil (groups_of c) groups.0)

  pub may_have_unsigned : (k : ℕ) (name : Text) (r : Rule) → is_alone name app.top.rules k ≡ true
      → IsUnsignedRule (slice_index_or app.top.rules k r) name → (name ≡ [] → ⊥) → (name ≡ codes "help" → ⊥) → (name ≡ codes "version" → ⊥)
      → MayHaveUnsigned (found_of m) name
  may_have_unsigned k name r once is named no_help no_version =
      let once' : is_alone name (map rule_of (args_of c)) k ≡ true = rw rules once in
      let low = index_low name (args_of c) k once' in
      let d = any_of (args_of c) (omega arith) in
      let a = slice_index_or (args_of c) k d in
      let rule : rule_of a ≡ slice_index_or app.top.rules k r = rule_at (args_of c) k d r low ∙ ap (λ rs. slice_index_or rs k r) rules in
      let same : a.id.now ≡ name = ap (λ x. x.id) rule ∙ is.id in
      let some_value : 1 ≤ least_values a = let none : a.num_vals ≡ None = ap (λ x. x.range) rule ∙ is.range in subst (λ n. 1 ≤ (unwrap_or_range n).start_inclusive) (sym none) (omega arith) in
      of_entry m a.id.now name a.ignore_case same (is_read c m p plain (no_globals c app u.plain known) k d low
      (λ j e low same-id. alone name (args_of c) k once' j e low (rw same at same-id))
      (λ nameless. named (sym same ∙ nameless))
      (λ auto. elim auto [ inl h ↦ no_help (sym same ∙ h) | inr v ↦ no_version (sym same ∙ v) ])
      (ap (λ x. x.action) rule ∙ is.set) (undelimited a (simple k d low)) some_value (Unsigned 0 most_unsigned) (ap (λ x. x.parser) rule ∙ is.parser))

pub may_be_unsigned : (E : Type 0) (G : List ℕ → Result ℕ E → Type 0) (f : Found) (name : Text) (r : Option ℕ) → MayHaveUnsigned f name
    → (one_text f name ≡ None → r ≡ None) → ((t : List ℕ) → one_text f name ≡ Some t → ReadsOne G t r)
    → ((u : List ℕ) (x : Result ℕ E) → G u x → ParsesUnsigned 64 10 u x) → MayBeUnsigned (rows_of f) name r
may_be_unsigned E G f name r (inl none) nothing one only =
    rw (nothing (rw none refl)) (first_of_rows f name ∙ rw none refl)
may_be_unsigned E G f name r (inr has) nothing one only =
    let read = read_unsigned E G most_unsigned has.text r (one has.text has.is_handed) only has.is_within in
    rw read.1 (record { text = has.text; is_given = first_of_rows f name ∙ has.is_first; is_read = read.2 })
