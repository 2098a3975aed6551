-- Free. The value that an argument has after a parse: it passed the argument's parser, and is read
-- as that parser says.
use Rattle.std.proofs.Common.{◌≡◌, ◌∙◌, ◌<◌, ◌≤◌, ap, ℕ, zero, suc, Bool, true, false, List, [], ◌∷◌, length, is_some, Option, Some, None, refl, sym, subst, inl, inr, arith}
use Rattle.std.specs.List.{All, find, slice_index_or}
use Rattle.std.specs.Str.{bytes_eq}
use Rattle.std.specs.Prelude.{option_map, slice_get}
use Rattle.std.specs.Borrow.{Bor}
use Rattle.std.proofs.lemmas.List.Elements.{All-get_or}
use Rattle.std.proofs.lemmas.Slice.Eq.{bytes_eq-Decides}
use Rattle.clap.specs.Facts.{args_of, Entry, EntryPasses, HasReading, PassesArg, least_values, parser_of, parser_of_value}
use Rattle.clap.specs.Built.{IsPlain, IsParsedFrom, IsAuto}
use Rattle.clap.specs.Matches.{matched_of, first_value, one_text, found_of}
use Rattle.clap.specs.Values.{Accepts, read_as, reading_of}
use Rattle.clap.specs.Walk.{Text}
use Rattle.clap.specs.declared.builder.value_parser.Reading.{Reading}
use Rattle.clap.proofs.CallerLemmas.{entry_by_id, same_rules_by_id}
use Rattle.clap.specs.declared.builder.action.ArgAction.TheVariants.{Set, Count}
use Rattle.clap.specs.declared.builder.arg.Arg.{Arg}
use Rattle.clap.specs.declared.builder.command.Command.{Command}
use Rattle.clap.specs.declared.builder.command.Command.TheViews.{out-Command}
use Rattle.clap.specs.declared.builder.value_parser.ValueParser.{ValueParser}
use Rattle.clap.specs.declared.parser.matches.ArgMatches.{ArgMatches}
use Rattle.clap.specs.declared.parser.matches.Found.{Found}
use Rattle.clap.specs.declared.parser.matches.MatchedArg.{MatchedArg}

-- an id that is in a list of entries is found there
abbrev IsFoundIn : List Entry → Text → Type 0
IsFoundIn xs id = (i : ℕ) → i < length xs → ((d : Entry) → bytes_eq (slice_index_or xs i d).0.now id ≡ true)
    → is_some (option_map (λ e. e.1) (find (λ e. bytes_eq e.0.now id) xs)) ≡ true

pub is_found : (xs : List Entry) (id : Text) → IsFoundIn xs id
is_found [] id i low has = absurd (omega arith)
is_found (x ∷ xs) id i low has = go (bytes_eq x.0.now id) refl i low has (is_found xs id)
  where
    go : (b : Bool) → bytes_eq x.0.now id ≡ b → (i : ℕ) → i < length (x ∷ xs) → ((d : Entry) → bytes_eq (slice_index_or (x ∷ xs) i d).0.now id ≡ true) → IsFoundIn xs id
        → is_some (option_map (λ e. e.1) (find (λ e. bytes_eq e.0.now id) (x ∷ xs))) ≡ true
    go true e i low has later = rw e refl
    go false e zero low has later = let bad : true ≡ false = sym (has x) ∙ e in cc
    go false e (suc i) low has later = rw e (later i (omega arith) has)

first_one : (xs : List (Bor Text)) → 0 < length xs → (v : Bor Text) × (slice_get xs 0 ≡ Some v) × ((P : Bor Text → Type 0) → All P xs → P v)
first_one [] some = absurd (omega arith)
first_one (v ∷ vs) some = (v, refl, λ P all. All-get_or P (v ∷ vs) 0 v (omega arith) all)

handed : (f : Found) (id : Text) (x : MatchedArg) (how : Reading) (v : Bor Text) → matched_of f id ≡ Some x → slice_get x.vals.items 0 ≡ Some v
    → x.reading ≡ how → one_text f id ≡ Some (read_as how v.now)
handed f id x how v found first reading = rw (found, first, reading) refl

-- what the entry of an argument has
pub record IsRead (m : ArgMatches) (id : Text) (q : ValueParser) (ignores_case : Bool) : Type 0 where
  pub text : Text
  pub is_first : first_value (found_of m) id ≡ Some text
  pub is_handed : one_text (found_of m) id ≡ Some (read_as (reading_of q) text)
  pub passed : Accepts ignores_case q text

module _ (c : Command) (m : ArgMatches) (p : IsParsedFrom c m) (plain : IsPlain c) (globals : (out-Command c).has_globals ≡ false)
    (k : ℕ) (d : Arg) (low : k < length (args_of c))
    (alone : (j : ℕ) (e : Arg) → j < length (args_of c) → bytes_eq (slice_index_or (args_of c) j e).id.now (slice_index_or (args_of c) k d).id.now ≡ true → j ≡ k)
    (named : (slice_index_or (args_of c) k d).id.now ≡ [] → ⊥) (own : IsAuto (slice_index_or (args_of c) k d) → ⊥)
    (set : (slice_index_or (args_of c) k d).action ≡ Some Set) (undelimited : (slice_index_or (args_of c) k d).val_delim ≡ None)
    (some_value : 1 ≤ least_values (slice_index_or (args_of c) k d))
    (q : ValueParser) (parser : (slice_index_or (args_of c) k d).value_parser ≡ Some q) where
  abbrev a : Arg
  a = slice_index_or (args_of c) k d

  abbrev id : Text
  id = a.id.now

  not_group : (e : Entry) → e.0.now ≡ id → EntryPasses p.built e → e.1.is_group ≡ true → ⊥
  not_group e key pass group = elim (pass.3 group) [
    | inl nameless ↦ named (sym key ∙ nameless)
    | inr some ↦
        let bad : 0 < 0 = rw (p.from.plain plain).1 at some in
        omega arith
  ]

  has_value : (e : Entry) → e.0.now ≡ id → EntryPasses p.built e → 0 < length e.1.vals.items
  has_value e key pass = elim pass.1 [
    | inl group ↦ elim group.1 [
      | inl nameless ↦ absurd (named (sym key ∙ nameless))
      | inr some ↦ let bad : 0 < 0 = rw (p.from.plain plain).1 at some in omega arith
    ]
    | inr (inl some) ↦ some
    | inr (inr (inl counts)) ↦
        let any = counts.1 in
        let s = same_rules_by_id c m p k d low alone own any.0 any.1 any.2 any.3 (rw key at any.4.0) in
        let is_set : any.1.action ≡ Some Set = s.action Set set in
        let bad : Set ≡ Count = rw is_set at any.4.1 in
        cc
    | inr (inr (inr without)) ↦
        let s = same_rules_by_id c m p k d low alone own without.0 without.1 without.2 without.3 (rw key at without.4.0) in
        elim without.4.1 [
          | inl none ↦ let one = s.least set some_value in omega arith
          | inr delimited ↦ let bad : false ≡ true = rw (s.val_delim, undelimited) at delimited in cc
        ]
  ]

  reads : (r : Reading) → HasReading p.built id r → r ≡ reading_of q
  reads r any =
      let s = same_rules_by_id c m p k d low alone own any.0 any.1 any.2 any.3 any.4.0 in
      let is_q : parser_of any.1 ≡ q = ap parser_of_value (s.parser q parser) in
      sym any.4.1 ∙ ap reading_of is_q

  passes : (t : Text) → PassesArg p.built id t → Accepts a.ignore_case q t
  passes t any =
      let s = same_rules_by_id c m p k d low alone own any.0 any.1 any.2 any.3 any.4.0 in
      let is_q : parser_of any.1 ≡ q = ap parser_of_value (s.parser q parser) in
      let as_q : Accepts any.1.ignore_case q t = subst (λ (w : ValueParser). Accepts any.1.ignore_case w t) is_q any.4.1 in
      subst (λ (b : Bool). Accepts b q t) s.ignore_case as_q

  of_entry : (x : MatchedArg) → matched_of (found_of m) id ≡ Some x → (e : Entry) → e.1 ≡ x → e.0.now ≡ id → EntryPasses p.built e
      → IsRead m id q a.ignore_case
  of_entry x found e is key pass =
      let one = first_one e.1.vals.items (has_value e key pass) in
      let all : All (λ v. PassesArg p.built e.0.now v.now) e.1.vals.items = elim pass.0 [ inl group ↦ absurd (not_group e key pass group) | inr all ↦ all ] in
      let reading : e.1.reading ≡ reading_of q = elim pass.4 [
        | inl group ↦ absurd (not_group e key pass group)
        | inr some ↦ reads e.1.reading (subst (λ (w : Text). HasReading p.built w e.1.reading) key some)
      ] in
      let is_e : matched_of (found_of m) id ≡ Some e.1 = found ∙ ap Some (sym is) in
      record {
        text = one.0.now;
        is_first = rw (is_e, one.1) refl;
        is_handed = handed (found_of m) id e.1 (reading_of q) one.0 is_e one.1 reading;
        passed = passes one.0.now (subst (λ (w : Text). PassesArg p.built w one.0.now) key (one.2 (λ v. PassesArg p.built e.0.now v.now) all));
      }

  pub is_read : is_some (matched_of (found_of m) id) ≡ true → IsRead m id q a.ignore_case
  is_read some = go (matched_of (found_of m) id) refl some
    where
      go : (o : Option MatchedArg) → matched_of (found_of m) id ≡ o → is_some o ≡ true → IsRead m id q a.ignore_case
      go None found some = let bad : false ≡ true = some in cc
      go (Some x) found some =
          let got = entry_by_id (EntryPasses p.built) (found_of m).entries.items id x (p.parsed (p.from.globals ∙ globals)).values found in
          of_entry x found got.0 got.1 ((bytes_eq-Decides got.0.0.now id).0 got.2) got.3
