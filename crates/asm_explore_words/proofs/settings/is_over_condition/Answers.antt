use Rattle.std.proofs.Common.{◌≡◌, ◌<◌, ◌∙◌, ℕ, List, Bool, true, length, get_or, Option, Some, sym}
use Rattle.std.specs.Borrow.{Bor}
use Rattle.std.specs.Prelude.{◌||◌, false, option_map, refl}
use Rattle.std.proofs.lemmas.List.Folds.{list_any_at}
use Rattle.clap.specs.Walk.{Text, texts}
use Rattle.clap.proofs.WalkLemmas.{list_any-map}
use Rattle.asm_explore_words.specs.WordsSaid.{is_one_file, is_over_conditions}
use Rattle.asm_explore_words.proofs.settings.is_over_condition.Goals as goal
use Rattle.asm_explore_words.proofs.settings.is_over_condition.Goals.{then-is_named-via-then-is_named, then-is_named-via-else-is_named+then-is_named-2}

left : (a b : Bool) → a ≡ true → (a || b) ≡ true
left true b is = refl
left false b is = cc

right : (a b : Bool) → b ≡ true → (a || b) ≡ true
right true b is = refl
right false b is = is

module _ (files : List (Bor Text)) (k : ℕ) (one : Bor Text) (dot quiet : Option Text) where
  abbrev is_written : Text → Bool
  is_written file = is_one_file (Some file) dot || is_one_file (Some file) quiet

  written_at : k < length files → is_written (get_or files k one).now ≡ true → true ≡ is_over_conditions (texts files) dot quiet
  written_at low is = sym (sym (list_any-map is_written (λ (file : Bor Text). file.now) files) ∙ list_any_at (λ (file : Bor Text). is_written file.now) files k one low is)

  graph_at : k < length files → (same : Bool) → same ≡ is_one_file (Some (get_or files k one).now) dot → same ≡ true → true ≡ is_over_conditions (texts files) dot quiet
  graph_at low same is holds = written_at low (left _ _ (sym is ∙ holds))

  script_at : k < length files → (same : Bool) → same ≡ is_one_file (Some (get_or files k one).now) quiet → same ≡ true → true ≡ is_over_conditions (texts files) dot quiet
  script_at low same is holds = written_at low (right _ _ (sym is ∙ holds))

pub returns-then-is_named : goal.returns-then-is_named
returns-then-is_named c =
    let files = c.args.files.now in
    let dot = option_map (λ (name : Bor Text). name.now) c.args.dot in
    let quiet = option_map (λ (name : Bor Text). name.now) c.args.quiet in
    elim c.then-is_named.branch [
      | then-is_named-via-then-is_named w ↦ graph_at files c.loop-k.k _ dot quiet c.loop-k-test.true c.is_named.result c.is_named.ensures w.if-is_named.true
      | then-is_named-via-else-is_named+then-is_named-2 w ↦ script_at files c.loop-k.k _ dot quiet c.loop-k-test.true w.is_named-else-is_named.result w.is_named-else-is_named.ensures w.if-is_named-2.true
    ]
