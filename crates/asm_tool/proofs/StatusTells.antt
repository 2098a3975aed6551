-- Free. What a status says of the texts, from what the result of the run says.
use Rattle.std.proofs.Common.{◌≡◌, ◌+◌, ◌≤◌, ◌<◌, ◌⊎◌, ◌∙◌, ap, ℕ, List, [], Option, None, Some, codes, inl, inr, sym, subst, arith}
use Rattle.std.specs.Prelude.{◌≢◌, Err, IfSome, Ok, length, option_map, pos, take, unwrap_or}
use Rattle.std.proofs.lemmas.Bool.{cases_lt}
use Rattle.std.proofs.lemmas.List.{length-take-le, take_all}
use Rattle.std.specs.Str.Parse.{signed_digits_value}
use Rattle.std.proofs.lemmas.Int.{ints}
use Rattle.clap.specs.Simple.{matches_of}
use Rattle.clap.specs.Walk.{Row, Text, first_of}
use Rattle.asm_syntax.specs.SourceTree.{Spec}
use Rattle.asm_syntax.specs.Tokens.{max_length}
use Rattle.asm_syntax.specs.declared.error.LexError.TheVariants.{TooLong}
use Rattle.asm_reader.specs.Refusals.{IsRefusal}
use Rattle.asm_reader.specs.Specification.{IsSpecification}
use Rattle.asm_reader.specs.ScriptText.{IsScript, IsScriptRefusal}
use Rattle.asm_reader.specs.declared.error.ReadError.{ReadError}
use Rattle.asm_reader.specs.declared.error.ReadError.TheVariants.{Lex}
use Rattle.asm_reader.specs.declared.script_error.ScriptError.{ScriptError}
use Rattle.asm_reader.specs.declared.script_error.ScriptError.TheVariants as script_error
use Rattle.asm_meaning.specs.Run as run_of
use Rattle.asm_meaning.specs.Run.{AtLimit}
use Rattle.asm_run.specs.Headline.{IsAccepted, IsFaulty, book_run}
use Rattle.asm_run.specs.ResultsTell as run
use Rattle.asm_run.specs.ResultsTell.{EndsEarly, HasEnd, IsRefused, MakesAllSteps}
use Rattle.asm_run.specs.Ends.{kind_of}
use Rattle.asm_run.specs.declared.end.End.{End}
use Rattle.asm_run.specs.declared.end.End.TheVariants.{Limit, Clash, Outside, Exhausted}
use Rattle.asm_run.specs.declared.error.RunError.{RunError}
use Rattle.asm_run.specs.declared.error.RunError.TheVariants as error
use Rattle.asm_limits.specs.declared.run_limits.Limits.{Limits}
use Rattle.asm_files.specs.Input.{IsFront, bytes_of}
use Rattle.asm_tool.specs.Statuses.{OfWords, StatusTells, TellsOfWords, run_fault, status_at, status_of}
use Rattle.asm_tool.specs.CommandLine.{command}
use Rattle.asm_arguments.specs.Numbers.{IsNumber}
use Rattle.asm_tool.specs.WordsSaid.{AreSaid}
use Rattle.asm_tool.specs.declared.settings.Settings.{Settings}

module _ (text script_text : List ℕ) (limits : Limits) where
  pub at_zero : MakesAllSteps text script_text limits → StatusTells text script_text limits 0
  at_zero whole = record { whole = λ e. whole; early = λ e. absurd (omega arith); refused = λ e. absurd (omega arith) }

  pub at_one : EndsEarly text script_text limits → StatusTells text script_text limits 1
  at_one early = record { whole = λ e. absurd (omega arith); early = λ e. early; refused = λ e. absurd (omega arith) }

  pub at_two : IsRefused text script_text → StatusTells text script_text limits 2
  at_two refused = record { whole = λ e. absurd (omega arith); early = λ e. absurd (omega arith); refused = λ e. refused }

  pub beyond : (n : ℕ) → 3 ≤ n → StatusTells text script_text limits n
  beyond n high = record { whole = λ e. absurd (omega arith); early = λ e. absurd (omega arith); refused = λ e. absurd (omega arith) }

  pub at_end : (end : End) → run.ResultTells text script_text limits (Ok end) → StatusTells text script_text limits (status_at (kind_of end))
  at_end Limit told = at_zero told
  at_end (Clash i f vs v w) told = at_one told
  at_end (Outside i f) told = at_one told
  at_end (Exhausted i p) told = at_one told

  pub at_fault : (e : RunError) → run.ResultTells text script_text limits (Err e) → StatusTells text script_text limits (status_of (run_fault e))
  at_fault (error.Read e) told = at_two told
  at_fault (error.Check e) told = at_two told
  at_fault (error.Script e) told = at_two told
  at_fault error.Limits told = beyond 3 (omega arith)
  at_fault error.Memory told = beyond 3 (omega arith)
  at_fault error.Write told = beyond 3 (omega arith)

-- ---- of words

one_number : (rows : List Row) (name : Text) (n m : ℕ) → IsNumber rows name n → IsNumber rows name m → n ≡ m
one_number rows name n m a b =
    let texts : Some a.text ≡ Some b.text = sym a.is_given ∙ b.is_given in
    let same : a.text ≡ b.text = ap (λ o. unwrap_or o a.text) texts in
    let numbers : pos n ≡ pos m = sym a.is_read ∙ (ap (signed_digits_value 10) same ∙ b.is_read) in
    omega (arith, ints)

-- ---- of bytes that are read no further than they can matter

abbrev pub most_bytes : ℕ
most_bytes = max_length + 1

pub whole : (bytes : List ℕ) → length (take most_bytes bytes) ≤ max_length → take most_bytes bytes ≡ bytes
whole bytes short = by_length (cases_lt most_bytes (length bytes))
  where
    by_length : (most_bytes < length bytes) ⊎ (length bytes ≤ most_bytes) → take most_bytes bytes ≡ bytes
    by_length (inl long) = absurd (omega (arith, short, long, length-take-le most_bytes bytes (omega (arith, long))))
    by_length (inr low) = take_all most_bytes bytes low

pub whole_text : (bytes : List ℕ) (s : Spec) → IsSpecification (take most_bytes bytes) s → take most_bytes bytes ≡ bytes
whole_text bytes s spelled = whole bytes spelled.1.0

refused_front : (bytes : List ℕ) (e : ReadError) → IsRefusal (take most_bytes bytes) e → (script_text : List ℕ) → IsRefused bytes script_text
refused_front bytes e refusal script_text = by_length (cases_lt max_length (length bytes))
  where
    by_length : (max_length < length bytes) ⊎ (length bytes ≤ max_length) → IsRefused bytes script_text
    by_length (inl long) = run.unread (Lex TooLong) long
    by_length (inr low) = run.unread e (subst (λ (x : List ℕ). IsRefusal x e) (take_all most_bytes bytes (omega (arith, low))) refusal)

refused_script : (text bytes : List ℕ) (s : Spec) (e : ScriptError) → IsAccepted text s → IsScriptRefusal (take most_bytes bytes) e → IsRefused text bytes
refused_script text bytes s e accepted refusal = by_length (cases_lt max_length (length bytes))
  where
    by_length : (max_length < length bytes) ⊎ (length bytes ≤ max_length) → IsRefused text bytes
    by_length (inl long) = run.unscripted s script_error.TooLong accepted long
    by_length (inr low) = run.unscripted s e accepted (subst (λ (x : List ℕ). IsScriptRefusal x e) (take_all most_bytes bytes (omega (arith, low))) refusal)

refused_fronts : (text script_text : List ℕ) → IsRefused (take most_bytes text) (take most_bytes script_text) → IsRefused text script_text
refused_fronts text script_text (run.unread e refusal) = refused_front text e refusal script_text
refused_fronts text script_text (run.faulty e faulty) =
    run.faulty e (subst (λ (x : List ℕ). IsFaulty x e) (whole_text text faulty.0 faulty.1) faulty)
refused_fronts text script_text (run.unscripted s e accepted refusal) =
    refused_script text script_text s e (subst (λ (x : List ℕ). IsAccepted x s) (whole_text text s accepted.spelled) accepted) refusal

module _ (text script_text : List ℕ) (limits : Limits) where
  ended_fronts : (P : run_of.End → Type 0) → HasEnd (take most_bytes text) (take most_bytes script_text) limits P → HasEnd text script_text limits P
  ended_fronts P h = record {
    tree = h.tree;
    accepted = subst (λ (x : List ℕ). IsAccepted x h.tree) (whole_text text h.tree h.accepted.spelled) h.accepted;
    script = h.script;
    spelled = subst (λ (x : List ℕ). IsScript x h.script) (whole script_text h.spelled.fits) h.spelled;
    ended = h.ended;
  }

  of_fronts : (status : ℕ) → StatusTells (take most_bytes text) (take most_bytes script_text) limits status → StatusTells text script_text limits status
  of_fronts status told = record {
    whole = λ e. ended_fronts (λ a. a ≡ AtLimit) (told.whole e);
    early = λ e. ended_fronts (λ a. a ≢ AtLimit) (told.early e);
    refused = λ e. refused_fronts text script_text (told.refused e);
  }

-- ---- of other limits with as many steps and turns

module _ (text script_text : List ℕ) (limits other : Limits) (steps : limits.steps ≡ other.steps) (turns : limits.turns ≡ other.turns) where
  ended_alike : (P : run_of.End → Type 0) → HasEnd text script_text limits P → HasEnd text script_text other P
  ended_alike P h = record {
    tree = h.tree;
    accepted = h.accepted;
    script = h.script;
    spelled = h.spelled;
    ended =
        subst (λ (n : ℕ). P (book_run h.tree other.turns h.script n).end) steps
        (subst (λ (n : ℕ). P (book_run h.tree n h.script limits.steps).end) turns h.ended);
  }

  told_alike : (status : ℕ) → StatusTells text script_text limits status → StatusTells text script_text other status
  told_alike status told = record {
    whole = λ e. ended_alike (λ a. a ≡ AtLimit) (told.whole e);
    early = λ e. ended_alike (λ a. a ≢ AtLimit) (told.early e);
    refused = told.refused;
  }

-- ---- of words that say that many steps and turns

-- what holds of the fronts that are read holds of the texts, and of all limits with as many steps
-- and turns
module _ (P : List ℕ → List ℕ → Limits → Type 0)
    (fronts : (a b : List ℕ) (l : Limits) → P (take most_bytes a) (take most_bytes b) l → P a b l)
    (alike : (a b : List ℕ) (l other : Limits) → l.steps ≡ other.steps → l.turns ≡ other.turns → P a b l → P a b other) where
  of_known : (rows : List Row) (limits : Limits) → IsNumber rows (codes "steps") limits.steps → IsNumber rows (codes "turns") limits.turns
      → (known known_script : Option (List ℕ)) (text script_text : List ℕ)
      → IsFront known most_bytes text → IsFront known_script most_bytes script_text → P text script_text limits
      → IfSome known (λ bytes. IfSome known_script (λ script_bytes. (other : Limits) → IsNumber rows (codes "steps") other.steps → IsNumber rows (codes "turns") other.turns → P bytes script_bytes other))
  of_known rows limits are_steps are_turns None known_script text script_text read read_script holds = tt
  of_known rows limits are_steps are_turns (Some bytes) None text script_text read read_script holds = tt
  of_known rows limits are_steps are_turns (Some bytes) (Some script_bytes) text script_text read read_script holds = λ other steps turns.
      fronts bytes script_bytes other
      (subst (λ (x : List ℕ). P x (take most_bytes script_bytes) other) read
      (subst (λ (x : List ℕ). P text x other) read_script
      (alike text script_text limits other
      (one_number rows (codes "steps") limits.steps other.steps are_steps steps)
      (one_number rows (codes "turns") limits.turns other.turns are_turns turns) holds)))

  pub holds_of_words : (words : List Text) (contents : Text → Option (List ℕ)) (input : Option (List ℕ)) (s : Settings) (text script_text : List ℕ)
      → AreSaid words s → IsFront (bytes_of contents input (option_map (λ name. name.now) s.spec)) most_bytes text
      → IsFront (bytes_of contents (Some []) (option_map (λ name. name.now) s.script)) most_bytes script_text
      → P text script_text s.limits → OfWords words contents input P
  holds_of_words words contents input s text script_text said read read_script holds =
      let rows = matches_of command words in
      of_known rows s.limits said.limits.0 said.limits.1.0
      (bytes_of contents input (first_of (codes "spec") rows)) (bytes_of contents (Some []) (first_of (codes "script") rows)) text script_text
      (subst (λ (o : Option Text). IsFront (bytes_of contents input o) most_bytes text) said.spec read)
      (subst (λ (o : Option Text). IsFront (bytes_of contents (Some []) o) most_bytes script_text) said.script read_script) holds

pub of_words : (words : List Text) (contents : Text → Option (List ℕ)) (input : Option (List ℕ)) (s : Settings) (text script_text : List ℕ) (status : ℕ)
    → AreSaid words s → IsFront (bytes_of contents input (option_map (λ name. name.now) s.spec)) most_bytes text
    → IsFront (bytes_of contents (Some []) (option_map (λ name. name.now) s.script)) most_bytes script_text
    → StatusTells text script_text s.limits status → TellsOfWords words contents input status
of_words words contents input s text script_text status said read read_script told =
    holds_of_words (λ t b l. StatusTells t b l status) (λ t b l. of_fronts t b l status) (λ t b l other steps turns. told_alike t b l other steps turns status)
    words contents input s text script_text said read read_script told
