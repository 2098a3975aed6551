-- Free. What is written, and what a fault says, from what the result of the run says.
use Rattle.std.proofs.Common.{◌≡◌, ◌≤◌, ◌<◌, ◌⊎◌, ◌∙◌, ℕ, true, false, List, [], Option, None, Some, append-nil, codes, inl, inr, refl, sym, subst, arith}
use Rattle.std.specs.Prelude.{◌↔◌, ◌||◌, Bool, Err, IfErr, IfOk, IfSome, IsTrue, Ok, Result, length, option_map, take}
use Rattle.std.proofs.lemmas.Bool.{cases_lt}
use Rattle.std.proofs.lemmas.List.{take_all}
use Rattle.std.specs.Io.KnownBytes.{Appends, Keeps}
use Rattle.clap.specs.Simple.{matches_of}
use Rattle.clap.specs.Walk.{Row, Text, first_of}
use Rattle.clap.specs.declared.error.Error.{Error}
use Rattle.asm_syntax.specs.SourceTree.{Spec}
use Rattle.asm_syntax.specs.Tokens.{max_length}
use Rattle.asm_syntax.specs.declared.error.LexError.TheVariants.{TooLong, BadByte, OpenComment, BadNumber}
use Rattle.asm_reader.specs.Refusals.{IsRefusal}
use Rattle.asm_reader.specs.ScriptText.{IsScript, IsScriptRefusal}
use Rattle.asm_reader.specs.declared.error.ReadError.{ReadError}
use Rattle.asm_reader.specs.declared.error.ReadError.TheVariants.{Lex, Unexpected, UnexpectedEnd, TooDeep}
use Rattle.asm_reader.specs.declared.script_error.ScriptError.{ScriptError}
use Rattle.asm_reader.specs.declared.script_error.ScriptError.TheVariants as script_error
use Rattle.asm_meaning.specs.Run.{Run}
use Rattle.asm_run.specs.Headline as run
use Rattle.asm_run.specs.Headline.{AreWholeSteps, IsAccepted, IsBegun, IsCut, IsDone, IsFaulty, IsUnwritten, IsWritten, book_run}
use Rattle.asm_limits.specs.Limits.{are_in_range}
use Rattle.asm_run.specs.Written.{names_in, locations_in}
use Rattle.asm_run.specs.declared.end.End.{End}
use Rattle.asm_run.specs.declared.end.EndKind.{EndKind}
use Rattle.asm_run.specs.declared.end.EndKind.TheVariants.{Limit, Clash, Outside, Exhausted}
use Rattle.asm_run.specs.declared.error.RunError.{RunError}
use Rattle.asm_run.specs.declared.error.RunError.TheVariants as error
use Rattle.asm_limits.specs.declared.run_limits.Limits.{Limits}
use Rattle.asm_tool.proofs.StatusTells.{holds_of_words, most_bytes, whole, whole_text}
use Rattle.asm_tool.specs.CommandLine.{command}
use Rattle.asm_arguments.specs.Numbers.{IsNumber}
use Rattle.asm_tool.specs.WordsSaid.{AreSaid}
use Rattle.asm_tool.specs.ToolPromises.{Explains, ExplainsOfWords, HasRun, IsWholeTrace, LeavesUnwritten}
use Rattle.asm_files.specs.Input.{IsFront, bytes_of}
use Rattle.asm_files.specs.declared.fault.ReadFault.{ReadFault}
use Rattle.asm_files.specs.declared.fault.ReadFault.TheVariants as unread
use Rattle.asm_tool.specs.Statuses.{OfWords, read_fault, run_fault, settings_fault, status_at, status_of}
use Rattle.asm_tool.specs.declared.fault.Fault.{Fault}
use Rattle.asm_tool.specs.declared.fault.Fault.TheVariants.{Words, NotText, Read, Check, Script, Memory, File, Write}
use Rattle.asm_tool.specs.declared.settings.Settings.{Settings}
use Rattle.asm_tool.specs.declared.settings.WordFault.{WordFault}
use Rattle.asm_tool.specs.declared.settings.WordFault.TheVariants as word

-- ---- bytes

pub keeps_same : (o : Option (List ℕ)) → Keeps o o
keeps_same None = tt
keeps_same (Some xs) = refl

pub same_unwritten : (o : Option (List ℕ)) → IsUnwritten o o
same_unwritten None = tt
same_unwritten (Some xs) = sym (append-nil xs)

module _ (old mid new : Option (List ℕ)) (kept : Keeps mid new) where
  appends_kept : (bs : List ℕ) → Appends old mid bs → Appends old new bs
  appends_kept bs appended = by_known old mid new kept appended
    where
      by_known : (a b c : Option (List ℕ)) → Keeps b c → Appends a b bs → Appends a c bs
      by_known None b c k h = tt
      by_known (Some xs) None c k h = absurd h
      by_known (Some xs) (Some ys) None k h = absurd k
      by_known (Some xs) (Some ys) (Some zs) k h = k ∙ h

  whole_kept : (s : Spec) (r : Run) → IsWritten (names_in s) (locations_in s) 1 old mid r → IsWritten (names_in s) (locations_in s) 1 old new r
  whole_kept s r w = record { trace = w.trace; is_trace = w.is_trace; appended = appends_kept w.trace w.appended }

  cut_kept : (s : Spec) (r : Run) → IsCut (names_in s) (locations_in s) 1 old mid r → IsCut (names_in s) (locations_in s) 1 old new r
  cut_kept s r w = record { front = w.front; appended = appends_kept w.front w.appended; is_front = w.is_front }

  steps_kept : (s : Spec) (r : Run) → AreWholeSteps (names_in s) (locations_in s) 1 old mid r → AreWholeSteps (names_in s) (locations_in s) 1 old new r
  steps_kept s r w = record { count = w.count; appended = appends_kept _ w.appended }

  module _ (text script_text : List ℕ) (limits : Limits) where
    begun : (P Q : Spec → Run → Type 0) → ((s : Spec) (r : Run) → P s r → Q s r) → IsBegun text script_text limits old mid P → HasRun text script_text limits Q
    begun P Q gives h = record {
      tree = h.tree;
      accepted = h.accepted;
      script = h.script;
      spelled = h.spelled;
      holds = gives h.tree (book_run h.tree limits.turns h.script limits.steps) h.holds;
    }

    -- what a run wrote stays written when what is kept back is handed on
    pub done_kept : (e : End) → IsDone text script_text limits old mid e → IsWholeTrace old new text script_text limits
    done_kept e done = record {
      tree = done.tree;
      accepted = done.accepted;
      script = done.script;
      spelled = done.spelled;
      holds = whole_kept done.tree (book_run done.tree limits.turns done.script limits.steps) done.written;
    }

    pub run_explains : are_in_range limits ≡ true → (e : RunError) → run.Explains text script_text limits old mid e → Explains (run_fault e) old new text script_text limits
    run_explains ranges (error.Read e) h = h.0
    run_explains ranges (error.Check e) h = h.0
    run_explains ranges (error.Script e) h = (h.0, h.1, h.2)
    run_explains ranges error.Limits h = let no : are_in_range limits ≡ false = h.4 in absurd cc
    run_explains ranges error.Memory (inl h) = inl (appends_kept [] h)
    run_explains ranges error.Memory (inr h) = inr (begun _ _ steps_kept h)
    run_explains ranges error.Write h = inl (begun _ _ cut_kept h)

    pub run_unwritten : (e : RunError) → run.Explains text script_text limits old mid e → LeavesUnwritten (run_fault e) old new
    run_unwritten (error.Read e) h = appends_kept [] h.1
    run_unwritten (error.Check e) h = appends_kept [] h.1
    run_unwritten (error.Script e) h = appends_kept [] h.3
    run_unwritten error.Limits h = tt
    run_unwritten error.Memory h = tt
    run_unwritten error.Write h = tt

-- ---- whether the output failed

-- A sink that failed in a run stays failed when what it keeps back is handed on.
pub run_failed : (text script_text : List ℕ) (limits : Limits) (old mid : Option (List ℕ)) → are_in_range limits ≡ true
    → (e : RunError) → run.Explains text script_text limits old mid e → (r : Result End RunError) → r ≡ Err e
    → (a b c : Bool) → (IsTrue a ↔ (r ≡ Err error.Write)) → b ≡ (a || c) → run_fault e ≡ Write → IsTrue b
run_failed text script_text limits old mid ranges (error.Read e) h r answer a b c failed new is = cc
run_failed text script_text limits old mid ranges (error.Check e) h r answer a b c failed new is = cc
run_failed text script_text limits old mid ranges (error.Script e) h r answer a b c failed new is = cc
run_failed text script_text limits old mid ranges error.Limits h r answer a b c failed new is =
    let no : are_in_range limits ≡ false = h.4 in absurd cc
run_failed text script_text limits old mid ranges error.Memory h r answer a b c failed new is = cc
run_failed text script_text limits old mid ranges error.Write h r answer a b c failed new is =
    let a_failed : a ≡ true = failed.1 answer in rw (new, a_failed) refl

-- A sink that can't hand on what it keeps back has failed.
pub finish_failed : (a b : Bool) → b ≡ (a || true) → IsTrue b
finish_failed true b new = new
finish_failed false b new = new

-- ---- of bytes that are read no further than they can matter

module _ (text script_text : List ℕ) (limits : Limits) (P : Spec → Run → Type 0) where
  run_fronts : HasRun (take most_bytes text) (take most_bytes script_text) limits P → HasRun text script_text limits P
  run_fronts h = record {
    tree = h.tree;
    accepted = subst (λ (x : List ℕ). IsAccepted x h.tree) (whole_text text h.tree h.accepted.spelled) h.accepted;
    script = h.script;
    spelled = subst (λ (x : List ℕ). IsScript x h.script) (whole script_text h.spelled.fits) h.spelled;
    holds = h.holds;
  }

  run_alike : (other : Limits) → limits.steps ≡ other.steps → limits.turns ≡ other.turns → HasRun text script_text limits P → HasRun text script_text other P
  run_alike other steps turns h = record {
    tree = h.tree;
    accepted = h.accepted;
    script = h.script;
    spelled = h.spelled;
    holds =
        subst (λ (n : ℕ). P h.tree (book_run h.tree other.turns h.script n)) steps
        (subst (λ (n : ℕ). P h.tree (book_run h.tree n h.script limits.steps)) turns h.holds);
  }

read_front : (bytes : List ℕ) (e : ReadError) → IsRefusal (take most_bytes bytes) e → IsRefusal bytes e
read_front bytes (Lex TooLong) h = by_length (cases_lt max_length (length bytes))
  where
    by_length : (max_length < length bytes) ⊎ (length bytes ≤ max_length) → max_length < length bytes
    by_length (inl long) = long
    by_length (inr low) = subst (λ (x : List ℕ). max_length < length x) (take_all most_bytes bytes (omega (arith, low))) h
read_front bytes (Lex (BadByte at)) h = subst (λ (x : List ℕ). IsRefusal x (Lex (BadByte at))) (whole bytes h.0) h
read_front bytes (Lex (OpenComment at)) h = subst (λ (x : List ℕ). IsRefusal x (Lex (OpenComment at))) (whole bytes h.0) h
read_front bytes (Lex (BadNumber at)) h = subst (λ (x : List ℕ). IsRefusal x (Lex (BadNumber at))) (whole bytes h.0) h
read_front bytes (Unexpected at) h = subst (λ (x : List ℕ). IsRefusal x (Unexpected at)) (whole bytes h.1.0) h
read_front bytes UnexpectedEnd h = subst (λ (x : List ℕ). IsRefusal x UnexpectedEnd) (whole bytes h.1.0) h
read_front bytes (TooDeep at) h = subst (λ (x : List ℕ). IsRefusal x (TooDeep at)) (whole bytes h.1.0) h

script_front : (bytes : List ℕ) (e : ScriptError) → IsScriptRefusal (take most_bytes bytes) e → IsScriptRefusal bytes e
script_front bytes script_error.TooLong h = by_length (cases_lt max_length (length bytes))
  where
    by_length : (max_length < length bytes) ⊎ (length bytes ≤ max_length) → max_length < length bytes
    by_length (inl long) = long
    by_length (inr low) = subst (λ (x : List ℕ). max_length < length x) (take_all most_bytes bytes (omega (arith, low))) h
script_front bytes (script_error.BadLine n) h = subst (λ (x : List ℕ). IsScriptRefusal x (script_error.BadLine n)) (whole bytes h.0) h
script_front bytes (script_error.Repeated n) h = subst (λ (x : List ℕ). IsScriptRefusal x (script_error.Repeated n)) (whole bytes h.0) h

module _ (old new : Option (List ℕ)) where
  explains_fronts : (fault : Fault) (a b : List ℕ) (l : Limits) → Explains fault old new (take most_bytes a) (take most_bytes b) l → Explains fault old new a b l
  explains_fronts (Read e) a b l h = read_front a e h
  explains_fronts (Check e) a b l h = subst (λ (x : List ℕ). IsFaulty x e) (whole_text a h.0 h.1) h
  explains_fronts (Script e) a b l h =
      (h.0, subst (λ (x : List ℕ). IsAccepted x h.0) (whole_text a h.0 h.1.spelled) h.1, script_front b e h.2)
  explains_fronts Memory a b l (inl h) = inl h
  explains_fronts Memory a b l (inr h) = inr (run_fronts a b l _ h)
  explains_fronts Write a b l (inl h) = inl (run_fronts a b l _ h)
  explains_fronts Write a b l (inr h) = inr (run_fronts a b l _ h)
  explains_fronts (Words e) a b l h = tt
  explains_fronts NotText a b l h = tt
  explains_fronts File a b l h = tt

  explains_alike : (fault : Fault) (a b : List ℕ) (l other : Limits) → l.steps ≡ other.steps → l.turns ≡ other.turns
      → Explains fault old new a b l → Explains fault old new a b other
  explains_alike (Read e) a b l other steps turns h = h
  explains_alike (Check e) a b l other steps turns h = h
  explains_alike (Script e) a b l other steps turns h = h
  explains_alike Memory a b l other steps turns (inl h) = inl h
  explains_alike Memory a b l other steps turns (inr h) = inr (run_alike a b l _ other steps turns h)
  explains_alike Write a b l other steps turns (inl h) = inl (run_alike a b l _ other steps turns h)
  explains_alike Write a b l other steps turns (inr h) = inr (run_alike a b l _ other steps turns h)
  explains_alike (Words e) a b l other steps turns h = tt
  explains_alike NotText a b l other steps turns h = tt
  explains_alike File a b l other steps turns h = tt

-- ---- of words

module _ (words : List Text) (contents : Text → Option (List ℕ)) (input old new : Option (List ℕ)) where
  module _ (s : Settings) (text script_text slice script_slice : List ℕ) (same : slice ≡ text) (same_script : script_slice ≡ script_text)
      (said : AreSaid words s) (read : IsFront (bytes_of contents input (option_map (λ name. name.now) s.spec)) most_bytes text)
      (read_script : IsFront (bytes_of contents (Some []) (option_map (λ name. name.now) s.script)) most_bytes script_text) where
    of_slices : (P : List ℕ → List ℕ → Limits → Type 0) → P slice script_slice s.limits → P text script_text s.limits
    of_slices P h = subst (λ (x : List ℕ). P text x s.limits) same_script (subst (λ (x : List ℕ). P x script_slice s.limits) same h)

    pub whole_of_words : (r : Result EndKind Fault) → IfOk r (λ _. IsWholeTrace old new slice script_slice s.limits) → IfOk r (λ _. OfWords words contents input (IsWholeTrace old new))
    whole_of_words (Ok e) h =
        holds_of_words (IsWholeTrace old new) (λ a b l. run_fronts a b l _) (λ a b l other steps turns. run_alike a b l _ other steps turns)
        words contents input s text script_text said read read_script (of_slices (IsWholeTrace old new) h)
    whole_of_words (Err e) h = tt

    pub explains_of_words : (out_failed : Bool) (r : Result EndKind Fault) → IfErr r (λ fault. Explains fault old new slice script_slice s.limits) → IfErr r (λ fault. LeavesUnwritten fault old new)
        → IfErr r (λ fault. fault ≡ Write → IsTrue out_failed) → IfErr r (ExplainsOfWords words contents input old new out_failed)
    explains_of_words out_failed (Ok e) h unwritten failed = tt
    explains_of_words out_failed (Err fault) h unwritten failed = record {
      texts = holds_of_words (Explains fault old new) (explains_fronts old new fault) (explains_alike old new fault) words contents input s text script_text said read read_script (of_slices (Explains fault old new) h);
      unwritten = unwritten;
      failed = failed;
    }

-- ---- of faults that come before the run

module _ (words : List Text) (contents : Text → Option (List ℕ)) (input old : Option (List ℕ)) where
  of_all : (P : List ℕ → List ℕ → Limits → Type 0) → ((a b : List ℕ) (l : Limits) → P a b l) → OfWords words contents input P
  of_all P all = of_known (bytes_of contents input (first_of (codes "spec") rows)) (bytes_of contents (Some []) (first_of (codes "script") rows))
    where
      rows : List Row
      rows = matches_of command words

      of_known : (known known_script : Option (List ℕ))
          → IfSome known (λ bytes. IfSome known_script (λ script_bytes. (l : Limits) → IsNumber rows (codes "steps") l.steps → IsNumber rows (codes "turns") l.turns → P bytes script_bytes l))
      of_known None known_script = tt
      of_known (Some bytes) None = tt
      of_known (Some bytes) (Some script_bytes) = λ l steps turns. all bytes script_bytes l

  module _ (out_failed : Bool) where
    early_memory : ExplainsOfWords words contents input old old out_failed Memory
    early_memory = record { texts = of_all (Explains Memory old old) (λ a b l. inl (same_unwritten old)); unwritten = tt; failed = λ e. cc }

    early_file : ExplainsOfWords words contents input old old out_failed File
    early_file = record { texts = of_all (Explains File old old) (λ a b l. tt); unwritten = same_unwritten old; failed = λ e. cc }

    early_words : (e : Error) → ExplainsOfWords words contents input old old out_failed (Words e)
    early_words e = record { texts = of_all (Explains (Words e) old old) (λ a b l. tt); unwritten = same_unwritten old; failed = λ e. cc }

    pub at_read : (r : ReadFault) → ExplainsOfWords words contents input old old out_failed (read_fault r)
    at_read unread.Memory = early_memory
    at_read unread.File = early_file

    pub at_words : (w : WordFault) → ExplainsOfWords words contents input old old out_failed (settings_fault w)
    at_words word.Memory = early_memory
    at_words (word.Words e) = early_words e

-- ---- statuses

pub ends_low : (e : EndKind) → status_at e ≤ 1
ends_low Limit = omega arith
ends_low Clash = omega arith
ends_low Outside = omega arith
ends_low Exhausted = omega arith

pub faults_high : (fault : Fault) → 2 ≤ status_of fault
faults_high (Read e) = omega arith
faults_high (Check e) = omega arith
faults_high (Script e) = omega arith
faults_high Memory = omega arith
faults_high File = omega arith
faults_high Write = omega arith
faults_high (Words e) = omega arith
faults_high NotText = omega arith
