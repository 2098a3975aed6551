-- Free. Codes of each form of term.
use Rattle.std.proofs.Common.{◌≡◌, ℕ, ◌<◌, true, false, List, [], ◌∷◌, map, Option, Some, None, refl, sym, ap, ◌∙◌}
use Rattle.std.specs.Prelude.{slice_get}
use Rattle.std.specs.List.{list_all, list_any}
use Rattle.asm_state.specs.declared.function.Function as state
use Rattle.asm_state.specs.declared.function.FunctionKind.{FunctionKind}
use Rattle.asm_state.specs.declared.function.FunctionKind.TheVariants as kind
use Rattle.asm_state.specs.declared.operation.Op.{Op}
use Rattle.asm_state.specs.declared.operation.Op.TheVariants.{Not, Negate}
use Rattle.asm_state.specs.declared.value.Value.{Value}
use Rattle.asm_state.specs.declared.value.Value.TheVariants.{Undef, Truth}
use Rattle.asm_state.specs.Location.{State}
use Rattle.asm_state.specs.Operation.{op}
use Rattle.asm_state.specs.Signature.{Shape}
use Rattle.asm_syntax.specs.SourceTree.{Spec}
use Rattle.asm_syntax.specs.Tree as tree
use Rattle.asm_syntax.specs.Tree.{Name, Term, Terms, Links}
use Rattle.asm_check.specs.Faults.{IsWellFormed}
use Rattle.asm_check.specs.Numbers.{named}
use Rattle.asm_check.specs.Ranks.{derived_rank}
use Rattle.asm_check.specs.Shapes.{shape_of}
use Rattle.asm_check.specs.declared.checked.NameNumber.{NameNumber as Number}
use Rattle.asm_check.specs.declared.checked.NameNumber.TheVariants as number
use Rattle.asm_meaning.proofs.MeantDeclarations.{program_declares, universe_names-some as universe_is}
use Rattle.asm_meaning.proofs.RanksInPrograms.{declared_ranks-derived as ranked, declared_ranks-derived_low as rank_low}
use Rattle.asm_meaning.specs.Value.{inner}
use Rattle.asm_meaning.proofs.TermCases.{unbound_names as of_unbound, valued_by_cases}
use Rattle.asm_meaning.specs.Declarations.{function_at, held_as, numbered, program_of, universe_number}
use Rattle.asm_meaning.specs.Program.{Program, Declared, Derived, declared, Environment, with_value, bind_values, Binding, ToValue, ToTerm, ToLocation, bound_to}
use Rattle.asm_meaning.specs.TermCases.{TermCases, chain_value}
use Rattle.asm_meaning.specs.Value.{Reading, applied, is_true, universe, value, values, nesting}
use Rattle.asm_meaning.specs.code.TermValues.{held, declared_value}
use Rattle.asm_code.specs.code.CodeTree as codes
use Rattle.asm_code.specs.code.CodeTree.{Code, Codes}
use Rattle.asm_code.specs.code.Readings.{always, reading, readings, chained, universe_at}
use Rattle.asm_code.specs.code.SoundCodes.{IsSound, AreSound, AreSoundLinks}
use Rattle.asm_resolve.specs.code.FunctionCodes.{IsRead}
use Rattle.asm_resolve.specs.code.ResolvedTerms.{bound_reading, Agrees, IsResolved, AreResolved, AreResolvedLinks}
use Rattle.asm_resolve.specs.code.Slots.{position_of}
use Rattle.asm_resolve.proofs.FramesAgree.{agrees_value, agrees_values}
use Rattle.std.proofs.lemmas.Option.{get_or_from_slice_get, slice_get_within}

module _ (program : Program) (rank : Name → ℕ) (A : State) (e : Environment) (cases : TermCases program rank A e) where
  -- what a name is bound to
  bound_value : (x : Name) (ts : Terms) (b : Binding) → bound_to e x ≡ Some b → bound_reading program b A ≡ value program A e (tree.Named x ts)
  bound_value x ts (ToValue v) is = sym (cases.of_value x ts v is)
  bound_value x ts (ToTerm t caller) is = sym (cases.of_term x ts t caller is)
  bound_value x ts (ToLocation l ws) is = sym (cases.of_location x ts l ws is)

  -- what one that isn't bound is declared as
  declared_is : (x : Name) (ts : Terms) → bound_to e x ≡ None → rank x < nesting → (it : Option Declared) → declared program x ≡ it
      → value program A e (tree.Named x ts) ≡ declared_value program A it (values program A e ts)
  declared_is x ts free low (Some (Derived xs t)) d = cases.of_derived x ts xs t free d low
  declared_is x ts free low it d = of_unbound program A e x ts free ∙ ap (λ it. applied program (inner program) it (values program A e ts) A) d

module _ (spec : Spec) (good : IsWellFormed spec) where
  abbrev program : Program
  program = program_of spec

  abbrev shape : Shape
  shape = shape_of spec

  cases_of : (A : State) (e : Environment) → TermCases program (derived_rank spec) A e
  cases_of A e = valued_by_cases program (derived_rank spec) A e (ranked spec good)

  pub local_resolved : (names : List Name) (x : Name) (ts : Terms) (i : ℕ) → position_of names x ≡ Some i → IsResolved program shape names (tree.Named x ts) (codes.Local i)
  unfolding reading
  local_resolved names x ts i at = record {
    sound = tt;
    means = λ e rs A agrees. let it = agrees.bound x i at in ap (λ r. r A) it.2 ∙ bound_value program (derived_rank spec) A e (cases_of A e) x ts it.0 it.1;
  }

  -- a name that isn't bound, by its number
  by_number : (names : List Name) (x : Name) (ts : Terms) (it : Option Number) → position_of names x ≡ None → it ≡ named spec x → (e : Environment) (rs : List Reading) (A : State) → Agrees program names e rs
      → declared_value program A (numbered spec it) (values program A e ts) ≡ value program A e (tree.Named x ts)
  by_number names x ts it free is e rs A agrees =
      ap (λ n. declared_value program A (numbered spec n) (values program A e ts)) is
      ∙ sym (declared_is program (derived_rank spec) A e (cases_of A e) x ts (agrees.free x free) (rank_low spec x good) (numbered spec (named spec x)) (program_declares spec x))

  -- the arguments have their values
  pub all_mean : (names : List Name) (ts : Terms) (cs : Codes) → AreResolved program shape names ts cs → (e : Environment) (rs : List Reading) (A : State) → Agrees program names e rs
      → readings shape cs rs A ≡ values program A e ts
  unfolding readings values
  all_mean names tree.no_terms codes.no_codes are e rs A agrees = refl
  all_mean names (tree.term_then t ts) (codes.code_then c cs) are e rs A agrees = λ i. are.0.means e rs A agrees i ∷ all_mean names ts cs are.1 e rs A agrees i
  all_mean names tree.no_terms (codes.code_then c cs) are e rs A agrees = absurd are
  all_mean names (tree.term_then t ts) codes.no_codes are e rs A agrees = absurd are

  pub all_sound : (names : List Name) (ts : Terms) (cs : Codes) → AreResolved program shape names ts cs → AreSound shape cs
  all_sound names tree.no_terms codes.no_codes are = tt
  all_sound names (tree.term_then t ts) (codes.code_then c cs) are = (are.0.sound, all_sound names ts cs are.1)
  all_sound names tree.no_terms (codes.code_then c cs) are = absurd are
  all_sound names (tree.term_then t ts) codes.no_codes are = absurd are

  -- a controlled or static function is worth what is held for it
  held_value : (A : State) (vs : List Value) (f : ℕ) (o : Option state.Function) → held (function_at shape f o) vs A ≡ declared_value program A (function_at shape f o) vs
  held_value A vs f None = refl
  held_value A vs f (Some it) = by it.kind
    where
      by : (k : FunctionKind) → held (Some (held_as shape f it k)) vs A ≡ declared_value program A (Some (held_as shape f it k)) vs
      by kind.Controlled = refl
      by kind.Static = refl

  pub function_resolved : (names : List Name) (x : Name) (ts : Terms) (f : ℕ) → position_of names x ≡ None → Some (number.Function f) ≡ named spec x → (cs : Codes) (c : Code) → AreResolved program shape names ts cs
      → IsRead shape f cs c → IsResolved program shape names (tree.Named x ts) c
  function_resolved names x ts f free is cs c are read = record {
    sound = read.sound (all_sound names ts cs are);
    means = λ e rs A agrees. read.reads rs A
        ∙ ap (λ vs. held (function_at shape f (slice_get shape.functions f)) vs A) (all_mean names ts cs are e rs A agrees)
        ∙ held_value A (values program A e ts) f (slice_get shape.functions f)
        ∙ by_number names x ts (Some (number.Function f)) free is e rs A agrees;
  }

  pub derived_resolved : (names : List Name) (x : Name) (ts : Terms) (d : ℕ) → position_of names x ≡ None → Some (number.Derived d) ≡ named spec x → (xs : List Name) (t : Term) → numbered spec (Some (number.Derived d)) ≡ Some (Derived xs t)
      → (b : Code) → IsResolved program shape xs t b → (cs : Codes) → AreResolved program shape names ts cs → IsResolved program shape names (tree.Named x ts) (codes.Derived b cs)
  unfolding reading
  derived_resolved names x ts d free is xs t stands b body cs are = record {
    sound = (body.sound, all_sound names ts cs are);
    means = λ e rs A agrees. body.means (bind_values xs (readings shape cs rs A)) (map always (readings shape cs rs A)) A (agrees_values program xs (readings shape cs rs A))
        ∙ ap (λ vs. value program A (bind_values xs vs) t) (all_mean names ts cs are e rs A agrees)
        ∙ sym (ap (λ it. declared_value program A it (values program A e ts)) stands)
        ∙ by_number names x ts (Some (number.Derived d)) free is e rs A agrees;
  }

  -- any other is worth the same in each state
  pub constant_resolved : (names : List Name) (x : Name) (ts : Terms) (it : Option Number) (v : Value) → position_of names x ≡ None → it ≡ named spec x
      → ((A : State) (vs : List Value) → v ≡ declared_value program A (numbered spec it) vs) → IsResolved program shape names (tree.Named x ts) (codes.Constant v)
  unfolding reading
  constant_resolved names x ts it v free is worth = record {
    sound = tt;
    means = λ e rs A agrees. worth A (values program A e ts) ∙ by_number names x ts it free is e rs A agrees;
  }

  pub literal_resolved : (names : List Name) (v : Value) → IsResolved program shape names (tree.Constant v) (codes.Constant v)
  unfolding reading
  literal_resolved names v = record { sound = tt; means = λ e rs A agrees. sym ((cases_of A e).of_constant v) }

  pub not_resolved : (names : List Name) (t : Term) (c : Code) → IsResolved program shape names t c → IsResolved program shape names (tree.Not t) (codes.With Not c Undef)
  unfolding reading
  not_resolved names t c it = record {
    sound = it.sound;
    means = λ e rs A agrees. ap (λ v. op Not v Undef) (it.means e rs A agrees) ∙ sym ((cases_of A e).of_not t);
  }

  pub negative_resolved : (names : List Name) (t : Term) (c : Code) → IsResolved program shape names t c → IsResolved program shape names (tree.Negative t) (codes.With Negate c Undef)
  unfolding reading
  negative_resolved names t c it = record {
    sound = it.sound;
    means = λ e rs A agrees. ap (λ v. op Negate v Undef) (it.means e rs A agrees) ∙ sym ((cases_of A e).of_negative t);
  }

  -- ---- chains

  links_sound : (names : List Name) (ts : Links) (cs : codes.Links) → AreResolvedLinks program shape names ts cs → AreSoundLinks shape cs
  links_sound names tree.no_links codes.no_links are = tt
  links_sound names (tree.link_then o t ts) (codes.link_then p c cs) are = (are.1.sound, links_sound names ts cs are.2)
  links_sound names tree.no_links (codes.link_then p c cs) are = absurd are
  links_sound names (tree.link_then o t ts) codes.no_links are = absurd are

  links_mean : (names : List Name) (ts : Links) (cs : codes.Links) → AreResolvedLinks program shape names ts cs → (e : Environment) (rs : List Reading) (A : State) → Agrees program names e rs → (v : Value)
      → chained shape cs v rs A ≡ chain_value program A e ts v
  unfolding chained
  links_mean names tree.no_links codes.no_links are e rs A agrees v = refl
  links_mean names (tree.link_then o t ts) (codes.link_then p c cs) are e rs A agrees v =
      (λ i. chained shape cs (op (sym are.0 i) v (are.1.means e rs A agrees i)) rs A) ∙ links_mean names ts cs are.2 e rs A agrees (op o v (value program A e t))
  links_mean names tree.no_links (codes.link_then p c cs) are e rs A agrees v = absurd are
  links_mean names (tree.link_then o t ts) codes.no_links are e rs A agrees v = absurd are

  pub chain_resolved : (names : List Name) (t : Term) (c : Code) → IsResolved program shape names t c → (ts : Links) (cs : codes.Links) → AreResolvedLinks program shape names ts cs
      → IsResolved program shape names (tree.Chain t ts) (codes.Chain c cs)
  unfolding reading
  chain_resolved names t c it ts cs are = record {
    sound = (it.sound, links_sound names ts cs are);
    means = λ e rs A agrees. ap (λ v. chained shape cs v rs A) (it.means e rs A agrees) ∙ links_mean names ts cs are e rs A agrees (value program A e t) ∙ sym ((cases_of A e).of_chain t ts);
  }

  -- of one link
  pub link_resolved : (names : List Name) (o : Op) (t u : Term) (b c d : Code) → IsResolved program shape names t b → IsResolved program shape names u c
      → (IsSound shape b → IsSound shape c → IsSound shape d) → ((rs : List Reading) (A : State) → reading shape d rs A ≡ op o (reading shape b rs A) (reading shape c rs A))
      → IsResolved program shape names (tree.Chain t (tree.link_then o u tree.no_links)) d
  link_resolved names o t u b c d left right sound means = record {
    sound = sound left.sound right.sound;
    means = λ e rs A agrees. means rs A ∙ (λ i. op o (left.means e rs A agrees i) (right.means e rs A agrees i)) ∙ sym ((cases_of A e).of_chain t (tree.link_then o u tree.no_links));
  }

  -- ---- binders

  pub exists_resolved : (names : List Name) (x u : Name) (t : Term) (n : ℕ) (c : Code) → universe_number (named spec u) ≡ Some n → (vs : List Value) → slice_get shape.universes n ≡ Some vs
      → IsResolved program shape (x ∷ names) t c → IsResolved program shape names (tree.Exists x u t) (codes.Exists n c)
  unfolding reading
  exists_resolved names x u t n c number vs at it = record {
    sound = (slice_get_within shape.universes n vs at, it.sound);
    means = λ e rs A agrees.
        (λ i. Truth (list_any (λ v. is_true (it.means (with_value x v e) (always v ∷ rs) A (agrees_value program names e rs agrees x v) i)) (universe_at shape n)))
        ∙ ap (λ us. Truth (list_any (λ v. is_true (value program A (with_value x v e) t)) us)) (get_or_from_slice_get shape.universes n vs [] at ∙ sym (universe_is spec u n vs number at))
        ∙ sym ((cases_of A e).of_exists x u t);
  }

  pub every_resolved : (names : List Name) (x u : Name) (t : Term) (n : ℕ) (c : Code) → universe_number (named spec u) ≡ Some n → (vs : List Value) → slice_get shape.universes n ≡ Some vs
      → IsResolved program shape (x ∷ names) t c → IsResolved program shape names (tree.Every x u t) (codes.Every n c)
  unfolding reading
  every_resolved names x u t n c number vs at it = record {
    sound = (slice_get_within shape.universes n vs at, it.sound);
    means = λ e rs A agrees.
        (λ i. Truth (list_all (λ v. is_true (it.means (with_value x v e) (always v ∷ rs) A (agrees_value program names e rs agrees x v) i)) (universe_at shape n)))
        ∙ ap (λ us. Truth (list_all (λ v. is_true (value program A (with_value x v e) t)) us)) (get_or_from_slice_get shape.universes n vs [] at ∙ sym (universe_is spec u n vs number at))
        ∙ sym ((cases_of A e).of_every x u t);
  }

  pub exists_of_none : (names : List Name) (x u : Name) (t : Term) → universe program u ≡ [] → IsResolved program shape names (tree.Exists x u t) (codes.Constant (Truth false))
  unfolding reading
  exists_of_none names x u t none = record {
    sound = tt;
    means = λ e rs A agrees. sym ((cases_of A e).of_exists x u t ∙ ap (λ us. Truth (list_any (λ v. is_true (value program A (with_value x v e) t)) us)) none);
  }

  pub every_of_none : (names : List Name) (x u : Name) (t : Term) → universe program u ≡ [] → IsResolved program shape names (tree.Every x u t) (codes.Constant (Truth true))
  unfolding reading
  every_of_none names x u t none = record {
    sound = tt;
    means = λ e rs A agrees. sym ((cases_of A e).of_every x u t ∙ ap (λ us. Truth (list_all (λ v. is_true (value program A (with_value x v e) t)) us)) none);
  }
