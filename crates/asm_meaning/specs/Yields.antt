-- Definition. What a rule yields, for any choices.
--     Result                       an update set, or the path where the rule is exhausted
--     Yields program turns A e p R r      in the state A, under e and at the path p, the rule R may
--                                         yield r
use Rattle.std.specs.Prelude.{◌≡◌, ◌≢◌, ℕ, zero, suc, true, false, cond, List, [], ◌∷◌, ◌++◌, Option, Some, slice_get, ◌⊎◌}
use Rattle.std.specs.Cmp.Lexicographic.{slice_cmp}
use Rattle.std.specs.Ordering.{nat_cmp, is_lt}
use Rattle.asm_state.specs.declared.value.Value.{Value}
use Rattle.asm_state.specs.Location.{State}
use Rattle.asm_state.specs.Updates.{UpdateSet, IsConsistent, none, together, merge, fire}
use Rattle.asm_syntax.specs.Tree.{Name, Term, Terms, Rule, Skip, Assign, Call, Par, Seq, If, Let, Forall, Choose, Iterate, Rules, no_rules, rule_then}
use Rattle.asm_meaning.specs.Program.{Program, NamedRule, declared, Environment, with_value, bind_terms}
use Rattle.asm_meaning.specs.Targets.{location, update, answering}
use Rattle.asm_meaning.specs.Value.{value, holds, candidates, universe}

-- the numbers of the descents from the main rule's body
abbrev pub Path : Type 0
Path = List ℕ

abbrev pub at : Path → ℕ → Path
at p k = p ++ k ∷ []

abbrev pub first_path : Path → Path → Path
first_path p q = cond (is_lt (slice_cmp nat_cmp q p)) q p

pub data Result : Type 0 where
  Gives : UpdateSet → Result
  Exhausted : Path → Result

-- two parts beside each other: the least exhausted path, if there is one, and else the union
abbrev pub beside : Result → Result → Result
beside (Gives U) (Gives V) = Gives (together U V)
beside (Gives U) (Exhausted q) = Exhausted q
beside (Exhausted p) (Gives V) = Exhausted p
beside (Exhausted p) (Exhausted q) = Exhausted (first_path p q)

abbrev pub all_beside : List Result → Result
all_beside [] = Gives none
all_beside (r ∷ rs) = beside r (all_beside rs)

-- what comes after the set U of an earlier part
abbrev pub after : UpdateSet → Result → Result
after U (Gives V) = Gives (merge U V)
after U (Exhausted q) = Exhausted q

module _ (program : Program) (turns : ℕ) where
  mutual
    pub data Yields : State → Environment → Path → Rule → Result → Type 0 where
      skip : {A : State} {e : Environment} {p : Path} → Yields A e p Skip (Gives none)
      assign : {A : State} {e : Environment} {p : Path} {f : Name} {ts : Terms} {t : Term}
          → Yields A e p (Assign f ts t) (Gives (update (location program A e f ts) (value program A e t)))
      call : {A : State} {e : Environment} {p : Path} {to : Option (Name × Terms)} {f : Name} {ts : Terms} {xs : List Name} {P : Rule} {r : Result}
          → declared program f ≡ Some (NamedRule xs P) → Yields A (answering program A e to (bind_terms xs ts e)) (at p 0) P r → Yields A e p (Call to f ts) r
      par : {A : State} {e : Environment} {p : Path} {Ps : Rules} {rs : List Result}
          → YieldsParts A e p 0 Ps rs → Yields A e p (Par Ps) (all_beside rs)
      seq : {A : State} {e : Environment} {p : Path} {Ps : Rules} {r : Result}
          → YieldsInOrder A e p 0 Ps r → Yields A e p (Seq Ps) r
      if_true : {A : State} {e : Environment} {p : Path} {c : Term} {P Q : Rule} {r : Result}
          → holds program A e (Some c) ≡ true → Yields A e (at p 0) P r → Yields A e p (If c P Q) r
      if_false : {A : State} {e : Environment} {p : Path} {c : Term} {P Q : Rule} {r : Result}
          → holds program A e (Some c) ≡ false → Yields A e (at p 1) Q r → Yields A e p (If c P Q) r
      bind : {A : State} {e : Environment} {p : Path} {x : Name} {t : Term} {P : Rule} {r : Result}
          → Yields A (with_value x (value program A e t) e) (at p 0) P r → Yields A e p (Let x t P) r
      forall : {A : State} {e : Environment} {p : Path} {x u : Name} {c : Option Term} {P : Rule} {rs : List Result}
          → YieldsEach A e p x c P 0 (universe program u) rs → Yields A e p (Forall x u c P) (all_beside rs)
      choose : {A : State} {e : Environment} {p : Path} {x u : Name} {c : Option Term} {P Q : Rule} {r : Result} {v : Value}
          → (k : ℕ) → slice_get (candidates program A e x u c) k ≡ Some v
          → Yields A (with_value x v e) (at p 0) P r → Yields A e p (Choose x u c P Q) r
      if_none : {A : State} {e : Environment} {p : Path} {x u : Name} {c : Option Term} {P Q : Rule} {r : Result}
          → candidates program A e x u c ≡ [] → Yields A e (at p 1) Q r → Yields A e p (Choose x u c P Q) r
      iterate : {A : State} {e : Environment} {p : Path} {P : Rule} {r : Result}
          → YieldsTurns A e p 0 turns P r → Yields A e p (Iterate P) r

    -- the parts from number k on, each with its result
    pub data YieldsParts : State → Environment → Path → ℕ → Rules → List Result → Type 0 where
      no_part : {A : State} {e : Environment} {p : Path} {k : ℕ} → YieldsParts A e p k no_rules []
      part_then : {A : State} {e : Environment} {p : Path} {k : ℕ} {P : Rule} {Ps : Rules} {r : Result} {rs : List Result}
          → Yields A e (at p k) P r → YieldsParts A e p (suc k) Ps rs → YieldsParts A e p k (rule_then P Ps) (r ∷ rs)

    -- the parts from number k on, each after the ones before it
    pub data YieldsInOrder : State → Environment → Path → ℕ → Rules → Result → Type 0 where
      end : {A : State} {e : Environment} {p : Path} {k : ℕ} → YieldsInOrder A e p k no_rules (Gives none)
      faulty : {A : State} {e : Environment} {p : Path} {k : ℕ} {P : Rule} {Ps : Rules} {U : UpdateSet}
          → Yields A e (at p k) P (Gives U) → ¬ (IsConsistent U) → YieldsInOrder A e p k (rule_then P Ps) (Gives U)
      exhausted : {A : State} {e : Environment} {p q : Path} {k : ℕ} {P : Rule} {Ps : Rules}
          → Yields A e (at p k) P (Exhausted q) → YieldsInOrder A e p k (rule_then P Ps) (Exhausted q)
      go_on : {A : State} {e : Environment} {p : Path} {k : ℕ} {P : Rule} {Ps : Rules} {U : UpdateSet} {r : Result}
          → Yields A e (at p k) P (Gives U) → IsConsistent U → YieldsInOrder (fire A U) e p (suc k) Ps r
          → YieldsInOrder A e p k (rule_then P Ps) (after U r)

    -- the elements from position k on, with the results of those for which the condition holds
    pub data YieldsEach : State → Environment → Path → Name → Option Term → Rule → ℕ → List Value → List Result → Type 0 where
      no_element : {A : State} {e : Environment} {p : Path} {x : Name} {c : Option Term} {P : Rule} {k : ℕ} → YieldsEach A e p x c P k [] []
      left_out : {A : State} {e : Environment} {p : Path} {x : Name} {c : Option Term} {P : Rule} {k : ℕ} {v : Value} {vs : List Value} {rs : List Result}
          → holds program A (with_value x v e) c ≡ false → YieldsEach A e p x c P (suc k) vs rs → YieldsEach A e p x c P k (v ∷ vs) rs
      element_then : {A : State} {e : Environment} {p : Path} {x : Name} {c : Option Term} {P : Rule} {k : ℕ} {v : Value} {vs : List Value} {r : Result} {rs : List Result}
          → holds program A (with_value x v e) c ≡ true → Yields A (with_value x v e) (at p k) P r
          → YieldsEach A e p x c P (suc k) vs rs → YieldsEach A e p x c P k (v ∷ vs) (r ∷ rs)

    -- the turns from number t on, with `left` of them left
    pub data YieldsTurns : State → Environment → Path → ℕ → ℕ → Rule → Result → Type 0 where
      turn_limit : {A : State} {e : Environment} {p : Path} {t : ℕ} {P : Rule} → YieldsTurns A e p t zero P (Exhausted p)
      last_turn : {A : State} {e : Environment} {p : Path} {t left : ℕ} {P : Rule} {U : UpdateSet}
          → Yields A e (at p t) P (Gives U) → (U ≡ none) ⊎ (¬ (IsConsistent U)) → YieldsTurns A e p t (suc left) P (Gives U)
      exhausted_turn : {A : State} {e : Environment} {p q : Path} {t left : ℕ} {P : Rule}
          → Yields A e (at p t) P (Exhausted q) → YieldsTurns A e p t (suc left) P (Exhausted q)
      turn_then : {A : State} {e : Environment} {p : Path} {t left : ℕ} {P : Rule} {U : UpdateSet} {r : Result}
          → Yields A e (at p t) P (Gives U) → U ≢ none → IsConsistent U → YieldsTurns (fire A U) e p (suc t) left P r
          → YieldsTurns A e p t (suc left) P (after U r)
