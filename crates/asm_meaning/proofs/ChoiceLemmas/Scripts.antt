-- Free. Choices under a path, and what they make a rule yield.
use Rattle.std.proofs.Common.{◌≡◌, ◌≢◌, ℕ, suc, ◌<◌, ◌≤◌, true, false, cond, ◌&&◌, List, [], ◌∷◌, ◌++◌, refl, sym, ap, ◌∙◌, arith, append_assoc, append-nil}
use Rattle.std.specs.Bool.{nat_eq}
use Rattle.std.proofs.lemmas.Bool.Decides.{nat_tests}
use Rattle.std.specs.Cmp.Lexicographic.{pointwise}
use Rattle.asm_meaning.specs.Yields.{Path, at, Result}

-- a choice and the path under some path at which it is made
pub record Choice : Type 0 where
  pub path : Path
  pub choice : ℕ

abbrev pub Choices : Type 0
Choices = List Choice

abbrev pub choice_at : Choices → Path → ℕ
choice_at [] q = 0
choice_at (c ∷ cs) q = cond (pointwise nat_eq c.path q) c.choice (choice_at cs q)

-- the same choices under one more descent
abbrev pub under : ℕ → Choices → Choices
under k [] = []
under k (c ∷ cs) = record { path = k ∷ c.path; choice = c.choice } ∷ under k cs

pub itself : (k : ℕ) → nat_eq k k ≡ true
itself k = grind (arith, nat_tests)

apart : (j k : ℕ) → j ≢ k → nat_eq k j ≡ false
apart j k h = grind (arith, nat_tests)

choice_at-under : (k : ℕ) (cs ds : Choices) (q : Path) → choice_at ds (k ∷ q) ≡ 0 → choice_at (under k cs ++ ds) (k ∷ q) ≡ choice_at cs q
choice_at-under k [] ds q none = none
choice_at-under k (c ∷ cs) ds q none =
    ap (λ b. cond (b && pointwise nat_eq c.path q) c.choice (choice_at (under k cs ++ ds) (k ∷ q))) (itself k)
    ∙ ap (cond (pointwise nat_eq c.path q) c.choice) (choice_at-under k cs ds q none)

choice_at-others : (k j : ℕ) (cs ds : Choices) (q : Path) → j ≢ k → choice_at (under k cs ++ ds) (j ∷ q) ≡ choice_at ds (j ∷ q)
choice_at-others k j [] ds q h = refl
choice_at-others k j (c ∷ cs) ds q h =
    ap (λ b. cond (b && pointwise nat_eq c.path q) c.choice (choice_at (under k cs ++ ds) (j ∷ q))) (apart j k h)
    ∙ choice_at-others k j cs ds q h

-- the choices of a step, as a function of the path, are these under p
abbrev pub Agrees : (Path → ℕ) → Path → Choices → Type 0
Agrees chosen p cs = (q : Path) → chosen (p ++ q) ≡ choice_at cs q

-- the same in the descents from number k on
abbrev pub AgreesFrom : ℕ → (Path → ℕ) → Path → Choices → Type 0
AgreesFrom k chosen p cs = (j : ℕ) (q : Path) → k ≤ j → chosen (p ++ (j ∷ q)) ≡ choice_at cs (j ∷ q)

-- with some choices under p the run yields r
pub record Scripts (run : (Path → ℕ) → Result) (p : Path) (r : Result) : Type 0 where
  pub choices : Choices
  pub gives : (chosen : Path → ℕ) → Agrees chosen p choices → run chosen ≡ r

-- with some choices in the descents of p from number k on the run yields r
pub record ScriptsFrom (k : ℕ) (run : (Path → ℕ) → Result) (p : Path) (r : Result) : Type 0 where
  pub choices : Choices
  pub begins : (j : ℕ) (q : Path) → j < k → choice_at choices (j ∷ q) ≡ 0
  pub gives : (chosen : Path → ℕ) → AgreesFrom k chosen p choices → run chosen ≡ r

-- what is chosen under a descent
descent : (chosen : Path → ℕ) (p : Path) (k : ℕ) (q : Path) → chosen (at p k ++ q) ≡ chosen (p ++ (k ∷ q))
descent chosen p k q = ap chosen (append_assoc p (k ∷ []) q)

-- no choice is made
pub unscripted : (k : ℕ) (run : (Path → ℕ) → Result) (p : Path) (r : Result) → ((chosen : Path → ℕ) → run chosen ≡ r) → ScriptsFrom k run p r
unscripted k run p r is = record { choices = []; begins = λ j q h. refl; gives = λ chosen h. is chosen }

-- a part at number k, and what comes after it
pub join : {k : ℕ} {run₁ run₂ : (Path → ℕ) → Result} {p : Path} {r₁ r₂ : Result} (run : (Path → ℕ) → Result) (r : Result)
    → Scripts run₁ (at p k) r₁ → ScriptsFrom (suc k) run₂ p r₂
    → ((chosen : Path → ℕ) → run₁ chosen ≡ r₁ → run₂ chosen ≡ r₂ → run chosen ≡ r)
    → ScriptsFrom k run p r
join {k} {p = p} run r s t both = record {
  choices = under k s.choices ++ t.choices;
  begins = λ j q below. choice_at-others k j s.choices t.choices q (λ e. absurd (omega arith)) ∙ t.begins j q (omega arith);
  gives = λ chosen agrees. both chosen
      (s.gives chosen (λ q. descent chosen p k q ∙ agrees k q (omega arith) ∙ choice_at-under k s.choices t.choices q (t.begins k q (omega arith))))
      (t.gives chosen (λ j q above. agrees j q (omega arith) ∙ choice_at-others k j s.choices t.choices q (λ e. absurd (omega arith))));
}

-- a part at number k alone
pub single : {k : ℕ} {run₁ : (Path → ℕ) → Result} {p : Path} {r₁ : Result} (run : (Path → ℕ) → Result) (r : Result)
    → Scripts run₁ (at p k) r₁ → ((chosen : Path → ℕ) → run₁ chosen ≡ r₁ → run chosen ≡ r) → ScriptsFrom k run p r
single {k} {p = p} run r s is = join run r s (unscripted (suc k) (λ _. r) p r (λ _. refl)) (λ chosen e _. is chosen e)

-- nothing at number k
pub skipped : {k : ℕ} {run₁ : (Path → ℕ) → Result} {p : Path} {r : Result} (run : (Path → ℕ) → Result)
    → ScriptsFrom (suc k) run₁ p r → ((chosen : Path → ℕ) → run chosen ≡ run₁ chosen) → ScriptsFrom k run p r
skipped run t is = record {
  choices = t.choices;
  begins = λ j q below. t.begins j q (omega arith);
  gives = λ chosen agrees. is chosen ∙ t.gives chosen (λ j q above. agrees j q (omega arith));
}

-- all descents of p, and no choice at p itself
pub whole : {k : ℕ} {run : (Path → ℕ) → Result} {p : Path} {r : Result} → ScriptsFrom k run p r → Scripts run p r
whole s = record { choices = s.choices; gives = λ chosen agrees. s.gives chosen (λ j q above. agrees (j ∷ q)) }

-- a choice at p itself, and then its body at number 0
pub choosing : {run₁ : (Path → ℕ) → Result} {p : Path} {r : Result} (run : (Path → ℕ) → Result) (n : ℕ)
    → Scripts run₁ (at p 0) r → ((chosen : Path → ℕ) → chosen p ≡ n → run₁ chosen ≡ r → run chosen ≡ r) → Scripts run p r
choosing {run₁} {p} {r} run n s is =
    let body = single run₁ r s (λ _ e. e) in
    record {
      choices = record { path = []; choice = n } ∷ body.choices;
      gives = λ chosen agrees. is chosen (ap chosen (sym (append-nil p)) ∙ agrees []) (body.gives chosen (λ j q above. agrees (j ∷ q)));
    }
