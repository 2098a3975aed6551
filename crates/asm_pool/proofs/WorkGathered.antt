-- Free. What the workers have done, put together.
use Rattle.std.proofs.Common.{◌≡◌, ℕ, ◌<◌, List, [], ◌∷◌, ◌++◌, length, map, replicate, Option, None, All, sym, refl, ap, ◌∙◌, subst}
use Rattle.std.proofs.lemmas.List.{append_assoc, take_at, drop_at}
use Rattle.std.proofs.lemmas.List.Elements.{All-take, All-drop}
use Rattle.asm_pool.specs.declared.worker.TaskRun.{TaskRun}
use Rattle.asm_pool.specs.declared.worker.Worker.{Worker}
use Rattle.asm_pool.specs.code.WorkDone.{placed, done_by, tasks_of, HasEachOnce}
use Rattle.asm_pool.proofs.Slots.{HasRoom, placed-append, length-placed, all_room}

pub all_left : {X : Type 0} (P : X → Type 0) (xs ys : List X) → All P (xs ++ ys) → All P xs
all_left P xs ys all = subst (All P) (take_at xs ys (length xs) refl) (All-take P (length xs) (xs ++ ys) all)

pub all_right : {X : Type 0} (P : X → Type 0) (xs ys : List X) → All P (xs ++ ys) → All P ys
all_right P xs ys all = subst (All P) (drop_at xs ys (length xs) refl) (All-drop P (length xs) (xs ++ ys) all)

-- one element more at the end of what is made, and one less at the front of what is left
pub push-rest : {X Z : Type 0} (f : X → Z) (made more : List Z) (z : Z) (rest next : List X) (x : X) → rest ≡ x ∷ next → more ≡ made ++ z ∷ [] → z ≡ f x → more ++ map f next ≡ made ++ map f rest
push-rest f made more z rest next x is pushed same =
    ap (λ l. l ++ map f next) (pushed ∙ ap (λ y. made ++ y ∷ []) same) ∙ (append_assoc made (f x ∷ []) (map f next) ∙ sym (ap (λ r. made ++ map f r) is))

module _ {Hand Out : Type 0} where
  pub worker-room : (places : List (Option Out)) (rest next : List (Worker Hand Out)) (w : Worker Hand Out) → rest ≡ w ∷ next → HasRoom places (done_by rest) → HasRoom places w.done.items
  worker-room places rest next w is room = all_left (λ (d : TaskRun Out). d.task < length places) w.done.items (done_by next) (subst (λ (r : List (Worker Hand Out)). HasRoom places (done_by r)) is room)

  pub workers-room : (places after : List (Option Out)) (rest next : List (Worker Hand Out)) (w : Worker Hand Out) → rest ≡ w ∷ next → after ≡ placed places w.done.items → HasRoom places (done_by rest) → HasRoom after (done_by next)
  workers-room places after rest next w is put room =
      let len : length places ≡ length after = sym (ap length put ∙ length-placed places w.done.items) in
      subst (λ (n : ℕ). All (λ (d : TaskRun Out). d.task < n) (done_by next)) len
      (all_right (λ (d : TaskRun Out). d.task < length places) w.done.items (done_by next) (subst (λ (r : List (Worker Hand Out)). HasRoom places (done_by r)) is room))

  pub workers-placed : (places after : List (Option Out)) (rest next : List (Worker Hand Out)) (w : Worker Hand Out) → rest ≡ w ∷ next → after ≡ placed places w.done.items → placed after (done_by next) ≡ placed places (done_by rest)
  workers-placed places after rest next w is put = ap (λ ps. placed ps (done_by next)) put ∙ (sym (placed-append places w.done.items (done_by next)) ∙ sym (ap (λ (r : List (Worker Hand Out)). placed places (done_by r)) is))

  pub room-init : (count : ℕ) (places : List (Option Out)) (workers rest : List (Worker Hand Out)) → places ≡ replicate count None → rest ≡ workers → HasEachOnce count (tasks_of (done_by workers)) → HasRoom places (done_by rest)
  room-init count places workers rest blank same once =
      subst (λ (ps : List (Option Out)). HasRoom ps (done_by rest)) (sym blank) (subst (λ (ws : List (Worker Hand Out)). HasRoom (replicate count None) (done_by ws)) (sym same) (all_room count (done_by workers) once))

  pub places-all : (count : ℕ) (places start : List (Option Out)) (workers rest : List (Worker Hand Out)) → start ≡ replicate count None → placed places (done_by rest) ≡ placed start (done_by workers) → rest ≡ []
      → places ≡ placed (replicate count None) (done_by workers)
  places-all count places start workers rest blank same none = sym (ap (λ (ws : List (Worker Hand Out)). placed places (done_by ws)) none) ∙ (same ∙ ap (λ (ps : List (Option Out)). placed ps (done_by workers)) blank)
