-- Free. What workers begin with and leave: cut in two, and put together.
use Rattle.std.proofs.Common.{◌≡◌, ℕ, ◌+◌, ◌-◌, ◌/◌, ◌<◌, List, [], ◌∷◌, ◌++◌, length, take, drop, All, Option, Some, Result, Ok, Err, IfOk, IsOk, sym, ap, ◌∙◌, subst, arith}
use Rattle.std.specs.Option.{option_to_list}
use Rattle.std.proofs.lemmas.Bool.{true≢false}
use Rattle.std.proofs.lemmas.List.{length-take-le, length-drop, length_push, nil_from_length}
use Rattle.std.proofs.lemmas.List.Elements.{All-append, All-cons, All-drop, All-head, All-nil, All-take}
use Rattle.atomic_table.specs.declared.shared.Seat.{Seat}
use Rattle.asm_pool.specs.declared.worker.Worker.{Worker}
use Rattle.asm_pool.specs.declared.lanes.Lanes.{Lanes}
use Rattle.asm_pool.specs.declared.lanes.SeatView.{SeatView}
use Rattle.asm_pool.specs.code.Lanes.{seat_view}
use Rattle.asm_pool.specs.code.Pool.{IsRun}
use Rattle.asm_pool.specs.code.WorkersAndSeats.{IsDoneByWorkers, CanWork, HaveWorked, AreBoth}
use Rattle.asm_pool.proofs.WorkGathered.{all_right}
use Rattle.asm_pool.proofs.WorkerRuns.{worked-halves}

abbrev Place : Type 0
Place = Seat (Unit {0}) SeatView

-- half of the hands go, each with its lane and its part of the seat
module _ {Hand : Type 0} (has_task : ℕ → Type 0) (takes : Hand → Type 0) (lanes : Lanes) (first : ℕ) (hands : List Hand) (seat : Place) (ready : CanWork has_task takes lanes first hands seat)
    (size stay : ℕ) (long : size ≡ length hands) (some : 1 < size) (cut : stay ≡ size - size / 2) where
  width : seat.me.0.lanes ≡ lanes.shape.lanes
  width = ap (λ m. m.0.lanes) ready.blank

  parts : seat.me.0.parts ≡ length hands
  parts = ap (λ m. m.0.parts) ready.blank

  pub stays : (front : List Hand) (left : Place) → front ≡ take stay hands → left.table_id ≡ seat.table_id → left.me ≡ (seat_view seat.me.0.lanes (seat.me.0.parts - seat.me.0.parts / 2) [], [])
      → CanWork has_task takes lanes first front left
  stays front left is same me =
      let len : length front ≡ stay = ap length is ∙ length-take-le stay hands (omega (arith, long, cut, some)) in
      let each : seat.me.0.parts - seat.me.0.parts / 2 ≡ length front = omega (arith, parts, len, cut, long) in
      let room = ready.room in
      record {
        some = omega (arith, len, cut, some);
        room = omega (arith, len, cut, long, room);
        table = same ∙ ready.table;
        blank = me ∙ (λ i. (seat_view (width i) (each i) [], []));
        tasks = ready.tasks;
        fit = subst (All takes) (sym is) (All-take takes stay hands ready.fit);
      }

  pub goes : (back : List Hand) (right : Place) → back ≡ drop stay hands → right.table_id ≡ seat.table_id → right.me ≡ (seat_view seat.me.0.lanes (seat.me.0.parts / 2) [], [])
      → CanWork has_task takes lanes (first + stay) back right
  goes back right is same me =
      let len : length back ≡ length hands - stay = ap length is ∙ length-drop stay hands in
      let each : seat.me.0.parts / 2 ≡ length back = omega (arith, parts, len, cut, long) in
      let room = ready.room in
      record {
        some = omega (arith, len, cut, long, some);
        room = omega (arith, len, cut, long, room);
        table = same ∙ ready.table;
        blank = me ∙ (λ i. (seat_view (width i) (each i) [], []));
        tasks = ready.tasks;
        fit = subst (All takes) (sym is) (All-drop takes stay hands ready.fit);
      }

pub popped-fits : {Hand : Type 0} (takes : Hand → Type 0) (hands rest : List Hand) (popped : Option Hand) (hand : Hand) → hands ≡ rest ++ option_to_list popped → popped ≡ Some hand → All takes hands → takes hand
popped-fits takes hands rest popped hand is some fit = All-head takes hand [] (all_right takes rest (hand ∷ []) (subst (All takes) (is ∙ ap (λ p. rest ++ option_to_list p) some) fit))

module _ {Hand Out : Type 0} (takes : Hand → Type 0) (runs : ℕ → Hand → Out → Hand → Type 0) (lanes : Lanes) where
  pub one-worked : (hands rest : List Hand) (popped : Option Hand) (hand : Hand) (made workers : List (Worker Hand Out)) (worker : Worker Hand Out) (seat : Place) → length hands ≡ 1 → hands ≡ rest ++ option_to_list popped → popped ≡ Some hand
      → made ≡ [] → workers ≡ made ++ worker ∷ [] → seat.table_id ≡ lanes.table.shared.table_id → seat.me.1 ≡ [] → takes worker.hand
      → IsDoneByWorkers (IsRun takes runs) lanes.shape.lanes lanes.shape.count (hand ∷ []) (worker ∷ []) seat.me.0 → HaveWorked takes runs lanes hands workers seat
  one-worked hands rest popped hand made workers worker seat one is some none pushed table empty fit worked =
      let all : hands ≡ rest ++ hand ∷ [] = is ∙ ap (λ p. rest ++ option_to_list p) some in
      let len : length hands ≡ length (rest ++ hand ∷ []) = ap length all in
      let before : length rest ≡ 0 = omega (arith, len, length_push rest hand, one) in
      let alone : hands ≡ hand ∷ [] = all ∙ ap (λ r. r ++ hand ∷ []) (nil_from_length rest before) in
      let list : workers ≡ worker ∷ [] = pushed ∙ ap (λ l. l ++ worker ∷ []) none in
      record {
        table = table;
        empty = empty;
        fit = subst (All (λ (w : Worker Hand Out). takes w.hand)) (sym list) (All-cons (λ (w : Worker Hand Out). takes w.hand) worker [] fit (All-nil (λ (w : Worker Hand Out). takes w.hand)));
        worked = subst (λ (p : List Hand × List (Worker Hand Out)). IsDoneByWorkers (IsRun takes runs) lanes.shape.lanes lanes.shape.count p.0 p.1 seat.me.0) (λ i. (sym alone i, sym list i)) worked;
      }

  -- the seat of workers may be joined with another
  pub joins : (hands : List Hand) (workers : List (Worker Hand Out)) (seat : Place) → 0 < length hands → HaveWorked takes runs lanes hands workers seat
      → (seat.table_id ≡ lanes.table.shared.table_id) × (seat.me.1 ≡ []) × (0 < seat.me.0.parts)
  joins hands workers seat some left = let parts = left.worked.parts in (left.table, left.empty, omega (arith, parts, some))

  pub both-worked : {V E : Type 0} (items : V → List (Worker Hand Out)) (hands front back : List Hand) (cut : ℕ) (these those : Result (V × Place) E) (all : List (Worker Hand Out)) (seat : Place) → front ≡ take cut hands → back ≡ drop cut hands
      → IsOk these → IsOk those → IfOk these (λ a. IfOk those (λ b. AreBoth (items a.0) a.1 (items b.0) b.1 all seat))
      → IfOk these (λ a. HaveWorked takes runs lanes front (items a.0) a.1) → IfOk those (λ b. HaveWorked takes runs lanes back (items b.0) b.1) → HaveWorked takes runs lanes hands all seat
  both-worked items hands front back cut (Ok a) (Ok b) all seat is_front is_back _ _ both here there = record {
    table = both.table ∙ here.table;
    empty = ap (λ m. m.1) both.draws;
    fit = subst (All (λ (w : Worker Hand Out). takes w.hand)) (sym both.list) (All-append (λ (w : Worker Hand Out). takes w.hand) (items a.0) (items b.0) here.fit there.fit);
    worked = worked-halves (IsRun takes runs) lanes.shape.lanes lanes.shape.count hands front back cut (items a.0) (items b.0) all a.1.me.0 b.1.me.0 seat.me.0 is_front is_back both.list (ap (λ m. m.0) both.draws) here.worked there.worked;
  }
  both-worked items hands front back cut (Ok a) (Err e) all seat is_front is_back _ ok both here there = absurd (true≢false (sym ok))
  both-worked items hands front back cut (Err e) those all seat is_front is_back ok _ both here there = absurd (true≢false (sym ok))
