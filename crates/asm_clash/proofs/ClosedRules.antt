-- Free. What stands of the rules that aren't opened, by the program's rule codes; and how pieces
-- are opened.
--     assign_here, seq_here, other_here     what stands of an assignment, of rules in order, and of
--                                           what is none of the closed ones but `skip`
--     given_called, given_elsewhere     which arguments the pieces of a call are given, and those of
--                                       another rule
--     closed_here                           a piece that isn't opened has a rule that is closed
--     pieces_here                           what stands of the pieces that a piece is opened to
--     piece_here                            each of them is all of a rule with fewer nodes
--     next_piece, last_piece     what stands of the pieces that are left
--     sound_part, size_of_part              a part of sound rules is sound, and has no more nodes
--                                           than all of them
use Rattle.std.proofs.Common.{◌≡◌, ℕ, zero, suc, ◌≤◌, ◌<◌, true, List, [], ◌∷◌, ◌++◌, ◌+◌, length, map, drop, get_or, append_assoc, append-nil, All, Option, sym, ap, subst, ◌∙◌, arith, Box, Vec, Global}
use Rattle.std.specs.Arc.{arc_value}
use Rattle.std.specs.Prelude.{option_map}
use Rattle.std.proofs.lemmas.Bool.{false≢true}
use Rattle.std.proofs.lemmas.List.{at_drop_more}
use Rattle.std.proofs.lemmas.List.Elements.{All-get_or}
use Rattle.std.proofs.Math.ListN.{drop_of_length-le}
use Rattle.asm_reader.specs.declared.picks.Picks.{Ghosts}
use Rattle.asm_state.specs.declared.value.Value.{Value}
use Rattle.asm_state.specs.Location.{Location}
use Rattle.asm_state.specs.Signature.{Shape}
use Rattle.asm_meaning.specs.Yields.{Path}
use Rattle.asm_eval.specs.declared.part.Part.TheVariants as part
use Rattle.asm_code.specs.code.CodeViews.{code_of, codes_of}
use Rattle.asm_code.specs.code.RuleMeaning.{IsSoundRule, AreSoundRules, rule_size, rule_sizes}
use Rattle.asm_code.specs.code.RuleStories.{telling}
use Rattle.asm_code.specs.code.RuleTree as tree
use Rattle.asm_code.specs.code.RuleViews.{target_code_of, rule_of, rule_step, rules_of}
use Rattle.asm_code.specs.declared.code.Code.{Code}
use Rattle.asm_code.specs.declared.rule_code.TargetCode.{TargetCode}
use Rattle.asm_code.specs.declared.rule_code.RuleCode.{RuleCode, roll-out-RuleCode}
use Rattle.asm_code.specs.declared.rule_code.RuleCode.TheOpen.{RuleCode-F}
use Rattle.asm_code.specs.declared.rule_code.RuleCode.TheOpen as opened_code
use Rattle.asm_code.specs.declared.rule_code.RuleCode.TheViews.{roll-RuleCode, out-RuleCode}
use Rattle.asm_code.specs.declared.rule_code.RuleCode.TheVariants as code
use Rattle.asm_code.specs.declared.rule_code.RuleCode.TheFolds.{fold-roll-RuleCode}
use Rattle.asm_eval.specs.code.Frames.{readings_of}
use Rattle.asm_eval.specs.code.OpenedPieces.{Gives, Opens, OpeningLaws, is_closed, is_closed_part, pieces_in, works_in}
use Rattle.asm_eval.specs.code.Opening.{Work, part_opened, work_of}
use Rattle.asm_eval.specs.code.Pieces.{HasAtMost, IsPiece, all_positions, piece_yields}
use Rattle.asm_eval.specs.code.Evaluation.{evaluation_choices, frame_locations, evaluation_shape, evaluation_state, target_in}
use Rattle.asm_eval.specs.declared.frame.Frame.{Frame}
use Rattle.asm_eval.specs.declared.open.Opened.{Opened}
use Rattle.asm_eval.specs.declared.open.Opened.TheVariants as opening
use Rattle.asm_eval.specs.declared.piece.Piece.{Piece}
use Rattle.asm_eval.specs.declared.evaluation.Evaluation.{Evaluation}
use Rattle.asm_clash.specs.Standing.{Assigned}
use Rattle.asm_clash.specs.code.StandingRules.{assigned_at, detail_at, given_below, given_by, order_in, stands_at, story_in}
use Rattle.asm_clash.proofs.OpenedRules.{AreBelow, AreOpened, rule_opened, works_stand}

-- ---- the tree of a code

assign_form : (P : RuleCode) (to : TargetCode) (t : Code) → P ≡ code.Assign to t → rule_of P ≡ tree.Assign (target_code_of to) (code_of t)
assign_form P to t is = ap rule_of is ∙ ap rule_of (sym (code.rolls-Assign to t)) ∙ fold-roll-RuleCode tree.RuleCode rule_step (opened_code.Assign to t)

seq_form : (P : RuleCode) (Ps : Vec RuleCode Global) → P ≡ code.Seq Ps → rule_of P ≡ tree.Seq (rules_of (map rule_of Ps.items))
seq_form P Ps is = ap rule_of is ∙ ap rule_of (sym (code.rolls-Seq Ps)) ∙ fold-roll-RuleCode tree.RuleCode rule_step (opened_code.Seq Ps)

module _ (R : RuleCode) (closed : is_closed (rule_of R) ≡ true) where
  layer_closed : (L : RuleCode-F RuleCode) (S : tree.RuleCode) → rule_of (roll-RuleCode L) ≡ S → R ≡ roll-RuleCode L → is_closed S ≡ true
  layer_closed L S form e = sym (ap is_closed form) ∙ sym (ap (λ (T : RuleCode). is_closed (rule_of T)) e) ∙ closed

  module _ (no_assign : (to : TargetCode) (t : Code) → R ≡ code.Assign to t → ⊥) (no_seq : (Ps : Vec RuleCode Global) → R ≡ code.Seq Ps → ⊥) (no_iterate : (P : Box RuleCode Global) → R ≡ code.Iterate P → ⊥) where
    at_layer : (L : RuleCode-F RuleCode) → R ≡ roll-RuleCode L → rule_of R ≡ tree.Skip
    at_layer opened_code.Skip e = ap rule_of e ∙ fold-roll-RuleCode tree.RuleCode rule_step opened_code.Skip
    at_layer (opened_code.Assign to' t) e = absurd (no_assign to' t (e ∙ code.rolls-Assign to' t))
    at_layer (opened_code.Par Ps) e = absurd (false≢true (layer_closed (opened_code.Par Ps) _ (fold-roll-RuleCode tree.RuleCode rule_step (opened_code.Par Ps)) e))
    at_layer (opened_code.Seq Ps) e = absurd (no_seq Ps (e ∙ code.rolls-Seq Ps))
    at_layer (opened_code.If c P Q) e = absurd (false≢true (layer_closed (opened_code.If c P Q) _ (fold-roll-RuleCode tree.RuleCode rule_step (opened_code.If c P Q)) e))
    at_layer (opened_code.Let t P) e = absurd (false≢true (layer_closed (opened_code.Let t P) _ (fold-roll-RuleCode tree.RuleCode rule_step (opened_code.Let t P)) e))
    at_layer (opened_code.Forall u c P) e = absurd (false≢true (layer_closed (opened_code.Forall u c P) _ (fold-roll-RuleCode tree.RuleCode rule_step (opened_code.Forall u c P)) e))
    at_layer (opened_code.Choose u c P Q) e = absurd (false≢true (layer_closed (opened_code.Choose u c P Q) _ (fold-roll-RuleCode tree.RuleCode rule_step (opened_code.Choose u c P Q)) e))
    at_layer (opened_code.Iterate P) e = absurd (no_iterate P (e ∙ code.rolls-Iterate P))
    at_layer (opened_code.Call body to' ts) e = absurd (false≢true (layer_closed (opened_code.Call body to' ts) _ (fold-roll-RuleCode tree.RuleCode rule_step (opened_code.Call body to' ts)) e))

    is_skip : rule_of R ≡ tree.Skip
    is_skip = at_layer (out-RuleCode R) (sym (roll-out-RuleCode R))

-- ---- what it gives its pieces

call_form : (R : RuleCode) (body : _) (to : Option TargetCode) (ts : Vec Code Global) → R ≡ code.Call body to ts
    → rule_of R ≡ tree.Call (rule_of (arc_value body)) (option_map target_code_of to) (codes_of (map code_of ts.items))
call_form R body to ts is = ap rule_of is ∙ ap rule_of (sym (code.rolls-Call body to ts)) ∙ fold-roll-RuleCode tree.RuleCode rule_step (opened_code.Call body to ts)

module _ (gs : List Value) (of_target : Option tree.Place → List Value) (R : RuleCode) where
  pub given_called : (body : _) (to : Option TargetCode) (ts : Vec Code Global) → R ≡ code.Call body to ts → of_target (option_map target_code_of to) ≡ given_by (rule_of R) gs of_target
  given_called body to ts is = sym (ap (λ S. given_by S gs of_target) (call_form R body to ts is))

  module _ (no_call : (body : _) (to : Option TargetCode) (ts : Vec Code Global) → R ≡ code.Call body to ts → ⊥) where
    by_layer : (L : RuleCode-F RuleCode) (S : tree.RuleCode) → rule_of (roll-RuleCode L) ≡ S → R ≡ roll-RuleCode L → given_by S gs of_target ≡ given_by (rule_of R) gs of_target
    by_layer L S form e = sym (ap (λ T. given_by T gs of_target) (ap rule_of e ∙ form))

    given_at_layer : (L : RuleCode-F RuleCode) → R ≡ roll-RuleCode L → gs ≡ given_by (rule_of R) gs of_target
    given_at_layer opened_code.Skip e = by_layer opened_code.Skip _ (fold-roll-RuleCode tree.RuleCode rule_step opened_code.Skip) e
    given_at_layer (opened_code.Assign to t) e = by_layer (opened_code.Assign to t) _ (fold-roll-RuleCode tree.RuleCode rule_step (opened_code.Assign to t)) e
    given_at_layer (opened_code.Par Ps) e = by_layer (opened_code.Par Ps) _ (fold-roll-RuleCode tree.RuleCode rule_step (opened_code.Par Ps)) e
    given_at_layer (opened_code.Seq Ps) e = by_layer (opened_code.Seq Ps) _ (fold-roll-RuleCode tree.RuleCode rule_step (opened_code.Seq Ps)) e
    given_at_layer (opened_code.If c P Q) e = by_layer (opened_code.If c P Q) _ (fold-roll-RuleCode tree.RuleCode rule_step (opened_code.If c P Q)) e
    given_at_layer (opened_code.Let t P) e = by_layer (opened_code.Let t P) _ (fold-roll-RuleCode tree.RuleCode rule_step (opened_code.Let t P)) e
    given_at_layer (opened_code.Forall u c P) e = by_layer (opened_code.Forall u c P) _ (fold-roll-RuleCode tree.RuleCode rule_step (opened_code.Forall u c P)) e
    given_at_layer (opened_code.Choose u c P Q) e = by_layer (opened_code.Choose u c P Q) _ (fold-roll-RuleCode tree.RuleCode rule_step (opened_code.Choose u c P Q)) e
    given_at_layer (opened_code.Iterate P) e = by_layer (opened_code.Iterate P) _ (fold-roll-RuleCode tree.RuleCode rule_step (opened_code.Iterate P)) e
    given_at_layer (opened_code.Call body to ts) e = absurd (no_call body to ts (e ∙ code.rolls-Call body to ts))

    pub given_elsewhere : gs ≡ given_by (rule_of R) gs of_target
    given_elsewhere = given_at_layer (out-RuleCode R) (sym (roll-out-RuleCode R))

-- ---- what stands of it

module _ {P : Type 0} {picks : Ghosts P} (r : Evaluation P picks) (l : Location) (gs : List Value) (f : Frame) (p q : Path) (same : q ≡ p) where
  abbrev stands_of : tree.RuleCode → List Assigned
  stands_of R = stands_at r l gs f p R

  pub assign_here : (R : RuleCode) (to : TargetCode) (t : Code) → R ≡ code.Assign to t
      → assigned_at l (target_in r.view.now f (target_code_of to)) (detail_at r.view.now f gs (target_code_of to) (code_of t) q) ≡ stands_of (rule_of R)
  unfolding telling
  assign_here R to t is = ap (λ x. assigned_at l (target_in r.view.now f (target_code_of to)) (detail_at r.view.now f gs (target_code_of to) (code_of t) x)) same ∙ sym (ap stands_of (assign_form R to t is))

  pub seq_here : (R : RuleCode) (Ps : Vec RuleCode Global) → R ≡ code.Seq Ps → (Qs : List RuleCode) → Qs ≡ Ps.items
      → order_in r l gs f q 0 (rules_of (map rule_of Qs)) (evaluation_state r) ≡ stands_of (rule_of R)
  unfolding telling
  seq_here R Ps is Qs all = (λ i. order_in r l gs f (same i) 0 (rules_of (map rule_of (all i))) (evaluation_state r)) ∙ sym (ap stands_of (seq_form R Ps is))

  pub other_here : (R : RuleCode) → is_closed (rule_of R) ≡ true
      → ((to : TargetCode) (t : Code) → R ≡ code.Assign to t → ⊥) → ((Ps : Vec RuleCode Global) → R ≡ code.Seq Ps → ⊥) → ((P : Box RuleCode Global) → R ≡ code.Iterate P → ⊥)
      → [] ≡ stands_of (rule_of R)
  unfolding telling
  other_here R closed no_assign no_seq no_iterate = sym (ap stands_of (is_skip R closed no_assign no_seq no_iterate))

-- ---- pieces

module _ {P : Type 0} {picks : Ghosts P} (r : Evaluation P picks) (piece : Piece) (whole : piece.part ≡ part.Whole) (cut : ℕ) (o : Opened) (opens : Opens r cut piece o) where
  pub closed_here : OpeningLaws r → IsPiece (evaluation_shape r) piece → o ≡ opening.Closed → 0 < cut → is_closed (rule_of piece.rule.now) ≡ true
  closed_here laws is none some =
      let closed : is_closed_part (rule_of piece.rule.now) piece.part ≡ true =
      subst (Gives r cut (is_closed_part (rule_of piece.rule.now) piece.part) (piece_yields r piece)) none (laws.loses_nothing cut piece o some is opens) in
      subst (λ its. is_closed_part (rule_of piece.rule.now) its ≡ true) whole closed

  module _ (l : Location) (gs : List Value) (pieces : Vec Piece Global) (n : ℕ) (is : o ≡ opening.Pieces pieces n) (long : HasAtMost (all_positions (evaluation_shape r) (rule_of piece.rule.now)) cut) where
    abbrev all : List Assigned
    all = stands_at r l gs piece.frame piece.path (rule_of piece.rule.now)

    abbrev below_given : List Value
    below_given = given_below r.view.now piece.frame gs (rule_of piece.rule.now)

    abbrev size : ℕ
    size = rule_size (rule_of piece.rule.now)

    abbrev IsOpened : Option (List Work × ℕ) → Type 0
    IsOpened works = AreOpened (evaluation_shape r) r.turns (evaluation_choices r) l (evaluation_state r) below_given size (story_in r gs piece.frame piece.path (rule_of piece.rule.now) (evaluation_state r)) works

    pub pieces_here : (all ≡ works_stand (evaluation_shape r) r.turns (evaluation_choices r) l (evaluation_state r) below_given (map (work_of (evaluation_shape r)) pieces.items)) × AreBelow size (map (work_of (evaluation_shape r)) pieces.items)
    pieces_here =
        let found = rule_opened (evaluation_shape r) r.turns (evaluation_choices r) l (evaluation_state r) gs cut (rule_of piece.rule.now) (readings_of (evaluation_shape r) piece.frame) (frame_locations (evaluation_shape r) piece.frame) piece.path long in
        let at_part = subst (λ its. IsOpened (part_opened (evaluation_shape r) (evaluation_state r) (evaluation_choices r) cut (rule_of piece.rule.now) (readings_of (evaluation_shape r) piece.frame) (frame_locations (evaluation_shape r) piece.frame) piece.path its)) (sym whole) found in
        let at_opened = subst IsOpened (sym opens.works) at_part in
        subst (λ (x : Opened). IsOpened (works_in (evaluation_shape r) x)) is at_opened

    below_at : (those : List Piece) (i : ℕ) (x : Piece) → i < length those → x ≡ get_or those i x → AreBelow size (map (work_of (evaluation_shape r)) those)
        → (rule_size (rule_of x.rule.now) < size) × (x.part ≡ part.Whole)
    below_at [] i x low at below = absurd (omega (arith, low))
    below_at (y ∷ those) zero x low at below =
        (subst (λ (z : Piece). rule_size (rule_of z.rule.now) < size) (sym at) below.0, subst (λ (z : Piece). z.part ≡ part.Whole) (sym at) below.1)
    below_at (y ∷ those) (suc i) x low at below = below_at those i x (omega (arith, low)) at below.2

    pub piece_here : (i : ℕ) (x : Piece) → i < length pieces.items → x ≡ get_or pieces.items i x
        → (rule_size (rule_of x.rule.now) < size) × IsPiece (evaluation_shape r) x × (x.part ≡ part.Whole)
    piece_here i x low at =
        let below = below_at pieces.items i x low at pieces_here.1 in
        let those : All (IsPiece (evaluation_shape r)) pieces.items = subst (λ (x : Opened). All (IsPiece (evaluation_shape r)) (pieces_in x)) is opens.are_pieces in
        (below.0, subst (IsPiece (evaluation_shape r)) (sym at) (All-get_or (IsPiece (evaluation_shape r)) pieces.items i x low those), below.1)

-- ---- from piece to piece

module _ {P : Type 0} {picks : Ghosts P} (r : Evaluation P picks) (l : Location) (gs : List Value) (those : List Piece) (most : ℕ) (whole first : List Assigned) where
  abbrev pub pieces_left : ℕ → List Assigned
  pieces_left i = works_stand (evaluation_shape r) r.turns (evaluation_choices r) l (evaluation_state r) gs (map (work_of (evaluation_shape r)) (drop i those))

  abbrev piece_stands : Piece → List Assigned
  piece_stands x = stands_at r l gs x.frame x.path (rule_of x.rule.now)

  pub next_piece : (i : ℕ) (x : Piece) → i < length those → x ≡ get_or those i x → whole ≡ first ++ pieces_left i → whole ≡ (first ++ piece_stands x) ++ pieces_left (i + 1)
  next_piece i x low is so_far =
      so_far
      ∙ ap (λ more. first ++ more)
      (at_drop_more (λ (some : List Piece). works_stand (evaluation_shape r) r.turns (evaluation_choices r) l (evaluation_state r) gs (map (work_of (evaluation_shape r)) some)) those i x low
      ∙ ap (λ (y : Piece). piece_stands y ++ pieces_left (i + 1)) (sym is))
      ∙ sym (append_assoc first (piece_stands x) (pieces_left (i + 1)))

  pub last_piece : (i : ℕ) → length those ≤ i → whole ≡ first ++ pieces_left i → first ≡ whole
  last_piece i past so_far =
      sym (so_far
      ∙ ap (λ (some : List Piece). first ++ works_stand (evaluation_shape r) r.turns (evaluation_choices r) l (evaluation_state r) gs (map (work_of (evaluation_shape r)) some)) (drop_of_length-le those past)
      ∙ append-nil first)

-- ---- parts

pub sound_part : (shape : Shape) (Ps : List RuleCode) (i : ℕ) (P : RuleCode) → i < length Ps → P ≡ get_or Ps i P → AreSoundRules shape (rules_of (map rule_of Ps)) → IsSoundRule shape (rule_of P)
sound_part shape [] i P below is sound = absurd (omega (arith, below))
sound_part shape (Q ∷ Ps) zero P below is sound = subst (λ (k : RuleCode). IsSoundRule shape (rule_of k)) (sym is) sound.0
sound_part shape (Q ∷ Ps) (suc i) P below is sound = sound_part shape Ps i P (omega (arith, below)) is sound.1

pub size_of_part : (Ps : List RuleCode) (i : ℕ) (P : RuleCode) → i < length Ps → P ≡ get_or Ps i P → rule_size (rule_of P) ≤ rule_sizes (rules_of (map rule_of Ps))
size_of_part [] i P below is = absurd (omega (arith, below))
size_of_part (Q ∷ Ps) zero P below is = let same = ap (λ (k : RuleCode). rule_size (rule_of k)) is in omega (arith, same)
size_of_part (Q ∷ Ps) (suc i) P below is = let rest = size_of_part Ps i P (omega (arith, below)) is in omega (arith, rest)
