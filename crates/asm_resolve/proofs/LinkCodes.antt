-- Free. The codes of one operation with two operands.
use Rattle.std.proofs.Common.{Result, Ok, Err, IfOk, ◌≡◌, List, refl, sym, ap, subst, ◌∙◌, Box, Global}
use Rattle.asm_state.specs.declared.operation.Op.{Op}
use Rattle.asm_state.specs.declared.value.Value.{Value}
use Rattle.asm_state.specs.Location.{State}
use Rattle.asm_state.specs.Operation.{op}
use Rattle.asm_state.specs.Signature.{Shape}
use Rattle.asm_meaning.specs.Value.{Reading}
use Rattle.asm_code.specs.code.CodeTree as tree
use Rattle.asm_code.specs.code.CodeViews.{code_of}
use Rattle.asm_code.specs.code.Readings.{reading}
use Rattle.asm_code.specs.code.SoundCodes.{IsSound}
use Rattle.asm_code.specs.declared.code.Code.{Code}
use Rattle.asm_code.specs.declared.code.Code.TheVariants as code
use Rattle.asm_code.proofs.CodeForms.{code_laws-constant_form as constant_form, code_laws-both_form as both_form}

pub with_reads : (shape : Shape) (rs : List Reading) (A : State) (o : Op) (l r : Code) (v : Value) (k : Code) → r ≡ code.Constant v
    → code_of k ≡ tree.With o (code_of l) v → reading shape (code_of k) rs A ≡ op o (reading shape (code_of l) rs A) (reading shape (code_of r) rs A)
unfolding reading
with_reads shape rs A o l r v k is form = ap (λ k. reading shape k rs A) form ∙ ap (op o (reading shape (code_of l) rs A)) (sym (ap (λ k. reading shape k rs A) (constant_form r v is)))

pub with_sound : (shape : Shape) (o : Op) (l : Code) (v : Value) (k : Code) → code_of k ≡ tree.With o (code_of l) v → IsSound shape (code_of l) → IsSound shape (code_of k)
with_sound shape o l v k form sound = subst (IsSound shape) (sym form) sound

-- what holds of an outcome holds of it also in other words
pub if_so : {E : Type 0} (r : Result Code E) (P Q : Code → Type 0) → IfOk r P → ((k : Code) → P k → Q k) → IfOk r Q
if_so (Ok k) P Q holds step = step k holds
if_so (Err e) P Q holds step = tt

pub both_reads : (shape : Shape) (rs : List Reading) (A : State) (o : Op) (s s' : Box Code Global) (l r : Code) → s.value ≡ l → s'.value ≡ r
    → reading shape (code_of (code.Both o s s')) rs A ≡ op o (reading shape (code_of l) rs A) (reading shape (code_of r) rs A)
unfolding reading
both_reads shape rs A o s s' l r same same' =
    ap (λ k. reading shape k rs A) (both_form (code.Both o s s') o s s' refl) ∙ (λ i. op o (reading shape (code_of (same i)) rs A) (reading shape (code_of (same' i)) rs A))

pub both_sound : (shape : Shape) (o : Op) (s s' : Box Code Global) (l r : Code) → s.value ≡ l → s'.value ≡ r → IsSound shape (code_of l) → IsSound shape (code_of r)
    → IsSound shape (code_of (code.Both o s s'))
both_sound shape o s s' l r same same' left right =
    subst (IsSound shape) (sym (both_form (code.Both o s s') o s s' refl))
    (subst (λ (k : Code). IsSound shape (code_of k)) (sym same) left, subst (λ (k : Code). IsSound shape (code_of k)) (sym same') right)
