-- Facts of what an object holds, where it tells it.
use Rattle.std.proofs.Common.{◌≡◌, ◌∙◌, None, Some, is_some, true≢false, refl, sym, ap, subst}
use Rattle.std.specs.Prelude.{IfSome, IfOk, IfErr, IsErrAnd, Ok, Err}
use Rattle.std.specs.declared.result.Result.{Result}
use Rattle.std.specs.declared.option.Option.{Option}
use Rattle.xfs_base.specs.Causes.{IfTold}

pub on_told : {T : Type 0} (o : Option T) (P : T → Type 0) → ((x : T) → o ≡ Some x → P x) → IfTold o P
on_told None P each = tt
on_told (Some x) P each = each x refl

pub from_told : {T : Type 0} (o : Option T) (P : T → Type 0) → IfTold o P → (x : T) → o ≡ Some x → P x
from_told {T} o P told x is = subst (λ (q : Option T). IfTold q P) is told

pub from_some : {T : Type 0} (o : Option T) (P : T → Type 0) → IfSome o P → (x : T) → o ≡ Some x → P x
from_some {T} o P found x is = subst (λ (q : Option T). IfSome q P) is found

pub if_ok : {T E : Type 0} (r : Result T E) (P Q : T → Type 0) → ((x : T) → P x → Q x) → IfOk r P → IfOk r Q
if_ok (Ok x) P Q f p = f x p
if_ok (Err e) P Q f p = p

pub if_ok_both : {T E : Type 0} (r : Result T E) (P Q R : T → Type 0) → ((x : T) → P x → Q x → R x) → IfOk r P → IfOk r Q → IfOk r R
if_ok_both (Ok x) P Q R f p q = f x p q
if_ok_both (Err e) P Q R f p q = p

pub if_err : {T E : Type 0} (r : Result T E) (P Q : E → Type 0) → ((e : E) → P e → Q e) → IfErr r P → IfErr r Q
if_err (Ok x) P Q f p = tt
if_err (Err e) P Q f p = f e p

pub if_err_both : {T E : Type 0} (r : Result T E) (P Q R : E → Type 0) → ((e : E) → P e → Q e → R e) → IfErr r P → IfErr r Q → IfErr r R
if_err_both (Ok x) P Q R f p q = tt
if_err_both (Err e) P Q R f p q = f e p q

pub goes : {X : Type 0} (A B C : X → Type 0) → ((x : X) → A x → B x) → ((x : X) → B x → C x) → (x : X) → A x → C x
goes A B C f g x a = g x (f x a)

pub both_told : {T : Type 0} (o p : Option T) → is_some p ≡ is_some o → (x : T) → p ≡ Some x → (y : T) × (o ≡ Some y)
both_told None p told x is = absurd (true≢false (sym (ap is_some is) ∙ told))
both_told (Some y) p told x is = (y, refl)

pub untold : {T : Type 0} (o : Option T) (P : T → Type 0) → o ≡ None → IfTold o P
untold {T} o P none = subst (λ (q : Option T). IfTold q P) (sym none) tt

-- a failure that is handed on
pub handed_on : {T E : Type 0} (r : Result T E) (f : E) (P : E → Type 0) → IsErrAnd r (λ e. e ≡ f) → P f → IfErr r P
handed_on (Ok x) f P handed p = tt
handed_on {E = E} (Err e) f P handed p = subst P (sym handed) p
