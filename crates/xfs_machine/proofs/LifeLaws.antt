-- Whether the life of a nonce is over, looked at in another order.
use Rattle.std.proofs.Common.{◌≡◌, ◌&&◌, not, Bool, true, false, Option, None, Some, refl, sym}
use Rattle.std.specs.Prelude.{is_none, is_some}
use Rattle.std.proofs.lemmas.Bool.{false≢true}

pub not_over : (live ends past fit : Bool) → (ends && past) ≡ false → false ≡ (live && ends && past && fit)
not_over false ends past fit none = refl
not_over true false past fit none = refl
not_over true true false fit none = refl
not_over true true true fit none = absurd (false≢true (sym none))

pub over_as : (live ends past fit lives fits : Bool) → (ends && past) ≡ true → lives ≡ live → fits ≡ fit → (lives && fits) ≡ (live && ends && past && fit)
over_as live false past fit lives fits long a b = absurd (false≢true long)
over_as live true false fit lives fits long a b = absurd (false≢true long)
over_as false true true fit lives fits long a b = rw a refl
over_as true true true fit lives fits long a b = rw (a, b) refl

-- none is there where it is not so that there is one
pub none_as : {A : Type 0} (o : Option A) (none : Bool) → is_some o ≡ not none → none ≡ is_none o
none_as None true e = refl
none_as None false e = absurd (false≢true e)
none_as (Some x) true e = absurd (false≢true (sym e))
none_as (Some x) false e = refl
