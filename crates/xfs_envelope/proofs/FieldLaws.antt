-- A member that is a text, and what the text is read as.
use Rattle.std.proofs.Common.{◌≡◌, ℕ, List, Option, Some, None, option_and_then, Ok, sym, ap}
use Rattle.std.specs.Option.{is_some}
use Rattle.std.proofs.lemmas.Bool.{false≢true}
use Rattle.serde_json.specs.Data.{Data}
use Rattle.serde_json.specs.Find.{as_str}
use Rattle.xfs_json.specs.Members.{member_as, shaped}
use Rattle.xfs_envelope.specs.Fields.{needed}

none_some : {A B : Type 0} (t : A) → None ≡ Some t → B
none_some t h = absurd (false≢true (ap is_some h))

text_shaped : {A : Type 0} (f : List ℕ → Option A) (found : Option (List ℕ)) (t : List ℕ) → needed (shaped found) ≡ Some t → shaped (option_and_then f found) ≡ shaped (f t)
text_shaped f None t h = none_some t h
text_shaped f (Some s) t h = ap (λ o. shaped (option_and_then f o)) h

pub text_as : {A : Type 0} (f : List ℕ → Option A) (m : Option Data) (t : List ℕ) → Ok (Some t) ≡ member_as as_str m → member_as (λ d. option_and_then f (as_str d)) m ≡ shaped (f t)
text_as f None t h = none_some t (ap needed (sym h))
text_as f (Some d) t h = text_shaped f (as_str d) t (ap needed (sym h))
