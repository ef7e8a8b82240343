-- What a desk asks is read by its number, or is too long.
use Rattle.std.proofs.Common.{◌≡◌, ℕ, List, length, nat_lt, if◌then◌else◌, None, Ok, Err, IfOk, OnOk, refl, sym, ap, subst, inl, inr, arith}
use Rattle.std.specs.Option.{IfSome, IsSome}
use Rattle.std.specs.declared.result.Result.{Result}
use Rattle.std.proofs.lemmas.Bool.{cases_Bool, ltb-false}
use Rattle.serde_json.specs.Data.{Data}
use Rattle.serde_json.specs.Find.{as_object}
use Rattle.xfs_client.specs.Commands.{ReadsAs}
use Rattle.xfs_conversation.specs.Answers.{heading_of}
use Rattle.xfs_envelope.specs.Commands.{Command, command_in, of_value}
use Rattle.xfs_envelope.specs.declared.command.Refuse.{Refuse}
use Rattle.xfs_envelope.specs.declared.command.Why.TheVariants.{TooLong}
use Rattle.xfs_json.specs.Reading.{reading}
use Rattle.xfs_client.specs.Hearings.{IsAskAt}

abbrev IsReadAt : ℕ → Result Command Refuse → Type 0
IsReadAt id r = IfSome (heading_of r).id (λ i. i ≡ id)

abbrev too_long : Result Command Refuse
too_long = Err record { why = TooLong; id = None }

pub asked_at : (text name : List ℕ) (id : ℕ) (payload : Data) → ReadsAs text name id payload → IsSome (as_object payload) → IsAskAt id text
asked_at text name id payload reads object = elim (cases_Bool (nat_lt 65536 (length text))) [
  | inl y ↦
      let is : command_in text ≡ too_long = ap (λ b. if b then too_long else of_value (reading text)) y in
      subst (IsReadAt id) (sym is) tt
  | inr n ↦ let not_longer = ltb-false 65536 (length text) n in subst (IsReadAt id) (sym (reads object (omega (arith, not_longer)))) refl
]

-- what follows where there is a value: something holds of it, and something else besides
pub on_both : {T E : Type 0} (r : Result T E) (P : Type 0) (Q R : T → Type 0) → ((t : T) → P → Q t → R t) → OnOk r P → IfOk r Q → IfOk r R
on_both (Ok t) P Q R follows p q = follows t p q
on_both (Err e) P Q R follows p q = tt
