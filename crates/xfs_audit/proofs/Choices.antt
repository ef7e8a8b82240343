-- Options that are compared, or known to be none.
use Rattle.std.proofs.Common.{◌≡◌, ℕ, Bool, true, false, Some, None, refl, ap, ◌∙◌, inl, inr}
use Rattle.std.specs.Prelude.{◌==◌, not, is_some}
use Rattle.std.specs.Option.{option_eq}
use Rattle.std.specs.declared.option.Option.{Option}
use Rattle.std.proofs.lemmas.Bool.{cases_eq}
use Rattle.xfs_journal.proofs.JournalLaws.{eqb-same, eqb-no}

same-option : (a b : Option ℕ) → option_eq ◌==◌ a b ≡ true → a ≡ b
same-option None None e = refl
same-option None (Some y) e = absurd (cc)
same-option (Some x) None e = absurd (cc)
same-option (Some x) (Some y) e = elim (cases_eq x y) [
  | inl same ↦ ap Some same
  | inr ne ↦ let other : (x == y) ≡ false = eqb-no x y ne in absurd (cc)
]

option-itself : (a : Option ℕ) → option_eq ◌==◌ a a ≡ true
option-itself None = refl
option-itself (Some x) = eqb-same x

undo : (b : Bool) → false ≡ not b → b ≡ true
undo true e = refl
undo false e = absurd (cc)

pub equal : (a b : Option ℕ) → false ≡ not (option_eq ◌==◌ a b) → a ≡ b
equal a b e = same-option a b (undo (option_eq ◌==◌ a b) e)

pub unequal : (a b : Option ℕ) → true ≡ not (option_eq ◌==◌ a b) → a ≡ b → ⊥
unequal a b e same = let itself : option_eq ◌==◌ a b ≡ true = rw same (option-itself b) in let flat : true ≡ not true = e ∙ ap not itself in cc

pub none-of : {X : Type 0} (o : Option X) → false ≡ is_some o → o ≡ None
none-of None e = refl
none-of (Some x) e = absurd (cc)

pub none-from : {X : Type 0} (o : Option X) → ((x : X) → o ≡ Some x → ⊥) → o ≡ None
none-from None not_some = refl
none-from (Some x) not_some = absurd (not_some x refl)
