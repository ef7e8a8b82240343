-- What is found for three letters A to Z, and for other bytes.
use Rattle.std.proofs.Common.{◌≡◌, ℕ, List, Bool, true, false, None, Some, if◌then◌else◌, refl, ap}
use Rattle.std.specs.Prelude.{◌↔◌, IfSome, IsSome}
use Rattle.std.specs.declared.option.Option.{Option}
use Rattle.xfs_base.specs.Values.{IsCurrency}
use Rattle.xfs_token.specs.Amounts.{is_currency}
use Rattle.xfs_token.proofs.AmountReading.{is_currency_from, is_currency_to}
use Rattle.xfs_dispenser.specs.Notes.{currency_of}

by_test : (found : Option (List ℕ)) (letters : List ℕ) (b : Bool) → (IsSome found → b ≡ true) → (b ≡ true → IsSome found) → IfSome found (λ c. c ≡ letters)
    → found ≡ (if b then Some letters else None)
by_test None letters true to from is = let found = from refl in cc
by_test None letters false to from is = refl
by_test (Some c) letters true to from is = ap Some is
by_test (Some c) letters false to from is = let found = to refl in cc

pub currency-found : (found : Option (List ℕ)) (letters : List ℕ) → IfSome found (λ c. c ≡ letters) → IsSome found ↔ IsCurrency letters → found ≡ currency_of letters
currency-found found letters is valid =
    by_test found letters (is_currency letters) (λ some. is_currency_to letters (valid.0 some)) (λ is_one. valid.1 (is_currency_from letters is_one)) is
