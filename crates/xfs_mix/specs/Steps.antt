-- Amounts counted in steps: a currency's values are multiples of one number, and so is each amount that has a mix.
use Rattle.std.specs.Prelude.{◌≡◌, ℕ, ◌/◌, true, List, All, if◌then◌else◌}
use Rattle.std.specs.Int.{◌∣◌}
use Rattle.std.specs.Str.{bytes_eq}
use Rattle.xfs_base.specs.declared.money.NoteKind.{NoteKind}

-- a divisor of the values of a currency
abbrev pub AreMultiples : ℕ → List ℕ → List NoteKind → Type 0
AreMultiples step currency kinds = All (λ k. bytes_eq k.currency currency ≡ true → step ∣ k.value) kinds

-- a kind of notes, with its value counted in steps where it is of the currency
abbrev pub in_steps : ℕ → List ℕ → NoteKind → NoteKind
in_steps step currency k = if bytes_eq k.currency currency then record { currency = k.currency; value = k.value / step } else k
