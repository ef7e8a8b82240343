-- What each class of bytes has.
use Rattle.std.specs.Prelude.{ℕ, Bool}
use Rattle.xfs_token.specs.Token.{is_digit, is_letter, is_upper_hex, is_key_byte, is_value_byte}
use Rattle.xfs_token.specs.declared.grammar.Class.{Class}
use Rattle.xfs_token.specs.declared.grammar.Class.TheVariants.{Digit, Letter, Hex, Key, Value}

abbrev pub class_has : Class → ℕ → Bool
class_has Digit = is_digit
class_has Letter = is_letter
class_has Hex = is_upper_hex
class_has Key = is_key_byte
class_has Value = is_value_byte
