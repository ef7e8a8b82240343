-- A text of upper-case hexadecimal digits is ASCII, and so UTF-8.
use Rattle.std.proofs.Common.{◌≡◌, ℕ, ◌<◌, List, true, arith}
use Rattle.std.specs.List.{list_all}
use Rattle.std.specs.Str.{IsUtf8}
use Rattle.std.proofs.lemmas.List.Elements.{All-weaker}
use Rattle.std.proofs.lemmas.List.Sums.{AllPass-from_list_all}
use Rattle.std.proofs.lemmas.Str.{IsUtf8-from_ascii}
use Rattle.std.proofs.lemmas.Str.Ascii.{IsAscii-from_all}
use Rattle.xfs_common.specs.Payloads.{is_upper_hex}

digit-ascii : (b : ℕ) → is_upper_hex b ≡ true → b < 128
digit-ascii b is = grind arith

pub digits-IsUtf8 : (text : List ℕ) → list_all is_upper_hex text ≡ true → IsUtf8 text
digits-IsUtf8 text all =
    IsUtf8-from_ascii text (IsAscii-from_all text (All-weaker (λ b. is_upper_hex b ≡ true) (λ b. b < 128) digit-ascii text (AllPass-from_list_all is_upper_hex text all)))
