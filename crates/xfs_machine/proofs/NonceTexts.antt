-- The text of a nonce is of upper-case hexadecimal digits, and a payload of it can be sent.
use Rattle.std.proofs.Common.{◌≡◌, ℕ, ◌<◌, ◌/◌, ◌%◌, Bool, true, false, List, [], ◌∷◌, ◌++◌, get_or, refl, arith}
use Rattle.std.specs.Int.{to_be_bytes, w64}
use Rattle.std.specs.List.{AllByRecursion, list_all}
use Rattle.std.proofs.lemmas.List.Folds.{list_all_at}
use Rattle.hex.specs.Hex.{encode_with, upper_digits}
use Rattle.xfs_common.specs.Payloads.{is_upper_hex, nonce_payload}
use Rattle.xfs_envelope.specs.Messages.{IsPayload}
use Rattle.xfs_journal.specs.Journal.{nonce_text}
use Rattle.xfs_journal.proofs.NonceLaws.{small-bytes, small-append}

tested : (b : Bool) (d : ℕ) → d < 16 → is_upper_hex (get_or upper_digits d 0) ≡ b → b ≡ true
tested true d low is = refl
tested false d low is = absurd (let f : true ≡ false = list_all_at is_upper_hex upper_digits d 0 low is in cc)

digit : (d : ℕ) → d < 16 → is_upper_hex (get_or upper_digits d 0) ≡ true
digit d low = tested (is_upper_hex (get_or upper_digits d 0)) d low refl

digits : (bs : List ℕ) → AllByRecursion (λ b. b < 256) bs → list_all is_upper_hex (encode_with upper_digits bs) ≡ true
unfolding encode_with
digits [] small = refl
digits (b ∷ bs) small =
    let here : b < 256 = small.0 in
    rw (digit (b / 16) (omega arith), digit (b % 16) (omega arith), digits bs small.1) refl

low_byte : (x : ℕ) → x % 256 < 256
low_byte x = omega arith

pub nonce_digits : (number word : ℕ) → list_all is_upper_hex (nonce_text number word) ≡ true
nonce_digits number word = digits (to_be_bytes w64 word ++ to_be_bytes w64 number) (small-append (to_be_bytes w64 word) (to_be_bytes w64 number) (small-bytes 8 word) (small-bytes 8 number))

pub nonce_sent : (text : List ℕ) → IsPayload (nonce_payload text)
nonce_sent text = (refl, refl, omega arith)
