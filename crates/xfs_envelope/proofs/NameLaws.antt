-- A text of a name's form is ASCII, and so UTF-8.
use Rattle.std.proofs.Common.{◌≡◌, ℕ, zero, suc, ◌<◌, List, [], ◌∷◌, ◌++◌, length, drop, Bool, true, false, ◌&&◌, add-one, refl, arith}
use Rattle.std.proofs.lemmas.Bool.{false≢true}
use Rattle.std.specs.Char.{is_ascii_uppercase, is_ascii_alphanumeric}
use Rattle.std.specs.List.{position_or_len, before_first, after_first, list_all}
use Rattle.std.specs.Str.{IsUtf8, IsAscii}
use Rattle.std.proofs.lemmas.List.Sums.{split_at_first, passes_at_first}
use Rattle.std.proofs.lemmas.Str.{IsUtf8-append, IsUtf8-from_ascii}
use Rattle.xfs_envelope.specs.Names.{is_point, is_part, is_name}
use Rattle.std.proofs.lemmas.Str.Ascii.{IsAscii-cons}

pub both : (a b : Bool) → (a && b) ≡ true → (a ≡ true) × (b ≡ true)
both true true h = (refl, refl)
both true false h = absurd (false≢true h)
both false b h = absurd (false≢true h)

alphanumeric_ascii : (x : ℕ) → is_ascii_alphanumeric x ≡ true → x < 128
alphanumeric_ascii x h = grind arith

uppercase_ascii : (x : ℕ) → is_ascii_uppercase x ≡ true → x < 128
uppercase_ascii x h = grind arith

IsAscii-nil : IsAscii []
IsAscii-nil i = omega arith

all_ascii : (xs : List ℕ) → list_all is_ascii_alphanumeric xs ≡ true → IsAscii xs
all_ascii [] h = IsAscii-nil
all_ascii (x ∷ xs) h = let parts = both _ _ h in IsAscii-cons x xs (alphanumeric_ascii x parts.0) (all_ascii xs parts.1)

part_ascii : (part : List ℕ) → is_part part ≡ true → IsAscii part
part_ascii [] h = absurd (false≢true h)
part_ascii (x ∷ xs) h = let parts = both _ _ h in IsAscii-cons x xs (uppercase_ascii x (both _ _ parts.0).0) (all_ascii xs parts.1)

point_before : (n : ℕ) (text : List ℕ) → is_part (drop (suc n) text) ≡ true → n < length text
point_before n [] h = absurd (false≢true h)
point_before zero (x ∷ xs) h = omega arith
point_before (suc n) (x ∷ xs) h = let more = point_before n xs h in omega arith

pub point_here : (text : List ℕ) → is_part (after_first is_point text) ≡ true → position_or_len is_point text < length text
point_here text h = point_before (position_or_len is_point text) text (rw add-one at h)

utf8_around : (first rest : List ℕ) (point : ℕ) → is_point point ≡ true → IsAscii first → IsAscii rest → IsUtf8 (first ++ (point ∷ rest))
utf8_around first rest point is a b = IsUtf8-append first (point ∷ rest) (IsUtf8-from_ascii first a) (IsUtf8-from_ascii (point ∷ rest) (IsAscii-cons point rest (grind arith) b))

pub name-IsUtf8 : (text : List ℕ) → is_name text ≡ true → IsUtf8 text
name-IsUtf8 text h =
    let parts = both (is_part (before_first is_point text)) (is_part (after_first is_point text)) h in
    let here = point_here text parts.1 in
    rw (split_at_first is_point text 0 here) (utf8_around _ _ _ (passes_at_first is_point text 0 here) (part_ascii _ parts.0) (part_ascii _ parts.1))

pub not_a_name : (text : List ℕ) → ¬ (IsUtf8 text) → is_name text ≡ false
not_a_name text not_utf8 = never (is_name text) (λ h. not_utf8 (name-IsUtf8 text h))
  where
    never : (b : Bool) → (b ≡ true → ⊥) → b ≡ false
    never true h = absurd (h refl)
    never false h = refl
