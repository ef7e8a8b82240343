-- The form of a message's name, as in `Common.Status`, and of a version, as in `2.0`.
use Rattle.std.specs.Prelude.{ℕ, List, [], ◌∷◌, length, Bool, false, ◌==◌, ◌&&◌, nat_le}
use Rattle.std.specs.List.{before_first, after_first, list_all}
use Rattle.std.specs.Char.{is_ascii_uppercase, is_ascii_alphanumeric, is_ascii_digit}

-- the byte of a point
abbrev pub is_point : ℕ → Bool
is_point b = b == 46

-- a letter A to Z, and at most 63 letters or digits
abbrev pub is_part : List ℕ → Bool
is_part [] = false
is_part (first ∷ rest) = is_ascii_uppercase first && nat_le (length rest) 63 && list_all is_ascii_alphanumeric rest

-- two parts joined by a point
abbrev pub is_name : List ℕ → Bool
is_name text = is_part (before_first is_point text) && is_part (after_first is_point text)

-- 1 to 9 digits
abbrev pub is_number : List ℕ → Bool
is_number text = nat_le 1 (length text) && nat_le (length text) 9 && list_all is_ascii_digit text

-- two numbers joined by a point
abbrev pub is_version : List ℕ → Bool
is_version text = is_number (before_first is_point text) && is_number (after_first is_point text)
