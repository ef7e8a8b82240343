-- Dispense amounts: what the values of the keys DISPENSE1 to DISPENSE9 say, in thousandths of a currency's unit.
use Rattle.std.specs.Prelude.{◌≡◌, ℕ, ◌+◌, ◌-◌, ◌*◌, ◌/◌, ◌%◌, ◌≤◌, ◌==◌, ◌&&◌, not, nat_le, nat_lt, IsTrue, Bool, true, List, [], ◌∷◌, ◌++◌, length, take, drop, codes, if◌then◌else◌, fold, map, find, is_some, None, Some, unwrap_or}
use Rattle.std.specs.Option.{option_map, option_and_then}
use Rattle.std.specs.declared.option.Option.{Option}
use Rattle.std.specs.List.{list_all, list_any, before_first}
use Rattle.std.specs.Str.{bytes_eq}
use Rattle.std.specs.Fmt.{decimal}
use Rattle.xfs_token.specs.Token.{Parts, Genuine, is_digit, is_letter}

-- the number that decimal digits write
abbrev pub number_of : List ℕ → ℕ
number_of digits = fold (λ n b. 10 * n + (b - 48)) 0 digits

-- a currency's three letters
abbrev pub is_currency : List ℕ → Bool
is_currency bytes = length bytes == 3 && list_all is_letter bytes

-- 1 to 9 digits
abbrev pub is_whole : List ℕ → Bool
is_whole digits = nat_le 1 (length digits) && nat_le (length digits) 9 && list_all is_digit digits

-- nothing, or a point and 1 to 3 digits
abbrev pub is_part : List ℕ → Bool
is_part [] = true
is_part (b ∷ digits) = b == 46 && nat_le 1 (length digits) && nat_le (length digits) 3 && list_all is_digit digits

-- digits filled up with zeros to three places
abbrev pub filled : List ℕ → List ℕ
filled digits = take 3 (digits ++ codes "000")

-- the thousandths of a number and what stands from its point on
abbrev pub thousandths : List ℕ → List ℕ → ℕ
thousandths whole part = 1000 * number_of whole + number_of (filled (drop 1 part))

-- an amount of a number, what stands from its point on, and a currency, where each is of the grammar
abbrev pub amount_from : List ℕ → List ℕ → List ℕ → Option (List ℕ × ℕ)
amount_from whole part currency = if is_whole whole && is_part part && is_currency currency then Some (currency, thousandths whole part) else None

-- a number is cut before its first point
abbrev pub amount_before : List ℕ → List ℕ → Option (List ℕ × ℕ)
amount_before number currency = let whole = before_first (λ b. b == 46) number in amount_from whole (drop (length whole) number) currency

-- the currency and the thousandths of an amount's text: its last three bytes, and the number before them
unfoldable pub read_amount : List ℕ → Option (List ℕ × ℕ)
read_amount text = amount_before (take (length text - 3) text) (drop (length text - 3) text)

-- the key of a number from 1 to 9
abbrev pub dispense_key : ℕ → List ℕ
dispense_key n = codes "DISPENSE" ++ (48 + n) ∷ []

-- what stands under a key
abbrev pub value_under : List ℕ → List (List ℕ × List ℕ) → Option (List ℕ)
value_under key pairs = option_map (λ p. p.1) (find (λ p. bytes_eq p.0 key) pairs)

-- what stands under the dispense keys, in the order of their numbers
abbrev pub dispense_values : List (List ℕ × List ℕ) → List (Option (List ℕ))
dispense_values pairs = map (λ n. value_under (dispense_key n) pairs) (1 ∷ 2 ∷ 3 ∷ 4 ∷ 5 ∷ 6 ∷ 7 ∷ 8 ∷ 9 ∷ [])

-- the values that are there, where none is missing before one of them
abbrev pub without_gap : List (Option (List ℕ)) → Option (List (List ℕ))
without_gap [] = Some []
without_gap (None ∷ rest) = if list_any is_some rest then None else Some []
without_gap (Some value ∷ rest) = option_map (λ values. value ∷ values) (without_gap rest)

-- the amounts of texts, where each is one
abbrev pub read_amounts : List (List ℕ) → Option (List (List ℕ × ℕ))
read_amounts [] = Some []
read_amounts (text ∷ texts) = option_and_then (λ amount. option_map (λ amounts. amount ∷ amounts) (read_amounts texts)) (read_amount text)

abbrev pub has_currency : List ℕ → List (List ℕ × ℕ) → Bool
has_currency currency amounts = list_any (λ a. bytes_eq a.0 currency) amounts

-- amounts behind earlier ones: each currency is new behind all before it
abbrev pub are_new : List (List ℕ × ℕ) → List (List ℕ × ℕ) → Bool
are_new earlier [] = true
are_new earlier (a ∷ rest) = not (has_currency a.0 earlier) && are_new (earlier ++ a ∷ []) rest

-- an amount that may be paid: a currency's letters, and at most 999,999,999,999 thousandths
abbrev pub is_payable : List ℕ → ℕ → Bool
is_payable currency n = is_currency currency && nat_le n 999999999999

-- one to nine amounts that may be paid, of different currencies
pub record IsAmounts (amounts : List (List ℕ × ℕ)) : Type 0 where
  pub low : 1 ≤ length amounts
  pub high : length amounts ≤ 9
  pub payable : IsTrue (list_all (λ a. is_payable a.0 a.1) amounts)
  pub different : IsTrue (are_new [] amounts)

-- an amount that may be added to these
abbrev pub may_add : List (List ℕ × ℕ) → List ℕ → ℕ → Bool
may_add amounts currency n = is_payable currency n && nat_lt (length amounts) 9 && not (has_currency currency amounts)

-- amounts, where there is one and their currencies differ
abbrev pub valid_amounts : List (List ℕ × ℕ) → Option (List (List ℕ × ℕ))
valid_amounts amounts = if nat_le 1 (length amounts) && are_new [] amounts then Some amounts else None

-- the amounts of a token, currency and thousandths
unfoldable pub amounts_of : Parts → Option (List (List ℕ × ℕ))
amounts_of t = option_and_then valid_amounts (option_and_then read_amounts (without_gap (dispense_values t.pairs)))

-- what amounts have of a currency, and 0 where they have none of it
unfoldable pub amount_in : List (List ℕ × ℕ) → List ℕ → ℕ
amount_in amounts currency = unwrap_or (option_map (λ a. a.1) (find (λ a. bytes_eq a.0 currency) amounts)) 0

-- the amount of a token in a currency, and 0 where it has no amounts or none of it
unfoldable pub amount : Parts → List ℕ → ℕ
amount t currency = amount_in (unwrap_or (amounts_of t) []) currency

-- a point and two decimals of thousandths, and a third where the last thousandth is not 0
abbrev pub decimals : ℕ → List ℕ
decimals n =
    if n % 10 == 0 then 46 ∷ (48 + n / 100 % 10) ∷ (48 + n / 10 % 10) ∷ []
    else 46 ∷ (48 + n / 100 % 10) ∷ (48 + n / 10 % 10) ∷ (48 + n % 10) ∷ []

-- the text of an amount
abbrev pub amount_text : List ℕ → ℕ → List ℕ
amount_text currency n = decimal (n / 1000) ++ decimals n ++ currency

-- the dispense keys of amounts, from the number n on
abbrev pub dispense_pairs : ℕ → List (List ℕ × ℕ) → List (List ℕ × List ℕ)
dispense_pairs n [] = []
dispense_pairs n (a ∷ rest) = (dispense_key n, amount_text a.0 a.1) ∷ dispense_pairs (n + 1) rest

-- the bytes are a genuine token with this nonce, and these amounts under the dispense keys in their order
pub record IsMade (key nonce : List ℕ) (amounts : List (List ℕ × ℕ)) (bytes : List ℕ) : Type 0 where
  pub token : Parts
  pub genuine : Genuine key token bytes
  pub nonce_kept : token.nonce ≡ nonce
  pub pairs : token.pairs ≡ dispense_pairs 1 amounts
  pub amounts_kept : amounts_of token ≡ Some amounts
