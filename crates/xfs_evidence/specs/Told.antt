-- What the pairs of an evidence tell: under ISSUE the number of an Issue, and under PRESENTED1 onwards at most eight amounts, whose currencies rise.
use Rattle.std.specs.Prelude.{◌≡◌, ℕ, ◌+◌, ◌-◌, ◌/◌, ◌%◌, ◌≤◌, ◌==◌, ◌&&◌, nat_le, nat_lt, Bool, true, IsTrue, List, [], ◌∷◌, ◌++◌, length, map, slice_index, codes, Some, None, if◌then◌else◌}
use Rattle.std.specs.declared.option.Option.{Option}
use Rattle.std.specs.Option.{option_map, option_and_then}
use Rattle.std.specs.Fmt.{decimal}
use Rattle.std.specs.Cmp.Lexicographic.{slice_cmp}
use Rattle.std.specs.Ordering.{is_lt, nat_cmp}
use Rattle.xfs_token.specs.Amounts.{read_amount}

-- the key of a number from 1 to 8
abbrev pub presented_key : ℕ → List ℕ
presented_key n = codes "PRESENTED" ++ (48 + n) ∷ []

-- values under the keys from the number n on
abbrev pub presented_pairs : ℕ → List (List ℕ) → List (List ℕ × List ℕ)
presented_pairs n [] = []
presented_pairs n (text ∷ texts) = (presented_key n, text) ∷ presented_pairs (n + 1) texts

-- an amount, where it isn't 0
abbrev pub unless_nothing : Option (List ℕ × ℕ) → Option (List ℕ × ℕ)
unless_nothing None = None
unless_nothing (Some a) = if nat_lt 0 a.1 then Some a else None

-- the amount of a text that has two decimals: a point stands before them and the currency's three letters. None where it is 0
abbrev pub told_amount : List ℕ → Option (List ℕ × ℕ)
told_amount text = if nat_le 6 (length text) && slice_index text (length text - 6) == 46 then unless_nothing (read_amount text) else None

-- the text of an amount, with two decimals
abbrev pub told_text : List ℕ × ℕ → List ℕ
told_text a = decimal (a.1 / 1000) ++ 46 ∷ (48 + a.1 / 100 % 10) ∷ (48 + a.1 / 10 % 10) ∷ [] ++ a.0

-- the pairs that tell an issue and amounts
abbrev pub told_pairs : ℕ → List (List ℕ × ℕ) → List (List ℕ × List ℕ)
told_pairs issue amounts = (codes "ISSUE", decimal issue) ∷ presented_pairs 1 (map told_text amounts)

-- the amounts of texts, where each is one
abbrev pub told_amounts : List (List ℕ) → Option (List (List ℕ × ℕ))
told_amounts [] = Some []
told_amounts (text ∷ texts) = option_and_then (λ amount. option_map (λ amounts. amount ∷ amounts) (told_amounts texts)) (told_amount text)

-- a currency comes before another in the order of bytes
abbrev pub is_before : List ℕ → List ℕ → Bool
is_before c d = is_lt (slice_cmp nat_cmp c d)

-- each currency comes before the next
abbrev pub are_rising : List (List ℕ × ℕ) → Bool
are_rising [] = true
are_rising (a ∷ []) = true
are_rising (a ∷ b ∷ rest) = is_before a.0 b.0 && are_rising (b ∷ rest)

-- the pairs of a token tell this issue and these amounts, as those of an evidence do
pub record AreEvidencePairs (pairs : List (List ℕ × List ℕ)) (issue : ℕ) (amounts : List (List ℕ × ℕ)) : Type 0 where
  pub low : 1 ≤ issue
  pub high : issue ≤ 18446744073709551615
  pub texts : List (List ℕ)
  pub pairs_are : pairs ≡ (codes "ISSUE", decimal issue) ∷ presented_pairs 1 texts
  pub amounts_are : told_amounts texts ≡ Some amounts
  pub few : length amounts ≤ 8
  pub rising : IsTrue (are_rising amounts)

-- at most eight amounts of rising currencies, each told by its text
pub record AreTold (amounts : List (List ℕ × ℕ)) : Type 0 where
  pub few : length amounts ≤ 8
  pub rising : IsTrue (are_rising amounts)
  pub texts : told_amounts (map told_text amounts) ≡ Some amounts
