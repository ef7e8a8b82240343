-- Where the first line feed of a text stands, found piece by piece.
use Rattle.std.proofs.Common.{◌≡◌, ℕ, ◌+◌, ◌-◌, ◌<◌, ◌≤◌, List, ◌++◌, length, drop, get_or, not, false, None, Some, eqb, ◌∙◌, arith, inl, inr}
use Rattle.std.proofs.lemmas.List.{get_or-drop, length-drop}
use Rattle.std.proofs.lemmas.List.Sums.{position_or_len_is, fails_before_first, prefix_len-le-length}
use Rattle.std.proofs.lemmas.List.Folds.{prefix_len-append}
use Rattle.std.proofs.lemmas.Bool.{cases_lt, cond-true, cond-false, false_from_ne_true, eq-eqb, ne_eqb}
use Rattle.memchr.specs.Find.{IsFirstByte, is_byte}
use Rattle.xfs_script.specs.Lines.{is_line_feed, line_end}

pub line_end-le : (xs : List ℕ) → line_end xs ≤ length xs
line_end-le xs = prefix_len-le-length _ xs

-- the first line feed of what stands from a place on is that of the whole, where none stands before
pub found_is : (xs : List ℕ) (from i : ℕ) → from ≤ line_end xs → IsFirstByte (is_byte 10) (drop from xs) (Some i) → line_end xs ≡ from + i
found_is xs from i low first =
    let size = length-drop from xs in
    let below : (k : ℕ) → k < from + i → is_line_feed (get_or xs k 0) ≡ false =
    λ k h. elim (cases_lt k from) [
      | inl early ↦ fails_before_first is_line_feed xs k 0 (omega arith)
      | inr late ↦
          let e : from + (k - from) ≡ k = omega arith in
          let none = false_from_ne_true (is_line_feed (get_or (drop from xs) (k - from) 0)) (first.0.before (k - from) (omega arith) (omega arith)) in
          let at = get_or-drop from xs (k - from) 0 in
          rw (← e) (rw at at none)
    ] in
    let here = get_or-drop from xs i 0 in
    let high = first.0.high in
    position_or_len_is is_line_feed xs (from + i) 0 (omega (arith, size, high)) below (λ h. rw here at first.1)

pub none_is : (xs : List ℕ) (from : ℕ) → from ≤ line_end xs → IsFirstByte (is_byte 10) (drop from xs) None → line_end xs ≡ length xs
none_is xs from low nowhere =
    let size = length-drop from xs in
    let below : (k : ℕ) → k < length xs → is_line_feed (get_or xs k 0) ≡ false =
    λ k h. elim (cases_lt k from) [
      | inl early ↦ fails_before_first is_line_feed xs k 0 (omega arith)
      | inr late ↦
          let e : from + (k - from) ≡ k = omega arith in
          let none = false_from_ne_true (is_line_feed (get_or (drop from xs) (k - from) 0)) (nowhere (k - from) (omega arith) (omega (arith, size))) in
          let at = get_or-drop from xs (k - from) 0 in
          rw (← e) (rw at at none)
    ] in
    position_or_len_is is_line_feed xs (length xs) 0 (omega arith) below (λ h. absurd (omega arith))

-- a text with no line feed, and another behind it
pub line_end-append : (xs ys : List ℕ) → line_end xs ≡ length xs → line_end (xs ++ ys) ≡ length xs + line_end ys
line_end-append xs ys none =
    prefix_len-append (λ b. not (is_line_feed b)) xs ys ∙ cond-true (eqb (line_end xs) (length xs)) (length xs + line_end ys) (line_end xs) (eq-eqb (line_end xs) (length xs) none)

-- a text with a line feed, and another behind it
pub line_end-append_found : (xs ys : List ℕ) → line_end xs < length xs → line_end (xs ++ ys) ≡ line_end xs
line_end-append_found xs ys found =
    prefix_len-append (λ b. not (is_line_feed b)) xs ys ∙ cond-false (eqb (line_end xs) (length xs)) (length xs + line_end ys) (line_end xs) (ne_eqb (line_end xs) (length xs) (λ e. absurd (omega arith)))
