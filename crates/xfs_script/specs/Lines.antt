-- The lines of a text: a line ends with a line feed or the end of the text, and a carriage return before that is dropped.
use Rattle.std.specs.Prelude.{◌≡◌, ℕ, zero, suc, ◌+◌, ◌-◌, ◌<◌, Bool, false, ◌==◌, nat_lt, List, [], ◌∷◌, ◌++◌, length, take, drop, slice_index, if◌then◌else◌}
use Rattle.std.specs.List.{position_or_len}

abbrev pub is_line_feed : ℕ → Bool
is_line_feed b = b == 10

-- the place of the first line feed, or the length where there is none
abbrev pub line_end : List ℕ → ℕ
line_end text = position_or_len is_line_feed text

abbrev pub has_line_feed : List ℕ → Bool
has_line_feed text = nat_lt (line_end text) (length text)

-- the bytes without one carriage return at their end
abbrev pub without_return : List ℕ → List ℕ
without_return bytes = if slice_index bytes (length bytes - 1) == 13 then take (length bytes - 1) bytes else bytes

-- the first line of a text
abbrev pub first_line : List ℕ → List ℕ
first_line text = without_return (take (line_end text) text)

-- what stands behind the first line and its line feed
abbrev pub rest : List ℕ → List ℕ
rest text = drop (line_end text + 1) text

-- what stands behind the first n lines of a text
abbrev pub behind : ℕ → List ℕ → List ℕ
behind zero text = text
behind (suc n) text = rest (behind n text)

-- the first n lines of a text
abbrev pub first_lines : ℕ → List ℕ → List (List ℕ)
first_lines zero text = []
first_lines (suc n) text = first_lines n text ++ first_line (behind n text) ∷ []

-- the first n lines of a text are lines of a command
abbrev pub AreLines : (List ℕ → Type 0) → ℕ → List ℕ → Type 0
AreLines IsLine n text = (i : ℕ) → i < n → IsLine (first_line (behind i text))

-- every line of the text is a line of the command
pub record AllLines (IsLine : List ℕ → Type 0) (text : List ℕ) : Type 0 where
  pub many : ℕ
  pub lines : AreLines IsLine many text
  pub whole : behind many text ≡ []

-- the text has a first line that is none of the command's, and before it lines alone
pub record StopsAtLine (IsLine : List ℕ → Type 0) (text : List ℕ) : Type 0 where
  pub many : ℕ
  pub lines : AreLines IsLine many text
  pub none : ¬ (IsLine (first_line (behind many text)))

-- between the first lines of a text and the bytes that are left no further line ends
pub record NoLineEnds (many : ℕ) (text left : List ℕ) : Type 0 where
  pub prefix : List ℕ
  pub split : behind many text ≡ prefix ++ left
  pub unended : has_line_feed prefix ≡ false
