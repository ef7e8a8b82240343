-- A command over two sides: a line has the letter of its side and a space in front of a line of the command itself, which is answered at that side, while the other stays as it is.
use Rattle.std.specs.Prelude.{◌≡◌, ◌⊎◌, ◌≤◌, ℕ, false, All, List, [], ◌∷◌, length, map}
use Rattle.std.proofs.Common.{inl, inr}
use Rattle.std.specs.declared.option.Option.{Option}
use Rattle.std.specs.Io.KnownBytes.{Appends}
use Rattle.xfs_base.specs.Causes.{IfTold}
use Rattle.xfs_script.specs.Answered.{AnswersEach, IsAnswerText, lines_text}
use Rattle.xfs_script.specs.Commands.{Command}
use Rattle.xfs_script.specs.FleetLines.{IsOf, letter_a, letter_b, side}
use Rattle.xfs_script.specs.Lines.{behind, first_lines, has_line_feed}
use Rattle.xfs_script.specs.Words.{IsSkipped}
use Rattle.xfs_script.specs.declared.feed.TheConstants.{LONGEST_LINE}
use Rattle.xfs_sides.specs.declared.two_sides.TwoSides.{TwoSides}

-- what there is at each side
pub record Sides (S : Type 0) : Type 0 where
  pub a : S
  pub b : S

-- what is seen of two
abbrev pub both : {A S : Type 0} → (A → S) → A → A → Sides S
both see a b = record { a = see a; b = see b }

-- the bytes of these lines, cut into lines, each with the two bytes of a side in front
pub record IsMarked (letter : ℕ) (answer output : List (List ℕ)) : Type 0 where
  pub lines : List (List ℕ)
  pub same : lines_text lines ≡ lines_text answer
  pub cut : All (λ line. has_line_feed line ≡ false) lines
  pub marked : output ≡ map (λ line. letter ∷ 32 ∷ line) lines

-- a text, where it is that of lines, is marked: each of its lines has the two bytes of a side in front
abbrev pub MarksEach : ℕ → List ℕ → List ℕ → Type 0
MarksEach letter text marked = (answer : List (List ℕ)) → text ≡ lines_text answer → IsAnswerText (λ output _. IsMarked letter answer output) marked answer

-- something happens at the side of its letter, and the other stays as it is
abbrev pub AtOneSide : {S : Type 0} → (ℕ → S → S → Type 0) → Sides S → Sides S → Type 0
AtOneSide Happens old new = (Happens letter_a old.a new.a × (new.b ≡ old.b)) ⊎ (Happens letter_b old.b new.b × (new.a ≡ old.a))

-- a line of the command is answered so, and each line of that has the side's two bytes in front
pub record AnswersMarked {S : Type 0} (Answers : S → List ℕ → List (List ℕ) → S → Type 0) (letter : ℕ) (output : List (List ℕ)) (old new : S) (line : List ℕ) : Type 0 where
  pub answer : List (List ℕ)
  pub answers : Answers old line answer new
  pub marked : IsMarked letter answer output

-- the bytes are those of the marked answer to a line
abbrev pub IsMarkedText : {S E : Type 0} → Command S E → ℕ → S → List ℕ → List ℕ → S → Type 0
IsMarkedText c letter old line bytes new = IsAnswerText (λ output next. AnswersMarked c.Answers letter output old next line) bytes new

-- a line that is skipped has no answer
pub record IsPassedOver {S : Type 0} (old : S) (text : List ℕ) (output : List (List ℕ)) (new : S) : Type 0 where
  pub skipped : IsSkipped text
  pub none : output ≡ []
  pub same : new ≡ old

module _ {S E : Type 0} (c : Command S E) where
  -- a line that is skipped, or one of a side
  pub record IsSideLine (text : List ℕ) : Type 0 where
    pub short : length text ≤ LONGEST_LINE
    pub is : IsSkipped text ⊎ (IsOf letter_a c.IsLine text ⊎ IsOf letter_b c.IsLine text)

  -- a line is passed over, or answered at its side
  pub record AnswersSide (old : Sides S) (text : List ℕ) (output : List (List ℕ)) (new : Sides S) : Type 0 where
    pub short : length text ≤ LONGEST_LINE
    pub done : IsPassedOver old text output new ⊎ AtOneSide (λ letter was now. IsOf letter (AnswersMarked c.Answers letter output was now) text) old new

  -- the command, where want of memory may leave a line done whose answer isn't written
  abbrev pub unwritten : Command S E
  unwritten = record c { Leaves = λ s line next. c.Leaves s line next ⊎ ((answer : List (List ℕ)) × c.Answers s line answer next) }

  -- want of memory leaves nothing of a line, or this of it at its side
  abbrev pub LeavesSide : Sides S → List ℕ → Sides S → Type 0
  LeavesSide old text new = (new ≡ old) ⊎ AtOneSide (λ letter was now. IsOf letter (λ line. unwritten.Leaves was line now) text) old new

  -- the command over two sides ends where a side ends
  abbrev pub EndsAtSide : Sides S → List ℕ → E → Sides S → Type 0
  EndsAtSide old text why new = AtOneSide (λ letter was now. IsOf letter (λ line. c.EndsAt was line why now) text) old new

  -- the command over two sides
  abbrev pub sides : Command (Sides S) E
  sides = record { IsLine = IsSideLine; Answers = AnswersSide; Leaves = LeavesSide; EndsAt = EndsAtSide }

  -- what is answered is a line
  pub answered-line : ((s next : S) (line : List ℕ) (answer : List (List ℕ)) → c.Answers s line answer next → c.IsLine line)
      → (old new : Sides S) (text : List ℕ) (output : List (List ℕ)) → AnswersSide old text output new → IsSideLine text
  answered-line lines old new text output is = record {
    short = is.short;
    is = elim is.done [
      | inl over ↦ inl over.skipped
      | inr (inl at_a) ↦ inr (inl (record { behind = at_a.0.behind; text_is = at_a.0.text_is; is = lines _ _ _ _ at_a.0.is.answers }))
      | inr (inr at_b) ↦ inr (inr (record { behind = at_b.0.behind; text_is = at_b.0.text_is; is = lines _ _ _ _ at_b.0.is.answers }))
    ];
  }

-- One side is as if it were alone: its lines, without their two bytes, are answered each in its turn, and what is written for it, without those bytes, are their answers.
pub record IsAlone {S : Type 0} (Answers : S → List ℕ → List (List ℕ) → S → Type 0) (letter : ℕ) (start : S) (lines output : List (List ℕ)) (last : S) : Type 0 where
  pub answers : List (List ℕ)
  pub each : AnswersEach Answers start (side letter lines) answers last
  pub written : lines_text (side letter output) ≡ lines_text answers

-- the whole input was read: each side is as if it were alone, and the sink took what was written for both
pub record AreAlone {S E : Type 0} (c : Command S E) (start end : Sides S) (before after : Option (List ℕ)) (text : List ℕ) : Type 0 where
  pub many : ℕ
  pub whole : behind many text ≡ []
  pub output : List (List ℕ)
  pub written : Appends before after (lines_text output)
  pub at_a : IsAlone c.Answers letter_a start.a (first_lines many text) output end.a
  pub at_b : IsAlone c.Answers letter_b start.b (first_lines many text) output end.b

-- an input that is told was read to its end, with each side as if it were alone
abbrev pub AnswersAlone : {A S E : Type 0} → Command S E → (A → S) → TwoSides A E → TwoSides A E → Option (List ℕ) → Option (List ℕ) → Option (List ℕ) → Type 0
AnswersAlone c see old new input before after = IfTold input (AreAlone c (both see old.a old.b) (both see new.a new.b) before after)
