-- The lines of a side, one line after another, and that a side is as if it were alone.
use Rattle.std.proofs.Common.{◌≡◌, ◌⊎◌, ℕ, false, List, [], ◌∷◌, ◌++◌, inl, inr, refl, ap, sym, subst, ◌∙◌, drop, map, append_assoc, arith}
use Rattle.std.specs.Prelude.{filter, nat_eq}
use Rattle.std.proofs.lemmas.Bool.{eq-eqb}
use Rattle.std.proofs.lemmas.List.{append-nil, map-append}
use Rattle.std.specs.declared.option.Option.{Option}
use Rattle.std.proofs.lemmas.List.Elements.{filter-append}
use Rattle.xfs_script.specs.Answered.{AnswersEach, lines_text}
use Rattle.xfs_script.specs.Commands.{Command}
use Rattle.xfs_script.specs.Endings.{AnswersInput}
use Rattle.xfs_script.specs.Lines.{first_lines}
use Rattle.xfs_script.specs.FleetLines.{IsOf, is_of_side, letter_a, letter_b, side}
use Rattle.xfs_script.proofs.AnswerLaws.{lines_text-append}
use Rattle.xfs_sides.specs.Sides.{AnswersMarked, AnswersSide, AreAlone, IsAlone, IsPassedOver, IsSideLine, Sides, sides}
use Rattle.xfs_script.specs.declared.answerer.Ending.TheVariants.{AtEnd}
use Rattle.xfs_script.specs.Words.{IsSkipped}

pub side-append : (letter : ℕ) (xs ys : List (List ℕ)) → side letter (xs ++ ys) ≡ side letter xs ++ side letter ys
side-append letter xs ys = ap (map (drop 2)) (filter-append (is_of_side letter) xs ys) ∙ map-append (drop 2) (filter (is_of_side letter) xs) (filter (is_of_side letter) ys)

-- its own line, another's, and one that is skipped
pub side-own : (letter : ℕ) (behind : List ℕ) (lines : List (List ℕ)) → side letter ((letter ∷ 32 ∷ behind) ∷ lines) ≡ behind ∷ side letter lines
side-own letter behind lines = rw (eq-eqb letter letter refl) refl

pub side-other : (letter other : ℕ) (behind : List ℕ) (lines : List (List ℕ)) → nat_eq letter other ≡ false → side letter ((other ∷ 32 ∷ behind) ∷ lines) ≡ side letter lines
side-other letter other behind lines is = rw is refl

pub side-skipped : (letter : ℕ) (text : List ℕ) (lines : List (List ℕ)) → nat_eq letter 35 ≡ false → IsSkipped text → side letter (text ∷ lines) ≡ side letter lines
side-skipped letter [] lines other is = refl
side-skipped letter (first ∷ rest) lines other is = rw is (rw other refl)

-- lines with a side's two bytes in front, and with another's
pub side-marked : (letter : ℕ) (lines : List (List ℕ)) → side letter (map (λ line. letter ∷ 32 ∷ line) lines) ≡ lines
side-marked letter [] = refl
side-marked letter (line ∷ lines) = side-own letter line (map (λ l. letter ∷ 32 ∷ l) lines) ∙ ap (λ ls. line ∷ ls) (side-marked letter lines)

pub side-unmarked : (letter other : ℕ) (lines : List (List ℕ)) → nat_eq letter other ≡ false → side letter (map (λ line. other ∷ 32 ∷ line) lines) ≡ []
side-unmarked letter other [] is = refl
side-unmarked letter other (line ∷ lines) is = side-other letter other line (map (λ l. other ∷ 32 ∷ l) lines) is ∙ side-unmarked letter other lines is

-- ---- one line, as a side sees it

module _ {S : Type 0} (Answers : S → List ℕ → List (List ℕ) → S → Type 0) where
  -- nothing of a line is the side's
  passes : (letter : ℕ) (start : S) (text : List ℕ) (lines answer later : List (List ℕ)) (last : S)
      → side letter (text ∷ lines) ≡ side letter lines → side letter answer ≡ [] → IsAlone Answers letter start lines later last → IsAlone Answers letter start (text ∷ lines) (answer ++ later) last
  passes letter start text lines answer later last line none alone = record {
    answers = alone.answers;
    each = subst (λ ls. AnswersEach Answers start ls alone.answers last) (sym line) alone.each;
    written = ap lines_text (side-append letter answer later ∙ ap (λ ls. ls ++ side letter later) none) ∙ alone.written;
  }

  -- a line is the side's
  takes : (letter : ℕ) (start next : S) (behind : List ℕ) (lines output later : List (List ℕ)) (last : S)
      → AnswersMarked Answers letter output start next behind → IsAlone Answers letter next lines later last → IsAlone Answers letter start ((letter ∷ 32 ∷ behind) ∷ lines) (output ++ later) last
  takes letter start next behind lines output later last is alone = record {
    answers = is.answer ++ alone.answers;
    each = subst (λ ls. AnswersEach Answers start ls (is.answer ++ alone.answers) last) (sym (side-own letter behind lines))
        (record { answer = is.answer; next = next; later = alone.answers; answered = is.answers; follows = alone.each; joined = refl });
    written = ap lines_text (side-append letter output later ∙ ap (λ ls. ls ++ side letter later) own)
        ∙ (lines_text-append is.marked.lines (side letter later)
        ∙ (ap (λ t. t ++ lines_text (side letter later)) is.marked.same ∙ (ap (λ t. lines_text is.answer ++ t) alone.written ∙ sym (lines_text-append is.answer alone.answers))));
  }
    where
      own : side letter output ≡ is.marked.lines
      own = ap (side letter) is.marked.marked ∙ side-marked letter is.marked.lines

  -- a line of the other side has no part in this one
  record IsElsewhere (other : ℕ) (start : S) (text : List ℕ) (answer : List (List ℕ)) (next : S) : Type 0 where
    pub behind : List ℕ
    pub text_is : text ≡ other ∷ 32 ∷ behind
    pub lines : List (List ℕ)
    pub marked : answer ≡ map (λ line. other ∷ 32 ∷ line) lines
    pub same : next ≡ start

  -- what one line is to a side: passed over, its own, or the other's
  abbrev IsStep : ℕ → ℕ → S → List ℕ → List (List ℕ) → S → Type 0
  IsStep letter other start text answer next = IsPassedOver start text answer next ⊎ (IsOf letter (AnswersMarked Answers letter answer start next) text ⊎ IsElsewhere other start text answer next)

  steps : (letter other : ℕ) → nat_eq letter 35 ≡ false → nat_eq letter other ≡ false → (start next : S) (text : List ℕ) (lines answer later : List (List ℕ)) (last : S)
      → IsStep letter other start text answer next → IsAlone Answers letter next lines later last → IsAlone Answers letter start (text ∷ lines) (answer ++ later) last
  steps letter other plain apart start next text lines answer later last (inl over) alone =
      rw over.none (passes letter start text lines [] later last (side-skipped letter text lines plain over.skipped) refl (rw over.same at alone))
  steps letter other plain apart start next text lines answer later last (inr (inl own)) alone =
      rw own.text_is (takes letter start next own.behind lines answer later last own.is alone)
  steps letter other plain apart start next text lines answer later last (inr (inr elsewhere)) alone =
      rw elsewhere.text_is (passes letter start (other ∷ 32 ∷ elsewhere.behind) lines answer later last (side-other letter other elsewhere.behind lines apart)
      (ap (side letter) elsewhere.marked ∙ side-unmarked letter other elsewhere.lines apart) (rw elsewhere.same at alone))

module _ {S E : Type 0} (c : Command S E) where
  step-a : (start next : Sides S) (text : List ℕ) (answer : List (List ℕ)) → AnswersSide c start text answer next → IsStep c.Answers letter_a letter_b start.a text answer next.a
  step-a start next text answer is = elim is.done [
    | inl over ↦ inl (record { skipped = over.skipped; none = over.none; same = ap (λ (s : Sides S). s.a) over.same })
    | inr (inl own) ↦ inr (inl own.0)
    | inr (inr else) ↦ inr (inr (record { behind = else.0.behind; text_is = else.0.text_is; lines = else.0.is.marked.lines; marked = else.0.is.marked.marked; same = else.1 }))
  ]

  step-b : (start next : Sides S) (text : List ℕ) (answer : List (List ℕ)) → AnswersSide c start text answer next → IsStep c.Answers letter_b letter_a start.b text answer next.b
  step-b start next text answer is = elim is.done [
    | inl over ↦ inl (record { skipped = over.skipped; none = over.none; same = ap (λ (s : Sides S). s.b) over.same })
    | inr (inr own) ↦ inr (inl own.0)
    | inr (inl else) ↦ inr (inr (record { behind = else.0.behind; text_is = else.0.text_is; lines = else.0.is.marked.lines; marked = else.0.is.marked.marked; same = else.1 }))
  ]

  pub alone-a : (start : Sides S) (lines output : List (List ℕ)) (last : Sides S) → AnswersEach (AnswersSide c) start lines output last → IsAlone c.Answers letter_a start.a lines output last.a
  alone-a start [] output last each = record { answers = []; each = (refl, ap (λ (s : Sides S). s.a) each.1); written = ap (λ ls. lines_text (side letter_a ls)) each.0 }
  alone-a start (text ∷ lines) output last each =
      rw each.joined (steps c.Answers letter_a letter_b refl refl start.a each.next.a text lines each.answer each.later last.a (step-a start each.next text each.answer each.answered) (alone-a each.next lines each.later last each.follows))

  pub alone-b : (start : Sides S) (lines output : List (List ℕ)) (last : Sides S) → AnswersEach (AnswersSide c) start lines output last → IsAlone c.Answers letter_b start.b lines output last.b
  alone-b start [] output last each = record { answers = []; each = (refl, ap (λ (s : Sides S). s.b) each.1); written = ap (λ ls. lines_text (side letter_b ls)) each.0 }
  alone-b start (text ∷ lines) output last each =
      rw each.joined (steps c.Answers letter_b letter_a refl refl start.b each.next.b text lines each.answer each.later last.b (step-b start each.next text each.answer each.answered) (alone-b each.next lines each.later last each.follows))

  pub are-alone : (start end : Sides S) (left before after : Option (List ℕ)) (text : List ℕ) → AnswersInput (sides c) AtEnd start end left before after text → AreAlone c start end before after text
  are-alone start end left before after text is =
      let last = is.ends.1 in
      rw last.same (record {
        many = is.many;
        whole = is.ends.0;
        output = is.output;
        written = rw (append-nil (lines_text is.output)) at (rw last.none at is.written);
        at_a = alone-a start (first_lines is.many text) is.output is.last is.each;
        at_b = alone-b start (first_lines is.many text) is.output is.last is.each;
      })

  -- ---- the lines of the command over two sides

  pub empty-line : IsSideLine c []
  empty-line = record { short = omega arith; is = inl tt }
