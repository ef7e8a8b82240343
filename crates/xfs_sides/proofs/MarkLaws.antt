-- The lines of an answer are marked one after another.
use Rattle.std.proofs.Common.{◌≡◌, ℕ, suc, ◌+◌, ◌-◌, ◌<◌, false, List, [], ◌∷◌, ◌++◌, length, take, drop, get_or, map, All, None, Some, refl, ap, sym, ◌∙◌, append_assoc, arith, length-append, eqb-true, eq-eqb}
use Rattle.std.proofs.lemmas.List.{get_or-append-add, get_or-take, length-take-le, map-append, take-append-drop, take_more, append-nil}
use Rattle.std.proofs.lemmas.List.Elements.{All-nil, All-push}
use Rattle.std.proofs.lemmas.Bool.{false_from_ne_true, ltb-true}
use Rattle.memchr.specs.Find.{IsFirstByte, is_byte}
use Rattle.xfs_script.specs.Answered.{IsAnswerText, lines_text}
use Rattle.xfs_script.specs.Lines.{has_line_feed}
use Rattle.xfs_sides.specs.Sides.{IsMarked}
use Rattle.xfs_script.proofs.Ends.{none_is}
use Rattle.xfs_script.proofs.AnswerLaws.{lines_text-append}

-- the first lines of a text are marked, and this is left of it
pub record IsMarkedUpTo (letter : ℕ) (text rest marked : List ℕ) : Type 0 where
  pub lines : List (List ℕ)
  pub cut : All (λ line. has_line_feed line ≡ false) lines
  pub split : text ≡ lines_text lines ++ rest
  pub marked_are : marked ≡ lines_text (map (λ line. letter ∷ 32 ∷ line) lines)

pub none_marked : (letter : ℕ) (text marked : List ℕ) → marked ≡ [] → IsMarkedUpTo letter text text marked
none_marked letter text marked none = record { lines = []; cut = All-nil _; split = refl; marked_are = none }

-- what stands before the first line feed has none
front_whole : (text : List ℕ) (end : ℕ) → IsFirstByte (is_byte 10) text (Some end) → has_line_feed (take end text) ≡ false
front_whole text end first =
    let front = take end text in
    let high = first.0.high in
    let size : length front ≡ end = length-take-le end text (omega (arith, high)) in
    let nowhere : IsFirstByte (is_byte 10) front None = λ k low below is. first.0.before k low (omega (arith, below, size)) (rw (get_or-take end text k 0 (omega (arith, below, size))) at is) in
    let none = none_is front 0 (omega arith) nowhere in
    false_from_ne_true (has_line_feed front) (λ has. let less = ltb-true _ _ has in omega (arith, less, none))

front_is : (text : List ℕ) (end : ℕ) → IsFirstByte (is_byte 10) text (Some end) → take (end + 1) text ≡ take end text ++ 10 ∷ []
front_is text end first = take_more text end 0 first.0.high ∙ ap (λ b. take end text ++ b ∷ []) (eqb-true _ _ first.1)

-- one more line
pub next_marked : (letter : ℕ) (text rest marked more most : List ℕ) (end : ℕ) → IsMarkedUpTo letter text rest marked → IsFirstByte (is_byte 10) rest (Some end)
    → more ≡ marked ++ letter ∷ 32 ∷ [] → most ≡ more ++ take (end + 1) rest → IsMarkedUpTo letter text (drop (end + 1) rest) most
next_marked letter text rest marked more most end is first begun done = record {
  lines = is.lines ++ line ∷ [];
  cut = All-push (λ l. has_line_feed l ≡ false) is.lines line is.cut (front_whole rest end first);
  split = is.split ∙ (ap (λ r. lines_text is.lines ++ r) (sym (take-append-drop (end + 1) rest) ∙ ap (λ t. t ++ drop (end + 1) rest) (front_is rest end first))
      ∙ (sym (append_assoc (lines_text is.lines) (line ++ 10 ∷ []) (drop (end + 1) rest)) ∙ ap (λ t. t ++ drop (end + 1) rest) (sym (lines_text-append is.lines (line ∷ [])))));
  marked_are = done ∙ (ap (λ t. t ++ take (end + 1) rest) (begun ∙ ap (λ m. m ++ letter ∷ 32 ∷ []) is.marked_are)
      ∙ (append_assoc (lines_text (map mark is.lines)) (letter ∷ 32 ∷ []) (take (end + 1) rest) ∙ (ap (λ t. lines_text (map mark is.lines) ++ letter ∷ 32 ∷ t) (front_is rest end first)
      ∙ (sym (lines_text-append (map mark is.lines) (mark line ∷ [])) ∙ ap lines_text (sym (map-append mark is.lines (line ∷ [])))))));
}
  where
    line : List ℕ
    line = take end rest

    mark : List ℕ → List ℕ
    mark l = letter ∷ 32 ∷ l

-- lines end with a line feed
ends : (lines : List (List ℕ)) → 0 < length (lines_text lines) → get_or (lines_text lines) (length (lines_text lines) - 1) 0 ≡ 10
ends [] some = absurd (omega arith)
ends (line ∷ lines) some = go (lines_text lines) (ends lines)
  where
    go : (text : List ℕ) → (0 < length text → get_or text (length text - 1) 0 ≡ 10) → get_or (line ++ 10 ∷ text) (length (line ++ 10 ∷ text) - 1) 0 ≡ 10
    go [] later =
        let place : length (line ++ 10 ∷ []) - 1 ≡ length line + 0 = omega (arith, length-append line (10 ∷ [])) in
        rw place (get_or-append-add line (10 ∷ []) 0 0)
    go (b ∷ text) later =
        let place : length (line ++ 10 ∷ b ∷ text) - 1 ≡ length line + suc (length (b ∷ text) - 1) = omega (arith, length-append line (10 ∷ b ∷ text)) in
        rw place (get_or-append-add line (10 ∷ b ∷ text) (suc (length (b ∷ text) - 1)) 0 ∙ later (omega arith))

-- so nothing is left of them behind the last one
no_rest : (answer : List (List ℕ)) (front rest : List ℕ) → lines_text answer ≡ front ++ rest → IsFirstByte (is_byte 10) rest None → rest ≡ []
no_rest answer front [] is none = refl
no_rest answer front (b ∷ rest) is none =
    let size : length (lines_text answer) ≡ length front + suc (length rest) = ap length is ∙ length-append front (b ∷ rest) in
    let last = ends answer (omega (arith, size)) in
    let place : length (lines_text answer) - 1 ≡ length front + length rest = omega (arith, size) in
    let here : get_or (b ∷ rest) (length rest) 0 ≡ 10 = sym (get_or-append-add front (b ∷ rest) (length rest) 0) ∙ (ap (λ t. get_or t (length front + length rest) 0) (sym is) ∙ (rw place at last)) in
    absurd (none (length rest) (omega arith) (omega arith) (eq-eqb _ _ here))

pub all_marked : (letter : ℕ) (text rest marked : List ℕ) → IsMarkedUpTo letter text rest marked → IsFirstByte (is_byte 10) rest None
    → (answer : List (List ℕ)) → text ≡ lines_text answer → IsAnswerText (λ output _. IsMarked letter answer output) marked answer
all_marked letter text rest marked is none answer whole =
    let left = no_rest answer (lines_text is.lines) rest (sym whole ∙ is.split) none in
    record {
      output = map (λ line. letter ∷ 32 ∷ line) is.lines;
      answer = record { lines = is.lines; same = sym (append-nil (lines_text is.lines)) ∙ (ap (λ r. lines_text is.lines ++ r) (sym left) ∙ (sym is.split ∙ whole)); cut = is.cut; marked = refl };
      text = is.marked_are;
    }
