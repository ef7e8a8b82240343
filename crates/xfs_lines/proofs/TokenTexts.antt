-- The text of amounts, one behind the other.
use Rattle.std.proofs.Common.{◌≡◌, ℕ, ◌+◌, ◌<◌, ◌≤◌, List, [], ◌∷◌, ◌++◌, length, take, Some, refl, ap, sym, ◌∙◌, arith, append_assoc}
use Rattle.std.specs.Prelude.{codes, slice_get}
use Rattle.std.proofs.lemmas.List.{take_more, length-take-le}
use Rattle.std.proofs.lemmas.Option.{slice_get_within, get_or_from_slice_get}
use Rattle.xfs_script.specs.Answered.{lines_text, IsAnswerText}
use Rattle.xfs_script.specs.declared.token_line.TokenLine.{TokenLine}
use Rattle.xfs_lines.specs.Token.Verbs.{AreTokenAnswer, IsTokenAnswer, thousandths_text, joined_amounts}

-- a prefix with one more
take-push : {X : Type 0} (xs : List X) (i : ℕ) (x : X) → slice_get xs i ≡ Some x → take (i + 1) xs ≡ take i xs ++ x ∷ []
take-push xs i x e = take_more xs i x (slice_get_within xs i x e) ∙ ap (λ y. take i xs ++ y ∷ []) (get_or_from_slice_get xs i x x e)

joined-push : (us : List (List ℕ × ℕ)) (a : List ℕ × ℕ) → 0 < length us → joined_amounts (us ++ a ∷ []) ≡ joined_amounts us ++ 44 ∷ thousandths_text a
joined-push [] a some = absurd (omega arith)
joined-push (x ∷ []) a some = refl
joined-push (x ∷ y ∷ us) a some =
    ap (λ v. thousandths_text x ++ 44 ∷ v) (joined-push (y ∷ us) a (omega arith)) ∙ sym (append_assoc (thousandths_text x) (44 ∷ joined_amounts (y ∷ us)) (44 ∷ thousandths_text a))

pub amounts-first : (amounts : List (List ℕ × ℕ)) (a : List ℕ × ℕ) (start text : List ℕ) → slice_get amounts 0 ≡ Some a → text ≡ start ++ thousandths_text a → text ≡ start ++ joined_amounts (take 1 amounts)
amounts-first amounts a start text e is = is ∙ ap (λ us. start ++ joined_amounts us) (sym (take-push amounts 0 a e))

pub amounts-step : (amounts : List (List ℕ × ℕ)) (i : ℕ) (a : List ℕ × ℕ) (start text comma new : List ℕ) → 1 ≤ i → slice_get amounts i ≡ Some a
    → text ≡ start ++ joined_amounts (take i amounts) → comma ≡ text ++ codes "," → new ≡ comma ++ thousandths_text a → new ≡ start ++ joined_amounts (take (i + 1) amounts)
amounts-step amounts i a start text comma new low e text_is comma_is new_is =
    let lt = slice_get_within amounts i a e in
    let some : 0 < length (take i amounts) = (let l = length-take-le i amounts (omega (arith, lt)) in omega (arith, l, low)) in
    let more : joined_amounts (take (i + 1) amounts) ≡ joined_amounts (take i amounts) ++ 44 ∷ thousandths_text a = ap joined_amounts (take-push amounts i a e) ∙ joined-push (take i amounts) a some in
    rw (new_is, comma_is, text_is, more)
    (append_assoc (start ++ joined_amounts (take i amounts)) (codes ",") (thousandths_text a) ∙ append_assoc start (joined_amounts (take i amounts)) (44 ∷ thousandths_text a))

-- a line that answers, with its line feed
pub tells-line : (key : List ℕ) (verb given : TokenLine) (line bytes : List ℕ) → given ≡ verb → IsTokenAnswer key verb line → bytes ≡ lines_text (line ∷ []) → IsAnswerText (λ output next. AreTokenAnswer key given output) bytes key
tells-line key verb given line bytes is answer text = rw is (record { output = line ∷ []; answer = answer; text = text })
