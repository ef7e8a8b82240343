-- What the answers of the reader of lines say of the bytes to come.
use Rattle.std.proofs.Common.{◌≡◌, ℕ, ◌+◌, ◌-◌, ◌<◌, Bool, true, false, List, [], ◌∷◌, ◌++◌, length, take, drop, None, Some, Ok, Err, refl, sym, ◌∙◌, ap, arith, length-append, append_assoc, take-append-drop}
use Rattle.std.specs.List.{prefix_len}
use Rattle.std.specs.Prelude.{nat_le, nat_lt, if◌then◌else◌}
use Rattle.std.specs.declared.option.Option.{Option}
use Rattle.std.specs.declared.result.Result.{Result}
use Rattle.std.proofs.lemmas.Bool.{ltb-true, ltb-false, leb-false}
use Rattle.std.proofs.lemmas.List.{take_all, take-append-le}
use Rattle.std.specs.Io.KnownBytes.{Consumes, IsAtEnd}
use Rattle.xfs_script.specs.Lines.{behind, has_line_feed, first_line, line_end, without_return, NoLineEnds}
use Rattle.xfs_script.specs.Reading.{GaveAll, Reading, Gives, nothing_read}
use Rattle.xfs_base.specs.Causes.{IfTold}
use Rattle.xfs_script.specs.Answer.{answer_of, line_answer, bytes_within, bytes_ahead, IsCutOff, ReadsLine}
use Rattle.xfs_script.specs.declared.line.Line.{Line}
use Rattle.xfs_script.specs.declared.line.LineFault.{LineFault}
use Rattle.xfs_script.specs.declared.line.LineFault.TheVariants.{Quota, TooLong}
use Rattle.std.proofs.KnownBytes.{Consumes-nil, Consumes-trans}

pub Gives-trans : (r s t : Reading) (x y z : Option (List ℕ)) → Gives r s x y → Gives s t y z → Gives r t x z
Gives-trans r s t x y z a b = record {
  bytes = a.bytes ++ b.bytes;
  given = let e = length-append a.bytes b.bytes in omega (arith, a.given, b.given, e);
  taken = Consumes-trans x y z a.bytes b.bytes a.taken b.taken;
}

-- the due answer on three tests
abbrev due_on : Reading → List ℕ → Bool → Bool → Bool → Result (Option Line) LineFault
due_on r text a b c =
    if a then line_answer (r.handed + 1) (first_line text) else if b then Err Quota else if c then line_answer (r.handed + 1) (first_line text) else Ok None

abbrev long_or : ℕ → List ℕ → Bool → Result (Option Line) LineFault
long_or n l t = if t then Ok (Some (record { number = n; text = l })) else Err (TooLong n)

len-prefix : (p : ℕ → Bool) (xs ys : List ℕ) → prefix_len p xs < length xs → prefix_len p (xs ++ ys) ≡ prefix_len p xs
len-prefix p [] ys lt = absurd (omega arith)
len-prefix p (x ∷ xs) ys lt = go (p x) lt (len-prefix p xs ys)
  where
    go : (t : Bool) → (if t then 1 + prefix_len p xs else 0) < length (x ∷ xs) → (prefix_len p xs < length xs → prefix_len p (xs ++ ys) ≡ prefix_len p xs)
        → (if t then 1 + prefix_len p (xs ++ ys) else 0) ≡ (if t then 1 + prefix_len p xs else 0)
    go true lt rest = ap (λ n. 1 + n) (rest (omega arith))
    go false lt rest = refl

-- a line feed in a prefix of a text ends the same line in the whole text
first-prefix : (prefix back : List ℕ) → has_line_feed prefix ≡ true → first_line (prefix ++ back) ≡ first_line prefix
first-prefix prefix back has =
    let within : line_end prefix < length prefix = ltb-true _ _ has in
    let place : line_end (prefix ++ back) ≡ line_end prefix = len-prefix _ prefix back within in
    rw place (ap without_return (take-append-le (line_end prefix) prefix back (omega arith)))

-- the first of the bytes within the limit is the first of all that are to come
first-within : (r : Reading) (left : List ℕ) → has_line_feed (bytes_within r left) ≡ true → first_line (bytes_within r left) ≡ first_line (r.pending ++ left)
first-within r left has =
    let k = 67108864 - r.given in
    let whole : r.pending ++ left ≡ bytes_within r left ++ drop k left = ap (λ l. r.pending ++ l) (sym (take-append-drop k left)) ∙ sym (append_assoc r.pending (take k left) (drop k left)) in
    sym (first-prefix (bytes_within r left) (drop k left) has) ∙ ap first_line (sym whole)

-- below the limit all the bytes are within it
all-within : (r : Reading) (left : List ℕ) → nat_le 67108864 (r.given + length left) ≡ false → bytes_within r left ≡ r.pending ++ left
all-within r left below = let small = leb-false 67108864 (r.given + length left) below in ap (λ l. r.pending ++ l) (take_all (67108864 - r.given) left (omega (arith, small)))

line_answer-text : (n : ℕ) (l : List ℕ) (line : Line) → line_answer n l ≡ Ok (Some line) → line.text ≡ l
line_answer-text n l line e = go (nat_le (length l) 70000) e
  where
    go : (t : Bool) → long_or n l t ≡ Ok (Some line) → line.text ≡ l
    go true e = cc
    go false e = cc

line_answer-long : (n m : ℕ) (l : List ℕ) → line_answer n l ≡ Err (TooLong m) → 70000 < length l
line_answer-long n m l e = go (nat_le (length l) 70000) refl e
  where
    go : (t : Bool) → nat_le (length l) 70000 ≡ t → long_or n l t ≡ Err (TooLong m) → 70000 < length l
    go true is e = cc
    go false is e = leb-false (length l) 70000 is

-- a line that is handed out is the first of the bytes to come
pub answer-line : (r : Reading) (left : List ℕ) (line : Line) → answer_of r left ≡ Ok (Some line) → line.text ≡ first_line (r.pending ++ left)
unfolding answer_of
answer-line r left line e = go (has_line_feed (bytes_within r left)) (nat_le 67108864 (r.given + length left)) (nat_lt 0 (length (bytes_within r left))) refl refl e
  where
    go : (a b c : Bool) → has_line_feed (bytes_within r left) ≡ a → nat_le 67108864 (r.given + length left) ≡ b
        → due_on r (bytes_within r left) a b c ≡ Ok (Some line)
        → line.text ≡ first_line (r.pending ++ left)
    go true b c has below e = line_answer-text _ _ line e ∙ first-within r left has
    go false true c has below e = cc
    go false false true has below e = line_answer-text _ _ line e ∙ ap first_line (all-within r left below)
    go false false false has below e = cc

-- a line that is too long is the first of the bytes to come
pub answer-long : (r : Reading) (left : List ℕ) (n : ℕ) → answer_of r left ≡ Err (TooLong n) → 70000 < length (first_line (r.pending ++ left))
unfolding answer_of
answer-long r left n e = go (has_line_feed (bytes_within r left)) (nat_le 67108864 (r.given + length left)) (nat_lt 0 (length (bytes_within r left))) refl refl e
  where
    go : (a b c : Bool) → has_line_feed (bytes_within r left) ≡ a → nat_le 67108864 (r.given + length left) ≡ b
        → due_on r (bytes_within r left) a b c ≡ Err (TooLong n)
        → 70000 < length (first_line (r.pending ++ left))
    go true b c has below e = rw (← first-within r left has) (line_answer-long _ n _ e)
    go false true c has below e = cc
    go false false true has below e = rw (← all-within r left below) (line_answer-long _ n _ e)
    go false false false has below e = cc

-- where there is no line, no bytes are to come
pub answer-none : (r : Reading) (left : List ℕ) → answer_of r left ≡ Ok None → r.pending ++ left ≡ []
unfolding answer_of
answer-none r left e = go (has_line_feed (bytes_within r left)) (nat_le 67108864 (r.given + length left)) (nat_lt 0 (length (bytes_within r left))) refl refl refl e
  where
    no-line : (n : ℕ) (l : List ℕ) → line_answer n l ≡ Ok None → ⊥
    no-line n l e = short (nat_le (length l) 70000) e
      where
        short : (t : Bool) → long_or n l t ≡ Ok None → ⊥
        short true e = cc
        short false e = cc

    empty : (l : List ℕ) → nat_lt 0 (length l) ≡ false → l ≡ []
    empty [] e = refl
    empty (x ∷ xs) e = let le = ltb-false 0 (length (x ∷ xs)) e in absurd (omega (arith, le))

    go : (a b c : Bool) → has_line_feed (bytes_within r left) ≡ a → nat_le 67108864 (r.given + length left) ≡ b → nat_lt 0 (length (bytes_within r left)) ≡ c
        → due_on r (bytes_within r left) a b c ≡ Ok None
        → r.pending ++ left ≡ []
    go true b c has below some e = absurd (no-line _ _ e)
    go false true c has below some e = cc
    go false false true has below some e = absurd (no-line _ _ e)
    go false false false has below some e = sym (all-within r left below) ∙ empty (bytes_within r left) some

-- the bytes to come, where the source tells them
pub ahead-some : (r : Reading) (now : Option (List ℕ)) (text : List ℕ) → bytes_ahead r now ≡ Some text → (left : List ℕ) × (now ≡ Some left) × (r.pending ++ left ≡ text)
ahead-some r None text e = cc
ahead-some r (Some left) text e = (left, refl, some-same e)
  where
    some-same : Some (r.pending ++ left) ≡ Some text → r.pending ++ left ≡ text
    some-same e = cc

pub told : (P : List ℕ → Type 0) (now : Option (List ℕ)) (left : List ℕ) → now ≡ Some left → IfTold now P → P left
told P now left is h = rw is at h

-- the source gave as many bytes as there may be
pub read-quota : (s t : Reading) (x y z : Option (List ℕ)) → Gives nothing_read s x y → ReadsLine s t y z (Err Quota) → GaveAll x z
read-quota s t x y z g reads =
    let all = Gives-trans nothing_read s t x y z g reads.gives in
    record { bytes = all.bytes; many = (let q = reads.quota refl in let n = all.given in omega (arith, q, n)); taken = all.taken }

-- nothing is read at first
pub Gives-start : (r : Reading) (x : Option (List ℕ)) → r ≡ nothing_read → Gives nothing_read r x x
Gives-start r x is = rw is (record { bytes = []; given = refl; taken = Consumes-nil x })

-- where the reading is cut off, no line ends before the bytes that are left
pub read-limit : (r s : Reading) (y z : Option (List ℕ)) (many : ℕ) (text : List ℕ) (fault : LineFault) → bytes_ahead r y ≡ Some (behind many text) → ReadsLine r s y z (Err fault) → IsCutOff (Err fault) → IfTold z (NoLineEnds many text)
read-limit r s y z many text fault ahead reads cut = go z (told (λ left. Consumes (Some left) z reads.gives.bytes) y a.0 a.1 taken)
  where
    a : (left : List ℕ) × (y ≡ Some left) × (r.pending ++ left ≡ behind many text)
    a = ahead-some r y (behind many text) ahead

    taken : IfTold y (λ left. Consumes (Some left) z reads.gives.bytes)
    taken = told_of y reads.gives.taken
      where
        told_of : (y : Option (List ℕ)) → Consumes y z reads.gives.bytes → IfTold y (λ left. Consumes (Some left) z reads.gives.bytes)
        told_of None h = tt
        told_of (Some left) h = h

    go : (z : Option (List ℕ)) → Consumes (Some a.0) z reads.gives.bytes → IfTold z (NoLineEnds many text)
    go None h = tt
    go (Some left) h = record {
      prefix = r.pending ++ reads.gives.bytes;
      split = sym a.2 ∙ (ap (λ l. r.pending ++ l) h ∙ sym (append_assoc r.pending reads.gives.bytes left));
      unended = reads.cut_off cut;
    }

-- a source that is at its end has given all of its text
all-given : (text bytes : List ℕ) (z : Option (List ℕ)) → Consumes (Some text) z bytes → IsAtEnd z → length bytes < 67108864 → length text < 67108864
all-given text bytes None taken at_end few = absurd taken
all-given text bytes (Some left) taken at_end few = omega (arith, ap length taken, length-append bytes left, ap length at_end, few)

-- a text that was read to its end is below the limit
pub read-fewer : (s t : Reading) (x y z : Option (List ℕ)) → Gives nothing_read s x y → ReadsLine s t y z (Ok None) → IfTold x (λ text. length text < 67108864)
read-fewer s t None y z g reads = tt
read-fewer s t (Some text) y z g reads =
    let all = Gives-trans nothing_read s t (Some text) y z g reads.gives in
    let end = reads.end refl in
    all-given text all.bytes z all.taken end.1 (omega (arith, all.given, end.2))
