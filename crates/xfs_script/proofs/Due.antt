-- One call of the reader: from what the source gave to the answer that is due.
use Rattle.std.proofs.Common.{◌≡◌, ℕ, ◌+◌, ◌-◌, ◌<◌, ◌≤◌, nat_le, nat_lt, true, false, List, [], ◌++◌, length, take, drop, Ok, Err, None, Some, refl, ap, sym, subst, ◌∙◌, arith, append_assoc, length-append}
use Rattle.std.proofs.lemmas.Bool.{cond-true, cond-false, lt-ltb, le-ltb, le-leb, lt-leb}
use Rattle.std.proofs.lemmas.List.{append-nil, take-append-le, drop-append-le, take_all}
use Rattle.std.proofs.Math.Seq.{take-append-add}
use Rattle.std.specs.declared.option.Option.{Option}
use Rattle.std.specs.Io.KnownBytes.{IsAtEnd, prepend_known}
use Rattle.xfs_base.specs.Causes.{IfTold}
use Rattle.xfs_script.specs.Lines.{line_end, has_line_feed, first_line, rest, without_return}
use Rattle.xfs_script.specs.Reading.{Reading, Grows, Drops}
use Rattle.xfs_script.specs.Answer.{answer_of, bytes_within, line_answer}
use Rattle.xfs_script.specs.declared.line.LineFault.TheVariants.{Quota}
use Rattle.xfs_script.proofs.Ends.{line_end-append, line_end-append_found}

pub told_map : (x : Option (List ℕ)) (P Q : List ℕ → Type 0) → ((xs : List ℕ) → P xs → Q xs) → IfTold x P → IfTold x Q
told_map None P Q f h = tt
told_map (Some xs) P Q f h = f xs h

taken_more : (n m : ℕ) (bs ys : List ℕ) → length bs + m ≡ n → take n (bs ++ ys) ≡ bs ++ take m ys
taken_more n m bs ys e =
    let P : ℕ → Type 0 = λ k. take k (bs ++ ys) ≡ bs ++ take m ys in
    subst P e (take-append-add bs ys m)

-- the bytes to come before the limit, once the source gave some of them
within_given : (r s : Reading) (xs ys bs : List ℕ) → xs ≡ bs ++ ys → s.given ≡ r.given + length bs → s.given ≤ 67108864 → bytes_within r xs ≡ (r.pending ++ bs) ++ take (67108864 - s.given) ys
within_given r s xs ys bs taken given bound =
    ap (λ t. r.pending ++ take (67108864 - r.given) t) taken
    ∙ (ap (λ t. r.pending ++ t) (taken_more (67108864 - r.given) (67108864 - s.given) bs ys (omega arith))
    ∙ sym (append_assoc r.pending bs (take (67108864 - s.given) ys)))

pub within_grown : (r s : Reading) (xs ys : List ℕ) → Grows r s (Some xs) (Some ys) → s.given ≤ 67108864 → bytes_within r xs ≡ bytes_within s ys
within_grown r s xs ys g bound = within_given r s xs ys g.bytes g.taken g.given bound ∙ ap (λ t. t ++ take (67108864 - s.given) ys) (sym g.pending)

pub within_dropped : (r s : Reading) (xs ys : List ℕ) (d : Drops r s (Some xs) (Some ys)) → s.given ≤ 67108864 → bytes_within r xs ≡ (r.pending ++ d.bytes) ++ bytes_within s ys
within_dropped r s xs ys d bound =
    let more : List ℕ = take (67108864 - s.given) ys in
    within_given r s xs ys (d.bytes ++ s.pending) d.taken (omega (arith, d.given, length-append d.bytes s.pending)) bound
    ∙ (ap (λ t. t ++ more) (sym (append_assoc r.pending d.bytes s.pending))
    ∙ append_assoc (r.pending ++ d.bytes) s.pending more)

pub ahead_is : (r s : Reading) (xs ys : List ℕ) → Grows r s (Some xs) (Some ys) → r.pending ++ xs ≡ s.pending ++ ys
ahead_is r s xs ys g =
    ap (λ t. r.pending ++ t) g.taken ∙ (sym (append_assoc r.pending g.bytes ys) ∙ ap (λ t. t ++ ys) (sym g.pending))

pub has_feed : (d t : List ℕ) → line_end d ≡ length d → line_end t < length t → has_line_feed (d ++ t) ≡ true
has_feed d t none found =
    let e = line_end-append d t none in
    lt-ltb (line_end (d ++ t)) (length (d ++ t)) (omega (arith, e, length-append d t))

pub no_feed : (d t : List ℕ) → line_end d ≡ length d → line_end t ≡ length t → has_line_feed (d ++ t) ≡ false
no_feed d t none open_end =
    let e = line_end-append d t none in
    le-ltb (line_end (d ++ t)) (length (d ++ t)) (omega (arith, e, length-append d t))

pub due_first : (r : Reading) (xs : List ℕ) → has_line_feed (bytes_within r xs) ≡ true → answer_of r xs ≡ line_answer (r.handed + 1) (first_line (bytes_within r xs))
unfolding answer_of
due_first r xs has = cond-true (has_line_feed (bytes_within r xs)) _ _ has

pub due_quota : (r : Reading) (xs : List ℕ) → has_line_feed (bytes_within r xs) ≡ false → 67108864 ≤ r.given + length xs → answer_of r xs ≡ Err Quota
unfolding answer_of
due_quota r xs none all = cond-false (has_line_feed (bytes_within r xs)) _ _ none ∙ cond-true (nat_le 67108864 (r.given + length xs)) _ _ (le-leb 67108864 (r.given + length xs) all)

pub due_last : (r : Reading) (xs : List ℕ) → has_line_feed (bytes_within r xs) ≡ false → r.given + length xs < 67108864 → 0 < length (bytes_within r xs)
    → answer_of r xs ≡ line_answer (r.handed + 1) (first_line (bytes_within r xs))
unfolding answer_of
due_last r xs none few some =
    cond-false (has_line_feed (bytes_within r xs)) _ _ none
    ∙ (cond-false (nat_le 67108864 (r.given + length xs)) _ _ (lt-leb 67108864 (r.given + length xs) few)
    ∙ cond-true (nat_lt 0 (length (bytes_within r xs))) _ _ (lt-ltb 0 (length (bytes_within r xs)) some))

pub due_none : (r : Reading) (xs : List ℕ) → has_line_feed (bytes_within r xs) ≡ false → r.given + length xs < 67108864 → length (bytes_within r xs) ≡ 0 → answer_of r xs ≡ Ok None
unfolding answer_of
due_none r xs none few empty =
    cond-false (has_line_feed (bytes_within r xs)) _ _ none
    ∙ (cond-false (nat_le 67108864 (r.given + length xs)) _ _ (lt-leb 67108864 (r.given + length xs) few)
    ∙ cond-false (nat_lt 0 (length (bytes_within r xs))) _ _ (le-ltb 0 (length (bytes_within r xs)) (omega arith)))

-- what is due where the first line of the kept bytes ends at n
pub record Due (r s : Reading) (n : ℕ) (x y : Option (List ℕ)) : Type 0 where
  pub answer : IfTold x (λ xs. answer_of r xs ≡ line_answer (r.handed + 1) (without_return (take n s.pending)))
  pub rest : IfTold x (λ xs. prepend_known (drop (n + 1) s.pending) y ≡ Some (rest (r.pending ++ xs)))
  pub same : IfTold x (λ xs. prepend_known s.pending y ≡ Some (r.pending ++ xs))

pub due_feed : (r s : Reading) (n : ℕ) (x y : Option (List ℕ)) → Grows r s x y → s.given ≤ 67108864 → line_end s.pending ≡ n → n < length s.pending → Due r s n x y
due_feed r s n None y g bound is low = record { answer = tt; rest = tt; same = tt }
due_feed r s n (Some xs) None g bound is low = absurd g.taken
due_feed r s n (Some xs) (Some ys) g bound is low =
    let more : List ℕ = take (67108864 - s.given) ys in
    let e = within_grown r s xs ys g bound in
    let found : line_end s.pending < length s.pending = omega arith in
    let place : line_end (s.pending ++ more) ≡ n = line_end-append_found s.pending more found ∙ is in
    let place_all : line_end (s.pending ++ ys) ≡ n = line_end-append_found s.pending ys found ∙ is in
    let line : take (line_end (s.pending ++ more)) (s.pending ++ more) ≡ take n s.pending = ap (λ k. take k (s.pending ++ more)) place ∙ take-append-le n s.pending more (omega arith) in
    record {
      answer = due_first r xs (ap has_line_feed e ∙ has_feed [] (s.pending ++ more) refl (omega (arith, place, length-append s.pending more)))
          ∙ ap (λ t. line_answer (r.handed + 1) (first_line t)) e
          ∙ ap (λ t. line_answer (r.handed + 1) (without_return t)) line;
      rest = ap (λ t. Some t) (sym (ap rest (ahead_is r s xs ys g) ∙ (ap (λ k. drop (k + 1) (s.pending ++ ys)) place_all ∙ drop-append-le (n + 1) s.pending ys (omega arith))));
      same = ap (λ t. Some t) (sym (ahead_is r s xs ys g));
    }

due_end_nil : (r s : Reading) (xs : List ℕ) → Grows r s (Some xs) (Some []) → s.given < 67108864 → line_end s.pending ≡ length s.pending → 0 < length s.pending → Due r s (length s.pending) (Some xs) (Some [])
due_end_nil r s xs g few none some =
    let nothing : take (67108864 - s.given) [] ≡ [] = take_all (67108864 - s.given) [] (omega arith) in
    let e : bytes_within r xs ≡ s.pending = within_grown r s xs [] g (omega arith) ∙ (ap (λ t. s.pending ++ t) nothing ∙ append-nil s.pending) in
    let all : r.pending ++ xs ≡ s.pending = ahead_is r s xs [] g ∙ append-nil s.pending in
    let size = ap length g.taken in
    record {
      answer = due_last r xs (ap has_line_feed e ∙ no_feed [] s.pending refl none) (omega (arith, size, length-append g.bytes [], g.given)) (omega (arith, ap length e))
          ∙ (ap (λ t. line_answer (r.handed + 1) (first_line t)) e
          ∙ ap (λ n. line_answer (r.handed + 1) (without_return (take n s.pending))) none);
      rest = ap (λ t. Some t) (append-nil (drop (length s.pending + 1) s.pending) ∙ (ap (λ n. drop (n + 1) s.pending) (sym none) ∙ ap rest (sym all)));
      same = ap (λ t. Some t) (append-nil s.pending ∙ sym all);
    }

pub due_end : (r s : Reading) (x y : Option (List ℕ)) → Grows r s x y → s.given < 67108864 → line_end s.pending ≡ length s.pending → IsAtEnd y → 0 < length s.pending → Due r s (length s.pending) x y
due_end r s None y g few none at_end some = record { answer = tt; rest = tt; same = tt }
due_end r s (Some xs) None g few none at_end some = absurd g.taken
due_end r s (Some xs) (Some ys) g few none at_end some =
    let P : List ℕ → Type 0 = λ t. Grows r s (Some xs) (Some t) → Due r s (length s.pending) (Some xs) (Some t) in
    let at : P [] = λ h. due_end_nil r s xs h few none some in
    subst P (sym at_end) at g
