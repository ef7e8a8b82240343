-- What one call of the reader shows, by how the line ended.
use Rattle.std.proofs.Common.{◌≡◌, ℕ, ◌+◌, ◌-◌, ◌<◌, ◌≤◌, nat_le, true, false, List, [], ◌++◌, length, take, Ok, Err, IfOk, IfSome, OnOk, OnErr, None, Some, refl, ap, sym, subst, ◌∙◌, arith, length-append, append_assoc, inl, inr}
use Rattle.std.specs.Prelude.{slice_index, ◌==◌}
use Rattle.std.proofs.lemmas.Bool.{cond-true, cond-false, lt-leb, leb-true, cases_Bool}
use Rattle.std.proofs.lemmas.List.{append-nil, take_all, length-take-le}
use Rattle.std.specs.declared.result.Result.{Result}
use Rattle.std.specs.declared.option.Option.{Option}
use Rattle.std.specs.Io.KnownBytes.{IsAtEnd, prepend_known}
use Rattle.xfs_base.specs.Causes.{IfTold}
use Rattle.xfs_script.specs.Lines.{line_end, has_line_feed, first_line, rest, without_return}
use Rattle.xfs_script.specs.Reading.{Reading, Grows, Drops, Gives, line_off}
use Rattle.xfs_script.specs.Found.{IsOpen, IsRefusal}
use Rattle.xfs_script.specs.Answer.{answer_of, answer_on, bytes_within, bytes_ahead, line_answer, line_found, past_line, IsDueAnswer, HasNumber, IsCutOff, KeepsLine, ReadsLine}
use Rattle.xfs_script.specs.declared.line.Line.{Line}
use Rattle.xfs_script.specs.declared.line.LineFault.{LineFault}
use Rattle.xfs_script.specs.declared.line.LineFault.TheVariants.{Read, Quota, TooLong, Memory}
use Rattle.xfs_script.proofs.Ends.{line_end-le, line_end-append, line_end-append_found}
use Rattle.xfs_script.proofs.Due.{Due, told_map, within_grown, within_dropped, ahead_is, has_feed, no_feed, due_first, due_quota, due_last, due_none}
use Rattle.std.proofs.KnownBytes.{Consumes-trans}

line_fits : (k : ℕ) (l : List ℕ) → nat_le (length l) 70000 ≡ true → line_answer k l ≡ Ok (Some (record { number = k; text = l }))
line_fits k l fits = cond-true (nat_le (length l) 70000) _ _ fits

line_over : (k : ℕ) (l : List ℕ) → nat_le (length l) 70000 ≡ false → line_answer k l ≡ Err (TooLong k)
line_over k l over = cond-false (nat_le (length l) 70000) _ _ over

not_none : (k : ℕ) (l : List ℕ) → line_answer k l ≡ Ok None → ⊥
not_none k l h = elim (cases_Bool (nat_le (length l) 70000)) [
  | inl fits ↦ (let e = line_fits k l fits in cc)
  | inr over ↦ (let e = line_over k l over in cc)
]

not_quota : (k : ℕ) (l : List ℕ) → line_answer k l ≡ Err Quota → ⊥
not_quota k l h = elim (cases_Bool (nat_le (length l) 70000)) [
  | inl fits ↦ (let e = line_fits k l fits in cc)
  | inr over ↦ (let e = line_over k l over in cc)
]

line_some : (k : ℕ) (l : List ℕ) (line : Line) → line_answer k l ≡ Ok (Some line) → (line.number ≡ k) × (length line.text ≤ 70000)
line_some k l line h = elim (cases_Bool (nat_le (length l) 70000)) [
  | inl fits ↦
      let e = line_fits k l fits in
      let made : Line = record { number = k; text = l } in
      let same : made ≡ line = cc in
      (ap (λ v. v.number) (sym same), omega (arith, ap (λ v. length v.text) same, leb-true (length l) 70000 fits))
  | inr over ↦ (let e = line_over k l over in absurd (let bad : ⊥ = cc in bad))
]

line_long : (k m : ℕ) (l : List ℕ) → line_answer k l ≡ Err (TooLong m) → m ≡ k
line_long k m l h = elim (cases_Bool (nat_le (length l) 70000)) [
  | inl fits ↦ (let e = line_fits k l fits in cc)
  | inr over ↦ (let e = line_over k l over in cc)
]

-- the answer is none that cuts the reading off
no_cut : (result : Result (Option Line) LineFault) (X : Type 0) → ¬ (result ≡ Err Read) → ¬ (result ≡ Err Quota) → IsCutOff result → X
no_cut result X read quota (inl e) = absurd (read e)
no_cut result X read quota (inr e) = absurd (quota e)

-- where no line feed is kept, none is in what was kept and what the source gave
open_grown : (r s : Reading) (x y : Option (List ℕ)) (g : Grows r s x y) → IsOpen s → has_line_feed (r.pending ++ g.bytes) ≡ false
open_grown r s x y g none = ap has_line_feed (sym g.pending) ∙ no_feed [] s.pending refl none

open_dropped : (r s u : Reading) (x y z : Option (List ℕ)) (g : Grows r s x y) (d : Drops s u y z) → IsOpen u → has_line_feed (r.pending ++ (g.bytes ++ (d.bytes ++ u.pending))) ≡ false
open_dropped r s u x y z g d none =
    let more : List ℕ = d.bytes ++ u.pending in
    let all : r.pending ++ (g.bytes ++ more) ≡ (s.pending ++ d.bytes) ++ u.pending =
    sym (append_assoc r.pending g.bytes more) ∙ (ap (λ t. t ++ more) (sym g.pending) ∙ sym (append_assoc s.pending d.bytes u.pending)) in
    ap has_line_feed all ∙ no_feed (s.pending ++ d.bytes) u.pending d.no_end none

gives_grown : (r s : Reading) (x y : Option (List ℕ)) → Grows r s x y → Gives r s x y
gives_grown r s x y g = record { bytes = g.bytes; given = g.given; taken = g.taken }

gives_off : (r s t : Reading) (x y : Option (List ℕ)) → Grows r s x y → t.given ≡ s.given → Gives r t x y
gives_off r s t x y g e = record { bytes = g.bytes; given = e ∙ g.given; taken = g.taken }

-- the line that ends at n is handed out, or refused
pub handed_line : (r s t : Reading) (x y : Option (List ℕ)) (n : ℕ) (result : Result (Option Line) LineFault) → Grows r s x y → Due r s n x y
    → IsDueAnswer result (line_answer (s.handed + 1) (without_return (take n s.pending))) → (result ≡ Err Read → ⊥) → OnOk result (t ≡ line_off s n) → OnErr result (t ≡ s)
    → ReadsLine r t x y result
handed_line r s t x y n (Ok None) g d is only ok err = absurd (not_none (s.handed + 1) (without_return (take n s.pending)) is)
handed_line r s t x y n (Ok (Some line)) g d is only ok err =
    let l : List ℕ = without_return (take n s.pending) in
    let number = line_some (s.handed + 1) l line is in
    record {
      gives = gives_off r s t x y g (ap (λ k. k.given) ok);
      answer = told_map x _ (λ xs. answer_of r xs ≡ Ok (Some line)) (λ xs due. due ∙ (ap (λ k. line_answer (k + 1) l) (sym g.handed) ∙ is)) d.answer;
      rest = told_map x _ (λ xs. bytes_ahead t y ≡ Some (rest (r.pending ++ xs))) (λ xs due. ap (λ k. prepend_known k.pending y) ok ∙ due) d.rest;
      number = (number.0 ∙ ap (λ k. k + 1) g.handed, number.1);
      handed = omega (arith, ap (λ k. k.handed) ok, g.handed);
      memory = λ h. absurd (let bad : ⊥ = cc in bad);
      quota = λ h. cc;
      cut_off = no_cut _ _ (λ e. cc) (λ e. cc);
      end = λ h. absurd (let bad : ⊥ = cc in bad);
    }
handed_line r s t x y n (Err Read) g d is only ok err = absurd (only refl)
handed_line r s t x y n (Err Memory) g d is only ok err = record {
  gives = gives_off r s t x y g (ap (λ k. k.given) err);
  answer = told_map x _ (λ xs. Unit {0}) (λ xs due. tt) d.answer;
  rest = tt;
  number = tt;
  handed = omega (arith, ap (λ k. k.handed) err, g.handed);
  memory = λ h. told_map x _ (λ xs. bytes_ahead t y ≡ Some (r.pending ++ xs)) (λ xs due. ap (λ k. prepend_known k.pending y) err ∙ due) d.same;
  quota = λ h. cc;
  cut_off = no_cut _ _ (λ e. cc) (λ e. cc);
  end = λ h. absurd (let bad : ⊥ = cc in bad);
}
handed_line r s t x y n (Err Quota) g d is only ok err = absurd (not_quota (s.handed + 1) (without_return (take n s.pending)) is)
handed_line r s t x y n (Err (TooLong m)) g d is only ok err =
    let l : List ℕ = without_return (take n s.pending) in
    record {
      gives = gives_off r s t x y g (ap (λ k. k.given) err);
      answer = told_map x _ (λ xs. answer_of r xs ≡ Err (TooLong m)) (λ xs due. due ∙ (ap (λ k. line_answer (k + 1) l) (sym g.handed) ∙ is)) d.answer;
      rest = tt;
      number = line_long (s.handed + 1) m l is ∙ ap (λ k. k + 1) g.handed;
      handed = omega (arith, ap (λ k. k.handed) err, g.handed);
      memory = λ h. absurd (let bad : ⊥ = cc in bad);
      quota = λ h. cc;
      cut_off = no_cut _ _ (λ e. cc) (λ e. cc);
      end = λ h. absurd (let bad : ⊥ = cc in bad);
    }

-- the end of the line at n is found, or the line is refused
pub found_line : (r s : Reading) (x y : Option (List ℕ)) (n : ℕ) (result : Result (Option ℕ) LineFault) → Grows r s x y → Due r s n x y
    → IsDueAnswer (line_found s result) (line_answer (s.handed + 1) (without_return (take n s.pending))) → (result ≡ Err Read → ⊥) → IfOk result (λ found. found ≡ Some n)
    → ReadsLine r (past_line s result) x y (line_found s result)
found_line r s x y n (Ok None) g d is only end = absurd (let bad : ⊥ = cc in bad)
found_line r s x y n (Ok (Some k)) g d is only end =
    let same : k ≡ n = cc in
    handed_line r s (line_off s k) x y n (Ok (Some (record { number = s.handed + 1; text = without_return (take k s.pending) }))) g d is (λ e. cc) (ap (λ m. line_off s m) same) tt
found_line r s x y n (Err Read) g d is only end = absurd (only refl)
found_line r s x y n (Err Memory) g d is only end = handed_line r s s x y n (Err Memory) g d is (λ e. cc) tt refl
found_line r s x y n (Err Quota) g d is only end = handed_line r s s x y n (Err Quota) g d is (λ e. cc) tt refl
found_line r s x y n (Err (TooLong m)) g d is only end = handed_line r s s x y n (Err (TooLong m)) g d is (λ e. cc) tt refl

-- the line whose end is found is kept
pub found_kept : (r s : Reading) (x y : Option (List ℕ)) (n : ℕ) (result : Result (Option ℕ) LineFault) → Due r s n x y → n ≤ length s.pending → 0 < length s.pending
    → IfOk result (λ found. found ≡ Some n) → IfOk result (λ found. IfSome found (KeepsLine r s x y))
found_kept r s x y n (Ok None) d within some end = tt
found_kept r s x y n (Ok (Some k)) d within some end =
    let same : k ≡ n = cc in
    record { within = omega (arith, same, within); some = some; ahead = d.same }
found_kept r s x y n (Err fault) d within some end = tt

-- there is no memory for the line that was found, and it is kept
pub memory_read : (r s : Reading) (x y : Option (List ℕ)) (n : ℕ) (line : Line) → ReadsLine r (line_off s n) x y (Ok (Some line)) → KeepsLine r s x y n → ReadsLine r s x y (Err Memory)
memory_read r s x y n line reads keeps = record {
  gives = record { bytes = reads.gives.bytes; given = reads.gives.given; taken = reads.gives.taken };
  answer = told_map x _ (λ xs. Unit {0}) (λ xs due. tt) keeps.ahead;
  rest = tt;
  number = tt;
  handed = omega (arith, reads.handed);
  memory = λ h. keeps.ahead;
  quota = λ h. cc;
  cut_off = no_cut _ _ (λ e. cc) (λ e. cc);
  end = λ h. absurd (let bad : ⊥ = cc in bad);
}

same_answer : (r s : Reading) (xs ys : List ℕ) → Grows r s (Some xs) (Some ys) → s.given ≤ 67108864 → answer_of r xs ≡ answer_of s ys
unfolding answer_of
same_answer r s xs ys g bound =
    let all : r.given + length xs ≡ s.given + length ys = omega (arith, ap length g.taken, length-append g.bytes ys, g.given) in
    ap (λ h. answer_on h (bytes_within r xs) (r.given + length xs)) (sym g.handed)
    ∙ (ap (λ t. answer_on s.handed t (r.given + length xs)) (within_grown r s xs ys g bound)
    ∙ ap (λ k. answer_on s.handed (bytes_within s ys) k) all)

-- a source at its end gives nothing more
within_end : (s : Reading) (ys : List ℕ) → ys ≡ [] → bytes_within s ys ≡ s.pending
within_end s ys at_end =
    ap (λ t. s.pending ++ take (67108864 - s.given) t) at_end ∙ (ap (λ t. s.pending ++ t) (take_all (67108864 - s.given) [] (omega arith)) ∙ append-nil s.pending)

-- nor does one that has given all that may be read
within_full : (s : Reading) (ys : List ℕ) → s.given ≡ 67108864 → bytes_within s ys ≡ s.pending
within_full s ys full =
    let none : 67108864 - s.given ≡ 0 = omega arith in
    ap (λ k. s.pending ++ take k ys) none ∙ append-nil s.pending

none_told : (r s : Reading) (x y : Option (List ℕ)) → Grows r s x y → s.given < 67108864 → IsOpen s → IsAtEnd y → s.pending ≡ [] → IfTold x (λ xs. (answer_of r xs ≡ Ok None) × (bytes_ahead s y ≡ Some (rest (r.pending ++ xs))))
none_told r s None y g few none at_end empty = tt
none_told r s (Some xs) None g few none at_end empty = absurd g.taken
none_told r s (Some xs) (Some ys) g few none at_end empty =
    let w = within_end s ys at_end in
    let all : r.pending ++ xs ≡ [] = ahead_is r s xs ys g ∙ (ap (λ t. t ++ ys) empty ∙ at_end) in (
      same_answer r s xs ys g (omega arith) ∙ due_none s ys (ap has_line_feed w ∙ no_feed [] s.pending refl none) (omega (arith, ap length at_end)) (ap length w ∙ ap length empty),
      ap (λ t. Some t) (ap (λ t. t ++ ys) empty ∙ (at_end ∙ sym (ap rest all))),
    )

-- nothing is left
pub none_read : (r s : Reading) (x y : Option (List ℕ)) → Grows r s x y → s.given < 67108864 → IsOpen s → IsAtEnd y → s.pending ≡ [] → ReadsLine r s x y (Ok None)
none_read r s x y g few none at_end empty =
    let told = none_told r s x y g few none at_end empty in
    record {
      gives = gives_grown r s x y g;
      answer = told_map x _ (λ xs. answer_of r xs ≡ Ok None) (λ xs h. h.0) told;
      rest = told_map x _ (λ xs. bytes_ahead s y ≡ Some (rest (r.pending ++ xs))) (λ xs h. h.1) told;
      number = tt;
      handed = omega (arith, g.handed);
      memory = λ h. absurd (let bad : ⊥ = cc in bad);
      quota = λ h. cc;
      cut_off = no_cut _ _ (λ e. cc) (λ e. cc);
      end = λ h. (empty, at_end, few);
    }

quota_told : (r s : Reading) (x y : Option (List ℕ)) → Grows r s x y → IsOpen s → s.given ≡ 67108864 → IfTold x (λ xs. answer_of r xs ≡ Err Quota)
quota_told r s None y g none full = tt
quota_told r s (Some xs) None g none full = absurd g.taken
quota_told r s (Some xs) (Some ys) g none full =
    same_answer r s xs ys g (omega arith) ∙ due_quota s ys (ap has_line_feed (within_full s ys full) ∙ no_feed [] s.pending refl none) (omega arith)

-- the limit is reached
pub quota_read : (r s : Reading) (x y : Option (List ℕ)) → Grows r s x y → IsOpen s → s.given ≡ 67108864 → ReadsLine r s x y (Err Quota)
unfolding gives_grown
quota_read r s x y g none full = record {
  gives = gives_grown r s x y g;
  answer = quota_told r s x y g none full;
  rest = tt;
  number = tt;
  handed = omega (arith, g.handed);
  memory = λ h. absurd (let bad : ⊥ = cc in bad);
  quota = λ h. full;
  cut_off = λ h. open_grown r s x y g none;
  end = λ h. absurd (let bad : ⊥ = cc in bad);
}

-- the source failed
pub fault_read : (r s : Reading) (x y : Option (List ℕ)) → Grows r s x y → IsOpen s → ReadsLine r s x y (Err Read)
unfolding gives_grown
fault_read r s x y g none = record {
  gives = gives_grown r s x y g;
  answer = told_any x;
  rest = tt;
  number = tt;
  handed = omega (arith, g.handed);
  memory = λ h. absurd (let bad : ⊥ = cc in bad);
  quota = λ h. cc;
  cut_off = λ h. open_grown r s x y g none;
  end = λ h. absurd (let bad : ⊥ = cc in bad);
}
  where
    told_any : (x : Option (List ℕ)) → IfTold x (λ xs. IsDueAnswer (Err Read) (answer_of r xs))
    told_any None = tt
    told_any (Some xs) = tt

without_return-le : (bs : List ℕ) → length bs - 1 ≤ length (without_return bs)
without_return-le bs = elim (cases_Bool (slice_index bs (length bs - 1) == 13)) [
  | inl fits ↦ (let e = cond-true (slice_index bs (length bs - 1) == 13) (take (length bs - 1) bs) bs fits in omega (arith, ap length e, length-take-le (length bs - 1) bs (omega arith)))
  | inr over ↦ (let e = cond-false (slice_index bs (length bs - 1) == 13) (take (length bs - 1) bs) bs over in omega (arith, ap length e))
]

-- a line whose prefix is too long is too long
long_first : (k : ℕ) (d t : List ℕ) → line_end d ≡ length d → 70001 < length d → line_answer k (first_line (d ++ t)) ≡ Err (TooLong k)
long_first k d t none long =
    let place = line_end-append d t none in
    let line = length-take-le (line_end (d ++ t)) (d ++ t) (line_end-le (d ++ t)) in
    let kept = without_return-le (take (line_end (d ++ t)) (d ++ t)) in
    line_over k (first_line (d ++ t)) (lt-leb (length (first_line (d ++ t))) 70000 (omega (arith, place, line, kept)))

refused_told : (s u : Reading) (ys zs : List ℕ) → Drops s u (Some ys) (Some zs) → u.given ≤ 67108864 → 70001 < length s.pending → (fault : LineFault) → IsRefusal s.handed u (Some zs) fault → IsDueAnswer (Err fault) (answer_of s ys)
refused_told s u ys zs d bound long Read is = tt
refused_told s u ys zs d bound long Memory is = tt
refused_told s u ys zs d bound long Quota is =
    let w : bytes_within s ys ≡ (s.pending ++ d.bytes) ++ u.pending = within_dropped s u ys zs d bound ∙ ap (λ t. (s.pending ++ d.bytes) ++ t) (within_full u zs is.1) in
    due_quota s ys (ap has_line_feed w ∙ no_feed (s.pending ++ d.bytes) u.pending d.no_end is.0)
    (omega (arith, is.1, d.given, ap length d.taken, length-append (d.bytes ++ u.pending) zs, length-append d.bytes u.pending))
refused_told s u ys zs d bound long (TooLong n) is =
    let prefix : List ℕ = s.pending ++ d.bytes in
    let w : bytes_within s ys ≡ prefix ++ bytes_within u zs = within_dropped s u ys zs d bound in
    let size : 70001 < length prefix = omega (arith, length-append s.pending d.bytes) in
    let same : line_answer (s.handed + 1) (first_line (bytes_within s ys)) ≡ Err (TooLong n) =
    ap (λ t. line_answer (s.handed + 1) (first_line t)) w ∙ (long_first (s.handed + 1) prefix (bytes_within u zs) d.no_end size ∙ ap (λ k. Err (TooLong k)) (sym is.0)) in
    elim is.1 [
      | inl found ↦
          let more : List ℕ = take (67108864 - u.given) zs in
          let e = line_end-append_found u.pending more found in
          due_first s ys (ap has_line_feed w ∙ has_feed prefix (bytes_within u zs) d.no_end (omega (arith, e, length-append u.pending more))) ∙ same
      | inr ends ↦
          let e : bytes_within u zs ≡ u.pending = within_end u zs ends.1 in
          due_last s ys (ap has_line_feed w ∙ no_feed prefix (bytes_within u zs) d.no_end (ap line_end e ∙ (ends.0 ∙ sym (ap length e))))
          (omega (arith, ends.2, d.given, ap length d.taken, length-append (d.bytes ++ u.pending) zs, length-append d.bytes u.pending, ap length ends.1))
          (omega (arith, ap length w, length-append prefix (bytes_within u zs)))
          ∙ same
    ]

refused_all : (r s u : Reading) (x y z : Option (List ℕ)) → Grows r s x y → Drops s u y z → s.given ≤ 67108864 → u.given ≤ 67108864 → 70001 < length s.pending → (fault : LineFault) → IsRefusal s.handed u z fault → IfTold x (λ xs. IsDueAnswer (Err fault) (answer_of r xs))
refused_all r s u None y z g d low bound long fault is = tt
refused_all r s u (Some xs) None z g d low bound long fault is = absurd g.taken
refused_all r s u (Some xs) (Some ys) None g d low bound long fault is = absurd d.taken
refused_all r s u (Some xs) (Some ys) (Some zs) g d low bound long fault is =
    let P : Result (Option Line) LineFault → Type 0 = λ a. IsDueAnswer (Err fault) a in
    subst P (sym (same_answer r s xs ys g low)) (refused_told s u ys zs d bound long fault is)

refused_number : (r s u : Reading) (z : Option (List ℕ)) (fault : LineFault) → s.handed ≡ r.handed → IsRefusal s.handed u z fault → HasNumber r.handed (Err fault)
refused_number r s u z Read e is = tt
refused_number r s u z Memory e is = tt
refused_number r s u z Quota e is = tt
refused_number r s u z (TooLong n) e is = is.0 ∙ ap (λ k. k + 1) e

refused_quota : (handed : ℕ) (u : Reading) (z : Option (List ℕ)) (fault : LineFault) → IsRefusal handed u z fault → fault ≡ Quota → u.given ≡ 67108864
refused_quota handed u z fault is e =
    let P : LineFault → Type 0 = λ f. IsRefusal handed u z f in
    (subst P e is).1

refused_open : (handed : ℕ) (u : Reading) (z : Option (List ℕ)) (fault : LineFault) → IsRefusal handed u z fault → IsCutOff (Err fault) → IsOpen u
refused_open handed u z Read is cut = is
refused_open handed u z Memory is cut = absurd is
refused_open handed u z Quota is cut = is.0
refused_open handed u z (TooLong n) is cut = no_cut (Err (TooLong n)) (IsOpen u) (λ e. cc) (λ e. cc) cut

refused_memory : (handed : ℕ) (u : Reading) (z : Option (List ℕ)) (fault : LineFault) → IsRefusal handed u z fault → fault ≡ Memory → ⊥
refused_memory handed u z fault is e =
    let P : LineFault → Type 0 = λ f. IsRefusal handed u z f in
    subst P e is

-- a line that is too long was read to its end, or the limit or a fault came before
pub refused_read : (r s u : Reading) (x y z : Option (List ℕ)) → Grows r s x y → Drops s u y z → s.given ≤ 67108864 → u.given ≤ 67108864 → 70001 < length s.pending → (fault : LineFault) → IsRefusal s.handed u z fault → ReadsLine r u x z (Err fault)
refused_read r s u x y z g d low bound long fault is = record {
  gives = record {
    bytes = g.bytes ++ (d.bytes ++ u.pending);
    given = omega (arith, g.given, d.given, length-append g.bytes (d.bytes ++ u.pending), length-append d.bytes u.pending);
    taken = Consumes-trans x y z g.bytes (d.bytes ++ u.pending) g.taken d.taken;
  };
  answer = refused_all r s u x y z g d low bound long fault is;
  rest = tt;
  number = refused_number r s u z fault g.handed is;
  handed = omega (arith, g.handed, d.handed);
  memory = λ h. absurd (refused_memory s.handed u z fault is (cc));
  quota = λ h. refused_quota s.handed u z fault is (cc);
  cut_off = λ h. open_dropped r s u x y z g d (refused_open s.handed u z fault is h);
  end = λ h. absurd (let bad : ⊥ = cc in bad);
}
