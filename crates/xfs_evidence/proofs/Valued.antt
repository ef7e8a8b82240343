-- What was presented: nothing in a currency of no unit, and whole units of the others.
use Rattle.std.proofs.Common.{◌≡◌, ℕ, zero, suc, ◌+◌, ◌*◌, ◌<◌, ◌≤◌, Bool, true, false, List, [], ◌∷◌, length, take, drop, get_or, None, Some, refl, sym, ◌∙◌, ap, arith, true≢false, mul_assoc}
use Rattle.std.specs.Prelude.{if◌then◌else◌, slice_get, slice_index, fold}
use Rattle.std.specs.declared.option.Option.{Option}
use Rattle.std.specs.List.{list_any}
use Rattle.std.specs.Str.{bytes_eq}
use Rattle.std.proofs.lemmas.Bool.{or_parts}
use Rattle.std.proofs.lemmas.List.{take-append-drop}
use Rattle.std.proofs.lemmas.List.Folds.{list_any-append}
use Rattle.std.proofs.lemmas.List.Sums.{fold-append, fold_more}
use Rattle.xfs_base.specs.Money.{value_at, value_from}
use Rattle.xfs_base.specs.declared.counts.Counts.{Counts}
use Rattle.xfs_base.specs.declared.counts.Kind.TheVariants.{Stack, Present, Reject, Retract}
use Rattle.xfs_base.specs.declared.money.NoteKind.{NoteKind}
use Rattle.xfs_journal.specs.declared.record.Rec.{Rec}
use Rattle.xfs_journal.specs.declared.record.Rec.TheVariants.{Issue, Clear, Expire, Boot, Start, Bind, Order, Done, Load}
use Rattle.xfs_journal.specs.Journal.{is_mark}
use Rattle.xfs_guard.specs.Presented.{Paid, paid_after, worth_after, done_worth, presented_in}
use Rattle.xfs_evidence.specs.Evidence.{is_present}
use Rattle.xfs_evidence.specs.Sums.{added}

-- no unit has this currency
abbrev pub AreOther : List NoteKind → List ℕ → Type 0
AreOther units c = (kind : NoteKind) (place : ℕ) → slice_get units place ≡ Some kind → bytes_eq kind.currency c ≡ false

value-other : (units : List NoteKind) (i : ℕ) (counts c : List ℕ) → AreOther units c → value_from units i counts c ≡ 0
value-other [] i counts c other = refl
value-other (k ∷ ks) i counts c other =
    let here : value_at k (slice_index counts i) c ≡ 0 = rw (other k 0 refl) refl in
    let rest = value-other ks (i + 1) counts c (λ kind place got. other kind (suc place) got) in
    omega (arith, here, rest)

-- a sum of whole units
pub record IsRound (n : ℕ) : Type 0 where
  pub whole : ℕ
  pub is : n ≡ 1000 * whole

round-add : (a b : ℕ) → IsRound a → IsRound b → IsRound (a + b)
round-add a b x y = record { whole = x.whole + y.whole; is = omega (arith, x.is, y.is) }

value-round : (units : List NoteKind) (i : ℕ) (counts c : List ℕ) → IsRound (value_from units i counts c)
value-round [] i counts c = record { whole = 0; is = refl }
value-round (k ∷ ks) i counts c = round-add (value_at k (slice_index counts i) c) (value_from ks (i + 1) counts c) (here (bytes_eq k.currency c)) (value-round ks (i + 1) counts c)
  where
    here : (b : Bool) → IsRound (if b then 1000 * k.value * slice_index counts i else 0)
    here true = record { whole = k.value * slice_index counts i; is = mul_assoc 1000 k.value (slice_index counts i) }
    here false = record { whole = 0; is = refl }

-- a fact of each sum of the notes of a Done is one of what was presented
module _ (P : ℕ → Type 0) (units : List NoteKind) (c : List ℕ) (none : P 0) (add : (a b : ℕ) → P a → P b → P (a + b)) (each : (counts : List ℕ) → P (value_from units 0 counts c)) where
  done-holds : (before : Option Rec) (m : Counts) → P (done_worth units c before m)
  done-holds None m = none
  done-holds (Some (Order Present x)) m = each m.0
  done-holds (Some (Order Stack x)) m = none
  done-holds (Some (Order Reject x)) m = none
  done-holds (Some (Order Retract x)) m = none
  done-holds (Some (Issue n w)) m = none
  done-holds (Some Clear) m = none
  done-holds (Some Expire) m = none
  done-holds (Some (Boot p)) m = none
  done-holds (Some (Start i p)) m = none
  done-holds (Some (Bind t)) m = none
  done-holds (Some (Done x y)) m = none
  done-holds (Some (Load i x)) m = none

  step-holds : (s : Paid) (r : Rec) → P s.worth → P (worth_after units c s r)
  step-holds s (Issue n w) h = none
  step-holds s Clear h = none
  step-holds s Expire h = none
  step-holds s (Boot p) h = none
  step-holds s (Start i p) h = none
  step-holds s (Bind t) h = h
  step-holds s (Order k x) h = h
  step-holds s (Done m d) h = add s.worth (done_worth units c s.last m) h (done-holds s.last m)
  step-holds s (Load i x) h = h

  all-hold : (s : Paid) (records : List Rec) → P s.worth → P (fold (paid_after units c) s records).worth
  all-hold s [] h = h
  all-hold s (r ∷ rs) h = all-hold (paid_after units c s r) rs (step-holds s r h)

pub presented-other : (units : List NoteKind) (records : List Rec) (c : List ℕ) → AreOther units c → presented_in units records c ≡ 0
presented-other units records c other = all-hold (λ n. n ≡ 0) units c refl (λ a b x y. omega (arith, x, y)) (λ counts. value-other units 0 counts c other) (record { last = None; worth = 0 }) records refl

pub presented-round : (units : List NoteKind) (records : List Rec) (c : List ℕ) → IsRound (presented_in units records c)
presented-round units records c = all-hold IsRound units c (record { whole = 0; is = refl }) round-add (λ counts. value-round units 0 counts c) (record { last = None; worth = 0 }) records (record { whole = 0; is = refl })

-- an order to present was read last
abbrev pub present_last : Option Rec → Bool
present_last None = false
present_last (Some r) = is_present r

done-added : (units : List NoteKind) (c : List ℕ) (before : Option Rec) (m d : Counts) → done_worth units c before m ≡ added units (present_last before) (Done m d) c
done-added units c None m d = refl
done-added units c (Some (Order Present x)) m d = refl
done-added units c (Some (Order Stack x)) m d = refl
done-added units c (Some (Order Reject x)) m d = refl
done-added units c (Some (Order Retract x)) m d = refl
done-added units c (Some (Issue n w)) m d = refl
done-added units c (Some Clear) m d = refl
done-added units c (Some Expire) m d = refl
done-added units c (Some (Boot p)) m d = refl
done-added units c (Some (Start i p)) m d = refl
done-added units c (Some (Bind t)) m d = refl
done-added units c (Some (Done x y)) m d = refl
done-added units c (Some (Load i x)) m d = refl

nothing-added : (units : List NoteKind) (ordered : Bool) (r : Rec) (c : List ℕ) (w : ℕ) → added units ordered r c ≡ 0 → w ≡ w + added units ordered r c
nothing-added units ordered r c w e = omega (arith, e)

-- one more record, which is no mark, adds to it
pub worth-added : (units : List NoteKind) (c : List ℕ) (s : Paid) (r : Rec) → is_mark r ≡ false → worth_after units c s r ≡ s.worth + added units (present_last s.last) r c
worth-added units c s (Issue n w) e = absurd (true≢false e)
worth-added units c s Clear e = absurd (true≢false e)
worth-added units c s Expire e = absurd (true≢false e)
worth-added units c s (Boot p) e = absurd (true≢false e)
worth-added units c s (Start i p) e = absurd (true≢false e)
worth-added units c s (Bind t) e = nothing-added units (present_last s.last) (Bind t) c s.worth (either (present_last s.last))
  where
    either : (b : Bool) → added units b (Bind t) c ≡ 0
    either true = refl
    either false = refl
worth-added units c s (Order k x) e = nothing-added units (present_last s.last) (Order k x) c s.worth (either (present_last s.last))
  where
    either : (b : Bool) → added units b (Order k x) c ≡ 0
    either true = refl
    either false = refl
worth-added units c s (Done m d) e = ap (λ n. s.worth + n) (done-added units c s.last m d)
worth-added units c s (Load i x) e = nothing-added units (present_last s.last) (Load i x) c s.worth (either (present_last s.last))
  where
    either : (b : Bool) → added units b (Load i x) c ≡ 0
    either true = refl
    either false = refl

grows : (units : List NoteKind) (c : List ℕ) (s : Paid) (records : List Rec) → list_any is_mark records ≡ false → s.worth ≤ (fold (paid_after units c) s records).worth
grows units c s [] none = omega arith
grows units c s (r ∷ rs) none =
    let parts = or_parts (is_mark r) (list_any is_mark rs) none in
    let e = worth-added units c s r parts.0 in
    let ih = grows units c (paid_after units c s r) rs parts.1 in
    omega (arith, e, ih)

pub none-at : (records : List Rec) (i : ℕ) (d : Rec) → i < length records → list_any is_mark records ≡ false → is_mark (get_or records i d) ≡ false
none-at [] i d lt none = absurd (omega arith)
none-at (r ∷ rs) zero d lt none = (or_parts (is_mark r) (list_any is_mark rs) none).0
none-at (r ∷ rs) (suc i) d lt none = none-at rs i d (omega arith) (or_parts (is_mark r) (list_any is_mark rs) none).1

-- what was read so far
abbrev pub paid_to : List NoteKind → List ℕ → List Rec → Paid
paid_to units c records = fold (paid_after units c) (record { last = None; worth = 0 }) records

pub within-all : (units : List NoteKind) (c : List ℕ) (records : List Rec) (i : ℕ) → list_any is_mark records ≡ false → (paid_to units c (take i records)).worth ≤ presented_in units records c
within-all units c records i none =
    let split = take-append-drop i records in
    let parts = or_parts (list_any is_mark (take i records)) (list_any is_mark (drop i records)) (sym (list_any-append is_mark (take i records) (drop i records)) ∙ ap (list_any is_mark) split ∙ none) in
    let g = grows units c (paid_to units c (take i records)) (drop i records) parts.1 in
    let whole : (fold (paid_after units c) (paid_to units c (take i records)) (drop i records)).worth ≡ presented_in units records c =
    ap (λ (s : Paid). s.worth) (sym (fold-append (paid_after units c) (record { last = None; worth = 0 }) (take i records) (drop i records))) ∙ ap (λ l. presented_in units l c) split in
    omega (arith, g, whole)

-- a step of the loop
pub step-worth : (units : List NoteKind) (c : List ℕ) (segment : List Rec) (i : ℕ) (x : Rec) (w : ℕ) (o : Bool) (a : ℕ) → i < length segment → list_any is_mark segment ≡ false → x ≡ get_or segment i x
    → w ≡ (paid_to units c (take i segment)).worth → o ≡ present_last (paid_to units c (take i segment)).last → a ≡ added units o x c → w + a ≡ (paid_to units c (take (i + 1) segment)).worth
step-worth units c segment i x w o a lt none is worth last adds =
    let s : Paid = paid_to units c (take i segment) in
    let next : (paid_to units c (take (i + 1) segment)).worth ≡ worth_after units c s (get_or segment i x) = ap (λ (p : Paid). p.worth) (fold_more (paid_after units c) (record { last = None; worth = 0 }) segment i x lt) in
    let e = worth-added units c s (get_or segment i x) (none-at segment i x lt none) in
    let same : a ≡ added units (present_last s.last) (get_or segment i x) c = adds ∙ ap (λ b. added units b x c) last ∙ ap (λ r. added units (present_last s.last) r c) is in
    omega (arith, next, e, same, worth)

pub step-last : (units : List NoteKind) (c : List ℕ) (segment : List Rec) (i : ℕ) (x : Rec) → i < length segment → x ≡ get_or segment i x → is_present x ≡ present_last (paid_to units c (take (i + 1) segment)).last
step-last units c segment i x lt is =
    ap is_present is ∙ sym (ap (λ (p : Paid). present_last p.last) (fold_more (paid_after units c) (record { last = None; worth = 0 }) segment i x lt))
