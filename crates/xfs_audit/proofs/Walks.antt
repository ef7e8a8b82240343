-- What a walk along records owes at each place.
use Rattle.std.proofs.Common.{◌≡◌, ℕ, zero, suc, ◌+◌, ◌<◌, List, [], ◌∷◌, length, take, get_or, arith, sym, ap, ◌∙◌, ◌≤◌}
use Rattle.std.specs.Prelude.{fold}
use Rattle.std.proofs.lemmas.List.{take_more}
use Rattle.std.proofs.lemmas.List.Sums.{fold_more}
use Rattle.xfs_journal.specs.declared.record.Rec.{Rec}
use Rattle.xfs_journal.specs.declared.record.Rec.TheVariants.{Issue, Clear, Expire, Boot, Start, Bind, Order, Done, Load}
use Rattle.xfs_journal.specs.Journal.{Walk, next_number}
use Rattle.xfs_journal.proofs.JournalLaws.{Walk-push}

-- one more record, which owes nothing
pub walk-more : {S : Type 0} (step : S → Rec → S) (Owes : S → Rec → Type 0) (s : S) (xs : List Rec) (i : ℕ) (x : Rec) → i < length xs → x ≡ get_or xs i x
    → Walk step Owes s (take i xs) → Owes (fold step s (take i xs)) x → Walk step Owes s (take (i + 1) xs)
walk-more step Owes s xs i x lt is w o = rw (take_more xs i x lt, ← is) (Walk-push step Owes s (take i xs) x w o)

-- what is owed at a place
pub walk-at : {S : Type 0} (step : S → Rec → S) (Owes : S → Rec → Type 0) (s : S) (xs : List Rec) (i : ℕ) (x : Rec) → i < length xs → x ≡ get_or xs i x
    → Walk step Owes s xs → Owes (fold step s (take i xs)) x
walk-at step Owes s [] i x lt is w = absurd (omega arith)
walk-at step Owes s (y ∷ ys) zero x lt is w = rw is w.0
walk-at step Owes s (y ∷ ys) (suc i) x lt is w = walk-at step Owes (step s y) ys i x (omega arith) is w.1

-- one more step of a fold
pub fold-at : {S : Type 0} (step : S → Rec → S) (s : S) (xs : List Rec) (i : ℕ) (x : Rec) → i < length xs → x ≡ get_or xs i x → fold step s (take (i + 1) xs) ≡ step (fold step s (take i xs)) x
fold-at step s xs i x lt is = fold_more step s xs i x lt ∙ ap (step (fold step s (take i xs))) (sym is)

pub number-le : (n : ℕ) (r : Rec) → next_number n r ≤ n + 1
number-le n (Issue number word) = omega arith
number-le n Clear = omega arith
number-le n Expire = omega arith
number-le n (Boot places) = omega arith
number-le n (Start issues places) = omega arith
number-le n (Bind token) = omega arith
number-le n (Order kind counts) = omega arith
number-le n (Done moved diverted) = omega arith
number-le n (Load unit count) = omega arith
