-- What one more record changes in what was presented since the last mark.
use Rattle.std.proofs.Common.{◌≡◌, ℕ, List, [], ◌∷◌, ◌++◌, length, None, refl, ◌∙◌, ap}
use Rattle.std.specs.Prelude.{fold}
use Rattle.std.proofs.lemmas.List.Sums.{fold_push}
use Rattle.xfs_base.specs.declared.money.NoteKind.{NoteKind}
use Rattle.xfs_journal.specs.declared.record.Rec.{Rec}
use Rattle.xfs_journal.specs.Journal.{record_at}
use Rattle.xfs_guard.specs.Agrees.{keep_last}
use Rattle.xfs_guard.specs.Presented.{Paid, paid_after, worth_after, presented_in}
use Rattle.xfs_guard.proofs.AgreesLaws.{last_is}

paid-last : (u : List NoteKind) (c : List ℕ) (s : Paid) (records : List Rec) → (fold (paid_after u c) s records).last ≡ fold keep_last s.last records
paid-last u c s [] = refl
paid-last u c s (r ∷ rs) = paid-last u c (paid_after u c s r) rs

pub presented_in-push : (u : List NoteKind) (records : List Rec) (r : Rec) (c : List ℕ)
    → presented_in u (records ++ r ∷ []) c ≡ worth_after u c (record { last = record_at records (length records); worth = presented_in u records c }) r
presented_in-push u records r c =
    ap (λ (p : Paid). p.worth) (fold_push (paid_after u c) (record { last = None; worth = 0 }) records r)
    ∙ ap (λ l. worth_after u c (record { last = l; worth = presented_in u records c }) r) (paid-last u c (record { last = None; worth = 0 }) records ∙ last_is records)
