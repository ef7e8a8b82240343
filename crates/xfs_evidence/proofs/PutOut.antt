-- An evidence of a list's last records is one of what the mechanism did, where the whole list agrees with that.
use Rattle.std.proofs.Common.{◌≡◌, ℕ, ◌+◌, Bool, true, false, List, ◌++◌, None, Some, refl, sym, ◌∙◌, ap}
use Rattle.std.specs.Prelude.{if◌then◌else◌}
use Rattle.std.specs.declared.option.Option.{Option}
use Rattle.std.specs.Option.{option_map}
use Rattle.std.specs.List.{before_first}
use Rattle.xfs_journal.specs.declared.record.Rec.{Rec}
use Rattle.xfs_journal.specs.Journal.{is_mark}
use Rattle.xfs_guard.specs.Presented.{presented_in}
use Rattle.xfs_guard.specs.Segment.{has_issue, last_issue, segment}
use Rattle.xfs_guard.proofs.SegmentLaws.{has_issue-append, behind_issue-append, issue_of-append, or-true}
use Rattle.xfs_evidence.specs.Evidence.{evidence_refusal, first_open, open_order}
use Rattle.xfs_evidence.specs.Laws.{ArePutOut}
use Rattle.xfs_evidence.specs.declared.faults.EvidenceFault.TheVariants.{NoIssue, Unsettled}
use Rattle.xfs_evidence.proofs.Segmented.{shown-is}

no-order : (o : Option ℕ) → option_map (λ number. Unsettled number) o ≡ None → o ≡ None
no-order None e = refl
no-order (Some n) e = cc

-- an Issue stands in the records, and each order to present in its segment has its Done
record IsSettled (base : ℕ) (records : List Rec) : Type 0 where
  some : has_issue records ≡ true
  none : open_order base records ≡ None

settled : (base : ℕ) (records : List Rec) → evidence_refusal base records ≡ None → IsSettled base records
settled base records fine = go (has_issue records) refl fine
  where
    go : (b : Bool) → has_issue records ≡ b → (if b then option_map (λ number. Unsettled number) (open_order base records) else Some NoIssue) ≡ None → IsSettled base records
    go true e is = record { some = e; none = no-order (open_order base records) is }
    go false e is = cc

pub put_out : ArePutOut
put_out key units base front records motions nonce bytes evidence fine agrees =
    let is = settled base records fine in
    let whole : has_issue (front ++ records) ≡ true = has_issue-append front records ∙ rw is.some (or-true (has_issue front)) in
    let same : segment (front ++ records) ≡ segment records = ap (before_first is_mark) (behind_issue-append front records is.some) in
    let number : ℕ = base + last_issue records + 1 in
    let none : first_open number (segment (front ++ records)) ≡ None = ap (first_open number) same ∙ is.none in record {
      shown = evidence.shown;
      told = evidence.told;
      is = record {
        issue = issue_of-append front records is.some ∙ evidence.is.issue;
        put_out = λ currency. evidence.is.presented currency ∙ sym (shown-is units (front ++ records) motions currency number agrees whole none ∙ ap (λ l. presented_in units l currency) same);
      };
    }
