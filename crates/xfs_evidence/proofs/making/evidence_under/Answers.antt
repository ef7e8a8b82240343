use Rattle.std.proofs.Common.{◌≡◌, ◌∙◌, ◌+◌, ◌-◌, ◌++◌, ℕ, List, Option, true, false, None, Some, refl, sym, ap, ap₂, drop, take, get_or}
use Rattle.std.specs.Option.{option_map}
use Rattle.std.specs.List.{before_first}
use Rattle.xfs_journal.specs.declared.record.Rec.{Rec}
use Rattle.xfs_journal.specs.Journal.{is_mark, is_issue}
use Rattle.xfs_guard.specs.Presented.{presented_in}
use Rattle.xfs_guard.proofs.SegmentLaws.{has_issue-append, behind_issue-append, issue_of-append, or-true}
use Rattle.xfs_guard.specs.Segment.{has_issue, last_issue, segment, carried}
use Rattle.xfs_evidence.specs.Evidence.{evidence_refusal, open_order, first_open}
use Rattle.xfs_evidence.specs.declared.faults.EvidenceFault.TheVariants.{Unsettled}
use Rattle.xfs_evidence.proofs.Places.{has-none, has-some, behind-is, issue-there, issue-carries}
use Rattle.xfs_evidence.proofs.Segmented.{shown-is}
use Rattle.xfs_evidence.proofs.making.evidence_under.Goals as goal

-- the segment that was cut
segment-is : (records behind seg : List Rec) (place : ℕ) → has_issue records ≡ true → place ≡ last_issue records → behind ≡ drop place records → seg ≡ before_first is_mark behind → seg ≡ segment records
segment-is records behind seg place some at cut front = front ∙ ap (before_first is_mark) (cut ∙ ap (λ n. drop n records) at ∙ behind-is records some)

-- whether there is an order without a Done
refusal-is : (base : ℕ) (records : List Rec) (o : Option ℕ) → has_issue records ≡ true → open_order base records ≡ o → evidence_refusal base records ≡ option_map (λ number. Unsettled number) o
refusal-is base records o some found = rw (some, found) refl

-- the record at the place
here : (records front : List Rec) (place : ℕ) (d : Rec) → d ≡ get_or front (place - 1) d → front ≡ take place records → place ≡ last_issue records → d ≡ get_or (take (last_issue records) records) (last_issue records - 1) d
here records front place d is cut at = is ∙ ap (λ l. get_or l (place - 1) d) cut ∙ ap (λ n. get_or (take n records) (n - 1) d) at

pub returns-then-place-eq0-clause-refused : goal.returns-then-place-eq0-clause-refused
returns-then-place-eq0-clause-refused c =
    let none = has-none c.args.records.now (sym c.last_issue-place.ensures.place ∙ c.if-place-eq0.true) in
    rw none refl

pub returns-in-Some-clause-refused : goal.returns-in-Some-clause-refused
returns-in-Some-clause-refused c =
    let records = c.args.records.now in
    let some = has-some records (λ e. c.if-place-eq0.false (c.last_issue-place.ensures.place ∙ e)) in
    let seg = segment-is records c.split_at.result.1.now c.unmarked_part-segment.result.now c.last_issue-place.result some c.last_issue-place.ensures.place c.split_at.ensures.back c.unmarked_part-segment.ensures.front in
    let number : c.args.base + c.last_issue-place.result + 1 ≡ c.args.base + last_issue records + 1 = ap (λ n. c.args.base + n + 1) c.last_issue-place.ensures.place in
    let found : open_order c.args.base records ≡ Some (c.args.base + c.last_issue-place.result + 1 + c.in-Some.open) =
    sym (c.in-Some.ensures.first (c.args.base + c.last_issue-place.result + 1) ∙ ap₂ first_open number seg) in
    let refused = refusal-is c.args.base records (Some (c.args.base + c.last_issue-place.result + 1 + c.in-Some.open)) some found in
    rw refused refl

pub number_of-requires : goal.number_of-requires
number_of-requires c =
    let records = c.args.records.now in
    let some = has-some records (λ e. c.if-place-eq0.false (c.last_issue-place.ensures.place ∙ e)) in
    ap is_issue (here records c.split_at.result.0.now c.last_issue-place.result c.index-front-place.result c.index-front-place.is c.split_at.ensures.front c.last_issue-place.ensures.place) ∙ issue-there records c.index-front-place.result some

pub amounts_presented-requires-clause-small : goal.amounts_presented-requires-clause-small
amounts_presented-requires-clause-small c =
    let records = c.args.records.now in
    let some = has-some records (λ e. c.if-place-eq0.false (c.last_issue-place.ensures.place ∙ e)) in
    let seg = segment-is records c.split_at.result.1.now c.unmarked_part-segment.result.now c.last_issue-place.result some c.last_issue-place.ensures.place c.split_at.ensures.back c.unmarked_part-segment.ensures.front in
    λ currency. rw seg (c.requires.tellable.small currency)

pub spell-requires-clause-issue : goal.spell-requires-clause-issue
spell-requires-clause-issue c =
    let records = c.args.records.now in
    let some = has-some records (λ e. c.if-place-eq0.false (c.last_issue-place.ensures.place ∙ e)) in
    let at = here records c.split_at.result.0.now c.last_issue-place.result c.index-front-place.result c.index-front-place.is c.split_at.ensures.front c.last_issue-place.ensures.place in
    c.requires.tellable.issued c.number_of.result (issue-carries records c.index-front-place.result c.number_of.result some (sym (ap (λ (r : Rec). carried (Some r)) at) ∙ c.number_of.ensures))

pub returns-in-Err-clause-refused : goal.returns-in-Err-clause-refused
returns-in-Err-clause-refused c =
    let records = c.args.records.now in
    let some = has-some records (λ e. c.if-place-eq0.false (c.last_issue-place.ensures.place ∙ e)) in
    let seg = segment-is records c.split_at.result.1.now c.unmarked_part-segment.result.now c.last_issue-place.result some c.last_issue-place.ensures.place c.split_at.ensures.back c.unmarked_part-segment.ensures.front in
    let none : open_order c.args.base records ≡ None = sym (c.in_default.ensures.first (c.args.base + last_issue records + 1) ∙ ap (first_open (c.args.base + last_issue records + 1)) seg) in
    rw (refusal-is c.args.base records None some none) refl

pub returns-in-Ok-clause-refused : goal.returns-in-Ok-clause-refused
returns-in-Ok-clause-refused c =
    let records = c.args.records.now in
    let some = has-some records (λ e. c.if-place-eq0.false (c.last_issue-place.ensures.place ∙ e)) in
    let seg = segment-is records c.split_at.result.1.now c.unmarked_part-segment.result.now c.last_issue-place.result some c.last_issue-place.ensures.place c.split_at.ensures.back c.unmarked_part-segment.ensures.front in
    let none : open_order c.args.base records ≡ None = sym (c.in_default.ensures.first (c.args.base + last_issue records + 1) ∙ ap (first_open (c.args.base + last_issue records + 1)) seg) in
    rw (refusal-is c.args.base records None some none) tt

pub returns-in-Ok-clause-ok : goal.returns-in-Ok-clause-ok
returns-in-Ok-clause-ok c =
    let records = c.args.records.now in
    let some = has-some records (λ e. c.if-place-eq0.false (c.last_issue-place.ensures.place ∙ e)) in
    let seg = segment-is records c.split_at.result.1.now c.unmarked_part-segment.result.now c.last_issue-place.result some c.last_issue-place.ensures.place c.split_at.ensures.back c.unmarked_part-segment.ensures.front in
    let at = here records c.split_at.result.0.now c.last_issue-place.result c.index-front-place.result c.index-front-place.is c.split_at.ensures.front c.last_issue-place.ensures.place in
    let issue = issue-carries records c.index-front-place.result c.number_of.result some (sym (ap (λ (r : Rec). carried (Some r)) at) ∙ c.number_of.ensures) in record {
      shown = record { issue = c.number_of.result; amounts = c.amounts_presented.result };
      told = c.in-Ok.ensures;
      is = record { issue = issue; presented = λ currency. c.amounts_presented.ensures.right currency ∙ ap (λ l. presented_in c.args.units.now l currency) seg };
    }

pub returns-in-Ok-clause-put_out : goal.returns-in-Ok-clause-put_out
returns-in-Ok-clause-put_out c = λ front motions size agrees.
    (let records = c.args.records.now in
    let some = has-some records (λ e. c.if-place-eq0.false (c.last_issue-place.ensures.place ∙ e)) in
    let seg = segment-is records c.split_at.result.1.now c.unmarked_part-segment.result.now c.last_issue-place.result some c.last_issue-place.ensures.place c.split_at.ensures.back c.unmarked_part-segment.ensures.front in
    let at = here records c.split_at.result.0.now c.last_issue-place.result c.index-front-place.result c.index-front-place.is c.split_at.ensures.front c.last_issue-place.ensures.place in
    let issue = issue-carries records c.index-front-place.result c.number_of.result some (sym (ap (λ (r : Rec). carried (Some r)) at) ∙ c.number_of.ensures) in
    let whole : has_issue (front ++ records) ≡ true = has_issue-append front records ∙ rw some (or-true (has_issue front)) in
    let same : segment (front ++ records) ≡ segment records = ap (before_first is_mark) (behind_issue-append front records some) in
    let none : first_open 0 (segment (front ++ records)) ≡ None = sym (c.in_default.ensures.first 0 ∙ ap (first_open 0) (seg ∙ sym same)) in record {
      shown = record { issue = c.number_of.result; amounts = c.amounts_presented.result };
      told = c.in-Ok.ensures;
      is = record {
        issue = issue_of-append front records some ∙ issue;
        put_out = λ currency. c.amounts_presented.ensures.right currency ∙ ap (λ l. presented_in c.args.units.now l currency) (seg ∙ sym same) ∙ sym (shown-is c.args.units.now (front ++ records) motions currency 0 agrees whole none);
      };
    })
