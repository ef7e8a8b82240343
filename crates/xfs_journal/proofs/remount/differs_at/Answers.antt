use Rattle.std.proofs.Common.{◌≡◌, ◌+◌, ◌∙◌, sym, ap, subst, length, drop, min, arith, rules, ℕ, List}
use Rattle.std.proofs.lemmas.List.{drop-drop}
use Rattle.xfs_journal.specs.Image.{blocks}
use Rattle.xfs_journal.specs.JournalView.{DiffersAt, PartsAt}
use Rattle.xfs_journal.specs.declared.record.Rec.{Rec}
use Rattle.xfs_journal.proofs.Differing.{short_other, short_differs, end-split}
use Rattle.xfs_journal.proofs.remount.differs_at.Goals as goal

pub returns-then-base-clause-other : goal.returns-then-base-clause-other
returns-then-base-clause-other c =
    let held : c.args.listed.now.recent.base ≡ min c.args.kept.now.base (length c.args.listed.now.recent.all) = c.requires.held in
    short_other c.args.kept.now.all c.args.listed.now.recent.all c.args.in_doubt.now c.args.kept.now.base c.requires.led (search rules)

pub returns-then-base-clause-differs : goal.returns-then-base-clause-differs
returns-then-base-clause-differs c =
    subst (λ (at : ℕ). DiffersAt c.args.kept.now.base c.args.kept.now.all c.args.in_doubt.now c.args.listed.now.recent.all at) (sym c.requires.place)
    (short_differs c.args.kept.now.all c.args.listed.now.recent.all c.args.in_doubt.now c.args.kept.now.base c.requires.led (search rules))

pub size_of-requires-clause-small : goal.size_of-requires-clause-small
size_of-requires-clause-small c =
    let L = c.args.listed.now.recent.all in
    let kb = c.args.kept.now.base in
    let held : c.args.listed.now.recent.base ≡ min kb (length L) = c.requires.held in
    let base : c.args.listed.now.recent.base ≡ kb = search rules in
    let found : c.records-found.result.now ≡ drop kb L = c.records-found.ensures ∙ ap (λ b. drop b L) base in
    let behind : c.split_at.result.1.now ≡ drop (kb + c.in_ok-at.at) L = c.split_at.ensures.back ∙ ap (λ (l : List Rec). drop c.in_ok-at.at l) found ∙ drop-drop c.in_ok-at.at kb L in
    omega (arith, ap (λ (l : List Rec). length (blocks l)) behind, end-split L (kb + c.in_ok-at.at), c.requires.place, c.requires.small)

pub overflow_sub-result : goal.overflow_sub-result
overflow_sub-result c =
    let L = c.args.listed.now.recent.all in
    let kb = c.args.kept.now.base in
    let held : c.args.listed.now.recent.base ≡ min kb (length L) = c.requires.held in
    let base : c.args.listed.now.recent.base ≡ kb = search rules in
    let found : c.records-found.result.now ≡ drop kb L = c.records-found.ensures ∙ ap (λ b. drop b L) base in
    let behind : c.split_at.result.1.now ≡ drop (kb + c.in_ok-at.at) L = c.split_at.ensures.back ∙ ap (λ (l : List Rec). drop c.in_ok-at.at l) found ∙ drop-drop c.in_ok-at.at kb L in
    omega (arith, c.size_of.ensures.size, ap (λ (l : List Rec). length (blocks l)) behind, end-split L (kb + c.in_ok-at.at), c.requires.place)

pub returns-clause-differs : goal.returns-clause-differs
returns-clause-differs c =
    let L = c.args.listed.now.recent.all in
    let K = c.args.kept.now.all in
    let kb = c.args.kept.now.base in
    let held : c.args.listed.now.recent.base ≡ min kb (length L) = c.requires.held in
    let base : c.args.listed.now.recent.base ≡ kb = search rules in
    let found : c.records-found.result.now ≡ drop kb L = c.records-found.ensures ∙ ap (λ b. drop b L) base in
    let behind : c.split_at.result.1.now ≡ drop (kb + c.in_ok-at.at) L = c.split_at.ensures.back ∙ ap (λ (l : List Rec). drop c.in_ok-at.at l) found ∙ drop-drop c.in_ok-at.at kb L in
    let parts : PartsAt (drop kb K) c.args.in_doubt.now (drop kb L) c.in_ok-at.at = rw (← found, ← c.records.ensures) c.in_ok-at.ensures.parts in
    (c.in_ok-at.at, parts, omega (arith, c.size_of.ensures.size, ap (λ (l : List Rec). length (blocks l)) behind, end-split L (kb + c.in_ok-at.at), c.requires.place))
