use Rattle.std.proofs.Common.{◌≡◌, ◌+◌, ◌<◌, true, false, length, refl, sym, subst, arith, rules}
use Rattle.std.specs.declared.option.Option.{Option}
use Rattle.std.proofs.lemmas.Option.{slice_get_read}
use Rattle.xfs_journal.specs.JournalView.{PartsAt}
use Rattle.xfs_journal.specs.declared.record.Rec.{Rec}
use Rattle.xfs_journal.proofs.Differing.{next_parts, far_parts}
use Rattle.xfs_journal.proofs.differ.parts_behind.Goals as goal

pub returns-then-not-is_same-clause-parts : goal.returns-then-not-is_same-clause-parts
returns-then-not-is_same-clause-parts c =
    let found = c.args.found.now in
    let kept = c.args.kept.now in
    let next = c.in-Some.next.now in
    let there = slice_get_read found (length found) (length kept) next refl c.in-Some.ensures.lookup.3.0 c.in-Some.ensures.lookup.1 in
    let no' : c.is_same.result ≡ false = search rules in
    subst (λ (d : Option Rec). PartsAt kept d found (length kept)) (sym c.in-Some-in_doubt.is)
    (next_parts found kept c.requires.begins.0 c.requires.begins.1 next c.in-Some-in_doubt.rec there (c.is_same.ensures.no no'))

pub returns-clause-parts : goal.returns-clause-parts
returns-clause-parts c =
    let found = c.args.found.now in
    let kept = c.args.kept.now in
    let next = c.in-Some.next.now in
    let there = slice_get_read found (length found) (length kept) next refl c.in-Some.ensures.lookup.3.0 c.in-Some.ensures.lookup.1 in
    let yes : c.is_same.result ≡ true = search rules in
    let long : length kept + 1 < length found = omega (arith, c.in-Some.ensures.lookup.3.0, c.if-found-kept.false) in
    subst (λ (d : Option Rec). PartsAt kept d found (length kept + 1)) (sym c.in-Some-in_doubt.is)
    (far_parts found kept c.requires.begins.0 c.requires.begins.1 next c.in-Some-in_doubt.rec there (c.is_same.ensures.yes yes) long)
