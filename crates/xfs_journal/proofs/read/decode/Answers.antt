use Rattle.std.proofs.Common.{refl, sym}
use Rattle.xfs_journal.proofs.Reading.{none_unfit, none_unit, decoded_of}
use Rattle.xfs_journal.proofs.read.decode.Goals as goal

pub returns-then-not-fits-clause-form : goal.returns-then-not-fits-clause-form
returns-then-not-fits-clause-form c = λ _. none_unfit c.args.bytes.now c.in-Some.rest.now c.in-Some.letter.now c.in-Some.ensures.cases.0 (sym c.if-not-fits.ensures)

pub returns-then-has_unit-clause-ok : goal.returns-then-has_unit-clause-ok
returns-then-has_unit-clause-ok c =
    (decoded_of c.args.bytes.now c.in-Some.rest.now c.in-Some.letter.now c.in_ok-rec.rec c.in-Some.ensures.cases.0 c.in_ok-rec.ensures.ok, c.if-has_unit.ensures.yes refl)

pub returns-else-has_unit-clause-form : goal.returns-else-has_unit-clause-form
returns-else-has_unit-clause-form c = λ _. none_unit c.args.bytes.now c.in_ok-rec.rec
    (decoded_of c.args.bytes.now c.in-Some.rest.now c.in-Some.letter.now c.in_ok-rec.rec c.in-Some.ensures.cases.0 c.in_ok-rec.ensures.ok)
    (c.if-has_unit.ensures.no refl)
