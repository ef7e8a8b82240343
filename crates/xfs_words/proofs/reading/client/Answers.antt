use Rattle.std.proofs.Common.{rules, ◌≡◌, ◌∙◌, None, Some, codes}
use Rattle.clap.specs.Words.{first_value, found_of, rows_of}
use Rattle.clap.proofs.WalkLemmas.{first_value-rows}
use Rattle.xfs_words.proofs.MadeLaws.{no_letters, other_letters, withdrawal_made}
use Rattle.xfs_words.proofs.reading.client.Goals as goal

pub returns-in_default : goal.returns-in_default
returns-in_default c =
    let none : None ≡ first_value (found_of c.args.found.now) (codes "currency") = search rules in
    no_letters (rows_of (found_of c.args.found.now)) (none ∙ first_value-rows (found_of c.args.found.now) (codes "currency"))

pub returns-in_ok-number-in-Some-new : goal.returns-in_ok-number-in-Some-new
returns-in_ok-number-in-Some-new c =
    let some : Some c.in-Some.letters.now ≡ first_value (found_of c.args.found.now) (codes "currency") = search rules in
    withdrawal_made (rows_of (found_of c.args.found.now)) c.in-Some.letters.now c.in-Some-new.currency c.number.result c.in_ok-number-in-Some-new.field-0
    (some ∙ first_value-rows (found_of c.args.found.now) (codes "currency")) (search rules) (search rules) c.number.ensures (search rules)

pub returns-in-None : goal.returns-in-None
returns-in-None c =
    let some : Some c.in-Some.letters.now ≡ first_value (found_of c.args.found.now) (codes "currency") = search rules in
    other_letters (rows_of (found_of c.args.found.now)) c.in-Some.letters.now
    (some ∙ first_value-rows (found_of c.args.found.now) (codes "currency")) (search rules)
