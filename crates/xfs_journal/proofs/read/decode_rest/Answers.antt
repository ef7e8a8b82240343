use Rattle.std.proofs.Common.{◌≢◌, ◌∙◌, rules}
use Rattle.xfs_journal.proofs.Reading.{load_in}
use Rattle.xfs_journal.proofs.read.decode_rest.Goals as goal

pub returns-in-66-clause-ok : goal.returns-in-66-clause-ok
returns-in-66-clause-ok c = rw c.in-66.is c.boot.ensures.ok

pub returns-in-75-clause-ok : goal.returns-in-75-clause-ok
returns-in-75-clause-ok c = rw c.in-75.is c.start.ensures.ok

pub returns-in-84-clause-ok : goal.returns-in-84-clause-ok
returns-in-84-clause-ok c = rw c.in-84.is c.bind.ensures.ok

pub returns-in-79-clause-ok : goal.returns-in-79-clause-ok
returns-in-79-clause-ok c = rw c.in-79.is c.order.ensures

pub returns-in-68-clause-ok : goal.returns-in-68-clause-ok
returns-in-68-clause-ok c = rw c.in-68.is c.done.ensures

pub returns-in_default-clause-ok : goal.returns-in_default-clause-ok
returns-in_default-clause-ok c =
    let l = c.args.letter in
    let issue : l ≢ 0x49 = search rules in
    let clear : l ≢ 0x43 = search rules in
    let expire : l ≢ 0x45 = search rules in
    let boot : l ≢ 0x42 = search rules in
    let start : l ≢ 0x4B = search rules in
    let bind : l ≢ 0x54 = search rules in
    let order : l ≢ 0x4F = search rules in
    let done : l ≢ 0x44 = search rules in
    c.load.ensures ∙ load_in l c.args.rest.now issue clear expire boot start bind order done
