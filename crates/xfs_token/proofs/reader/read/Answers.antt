use Rattle.std.proofs.Common.{◌≤◌, sym, subst, length, arith, inl}
use Rattle.xfs_token.specs.Fault.{IsFault}
use Rattle.xfs_token.proofs.Front.{nonce_most}
use Rattle.xfs_token.proofs.Whole.{wrong_length, spells_from}
use Rattle.xfs_token.proofs.reader.read.Goals as goal

pub length_fault-requires : goal.length_fault-requires
length_fault-requires c = nonce_most c.in-Ok.token.nonce c.in-Ok.ensures.ok.formed.nonce

pub returns-then-number-bytes-clause-fault : goal.returns-then-number-bytes-clause-fault
returns-then-number-bytes-clause-fault c =
    let short : length c.args.bytes.now ≤ 1024 = (let h = c.if-bytes-gt1024.false in omega arith) in
    subst (IsFault c.args.bytes.now) (sym c.length_fault.ensures) (short, inl (wrong_length c.args.bytes.now c.in-Ok.token c.in-Ok.number c.in-Ok.ensures.ok c.if-number-bytes.true short))

pub returns-else-number-bytes-clause-ok : goal.returns-else-number-bytes-clause-ok
returns-else-number-bytes-clause-ok c = spells_from c.args.bytes.now c.in-Ok.token c.in-Ok.number c.in-Ok.ensures.ok c.if-number-bytes.false (let h = c.if-bytes-gt1024.false in omega arith)
