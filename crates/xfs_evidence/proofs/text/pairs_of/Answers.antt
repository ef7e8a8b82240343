use Rattle.std.proofs.Common.{◌≤◌, ◌∙◌, [], length, sym, subst, arith}
use Rattle.std.specs.Prelude.{unwrap_or}
use Rattle.xfs_evidence.proofs.Following.{follow-told, length-told}
use Rattle.xfs_evidence.proofs.Spelling.{pairs-chain}
use Rattle.xfs_evidence.proofs.text.pairs_of.Goals as goal

pub returns-clause-text : goal.returns-clause-text
returns-clause-text c =
    pairs-chain _ _ _ _ _ c.args.shown.now.issue (unwrap_or c.args.shown.now.amounts []) c.in_ok-text.ensures.items c.in_ok-extend_from_slice.ensures.items c.in_ok-extend_from_slice-2.ensures.items c.in_ok-push_all.ensures.text
    (c.as_bytes.ensures.value ∙ c.format.ensures.text)

pub returns-clause-short : goal.returns-clause-short
returns-clause-short c =
    let short = length-told c.args.shown.now.issue (unwrap_or c.args.shown.now.amounts []) (omega arith) c.requires.few c.push_all.ensures.payable in
    subst (λ l. length l ≤ 256) (sym (returns-clause-text c)) short

pub returns-clause-follow : goal.returns-clause-follow
returns-clause-follow c = follow-told c.args.shown.now.issue (unwrap_or c.args.shown.now.amounts []) (omega arith) c.requires.few c.push_all.ensures.payable
