use Rattle.std.proofs.Common.{◌∙◌, sym, ap, subst}
use Rattle.std.specs.List.{prefix_len}
use Rattle.xfs_token.specs.Token.{is_upper_hex}
use Rattle.xfs_token.proofs.Runs.{Run, run_of}
use Rattle.xfs_token.proofs.Ends.{nonce_none, nonce_stuck, nonce_ends}
use Rattle.xfs_token.proofs.reading.nonce_len.Goals as goal

pub returns-then-n-eq0-clause-err : goal.returns-then-n-eq0-clause-err
returns-then-n-eq0-clause-err c = nonce_none c.args.text.now c.run_len-n.result (subst (Run is_upper_hex 128 c.args.text.now) (sym (c.run_len-n.ensures ∙ ap (prefix_len is_upper_hex) c.cut.ensures)) (run_of is_upper_hex 128 c.args.text.now)) c.if-n-eq0.true

pub split_at-requires : goal.split_at-requires
split_at-requires c = (subst (Run is_upper_hex 128 c.args.text.now) (sym (c.run_len-n.ensures ∙ ap (prefix_len is_upper_hex) c.cut.ensures)) (run_of is_upper_hex 128 c.args.text.now)).within

pub returns-then-not-begins-clause-err : goal.returns-then-not-begins-clause-err
returns-then-not-begins-clause-err c = nonce_stuck c.args.text.now c.split_at.result.1.now c.run_len-n.result (subst (Run is_upper_hex 128 c.args.text.now) (sym (c.run_len-n.ensures ∙ ap (prefix_len is_upper_hex) c.cut.ensures)) (run_of is_upper_hex 128 c.args.text.now)) c.if-n-eq0.false c.split_at.ensures.back (sym c.begins.ensures ∙ c.if-not-begins.true)

pub returns-clause-ok : goal.returns-clause-ok
returns-clause-ok c = nonce_ends c.args.text.now c.split_at.result.1.now c.run_len-n.result (subst (Run is_upper_hex 128 c.args.text.now) (sym (c.run_len-n.ensures ∙ ap (prefix_len is_upper_hex) c.cut.ensures)) (run_of is_upper_hex 128 c.args.text.now)) c.if-n-eq0.false c.split_at.ensures.back (sym c.begins.ensures ∙ c.if-not-begins.false)
