use Rattle.std.proofs.Common.{◌≡◌, ◌∙◌, sym, ap, subst, length}
use Rattle.std.specs.List.{prefix_len}
use Rattle.std.proofs.lemmas.Bool.{eqb-true, eqb-false}
use Rattle.hex.specs.Hex.{encode_upper}
use Rattle.xfs_token.specs.Token.{IsMac, is_upper_hex}
use Rattle.xfs_token.proofs.Runs.{Run, run_of}
use Rattle.xfs_token.proofs.Ends.{mac_short, mac_long, mac_whole, decoded}
use Rattle.xfs_token.proofs.reading.mac_of.Goals as goal

pub split_at-requires : goal.split_at-requires
split_at-requires c = (subst (Run is_upper_hex 64 c.args.text.now) (sym (c.run_len-n.ensures ∙ ap (prefix_len is_upper_hex) c.cut.ensures)) (run_of is_upper_hex 64 c.args.text.now)).within

pub returns-then-n-lt64-clause-err : goal.returns-then-n-lt64-clause-err
returns-then-n-lt64-clause-err c = mac_short c.args.text.now c.split_at.result.1.now c.run_len-n.result (subst (Run is_upper_hex 64 c.args.text.now) (sym (c.run_len-n.ensures ∙ ap (prefix_len is_upper_hex) c.cut.ensures)) (run_of is_upper_hex 64 c.args.text.now)) c.if-n-lt64.true c.split_at.ensures.back

pub returns-then-not-is_empty-clause-err : goal.returns-then-not-is_empty-clause-err
returns-then-not-is_empty-clause-err c =
    mac_long c.args.text.now c.split_at.result.1.now c.run_len-n.result (subst (Run is_upper_hex 64 c.args.text.now) (sym (c.run_len-n.ensures ∙ ap (prefix_len is_upper_hex) c.cut.ensures)) (run_of is_upper_hex 64 c.args.text.now)) c.if-n-lt64.false c.split_at.ensures.back
    (eqb-false (length c.split_at.result.1.now) 0 (sym c.is_empty.ensures ∙ c.if-not-is_empty.true))

pub returns-in-Ok-clause-ok : goal.returns-in-Ok-clause-ok
returns-in-Ok-clause-ok c =
    let m = mac_whole c.args.text.now c.split_at.result.1.now c.run_len-n.result (subst (Run is_upper_hex 64 c.args.text.now) (sym (c.run_len-n.ensures ∙ ap (prefix_len is_upper_hex) c.cut.ensures)) (run_of is_upper_hex 64 c.args.text.now)) c.if-n-lt64.false c.split_at.ensures.back
    (eqb-true (length c.split_at.result.1.now) 0 (sym c.is_empty.ensures ∙ c.if-not-is_empty.false)) in
    let d = decoded c.args.text.now m in
    let e : m.mac ≡ c.in-Ok.mac = cc (d, c.in-Ok.ensures) in
    (subst IsMac e m.is_mac, m.is ∙ ap encode_upper e)

pub returns-in-Err-clause-err : goal.returns-in-Err-clause-err
returns-in-Err-clause-err c =
    let m = mac_whole c.args.text.now c.split_at.result.1.now c.run_len-n.result (subst (Run is_upper_hex 64 c.args.text.now) (sym (c.run_len-n.ensures ∙ ap (prefix_len is_upper_hex) c.cut.ensures)) (run_of is_upper_hex 64 c.args.text.now)) c.if-n-lt64.false c.split_at.ensures.back
    (eqb-true (length c.split_at.result.1.now) 0 (sym c.is_empty.ensures ∙ c.if-not-is_empty.false)) in
    let d = decoded c.args.text.now m in
    absurd (cc (d, c.in-Err.ensures))
