use Rattle.std.proofs.Common.{◌≡◌, ◌≤◌, ◌∙◌, ℕ, sym, subst, take, drop, length, true}
use Rattle.std.specs.List.{list_all}
use Rattle.xfs_token.specs.Token.{is_value_byte}
use Rattle.xfs_token.proofs.Tails.{FirstFails}
use Rattle.xfs_token.proofs.Runs.{run_of_all}
use Rattle.xfs_token.proofs.Ends.{value_none, value_stuck, value_ends}
use Rattle.xfs_token.proofs.reading.value_len.Goals as goal

pub returns-then-n-eq0-clause-err : goal.returns-then-n-eq0-clause-err
returns-then-n-eq0-clause-err c earlier key =
    let r = subst (λ (n : ℕ). (n ≤ length c.args.text.now) × (list_all is_value_byte (take n c.args.text.now) ≡ true) × FirstFails is_value_byte (drop n c.args.text.now)) (sym c.run_len-n.ensures) (run_of_all is_value_byte c.args.text.now) in
    value_none c.args.text.now c.run_len-n.result earlier key r.2 c.if-n-eq0.true

pub split_at-requires : goal.split_at-requires
split_at-requires c = (subst (λ (n : ℕ). (n ≤ length c.args.text.now) × (list_all is_value_byte (take n c.args.text.now) ≡ true) × FirstFails is_value_byte (drop n c.args.text.now)) (sym c.run_len-n.ensures) (run_of_all is_value_byte c.args.text.now)).0

pub returns-then-not-begins-clause-err : goal.returns-then-not-begins-clause-err
returns-then-not-begins-clause-err c earlier key =
    let r = subst (λ (n : ℕ). (n ≤ length c.args.text.now) × (list_all is_value_byte (take n c.args.text.now) ≡ true) × FirstFails is_value_byte (drop n c.args.text.now)) (sym c.run_len-n.ensures) (run_of_all is_value_byte c.args.text.now) in
    value_stuck c.args.text.now c.split_at.result.1.now c.run_len-n.result earlier key r.0 r.1 r.2 c.if-n-eq0.false c.split_at.ensures.back (sym c.begins.ensures ∙ c.if-not-begins.true)

pub returns-clause-ok : goal.returns-clause-ok
returns-clause-ok c =
    let r = subst (λ (n : ℕ). (n ≤ length c.args.text.now) × (list_all is_value_byte (take n c.args.text.now) ≡ true) × FirstFails is_value_byte (drop n c.args.text.now)) (sym c.run_len-n.ensures) (run_of_all is_value_byte c.args.text.now) in
    value_ends c.args.text.now c.split_at.result.1.now c.run_len-n.result r.0 r.1 c.if-n-eq0.false c.split_at.ensures.back (sym c.begins.ensures ∙ c.if-not-begins.false)
