use Rattle.std.proofs.Common.{◌≤◌, ◌<◌, length, arith}
use Rattle.xfs_lines.proofs.HostTexts.{shown_all, shown_more}
use Rattle.xfs_lines.proofs.commands.host.text.show_text.Goals as goal

pub loop-i-init : goal.loop-i-init
loop-i-init c = c.new-text.ensures.items

pub loop-i-preserved : goal.loop-i-preserved
loop-i-preserved c =
    let within : c.loop-i.i < length c.in_ok-accounts.accounts.items = omega (arith, c.loop-i-test.true, c.len-i-end.ensures) in
    shown_more c.in_ok-accounts.accounts.items c.loop-i.i c.index.result.now c.loop-i.text.items c.push_account.new.text.items within c.index.ensures c.loop-i.invariant c.in_ok-push_account.ensures

pub returns : goal.returns
returns c =
    let all : length c.in_ok-accounts.accounts.items ≤ c.loop-i.i = omega (arith, c.loop-i-test.false, c.len-i-end.ensures) in
    shown_all c.args.host.now c.in_ok-accounts.accounts.items c.loop-i.i c.loop-i.text.items c.in_ok-accounts.ensures all c.loop-i.invariant
