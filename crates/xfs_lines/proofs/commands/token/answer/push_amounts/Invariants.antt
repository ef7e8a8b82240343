use Rattle.std.proofs.Common.{◌≡◌, ◌≤◌, ◌++◌, take}
use Rattle.xfs_lines.specs.Token.Verbs.{joined_amounts}
use Rattle.xfs_lines.proofs.commands.token.answer.push_amounts.Given as goal

abbrev pub invariant-amounts : goal.invariant-amounts
invariant-amounts l = record {
  low : 1 ≤ l.i;
  text : l.text.items ≡ l.fn.text.items ++ joined_amounts (take l.i l.amounts);
}
