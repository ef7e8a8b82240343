use Rattle.xfs_lines.proofs.HostTexts.{leaves-verb, tells-verb}
use Rattle.xfs_lines.proofs.commands.host.answer.verb_text.Goals as goal

pub returns-in-Account-clause-answer : goal.returns-in-Account-clause-answer
returns-in-Account-clause-answer c = tells-verb c.open_line.result c.args.host.now c.open_line.new.host _ c.args.verb.now _ c.in-Account.is (λ output one. one) c.open_line.ensures.answer

pub returns-in-Account-clause-leaves : goal.returns-in-Account-clause-leaves
returns-in-Account-clause-leaves c = leaves-verb c.open_line.result c.args.host.now c.open_line.new.host _ c.args.verb.now _ c.in-Account.is (λ output one. one) c.open_line.ensures.leaves

pub returns-in-Ok-clause-answer : goal.returns-in-Ok-clause-answer
returns-in-Ok-clause-answer c =
    tells-verb c.ask_line.result c.args.host.now c.ask_line.new.host _ c.args.verb.now _ c.in-Ask.is (λ output one. one)
    (rw (c.in-Ok.ensures.ok, c.list.ensures) at c.ask_line.ensures.answer)

pub returns-in-Ok-clause-leaves : goal.returns-in-Ok-clause-leaves
returns-in-Ok-clause-leaves c =
    leaves-verb c.ask_line.result c.args.host.now c.ask_line.new.host _ c.args.verb.now _ c.in-Ask.is (λ output one. one)
    (rw (c.in-Ok.ensures.ok, c.list.ensures) at c.ask_line.ensures.leaves)
