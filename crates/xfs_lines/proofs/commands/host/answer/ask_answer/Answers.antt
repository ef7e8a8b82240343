use Rattle.xfs_host.specs.Book.{book_of}
use Rattle.xfs_host.specs.Host.{host_refusal}
use Rattle.xfs_lines.specs.Host.Verbs.{AnswersAsk, reply_text}
use Rattle.xfs_lines.proofs.HostTexts.{ask-ok, done}
use Rattle.xfs_lines.proofs.commands.host.answer.ask_answer.Goals as goal

pub returns-in-Ok-clause-leaves : goal.returns-in-Ok-clause-leaves
returns-in-Ok-clause-leaves c =
    done (AnswersAsk c.args.host.now c.args.ask.now) c.reply_text.result (reply_text c.in-Ok.reply) c.args.host.now c.authorise.new.self
    (ask-ok c.args.host.now c.authorise.new.self (host_refusal (book_of c.args.host.now.calls) c.args.ask.now) c.args.ask.now c.in-Ok.reply c.in-Ok.ensures.refused c.in-Ok.ensures.replied c.in-Ok.ensures.grown)
