use Rattle.xfs_lines.proofs.TokenTexts.{tells-line}
use Rattle.xfs_lines.proofs.commands.token.answer.verb_text.Goals as goal

pub returns-in_ok-with_line_feed-in-Read : goal.returns-in_ok-with_line_feed-in-Read
returns-in_ok-with_line_feed-in-Read c = tells-line _ _ _ _ _ c.in-Read.is (rw c.list.ensures at c.in_ok-read_answer-in-Read.ensures) c.in_ok-with_line_feed-in-Read.ensures

pub returns-in_ok-with_line_feed-in-Make : goal.returns-in_ok-with_line_feed-in-Make
returns-in_ok-with_line_feed-in-Make c = tells-line _ _ _ _ _ c.in-Make.is (rw c.list-in-Make.ensures at c.in_ok-make_answer-in-Make.ensures) c.in_ok-with_line_feed-in-Make.ensures

pub returns-in_ok-with_line_feed-in-Mac : goal.returns-in_ok-with_line_feed-in-Mac
returns-in_ok-with_line_feed-in-Mac c = tells-line _ _ _ _ _ c.in-Mac.is (rw (c.list-in-Mac.ensures, c.list-in-Mac-2.ensures) at c.in_ok-mac_answer-in-Mac.ensures) c.in_ok-with_line_feed-in-Mac.ensures
