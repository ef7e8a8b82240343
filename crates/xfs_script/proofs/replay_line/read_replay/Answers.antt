use Rattle.xfs_script.proofs.ReplayWords.{no_replay_line}
use Rattle.xfs_script.proofs.replay_line.read_replay.Goals as goal

pub returns-in_default-card_fields-clause-not_a_line : goal.returns-in_default-card_fields-clause-not_a_line
returns-in_default-card_fields-clause-not_a_line c = λ e. no_replay_line c.args.text.now c.in_default-word_of.ensures.none c.in_default-fields_of.ensures.none c.in_default.ensures.none c.in_default-card_fields.ensures.none
