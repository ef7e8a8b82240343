use Rattle.std.proofs.lemmas.List.{take_rest}
use Rattle.xfs_cli.proofs.WithTokenLaws.{next_run, last_run}
use Rattle.xfs_cli.proofs.commands.replay.verbs.with_token.Goals as goal

pub loop-place-preserved : goal.loop-place-preserved
loop-place-preserved c = rw take_rest (next_run c.args.token.now _ _ _ c.loop-place.rest.now c.args.message.now c.in-Some.place c.loop-place.invariant c.in-Some.ensures c.in_ok-extend_from_slice.ensures.items c.in_ok-extend_from_slice-2.ensures.items)

pub returns : goal.returns
returns c = last_run c.args.token.now _ _ c.loop-place.rest.now c.args.message.now c.loop-place.invariant c.in_default.ensures c.in_ok-extend_from_slice-3.ensures.items
