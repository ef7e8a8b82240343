use Rattle.std.proofs.lemmas.List.{take_rest}
use Rattle.xfs_sides.proofs.MarkLaws.{all_marked, next_marked, none_marked}
use Rattle.xfs_sides.proofs.mark.mark_lines.Goals as goal

pub loop-end-init : goal.loop-end-init
loop-end-init c = none_marked _ _ _ c.in_ok-marked.ensures.items

pub loop-end-preserved : goal.loop-end-preserved
loop-end-preserved c = rw take_rest (next_marked c.args.letter c.args.text.now c.loop-end.rest.now _ _ _ c.in-Some.end c.loop-end.invariant c.in-Some.ensures c.in_ok-extend_from_slice.ensures.items c.in_ok-extend_from_slice-2.ensures.items)

pub returns : goal.returns
returns c = all_marked c.args.letter c.args.text.now c.loop-end.rest.now _ c.loop-end.invariant c.in_default.ensures
