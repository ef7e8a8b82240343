use Rattle.std.proofs.Common.{arith, sym}
use Rattle.std.proofs.lemmas.List.{take_rest}
use Rattle.xfs_script.proofs.Ends.{line_end-le, found_is, none_is}
use Rattle.xfs_script.proofs.feed.end_of_line.Goals as goal

pub slice_bounds-memchr-count : goal.slice_bounds-memchr-count
slice_bounds-memchr-count c = omega (arith, line_end-le c.args.bytes.now)

pub slice_bounds-memchr-start : goal.slice_bounds-memchr-start
slice_bounds-memchr-start c = omega (arith, line_end-le c.args.bytes.now)

pub returns-in-Some-clause-is : goal.returns-in-Some-clause-is
returns-in-Some-clause-is c =
    sym (found_is c.args.bytes.now c.args.from c.in-Some.i c.requires (rw take_rest at c.in-Some.ensures))

pub returns-in-None-clause-is : goal.returns-in-None-clause-is
returns-in-None-clause-is c =
    sym (none_is c.args.bytes.now c.args.from c.requires (rw take_rest at c.in-None.ensures))
