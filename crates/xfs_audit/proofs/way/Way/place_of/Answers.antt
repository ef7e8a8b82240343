use Rattle.std.proofs.Common.{Some, ap, sym, ◌∙◌, arith}
use Rattle.std.proofs.lemmas.Option.{slice_get-get_or}
use Rattle.xfs_audit.proofs.Counting.{same-is, times-more}
use Rattle.xfs_audit.proofs.way.Way.place_of.Goals as goal

pub returns-then-is_same : goal.returns-then-is_same
returns-then-is_same c =
    let within = c.args.self.now.due.ok.0 in
    slice_get-get_or c.args.self.now.due.items c.loop-i.i c.index.result.now (omega arith) ∙ ap Some (sym c.index.ensures ∙ sym (same-is c.args.asked.now c.index.result.now (sym c.is_same.ensures ∙ c.if-is_same.true)))

pub loop-i-preserved : goal.loop-i-preserved
loop-i-preserved c =
    let within = c.args.self.now.due.ok.0 in
    times-more c.args.asked.now c.index.result.now c.args.self.now.due.items c.loop-i.i (omega arith) (sym c.index.ensures) (sym c.is_same.ensures ∙ c.if-is_same.false) c.loop-i.invariant
