use Rattle.std.proofs.Common.{◌≡◌, ◌<◌, length, Some, refl, ap, sym, ◌∙◌, arith}
use Rattle.xfs_base.specs.Money.{value}
use Rattle.xfs_base.specs.declared.money.NoteKind.{NoteKind}
use Rattle.xfs_audit.specs.Claims.{allowed}
use Rattle.std.specs.Prelude.{slice_get}
use Rattle.std.proofs.lemmas.Grind.{common_steps}
use Rattle.std.proofs.lemmas.Option.{slice_get_within, slice_get_read}
use Rattle.xfs_mech.proofs.CountLaws.{plus-left}
use Rattle.xfs_audit.proofs.Claiming.{under-more, paid-more}
use Rattle.xfs_audit.proofs.claim.Claim.spend.Goals as goal

pub loop-i-preserved : goal.loop-i-preserved
loop-i-preserved c =
    let inv = c.loop-i.invariant in
    let units = c.args.units.now in
    let i = c.loop-i.i in
    let kinds = c.kinds-kinds.result.now in
    let same : kinds ≡ units = c.kinds-kinds.ensures.now in
    let lt : i < length c.loop-i.self.shown = omega (arith, inv.long, c.kinds-kinds.ensures.high, ap length same) in
    let read : slice_get kinds i ≡ Some c.index-kinds-i.result = slice_get_read kinds (length kinds) i c.index-kinds-i.result refl c.loop-i-test.true c.index-kinds-i.is in
    let there : slice_get units i ≡ Some c.index-kinds-i.result = rw same at read in
    let may : c.amount_allowed.result ≡ allowed c.loop-i.self.amounts c.index-kinds-i.result.currency = c.amount_allowed.ensures ∙ ap (λ (k : NoteKind). allowed c.loop-i.self.amounts k.currency) (sym c.index-kinds-i.is) in
    record {
      long = grind (arith, common_steps, inv.long);
      amounts = inv.amounts;
      under = under-more c.loop-i.self.shown i _ lt inv.under (omega arith);
      paid = paid-more units c.args.moved.now c.args.self.now c.loop-i.self i _ c.index-kinds-i.result lt inv.amounts inv.paid inv.left there (c.value.ensures.value ∙ ap (λ (k : NoteKind). value units c.args.moved.now k.currency) (sym c.index-kinds-i.is)) (omega (arith, may));
      left = λ u le. plus-left c.loop-i.self.shown c.args.self.now.shown i u _ inv.left le;
    }

pub returns-clause-paid : goal.returns-clause-paid
returns-clause-paid c = λ i k got. c.loop-i.invariant.paid i k (let within = slice_get_within c.args.units.now i k got in let same : length c.kinds-kinds.result.now ≡ length c.args.units.now = ap length c.kinds-kinds.ensures.now in omega (arith, c.loop-i-test.false)) got
