use Rattle.std.proofs.Common.{◌≡◌, ◌+◌, ℕ, List, length, take, get_or, arith, ap, sym, ◌∙◌}
use Rattle.std.proofs.lemmas.List.{take_more, length-take-le}
use Rattle.xfs_script.specs.Counts.{joined_units, filled_units}
use Rattle.xfs_script.proofs.UnitTexts.{text_kept, text_more}
use Rattle.xfs_script.proofs.counts.units_text.Goals.{then-count-gt0+in_ok-push_unit, else-count-gt0}
use Rattle.xfs_script.proofs.counts.units_text.Goals as goal

pub loop-count-preserved : goal.loop-count-preserved
loop-count-preserved c =
    let done : List ℕ = take c.loop-count.count-index c.args.counts.now in
    let count : ℕ = get_or c.args.counts.now c.loop-count.count-index 0 in
    let next = take_more c.args.counts.now c.loop-count.count-index 0 c.loop-count-test.true in
    let many : length done ≡ c.loop-count.count-index = length-take-le c.loop-count.count-index c.args.counts.now (omega (arith, c.loop-count-test.true)) in
    let now = ap (λ (v : List ℕ). joined_units (filled_units 1 v)) (sym next) in
    record {
      unit = omega (arith, c.loop-count.invariant.unit);
      text = elim c.if-count-gt0.branch [
        | then-count-gt0+in_ok-push_unit w ↦
            ap (λ t. t.items) w.text-is
            ∙ (text_more done c.loop-count.text.items w.push_unit.new.text.items (c.loop-count.unit + 1) count w.if-count-gt0.true (omega (arith, c.loop-count.invariant.unit, many)) c.loop-count.invariant.text
            (w.in_ok-push_unit.ensures.first) (w.in_ok-push_unit.ensures.further) ∙ now)
        | else-count-gt0 w ↦
            ap (λ t. t.items) w.text-is ∙ (text_kept done c.loop-count.text.items count (omega (arith, w.if-count-gt0.false)) c.loop-count.invariant.text ∙ now)
      ];
    }
