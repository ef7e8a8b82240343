use Rattle.std.proofs.Common.{◌≡◌, ℕ, ◌-◌, List, set, length-set, arith, ap, sym, subst, ◌∙◌}
use Rattle.xfs_base.specs.declared.counts.Counts.{Counts}
use Rattle.xfs_script.specs.Counts.{SpellsCounts}
use Rattle.xfs_token.proofs.AmountReading.{IfNone_from}
use Rattle.xfs_script.proofs.Parts.{parts_left, cut_is}
use Rattle.xfs_script.proofs.UnitParts.{SpellsOn, on_here, on_there, on_none, no_unit, counts_spelled, no_counts}
use Rattle.xfs_script.proofs.counts_field.read_counts.Goals as goal

pub returns-in_err-unit-clause-none : goal.returns-in_err-unit-clause-none
returns-in_err-unit-clause-none c =
    let here = ap parts_left c.in-Some.is ∙ cut_is c.in-Some.behind.now c.cut.result.0.now c.cut.result.1 c.cut.ensures.parts in
    IfNone_from _ ((counts : Counts) → SpellsCounts c.args.text.now counts → ⊥)
    (no_counts c.args.text.now (λ all s.
    (let P : List (List ℕ) → Type 0 = λ t. SpellsOn c.loop-rest.last c.loop-rest.counts t all in
    no_unit c.loop-rest.last c.loop-rest.counts c.cut.result.0.now (parts_left c.cut.result.1) all c.in_err-unit.ensures.none (subst P here (c.loop-rest.invariant.from all s)))))

pub returns-then-unit-last-clause-none : goal.returns-then-unit-last-clause-none
returns-then-unit-last-clause-none c =
    let here = ap parts_left c.in-Some.is ∙ cut_is c.in-Some.behind.now c.cut.result.0.now c.cut.result.1 c.cut.ensures.parts in
    no_counts c.args.text.now (λ all s.
    (let P : List (List ℕ) → Type 0 = λ t. SpellsOn c.loop-rest.last c.loop-rest.counts t all in
    let above = (on_there c.loop-rest.last c.in_ok-unit.unit c.in_ok-unit.count c.loop-rest.counts c.cut.result.0.now (parts_left c.cut.result.1) all c.in_ok-unit.ensures.found (subst P here (c.loop-rest.invariant.from all s))).0 in
    let bad : ⊥ = omega (arith, above, c.if-unit-last.true) in bad))

pub loop-rest-preserved : goal.loop-rest-preserved
loop-rest-preserved c =
    let here = ap parts_left c.in-Some.is ∙ cut_is c.in-Some.behind.now c.cut.result.0.now c.cut.result.1 c.cut.ensures.parts in
    let k = c.in_ok-unit.ensures.found in
    let place : c.from.result ≡ c.in_ok-unit.unit - 1 = omega (arith, c.from.ensures) in
    record {
      to = λ all s.
          (let P : List (List ℕ) → Type 0 = λ t. SpellsOn c.loop-rest.last c.loop-rest.counts t all in
          let Q : ℕ → Type 0 = λ n. SpellsOn c.in_ok-unit.unit (set c.loop-rest.counts n c.in_ok-unit.count) (parts_left c.cut.result.1) all in
          c.loop-rest.invariant.to all (subst P (sym here) (on_here c.loop-rest.last c.in_ok-unit.unit c.in_ok-unit.count c.loop-rest.counts c.cut.result.0.now (parts_left c.cut.result.1) all (omega (arith, c.if-unit-last.false)) k (subst Q place s))));
      from = λ all s.
          (let P : List (List ℕ) → Type 0 = λ t. SpellsOn c.loop-rest.last c.loop-rest.counts t all in
          let Q : ℕ → Type 0 = λ n. SpellsOn c.in_ok-unit.unit (set c.loop-rest.counts n c.in_ok-unit.count) (parts_left c.cut.result.1) all in
          subst Q (sym place) (on_there c.loop-rest.last c.in_ok-unit.unit c.in_ok-unit.count c.loop-rest.counts c.cut.result.0.now (parts_left c.cut.result.1) all k (subst P here (c.loop-rest.invariant.from all s))).1);
      long = length-set c.loop-rest.counts c.from.result c.in_ok-unit.count ∙ c.loop-rest.invariant.long;
      within = k.high;
    }

pub returns-clause-found : goal.returns-clause-found
returns-clause-found c =
    let P : List (List ℕ) → Type 0 = λ t. SpellsOn c.loop-rest.last c.loop-rest.counts t c.loop-rest.counts in
    counts_spelled c.args.text.now (record { 0 = c.loop-rest.counts }) (c.loop-rest.invariant.to c.loop-rest.counts (subst P (sym (ap parts_left c.in_default.is)) (on_none c.loop-rest.last c.loop-rest.counts)))
