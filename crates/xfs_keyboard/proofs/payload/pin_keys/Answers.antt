use Rattle.std.proofs.Common.{arith, refl, ap, ◌∙◌, get_or}
use Rattle.std.proofs.lemmas.List.{take_all}
use Rattle.xfs_mech.specs.declared.key.KeyName.TheVariants.{Zero}
use Rattle.xfs_keyboard.specs.Entries.{pin_keys}
use Rattle.xfs_keyboard.proofs.PinLaws.{pin-step, pin-more}
use Rattle.xfs_keyboard.proofs.payload.pin_keys.Goals as goal

pub loop-digit-preserved : goal.loop-digit-preserved
loop-digit-preserved c = record {
  there = rw c.push_reserved.ensures.items (pin-more c.loop-digit.keys.items c.in_ok-pin_key.field-0 c.args.digits.now c.loop-digit.digit-index (get_or c.args.digits.now c.loop-digit.digit-index Zero) Zero
      c.loop-digit-test.true refl c.loop-digit.invariant.there c.in_ok-pin_key.ensures);
  long = omega (arith, c.push_reserved.ensures.len, c.loop-digit.invariant.long);
  room = omega (arith, c.push_reserved.ensures.capacity, c.loop-digit.invariant.room);
}

pub returns-clause-keys : goal.returns-clause-keys
returns-clause-keys c =
    let whole = c.loop-digit.invariant.there ∙ ap pin_keys (take_all c.loop-digit.digit-index c.args.digits.now c.loop-digit-test.false) in
    rw (c.push_reserved-2.ensures.items, c.in-Some.is) (pin-step c.loop-digit.keys.items c.in_ok-pin_key-2.field-0 c.args.digits.now c.in-Some.digit whole c.in_ok-pin_key-2.ensures)
