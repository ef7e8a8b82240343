use Rattle.std.proofs.Common.{refl}
use Rattle.std.proofs.lemmas.Result.{on_ok_weaker}
use Rattle.xfs_machine.specs.Parts.{at_devices}
use Rattle.xfs_machine.proofs.touch.touch_device.Goals as goal

pub returns-in-CardIn-clause-touches : goal.returns-in-CardIn-clause-touches
returns-in-CardIn-clause-touches c = on_ok_weaker c.put_card.result (λ h s. rw (c.in-CardIn.is) (refl, h (at_devices s c.args.devices.now c.args.traffic.now))) c.put_card.ensures.touches

pub returns-in-CardTaken-clause-touches : goal.returns-in-CardTaken-clause-touches
returns-in-CardTaken-clause-touches c = on_ok_weaker c.take_card.result (λ h s. rw (c.in-CardTaken.is) (refl, h (at_devices s c.args.devices.now c.args.traffic.now))) c.take_card.ensures.touches

pub returns-in-CardFault-clause-touches : goal.returns-in-CardFault-clause-touches
returns-in-CardFault-clause-touches c = on_ok_weaker c.fail_card.result (λ h s. rw (c.in-CardFault.is) (refl, h (at_devices s c.args.devices.now c.args.traffic.now))) c.fail_card.ensures.touches

pub returns-in-Key-clause-touches : goal.returns-in-Key-clause-touches
returns-in-Key-clause-touches c = on_ok_weaker c.press_key.result (λ h s. rw (c.in-Key.is) (refl, h (at_devices s c.args.devices.now c.args.traffic.now))) c.press_key.ensures.touches

pub returns-in-KeyFault-clause-touches : goal.returns-in-KeyFault-clause-touches
returns-in-KeyFault-clause-touches c = on_ok_weaker c.fail_keys.result (λ h s. rw (c.in-KeyFault.is) (refl, h (at_devices s c.args.devices.now c.args.traffic.now))) c.fail_keys.ensures.touches
