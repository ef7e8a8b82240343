use Rattle.std.proofs.Common.{◌∙◌, ap}
use Rattle.xfs_dispenser.specs.Notes.{currency_of}
use Rattle.xfs_dispenser.proofs.CurrencyLaws.{currency-found}
use Rattle.xfs_dispenser.proofs.notes.read_currency.Goals as goal

pub returns : goal.returns
returns c = currency-found c.new.result c.as_bytes.result.now c.new.ensures.found c.new.ensures.valid ∙ ap currency_of c.as_bytes.ensures.value
