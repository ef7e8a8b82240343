use Rattle.std.specs.Prelude.{codes, decimal}
use Rattle.xfs_load.specs.Texts.{headed_text, token_member}
use Rattle.xfs_load.proofs.TextLaws.{closed-pieces}
use Rattle.xfs_load.proofs.text.dispense.Goals as goal

pub returns : goal.returns
returns c =
    closed-pieces (codes "{\"denomination\":{\"currencies\":{\"EUR\":") (decimal c.args.amount) (codes "}},\"mix\":\"minimum\"") (token_member c.args.token.now) (codes "}") (codes "}") (headed_text (codes "CashDispenser.Dispense") c.args.id) _ _ _ _ _
    (rw c.in_ok-text.ensures at c.in_ok-extend_from_slice.ensures.items)
    (rw (c.as_bytes.ensures.value, c.format.ensures.text) at c.in_ok-extend_from_slice-2.ensures.items)
    c.in_ok-extend_from_slice-3.ensures.items c.in_ok-push_token.ensures c.in_ok-extend_from_slice-4.ensures.items
