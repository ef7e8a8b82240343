use Rattle.std.proofs.Common.{rules, sym, ap, subst, arith}
use Rattle.std.specs.Str.{IsUtf8}
use Rattle.serde_json.specs.Data.{depth}
use Rattle.serde_json.specs.Written.{has_float}
use Rattle.xfs_token.proofs.Ascii.{spelled-IsUtf8}
use Rattle.xfs_client.specs.Desks.{Recalls}
use Rattle.xfs_client.specs.Withdrawals.{Withdrawing}
use Rattle.xfs_client.proofs.withdrawal.Withdrawal.ask_dispense.Goals as goal

pub payload-requires : goal.payload-requires
payload-requires c = subst IsUtf8 (sym c.deref.ensures.value) (spelled-IsUtf8 _ _ c.in_ok-token.ensures.ok.genuine.spelled)

pub ask_next-requires-clause-room : goal.ask_next-requires-clause-room
ask_next-requires-clause-room c = omega (arith, ap (λ (w : Withdrawing). w.desk.asked) c.self.view_is, c.requires)

pub ask_next-requires-clause-command : goal.ask_next-requires-clause-command
ask_next-requires-clause-command c = record {
  named = search rules;
  writable = record { no_float = ap has_float c.in_ok-payload.ensures; shallow = omega (arith, ap depth c.in_ok-payload.ensures) };
}

pub returns-clause-grown : goal.returns-clause-grown
returns-clause-grown c h keeps = c.in_ok-ask_next.ensures.grown h (subst (λ (w : Withdrawing). Recalls w.desk h) (sym c.self.view_is) keeps)
