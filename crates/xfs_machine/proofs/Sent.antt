-- A machine may go to another thread where its mechanism and its disk may. Its journal's list has in front what it was before: since the types of these hold themselves, Rattle finds no such proof of a type that they are part of, and it stands here.
use denote.RattleType.{RattleType}
use denote.Param.Send.{IsSend, plain_send, struct_send, recorded_send, view_send, sendable}
use denote.Struct.Declared.{shape}
use Rattle.std.proofs.Crossing as owned
use Rattle.std.proofs.alloc.Global.TheSendSync as heap
use Rattle.std.proofs.option.Option.TheSendSync as optional
use Rattle.xfs_base.proofs.counts.Counts.TheSendSync as counts
use Rattle.xfs_base.proofs.counts.Places.TheSendSync as places
use Rattle.xfs_base.proofs.money.UnitTable.TheSendSync as units
use Rattle.xfs_base.proofs.moment.Moment.TheSendSync as moment
use Rattle.xfs_disk.specs.declared.disk.Disk as Disk
use Rattle.xfs_guard.proofs.bound.Bound.TheSendSync as bound
use Rattle.xfs_guard.proofs.bound.Live.TheSendSync as live
use Rattle.xfs_guard.proofs.nonce.Nonce.TheSendSync as nonce
use Rattle.xfs_guard.proofs.open.Open.TheSendSync as open_order
use Rattle.xfs_token.proofs.key.TokenKey.TheSendSync as key
use Rattle.xfs_guard.proofs.words.Words.TheSendSync as words
use Rattle.xfs_guard.specs.contracts.guard.Guard as guard
use Rattle.xfs_guard.specs.contracts.guard.Guard.TheInside as in_guard
use Rattle.xfs_guard.specs.contracts.ledger.Ledger as ledger
use Rattle.xfs_guard.specs.contracts.ledger.Ledger.TheInside as in_ledger
use Rattle.xfs_journal.proofs.limits.Limits.TheSendSync as limits
use Rattle.xfs_journal.proofs.recent.Recent.TheLaws.TheKnot as recent
use Rattle.xfs_journal.proofs.record.Rec.TheSendSync as rec
use Rattle.xfs_journal.specs.contracts.journal.Journal as journal
use Rattle.xfs_journal.specs.contracts.journal.Journal.TheInside as in_journal
use Rattle.xfs_traffic.proofs.Sent.{traffic_send}
use Rattle.xfs_traffic.proofs.devices.Devices.TheSendSync as devices
use Rattle.xfs_machine.specs.contracts.dispenser.Dispenser as dispenser
use Rattle.xfs_machine.specs.contracts.machine.Machine as machine
use Rattle.xfs_machine.specs.contracts.machine.Machine.TheInside as in_machine
use Rattle.xfs_mech.specs.declared.mechanism.Mechanism as Mechanism

journal_send : (D : RattleType) (d : Disk.Ghosts D.Denot) → IsSend D → IsSend (journal.the_row D d)
journal_send D d sd =
    let fields = in_journal.the_type D d in
    view_send (in_journal.the_row D d) _ _ _ _
    (recorded_send (in_journal.the_field D d).row _ _ fields.to_one
    (struct_send (shape fields) (
      heap.the_field_send,
      (
        (search (sd, sendable) depth 20),
        (
          (search (recent.crosses, rec.the_field_send, owned.crosses, sendable) depth 60 fits 20000),
          (
            (search (owned.crosses, sendable) depth 20),
            (
              plain_send _ _ _ _ _,
              (
                plain_send _ _ _ _ _,
                (
                  plain_send _ _ _ _ _,
                  (
                    limits.the_field_send,
                    (
                      plain_send _ _ _ _ _,
                      (
                        (search (optional.the_field_send, rec.the_field_send, sendable) depth 20),
                        (
                          (search (optional.the_field_send, sendable) depth 20),
                          tt,
                        ),
                      ),
                    ),
                  ),
                ),
              ),
            ),
          ),
        ),
      ),
    )))

ledger_send : (D : RattleType) (d : Disk.Ghosts D.Denot) → IsSend D → IsSend (ledger.the_row D d)
ledger_send D d sd =
    let fields = in_ledger.the_type D d in
    view_send (in_ledger.the_row D d) _ _ _ _
    (recorded_send (in_ledger.the_field D d).row _ _ fields.to_one
    (struct_send (shape fields) (
      journal_send D d sd,
      (
        (search (units.the_send, sendable) depth 20),
        (
          plain_send _ _ _ _ _,
          (
            plain_send _ _ _ _ _,
            (
              (search (optional.the_field_send, live.the_field_send, sendable) depth 20),
              (
                (search (optional.the_field_send, bound.the_field_send, sendable) depth 20),
                (
                  (search (places.the_field_send, sendable) depth 20),
                  (
                    (search (counts.the_field_send, sendable) depth 20),
                    (
                      plain_send _ _ _ _ _,
                      (
                        (search (optional.the_field_send, nonce.the_field_send, sendable) depth 20),
                        tt,
                      ),
                    ),
                  ),
                ),
              ),
            ),
          ),
        ),
      ),
    )))

guard_send : (M D : RattleType) (m : Mechanism.Ghosts M.Denot) (d : Disk.Ghosts D.Denot) → IsSend M → IsSend D → IsSend (guard.the_row M D m d)
guard_send M D m d sm sd =
    let fields = in_guard.the_type M D m d in
    view_send (in_guard.the_row M D m d) _ _ _ _
    (recorded_send (in_guard.the_field M D m d).row _ _ fields.to_one
    (struct_send (shape fields) (
      heap.the_field_send,
      (
        (search (sm, sendable) depth 20),
        (
          ledger_send D d sd,
          (
            key.the_send,
            (
              words.the_send,
              (
                open_order.the_field_send,
                tt,
              ),
            ),
          ),
        ),
      ),
    )))

dispenser_send : (M D : RattleType) (m : Mechanism.Ghosts M.Denot) (d : Disk.Ghosts D.Denot) → IsSend M → IsSend D → IsSend (dispenser.the_field M D m d).row
dispenser_send M D m d sm sd = struct_send (shape (dispenser.the_type M D m d)) (guard_send M D m d sm sd, (plain_send _ _ _ _ _, (moment.the_field_send, (plain_send _ _ _ _ _, tt))))

pub machine_send : (M D : RattleType) (m : Mechanism.Ghosts M.Denot) (d : Disk.Ghosts D.Denot) → IsSend M → IsSend D → IsSend (machine.the_row M D m d)
machine_send M D m d sm sd =
    let fields = in_machine.the_type M D m d in
    view_send (in_machine.the_row M D m d) _ _ _ _
    (recorded_send (in_machine.the_field M D m d).row _ _ fields.to_one
    (struct_send (shape fields) (
      heap.the_field_send,
      (
        dispenser_send M D m d sm sd,
        (
          plain_send _ _ _ _ _,
          (
            moment.the_field_send,
            (
              plain_send _ _ _ _ _,
              (
                devices.the_field_send,
                (
                  traffic_send,
                  tt,
                ),
              ),
            ),
          ),
        ),
      ),
    )))
