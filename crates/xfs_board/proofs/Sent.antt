-- What stands behind a session or a worker may go to another thread where its machine may, and what it borrows may be shared.
use denote.RattleType.{RattleType}
use denote.Ref.{NamedLft}
use denote.Param.Send.{IsSend, IsSync, plain_send, shr_send, struct_send, recorded_send, view_send, sendable}
use denote.Struct.Declared.{shape}
use Rattle.std.proofs.Crossing as owned
use Rattle.std.proofs.alloc.Global.TheSendSync as heap
use Rattle.std.proofs.marker.PhantomData.TheSendSync as phantom
use Rattle.std.proofs.option.Option.TheSendSync as optional
use Rattle.xfs_base.proofs.moment.Service.TheSendSync as service
use Rattle.xfs_base.specs.declared.moment.Clock as Clock
use Rattle.xfs_board.specs.contracts.backend.MachineBackend as backend
use Rattle.xfs_board.specs.contracts.caller.Caller as caller
use Rattle.xfs_board.specs.contracts.caller.Caller.TheInside as in_caller
use Rattle.xfs_board.specs.contracts.client.ClientBoard as client
use Rattle.xfs_board.specs.contracts.client.ClientBoard.TheInside as in_client
use Rattle.xfs_board.specs.contracts.device.DeviceBoard as device
use Rattle.xfs_board.specs.contracts.device.DeviceBoard.TheInside as in_device
use Rattle.xfs_board.specs.contracts.shared.SharedMachine as shared
use Rattle.xfs_board.specs.contracts.shared.SharedMachine.TheInside as in_shared
use Rattle.xfs_board.specs.declared.caller.LockName as LockName
use Rattle.xfs_disk.specs.declared.disk.Disk as Disk
use Rattle.xfs_machine.proofs.Sent.{machine_send}
use Rattle.xfs_machine.proofs.pass.Pass.TheSendSync as pass
use Rattle.xfs_machine.proofs.tally.Tally.TheSendSync as tally
use Rattle.xfs_mech.specs.declared.mechanism.Mechanism as Mechanism
use Rattle.xfs_turn.proofs.seat.Seat.TheSendSync as seat
use Rattle.xfs_turn.proofs.turn.Turn.TheSendSync as turn

pub shared_send : (M D : RattleType) (m : Mechanism.Ghosts M.Denot) (d : Disk.Ghosts D.Denot) → IsSend M → IsSend D → IsSend (shared.the_row M D m d)
shared_send M D m d sm sd =
    let fields = in_shared.the_type M D m d in
    view_send (in_shared.the_row M D m d) _ _ _ _
    (recorded_send (in_shared.the_field M D m d).row _ _ fields.to_one (struct_send (shape fields) ((search (owned.crosses, machine_send, sendable) depth 20), ((search (owned.crosses, sendable) depth 20), tt))))

module _ (a : NamedLft) (N M D R : RattleType) (n : LockName.Ghosts N.Denot) (m : Mechanism.Ghosts M.Denot) (d : Disk.Ghosts D.Denot) (sm : IsSend M) (sd : IsSend D) (yr : IsSync R) where
  pub caller_send : IsSend (caller.the_row a N M D R n m d)
  caller_send =
      let fields = in_caller.the_type a N M D R n m d in
      view_send (in_caller.the_row a N M D R n m d) _ _ _ _
      (recorded_send (in_caller.the_field a N M D R n m d).row _ _ fields.to_one
      (struct_send (shape fields) (
        shr_send _ _ _ yr,
        (
          (search (shared_send, turn.the_sync, sendable) depth 20),
          (
            (search (optional.the_field_send, shared_send, seat.the_send) depth 20),
            (
              tally.the_send,
              (
                phantom.the_field_send N,
                tt,
              ),
            ),
          ),
        ),
      )))

  module _ (C : RattleType) (k : Clock.Ghosts C.Denot) (yc : IsSync C) where
    pub client_send : IsSend (client.the_row a N M D R C n m d k)
    client_send =
        let fields = in_client.the_type a N M D R C n m d k in
        view_send (in_client.the_row a N M D R C n m d k) _ _ _ _
        (recorded_send (in_client.the_field a N M D R C n m d k).row _ _ fields.to_one
        (struct_send (shape fields) (heap.the_field_send, (caller_send, (pass.the_send, (shr_send _ _ _ yc, tt))))))

    pub device_send : IsSend (device.the_row a N M D R C n m d k)
    device_send =
        let fields = in_device.the_type a N M D R C n m d k in
        view_send (in_device.the_row a N M D R C n m d k) _ _ _ _
        (recorded_send (in_device.the_field a N M D R C n m d k).row _ _ fields.to_one
        (struct_send (shape fields) (caller_send, (service.the_field_send, (shr_send _ _ _ yc, ((search (owned.crosses, sendable) depth 20), (plain_send _ _ _ _ _, tt)))))))

module _ (a : NamedLft) (N M D R C : RattleType) (n : LockName.Ghosts N.Denot) (m : Mechanism.Ghosts M.Denot) (d : Disk.Ghosts D.Denot) where
  pub backend_send : IsSend M → IsSend D → IsSync R → IsSync C → IsSend (backend.the_row a N M D R C n m d)
  backend_send sm sd yr yc =
      let fields = backend.the_type a N M D R C n m d in
      recorded_send (backend.the_field a N M D R C n m d).row _ _ fields.to_one
      (struct_send (shape fields) (heap.the_field_send, (caller_send a N M D R n m d sm sd yr, (shr_send _ _ _ yc, ((search (owned.crosses, sendable) depth 20), tt)))))
