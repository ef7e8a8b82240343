-- What a call of a guard keeps, by what it answers.
use Rattle.std.specs.Prelude.{◌≡◌, ◌≢◌, Bool, true, false, None, Ok, Err, IfErr, OnOk}
use Rattle.std.specs.declared.result.Result.{Result}
use Rattle.xfs_base.specs.Causes.{Rose}
use Rattle.xfs_base.specs.declared.faults.Memory.{Memory}
use Rattle.xfs_disk.specs.declared.disk.Disk.{Ghosts}
use Rattle.xfs_mech.specs.declared.motion.Motion.{Motion}
use Rattle.xfs_mech.specs.declared.motion.Outcome.{Outcome}
use Rattle.xfs_journal.specs.declared.record.Rec.{Rec}
use Rattle.xfs_guard.specs.declared.deny.Deny.{Deny}
use Rattle.xfs_guard.specs.declared.deny.Deny.TheVariants.{Disk}
use Rattle.xfs_guard.specs.declared.open.Open.TheVariants.{No}
use Rattle.xfs_guard.specs.Keeps.{Keeps, NoEntry}
use Rattle.xfs_guard.specs.LedgerView.{IsWriteFault}
use Rattle.xfs_guard.specs.Refusals.{bound_token}
use Rattle.xfs_guard.specs.View.{GuardView, shut_at}
use Rattle.xfs_disk.specs.Moments.{EachImage}
use Rattle.xfs_journal.specs.Image.{StandsFor}

-- What a call keeps that writes this record: after an answer that the disk failed the journal is shut with the record in doubt, after another refusal nothing changed, and after a success a crash leaves the list.
pub record WritesRecord {T D : Type 0} (g : Ghosts D) (rec : Rec) (result : Result T Deny) (old new : GuardView D) : Type 0 where
  pub disk : result ≡ Err Disk → new.state ≡ shut_at rec old.state
  pub cause : result ≡ Err Disk → Rose (g.faults old.disk) (g.faults new.disk)
  pub same : IfErr result (λ e. e ≢ Disk → new ≡ old)
  pub keeps : Keeps g NoEntry old new
  pub kept : OnOk result (EachImage g new.disk (λ c. StandsFor c new.state.records))

-- What a call keeps that may bind a token: no order is open, nothing changes where one is bound already, and a write fails only where none is.
pub record BindsOnce {T D : Type 0} (result : Result T Deny) (old new : GuardView D) : Type 0 where
  pub none : new.state.open_order ≡ No
  pub again : bound_token old.state.records ≢ None → new ≡ old
  pub unbound : IfErr result (λ e. IsWriteFault e → bound_token old.state.records ≡ None)

-- What a call of the mechanism keeps, which may add one such entry: the disk is untouched, and where the mechanism failed, its count of faults rose.
pub record UsesMechanism {D : Type 0} (g : Ghosts D) (MayAdd : Motion → Type 0) (is_failed : Bool) (old new : GuardView D) : Type 0 where
  pub cause : is_failed ≡ true → Rose old.state.faults new.state.faults
  pub same : new.disk ≡ old.disk
  pub keeps : Keeps g MayAdd old new

-- the mechanism was called, and failed
abbrev pub is_failed : Result Outcome Memory → Bool
is_failed (Ok outcome) = outcome.failed
is_failed (Err e) = false
