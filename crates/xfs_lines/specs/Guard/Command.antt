-- The command `guard` over its lines: what answers them, what want of memory leaves of one, and that it ends at a restart which is refused.
use Rattle.std.specs.Prelude.{ℕ, List}
use Rattle.std.proofs.Common.{arith, inl, refl}
use Rattle.xfs_guard.proofs.ContinueLaws.{Continues-same}
use Rattle.xfs_script.specs.Commands.{Command}
use Rattle.xfs_guard.specs.Continues.{Continues}
use Rattle.xfs_guard.specs.declared.fail.BootFault.{BootFault}
use Rattle.xfs_lines.specs.Guard.Begun.{IsBegun}
use Rattle.xfs_lines.specs.Guard.Lines.{IsLine}
use Rattle.xfs_lines.specs.Guard.Restarts.{EndsRestart}
use Rattle.xfs_lines.specs.Guard.States.{GuardState, IsLater}
use Rattle.xfs_lines.specs.Guard.Complete.{AnswersInFull}

-- want of memory leaves nothing of a line, or all of it, or a part, and goes on from what stood before it
pub record LeavesGuard (s : GuardState) (text : List ℕ) (end : GuardState) : Type 0 where
  pub begun : IsBegun s text end
  pub continues : Continues s.guard end.guard
  pub later : IsLater s end

abbrev pub guard_lines : Command GuardState BootFault
guard_lines = record { IsLine = IsLine; Answers = AnswersInFull; Leaves = LeavesGuard; EndsAt = EndsRestart (λ (s : GuardState). s) }

-- want of memory may leave nothing of a line
pub leaves-nothing : (s : GuardState) (text : List ℕ) → LeavesGuard s text s
leaves-nothing s text = record { begun = inl refl; continues = Continues-same s.guard; later = record { mech = omega arith; disk = omega arith } }

-- what is answered is a line
pub is-line : (s next : GuardState) (text : List ℕ) (output : List (List ℕ)) → AnswersInFull s text output next → IsLine text
is-line s next text output a = record { verb = a.answers.verb; reads = a.answers.reads; short = a.answers.short }
