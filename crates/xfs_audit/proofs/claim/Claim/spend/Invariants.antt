use Rattle.std.proofs.Common.{◌≡◌, ℕ, ◌<◌, ◌≤◌, Some, length, slice_index}
use Rattle.std.specs.Prelude.{slice_get}
use Rattle.xfs_base.specs.declared.money.NoteKind.{NoteKind}
use Rattle.xfs_audit.specs.Claims.{IsUnder, IsPaidAt}
use Rattle.xfs_audit.proofs.claim.Claim.spend.Given as goal

-- the units before this one are paid for
abbrev pub invariant-loop-i : goal.invariant-loop-i
invariant-loop-i l = record {
  long : length l.self.shown ≡ 8;
  amounts : l.self.amounts ≡ l.fn.self.amounts;
  under : IsUnder l.self;
  paid : (u : ℕ) (kind : NoteKind) → u < l.i → slice_get l.units u ≡ Some kind → IsPaidAt l.units l.moved u kind l.fn.self l.self;
  left : (u : ℕ) → l.i ≤ u → slice_index l.self.shown u ≡ slice_index l.fn.self.shown u;
}
