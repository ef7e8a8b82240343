use Rattle.std.proofs.Common.{◌≡◌, ℕ, ◌<◌, ◌≤◌, ◌⊎◌, Some, take}
use Rattle.xfs_journal.specs.Journal.{reading}
use Rattle.xfs_audit.proofs.reader.Reader.advance.Given as goal

-- the records before this place were read
abbrev pub invariant-loop-place : goal.invariant-loop-place
invariant-loop-place l = record {
  count : l.self.count ≡ l.fn.self.count;
  read : reading (take l.place l.records) ≡ record { count = l.place; live = l.self.live };
  known : (p : ℕ) → l.self.live ≡ Some p → p ≤ l.place;
  newer : (p : ℕ) → l.self.live ≡ Some p → (l.fn.self.live ≡ Some p) ⊎ (l.fn.self.count < p);
}
