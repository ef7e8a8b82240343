use Rattle.std.proofs.Common.{◌≡◌, ℕ, ◌≤◌, ◌<◌, true, length, slice_index_or}
use Rattle.std.specs.Str.{bytes_eq}
use Rattle.xfs_base.specs.declared.money.NoteKind.{NoteKind}
use Rattle.xfs_mix.proofs.mix.greatest_value.Given as goal

abbrev pub invariant-loop-kind : goal.invariant-loop-kind
invariant-loop-kind l = record {
  all : (w : ℕ) (d : NoteKind) → w < l.kind-index → w < length l.kinds → bytes_eq (slice_index_or l.kinds w d).currency l.currency ≡ true → (slice_index_or l.kinds w d).value ≤ l.greatest;
  bound : l.greatest ≤ 1000000;
}
