use Rattle.std.proofs.Common.{◌≡◌, ◌≤◌, true, [], length, drop}
use Rattle.std.specs.Prelude.{unwrap_or}
use Rattle.xfs_evidence.specs.Evidence.{unless_none}
use Rattle.xfs_evidence.specs.Reading.{told_from}
use Rattle.xfs_evidence.specs.Told.{are_rising}
use Rattle.xfs_evidence.proofs.reading.told_by.Given as goal

-- the pairs from here on are read behind what was told
abbrev pub invariant-pairs : goal.invariant-pairs
invariant-pairs l = record {
  rest : told_from (unwrap_or l.amounts []) (drop l.i l.token.pairs) ≡ told_from [] (drop 1 l.token.pairs);
  few : length (unwrap_or l.amounts []) ≤ 8;
  rising : are_rising (unwrap_or l.amounts []) ≡ true;
  listed : l.amounts ≡ unless_none (unwrap_or l.amounts []);
}
