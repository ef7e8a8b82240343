-- What the board of a device's worker tells, and what each call does to it.
use Rattle.std.specs.Prelude.{◌≡◌, ◌≤◌, ℕ, List, [], ◌∷◌, Bool, true, false, option_map, Ok, Err}
use Rattle.std.specs.declared.option.Option.{Option}
use Rattle.std.specs.declared.result.Result.{Result}
use Rattle.xfs_base.specs.declared.faults.Memory.{Memory}
use Rattle.xfs_base.specs.Causes.{next_count}
use Rattle.xfs_mech.specs.declared.touch.Touch.{Touch}
use Rattle.xfs_server.specs.Counted.{counted, grown}

-- where the board tells them: the touches made, how often fault was called, how often wants answered true and false, and closing false.
-- Whether closing has answered true, and how often it was touched and turned, each board tells
pub record TendedLog : Type 0 where
  pub touched : Option (List Touch)
  pub faults : Option ℕ
  pub wanted : Option ℕ
  pub unwanted : Option ℕ
  pub stays : Option ℕ
  pub closing : Bool
  pub touches : ℕ
  pub turns : ℕ

abbrev pub after_wants : TendedLog → Bool → TendedLog
after_wants b true = record b { wanted = option_map next_count b.wanted }
after_wants b false = record b { unwanted = option_map next_count b.unwanted }

abbrev pub after_closing : TendedLog → Bool → TendedLog
after_closing b true = record b { closing = true }
after_closing b false = record b { stays = option_map next_count b.stays }

-- what it tells after this touch: each counts, and one that was refused wasn't made
abbrev pub after_touch : TendedLog → Touch → Result Unit Memory → TendedLog
after_touch b touch (Ok _) = record b { touched = grown (touch ∷ []) b.touched; touches = next_count b.touches }
after_touch b touch (Err _) = record b { touches = next_count b.touches }

-- a fault is counted, and may count as a touch
abbrev pub after_fault : TendedLog → ℕ → TendedLog
after_fault b raised = record b { faults = option_map next_count b.faults; touches = counted raised b.touches }

pub record CountsFault (old new : TendedLog) : Type 0 where
  pub raised : ℕ
  pub once : raised ≤ 1
  pub log : new ≡ after_fault old raised

abbrev pub after_work : TendedLog → TendedLog
after_work b = record b { turns = next_count b.turns }
