-- What a reader of lines keeps between its calls, and what a source gives to it.
use Rattle.std.specs.Prelude.{◌≡◌, ℕ, ◌+◌, List, [], ◌++◌, length, take, drop, None, Some}
use Rattle.std.specs.declared.option.Option.{Option}
use Rattle.std.specs.Io.KnownBytes.{Consumes}
use Rattle.xfs_script.specs.Lines.{line_end}
use Rattle.xfs_script.specs.declared.feed.TheConstants.{QUOTA}

-- the bytes that were read and aren't handed out, how many bytes the source gave, and how many lines were handed out
pub record Reading : Type 0 where
  pub pending : List ℕ
  pub given : ℕ
  pub handed : ℕ

-- nothing was read yet
abbrev pub nothing_read : Reading
nothing_read = record { pending = []; given = 0; handed = 0 }

-- what a reader keeps, also before its first call
abbrev pub reading_of : Option Reading → Reading
reading_of None = nothing_read
reading_of (Some r) = r

-- a line that ends at a place was handed out
abbrev pub line_off : Reading → ℕ → Reading
line_off r end = record { pending = drop (end + 1) r.pending; given = r.given; handed = r.handed + 1 }

-- the source gave so many bytes
pub record Gives (old new : Reading) (before after : Option (List ℕ)) : Type 0 where
  pub bytes : List ℕ
  pub given : new.given ≡ old.given + length bytes
  pub taken : Consumes before after bytes

-- the source gave these bytes, which are kept behind those that were
pub record Grows (old new : Reading) (before after : Option (List ℕ)) : Type 0 where
  pub bytes : List ℕ
  pub pending : new.pending ≡ old.pending ++ bytes
  pub given : new.given ≡ old.given + length bytes
  pub handed : new.handed ≡ old.handed
  pub taken : Consumes before after bytes

-- the kept bytes and the next ones of the source, which have no line feed, were dropped, and the ones behind those are kept
pub record Drops (old new : Reading) (before after : Option (List ℕ)) : Type 0 where
  pub bytes : List ℕ
  pub no_end : line_end (old.pending ++ bytes) ≡ length (old.pending ++ bytes)
  pub given : new.given ≡ old.given + (length bytes + length new.pending)
  pub handed : new.handed ≡ old.handed
  pub taken : Consumes before after (bytes ++ new.pending)

-- the source gave this many bytes, which a block holds from a place on, behind what stood before it
pub record GivesBehind (old new : List ℕ) (place : ℕ) (before after : Option (List ℕ)) (count : ℕ) : Type 0 where
  pub bytes : List ℕ
  pub many : length bytes ≡ count
  pub block : take (place + count) new ≡ take place old ++ bytes
  pub taken : Consumes before after bytes

-- the source gave as many bytes as a command reads
pub record GaveAll (before after : Option (List ℕ)) : Type 0 where
  pub bytes : List ℕ
  pub many : length bytes ≡ QUOTA
  pub taken : Consumes before after bytes
