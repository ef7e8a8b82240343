-- The tracks of a card: each is there or not, and one that is there has 1 to 255 bytes.
use Rattle.std.specs.Prelude.{ℕ, ◌≤◌, ◌==◌, List, Vec, length, None, IfSome, if◌then◌else◌}
use Rattle.std.specs.Option.{option_map}
use Rattle.std.specs.declared.alloc.Global.{Global}
use Rattle.std.specs.declared.option.Option.{Option}

pub record CardTracks : Type 0 where
  pub one : Option (List ℕ)
  pub two : Option (List ℕ)
  pub three : Option (List ℕ)

-- the bytes of a track as it is handed over
abbrev pub bytes_in : Option (Vec ℕ Global) → Option (List ℕ)
bytes_in track = option_map (λ v. v.items) track

-- where the track is there it has 1 to 255 bytes
abbrev pub IsTrack : Option (List ℕ) → Type 0
IsTrack track = IfSome track (λ bytes. (1 ≤ length bytes) × (length bytes ≤ 255))

-- the track of a number, which counts from 1
abbrev pub track_of : CardTracks → ℕ → Option (List ℕ)
track_of card number = if number == 1 then card.one else if number == 2 then card.two else if number == 3 then card.three else None
