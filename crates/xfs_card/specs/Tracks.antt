-- The payload of ReadRawData: each track that was asked for, in base64 (RFC 4648, standard alphabet, padded).
use Rattle.std.specs.Prelude.{ℕ, List, codes, Bool, true, false, Option, Some, None, slice_index_or, if◌then◌else◌}
use Rattle.base64.specs.GeneralPurpose.{encode_of}
use Rattle.base64.specs.Engines.{standard}
use Rattle.serde_json.specs.Data.{Data, string, object, Members, no_members, member, put}
use Rattle.xfs_envelope.specs.Messages.{with_if}
use Rattle.xfs_mech.specs.Tracks.{CardTracks}

-- a track's data, or that the card has no such track
abbrev pub track_data : Option (List ℕ) → Data
track_data None = object (member (codes "status") (string (codes "dataMissing")) no_members)
track_data (Some bytes) = object (member (codes "data") (string (encode_of standard bytes)) (member (codes "status") (string (codes "ok")) no_members))

-- whether the track at a place, from 0, is asked for
abbrev pub is_asked : List Bool → ℕ → Bool
is_asked asked place = slice_index_or asked place false

abbrev pub told_if : Bool → Option (List ℕ) → Option Data
told_if asked track = if asked then Some (track_data track) else None

-- a track's data put into other members, where it was asked for
abbrev pub put_track : List ℕ → Bool → Option (List ℕ) → Members → Members
put_track name false track members = members
put_track name true track members = put name (track_data track) members

abbrev pub tracks_payload : List Bool → CardTracks → Data
tracks_payload asked card = object
    (with_if (codes "track1") (told_if (is_asked asked 0) card.one)
    (with_if (codes "track2") (told_if (is_asked asked 1) card.two)
    (with_if (codes "track3") (told_if (is_asked asked 2) card.three) no_members)))
