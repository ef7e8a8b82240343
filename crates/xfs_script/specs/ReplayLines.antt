-- The lines of the command `replay`: the bytes that write each verb with its fields.
use Rattle.std.specs.Prelude.{◌≡◌, ◌≢◌, ℕ, ◌≤◌, List, [], ◌∷◌, ◌++◌, codes, decimal, Ok, None, Some}
use Rattle.std.specs.declared.option.Option.{Option}
use Rattle.hex.specs.Hex.{decode_of}
use Rattle.xfs_base.specs.declared.moment.Service.{Service}
use Rattle.xfs_base.specs.declared.moment.Service.TheVariants.{Publisher, Card, Keys, Cash}
use Rattle.xfs_base.specs.declared.moment.TheConstants.{LAST_MOMENT}
use Rattle.xfs_mech.specs.Keys.{name_of}
use Rattle.xfs_mech.specs.Tracks.{CardTracks, IsTrack}
use Rattle.xfs_script.specs.Words.{IsSkipped}
use Rattle.xfs_script.specs.Fields.{fields}
use Rattle.xfs_script.specs.Guard.{IsMint}
use Rattle.xfs_script.specs.declared.replay_line.ReplayLine.{ReplayLine}
use Rattle.xfs_script.specs.declared.replay_line.ReplayLine.TheVariants.{Skip, Join, Leave, Say, At, Work, Rest, CardIn, CardTaken, CardFault, Key, KeyFault, Take, Mint, Restart, Show}

-- a client's number, from 1 to 999
pub record IsClient (field : List ℕ) (client : ℕ) : Type 0 where
  pub digits : field ≡ decimal client
  pub low : 1 ≤ client
  pub high : client ≤ 999

-- the word of a service
abbrev pub service_word : Service → List ℕ
service_word Publisher = codes "publisher"
service_word Card = codes "card"
service_word Keys = codes "keys"
service_word Cash = codes "cash"

-- the fields are `join`, a client's number and a service's word
pub record IsJoin (text : List ℕ) (client : ℕ) (service : Service) : Type 0 where
  pub field : List ℕ
  pub line : fields text ≡ codes "join" ∷ field ∷ service_word service ∷ []
  pub who : IsClient field client

-- `leave` and a client's number
pub record IsLeave (text : List ℕ) (client : ℕ) : Type 0 where
  pub field : List ℕ
  pub line : text ≡ codes "leave " ++ field
  pub who : IsClient field client

-- `say`, a client's number, and the message up to the line's end, which may be empty
pub record IsSay (text : List ℕ) (client : ℕ) (message : List ℕ) : Type 0 where
  pub field : List ℕ
  pub line : text ≡ codes "say " ++ field ++ 32 ∷ message
  pub who : IsClient field client

-- `moment` and a number up to the greatest moment
pub record IsMoment (text : List ℕ) (moment : ℕ) : Type 0 where
  pub line : text ≡ codes "moment " ++ decimal moment
  pub high : moment ≤ LAST_MOMENT

-- `work` and a service that has work to do, as each has but the publisher
pub record IsWork (text : List ℕ) (service : Service) : Type 0 where
  pub line : text ≡ codes "work " ++ service_word service
  pub works : service ≢ Publisher

-- `-` where there is no track, else two hexadecimal digits a byte, of either case
abbrev pub IsTrackField : List ℕ → Option (List ℕ) → Type 0
IsTrackField field None = field ≡ codes "-"
IsTrackField field (Some bytes) = decode_of field ≡ Ok bytes

-- each track that is there has 1 to 255 bytes
pub record AreTracks (tracks : CardTracks) : Type 0 where
  pub one : IsTrack tracks.one
  pub two : IsTrack tracks.two
  pub three : IsTrack tracks.three

-- the fields of three tracks
pub record SpellsTracks (one two three : List ℕ) (tracks : CardTracks) : Type 0 where
  pub first : IsTrackField one tracks.one
  pub second : IsTrackField two tracks.two
  pub third : IsTrackField three tracks.three
  pub valid : AreTracks tracks

-- `card in` and three fields behind it
pub record HasTrackFields (text one two three : List ℕ) : Type 0 where
  pub behind : List ℕ
  pub line : text ≡ codes "card in " ++ behind
  pub parts : fields behind ≡ one ∷ two ∷ three ∷ []

-- `card in` and the fields of a card's tracks
pub record IsCardIn (text : List ℕ) (tracks : CardTracks) : Type 0 where
  pub one : List ℕ
  pub two : List ℕ
  pub three : List ℕ
  pub has : HasTrackFields text one two three
  pub spells : SpellsTracks one two three tracks

-- the text is this line
abbrev pub IsReplayLine : List ℕ → ReplayLine → Type 0
IsReplayLine text Skip = IsSkipped text
IsReplayLine text (Join client service) = IsJoin text client service
IsReplayLine text (Leave client) = IsLeave text client
IsReplayLine text (Say client message) = IsSay text client message
IsReplayLine text (At moment) = IsMoment text moment.0
IsReplayLine text (Work service) = IsWork text service
IsReplayLine text Rest = text ≡ codes "rest"
IsReplayLine text (CardIn tracks) = IsCardIn text tracks
IsReplayLine text CardTaken = text ≡ codes "card taken"
IsReplayLine text CardFault = text ≡ codes "card fault"
IsReplayLine text (Key key) = text ≡ codes "key " ++ name_of key
IsReplayLine text KeyFault = text ≡ codes "key fault"
IsReplayLine text Take = text ≡ codes "take"
IsReplayLine text (Mint amounts) = IsMint text amounts
IsReplayLine text Restart = text ≡ codes "restart"
IsReplayLine text Show = text ≡ codes "show"

-- the text is a line of `replay` that has no fields
abbrev pub IsReplayWord : List ℕ → ReplayLine → Type 0
IsReplayWord text (Join client service) = ⊥
IsReplayWord text (Leave client) = ⊥
IsReplayWord text (Say client message) = ⊥
IsReplayWord text (At moment) = ⊥
IsReplayWord text (Work service) = ⊥
IsReplayWord text (CardIn tracks) = ⊥
IsReplayWord text (Key key) = ⊥
IsReplayWord text (Mint amounts) = ⊥
IsReplayWord text line = IsReplayLine text line

-- the text is a line of `replay` whose fields are numbers, names or amounts
abbrev pub IsReplayFields : List ℕ → ReplayLine → Type 0
IsReplayFields text (Join client service) = IsJoin text client service
IsReplayFields text (Leave client) = IsLeave text client
IsReplayFields text (At moment) = IsMoment text moment.0
IsReplayFields text (Work service) = IsWork text service
IsReplayFields text (Key key) = text ≡ codes "key " ++ name_of key
IsReplayFields text (Mint amounts) = IsMint text amounts
IsReplayFields text line = ⊥
