-- Lines that no verb of `replay` has.
use Rattle.std.proofs.Common.{ℕ, List}
use Rattle.xfs_script.specs.ReplayLines.{HasTrackFields, IsReplayFields, IsReplayLine, IsReplayWord, IsSay}
use Rattle.xfs_script.specs.declared.replay_line.ReplayLine.{ReplayLine}
use Rattle.xfs_script.specs.declared.replay_line.ReplayLine.TheVariants.{Skip, Join, Leave, Say, At, Work, Rest, CardIn, CardTaken, CardFault, Key, KeyFault, Take, Mint, Restart, Show}

pub no_replay_line : (text : List ℕ) → ((line : ReplayLine) → IsReplayWord text line → ⊥) → ((line : ReplayLine) → IsReplayFields text line → ⊥) → ((client : ℕ) (message : List ℕ) → IsSay text client message → ⊥) → ((one two three : List ℕ) → HasTrackFields text one two three → ⊥) → (line : ReplayLine) → IsReplayLine text line → ⊥
no_replay_line text word plain say card Skip is = word Skip is
no_replay_line text word plain say card (Join client service) is = plain (Join client service) is
no_replay_line text word plain say card (Leave client) is = plain (Leave client) is
no_replay_line text word plain say card (Say client message) is = say client message is
no_replay_line text word plain say card (At moment) is = plain (At moment) is
no_replay_line text word plain say card (Work service) is = plain (Work service) is
no_replay_line text word plain say card Rest is = word Rest is
no_replay_line text word plain say card (CardIn tracks) is = card is.one is.two is.three is.has
no_replay_line text word plain say card CardTaken is = word CardTaken is
no_replay_line text word plain say card CardFault is = word CardFault is
no_replay_line text word plain say card (Key key) is = plain (Key key) is
no_replay_line text word plain say card KeyFault is = word KeyFault is
no_replay_line text word plain say card Take is = word Take is
no_replay_line text word plain say card (Mint amounts) is = plain (Mint amounts) is
no_replay_line text word plain say card Restart is = word Restart is
no_replay_line text word plain say card Show is = word Show is
