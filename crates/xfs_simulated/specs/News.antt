-- What befalls the card slot and the key pad of the simulated machine.
use Rattle.std.specs.Prelude.{◌≡◌, ℕ, List, [], ◌∷◌, ◌++◌, None, Some, codes, zero, suc}
use Rattle.xfs_mech.specs.SimWatch.{failing_of, touches_of}
use Rattle.xfs_mech.specs.Tracks.{CardTracks}
use Rattle.xfs_mech.specs.declared.key.KeyName.TheVariants.{One, Two, Three, Four, Enter}
use Rattle.xfs_mech.specs.declared.sim_watch.SimWatch.{SimWatch}
use Rattle.xfs_mech.specs.declared.touch.Touch.{Touch}
use Rattle.xfs_mech.specs.declared.touch.Touch.TheVariants.{CardIn, CardTaken, Key}

-- a card with its second track alone
abbrev pub card : CardTracks
card = record { one = None; two = Some (codes ";1234"); three = None }

-- a number of cards are put in, and each is taken before the next
unfoldable pub visits : ℕ → List Touch
visits zero = []
visits (suc n) = visits n ++ CardIn card ∷ CardTaken ∷ []

-- a number of times four digits, and enter
unfoldable pub entries : ℕ → List Touch
entries zero = []
entries (suc n) = entries n ++ Key One ∷ Key Two ∷ Key Three ∷ Key Four ∷ Key Enter ∷ []

-- a watch tells these touches, and none of its calls fails
pub record HasNews (touches : List Touch) (watch : SimWatch) : Type 0 where
  pub come : touches_of watch ≡ touches
  pub quiet : failing_of watch ≡ []
