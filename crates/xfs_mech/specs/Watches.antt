-- What a watch hands over: the touches to come, the first one first.
use Rattle.std.specs.Prelude.{◌≡◌, List, [], ◌∷◌, Some, None}
use Rattle.std.specs.declared.option.Option.{Option}
use Rattle.xfs_mech.specs.declared.touch.Touch.{Touch}
use Rattle.xfs_mech.specs.declared.touch.News.{News}

-- what is to come after this news: a touch was the first, quiet comes only where none is to come, and a failure hands over none
abbrev pub Tells : List Touch → News → List Touch → Type 0
Tells old (News.Touch touch) new = old ≡ touch ∷ new
Tells old News.Quiet new = (old ≡ []) × (new ≡ [])
Tells old News.Failed new = new ≡ old

-- where the list to come is told, the news tells of it; one that isn't told stays untold
abbrev pub Hands : Option (List Touch) → News → Option (List Touch) → Type 0
Hands None news new = new ≡ None
Hands (Some old) news None = ⊥
Hands (Some old) news (Some new) = Tells old news new
