-- What a desk remembers of a history: how many asks there are, and the open ones, by whether they are acknowledged.
use Rattle.std.specs.Prelude.{◌≡◌, ℕ, List, Bool, true, false, ◌&&◌, ◌==◌, not, ⊤, ◌++◌, ◌∷◌, []}
use Rattle.std.specs.List.{list_any}
use Rattle.std.specs.Ordering.{nat_cmp}
use Rattle.std.specs.BTreeMap.{is_at}
use Rattle.xfs_client.specs.History.{Told, acknowledged, refused, event, completed, unsolicited, Entry, heard, asks, acknowledges, ends, was_heard, is_asked, is_open, is_acknowledged}

pub record Remembered : Type 0 where
  pub asked : ℕ
  pub unacknowledged : List ℕ
  pub acknowledged : List ℕ

abbrev pub has : List ℕ → ℕ → Bool
has ids id = list_any (is_at (nat_cmp id)) ids

-- a desk that asked and heard this
pub record Recalls (d : Remembered) (h : List Entry) : Type 0 where
  pub count : d.asked ≡ asks h
  pub waiting : (id : ℕ) → has d.unacknowledged id ≡ (is_open h id && not (is_acknowledged h id))
  pub running : (id : ℕ) → has d.acknowledged id ≡ (is_open h id && is_acknowledged h id)
  pub known : (id : ℕ) → is_asked h id ≡ false → (was_heard (ends id) h ≡ false) × (is_acknowledged h id ≡ false)

-- P holds of every history that the desk keeps
abbrev pub OfKept : Remembered → (List Entry → Type 0) → Type 0
OfKept d P = (h : List Entry) → Recalls d h → P h

-- the desk keeps every history that it kept, with this entry behind it
abbrev pub GrowsBy : Entry → Remembered → Remembered → Type 0
GrowsBy e old new = OfKept old (λ h. Recalls new (h ++ e ∷ []))

-- the ask that this is for is open
abbrev pub IsOpenTo : List Entry → Told → Type 0
IsOpenTo h (acknowledged id) = is_open h id ≡ true
IsOpenTo h (refused id status) = is_open h id ≡ true
IsOpenTo h (event id) = is_open h id ≡ true
IsOpenTo h (completed id code payload) = is_open h id ≡ true
IsOpenTo h unsolicited = ⊤

-- the desk keeps every history that it kept, with what was told behind it, where the ask that this is for is open
abbrev pub HearsOpen : Told → Remembered → Remembered → Type 0
HearsOpen t old new = OfKept old (λ h. IsOpenTo h t → Recalls new (h ++ heard t ∷ []))

-- what is told ends the ask with the id, and is no acknowledge
pub record IsEndOf (id : ℕ) (t : Told) : Type 0 where
  pub over : (q : ℕ) → ends q t ≡ (id == q)
  pub other : (q : ℕ) → acknowledges q t ≡ false
