-- The keys of the key pad: where each stands in a list of one value for each, and which are digits.
use Rattle.std.specs.Prelude.{ℕ, List, [], ◌∷◌, Bool, false, nat_lt, slice_index_or}
use Rattle.xfs_mech.specs.declared.key.KeyName.{KeyName}
use Rattle.xfs_mech.specs.declared.key.KeyName.TheVariants.{Zero, One, Two, Three, Four, Five, Six, Seven, Eight, Nine, Enter, Cancel, Clear, Backspace}

abbrev pub place_of : KeyName → ℕ
place_of Zero = 0
place_of One = 1
place_of Two = 2
place_of Three = 3
place_of Four = 4
place_of Five = 5
place_of Six = 6
place_of Seven = 7
place_of Eight = 8
place_of Nine = 9
place_of Enter = 10
place_of Cancel = 11
place_of Clear = 12
place_of Backspace = 13

-- each key at its place
abbrev pub key_list : List KeyName
key_list = Zero ∷ One ∷ Two ∷ Three ∷ Four ∷ Five ∷ Six ∷ Seven ∷ Eight ∷ Nine ∷ Enter ∷ Cancel ∷ Clear ∷ Backspace ∷ []

-- whether the key is in a set, which has a truth value for each place
abbrev pub has : KeyName → List Bool → Bool
has key set = slice_index_or set (place_of key) false

-- zero to nine
abbrev pub is_digit : KeyName → Bool
is_digit key = nat_lt (place_of key) 10
