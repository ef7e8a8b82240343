-- The names of the keys, as XFS4IoT's keyboard messages spell them.
use Rattle.std.specs.Prelude.{ℕ, List, codes}
use Rattle.xfs_mech.specs.declared.key.KeyName.{KeyName}
use Rattle.xfs_mech.specs.declared.key.KeyName.TheVariants.{Zero, One, Two, Three, Four, Five, Six, Seven, Eight, Nine, Enter, Cancel, Clear, Backspace}

abbrev pub name_of : KeyName → List ℕ
name_of Zero = codes "zero"
name_of One = codes "one"
name_of Two = codes "two"
name_of Three = codes "three"
name_of Four = codes "four"
name_of Five = codes "five"
name_of Six = codes "six"
name_of Seven = codes "seven"
name_of Eight = codes "eight"
name_of Nine = codes "nine"
name_of Enter = codes "enter"
name_of Cancel = codes "cancel"
name_of Clear = codes "clear"
name_of Backspace = codes "backspace"
