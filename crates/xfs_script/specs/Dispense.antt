-- The line `dispense`: the token's field, and the counts that are asked.
use Rattle.std.specs.Prelude.{◌≡◌, ◌≢◌, ℕ, ◌&&◌, nat_le, Bool, IsTrue, List, [], ◌∷◌, length, codes}
use Rattle.std.specs.List.{list_all}
use Rattle.xfs_base.specs.declared.counts.Counts.{Counts}
use Rattle.xfs_script.specs.Counts.{SpellsCounts}
use Rattle.xfs_script.specs.Fields.{fields}
use Rattle.xfs_script.specs.declared.guard_line.Given.{Given}
use Rattle.xfs_script.specs.declared.guard_line.Given.TheVariants.{Last, Text}

-- `!` to `~`
abbrev pub is_visible : ℕ → Bool
is_visible b = nat_le 33 b && nat_le b 126

-- 1 to 2,000 bytes from `!` to `~`
abbrev pub is_token_field : List ℕ → Bool
is_token_field field = nat_le 1 (length field) && nat_le (length field) 2000 && list_all is_visible field

-- `@` is the last token minted; every other field is the token's text
abbrev pub IsGiven : List ℕ → Given → Type 0
IsGiven field Last = field ≡ codes "@"
IsGiven field (Text bytes) = (field ≡ bytes) × (field ≢ codes "@")

-- the fields are `dispense`, a token's and the one of these counts
pub record HasFields (text token : List ℕ) (counts : Counts) : Type 0 where
  pub field : List ℕ
  pub line : fields text ≡ codes "dispense" ∷ token ∷ field ∷ []
  pub valid : IsTrue (is_token_field token)
  pub spells : SpellsCounts field counts

pub record IsDispense (text : List ℕ) (token : Given) (counts : Counts) : Type 0 where
  pub field : List ℕ
  pub has : HasFields text field counts
  pub given : IsGiven field token
