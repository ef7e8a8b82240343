-- What a dispense must be so that nothing stands against it, and a present behind it.
use Rattle.std.specs.Prelude.{◌≡◌, ◌≤◌, ◌⊎◌, ◌+◌, ◌-◌, ℕ, false, List, length, sum, Some, None}
use Rattle.xfs_base.specs.Counts.{at, LiesIn}
use Rattle.xfs_base.specs.Money.{value}
use Rattle.xfs_base.specs.declared.counts.Counts.{Counts as CountsOf}
use Rattle.xfs_token.specs.Token.{Parts, Genuine}
use Rattle.xfs_token.specs.Amounts.{amount_in, amounts_of}
use Rattle.xfs_journal.specs.Image.{size}
use Rattle.xfs_guard.specs.View.{View}
use Rattle.xfs_guard.specs.Nonce.{live_nonce}
use Rattle.xfs_guard.specs.Presented.{presented_in}
use Rattle.xfs_guard.specs.Refusals.{bound_token}
use Rattle.xfs_guard.specs.declared.fit.TheConstants.{LEAST_BYTES, LEAST_RECORDS}
use Rattle.xfs_guard.specs.declared.nonce.Nonce.{Nonce}

-- the journal is open, its boot record isn't missing, and so many records and bytes are left of its limits, which count the records that memory has and the bytes of the file
pub record HasSpace (v : View) (many long : ℕ) : Type 0 where
  pub open_still : v.shut ≡ false
  pub booted : v.boot_missing ≡ false
  pub records : length v.records - v.base + many ≤ v.limits.records
  pub bytes : size v.records + long ≤ v.limits.bytes

-- the bytes are of a genuine token with the live nonce and these amounts
pub record IsGood (v : View) (bytes : List ℕ) (amounts : List (List ℕ × ℕ)) : Type 0 where
  pub token : Parts
  pub genuine : Genuine v.key token bytes
  pub nonce : Nonce
  pub lives : live_nonce v.records ≡ Some nonce
  pub carried : token.nonce ≡ nonce.text
  pub amounts_are : amounts_of token ≡ Some amounts

-- no token is bound, and the transport is empty
pub record IsFree (v : View) : Type 0 where
  pub none : bound_token v.records ≡ None
  pub empty : sum v.places.transport.0 ≡ 0

-- this token is bound to the live nonce, or may be
abbrev pub IsBindable : View → List ℕ → Type 0
IsBindable v bytes = (bound_token v.records ≡ Some bytes) ⊎ IsFree v

-- from 1 to 60 notes of units of the table, which lie in the units, and with what was presented and lies on the transport are worth no more than the amounts
pub record IsCoveredBy (v : View) (amounts : List (List ℕ × ℕ)) (counts : CountsOf) : Type 0 where
  pub table : (u : ℕ) → length v.units ≤ u → at counts u ≡ 0
  pub low : 1 ≤ sum counts.0
  pub high : sum counts.0 ≤ 60
  pub lie : LiesIn counts v.places.units
  pub enough : (c : List ℕ) → presented_in v.units v.records c + value v.units v.places.transport c + value v.units counts c ≤ amount_in amounts c

-- nothing stands against a dispense of these counts with this token
pub record CanDispense (v : View) (bytes : List ℕ) (counts : CountsOf) : Type 0 where
  pub room : HasSpace v 20 4096
  pub amounts : List (List ℕ × ℕ)
  pub good : IsGood v bytes amounts
  pub binding : IsBindable v bytes
  pub covered : IsCoveredBy v amounts counts

-- nothing stands against a present: a nonce lives, a token's amounts are kept, there are notes, and the outlet is empty
pub record CanPresent (v : View) : Type 0 where
  pub room : HasSpace v LEAST_RECORDS LEAST_BYTES
  pub nonce : Nonce
  pub lives : live_nonce v.records ≡ Some nonce
  pub amounts : List (List ℕ × ℕ)
  pub kept : v.bound ≡ Some amounts
  pub low : 1 ≤ sum v.places.transport.0
  pub empty : sum v.places.outlet.0 ≡ 0
