-- The lines of the command `audit`: the bytes that write a record, an entry of a mechanism's list, and the places at its beginning and its end.
use Rattle.std.specs.Prelude.{◌≡◌, ◌⊎◌, ℕ, ◌≤◌, List, [], ◌∷◌, ◌++◌, codes, decimal, replicate, Ok}
use Rattle.hex.specs.Hex.{decode_of}
use Rattle.xfs_base.specs.declared.counts.Counts.{Counts}
use Rattle.xfs_base.specs.declared.counts.Kind.{Kind}
use Rattle.xfs_base.specs.declared.counts.Kind.TheVariants.{Stack, Present, Reject, Retract}
use Rattle.xfs_base.specs.declared.counts.Places.{Places}
use Rattle.xfs_mech.specs.declared.motion.Motion.{Motion}
use Rattle.xfs_mech.specs.declared.motion.Motion.TheVariants.{Moved, Taken, Loaded}
use Rattle.xfs_journal.specs.Image.{IsRecord, body}
use Rattle.xfs_journal.specs.declared.record.Rec.{Rec}
use Rattle.xfs_script.specs.Words.{IsSkipped}
use Rattle.xfs_script.specs.Fields.{fields}
use Rattle.xfs_script.specs.Counts.{SpellsCounts}
use Rattle.xfs_script.specs.HostLines.{IsNumber}
use Rattle.xfs_script.specs.declared.audit_line.AuditLine.{AuditLine}
use Rattle.xfs_script.specs.declared.audit_line.AuditLine.TheVariants.{Skip, Body, Entry, From, To}

-- `record` and two hexadecimal digits, of either case, for each byte of the record's body
pub record IsRecordLine (text : List ℕ) (r : Rec) : Type 0 where
  pub field : List ℕ
  pub line : text ≡ codes "record " ++ field
  pub of_table : IsRecord r
  pub digits : decode_of field ≡ Ok (body r)

-- `none`, or units with their counts
pub record IsCountsField (field : List ℕ) (counts : Counts) : Type 0 where
  pub spells : ((field ≡ codes "none") × (counts.0 ≡ replicate 8 0)) ⊎ SpellsCounts field counts

-- the word of what an order moves
abbrev pub kind_word : Kind → List ℕ
kind_word Stack = codes "stack"
kind_word Present = codes "present"
kind_word Reject = codes "reject"
kind_word Retract = codes "retract"

-- the fields are `moved`, the number of the order's record, the word of its kind, and the counts that were moved and diverted
pub record IsMoved (text : List ℕ) (number : ℕ) (kind : Kind) (moved diverted : Counts) : Type 0 where
  pub digits : List ℕ
  pub first : List ℕ
  pub second : List ℕ
  pub line : fields text ≡ codes "moved" ∷ digits ∷ kind_word kind ∷ first ∷ second ∷ []
  pub number_is : IsNumber digits number
  pub moved_is : IsCountsField first moved
  pub diverted_is : IsCountsField second diverted

-- `taken` and the counts
pub record IsTaken (text : List ℕ) (counts : Counts) : Type 0 where
  pub field : List ℕ
  pub line : text ≡ codes "taken " ++ field
  pub counts_are : IsCountsField field counts

-- `loaded`, a unit from 1 to 8, and a count from 0 to 1,000,000
pub record IsLoaded (text : List ℕ) (unit count : ℕ) : Type 0 where
  pub line : text ≡ codes "loaded unit" ++ decimal unit ++ codes " " ++ decimal count
  pub first : 1 ≤ unit
  pub last : unit ≤ 8
  pub most : count ≤ 1000000

-- an entry of the list
abbrev pub IsEntry : List ℕ → Motion → Type 0
IsEntry text (Moved number kind moved diverted) = IsMoved text number kind moved diverted
IsEntry text (Taken counts) = IsTaken text counts
IsEntry text (Loaded unit count) = IsLoaded text unit count

-- the fields are this word and the counts of the six places, in the order of a boot record
pub record ArePlaces (verb text : List ℕ) (places : Places) : Type 0 where
  pub units : List ℕ
  pub transport : List ℕ
  pub outlet : List ℕ
  pub taken : List ℕ
  pub retracted : List ℕ
  pub rejected : List ℕ
  pub line : fields text ≡ verb ∷ units ∷ transport ∷ outlet ∷ taken ∷ retracted ∷ rejected ∷ []
  pub units_are : IsCountsField units places.units
  pub transport_is : IsCountsField transport places.transport
  pub outlet_is : IsCountsField outlet places.outlet
  pub taken_are : IsCountsField taken places.taken
  pub retracted_are : IsCountsField retracted places.retracted
  pub rejected_are : IsCountsField rejected places.rejected

-- the text is this line
abbrev pub IsAuditLine : List ℕ → AuditLine → Type 0
IsAuditLine text Skip = IsSkipped text
IsAuditLine text (Body r) = IsRecordLine text r
IsAuditLine text (Entry entry) = IsEntry text entry
IsAuditLine text (From places) = ArePlaces (codes "from") text places
IsAuditLine text (To places) = ArePlaces (codes "to") text places
