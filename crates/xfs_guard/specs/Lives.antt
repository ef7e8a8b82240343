-- The numbers that were answered in a machine's life: its runs one after another, between which its power was cut.
use Rattle.std.specs.Prelude.{◌≡◌, ℕ, List, [], ◌∷◌, ◌++◌, map, All}
use Rattle.std.specs.List.{Contains}
use Rattle.xfs_journal.specs.declared.record.Rec.{Rec}
use Rattle.xfs_journal.specs.declared.record.Rec.TheVariants.{Issue}

-- an answered number, and the journal's list at that return
pub record Answered : Type 0 where
  pub number : ℕ
  pub records : List Rec

-- a run: the list that its boot found, what was answered in it, and the list that its crash left, or that stands now
pub record Run : Type 0 where
  pub found : List Rec
  pub answers : List Answered
  pub left : List Rec

-- a list begins with another
pub record BeginsWith (records prefix : List Rec) : Type 0 where
  pub more : List Rec
  pub is : records ≡ prefix ++ more

-- the answered number is that of the last record then, an Issue, and the list later begins with the list then
pub record IsKeptIn (records : List Rec) (a : Answered) : Type 0 where
  pub before : List Rec
  pub word : ℕ
  pub issued : a.records ≡ before ++ Issue a.number word ∷ []
  pub kept : BeginsWith records a.records

-- what a run found and answered stands in what its crash left
pub record IsRun (r : Run) : Type 0 where
  pub began : BeginsWith r.left r.found
  pub kept : All (IsKeptIn r.left) r.answers

-- runs one after another: each found what the crash before it left, and the last list stands now
abbrev pub IsLife : List Rec → List Run → List Rec → Type 0
IsLife first [] now = first ≡ now
IsLife first (r ∷ rs) now = (r.found ≡ first) × IsRun r × IsLife r.left rs now

-- every number that was answered
abbrev pub answered_in : List Run → List ℕ
answered_in [] = []
answered_in (r ∷ rs) = map (λ (a : Answered). a.number) r.answers ++ answered_in rs

-- no run that the records go back to answered with this number
abbrev pub WasNeverAnswered : List Rec → ℕ → Type 0
WasNeverAnswered records number = (first : List Rec) (runs : List Run) → IsLife first runs records → ¬ Contains (answered_in runs) number
