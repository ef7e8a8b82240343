-- What a connection tells, and what each call does to it.
use Rattle.std.specs.Prelude.{◌≡◌, ℕ, List, [], ◌∷◌, drop, slice_get, Some, Bool, true, false, option_map, ⊤, Ok, Err}
use Rattle.std.specs.declared.option.Option.{Option}
use Rattle.std.specs.declared.result.Result.{Result}
use Rattle.xfs_base.specs.Causes.{IfTold, next_count}
use Rattle.xfs_server.specs.Counted.{grown}
use Rattle.xfs_server.specs.declared.link.Taking.{Taking}
use Rattle.xfs_server.specs.declared.link.GiveFault.{GiveFault}

-- the texts to come, taken and sent, where the link tells them; whether it has told Closed; how often nothing came, and how often it failed
pub record LinkLog : Type 0 where
  pub coming : Option (List (List ℕ))
  pub taken : Option (List (List ℕ))
  pub sent : Option (List (List ℕ))
  pub closed : Bool
  pub quiets : ℕ
  pub faults : ℕ

-- what it tells after a call of take that answered this
abbrev pub after_take : LinkLog → Taking → LinkLog
after_take l (Taking.Text text) = record l { coming = option_map (drop 1) l.coming; taken = grown (text ∷ []) l.taken }
after_take l Taking.Quiet = record l { quiets = next_count l.quiets }
after_take l Taking.Closed = record l { closed = true }
after_take l Taking.Failed = record l { faults = next_count l.faults }
after_take l Taking.Memory = l

-- a text that was taken is the first of those to come, and Closed comes only where none is
abbrev pub IsNextOf : List (List ℕ) → Taking → Type 0
IsNextOf texts (Taking.Text text) = slice_get texts 0 ≡ Some text
IsNextOf texts Taking.Quiet = ⊤
IsNextOf texts Taking.Closed = texts ≡ []
IsNextOf texts Taking.Failed = ⊤
IsNextOf texts Taking.Memory = ⊤

-- what it tells after a call of give for this text
abbrev pub after_give : LinkLog → List ℕ → Result Unit GiveFault → LinkLog
after_give l text (Ok _) = record l { sent = grown (text ∷ []) l.sent }
after_give l text (Err GiveFault.Failed) = record l { faults = next_count l.faults }
after_give l text (Err GiveFault.Memory) = l

-- a list that is told is empty
abbrev pub IsEmptyIfTold : Option (List (List ℕ)) → Type 0
IsEmptyIfTold told = IfTold told (λ texts. texts ≡ [])

-- a link of which nothing was taken and to which nothing was given, with counts of 0, and that hasn't told Closed
pub record IsFresh (l : LinkLog) : Type 0 where
  pub taken : IsEmptyIfTold l.taken
  pub sent : IsEmptyIfTold l.sent
  pub closed : l.closed ≡ false
  pub quiets : l.quiets ≡ 0
  pub faults : l.faults ≡ 0
