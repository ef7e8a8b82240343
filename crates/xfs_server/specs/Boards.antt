-- What a board tells, and what each call does to it.
use Rattle.std.specs.Prelude.{ℕ, List, [], ◌∷◌, Ok, Err, option_map}
use Rattle.std.specs.declared.option.Option.{Option}
use Rattle.std.specs.declared.result.Result.{Result}
use Rattle.xfs_base.specs.declared.faults.Memory.{Memory}
use Rattle.xfs_base.specs.Causes.{next_count}
use Rattle.xfs_server.specs.Counted.{grown}

-- the texts posted, the frames handed over, and those that the latest call of frames handed over, where the board tells them, beside the numbers of calls of post, turn and frames, which each board tells
pub record BoardLog : Type 0 where
  pub texts : Option (List (List ℕ))
  pub handed : Option (List (List ℕ))
  pub latest : Option (List (List ℕ))
  pub posts : ℕ
  pub turns : ℕ
  pub fetches : ℕ

-- what it tells after this post: each counts, and one that was refused hasn't posted the text
abbrev pub after_post : BoardLog → List ℕ → Result Unit Memory → BoardLog
after_post b text (Ok _) = record b { texts = grown (text ∷ []) b.texts; posts = next_count b.posts }
after_post b text (Err _) = record b { posts = next_count b.posts }

abbrev pub after_turn : BoardLog → BoardLog
after_turn b = record b { turns = next_count b.turns }

-- what it tells after a call of frames that handed over these
abbrev pub after_fetch : BoardLog → List (List ℕ) → BoardLog
after_fetch b frames = record b { handed = grown frames b.handed; latest = option_map (λ _. frames) b.latest; fetches = next_count b.fetches }
