-- How the pairs of an evidence are read, each behind those before it.
use Rattle.std.specs.Prelude.{ℕ, ◌+◌, ◌&&◌, nat_lt, Bool, true, List, [], ◌∷◌, ◌++◌, length, Some, None, if◌then◌else◌}
use Rattle.std.specs.declared.option.Option.{Option}
use Rattle.std.specs.Option.{option_and_then}
use Rattle.std.specs.Str.{bytes_eq}
use Rattle.xfs_evidence.specs.Told.{is_before, presented_key, told_amount}

-- each of the amounts' currencies comes before this one, where they rise
abbrev pub may_end : List (List ℕ × ℕ) → List ℕ → Bool
may_end [] c = true
may_end (a ∷ []) c = is_before a.0 c
may_end (a ∷ b ∷ rest) c = may_end (b ∷ rest) c

-- an amount behind others
abbrev pub with_amount : List (List ℕ × ℕ) → List ℕ × ℕ → Option (List (List ℕ × ℕ))
with_amount told a = if nat_lt (length told) 8 && may_end told a.0 then Some (told ++ a ∷ []) else None

-- one more pair
abbrev pub told_onto : List (List ℕ × ℕ) → List ℕ × List ℕ → Option (List (List ℕ × ℕ))
told_onto told p = if bytes_eq p.0 (presented_key (length told + 1)) then option_and_then (with_amount told) (told_amount p.1) else None

-- all of them
abbrev pub told_from : List (List ℕ × ℕ) → List (List ℕ × List ℕ) → Option (List (List ℕ × ℕ))
told_from told [] = Some told
told_from told (p ∷ ps) = option_and_then (λ now. told_from now ps) (told_onto told p)
