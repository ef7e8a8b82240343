-- What one more step does to the images of a disk in memory.
use Rattle.std.proofs.Common.{◌≡◌, ◌⊎◌, inl, inr, ⊎_elim, ℕ, ◌≤◌, List, [], ◌∷◌, ◌++◌, length, reverse, sym, ◌∙◌, ap, subst, arith, length-append}
use Rattle.std.specs.Prelude.{IsTrue}
use Rattle.std.proofs.lemmas.Bool.{and_from}
use Rattle.std.proofs.lemmas.List.{reverse-append, length-reverse}
use Rattle.xfs_disk.specs.Disk.{Elapses, ImagesFollow, AddsNone, Only}
use Rattle.xfs_disk.specs.Steps.{before, Makes, LeftNow, LeftSince, stands, is_sound}
use Rattle.xfs_disk.specs.Images.{here}
use Rattle.xfs_disk.specs.declared.step.Step.{Step}
use Rattle.xfs_disk.specs.declared.step.Step.TheVariants.{Sync}

pub newest_first : (ss ns : List Step) (s : Step) → ns ≡ ss ++ s ∷ [] → reverse ns ≡ s ∷ reverse ss
newest_first ss ns s is = ap reverse is ∙ reverse-append ss (s ∷ [])

pub elapses_same : (now : List ℕ) (ss : List Step) → Elapses (length ss) (length ss) (LeftSince now (reverse ss)) (LeftSince now (reverse ss)) (LeftNow now (reverse ss))
elapses_same now ss = record { later = omega arith; nothing_else = λ t c le left. inl left; keeps = λ t c le left. left }

module _ (s : Step) (b new : List ℕ) (back : before s new ≡ b) (older : List Step) where
  since_after : (t : ℕ) (c : List ℕ) → LeftSince new (s ∷ older) t c → LeftSince b older t c ⊎ LeftNow new (s ∷ older) c
  since_after t c left = ⊎_elim (λ now. inr now) (λ past. inl (subst (λ (l : List ℕ). LeftSince l older t c) back past.1)) left

  since_before : (t : ℕ) (c : List ℕ) → t ≤ length older → LeftSince b older t c → LeftSince new (s ∷ older) t c
  since_before t c le left = inr (le, subst (λ (l : List ℕ). LeftSince l older t c) (sym back) left)

  pub stepped : Makes s b new → ImagesFollow (Makes s) (LeftNow b older) (LeftNow new (s ∷ older))
  stepped done c (inl is) = (b, here b older, subst (Makes s b) (sym is) done)
  stepped done c (inr (d, was, made)) = (d, subst (λ (l : List ℕ). LeftNow l older d) back was, made)

-- a step that led from the bytes b to new ones, and was noted
pub record Noted (s : Step) (b : List ℕ) (ss : List Step) (new : List ℕ) (ns : List Step) : Type 0 where
  pub back : before s new ≡ b
  pub notes : ns ≡ ss ++ s ∷ []

pub elapses : (s : Step) (b : List ℕ) (ss : List Step) (new : List ℕ) (ns : List Step) → Noted s b ss new ns → Elapses (length ss) (length ns) (LeftSince b (reverse ss)) (LeftSince new (reverse ns)) (LeftNow new (reverse ns))
elapses s b ss new ns noted =
    let first = newest_first ss ns s noted.notes in
    let counts : length (reverse ss) ≡ length ss = length-reverse ss in
    subst (λ (l : List Step). Elapses (length ss) (length ns) (LeftSince b (reverse ss)) (LeftSince new l) (LeftNow new l)) (sym first) (record {
      later = omega (arith, ap length noted.notes, length-append ss (s ∷ []));
      nothing_else = λ t c le left. since_after s b new noted.back (reverse ss) t c left;
      keeps = λ t c le left. since_before s b new noted.back (reverse ss) t c (omega (arith, le, counts)) left;
    })

pub follows : (s : Step) (b : List ℕ) (ss : List Step) (new : List ℕ) (ns : List Step) → Noted s b ss new ns → Makes s b new → ImagesFollow (Makes s) (LeftNow b (reverse ss)) (LeftNow new (reverse ns))
follows s b ss new ns noted done =
    subst (λ (l : List Step). ImagesFollow (Makes s) (LeftNow b (reverse ss)) (LeftNow new l)) (sym (newest_first ss ns s noted.notes)) (stepped s b new noted.back (reverse ss) done)

pub keeps_sound : (s : Step) (b : List ℕ) (ss : List Step) (new : List ℕ) (ns : List Step) → Noted s b ss new ns → IsTrue (stands s new) → IsTrue (is_sound b (reverse ss)) → IsTrue (is_sound new (reverse ns))
keeps_sound s b ss new ns noted here was =
    subst (λ (l : List Step). IsTrue (is_sound new l)) (sym (newest_first ss ns s noted.notes))
    (and_from (stands s new) (is_sound (before s new) (reverse ss)) here (subst (λ (l : List ℕ). IsTrue (is_sound l (reverse ss))) (sym noted.back) was))

-- a sync that succeeded
pub durable : (b : List ℕ) (ss ns : List Step) → ns ≡ ss ++ Sync ∷ [] → Only b (LeftNow b (reverse ns))
durable b ss ns is c left = ⊎_elim (λ now. now) (λ made. absurd made.2) (subst (λ (l : List Step). LeftNow b l c) (newest_first ss ns Sync is) left)

pub syncs : (b : List ℕ) (ss ns : List Step) → ns ≡ ss ++ Sync ∷ [] → AddsNone (LeftNow b (reverse ss)) (LeftNow b (reverse ns))
syncs b ss ns is c left = subst (LeftNow b (reverse ss)) (sym (durable b ss ns is c left)) (here b (reverse ss))

-- the same where nothing changed
pub unchanged : (b : List ℕ) (ss ns : List Step) → ns ≡ ss → AddsNone (LeftNow b (reverse ss)) (LeftNow b (reverse ns))
unchanged b ss ns is c left = subst (λ (l : List Step). LeftNow b (reverse l) c) is left
