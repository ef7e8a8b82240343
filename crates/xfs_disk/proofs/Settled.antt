-- The steps that syncs settled, before those since.
use Rattle.std.proofs.Common.{◌≡◌, ◌⊎◌, inl, inr, ⊎_elim, ℕ, zero, suc, ◌+◌, ◌%◌, List, [], ◌∷◌, ◌++◌, reverse, Vec, Global, refl, sym, ◌∙◌, ap, subst, append_assoc}
use Rattle.std.proofs.lemmas.List.{reverse-append}
use Rattle.std.specs.declared.snapshot.Snapshot.{Snapshot}
use Rattle.xfs_disk.specs.Steps.{before, history, synced, blotted, crashed}
use Rattle.xfs_disk.specs.declared.step.Step.{Step}
use Rattle.xfs_disk.specs.declared.step.Step.TheVariants.{Write, Resize, Sync}

abbrev pub Past : Type 0
Past = List (Snapshot (Vec Step Global))

-- those since the last sync stand behind the settled ones
pub behind : (past : Past) (since : List Step) → history past since ≡ history past [] ++ since
behind [] since = refl
behind (s ∷ newer) since = ap (λ (l : List Step). s.value.items ++ Sync ∷ l) (behind newer since) ∙ sym (append_assoc s.value.items (Sync ∷ history newer []) since)

-- one more sync
pub settles : (past : Past) (s : Snapshot (Vec Step Global)) → history (past ++ s ∷ []) [] ≡ history past s.value.items ++ Sync ∷ []
settles [] s = refl
settles (first ∷ newer) s = ap (λ (l : List Step). first.value.items ++ Sync ∷ l) (settles newer s) ∙ sym (append_assoc first.value.items (Sync ∷ history newer s.value.items) (Sync ∷ []))

-- one more step
pub adds : (past : Past) (since more : List Step) → history past (since ++ more) ≡ history past since ++ more
adds [] since more = refl
adds (s ∷ newer) since more = ap (λ (l : List Step). s.value.items ++ Sync ∷ l) (adds newer since more) ∙ sym (append_assoc s.value.items (Sync ∷ history newer since) more)

-- the newest first
pub newest : (past : Past) (since : List Step) → reverse (history past since) ≡ reverse since ++ reverse (history past [])
newest past since = ap reverse (behind past since) ∙ reverse-append (history past []) since

-- a sync is the newest of what is settled
abbrev EndsSynced : List Step → Type 0
EndsSynced steps = (steps ≡ []) ⊎ ((older : List Step) × (steps ≡ Sync ∷ older))

ends_over : (a b : List Step) → EndsSynced a → EndsSynced (a ++ Sync ∷ b)
ends_over a b (inl none) = inr (b, ap (λ (l : List Step). l ++ Sync ∷ b) none)
ends_over a b (inr (older, is)) = inr (older ++ Sync ∷ b, ap (λ (l : List Step). l ++ Sync ∷ b) is)

ends_synced : (past : Past) → EndsSynced (reverse (history past []))
ends_synced [] = inl refl
ends_synced (s ∷ newer) =
    subst EndsSynced (sym (reverse-append s.value.items (Sync ∷ history newer []) ∙ ap (λ (l : List Step). l ++ reverse s.value.items) (reverse-append (Sync ∷ []) (history newer [])) ∙ append_assoc (reverse (history newer [])) (Sync ∷ []) (reverse s.value.items)))
    (ends_over (reverse (history newer [])) (reverse s.value.items) (ends_synced newer))

module _ (settled : List Step) (ends : EndsSynced settled) where
  synced-none : (now : List ℕ) → synced now settled ≡ now
  synced-none now = ⊎_elim (λ none. ap (λ (l : List Step). synced now l) none) (λ ended. ap (λ (l : List Step). synced now l) ended.1) ends

  synced-since : (now : List ℕ) (steps : List Step) → synced now (steps ++ settled) ≡ synced now steps
  synced-since now [] = synced-none now
  synced-since now (Write at len was ∷ older) = synced-since (before (Write at len was) now) older
  synced-since now (Resize len was ∷ older) = synced-since was.items older
  synced-since now (Sync ∷ older) = refl

  blotted-since : (byte : ℕ) (now : List ℕ) (steps : List Step) → blotted byte now (steps ++ settled) ≡ blotted byte now steps
  blotted-since byte now [] = ⊎_elim (λ none. ap (λ (l : List Step). blotted byte now l) none) (λ ended. ap (λ (l : List Step). blotted byte now l) ended.1) ends
  blotted-since byte now (Write at len was ∷ older) = refl
  blotted-since byte now (Resize len was ∷ older) = refl
  blotted-since byte now (Sync ∷ older) = refl

  crashed-settled : (pick : ℕ) (now : List ℕ) (steps : List Step) → crashed pick now (steps ++ settled) ≡ crashed pick now steps
  crashed-settled zero now steps = synced-since now steps
  crashed-settled (suc k) now steps = blotted-since ((k + 1) % 256) now steps

-- a crash sees none of what is settled
pub crashed-since : (pick : ℕ) (now : List ℕ) (past : Past) (since : List Step) → crashed pick now (reverse (history past since)) ≡ crashed pick now (reverse since)
crashed-since pick now past since =
    ap (λ (l : List Step). crashed pick now l) (newest past since) ∙ crashed-settled (reverse (history past [])) (ends_synced past) pick now (reverse since)
