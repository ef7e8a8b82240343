-- What a write, a change of the length and a sync in memory do to the images, by their outcome.
use Rattle.std.proofs.Common.{◌≡◌, ◌⊎◌, inl, inr, ℕ, ◌≤◌, List, [], ◌∷◌, ◌++◌, length, reverse, Vec, Global, refl, sym, ◌∙◌, ap, subst}
use Rattle.std.specs.Prelude.{IsTrue, OnOk, OnErr, Ok, Err}
use Rattle.std.specs.declared.result.Result.{Result}
use Rattle.xfs_disk.specs.Disk.{Torn, Cut, Elapses, ImagesFollow, AddsNone, overlaid, resized}
use Rattle.xfs_disk.specs.Steps.{LeftNow, LeftSince, NotesWrite, history, is_sound}
use Rattle.xfs_disk.specs.declared.step.Step.{Step}
use Rattle.xfs_disk.specs.declared.step.Step.TheVariants.{Write, Resize}
use Rattle.xfs_disk.proofs.Changes.{Noted, elapses, elapses_same, follows, keeps_sound, unchanged}
use Rattle.xfs_disk.proofs.Crash.{torn_same, cut_same}
use Rattle.xfs_disk.proofs.Settled.{Past, adds}
use Rattle.xfs_disk.proofs.Written.{torn_written, back, stands_written, cut_done}

pub by_outcome : {T E : Type 0} (A B : Type 0) (r : Result T E) → OnOk r A → OnErr r B → A ⊎ B
by_outcome A B (Ok x) a b = inl a
by_outcome A B (Err e) a b = inr b

pub both : {T E : Type 0} (A B : Type 0) (r : Result T E) → OnOk r A → OnOk r B → OnOk r (A × B)
both A B (Ok x) a b = (a, b)
both A B (Err e) a b = a

abbrev pub IsSame : List ℕ → List Step → List ℕ → List Step → Type 0
IsSame b ss new ns = (new ≡ b) × (ns ≡ ss)

abbrev pub Wrote : List ℕ → List Step → List ℕ → List Step → ℕ → List ℕ → Type 0
Wrote b ss new ns at bytes = (new ≡ overlaid b at bytes) × NotesWrite at (length bytes) b ss ns

abbrev pub Resized : List ℕ → List Step → List ℕ → List Step → ℕ → Type 0
Resized b ss new ns len = (new ≡ resized b len) × ((was : Vec ℕ Global) × (was.items ≡ b) × (ns ≡ ss ++ Resize len was ∷ []))

-- with what is settled before
pub wrote_since : (past : Past) (b : List ℕ) (ss : List Step) (new : List ℕ) (ns : List Step) (at : ℕ) (bytes : List ℕ)
    → Wrote b ss new ns at bytes ⊎ IsSame b ss new ns → Wrote b (history past ss) new (history past ns) at bytes ⊎ IsSame b (history past ss) new (history past ns)
wrote_since past b ss new ns at bytes (inl (w, (was, is, notes))) = inl (w, (was, is, ap (history past) notes ∙ adds past ss (Write at (length bytes) was ∷ [])))
wrote_since past b ss new ns at bytes (inr (w, same)) = inr (w, ap (history past) same)

pub resized_since : (past : Past) (b : List ℕ) (ss : List Step) (new : List ℕ) (ns : List Step) (len : ℕ)
    → Resized b ss new ns len ⊎ IsSame b ss new ns → Resized b (history past ss) new (history past ns) len ⊎ IsSame b (history past ss) new (history past ns)
resized_since past b ss new ns len (inl (w, (was, is, notes))) = inl (w, (was, is, ap (history past) notes ∙ adds past ss (Resize len was ∷ [])))
resized_since past b ss new ns len (inr (w, same)) = inr (w, ap (history past) same)

module _ (b : List ℕ) (ss : List Step) (new : List ℕ) (ns : List Step) where
  pub same_time : IsSame b ss new ns → Elapses (length ss) (length ns) (LeftSince b (reverse ss)) (LeftSince new (reverse ns)) (LeftNow new (reverse ns))
  same_time same = subst (λ (l : List ℕ). Elapses (length ss) (length ns) (LeftSince b (reverse ss)) (LeftSince l (reverse ns)) (LeftNow l (reverse ns))) (sym same.0)
      (subst (λ (l : List Step). Elapses (length ss) (length l) (LeftSince b (reverse ss)) (LeftSince b (reverse l)) (LeftNow b (reverse l))) (sym same.1) (elapses_same b ss))

  pub same_images : IsSame b ss new ns → AddsNone (LeftNow b (reverse ss)) (LeftNow new (reverse ns))
  same_images same c left = unchanged b ss ns same.1 c (subst (λ (l : List ℕ). LeftNow l (reverse ns) c) same.0 left)

  pub same_sound : IsSame b ss new ns → IsTrue (is_sound b (reverse ss)) → IsTrue (is_sound new (reverse ns))
  same_sound same was = subst (λ (l : List ℕ). IsTrue (is_sound l (reverse ns))) (sym same.0) (subst (λ (l : List Step). IsTrue (is_sound b (reverse l))) (sym same.1) was)

  module _ (at : ℕ) (bytes : List ℕ) (within : at ≤ length b) where
    noted : (wrote : Wrote b ss new ns at bytes) → Noted (Write at (length bytes) wrote.1.0) b ss (overlaid b at bytes) ns
    noted wrote = record { back = back b bytes wrote.1.0.items at within wrote.1.1; notes = wrote.1.2 }

    pub write_time : Wrote b ss new ns at bytes ⊎ IsSame b ss new ns → Elapses (length ss) (length ns) (LeftSince b (reverse ss)) (LeftSince new (reverse ns)) (LeftNow new (reverse ns))
    write_time (inl w) = subst (λ (l : List ℕ). Elapses (length ss) (length ns) (LeftSince b (reverse ss)) (LeftSince l (reverse ns)) (LeftNow l (reverse ns))) (sym w.0)
        (elapses (Write at (length bytes) w.1.0) b ss (overlaid b at bytes) ns (noted w))
    write_time (inr same) = same_time same

    pub write_images : Wrote b ss new ns at bytes ⊎ IsSame b ss new ns → ImagesFollow (Torn at (length bytes)) (LeftNow b (reverse ss)) (LeftNow new (reverse ns))
    write_images (inl w) = subst (λ (l : List ℕ). ImagesFollow (Torn at (length bytes)) (LeftNow b (reverse ss)) (LeftNow l (reverse ns))) (sym w.0)
        (follows (Write at (length bytes) w.1.0) b ss (overlaid b at bytes) ns (noted w) (torn_written b bytes w.1.0.items at within w.1.1))
    write_images (inr same) = λ c left. (c, same_images same c left, torn_same at (length bytes) c)

    pub write_sound : Wrote b ss new ns at bytes ⊎ IsSame b ss new ns → IsTrue (is_sound b (reverse ss)) → IsTrue (is_sound new (reverse ns))
    write_sound (inl w) was = subst (λ (l : List ℕ). IsTrue (is_sound l (reverse ns))) (sym w.0)
        (keeps_sound (Write at (length bytes) w.1.0) b ss (overlaid b at bytes) ns (noted w) (stands_written b bytes w.1.0.items at within w.1.1) was)
    write_sound (inr same) was = same_sound same was

  module _ (len : ℕ) where
    cut_noted : (cut : Resized b ss new ns len) → Noted (Resize len cut.1.0) b ss new ns
    cut_noted cut = record { back = cut.1.1; notes = cut.1.2 }

    pub cut_time : Resized b ss new ns len ⊎ IsSame b ss new ns → Elapses (length ss) (length ns) (LeftSince b (reverse ss)) (LeftSince new (reverse ns)) (LeftNow new (reverse ns))
    cut_time (inl cut) = elapses (Resize len cut.1.0) b ss new ns (cut_noted cut)
    cut_time (inr same) = same_time same

    pub cut_images : Resized b ss new ns len ⊎ IsSame b ss new ns → ImagesFollow (Cut len) (LeftNow b (reverse ss)) (LeftNow new (reverse ns))
    cut_images (inl cut) = follows (Resize len cut.1.0) b ss new ns (cut_noted cut) (subst (Cut len b) (sym cut.0) (cut_done b len))
    cut_images (inr same) = λ c left. (c, same_images same c left, cut_same len c)

    pub cut_sound : Resized b ss new ns len ⊎ IsSame b ss new ns → IsTrue (is_sound b (reverse ss)) → IsTrue (is_sound new (reverse ns))
    cut_sound (inl cut) was = keeps_sound (Resize len cut.1.0) b ss new ns (cut_noted cut) refl was
    cut_sound (inr same) was = same_sound same was
