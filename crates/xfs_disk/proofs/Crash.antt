-- What `crash` leaves is an image.
use Rattle.std.proofs.Common.{◌≡◌, ◌⊎◌, inl, inr, ⊎_elim, ℕ, zero, suc, ◌+◌, ◌-◌, ◌≤◌, ◌%◌, ◌==◌, nat_le, ◌&&◌, ◌||◌, List, [], ◌∷◌, ◌++◌, length, take, drop, replicate, refl, sym, ◌∙◌, ap, arith, append_assoc, length-append, length-take, length-drop, take_at, drop_at}
use Rattle.std.proofs.lemmas.Bool.{and_parts, or_cases, leb-true, eqb-true}
use Rattle.std.specs.Prelude.{IsTrue}
use Rattle.std.proofs.lemmas.List.{drop_all, length-replicate}
use Rattle.xfs_disk.specs.Disk.{Torn, Cut, overlaid}
use Rattle.xfs_disk.specs.Steps.{before, LeftNow, is_sound, synced, blotted, crashed}
use Rattle.xfs_disk.specs.Images.{here}
use Rattle.xfs_disk.specs.declared.step.Step.{Step}
use Rattle.xfs_disk.specs.declared.step.Step.TheVariants.{Write, Resize, Sync}

pub torn_same : (at n : ℕ) (d : List ℕ) → Torn at n d d
torn_same at n d = record { before = refl; after = refl; no_shorter = omega arith; no_longer = omega arith }

pub cut_same : (n : ℕ) (d : List ℕ) → Cut n d d
cut_same n d = record { no_shorter = omega arith; no_longer = omega arith; prefix = refl }

-- `settled`: the steps before those that are kept
synced_image : (settled : List Step) (now : List ℕ) (steps : List Step) → LeftNow now (steps ++ settled) (synced now steps)
synced_image settled now [] = here now settled
synced_image settled now (Write at len was ∷ older) =
    let b = before (Write at len was) now in inr (synced b older, synced_image settled b older, torn_same at len (synced b older))
synced_image settled now (Resize len was ∷ older) =
    inr (synced was.items older, synced_image settled was.items older, cut_same len (synced was.items older))
synced_image settled now (Sync ∷ older) = inl refl

-- the bytes before were no shorter than what follows the write allows
ends_long : (w len at n : ℕ) → at + len ≤ n → w ≤ len → (w ≡ len) ⊎ (at + len ≡ n) → (w ≡ len) ⊎ (n ≤ at + len)
ends_long w len at n within short (inl same) = inl same
ends_long w len at n within short (inr ends) = inr (omega (arith, ends))

old_rest : (f w r : List ℕ) (n at len : ℕ) → length f ≡ at → length r ≡ n - (at + len) → length w ≤ len → (length w ≡ len) ⊎ (at + len ≡ n) → drop (at + len) (f ++ w ++ r) ≡ r
old_rest f w r n at len at_size rest_size short (inl same) = drop_at (f ++ w) r (at + len) (omega (arith, length-append f w, at_size, same))
old_rest f w r n at len at_size rest_size short (inr ends) =
    drop_all (at + len) (f ++ w ++ r) (omega (arith, length-append (f ++ w) r, length-append f w, at_size, rest_size, short)) ∙ sym (drop_all 0 r (omega (arith, rest_size)))

pub take_front : (f w r : List ℕ) (at : ℕ) → length f ≡ at → take at (f ++ w ++ r) ≡ f
take_front f w r at size = ap (λ (l : List ℕ). take at l) (append_assoc f w r) ∙ take_at f (w ++ r) at size

-- other bytes in the place of a write
pub torn_over : (now was bytes : List ℕ) (at len : ℕ) → at + len ≤ length now → length was ≤ len → (length was ≡ len) ⊎ (at + len ≡ length now) → length bytes ≡ len
    → Torn at len (take at now ++ was ++ drop (at + len) now) (overlaid now at bytes)
torn_over now was bytes at len within short ends size =
    let prefix = take at now in
    let rest = drop (at + len) now in
    let at_size : length prefix ≡ at = omega (arith, length-take at now) in
    let rest_size : length rest ≡ length now - (at + len) = length-drop (at + len) now in
    let old_size : length (prefix ++ was ++ rest) ≡ at + (length was + (length now - (at + len))) = omega (arith, length-append (prefix ++ was) rest, length-append prefix was, at_size, rest_size) in
    let x_is : overlaid now at bytes ≡ prefix ++ bytes ++ rest = ap (λ n. prefix ++ bytes ++ drop (at + n) now) size in
    let fd_size : length (prefix ++ bytes) ≡ at + len = omega (arith, length-append prefix bytes, at_size, size) in
    let new_size : length (overlaid now at bytes) ≡ length now = omega (arith, ap length x_is, length-append (prefix ++ bytes) rest, fd_size, rest_size) in
    record {
      before = take_front prefix bytes (drop (at + length bytes) now) at at_size ∙ sym (take_front prefix was rest at at_size);
      after = ap (λ (l : List ℕ). drop (at + len) l) x_is ∙ drop_at (prefix ++ bytes) rest (at + len) fd_size ∙ sym (old_rest prefix was rest (length now) at len at_size rest_size short ends);
      no_shorter = omega (arith, old_size, new_size, short);
      no_longer = omega (arith, old_size, new_size, short, ends_long (length was) len at (length now) within short ends);
    }

-- a write that stands
parts : (at len : ℕ) (w n : ℕ) → IsTrue (nat_le (at + len) n && nat_le w len && (w == len || at + len == n)) → (at + len ≤ n) × (w ≤ len) × ((w ≡ len) ⊎ (at + len ≡ n))
parts at len w n is =
    let p = and_parts (nat_le (at + len) n && nat_le w len) (w == len || at + len == n) is in
    let q = and_parts (nat_le (at + len) n) (nat_le w len) p.0 in
    let e = or_cases (w == len) (at + len == n) p.1 in
    (leb-true (at + len) n q.0, leb-true w len q.1, ⊎_elim (λ x. inl (eqb-true w len x)) (λ x. inr (eqb-true (at + len) n x)) e)

blotted_image : (byte : ℕ) (settled : List Step) (now : List ℕ) (steps : List Step) → IsTrue (is_sound now steps) → LeftNow now (steps ++ settled) (blotted byte now steps)
blotted_image byte settled now [] sound = here now settled
blotted_image byte settled now (Write at len was ∷ older) sound =
    let b = before (Write at len was) now in
    let p = parts at len (length was.items) (length now) (and_parts _ _ sound).0 in
    inr (b, here b (older ++ settled), torn_over now was.items (replicate len byte) at len p.0 p.1 p.2 (length-replicate len byte))
blotted_image byte settled now (Resize len was ∷ older) sound = inl refl
blotted_image byte settled now (Sync ∷ older) sound = inl refl

pub crashed_image : (pick : ℕ) (settled : List Step) (now : List ℕ) (steps : List Step) → IsTrue (is_sound now steps) → LeftNow now (steps ++ settled) (crashed pick now steps)
crashed_image zero settled now steps sound = synced_image settled now steps
crashed_image (suc k) settled now steps sound = blotted_image ((k + 1) % 256) settled now steps sound
