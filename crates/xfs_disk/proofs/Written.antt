-- A write and a change of the length, as steps.
use Rattle.std.proofs.Common.{◌≡◌, ◌⊎◌, inl, inr, ℕ, ◌+◌, ◌-◌, ◌<◌, ◌≤◌, ◌==◌, min, max, nat_le, ◌&&◌, ◌||◌, List, ◌++◌, length, take, drop, replicate, sym, ◌∙◌, ap, ap₂, arith, append_assoc, append-nil, length-append, length-take, length-drop, take-append-drop, drop_at, drop-drop}
use Rattle.std.specs.Prelude.{IsTrue}
use Rattle.std.proofs.lemmas.Bool.{cases_lt, and_from, or_left, or_right, le-leb, eq-eqb}
use Rattle.std.proofs.lemmas.List.{drop_all, take-append-le, take_all, take-take, length-replicate}
use Rattle.xfs_disk.specs.Disk.{Torn, Cut, overlaid, resized}
use Rattle.xfs_disk.proofs.Crash.{take_front}

module _ (b bytes was : List ℕ) (at : ℕ) (within : at ≤ length b) (is : was ≡ take (min (length bytes) (length b - at)) (drop at b)) where
  abbrev len : ℕ
  len = length bytes

  at_size : length (take at b) ≡ at
  at_size = omega (arith, length-take at b, within)

  was_size : length was ≡ min len (length b - at)
  was_size = omega (arith, ap length is, length-take (min len (length b - at)) (drop at b), length-drop at b)

  head_size : length (take at b ++ bytes) ≡ at + len
  head_size = omega (arith, length-append (take at b) bytes, at_size)

  rest_size : length (drop (at + len) b) ≡ length b - (at + len)
  rest_size = length-drop (at + len) b

  pub size : length (overlaid b at bytes) ≡ max (length b) (at + len)
  size = omega (arith, length-append (take at b ++ bytes) (drop (at + len) b), head_size, rest_size)

  pub torn_written : Torn at len b (overlaid b at bytes)
  torn_written = record {
    before = take_front (take at b) bytes (drop (at + len) b) at at_size;
    after = drop_at (take at b ++ bytes) (drop (at + len) b) (at + len) head_size;
    no_shorter = omega (arith, size);
    no_longer = omega (arith, size);
  }

  -- what stood in the range and behind it
  joined : was ++ drop (at + len) b ≡ drop at b
  joined = elim (cases_lt (length b - at) len) [
    | inr le ↦ ap₂ (λ (x y : List ℕ). x ++ y) (is ∙ ap (λ n. take n (drop at b)) (min_l le)) (sym (drop-drop len at b)) ∙ take-append-drop len (drop at b)
    | inl gt ↦ ap₂ (λ (x y : List ℕ). x ++ y) (is ∙ take_all (min len (length b - at)) (drop at b) (omega (arith, gt, length-drop at b))) (drop_all (at + len) b (omega (arith, gt))) ∙ append-nil (drop at b)
  ]
    where
      min_l : len ≤ length b - at → min len (length b - at) ≡ len
      min_l le = omega (arith, le)

  pub back : take at (overlaid b at bytes) ++ was ++ drop (at + len) (overlaid b at bytes) ≡ b
  back =
      ap₂ (λ (x y : List ℕ). x ++ was ++ y) torn_written.before torn_written.after
      ∙ append_assoc (take at b) was (drop (at + len) b) ∙ ap (λ (l : List ℕ). take at b ++ l) joined ∙ take-append-drop at b

  pub stands_written : IsTrue (nat_le (at + len) (length (overlaid b at bytes)) && nat_le (length was) len && (length was == len || at + len == length (overlaid b at bytes)))
  stands_written = and_from _ _ (and_from _ _ (le-leb (at + len) (length (overlaid b at bytes)) (omega (arith, size))) (le-leb (length was) len (omega (arith, was_size)))) (ends (cases_lt (length b - at) len))
    where
      ends : (length b - at < len) ⊎ (len ≤ length b - at) → IsTrue (length was == len || at + len == length (overlaid b at bytes))
      ends (inr le) = or_left _ _ (eq-eqb (length was) len (omega (arith, was_size, le)))
      ends (inl gt) = or_right _ _ (eq-eqb (at + len) (length (overlaid b at bytes)) (omega (arith, size, gt, within)))

pub cut_done : (b : List ℕ) (n : ℕ) → Cut n b (resized b n)
cut_done b n =
    let zeros : List ℕ = replicate (n - length b) 0 in
    let size : length (resized b n) ≡ n = omega (arith, length-append (take n b) zeros, length-take n b, length-replicate {A = ℕ} (n - length b) 0) in
    let m = min (length b) (length (resized b n)) in
    let m_is : m ≡ min (length b) n = ap (λ k. min (length b) k) size in
    record { no_shorter = omega (arith, size); no_longer = omega (arith, size); prefix = take-append-le m (take n b) zeros (omega (arith, m_is, size, length-take n b)) ∙ take-take m n b (omega (arith, m_is, size)) }
