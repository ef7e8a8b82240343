-- The ways before a step, one by one.
use Rattle.std.proofs.Common.{◌≡◌, ◌≤◌, ◌-◌, ◌↔◌, ◌⊎◌, ℕ, List, [], ◌∷◌, ◌++◌, length, take, Some, refl, sym, inl, inr, arith, subst}
use Rattle.std.specs.List.{slice_get, remove}
use Rattle.std.proofs.lemmas.List.Elements.{Contains-push, Contains-push_cases, Contains-append_left}
use Rattle.xfs_conversation.specs.Pending.{Pending}
use Rattle.xfs_audit.specs.declared.way.Step.TheVariants.{Accepted, Completed, Told}
use Rattle.xfs_audit.specs.declared.way.Way.{Way}
use Rattle.xfs_audit.specs.Conversing.{IsWithout}
use Rattle.xfs_audit.specs.Ways.{times, Splits, IsSplit, HasId, HasIdOf, CanStay, Adds, AddsWithout, IsMore, IsKnown}
use Rattle.xfs_audit.proofs.Splitting.{accepted-stays, accepted-due, accepted-back, place-any, place-counts, completed-there, completed-back, told-there, told-back}

-- the same commands due, and as many that stay
pub same-splits : {ids : List ℕ} {pending : List Pending} {count other : ℕ} {due list : List Pending} → count ≡ other → due ≡ list → Splits ids count due pending → Splits ids other list pending
same-splits {ids = ids} {pending = pending} {other = other} {due = due} counts dues s = subst (λ l. Splits ids other l pending) dues (subst (λ n. Splits ids n due pending) counts s)

pub more-pushed : (way : Way) (ways : List Way) → IsMore way ways (ways ++ way ∷ [])
more-pushed way ways ids pending = (to, from)
  where
    to : IsSplit ids (ways ++ way ∷ []) pending → IsSplit ids ways pending ⊎ Splits ids way.stays way.due.items pending
    to s = elim (Contains-push_cases ways way s.way s.there) [
      | inl there ↦ inl record { way = s.way; there = there; splits = s.splits }
      | inr is ↦ inr (subst (λ (w : Way). Splits ids w.stays w.due.items pending) (sym is) s.splits)
    ]

    from : IsSplit ids ways pending ⊎ Splits ids way.stays way.due.items pending → IsSplit ids (ways ++ way ∷ []) pending
    from (inl s) = record { way = s.way; there = Contains-append_left ways (way ∷ []) s.way s.there; splits = s.splits }
    from (inr s) = record { way = way; there = Contains-push ways way; splits = s }

pub more-known : (way : Way) (ways : List Way) → IsKnown ways way → IsMore way ways ways
more-known way ways k ids pending = (λ s. inl s, from)
  where
    from : IsSplit ids ways pending ⊎ Splits ids way.stays way.due.items pending → IsSplit ids ways pending
    from (inl s) = s
    from (inr s) = record { way = k.known; there = k.there; splits = same-splits (sym k.stays) (sym k.due) s }

pub adds-completed : (ids : List ℕ) (p : Pending) (way now : Way) (old new : List Way) → now.stays ≡ way.stays → now.due.items ≡ way.due.items ++ p ∷ [] → IsMore now old new → Adds ids (Completed p) way old new
adds-completed ids p way now old new stays due more pending = (to, from)
  where
    to : IsSplit ids new pending → IsSplit ids old pending ⊎ ((after : List Pending) × IsWithout p pending after × Splits ids way.stays way.due.items after)
    to s = elim ((more ids pending).0 s) [
      | inl before ↦ inl before
      | inr one ↦ inr (completed-back ids way.stays way.due.items pending p (same-splits stays due one))
    ]

    from : IsSplit ids old pending ⊎ ((after : List Pending) × IsWithout p pending after × Splits ids way.stays way.due.items after) → IsSplit ids new pending
    from (inl before) = (more ids pending).1 (inl before)
    from (inr (after, without, s)) = (more ids pending).1 (inr (same-splits (sym stays) (sym due) (completed-there ids way.stays way.due.items pending after p without s)))

abbrev WithId : List ℕ → ℕ → Way → List Pending → Type 0
WithId ids id way pending = (after : List Pending) × ((after ≡ pending) × HasId id pending) × Splits ids way.stays way.due.items after

pub adds-told : (ids : List ℕ) (id : ℕ) (way : Way) (old new : List Way) → (way.stays ≤ length ids → HasIdOf id way.due.items (take way.stays ids)) → IsMore way old new → Adds ids (Told id) way old new
adds-told ids id way old new has more pending = (to, from)
  where
    to : IsSplit ids new pending → IsSplit ids old pending ⊎ WithId ids id way pending
    to s = elim ((more ids pending).0 s) [
      | inl before ↦ inl before
      | inr one ↦ inr (pending, (refl, told-there ids way.stays way.due.items pending id one (has one.bound)), one)
    ]

    from : IsSplit ids old pending ⊎ WithId ids id way pending → IsSplit ids new pending
    from (inl before) = (more ids pending).1 (inl before)
    from (inr (after, same, s)) = (more ids pending).1 (inr (subst (λ l. Splits ids way.stays way.due.items l) same.0 s))

pub adds-untold : (ids : List ℕ) (id : ℕ) (way : Way) (ways : List Way) → (way.stays ≤ length ids → HasIdOf id way.due.items (take way.stays ids) → ⊥) → Adds ids (Told id) way ways ways
adds-untold ids id way ways has pending = (λ s. inl s, from)
  where
    from : IsSplit ids ways pending ⊎ WithId ids id way pending → IsSplit ids ways pending
    from (inl before) = before
    from (inr (after, same, s)) =
        let one = subst (λ l. Splits ids way.stays way.due.items l) same.0 s in
        absurd (has one.bound (told-back ids way.stays way.due.items pending id one same.1))

-- without one that is due
pub without-place : (p : Pending) (way now : Way) (i : ℕ) (old new : List Way) → slice_get way.due.items i ≡ Some p → now.stays ≡ way.stays → now.due.items ≡ remove way.due.items i → IsMore now old new → AddsWithout p way old new
without-place p way now i old new there stays due more ids pending = (to, from)
  where
    to : IsSplit ids new pending → IsSplit ids old pending ⊎ ((j : ℕ) × (slice_get way.due.items j ≡ Some p) × Splits ids way.stays (remove way.due.items j) pending)
    to s = elim ((more ids pending).0 s) [
      | inl before ↦ inl before
      | inr one ↦ inr (i, there, same-splits stays due one)
    ]

    from : IsSplit ids old pending ⊎ ((j : ℕ) × (slice_get way.due.items j ≡ Some p) × Splits ids way.stays (remove way.due.items j) pending) → IsSplit ids new pending
    from (inl before) = (more ids pending).1 (inl before)
    from (inr (j, at, s)) = (more ids pending).1 (inr (same-splits (sym stays) (sym due) (place-any ids way.stays way.due.items pending p j i at there s)))

pub without-none : (p : Pending) (way : Way) (ways : List Way) → times p way.due.items ≡ 0 → AddsWithout p way ways ways
without-none p way ways zero ids pending = (λ s. inl s, from)
  where
    from : IsSplit ids ways pending ⊎ ((j : ℕ) × (slice_get way.due.items j ≡ Some p) × Splits ids way.stays (remove way.due.items j) pending) → IsSplit ids ways pending
    from (inl before) = before
    from (inr (j, at, s)) = let a = place-counts p way.due.items j at in absurd (omega arith)

-- the way in which the command that is accepted stays, where it can
abbrev pub AddsStaying : List ℕ → Pending → Way → List Way → List Way → Type 0
AddsStaying ids p way old new = (pending : List Pending) → IsSplit ids new pending ↔ (IsSplit ids old pending ⊎ (CanStay ids way.stays p.id × Splits ids (way.stays - 1) way.due.items pending))

pub staying-one : (ids : List ℕ) (p : Pending) (way now : Way) (old new : List Way) → CanStay ids way.stays p.id → now.stays ≡ way.stays - 1 → now.due.items ≡ way.due.items → IsMore now old new → AddsStaying ids p way old new
staying-one ids p way now old new can stays due more pending = (to, from)
  where
    to : IsSplit ids new pending → IsSplit ids old pending ⊎ (CanStay ids way.stays p.id × Splits ids (way.stays - 1) way.due.items pending)
    to s = elim ((more ids pending).0 s) [
      | inl before ↦ inl before
      | inr one ↦ inr (can, same-splits stays due one)
    ]

    from : IsSplit ids old pending ⊎ (CanStay ids way.stays p.id × Splits ids (way.stays - 1) way.due.items pending) → IsSplit ids new pending
    from (inl before) = (more ids pending).1 (inl before)
    from (inr (can, s)) = (more ids pending).1 (inr (same-splits (sym stays) (sym due) s))

pub staying-none : (ids : List ℕ) (p : Pending) (way : Way) (ways : List Way) → (CanStay ids way.stays p.id → ⊥) → AddsStaying ids p way ways ways
staying-none ids p way ways not pending = (λ s. inl s, from)
  where
    from : IsSplit ids ways pending ⊎ (CanStay ids way.stays p.id × Splits ids (way.stays - 1) way.due.items pending) → IsSplit ids ways pending
    from (inl before) = before
    from (inr (can, s)) = absurd (not can)

pub adds-accepted : (ids : List ℕ) (p : Pending) (way : Way) (old mid new : List Way) → AddsStaying ids p way old mid → AddsWithout p way mid new → Adds ids (Accepted p) way old new
adds-accepted ids p way old mid new staying without pending = (to, from)
  where
    to : IsSplit ids new pending → IsSplit ids old pending ⊎ ((after : List Pending) × (after ≡ pending ++ p ∷ []) × Splits ids way.stays way.due.items after)
    to s = elim ((without ids pending).0 s) [
      | inl at_mid ↦ elim ((staying pending).0 at_mid) [
        | inl before ↦ inl before
        | inr one ↦ inr (pending ++ p ∷ [], refl, accepted-stays ids way.stays way.due.items pending p one.0 one.1)
      ]
      | inr one ↦ inr (pending ++ p ∷ [], refl, accepted-due ids way.stays way.due.items pending p one.0 one.1 one.2)
    ]

    from : IsSplit ids old pending ⊎ ((after : List Pending) × (after ≡ pending ++ p ∷ []) × Splits ids way.stays way.due.items after) → IsSplit ids new pending
    from (inl before) = (without ids pending).1 (inl ((staying pending).1 (inl before)))
    from (inr (after, is, s)) = elim (accepted-back ids way.stays way.due.items pending p (subst (λ l. Splits ids way.stays way.due.items l) is s)) [
      | inl one ↦ (without ids pending).1 (inl ((staying pending).1 (inr one)))
      | inr one ↦ (without ids pending).1 (inr one)
    ]
