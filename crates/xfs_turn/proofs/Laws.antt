-- What the rule says of any state between two steps.
use Rattle.std.proofs.Common.{◌≡◌, ℕ, List, [], ◌∷◌, length, slice_index, sym, subst, inl, inr, ap, ◌∙◌, arith, true≢false}
use mathlib.Core.List.{IsPrefix}
use mathlib.Core.Logic.{dite}
use mathlib.Core.Option.{some, none, some-injective}
use native.Mathlib.Decide.{ℕ_discrete}
use lib.ListN.{get_elem?}
use Rattle.atomic_table.specs.Table.{State}
use Rattle.xfs_turn.specs.declared.rule.Cell.{Cell}
use Rattle.xfs_turn.specs.declared.rule.Cell.TheVariants.{Home}
use Rattle.xfs_turn.specs.declared.rule.Knowledge.{Knowledge}
use Rattle.xfs_turn.specs.Turns.{IsFree, IsOut, IsKept, HasTurn, HasParts}
use Rattle.xfs_turn.proofs.Prefixes.{begins_itself, begins_longer, one_begins, begins_within}

module _ {T E : Type 0} (list : T → List E) where
  -- no seat has the turn, where the value is at home
  none_has : (s : State (Cell T) (Knowledge E)) → IsFree list s → (i : ℕ) (v : Knowledge E) → ¬ HasTurn s i v
  none_has s free i v has = true≢false (sym has.1 ∙ (free.waits i v has.0).idle)

  -- the seat that has the turn is the one that is out
  is_it : (s : State (Cell T) (Knowledge E)) (out : IsOut list s) (i : ℕ) (v : Knowledge E) → HasTurn s i v → (i ≡ out.seat) × (v ≡ out.held)
  is_it s out i v has =
      dite (ℕ_discrete i out.seat)
      (λ e. (e, some-injective _ _ (sym has.0 ∙ (ap (get_elem? s.views) e ∙ out.at))))
      (λ ne. absurd (true≢false (sym has.1 ∙ (out.waits i v has.0 ne).idle)))

  -- where the value is out, what any seat has seen begins what the holder has
  behind_held : (s : State (Cell T) (Knowledge E)) (out : IsOut list s) (i : ℕ) (v : Knowledge E) → get_elem? s.views i ≡ some v → IsPrefix v.seen out.held.seen
  behind_held s out i v at =
      dite (ℕ_discrete i out.seat)
      (λ e. subst (λ (h : Knowledge E). IsPrefix v.seen h.seen) (some-injective _ _ (sym at ∙ (ap (get_elem? s.views) e ∙ out.at))) (begins_itself v.seen))
      (λ ne. begins_longer v.seen out.held.base out.held.seen (out.waits i v at ne).seen out.grown)

  -- a home with a value isn't an empty one
  home_full : (s : State (Cell T) (Knowledge E)) (x : T) → s.homes ≡ some (Home x) ∷ [] → ¬ (s.homes ≡ none ∷ [])
  home_full s x full empty = cc (full, empty)

  pub has_parts : (s : State (Cell T) (Knowledge E)) → IsKept list s → HasParts list s
  has_parts s (inl free) =
      let zero_is : slice_index s.words 0 ≡ 0 = ap (λ ws. slice_index ws 0) free.words in
      let one_is : slice_index s.words 1 ≡ length (list free.value) = ap (λ ws. slice_index ws 1) free.words in
      let same : (x : T) → s.homes ≡ some (Home x) ∷ [] → free.value ≡ x = λ x h. cc (h, free.home) in record {
        taken = λ is. absurd (omega (arith, is, zero_is));
        marked = λ i v has. absurd (none_has s free i v has);
        alone = λ i j v w a b. absurd (none_has s free i v a);
        counted = λ i v at. let n = begins_within v.seen (list free.value) (free.waits i v at).seen in omega (arith, one_is);
        ordered = λ i j v w a b. one_begins v.seen w.seen (list free.value) (free.waits i v a).seen (free.waits j w b).seen;
        length_is = λ x h. subst (λ (y : T). length (list y) ≡ slice_index s.words 1) (same x h) (sym one_is);
        begun = λ x i v h at. subst (λ (y : T). IsPrefix v.seen (list y)) (same x h) (free.waits i v at).seen;
        behind = λ i j v w has at ne. absurd (none_has s free i v has);
      }
  has_parts s (inr out) =
      let zero_is : slice_index s.words 0 ≡ 1 = ap (λ ws. slice_index ws 0) out.words in
      let one_is : slice_index s.words 1 ≡ length out.held.seen = ap (λ ws. slice_index ws 1) out.words in record {
        taken = λ is. (out.seat, out.held, (out.at, out.holds));
        marked = λ i v has. zero_is;
        alone = λ i j v w a b. (is_it s out i v a).0 ∙ sym (is_it s out j w b).0;
        counted = λ i v at. let n = begins_within v.seen out.held.seen (behind_held s out i v at) in omega (arith, one_is);
        ordered = λ i j v w a b. one_begins v.seen w.seen out.held.seen (behind_held s out i v a) (behind_held s out j w b);
        length_is = λ x h. absurd (home_full s x h out.home);
        begun = λ x i v h at. absurd (home_full s x h out.home);
        behind = λ i j v w has at ne.
            let it = is_it s out i v has in
            subst (λ (h : Knowledge E). IsPrefix w.seen h.base) (sym it.1) (out.waits j w at (λ e. ne (e ∙ sym it.0))).seen;
      }
