-- How a history goes on where an ask is made before the ask that it follows is over.
use Rattle.std.proofs.Common.{◌≡◌, ℕ, ◌+◌, List, [], ◌∷◌, ◌++◌, Bool, true, ◌||◌, ◌==◌, not, ◌≢◌, Ok, Option, Some, None, MatchOption, append_assoc, refl, sym, ◌∙◌, ap, subst}
use Rattle.std.proofs.lemmas.List.Sums.{fold_push}
use Rattle.std.proofs.lemmas.Bool.{and_parts, and_from, or_right, ne_eqb}
use Rattle.serde_json.specs.Data.{Data}
use Rattle.xfs_client.specs.History as history
use Rattle.xfs_client.specs.History.{Told, Entry, ask, heard, asks, acknowledges, was_heard, is_asked, is_open, is_acknowledged, told_in}
use Rattle.xfs_client.specs.Desks.{Remembered, Recalls}
use Rattle.xfs_client.specs.Withdrawals.{ends, dispenses_for, goes_on, hears, after_success, step_of, conversation}
use Rattle.xfs_client.proofs.Histories.{asks-heard, asks-ask, was_heard-heard, was_heard-ask, is_open-ask}

module _ (x y : List Entry) (asks_same : asks y ≡ asks x) (heard_same : (p : Told → Bool) → was_heard p y ≡ was_heard p x) where
  pub keeps-same : (d : Remembered) → Recalls d x → Recalls d y
  keeps-same d keeps = record {
    count = keeps.count ∙ sym asks_same;
    waiting = λ id. rw (asks_same, heard_same (history.ends id), heard_same (acknowledges id)) (keeps.waiting id);
    running = λ id. rw (asks_same, heard_same (history.ends id), heard_same (acknowledges id)) (keeps.running id);
    known = λ id. rw (asks_same, heard_same (history.ends id), heard_same (acknowledges id)) (keeps.known id);
  }

module _ (h : List Entry) (t : Told) where
  pub keeps-swapped : (d : Remembered) → Recalls d ((h ++ ask ∷ []) ++ heard t ∷ []) → Recalls d (h ++ heard t ∷ ask ∷ [])
  keeps-swapped d keeps = subst (Recalls d) (append_assoc h (heard t ∷ []) (ask ∷ [])) (keeps-same ((h ++ ask ∷ []) ++ heard t ∷ []) ((h ++ heard t ∷ []) ++ ask ∷ [])
      (asks-ask (h ++ heard t ∷ []) ∙ ap (λ n. n + 1) (asks-heard h t) ∙ sym (asks-heard (h ++ ask ∷ []) t ∙ asks-ask h))
      (λ p. was_heard-ask (h ++ heard t ∷ []) p ∙ was_heard-heard h t p ∙ sym (was_heard-heard (h ++ ask ∷ []) t p ∙ ap (λ b. b || p t) (was_heard-ask h p)))
      d keeps)

  pub open-still : (id : ℕ) → is_open h id ≡ true → is_open (h ++ ask ∷ []) id ≡ true
  open-still id was_open = let parts = and_parts (is_asked h id) (not (was_heard (history.ends id) h)) was_open in
      is_open-ask h id ∙ and_from _ _ (or_right (asks h + 1 == id) (is_asked h id) parts.0) parts.1

  pub goes_on-dispenses : (o : Option (List ℕ)) (P : List ℕ → Type 0) → MatchOption o ⊥ P → h ++ heard t ∷ ask ∷ [] ≡ goes_on h t (dispenses_for o)
  goes_on-dispenses None P m = absurd m
  goes_on-dispenses (Some nonce) P m = refl

pub neither : (n : ℕ) (p : Data) → n ≢ 1 → n ≢ 2 → Ok ends ≡ after_success n p
neither n p one two = rw (ne_eqb n 1 one, ne_eqb n 2 two) refl

pub conversation-more : (texts : List (List ℕ)) (text : List ℕ) (t : Told) (asked : ℕ) → told_in (conversation texts) text ≡ Ok t → asked ≡ asks (conversation texts)
    → conversation (texts ++ text ∷ []) ≡ goes_on (conversation texts) t (step_of asked t)
conversation-more texts text t asked told_is count =
    fold_push _ _ texts text ∙ ap (hears (conversation texts)) told_is ∙ ap (λ n. goes_on (conversation texts) t (step_of n t)) (sym count)
