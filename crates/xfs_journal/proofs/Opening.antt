-- What a crash leaves of a file while bytes are written behind a closed gate, and while the gate is opened.
use Rattle.std.proofs.Common.{◌≡◌, ◌≢◌, inl, inr, ℕ, ◌+◌, ◌<◌, ◌≤◌, List, [], ◌∷◌, ◌++◌, length, get_or, take, drop, refl, sym, ◌∙◌, ap, subst, arith, append_assoc, length-append, length-take, take-append-drop}
use Rattle.std.proofs.lemmas.List.{take_at, drop_at, drop_more}
use Rattle.std.proofs.lemmas.Bool.{cases_eq}
use Rattle.xfs_disk.specs.Disk.{overlaid, Torn, Only}
use Rattle.xfs_disk.proofs.Crash.{torn_same}
use Rattle.xfs_journal.specs.Gate.{IsClosed, IsOpened, IsEither, IsEitherOf, MayBecome}

module _ (f x : List ℕ) (g : ℕ) (rest : List ℕ) (p : ℕ) (size : length f ≡ p) where
  abbrev file : List ℕ
  file = f ++ g ∷ rest

  head_size : length (f ++ g ∷ []) ≡ p + 1
  head_size = omega (arith, length-append f (g ∷ []), size)

  split : file ≡ (f ++ g ∷ []) ++ rest
  split = sym (append_assoc f (g ∷ []) rest)

  head : take (p + 1) file ≡ f ++ g ∷ []
  head = ap (λ (l : List ℕ). take (p + 1) l) split ∙ take_at (f ++ g ∷ []) rest (p + 1) head_size

  tail : drop (p + 1) file ≡ rest
  tail = ap (λ (l : List ℕ). drop (p + 1) l) split ∙ drop_at (f ++ g ∷ []) rest (p + 1) head_size

  prefix : take p file ≡ f
  prefix = take_at f (g ∷ rest) p size

  -- the gate stands in each outcome of a write behind it
  pub torn_behind : (n : ℕ) (c : List ℕ) → g ≢ 1 → Torn (p + 1) n file c → IsClosed f c
  torn_behind n c closed torn = (g, drop (p + 1) c, closed, sym (take-append-drop (p + 1) c) ∙ ap (λ (l : List ℕ). l ++ drop (p + 1) c) (torn.before ∙ head) ∙ append_assoc f (g ∷ []) (drop (p + 1) c))

  pub written_behind : overlaid file (p + 1) x ≡ f ++ g ∷ (x ++ drop (p + 1 + length x) file)
  written_behind =
      ap (λ (l : List ℕ). l ++ x ++ drop (p + 1 + length x) file) head
      ∙ append_assoc (f ++ g ∷ []) x (drop (p + 1 + length x) file) ∙ append_assoc f (g ∷ []) (x ++ drop (p + 1 + length x) file)

  -- what is behind the gate stands whole in each outcome of the write that opens it
  pub torn_gate : (c : List ℕ) → Torn p 1 file c → (h : ℕ) × (c ≡ f ++ h ∷ rest)
  torn_gate c torn =
      let long : p + 1 ≤ length c = omega (arith, torn.no_shorter, length-append f (g ∷ rest), size) in
      let h = get_or c p 0 in
      (h, sym (take-append-drop p c) ∙ ap (λ (l : List ℕ). l ++ drop p c) (torn.before ∙ prefix) ∙ ap (λ (l : List ℕ). f ++ l) (drop_more c p 0 (omega (arith, long)) ∙ ap (λ (l : List ℕ). h ∷ l) (torn.after ∙ tail)))

  pub written_gate : overlaid file p (1 ∷ []) ≡ f ++ 1 ∷ rest
  written_gate = ap (λ (l : List ℕ). l ++ (1 ∷ []) ++ drop (p + 1) file) prefix ∙ ap (λ (l : List ℕ). f ++ (1 ∷ []) ++ l) tail ∙ append_assoc f (1 ∷ []) rest

pub either : (f x rest : List ℕ) (h : ℕ) (c : List ℕ) → c ≡ f ++ h ∷ (x ++ rest) → IsEither f x c
either f x rest h c is = elim (cases_eq h 1) [
  | inl open_gate ↦ inr (rest, is ∙ ap (λ k. f ++ k ∷ (x ++ rest)) open_gate)
  | inr shut ↦ inl (h, x ++ rest, shut, is)
]

module _ (old x : List ℕ) (gate : ℕ) (within : gate < length old) (closed : IsClosed (take gate old) old) where
  size : length (take gate old) ≡ gate
  size = omega (arith, length-take gate old, within)

  pub first : (c : List ℕ) → Torn (gate + 1) (length x) old c → IsClosed (take gate old) c
  first c torn = torn_behind (take gate old) x closed.0 closed.1 gate size (length x) c closed.2 (subst (λ (l : List ℕ). Torn (gate + 1) (length x) l c) closed.3 torn)

  pub staged : (rest : List ℕ) × (overlaid old (gate + 1) x ≡ take gate old ++ closed.0 ∷ (x ++ rest))
  staged = (drop (gate + 1 + length x) (take gate old ++ closed.0 ∷ closed.1), ap (λ (l : List ℕ). overlaid l (gate + 1) x) closed.3 ∙ written_behind (take gate old) x closed.0 closed.1 gate size)

  pub second : (c : List ℕ) → Torn gate 1 (overlaid old (gate + 1) x) c → IsEither (take gate old) x c
  second c torn =
      let s = staged in
      let whole = torn_gate (take gate old) x closed.0 (x ++ s.0) gate size c (subst (λ (l : List ℕ). Torn gate 1 l c) s.1 torn) in
      either (take gate old) x s.0 whole.0 c whole.1

  pub opened : IsOpened (take gate old) x (overlaid (overlaid old (gate + 1) x) gate (1 ∷ []))
  opened = let s = staged in (s.0, ap (λ (l : List ℕ). overlaid l gate (1 ∷ [])) s.1 ∙ written_gate (take gate old) x closed.0 (x ++ s.0) gate size)

module _ (images : List ℕ → Type 0) (old x : List ℕ) (gate : ℕ) (start : (gate < length old) × IsClosed (take gate old) old) where
  pub first_image : ((d : List ℕ) → images d → (gate < length d) × IsClosed (take gate d) d) → (c : List ℕ) → MayBecome images (gate + 1) (length x) c → IsEitherOf images gate x c
  first_image each c (d, was, torn) = let s = each d was in (d, was, inl (first d x gate s.0 s.1 c torn))

  pub second_image : images old → (mid : List ℕ → Type 0) → Only (overlaid old (gate + 1) x) mid → (c : List ℕ) → MayBecome mid gate 1 c → IsEitherOf images gate x c
  second_image here mid only c (d, was, torn) = (old, here, second old x gate start.0 start.1 c (subst (λ (l : List ℕ). Torn gate 1 l c) (only d was) torn))

  pub is_opened : IsOpened (take gate old) x (overlaid (overlaid old (gate + 1) x) gate (1 ∷ []))
  is_opened = opened old x gate start.0 start.1

  pub long_enough : gate ≤ length (overlaid old (gate + 1) x)
  long_enough = omega (arith, start.0, length-append (take (gate + 1) old ++ x) (drop (gate + 1 + length x) old), length-append (take (gate + 1) old) x, length-take (gate + 1) old)
