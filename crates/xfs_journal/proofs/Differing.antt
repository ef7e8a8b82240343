-- Where the list that a disk has parts from the lists that it may have.
use Rattle.std.proofs.Common.{◌≡◌, ◌≢◌, inl, inr, ℕ, zero, suc, ◌+◌, ◌<◌, ◌≤◌, List, [], ◌∷◌, ◌++◌, length, take, drop, length-drop, Some, None, refl, sym, ◌∙◌, ap, subst, arith, length-append}
use Rattle.std.specs.Prelude.{slice_get}
use Rattle.std.specs.declared.option.Option.{Option}
use Rattle.std.specs.List.{AllByRecursion}
use Rattle.std.proofs.lemmas.List.{take_more, take-append-le, take_all, drop_all, length_push}
use Rattle.std.proofs.lemmas.Bool.{cases_lt}
use Rattle.std.proofs.lemmas.Option.{none-some, same_Some, slice_get_within, slice_get_past, get_or_from_slice_get}
use Rattle.xfs_journal.specs.Image.{IsRecord, HasUnit, framed, end_of, blocks}
use Rattle.xfs_journal.specs.JournalView.{IsPossible, DiffersAt, PartsAt, longest}
use Rattle.xfs_journal.specs.declared.record.Rec.{Rec}
use Rattle.xfs_journal.specs.declared.record.Rec.TheVariants.{Issue, Clear, Expire, Boot, Start, Bind, Order, Done, Load}
use Rattle.xfs_journal.specs.Journal.{base_of}
use Rattle.xfs_journal.proofs.Appended.{end-push}
use Rattle.xfs_journal.proofs.BaseLaws.{base_of-short}
use Rattle.xfs_journal.proofs.JournalLaws.{slice_get-push, slice_get-pushed}
use Rattle.xfs_journal.proofs.Unique.{one_block}

pub has_unit : (r : Rec) → IsRecord r → HasUnit r
has_unit (Issue number word) is = tt
has_unit Clear is = tt
has_unit Expire is = tt
has_unit (Boot places) is = tt
has_unit (Start issues places) is = tt
has_unit (Bind token) is = tt
has_unit (Order kind counts) is = tt
has_unit (Done moved diverted) is = tt
has_unit (Load unit count) is = (is.0, is.1)

pub same_bytes : (r s : Rec) (x y : List ℕ) → IsRecord r → IsRecord s → x ≡ framed r ++ 0 ∷ [] → y ≡ framed s ++ 0 ∷ [] → x ≡ y → r ≡ s
same_bytes r s x y is_r is_s x_is y_is same = (one_block r s (0 ∷ []) (0 ∷ []) is_r is_s (sym x_is ∙ same ∙ y_is)).0

pub other_bytes : (r s : Rec) (x y : List ℕ) → x ≡ framed r ++ 0 ∷ [] → y ≡ framed s ++ 0 ∷ [] → x ≢ y → r ≢ s
other_bytes r s x y x_is y_is ne same = ne (x_is ∙ ap (λ (q : Rec). framed q ++ 0 ∷ []) same ∙ sym y_is)

pub block_size : (r : Rec) (x : List ℕ) → x ≡ framed r ++ 0 ∷ [] → length x ≡ length (1 ∷ framed r)
block_size r x is = omega (arith, ap length is, length-append (framed r) (0 ∷ []))

pub record_in : (J : List Rec) (i : ℕ) (r : Rec) → AllByRecursion IsRecord J → slice_get J i ≡ Some r → IsRecord r
record_in [] i r all e = absurd (none-some r e)
record_in (q ∷ J) zero r all e = subst IsRecord (same_Some q r e) all.0
record_in (q ∷ J) (suc i) r all e = record_in J i r all.1 e

blocks-take : (J : List Rec) (n : ℕ) → length (blocks (take n J)) ≤ length (blocks J)
blocks-take J zero = omega arith
blocks-take [] (suc n) = omega arith
blocks-take (r ∷ J) (suc n) = omega (arith, blocks-take J n, length-append (1 ∷ framed r) (blocks (take n J)), length-append (1 ∷ framed r) (blocks J))

pub front-take : (J : List Rec) (n : ℕ) → end_of (take n J) ≤ end_of J
front-take J n = omega (arith, blocks-take J n)

take-next : (J : List Rec) (n : ℕ) (r : Rec) → slice_get J n ≡ Some r → take (n + 1) J ≡ take n J ++ r ∷ []
take-next J n r e = take_more J n r (slice_get_within J n r e) ∙ ap (λ (x : Rec). take n J ++ x ∷ []) (get_or_from_slice_get J n r r e)

pub front_next : (J : List Rec) (n : ℕ) (r : Rec) → slice_get J n ≡ Some r → end_of (take (n + 1) J) ≡ end_of (take n J) + length (1 ∷ framed r)
front_next J n r e = ap end_of (take-next J n r e) ∙ end-push (take n J) r

pub same_next : (J K : List Rec) (n : ℕ) (r s : Rec) → take n J ≡ take n K → slice_get J n ≡ Some r → slice_get K n ≡ Some s → r ≡ s → take (n + 1) J ≡ take (n + 1) K
same_next J K n r s same at_j at_k is = take-next J n r at_j ∙ ap (λ (l : List Rec). l ++ r ∷ []) same ∙ ap (λ (x : Rec). take n K ++ x ∷ []) is ∙ sym (take-next K n s at_k)

pub part : (J K : List Rec) (n : ℕ) (r s : Rec) → slice_get J n ≡ Some r → slice_get K n ≡ Some s → r ≢ s → slice_get J n ≢ slice_get K n
part J K n r s at_j at_k ne same = ne (same_Some r s (sym at_j ∙ same ∙ at_k))

longest-take : (kept : List Rec) (d : Option Rec) (n : ℕ) → n ≤ length kept → take n (longest kept d) ≡ take n kept
longest-take kept None n le = refl
longest-take kept (Some r) n le = take-append-le n kept (r ∷ []) le

longest-get : (kept : List Rec) (d : Option Rec) (n : ℕ) → n < length kept → slice_get (longest kept d) n ≡ slice_get kept n
longest-get kept None n lt = refl
longest-get kept (Some r) n lt = slice_get-push kept r n lt

-- the lists part within the kept one
module _ (J kept : List Rec) (d : Option Rec) (n : ℕ) (lt : n < length kept) (same : take n J ≡ take n kept) (ne : slice_get J n ≢ slice_get kept n) where
  pub within_parts : PartsAt kept d J n
  within_parts = (same ∙ sym (longest-take kept d n (omega (arith, lt))), (λ e. ne (e ∙ longest-get kept d n lt)))

  pub within_other : ¬ IsPossible kept d J
  within_other (inl is) = ne (ap (λ (l : List Rec). slice_get l n) is)
  within_other (inr (r, told, is)) = ne (ap (λ (l : List Rec). slice_get l n) is ∙ slice_get-push kept r n lt)

some_at : (J : List Rec) (n : ℕ) → n < length J → slice_get J n ≢ None
some_at [] n lt e = omega (arith, lt)
some_at (q ∷ J) zero lt e = none-some q (sym e)
some_at (q ∷ J) (suc n) lt e = some_at J n (omega (arith, lt)) e

-- the list has another record there, or it ends before the kept one
pub parts : (J kept : List Rec) (n : ℕ) → n < length kept → (n < length J → n < length kept → slice_get J n ≢ slice_get kept n) → slice_get J n ≢ slice_get kept n
parts J kept n lt ne same = elim (cases_lt n (length J)) [
  | inl here ↦ ne here lt same
  | inr past ↦ some_at kept n lt (sym same ∙ slice_get_past J n past)
]

-- the list goes on behind the kept one
module _ (J kept : List Rec) (le : length kept ≤ length J) (begins : take (length kept) J ≡ kept) where
  -- and has no more
  pub all_kept : length J ≤ length kept → J ≡ kept
  all_kept short = sym (take_all (length kept) J short) ∙ begins

  pub more_than_kept : (r : Rec) → slice_get J (length kept) ≡ Some r → J ≢ kept
  more_than_kept r at is = omega (arith, slice_get_within J (length kept) r at, ap length is)

  pub one_more : (r : Rec) → slice_get J (length kept) ≡ Some r → length J ≡ length kept + 1 → J ≡ kept ++ r ∷ []
  one_more r at is = sym (take_all (length kept + 1) J (omega (arith, is))) ∙ take-next J (length kept) r at ∙ ap (λ (l : List Rec). l ++ r ∷ []) begins

  prefix : (d : Option Rec) → take (length kept) J ≡ take (length kept) (longest kept d)
  prefix d = begins ∙ sym (take_all (length kept) kept (omega arith)) ∙ sym (longest-take kept d (length kept) (omega arith))

  -- with nothing in doubt
  pub none_other : (r : Rec) → slice_get J (length kept) ≡ Some r → ¬ IsPossible kept None J
  none_other r at (inl is) = more_than_kept r at is
  none_other r at (inr (s, told, is)) = none-some s told

  pub none_parts : (r : Rec) → slice_get J (length kept) ≡ Some r → PartsAt kept None J (length kept)
  none_parts r there = (prefix None, (λ e. none-some r (sym (slice_get_past kept (length kept) (omega arith)) ∙ sym e ∙ there)))

  -- with another record than that in doubt
  pub next_other : (r s : Rec) → slice_get J (length kept) ≡ Some r → r ≢ s → ¬ IsPossible kept (Some s) J
  next_other r s at ne (inl is) = more_than_kept r at is
  next_other r s at ne (inr (q, told, is)) = ne (same_Some r q (sym at ∙ ap (λ (l : List Rec). slice_get l (length kept)) is ∙ slice_get-pushed kept q) ∙ sym (same_Some s q told))

  pub next_parts : (r s : Rec) → slice_get J (length kept) ≡ Some r → r ≢ s → PartsAt kept (Some s) J (length kept)
  next_parts r s there ne = (prefix (Some s), (λ e. ne (same_Some r s (sym there ∙ e ∙ slice_get-pushed kept s))))

  -- with more behind that in doubt
  pub far_other : (s : Rec) → length kept + 1 < length J → ¬ IsPossible kept (Some s) J
  far_other s long (inl is) = omega (arith, long, ap length is)
  far_other s long (inr (q, told, is)) = omega (arith, long, ap length is, length_push kept q)

  pub far_parts : (r s : Rec) → slice_get J (length kept) ≡ Some r → r ≡ s → length kept + 1 < length J → PartsAt kept (Some s) J (length kept + 1)
  far_parts r s there is long = (
    take-next J (length kept) r there ∙ ap (λ (l : List Rec). l ++ r ∷ []) begins ∙ ap (λ (x : Rec). kept ++ x ∷ []) is ∙ sym (take_all (length kept + 1) (kept ++ s ∷ []) (omega (arith, length_push kept s))),
    (λ e. some_at J (length kept + 1) long (e ∙ slice_get_past (kept ++ s ∷ []) (length kept + 1) (omega (arith, length_push kept s)))),
  )

pub all-drop : (J : List Rec) (n : ℕ) → AllByRecursion IsRecord J → AllByRecursion IsRecord (drop n J)
all-drop J zero all = all
all-drop [] (suc n) all = all
all-drop (r ∷ J) (suc n) all = all-drop J n all.1

-- where a list ends, by what stands in front of a place and behind it
pub end-split : (J : List Rec) (n : ℕ) → end_of J ≡ end_of (take n J) + length (blocks (drop n J))
end-split J zero = omega arith
end-split [] (suc n) = omega arith
end-split (r ∷ J) (suc n) = omega (arith, end-split J n, length-append (1 ∷ framed r) (blocks J), length-append (1 ∷ framed r) (blocks (take n J)))

-- a list that is shorter than the base
module _ (kept found : List Rec) (d : Option Rec) (base : ℕ) (led : base ≤ base_of kept) (short : length found < base) where
  none_behind : drop base found ≡ []
  none_behind = drop_all base found (omega (arith, short))

  some_behind : length (drop base kept) ≢ 0
  some_behind none = omega (arith, none, length-drop base kept, led, short, base_of-short kept (omega (arith, led, short)))

  pub short_other : ¬ IsPossible (drop base kept) d (drop base found)
  short_other (inl is) = some_behind (ap length (sym is ∙ none_behind))
  short_other (inr (r, told, is)) = omega (arith, ap length (sym is ∙ none_behind), length_push (drop base kept) r)

  pub short_differs : DiffersAt base kept d found (end_of found)
  short_differs = (0, (refl, first (drop base kept) d (drop base found) none_behind some_behind), ap end_of (sym (take_all (base + 0) found (omega (arith, short)))))
    where
      first : (K : List Rec) (d : Option Rec) (L : List Rec) → L ≡ [] → length K ≢ 0 → slice_get L 0 ≢ slice_get (longest K d) 0
      first [] d L none some e = some refl
      first (k ∷ K) None L none some e = none-some k (ap (λ (l : List Rec). slice_get l 0) (sym none) ∙ e)
      first (k ∷ K) (Some r) L none some e = none-some k (ap (λ (l : List Rec). slice_get l 0) (sym none) ∙ e)
