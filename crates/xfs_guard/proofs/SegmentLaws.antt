-- The last nonce of a list of records, as it grows and as its front is let go.
use Rattle.std.proofs.Common.{◌≡◌, ℕ, ◌+◌, Bool, true, false, ◌||◌, List, [], ◌∷◌, ◌++◌, length, None, Some, refl, sym, ◌∙◌, ap, arith, append_assoc, true≢false, add-one}
use Rattle.std.specs.Prelude.{fold, if◌then◌else◌, not, slice_get}
use Rattle.std.specs.List.{before_first, list_any}
use Rattle.std.proofs.lemmas.Bool.{or_parts}
use Rattle.std.proofs.lemmas.List.{append-nil}
use Rattle.std.proofs.lemmas.List.Sums.{take_while-cons}
use Rattle.xfs_base.specs.declared.money.NoteKind.{NoteKind}
use Rattle.xfs_journal.specs.declared.record.Rec.{Rec}
use Rattle.xfs_journal.specs.declared.record.Rec.TheVariants.{Issue, Clear, Expire, Boot, Start, Bind, Order, Done, Load}
use Rattle.xfs_journal.specs.Journal.{is_issue, is_mark, record_at}
use Rattle.xfs_guard.specs.Presented.{Paid, paid_after, presented_in}
use Rattle.xfs_guard.specs.Segment.{has_issue, last_issue, behind_issue, carried, issue_of}

pub has_issue-append : (xs ys : List Rec) → has_issue (xs ++ ys) ≡ has_issue xs || has_issue ys
has_issue-append [] ys = refl
has_issue-append (x ∷ xs) ys = grind (arith, has_issue-append xs ys)

-- a list with an Issue, cut at the last one
pub record IsCut (records : List Rec) : Type 0 where
  pub front : List Rec
  pub number : ℕ
  pub word : ℕ
  pub behind : List Rec
  pub is : records ≡ front ++ Issue number word ∷ behind
  pub last : has_issue behind ≡ false

cut-here : (x : Rec) (rs : List Rec) → has_issue rs ≡ false → is_issue x ≡ true → IsCut (x ∷ rs)
cut-here (Issue n w) rs none e = record { front = []; number = n; word = w; behind = rs; is = refl; last = none }
cut-here Clear rs none e = absurd (true≢false (sym e))
cut-here Expire rs none e = absurd (true≢false (sym e))
cut-here (Boot p) rs none e = absurd (true≢false (sym e))
cut-here (Start i p) rs none e = absurd (true≢false (sym e))
cut-here (Bind t) rs none e = absurd (true≢false (sym e))
cut-here (Order k c) rs none e = absurd (true≢false (sym e))
cut-here (Done m d) rs none e = absurd (true≢false (sym e))
cut-here (Load u c) rs none e = absurd (true≢false (sym e))

or-left : (a b : Bool) → b ≡ false → a || b ≡ true → a ≡ true
or-left true b _ _ = refl
or-left false b other e = absurd (true≢false (sym e ∙ other))

cut-cons : (r : Rec) (rs : List Rec) (b : Bool) → has_issue rs ≡ b → (has_issue rs ≡ true → IsCut rs) → is_issue r || has_issue rs ≡ true → IsCut (r ∷ rs)
cut-cons r rs true is rest e = let c = rest is in record { front = r ∷ c.front; number = c.number; word = c.word; behind = c.behind; is = ap (λ (l : List Rec). r ∷ l) c.is; last = c.last }
cut-cons r rs false is rest e = cut-here r rs is (or-left (is_issue r) (has_issue rs) is e)

pub cut : (records : List Rec) → has_issue records ≡ true → IsCut records
cut [] some = absurd (true≢false (sym some))
cut (r ∷ rs) some = cut-cons r rs (has_issue rs) refl (λ e. cut rs e) some

pub or-true : (b : Bool) → b || true ≡ true
or-true true = refl
or-true false = refl

pub cut-has : (front : List Rec) (n w : ℕ) (behind : List Rec) → has_issue (front ++ Issue n w ∷ behind) ≡ true
cut-has front n w behind = has_issue-append front (Issue n w ∷ behind) ∙ or-true (has_issue front)

-- where the last Issue of such a list stands, what is behind it, and what it carries
pub last_issue-cut : (front : List Rec) (n w : ℕ) (behind : List Rec) → has_issue behind ≡ false → last_issue (front ++ Issue n w ∷ behind) ≡ length front + 1
last_issue-cut [] n w behind none = rw none (omega arith)
last_issue-cut (f ∷ front) n w behind none = rw (cut-has front n w behind) (let ih = last_issue-cut front n w behind none in omega (arith, ih))

pub behind_issue-cut : (front : List Rec) (n w : ℕ) (behind : List Rec) → has_issue behind ≡ false → behind_issue (front ++ Issue n w ∷ behind) ≡ behind
behind_issue-cut [] n w behind none = rw none refl
behind_issue-cut (f ∷ front) n w behind none = rw (cut-has front n w behind) (behind_issue-cut front n w behind none)

there : (front : List Rec) (r : Rec) (behind : List Rec) → slice_get (front ++ r ∷ behind) (length front) ≡ Some r
there [] r behind = refl
there (f ∷ front) r behind = there front r behind

pub issue_of-cut : (front : List Rec) (n w : ℕ) (behind : List Rec) → has_issue behind ≡ false → issue_of (front ++ Issue n w ∷ behind) ≡ Some n
issue_of-cut front n w behind none =
    ap (λ (i : ℕ). carried (record_at (front ++ Issue n w ∷ behind) i)) (last_issue-cut front n w behind none)
    ∙ rw add-one (ap carried (there front (Issue n w) behind))

-- and of a list without one
pub last_issue-none : (records : List Rec) → has_issue records ≡ false → last_issue records ≡ 0
last_issue-none [] none = refl
last_issue-none (r ∷ rs) none = let parts = or_parts (is_issue r) (has_issue rs) none in rw (parts.0, parts.1) refl

pub behind_issue-none : (records : List Rec) → has_issue records ≡ false → behind_issue records ≡ []
behind_issue-none [] none = refl
behind_issue-none (r ∷ rs) none = let parts = or_parts (is_issue r) (has_issue rs) none in rw (parts.0, parts.1) refl

pub issue_of-none : (records : List Rec) → has_issue records ≡ false → issue_of records ≡ None
issue_of-none records none = ap (λ (i : ℕ). carried (record_at records i)) (last_issue-none records none)

-- a front before an Issue changes nothing
pub behind_issue-append : (front records : List Rec) → has_issue records ≡ true → behind_issue (front ++ records) ≡ behind_issue records
behind_issue-append [] records some = refl
behind_issue-append (f ∷ front) records some = rw (has_issue-append front records ∙ ap (λ (b : Bool). has_issue front || b) some ∙ or-true (has_issue front)) (behind_issue-append front records some)

pub issue_of-append : (front records : List Rec) → has_issue records ≡ true → issue_of (front ++ records) ≡ issue_of records
issue_of-append front records some =
    let c = cut records some in
    rw c.is (ap issue_of (sym (append_assoc front c.front (Issue c.number c.word ∷ c.behind))) ∙ issue_of-cut (front ++ c.front) c.number c.word c.behind c.last ∙ sym (issue_of-cut c.front c.number c.word c.behind c.last))

pub last_issue-append : (front records : List Rec) → has_issue records ≡ true → last_issue (front ++ records) ≡ length front + last_issue records
last_issue-append [] records some = omega arith
last_issue-append (f ∷ front) records some =
    rw (has_issue-append front records ∙ ap (λ (b : Bool). has_issue front || b) some ∙ or-true (has_issue front)) (let ih = last_issue-append front records some in omega (arith, ih))

-- up to the first mark
pub before-cons : (r : Rec) (rs : List Rec) → before_first is_mark (r ∷ rs) ≡ (if is_mark r then [] else (r ∷ before_first is_mark rs))
before-cons r rs = take_while-cons (λ (x : Rec). not (is_mark x)) r rs ∙ flip (is_mark r)
  where
    flip : (b : Bool) → (if not b then (r ∷ before_first is_mark rs) else []) ≡ (if b then [] else (r ∷ before_first is_mark rs))
    flip true = refl
    flip false = refl

-- where a mark stands, what is behind it isn't looked at
marked-cons : (x : Rec) (xs ys : List Rec) (b : Bool) → is_mark x ≡ b → (list_any is_mark xs ≡ true → before_first is_mark (xs ++ ys) ≡ before_first is_mark xs) → is_mark x || list_any is_mark xs ≡ true
    → (if is_mark x then [] else (x ∷ before_first is_mark (xs ++ ys))) ≡ (if is_mark x then [] else (x ∷ before_first is_mark xs))
marked-cons x xs ys true is rest some = rw is refl
marked-cons x xs ys false is rest some = rw is (ap (λ (l : List Rec). x ∷ l) (rest (rw is at some)))

pub before-marked : (xs ys : List Rec) → list_any is_mark xs ≡ true → before_first is_mark (xs ++ ys) ≡ before_first is_mark xs
before-marked [] ys some = absurd (true≢false (sym some))
before-marked (x ∷ xs) ys some = before-cons x (xs ++ ys) ∙ marked-cons x xs ys (is_mark x) refl (λ e. before-marked xs ys e) some ∙ sym (before-cons x xs)

-- and where none does, all is
pub before-unmarked : (xs ys : List Rec) → list_any is_mark xs ≡ false → before_first is_mark (xs ++ ys) ≡ xs ++ before_first is_mark ys
before-unmarked [] ys none = refl
before-unmarked (x ∷ xs) ys none = let parts = or_parts (is_mark x) (list_any is_mark xs) none in before-cons x (xs ++ ys) ∙ rw parts.0 (ap (λ (l : List Rec). x ∷ l) (before-unmarked xs ys parts.1))

pub before-all : (xs : List Rec) → list_any is_mark xs ≡ false → before_first is_mark xs ≡ xs
before-all xs none = ap (before_first is_mark) (sym (append-nil xs)) ∙ before-unmarked xs [] none ∙ append-nil xs

-- an issue is a mark
unmarked-unissued : (xs : List Rec) → list_any is_mark xs ≡ false → has_issue xs ≡ false
unmarked-unissued [] none = refl
unmarked-unissued (x ∷ xs) none = let parts = or_parts (is_mark x) (list_any is_mark xs) none in rw (go x parts.0) (unmarked-unissued xs parts.1)
  where
    go : (r : Rec) → is_mark r ≡ false → is_issue r ≡ false
    go (Issue n w) e = absurd (true≢false e)
    go Clear e = refl
    go Expire e = refl
    go (Boot p) e = refl
    go (Start i p) e = refl
    go (Bind t) e = refl
    go (Order k c) e = refl
    go (Done m d) e = refl
    go (Load u c) e = refl

-- what was presented since a mark is looked for behind it
paid-fresh : (u : List NoteKind) (c : List ℕ) (n w : ℕ) (behind : List Rec) → (fold (paid_after u c) (record { last = Some (Issue n w); worth = 0 }) behind).worth ≡ (fold (paid_after u c) (record { last = None; worth = 0 }) behind).worth
paid-fresh u c n w [] = refl
paid-fresh u c n w (Issue i x ∷ rs) = refl
paid-fresh u c n w (Clear ∷ rs) = refl
paid-fresh u c n w (Expire ∷ rs) = refl
paid-fresh u c n w (Boot p ∷ rs) = refl
paid-fresh u c n w (Start i p ∷ rs) = refl
paid-fresh u c n w (Bind t ∷ rs) = refl
paid-fresh u c n w (Order k x ∷ rs) = refl
paid-fresh u c n w (Done m d ∷ rs) = refl
paid-fresh u c n w (Load i x ∷ rs) = refl

pub presented-behind : (u : List NoteKind) (c : List ℕ) (front : List Rec) (n w : ℕ) (behind : List Rec) → presented_in u (front ++ Issue n w ∷ behind) c ≡ presented_in u behind c
presented-behind u c front n w behind = from (record { last = None; worth = 0 }) front
  where
    from : (s : Paid) (xs : List Rec) → (fold (paid_after u c) s (xs ++ Issue n w ∷ behind)).worth ≡ presented_in u behind c
    from s [] = paid-fresh u c n w behind
    from s (x ∷ xs) = from (paid_after u c s x) xs
