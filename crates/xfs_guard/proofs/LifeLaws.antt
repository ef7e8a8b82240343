-- A number that was answered stands in every later list, so it is below the next one.
use Rattle.std.proofs.Common.{◌≡◌, inl, inr, refl, ℕ, ◌+◌, ◌<◌, ◌≤◌, List, [], ◌∷◌, ◌++◌, sym, ◌∙◌, ap, subst, arith, append_assoc}
use Rattle.std.specs.Prelude.{fold, map, All}
use Rattle.std.specs.List.{Contains}
use Rattle.std.specs.declared.option.Option.{Option}
use Rattle.std.proofs.lemmas.List.{append-nil}
use Rattle.std.proofs.lemmas.List.Elements.{All-append, All-map, All-nil, All-weaker, All-contains}
use Rattle.xfs_journal.specs.declared.record.Rec.{Rec}
use Rattle.xfs_journal.specs.declared.record.Rec.TheVariants.{Issue, Clear, Expire, Boot, Start, Bind, Order, Done, Load}
use Rattle.xfs_journal.specs.Journal.{Walk, next_number, next_issue, CarriesNumber, Numbered}
use Rattle.xfs_journal.specs.JournalView.{IsPossible}
use Rattle.xfs_guard.specs.Lives.{Answered, Run, BeginsWith, IsKeptIn, IsLife, answered_in}

pub begins-same : (records : List Rec) → BeginsWith records records
begins-same records = record { more = []; is = sym (append-nil records) }

pub begins-trans : (records list motions : List Rec) → BeginsWith list records → BeginsWith motions list → BeginsWith motions records
begins-trans records list motions p q = record { more = p.more ++ q.more; is = q.is ∙ ap (λ (l : List Rec). l ++ q.more) p.is ∙ append_assoc records p.more q.more }

pub begins-push : (records : List Rec) (r : Rec) → BeginsWith (records ++ r ∷ []) records
begins-push records r = record { more = r ∷ []; is = refl }

-- each possible list begins with the kept one: behind a restore the records stay
pub possible-begins : (kept : List Rec) (in_doubt : Option Rec) (records : List Rec) → IsPossible kept in_doubt records → BeginsWith records kept
possible-begins kept in_doubt records (inl same) = record { more = []; is = same ∙ sym (append-nil kept) }
possible-begins kept in_doubt records (inr (r, doubt, is)) = record { more = r ∷ []; is = is }

-- what stands now begins with what a life began with
begins-life : (first : List Rec) (runs : List Run) (now : List Rec) → IsLife first runs now → BeginsWith now first
begins-life first [] now same = subst (λ (records : List Rec). BeginsWith records first) same (begins-same first)
begins-life first (r ∷ rs) now (found, run, later) =
    begins-trans first r.left now (subst (λ (records : List Rec). BeginsWith r.left records) found run.began) (begins-life r.left rs now later)

rises : (n : ℕ) (records : List Rec) → n ≤ fold next_number n records
rises n [] = omega arith
rises n (Issue number word ∷ rs) = let le = rises (n + 1) rs in omega (arith, le)
rises n (Clear ∷ rs) = rises n rs
rises n (Expire ∷ rs) = rises n rs
rises n (Boot places ∷ rs) = rises n rs
rises n (Start issues places ∷ rs) = rises n rs
rises n (Bind token ∷ rs) = rises n rs
rises n (Order kind counts ∷ rs) = rises n rs
rises n (Done moved diverted ∷ rs) = rises n rs
rises n (Load unit count ∷ rs) = rises n rs

below : (n : ℕ) (prefix more : List Rec) (number word : ℕ) → Walk next_number CarriesNumber n (prefix ++ Issue number word ∷ more) → number < fold next_number n (prefix ++ Issue number word ∷ more)
below n [] more number word walk = let le = rises (n + 1) more in omega (arith, le, walk.0)
below n (r ∷ rs) more number word walk = below (next_number n r) rs more number word walk.1

-- the number of an issue of a numbered list
number-below : (records : List Rec) (a : Answered) → Numbered records → IsKeptIn records a → a.number < next_issue records
number-below records a numbered kept =
    let is : records ≡ kept.before ++ Issue a.number kept.word ∷ kept.kept.more =
    kept.kept.is ∙ ap (λ (l : List Rec). l ++ kept.kept.more) kept.issued ∙ append_assoc kept.before (Issue a.number kept.word ∷ []) kept.kept.more in
    subst (λ (l : List Rec). a.number < next_issue l) (sym is) (below 1 kept.before kept.kept.more a.number kept.word (subst Numbered is numbered))

kept-later : (records list : List Rec) (a : Answered) → BeginsWith list records → IsKeptIn records a → IsKeptIn list a
kept-later records list a later kept = record { before = kept.before; word = kept.word; issued = kept.issued; kept = begins-trans a.records records list kept.kept later }

all-below : (first : List Rec) (runs : List Run) (now : List Rec) → IsLife first runs now → Numbered now → All (λ n. n < next_issue now) (answered_in runs)
all-below first [] now same numbered = All-nil (λ n. n < next_issue now)
all-below first (r ∷ rs) now (found, run, later) numbered =
    All-append (λ n. n < next_issue now) (map (λ (a : Answered). a.number) r.answers) (answered_in rs)
    (All-map (λ n. n < next_issue now) (λ (a : Answered). a.number) r.answers
    (All-weaker (IsKeptIn r.left) (λ (a : Answered). a.number < next_issue now) (λ a kept. number-below now a numbered (kept-later r.left now a (begins-life r.left rs now later) kept)) r.answers run.kept))
    (all-below r.left rs now later numbered)

-- the next number was never answered
pub next-fresh : (first : List Rec) (runs : List Run) (now : List Rec) → IsLife first runs now → Numbered now → ¬ Contains (answered_in runs) (next_issue now)
next-fresh first runs now life numbered there =
    let lt = All-contains (λ n. n < next_issue now) (answered_in runs) (next_issue now) (all-below first runs now life numbered) there in
    absurd (omega (arith, lt))
