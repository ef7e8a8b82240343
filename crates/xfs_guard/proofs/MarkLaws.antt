-- The last mark of a list, the Bind of a token and the Issue of the live nonce are records of it.
use Rattle.std.proofs.Common.{◌≡◌, ⊎_elim, ℕ, ◌+◌, ◌<◌, ◌≤◌, Bool, true, false, List, [], ◌∷◌, ◌++◌, length, None, Some, refl, sym, ◌∙◌, ap, subst, arith, append_assoc}
use Rattle.std.specs.Prelude.{◌==◌, if◌then◌else◌}
use Rattle.std.proofs.lemmas.List.{append-nil}
use Rattle.std.proofs.lemmas.List.Elements.{Contains-push_cases}
use Rattle.std.specs.List.{Contains}
use Rattle.std.specs.Option.{option_and_then, option_map}
use Rattle.std.specs.declared.option.Option.{Option}
use Rattle.xfs_base.specs.declared.counts.Places.{Places}
use Rattle.xfs_journal.proofs.StartLaws.{boot-mark}
use Rattle.xfs_journal.specs.Journal.{boot_places, record_at, is_mark, is_place, live_of, last_mark, Binding, first_of, found_after, binding_of, bind_of}
use Rattle.xfs_journal.specs.declared.record.Rec.{Rec}
use Rattle.xfs_journal.specs.declared.record.Rec.TheVariants.{Issue, Clear, Expire, Boot, Start, Bind, Order, Done, Load}
use Rattle.xfs_journal.proofs.JournalLaws.{record_at-push, record_at-append, record_at-pushed, record_at-within, record_at-cases, binding_of-push, last_mark-push}
use Rattle.xfs_guard.specs.declared.nonce.Nonce.{Nonce}
use Rattle.xfs_guard.specs.Lives.{BeginsWith}
use Rattle.xfs_guard.specs.Nonce.{live_in, nonce_of}
use Rattle.xfs_guard.specs.Refusals.{bound_number}
use Rattle.xfs_guard.specs.Upheld.{HasIssue, IsMarkAt, IsBindAt}

positive : (b : Bool) (count mark : ℕ) → 0 < mark → 0 < (if b then count + 1 else mark)
positive true count mark some = omega arith
positive false count mark some = some

-- a list with a mark has one once it grew
pub marked-push : (records : List Rec) (r : Rec) → 0 < last_mark records → 0 < last_mark (records ++ r ∷ [])
marked-push records r some = rw last_mark-push (positive (is_mark r) (length records) (last_mark records) some)

-- what one more record keeps holds of a list that grew
grow : (Holds : List Rec → Type 0) → ((records : List Rec) (r : Rec) → Holds records → Holds (records ++ r ∷ [])) → (records R : List Rec) → Holds records → Holds (records ++ R)
grow Holds step records [] h = subst Holds (sym (append-nil records)) h
grow Holds step records (r ∷ rs) h = subst Holds (append_assoc records (r ∷ []) rs) (grow Holds step (records ++ r ∷ []) rs (step records r h))

marked-boot : (records : List Rec) (r : Rec) (p : Places) → boot_places r ≡ Some p → 0 < last_mark (records ++ r ∷ [])
marked-boot records r p is = rw (last_mark-push, boot-mark r p is) (omega arith)

-- a list with a boot record has a mark
pub boot-marked : (boot : Rec) (b : Places) → boot_places boot ≡ Some b → (records : List Rec) → Contains records boot → 0 < last_mark records
boot-marked boot b tells records = grow (λ (found : List Rec). Contains found boot → 0 < last_mark found) step [] records (λ none. absurd (omega (arith, none.1)))
  where
    step : (found : List Rec) (r : Rec) → (Contains found boot → 0 < last_mark found) → Contains (found ++ r ∷ []) boot → 0 < last_mark (found ++ r ∷ [])
    step found r h there = ⊎_elim (λ old. marked-push found r (h old)) (λ is. subst (λ (x : Rec). 0 < last_mark (found ++ x ∷ [])) (sym is) (marked-boot found boot b tells)) (Contains-push_cases found r boot there)

-- a record of a list keeps its number
pub still : (records : List Rec) (r x : Rec) (n : ℕ) → record_at records n ≡ Some x → record_at (records ++ r ∷ []) n ≡ Some x
still records r x n there = record_at-push records r n (record_at-within records n x there).1 ∙ there

-- and where the list is one that a later one begins with
pub still-begun : (found records : List Rec) (x : Rec) (n : ℕ) → BeginsWith found records → record_at records n ≡ Some x → record_at found n ≡ Some x
still-begun found records x n begins there = rw begins.is (record_at-append records begins.more n (record_at-within records n x there).1 ∙ there)

-- so does a mark
pub mark-still : (records : List Rec) (r : Rec) (n : ℕ) → IsMarkAt records n → IsMarkAt (records ++ r ∷ []) n
mark-still records r n mark = (mark.0, still records r mark.0 n mark.1, mark.2)

pub mark-begun : (list records : List Rec) (n : ℕ) → BeginsWith list records → IsMarkAt records n → IsMarkAt list n
mark-begun list records n begins mark = (mark.0, still-begun list records mark.0 n begins mark.1, mark.2)

-- a list with a mark at its end
pub marked-here : (records : List Rec) (r : Rec) → is_mark r ≡ true → last_mark (records ++ r ∷ []) ≡ length records + 1
marked-here records r is = last_mark-push records r ∙ rw is refl

-- a later list has a mark where an earlier one has
pub marked-begun : (found records : List Rec) → BeginsWith found records → 0 < last_mark records → 0 < last_mark found
marked-begun found records begins some = rw begins.is (grow (λ (motions : List Rec). 0 < last_mark motions) marked-push records begins.more some)

-- the last mark is one
pub mark-there : (records : List Rec) → 0 < last_mark records → IsMarkAt records (last_mark records)
mark-there records = grow (λ (list : List Rec). 0 < last_mark list → IsMarkAt list (last_mark list)) step [] records (λ none. absurd (omega (arith, none)))
  where
    by : (list : List Rec) (r : Rec) (b : Bool) → is_mark r ≡ b → (0 < last_mark list → IsMarkAt list (last_mark list)) → 0 < last_mark (list ++ r ∷ []) → IsMarkAt (list ++ r ∷ []) (last_mark (list ++ r ∷ []))
    by list r true is h some =
        let here : last_mark (list ++ r ∷ []) ≡ length list + 1 = last_mark-push list r ∙ rw is refl in
        rw here (r, record_at-pushed list r, is)
    by list r false is h some =
        let same : last_mark (list ++ r ∷ []) ≡ last_mark list = last_mark-push list r ∙ rw is refl in
        let old = h (rw same at some) in
        rw same (old.0, still list r old.0 (last_mark list) old.1, old.2)

    step : (list : List Rec) (r : Rec) → (0 < last_mark list → IsMarkAt list (last_mark list)) → 0 < last_mark (list ++ r ∷ []) → IsMarkAt (list ++ r ∷ []) (last_mark (list ++ r ∷ []))
    step list r h = by list r (is_mark r) refl h

-- no mark stands behind the last one
pub mark-last : (records : List Rec) (n : ℕ) → IsMarkAt records n → n ≤ last_mark records
mark-last records n = grow (λ (list : List Rec). IsMarkAt list n → n ≤ last_mark list) step [] records (λ mark. absurd (omega (arith, (record_at-within [] n mark.0 mark.1).0, (record_at-within [] n mark.0 mark.1).1)))
  where
    before : (list : List Rec) (r : Rec) (b : Bool) → n ≤ last_mark list → n ≤ length list → n ≤ (if b then length list + 1 else last_mark list)
    before list r true le within = omega (arith, within)
    before list r false le within = le

    at_end : (list : List Rec) (r x : Rec) → n ≡ length list + 1 → r ≡ x → is_mark x ≡ true → n ≤ last_mark (list ++ r ∷ [])
    at_end list r x is same mark = rw (marked-here list r (ap is_mark same ∙ mark)) (omega (arith, is))

    step : (list : List Rec) (r : Rec) → (IsMarkAt list n → n ≤ last_mark list) → IsMarkAt (list ++ r ∷ []) n → n ≤ last_mark (list ++ r ∷ [])
    step list r h mark = ⊎_elim (λ old. rw last_mark-push (before list r (is_mark r) (h (mark.0, old.1, mark.2)) old.0)) (λ new. at_end list r mark.0 new.0 new.1 mark.2) (record_at-cases list r n mark.0 mark.1)

-- the Bind that was found is a record
abbrev IsThere : ℕ → List Rec → Type 0
IsThere p records = (b : Binding) → binding_of records p ≡ Some b → record_at records b.number ≡ Some (Bind b.token)

bind-step : (p : ℕ) (records : List Rec) (r : Rec) → IsThere p records → IsThere p (records ++ r ∷ [])
bind-step p records r h b e = by r (sym (binding_of-push records r p) ∙ e)
  where
    old : (x : Rec) → binding_of records p ≡ Some b → record_at (records ++ x ∷ []) b.number ≡ Some (Bind b.token)
    old x found = still records x (Bind b.token) b.number (h b found)

    none : None ≡ Some b → ⊥
    none e = cc

    issued : (x : Rec) (t : Bool) → (if t then None else binding_of records p) ≡ Some b → record_at (records ++ x ∷ []) b.number ≡ Some (Bind b.token)
    issued x true e = absurd (none e)
    issued x false e = old x e

    first : (t : List ℕ) (o : Option Binding) → binding_of records p ≡ o → first_of o (record { number = length records + 1; token = t }) ≡ Some b → record_at (records ++ Bind t ∷ []) b.number ≡ Some (Bind b.token)
    first t None is e = let same : record { number = length records + 1; token = t } ≡ b = cc in rw (← same) (record_at-pushed records (Bind t))
    first t (Some a) is e = old (Bind t) (is ∙ e)

    bound : (t : List ℕ) (s : Bool) → (if s then first_of (binding_of records p) (record { number = length records + 1; token = t }) else binding_of records p) ≡ Some b → record_at (records ++ Bind t ∷ []) b.number ≡ Some (Bind b.token)
    bound t true e = first t (binding_of records p) refl e
    bound t false e = old (Bind t) e

    by : (x : Rec) → found_after p (record { read = record { count = length records; live = live_of records }; bind = binding_of records p }) x ≡ Some b → record_at (records ++ x ∷ []) b.number ≡ Some (Bind b.token)
    by (Issue number word) e = issued (Issue number word) (length records + 1 == p) e
    by Clear e = old Clear e
    by Expire e = old Expire e
    by (Boot q) e = old (Boot q) e
    by (Start issues q) e = old (Start issues q) e
    by (Bind t) e = bound t (is_place p (live_of records)) e
    by (Order k c) e = old (Order k c) e
    by (Done m d) e = old (Done m d) e
    by (Load u c) e = old (Load u c) e

pub bind-there : (records : List Rec) (p : ℕ) → IsThere p records
bind-there records p = grow (IsThere p) (bind-step p) [] records (λ b e. absurd (none b e))
  where
    none : (b : Binding) → None ≡ Some b → ⊥
    none b e = cc

-- the number of a bound token's Bind
pub bound-there : (records : List Rec) (n : ℕ) → bound_number records ≡ Some n → IsBindAt records n
bound-there records n e = of (live_of records) refl e
  where
    found : (p : ℕ) (o : Option Binding) → live_of records ≡ Some p → binding_of records p ≡ o → option_map (λ (b : Binding). b.number) o ≡ Some n → IsBindAt records n
    found p None lives is e = cc
    found p (Some b) lives is e = let same : b.number ≡ n = cc in (b.token, rw (← same) (bind-there records p b is), rw (lives, is) refl)

    of : (l : Option ℕ) → live_of records ≡ l → option_and_then (bind_of records) l ≡ Some n → IsBindAt records n
    of None is e = cc
    of (Some p) is e = found p (binding_of records p) is refl e

-- the Issue of a live nonce
pub issue-there : (m : Bool) (records : List Rec) (n : Nonce) → live_in m records ≡ Some n → HasIssue records n
issue-there true records n e = cc
issue-there false records n e = of (live_of records) refl e
  where
    of : (l : Option ℕ) → live_of records ≡ l → option_and_then (λ p. nonce_of (record_at records p)) l ≡ Some n → HasIssue records n
    of None is e = cc
    of (Some p) is e = (p, is, e)
