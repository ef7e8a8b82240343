-- What one more record changes in what is read of the journal.
use Rattle.std.proofs.Common.{◌≡◌, ◌⊎◌, inl, inr, ⊎_elim, ℕ, zero, suc, ◌+◌, ◌-◌, ◌<◌, ◌≤◌, List, [], ◌∷◌, ◌++◌, length, None, Some, refl, ◌∙◌, ap, arith, add-one}
use Rattle.std.specs.Prelude.{slice_get, fold, ◌==◌, ◌≢◌, Bool, true, false, if◌then◌else◌}
use Rattle.std.proofs.lemmas.List.{take-append-le, take_all}
use Rattle.std.proofs.lemmas.List.Sums.{fold_push}
use Rattle.std.proofs.lemmas.Bool.{eq-eqb, ne_eqb}
use Rattle.std.proofs.lemmas.Option.{none-some, same_Some, slice_get_within}
use Rattle.std.specs.Option.{option_map}
use Rattle.std.specs.declared.option.Option.{Option}
use Rattle.xfs_journal.specs.declared.record.Rec.{Rec}
use Rattle.xfs_journal.specs.Journal.{Reading, nothing_read, record_at, reading, reading_after, live_of, live_at, live_after, Finding, found_after, finding_after, is_place, Binding, binding_of, token_of, bind_of, Walk, Marking, mark_after, marking_after, last_mark, next_number, next_issue, issues_in}
use Rattle.xfs_journal.specs.declared.record.Rec.TheVariants.{Issue, Clear, Expire, Boot, Start, Bind, Order, Done, Load}

pub slice_get-push : {X : Type 0} (xs : List X) (x : X) (i : ℕ) → i < length xs → slice_get (xs ++ x ∷ []) i ≡ slice_get xs i
slice_get-push [] x i lt = absurd (omega arith)
slice_get-push (y ∷ ys) x zero lt = refl
slice_get-push (y ∷ ys) x (suc i) lt = slice_get-push ys x i (omega arith)

pub slice_get-pushed : {X : Type 0} (xs : List X) (x : X) → slice_get (xs ++ x ∷ []) (length xs) ≡ Some x
slice_get-pushed [] x = refl
slice_get-pushed (y ∷ ys) x = slice_get-pushed ys x

pub record_at-push : (J : List Rec) (r : Rec) (n : ℕ) → n ≤ length J → record_at (J ++ r ∷ []) n ≡ record_at J n
record_at-push J r zero le = refl
record_at-push J r (suc i) le = slice_get-push J r i (omega arith)

slice_get-append : {X : Type 0} (xs ys : List X) (i : ℕ) → i < length xs → slice_get (xs ++ ys) i ≡ slice_get xs i
slice_get-append [] ys i lt = absurd (omega arith)
slice_get-append (x ∷ xs) ys zero lt = refl
slice_get-append (x ∷ xs) ys (suc i) lt = slice_get-append xs ys i (omega arith)

pub record_at-append : (J R : List Rec) (n : ℕ) → n ≤ length J → record_at (J ++ R) n ≡ record_at J n
record_at-append J R zero le = refl
record_at-append J R (suc i) le = slice_get-append J R i (omega arith)

pub record_at-pushed : (J : List Rec) (r : Rec) → record_at (J ++ r ∷ []) (length J + 1) ≡ Some r
record_at-pushed J r = rw add-one (slice_get-pushed J r)

pub record_at-within : (J : List Rec) (n : ℕ) (r : Rec) → record_at J n ≡ Some r → (0 < n) × (n ≤ length J)
record_at-within J zero r e = cc
record_at-within J (suc i) r e = let lt = slice_get_within J i r e in (omega arith, omega arith)

slice_get-push_cases : {X : Type 0} (xs : List X) (x : X) (i : ℕ) (y : X) → slice_get (xs ++ x ∷ []) i ≡ Some y → ((i < length xs) × (slice_get xs i ≡ Some y)) ⊎ ((i ≡ length xs) × (x ≡ y))
slice_get-push_cases [] x zero y e = inr (refl, cc)
slice_get-push_cases [] x (suc i) y e = cc
slice_get-push_cases (z ∷ zs) x zero y e = inl (omega arith, e)
slice_get-push_cases (z ∷ zs) x (suc i) y e = ⊎_elim (λ h. let lt : i < length zs = h.0 in inl (omega arith, h.1)) (λ h. let eq : i ≡ length zs = h.0 in inr (omega arith, h.1)) (slice_get-push_cases zs x i y e)

-- a record of the longer list is one of the shorter, or the new one
pub record_at-cases : (J : List Rec) (r : Rec) (n : ℕ) (x : Rec) → record_at (J ++ r ∷ []) n ≡ Some x → ((n ≤ length J) × (record_at J n ≡ Some x)) ⊎ ((n ≡ length J + 1) × (r ≡ x))
record_at-cases J r zero x e = cc
record_at-cases J r (suc i) x e = ⊎_elim (λ h. let lt : i < length J = h.0 in inl (omega arith, h.1)) (λ h. let eq : i ≡ length J = h.0 in inr (omega arith, h.1)) (slice_get-push_cases J r i x e)

pub eqb-same : (a : ℕ) → (a == a) ≡ true
eqb-same a = eq-eqb a a refl

pub eqb-no : (a b : ℕ) → a ≢ b → (a == b) ≡ false
eqb-no a b ne = ne_eqb a b ne

reading-count_from : (s : Reading) (J : List Rec) → (fold reading_after s J).count ≡ s.count + length J
reading-count_from s [] = omega arith
reading-count_from s (r ∷ rs) = let e = reading-count_from (reading_after s r) rs in omega (arith, e)

pub reading-count : (J : List Rec) → (reading J).count ≡ length J
reading-count J = let e = reading-count_from nothing_read J in omega (arith, e)

pub live_of-push : (J : List Rec) (r : Rec) → live_of (J ++ r ∷ []) ≡ live_after (length J) (live_of J) r
live_of-push J r = ap (λ (s : Reading). s.live) (fold_push reading_after nothing_read J r) ∙ ap (λ (n : ℕ). live_after n (live_of J) r) (reading-count J)

pub live_at-push : (J : List Rec) (r : Rec) (n : ℕ) → n ≤ length J + 1 → live_at (J ++ r ∷ []) n ≡ live_at J n
live_at-push J r n le = ap live_of (take-append-le (n - 1) J (r ∷ []) (omega arith))

-- the newest record stands in the segment that was open before it
pub live_at-pushed : (J : List Rec) (r : Rec) → live_at (J ++ r ∷ []) (length J + 1) ≡ live_of J
live_at-pushed J r = live_at-push J r (length J + 1) (omega arith) ∙ ap live_of (take_all (length J + 1 - 1) J (omega arith))

finding-read : (p : ℕ) (f : Finding) (J : List Rec) → (fold (finding_after p) f J).read ≡ fold reading_after f.read J
finding-read p f [] = refl
finding-read p f (r ∷ rs) = finding-read p (finding_after p f r) rs

pub binding_of-push : (J : List Rec) (r : Rec) (p : ℕ) → binding_of (J ++ r ∷ []) p ≡ found_after p (record { read = record { count = length J; live = live_of J }; bind = binding_of J p }) r
binding_of-push J r p =
    let e = finding-read p (record { read = nothing_read; bind = None }) J in
    ap (λ (f : Finding). f.bind) (fold_push (finding_after p) (record { read = nothing_read; bind = None }) J r)
    ∙ ap (λ (x : Reading). found_after p (record { read = x; bind = binding_of J p }) r) e
    ∙ ap (λ (n : ℕ). found_after p (record { read = record { count = n; live = live_of J }; bind = binding_of J p }) r) (reading-count J)

pub token_of-push : (J : List Rec) (r : Rec) (p : ℕ)
    → token_of (J ++ r ∷ []) p ≡ option_map (λ (b : Binding). b.token) (found_after p (record { read = record { count = length J; live = live_of J }; bind = binding_of J p }) r)
token_of-push J r p = ap (option_map (λ (b : Binding). b.token)) (binding_of-push J r p)

pub bind_of-push : (J : List Rec) (r : Rec) (p : ℕ)
    → bind_of (J ++ r ∷ []) p ≡ option_map (λ (b : Binding). b.number) (found_after p (record { read = record { count = length J; live = live_of J }; bind = binding_of J p }) r)
bind_of-push J r p = ap (option_map (λ (b : Binding). b.number)) (binding_of-push J r p)

found-kept : (p : ℕ) (f : Finding) (b : Binding) (r : Rec) → f.bind ≡ Some b → p ≤ f.read.count → found_after p f r ≡ Some b
found-kept p f b (Issue n w) e le = rw (eqb-no (f.read.count + 1) p (omega arith)) e
found-kept p f b Clear e le = e
found-kept p f b Expire e le = e
found-kept p f b (Boot q) e le = e
found-kept p f b (Start i q) e le = e
found-kept p f b (Bind t) e le = rw e (either (is_place p f.read.live))
  where
    either : (v : Bool) → (if v then Some b else Some b) ≡ Some b
    either true = refl
    either false = refl
found-kept p f b (Order k c) e le = e
found-kept p f b (Done m d) e le = e
found-kept p f b (Load u c) e le = e

-- once bound, always bound
pub binding_of-kept : (J : List Rec) (r : Rec) (p : ℕ) (b : Binding) → binding_of J p ≡ Some b → p ≤ length J → binding_of (J ++ r ∷ []) p ≡ Some b
binding_of-kept J r p b e le = binding_of-push J r p ∙ found-kept p (record { read = record { count = length J; live = live_of J }; bind = binding_of J p }) b r e le

-- a bound token is that of a binding
pub binding_of-token : (J : List Rec) (p : ℕ) (t : List ℕ) → token_of J p ≡ Some t → (b : Binding) × (binding_of J p ≡ Some b) × (b.token ≡ t)
binding_of-token J p t e = of (binding_of J p) e
  where
    of : (o : Option Binding) → option_map (λ (b : Binding). b.token) o ≡ Some t → (b : Binding) × (o ≡ Some b) × (b.token ≡ t)
    of None h = absurd (none-some t h)
    of (Some b) h = (b, refl, same_Some b.token t h)

pub token_of-kept : (J : List Rec) (r : Rec) (p : ℕ) (b : List ℕ) → token_of J p ≡ Some b → p ≤ length J → token_of (J ++ r ∷ []) p ≡ Some b
token_of-kept J r p b e le =
    let found = binding_of-token J p b e in
    ap (option_map (λ (x : Binding). x.token)) (binding_of-kept J r p found.0 found.1 le) ∙ ap Some found.2

pub Walk-push : {S : Type 0} (step : S → Rec → S) (Owes : S → Rec → Type 0) (s : S) (xs : List Rec) (r : Rec) → Walk step Owes s xs → Owes (fold step s xs) r → Walk step Owes s (xs ++ r ∷ [])
Walk-push step Owes s [] r w o = (o, tt)
Walk-push step Owes s (x ∷ xs) r w o = (w.0, Walk-push step Owes (step s x) xs r w.1 o)

marking-count_from : (m : Marking) (J : List Rec) → (fold marking_after m J).count ≡ m.count + length J
marking-count_from m [] = omega arith
marking-count_from m (r ∷ rs) = let e = marking-count_from (marking_after m r) rs in omega (arith, e)

pub last_mark-push : (J : List Rec) (r : Rec) → last_mark (J ++ r ∷ []) ≡ mark_after (length J) (last_mark J) r
last_mark-push J r =
    let e : (fold marking_after (record { count = 0; mark = 0 }) J).count ≡ length J = (let c = marking-count_from (record { count = 0; mark = 0 }) J in omega (arith, c)) in
    ap (λ (m : Marking). m.mark) (fold_push marking_after (record { count = 0; mark = 0 }) J r) ∙ ap (λ (n : ℕ). mark_after n (last_mark J) r) e

pub next_issue-push : (J : List Rec) (r : Rec) → next_issue (J ++ r ∷ []) ≡ next_number (next_issue J) r
next_issue-push J r = fold_push next_number 1 J r

issues_from : (n : ℕ) (J : List Rec) → n + issues_in J ≡ fold next_number n J
issues_from n [] = omega arith
issues_from n (Issue number word ∷ rs) = omega (arith, issues_from (n + 1) rs)
issues_from n (Clear ∷ rs) = issues_from n rs
issues_from n (Expire ∷ rs) = issues_from n rs
issues_from n (Boot p ∷ rs) = issues_from n rs
issues_from n (Start i p ∷ rs) = issues_from n rs
issues_from n (Bind t ∷ rs) = issues_from n rs
issues_from n (Order k c ∷ rs) = issues_from n rs
issues_from n (Done m d ∷ rs) = issues_from n rs
issues_from n (Load u c ∷ rs) = issues_from n rs

-- the next issue's number counts the issues before it
pub issues_in-next : (J : List Rec) → issues_in J + 1 ≡ next_issue J
issues_in-next J = omega (arith, issues_from 1 J)
