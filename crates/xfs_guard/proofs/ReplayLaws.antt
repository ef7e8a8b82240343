-- The motions that are replayed agree with the records.
use Rattle.std.proofs.Common.{◌≡◌, ℕ, ◌+◌, ◌<◌, ◌≤◌, Bool, true, false, List, [], ◌∷◌, ◌++◌, length, None, Some, refl, sym, ◌∙◌, ap, subst, arith, append_assoc, append-nil}
use Rattle.std.specs.Prelude.{fold, map, slice_index, sum, ◌==◌, if◌then◌else◌, ⊤}
use Rattle.std.specs.declared.option.Option.{Option}
use Rattle.std.specs.List.{Contains, AllByRecursion}
use Rattle.std.proofs.lemmas.List.{map-append}
use Rattle.std.proofs.lemmas.List.Elements.{Contains-append_left, Contains-push, All-contains, All-from_recursion}
use Rattle.xfs_base.specs.Counts.{at}
use Rattle.xfs_base.specs.declared.counts.Counts.{Counts}
use Rattle.xfs_base.specs.declared.counts.Kind.{Kind}
use Rattle.xfs_base.specs.declared.counts.Kind.TheVariants.{Stack, Present, Reject, Retract}
use Rattle.xfs_mech.specs.declared.motion.Motion.{Motion}
use Rattle.xfs_mech.specs.declared.motion.Motion.TheVariants.{Moved, Taken, Loaded}
use Rattle.xfs_mech.specs.Motions.{NumberIs}
use Rattle.xfs_mech.proofs.MotionLaws.{all-append, all-numbers}
use Rattle.xfs_journal.specs.declared.record.Rec.{Rec}
use Rattle.xfs_journal.specs.declared.record.Rec.TheVariants.{Issue, Clear, Expire, Boot, Start, Bind, Order, Done, Load}
use Rattle.xfs_journal.specs.Journal.{record_at, Walk}
use Rattle.xfs_journal.proofs.JournalLaws.{record_at-within, record_at-append, record_at-pushed}
use Rattle.xfs_guard.specs.Agrees.{RisesFrom, IsOrdered, IsAsked, IsOrder, MayFollow, keep_last, Agrees}
use Rattle.xfs_guard.specs.Replayed.{AgreesFrom, Replay, taken_of, taken_before, done_motions, motions_after, ordered_by, outlet_after, renumber, renumbered, replay_after, nothing_replayed, replay, replayed, KeepsWithin, CanReplay}
use Rattle.xfs_guard.proofs.AgreesLaws.{Agrees-record, Agrees-motion}
use Rattle.xfs_guard.proofs.RecordLaws.{last-pushed, length-pushed}

-- eight counts that are each told by their unit
pub eight : (f : ℕ → ℕ) (xs : List ℕ) → length xs ≡ 8 → ((u : ℕ) → u < 8 → slice_index xs u ≡ f u) → xs ≡ map f (0 ∷ 1 ∷ 2 ∷ 3 ∷ 4 ∷ 5 ∷ 6 ∷ 7 ∷ [])
eight f [] long is = absurd (omega (arith, long))
eight f (a ∷ []) long is = absurd (omega (arith, long))
eight f (a ∷ b ∷ []) long is = absurd (omega (arith, long))
eight f (a ∷ b ∷ c ∷ []) long is = absurd (omega (arith, long))
eight f (a ∷ b ∷ c ∷ d ∷ []) long is = absurd (omega (arith, long))
eight f (a ∷ b ∷ c ∷ d ∷ e ∷ []) long is = absurd (omega (arith, long))
eight f (a ∷ b ∷ c ∷ d ∷ e ∷ g ∷ []) long is = absurd (omega (arith, long))
eight f (a ∷ b ∷ c ∷ d ∷ e ∷ g ∷ h ∷ []) long is = absurd (omega (arith, long))
eight f (a ∷ b ∷ c ∷ d ∷ e ∷ g ∷ h ∷ i ∷ j ∷ js) long is = absurd (omega (arith, long))
eight f (a ∷ b ∷ c ∷ d ∷ e ∷ g ∷ h ∷ i ∷ []) long is =
    let a' : a ≡ f 0 = is 0 (omega arith) in
    let b' : b ≡ f 1 = is 1 (omega arith) in
    let c' : c ≡ f 2 = is 2 (omega arith) in
    let d' : d ≡ f 3 = is 3 (omega arith) in
    let e' : e ≡ f 4 = is 4 (omega arith) in
    let g' : g ≡ f 5 = is 5 (omega arith) in
    let h' : h ≡ f 6 = is 6 (omega arith) in
    let i' : i ≡ f 7 = is 7 (omega arith) in
    cc

-- an entry that is of no order
abbrev IsQuiet : Motion → Type 0
IsQuiet (Moved n k m d) = ⊥
IsQuiet m = ⊤

quiet-rises : (low : ℕ) (motions : List Motion) (m : Motion) → IsQuiet m → RisesFrom low motions → RisesFrom low (motions ++ m ∷ [])
quiet-rises low [] (Moved n k a d) q r = absurd q
quiet-rises low [] (Taken c) q r = tt
quiet-rises low [] (Loaded u c) q r = tt
quiet-rises low (Moved n k a d ∷ motions) m q r = (r.0, quiet-rises n motions m q r.1)
quiet-rises low (Taken c ∷ motions) m q r = quiet-rises low motions m q r
quiet-rises low (Loaded u c ∷ motions) m q r = quiet-rises low motions m q r

quiet-asked : (records : List Rec) (m : Motion) → IsQuiet m → IsAsked records m
quiet-asked records (Moved n k a d) q = absurd q
quiet-asked records (Taken c) q = tt
quiet-asked records (Loaded u c) q = tt

quiet-number : (Holds : ℕ → Type 0) (m : Motion) → IsQuiet m → NumberIs Holds m
quiet-number Holds (Moved n k a d) q = absurd q
quiet-number Holds (Taken c) q = tt
quiet-number Holds (Loaded u c) q = tt

-- the list agrees with the records, and each entry is of an order before the last record
record Replays (kept : List Rec) (motions : List Motion) : Type 0 where
  agrees : Agrees kept motions
  numbers : AllByRecursion (NumberIs (λ n. n < length kept)) motions

Replays-quiet : (records : List Rec) (motions : List Motion) (m : Motion) → IsQuiet m → Replays records motions → Replays records (motions ++ m ∷ [])
Replays-quiet records motions m q a = record {
  agrees = record {
    rising = quiet-rises 0 motions m q a.agrees.rising;
    asked = all-append (IsAsked records) motions (m ∷ []) a.agrees.asked (quiet-asked records m q, tt);
    shape = a.agrees.shape;
    done = λ n k c x d o e. Contains-append_left motions (m ∷ []) (Moved n k x d) (a.agrees.done n k c x d o e);
  };
  numbers = all-append (NumberIs (λ n. n < length records)) motions (m ∷ []) a.numbers (quiet-number (λ n. n < length records) m q, tt);
}

Replays-taken : (records : List Rec) (motions : List Motion) (c : Counts) → Replays records motions → Replays records (motions ++ taken_of c)
Replays-taken records motions c a = either (sum c.0 == 0)
  where
    either : (b : Bool) → Replays records (motions ++ (if b then [] else Taken c ∷ []))
    either true = rw append-nil a
    either false = Replays-quiet records motions (Taken c) tt a

Replays-before : (records : List Rec) (motions : List Motion) (k : Kind) (c : Counts) → Replays records motions → Replays records (motions ++ taken_before k c)
Replays-before records motions Present c a = Replays-taken records motions c a
Replays-before records motions Stack c a = rw append-nil a
Replays-before records motions Reject c a = rw append-nil a
Replays-before records motions Retract c a = rw append-nil a

-- one more record that tells of no motion
Replays-record : (records : List Rec) (r : Rec) (motions : List Motion) → Replays records motions → MayFollow (record_at records (length records)) r
    → ((k : Kind) (c m d : Counts) → record_at records (length records) ≡ Some (Order k c) → r ≡ Done m d → Contains motions (Moved (length records) k m d))
    → Replays (records ++ r ∷ []) motions
Replays-record records r motions a may moved = record {
  agrees = Agrees-record records r motions a.agrees may moved;
  numbers = all-numbers (λ n. n < length records) (λ n. n < length (records ++ r ∷ [])) motions (λ n lt. rw length-pushed (omega arith)) a.numbers;
}

-- the order that stands last is done
Replays-done : (records : List Rec) (motions : List Motion) (k : Kind) (c m d : Counts) → Replays records motions → record_at records (length records) ≡ Some (Order k c)
    → ((u : ℕ) → at m u + at d u ≤ at c u) → Replays (records ++ Done m d ∷ []) (motions ++ Moved (length records) k m d ∷ [])
Replays-done records motions k c m d a ordered fits = record {
  agrees = Agrees-record records (Done m d) (motions ++ Moved (length records) k m d ∷ []) (Agrees-motion records motions k c m d a.agrees ordered a.numbers fits) (rw ordered tt) mine;
  numbers = all-append (NumberIs (λ n. n < length (records ++ Done m d ∷ []))) motions (Moved (length records) k m d ∷ [])
      (all-numbers (λ n. n < length records) (λ n. n < length (records ++ Done m d ∷ [])) motions (λ n lt. rw length-pushed (omega arith)) a.numbers)
      (rw length-pushed (omega arith), tt);
}
  where
    mine : (k' : Kind) (c' m' d' : Counts) → record_at records (length records) ≡ Some (Order k' c') → Done m d ≡ Done m' d' → Contains (motions ++ Moved (length records) k m d ∷ []) (Moved (length records) k' m' d')
    mine k' c' m' d' o e =
        let same : Some (Order k c) ≡ Some (Order k' c') = sym ordered ∙ o in
        let kinds : k ≡ k' = cc in
        let ms : m ≡ m' = cc in
        let ds : d ≡ d' = cc in
        rw (← kinds, ← ms, ← ds) (Contains-push motions (Moved (length records) k m d))

abbrev ordered_in : Option Rec → Option Kind
ordered_in None = None
ordered_in (Some r) = ordered_by r

-- what reading keeps
record IsReadFrom (records : List Rec) (s : Replay) : Type 0 where
  count : s.count ≡ length records
  ordered : s.ordered ≡ ordered_in (record_at records (length records))
  motions : Replays records s.motions

-- a done and the order before it
step-done : (records : List Rec) (s : Replay) (m d : Counts) (before : Option Rec) → record_at records (length records) ≡ before → IsReadFrom records s → IsOrder before → KeepsWithin before (Done m d)
    → Replays (records ++ Done m d ∷ []) (replay_after s (Done m d)).motions
step-done records s m d (Some (Order k c)) e i o w =
    let kind : s.ordered ≡ Some k = i.ordered ∙ ap ordered_in e in
    let split : s.motions ++ (taken_before k s.outlet ++ Moved (length records) k m d ∷ []) ≡ (s.motions ++ taken_before k s.outlet) ++ Moved (length records) k m d ∷ [] = sym (append_assoc s.motions (taken_before k s.outlet) (Moved (length records) k m d ∷ [])) in
    rw (kind, i.count, split) (Replays-done records (s.motions ++ taken_before k s.outlet) k c m d (Replays-before records s.motions k s.outlet i.motions) e w)
step-done records s m d (Some (Issue n x)) e i o w = absurd o
step-done records s m d (Some Clear) e i o w = absurd o
step-done records s m d (Some Expire) e i o w = absurd o
step-done records s m d (Some (Boot p)) e i o w = absurd o
step-done records s m d (Some (Start issues p)) e i o w = absurd o
step-done records s m d (Some (Bind t)) e i o w = absurd o
step-done records s m d (Some (Done x y)) e i o w = absurd o
step-done records s m d (Some (Load u c)) e i o w = absurd o
step-done records s m d None e i o w = absurd o

step-motions : (records : List Rec) (s : Replay) (r : Rec) → IsReadFrom records s → MayFollow (record_at records (length records)) r → KeepsWithin (record_at records (length records)) r → Replays (records ++ r ∷ []) (replay_after s r).motions
step-motions records s (Done m d) i may w = step-done records s m d (record_at records (length records)) refl i may w
step-motions records s (Load u c) i may w = Replays-record records (Load u c) (s.motions ++ Loaded u c ∷ []) (Replays-quiet records s.motions (Loaded u c) tt i.motions) may (λ k x m d o e. cc)
step-motions records s (Issue n x) i may w = Replays-record records (Issue n x) s.motions i.motions may (λ k c m d o e. cc)
step-motions records s Clear i may w = Replays-record records Clear s.motions i.motions may (λ k c m d o e. cc)
step-motions records s Expire i may w = Replays-record records Expire s.motions i.motions may (λ k c m d o e. cc)
step-motions records s (Boot p) i may w = Replays-record records (Boot p) s.motions i.motions may (λ k c m d o e. cc)
step-motions records s (Start issues p) i may w = Replays-record records (Start issues p) s.motions i.motions may (λ k c m d o e. cc)
step-motions records s (Bind t) i may w = Replays-record records (Bind t) s.motions i.motions may (λ k c m d o e. cc)
step-motions records s (Order k c) i may w = Replays-record records (Order k c) s.motions i.motions may (λ k' c' m d o e. cc)

step : (records : List Rec) (s : Replay) (r : Rec) → IsReadFrom records s → MayFollow (record_at records (length records)) r → KeepsWithin (record_at records (length records)) r → IsReadFrom (records ++ r ∷ []) (replay_after s r)
step records s r i may w = record {
  count = rw length-pushed (ap (λ n. n + 1) i.count);
  ordered = rw last-pushed refl;
  motions = step-motions records s r i may w;
}

walk : (R records : List Rec) (s : Replay) → IsReadFrom records s → Walk keep_last MayFollow (record_at records (length records)) R → Walk keep_last KeepsWithin (record_at records (length records)) R → IsReadFrom (records ++ R) (fold replay_after s R)
walk [] records s i may w = rw append-nil i
walk (r ∷ rs) records s i may w =
    let next = step records s r i may.0 w.0 in
    subst (λ (l : List Rec). IsReadFrom l (fold replay_after s (r ∷ rs))) (append_assoc records (r ∷ []) rs)
    (walk rs (records ++ r ∷ []) (replay_after s r) next (rw last-pushed may.1) (rw last-pushed w.1))

none_read : IsReadFrom [] nothing_replayed
none_read = record {
  count = refl;
  ordered = refl;
  motions = record { agrees = record { rising = tt; asked = tt; shape = tt; done = λ n k c m d o e. absurd (let within = record_at-within [] n (Order k c) o in omega (arith, within.0, within.1)) }; numbers = tt };
}

-- the motions that are replayed agree with the records
pub agrees-replayed : (list : List Rec) → CanReplay list → Agrees list (replayed list)
agrees-replayed list can = (Replays-taken list (replay list).motions (replay list).outlet (walk list [] nothing_replayed none_read can.shape can.within).motions).agrees

record_at-here : (prefix rs : List Rec) (r : Rec) → record_at (prefix ++ r ∷ rs) (length prefix + 1) ≡ Some r
record_at-here prefix rs r =
    ap (λ (l : List Rec). record_at l (length prefix + 1)) (sym (append_assoc prefix (r ∷ []) rs))
    ∙ record_at-append (prefix ++ r ∷ []) rs (length prefix + 1) (let long = length-pushed prefix r in omega (arith, long))
    ∙ record_at-pushed prefix r

-- where a list agrees with the records, no done passes its order
keeps-within : (kept : List Rec) (motions : List Motion) → Agrees kept motions → (prefix rs : List Rec) (r : Rec) → kept ≡ prefix ++ r ∷ rs → (before : Option Rec) → record_at prefix (length prefix) ≡ before → KeepsWithin before r
keeps-within kept motions a prefix rs (Done m d) e (Some (Order k c)) is =
    let ordered : record_at kept (length prefix) ≡ Some (Order k c) = ap (λ (l : List Rec). record_at l (length prefix)) e ∙ record_at-append prefix (Done m d ∷ rs) (length prefix) (omega arith) ∙ is in
    let done : record_at kept (length prefix + 1) ≡ Some (Done m d) = ap (λ (l : List Rec). record_at l (length prefix + 1)) e ∙ record_at-here prefix rs (Done m d) in
    let asked : IsOrdered kept (length prefix) k m d = All-contains (IsAsked kept) motions (Moved (length prefix) k m d) (All-from_recursion (IsAsked kept) motions a.asked) (a.done (length prefix) k c m d ordered done) in
    let same : Some (Order k asked.counts) ≡ Some (Order k c) = sym asked.ordered ∙ ordered in
    let counts : asked.counts ≡ c = cc in
    rw (← counts) asked.within
keeps-within kept motions a prefix rs (Issue n w) e (Some (Order k c)) is = tt
keeps-within kept motions a prefix rs Clear e (Some (Order k c)) is = tt
keeps-within kept motions a prefix rs Expire e (Some (Order k c)) is = tt
keeps-within kept motions a prefix rs (Boot p) e (Some (Order k c)) is = tt
keeps-within kept motions a prefix rs (Start issues p) e (Some (Order k c)) is = tt
keeps-within kept motions a prefix rs (Bind t) e (Some (Order k c)) is = tt
keeps-within kept motions a prefix rs (Order k' c') e (Some (Order k c)) is = tt
keeps-within kept motions a prefix rs (Load u n) e (Some (Order k c)) is = tt
keeps-within kept motions a prefix rs r e None is = tt
keeps-within kept motions a prefix rs r e (Some (Issue n w)) is = tt
keeps-within kept motions a prefix rs r e (Some Clear) is = tt
keeps-within kept motions a prefix rs r e (Some Expire) is = tt
keeps-within kept motions a prefix rs r e (Some (Boot p)) is = tt
keeps-within kept motions a prefix rs r e (Some (Start issues p)) is = tt
keeps-within kept motions a prefix rs r e (Some (Bind t)) is = tt
keeps-within kept motions a prefix rs r e (Some (Done m d)) is = tt
keeps-within kept motions a prefix rs r e (Some (Load u n)) is = tt

all-within : (records : List Rec) (motions : List Motion) → Agrees records motions → (prefix rs : List Rec) → records ≡ prefix ++ rs → Walk keep_last KeepsWithin (record_at prefix (length prefix)) rs
all-within records motions a prefix [] e = tt
all-within records motions a prefix (r ∷ rs) e =
    let rest = all-within records motions a (prefix ++ r ∷ []) rs (e ∙ sym (append_assoc prefix (r ∷ []) rs)) in
    (keeps-within records motions a prefix rs r e (record_at prefix (length prefix)) refl, rw last-pushed at rest)

-- records that some list agrees with can be replayed
pub CanReplay-agreed : (kept : List Rec) (motions : List Motion) → Agrees kept motions → CanReplay kept
CanReplay-agreed kept motions a = record { shape = a.shape; within = all-within kept motions a [] kept refl }

-- with base 0 the entries are as they were
pub renumbered-none : (motions : List Motion) → renumbered 0 motions ≡ motions
renumbered-none [] = refl
renumbered-none (Moved n k m d ∷ motions) =
    let same : 0 + n ≡ n = omega arith in
    rw same (ap (λ (l : List Motion). Moved n k m d ∷ l) (renumbered-none motions))
renumbered-none (Taken c ∷ motions) = ap (λ (l : List Motion). Taken c ∷ l) (renumbered-none motions)
renumbered-none (Loaded u c ∷ motions) = ap (λ (l : List Motion). Loaded u c ∷ l) (renumbered-none motions)

-- with base 0 the list itself agrees with the records
pub Agrees-from_none : (records : List Rec) (list : List Motion) → AgreesFrom 0 records list → Agrees records list
Agrees-from_none records list a = subst (λ (l : List Motion). Agrees records l) (sym (a.counted ∙ renumbered-none a.motions)) a.agrees

-- the same records, read behind a base
abbrev pub behind : ℕ → Replay → Replay
behind base s = record { count = base + s.count; ordered = s.ordered; outlet = s.outlet; motions = renumbered base s.motions }

renumbered-taken : (base : ℕ) (c : Counts) → renumbered base (taken_of c) ≡ taken_of c
renumbered-taken base c = either (sum c.0 == 0)
  where
    either : (b : Bool) → renumbered base (if b then [] else Taken c ∷ []) ≡ (if b then [] else Taken c ∷ [])
    either true = refl
    either false = refl

renumbered-before : (base : ℕ) (k : Kind) (c : Counts) → renumbered base (taken_before k c) ≡ taken_before k c
renumbered-before base Present c = renumbered-taken base c
renumbered-before base Stack c = refl
renumbered-before base Reject c = refl
renumbered-before base Retract c = refl

renumbered-done : (base n : ℕ) (ordered : Option Kind) (c m d : Counts) → done_motions (base + n) ordered c m d ≡ renumbered base (done_motions n ordered c m d)
renumbered-done base n None c m d = refl
renumbered-done base n (Some k) c m d = sym (map-append (renumber base) (taken_before k c) (Moved n k m d ∷ []) ∙ ap (λ (l : List Motion). l ++ Moved (base + n) k m d ∷ []) (renumbered-before base k c))

motions-behind : (base : ℕ) (s : Replay) (r : Rec) → motions_after (behind base s) r ≡ renumbered base (motions_after s r)
motions-behind base s (Done m d) = ap (λ (l : List Motion). renumbered base s.motions ++ l) (renumbered-done base s.count s.ordered s.outlet m d) ∙ sym (map-append (renumber base) s.motions (done_motions s.count s.ordered s.outlet m d))
motions-behind base s (Load u c) = sym (map-append (renumber base) s.motions (Loaded u c ∷ []))
motions-behind base s (Issue n x) = refl
motions-behind base s Clear = refl
motions-behind base s Expire = refl
motions-behind base s (Boot p) = refl
motions-behind base s (Start issues p) = refl
motions-behind base s (Bind t) = refl
motions-behind base s (Order k c) = refl

outlet-behind : (base : ℕ) (s : Replay) (r : Rec) → outlet_after (behind base s) r ≡ outlet_after s r
outlet-behind base s (Done m d) = refl
outlet-behind base s (Load u c) = refl
outlet-behind base s (Issue n x) = refl
outlet-behind base s Clear = refl
outlet-behind base s Expire = refl
outlet-behind base s (Boot p) = refl
outlet-behind base s (Start issues p) = refl
outlet-behind base s (Bind t) = refl
outlet-behind base s (Order k c) = refl

step-behind : (base : ℕ) (s : Replay) (r : Rec) → replay_after (behind base s) r ≡ behind base (replay_after s r)
step-behind base s r = rw (motions-behind base s r, outlet-behind base s r) (ap (λ (n : ℕ). record { count = n; ordered = ordered_by r; outlet = outlet_after s r; motions = renumbered base (motions_after s r) }) (omega arith))

-- records that are read from the base on give the same, with the base on top
pub fold-behind : (base : ℕ) (records : List Rec) (s : Replay) → fold replay_after (behind base s) records ≡ behind base (fold replay_after s records)
fold-behind base [] s = refl
fold-behind base (r ∷ rs) s = ap (λ (t : Replay). fold replay_after t rs) (step-behind base s r) ∙ fold-behind base rs (replay_after s r)

-- the motions, once what then lies in the outlet was taken
pub ends-behind : (base : ℕ) (s : Replay) → renumbered base s.motions ++ taken_of s.outlet ≡ renumbered base (s.motions ++ taken_of s.outlet)
ends-behind base s = sym (map-append (renumber base) s.motions (taken_of s.outlet) ∙ ap (λ (l : List Motion). renumbered base s.motions ++ l) (renumbered-taken base s.outlet))
