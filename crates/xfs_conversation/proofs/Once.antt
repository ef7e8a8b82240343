-- Each text has one acknowledge, and a command that it accepts at most one completion.
use Rattle.std.proofs.Common.{drop, ◌≡◌, ℕ, zero, suc, ◌≤◌, ◌<◌, ◌+◌, ◌==◌, not, Bool, true, false, List, [], ◌∷◌, ◌++◌, length, get_or, All, AllPairs, Option, Some, subst, refl, ap, sym, ◌∙◌, inl, inr, arith, cond, count_by, zero-add}
use Rattle.std.specs.List.{before_first, position_or_len}
use Rattle.std.specs.declared.result.Result.{Result}
use Rattle.std.proofs.lemmas.Bool.{cases_Bool, cases_eq, eq-eqb, ne_eqb, or_parts}
use Rattle.std.proofs.lemmas.List.{append_assoc, length_push, take-append-drop}
use Rattle.std.proofs.lemmas.List.Elements.{All-nil, All-cons, All-head, All-tail}
use Rattle.std.proofs.lemmas.List.Kept.{AllPairs-filter}
use Rattle.std.proofs.lemmas.List.Quantifiers.{all_pairs_push}
use Rattle.std.proofs.lemmas.List.Sums.{sum_by_push, sum_by-cons, sum_by-append, take_while-cons}
use Rattle.xfs_envelope.specs.declared.command.Refuse.{Refuse}
use Rattle.xfs_envelope.specs.Commands.{Command}
use Rattle.xfs_envelope.specs.Replies.{Reply, reply_in}
use Rattle.xfs_conversation.specs.Answers.{accepted_in, completes, is_acknowledge, accepts}
use Rattle.xfs_conversation.specs.Conversation.{Acknowledges, misread, misnumbered, crowded, accepted, Says, completed, told, announced, Conversation, joined, posted, heard}
use Rattle.xfs_conversation.specs.Pending.{Pending, pending_of, is_request_id, has_id, is_pending, without_id}
use Rattle.xfs_conversation.proofs.Converse.{pending_there}
use Rattle.xfs_conversation.proofs.Fronts.{front_of}
use Rattle.xfs_conversation.specs.Once.{frames_that, until_accepted, IsOnce}

abbrev tick : Bool → ℕ
tick b = cond b 1 0

count_push : {X : Type 0} (p : X → Bool) (xs : List X) (x : X) → count_by p (xs ++ x ∷ []) ≡ count_by p xs + tick (p x)
count_push p xs x = sum_by_push (λ y. cond (p y) 1 0) xs x

count_cons : {X : Type 0} (p : X → Bool) (x : X) (xs : List X) → count_by p (x ∷ xs) ≡ tick (p x) + count_by p xs
count_cons p x xs = sum_by-cons (λ y. cond (p y) 1 0) x xs

-- pending ids differ
abbrev Differ : Pending → Pending → Type 0
Differ p q = has_id q.id p ≡ false

none_of : (id : ℕ) (pending : List Pending) → is_pending pending id ≡ false → All (λ p. has_id id p ≡ false) pending
none_of id [] h = All-nil (λ p. has_id id p ≡ false)
none_of id (p ∷ pending) h =
    let parts = or_parts (has_id id p) (is_pending pending id) h in
    All-cons (λ p. has_id id p ≡ false) p pending parts.0 (none_of id pending parts.1)

differ_posted : {before after : List Pending} {t : Result Command Refuse} {r : Option Reply} → Acknowledges before t r after → AllPairs Differ before → AllPairs Differ after
differ_posted (misread refuse) h = h
differ_posted (misnumbered c wrong) h = h
differ_posted (crowded c right) h = h
differ_posted {before = before} (accepted c right) h =
    all_pairs_push Differ before (pending_of c) h (none_of c.id before ((or_parts (not (is_request_id c.id)) (is_pending before c.id) right).1))

differ_heard : {before after : List Pending} {r : Option Reply} → Says before r after → AllPairs Differ before → AllPairs Differ after
differ_heard {before = before} (completed p code payload there) h = AllPairs-filter Differ (λ q. not (has_id p.id q)) before h
differ_heard (told p name payload there) h = h
differ_heard (announced name payload) h = h

pub differ_of : {texts frames : List (List ℕ)} {pending : List Pending} → Conversation texts frames pending → AllPairs Differ pending
differ_of joined = λ i j d lt within. absurd (omega arith)
differ_of (posted h text frame says) = differ_posted says (differ_of h)
differ_of (heard h frame says) = differ_heard says (differ_of h)

-- without another id
count_other : (id other : ℕ) → (id ≡ other → ⊥) → (pending : List Pending) → count_by (has_id id) (without_id other pending) ≡ count_by (has_id id) pending
count_other id other differ [] = refl
count_other id other differ (p ∷ pending) = elim (cases_eq p.id other) [
  | inl e ↦
      let gone : has_id other p ≡ true = eq-eqb p.id other e in
      let not_here : has_id id p ≡ false = ne_eqb p.id id (λ same. differ (sym same ∙ e)) in
      rw (count_cons (has_id id) p pending) (rw (gone, not_here) (count_other id other differ pending ∙ sym (zero-add _)))
  | inr n ↦
      let stays : has_id other p ≡ false = ne_eqb p.id other n in
      rw stays (rw (count_cons (has_id id) p (without_id other pending), count_cons (has_id id) p pending) (ap (λ n. tick (has_id id p) + n) (count_other id other differ pending)))
]

count_none : (id : ℕ) (pending : List Pending) → All (λ p. has_id id p ≡ false) pending → count_by (has_id id) pending ≡ 0
count_none id [] all = refl
count_none id (p ∷ pending) all =
    let first : has_id id p ≡ false = All-head (λ p. has_id id p ≡ false) p pending all in
    let rest = count_none id pending (All-tail (λ p. has_id id p ≡ false) p pending all) in
    rw (count_cons (has_id id) p pending) (rw (first, rest) refl)

gone_all : (id : ℕ) (pending : List Pending) → All (λ p. has_id id p ≡ false) (without_id id pending)
gone_all id [] = All-nil (λ p. has_id id p ≡ false)
gone_all id (p ∷ pending) = elim (cases_Bool (has_id id p)) [
  | inl y ↦ rw y (gone_all id pending)
  | inr n ↦ rw n (All-cons (λ p. has_id id p ≡ false) p (without_id id pending) n (gone_all id pending))
]

pub other_way : (a b : ℕ) (r : Bool) → (a == b) ≡ r → (b == a) ≡ r
other_way a b r h = elim (cases_eq a b) [
  | inl e ↦ rw (sym e) (rw (sym e) at h)
  | inr n ↦ ne_eqb b a (λ e. n (sym e)) ∙ sym (ne_eqb a b n) ∙ h
]

-- one that is pending is counted once
count_one : (pending : List Pending) → AllPairs Differ pending → (k : ℕ) (p : Pending) → k < length pending → get_or pending k p ≡ p → count_by (has_id p.id) pending ≡ 1
count_one [] apart k p within is = absurd (omega arith)
count_one (q ∷ pending) apart zero p within is =
    let same : q.id ≡ p.id = ap (λ (x : Pending). x.id) is in
    let here : has_id p.id q ≡ true = eq-eqb q.id p.id same in
    let others : All (λ x. has_id q.id x ≡ false) pending = λ j d inside. other_way q.id (get_or pending j d).id false (apart zero (suc j) d (omega arith) (omega arith)) in
    let none : count_by (has_id p.id) pending ≡ 0 = count_none p.id pending (subst (λ n. All (λ x. has_id n x ≡ false) pending) same others) in
    rw (count_cons (has_id p.id) q pending) (rw (here, none) refl)
count_one (q ∷ pending) apart (suc k) p within is =
    let in_rest : k < length pending = omega arith in
    let differ : has_id p.id q ≡ false = rw is at (apart zero (suc k) p (omega arith) within) in
    let rest = count_one pending (λ i j d lt inside. apart (suc i) (suc j) d (omega arith) (omega arith)) k p in_rest is in
    rw (count_cons (has_id p.id) q pending) (rw (differ, rest) refl)

-- each id is accepted as often as it is completed, and once more where it is pending
abbrev Balances : List Pending → Option Reply → List Pending → Type 0
Balances before r after = (id : ℕ) → count_by (has_id id) before + tick (accepts id r) ≡ tick (completes id r) + count_by (has_id id) after

balances_posted : {before after : List Pending} {t : Result Command Refuse} {r : Option Reply} → Acknowledges before t r after → Balances before r after
balances_posted (misread refuse) id = omega arith
balances_posted (misnumbered c wrong) id = omega arith
balances_posted (crowded c right) id = omega arith
balances_posted {before = before} (accepted c right) id = rw (count_push (has_id id) before (pending_of c)) (sym (zero-add _))

balances_heard : {before after : List Pending} {r : Option Reply} → AllPairs Differ before → Says before r after → Balances before r after
balances_heard {before = before} apart (completed p code payload there) id = elim (cases_eq id p.id) [
  | inl e ↦
      let here : (id == p.id) ≡ true = eq-eqb id p.id e in
      let one : count_by (has_id id) before ≡ 1 = rw (sym e) at (count_one before apart there.0 p there.1 there.2) in
      let gone : count_by (has_id id) (without_id p.id before) ≡ 0 = rw e (count_none p.id (without_id p.id before) (gone_all p.id before)) in
      rw (here, one, gone) refl
  | inr n ↦
      let other : (id == p.id) ≡ false = ne_eqb id p.id n in
      rw (other, count_other id p.id n before) (omega arith)
]
balances_heard apart (told p name payload there) id = omega arith
balances_heard apart (announced name payload) id = omega arith

abbrev Balanced : List (List ℕ) → List Pending → Type 0
Balanced frames pending = (id : ℕ) → frames_that (accepts id) frames ≡ frames_that (completes id) frames + count_by (has_id id) pending

balanced_more : (frames : List (List ℕ)) (frame : List ℕ) (before after : List Pending) → Balances before (reply_in frame) after → Balanced frames before → Balanced (frames ++ frame ∷ []) after
balanced_more frames frame before after one h id =
    rw (count_push (λ f. accepts id (reply_in f)) frames frame, count_push (λ f. completes id (reply_in f)) frames frame) (omega (arith, h id, one id))

pub balanced_of : {texts frames : List (List ℕ)} {pending : List Pending} → Conversation texts frames pending → Balanced frames pending
balanced_of joined = λ id. refl
balanced_of (posted {frames = fs} {before = before} {after = after} h text frame says) = balanced_more fs frame before after (balances_posted says) (balanced_of h)
balanced_of (heard {frames = fs} {before = before} {after = after} h frame says) = balanced_more fs frame before after (balances_heard (differ_of h) says) (balanced_of h)

-- as many acknowledges as texts
acknowledges_posted : {before after : List Pending} {t : Result Command Refuse} {r : Option Reply} → Acknowledges before t r after → is_acknowledge r ≡ true
acknowledges_posted (misread refuse) = refl
acknowledges_posted (misnumbered c wrong) = refl
acknowledges_posted (crowded c right) = refl
acknowledges_posted (accepted c right) = refl

acknowledges_heard : {before after : List Pending} {r : Option Reply} → Says before r after → is_acknowledge r ≡ false
acknowledges_heard (completed p code payload there) = refl
acknowledges_heard (told p name payload there) = refl
acknowledges_heard (announced name payload) = refl

abbrev acknowledges : List ℕ → Bool
acknowledges frame = is_acknowledge (reply_in frame)

pub acknowledged_of : {texts frames : List (List ℕ)} {pending : List Pending} → Conversation texts frames pending → frames_that is_acknowledge frames ≡ length texts
acknowledged_of joined = refl
acknowledged_of (posted {texts = ts} {frames = fs} h text frame says) =
    rw (count_push acknowledges fs frame, length_push ts text, acknowledges_posted says) (ap (λ n. n + 1) (acknowledged_of h))
acknowledged_of (heard {frames = fs} h frame says) =
    rw (count_push acknowledges fs frame, acknowledges_heard says) (omega (arith, acknowledged_of h))

-- what is pending with an id is at most one
at_most_one : (id : ℕ) (pending : List Pending) → AllPairs Differ pending → count_by (has_id id) pending ≤ 1
at_most_one id pending apart = elim (cases_Bool (is_pending pending id)) [
  | inl y ↦
      let found = pending_there id pending y in
      let one : count_by (has_id id) pending ≡ 1 = rw found.2 at (count_one pending apart found.1.0 found.0 found.1.1 found.1.2) in
      omega (arith, one)
  | inr n ↦ let none = count_none id pending (none_of id pending n) in omega (arith, none)
]

-- nothing before the first that passes does
before_first-cons : {X : Type 0} (p : X → Bool) (x : X) (xs : List X) → p x ≡ false → before_first p (x ∷ xs) ≡ x ∷ before_first p xs
before_first-cons p x xs n = take_while-cons (λ y. not (p y)) x xs ∙ kept
  where
    kept : cond (not (p x)) (x ∷ before_first p xs) [] ≡ x ∷ before_first p xs
    kept = rw n refl

none_before_first : {X : Type 0} (p : X → Bool) (xs : List X) → count_by p (before_first p xs) ≡ 0
none_before_first p [] = refl
none_before_first p (x ∷ xs) = elim (cases_Bool (p x)) [
  | inl y ↦ rw y refl
  | inr n ↦
      let rest : tick (p x) + count_by p (before_first p xs) ≡ 0 = rw (n, none_before_first p xs) refl in
      ap (count_by p) (before_first-cons p x xs n) ∙ count_cons p x (before_first p xs) ∙ rest
]

count_append : {X : Type 0} (p : X → Bool) (xs ys : List X) → count_by p (xs ++ ys) ≡ count_by p xs + count_by p ys
count_append p xs ys = sum_by-append (λ y. cond (p y) 1 0) xs ys

-- a list is cut before the first that passes
abbrev after_first_passing : ℕ → List (List ℕ) → List (List ℕ)
after_first_passing id frames = drop (position_or_len (λ frame. accepts id (reply_in frame)) frames) frames

cut : (id : ℕ) (frames : List (List ℕ)) → frames ≡ until_accepted id frames ++ after_first_passing id frames
cut id frames = sym (take-append-drop (position_or_len (λ frame. accepts id (reply_in frame)) frames) frames)

-- behind a command that is accepted, up to the next with its id
completed_once : (before later : List (List ℕ)) (frame : List ℕ) (p : Pending) → accepted_in (reply_in frame) ≡ Some p
    → {texts texts' : List (List ℕ)} {pending pending' : List Pending} → Conversation texts (before ++ frame ∷ []) pending → Conversation texts' (before ++ frame ∷ until_accepted p.id later) pending'
    → frames_that (completes p.id) (until_accepted p.id later) ≤ 1
completed_once before later frame p some {pending = one} {pending' = two} first second =
    let upto : List (List ℕ) = until_accepted p.id later in
    let taken = λ (f : List ℕ). accepts p.id (reply_in f) in
    let ended = λ (f : List ℕ). completes p.id (reply_in f) in
    let none : count_by taken upto ≡ 0 = none_before_first taken later in
    let split : before ++ frame ∷ upto ≡ (before ++ frame ∷ []) ++ upto = sym (append_assoc before (frame ∷ []) upto) in
    let takes : count_by taken (before ++ frame ∷ upto) ≡ count_by taken (before ++ frame ∷ []) + count_by taken upto = ap (count_by taken) split ∙ count_append taken (before ++ frame ∷ []) upto in
    let ends_ : count_by ended (before ++ frame ∷ upto) ≡ count_by ended (before ++ frame ∷ []) + count_by ended upto = ap (count_by ended) split ∙ count_append ended (before ++ frame ∷ []) upto in
    let least = at_most_one p.id one (differ_of first) in
    let here : count_by taken (before ++ frame ∷ []) ≡ count_by ended (before ++ frame ∷ []) + count_by (has_id p.id) one = balanced_of first p.id in
    let there : count_by taken (before ++ frame ∷ upto) ≡ count_by ended (before ++ frame ∷ upto) + count_by (has_id p.id) two = balanced_of second p.id in
    omega (arith, none, takes, ends_, least, here, there)

pub once_of : {texts frames : List (List ℕ)} {pending : List Pending} → Conversation texts frames pending → IsOnce texts frames pending
once_of {texts} {frames} {pending} h = record {
  acknowledges = acknowledged_of h;
  completions = λ before later frame p is some.
      let upto : List (List ℕ) = until_accepted p.id later in
      let rest : List (List ℕ) = after_first_passing p.id later in
      let split : frames ≡ (before ++ frame ∷ upto) ++ rest = is ∙ ap (λ l. before ++ frame ∷ l) (cut p.id later) ∙ sym (append_assoc before (frame ∷ upto) rest) in
      let first = front_of h (before ++ frame ∷ []) later (is ∙ sym (append_assoc before (frame ∷ []) later)) in
      let second = front_of h (before ++ frame ∷ upto) rest split in
      completed_once before later frame p some first.talk second.talk;
  balance = balanced_of h;
  ids = differ_of h;
}
