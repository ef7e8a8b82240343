-- The token that is bound first while an issue lives, read along the records.
use Rattle.std.proofs.Common.{◌≡◌, ◌≢◌, ℕ, zero, suc, ◌+◌, ◌<◌, ◌≤◌, List, [], ◌∷◌, length, take, drop, get_or, Some, None, Bool, true, false, refl, sym, ap, ◌∙◌, arith, add-one}
use Rattle.std.specs.Prelude.{fold, if◌then◌else◌}
use Rattle.std.specs.Option.{option_map}
use Rattle.std.specs.declared.option.Option.{Option}
use Rattle.std.proofs.lemmas.List.{take_all, take-append-drop, length-take-le}
use Rattle.std.proofs.lemmas.List.Sums.{fold_more, fold-append}
use Rattle.std.proofs.lemmas.Option.{get_or_from_slice_get}
use Rattle.xfs_audit.proofs.Walks.{fold-at}
use Rattle.xfs_journal.specs.declared.record.Rec.{Rec}
use Rattle.xfs_journal.specs.declared.record.Rec.TheVariants.{Issue, Clear, Expire, Boot, Start, Bind, Order, Done, Load}
use Rattle.xfs_journal.specs.Journal.{nothing_read, is_mark, Finding, Binding, finding_after, is_place, binding_of, token_of, first_of}
use Rattle.xfs_journal.proofs.JournalLaws.{eqb-same, eqb-no, record_at-within}
use Rattle.xfs_audit.specs.Claims.{IsIssue}

abbrev pub nothing_found : Finding
nothing_found = record { read = nothing_read; bind = None }

-- an issue lives, so many records were read, and no token was bound yet
abbrev pub open_at : ℕ → ℕ → Finding
open_at p count = record { read = record { count = count; live = Some p }; bind = None }

finding-count : (p : ℕ) (f : Finding) (J : List Rec) → (fold (finding_after p) f J).read.count ≡ f.read.count + length J
finding-count p f [] = omega arith
finding-count p f (r ∷ rs) = let e = finding-count p (finding_after p f r) rs in omega (arith, e)

-- behind an Issue nothing is bound yet
opened : (p n w : ℕ) (f : Finding) → f.read.count + 1 ≡ p → finding_after p f (Issue n w) ≡ open_at p p
opened p n w f e = rw (e, eqb-same p) refl

pub found-start : (J : List Rec) (p : ℕ) → IsIssue J p → fold (finding_after p) nothing_found (take p J) ≡ open_at p p
found-start J zero is = absurd (let e = is.there in cc)
found-start J (suc i) is =
    let lt : suc i ≤ length J = (record_at-within J (suc i) (Issue is.number is.word) is.there).1 in
    let at : get_or J i (Issue is.number is.word) ≡ Issue is.number is.word = get_or_from_slice_get J i _ _ is.there in
    let count : (fold (finding_after (suc i)) nothing_found (take i J)).read.count ≡ i = (let e = finding-count (suc i) nothing_found (take i J) in let l : length (take i J) ≡ i = length-take-le i J (omega arith) in omega (arith, e, l)) in
    ap (λ n. fold (finding_after (suc i)) nothing_found (take n J)) (sym (add-one i)) ∙ fold_more (finding_after (suc i)) nothing_found J i (Issue is.number is.word) (omega arith)
    ∙ ap (finding_after (suc i) (fold (finding_after (suc i)) nothing_found (take i J))) at
    ∙ opened (suc i) is.number is.word (fold (finding_after (suc i)) nothing_found (take i J)) (omega (arith, count))

-- a record that neither ends the issue nor binds a token
pub found-on : (p count : ℕ) (r : Rec) → is_mark r ≡ false → ((t : List ℕ) → r ≡ Bind t → ⊥) → finding_after p (open_at p count) r ≡ open_at p (count + 1)
found-on p count (Issue n w) mark bind = absurd (cc)
found-on p count Clear mark bind = absurd (cc)
found-on p count Expire mark bind = absurd (cc)
found-on p count (Boot places) mark bind = absurd (cc)
found-on p count (Start issues places) mark bind = absurd (cc)
found-on p count (Bind t) mark bind = absurd (bind t refl)
found-on p count (Order k c) mark bind = refl
found-on p count (Done m d) mark bind = refl
found-on p count (Load u c) mark bind = refl

kept-one : (p : ℕ) (f : Finding) (b : Binding) (r : Rec) → f.bind ≡ Some b → p ≤ f.read.count → (finding_after p f r).bind ≡ Some b
kept-one p f b (Issue n w) e le = rw (eqb-no (f.read.count + 1) p (omega arith)) e
kept-one p f b Clear e le = e
kept-one p f b Expire e le = e
kept-one p f b (Boot q) e le = e
kept-one p f b (Start issues q) e le = e
kept-one p f b (Bind t) e le = rw e (either (is_place p f.read.live))
  where
    either : (v : Bool) → (if v then Some b else Some b) ≡ Some b
    either true = refl
    either false = refl
kept-one p f b (Order k c) e le = e
kept-one p f b (Done m d) e le = e
kept-one p f b (Load u c) e le = e

-- once bound, always bound
kept-all : (p : ℕ) (f : Finding) (b : Binding) (J : List Rec) → f.bind ≡ Some b → p ≤ f.read.count → (fold (finding_after p) f J).bind ≡ Some b
kept-all p f b [] e le = e
kept-all p f b (r ∷ rs) e le = kept-all p (finding_after p f r) b rs (kept-one p f b r e le) (omega arith)

-- an issue that lives no more binds nothing
gone-one : (p : ℕ) (f : Finding) (r : Rec) → f.bind ≡ None → p ≤ f.read.count → f.read.live ≢ Some p → ((finding_after p f r).bind ≡ None) × ((finding_after p f r).read.live ≢ Some p)
gone-one p f (Issue n w) e le not = (rw (eqb-no (f.read.count + 1) p (omega arith)) e, λ h. let same : f.read.count + 1 ≡ p = cc in omega arith)
gone-one p f Clear e le not = (e, λ h. absurd (cc))
gone-one p f Expire e le not = (e, λ h. absurd (cc))
gone-one p f (Boot q) e le not = (e, λ h. absurd (cc))
gone-one p f (Start issues q) e le not = (e, λ h. absurd (cc))
gone-one p f (Bind t) e le not = (of f.read.live not, not)
  where
    of : (live : Option ℕ) → live ≢ Some p → (if is_place p live then first_of f.bind (record { number = f.read.count + 1; token = t }) else f.bind) ≡ None
    of None not_p = e
    of (Some q) not_p = rw (eqb-no q p (λ h. not_p (ap Some h))) e
gone-one p f (Order k c) e le not = (e, not)
gone-one p f (Done m d) e le not = (e, not)
gone-one p f (Load u c) e le not = (e, not)

gone-all : (p : ℕ) (f : Finding) (J : List Rec) → f.bind ≡ None → p ≤ f.read.count → f.read.live ≢ Some p → (fold (finding_after p) f J).bind ≡ None
gone-all p f [] e le not = e
gone-all p f (r ∷ rs) e le not = let one = gone-one p f r e le not in gone-all p (finding_after p f r) rs one.0 (omega arith) one.1

-- what the records from a place on make of what was found before
split : (p : ℕ) (J : List Rec) (i : ℕ) (r : Rec) → i < length J → r ≡ get_or J i r → fold (finding_after p) nothing_found (take i J) ≡ open_at p i
    → fold (finding_after p) nothing_found J ≡ fold (finding_after p) (finding_after p (open_at p i) r) (drop (i + 1) J)
split p J i r lt is read =
    ap (fold (finding_after p) nothing_found) (sym (take-append-drop (i + 1) J))
    ∙ fold-append (finding_after p) nothing_found (take (i + 1) J) (drop (i + 1) J)
    ∙ ap (λ (f : Finding). fold (finding_after p) f (drop (i + 1) J)) (fold-at (finding_after p) nothing_found J i r lt is ∙ ap (λ (f : Finding). finding_after p f r) read)

bound-one : (p i : ℕ) (t : List ℕ) → (finding_after p (open_at p i) (Bind t)).bind ≡ Some (record { number = i + 1; token = t })
bound-one p i t = rw (eqb-same p) refl

-- the first Bind that is met is the token
pub bound-here : (J : List Rec) (p i : ℕ) (r : Rec) (t : List ℕ) → i < length J → r ≡ get_or J i r → p ≤ i → fold (finding_after p) nothing_found (take i J) ≡ open_at p i → r ≡ Bind t → token_of J p ≡ Some t
bound-here J p i r t lt is le read bind =
    let b : Binding = record { number = i + 1; token = t } in
    let one : (finding_after p (open_at p i) r).bind ≡ Some b = rw bind (bound-one p i t) in
    let all : binding_of J p ≡ Some b = ap (λ (f : Finding). f.bind) (split p J i r lt is read) ∙ kept-all p (finding_after p (open_at p i) r) b (drop (i + 1) J) one (omega arith) in
    ap (option_map (λ (x : Binding). x.token)) all

no-bind : (p i : ℕ) (r : Rec) → p ≤ i → is_mark r ≡ true → ((finding_after p (open_at p i) r).bind ≡ None) × ((finding_after p (open_at p i) r).read.live ≢ Some p)
no-bind p i (Issue n w) le mark = (rw (eqb-no (i + 1) p (omega arith)) refl, λ h. let same : i + 1 ≡ p = cc in omega arith)
no-bind p i Clear le mark = (refl, λ h. absurd (cc))
no-bind p i Expire le mark = (refl, λ h. absurd (cc))
no-bind p i (Boot places) le mark = (refl, λ h. absurd (cc))
no-bind p i (Start issues places) le mark = (refl, λ h. absurd (cc))
no-bind p i (Bind t) le mark = absurd (cc)
no-bind p i (Order k c) le mark = absurd (cc)
no-bind p i (Done m d) le mark = absurd (cc)
no-bind p i (Load u c) le mark = absurd (cc)

-- a mark that is met first leaves none
pub ended-here : (J : List Rec) (p i : ℕ) (r : Rec) → i < length J → r ≡ get_or J i r → p ≤ i → fold (finding_after p) nothing_found (take i J) ≡ open_at p i → is_mark r ≡ true → token_of J p ≡ None
ended-here J p i r lt is le read mark =
    let one = no-bind p i r le mark in
    let all : binding_of J p ≡ None = ap (λ (f : Finding). f.bind) (split p J i r lt is read) ∙ gone-all p (finding_after p (open_at p i) r) (drop (i + 1) J) one.0 (omega arith) one.1 in
    ap (option_map (λ (x : Binding). x.token)) all

-- and so does the end
pub none-found : (J : List Rec) (p i : ℕ) → length J ≤ i → fold (finding_after p) nothing_found (take i J) ≡ open_at p i → token_of J p ≡ None
none-found J p i le read =
    let all : binding_of J p ≡ None = ap (λ (f : Finding). f.bind) (ap (fold (finding_after p) nothing_found) (sym (take_all i J le)) ∙ read) in
    ap (option_map (λ (x : Binding). x.token)) all
