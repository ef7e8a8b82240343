-- The members of a denomination's answer, put in one by one.
use Rattle.std.proofs.Common.{◌≡◌, ◌≢◌, ℕ, zero, suc, ◌+◌, ◌<◌, ◌≤◌, List, ◌∷◌, length, get_or, drop, refl, sym, ◌∙◌, ap, arith}
use Rattle.std.specs.Prelude.{fold}
use Rattle.std.proofs.Math.Seq.{drop-cons}
use Rattle.std.proofs.lemmas.Bool.{lt-ltb}
use Rattle.std.proofs.lemmas.List.{drop_all}
use Rattle.serde_json.specs.Data.{Members}
use Rattle.xfs_base.specs.declared.counts.Counts.{Counts}
use Rattle.xfs_base.specs.declared.money.NoteKind.{NoteKind}
use Rattle.xfs_dispenser.specs.Denominations.{with_count, with_currency}
use Rattle.xfs_dispenser.specs.Units.{kinds_with}
use Rattle.xfs_dispenser.proofs.PlanLaws.{drop-here, units-some, units_from}

values-put : (unit n : ℕ) (ns : List ℕ) (old new : Members) → (n ≡ 0 → new ≡ old) → (n ≢ 0 → new ≡ with_count old (unit, n))
    → fold with_count new (units_from (unit + 1) ns) ≡ fold with_count old (units_from unit (n ∷ ns))
values-put unit zero ns old new none some = ap (λ ms. fold with_count ms (units_from (unit + 1) ns)) (none refl)
values-put unit (suc n) ns old new none some =
    ap (λ ms. fold with_count ms (units_from (unit + 1) ns)) (some (λ e. omega (arith, e))) ∙ sym (ap (fold with_count old) (units-some unit n ns))

-- the count of the next unit stands behind those that are there
pub values-step : (at n : ℕ) (counts : List ℕ) (old new whole : Members) → at < length counts → get_or counts at 0 ≡ n → (n ≡ 0 → new ≡ old) → (n ≢ 0 → new ≡ with_count old (at + 1, n))
    → fold with_count old (units_from (at + 1) (drop at counts)) ≡ whole → fold with_count new (units_from (at + 1 + 1) (drop (at + 1) counts)) ≡ whole
values-step at n counts old new whole low is none some listed =
    values-put (at + 1) n (drop (at + 1) counts) old new none some ∙ (ap (λ ns. fold with_count old (units_from (at + 1) ns)) (sym (drop-here counts at n low is)) ∙ listed)

-- no unit is left
pub values-end : (at : ℕ) (counts : List ℕ) (ms whole : Members) → length counts ≤ at → fold with_count ms (units_from (at + 1) (drop at counts)) ≡ whole → ms ≡ whole
values-end at counts ms whole high listed = rw (drop_all at counts high) at listed

kinds-here : (ks : List NoteKind) (i : ℕ) (k : NoteKind) → i < length ks → k ≡ get_or ks i k → drop i ks ≡ k ∷ drop (i + 1) ks
kinds-here ks i k low is = (let whole = drop-cons ks i k low in let one : suc i ≡ i + 1 = omega arith in cc)

kinds-some : (kind : NoteKind) (kinds : List NoteKind) (n : ℕ) (ns : List ℕ) → kinds_with (kind ∷ kinds) (suc n ∷ ns) ≡ kind ∷ kinds_with kinds ns
kinds-some kind kinds n ns = rw (lt-ltb 0 (suc n) (omega arith)) refl

currencies-put : (units : List NoteKind) (counts : Counts) (kind : NoteKind) (kinds : List NoteKind) (n : ℕ) (ns : List ℕ) (old new : Members) → (n ≡ 0 → new ≡ old) → (n ≢ 0 → new ≡ with_currency units counts old kind)
    → fold (with_currency units counts) new (kinds_with kinds ns) ≡ fold (with_currency units counts) old (kinds_with (kind ∷ kinds) (n ∷ ns))
currencies-put units counts kind kinds zero ns old new none some = ap (λ ms. fold (with_currency units counts) ms (kinds_with kinds ns)) (none refl)
currencies-put units counts kind kinds (suc n) ns old new none some =
    ap (λ ms. fold (with_currency units counts) ms (kinds_with kinds ns)) (some (λ e. omega (arith, e))) ∙ sym (ap (fold (with_currency units counts) old) (kinds-some kind kinds n ns))

-- the currency of the next unit
pub currencies-step : (units : List NoteKind) (counts : Counts) (at n : ℕ) (kind : NoteKind) (old new whole : Members) → at < length units → kind ≡ get_or units at kind → at < length counts.0 → get_or counts.0 at 0 ≡ n
    → (n ≡ 0 → new ≡ old) → (n ≢ 0 → new ≡ with_currency units counts old kind) → fold (with_currency units counts) old (kinds_with (drop at units) (drop at counts.0)) ≡ whole
    → fold (with_currency units counts) new (kinds_with (drop (at + 1) units) (drop (at + 1) counts.0)) ≡ whole
currencies-step units counts at n kind old new whole low is there there_is none some listed =
    let kinds = kinds-here units at kind low is in
    let ns = drop-here counts.0 at n there there_is in
    currencies-put units counts kind (drop (at + 1) units) n (drop (at + 1) counts.0) old new none some
    ∙ (ap (λ ks. fold (with_currency units counts) old (kinds_with ks (n ∷ drop (at + 1) counts.0))) (sym kinds) ∙ (ap (λ xs. fold (with_currency units counts) old (kinds_with (drop at units) xs)) (sym ns) ∙ listed))

-- no unit is left
pub currencies-end : (units : List NoteKind) (counts : Counts) (i : ℕ) (ms whole : Members) → length units ≤ i → fold (with_currency units counts) ms (kinds_with (drop i units) (drop i counts.0)) ≡ whole → ms ≡ whole
currencies-end units counts i ms whole high listed = rw (drop_all i units high) at listed
