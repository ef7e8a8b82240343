-- Pairs are told as they are read, each behind those before it.
use Rattle.std.proofs.Common.{◌≡◌, ℕ, zero, suc, ◌+◌, ◌<◌, ◌≤◌, ◌^◌, Bool, true, false, ◌&&◌, List, [], ◌∷◌, ◌++◌, length, None, Some, refl, sym, ◌∙◌, ap, arith, length-append, append_assoc}
use Rattle.std.specs.Prelude.{if◌then◌else◌, nat_lt, slice_get, codes, decimal, drop}
use Rattle.std.specs.declared.option.Option.{Option}
use Rattle.std.specs.Option.{option_map, option_and_then}
use Rattle.std.specs.Str.{bytes_eq}
use Rattle.std.proofs.lemmas.Bool.{and_parts, and_from, lt-ltb, ltb-true}
use Rattle.std.proofs.lemmas.List.{append-nil, drop_all}
use Rattle.std.proofs.lemmas.Slice.Eq.{bytes_eq-Decides}
use Rattle.xfs_evidence.specs.Told.{is_before, presented_key, presented_pairs, told_amount, told_amounts, are_rising}
use Rattle.xfs_evidence.specs.Evidence.{IsToldBy, unless_none}
use Rattle.xfs_evidence.specs.declared.shown.Shown.{Shown}
use Rattle.xfs_evidence.specs.Reading.{may_end, with_amount, told_onto, told_from}
use Rattle.xfs_evidence.proofs.Rising.{rising-push, rising-front}

-- the rest of the pairs tell the rest of the amounts
pub record IsRest (told : List (List ℕ × ℕ)) (pairs : List (List ℕ × List ℕ)) (all : List (List ℕ × ℕ)) : Type 0 where
  pub texts : List (List ℕ)
  pub pairs_are : pairs ≡ presented_pairs (length told + 1) texts
  pub amounts : List (List ℕ × ℕ)
  pub amounts_are : told_amounts texts ≡ Some amounts
  pub joined : all ≡ told ++ amounts
  pub few : length all ≤ 8
  pub rising : are_rising all ≡ true

same-pair : (p : List ℕ × List ℕ) (k : List ℕ) → p.0 ≡ k → p ≡ (k, p.1)
same-pair p k is = go p.0 p.1 is
  where
    go : (a b : List ℕ) → a ≡ k → ◌≡◌ {A = List ℕ × List ℕ} (a, b) (k, b)
    go a b e = cc

-- what is read, is told
pub read-tells : (told : List (List ℕ × ℕ)) (pairs : List (List ℕ × List ℕ)) (all : List (List ℕ × ℕ)) → length told ≤ 8 → are_rising told ≡ true → told_from told pairs ≡ Some all → IsRest told pairs all
read-tells told [] all few rising e = let same : told ≡ all = cc in record { texts = []; pairs_are = refl; amounts = []; amounts_are = refl; joined = sym same ∙ sym (append-nil told); few = rw (← same) few; rising = rw (← same) rising }
read-tells told (p ∷ ps) all few rising e = by (bytes_eq p.0 (presented_key (length told + 1))) refl (told_amount p.1) refl e (λ now more. read-tells now ps all more)
  where
    step : (a : List ℕ × ℕ) → bytes_eq p.0 (presented_key (length told + 1)) ≡ true → told_amount p.1 ≡ Some a → (b : Bool) → (nat_lt (length told) 8 && may_end told a.0) ≡ b
        → option_and_then (λ now. told_from now ps) (if b then Some (told ++ a ∷ []) else None) ≡ Some all
        → ((now : List (List ℕ × ℕ)) → length now ≤ 8 → are_rising now ≡ true → told_from now ps ≡ Some all → IsRest now ps all) → IsRest told (p ∷ ps) all
    step a key one false t e rest = cc
    step a key one true t e rest =
        let parts = and_parts (nat_lt (length told) 8) (may_end told a.0) t in
        let l = length-append told (a ∷ []) in
        let lt = ltb-true (length told) 8 parts.0 in
        let r = rest (told ++ a ∷ []) (omega (arith, l, lt)) (rising-push told a rising parts.1) e in
        let n : length (told ++ a ∷ []) + 1 ≡ length told + 1 + 1 = omega (arith, l) in
        let here : p ≡ (presented_key (length told + 1), p.1) = same-pair p (presented_key (length told + 1)) ((bytes_eq-Decides p.0 (presented_key (length told + 1))).0 key) in
        record {
          texts = p.1 ∷ r.texts;
          pairs_are = ap (λ q. q ∷ ps) here ∙ ap (λ q. (presented_key (length told + 1), p.1) ∷ q) (r.pairs_are ∙ ap (λ m. presented_pairs m r.texts) n);
          amounts = a ∷ r.amounts;
          amounts_are = rw (one, r.amounts_are) refl;
          joined = r.joined ∙ append_assoc told (a ∷ []) r.amounts;
          few = r.few;
          rising = r.rising;
        }

    by : (k : Bool) → bytes_eq p.0 (presented_key (length told + 1)) ≡ k → (o : Option (List ℕ × ℕ)) → told_amount p.1 ≡ o
        → option_and_then (λ now. told_from now ps) (if bytes_eq p.0 (presented_key (length told + 1)) then option_and_then (with_amount told) (told_amount p.1) else None) ≡ Some all
        → ((now : List (List ℕ × ℕ)) → length now ≤ 8 → are_rising now ≡ true → told_from now ps ≡ Some all → IsRest now ps all) → IsRest told (p ∷ ps) all
    by false key o one e rest = let none : None ≡ Some all = rw key at e in cc
    by true key None one e rest = let none : None ≡ Some all = rw (key, one) at e in cc
    by true key (Some a) one e rest = step a key one (nat_lt (length told) 8 && may_end told a.0) refl (rw (key, one) at e) rest

-- rising amounts rise in front of any of them
rising-take : (told : List (List ℕ × ℕ)) (a : List ℕ × ℕ) (rest : List (List ℕ × ℕ)) → are_rising (told ++ a ∷ rest) ≡ true → are_rising (told ++ a ∷ []) ≡ true
rising-take [] a rest r = refl
rising-take (x ∷ []) a rest r = and_from (is_before x.0 a.0) true (and_parts (is_before x.0 a.0) (are_rising (a ∷ rest)) r).0 refl
rising-take (x ∷ y ∷ told) a rest r =
    let parts = and_parts (is_before x.0 y.0) (are_rising (y ∷ told ++ a ∷ rest)) r in
    and_from (is_before x.0 y.0) (are_rising (y ∷ told ++ a ∷ [])) parts.0 (rising-take (y ∷ told) a rest parts.1)

told-first : (told : List (List ℕ × ℕ)) (t : List ℕ) (ts : List (List ℕ)) (amounts : List (List ℕ × ℕ)) (o : Option (List ℕ × ℕ)) (rest : Option (List (List ℕ × ℕ))) → told_amount t ≡ o → told_amounts ts ≡ rest
    → option_and_then (λ a. option_map (λ l. a ∷ l) rest) o ≡ Some amounts → length told + length amounts ≤ 8 → are_rising (told ++ amounts) ≡ true
    → ((now more : List (List ℕ × ℕ)) → told_amounts ts ≡ Some more → length now + length more ≤ 8 → are_rising (now ++ more) ≡ true → told_from now (presented_pairs (length now + 1) ts) ≡ Some (now ++ more))
    → told_from told (presented_pairs (length told + 1) (t ∷ ts)) ≡ Some (told ++ amounts)
told-first told t ts amounts None rest one more e few rising ih = cc
told-first told t ts amounts (Some a) None one more e few rising ih = cc
told-first told t ts amounts (Some a) (Some as_) one more e few rising ih =
    let is : a ∷ as_ ≡ amounts = cc in
    let l = length-append told (a ∷ []) in
    let size = ap length is in
    let joined : told ++ amounts ≡ (told ++ a ∷ []) ++ as_ = ap (λ x. told ++ x) (sym is) ∙ sym (append_assoc told (a ∷ []) as_) in
    let rising_here : are_rising (told ++ a ∷ as_) ≡ true = ap (λ x. are_rising (told ++ x)) is ∙ rising in
    let front = rising-front told a (rising-take told a as_ rising_here) in
    let room : nat_lt (length told) 8 ≡ true = lt-ltb (length told) 8 (omega (arith, few, size)) in
    let key : bytes_eq (presented_key (length told + 1)) (presented_key (length told + 1)) ≡ true = (bytes_eq-Decides (presented_key (length told + 1)) (presented_key (length told + 1))).1 refl in
    let n : length (told ++ a ∷ []) + 1 ≡ length told + 1 + 1 = omega (arith, l) in
    let rest = ih (told ++ a ∷ []) as_ more (omega (arith, few, size, l)) (ap are_rising (sym joined) ∙ rising) in
    let onto : told_onto told (presented_key (length told + 1), t) ≡ Some (told ++ a ∷ []) = rw (key, one) (rw (room, front.1) refl) in
    ap (λ o. option_and_then (λ now. told_from now (presented_pairs (length told + 1 + 1) ts)) o) onto ∙ ap (λ m. told_from (told ++ a ∷ []) (presented_pairs m ts)) (sym n) ∙ rest ∙ ap Some (sym joined)

-- what is told, is read
pub tells-read : (told : List (List ℕ × ℕ)) (texts : List (List ℕ)) (amounts : List (List ℕ × ℕ)) → told_amounts texts ≡ Some amounts → length told + length amounts ≤ 8 → are_rising (told ++ amounts) ≡ true
    → told_from told (presented_pairs (length told + 1) texts) ≡ Some (told ++ amounts)
tells-read told [] amounts e few rising = let none : [] ≡ amounts = cc in rw (← none) (ap Some (sym (append-nil told)))
tells-read told (t ∷ ts) amounts e few rising = told-first told t ts amounts (told_amount t) (told_amounts ts) refl refl e few rising (λ now more f g h. tells-read now ts more f g h)

-- the pair at a place
pub pair-at : (pairs : List (List ℕ × List ℕ)) (i : ℕ) (k v : List ℕ) → option_map (λ (p : List ℕ × List ℕ). p.0) (slice_get pairs i) ≡ Some k → option_map (λ (p : List ℕ × List ℕ). p.1) (slice_get pairs i) ≡ Some v → slice_get pairs i ≡ Some (k, v)
pair-at pairs i k v key value = go (slice_get pairs i) key value
  where
    go : (o : Option (List ℕ × List ℕ)) → option_map (λ (p : List ℕ × List ℕ). p.0) o ≡ Some k → option_map (λ (p : List ℕ × List ℕ). p.1) o ≡ Some v → o ≡ Some (k, v)
    go None a b = cc
    go (Some p) a b = let same : p.0 ≡ k = cc in let value : p.1 ≡ v = cc in ap Some (same-pair p k same ∙ ap (λ x. (k, x)) value)

drop-at : (pairs : List (List ℕ × List ℕ)) (i : ℕ) (p : List ℕ × List ℕ) → slice_get pairs i ≡ Some p → drop i pairs ≡ p ∷ drop (i + 1) pairs
drop-at [] i p h = cc
drop-at (q ∷ qs) zero p h = cc
drop-at (q ∷ qs) (suc i) p h = let e : suc i + 1 ≡ suc (i + 1) = omega arith in rw e (drop-at qs i p h)

-- one more pair is read, or none is
pub onto-on : (told next : List (List ℕ × ℕ)) (pairs : List (List ℕ × List ℕ)) (i : ℕ) (k v : List ℕ) → slice_get pairs i ≡ Some (k, v) → Some next ≡ told_onto told (k, v) → told_from next (drop (i + 1) pairs) ≡ told_from told (drop i pairs)
onto-on told next pairs i k v got onto = sym (ap (told_from told) (drop-at pairs i (k, v) got) ∙ ap (λ o. option_and_then (λ now. told_from now (drop (i + 1) pairs)) o) (sym onto))

pub onto-none : (told : List (List ℕ × ℕ)) (pairs : List (List ℕ × List ℕ)) (i : ℕ) (k v : List ℕ) → slice_get pairs i ≡ Some (k, v) → None ≡ told_onto told (k, v) → told_from told (drop i pairs) ≡ None
onto-none told pairs i k v got onto = ap (told_from told) (drop-at pairs i (k, v) got) ∙ ap (λ o. option_and_then (λ now. told_from now (drop (i + 1) pairs)) o) (sym onto)

-- what one more pair makes of the amounts
pub record IsOnto (told next : List (List ℕ × ℕ)) : Type 0 where
  pub amount : List ℕ × ℕ
  pub is : next ≡ told ++ amount ∷ []
  pub few : length next ≤ 8
  pub rising : are_rising told ≡ true → are_rising next ≡ true

pub onto-is : (told next : List (List ℕ × ℕ)) (p : List ℕ × List ℕ) → Some next ≡ told_onto told p → IsOnto told next
onto-is told next p onto = by (bytes_eq p.0 (presented_key (length told + 1))) (told_amount p.1) onto
  where
    step : (a : List ℕ × ℕ) (b : Bool) → (nat_lt (length told) 8 && may_end told a.0) ≡ b → Some next ≡ (if b then Some (told ++ a ∷ []) else None) → IsOnto told next
    step a false t e = cc
    step a true t e =
        let is : next ≡ told ++ a ∷ [] = cc in
        let parts = and_parts (nat_lt (length told) 8) (may_end told a.0) t in
        let lt = ltb-true (length told) 8 parts.0 in
        let l = length-append told (a ∷ []) in
        record { amount = a; is = is; few = rw is (omega (arith, l, lt)); rising = λ r. rw is (rising-push told a r parts.1) }

    by : (k : Bool) (o : Option (List ℕ × ℕ)) → Some next ≡ (if k then option_and_then (with_amount told) o else None) → IsOnto told next
    by false o e = cc
    by true None e = cc
    by true (Some a) e = step a (nat_lt (length told) 8 && may_end told a.0) refl e

pub onto-listed : (told next : List (List ℕ × ℕ)) → IsOnto told next → Some next ≡ unless_none next
onto-listed told next o = rw o.is (some told)
  where
    some : (xs : List (List ℕ × ℕ)) → Some (xs ++ o.amount ∷ []) ≡ unless_none (xs ++ o.amount ∷ [])
    some [] = refl
    some (x ∷ xs) = refl

-- pairs that aren't read tell nothing
pub none-told : (pairs : List (List ℕ × List ℕ)) (s : Shown) → told_from [] (drop 1 pairs) ≡ None → IsToldBy pairs s → ⊥
none-told pairs s none t =
    let tells = t.tells in
    let behind : drop 1 pairs ≡ presented_pairs 1 tells.texts = ap (drop 1) tells.pairs_are in
    let read = tells-read [] tells.texts t.amounts tells.amounts_are (omega (arith, tells.few)) tells.rising in
    let never : None ≡ Some t.amounts = sym none ∙ ap (told_from []) behind ∙ read in
    cc

-- and pairs that are read, tell
pub all-told : (pairs : List (List ℕ × List ℕ)) (s : Shown) (amounts : List (List ℕ × ℕ)) → slice_get pairs 0 ≡ Some (codes "ISSUE", decimal s.issue) → 1 ≤ s.issue → s.issue < 2 ^ 64 → Some amounts ≡ told_from [] (drop 1 pairs) → s.amounts ≡ unless_none amounts
    → IsToldBy pairs s
all-told pairs s amounts first low high read listed =
    let r = read-tells [] (drop 1 pairs) amounts (omega arith) refl (sym read) in
    let same : amounts ≡ r.amounts = r.joined in
    record {
      amounts = amounts;
      tells = record {
        low = low;
        high = omega (arith, high);
        texts = r.texts;
        pairs_are = drop-at pairs 0 (codes "ISSUE", decimal s.issue) first ∙ ap (λ l. (codes "ISSUE", decimal s.issue) ∷ l) r.pairs_are;
        amounts_are = r.amounts_are ∙ ap Some (sym same);
        few = r.few;
        rising = r.rising;
      };
      amounts_are = listed;
    }

-- all are read once none is left
pub read-all : (told : List (List ℕ × ℕ)) (pairs : List (List ℕ × List ℕ)) (i : ℕ) → length pairs ≤ i → told_from told (drop i pairs) ≡ told_from [] (drop 1 pairs) → Some told ≡ told_from [] (drop 1 pairs)
read-all told pairs i past rest = sym (ap (told_from told) (drop_all i pairs past)) ∙ rest

-- what the last of amounts is
pub may_end-last : (amounts : List (List ℕ × ℕ)) (a : List ℕ × ℕ) (i : ℕ) (c : List ℕ) → slice_get amounts i ≡ Some a → length amounts ≡ i + 1 → may_end amounts c ≡ is_before a.0 c
may_end-last [] a i c got e = cc
may_end-last (x ∷ []) a zero c got e = let same : x ≡ a = cc in ap (λ (y : List ℕ × ℕ). is_before y.0 c) same
may_end-last (x ∷ []) a (suc i) c got e = cc
may_end-last (x ∷ y ∷ rest) a zero c got e = absurd (omega (arith, e))
may_end-last (x ∷ y ∷ rest) a (suc i) c got e = may_end-last (y ∷ rest) a i c got (omega (arith, e))
