-- What a page shows after it was filled, and after some of it was handed over.
use Rattle.std.proofs.Common.{◌≡◌, ℕ, ◌+◌, ◌-◌, ◌<◌, ◌≤◌, min, List, [], ◌++◌, length, take, drop, Some, refl, sym, ◌∙◌, ap, ap₂, arith, drop-drop, length-take, length-drop, take-append-drop, length-append, append_assoc, append-nil}
use Rattle.std.proofs.lemmas.List.{drop-take}
use Rattle.xfs_disk.specs.Disk.{Gives}
use Rattle.std.proofs.lemmas.List.{take-append-le, drop-append-le}
use Rattle.std.proofs.Math.Seq.{take-add}
use Rattle.std.specs.declared.option.Option.{Option}
use Rattle.xfs_base.specs.Causes.{IfTold}
use Rattle.xfs_journal.proofs.Told.{on_told, from_told}
use Rattle.xfs_journal.specs.Paging.{PageView, Shows, Since, Took}

pub windowed : (bytes : List ℕ) (from to n : ℕ) (w : List ℕ) → n ≤ to - from → w ≡ take (to - from) (drop from bytes) → take (to - (from + n)) (drop (from + n) bytes) ≡ drop n w
windowed bytes from to n w le is =
    let m = to - (from + n) in
    sym (ap (λ (l : List ℕ). drop n l) (is ∙ ap (λ (k : ℕ). take k (drop from bytes)) (omega (arith, le))) ∙ drop-take n m (drop from bytes) ∙ ap (λ (l : List ℕ). take m l) (drop-drop n from bytes))

-- behind an empty page
pub shown : (all into : List ℕ) (p : PageView) (at len n m : ℕ) → Shows all p → at ≡ p.at → len ≡ p.len → Gives all at n into → n ≤ length into → m ≡ min n (len - at)
    → Shows all (record { window = take (m - 0) (drop 0 into); at = at; len = len })
shown all into p at len n m shows at_is len_is gives fits is =
    let same : m ≡ n = omega (arith, is, gives.within, shows.len_is, len_is) in
    let window : take (m - 0) (drop 0 into) ≡ take n (drop at all) = ap (λ (k : ℕ). take k into) (omega (arith, same)) ∙ gives.bytes in
    let size : length (take n (drop at all)) ≡ n = omega (arith, length-take n (drop at all), length-drop at all, gives.within) in
    record {
      window_is = sym (take-append-drop n (drop at all)) ∙ ap₂ (λ (a b : List ℕ). a ++ b) (sym window) (drop-drop n at all ∙ ap (λ (k : ℕ). drop (at + k) all) (sym size ∙ ap length (sym window)));
      len_is = shows.len_is ∙ sym len_is;
      within = omega (arith, shows.within, at_is);
    }

-- after n bytes were handed over
shows_rest : (b : List ℕ) (q r : PageView) (n : ℕ) → Shows b q → n ≤ length q.window → r.window ≡ drop n q.window → r.at ≡ q.at + n → r.len ≡ q.len → Shows b r
shows_rest b q r n shows le window at len =
    let far = drop (q.at + length q.window) b in
    let size : length (drop q.at b) ≡ length q.window + length far = ap length shows.window_is ∙ length-append q.window far in
    let left : length r.window ≡ length q.window - n = ap length window ∙ length-drop n q.window in
    record {
      window_is = ap (λ (k : ℕ). drop k b) at ∙ sym (drop-drop n q.at b) ∙ ap (λ (l : List ℕ). drop n l) shows.window_is ∙ drop-append-le n q.window far le
          ∙ ap₂ (λ (w : List ℕ) (k : ℕ). w ++ drop k b) (sym window) (omega (arith, at, left, le));
      len_is = shows.len_is ∙ sym len;
      within = omega (arith, at, le, size, length-drop q.at b, shows.within);
    }

module _ (h : Option (List ℕ)) (p q r : PageView) (o o1 o2 : List ℕ) where
  pub took_given : (n most : ℕ) → IfTold h (λ b. Shows b q) → q.at ≡ p.at → q.len ≡ p.len → n ≡ min most (length q.window) → o1 ≡ o ++ take n q.window
      → r.window ≡ drop n q.window → r.at ≡ q.at + n → r.len ≡ q.len → Took h p r o o1 n
  took_given n most shows at len count out window at_now len_now =
      let le : n ≤ length q.window = omega (arith, count) in
      record {
        at_is = at_now ∙ ap (λ (k : ℕ). k + n) at;
        len_is = len_now ∙ len;
        count = ap length out ∙ length-append o (take n q.window) ∙ ap (λ (k : ℕ). length o + k) (omega (arith, length-take n q.window, le));
        bytes = on_told h (λ b. (o1 ≡ o ++ take n (drop p.at b)) × Shows b r) (λ b known.
            let s = from_told h (λ b. Shows b q) shows b known in
            let same : take n q.window ≡ take n (drop p.at b) = sym (take-append-le n q.window (drop (q.at + length q.window) b) le) ∙ ap (λ (l : List ℕ). take n l) (sym s.window_is) ∙ ap (λ (k : ℕ). take n (drop k b)) at in
            (out ∙ ap (λ (l : List ℕ). o ++ l) same, shows_rest b q r n s le window at_now len_now));
      }

  pub took_more : (k m : ℕ) → Took h p q o o1 k → Took h q r o1 o2 m → Took h p r o o2 (k + m)
  took_more k m first then = record {
    at_is = omega (arith, first.at_is, then.at_is);
    len_is = then.len_is ∙ first.len_is;
    count = omega (arith, first.count, then.count);
    bytes = on_told h (λ b. (o2 ≡ o ++ take (k + m) (drop p.at b)) × Shows b r) (λ b known.
        let f = from_told h (λ b. (o1 ≡ o ++ take k (drop p.at b)) × Shows b q) first.bytes b known in
        let t = from_told h (λ b. (o2 ≡ o1 ++ take m (drop q.at b)) × Shows b r) then.bytes b known in (
          t.0 ∙ ap₂ (λ (x y : List ℕ). x ++ y) f.0 (ap (λ (n : ℕ). take m (drop n b)) first.at_is ∙ ap (λ (l : List ℕ). take m l) (sym (drop-drop k p.at b)))
              ∙ append_assoc o (take k (drop p.at b)) (take m (drop k (drop p.at b))) ∙ ap (λ (l : List ℕ). o ++ l) (sym (take-add k m (drop p.at b))),
          t.1,
        ));
  }

pub took_none : (h : Option (List ℕ)) (p : PageView) (o : List ℕ) → IfTold h (λ b. Shows b p) → Took h p p o o 0
took_none h p o shows = record {
  at_is = omega arith;
  len_is = refl;
  count = omega arith;
  bytes = on_told h (λ b. (o ≡ o ++ take 0 (drop p.at b)) × Shows b p) (λ b known. (sym (append-nil o), from_told h (λ b. Shows b p) shows b known));
}

pub took_shows : (h : Option (List ℕ)) (p q : PageView) (o o1 : List ℕ) (k : ℕ) → Took h p q o o1 k → IfTold h (λ b. Shows b q)
took_shows h p q o o1 k took = on_told h (λ b. Shows b q) (λ b known. (from_told h (λ b. (o1 ≡ o ++ take k (drop p.at b)) × Shows b q) took.bytes b known).1)

pub since_more : (h : Option (List ℕ)) (p q : PageView) (from : ℕ) (o o1 : List ℕ) (k : ℕ) → Since h p from o → Took h p q o o1 k → Since h q from o1
since_more h p q from o o1 k since took = record {
  at_is = omega (arith, since.at_is, took.at_is, took.count);
  bytes = on_told h (λ b. (o1 ≡ take (length o1) (drop from b)) × Shows b q) (λ b known.
      let s = from_told h (λ b. (o ≡ take (length o) (drop from b)) × Shows b p) since.bytes b known in
      let t = from_told h (λ b. (o1 ≡ o ++ take k (drop p.at b)) × Shows b q) took.bytes b known in (
        t.0 ∙ ap₂ (λ (x y : List ℕ). x ++ y) s.0 (ap (λ (n : ℕ). take k (drop n b)) since.at_is ∙ ap (λ (l : List ℕ). take k l) (sym (drop-drop (length o) from b)))
            ∙ sym (take-add (length o) k (drop from b)) ∙ ap (λ (n : ℕ). take n (drop from b)) (sym took.count),
        t.1,
      ));
}

pub since_shows : (h : Option (List ℕ)) (p : PageView) (from : ℕ) (o : List ℕ) → Since h p from o → IfTold h (λ b. Shows b p)
since_shows h p from o since = on_told h (λ b. Shows b p) (λ b known. (from_told h (λ b. (o ≡ take (length o) (drop from b)) × Shows b p) since.bytes b known).1)

pub since_front : (h : Option (List ℕ)) (p : PageView) (from : ℕ) (o : List ℕ) → Since h p from o → (b : List ℕ) → h ≡ Some b → o ≡ take (length o) (drop from b)
since_front h p from o since b known = (from_told h (λ b. (o ≡ take (length o) (drop from b)) × Shows b p) since.bytes b known).0

pub since_none : (h : Option (List ℕ)) (p : PageView) (from : ℕ) → p.at ≡ from → IfTold h (λ b. Shows b p) → Since h p from []
since_none h p from is shows = record { at_is = omega (arith, is); bytes = on_told h (λ b. ([] ≡ take 0 (drop from b)) × Shows b p) (λ b known. (refl, from_told h (λ b. Shows b p) shows b known)) }

pub since_short : (h : Option (List ℕ)) (p : PageView) (from : ℕ) (o : List ℕ) (k : ℕ) → Since h p from o → IfTold h (λ b. length b < p.at + k) → IfTold h (λ b. length (drop from b) < length o + k)
since_short h p from o k since short = on_told h (λ b. length (drop from b) < length o + k) (λ b known.
    let s = from_told h (λ b. (o ≡ take (length o) (drop from b)) × Shows b p) since.bytes b known in
    omega (arith, from_told h (λ b. length b < p.at + k) short b known, since.at_is, length-drop from b, s.1.within))
