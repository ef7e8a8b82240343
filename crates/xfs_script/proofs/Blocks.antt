-- A block of bytes that a source writes into, and its front that is dropped.
use Rattle.std.proofs.Common.{◌≡◌, ℕ, ◌+◌, ◌-◌, ◌≤◌, List, [], ◌++◌, length, take, drop, Ok, Err, IfOk, None, Some, refl, ap, sym, subst, ◌∙◌, arith, append_assoc, length-append, length-drop, min}
use Rattle.std.proofs.lemmas.List.{length-take-le, drop-take, drop-drop, take-append-le, append-nil, drop_all, drop_min}
use Rattle.std.proofs.Math.Seq.{take-append-add}
use Rattle.std.specs.declared.result.Result.{Result}
use Rattle.std.specs.declared.option.Option.{Option}
use Rattle.std.specs.Io.{ReadsAtMost}
use Rattle.std.specs.Io.KnownBytes.{Consumes, Keeps, ReadConsumes}
use Rattle.xfs_script.specs.Lines.{line_end}
use Rattle.xfs_script.specs.Reading.{Reading, Grows, Drops, GivesBehind}
use Rattle.xfs_script.proofs.Ends.{line_end-append}
use borrow.Rule.Slice.PartMut.{put_mid, post_of}
use Rattle.std.proofs.KnownBytes.{Consumes-nil, Consumes-trans}

-- the front of a block whose first bytes are dropped
pub skipped : (items : List ℕ) (start end count : ℕ) → start + count ≤ end → take (end - (start + count)) (drop (start + count) items) ≡ drop count (take (end - start) (drop start items))
skipped items start end count within =
    let e : end - start ≡ count + (end - (start + count)) = omega arith in
    rw (e, drop-take count (end - (start + count)) (drop start items), drop-drop count start items) refl

pub gives_is : (old into : List ℕ) (place k n : ℕ) (before after : Option (List ℕ)) → place ≤ length old → n ≤ length into → Consumes before after (take n into) → GivesBehind old (put_mid place k old into) place before after n
gives_is old into place k n before after within fits taken = record {
  bytes = take n into;
  many = length-take-le n into fits;
  block =
      let kept : length (take place old) ≡ place = length-take-le place old within in
      let most : take n (into ++ post_of place k old) ≡ take n into = take-append-le n into (post_of place k old) fits in
      let P : ℕ → Type 0 = λ m. take (m + n) (put_mid place k old into) ≡ take place old ++ take n into in
      subst P kept (take-append-add (take place old) (into ++ post_of place k old) n ∙ ap (λ xs. take place old ++ xs) most);
  taken = taken;
}

pub gives_from : {E : Type 0} (r : Result ℕ E) (old into : List ℕ) (place k : ℕ) (before after : Option (List ℕ)) → place ≤ length old → ReadsAtMost r into → ReadConsumes before after r into → IfOk r (GivesBehind old (put_mid place k old into) place before after)
gives_from (Ok n) old into place k before after within fits taken = gives_is old into place k n before after within (omega (arith, fits)) taken.0
gives_from (Err e) old into place k before after within fits taken = tt

pub Consumes-none : (x y : Option (List ℕ)) → Keeps x y → Consumes x y []
Consumes-none None y h = tt
Consumes-none (Some a) None h = h
Consumes-none (Some a) (Some b) h = sym h

pub Grows-same : (r : Reading) (x : Option (List ℕ)) → Grows r r x x
Grows-same r x = record {
  bytes = [];
  pending = sym (append-nil r.pending);
  given = omega arith;
  handed = refl;
  taken = Consumes-nil x;
}

pub Grows-trans : (r s t : Reading) (x y z : Option (List ℕ)) → Grows r s x y → Grows s t y z → Grows r t x z
Grows-trans r s t x y z p q = record {
  bytes = p.bytes ++ q.bytes;
  pending = q.pending ∙ (ap (λ xs. xs ++ q.bytes) p.pending ∙ append_assoc r.pending p.bytes q.bytes);
  given = omega (arith, p.given, q.given, length-append p.bytes q.bytes);
  handed = q.handed ∙ p.handed;
  taken = Consumes-trans x y z p.bytes q.bytes p.taken q.taken;
}

-- what a source gave is nothing where the count stays
pub Grows-measure : (r s : Reading) (x y : Option (List ℕ)) → Grows r s x y → length s.pending + r.given ≡ length r.pending + s.given
Grows-measure r s x y p = omega (arith, ap length p.pending, length-append r.pending p.bytes, p.given)

pub Drops-none : (r s : Reading) (x : Option (List ℕ)) → line_end r.pending ≡ length r.pending → s ≡ record r { pending = [] } → Drops r s x x
Drops-none r s x none cleared =
    let empty : s.pending ≡ [] = ap (λ k. k.pending) cleared in
    record {
      bytes = [];
      no_end = rw (append-nil r.pending) none;
      given = omega (arith, ap (λ k. k.given) cleared, ap length empty);
      handed = ap (λ k. k.handed) cleared;
      taken = rw empty (Consumes-nil x);
    }

-- nothing is kept, and the source gives more
pub Drops-more : (r s u : Reading) (x y z : Option (List ℕ)) → Drops r s x y → s.pending ≡ [] → Grows s u y z → Drops r u x z
Drops-more r s u x y z p empty q =
    let kept : u.pending ≡ q.bytes = q.pending ∙ ap (λ k. k ++ q.bytes) empty in
    let before : p.bytes ++ s.pending ≡ p.bytes = ap (λ k. p.bytes ++ k) empty ∙ append-nil p.bytes in
    record {
      bytes = p.bytes;
      no_end = p.no_end;
      given = omega (arith, p.given, q.given, ap length kept, ap length empty);
      handed = q.handed ∙ p.handed;
      taken = rw kept (Consumes-trans x y z p.bytes q.bytes (rw before at p.taken) q.taken);
    }

-- what is kept without a line feed is dropped too
pub Drops-all : (r u v : Reading) (x z : Option (List ℕ)) → Drops r u x z → line_end u.pending ≡ length u.pending → v ≡ record u { pending = [] } → Drops r v x z
Drops-all r u v x z p none cleared =
    let empty : v.pending ≡ [] = ap (λ k. k.pending) cleared in
    let e : r.pending ++ (p.bytes ++ u.pending) ≡ (r.pending ++ p.bytes) ++ u.pending = sym (append_assoc r.pending p.bytes u.pending) in
    record {
      bytes = p.bytes ++ u.pending;
      no_end = rw e (line_end-append (r.pending ++ p.bytes) u.pending p.no_end ∙ (ap (λ n. length (r.pending ++ p.bytes) + n) none ∙ sym (length-append (r.pending ++ p.bytes) u.pending)));
      given = omega (arith, p.given, ap (λ k. k.given) cleared, length-append p.bytes u.pending, ap length empty);
      handed = ap (λ k. k.handed) cleared ∙ p.handed;
      taken = rw (empty, append-nil (p.bytes ++ u.pending)) p.taken;
    }

pub Grows-searched : (r s : Reading) (x y : Option (List ℕ)) → Grows r s x y → line_end r.pending ≡ length r.pending → length r.pending ≤ line_end s.pending
Grows-searched r s x y p none =
    let e : line_end s.pending ≡ length r.pending + line_end p.bytes = ap line_end p.pending ∙ line_end-append r.pending p.bytes none in
    omega arith

pub cleared : (s t : Reading) (n : ℕ) → length s.pending ≤ n → t ≡ record s { pending = drop n s.pending } → t ≡ record s { pending = [] }
cleared s t n all e =
    let emptied : List ℕ → Reading = λ xs. record s { pending = xs } in
    e ∙ ap emptied (drop_all n s.pending all)

-- a line that ends at a place, and the byte behind it, are taken off the front of a block
pub line_off_is : (items : List ℕ) (start stop end many : ℕ) → start ≤ stop → stop ≤ length items → many ≡ min (end + 1) (stop - start)
    → take (stop - (start + many)) (drop (start + many) items) ≡ drop (end + 1) (take (stop - start) (drop start items))
line_off_is items start stop end many low high is =
    let kept : List ℕ = take (stop - start) (drop start items) in
    let long : length kept ≡ stop - start = length-take-le (stop - start) (drop start items) (omega (arith, length-drop start items)) in
    let most : many ≡ min (end + 1) (length kept) = omega arith in
    skipped items start stop many (omega arith) ∙ (ap (λ k. drop k kept) most ∙ drop_min (end + 1) kept)
