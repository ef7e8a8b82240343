-- What one more record makes of the bytes.
use Rattle.std.proofs.Common.{◌≡◌, inl, inr, ℕ, ◌+◌, ◌-◌, ◌^◌, ◌<◌, ◌≤◌, List, [], ◌∷◌, ◌++◌, length, take, drop, false, true, true≢false, Some, None, is_some, refl, sym, ◌∙◌, ap, ap₂, subst, arith, append_assoc, append-nil, length-append, take_at}
use Rattle.std.specs.Prelude.{OnOk, Ok, Err, IfSome, slice_get, nat_lt, ◌||◌}
use Rattle.std.proofs.lemmas.List.{length_push}
use Rattle.xfs_journal.specs.declared.limits.Limits.{Limits}
use Rattle.std.specs.declared.option.Option.{Option}
use Rattle.std.specs.declared.result.Result.{Result}
use Rattle.std.specs.List.{AllByRecursion}
use Rattle.xfs_base.specs.Causes.{IfTold}
use Rattle.std.specs.Prelude.{Bool}
use Rattle.xfs_disk.specs.Disk.{Only}
use Rattle.xfs_disk.specs.Moments.{LeavesOnly}
use Rattle.xfs_disk.specs.declared.disk.Disk.{Ghosts}
use Rattle.xfs_journal.proofs.Moments.{started}
use Rattle.xfs_journal.specs.Gate.{HasOpened, IsClosed, IsOpened, IsEither, IsEitherOf}
use Rattle.xfs_journal.specs.Image.{IsImage, IsRecord, StandsFor, contents, end_of, blocks, framed, magic}
use Rattle.xfs_journal.specs.JournalView.{IsButForEighth, HasVersion, IsAtRest, IsKept, IsInDoubt, HasPossible, StandsForEither, exceeds}
use Rattle.xfs_journal.specs.Outcomes.{WritesAtMost}
use Rattle.xfs_journal.specs.declared.record.Rec.{Rec}
use Rattle.xfs_journal.proofs.Told.{on_told, from_told, both_told}

pub blocks-push : (J : List Rec) (r : Rec) → blocks (J ++ r ∷ []) ≡ blocks J ++ 1 ∷ framed r
blocks-push [] r = append-nil (1 ∷ framed r)
blocks-push (q ∷ J) r = ap (λ (l : List ℕ). 1 ∷ framed q ++ l) (blocks-push J r) ∙ sym (append_assoc (1 ∷ framed q) (blocks J) (1 ∷ framed r))

pub front-push : (v : ℕ) (J : List Rec) (r : Rec) → contents v (J ++ r ∷ []) ≡ contents v J ++ 1 ∷ framed r
front-push v J r = ap (λ (l : List ℕ). magic ++ v ∷ l) (blocks-push J r)

pub end-push : (J : List Rec) (r : Rec) → end_of (J ++ r ∷ []) ≡ end_of J + length (1 ∷ framed r)
end-push J r = omega (arith, ap length (blocks-push J r), length-append (blocks J) (1 ∷ framed r))

pub front-size : (v : ℕ) (J : List Rec) → length (contents v J) ≡ end_of J
front-size v J = omega arith

pub all-push : (J : List Rec) (r : Rec) → AllByRecursion IsRecord J → IsRecord r → AllByRecursion IsRecord (J ++ r ∷ [])
all-push [] r all is = (is, tt)
all-push (q ∷ J) r all is = (all.0, all-push J r all.1 is)

pub front-longer : (J : List Rec) (r : Rec) (n : ℕ) → n ≡ end_of J → n + length (framed r ++ 0 ∷ []) ≡ end_of (J ++ r ∷ [])
front-longer J r n is = omega (arith, is, end-push J r, length-append (framed r) (0 ∷ []))

none_told : true ≡ false → ⊥
none_told e = true≢false e

module _ (J : List Rec) (all : AllByRecursion IsRecord J) where
  pub closed_image : (v : ℕ) (c : List ℕ) → IsClosed (contents v J) c → IsImage c J
  closed_image v c closed = record { of_table = all; version = v; gate = closed.0; rest = closed.1; closed = closed.2; bytes_are = closed.3 }

  pub opened_image : (v : ℕ) (r : Rec) → IsRecord r → (c : List ℕ) → IsOpened (contents v J) (framed r ++ 0 ∷ []) c → IsImage c (J ++ r ∷ [])
  opened_image v r is c opened = record {
    of_table = all-push J r all is;
    version = v;
    gate = 0;
    rest = opened.0;
    closed = λ e. absurd (omega (arith, e));
    bytes_are = opened.1 ∙ ap (λ (l : List ℕ). contents v J ++ 1 ∷ l) (append_assoc (framed r) (0 ∷ []) opened.0)
        ∙ sym (append_assoc (contents v J) (1 ∷ framed r) (0 ∷ opened.0)) ∙ ap (λ (l : List ℕ). l ++ 0 ∷ opened.0) (sym (front-push v J r));
  }

  pub either_stands : (v : ℕ) (r : Rec) → IsRecord r → (c : List ℕ) → IsEither (contents v J) (framed r ++ 0 ∷ []) c → StandsForEither J r c
  either_stands v r is c (inl closed) = inl (inl (closed_image v c closed))
  either_stands v r is c (inr opened) = inr (inl (opened_image v r is c opened))

  pub either_possible : (v : ℕ) (r : Rec) → IsRecord r → (c : List ℕ) → IsEither (contents v J) (framed r ++ 0 ∷ []) c → HasPossible J (Some r) c
  either_possible v r is c (inl closed) = (J, inl refl, closed_image v c closed)
  either_possible v r is c (inr opened) = (J ++ r ∷ [], inr (r, refl, refl), opened_image v r is c opened)

-- an image, with any eighth byte
module _ (J : List Rec) (b : List ℕ) (image : IsImage b J) where
  pub eighth : slice_get b 7 ≡ Some image.version
  eighth = ap (λ (l : List ℕ). slice_get l 7) image.bytes_are

  pub spared : (c : List ℕ) → IsButForEighth b c → IsImage c J
  spared c (v, is) = record {
    of_table = image.of_table;
    version = v;
    gate = image.gate;
    rest = image.rest;
    closed = image.closed;
    bytes_are = is ∙ ap (λ (l : List ℕ). magic ++ v ∷ drop 8 l) image.bytes_are;
  }

  pub only_spares : (images : List ℕ → Type 0) → Only b images → (c : List ℕ) → images c → IsButForEighth b c
  only_spares images only c left = (image.version, only c left ∙ image.bytes_are ∙ ap (λ (l : List ℕ). magic ++ image.version ∷ drop 8 l) (sym image.bytes_are))

-- an image is what is asked of a disk before a write
module _ (J : List Rec) (end : ℕ) (place : end ≡ end_of J) (b : List ℕ) (image : IsImage b J) where
  pub front_is : take end b ≡ contents image.version J
  front_is = ap (λ (l : List ℕ). take end l) image.bytes_are ∙ take_at (contents image.version J) (image.gate ∷ image.rest) end (front-size image.version J ∙ sym place)

  pub starts : (end < length b) × IsClosed (take end b) b
  starts = (
    omega (arith, ap length image.bytes_are, length-append (contents image.version J) (image.gate ∷ image.rest), front-size image.version J, place),
    (image.gate, image.rest, image.closed, image.bytes_are ∙ ap (λ (l : List ℕ). l ++ image.gate ∷ image.rest) (sym front_is)),
  )

pub on_ok : {T E : Type 0} (r : Result T E) (A B : Type 0) → (A → B) → OnOk r A → OnOk r B
on_ok (Ok x) A B f a = f a
on_ok (Err e) A B f a = a

-- the write of a record to a disk that held h and holds h2 now
module _ (h h2 : Option (List ℕ)) (images images2 : List ℕ → Type 0) (J : List Rec) (r : Rec) (end : ℕ) (bytes : List ℕ)
    (kept : IsKept h images J false end) (is : IsRecord r) (are : bytes ≡ framed r ++ 0 ∷ []) (told : is_some h2 ≡ is_some h) where
  at : (b : List ℕ) → h ≡ Some b → end ≡ end_of J
  at b known = from_told h (λ _. end ≡ end_of J) kept.place b known

  pub asks : IfTold h (λ all. (end < length all) × IsClosed (take end all) all)
  asks = on_told h (λ all. (end < length all) × IsClosed (take end all) all) (λ b known. starts J end (at b known) b (from_told h (IsAtRest images J) (kept.at_rest refl) b known).image)

  pub asks_images : IfTold h (λ _. (d : List ℕ) → images d → (end < length d) × IsClosed (take end d) d)
  asks_images = on_told h (λ _. (d : List ℕ) → images d → (end < length d) × IsClosed (take end d) d) (λ b known.
      let rest = from_told h (IsAtRest images J) (kept.at_rest refl) b known in
      (λ d was. starts J end (at b known) d (spared J b rest.image d (rest.durable d was))))

  pub stands_after : (b : List ℕ) → h ≡ Some b → (c : List ℕ) → IsEitherOf images end bytes c → StandsForEither J r c
  stands_after b known c (d, was, either) =
      let rest = from_told h (IsAtRest images J) (kept.at_rest refl) b known in
      let image = spared J b rest.image d (rest.durable d was) in
      let f = front_is J end (at b known) d image in
      either_stands J kept.of_table image.version r is c (subst (λ (l : List ℕ). IsEither (contents image.version J) l c) are (subst (λ (l : List ℕ). IsEither l bytes c) f either))

  possible_after : (b : List ℕ) → h ≡ Some b → (c : List ℕ) → IsEitherOf images end bytes c → HasPossible J (Some r) c
  possible_after b known c (d, was, either) =
      let rest = from_told h (IsAtRest images J) (kept.at_rest refl) b known in
      let image = spared J b rest.image d (rest.durable d was) in
      let f = front_is J end (at b known) d image in
      either_possible J kept.of_table image.version r is c (subst (λ (l : List ℕ). IsEither (contents image.version J) l c) are (subst (λ (l : List ℕ). IsEither l bytes c) f either))

  pub in_doubt_after : IfTold h (λ _. (c : List ℕ) → images2 c → IsEitherOf images end bytes c) → IsInDoubt h2 images2 J true (Some r)
  in_doubt_after left = record {
    none = λ e. absurd (true≢false e);
    of_table = is;
    possible = on_told h2 (λ _. (c : List ℕ) → images2 c → HasPossible J (Some r) c) (λ b now.
        let was = both_told h h2 told b now in
        (λ c l. possible_after was.0 was.1 c (from_told h (λ _. (f : List ℕ) → images2 f → IsEitherOf images end bytes f) left was.0 was.1 c l)));
  }

  pub kept_after : (next : ℕ) → end_of J + length bytes + 1 < 2 ^ 64 → (end + length bytes + 1 < 2 ^ 64 → next ≡ end + length bytes) → next + 1 < 2 ^ 64
      → HasOpened h h2 images2 end bytes → IsKept h2 images2 (J ++ r ∷ []) false next
  kept_after next fits next_is small opened = record {
    place = on_told h2 (λ _. next ≡ end_of (J ++ r ∷ [])) (λ c now.
        let was = both_told h h2 told c now in
        let place = at was.0 was.1 in
        next_is (omega (arith, place, fits)) ∙ ap (λ (l : List ℕ). end + length l) are ∙ front-longer J r end place);
    small = small;
    of_table = all-push J r kept.of_table is;
    at_rest = λ _. on_told h2 (IsAtRest images2 (J ++ r ∷ [])) (λ c now. both c now h refl);
  }
    where
      both : (c : List ℕ) → h2 ≡ Some c → (h' : Option (List ℕ)) → h ≡ h' → IsAtRest images2 (J ++ r ∷ []) c
      both c now None none = absurd (none_told (sym (ap is_some now) ∙ told ∙ ap is_some none))
      both c now (Some b) known =
          let o = from_told h2 (λ all. IsOpened (take end b) bytes all × Only all images2) (from_told h (λ old. IfTold h2 (λ all. IsOpened (take end old) bytes all × Only all images2)) opened b known) c now in
          let was = (from_told h (IsAtRest images J) (kept.at_rest refl) b known).image in
          let f = front_is J end (at b known) b was in
          let image = opened_image J kept.of_table was.version r is c (subst (λ (l : List ℕ). IsOpened (contents was.version J) l c) are (subst (λ (l : List ℕ). IsOpened l bytes c) f o.0)) in
          record { image = image; durable = only_spares (J ++ r ∷ []) c image images2 o.1 }

  -- the eighth byte stands in front of what is written
  pub version_after : HasOpened h h2 images2 end bytes → (v : Option ℕ) → HasVersion h v → HasVersion h2 v
  version_after opened v has = on_told h2 (λ all. IfSome v (λ n. slice_get all 7 ≡ Some n)) (λ c now.
      let told_before = both_told h h2 told c now in
      let b = told_before.0 in
      let known = told_before.1 in
      let o = from_told h2 (λ all. IsOpened (take end b) bytes all × Only all images2) (from_told h (λ old. IfTold h2 (λ all. IsOpened (take end old) bytes all × Only all images2)) opened b known) c now in
      let was = (from_told h (IsAtRest images J) (kept.at_rest refl) b known).image in
      let same : slice_get c 7 ≡ Some was.version = ap (λ (l : List ℕ). slice_get l 7) (o.0.1 ∙ ap (λ (l : List ℕ). l ++ 1 ∷ (bytes ++ o.0.0)) (front_is J end (at b known) b was)) in
      subst (λ (x : Option ℕ). IfSome v (λ n. x ≡ Some n)) (eighth J b was ∙ sym same) (from_told h (λ all. IfSome v (λ n. slice_get all 7 ≡ Some n)) has b known))

pub stands_at_rest : (h : Option (List ℕ)) (images : List ℕ → Type 0) (J : List Rec) (end : ℕ) → IsKept h images J false end → IfTold h (λ _. (c : List ℕ) → images c → StandsFor c J)
stands_at_rest h images J end kept = on_told h (λ _. (c : List ℕ) → images c → StandsFor c J) (λ b known.
    let rest = from_told h (IsAtRest images J) (kept.at_rest refl) b known in
    (λ c left. inl (spared J b rest.image c (rest.durable c left))))

pub told_image : (h : Option (List ℕ)) (J : List Rec) → IfTold h (λ all. IsImage all J) → IfTold h (λ all. StandsFor all J)
told_image h J image = on_told h (λ all. StandsFor all J) (λ b known. inl (from_told h (λ all. IsImage all J) image b known))

-- a disk that was read and synced
pub kept_synced : (h : Option (List ℕ)) (images : List ℕ → Type 0) (J : List Rec) (end : ℕ) → end ≡ end_of J → end + 1 < 2 ^ 64 → AllByRecursion IsRecord J
    → IfTold h (λ all. IsImage all J) → IfTold h (λ all. Only all images) → IsKept h images J false end
kept_synced h images J end place small all image durable = record {
  place = on_told h (λ _. end ≡ end_of J) (λ _ _. place);
  small = small;
  of_table = all;
  at_rest = λ _. on_told h (IsAtRest images J) (λ b known.
      let is = from_told h (λ all. IsImage all J) image b known in
      record { image = is; durable = only_spares J b is images (from_told h (λ all. Only all images) durable b known) });
}

pub passes_is : (limits : Limits) (base : ℕ) (J : List Rec) (r : Rec) (end : ℕ) (bytes : List ℕ) → base ≤ length J → end ≡ end_of J → bytes ≡ framed r ++ 0 ∷ []
    → exceeds limits base (J ++ r ∷ []) ≡ (nat_lt limits.records (length J - base + 1) || nat_lt limits.bytes (end + length bytes + 1))
passes_is limits base J r end bytes based place are =
    ap₂ (λ (n m : ℕ). nat_lt limits.records n || nat_lt limits.bytes m) (omega (arith, length_push J r, based))
    (ap (λ (m : ℕ). m + 1) (sym (front-longer J r end place) ∙ ap (λ (l : List ℕ). end + length l) (sym are)))

-- a journal whose disk was not called
pub still : {D : Type 0} (g : Ghosts D) (d : D) (J : List Rec) (r : Rec) (shut : Bool) (end : ℕ)
    → ((c : List ℕ) → g.images_since d (g.moment d) c → g.images d c) → IsKept (g.held d) (g.images d) J shut end → shut ≡ false → WritesAtMost g d d J r
still g d J r shut end now kept is_open =
    let at_rest = stands_at_rest (g.held d) (g.images d) J end (subst (λ (s : Bool). IsKept (g.held d) (g.images d) J s end) is_open kept) in
    let left : IfTold (g.held d) (λ _. (c : List ℕ) → g.images d c → StandsForEither J r c) = on_told (g.held d) (λ _. (c : List ℕ) → g.images d c → StandsForEither J r c) (λ b known c was.
    inl (from_told (g.held d) (λ _. (f : List ℕ) → g.images d f → StandsFor f J) at_rest b known c was)) in
    record {
      any_moment = on_told (g.held d) (λ _. LeavesOnly g d d (StandsForEither J r)) (λ b known.
          started g d (StandsForEither J r) (λ c was. from_told (g.held d) (λ _. (f : List ℕ) → g.images d f → StandsForEither J r f) left b known c (now c was)));
      images = left;
    }

-- a journal whose disk failed
pub kept_failed : (h h2 : Option (List ℕ)) (images images2 : List ℕ → Type 0) (J : List Rec) (shut : Bool) (end : ℕ) → is_some h2 ≡ is_some h → IsKept h images J shut end → IsKept h2 images2 J true end
kept_failed h h2 images images2 J shut end told kept = record {
  place = on_told h2 (λ _. end ≡ end_of J) (λ b now.
      let was = both_told h h2 told b now in
      from_told h (λ _. end ≡ end_of J) kept.place was.0 was.1);
  small = kept.small;
  of_table = kept.of_table;
  at_rest = λ s. absurd (true≢false s);
}
