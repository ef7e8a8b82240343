-- What a change at one key leaves of a map, with numbers or nonces as its keys.
use Rattle.std.proofs.Common.{◌≡◌, ⊎_elim, ℕ, Bool, true, false, cond, List, [], ◌∷◌, Some, Option, Vec, Global, BTreeMap, Ordering, Less, Equal, Greater, nat_cmp, is_eq, bytes_eq, IsSome, slice_get, refl, sym, ◌∙◌, ap, subst}
use Rattle.std.specs.Cmp.{eq_by_cmp_equiv}
use Rattle.std.specs.Cmp.Lexicographic.{slice_cmp, bytes_decides, nat_list_cmp_total, nat_list_eq_equiv}
use Rattle.std.specs.Ordering.{match_ordering}
use Rattle.std.specs.Map.{keys_of, lookup, KeepsOthers, IsKeyTest, AreApart}
use Rattle.std.specs.BTreeMap.{get, insert_entry, keys, UpdatesBy}
use Rattle.std.specs.BTreeSet.{insert_key}
use Rattle.std.proofs.lemmas.Bool.{cases_Bool, cond-true, cond-false}
use Rattle.std.proofs.lemmas.Map.Text.{is_eq-slice_cmp}
use Rattle.std.proofs.lemmas.Cmp.{nat_cmp_total}
use Rattle.std.proofs.lemmas.Map.Lookups.{exact_unsigned}
use Rattle.std.proofs.lemmas.Map.Views.{btree_map_contains_key_iff}
use Rattle.std.proofs.lemmas.Option.{get_or_from_slice_get, slice_get_within}
use Rattle.xfs_host.specs.Kept.{tx_at}

-- the order of the keys that are nonces
abbrev pub nonce_cmp : Vec ℕ Global → Vec ℕ Global → Ordering
nonce_cmp x y = slice_cmp nat_cmp x.items y.items

apart : (bs cs ks : List ℕ) → bytes_eq bs cs ≡ false → bytes_eq bs ks ≡ true → bytes_eq cs ks ≡ false
apart bs cs ks n y = nat_list_eq_equiv.symm cs ks ∙ sym (nat_list_eq_equiv.congr bs ks cs y) ∙ n

apart_in_order : (bs cs ks : List ℕ) → bytes_eq bs cs ≡ false → is_eq (slice_cmp nat_cmp bs ks) ≡ true → is_eq (slice_cmp nat_cmp cs ks) ≡ false
apart_in_order bs cs ks n y = is_eq-slice_cmp cs ks ∙ apart bs cs ks n (sym (is_eq-slice_cmp bs ks) ∙ y)

other_entries : {K X : Type 0} (eq : K → K → Bool) (test : K → Bool) (old new : List (K × X)) → KeepsOthers eq test old new → (other : K → Bool) → IsKeyTest eq other → AreApart test other → lookup other new ≡ lookup other old
unfolding KeepsOthers
other_entries eq test old new h = h

-- a change at a nonce leaves what was at each other
pub tx_at-updates : (bs : List ℕ) (m n : BTreeMap (Vec ℕ Global) ℕ) (w : Option ℕ) → UpdatesBy nonce_cmp (λ k. slice_cmp nat_cmp bs k.items) m n w → (cs : List ℕ) → tx_at n cs ≡ cond (bytes_eq bs cs) w (tx_at m cs)
tx_at-updates bs m n w h cs =
    ⊎_elim
    (λ y. subst (λ l. tx_at n l ≡ w) ((bytes_decides bs cs).0 y) h.1 ∙ sym (cond-true (bytes_eq bs cs) w (tx_at m cs) y))
    (λ e. other_entries _ _ _ _ h.3 _ (λ x y. (eq_by_cmp_equiv nat_list_cmp_total).congr cs x.items y.items) (λ k. apart_in_order bs cs k.items e) ∙ sym (cond-false (bytes_eq bs cs) w (tx_at m cs) e))
    (cases_Bool (bytes_eq bs cs))

-- the keys of entries with one more are the keys with one more
pub keys-insert_entry : {X : Type 0} (es : List (ℕ × X)) (k : ℕ) (v : X) → keys_of (insert_entry nat_cmp es k v) ≡ insert_key nat_cmp (keys_of es) k
keys-insert_entry [] k v = refl
keys-insert_entry (e ∷ es) k v = by_order (nat_cmp k e.0) e es k v (keys-insert_entry es k v)
  where
    by_order : {X : Type 0} (o : Ordering) (e : ℕ × X) (es : List (ℕ × X)) (k : ℕ) (v : X) → keys_of (insert_entry nat_cmp es k v) ≡ insert_key nat_cmp (keys_of es) k
        → keys_of (match_ordering o ((k, v) ∷ e ∷ es) ((e.0, v) ∷ es) (e ∷ insert_entry nat_cmp es k v)) ≡ match_ordering o (k ∷ e.0 ∷ keys_of es) (e.0 ∷ keys_of es) (e.0 ∷ insert_key nat_cmp (keys_of es) k)
    by_order Less e es k v h = refl
    by_order Equal e es k v h = refl
    by_order Greater e es k v h = ap (λ l. e.0 ∷ l) h

-- each key is looked up
pub at_key : {X : Type 0} (m : BTreeMap ℕ X) (i number : ℕ) → slice_get (keys m) i ≡ Some number → IsSome (get nat_cmp m number)
at_key m i number h = (btree_map_contains_key_iff nat_cmp_total exact_unsigned m number).1 (i, slice_get_within (keys m) i number h, get_or_from_slice_get (keys m) i number number h)
