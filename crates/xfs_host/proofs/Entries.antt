-- What a map has at its keys, in their order.
use Rattle.std.proofs.Common.{◌≡◌, ℕ, suc, List, [], ◌∷◌, Ok, Err, Some, Option, Vec, Global, BTreeMap, nat_cmp, map, slice_get, refl, sym, ◌∙◌, ap, ap₂}
use Rattle.std.specs.Prelude.{IfOk, OnOk}
use Rattle.std.specs.declared.result.Result.{Result}
use Rattle.std.specs.Map.{keys_of}
use Rattle.std.specs.BTreeMap.{get, keys, IsOrdered}
use Rattle.std.proofs.lemmas.Cmp.{nat_cmp_total}
use Rattle.std.proofs.lemmas.Map.Entries.{btree_map_get_place}
use Rattle.xfs_host.specs.Book.{Book, account_in, listed, rising}
use Rattle.xfs_host.specs.declared.account.Account.{Account}

-- a number with what is found there
abbrev pub found : ℕ × Account → ℕ × Option Account
found e = (e.0, Some e.1)

abbrev at_number : (ℕ → Option Account) → ℕ → ℕ × Option Account
at_number look k = (k, look k)

looked_up : (look : ℕ → Option Account) (es : List (ℕ × Account)) → ((i k : ℕ) (v : Account) → slice_get es i ≡ Some (k, v) → look k ≡ Some v) → map found es ≡ map (at_number look) (keys_of es)
looked_up look [] h = refl
looked_up look (e ∷ es) h =
    let here : found e ≡ at_number look e.0 = ap (λ (o : Option Account). let p : ℕ × Option Account = (e.0, o) in p) (sym (h 0 e.0 e.1 refl)) in
    ap₂ (λ x xs. x ∷ xs) here (looked_up look es (λ i k v at. h (suc i) k v at))

same_looks : (f g : ℕ → Option Account) → ((q : ℕ) → f q ≡ g q) → (ks : List ℕ) → map (at_number f) ks ≡ map (at_number g) ks
same_looks f g h [] = refl
same_looks f g h (k ∷ ks) =
    let here : at_number f k ≡ at_number g k = ap (λ (o : Option Account). let p : ℕ × Option Account = (k, o) in p) (h k) in
    ap₂ (λ x xs. x ∷ xs) here (same_looks f g h ks)

-- the entries of the map of the accounts are those that are listed
pub listed_entries : {E : Type 0} (b : Book) (accs : BTreeMap ℕ Account) (r : Result (Vec (ℕ × Account) Global) E) → ((q : ℕ) → get nat_cmp accs q ≡ account_in b q) → keys accs ≡ rising b
    → IfOk r (λ list. list.items ≡ accs.entries) → OnOk r (IsOrdered nat_cmp accs) → IfOk r (λ list. map found list.items ≡ listed b)
listed_entries b accs (Err e) accounts numbers is ordered = tt
listed_entries b accs (Ok list) accounts numbers is ordered =
    ap (map found) is
    ∙ looked_up (get nat_cmp accs) accs.entries (λ i k v at. btree_map_get_place nat_cmp_total accs i k v ordered at)
    ∙ same_looks (get nat_cmp accs) (account_in b) accounts (keys accs)
    ∙ ap (map (at_number (account_in b))) numbers
