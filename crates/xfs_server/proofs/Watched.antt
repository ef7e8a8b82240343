-- What a watch's news says of the touches to come.
use Rattle.std.proofs.Common.{◌≡◌, ℕ, zero, suc, ◌+◌, List, [], ◌∷◌, ◌++◌, None, Some, refl, ap, sym, ◌∙◌, arith, rules}
use Rattle.std.specs.Prelude.{option_map}
use Rattle.std.specs.declared.option.Option.{Option}
use Rattle.xfs_mech.specs.Watches.{Hands}
use Rattle.xfs_mech.specs.declared.touch.News.{News}
use Rattle.xfs_mech.specs.declared.touch.Touch.{Touch}
use Rattle.xfs_server.specs.Workers.{IsQuietEnd}

pub touch_first : (a b : Option (List Touch)) (touch : Touch) → Hands a (News.Touch touch) b → a ≡ option_map (λ rest. touch ∷ rest) b
touch_first None b touch e = rw e refl
touch_first (Some old) None touch e = absurd e
touch_first (Some old) (Some new) touch e = ap Some e

pub quiet_same : (a b : Option (List Touch)) → Hands a News.Quiet b → a ≡ b
quiet_same None b e = sym e
quiet_same (Some old) None e = absurd e
quiet_same (Some old) (Some new) e = ap Some (e.0 ∙ sym e.1)

pub quiet_end : (a b : Option (List Touch)) → Hands a News.Quiet b → IsQuietEnd 1 b
quiet_end None b e = rw e tt
quiet_end (Some old) None e = absurd e
quiet_end (Some old) (Some new) e = e.1

pub failed_same : (a b : Option (List Touch)) → Hands a News.Failed b → a ≡ b
failed_same None b e = sym e
failed_same (Some old) None e = absurd e
failed_same (Some old) (Some new) e = ap Some (sym e)

-- once none is to come, none is
none_left : (xs list : List Touch) → xs ++ list ≡ [] → list ≡ []
none_left [] list e = e
none_left (x ∷ xs) list e = absurd (cons_is_nil x (xs ++ list) e)
  where
    cons_is_nil : (y : Touch) (ys : List Touch) → y ∷ ys ≡ [] → ⊥
    cons_is_nil y ys p = search rules

none_left_told : (xs : List Touch) (a c : Option (List Touch)) → IsQuietEnd 1 a → a ≡ option_map (λ rest. xs ++ rest) c → IsQuietEnd 1 c
none_left_told xs a None quiet e = tt
none_left_told xs a (Some list) quiet e = none_left xs list (rw e at quiet)

pub quiet_join : (q r : ℕ) (xs : List Touch) (a c : Option (List Touch)) → IsQuietEnd q a → a ≡ option_map (λ rest. xs ++ rest) c → IsQuietEnd r c → IsQuietEnd (q + r) c
quiet_join zero r xs a c first e second = let sum : 0 + r ≡ r = omega arith in rw sum second
quiet_join (suc q) r xs a c first e second = let sum : suc q + r ≡ suc (q + r) = omega arith in rw sum (none_left_told xs a c first e)
