-- The fields of a line, one behind the other.
use Rattle.std.proofs.Common.{◌≡◌, ℕ, ◌<◌, ◌==◌, true, List, [], ◌∷◌, length, get_or, None, Some, ap, sym, subst, ◌∙◌, arith}
use Rattle.std.specs.Prelude.{is_some, MatchOption}
use Rattle.std.specs.Borrow.{Bor}
use Rattle.std.specs.declared.option.Option.{Option}
use Rattle.std.proofs.lemmas.List.Splits.{length-slice_split}
use Rattle.xfs_base.specs.declared.counts.Counts.{Counts}
use Rattle.xfs_script.specs.Fields.{fields}
use Rattle.xfs_script.specs.Counts.{SpellsCounts}
use Rattle.xfs_script.specs.Dispense.{HasFields}
use Rattle.xfs_script.specs.TokenLines.{IsHex, IsMac}

abbrev Parts : List ℕ → List ℕ → Option (Bor (List ℕ)) → Type 0
Parts text first behind = MatchOption behind (fields text ≡ first ∷ []) (λ b. fields text ≡ first ∷ fields b.now)

pub parts_some : (text first : List ℕ) (behind : Option (Bor (List ℕ))) (b : Bor (List ℕ)) → behind ≡ Some b → Parts text first behind → fields text ≡ first ∷ fields b.now
parts_some text first behind b is parts = (let P : Option (Bor (List ℕ)) → Type 0 = λ o. Parts text first o in subst P is parts)

pub parts_more : (text first : List ℕ) (behind : Option (Bor (List ℕ))) → is_some behind ≡ true → Parts text first behind → 1 < length (fields text)
parts_more text first None some parts = absurd (let bad : ⊥ = cc in bad)
parts_more text first (Some b) some parts = omega (arith, ap length parts, length-slice_split (λ c. c == 32) b.now)

pub no_three : (text behind rest first second : List ℕ) → fields text ≡ first ∷ fields behind → fields behind ≡ second ∷ fields rest → 1 < length (fields rest) → (a b c : List ℕ) → fields text ≡ a ∷ b ∷ c ∷ [] → ⊥
no_three text behind rest first second one two more a b c is = omega (arith, ap length one, ap length two, ap length is)

pub no_spelled : (text verb token field : List ℕ) → fields text ≡ verb ∷ token ∷ field ∷ [] → ((counts : Counts) → SpellsCounts field counts → ⊥) → (other : List ℕ) (counts : Counts) → HasFields text other counts → ⊥
no_spelled text verb token field is none other counts h =
    let P : List ℕ → Type 0 = λ f. SpellsCounts f counts in
    let same : h.field ≡ field = ap (λ l. get_or l 2 field) (sym h.line ∙ is) in
    none counts (subst P same h.spells)

pub no_mac : (text verb first second : List ℕ) → fields text ≡ verb ∷ first ∷ second ∷ [] → ((a b : List ℕ) → IsHex first a → IsHex second b → ⊥) → (key message : List ℕ) → IsMac text key message → ⊥
no_mac text verb first second is none key message m =
    let P : List ℕ → Type 0 = λ f. IsHex f key in
    let Q : List ℕ → Type 0 = λ f. IsHex f message in
    let one : m.first ≡ first = ap (λ l. get_or l 1 first) (sym m.line ∙ is) in
    let two : m.second ≡ second = ap (λ l. get_or l 2 second) (sym m.line ∙ is) in
    none key message (subst P one m.key_is) (subst Q two m.message_is)
