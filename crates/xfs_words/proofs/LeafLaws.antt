-- What `clap` says of the words behind the first, computed for the commands of the table.
use Rattle.std.proofs.Common.{◌≡◌, ◌∙◌, ℕ, false, refl, sym, ap, ap₂, List, [], ◌∷◌, Some, codes}
use Rattle.clap.specs.Walk.{Held, Row, Text, Walk, first_of, one_of, finished, nothing_held, rows_after, settled, walked}
use Rattle.clap.specs.Simple.{Shape}
use Rattle.clap.specs.Kinds.{Kinds, or_else, value_kinds}
use Rattle.clap.specs.Faults.{check_fault, defaults_fault, level_fault, settle_fault, turn_fault, walk_fault}
use Rattle.clap.specs.declared.builder.value_parser.ValueParser.TheVariants.{Unsigned}
use Rattle.clap.specs.declared.error.kind.ErrorKind.{ErrorKind}
use Rattle.clap.specs.declared.error.kind.ErrorKind.TheVariants.{UnknownArgument}
use Rattle.xfs_words.proofs.ClapLaws.{sub, turn_is, walked_is, at_place}
use Rattle.xfs_words.specs.Table.{begins_with_hyphen, currency_rule, number_rule}

no_kinds : (k : ErrorKind) (ks : Kinds) → k ∷ ks ≡ [] → ⊥
no_kinds k ks e = cc

pub both_none : (a b : Kinds) → or_else a b ≡ [] → (a ≡ []) × (b ≡ [])
both_none [] b e = (refl, e)
both_none (k ∷ ks) b e = absurd (no_kinds k ks e)

pub no_more : (a : Kinds) → or_else a [] ≡ a
no_more [] = refl
no_more (k ∷ ks) = refl

-- the kinds of a walk's words, and of what is held behind it
abbrev leaf_from : Shape → Kinds → Held → Kinds
leaf_from s own end = or_else own (or_else (settle_fault s.rules s.args_override_self end)
    (or_else (defaults_fault (settled s.rules end).rows s.rules) (check_fault s (finished s.rules end) false)))

-- ---- a command without arguments

abbrev bare : Text → Shape
bare name = sub name []

pub bare_alone : (name : Text) → level_fault (bare name) [] nothing_held [] false [] ≡ []
unfolding walk_fault defaults_fault
bare_alone name = refl

pub bare_more : (name x : Text) (rest : List Text) → begins_with_hyphen x ≡ false → level_fault (bare name) [] nothing_held (x ∷ rest) false [] ≡ [] → ⊥
unfolding walk_fault
bare_more name x rest plain e =
    let first = (both_none _ _ (both_none _ _ e).0).0 in
    let stray : ◌≡◌ {A = Kinds} (UnknownArgument ∷ []) [] = sym (turn_is (bare name) nothing_held 1 x plain) ∙ first in
    no_kinds UnknownArgument [] stray

-- ---- a command with a number

abbrev numbered : Text → ℕ → Shape
numbered name most = sub name (number_rule most ∷ [])

abbrev number_held : Text → Held
number_held x = record { rows = []; pending = Some (codes "number", x ∷ []); skip = 0 }

number_walked : (name : Text) (most : ℕ) (x : Text) → begins_with_hyphen x ≡ false → walked (numbered name most).rules [] (at_place nothing_held 1) x ≡ at_place (number_held x) 2
number_walked name most x plain = walked_is (numbered name most) nothing_held 1 x plain

pub number_missing : (name : Text) (most : ℕ) → level_fault (numbered name most) [] nothing_held [] false [] ≡ [] → ⊥
unfolding walk_fault defaults_fault
number_missing name most e = cc

-- the number alone is looked at
pub number_alone : (name : Text) (most : ℕ) (x : Text) → begins_with_hyphen x ≡ false
    → level_fault (numbered name most) [] nothing_held (x ∷ []) false [] ≡ value_kinds false (Unsigned 1 most) x
unfolding walk_fault defaults_fault
number_alone name most x plain =
    ap₂ (λ (k : Kinds) (w : Walk). leaf_from (numbered name most) (or_else k []) w.held) (turn_is (numbered name most) nothing_held 1 x plain) (number_walked name most x plain)
    ∙ no_more _ ∙ no_more _

pub number_more : (name : Text) (most : ℕ) (x y : Text) (rest : List Text) → begins_with_hyphen x ≡ false → begins_with_hyphen y ≡ false
    → level_fault (numbered name most) [] nothing_held (x ∷ y ∷ rest) false [] ≡ [] → ⊥
unfolding walk_fault
number_more name most x y rest plain_x plain_y e =
    let w = walked (numbered name most).rules [] (at_place nothing_held 1) x in
    let second : turn_fault (numbered name most) [] w y ≡ [] = (both_none _ _ (both_none _ _ (both_none _ _ e).0).1).0 in
    let stray : ◌≡◌ {A = Kinds} (UnknownArgument ∷ []) [] = sym (turn_is (numbered name most) (number_held x) 2 y plain_y)
    ∙ ap (λ w. turn_fault (numbered name most) [] w y) (sym (number_walked name most x plain_x)) ∙ second in
    no_kinds UnknownArgument [] stray

pub number_row : (name : Text) (most : ℕ) (x : Text) → begins_with_hyphen x ≡ false → one_of (codes "number") (rows_after (numbered name most).rules [] (x ∷ [])) ≡ Some x
number_row name most x plain = ap (λ (w : Walk). one_of (codes "number") (finished (numbered name most).rules w.held)) (number_walked name most x plain)

-- ---- the command with a currency and a number

abbrev client : Shape
client = sub (codes "client") (currency_rule ∷ number_rule 1000000 ∷ [])

abbrev currency_held : Text → Held
currency_held x = record { rows = []; pending = Some (codes "currency", x ∷ []); skip = 0 }

-- the row of the currency
abbrev currency_rows : Text → List Row
currency_rows x = (settled client.rules (currency_held x)).rows

abbrev amount_held : Text → Text → Held
amount_held x y = record { rows = currency_rows x; pending = Some (codes "number", y ∷ []); skip = 0 }

currency_walked : (x : Text) → begins_with_hyphen x ≡ false → walked client.rules [] (at_place nothing_held 1) x ≡ at_place (currency_held x) 2
currency_walked x plain = walked_is client nothing_held 1 x plain

amount_walked : (x y : Text) → begins_with_hyphen x ≡ false → begins_with_hyphen y ≡ false
    → walked client.rules [] (walked client.rules [] (at_place nothing_held 1) x) y ≡ at_place (amount_held x y) 3
amount_walked x y plain_x plain_y = ap (λ w. walked client.rules [] w y) (currency_walked x plain_x) ∙ walked_is client (currency_held x) 2 y plain_y

pub client_missing : level_fault client [] nothing_held [] false [] ≡ [] → ⊥
unfolding walk_fault defaults_fault
client_missing e = cc

pub client_short : (x : Text) → begins_with_hyphen x ≡ false → level_fault client [] nothing_held (x ∷ []) false [] ≡ [] → ⊥
unfolding walk_fault defaults_fault
client_short x plain e =
    let is = ap₂ (λ (k : Kinds) (w : Walk). leaf_from client (or_else k []) w.held) (turn_is client nothing_held 1 x plain) (currency_walked x plain) in
    let none = sym is ∙ e in
    cc

-- the number alone is looked at
pub client_whole : (x y : Text) → begins_with_hyphen x ≡ false → begins_with_hyphen y ≡ false
    → level_fault client [] nothing_held (x ∷ y ∷ []) false [] ≡ value_kinds false (Unsigned 1 1000000) y
unfolding walk_fault defaults_fault
client_whole x y plain_x plain_y =
    ap₂ (λ (k : Kinds) (w : Walk). leaf_from client (or_else k (or_else (turn_fault client [] (walked client.rules [] (at_place nothing_held 1) x) y) [])) w.held)
    (turn_is client nothing_held 1 x plain_x) (amount_walked x y plain_x plain_y)
    ∙ ap (λ w. leaf_from client (or_else (turn_fault client [] w y) []) (amount_held x y)) (currency_walked x plain_x)
    ∙ ap (λ k. leaf_from client (or_else k []) (amount_held x y)) (turn_is client (currency_held x) 2 y plain_y)
    ∙ no_more _ ∙ no_more _

pub client_more : (x y z : Text) (rest : List Text) → begins_with_hyphen x ≡ false → begins_with_hyphen y ≡ false → begins_with_hyphen z ≡ false
    → level_fault client [] nothing_held (x ∷ y ∷ z ∷ rest) false [] ≡ [] → ⊥
unfolding walk_fault
client_more x y z rest plain_x plain_y plain_z e =
    let w = walked client.rules [] (walked client.rules [] (at_place nothing_held 1) x) y in
    let third : turn_fault client [] w z ≡ [] = (both_none _ _ (both_none _ _ (both_none _ _ (both_none _ _ e).0).1).1).0 in
    let stray : ◌≡◌ {A = Kinds} (UnknownArgument ∷ []) [] = sym (turn_is client (amount_held x y) 3 z plain_z)
    ∙ ap (λ w. turn_fault client [] w z) (sym (amount_walked x y plain_x plain_y)) ∙ third in
    no_kinds UnknownArgument [] stray

pub client_amount : (x y : Text) → begins_with_hyphen x ≡ false → begins_with_hyphen y ≡ false → one_of (codes "number") (rows_after client.rules [] (x ∷ y ∷ [])) ≡ Some y
client_amount x y plain_x plain_y = ap (λ (w : Walk). one_of (codes "number") (finished client.rules w.held)) (amount_walked x y plain_x plain_y)

pub client_letters : (x y : Text) → begins_with_hyphen x ≡ false → begins_with_hyphen y ≡ false → first_of (codes "currency") (rows_after client.rules [] (x ∷ y ∷ [])) ≡ Some x
client_letters x y plain_x plain_y = ap (λ (w : Walk). first_of (codes "currency") (finished client.rules w.held)) (amount_walked x y plain_x plain_y)
