-- A code of JSON data, by which a proof tells two of them apart: a tree of numbers that gives the data back.
use Rattle.std.specs.Prelude.{◌≡◌, ℕ, zero, suc, ℤ, Bool, true, false, List, [], ◌∷◌, Float, refl}
use mathlib.Core.Path.{sym, ◌∙◌, ap}
use Rattle.std.specs.Coded.{Coded}
use base.Stored.{Gv, gnil, gnum, gcons}
use lib.Ieee.{nan, inf, fin}
use lib.IntN.{pos, negsuc}
use Rattle.serde_json.specs.Data.{Num, unsigned, negative, float, Data, null, boolean, number, string, array, object, Items, no_items, item, Members, no_members, member}

abbrev pub number_in : Gv → ℕ
number_in gnil = 0
number_in (gnum n) = n
number_in (gcons a b) = 0

abbrev pub head_in : Gv → Gv
head_in gnil = gnil
head_in (gnum n) = gnil
head_in (gcons a b) = a

abbrev pub rest_in : Gv → Gv
rest_in gnil = gnil
rest_in (gnum n) = gnil
rest_in (gcons a b) = b

abbrev pub of_bool : Bool → Gv
of_bool true = gnum 1
of_bool false = gnum 0

abbrev pub bool_at : ℕ → Bool
bool_at zero = false
bool_at (suc n) = true

abbrev pub of_whole : ℤ → Gv
of_whole (pos n) = gcons (gnum 0) (gnum n)
of_whole (negsuc n) = gcons (gnum 1) (gnum n)

abbrev pub whole_at : ℕ → ℕ → ℤ
whole_at zero n = pos n
whole_at (suc k) n = negsuc n

abbrev pub integer_in : Gv → ℤ
integer_in g = whole_at (number_in (head_in g)) (number_in (rest_in g))

abbrev pub of_float : Float → Gv
of_float nan = gnil
of_float (inf s) = of_bool s
of_float (fin s m e) = gcons (of_bool s) (gcons (gnum m) (of_whole e))

abbrev pub float_in : Gv → Float
float_in gnil = nan
float_in (gnum n) = inf (bool_at n)
float_in (gcons a b) = fin (bool_at (number_in a)) (number_in (head_in b)) (integer_in (rest_in b))

abbrev pub of_num : Num → Gv
of_num (unsigned n) = gcons (gnum 0) (gnum n)
of_num (negative z) = gcons (gnum 1) (of_whole z)
of_num (float x) = gcons (gnum 2) (of_float x)

abbrev pub num_at : ℕ → Gv → Num
num_at zero g = unsigned (number_in g)
num_at (suc zero) g = negative (integer_in g)
num_at (suc (suc n)) g = float (float_in g)

abbrev pub of_text : List ℕ → Gv
of_text [] = gnil
of_text (b ∷ bs) = gcons (gnum b) (of_text bs)

abbrev pub text_in : Gv → List ℕ
text_in gnil = []
text_in (gnum n) = []
text_in (gcons a b) = number_in a ∷ text_in b

abbrev mutual
  pub of_data : Data → Gv
  of_data null = gnil
  of_data (boolean b) = gcons (gnum 0) (of_bool b)
  of_data (number n) = gcons (gnum 1) (of_num n)
  of_data (string s) = gcons (gnum 2) (of_text s)
  of_data (array ds) = gcons (gnum 3) (of_items ds)
  of_data (object ms) = gcons (gnum 4) (of_members ms)

  pub of_items : Items → Gv
  of_items no_items = gnil
  of_items (item d ds) = gcons (of_data d) (of_items ds)

  pub of_members : Members → Gv
  of_members no_members = gnil
  of_members (member k d ms) = gcons (of_text k) (gcons (of_data d) (of_members ms))

abbrev mutual
  pub data_in : Gv → Data
  data_in gnil = null
  data_in (gnum n) = null
  data_in (gcons gnil b) = null
  data_in (gcons (gcons x y) b) = null
  data_in (gcons (gnum zero) b) = boolean (bool_at (number_in b))
  data_in (gcons (gnum (suc zero)) b) = number (num_at (number_in (head_in b)) (rest_in b))
  data_in (gcons (gnum (suc (suc zero))) b) = string (text_in b)
  data_in (gcons (gnum (suc (suc (suc zero)))) b) = array (items_in b)
  data_in (gcons (gnum (suc (suc (suc (suc n))))) b) = object (members_in b)

  pub items_in : Gv → Items
  items_in gnil = no_items
  items_in (gnum n) = no_items
  items_in (gcons a b) = item (data_in a) (items_in b)

  pub members_in : Gv → Members
  members_in gnil = no_members
  members_in (gnum n) = no_members
  members_in (gcons a gnil) = no_members
  members_in (gcons a (gnum n)) = no_members
  members_in (gcons a (gcons b c)) = member (text_in a) (data_in b) (members_in c)

bool_back : (b : Bool) → bool_at (number_in (of_bool b)) ≡ b
bool_back true = refl
bool_back false = refl

whole_back : (z : ℤ) → integer_in (of_whole z) ≡ z
whole_back (pos n) = refl
whole_back (negsuc n) = refl

float_back : (x : Float) → float_in (of_float x) ≡ x
float_back nan = refl
float_back (inf true) = refl
float_back (inf false) = refl
float_back (fin s m e) = ap (λ b. fin b m (integer_in (of_whole e))) (bool_back s) ∙ ap (fin s m) (whole_back e)

num_back : (n : Num) → num_at (number_in (head_in (of_num n))) (rest_in (of_num n)) ≡ n
num_back (unsigned n) = refl
num_back (negative z) = ap negative (whole_back z)
num_back (float x) = ap float (float_back x)

text_back : (s : List ℕ) → text_in (of_text s) ≡ s
text_back [] = refl
text_back (b ∷ bs) = ap (λ r. b ∷ r) (text_back bs)

mutual
  pub data_back : (d : Data) → data_in (of_data d) ≡ d
  data_back null = refl
  data_back (boolean b) = ap boolean (bool_back b)
  data_back (number n) = ap number (num_back n)
  data_back (string s) = ap string (text_back s)
  data_back (array ds) = ap array (items_back ds)
  data_back (object ms) = ap object (members_back ms)

  pub items_back : (ds : Items) → items_in (of_items ds) ≡ ds
  items_back no_items = refl
  items_back (item d ds) = ap (λ x. item x (items_in (of_items ds))) (data_back d) ∙ ap (item d) (items_back ds)

  pub members_back : (ms : Members) → members_in (of_members ms) ≡ ms
  members_back no_members = refl
  members_back (member k d ms) =
      ap (λ x. member x (data_in (of_data d)) (members_in (of_members ms))) (text_back k)
      ∙ ap (λ x. member k x (members_in (of_members ms))) (data_back d)
      ∙ ap (member k d) (members_back ms)

abbrev pub data_code : Coded Data
data_code = record { code = of_data; inj = λ x y e. sym (data_back x) ∙ ap data_in e ∙ data_back y }
