-- What `clap` says of words of the table, computed.
use Rattle.std.proofs.Common.{◌≡◌, ◌∙◌, ℕ, cond, true, false, refl, subst, sym, ap, ap₂, List, [], ◌∷◌, ◌++◌, Some, None, inl, inr, is_some}
use Rattle.std.specs.Prelude.{find, option_map, ◌&&◌}
use Rattle.std.specs.Str.{bytes_eq}
use Rattle.clap.specs.Lexer.{long_of, short_of}
use Rattle.clap.specs.Walk.{Held, Names, Row, Rule, Step, Text, Walk, after_step, answers_to, arg_by_index, finished, idle, long_or_other, nothing_held, plain_word, rows_after, settled, short_or_plain, subcommand_met, subcommand_or_other, to_positional, value, walk, walk_from, walked, word_met}
use Rattle.clap.specs.Simple.{Shape, built, built_leaf, entered, inherited, label_of, marked_built, names_of, subcommand_of, with_leaf_noted}
use Rattle.clap.specs.Kinds.{HasKind, Kinds, or_else}
use Rattle.clap.specs.Faults.{check_fault, defaults_fault, entered_fault, fault_of, flag_word_fault, is_simple_and_free, level_fault, settle_fault, step_fault, turn_fault, walk_fault, word_fault}
use Rattle.clap.specs.Words.{App, kind_of}
use Rattle.clap.specs.declared.error.Error.{Error}
use Rattle.clap.specs.declared.error.kind.ErrorKind.TheVariants.{OutOfMemory}
use Rattle.clap.proofs.OnLiterals.{clap_on_literals}
use Rattle.clap.proofs.WalkLemmas.{walk_stopped}
use Rattle.xfs_words.specs.Table.{begins_with_hyphen, leaf, table}

pub simple_table : is_simple_and_free table ≡ true
unfolding clap_on_literals
simple_table = refl

-- ---- an app that is the table

pub table_taken : (a : App) (words : List Text) → a ≡ table → fault_of a words ≡ [] → fault_of table words ≡ []
table_taken a words is = subst (λ x. fault_of x words ≡ []) is

-- where `clap` finds no fault in the words, an error is want of memory
pub memory_alone : (a : App) (words : List Text) (error : Error) → a ≡ table → fault_of table words ≡ [] → HasKind (fault_of a words) error
    → kind_of error ≡ OutOfMemory
memory_alone a words error is none has =
    let kinds : HasKind [] error = subst (λ k. HasKind k error) (ap (λ x. fault_of x words) is ∙ none) has in
    elim kinds [ inl memory ↦ memory | inr other ↦ absurd other ]

-- ---- words without a hyphen

no_long : (x : Text) → begins_with_hyphen x ≡ false → long_of x ≡ None
no_long [] e = refl
no_long (b ∷ bs) e = rw e refl

no_short : (x : Text) → begins_with_hyphen x ≡ false → short_of x ≡ None
no_short [] e = refl
no_short (b ∷ bs) e = rw e refl

no_dashes : (x : Text) → begins_with_hyphen x ≡ false → bytes_eq x (45 ∷ 45 ∷ []) ≡ false
no_dashes [] e = refl
no_dashes (b ∷ bs) e = rw e refl

abbrev pub at_place : Held → ℕ → Walk
at_place h position = record { held = h; waiting = idle; position = position; is_trailing = false; stopped = None }

-- a word without a hyphen goes to the positional of its place
module _ (s : Shape) (h : Held) (position : ℕ) (x : Text) (plain : begins_with_hyphen x ≡ false) where
  met : word_met s.rules [] false idle position x h ≡ (h, value)
  met = ap (λ b. cond b (h, Rattle.clap.specs.Walk.trailing position) (long_or_other s.rules idle x (long_of x) h)) (no_dashes x plain)
      ∙ ap (λ o. long_or_other s.rules idle x o h) (no_long x plain)
      ∙ ap (λ o. short_or_plain s.rules idle x o h) (no_short x plain)

  pub walked_is : walked s.rules [] (at_place h position) x ≡ to_positional s.rules (arg_by_index s.rules position) x (at_place h position) h
  unfolding walked
  walked_is = ap (λ (p : Held × Step). after_step s.rules x (at_place h position) p.0 p.1) met

  no_word_fault : word_fault s [] false idle x h ≡ []
  no_word_fault = ap (λ b. cond b [] (flag_word_fault s.rules s.args_override_self (long_of x) x h)) (no_dashes x plain)
      ∙ ap (λ o. flag_word_fault s.rules s.args_override_self o x h) (no_long x plain)
      ∙ rw (no_short x plain) refl

  pub turn_is : turn_fault s [] (at_place h position) x ≡ step_fault s position h value
  turn_is = ap₂ (λ (k : Kinds) (p : Held × Step). or_else k (step_fault s position p.0 p.1)) no_word_fault met

-- ---- the first word

-- the command of a name, built below the table
abbrev pub sub : Text → List Rule → Shape
sub name rules = built_leaf (inherited (with_leaf_noted (marked_built table.top)) (leaf name rules))

abbrev top : Shape
top = (built table).top

abbrev names : Names
names = names_of (built table)

-- nothing but the words of a subcommand that was met is left
abbrev stopped_at : Text → List Text → Walk
stopped_at name rest = record (walk_from nothing_held) { stopped = Some (name, rest) }

stopped_fault : (name : Text) (seen rest : List Text) → walk_fault top names (stopped_at name seen) rest ≡ []
unfolding walk_fault walked
stopped_fault name seen [] = refl
stopped_fault name seen (x ∷ xs) = stopped_fault name (seen ++ x ∷ []) xs

abbrev level_from : Walk → Kinds → Kinds
level_from w own = or_else own (or_else (entered_fault (built table) w.stopped) (or_else (settle_fault top.rules top.args_override_self w.held)
    (or_else (defaults_fault (settled top.rules w.held).rows top.rules)
    (check_fault top (finished top.rules w.held) (is_some (entered (built table) w.stopped))))))

module _ (name : Text) (rules : List Rule) (meets : walked top.rules names (walk_from nothing_held) name ≡ stopped_at name [])
    (passes : turn_fault top names (walk_from nothing_held) name ≡ []) (found : find (λ s. answers_to name (label_of s)) (built table).subs ≡ Some (sub name rules)) where
  walk_is : (rest : List Text) → walk top.rules names nothing_held (name ∷ rest) ≡ stopped_at name rest
  walk_is rest = ap (λ w. Rattle.std.specs.Prelude.fold (walked top.rules names) w rest) meets ∙ sym (walk_stopped top.rules names (walk_from nothing_held) name [] rest)

  own_fault : (rest : List Text) → walk_fault top names (walk_from nothing_held) (name ∷ rest) ≡ []
  unfolding walk_fault
  own_fault rest = ap₂ (λ k w. or_else k (walk_fault top names w rest)) passes meets ∙ stopped_fault name [] rest

  pub sub_fault : (rest : List Text) → fault_of table (name ∷ rest) ≡ or_else (level_fault (sub name rules) [] nothing_held rest false []) []
  unfolding defaults_fault
  sub_fault rest = ap₂ level_from (walk_is rest) (own_fault rest) ∙ rw found refl

  pub sub_rows : (rest : List Text) → subcommand_of table (name ∷ rest) ≡ Some (name, rows_after (sub name rules).rules [] rest)
  sub_rows rest = ap (λ (w : Walk). entered (built table) w.stopped) (walk_is rest) ∙ rw found refl
