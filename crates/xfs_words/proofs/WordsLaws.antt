-- The words that `clap` takes are those of the table of commands.
use Rattle.std.proofs.Common.{◌≡◌, ◌∙◌, ℕ, cond, true, false, not, refl, sym, ap, subst, inl, inr, arith, List, [], ◌∷◌, Option, Some, None, Result, Ok, Err, IfErr, IfOk, MatchResult, is_some, codes}
use Rattle.std.specs.Prelude.{Box, String, option_map, string_bytes, unwrap_or, ◌&&◌}
use Rattle.std.specs.Box.{box_value}
use Rattle.std.specs.declared.alloc.Global.{Global}
use Rattle.std.specs.Str.{bytes_eq}
use Rattle.std.specs.Str.Parse.{digits_value, without_leading_plus}
use Rattle.clap.specs.Walk.{Row, Text, first_of, rows_after}
use Rattle.clap.specs.Simple.{subcommand_of, subcommand_rows}
use Rattle.clap.specs.Faults.{fault_of}
use Rattle.clap.specs.declared.parser.matches.SubCommand.{SubCommand}
use Rattle.clap.specs.declared.parser.matches.ArgMatches.TheViews.{out-SubCommand}
use Rattle.clap.proofs.WalkLemmas.{both}
use Rattle.xfs_base.specs.Values.{IsCurrency}
use Rattle.xfs_words.specs.Table.{HasName, HasNumber, IsMadeOf, IsName, IsWithdrawal, begins_with_hyphen, currency_rule, is_plain, number_rule, table}
use Rattle.xfs_words.specs.Words.{IsNumber, IsNumbered, Names, texts}
use Rattle.xfs_words.specs.declared.command.Command.{Command}
use Rattle.xfs_words.specs.declared.command.Command.TheVariants.{Guard, Token, Replay, Load, Serve, Client, Host, Audit, Fleet}
use Rattle.xfs_words.specs.declared.command.WordsFault.{WordsFault}
use Rattle.xfs_words.specs.declared.command.WordsFault.TheVariants.{Usage}
use Rattle.xfs_words.proofs.ClapLaws.{sub}
use Rattle.xfs_words.proofs.LeafLaws.{client_letters}
use Rattle.xfs_words.proofs.NumberLaws.{letters_plain, number_plain}
use Rattle.xfs_words.proofs.TableLaws.{all_plain, amount_is_found, audit_found, bare_taken, client_found, client_taken, fleet_found, guard_found, host_found, load_found, number_is_found, numbered_taken, replay_found, serve_found, taken_bare, taken_client, taken_numbered, token_found}

-- ---- words that name a command

pub plain_texts : (words : List (String Global)) → is_plain words ≡ all_plain (texts words)
plain_texts [] = refl
plain_texts (w ∷ ws) = ap (λ b. not (begins_with_hyphen (string_bytes w)) && b) (plain_texts ws)

-- they begin with no hyphen
numbered_plain : (name : Text) (most : ℕ) (ws : List Text) (n : ℕ) → begins_with_hyphen name ≡ false → IsNumbered name most ws n → all_plain ws ≡ true
numbered_plain name most ws n plain h = rw (h.words_are, plain, number_plain most h.text n h.number) refl

pub named_plain : (command : Command) (ws : List Text) → Names command ws → all_plain ws ≡ true
named_plain Guard ws h = rw h refl
named_plain Token ws h = rw h refl
named_plain Replay ws h = rw h refl
named_plain (Load n) ws h = numbered_plain (codes "load") 10000 ws n refl h
named_plain (Serve n) ws h = numbered_plain (codes "serve") 1000000 ws n refl h
named_plain (Client letters n) ws h = rw (h.words_are, letters_plain letters h.letters, number_plain 1000000 h.text n h.number) refl
named_plain Host ws h = rw h refl
named_plain Audit ws h = rw h refl
named_plain Fleet ws h = rw h refl

-- their first is a name
pub named_first : (command : Command) (ws : List Text) → Names command ws → HasName ws
named_first Guard ws h = subst HasName (sym h) (inl refl)
named_first Token ws h = subst HasName (sym h) (inr (inl refl))
named_first Replay ws h = subst HasName (sym h) (inr (inr (inl refl)))
named_first (Load n) ws h = subst HasName (sym h.words_are) (inr (inr (inr (inl refl))))
named_first (Serve n) ws h = subst HasName (sym h.words_are) (inr (inr (inr (inr (inl refl)))))
named_first (Client letters n) ws h = subst HasName (sym h.words_are) (inr (inr (inr (inr (inr (inl refl))))))
named_first Host ws h = subst HasName (sym h) (inr (inr (inr (inr (inr (inr (inl refl)))))))
named_first Audit ws h = subst HasName (sym h) (inr (inr (inr (inr (inr (inr (inr (inl refl))))))))
named_first Fleet ws h = subst HasName (sym h) (inr (inr (inr (inr (inr (inr (inr (inr refl))))))))

-- and `clap` takes them
pub named_taken : (command : Command) (ws : List Text) → Names command ws → fault_of table ws ≡ []
named_taken Guard ws h = ap (fault_of table) h ∙ bare_taken (codes "guard") guard_found
named_taken Token ws h = ap (fault_of table) h ∙ bare_taken (codes "token") token_found
named_taken Replay ws h = ap (fault_of table) h ∙ bare_taken (codes "replay") replay_found
named_taken (Load n) ws h =
    ap (fault_of table) h.words_are
    ∙ numbered_taken (codes "load") 10000 load_found h.text (number_plain 10000 h.text n h.number) n (omega arith) h.number
named_taken (Serve n) ws h =
    ap (fault_of table) h.words_are
    ∙ numbered_taken (codes "serve") 1000000 serve_found h.text (number_plain 1000000 h.text n h.number) n (omega arith) h.number
named_taken (Client letters n) ws h =
    ap (fault_of table) h.words_are
    ∙ client_taken letters h.text (letters_plain letters h.letters) (number_plain 1000000 h.text n h.number) n h.number
named_taken Host ws h = ap (fault_of table) h ∙ bare_taken (codes "host") host_found
named_taken Audit ws h = ap (fault_of table) h ∙ bare_taken (codes "audit") audit_found
named_taken Fleet ws h = ap (fault_of table) h ∙ bare_taken (codes "fleet") fleet_found

-- ---- one command

abbrev value_of : Text → ℕ
value_of text = digits_value 10 (without_leading_plus text)

-- the only command that the words may name
abbrev candidate : List Text → Option Command
candidate [] = None
candidate (word ∷ []) = cond (bytes_eq word (codes "guard")) (Some Guard) (cond (bytes_eq word (codes "token")) (Some Token) (cond (bytes_eq word (codes "replay")) (Some Replay) (cond (bytes_eq word (codes "host")) (Some Host) (cond (bytes_eq word (codes "audit")) (Some Audit) (Some Fleet)))))
candidate (word ∷ text ∷ []) = cond (bytes_eq word (codes "load")) (Some (Load (value_of text))) (Some (Serve (value_of text)))
candidate (word ∷ letters ∷ text ∷ rest) = Some (Client letters (value_of text))

named_candidate : (command : Command) (ws : List Text) → Names command ws → candidate ws ≡ Some command
named_candidate Guard ws h = ap candidate h
named_candidate Token ws h = ap candidate h
named_candidate Replay ws h = ap candidate h
named_candidate (Load n) ws h = ap candidate h.words_are ∙ ap (λ k. Some (Load k)) (sym h.number.value)
named_candidate (Serve n) ws h = ap candidate h.words_are ∙ ap (λ k. Some (Serve k)) (sym h.number.value)
named_candidate (Client letters n) ws h = ap candidate h.words_are ∙ ap (λ k. Some (Client letters k)) (sym h.number.value)
named_candidate Host ws h = ap candidate h
named_candidate Audit ws h = ap candidate h
named_candidate Fleet ws h = ap candidate h

-- words name one command at most
pub one_command : (a b : Command) (ws : List Text) → Names a ws → Names b ws → b ≡ a
one_command a b ws named_a named_b = ap (λ o. unwrap_or o a) (sym (named_candidate b ws named_b) ∙ named_candidate a ws named_a)

-- ---- the answer

-- the answer is the command that the words name, or says that they name none
abbrev pub Answers : List Text → Result Command WordsFault → Type 0
Answers ws result = MatchResult result (λ command. Names command ws) (λ fault. fault ≡ Usage → (command : Command) → ¬ (Names command ws))

-- words of `client` name a command only where the second is a currency
client_names : (command : Command) (letters text : Text) → Names command (codes "client" ∷ letters ∷ text ∷ []) → IsCurrency letters
client_names Guard letters text h = absurd cc
client_names Token letters text h = absurd cc
client_names Replay letters text h = absurd cc
client_names Host letters text h = absurd cc
client_names Audit letters text h = absurd cc
client_names Fleet letters text h = absurd cc
client_names (Load n) letters text h =
    let are = h.words_are in
    absurd cc
client_names (Serve n) letters text h =
    let are = h.words_are in
    absurd cc
client_names (Client other n) letters text h =
    let are = h.words_are in
    let same : other ≡ letters = cc in
    subst IsCurrency same h.letters

client_answers : (letters text : Text) (result : Result Command WordsFault) → IsNumber 1000000 text (digits_value 10 (without_leading_plus text))
    → IsWithdrawal letters (digits_value 10 (without_leading_plus text)) result → Answers (codes "client" ∷ letters ∷ text ∷ []) result
client_answers letters text (Ok command) number h =
    subst (λ c. Names c (codes "client" ∷ letters ∷ text ∷ [])) (sym h.1) (record { text = text; words_are = refl; letters = h.0; number = number })
client_answers letters text (Err fault) number h = λ is command names. h.1 (client_names command letters text names)

-- the name and the rows that were found
found_name : (name : Text) (rows : List Row) (other : Text) (more : List Row) → ◌≡◌ {A = Option (Text × List Row)} (Some (name, rows)) (Some (other, more)) → name ≡ other
found_name name rows other more e = ap (λ (o : Option (Text × List Row)). (unwrap_or o ([], [])).0) e

found_rows : (name : Text) (rows : List Row) (other : Text) (more : List Row) → ◌≡◌ {A = Option (Text × List Row)} (Some (name, rows)) (Some (other, more)) → rows ≡ more
found_rows name rows other more e = ap (λ (o : Option (Text × List Row)). (unwrap_or o ([], [])).1) e

module _ (rest : List Text) (plain : all_plain rest ≡ true) (name : Text) (rows : List Row) (result : Result Command WordsFault) (made : IsMadeOf name rows result) where
  abbrev Taken : Text → Type 0
  Taken word = fault_of table (word ∷ rest) ≡ []

  abbrev Found : Text → Type 0
  Found word = Some (name, rows) ≡ subcommand_of table (word ∷ rest)

  -- a command without arguments
  bare_answers : (word : Text) (command : Command) → rest ≡ [] → (Names command (word ∷ [])) → result ≡ Ok command → Answers (word ∷ rest) result
  bare_answers word command none named is = subst (λ ws. Answers (word ∷ ws) result) (sym none) (subst (Answers (word ∷ [])) (sym is) named)

  guard_answers : Taken (codes "guard") → Found (codes "guard") → Answers (codes "guard" ∷ rest) result
  guard_answers taken found =
      bare_answers (codes "guard") Guard (taken_bare (codes "guard") guard_found rest plain taken) refl (made.guard (found_name _ _ _ _ (found ∙ guard_found.1 rest)))

  token_answers : Taken (codes "token") → Found (codes "token") → Answers (codes "token" ∷ rest) result
  token_answers taken found =
      bare_answers (codes "token") Token (taken_bare (codes "token") token_found rest plain taken) refl (made.token (found_name _ _ _ _ (found ∙ token_found.1 rest)))

  replay_answers : Taken (codes "replay") → Found (codes "replay") → Answers (codes "replay" ∷ rest) result
  replay_answers taken found =
      bare_answers (codes "replay") Replay (taken_bare (codes "replay") replay_found rest plain taken) refl (made.replay (found_name _ _ _ _ (found ∙ replay_found.1 rest)))

  load_answers : Taken (codes "load") → Found (codes "load") → Answers (codes "load" ∷ rest) result
  load_answers taken found =
      let one = taken_numbered (codes "load") 10000 load_found rest plain taken in
      let met = found ∙ load_found.1 rest in
      let are = found_rows _ _ _ _ met ∙ ap (rows_after (sub (codes "load") (number_rule 10000 ∷ [])).rules []) one.words_are in
      let has = subst (λ r. HasNumber 10000 r (digits_value 10 (without_leading_plus one.text))) (sym are)
      (number_is_found (codes "load") 10000 one.text one.plain one.number) in
      let is = made.load (found_name _ _ _ _ met) (digits_value 10 (without_leading_plus one.text)) has in
      subst (Answers (codes "load" ∷ rest)) (sym is) (record { text = one.text; words_are = ap (λ ws. codes "load" ∷ ws) one.words_are; number = one.number })

  serve_answers : Taken (codes "serve") → Found (codes "serve") → Answers (codes "serve" ∷ rest) result
  serve_answers taken found =
      let one = taken_numbered (codes "serve") 1000000 serve_found rest plain taken in
      let met = found ∙ serve_found.1 rest in
      let are = found_rows _ _ _ _ met ∙ ap (rows_after (sub (codes "serve") (number_rule 1000000 ∷ [])).rules []) one.words_are in
      let has = subst (λ r. HasNumber 1000000 r (digits_value 10 (without_leading_plus one.text))) (sym are)
      (number_is_found (codes "serve") 1000000 one.text one.plain one.number) in
      let is = made.serve (found_name _ _ _ _ met) (digits_value 10 (without_leading_plus one.text)) has in
      subst (Answers (codes "serve" ∷ rest)) (sym is) (record { text = one.text; words_are = ap (λ ws. codes "serve" ∷ ws) one.words_are; number = one.number })

  withdrawal_answers : Taken (codes "client") → Found (codes "client") → Answers (codes "client" ∷ rest) result
  withdrawal_answers taken found =
      let two = taken_client rest plain taken in
      let met = found ∙ client_found.1 rest in
      let rules = (sub (codes "client") (currency_rule ∷ number_rule 1000000 ∷ [])).rules in
      let are = found_rows _ _ _ _ met ∙ ap (rows_after (sub (codes "client") (currency_rule ∷ number_rule 1000000 ∷ [])).rules []) two.words_are in
      let has = subst (λ r. HasNumber 1000000 r (digits_value 10 (without_leading_plus two.text))) (sym are)
      (amount_is_found two.letters two.text two.plain two.plain_text two.number) in
      let letters = ap (first_of (codes "currency")) are ∙ client_letters two.letters two.text two.plain two.plain_text in
      let is = made.client (found_name _ _ _ _ met) two.letters (digits_value 10 (without_leading_plus two.text)) letters has in
      subst (λ ws. Answers (codes "client" ∷ ws) result) (sym two.words_are) (client_answers two.letters two.text result two.number is)

  host_answers : Taken (codes "host") → Found (codes "host") → Answers (codes "host" ∷ rest) result
  host_answers taken found =
      bare_answers (codes "host") Host (taken_bare (codes "host") host_found rest plain taken) refl (made.host (found_name _ _ _ _ (found ∙ host_found.1 rest)))

  audit_answers : Taken (codes "audit") → Found (codes "audit") → Answers (codes "audit" ∷ rest) result
  audit_answers taken found =
      bare_answers (codes "audit") Audit (taken_bare (codes "audit") audit_found rest plain taken) refl (made.audit (found_name _ _ _ _ (found ∙ audit_found.1 rest)))

  fleet_answers : Taken (codes "fleet") → Found (codes "fleet") → Answers (codes "fleet" ∷ rest) result
  fleet_answers taken found =
      bare_answers (codes "fleet") Fleet (taken_bare (codes "fleet") fleet_found rest plain taken) refl (made.fleet (found_name _ _ _ _ (found ∙ fleet_found.1 rest)))

  answers_of : (word : Text) → IsName word → Taken word → Found word → Answers (word ∷ rest) result
  answers_of word named = elim named [
    | inl guard ↦ from word (codes "guard") guard guard_answers
    | inr others ↦ elim others [
      | inl token ↦ from word (codes "token") token token_answers
      | inr others ↦ elim others [
        | inl replay ↦ from word (codes "replay") replay replay_answers
        | inr others ↦ elim others [
          | inl load ↦ from word (codes "load") load load_answers
          | inr others ↦ elim others [
            | inl serve ↦ from word (codes "serve") serve serve_answers
            | inr others ↦ elim others [
              | inl client ↦ from word (codes "client") client withdrawal_answers
              | inr others ↦ elim others [
                | inl host ↦ from word (codes "host") host host_answers
                | inr others ↦ elim others [
                  | inl audit ↦ from word (codes "audit") audit audit_answers
                  | inr fleet ↦ from word (codes "fleet") fleet fleet_answers
                ]
              ]
            ]
          ]
        ]
      ]
    ]
  ]
    where
      from : (word name : Text) → word ≡ name → (Taken name → Found name → Answers (name ∷ rest) result) → Taken word → Found word → Answers (word ∷ rest) result
      from word name e at = subst (λ w. Taken w → Found w → Answers (w ∷ rest) result) (sym e) at

-- where `clap` takes the words, what is made of what it found answers them
pub taken_answers : (ws : List Text) → all_plain ws ≡ true → HasName ws → fault_of table ws ≡ [] → (name : Text) (rows : List Row)
    → Some (name, rows) ≡ subcommand_of table ws → (result : Result Command WordsFault) → IsMadeOf name rows result → Answers ws result
taken_answers [] plain named taken name rows found result made = absurd named
taken_answers (word ∷ rest) plain named taken name rows found result made =
    answers_of rest (both _ _ plain).1 name rows result made word named taken found

-- and it finds a command there
pub always_found : (ws : List Text) → HasName ws → is_some (subcommand_of table ws) ≡ true
always_found [] named = absurd named
always_found (word ∷ rest) named = elim named [
  | inl e ↦ at word (codes "guard") e (λ r. ap is_some (guard_found.1 r))
  | inr others ↦ elim others [
    | inl e ↦ at word (codes "token") e (λ r. ap is_some (token_found.1 r))
    | inr others ↦ elim others [
      | inl e ↦ at word (codes "replay") e (λ r. ap is_some (replay_found.1 r))
      | inr others ↦ elim others [
        | inl e ↦ at word (codes "load") e (λ r. ap is_some (load_found.1 r))
        | inr others ↦ elim others [
          | inl e ↦ at word (codes "serve") e (λ r. ap is_some (serve_found.1 r))
          | inr others ↦ elim others [
            | inl e ↦ at word (codes "client") e (λ r. ap is_some (client_found.1 r))
            | inr others ↦ elim others [
              | inl e ↦ at word (codes "host") e (λ r. ap is_some (host_found.1 r))
              | inr others ↦ elim others [
                | inl e ↦ at word (codes "audit") e (λ r. ap is_some (audit_found.1 r))
                | inr e ↦ at word (codes "fleet") e (λ r. ap is_some (fleet_found.1 r))
              ]
            ]
          ]
        ]
      ]
    ]
  ]
]
  where
    at : (word name : Text) → word ≡ name → ((r : List Text) → is_some (subcommand_of table (name ∷ r)) ≡ true) → is_some (subcommand_of table (word ∷ rest)) ≡ true
    at word name e h = subst (λ w. is_some (subcommand_of table (w ∷ rest)) ≡ true) (sym e) (h rest)

-- ---- what was found, by its name and its rows

module _ {Z : Type 0} where
  pub found_both : (met : Option (Box SubCommand Z)) (name : Text) (rows : List Row)
      → Some name ≡ option_map (λ b. (out-SubCommand (box_value b)).name.now) met
      → Some rows ≡ option_map (λ (p : Text × List Row). p.1) (subcommand_rows met) → Some (name, rows) ≡ subcommand_rows met
  found_both None name rows e f = cc
  found_both (Some b) name rows e f = cc

  pub rows_some : (met : Option (Box SubCommand Z)) → is_some (subcommand_rows met) ≡ is_some met
  rows_some None = refl
  rows_some (Some b) = refl

-- the two halves of an answer
pub answer_ok : (ws : List Text) (result : Result Command WordsFault) → Answers ws result → IfOk result (λ command. Names command ws)
answer_ok ws (Ok command) h = h
answer_ok ws (Err fault) h = tt

pub answer_err : (ws : List Text) (result : Result Command WordsFault) → Answers ws result → IfErr result (λ fault. fault ≡ Usage → (command : Command) → ¬ (Names command ws))
answer_err ws (Ok command) h = tt
answer_err ws (Err fault) h = h

pub answer_only : (ws : List Text) (result : Result Command WordsFault) → Answers ws result → IfOk result (λ command. (other : Command) → Names other ws → other ≡ command)
answer_only ws (Ok command) h = λ other named. one_command command other ws h named
answer_only ws (Err fault) h = tt
