-- A command that is known by its text is read from it.
use Rattle.std.proofs.Common.{◌≡◌, ℕ, ◌<◌, ◌≤◌, ◌^◌, ◌∷◌, ◌++◌, ◌∙◌, [], List, length, true, Some, None, Ok, Result, codes, decimal, refl, sym, ap, subst, arith, append_assoc, inl, inr}
use Rattle.std.specs.Str.{IsUtf8}
use Rattle.std.proofs.lemmas.Bool.{le-ltb}
use Rattle.json.specs.Print.{escape_byte, quoted}
use Rattle.json.proofs.Printed.Decimals.{IsNumber-decimal}
use Rattle.serde_json.specs.Data.{Data, object, string, member, no_members}
use Rattle.serde_json.specs.Written.{compact_text}
use Rattle.serde_json.proofs.Numbers.{number_of-decimal}
use Rattle.xfs_json.specs.Reading.{reading}
use Rattle.xfs_envelope.specs.declared.command.Refuse.{Refuse}
use Rattle.xfs_envelope.specs.Short.{IsShortEnd, short_text}
use Rattle.xfs_envelope.specs.Commands.{Command, command_in, of_value}
use Rattle.xfs_envelope.specs.Fields.{empty}
use Rattle.xfs_envelope.specs.Messages.{headed, framed, numbered, of_type}
use Rattle.xfs_envelope.specs.Names.{is_name}
use Rattle.xfs_envelope.specs.Readable.{IsReadable}
use Rattle.xfs_envelope.proofs.HeaderLaws.{name_plain, quoted_then}
use Rattle.xfs_envelope.proofs.ReplyLaws.{id_back, named}
use Rattle.xfs_envelope.proofs.TextLaws.{IsReadable-headed, IsReadable-framed, reading_text}

-- the headers without a version and with one
abbrev plain : List ℕ → ℕ → Data
plain name id = object (member (codes "name") (string name) (member (codes "requestId") (numbered id) (member (codes "type") (string (codes "command")) no_members)))

abbrev versed : List ℕ → ℕ → Data
versed name id = object (member (codes "name") (string name) (member (codes "requestId") (numbered id) (of_type (codes "command"))))

-- ---- the texts

shut : (q d t e : List ℕ) → (q ++ (codes ",\"requestId\":" ++ (d ++ t))) ++ e ≡ q ++ (codes ",\"requestId\":" ++ (d ++ (t ++ e)))
shut q d t e = simp append_assoc

spelled : (name t e end : List ℕ) (id : ℕ) → is_name name ≡ true → codes ",\"type\":\"command\"" ++ end ≡ t ++ e
    → short_text name id end ≡ codes "{\"header\":{\"name\":" ++ ((quoted name ++ (codes ",\"requestId\":" ++ (decimal id ++ t))) ++ e)
spelled name t e end id h is =
    ap (λ l. codes "{\"header\":{\"name\":" ++ l) (quoted_then name (codes ",\"requestId\":" ++ (decimal id ++ (codes ",\"type\":\"command\"" ++ end))) (name_plain name h)
    ∙ ap (λ l. quoted name ++ (codes ",\"requestId\":" ++ (decimal id ++ l))) is ∙ sym (shut (quoted name) (decimal id) t e))

-- ---- the values

plain_reads : (name : List ℕ) (id : ℕ) → id < 2 ^ 64 → IsReadable (plain name id)
plain_reads name id h = record { numbers = (tt, (IsNumber-decimal id h, (tt, tt))); reads = rw (number_of-decimal id h) }

versed_reads : (name : List ℕ) (id : ℕ) → id < 2 ^ 64 → IsReadable (versed name id)
versed_reads name id h = record { numbers = (tt, (IsNumber-decimal id h, (tt, (tt, tt)))); reads = rw (number_of-decimal id h) }

empty_reads : IsReadable empty
empty_reads = record { numbers = tt; reads = refl }

abbrev saying : List ℕ → ℕ → Result Command Refuse
saying name id = Ok record { name = name; id = id; timeout = 0; payload = empty }

abbrev with : List ℕ → ℕ → Data → Result Command Refuse
with name id payload = Ok record { name = name; id = id; timeout = 0; payload = payload }

pub with_members : (name : List ℕ) (id : ℕ) {d e : Data} → d ≡ e → with name id d ≡ with name id e
with_members name id same = ap (with name id) same

plain_headed : (name : List ℕ) (id : ℕ) → is_name name ≡ true → id < 2 ^ 64 → of_value (Some (headed (plain name id))) ≡ saying name id
plain_headed name id n i = rw (named name n, id_back id i)

plain_framed : (name : List ℕ) (id : ℕ) → is_name name ≡ true → id < 2 ^ 64 → of_value (Some (framed (plain name id) empty)) ≡ saying name id
plain_framed name id n i = rw (named name n, id_back id i)

versed_headed : (name : List ℕ) (id : ℕ) → is_name name ≡ true → id < 2 ^ 64 → of_value (Some (headed (versed name id))) ≡ saying name id
versed_headed name id n i = rw (named name n, id_back id i)

versed_framed : (name : List ℕ) (id : ℕ) → is_name name ≡ true → id < 2 ^ 64 → of_value (Some (framed (versed name id) empty)) ≡ saying name id
versed_framed name id n i = rw (named name n, id_back id i)

-- ---- both together

said_in : (d : Data) (text name : List ℕ) (id : ℕ) → length text ≤ 65536 → reading text ≡ Some d → of_value (Some d) ≡ saying name id → command_in text ≡ saying name id
said_in d text name id short reads says = rw (le-ltb 65536 (length text) short) (ap of_value reads ∙ says)

pub short_back : (text name end : List ℕ) (id : ℕ) → is_name name ≡ true → id < 2 ^ 64 → IsShortEnd end → IsUtf8 text → length text ≤ 65536 → text ≡ short_text name id end
    → command_in text ≡ saying name id
unfolding escape_byte
short_back text name end id n i ends utf8 short is = elim ends [
  | inl e ↦
      let t = is ∙ spelled name (codes ",\"type\":\"command\"}") (codes "}") end id n (ap (λ l. codes ",\"type\":\"command\"" ++ l) e) in
      said_in _ text name id short (reading_text (headed (plain name id)) text utf8 t (omega arith) (IsReadable-headed _ (plain_reads name id i))) (plain_headed name id n i)
  | inr (inl e) ↦
      let t = is ∙ spelled name (codes ",\"type\":\"command\"}") (codes ",\"payload\":{}}") end id n (ap (λ l. codes ",\"type\":\"command\"" ++ l) e) in
      said_in _ text name id short (reading_text (framed (plain name id) empty) text utf8 t (omega arith) (IsReadable-framed _ _ (plain_reads name id i) empty_reads)) (plain_framed name id n i)
  | inr (inr (inl e)) ↦
      let t = is ∙ spelled name (codes ",\"type\":\"command\",\"version\":\"2.0\"}") (codes "}") end id n (ap (λ l. codes ",\"type\":\"command\"" ++ l) e) in
      said_in _ text name id short (reading_text (headed (versed name id)) text utf8 t (omega arith) (IsReadable-headed _ (versed_reads name id i))) (versed_headed name id n i)
  | inr (inr (inr e)) ↦
      let t = is ∙ spelled name (codes ",\"type\":\"command\",\"version\":\"2.0\"}") (codes ",\"payload\":{}}") end id n (ap (λ l. codes ",\"type\":\"command\"" ++ l) e) in
      said_in _ text name id short (reading_text (framed (versed name id) empty) text utf8 t (omega arith) (IsReadable-framed _ _ (versed_reads name id i) empty_reads)) (versed_framed name id n i)
]
