-- The text of each header, in parts, and that a header is read as itself.
use Rattle.std.proofs.Common.{◌≡◌, ℕ, ◌<◌, ◌≤◌, ◌^◌, List, [], ◌∷◌, ◌++◌, true, false, Option, Some, None, option_map, codes, decimal, refl, sym, ap, ap₂, ◌∙◌, arith, append_assoc}
use Rattle.std.specs.Option.{IfSome}
use Rattle.std.specs.Char.{is_ascii_uppercase, is_ascii_alphanumeric}
use Rattle.std.specs.List.{before_first, after_first, list_all}
use Rattle.std.proofs.lemmas.Bool.{false≢true}
use Rattle.std.proofs.lemmas.List.Sums.{split_at_first, passes_at_first}
use Rattle.json.specs.Print.{escape, escape_byte, quoted}
use Rattle.json.proofs.Printed.Decimals.{IsNumber-decimal}
use Rattle.json.proofs.Printed.Strings.{escape_byte_plain}
use Rattle.serde_json.specs.Data.{Data, string, Members, depth}
use Rattle.serde_json.specs.Written.{compact_text, members_text}
use Rattle.serde_json.proofs.Numbers.{number_of-decimal}
use Rattle.xfs_envelope.specs.declared.code.Code.{Code}
use Rattle.xfs_envelope.specs.declared.code.Code.TheVariants.{Success, CommandErrorCode, Canceled, TimeOut, DeviceNotReady, HardwareError, InvalidCommand, InvalidData, UnsupportedData, SequenceError, AuthorisationRequired, NoCommandNonce, InvalidToken, InvalidTokenNonce, InvalidTokenHmac, InvalidTokenFormat, InvalidTokenKeyNoValue, NotEnoughSpace, InternalError, UnsupportedCommand, UserError, FraudAttempt}
use Rattle.xfs_envelope.specs.declared.code.Status.{Status}
use Rattle.xfs_envelope.specs.declared.code.Status.TheVariants.{InvalidMessage, InvalidRequestId, TooManyRequests}
use Rattle.xfs_envelope.specs.Codes.{code_text, status_text}
use Rattle.xfs_envelope.specs.Messages.{acknowledge_header, event_header, completion_header, unsolicited_header, headed, framed, with_if, of_type, numbered}
use Rattle.xfs_envelope.specs.Names.{is_point, is_part, is_name}
use Rattle.xfs_envelope.specs.Parts.{frame, name_part, id_part, status_part}
use Rattle.xfs_envelope.specs.Readable.{IsReadable}
use Rattle.xfs_envelope.proofs.NameLaws.{both, point_here}

-- ---- texts that need no escape

alphanumeric_plain : (x : ℕ) → is_ascii_alphanumeric x ≡ true → escape_byte x ≡ x ∷ []
alphanumeric_plain x h = escape_byte_plain x (λ e. grind arith) (λ e. grind arith) (grind arith)

uppercase_plain : (x : ℕ) → is_ascii_uppercase x ≡ true → escape_byte x ≡ x ∷ []
uppercase_plain x h = escape_byte_plain x (λ e. grind arith) (λ e. grind arith) (grind arith)

point_plain : (x : ℕ) → is_point x ≡ true → escape_byte x ≡ x ∷ []
point_plain x h = escape_byte_plain x (λ e. grind arith) (λ e. grind arith) (grind arith)

then_plain : (x : ℕ) (xs : List ℕ) → escape_byte x ≡ x ∷ [] → escape xs ≡ xs → escape (x ∷ xs) ≡ x ∷ xs
then_plain x xs first rest = ap₂ (λ (a b : List ℕ). a ++ b) first rest

all_plain : (xs : List ℕ) → list_all is_ascii_alphanumeric xs ≡ true → escape xs ≡ xs
all_plain [] h = refl
all_plain (x ∷ xs) h = let parts = both _ _ h in then_plain x xs (alphanumeric_plain x parts.0) (all_plain xs parts.1)

part_plain : (part : List ℕ) → is_part part ≡ true → escape part ≡ part
part_plain [] h = absurd (false≢true h)
part_plain (x ∷ xs) h = let parts = both _ _ h in then_plain x xs (uppercase_plain x (both _ _ parts.0).0) (all_plain xs parts.1)

both_plain : (xs ys : List ℕ) → escape xs ≡ xs → escape ys ≡ ys → escape (xs ++ ys) ≡ xs ++ ys
both_plain xs ys first rest = escape-append xs ys ∙ ap₂ (λ (a b : List ℕ). a ++ b) first rest
  where
    escape-append : (xs ys : List ℕ) → escape (xs ++ ys) ≡ escape xs ++ escape ys
    escape-append [] ys = refl
    escape-append (x ∷ xs) ys = ap (λ l. escape_byte x ++ l) (escape-append xs ys) ∙ sym (append_assoc (escape_byte x) _ _)

pub name_plain : (name : List ℕ) → is_name name ≡ true → escape name ≡ name
name_plain name h =
    let parts = both (is_part (before_first is_point name)) (is_part (after_first is_point name)) h in
    let here = point_here name parts.1 in
    rw (split_at_first is_point name 0 here) (both_plain _ _ (part_plain _ parts.0) (then_plain _ _ (point_plain _ (passes_at_first is_point name 0 here)) (part_plain _ parts.1)))

code_plain : (code : Code) → escape (code_text code) ≡ code_text code
unfolding escape_byte
code_plain Success = refl
code_plain CommandErrorCode = refl
code_plain Canceled = refl
code_plain TimeOut = refl
code_plain DeviceNotReady = refl
code_plain HardwareError = refl
code_plain InvalidCommand = refl
code_plain InvalidData = refl
code_plain UnsupportedData = refl
code_plain SequenceError = refl
code_plain AuthorisationRequired = refl
code_plain NoCommandNonce = refl
code_plain InvalidToken = refl
code_plain InvalidTokenNonce = refl
code_plain InvalidTokenHmac = refl
code_plain InvalidTokenFormat = refl
code_plain InvalidTokenKeyNoValue = refl
code_plain NotEnoughSpace = refl
code_plain InternalError = refl
code_plain UnsupportedCommand = refl
code_plain UserError = refl
code_plain FraudAttempt = refl

status_plain : (status : Status) → escape (status_text status) ≡ status_text status
unfolding escape_byte
status_plain InvalidMessage = refl
status_plain InvalidRequestId = refl
status_plain TooManyRequests = refl

-- ---- texts in parts

pub quoted_then : (text rest : List ℕ) → escape text ≡ text → 34 ∷ (text ++ (34 ∷ rest)) ≡ quoted text ++ rest
quoted_then text rest plain = ap (λ l. 34 ∷ l) (sym (append_assoc text (34 ∷ []) rest) ∙ ap (λ l. (l ++ 34 ∷ []) ++ rest) (sym plain))

pub completion_text : (name digits kind : List ℕ) (id : ℕ) (code : Code) → is_name name ≡ true → kind ≡ code_text code → digits ≡ decimal id
    → codes "{\"completionCode\":\"" ++ (kind ++ (codes "\",\"name\":\"" ++ (name ++ (codes "\",\"requestId\":" ++ (digits ++ codes ",\"type\":\"completion\",\"version\":\"2.0\"}")))))
    ≡ compact_text (completion_header name id code)
unfolding escape_byte
completion_text name digits kind id code h is number =
    let last = codes ",\"requestId\":" ++ (decimal id ++ codes ",\"type\":\"completion\",\"version\":\"2.0\"}") in
    rw (is, number) (ap (λ l. codes "{\"completionCode\":" ++ l) (quoted_then (code_text code) (codes ",\"name\":\"" ++ (name ++ (34 ∷ last))) (code_plain code)
    ∙ ap (λ l. quoted (code_text code) ++ (codes ",\"name\":" ++ l)) (quoted_then name last (name_plain name h))))

pub event_text : (name digits : List ℕ) (id : ℕ) → is_name name ≡ true → digits ≡ decimal id
    → codes "{\"name\":\"" ++ (name ++ (codes "\",\"requestId\":" ++ (digits ++ codes ",\"type\":\"event\",\"version\":\"2.0\"}"))) ≡ compact_text (event_header name id)
unfolding escape_byte
event_text name digits id h number =
    let last = codes ",\"requestId\":" ++ (decimal id ++ codes ",\"type\":\"event\",\"version\":\"2.0\"}") in
    rw number (ap (λ l. codes "{\"name\":" ++ l) (quoted_then name last (name_plain name h)))

pub unsolicited_text : (name : List ℕ) → is_name name ≡ true
    → codes "{\"name\":\"" ++ (name ++ codes "\",\"type\":\"unsolicited\",\"version\":\"2.0\"}") ≡ compact_text (unsolicited_header name)
unfolding escape_byte
unsolicited_text name h = ap (λ l. codes "{\"name\":" ++ l) (quoted_then name (codes ",\"type\":\"unsolicited\",\"version\":\"2.0\"}") (name_plain name h))

pub framed_text : (header payload : Data) → frame (compact_text header) (compact_text payload) ≡ compact_text (framed header payload)
unfolding escape_byte
framed_text header payload = refl

-- ---- the members of an acknowledge, one before others

-- other members follow
abbrev IsMore : Members → Type 0
IsMore rest = members_text true rest ≡ 44 ∷ members_text false rest

IsMore-with_if : (name : List ℕ) (d : Option Data) (rest : Members) → IsMore rest → IsMore (with_if name d rest)
IsMore-with_if name None rest more = more
IsMore-with_if name (Some d) rest more = refl

member_then : (text rest : List ℕ) → escape text ≡ text → 34 ∷ ((text ++ codes "\",") ++ rest) ≡ quoted text ++ (44 ∷ rest)
member_then text rest plain = ap (λ l. 34 ∷ l) (append_assoc text (codes "\",") rest) ∙ quoted_then text (44 ∷ rest) plain

name_then : (name : Option (List ℕ)) (rest : Members) → IfSome name (λ n. is_name n ≡ true) → IsMore rest
    → name_part name ++ members_text false rest ≡ members_text false (with_if (codes "name") (option_map string name) rest)
unfolding escape_byte
name_then None rest h more = refl
name_then (Some n) rest h more = ap (λ l. codes "\"name\":" ++ l) (member_then n (members_text false rest) (name_plain n h) ∙ ap (λ l. quoted n ++ l) (sym more))

id_then : (id : Option ℕ) (rest : Members) → IsMore rest → id_part id ++ members_text false rest ≡ members_text false (with_if (codes "requestId") (option_map numbered id) rest)
unfolding escape_byte
id_then None rest more = refl
id_then (Some n) rest more = ap (λ l. codes "\"requestId\":" ++ l) (append_assoc (decimal n) (codes ",") (members_text false rest) ∙ ap (λ l. decimal n ++ l) (sym more))

status_then : (status : Option Status) (rest : Members) → IsMore rest
    → status_part status ++ members_text false rest ≡ members_text false (with_if (codes "status") (option_map (λ s. string (status_text s)) status) rest)
unfolding escape_byte
status_then None rest more = refl
status_then (Some s) rest more =
    ap (λ l. codes "\"status\":" ++ l) (member_then (status_text s) (members_text false rest) (status_plain s) ∙ ap (λ l. quoted (status_text s) ++ l) (sym more))

regroup : (a n i s t e : List ℕ) → (((a ++ n) ++ i) ++ s) ++ (t ++ e) ≡ a ++ ((n ++ (i ++ (s ++ t))) ++ e)
regroup a n i s t e = simp append_assoc

pub acknowledge_text : (name : Option (List ℕ)) (id : Option ℕ) (status : Option Status) → IfSome name (λ n. is_name n ≡ true)
    → (((codes "{\"header\":{" ++ name_part name) ++ id_part id) ++ status_part status) ++ codes "\"type\":\"acknowledge\",\"version\":\"2.0\"}}"
    ≡ compact_text (headed (acknowledge_header name id status))
unfolding escape_byte
acknowledge_text name id status h =
    let kind = of_type (codes "acknowledge") in
    let stated = with_if (codes "status") (option_map (λ s. string (status_text s)) status) kind in
    let counted = with_if (codes "requestId") (option_map numbered id) stated in
    let more = IsMore-with_if (codes "status") (option_map (λ s. string (status_text s)) status) kind refl in
    let members = ap (λ l. name_part name ++ (id_part id ++ l)) (status_then status kind refl) ∙ ap (λ l. name_part name ++ l) (id_then id stated more)
    ∙ name_then name counted h (IsMore-with_if (codes "requestId") (option_map numbered id) stated more) in
    regroup (codes "{\"header\":{") (name_part name) (id_part id) (status_part status) (codes "\"type\":\"acknowledge\",\"version\":\"2.0\"}") (codes "}")
    ∙ ap (λ l. codes "{\"header\":{" ++ (l ++ codes "}")) members

-- ---- headers are read as themselves

pub completion_reads : (name : List ℕ) (id : ℕ) (code : Code) → id < 2 ^ 64 → IsReadable (completion_header name id code)
completion_reads name id code h = record { numbers = (tt, (tt, (IsNumber-decimal id h, (tt, (tt, tt))))); reads = rw (number_of-decimal id h) }

pub event_reads : (name : List ℕ) (id : ℕ) → id < 2 ^ 64 → IsReadable (event_header name id)
event_reads name id h = record { numbers = (tt, (IsNumber-decimal id h, (tt, (tt, tt)))); reads = rw (number_of-decimal id h) }

pub unsolicited_reads : (name : List ℕ) → IsReadable (unsolicited_header name)
unsolicited_reads name = record { numbers = (tt, (tt, (tt, tt))); reads = refl }

pub acknowledge_reads : (name : Option (List ℕ)) (id : Option ℕ) (status : Option Status) → IfSome id (λ n. n < 2 ^ 64) → IsReadable (acknowledge_header name id status)
acknowledge_reads None None None h = record { numbers = (tt, (tt, tt)); reads = refl }
acknowledge_reads None None (Some s) h = record { numbers = (tt, (tt, (tt, tt))); reads = refl }
acknowledge_reads None (Some i) None h = record { numbers = (IsNumber-decimal i h, (tt, (tt, tt))); reads = rw (number_of-decimal i h) }
acknowledge_reads None (Some i) (Some s) h = record { numbers = (IsNumber-decimal i h, (tt, (tt, (tt, tt)))); reads = rw (number_of-decimal i h) }
acknowledge_reads (Some n) None None h = record { numbers = (tt, (tt, (tt, tt))); reads = refl }
acknowledge_reads (Some n) None (Some s) h = record { numbers = (tt, (tt, (tt, (tt, tt)))); reads = refl }
acknowledge_reads (Some n) (Some i) None h = record { numbers = (tt, (IsNumber-decimal i h, (tt, (tt, tt)))); reads = rw (number_of-decimal i h) }
acknowledge_reads (Some n) (Some i) (Some s) h = record { numbers = (tt, (IsNumber-decimal i h, (tt, (tt, (tt, tt))))); reads = rw (number_of-decimal i h) }

pub acknowledge_depth : (name : Option (List ℕ)) (id : Option ℕ) (status : Option Status) → depth (headed (acknowledge_header name id status)) ≤ 127
acknowledge_depth None None None = omega arith
acknowledge_depth None None (Some s) = omega arith
acknowledge_depth None (Some i) None = omega arith
acknowledge_depth None (Some i) (Some s) = omega arith
acknowledge_depth (Some n) None None = omega arith
acknowledge_depth (Some n) None (Some s) = omega arith
acknowledge_depth (Some n) (Some i) None = omega arith
acknowledge_depth (Some n) (Some i) (Some s) = omega arith
