-- Each answer of the dispenser's commands can be sent: its payload is an object without floats that nests no deeper than 120.
use Rattle.std.proofs.Common.{◌≡◌, ◌≤◌, ℕ, Bool, true, false, List, [], ◌∷◌, Option, Some, None, Ok, Err, inl, inr, refl, sym, subst, arith}
use Rattle.std.specs.Prelude.{IfSome, codes, fold, if◌then◌else◌}
use Rattle.std.specs.Cmp.Lexicographic.{slice_cmp}
use Rattle.std.specs.Ordering.{nat_cmp, match_ordering}
use Rattle.std.specs.declared.cmp.Ordering.{Ordering}
use Rattle.std.specs.declared.cmp.Ordering.TheVariants.{Less, Equal, Greater}
use Rattle.std.specs.declared.result.Result.{Result}
use Rattle.serde_json.specs.Data.{Data, number, unsigned, object, Members, no_members, member, put, members_depth}
use Rattle.serde_json.specs.Written.{has_float, members_have_float}
use Rattle.xfs_base.specs.declared.counts.Counts.{Counts}
use Rattle.xfs_base.specs.declared.money.NoteKind.{NoteKind}
use Rattle.xfs_common.specs.Errors.{error_text}
use Rattle.xfs_common.specs.Payloads.{nothing, error_payload, record_payload}
use Rattle.xfs_common.specs.declared.error.ErrorCode.TheVariants.{NoItems, NotDispensable}
use Rattle.xfs_envelope.specs.Messages.{IsPayload}
use Rattle.xfs_guard.specs.declared.deny.Deny.{Deny}
use Rattle.xfs_guard.specs.declared.deny.Deny.TheVariants.{Shut, Full, TooLong, KeyNoValue, Format, NoNonce, WrongNonce, WrongMac, NoAmounts, OtherBound, NotEmpty, OverBudget, Unbound, Nothing, OutletFull, Short, Disk, Memory}
use Rattle.xfs_guard.specs.declared.open.Open.{Open}
use Rattle.xfs_guard.specs.declared.open.Open.TheVariants.{No, Written, Acted}
use Rattle.xfs_dispenser.specs.Answers.{CashAnswer, Start, Went, done, denial, answer_of, start_payload, went_payload}
use Rattle.xfs_dispenser.specs.Begins.{Begins, StartsRefused, StartsUnless, StartsWith}
use Rattle.xfs_dispenser.specs.Checks.{active_refusal, inactive_refusal}
use Rattle.xfs_dispenser.specs.Denominations.{currencies_of, denomination_payload, values_of, with_count, with_currency}
use Rattle.xfs_dispenser.specs.Units.{kinds_with, units_with}
use Rattle.xfs_dispenser.specs.Plans.{emptying}
use Rattle.xfs_dispenser.specs.Seen.{Seen}
use Rattle.xfs_dispenser.specs.Steps.{DoesFirst, DoesPart, IsDenied, Works, WorksOn, onward, settled, success_of}
use Rattle.xfs_dispenser.specs.declared.ask.CashAsk.{CashAsk}
use Rattle.xfs_dispenser.specs.declared.ask.CashAsk.TheVariants.{Denominate, Dispense, Present, Reject, Reset, Retract, StartExchange, SetStorage, EndExchange}
use Rattle.xfs_dispenser.specs.declared.part.Part.{Part}
use Rattle.xfs_dispenser.specs.declared.part.Part.TheVariants.{Order, Restore, Load, Note}
use Rattle.xfs_dispenser.specs.declared.plan.Plan.{Plan}
use Rattle.xfs_dispenser.specs.declared.refusal.Refusal.{Refusal}
use Rattle.xfs_dispenser.specs.declared.refusal.Refusal.TheVariants as refusal
use Rattle.std.proofs.lemmas.Bool.{or_parts}

-- members that are numbers, none of them a float
record IsFlat (ms : Members) : Type 0 where
  pub whole : members_have_float ms ≡ false
  pub shallow : members_depth ms ≤ 0

ordered : (o : Ordering) (a b c : Members) → IsFlat a → IsFlat b → IsFlat c → IsFlat (match_ordering o a b c)
ordered Less a b c p q r = p
ordered Equal a b c p q r = q
ordered Greater a b c p q r = r

with-member : (k : List ℕ) (n : ℕ) (ms : Members) → IsFlat ms → IsFlat (member k (number (unsigned n)) ms)
with-member k n ms flat = record { whole = flat.whole; shallow = let s = flat.shallow in omega arith }

behind : (l : List ℕ) (d : Data) (old new : Members) → IsFlat (member l d old) → IsFlat new → IsFlat (member l d new)
behind l d old new flat there =
    let parts = or_parts (has_float d) (members_have_float old) flat.whole in
    record { whole = rw parts.0 there.whole; shallow = let s = flat.shallow in let t = there.shallow in omega arith }

rest-flat : (l : List ℕ) (d : Data) (ms : Members) → IsFlat (member l d ms) → IsFlat ms
rest-flat l d ms flat = record { whole = (or_parts (has_float d) (members_have_float ms) flat.whole).1; shallow = let s = flat.shallow in omega arith }

put-flat : (k : List ℕ) (n : ℕ) (ms : Members) → IsFlat ms → IsFlat (put k (number (unsigned n)) ms)
put-flat k n no_members flat = with-member k n no_members flat
put-flat k n (member l d ms) flat =
    let rest = rest-flat l d ms flat in
    ordered (slice_cmp nat_cmp k l) _ _ _ (with-member k n (member l d ms) flat) (with-member l n ms rest) (behind l d ms (put k (number (unsigned n)) ms) flat (put-flat k n ms rest))

none-flat : IsFlat no_members
none-flat = record { whole = refl; shallow = omega arith }

currencies-flat : (units : List NoteKind) (counts : Counts) (kinds : List NoteKind) (ms : Members) → IsFlat ms → IsFlat (fold (with_currency units counts) ms kinds)
currencies-flat units counts [] ms flat = flat
currencies-flat units counts (kind ∷ kinds) ms flat = currencies-flat units counts kinds (with_currency units counts ms kind) (put-flat _ _ ms flat)

values-flat : (some : List (ℕ × ℕ)) (ms : Members) → IsFlat ms → IsFlat (fold with_count ms some)
values-flat [] ms flat = flat
values-flat (u ∷ some) ms flat = values-flat some (with_count ms u) (put-flat _ _ ms flat)

two-flat : (a b : Members) (k l m : List ℕ) → IsFlat a → IsFlat b → IsPayload (object (member k (object (member l (object a) (member m (object b) no_members))) no_members))
two-flat a b k l m p q = (refl, rw (p.whole, q.whole) refl, let s = p.shallow in let t = q.shallow in omega arith)

pub denomination-IsPayload : (units : List NoteKind) (counts : Counts) → IsPayload (denomination_payload units counts)
denomination-IsPayload units counts =
    two-flat (currencies_of units counts) (values_of counts.0) (codes "denomination") (codes "currencies") (codes "values")
    (currencies-flat units counts (kinds_with units counts.0) no_members none-flat) (values-flat (units_with counts.0) no_members none-flat)

empty-IsPayload : IsPayload nothing
empty-IsPayload = (refl, refl, omega arith)

text-IsPayload : (text : List ℕ) → IsPayload (error_payload text)
text-IsPayload text = (refl, refl, omega arith)

number-IsPayload : (n : ℕ) → IsPayload (record_payload n)
number-IsPayload n = (refl, refl, omega arith)

due : (a answer : CashAnswer) → IsPayload a.payload → Some a ≡ Some answer → IsPayload answer.payload
due a answer is e = let same : a ≡ answer = cc in subst (λ (x : CashAnswer). IsPayload x.payload) same is

denial-IsPayload : (deny : Deny) (answer : CashAnswer) → denial deny ≡ Some answer → IsPayload answer.payload
denial-IsPayload Shut answer e = due _ answer empty-IsPayload e
denial-IsPayload Full answer e = due _ answer empty-IsPayload e
denial-IsPayload Disk answer e = due _ answer empty-IsPayload e
denial-IsPayload TooLong answer e = due _ answer empty-IsPayload e
denial-IsPayload (KeyNoValue at) answer e = due _ answer empty-IsPayload e
denial-IsPayload (Format at) answer e = due _ answer empty-IsPayload e
denial-IsPayload (NoNonce since) answer e = due _ answer (number-IsPayload since) e
denial-IsPayload (WrongNonce since) answer e = due _ answer (number-IsPayload since) e
denial-IsPayload (WrongMac key) answer e = due _ answer empty-IsPayload e
denial-IsPayload NoAmounts answer e = due _ answer empty-IsPayload e
denial-IsPayload (OtherBound since) answer e = due _ answer empty-IsPayload e
denial-IsPayload (NotEmpty notes) answer e = due _ answer empty-IsPayload e
denial-IsPayload (OverBudget currency left) answer e = due _ answer empty-IsPayload e
denial-IsPayload (Unbound since) answer e = due _ answer empty-IsPayload e
denial-IsPayload Nothing answer e = due _ answer (text-IsPayload (error_text NoItems)) e
denial-IsPayload (OutletFull notes) answer e = due _ answer empty-IsPayload e
denial-IsPayload (Short unit) answer e = due _ answer (text-IsPayload (error_text NotDispensable)) e
denial-IsPayload Memory answer e = absurd (let f : None ≡ Some answer = e in cc)

refusal-IsPayload : (r : Refusal) (answer : CashAnswer) → answer_of r ≡ Some answer → IsPayload answer.payload
refusal-IsPayload refusal.InvalidData answer e = due _ answer empty-IsPayload e
refusal-IsPayload refusal.NoToken answer e = due _ answer empty-IsPayload e
refusal-IsPayload (refusal.Error fault) answer e = due _ answer (text-IsPayload (error_text fault)) e
refusal-IsPayload (refusal.Deny deny) answer e = denial-IsPayload deny answer e
refusal-IsPayload refusal.Memory answer e = absurd (let f : None ≡ Some answer = e in cc)

-- a start can be sent, where it tells
abbrev CanStart : Start → Type 0
CanStart start = IfSome (start_payload start) IsPayload

told-start : (r : Refusal) (start : Start) → StartsRefused r start → CanStart start
told-start r start t = subst CanStart (sym t.is) (refusal-IsPayload r t.answer t.due)

-- a command that is refused, or starts so, can be answered
pub unless-start : (r : Option Refusal) (otherwise start : Start) → IfSome (start_payload otherwise) IsPayload → StartsUnless r otherwise start → IfSome (start_payload start) IsPayload
unless-start None otherwise start can is = subst CanStart (sym is) can
unless-start (Some r) otherwise start can is = told-start r start is

with-start : {T : Type 0} (checked : Result T Refusal) (begun : T → Start) (start : Start) → ((value : T) → CanStart (begun value)) → StartsWith checked begun start → CanStart start
with-start (Ok value) begun start can is = subst CanStart (sym is) (can value)
with-start (Err r) begun start can is = told-start r start is

-- what a command begins with can be sent
pub begins-sent : (s : Seen) (exchange : Bool) (ask : CashAsk) (next : Seen) (after : Bool) (start : Start) → Begins s exchange ask next after start → IfSome (start_payload start) IsPayload
begins-sent s exchange (Denominate notes) next after start b = with-start b.2.given _ start (λ counts. denomination-IsPayload s.guard.units counts) b.2.starts
begins-sent s exchange (Dispense notes token) next after start b = with-start b.1.grant _ start (λ _. tt) b.1.starts
begins-sent s exchange Present next after start b = unless-start (active_refusal exchange) _ start tt b.2
begins-sent s exchange Reject next after start b = unless-start (active_refusal exchange) _ start tt b.2
begins-sent s exchange Retract next after start b = unless-start (active_refusal exchange) _ start tt b.2
begins-sent s exchange Reset next after start b = unless-start (active_refusal exchange) _ start tt b.2
begins-sent s exchange StartExchange next after start b = unless-start (active_refusal exchange) _ start empty-IsPayload b.1.1
begins-sent s exchange EndExchange next after start b = unless-start (inactive_refusal exchange) _ start empty-IsPayload b.1.1
begins-sent s exchange (SetStorage added) next after start b = with-start b.2.checked _ start (λ _. tt) b.2.starts

-- a step's answer can be sent, where there is one
abbrev CanGo : Went → Type 0
CanGo went = IfSome (went_payload went) IsPayload

success-sent : (units : List NoteKind) (notes : Option Counts) → IsPayload (success_of units notes).payload
success-sent units None = empty-IsPayload
success-sent units (Some counts) = denomination-IsPayload units counts

onward-sent : (units : List NoteKind) (notes : Option Counts) (parts : List Part) → CanGo (onward units notes parts)
onward-sent units notes [] = success-sent units notes
onward-sent units notes (part ∷ parts) = tt

settled-sent : (units : List NoteKind) (plan : Plan) (failed : Bool) → CanGo (settled units plan failed)
settled-sent units plan true = empty-IsPayload
settled-sent units plan false = onward-sent units plan.notes plan.parts.items

denied-sent : (s : Seen) (why : Option Deny) (next : Seen) (went : Went) → IsDenied s why next went → CanGo went
denied-sent s why next went d = subst CanGo (sym d.is) (denial-IsPayload d.deny d.answer d.due)

loaded-sent : (units : List NoteKind) (notes : Option Counts) (rest : List Part) (answer : CashAnswer) (failed : Bool) → IsPayload answer.payload → CanGo (if failed then done answer else onward units notes rest)
loaded-sent units notes rest answer true can = can
loaded-sent units notes rest answer false can = onward-sent units notes rest

part-sent : (part : Part) (rest : List Part) (s : Seen) (plan : Plan) (next : Seen) (after : Plan) (went : Went) → DoesPart part rest s plan next after went → CanGo went
part-sent (Order ask) rest s plan next after went (inl w) = subst CanGo (sym w.2) tt
part-sent (Order ask) rest s plan next after went (inr (same, inl d)) = denied-sent s _ next went d
part-sent (Order ask) rest s plan next after went (inr (same, inr u)) = subst CanGo (sym u.is) empty-IsPayload
part-sent Restore rest s plan next after went (inl r) = subst CanGo (sym r.is) (onward-sent s.guard.units plan.notes (emptying s.guard.places))
part-sent Restore rest s plan next after went (inr r) = subst CanGo (sym r.1) empty-IsPayload
part-sent (Load unit count) rest s plan next after went l = subst CanGo (sym l.is) (loaded-sent s.guard.units plan.notes rest _ l.outcome.failed empty-IsPayload)
part-sent (Note unit count) rest s plan next after went (inl w) = subst CanGo (sym w.2) (onward-sent s.guard.units plan.notes rest)
part-sent (Note unit count) rest s plan next after went (inr (same, inl d)) = denied-sent s _ next went d
part-sent (Note unit count) rest s plan next after went (inr (same, inr u)) = subst CanGo (sym u.is) empty-IsPayload

first-sent : (parts : List Part) (s : Seen) (plan : Plan) (next : Seen) (after : Plan) (went : Went) → DoesFirst parts s plan next after went → CanGo went
first-sent [] s plan next after went d = absurd d
first-sent (part ∷ rest) s plan next after went d = part-sent part rest s plan next after went d

order-sent : (order : Open) (s : Seen) (plan : Plan) (next : Seen) (after : Plan) (went : Went) → WorksOn order s plan next after went → CanGo went
order-sent (Written kind counts) s plan next after went a = subst CanGo (sym a.is) tt
order-sent (Acted kind moved diverted failed) s plan next after went (same, inl is) = subst CanGo (sym is.is) (settled-sent s.guard.units plan failed)
order-sent (Acted kind moved diverted failed) s plan next after went (same, inr is) = subst CanGo (sym is.is) empty-IsPayload
order-sent No s plan next after went d = first-sent plan.parts.items s plan next after went d

-- what a step answers can be sent
pub works-sent : (s : Seen) (plan : Plan) (next : Seen) (after : Plan) (went : Went) → Works s plan next after went → IfSome (went_payload went) IsPayload
works-sent s plan next after went w = order-sent s.guard.open_order s plan next after went w
