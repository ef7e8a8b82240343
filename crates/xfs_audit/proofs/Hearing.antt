-- A lawful conversation, read from its join on, is judged one.
use Rattle.std.proofs.Common.{◌≡◌, ◌<◌, ◌==◌, ℕ, zero, suc, true, false, List, [], ◌∷◌, ◌++◌, length, get_or, AllPairs, Option, refl, ap, sym, ◌∙◌, arith, subst, inl, inr}
use Rattle.std.specs.declared.result.Result.{Result}
use Rattle.std.proofs.lemmas.Bool.{cases_eq, eq-eqb, ne_eqb}
use Rattle.std.proofs.lemmas.List.{append-nil, append_assoc}
use Rattle.xfs_envelope.specs.declared.code.Status.TheVariants.{InvalidRequestId, TooManyRequests}
use Rattle.xfs_envelope.specs.declared.command.Refuse.{Refuse}
use Rattle.xfs_envelope.specs.Commands.{Command}
use Rattle.xfs_envelope.specs.Replies.{Reply}
use Rattle.xfs_conversation.proofs.Once.{differ_of}
use Rattle.xfs_conversation.specs.Conversation as lawful
use Rattle.xfs_conversation.specs.Conversation.{Conversation}
use Rattle.xfs_conversation.specs.Pending.{Pending, has_id, without_id}
use Rattle.xfs_audit.specs.Conversing.{Acknowledges, misread, refused, accepted, Says, completed, told, announced, Converses, ended, posted, heard, pending_ids, IsWithout}

abbrev Differ : Pending → Pending → Type 0
Differ p q = has_id q.id p ≡ false

flip : (a b : ℕ) → (a == b) ≡ false → (b == a) ≡ false
flip a b h = elim (cases_eq a b) [
  | inl e ↦ let yes = eq-eqb a b e in absurd cc
  | inr n ↦ ne_eqb b a (λ e. n (sym e))
]

kept : (id : ℕ) (pending : List Pending) → ((k : ℕ) (d : Pending) → k < length pending → has_id id (get_or pending k d) ≡ false) → without_id id pending ≡ pending
kept id [] none = refl
kept id (q ∷ pending) none =
    let first : has_id id q ≡ false = none zero q (omega arith) in
    rw first (ap (λ l. q ∷ l) (kept id pending (λ k d lt. none (suc k) d (omega arith))))

-- the pending commands without the one that has its id
without : (pending : List Pending) → AllPairs Differ pending → (k : ℕ) (p : Pending) → k < length pending → get_or pending k p ≡ p → IsWithout p pending (without_id p.id pending)
without [] apart k p within is = absurd (omega arith)
without (q ∷ pending) apart zero p within is =
    let same : q.id ≡ p.id = ap (λ (x : Pending). x.id) is in
    let here : has_id p.id q ≡ true = eq-eqb q.id p.id same in
    let others : without_id p.id pending ≡ pending = kept p.id pending (λ k d lt. flip p.id (get_or pending k d).id (rw same at (apart zero (suc k) d (omega arith) (omega arith)))) in
    record { before = []; later = pending; was = ap (λ x. x ∷ pending) is; is = rw here others }
without (q ∷ pending) apart (suc k) p within is =
    let r = without pending (λ i j d lt inside. apart (suc i) (suc j) d (omega arith) (omega arith)) k p (omega arith) is in
    let other : has_id p.id q ≡ false = ap (λ (x : Pending). has_id x.id q) (sym is) ∙ apart zero (suc k) p (omega arith) (omega arith) in
    record { before = q ∷ r.before; later = r.later; was = ap (λ l. q ∷ l) r.was; is = rw other (ap (λ l. q ∷ l) r.is) }

acknowledges : {before after : List Pending} {asked : Result Command Refuse} {r : Option Reply} → lawful.Acknowledges before asked r after → Acknowledges before asked r after
acknowledges (lawful.misread refuse) = misread refuse _ _
acknowledges (lawful.misnumbered c _) = refused c _ _ InvalidRequestId refl
acknowledges (lawful.crowded c _) = refused c _ _ TooManyRequests refl
acknowledges (lawful.accepted c _) = accepted c _ _

says : {before after : List Pending} {r : Option Reply} → AllPairs Differ before → lawful.Says before r after → Says before r after
says {before = before} apart (lawful.completed p code payload there) = completed p code payload (without before apart there.0 p there.1 there.2)
says apart (lawful.told p name payload there) = told p name payload there
says apart (lawful.announced name payload) = announced name payload

-- what was heard so far, and what is heard from then on
goes_on : {texts frames : List (List ℕ)} {before : List Pending} (ids : List ℕ) → Conversation texts frames before → (later ahead : List (List ℕ)) → Converses ids before later ahead → Converses ids [] (texts ++ later) (frames ++ ahead)
goes_on ids lawful.joined later ahead h = h
goes_on ids (lawful.posted {texts = ts} {frames = fs} talk text frame answers) later ahead h =
    rw (append_assoc ts (text ∷ []) later, append_assoc fs (frame ∷ []) ahead) (goes_on ids talk (text ∷ later) (frame ∷ ahead) (posted text frame (acknowledges answers) h))
goes_on ids (lawful.heard {texts = ts} {frames = fs} talk frame tells) later ahead h =
    rw (append_assoc fs (frame ∷ []) ahead) (goes_on ids talk later (frame ∷ ahead) (heard frame (says (differ_of talk) tells) h))

pub converses : (texts frames : List (List ℕ)) (pending : List Pending) → Conversation texts frames pending → Converses (pending_ids pending) [] texts frames
converses texts frames pending talk =
    let ids : List ℕ = pending_ids pending in
    let whole : Converses ids [] (texts ++ []) (frames ++ []) = goes_on ids talk [] [] (ended refl) in
    subst (λ l. Converses ids [] l frames) (append-nil texts) (subst (λ l. Converses ids [] (texts ++ []) l) (append-nil frames) whole)
