-- The rest of a conversation with one more frame before it.
use Rattle.std.proofs.Common.{◌≡◌, ◌↔◌, ◌⊎◌, ℕ, true, false, List, [], ◌∷◌, ◌++◌, Contains, Option, Some, None, refl, inl, inr, arith, subst}
use Rattle.std.specs.declared.result.Result.{Result}
use Rattle.std.specs.declared.result.Result.TheVariants.{Ok, Err}
use Rattle.xfs_envelope.specs.declared.code.Status.{Status}
use Rattle.xfs_envelope.specs.declared.code.Status.TheVariants.{InvalidMessage, InvalidRequestId, TooManyRequests}
use Rattle.xfs_envelope.specs.declared.command.Refuse.{Refuse}
use Rattle.xfs_envelope.specs.Commands.{Command}
use Rattle.xfs_envelope.specs.Replies.{acknowledge}
use Rattle.xfs_conversation.specs.Answers.{is_invalid_message}
use Rattle.xfs_conversation.specs.Pending.{Pending, pending_of}
use Rattle.xfs_audit.specs.declared.way.Step.{Step}
use Rattle.xfs_audit.specs.declared.way.Step.TheVariants.{Accepted}
use Rattle.xfs_audit.specs.declared.way.Way.{Way}
use Rattle.xfs_audit.specs.Conversing.{Acknowledges, misread, refused, accepted}
use Rattle.xfs_audit.specs.Ways.{IsSplit, LeadsToSplit, LeadsBack, Adds, AnswersText}
use Rattle.xfs_audit.proofs.Adding.{more-pushed}

pub no-way : {ids : List ℕ} {pending : List Pending} → IsSplit ids [] pending → ⊥
no-way s = absurd (within s.there)
  where
    within : {way : Way} → Contains [] way → ⊥
    within (k, lt, is) = absurd (omega arith)

-- one way more is read
pub step-more : (ids : List ℕ) (step : Step) (way : Way) (rest before next : List Way) (G : Type 0) (pending : List Pending) → Adds ids step way before next
    → ((IsSplit ids before pending ⊎ LeadsToSplit ids step (rest ++ way ∷ []) pending) ↔ G) → ((IsSplit ids next pending ⊎ LeadsToSplit ids step rest pending) ↔ G)
step-more ids step way rest before next G pending adds kept = (to, from)
  where
    to : IsSplit ids next pending ⊎ LeadsToSplit ids step rest pending → G
    to (inl s) = elim ((adds pending).0 s) [
      | inl one ↦ kept.0 (inl one)
      | inr one ↦ kept.0 (inr (one.0, one.1, (more-pushed way rest ids one.0).1 (inr one.2)))
    ]
    to (inr (after, leads, s)) = kept.0 (inr (after, leads, (more-pushed way rest ids after).1 (inl s)))

    from : G → IsSplit ids next pending ⊎ LeadsToSplit ids step rest pending
    from g = elim (kept.1 g) [
      | inl one ↦ inl ((adds pending).1 (inl one))
      | inr one ↦ elim ((more-pushed way rest ids one.0).0 one.2) [
        | inl s ↦ inr (one.0, one.1, s)
        | inr s ↦ inl ((adds pending).1 (inr (one.0, one.1, s)))
      ]
    ]

pub step-none : (ids : List ℕ) (step : Step) (before : List Way) (G : Type 0) (pending : List Pending) → ((IsSplit ids before pending ⊎ LeadsToSplit ids step [] pending) ↔ G) → IsSplit ids before pending ↔ G
step-none ids step before G pending kept = (λ s. kept.0 (inl s), from)
  where
    from : G → IsSplit ids before pending
    from g = elim (kept.1 g) [
      | inl s ↦ s
      | inr one ↦ absurd (no-way one.2)
    ]

pub step-first : (ids : List ℕ) (step : Step) (behind : List Way) (pending : List Pending) → (IsSplit ids [] pending ⊎ LeadsToSplit ids step behind pending) ↔ LeadsToSplit ids step behind pending
step-first ids step behind pending = (to, λ s. inr s)
  where
    to : IsSplit ids [] pending ⊎ LeadsToSplit ids step behind pending → LeadsToSplit ids step behind pending
    to (inl s) = absurd (no-way s)
    to (inr s) = s

-- the answers to a text
abbrev IsAnswered : List ℕ → Result Command Refuse → Option Status → List Way → List Way → Type 0
IsAnswered ids asked status behind ways = AnswersText ids asked status behind ways

pub text-misread : (ids : List ℕ) (refuse : Refuse) (status : Option Status) (ways : List Way) → is_invalid_message status ≡ true → IsAnswered ids (Err refuse) status ways ways
text-misread ids refuse None ways is id name pending = absurd cc
text-misread ids refuse (Some InvalidRequestId) ways is id name pending = absurd cc
text-misread ids refuse (Some TooManyRequests) ways is id name pending = absurd cc
text-misread ids refuse (Some InvalidMessage) ways is id name pending = (λ s. (pending, misread refuse id name, s), from)
  where
    from : ((after : List Pending) × Acknowledges pending (Err refuse) (Some (acknowledge id name (Some InvalidMessage))) after × IsSplit ids ways after) → IsSplit ids ways pending
    from (after, misread _ _ _, s) = s

pub text-wrong : (ids : List ℕ) (refuse : Refuse) (status : Option Status) (behind : List Way) → is_invalid_message status ≡ false → IsAnswered ids (Err refuse) status behind []
text-wrong ids refuse status behind is id name pending = (λ s. absurd (no-way s), from status is)
  where
    from : (st : Option Status) → is_invalid_message st ≡ false → ((after : List Pending) × Acknowledges pending (Err refuse) (Some (acknowledge id name st)) after × IsSplit ids behind after) → IsSplit ids [] pending
    from st is (after, misread _ _ _, s) = absurd cc

pub command-refused : (ids : List ℕ) (c : Command) (status : Status) (ways : List Way) → is_invalid_message (Some status) ≡ false → IsAnswered ids (Ok c) (Some status) ways ways
command-refused ids c status ways is id name pending = (λ s. (pending, refused c id name status is, s), from)
  where
    from : ((after : List Pending) × Acknowledges pending (Ok c) (Some (acknowledge id name (Some status))) after × IsSplit ids ways after) → IsSplit ids ways pending
    from (after, refused _ _ _ _ _, s) = s

pub command-wrong : (ids : List ℕ) (c : Command) (status : Status) (behind : List Way) → is_invalid_message (Some status) ≡ true → IsAnswered ids (Ok c) (Some status) behind []
command-wrong ids c status behind is id name pending = (λ s. absurd (no-way s), from)
  where
    from : ((after : List Pending) × Acknowledges pending (Ok c) (Some (acknowledge id name (Some status))) after × IsSplit ids behind after) → IsSplit ids [] pending
    from (after, refused _ _ _ _ not, s) = absurd cc

pub command-accepted : (ids : List ℕ) (c : Command) (behind ways : List Way) → LeadsBack ids (Accepted (pending_of c)) behind ways → IsAnswered ids (Ok c) None behind ways
command-accepted ids c behind ways leads id name pending = (to, from)
  where
    to : IsSplit ids ways pending → ((after : List Pending) × Acknowledges pending (Ok c) (Some (acknowledge id name None)) after × IsSplit ids behind after)
    to s =
        let one = (leads pending).0 s in
        (pending ++ pending_of c ∷ [], accepted c id name, subst (λ l. IsSplit ids behind l) one.1 one.2)

    from : ((after : List Pending) × Acknowledges pending (Ok c) (Some (acknowledge id name None)) after × IsSplit ids behind after) → IsSplit ids ways pending
    from (after, accepted _ _ _, s) = (leads pending).1 (pending ++ pending_of c ∷ [], refl, s)
