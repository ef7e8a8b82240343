-- A conversation by its last frame.
use Rattle.std.proofs.Common.{◌≡◌, ℕ, List, [], ◌∷◌, ◌++◌, ◌⊎◌, inl, inr, refl, sym, subst}
use Rattle.std.proofs.lemmas.List.{same_from_push}
use Rattle.xfs_conversation.specs.Conversation.{Acknowledges, Says, Conversation, joined, posted, heard}
use Rattle.xfs_conversation.specs.Pending.{Pending}
use Rattle.xfs_envelope.specs.Commands.{command_in}
use Rattle.xfs_envelope.specs.Replies.{reply_in}

-- the last frame acknowledges the last text
pub record IsPosted (texts frames : List (List ℕ)) (frame : List ℕ) (after : List Pending) : Type 0 where
  pub earlier : List (List ℕ)
  pub text : List ℕ
  pub before : List Pending
  pub texts_are : texts ≡ earlier ++ text ∷ []
  pub talk : Conversation earlier frames before
  pub says : Acknowledges before (command_in text) (reply_in frame) after

-- or says something else
pub record IsHeard (texts frames : List (List ℕ)) (frame : List ℕ) (after : List Pending) : Type 0 where
  pub before : List Pending
  pub talk : Conversation texts frames before
  pub says : Says before (reply_in frame) after

not_nil : (frames : List (List ℕ)) (frame : List ℕ) → [] ≡ frames ++ frame ∷ [] → ⊥
not_nil [] frame e = cc
not_nil (f ∷ fs) frame e = cc

last_of : {texts all : List (List ℕ)} {pending : List Pending} → Conversation texts all pending → (frames : List (List ℕ)) (frame : List ℕ) → all ≡ frames ++ frame ∷ []
    → IsPosted texts frames frame pending ⊎ IsHeard texts frames frame pending
last_of joined frames frame e = absurd (not_nil frames frame e)
last_of (posted {texts = ts} {frames = fs} {before = b} {after = a} h text f says) frames frame e =
    let both = same_from_push fs frames f frame e in
    inl record {
      earlier = ts;
      text = text;
      before = b;
      texts_are = refl;
      talk = subst (λ l. Conversation ts l b) both.0 h;
      says = subst (λ g. Acknowledges b (command_in text) (reply_in g) a) both.1 says;
    }
last_of (heard {texts = ts} {frames = fs} {before = b} {after = a} h f says) frames frame e =
    let both = same_from_push fs frames f frame e in
    inr record {
      before = b;
      talk = subst (λ l. Conversation ts l b) both.0 h;
      says = subst (λ g. Says b (reply_in g) a) both.1 says;
    }

pub by_last : {texts frames : List (List ℕ)} {frame : List ℕ} {pending : List Pending} → Conversation texts (frames ++ frame ∷ []) pending
    → IsPosted texts frames frame pending ⊎ IsHeard texts frames frame pending
by_last {frames = frames} {frame = frame} h = last_of h frames frame refl

-- where no frame was heard, nothing was said
pub nothing_said : {texts frames : List (List ℕ)} {pending : List Pending} → Conversation texts frames pending → frames ≡ [] → (texts ≡ []) × (pending ≡ [])
nothing_said joined e = (refl, refl)
nothing_said (posted {frames = fs} h text f says) e = absurd (not_nil fs f (sym e))
nothing_said (heard {frames = fs} h f says) e = absurd (not_nil fs f (sym e))
