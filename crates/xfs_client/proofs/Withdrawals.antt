-- A withdrawal is a hearing of what it asked and heard, and knows what it hears.
use Rattle.std.proofs.Common.{◌≡◌, ℕ, ◌+◌, List, [], ◌∷◌, ◌++◌, ◌==◌, Bool, true, false, cond, Option, Some, None, Result, Ok, Err, is_ok, append_assoc, refl, sym, ap, subst, arith}
use Rattle.std.proofs.lemmas.Bool.{and_parts, eqb-true, false≢true, leb-true}
use Rattle.std.proofs.lemmas.List.{append-nil}
use Rattle.std.proofs.lemmas.List.Sums.{fold_push}
use Rattle.xfs_envelope.specs.declared.code.Code.{Code}
use Rattle.xfs_envelope.specs.declared.code.Code.TheVariants.{Success}
use Rattle.xfs_client.specs.History.{Told, acknowledged, refused, event, completed, unsolicited, Entry, ask, heard, asks, is_open, told_in}
use Rattle.xfs_client.specs.Withdrawals as withdrawals
use Rattle.xfs_client.specs.Withdrawals.{Terms, Step, waits, dispenses, presents, ends, fails, gives_up, IsMove, conversation, hears, goes_on, step_of, step_by, step_in, after_success, after_completion, dispenses_for, is_success, nonce_of}
use Rattle.xfs_client.specs.declared.heard.HearFault.{HearFault}
use Rattle.xfs_client.specs.declared.withdrawal.Move.{Move}
use Rattle.xfs_client.specs.declared.withdrawal.Move.TheVariants.{Ask, Wait, Done, Ended, Refused}
use Rattle.xfs_client.proofs.Histories.{asks-heard}
use Rattle.xfs_client.proofs.Openings.{opened}
use Rattle.xfs_conversation.specs.Conversation.{Conversation}
use Rattle.xfs_conversation.specs.Pending.{Pending}
use Rattle.xfs_client.specs.Hearings.{IsAskAt, Hearing, begun, asked, told}
use Rattle.xfs_client.specs.Withdraws.{LacksNonce, asked_by, Withdraws, started, moved}
use Rattle.xfs_client.proofs.Asks.{asked_at}
use Rattle.xfs_client.proofs.Hearings.{known_of}

-- a step is no refusal
not_refused : {s : Step} {e : HearFault} → ◌≡◌ {A = Result Step HearFault} (Ok s) (Err e) → ⊥
not_refused is = false≢true (sym (ap is_ok is))

-- Which step follows a completion: s says whether it is of success, one and two whether it is of the first or the second ask.
module _ (o : Option (List ℕ)) (code : Code) where
  abbrev after : (s one two : Bool) → Result Step HearFault
  after s one two = cond s (cond one (dispenses_for o) (cond two (Ok presents) (Ok ends))) (Ok (fails code))

  dispenses_first : (s one two : Bool) (nonce : List ℕ) → after s one two ≡ Ok (dispenses nonce) → one ≡ true
  dispenses_first true true two nonce is = refl
  dispenses_first true false true nonce is = cc
  dispenses_first true false false nonce is = cc
  dispenses_first false one two nonce is = cc

  presents_second : (s one two : Bool) → after s one two ≡ Ok presents → two ≡ true
  presents_second true true two is = no_present o is
    where
      no_present : (o : Option (List ℕ)) → dispenses_for o ≡ Ok presents → two ≡ true
      no_present None e = cc
      no_present (Some nonce) e = cc
  presents_second true false true is = refl
  presents_second true false false is = cc
  presents_second false one two is = cc

  -- it is refused only where the first ask succeeded without a nonce
  faults_first : (s one two : Bool) (e : HearFault) → after s one two ≡ Err e → (s ≡ true) × (one ≡ true) × (o ≡ None)
  faults_first true true two e is = (refl, refl, no_nonce o is)
    where
      no_nonce : (o : Option (List ℕ)) → dispenses_for o ≡ Err e → o ≡ None
      no_nonce None is = refl
      no_nonce (Some nonce) is = cc
  faults_first true false true e is = absurd (not_refused is)
  faults_first true false false e is = absurd (not_refused is)
  faults_first false one two e is = absurd (not_refused is)

first_asked : (n : ℕ) (t : Told) (nonce : List ℕ) → step_of n t ≡ Ok (dispenses nonce) → n ≡ 1
first_asked n (acknowledged id) nonce is = cc
first_asked n (refused id status) nonce is = cc
first_asked n (event id) nonce is = cc
first_asked n (completed id code payload) nonce is = eqb-true n 1 (dispenses_first (nonce_of payload) code (is_success code) (n == 1) (n == 2) nonce is)
first_asked n unsolicited nonce is = cc

second_asked : (n : ℕ) (t : Told) → step_of n t ≡ Ok presents → n ≡ 2
second_asked n (acknowledged id) is = cc
second_asked n (refused id status) is = cc
second_asked n (event id) is = cc
second_asked n (completed id code payload) is = eqb-true n 2 (presents_second (nonce_of payload) code (is_success code) (n == 1) (n == 2) is)
second_asked n unsolicited is = cc

module _ (terms : Terms) (h : List Entry) (texts frames : List (List ℕ)) (hearing : Hearing h texts frames) (frame : List ℕ) where
  -- the history with what was told, and with the ask behind it
  alone : (t : Told) → told_in h frame ≡ Ok t → (more : List (List ℕ)) → more ≡ [] → Hearing (h ++ heard t ∷ []) (texts ++ more) (frames ++ frame ∷ [])
  alone t is more none = rw (none, append-nil texts) (told hearing frame t is)

  followed : (t : Told) → told_in h frame ≡ Ok t → (text : List ℕ) → IsAskAt (asks h + 1) text → Hearing (h ++ heard t ∷ ask ∷ []) (texts ++ text ∷ []) (frames ++ frame ∷ [])
  followed t is text numbered =
      let both = asked (told hearing frame t is) text (rw (asks-heard h t) numbered) in
      subst (λ l. Hearing l (texts ++ text ∷ []) (frames ++ frame ∷ [])) (append_assoc h (heard t ∷ []) (ask ∷ [])) both

  asks_text : (t : Told) → told_in h frame ≡ Ok t → (P : List ℕ → Type 0) → ((text : List ℕ) → P text → IsAskAt (asks h + 1) text) → (m : Move) → withdrawals.IsAskMove P m
      → Hearing (h ++ heard t ∷ ask ∷ []) (texts ++ asked_by m) (frames ++ frame ∷ [])
  asks_text t is P numbered (Ask text) a = followed t is text (numbered text a)
  asks_text t is P numbered Wait a = absurd a
  asks_text t is P numbered Done a = absurd a
  asks_text t is P numbered (Ended code) a = absurd a
  asks_text t is P numbered (Refused status) a = absurd a

  -- the next ask has the number n
  next : (n : ℕ) → asks h + 1 ≡ n → (text : List ℕ) → IsAskAt n text → IsAskAt (asks h + 1) text
  next n is text numbered = subst (λ m. IsAskAt m text) (sym is) numbered

  stepped : (t : Told) → told_in h frame ≡ Ok t → (s : Result Step HearFault) → step_of (asks h) t ≡ s → (m : Move) → IsMove terms s m → Hearing (goes_on h t s) (texts ++ asked_by m) (frames ++ frame ∷ [])
  stepped t is (Err e) step m move = absurd move
  stepped t is (Ok waits) step m move = alone t is (asked_by m) (ap asked_by move)
  stepped t is (Ok (dispenses nonce)) step m move =
      asks_text t is _ (λ text d. next 2 (ap (λ n. n + 1) (first_asked (asks h) t nonce step)) text (asked_at text _ 2 _ d.reads_back refl)) m move
  stepped t is (Ok presents) step m move =
      asks_text t is _ (λ text p. next 3 (ap (λ n. n + 1) (second_asked (asks h) t step)) text (asked_at text _ 3 _ p.reads_back refl)) m move
  stepped t is (Ok ends) step m move = alone t is (asked_by m) (ap asked_by move)
  stepped t is (Ok (fails code)) step m move = alone t is (asked_by m) (ap asked_by move)
  stepped t is (Ok (gives_up status)) step m move = alone t is (asked_by m) (ap asked_by move)

  heard_on : (r : Result Told HearFault) → told_in h frame ≡ r → (m : Move) → IsMove terms (step_by h r) m → Hearing (hears h r) (texts ++ asked_by m) (frames ++ frame ∷ [])
  heard_on (Err e) is m move = absurd move
  heard_on (Ok t) is m move = stepped t is (step_of (asks h) t) refl m move

pub hearing_of : {terms : Terms} {texts frames : List (List ℕ)} → Withdraws terms texts frames → Hearing (conversation frames) texts frames
hearing_of (started text is reads) = asked begun text (asked_at text _ 1 _ reads refl)
hearing_of {terms = terms} (moved {texts = ts} {frames = fs} w frame m move) =
    subst (λ h. Hearing h (ts ++ asked_by m) (fs ++ frame ∷ [])) (sym (fold_push _ _ fs frame))
    (heard_on terms (conversation fs) ts fs (hearing_of w) frame (told_in (conversation fs) frame) refl m move)

-- the one code of success
success_is : (code : Code) → is_success code ≡ true → code ≡ Success
success_is Success is = refl
success_is code is = cc

module _ (h : List Entry) (frame : List ℕ) where
  -- what is told of the only ask is told of the first
  first_id : (id : ℕ) → asks h ≡ 1 → is_open h id ≡ true → id ≡ 1
  first_id id one was_open =
      let within = and_parts _ _ (and_parts _ _ was_open).0 in
      let low = leb-true 1 id within.0 in
      let high = leb-true id (asks h) within.1 in
      omega (arith, low, high, one)

  lacks : (t : Told) → told_in h frame ≡ Ok t → (e : HearFault) → step_of (asks h) t ≡ Err e → LacksNonce h frame
  lacks (acknowledged id) tells e is = absurd (not_refused is)
  lacks (refused id status) tells e is = absurd (not_refused is)
  lacks (event id) tells e is = absurd (not_refused is)
  lacks (completed id code payload) tells e is =
      let why = faults_first (nonce_of payload) code (is_success code) (asks h == 1) (asks h == 2) e is in
      let one = eqb-true (asks h) 1 why.1 in
      let same = first_id id one (opened h frame (completed id code payload) tells) in
      record {
        payload = payload;
        alone = one;
        succeeded = rw (sym same, sym (success_is code why.0)) tells;
        none = why.2;
      }
  lacks unsolicited tells e is = absurd (not_refused is)

pub lacks_nonce : (terms : Terms) (texts unread frames later : List (List ℕ)) (frame : List ℕ) (pending : List Pending) (e : HearFault)
    → Withdraws terms (texts ++ unread) frames → Conversation texts (frames ++ frame ∷ later) pending → step_in (conversation frames) frame ≡ Err e → LacksNonce (conversation frames) frame
lacks_nonce terms texts unread frames later frame pending e withdraws talk is =
    let known = known_of (conversation frames) texts unread frames later frame pending (hearing_of withdraws) talk in
    lacks (conversation frames) frame known.0 known.1 e (subst (λ r. step_by (conversation frames) r ≡ Err e) known.1 is)
