-- A hearing agrees with each conversation whose frames it heard.
use Rattle.std.specs.Prelude.{⊤}
use Rattle.std.proofs.Common.{◌≡◌, ◌≢◌, Result, is_ok, ℕ, ◌+◌, List, [], ◌∷◌, ◌++◌, length, Ok, Err, append_assoc, refl, sym, ◌∙◌, ap, subst, arith, inl, inr}
use Rattle.std.proofs.lemmas.Bool.{cases_lt, false≢true}
use Rattle.std.proofs.lemmas.List.{length-append, length_push}
use Rattle.xfs_client.specs.Desks.{Remembered, Recalls}
use Rattle.xfs_client.specs.History.{Told, Entry, heard, asks, told_in}
use Rattle.xfs_client.specs.declared.heard.HearFault.{HearFault}
use Rattle.xfs_client.specs.declared.heard.HearFault.TheVariants.{Stranger, Shape, Memory}
use Rattle.xfs_client.proofs.Histories.{asks-heard, asks-ask}
use Rattle.xfs_conversation.specs.Conversation.{Conversation}
use Rattle.xfs_conversation.specs.Pending.{Pending}
use Rattle.xfs_conversation.proofs.Fronts.{front_of}
use Rattle.xfs_client.specs.Hearings.{IsAskAt, Hearing, begun, asked, told, Remembers}
use Rattle.xfs_client.proofs.Agreement.{Agrees, agrees_first, agrees_asked, goes_posted, stranger_posted, goes_heard}
use Rattle.xfs_client.proofs.Lasts.{by_last, nothing_said}

-- these are the asks from this number on
abbrev pub AreAsks : ℕ → List (List ℕ) → Type 0
AreAsks n [] = ⊤
AreAsks n (text ∷ texts) = IsAskAt n text × AreAsks (n + 1) texts

front_asks : (n : ℕ) (xs ys : List (List ℕ)) → AreAsks n (xs ++ ys) → AreAsks n xs
front_asks n [] ys all = tt
front_asks n (x ∷ xs) ys all = (all.0, front_asks (n + 1) xs ys all.1)

last_ask : (n : ℕ) (xs : List (List ℕ)) (x : List ℕ) → AreAsks n (xs ++ x ∷ []) → IsAskAt (n + length xs) x
last_ask n [] x all = subst (λ m. IsAskAt m x) (omega arith) all.0
last_ask n (y ∷ xs) x all = subst (λ m. IsAskAt m x) (omega arith) (last_ask (n + 1) xs x all.1)

push_ask : (n : ℕ) (xs : List (List ℕ)) (x : List ℕ) → AreAsks n xs → IsAskAt (n + length xs) x → AreAsks n (xs ++ x ∷ [])
push_ask n [] x all last = (subst (λ m. IsAskAt m x) (omega arith) last, tt)
push_ask n (y ∷ xs) x all last = (all.0, push_ask (n + 1) xs x all.1 (subst (λ m. IsAskAt m x) (omega arith) last))

asks_of : {h : List Entry} {texts frames : List (List ℕ)} → Hearing h texts frames → AreAsks 1 texts × (length texts ≡ asks h)
asks_of begun = (tt, refl)
asks_of (asked {h = h} {texts = texts} hearing text is) =
    let rest = asks_of hearing in
    let count = rest.1 in
    (push_ask 1 texts text rest.0 (subst (λ m. IsAskAt m text) (omega (arith, count)) is), length_push texts text ∙ ap (λ m. m + 1) count ∙ sym (asks-ask h))
asks_of (told {h = h} hearing frame t is) = let rest = asks_of hearing in (rest.0, rest.1 ∙ sym (asks-heard h t))

-- what a result tells, or else this
abbrev told_or : Told → Result Told HearFault → Told
told_or t (Ok u) = u
told_or t (Err e) = t

same_ok : (r : Result Told HearFault) (t u : Told) → r ≡ Ok t → r ≡ Ok u → t ≡ u
same_ok r t u one other = sym (ap (told_or t) one) ∙ ap (told_or t) other

not_both : (r : Result Told HearFault) (t : Told) (e : HearFault) → r ≡ Ok t → r ≡ Err e → ⊥
not_both r t e one other = false≢true (sym (ap is_ok other) ∙ ap is_ok one)

pub agreed : {h : List Entry} {asked frames : List (List ℕ)} → Hearing h asked frames → (texts : List (List ℕ)) (pending : List Pending) → Conversation texts frames pending → AreAsks 1 texts
    → Agrees h pending (length texts)
agreed begun texts pending talk all = let none = nothing_said talk refl in subst (λ l. Agrees [] pending (length l)) (sym none.0) (subst (λ l. Agrees [] l 0) (sym none.1) agrees_first)
agreed (asked {h = h} hearing text is) texts pending talk all = agrees_asked h pending (length texts) (agreed hearing texts pending talk all)
agreed (told {h = h} hearing frame t is) texts pending talk all = elim (by_last talk) [
  | inl p ↦
      let numbered : AreAsks 1 (p.earlier ++ p.text ∷ []) = subst (AreAsks 1) p.texts_are all in
      let a = agreed hearing p.earlier p.before p.talk (front_asks 1 p.earlier (p.text ∷ []) numbered) in
      let made = a.made in
      let one : IsAskAt (length p.earlier + 1) p.text = subst (λ m. IsAskAt m p.text) (omega arith) (last_ask 1 p.earlier p.text numbered) in
      let count : length texts ≡ length p.earlier + 1 = ap length p.texts_are ∙ length_push p.earlier p.text in
      elim (cases_lt (length p.earlier) (asks h)) [
        | inl less ↦
            let g = goes_posted h p.before (length p.earlier) a less one p.says in
            let same = same_ok (told_in h frame) t g.tells is g.is in
            subst (λ n. Agrees (h ++ heard t ∷ []) pending n) (sym count) (subst (λ u. Agrees (h ++ heard u ∷ []) pending (length p.earlier + 1)) (sym same) g.agrees)
        | inr more ↦ absurd (not_both (told_in h frame) t Stranger is (stranger_posted h p.before (length p.earlier) a (omega (arith, made, more)) one p.says))
      ]
  | inr p ↦
      let a = agreed hearing texts p.before p.talk all in
      let g = goes_heard h p.before (length texts) a p.says in
      let same = same_ok (told_in h frame) t g.tells is g.is in
      subst (λ u. Agrees (h ++ heard u ∷ []) pending (length texts)) (sym same) g.agrees
]

-- of something that is told the one fault is want of memory
pub only_memory : (r : Result Told HearFault) (t : Told) (e : HearFault) → r ≡ Ok t → (e ≢ Memory → r ≡ Err e) → e ≡ Memory
only_memory r t Memory is other = refl
only_memory r t Stranger is other = absurd (not_both r t Stranger is (other (λ e. cc)))
only_memory r t Shape is other = absurd (not_both r t Shape is (other (λ e. cc)))

-- the next frame of the conversation is known
pub known_of : (h : List Entry) (texts unread frames later : List (List ℕ)) (frame : List ℕ) (pending : List Pending)
    → Hearing h (texts ++ unread) frames → Conversation texts (frames ++ frame ∷ later) pending → (t : Told) × (told_in h frame ≡ Ok t)
known_of h texts unread frames later frame pending hearing talk =
    let asks_ = asks_of hearing in
    let front = front_of talk (frames ++ frame ∷ []) later (sym (append_assoc frames (frame ∷ []) later)) in
    let numbered : AreAsks 1 front.acknowledged = front_asks 1 front.acknowledged front.later (subst (AreAsks 1) front.texts_are (front_asks 1 texts unread asks_.0)) in
    elim (by_last front.talk) [
      | inl p ↦
          let all : AreAsks 1 (p.earlier ++ p.text ∷ []) = subst (AreAsks 1) p.texts_are numbered in
          let a = agreed hearing p.earlier p.before p.talk (front_asks 1 p.earlier (p.text ∷ []) all) in
          let one : IsAskAt (length p.earlier + 1) p.text = subst (λ m. IsAskAt m p.text) (omega arith) (last_ask 1 p.earlier p.text all) in
          let acknowledged : length front.acknowledged ≡ length p.earlier + 1 = ap length p.texts_are ∙ length_push p.earlier p.text in
          let posted_ : length texts ≡ length front.acknowledged + length front.later = ap length front.texts_are ∙ length-append front.acknowledged front.later in
          let asked_ : length texts + length unread ≡ asks h = sym (length-append texts unread) ∙ asks_.1 in
          let g = goes_posted h p.before (length p.earlier) a (omega (arith, acknowledged, posted_, asked_)) one p.says in
          (g.tells, g.is)
      | inr p ↦
          let a = agreed hearing front.acknowledged p.before p.talk numbered in
          let g = goes_heard h p.before (length front.acknowledged) a p.says in
          (g.tells, g.is)
    ]

pub remembered_of : (h : List Entry) (texts unread frames : List (List ℕ)) (pending : List Pending) (d : Remembered)
    → Hearing h (texts ++ unread) frames → Conversation texts frames pending → Recalls d h → Remembers d texts unread pending
remembered_of h texts unread frames pending d hearing talk keeps =
    let asks_ = asks_of hearing in
    let a = agreed hearing texts pending talk (front_asks 1 texts unread asks_.0) in
    record {
      running = λ id. keeps.running id ∙ a.running id;
      waiting = λ id. rw asks_.1 (keeps.waiting id ∙ a.waiting id);
      asked = keeps.count ∙ sym asks_.1;
    }
