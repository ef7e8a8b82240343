-- The rest of a conversation, by its first frame.
use Rattle.std.proofs.Common.{◌≡◌, ◌<◌, ◌≤◌, ◌+◌, ◌-◌, ◌↔◌, ◌⊎◌, ℕ, zero, suc, List, [], ◌∷◌, ◌++◌, length, get_or, drop, take, Contains, Option, Some, None, refl, ap, sym, ◌∙◌, inl, inr, arith, subst}
use Rattle.std.specs.Borrow.{Bor}
use Rattle.std.specs.List.{slice_get}
use Rattle.std.proofs.lemmas.List.{drop_more, take_more, length-drop, nil_from_length}
use Rattle.std.proofs.lemmas.List.Elements.{Contains-push_cases}
use Rattle.std.proofs.lemmas.Option.{slice_get_within, get_or_from_slice_get}
use Rattle.std.specs.declared.result.Result.{Result}
use Rattle.serde_json.specs.Data.{Data}
use Rattle.xfs_envelope.specs.declared.code.Code.{Code}
use Rattle.xfs_envelope.specs.declared.code.Status.{Status}
use Rattle.xfs_envelope.specs.declared.command.Refuse.{Refuse}
use Rattle.xfs_envelope.specs.Commands.{Command, command_in}
use Rattle.xfs_envelope.specs.Replies.{Reply, reply_in, acknowledge, event, completion, unsolicited}
use Rattle.xfs_conversation.specs.Pending.{Pending}
use Rattle.xfs_audit.specs.declared.rest.Rest.{Rest}
use Rattle.xfs_audit.specs.declared.way.Step.TheVariants.{Completed, Told}
use Rattle.xfs_audit.specs.declared.way.Way.{Way}
use Rattle.xfs_audit.specs.Conversing.{Acknowledges, misread, refused, accepted, Says, completed, told, announced, Converses, ended, posted, heard, IsWithout}
use Rattle.xfs_audit.specs.Ways.{Splits, IsSplit, IsWhole, HasOver, IsOver, HasId, LeadsBack, AnswersText, Extends, IsRest, IsLastText}
use Rattle.xfs_audit.proofs.Splitting.{end-there, end-back, nothing-there, nothing-back}
use Rattle.xfs_audit.proofs.Adding.{same-splits}
use Rattle.xfs_audit.proofs.Stepping.{no-way}

-- a conversation that goes on begins with a frame that says something, or with the acknowledge of the first text
abbrev Hears : List ℕ → List Pending → List (List ℕ) → List ℕ → List (List ℕ) → Type 0
Hears ids before texts frame frames = (after : List Pending) × Says before (reply_in frame) after × Converses ids after texts frames

abbrev Posts : List ℕ → List Pending → List (List ℕ) → List ℕ → List (List ℕ) → Type 0
Posts ids before texts frame frames = (text : List ℕ) × (later : List (List ℕ)) × (after : List Pending) × (texts ≡ text ∷ later) × Acknowledges before (command_in text) (reply_in frame) after × Converses ids after later frames

front : {ids : List ℕ} {before : List Pending} {texts : List (List ℕ)} (frame : List ℕ) (frames : List (List ℕ)) → Converses ids before texts (frame ∷ frames) → Hears ids before texts frame frames ⊎ Posts ids before texts frame frames
front frame frames (posted {after = after} {texts = later} text _ says h) = inr (text, later, after, refl, says, h)
front frame frames (heard {after = after} _ says h) = inl (after, says, h)

unacknowledged : {before after : List Pending} {asked : Result Command Refuse} {r : Option Reply} → ((id : Option ℕ) (name : Option (List ℕ)) (status : Option Status) → r ≡ Some (acknowledge id name status) → ⊥) → Acknowledges before asked r after → ⊥
unacknowledged other (misread _ id name) = other id name _ refl
unacknowledged other (refused _ id name status _) = other id name _ refl
unacknowledged other (accepted _ id name) = other id name _ refl

unsaid : {before after : List Pending} {r : Option Reply} {id : Option ℕ} {name : Option (List ℕ)} {status : Option Status} → r ≡ Some (acknowledge id name status) → Says before r after → ⊥
unsaid e (completed _ _ _ _) = cc
unsaid e (told _ _ _ _) = cc
unsaid e (announced _ _) = cc

-- a frame that says nothing
pub unread : (ids : List ℕ) (texts : List (List ℕ)) (old new : Rest) → new.left ≡ old.left → new.ways.items ≡ [] → Extends ids texts None old new
unread ids texts old new left none frame frames says rest = (rw left rest.0, λ m pending within. (to m pending, from m pending))
  where
    silent : {before after : List Pending} {r : Option Reply} → r ≡ None → Says before r after → ⊥
    silent e (completed _ _ _ _) = cc
    silent e (told _ _ _ _) = cc
    silent e (announced _ _) = cc

    to : (m : ℕ) (pending : List Pending) → Converses ids pending (drop m texts) (frame ∷ frames) → (m ≡ new.left) × IsSplit ids new.ways.items pending
    to m pending h = elim (front frame frames h) [
      | inl one ↦ absurd (silent says one.1)
      | inr one ↦ absurd (unacknowledged (λ id name status e. not_none (sym says ∙ e)) one.4)
    ]
      where
        not_none : {r : Reply} → None ≡ Some r → ⊥
        not_none e = cc

    from : (m : ℕ) (pending : List Pending) → (m ≡ new.left) × IsSplit ids new.ways.items pending → Converses ids pending (drop m texts) (frame ∷ frames)
    from m pending (same, s) = absurd (no-way (subst (λ l. IsSplit ids l pending) none s))

-- a frame that is no acknowledge
abbrev pub IsBack : List ℕ → Reply → List Way → List Way → Type 0
IsBack ids reply behind ways = (pending : List Pending) → IsSplit ids ways pending ↔ ((after : List Pending) × Says pending (Some reply) after × IsSplit ids behind after)

pub heard-more : (ids : List ℕ) (texts : List (List ℕ)) (reply : Reply) (old new : Rest) → new.left ≡ old.left → ((id : Option ℕ) (name : Option (List ℕ)) (status : Option Status) → Some reply ≡ Some (acknowledge id name status) → ⊥)
    → IsBack ids reply old.ways.items new.ways.items → Extends ids texts (Some reply) old new
heard-more ids texts reply old new left other back frame frames says rest = (rw left rest.0, λ m pending within. (to m pending within, from m pending within))
  where
    to : (m : ℕ) (pending : List Pending) → m ≤ length texts → Converses ids pending (drop m texts) (frame ∷ frames) → (m ≡ new.left) × IsSplit ids new.ways.items pending
    to m pending within h = elim (front frame frames h) [
      | inl one ↦ let both = (rest.1 m one.0 within).0 one.2 in (both.0 ∙ sym left, (back pending).1 (one.0, rw says at one.1, both.1))
      | inr one ↦ absurd (unacknowledged (λ id name status e. other id name status (sym says ∙ e)) one.4)
    ]

    from : (m : ℕ) (pending : List Pending) → m ≤ length texts → (m ≡ new.left) × IsSplit ids new.ways.items pending → Converses ids pending (drop m texts) (frame ∷ frames)
    from m pending within (same, s) =
        let one = (back pending).0 s in
        heard frame (rw says one.1) ((rest.1 m one.0 within).1 (same ∙ left, one.2))

pub told-back-more : (ids : List ℕ) (id : ℕ) (name : List ℕ) (payload : Data) (behind ways : List Way) → LeadsBack ids (Told id) behind ways → IsBack ids (event id name payload) behind ways
told-back-more ids id name payload behind ways leads pending = (to, from)
  where
    to : IsSplit ids ways pending → ((after : List Pending) × Says pending (Some (event id name payload)) after × IsSplit ids behind after)
    to s =
        let one = (leads pending).0 s in
        let has = one.1.1 in
        let says : Says pending (Some (event has.command.id name payload)) pending = told has.command name payload has.there in
        (pending, subst (λ i. Says pending (Some (event i name payload)) pending) has.its says, subst (λ l. IsSplit ids behind l) one.1.0 one.2)

    reads : {after : List Pending} {r : Option Reply} → r ≡ Some (event id name payload) → Says pending r after → (after ≡ pending) × HasId id pending
    reads e (completed _ _ _ _) = absurd cc
    reads e (told p _ _ there) = (refl, record { command = p; there = there; its = cc })
    reads e (announced _ _) = absurd cc

    from : ((after : List Pending) × Says pending (Some (event id name payload)) after × IsSplit ids behind after) → IsSplit ids ways pending
    from (after, says, s) = (leads pending).1 (after, reads refl says, s)

pub completed-back-more : (ids : List ℕ) (p : Pending) (code : Code) (payload : Data) (behind ways : List Way) → LeadsBack ids (Completed p) behind ways → IsBack ids (completion p.id p.name code payload) behind ways
completed-back-more ids p code payload behind ways leads pending = (to, from)
  where
    to : IsSplit ids ways pending → ((after : List Pending) × Says pending (Some (completion p.id p.name code payload)) after × IsSplit ids behind after)
    to s = let one = (leads pending).0 s in (one.0, completed p code payload one.1, one.2)

    reads : {after : List Pending} {r : Option Reply} → r ≡ Some (completion p.id p.name code payload) → Says pending r after → IsWithout p pending after
    reads {after = after} e (completed q _ _ without) =
        let its : q.id ≡ p.id = cc in
        let named : q.name ≡ p.name = cc in
        let same : q ≡ p = rw (its, named) refl in
        subst (λ (c : Pending). IsWithout c pending after) same without
    reads e (told _ _ _ _) = absurd cc
    reads e (announced _ _) = absurd cc

    from : ((after : List Pending) × Says pending (Some (completion p.id p.name code payload)) after × IsSplit ids behind after) → IsSplit ids ways pending
    from (after, says, s) = (leads pending).1 (after, reads refl says, s)

pub announced-back : (ids : List ℕ) (name : List ℕ) (payload : Data) (ways : List Way) → IsBack ids (unsolicited name payload) ways ways
announced-back ids name payload ways pending = (λ s. (pending, announced name payload, s), from)
  where
    reads : {after : List Pending} {r : Option Reply} → r ≡ Some (unsolicited name payload) → Says pending r after → after ≡ pending
    reads e (completed _ _ _ _) = absurd cc
    reads e (told _ _ _ _) = absurd cc
    reads e (announced _ _) = refl

    from : ((after : List Pending) × Says pending (Some (unsolicited name payload)) after × IsSplit ids ways after) → IsSplit ids ways pending
    from (after, says, s) = subst (λ l. IsSplit ids ways l) (reads refl says) s

-- the texts from a place on
drop-first : (texts : List (List ℕ)) (m : ℕ) (text : List ℕ) (later : List (List ℕ)) → drop m texts ≡ text ∷ later → (m < length texts) × (slice_get texts m ≡ Some text) × (later ≡ drop (m + 1) texts)
drop-first [] zero text later e = absurd cc
drop-first [] (suc m) text later e = absurd cc
drop-first (t ∷ texts) zero text later e = (omega arith, cc, cc)
drop-first (t ∷ texts) (suc m) text later e =
    let r = drop-first texts m text later e in
    let one : suc m + 1 ≡ suc (m + 1) = omega arith in
    (omega arith, r.1, r.2 ∙ ap (λ k. drop k (t ∷ texts)) (sym one))

drop-there : (texts : List (List ℕ)) (m : ℕ) (text : List ℕ) → slice_get texts m ≡ Some text → drop m texts ≡ text ∷ drop (m + 1) texts
drop-there texts m text e = drop_more texts m text (slice_get_within texts m text e) ∙ ap (λ t. t ∷ drop (m + 1) texts) (get_or_from_slice_get texts m text text e)

-- an acknowledge, of the last text that is left
pub posted-more : (ids : List ℕ) (texts : List (List ℕ)) (id : Option ℕ) (name : Option (List ℕ)) (status : Option Status) (text : Bor (List ℕ)) (old new : Rest) → IsLastText texts old.left (Some text) → new.left ≡ old.left - 1
    → AnswersText ids (command_in text.now) status old.ways.items new.ways.items → Extends ids texts (Some (acknowledge id name status)) old new
posted-more ids texts id name status text old new last left answers frame frames says rest = (let a = rest.0 in omega arith, λ m pending within. (to m pending within, from m pending within))
  where
    to : (m : ℕ) (pending : List Pending) → m ≤ length texts → Converses ids pending (drop m texts) (frame ∷ frames) → (m ≡ new.left) × IsSplit ids new.ways.items pending
    to m pending within h = elim (front frame frames h) [
      | inl one ↦ absurd (unsaid says one.1)
      | inr one ↦
          let r = drop-first texts m one.0 one.1 one.3 in
          let both = (rest.1 (m + 1) one.2 (let a = r.0 in omega arith)).0 (subst (λ l. Converses ids one.2 l frames) r.2 one.5) in
          let here : m ≡ old.left - 1 = let a = both.0 in omega arith in
          let found : Some one.0 ≡ Some text.now = sym r.1 ∙ ap (slice_get texts) here ∙ last.1 in
          let same : one.0 ≡ text.now = cc in
          let said : Acknowledges pending (command_in text.now) (Some (acknowledge id name status)) one.2 = subst (λ t. Acknowledges pending (command_in t) (Some (acknowledge id name status)) one.2) same (rw says at one.4) in
          (here ∙ sym left, (answers id name pending).1 (one.2, said, both.1))
    ]

    from : (m : ℕ) (pending : List Pending) → m ≤ length texts → (m ≡ new.left) × IsSplit ids new.ways.items pending → Converses ids pending (drop m texts) (frame ∷ frames)
    from m pending within (same, s) =
        let one = (answers id name pending).0 s in
        let here : m ≡ old.left - 1 = same ∙ left in
        let there : slice_get texts m ≡ Some text.now = ap (slice_get texts) here ∙ last.1 in
        let inside = slice_get_within texts m text.now there in
        let later = (rest.1 (m + 1) one.0 (omega arith)).1 (let a = last.0 in omega arith, one.2) in
        rw (drop-there texts m text.now there) (posted {before = pending} {after = one.0} text.now frame (rw says one.1) later)

-- an acknowledge too many
pub posted-none : (ids : List ℕ) (texts : List (List ℕ)) (id : Option ℕ) (name : Option (List ℕ)) (status : Option Status) (old new : Rest) → IsLastText texts old.left None → new.left ≡ old.left → new.ways.items ≡ []
    → Extends ids texts (Some (acknowledge id name status)) old new
posted-none ids texts id name status old new last left none frame frames says rest = (rw left rest.0, λ m pending within. (to m pending, from m pending))
  where
    to : (m : ℕ) (pending : List Pending) → Converses ids pending (drop m texts) (frame ∷ frames) → (m ≡ new.left) × IsSplit ids new.ways.items pending
    to m pending h = elim (front frame frames h) [
      | inl one ↦ absurd (unsaid says one.1)
      | inr one ↦
          let r = drop-first texts m one.0 one.1 one.3 in
          let both = (rest.1 (m + 1) one.2 (let a = r.0 in omega arith)).0 (subst (λ l. Converses ids one.2 l frames) r.2 one.5) in
          elim last [
            | inl none_left ↦ let a = both.0 in absurd (omega arith)
            | inr too_many ↦ let a = rest.0 in absurd (omega arith)
          ]
    ]

    from : (m : ℕ) (pending : List Pending) → (m ≡ new.left) × IsSplit ids new.ways.items pending → Converses ids pending (drop m texts) (frame ∷ frames)
    from m pending (same, s) = absurd (no-way (subst (λ l. IsSplit ids l pending) none s))

-- behind the last frame
pub end-rest : (ids : List ℕ) (texts : List (List ℕ)) (way : Way) (rest : Rest) → rest.left ≡ length texts → rest.ways.items ≡ way ∷ [] → way.stays ≡ length ids → way.due.items ≡ [] → IsRest ids texts [] rest
end-rest ids texts way rest left ways stays due = (omega arith, λ m pending within. (to m pending within, from m pending))
  where
    only : (w : Way) → Contains (way ∷ []) w → way ≡ w
    only w (zero, lt, is) = is
    only w (suc k, lt, is) = absurd (omega arith)

    to : (m : ℕ) (pending : List Pending) → m ≤ length texts → Converses ids pending (drop m texts) [] → (m ≡ rest.left) × IsSplit ids rest.ways.items pending
    to m pending within h = finish (drop m texts) refl h
      where
        finish : (later : List (List ℕ)) → drop m texts ≡ later → Converses ids pending later [] → (m ≡ rest.left) × IsSplit ids rest.ways.items pending
        finish [] e (ended same) =
            let a : length (drop m texts) ≡ length texts - m = length-drop m texts in
            let b : length (drop m texts) ≡ 0 = ap length e in
            (omega arith, record { way = way; there = rw ways (zero, omega arith, refl); splits = same-splits (sym stays) (sym due) (end-there ids pending same) })
        finish (_ ∷ _) e h = elim h [ ]

    from : (m : ℕ) (pending : List Pending) → (m ≡ rest.left) × IsSplit ids rest.ways.items pending → Converses ids pending (drop m texts) []
    from m pending (here, s) =
        let same = only s.way (subst (λ l. Contains l s.way) ways s.there) in
        let splits : Splits ids way.stays way.due.items pending = subst (λ (w : Way). Splits ids w.stays w.due.items pending) (sym same) s.splits in
        let none_left : drop m texts ≡ [] = nothing_left m (here ∙ left) in
        rw none_left (ended (end-back ids pending (same-splits stays due splits)))
      where
        nothing_left : (k : ℕ) → k ≡ length texts → drop k texts ≡ []
        nothing_left k e = nil_from_length (drop k texts) (let a : length (drop k texts) ≡ length texts - k = length-drop k texts in omega arith)

-- before the first frame
pub whole-rest : (ids : List ℕ) (texts frames : List (List ℕ)) (rest : Rest) → IsRest ids texts frames rest → IsWhole rest ↔ Converses ids [] texts frames
whole-rest ids texts frames rest is = (to, from)
  where
    to : IsWhole rest → Converses ids [] texts frames
    to (left, has) =
        (is.1 0 [] (omega arith)).1 (sym left, record { way = has.way; there = has.there; splits = same-splits (sym has.over.0) (sym has.over.1) (nothing-there ids) })

    from : Converses ids [] texts frames → IsWhole rest
    from h =
        let both = (is.1 0 [] (omega arith)).0 h in
        (sym both.0, record { way = both.1.way; there = both.1.there; over = nothing-back ids both.1.way.stays both.1.way.due.items both.1.splits })

-- one way more under which a command is pending
pub over-more : (ways : List Way) (i : ℕ) (way : Way) → i < length ways → get_or ways i way ≡ way → (IsOver way → ⊥) → (HasOver (take i ways) → ⊥) → HasOver (take (i + 1) ways) → ⊥
over-more ways i way within is not none has =
    let more : take (i + 1) ways ≡ take i ways ++ way ∷ [] = take_more ways i way within ∙ ap (λ w. take i ways ++ w ∷ []) is in
    elim (Contains-push_cases (take i ways) way has.way (subst (λ l. Contains l has.way) more has.there)) [
      | inl there ↦ none record { way = has.way; there = there; over = has.over }
      | inr same ↦ not (subst (λ w. IsOver w) (sym same) has.over)
    ]
