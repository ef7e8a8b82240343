-- Deeds that are played one behind the other, and the first of them.
use Rattle.std.proofs.Common.{◌≡◌, ◌≢◌, ℕ, zero, suc, ◌+◌, ◌%◌, ◌<◌, ◌≤◌, ◌⊎◌, inl, inr, List, [], ◌∷◌, ◌++◌, refl, ap, sym, subst, ◌∙◌, append_assoc, arith}
use Rattle.std.proofs.lemmas.Bool.{ne_eqb}
use Rattle.std.proofs.lemmas.List.{append-nil}
use Rattle.xfs_disk.specs.declared.disk.Disk.{Ghosts}
use Rattle.xfs_guard.specs.Keeps.{Proceeds}
use Rattle.xfs_guard.specs.View.{GuardView}
use Rattle.xfs_guard.proofs.KeepsLaws.{Proceeds-same}
use Rattle.xfs_model.specs.State.{State}
use Rattle.xfs_load.specs.Generator.{Client, Deed, plan, refill, refill_behind, round_of}
use Rattle.xfs_load.specs.Plays.{DoesDeed, DoesInPart, Plays, PlaysInPart}

-- one deed is a list of one
pub plays-one : (deed : Deed) (c : Client) (s : State) (after : Client) (new : State) → DoesDeed deed c s after new → Plays (deed ∷ []) c s after new
plays-one deed c s after new does = record { client = after; between = new; does = does; rest = (refl, refl) }

-- deeds are done, and then others
pub plays-then : (first more : List Deed) (c : Client) (s : State) (client : Client) (between : State) (after : Client) (new : State) → Plays first c s client between → Plays more client between after new → Plays (first ++ more) c s after new
plays-then [] more c s client between after new p q =
    let P : Client → Type 0 = λ x. Plays more x between after new in
    let Q : State → Type 0 = λ t. Plays more c t after new in
    subst Q p.1 (subst P p.0 q)
plays-then (deed ∷ first) more c s client between after new p q = record {
  client = p.client;
  between = p.between;
  does = p.does;
  rest = plays-then first more p.client p.between client between after new p.rest q;
}

-- the first calls of the first deed were made
pub part-first : (deed : Deed) (more : List Deed) (c : Client) (s new : State) → DoesInPart deed c s new → PlaysInPart (deed ∷ more) c s new
part-first deed more c s new begins = record { first = []; deed = deed; left = more; are = refl; client = c; between = s; plays = (refl, refl); begins = begins }

-- deeds are done, and then the first of others
pub part-behind : (first more : List Deed) (c : Client) (s : State) (client : Client) (between new : State) → Plays first c s client between → PlaysInPart more client between new → PlaysInPart (first ++ more) c s new
part-behind first more c s client between new p q = record {
  first = first ++ q.first;
  deed = q.deed;
  left = q.left;
  are = ap (λ ds. first ++ ds) q.are ∙ sym (append_assoc first q.first (q.deed ∷ q.left));
  client = q.client;
  between = q.between;
  plays = plays-then first q.first c s client between q.client q.between p q.plays;
  begins = q.begins;
}

-- more deeds are left
pub part-before : (first more : List Deed) (c : Client) (s new : State) → PlaysInPart first c s new → PlaysInPart (first ++ more) c s new
part-before first more c s new p = record {
  first = p.first;
  deed = p.deed;
  left = p.left ++ more;
  are = ap (λ ds. ds ++ more) p.are ∙ append_assoc p.first (p.deed ∷ p.left) more;
  client = p.client;
  between = p.between;
  plays = p.plays;
  begins = p.begins;
}

-- one deed is done, and then others
pub plays-next : (deed : Deed) (more : List Deed) (c : Client) (s : State) (client : Client) (between : State) (after : Client) (new : State) → DoesDeed deed c s client between → Plays more client between after new → Plays (deed ∷ more) c s after new
plays-next deed more c s client between after new does q = record { client = client; between = between; does = does; rest = q }

-- one deed is done, and then the first of others
pub part-next : (deed : Deed) (more : List Deed) (c : Client) (s : State) (client : Client) (between new : State) → DoesDeed deed c s client between → PlaysInPart more client between new → PlaysInPart (deed ∷ more) c s new
part-next deed more c s client between new does q = part-behind (deed ∷ []) more c s client between new (plays-one deed c s client between does) q

-- a guard that stays has proceeded
pub proceeds-kept : {D : Type 0} (g : Ghosts D) (old new : GuardView D) → ((d : D) (c : List ℕ) → g.images_since d (g.moment d) c → g.images d c) → new ≡ old → Proceeds g old new
proceeds-kept {D} g old new only_now same = (let P : GuardView D → Type 0 = λ x. Proceeds g old x in subst P (sym same) (Proceeds-same g old only_now))

-- behind a round that is no eighth nothing is refilled
behind-none : (i : ℕ) → (i + 1) % 8 ≢ 0 → refill_behind i ≡ []
behind-none i none = rw (ne_eqb ((i + 1) % 8) 0 none) refl

behind-eighth : (i : ℕ) → (i + 1) % 8 ≡ 0 → refill_behind i ≡ refill
behind-eighth i is = rw is refl

-- a round and what follows it
pub round-alone : (i : ℕ) (c : Client) (s : State) (after : Client) (new : State) → (i + 1) % 8 ≢ 0 → Plays (round_of i) c s after new → Plays (round_of i ++ refill_behind i) c s after new
round-alone i c s after new none p =
    let P : List Deed → Type 0 = λ deeds. Plays (round_of i ++ deeds) c s after new in
    let Q : List Deed → Type 0 = λ deeds. Plays deeds c s after new in
    subst P (sym (behind-none i none)) (subst Q (sym (append-nil (round_of i))) p)

pub round-eighth : (i : ℕ) (c : Client) (s : State) (client : Client) (between : State) (after : Client) (new : State) → (i + 1) % 8 ≡ 0 → Plays (round_of i) c s client between → Plays refill client between after new
    → Plays (round_of i ++ refill_behind i) c s after new
round-eighth i c s client between after new is p q =
    let P : List Deed → Type 0 = λ deeds. Plays (round_of i ++ deeds) c s after new in
    subst P (sym (behind-eighth i is)) (plays-then (round_of i) refill c s client between after new p q)

pub round-part : (i : ℕ) (c : Client) (s : State) (client : Client) (between new : State) → (i + 1) % 8 ≡ 0 → Plays (round_of i) c s client between → PlaysInPart refill client between new → PlaysInPart (round_of i ++ refill_behind i) c s new
round-part i c s client between new is p q =
    let P : List Deed → Type 0 = λ deeds. PlaysInPart (round_of i ++ deeds) c s new in
    subst P (sym (behind-eighth i is)) (part-behind (round_of i) refill c s client between new p q)

-- so many rounds are the first of more
pub plan-more : (many more : ℕ) → many ≤ more → (left : List Deed) × (plan more ≡ plan many ++ left)
plan-more many zero le = let none : many ≡ 0 = omega (arith, le) in ([], rw none refl)
plan-more many (suc more) le = elim (cases_le many more le) [
  | inl less ↦ (let p = plan-more many more less in (p.0 ++ (round_of more ++ refill_behind more), ap (λ deeds. deeds ++ (round_of more ++ refill_behind more)) p.1 ∙ append_assoc (plan many) p.0 (round_of more ++ refill_behind more)))
  | inr all ↦ ([], rw all (sym (append-nil (plan (suc more)))))
]
  where
    cases_le : (n m : ℕ) → n ≤ suc m → (n ≤ m) ⊎ (n ≡ suc m)
    cases_le n m le = grind (arith, le)

-- a round in which memory ran out breaks off the whole
pub plan-part : (i many : ℕ) (c : Client) (s : State) (client : Client) (between new : State) → i < many → Plays (plan i) c s client between → PlaysInPart (round_of i ++ refill_behind i) client between new → PlaysInPart (plan many) c s new
plan-part i many c s client between new less p q =
    let m = plan-more (suc i) many (omega (arith, less)) in
    let P : List Deed → Type 0 = λ deeds. PlaysInPart deeds c s new in
    subst P (sym m.1) (part-before (plan (suc i)) m.0 c s new (part-behind (plan i) (round_of i ++ refill_behind i) c s client between new p q))

-- a round more
pub plan-next : (i : ℕ) (c : Client) (s : State) (client : Client) (between : State) (after : Client) (new : State) → Plays (plan i) c s client between → Plays (round_of i ++ refill_behind i) client between after new → Plays (plan (i + 1)) c s after new
plan-next i c s client between after new p q =
    let P : ℕ → Type 0 = λ n. Plays (plan n) c s after new in
    let next : suc i ≡ i + 1 = omega arith in
    subst P next (plays-then (plan i) (round_of i ++ refill_behind i) c s client between after new p q)
