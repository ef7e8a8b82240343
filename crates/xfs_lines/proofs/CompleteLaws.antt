-- A dispense that its token covers, and a present behind it, are done in full, where no count of faults rises.
use Rattle.std.proofs.Common.{◌≡◌, ◌≤◌, ◌+◌, ◌-◌, ℕ, false, List, [], ◌∷◌, ◌++◌, length, None, Some, Ok, Err, inl, inr, refl, sym, subst, ◌∙◌, ap, arith}
use Rattle.std.specs.Prelude.{fold, replicate, codes}
use Rattle.std.specs.Option.{option_map}
use Rattle.std.specs.declared.option.Option.{Option}
use Rattle.std.specs.declared.result.Result.{Result}
use Rattle.std.proofs.lemmas.List.{length-set}
use Rattle.xfs_base.specs.Counts.{at}
use Rattle.xfs_base.specs.declared.counts.Counts.{Counts as CountsOf}
use Rattle.xfs_token.proofs.Whole.{one_token, no_fault}
use Rattle.xfs_mech.specs.declared.motion.Outcome.{Outcome}
use Rattle.xfs_journal.specs.declared.record.Rec.TheVariants.{Bind}
use Rattle.xfs_guard.specs.View.{View}
use Rattle.xfs_guard.specs.Fits.{unfit}
use Rattle.xfs_guard.specs.Nonce.{live_nonce}
use Rattle.xfs_guard.specs.Presented.{presented_in}
use Rattle.xfs_guard.specs.Refusals.{TokenRefused, claim_refusal, over_budget}
use Rattle.xfs_guard.specs.TokenDeny.{deny_of}
use Rattle.xfs_guard.specs.declared.ask.Ask.TheVariants.{Present as AskPresent}
use Rattle.xfs_guard.specs.declared.deny.Deny.{Deny}
use Rattle.xfs_guard.specs.declared.deny.Deny.TheVariants.{Memory}
use Rattle.xfs_guard.specs.declared.nonce.Nonce.{Nonce}
use Rattle.xfs_guard.proofs.PresentedLaws.{presented_in-push}
use Rattle.xfs_guard.proofs.SizeLaws.{size-longer}
use Rattle.xfs_guard.proofs.RecordLaws.{length-pushed}
use Rattle.xfs_script.specs.Counts.{with_unit}
use Rattle.xfs_script.specs.Dispense.{IsDispense}
use Rattle.xfs_script.specs.declared.guard_line.Given.{Given}
use Rattle.xfs_script.specs.declared.guard_line.GuardLine.TheVariants.{Dispense, Present}
use Rattle.xfs_lines.specs.Output.Refused.{refusal_text}
use Rattle.xfs_lines.specs.Guard.States.{GuardState, guard_of}
use Rattle.xfs_lines.specs.Guard.Moves.{Moves, IsOrderLine}
use Rattle.xfs_lines.specs.Guard.Dispenses.{Dispenses, IsAllowed, IsOrdered, named}
use Rattle.xfs_lines.specs.Guard.Texts.{outcome_text}
use Rattle.xfs_lines.specs.Guard.Verbs.{AnswersGuard, AreGuardAnswer}
use Rattle.xfs_lines.specs.Guard.Complete.{AnswersInFull, CanDispense, CanPresent, IsBindable, IsCalm, IsDispensed, IsGood, IsPresented, moved_line}
use Rattle.xfs_dispenser.specs.Carried.{nothing_stacked}
use Rattle.xfs_dispenser.specs.Checks.{Passed, GrantChecks, Permits, TokenChecks, passed_unless, within_budget}
use Rattle.xfs_dispenser.specs.Denominations.{FirstOf, given_unless}
use Rattle.xfs_dispenser.specs.declared.grant.Grant.{Grant}
use Rattle.xfs_dispenser.specs.declared.named.Named.TheVariants.{These}
use Rattle.xfs_dispenser.specs.declared.notes.Notes.TheVariants.{Individual}
use Rattle.xfs_dispenser.specs.declared.refusal.Refusal.{Refusal}
use Rattle.xfs_dispenser.specs.declared.refusal.Refusal.TheVariants.{Deny as Denied}
use Rattle.xfs_lines.proofs.DispenseLaws.{IsLet, is-let}
use Rattle.xfs_lines.proofs.GuardStateLaws.{told-some}
use Rattle.xfs_dispenser.proofs.CarryLaws.{stacks-counts}
use Rattle.xfs_dispenser.proofs.CompleteLaws.{fault-none, some-gained, some-nonce}
use Rattle.xfs_dispenser.proofs.StackLaws.{present-places}
use Rattle.xfs_dispenser.proofs.TurnLaws.{IsLater, calm-rest}
use Rattle.xfs_lines.proofs.CompleteOrders.{carries-full}
use Rattle.xfs_lines.proofs.CompleteStacks.{stacks-full}
use Rattle.xfs_guard.proofs.CoveredLaws.{IsAhead, IsOpenFor, budget-none, nonce-push, claim-none, same-amounts, can-fit, present-free}

token-unrefused : (v : View) (bytes : List ℕ) (amounts : List (List ℕ × ℕ)) (deny : Deny) (line : List ℕ) → unfit v ≡ None → IsGood v bytes amounts → IsBindable v bytes
    → refusal_text (Denied deny) ≡ Some line → TokenRefused v bytes deny → ⊥
token-unrefused v bytes amounts deny line fit g b told (inl e) = (let f : None ≡ Some deny = sym fit ∙ e in cc)
token-unrefused v bytes amounts deny line fit g b told (inr (e, inl m)) =
    let is : deny ≡ Memory = m.denied ∙ ap deny_of (no_fault g.token bytes m.fault g.genuine.spelled m.is) in
    told-some (Denied deny) line told (ap (λ d. Denied d) is)
token-unrefused v bytes amounts deny line fit g b told (inr (e, inr r)) =
    let one = one_token r.token g.token bytes r.spelled g.genuine.spelled in
    let f : None ≡ Some deny = sym (ap (claim_refusal v bytes) one ∙ claim-none v bytes amounts g b) ∙ r.first in
    cc

named-same : (token : Option (List ℕ)) (a b : List ℕ) → token ≡ Some a → token ≡ Some b → b ≡ a
named-same token a b e f = (let g : Some a ≡ Some b = sym e ∙ f in cc)

-- no check stands against it
checks-passed : (v : View) (token : Option (List ℕ)) (bytes line : List ℕ) (counts : CountsOf) (refusal : Refusal) → token ≡ Some bytes → CanDispense v bytes counts → refusal_text refusal ≡ Some line
    → GrantChecks v (Individual (These counts)) token (Err refusal) → ⊥
checks-passed v token bytes line counts refusal is c told checks =
    by-token (subst (λ t. TokenChecks v (Individual (These counts)) t (Err refusal)) is (subst (λ o. FirstOf (option_map (λ d. Denied d) o) (TokenChecks v (Individual (These counts)) token) (Err refusal)) fit checks))
  where
    fit : unfit v ≡ None
    fit = can-fit v bytes counts c

    same-err : {a b : Refusal} → ◌≡◌ {A = Result Passed Refusal} (Err a) (Err b) → a ≡ b
    same-err e = cc

    by-token : TokenChecks v (Individual (These counts)) (Some bytes) (Err refusal) → ⊥
    by-token (inl r) = token-unrefused v bytes c.amounts r.deny line fit c.good c.binding (rw (same-err r.is) at told) r.refused
    by-token (inr p) =
        let amounts = same-amounts v bytes c.amounts p.amounts c.good p.passes in
        let given : p.given ≡ Ok counts = p.gives ∙ ap (given_unless counts) (fault-none v c.amounts counts c.covered) in
        let over : over_budget v p.amounts counts ≡ None = ap (λ a. over_budget v a counts) amounts ∙ budget-none v c.amounts counts c.covered.enough in
        let all = p.is ∙ (ap (within_budget v bytes p.amounts) given ∙ ap (passed_unless (record { token = bytes; amounts = p.amounts; counts = counts })) over) in
        cc

-- nor does a disk that doesn't fail
allowed-no : (s : GuardState) (token : Option (List ℕ)) (bytes line : List ℕ) (counts : CountsOf) (refusal : Refusal) (next : GuardState) → token ≡ Some bytes → CanDispense s.guard bytes counts → IsCalm s next
    → refusal_text refusal ≡ Some line → IsAllowed s token counts (Err refusal) next → ⊥
allowed-no s token bytes line counts refusal next is c calm told a = go a.grant.checked a.grant.checks a.grant.permits
  where
    go : (r : Result Passed Refusal) → GrantChecks s.guard (Individual (These counts)) token r → Permits (guard_of s) r (Err refusal) (guard_of next) → ⊥
    go (Err r) checks (e, same) = (let f : refusal ≡ r = cc in checks-passed s.guard token bytes line counts refusal is c told (subst (λ x. GrantChecks s.guard (Individual (These counts)) token (Err x)) (sym f) checks))
    go (Ok passed) checks (inl p) = (let e : ◌≡◌ {A = Result Grant Refusal} (Err refusal) (Ok (record { issue = p.issue; counts = passed.counts })) = p.is in cc)
    go (Ok passed) checks (inr u) = calm.disk u.fails.cause

-- the state whose token is bound
allowed-open : (s : GuardState) (token : Option (List ℕ)) (bytes : List ℕ) (counts : CountsOf) (grant : Grant) (bound : GuardState) (c : CanDispense s.guard bytes counts) → token ≡ Some bytes → IsLet s token counts grant bound
    → IsOpenFor bound.guard grant.issue c.amounts 8 × IsAhead bound.guard c.amounts counts.0 × (bound.guard.places ≡ s.guard.places)
allowed-open s token bytes counts grant bound c is p = go c.binding
  where
    same : p.bytes ≡ bytes
    same = named-same token bytes p.bytes is p.is_named

    amounts : p.amounts ≡ c.amounts
    amounts = same-amounts s.guard bytes c.amounts p.amounts c.good (rw same at p.passes)

    short : length bytes ≤ 1024
    short = c.good.genuine.spelled.short

    go : IsBindable s.guard bytes → IsOpenFor bound.guard grant.issue c.amounts 8 × IsAhead bound.guard c.amounts counts.0 × (bound.guard.places ≡ s.guard.places)
    go (inl b) =
        let now : bound.guard ≡ s.guard = p.binds.again (λ none. let e : Some bytes ≡ None = sym b ∙ none in cc) in
        rw now (
          record {
            open_still = c.room.open_still;
            booted = c.room.booted;
            records = (let e = c.room.records in omega (arith, e));
            bytes = (let e = c.room.bytes in omega (arith, e));
            lives = p.lives;
            bound = sym (ap (λ (v : View). v.bound) now) ∙ (p.binds.kept ∙ ap (λ a. Some a) amounts);
          },
          record { lie = c.covered.lie; enough = c.covered.enough },
          refl,
        )
    go (inr f) =
        let now : bound.guard ≡ record s.guard { records = s.guard.records ++ Bind p.bytes ∷ []; bound = Some p.amounts } = p.binds.first f.none in
        let live = nonce-push s.guard.records (Bind p.bytes) (λ count live. refl) in
        let long : length p.bytes ≤ 1024 = rw same short in
        rw now (
          record {
            open_still = c.room.open_still;
            booted = c.room.booted;
            records = (let e = c.room.records in let l = length-pushed s.guard.records (Bind p.bytes) in omega (arith, e, l));
            bytes = (let e = c.room.bytes in let l = size-longer s.guard.records (Bind p.bytes) in omega (arith, e, l, long));
            lives = ap (λ l. option_map (λ (n : Nonce). n.number) l) live ∙ p.lives;
            bound = ap (λ a. Some a) amounts;
          },
          record { lie = c.covered.lie; enough = λ k. let e = c.covered.enough k in let q : presented_in s.guard.units (s.guard.records ++ Bind p.bytes ∷ []) k ≡ presented_in s.guard.units s.guard.records k = presented_in-push s.guard.units s.guard.records (Bind p.bytes) k in omega (arith, e, q) },
          refl,
        )

told-all : (outcome : Outcome) (counts : CountsOf) → outcome.failed ≡ false → outcome.moved.0 ≡ counts.0 → outcome_text (codes "moved") outcome ≡ moved_line counts
told-all outcome counts fine moved = rw (fine, moved) refl

ordered-full : (s next : GuardState) (token : Option (List ℕ)) (bytes line : List ℕ) (counts : CountsOf) → length counts.0 ≡ 8 → token ≡ Some bytes → CanDispense s.guard bytes counts → IsCalm s next
    → IsOrdered s token counts line next → IsDispensed s counts (line ∷ []) next
ordered-full s next token bytes line counts eight is c calm o =
    let ready = allowed-open s token bytes counts o.grant o.bound c is l in
    let calm-on = calm-rest (guard_of s) (guard_of o.bound) (guard_of next) (bound-later c.binding) calm in
    let stacked = rw l.counts_are at o.stacked in
    let all = stacks-full o.grant.issue c.amounts counts.0 0 [] nothing_stacked (guard_of o.bound) o.result (guard_of next) refl (omega (arith, eight)) refl (rw eight refl)
    (rw eight ready.0) ready.1 calm-on (stacks-counts o.grant.issue counts.0 nothing_stacked (guard_of o.bound) o.result (guard_of next) stacked) in
    let told : IsOrderLine (codes "moved") (Ok all.outcome) line = rw all.is at o.told in
    let lives = some-nonce (live_nonce next.guard.records) o.grant.issue all.open_for.lives in
    let gained : (u : ℕ) → at next.guard.places.transport u ≡ at s.guard.places.transport u + at counts u = (λ u. rw ready.2 at (all.transport u)) in
    record {
      text = ap (λ l. l ∷ []) (told ∙ told-all all.outcome counts all.fine all.moved);
      gained = gained;
      given = λ u. rw ready.2 at (all.units u);
      outlet = λ u. rw ready.2 at (all.outlet u);
      ready = λ empty. record {
        room = record { open_still = all.open_for.open_still; booted = all.open_for.booted; records = (let e = all.open_for.records in omega (arith, e)); bytes = (let e = all.open_for.bytes in omega (arith, e)) };
        nonce = lives.0;
        lives = lives.1;
        amounts = c.amounts;
        kept = all.open_for.bound;
        low = some-gained s.guard.places.transport next.guard.places.transport counts c.covered.low gained;
        empty = empty;
      };
    }
  where
    l : IsLet s token counts o.grant o.bound
    l = is-let s token counts o.grant o.bound o.allowed

    bound-later : IsBindable s.guard bytes → IsLater (guard_of s) (guard_of o.bound)
    bound-later (inl b) =
        let now : o.bound.guard ≡ s.guard = l.binds.again (λ none. let e : Some bytes ≡ None = sym b ∙ none in cc) in
        let faults : o.bound.guard.faults ≡ s.guard.faults = ap (λ (v : View). v.faults) now in
        record { mech = omega (arith, faults); disk = l.later }
    bound-later (inr f) =
        let now = l.binds.first f.none in
        let faults : o.bound.guard.faults ≡ s.guard.faults = ap (λ (v : View). v.faults) now in
        record { mech = omega (arith, faults); disk = l.later }

dispenses-full : (s next : GuardState) (token : Option (List ℕ)) (bytes line : List ℕ) (counts : CountsOf) → length counts.0 ≡ 8 → token ≡ Some bytes → CanDispense s.guard bytes counts → IsCalm s next
    → Dispenses s token counts line next → IsDispensed s counts (line ∷ []) next
dispenses-full s next token bytes line counts eight is c calm (inr o) = ordered-full s next token bytes line counts eight is c calm o
dispenses-full s next token bytes line counts eight is c calm (inl r) = absurd (allowed-no s token bytes line counts r.refusal next is c calm r.text r.refused)

presents-full : (s next : GuardState) (line : List ℕ) → CanPresent s.guard → IsCalm s next → Moves s AskPresent line next → IsPresented s (line ∷ []) next
presents-full s next line c calm m =
    let f = carries-full (guard_of s) AskPresent m.result (guard_of next) (present-free s.guard c) calm m.carried in
    let told : IsOrderLine (codes "moved") (Ok f.outcome) line = rw f.is at m.told in
    record {
      text = ap (λ l. l ∷ []) (told ∙ told-all f.outcome s.guard.places.transport f.fine (ap (λ (k : CountsOf). k.0) f.moved));
      gained = λ u. (present-places s.guard.places next.guard.places f.full.number f.full.diverted f.full.places u).0;
      left = λ u. (present-places s.guard.places next.guard.places f.full.number f.full.diverted f.full.places u).1;
    }

dispense-answer : (s next : GuardState) (output : List (List ℕ)) (given : Given) (counts : CountsOf) (bytes : List ℕ) → length counts.0 ≡ 8 → AreGuardAnswer s (Dispense given counts) output next
    → named s.last given ≡ Some bytes → CanDispense s.guard bytes counts → IsCalm s next → IsDispensed s counts output next
dispense-answer s next output given counts bytes eight a is c calm = rw a.only (dispenses-full s next (named s.last given) bytes a.line counts eight is c calm a.is)

present-answer : (s next : GuardState) (output : List (List ℕ)) → AreGuardAnswer s Present output next → CanPresent s.guard → IsCalm s next → IsPresented s output next
present-answer s next output a c calm = rw a.only (presents-full s next a.line c calm a.is)

-- a line tells eight counts
length-units : (counts : List ℕ) (units : List (ℕ × ℕ)) → length (fold with_unit counts units) ≡ length counts
length-units counts [] = refl
length-units counts (u ∷ units) = length-units (with_unit counts u) units ∙ length-set counts (u.0 - 1) u.1

eight-counts : (text : List ℕ) (given : Given) (counts : CountsOf) → IsDispense text given counts → length counts.0 ≡ 8
eight-counts text given counts d = ap length d.has.spells.is ∙ length-units (replicate 8 0) d.has.spells.units

-- what is answered is done in full where nothing stands against it
pub in-full : (s next : GuardState) (text : List ℕ) (output : List (List ℕ)) → AnswersGuard s text output next → AnswersInFull s text output next
in-full s next text output a = record {
  answers = a;
  complete = record {
    dispense = λ given counts bytes verb is c calm. dispense-answer s next output given counts bytes (eight-counts text given counts (rw verb at a.reads)) (rw verb at a.answer) is c calm;
    present = λ verb c calm. present-answer s next output (rw verb at a.answer) c calm;
  };
}
