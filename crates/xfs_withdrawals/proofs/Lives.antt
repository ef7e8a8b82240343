-- The steps of orders leave the live nonce.
use Rattle.std.proofs.Common.{◌≡◌, ◌⊎◌, ℕ, List, [], ◌∷◌, length, map, refl, ap, inl, inr}
use Rattle.std.specs.Prelude.{⊤}
use Rattle.xfs_dispenser.specs.Answers.{Went}
use Rattle.std.proofs.lemmas.List.{length-map}
use Rattle.xfs_dispenser.specs.Plans.{stacks}
use Rattle.xfs_dispenser.specs.Units.{units_with}
use Rattle.xfs_guard.specs.declared.ask.Ask.TheVariants.{Stack}
use Rattle.xfs_dispenser.specs.Seen.{Seen}
use Rattle.xfs_dispenser.specs.Steps.{DoesFirst, IsDenied, FailsToWrite, Works, WorksOn, order_record, refusal_of}
use Rattle.xfs_dispenser.specs.declared.part.Part.{Part}
use Rattle.xfs_dispenser.specs.declared.part.Part.TheVariants.{Order, Restore, Load, Note}
use Rattle.xfs_dispenser.specs.declared.plan.Plan.{Plan}
use Rattle.xfs_guard.specs.Nonce.{live_nonce}
use Rattle.xfs_guard.specs.View.{View}
use Rattle.xfs_guard.specs.declared.ask.Ask.{Ask}
use Rattle.xfs_guard.specs.declared.open.Open.{Open}
use Rattle.xfs_guard.specs.declared.open.Open.TheVariants.{No, Written, Acted}
use Rattle.xfs_guard.proofs.CoveredLaws.{nonce-push}
use Rattle.xfs_journal.specs.declared.record.Rec.TheVariants.{Done}
use Rattle.xfs_model.specs.Guards.{is_live}

-- each part that is left is an order
abbrev pub AreOrders : List Part → Type 0
AreOrders [] = ⊤
AreOrders (Order ask ∷ parts) = AreOrders parts
AreOrders (part ∷ parts) = ⊥

mapped_are_orders : (issue : ℕ) (us : List (ℕ × ℕ)) → AreOrders (map (λ (u : ℕ × ℕ). Order (Stack issue u.0 u.1)) us)
mapped_are_orders issue [] = tt
mapped_are_orders issue (u ∷ us) = mapped_are_orders issue us

pub stacks_are_orders : (issue : ℕ) (counts : List ℕ) → AreOrders (stacks issue counts)
stacks_are_orders issue counts = mapped_are_orders issue (units_with counts)

-- one for each unit with notes
pub stacks_length : (issue : ℕ) (counts : List ℕ) → length (stacks issue counts) ≡ length (units_with counts)
stacks_length issue counts = length-map (units_with counts) (λ (u : ℕ × ℕ). Order (Stack issue u.0 u.1))

-- the same nonce lives, and orders alone are left
pub record KeepsLife (s next : Seen) (left : Plan) : Type 0 where
  pub life : is_live next ≡ is_live s
  pub orders : AreOrders left.parts.items

same_life : (s next : Seen) (v : View) → next.guard ≡ v → v.boot_missing ≡ s.guard.boot_missing → live_nonce v.records ≡ live_nonce s.guard.records → is_live next ≡ is_live s
same_life s next v is booted same = rw (is, booted, same) refl

refused_life : (s next : Seen) (ask : Ask) (went : Went) → IsDenied s (refusal_of s.guard ask) next went ⊎ FailsToWrite s (refusal_of s.guard ask) (order_record s.guard ask) next went → is_live next ≡ is_live s
refused_life s next ask went (inl d) = ap is_live d.same
refused_life s next ask went (inr u) = same_life s next _ u.fails.becomes.guard_is refl refl

pub orders_keep_life : (s : Seen) (plan : Plan) (next : Seen) (left : Plan) (went : Went) → AreOrders plan.parts.items → Works s plan next left went → KeepsLife s next left
orders_keep_life s plan next left went orders is = go s.guard.open_order is
  where
    kept : left ≡ plan → AreOrders left.parts.items
    kept same = rw same orders

    first : (parts : List Part) → AreOrders parts → DoesFirst parts s plan next left went → KeepsLife s next left
    first [] all d = absurd d
    first (Order ask ∷ parts) all (inl (w, after, told)) = record {
      life = same_life s next _ w.becomes.guard_is refl (nonce-push s.guard.records (order_record s.guard ask) (λ count live. refl));
      orders = rw after all;
    }
    first (Order ask ∷ parts) all (inr (after, refused)) = record { life = refused_life s next ask went refused; orders = kept after }
    first (Restore ∷ parts) all d = absurd all
    first (Load unit count ∷ parts) all d = absurd all
    first (Note unit count ∷ parts) all d = absurd all

    go : (o : Open) → WorksOn o s plan next left went → KeepsLife s next left
    go (Written kind counts) w = record {
      life = same_life s next _ w.acts.same refl refl;
      orders = rw (w.kept) orders;
    }
    go (Acted kind moved diverted failed) (after, inl i) = record {
      life = same_life s next _ i.settles.same refl (nonce-push s.guard.records (Done i.settles.moved i.settles.diverted) (λ count live. refl));
      orders = kept after;
    }
    go (Acted kind moved diverted failed) (after, inr u) = record { life = same_life s next _ u.unsettles.same refl refl; orders = kept after }
    go No w = first plan.parts.items orders w
