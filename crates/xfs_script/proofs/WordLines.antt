-- A line that begins with a verb, and lines that no verb has.
use Rattle.std.proofs.Common.{◌≡◌, ℕ, ◌<◌, List, ◌++◌, length, take, drop, refl, ap, sym, ◌∙◌, arith, length-append}
use Rattle.std.proofs.lemmas.List.{take-append-drop, take_at}
use Rattle.xfs_base.specs.declared.counts.Counts.{Counts}
use Rattle.xfs_script.specs.Dispense.{HasFields}
use Rattle.xfs_script.specs.Guard.{IsGuardLine, IsWordLine, IsMint, IsFill}
use Rattle.xfs_script.specs.declared.guard_line.GuardLine.{GuardLine}
use Rattle.xfs_script.specs.declared.guard_line.GuardLine.TheVariants.{Skip, Issue, Clear, Mint, Dispense, Fill, Present, Reject, Retract, Take, Restart, Show}

pub field_is : (text prefix begin field : List ℕ) → begin ≡ take (length prefix) text → field ≡ drop (length prefix) text → begin ≡ prefix → text ≡ prefix ++ field
field_is text prefix begin field begins behind same =
    sym (take-append-drop (length prefix) text) ∙ (ap (λ t. t ++ drop (length prefix) text) (sym begins ∙ same) ∙ ap (λ t. prefix ++ t) (sym behind))

pub no_field : (text prefix begin : List ℕ) → begin ≡ take (length prefix) text → (begin ≡ prefix → ⊥) → (field : List ℕ) → text ≡ prefix ++ field → ⊥
no_field text prefix begin begins other field is =
    other (begins ∙ (ap (λ t. take (length prefix) t) is ∙ take_at prefix field (length prefix) refl))

pub short_field : (text prefix : List ℕ) → length text < length prefix → (field : List ℕ) → text ≡ prefix ++ field → ⊥
short_field text prefix short field is = absurd (let bad : ⊥ = omega (arith, ap length is, length-append prefix field) in bad)

pub no_line : (text : List ℕ) → ((line : GuardLine) → IsWordLine text line → ⊥) → ((amounts : List (List ℕ × ℕ)) → IsMint text amounts → ⊥) → ((unit count : ℕ) → IsFill text unit count → ⊥) → ((field : List ℕ) (counts : Counts) → HasFields text field counts → ⊥) → (line : GuardLine) → IsGuardLine text line → ⊥
no_line text word mint fill dispense Skip is = word Skip is
no_line text word mint fill dispense Issue is = word Issue is
no_line text word mint fill dispense Clear is = word Clear is
no_line text word mint fill dispense (Mint amounts) is = mint amounts is
no_line text word mint fill dispense (Dispense token counts) is = dispense is.field counts is.has
no_line text word mint fill dispense (Fill unit count) is = fill unit count is
no_line text word mint fill dispense Present is = word Present is
no_line text word mint fill dispense Reject is = word Reject is
no_line text word mint fill dispense Retract is = word Retract is
no_line text word mint fill dispense Take is = word Take is
no_line text word mint fill dispense Restart is = word Restart is
no_line text word mint fill dispense Show is = word Show is
