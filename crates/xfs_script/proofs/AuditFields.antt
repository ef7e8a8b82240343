-- The fields of the lines of `audit`: counts that may be `none`, a load by its parts, and lines that no entry has.
use Rattle.std.proofs.Common.{◌≡◌, ℕ, ◌+◌, ◌≤◌, List, [], ◌∷◌, ◌++◌, drop, get_or, inl, inr, ap, sym, subst, ◌∙◌, arith}
use Rattle.std.specs.Prelude.{codes, decimal}
use Rattle.std.proofs.lemmas.Fmt.{decimal_digit}
use Rattle.xfs_base.specs.declared.counts.Counts.{Counts}
use Rattle.xfs_base.specs.declared.counts.Kind.{Kind}
use Rattle.xfs_base.specs.declared.counts.Places.{Places}
use Rattle.xfs_mech.specs.declared.motion.Motion.{Motion}
use Rattle.xfs_mech.specs.declared.motion.Motion.TheVariants.{Moved, Taken, Loaded}
use Rattle.xfs_script.specs.AuditLines.{ArePlaces, IsCountsField, IsEntry, IsLoaded, IsMoved, IsTaken}
use Rattle.xfs_script.specs.Counts.{IsCount, SpellsCounts}
use Rattle.xfs_script.specs.Fields.{fields}

pub no_counts_field : (field : List ℕ) → (field ≡ codes "none" → ⊥) → ((counts : Counts) → SpellsCounts field counts → ⊥) → (counts : Counts) → IsCountsField field counts → ⊥
no_counts_field field none other counts is = elim is.spells [ inl word ↦ none word.0 | inr units ↦ other counts units ]

pub no_entry : (text : List ℕ) → ((number : ℕ) (kind : Kind) (moved diverted : Counts) → IsMoved text number kind moved diverted → ⊥) → ((counts : Counts) → IsTaken text counts → ⊥)
    → ((unit count : ℕ) → IsLoaded text unit count → ⊥) → (entry : Motion) → IsEntry text entry → ⊥
no_entry text moved taken loaded (Moved number kind counts diverted) is = moved number kind counts diverted is
no_entry text moved taken loaded (Taken counts) is = taken counts is
no_entry text moved taken loaded (Loaded unit count) is = loaded unit count is

-- ---- fields that are no counts

pub no_taken : (text field : List ℕ) → text ≡ codes "taken " ++ field → ((counts : Counts) → IsCountsField field counts → ⊥) → (counts : Counts) → IsTaken text counts → ⊥
no_taken text field line none counts is = none counts (subst (λ f. IsCountsField f counts) (ap (drop 6) (sym is.line ∙ line)) is.counts_are)

module _ (text digits word first second : List ℕ) (line : fields text ≡ codes "moved" ∷ digits ∷ word ∷ first ∷ second ∷ []) where
  pub no_moved : ((counts : Counts) → IsCountsField first counts → ⊥) → (number : ℕ) (kind : Kind) (moved diverted : Counts) → IsMoved text number kind moved diverted → ⊥
  no_moved none number kind moved diverted is = none moved (subst (λ f. IsCountsField f moved) (ap (λ l. get_or l 3 first) (sym is.line ∙ line)) is.moved_is)

  pub no_diverted : ((counts : Counts) → IsCountsField second counts → ⊥) → (number : ℕ) (kind : Kind) (moved diverted : Counts) → IsMoved text number kind moved diverted → ⊥
  no_diverted none number kind moved diverted is = none diverted (subst (λ f. IsCountsField f diverted) (ap (λ l. get_or l 4 second) (sym is.line ∙ line)) is.diverted_is)

module _ (verb text units transport outlet taken retracted rejected : List ℕ) (line : fields text ≡ verb ∷ units ∷ transport ∷ outlet ∷ taken ∷ retracted ∷ rejected ∷ []) where
  pub no_units : ((counts : Counts) → IsCountsField units counts → ⊥) → (places : Places) → ArePlaces verb text places → ⊥
  no_units none places is = none places.units (subst (λ f. IsCountsField f places.units) (ap (λ l. get_or l 1 units) (sym is.line ∙ line)) is.units_are)

  pub no_transport : ((counts : Counts) → IsCountsField transport counts → ⊥) → (places : Places) → ArePlaces verb text places → ⊥
  no_transport none places is = none places.transport (subst (λ f. IsCountsField f places.transport) (ap (λ l. get_or l 2 transport) (sym is.line ∙ line)) is.transport_is)

  pub no_outlet : ((counts : Counts) → IsCountsField outlet counts → ⊥) → (places : Places) → ArePlaces verb text places → ⊥
  no_outlet none places is = none places.outlet (subst (λ f. IsCountsField f places.outlet) (ap (λ l. get_or l 3 outlet) (sym is.line ∙ line)) is.outlet_is)

  pub no_taken_out : ((counts : Counts) → IsCountsField taken counts → ⊥) → (places : Places) → ArePlaces verb text places → ⊥
  no_taken_out none places is = none places.taken (subst (λ f. IsCountsField f places.taken) (ap (λ l. get_or l 4 taken) (sym is.line ∙ line)) is.taken_are)

  pub no_retracted : ((counts : Counts) → IsCountsField retracted counts → ⊥) → (places : Places) → ArePlaces verb text places → ⊥
  no_retracted none places is = none places.retracted (subst (λ f. IsCountsField f places.retracted) (ap (λ l. get_or l 5 retracted) (sym is.line ∙ line)) is.retracted_are)

  pub no_rejected : ((counts : Counts) → IsCountsField rejected counts → ⊥) → (places : Places) → ArePlaces verb text places → ⊥
  no_rejected none places is = none places.rejected (subst (λ f. IsCountsField f places.rejected) (ap (λ l. get_or l 6 rejected) (sym is.line ∙ line)) is.rejected_are)

-- ---- a load

load_text_is : (u n : ℕ) → u ≤ 8 → codes "loaded unit" ++ decimal u ++ codes " " ++ decimal n ≡ codes "loaded unit" ++ (48 + u) ∷ 32 ∷ decimal n
load_text_is u n high = ap (λ d. codes "loaded unit" ++ d ++ codes " " ++ decimal n) (decimal_digit u (omega arith))

pub load_is : (text field digits : List ℕ) (u n : ℕ) → text ≡ codes "loaded unit" ++ field → field ≡ (48 + u) ∷ 32 ∷ digits → (1 ≤ u) × (u ≤ 8) → IsCount digits n → IsLoaded text u n
load_is text field digits u n line head within count = record {
  line = line ∙ (ap (λ f. codes "loaded unit" ++ f) (head ∙ ap (λ d. (48 + u) ∷ 32 ∷ d) count.digits) ∙ sym (load_text_is u n within.1));
  first = within.0;
  last = within.1;
  most = count.most;
}

load_field : (text field : List ℕ) (u n : ℕ) → text ≡ codes "loaded unit" ++ field → IsLoaded text u n → field ≡ (48 + u) ∷ 32 ∷ decimal n
load_field text field u n line k = ap (drop 11) (sym line ∙ (k.line ∙ load_text_is u n k.last))

pub no_load_prefix : (text : List ℕ) → ((field : List ℕ) → text ≡ codes "loaded unit" ++ field → ⊥) → (u n : ℕ) → IsLoaded text u n → ⊥
no_load_prefix text other u n k = other ((48 + u) ∷ 32 ∷ decimal n) (k.line ∙ load_text_is u n k.last)

pub no_load_head : (text field : List ℕ) → text ≡ codes "loaded unit" ++ field → ((u : ℕ) (digits : List ℕ) → 1 ≤ u → u ≤ 8 → field ≡ (48 + u) ∷ 32 ∷ digits → ⊥) → (u n : ℕ) → IsLoaded text u n → ⊥
no_load_head text field line other u n k = other u (decimal n) k.first k.last (load_field text field u n line k)

pub no_load_digits : (text field digits : List ℕ) (v : ℕ) → text ≡ codes "loaded unit" ++ field → field ≡ (48 + v) ∷ 32 ∷ digits → ((n : ℕ) → IsCount digits n → ⊥) → (u n : ℕ) → IsLoaded text u n → ⊥
no_load_digits text field digits v line head other u n k = other n (record { digits = ap (drop 2) (sym head ∙ load_field text field u n line k); most = k.most })
