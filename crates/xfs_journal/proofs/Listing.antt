-- What one record more makes of the bytes that were read.
use Rattle.std.proofs.Common.{◌≡◌, ℕ, ◌+◌, ◌*◌, ◌≤◌, List, [], ◌∷◌, ◌++◌, length, drop, sym, ◌∙◌, ap, subst, arith, append_assoc, length-append}
use Rattle.std.specs.Prelude.{Some, slice_get}
use Rattle.std.specs.declared.option.Option.{Option}
use Rattle.std.specs.List.{AllByRecursion}
use Rattle.xfs_base.specs.Causes.{IfTold}
use Rattle.xfs_journal.specs.Image.{IsRecord, blocks, body, framed, contents, end_of}
use Rattle.std.specs.Int.{to_be_bytes, w16}
use Rattle.xfs_journal.specs.JournalView.{HasVersion}
use Rattle.xfs_journal.specs.Paging.{PageView, Shows}
use Rattle.xfs_journal.specs.declared.record.Rec.{Rec}
use Rattle.xfs_journal.proofs.Appended.{all-push, front-push, end-push}
use Rattle.xfs_journal.proofs.Reading.{not_empty}
use Rattle.xfs_journal.proofs.Told.{on_told, from_told}

pub one_more : (h : Option (List ℕ)) (v : ℕ) (J K : List Rec) (r : Rec) (p q : PageView) → p.at ≡ end_of J → AllByRecursion IsRecord J
    → IfTold h (λ all. (all ≡ contents v J ++ drop p.at all) × Shows all p)
    → IsRecord r × (q.at ≡ p.at + length (1 ∷ framed r)) → IfTold h (λ all. (drop p.at all ≡ (1 ∷ framed r) ++ drop q.at all) × Shows all q) → K ≡ J ++ r ∷ []
    → (q.at ≡ end_of K) × AllByRecursion IsRecord K × IfTold h (λ all. (all ≡ contents v K ++ drop q.at all) × Shows all q)
one_more h v J K r p q place all bytes found next is = (
  omega (arith, place, found.1, ap end_of is, end-push J r),
  subst_all (sym is) (all-push J r all found.0),
  on_told h (λ b. (b ≡ contents v K ++ drop q.at b) × Shows b q) (λ b known.
      let was = from_told h (λ b. (b ≡ contents v J ++ drop p.at b) × Shows b p) bytes b known in
      let now = from_told h (λ b. (drop p.at b ≡ (1 ∷ framed r) ++ drop q.at b) × Shows b q) next b known in
      (was.0 ∙ ap (λ (l : List ℕ). contents v J ++ l) now.0 ∙ sym (append_assoc (contents v J) (1 ∷ framed r) (drop q.at b)) ∙ ap (λ (l : List ℕ). l ++ drop q.at b) (sym (ap (contents v) is ∙ front-push v J r)), now.1)),
)
  where
    subst_all : {L M : List Rec} → L ≡ M → AllByRecursion IsRecord L → AllByRecursion IsRecord M
    subst_all same has = subst (λ (l : List Rec). AllByRecursion IsRecord l) same has

-- the eighth byte of what was read
pub version_read : (h : Option (List ℕ)) (v : ℕ) (J : List Rec) (p : PageView) → IfTold h (λ all. (all ≡ contents v J ++ drop p.at all) × Shows all p) → HasVersion h (Some v)
version_read h v J p read = on_told h (λ all. slice_get all 7 ≡ Some v) (λ b known. ap (λ (l : List ℕ). slice_get l 7) (from_told h (λ all. (all ≡ contents v J ++ drop p.at all) × Shows all p) read b known).0)

-- each record has at least four bytes
pub records-few : (J : List Rec) → 4 * length J + 8 ≤ end_of J
records-few [] = omega arith
records-few (r ∷ J) = omega (arith, records-few J, not_empty r, length-append (1 ∷ framed r) (blocks J), length-append (to_be_bytes w16 (length (body r))) (body r))
