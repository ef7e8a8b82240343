-- What was given to the first connections and taken back.
use Rattle.std.proofs.Common.{◌≡◌, ℕ, ◌-◌, ◌≤◌, List, [], ◌∷◌, ◌++◌, length, map, take, drop, refl, ap, sym, ◌∙◌, inl, inr, arith, length-append}
use Rattle.std.proofs.lemmas.Bool.{cases_Bool}
use Rattle.std.proofs.lemmas.List.{append-nil, drop_all, length-map, length-take-le, take-append-drop, take_all}
use Rattle.std.proofs.Math.Seq.{take-append_seam, drop-append_seam}
use Rattle.xfs_base.specs.declared.moment.Service.{Service}
use Rattle.xfs_traffic.specs.TakenBack.{all_but_last, taken_back}
use Rattle.xfs_model.specs.Connections.{is_service, with_mail}
use Rattle.xfs_model.specs.State.{Connection}

pub all_but_last_push : (frames : List (List ℕ)) (frame : List ℕ) → all_but_last (frames ++ frame ∷ []) ≡ frames
all_but_last_push frames frame =
    let e : length (frames ++ frame ∷ []) - 1 ≡ length frames = omega (arith, length-append frames (frame ∷ [])) in
    rw e (take-append_seam frames (frame ∷ []))

back : (service : Service) (frame : List ℕ) (k : Connection) → taken_back service (with_mail (is_service service k.service) (frame ∷ []) k) ≡ k
back service frame k = elim (cases_Bool (is_service service k.service)) [
  | inl y ↦ rw y (rw y (ap (λ w. record k { waiting = w }) (all_but_last_push k.waiting frame)))
  | inr n ↦ rw n (rw n refl)
]

pub map_back : (service : Service) (frame : List ℕ) (ks : List Connection) → map (taken_back service) (map (λ k. with_mail (is_service service k.service) (frame ∷ []) k) ks) ≡ ks
map_back service frame [] = refl
map_back service frame (k ∷ ks) = rw (back service frame k, map_back service frame ks) refl

pub undone : (service : Service) (frame : List ℕ) (ks zs : List Connection) (i : ℕ) → i ≤ length ks → zs ≡ map (λ k. with_mail (is_service service k.service) (frame ∷ []) k) (take i ks) ++ drop i ks
    → map (taken_back service) (take i zs) ++ drop i zs ≡ ks
undone service frame ks zs i within e =
    let given = map (λ (k : Connection). with_mail (is_service service k.service) (frame ∷ []) k) (take i ks) in
    let size : length given ≡ i = length-map (take i ks) (λ (k : Connection). with_mail (is_service service k.service) (frame ∷ []) k) ∙ length-take-le i ks within in
    let first : take i (given ++ drop i ks) ≡ given = ap (λ n. take n (given ++ drop i ks)) (sym size) ∙ take-append_seam given (drop i ks) in
    let rest : drop i (given ++ drop i ks) ≡ drop i ks = ap (λ n. drop n (given ++ drop i ks)) (sym size) ∙ drop-append_seam given (drop i ks) in
    rw (e, first, rest, map_back service frame (take i ks)) (take-append-drop i ks)

-- taken back from every connection
pub back_all : (service : Service) (n : ℕ) (ks : List Connection) → n ≡ length ks → map (taken_back service) (take n ks) ++ drop n ks ≡ map (taken_back service) ks
back_all service n ks e =
    let first : take (length ks) ks ≡ ks = take_all (length ks) ks (omega arith) in
    let rest : drop (length ks) ks ≡ [] = drop_all (length ks) ks (omega arith) in
    rw (e, first, rest) (append-nil (map (taken_back service) ks))
