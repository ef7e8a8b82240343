-- A frame that was sent to one connection and taken back.
use Rattle.std.proofs.Common.{◌≡◌, ℕ, ◌<◌, ◌-◌, cond, List, [], ◌∷◌, get_or, map, set, position, Some, None, AllPairs, refl, sym, ◌∙◌, ap, inl, inr}
use Rattle.std.proofs.lemmas.Bool.{cases_Bool}
use Rattle.xfs_base.specs.declared.moment.ClientId.{ClientId}
use Rattle.xfs_base.specs.declared.moment.Service.{Service}
use Rattle.xfs_model.specs.Connections.{is_at, with_mail}
use Rattle.xfs_model.specs.State.{Connection}
use Rattle.xfs_traffic.specs.TakenBack.{all_but_last}
use Rattle.xfs_traffic.proofs.Announced.{all_but_last_push}
use Rattle.xfs_traffic.proofs.Places.{apart_there, not_there, written, none_from_find, map_none}

abbrev without_last : Connection → Connection
without_last k = record k { waiting = all_but_last k.waiting }

taken_off : (service : Service) (client : ClientId) (frame : List ℕ) (ks : List Connection)
    → map (λ k. cond (is_at service client k) (without_last k) k) (map (λ k. with_mail (is_at service client k) (frame ∷ []) k) ks) ≡ ks
taken_off service client frame [] = refl
taken_off service client frame (k ∷ ks) = elim (cases_Bool (is_at service client k)) [
  | inl y ↦ rw y (rw y (rw (all_but_last_push k.waiting frame) (ap (λ l. k ∷ l) (taken_off service client frame ks))))
  | inr n ↦ rw n (rw n (ap (λ l. k ∷ l) (taken_off service client frame ks)))
]

pub unmailed_at : (service : Service) (client : ClientId) (ks : List Connection) (at : ℕ) (k : Connection) → AllPairs (λ a b. a.client.0 < b.client.0) ks → position (is_at service client) ks ≡ Some at → k ≡ get_or ks at k
    → (before : List Connection) (frame : List ℕ) → ks ≡ map (λ j. with_mail (is_at service client j) (frame ∷ []) j) before → set ks at (without_last k) ≡ before
unmailed_at service client ks at k rising there here = λ before frame e.
    written (is_at service client) without_last ks at k (apart_there service client ks rising) there here
    ∙ ap (λ l. map (λ j. cond (is_at service client j) (without_last j) j) l) e ∙ taken_off service client frame before

pub unmailed_none : (service : Service) (client : ClientId) (ks : List Connection) → position (is_at service client) ks ≡ None
    → (before : List Connection) (frame : List ℕ) → ks ≡ map (λ j. with_mail (is_at service client j) (frame ∷ []) j) before → ks ≡ before
unmailed_none service client ks none = λ before frame e.
    sym (map_none (is_at service client) without_last ks (none_from_find (is_at service client) ks (not_there (is_at service client) ks none)))
    ∙ ap (λ l. map (λ j. cond (is_at service client j) (without_last j) j) l) e ∙ taken_off service client frame before
