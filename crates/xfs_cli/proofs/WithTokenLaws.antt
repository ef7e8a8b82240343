-- A message gets its token run by run, each up to the next `@`.
use Rattle.std.proofs.Common.{◌≡◌, ℕ, zero, suc, ◌+◌, ◌<◌, List, [], ◌∷◌, ◌++◌, length, take, drop, get_or, Some, None, refl, sym, ap, ◌∙◌, add-one, append_assoc, arith, ne_eqb, eq-eqb, eqb-true}
use Rattle.memchr.specs.Find.{IsFirstByte, is_byte}
use Rattle.xfs_cli.specs.Replay.Events.{with_token}

filled_none : (token message : List ℕ) → ((k : ℕ) → k < length message → ¬ (get_or message k 0 ≡ 64)) → with_token token message ≡ message
filled_none token [] none = refl
filled_none token (b ∷ rest) none = rw (ne_eqb b 64 (none 0 (omega arith))) (ap (λ l. b ∷ l) (filled_none token rest (λ k below. none (suc k) (omega arith))))

filled_at : (token message : List ℕ) (place : ℕ) → place < length message → get_or message place 0 ≡ 64 → ((k : ℕ) → k < place → ¬ (get_or message k 0 ≡ 64))
    → with_token token message ≡ take place message ++ (token ++ with_token token (drop (suc place) message))
filled_at token [] place within is none = absurd (omega arith)
filled_at token (b ∷ rest) zero within is none = rw is
filled_at token (b ∷ rest) (suc place) within is none =
    rw (ne_eqb b 64 (none 0 (omega arith))) (ap (λ l. b ∷ l) (filled_at token rest place (omega arith) is (λ k below. none (suc k) (omega arith))))

pub filled_rest : (token message : List ℕ) → IsFirstByte (is_byte 64) message None → with_token token message ≡ message
filled_rest token message none = filled_none token message (λ k below is. none k (omega arith) below (eq-eqb _ _ is))

filled_run : (token message : List ℕ) (place : ℕ) → IsFirstByte (is_byte 64) message (Some place)
    → with_token token message ≡ take place message ++ (token ++ with_token token (drop (place + 1) message))
filled_run token message place first =
    rw add-one (filled_at token message place first.0.high (eqb-true _ _ first.1) (λ k below is. first.0.before k (omega arith) below (eq-eqb _ _ is)))

-- what is written so far, before what is left of the message: it grows by a run and the token
pub next_run : (token text more most rest message : List ℕ) (place : ℕ) → text ++ with_token token rest ≡ with_token token message → IsFirstByte (is_byte 64) rest (Some place)
    → more ≡ text ++ take place rest → most ≡ more ++ token → most ++ with_token token (drop (place + 1) rest) ≡ with_token token message
next_run token text more most rest message place kept found run filled_up =
    let later = with_token token (drop (place + 1) rest) in
    ap (λ l. l ++ later) (filled_up ∙ ap (λ l. l ++ token) run) ∙ append_assoc (text ++ take place rest) token later ∙ append_assoc text (take place rest) (token ++ later)
    ∙ ap (λ l. text ++ l) (sym (filled_run token rest place found)) ∙ kept

pub last_run : (token text more rest message : List ℕ) → text ++ with_token token rest ≡ with_token token message → IsFirstByte (is_byte 64) rest None → more ≡ text ++ rest → more ≡ with_token token message
last_run token text more rest message kept none run = run ∙ ap (λ l. text ++ l) (sym (filled_rest token rest none)) ∙ kept
