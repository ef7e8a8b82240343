use Rattle.std.proofs.Common.{refl, ◌≡◌, ◌∙◌, ◌==◌, ◌&&◌, ◌||◌, Bool, ℕ, List, sym, ap, subst, take, map, true, false}
use Rattle.std.specs.Prelude.{codes}
use Rattle.std.specs.List.{prefix_len}
use Rattle.std.specs.Str.{bytes_eq}
use Rattle.xfs_token.specs.Token.{is_key_byte, is_reserved, has_key, is_free_key}
use Rattle.xfs_token.specs.Pairs.{pair_of}
use Rattle.xfs_token.specs.Reading.{first_in}
use Rattle.xfs_token.specs.Token.{is_letter}
use Rattle.xfs_token.proofs.Runs.{Run, run_of}
use Rattle.xfs_token.proofs.Ends.{KeyRun, key_none, key_full, key_no_equals, key_not_free, key_ends, free_from, not_free_reserved, not_free_taken}
use Rattle.xfs_token.proofs.reading.key_len.Goals as goal

key_run : (text front : List ℕ) (n : ℕ) → n ≡ prefix_len is_key_byte front → front ≡ take 32 text → first_in is_letter text ≡ true → KeyRun text n
key_run text front n e cut first = record { run = subst (Run is_key_byte 32 text) (sym (e ∙ ap (prefix_len is_key_byte) cut)) (run_of is_key_byte 32 text); first = first }

pub returns-then-not-first_has-clause-err : goal.returns-then-not-first_has-clause-err
returns-then-not-first_has-clause-err c = key_none (map pair_of c.args.pairs.now) c.args.text.now (sym c.first_has.ensures ∙ c.if-not-first_has.true)

pub split_at-requires : goal.split_at-requires
split_at-requires c = (key_run c.args.text.now c.cut.result.now c.run_len-n.result c.run_len-n.ensures c.cut.ensures (sym c.first_has.ensures ∙ c.if-not-first_has.false)).run.within

moved : (k key : List ℕ) → k ≡ key → bytes_eq k (codes "HMACSHA256") ≡ false → bytes_eq key (codes "HMACSHA256") ≡ false
moved k key e h = ap (λ (x : List ℕ). bytes_eq x (codes "HMACSHA256")) (sym e) ∙ h

always : (b : Bool) → (b || true) ≡ true
always true = refl
always false = refl

taken_is : (t f : Bool) (n : ℕ) (k key : List ℕ) (pairs : List (List ℕ × List ℕ)) → t ≡ has_key k pairs → k ≡ key → f ≡ (n == 32 && t) → f ≡ (n == 32 && has_key key pairs)
taken_is t f n k key pairs a b d = d ∙ ap (λ (x : Bool). n == 32 && x) (a ∙ ap (λ (x : List ℕ). has_key x pairs) b)

pub returns-then-fills-clause-err : goal.returns-then-fills-clause-err
returns-then-fills-clause-err c =
    key_full (map pair_of c.args.pairs.now) c.args.text.now c.split_at.result.1.now c.run_len-n.result (key_run c.args.text.now c.cut.result.now c.run_len-n.result c.run_len-n.ensures c.cut.ensures (sym c.first_has.ensures ∙ c.if-not-first_has.false)) c.requires
    (sym (taken_is c.has_key-taken.result c.fills.result c.run_len-n.result c.split_at.result.0.now _ (map pair_of c.args.pairs.now) c.has_key-taken.ensures c.split_at.ensures.front c.fills.ensures) ∙ c.if-fills.true) c.split_at.ensures.back

pub returns-then-not-begins-clause-err : goal.returns-then-not-begins-clause-err
returns-then-not-begins-clause-err c =
    key_no_equals (map pair_of c.args.pairs.now) c.args.text.now c.split_at.result.1.now c.run_len-n.result (key_run c.args.text.now c.cut.result.now c.run_len-n.result c.run_len-n.ensures c.cut.ensures (sym c.first_has.ensures ∙ c.if-not-first_has.false)) c.requires
    (sym (taken_is c.has_key-taken.result c.fills.result c.run_len-n.result c.split_at.result.0.now _ (map pair_of c.args.pairs.now) c.has_key-taken.ensures c.split_at.ensures.front c.fills.ensures) ∙ c.if-fills.false) c.split_at.ensures.back
    (sym c.begins.ensures ∙ c.if-not-begins.true)

pub returns-then-taken-clause-err : goal.returns-then-taken-clause-err
returns-then-taken-clause-err c =
    key_not_free (map pair_of c.args.pairs.now) c.args.text.now c.split_at.result.1.now c.run_len-n.result (key_run c.args.text.now c.cut.result.now c.run_len-n.result c.run_len-n.ensures c.cut.ensures (sym c.first_has.ensures ∙ c.if-not-first_has.false)) c.requires
    (sym (taken_is c.has_key-taken.result c.fills.result c.run_len-n.result c.split_at.result.0.now _ (map pair_of c.args.pairs.now) c.has_key-taken.ensures c.split_at.ensures.front c.fills.ensures) ∙ c.if-fills.false) c.split_at.ensures.back
    (sym c.begins.ensures ∙ c.if-not-begins.false) (moved _ _ c.split_at.ensures.front (sym c.is_mac_key.ensures ∙ c.if-is_mac_key.false)) (not_free_taken (map pair_of c.args.pairs.now) _ (ap (λ (k : List ℕ). has_key k (map pair_of c.args.pairs.now)) (sym c.split_at.ensures.front) ∙ sym c.has_key-taken.ensures ∙ c.if-taken.true))

pub returns-then-is_reserved-clause-err : goal.returns-then-is_reserved-clause-err
returns-then-is_reserved-clause-err c =
    key_not_free (map pair_of c.args.pairs.now) c.args.text.now c.split_at.result.1.now c.run_len-n.result (key_run c.args.text.now c.cut.result.now c.run_len-n.result c.run_len-n.ensures c.cut.ensures (sym c.first_has.ensures ∙ c.if-not-first_has.false)) c.requires
    (sym (taken_is c.has_key-taken.result c.fills.result c.run_len-n.result c.split_at.result.0.now _ (map pair_of c.args.pairs.now) c.has_key-taken.ensures c.split_at.ensures.front c.fills.ensures) ∙ c.if-fills.false) c.split_at.ensures.back
    (sym c.begins.ensures ∙ c.if-not-begins.false) (moved _ _ c.split_at.ensures.front (sym c.is_mac_key.ensures ∙ c.if-is_mac_key.false)) (not_free_reserved (map pair_of c.args.pairs.now) (take c.run_len-n.result c.args.text.now) (ap is_reserved (sym c.split_at.ensures.front) ∙ sym c.is_reserved.ensures ∙ c.if-is_reserved.true))

pub returns-then-is_mac_key-clause-ok : goal.returns-then-is_mac_key-clause-ok
returns-then-is_mac_key-clause-ok c =
    key_ends (map pair_of c.args.pairs.now) c.args.text.now c.split_at.result.1.now c.run_len-n.result (key_run c.args.text.now c.cut.result.now c.run_len-n.result c.run_len-n.ensures c.cut.ensures (sym c.first_has.ensures ∙ c.if-not-first_has.false)) c.split_at.ensures.back
    (sym c.begins.ensures ∙ c.if-not-begins.false)
    (ap (λ (b : Bool). b || is_free_key (take c.run_len-n.result c.args.text.now) (map pair_of c.args.pairs.now)) (ap (λ (k : List ℕ). bytes_eq k (codes "HMACSHA256")) (sym c.split_at.ensures.front) ∙ sym c.is_mac_key.ensures ∙ c.if-is_mac_key.true))

pub returns-clause-ok : goal.returns-clause-ok
returns-clause-ok c =
    let run = key_run c.args.text.now c.cut.result.now c.run_len-n.result c.run_len-n.ensures c.cut.ensures (sym c.first_has.ensures ∙ c.if-not-first_has.false) in
    let key : List ℕ = take c.run_len-n.result c.args.text.now in
    let free = free_from (map pair_of c.args.pairs.now) c.args.text.now c.run_len-n.result run (ap is_reserved (sym c.split_at.ensures.front) ∙ sym c.is_reserved.ensures ∙ c.if-is_reserved.false)
    (ap (λ (k : List ℕ). has_key k (map pair_of c.args.pairs.now)) (sym c.split_at.ensures.front) ∙ sym c.has_key-taken.ensures ∙ c.if-taken.false) in
    key_ends (map pair_of c.args.pairs.now) c.args.text.now c.split_at.result.1.now c.run_len-n.result run c.split_at.ensures.back (sym c.begins.ensures ∙ c.if-not-begins.false)
    (ap (λ (b : Bool). bytes_eq key (codes "HMACSHA256") || b) free ∙ always (bytes_eq key (codes "HMACSHA256")))
