-- What was written of a last line.
use Rattle.std.proofs.Common.{◌≤◌, ◌+◌, ℕ, List, [], ◌∷◌, ◌++◌, length, take, Ok, Err, OnOk, OnErr, inl, inr, arith}
use Rattle.std.proofs.lemmas.Bool.{cases_lt}
use Rattle.std.proofs.lemmas.List.{take-append-le, take_all}
use Rattle.std.proofs.Math.Seq.{take-append-add, take-nil}
use Rattle.std.specs.Io.KnownBytes.{Appends}
use Rattle.std.specs.declared.result.Result.{Result}
use Rattle.xfs_base.specs.Causes.{HasCause, TookPrefix}
use Rattle.xfs_base.specs.declared.faults.WriteFault.{WriteFault}
use Rattle.xfs_script.specs.Answered.{lines_text}
use Rattle.std.specs.declared.option.Option.{Option}
use Rattle.xfs_script.specs.LastLines.{WritesLast}
use Rattle.xfs_script.specs.Streams.{Output}
use Rattle.std.proofs.KnownBytes.{Appends-nil, Appends-trans}

-- last lines that were written are so over a longer time
pub last-later : (lines : List (List ℕ)) (first : ℕ) (o : Output) → first ≤ o.faults → WritesLast lines o → WritesLast lines (record o { faults = first })
last-later lines first o later (inl whole) = inl whole
last-later lines first o later (inr broken) = inr ((let rose = broken.0 in omega (arith, later, rose)), broken.1)

-- no last line is written by nothing
pub last-none : (faults : ℕ) (held : Option (List ℕ)) → WritesLast [] (record { faults = faults; faults_now = faults; held = held; held_now = held })
last-none faults held = inl (Appends-nil held)

-- a prefix of what stands behind bytes that were taken
pub prefix-behind : (x y z : Option (List ℕ)) (a b : List ℕ) → Appends x y a → TookPrefix y z b → TookPrefix x z (a ++ b)
prefix-behind x y z a b whole prefix = record {
  many = length a + prefix.many;
  taken = rw (take-append-add a b prefix.many) (Appends-trans x y z a (take prefix.many b) whole prefix.taken);
}

-- a prefix of bytes is one of these and more
pub prefix-before : (x y : Option (List ℕ)) (a b : List ℕ) → TookPrefix x y a → TookPrefix x y (a ++ b)
prefix-before x y a b prefix = elim (cases_lt prefix.many (length a)) [
  | inl within ↦ record { many = prefix.many; taken = rw (take-append-le prefix.many a b (omega (arith, within))) prefix.taken }
  | inr past ↦ record { many = length a; taken = rw (take-append-le (length a) a b (omega arith), take_all (length a) a (omega arith), ← take_all prefix.many a past) prefix.taken }
]

-- a last line was written: all, or a prefix where the sink failed
pub last-said : (line : List ℕ) (faults now : ℕ) (before after : Option (List ℕ)) (result : Result (Unit {0}) WriteFault) → OnOk result (Appends before after (lines_text (line ∷ []))) → OnErr result (TookPrefix before after (lines_text (line ∷ []))) → HasCause faults now result
    → WritesLast (line ∷ []) (record { faults = faults; faults_now = now; held = before; held_now = after })
last-said line faults now before after (Ok x) whole prefix cause = inl whole
last-said line faults now before after (Err e) whole prefix cause = inr (cause.failed, prefix)

-- what holds of an error
pub on-err : {T E : Type 0} (result : Result T E) (P : Type 0) → P → OnErr result P
on-err (Ok x) P p = tt
on-err (Err e) P p = p

-- what follows of an error
pub err-more : {T E P Q : Type 0} (result : Result T E) → (P → Q) → OnErr result P → OnErr result Q
err-more (Ok x) more h = tt
err-more (Err e) more h = more h

-- no last line leaves the output as it was
pub last-taken : (o : Output) → WritesLast [] o → Appends o.held o.held_now []
last-taken o (inl whole) = whole
last-taken o (inr broken) = rw (take-nil broken.1.many) at broken.1.taken
