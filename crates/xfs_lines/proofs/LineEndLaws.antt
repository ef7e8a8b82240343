-- A run of a command that boots nothing ends with its input, where every line is one, the input is short enough, and nothing failed.
use Rattle.std.proofs.Common.{◌≡◌, inl, inr, ℕ, ◌<◌, List, [], length, None, Some, arith}
use Rattle.std.specs.Prelude.{◌≢◌}
use Rattle.std.specs.declared.option.Option.{Option}
use Rattle.xfs_base.specs.Causes.{IfTold}
use Rattle.xfs_script.specs.declared.token_line.TokenLine.TheVariants.{Skip}
use Rattle.xfs_script.specs.declared.host_line.HostLine.TheVariants as host
use Rattle.xfs_script.specs.declared.audit_line.AuditLine.TheVariants as audit
use Rattle.xfs_script.specs.Lines.{AllLines, StopsAtLine}
use Rattle.xfs_script.specs.Reading.{GaveAll}
use Rattle.xfs_lines.specs.Output.Statuses.{IsStatus, IsFinished}
use Rattle.xfs_lines.specs.Audit.Verbs.{IsLineOfAudit}
use Rattle.xfs_lines.specs.Host.Verbs.{IsLineOfHost}
use Rattle.xfs_lines.specs.Token.Verbs.{IsLineOfToken}
use Rattle.xfs_lines.proofs.EndLaws.{lines-all, short-all}

pub empty-token : IsLineOfToken []
empty-token = record { verb = Skip; reads = tt; short = omega arith }

pub empty-host : IsLineOfHost []
empty-host = record { verb = host.Skip; reads = tt; short = omega arith }

pub empty-audit : IsLineOfAudit []
empty-audit = record { verb = audit.Skip; reads = tt; short = omega arith }

pub unbooted-finishes : (IsLine : List ℕ → Type 0) → IsLine [] → (status : ℕ) (left left' : Option (List ℕ)) (source sink : Type 0) → IsStatus status
    → (status ≡ 2 → ⊥) → (status ≢ 6) × (status ≢ 7) × (status ≢ 12) → (status ≡ 3 → source) → (status ≡ 5 → sink) → (status ≡ 10 → GaveAll left left')
    → (status ≡ 4 → IfTold left (StopsAtLine IsLine))
    → ¬ source → ¬ sink → IfTold left (λ text. AllLines IsLine text → length text < 67108864 → IsFinished status)
unbooted-finishes IsLine empty status None left' source sink one two unbooted read write quota line no_source no_sink = tt
unbooted-finishes IsLine empty status (Some text) left' source sink one two unbooted read write quota line no_source no_sink = λ lines short. by_status lines short one
  where
    by_status : AllLines IsLine text → length text < 67108864 → IsStatus status → IsFinished status
    by_status lines short (inl is) = inl is
    by_status lines short (inr (inl is)) = absurd (two is)
    by_status lines short (inr (inr (inl is))) = absurd (no_source (read is))
    by_status lines short (inr (inr (inr (inl is)))) =
        let stops = line is in absurd (lines-all IsLine text stops.many empty lines stops.none)
    by_status lines short (inr (inr (inr (inr (inl is))))) = absurd (no_sink (write is))
    by_status lines short (inr (inr (inr (inr (inr (inl is)))))) = absurd (unbooted.0 is)
    by_status lines short (inr (inr (inr (inr (inr (inr (inl is))))))) = absurd (unbooted.1 is)
    by_status lines short (inr (inr (inr (inr (inr (inr (inr (inl is)))))))) = inr is
    by_status lines short (inr (inr (inr (inr (inr (inr (inr (inr (inl is))))))))) = absurd (short-all text left' short (quota is))
    by_status lines short (inr (inr (inr (inr (inr (inr (inr (inr (inr (inl is)))))))))) = absurd (unbooted.2 is)
    by_status lines short (inr (inr (inr (inr (inr (inr (inr (inr (inr (inr none)))))))))) = absurd none
