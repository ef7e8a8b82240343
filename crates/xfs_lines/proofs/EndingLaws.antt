-- Which ending has which status.
use Rattle.std.proofs.Common.{◌≡◌, ◌≢◌, ◌≤◌, ℕ, inl, inr, refl, ap, arith}
use Rattle.xfs_script.specs.declared.answerer.Ending.{Ending}
use Rattle.xfs_script.specs.declared.answerer.Ending.TheVariants.{AtEnd, Read, Quota, NotALine, Write, Memory, Ended}
use Rattle.xfs_guard.specs.declared.fail.BootFault.{BootFault}
use Rattle.xfs_guard.specs.declared.fail.BootFault.TheVariants.{NotJournal, Disk, Full, Memory as BootMemory}
use Rattle.xfs_guard.specs.declared.machine_core.Core.{Core}
use Rattle.xfs_script.specs.Streams.{Streams}
use Rattle.xfs_lines.specs.Ends.{EndsLines}
use Rattle.xfs_lines.specs.Output.BootLines.{boot_status, IsOfBoot}
use Rattle.xfs_lines.specs.Output.InputEnds.{ending_status}
use Rattle.xfs_lines.specs.Output.Statuses.{IsCaused, IsStatus}
use Rattle.xfs_lines.specs.Returns.{given_back}

-- the statuses of the endings and of a refused boot are of the table
pub status-boot : (fault : BootFault) → IsStatus (boot_status fault)
status-boot (NotJournal at) = inr (inr (inr (inr (inr (inr (inl refl))))))
status-boot Disk = inr (inr (inr (inr (inr (inl refl)))))
status-boot Full = inr (inr (inr (inr (inr (inr (inr (inr (inr (inl refl)))))))))
status-boot BootMemory = inr (inr (inr (inr (inr (inr (inr (inl refl)))))))

pub status-ending : (ending : Ending BootFault) → IsStatus (ending_status ending)
status-ending AtEnd = inl refl
status-ending Read = inr (inr (inl refl))
status-ending Quota = inr (inr (inr (inr (inr (inr (inr (inr (inl refl))))))))
status-ending (NotALine number) = inr (inr (inr (inl refl)))
status-ending Write = inr (inr (inr (inr (inl refl))))
status-ending Memory = inr (inr (inr (inr (inr (inr (inr (inl refl)))))))
status-ending (Ended why) = status-boot why

-- what no status of a refused boot is
pub boot-least : (why : BootFault) → (6 ≤ boot_status why) × (boot_status why ≢ 10)
boot-least (NotJournal at) = (omega arith, λ e. omega (arith, e))
boot-least Disk = (omega arith, λ e. omega (arith, e))
boot-least Full = (omega arith, λ e. omega (arith, e))
boot-least BootMemory = (omega arith, λ e. omega (arith, e))

-- what comes back of a command that answered its lines
pub answered-ends : {M D L : Type 0} (other second : Core M D) (mech : M) (disk : D) (status : ℕ) (io : Streams) → second ≡ other → status ≢ 2 → IsStatus status → IsCaused status io
    → EndsLines {L = L} other (given_back status mech disk second) io
answered-ends {M} {D} other second mech disk status io same usage is cause = record {
  usage = usage;
  status = is;
  cause = cause;
  second = record { mech = ap (λ (c : Core M D). c.mech) same; disk = ap (λ (c : Core M D). c.disk) same };
}

-- what comes back of a command whose boot was refused
pub unbooted-ends : {M D L : Type 0} (other second : Core M D) (mech : M) (disk : D) (why : BootFault) (io : Streams) → second ≡ other
    → EndsLines {L = L} other (given_back (boot_status why) mech disk second) io
unbooted-ends other second mech disk why io same =
    let low = (boot-least why).0 in
    let many = (boot-least why).1 in
    answered-ends other second mech disk (boot_status why) io same (λ e. omega (arith, low, e)) (status-boot why) (record {
      whole = λ e. absurd (omega (arith, low, e));
      fewer = λ e. absurd (omega (arith, low, e));
      read = λ e. absurd (omega (arith, low, e));
      write = λ e. absurd (omega (arith, low, e));
      quota = λ e. absurd (many e);
    })

pub no-usage : (ending : Ending BootFault) → ending_status ending ≢ 2
no-usage AtEnd is = omega (arith, is)
no-usage Read is = omega (arith, is)
no-usage Quota is = omega (arith, is)
no-usage (NotALine number) is = omega (arith, is)
no-usage Write is = omega (arith, is)
no-usage Memory is = omega (arith, is)
no-usage (Ended why) is = let low = (boot-least why).0 in omega (arith, low, is)

pub is-end : (ending : Ending BootFault) → ending_status ending ≡ 0 → ending ≡ AtEnd
is-end AtEnd is = refl
is-end Read is = absurd (omega (arith, is))
is-end Quota is = absurd (omega (arith, is))
is-end (NotALine number) is = absurd (omega (arith, is))
is-end Write is = absurd (omega (arith, is))
is-end Memory is = absurd (omega (arith, is))
is-end (Ended why) is = let low = (boot-least why).0 in absurd (omega (arith, low, is))

pub is-read : (ending : Ending BootFault) → ending_status ending ≡ 3 → ending ≡ Read
is-read AtEnd is = absurd (omega (arith, is))
is-read Read is = refl
is-read Quota is = absurd (omega (arith, is))
is-read (NotALine number) is = absurd (omega (arith, is))
is-read Write is = absurd (omega (arith, is))
is-read Memory is = absurd (omega (arith, is))
is-read (Ended why) is = let low = (boot-least why).0 in absurd (omega (arith, low, is))

pub is-no_line : (ending : Ending BootFault) → ending_status ending ≡ 4 → (number : ℕ) × (ending ≡ NotALine number)
is-no_line AtEnd is = absurd (omega (arith, is))
is-no_line Read is = absurd (omega (arith, is))
is-no_line Quota is = absurd (omega (arith, is))
is-no_line (NotALine number) is = (number, refl)
is-no_line Write is = absurd (omega (arith, is))
is-no_line Memory is = absurd (omega (arith, is))
is-no_line (Ended why) is = let low = (boot-least why).0 in absurd (omega (arith, low, is))

pub is-write : (ending : Ending BootFault) → ending_status ending ≡ 5 → ending ≡ Write
is-write AtEnd is = absurd (omega (arith, is))
is-write Read is = absurd (omega (arith, is))
is-write Quota is = absurd (omega (arith, is))
is-write (NotALine number) is = absurd (omega (arith, is))
is-write Write is = refl
is-write Memory is = absurd (omega (arith, is))
is-write (Ended why) is = let low = (boot-least why).0 in absurd (omega (arith, low, is))

pub is-quota : (ending : Ending BootFault) → ending_status ending ≡ 10 → ending ≡ Quota
is-quota AtEnd is = absurd (omega (arith, is))
is-quota Read is = absurd (omega (arith, is))
is-quota Quota is = refl
is-quota (NotALine number) is = absurd (omega (arith, is))
is-quota Write is = absurd (omega (arith, is))
is-quota Memory is = absurd (omega (arith, is))
is-quota (Ended why) is = absurd ((boot-least why).1 is)

-- the other statuses
no-boot : (status : ℕ) → (status ≢ 6) × (status ≢ 7) × (status ≢ 12) → IsOfBoot status → ⊥
no-boot status other (inl e) = other.0 e
no-boot status other (inr (inl e)) = other.1 e
no-boot status other (inr (inr e)) = other.2 e

-- under a status of a boot with a last line the command ended by itself
pub is-boot : (ending : Ending BootFault) → IsOfBoot (ending_status ending) → (why : BootFault) × (ending ≡ Ended why)
is-boot (Ended why) boot = (why, refl)
is-boot AtEnd boot = absurd (no-boot 0 (λ e. omega (arith, e), λ e. omega (arith, e), λ e. omega (arith, e)) boot)
is-boot Read boot = absurd (no-boot 3 (λ e. omega (arith, e), λ e. omega (arith, e), λ e. omega (arith, e)) boot)
is-boot Quota boot = absurd (no-boot 10 (λ e. omega (arith, e), λ e. omega (arith, e), λ e. omega (arith, e)) boot)
is-boot (NotALine number) boot = absurd (no-boot 4 (λ e. omega (arith, e), λ e. omega (arith, e), λ e. omega (arith, e)) boot)
is-boot Write boot = absurd (no-boot 5 (λ e. omega (arith, e), λ e. omega (arith, e), λ e. omega (arith, e)) boot)
is-boot Memory boot = absurd (no-boot 8 (λ e. omega (arith, e), λ e. omega (arith, e), λ e. omega (arith, e)) boot)
