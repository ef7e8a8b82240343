-- The lines of `audit` are not answered, and what is written stands behind nothing.
use Rattle.std.proofs.Common.{◌≡◌, inl, inr, ℕ, ◌≤◌, ◌⊎◌, List, [], ◌∷◌, ◌++◌, take, refl, sym, subst, ap, ap₂, ◌∙◌, arith}
use Rattle.std.specs.Io.KnownBytes.{Appends}
use Rattle.std.specs.declared.option.Option.{Option}
use Rattle.std.proofs.lemmas.List.{take_all}
use Rattle.xfs_base.specs.declared.money.NoteKind.{NoteKind}
use Rattle.xfs_guard.specs.declared.fail.BootFault.{BootFault}
use Rattle.xfs_script.specs.Answered.{AnswersEach, lines_text}
use Rattle.xfs_script.specs.Endings.{AnswersInput, EndsBehind}
use Rattle.xfs_script.specs.Lines.{first_lines}
use Rattle.xfs_script.specs.declared.answerer.Ending.{Ending}
use Rattle.xfs_script.specs.declared.answerer.Ending.TheVariants.{AtEnd, Read, Quota, NotALine, Write, Memory, Ended}
use Rattle.xfs_lines.specs.Audit.Runs.{Audits, Concludes, IsAudited, Judges}
use Rattle.xfs_lines.specs.Audit.Verbs.{Handed, HandsIn, audit_lines, nothing}
use Rattle.xfs_lines.specs.Output.InputEnds.{ending_line, ending_status}
use Rattle.xfs_script.specs.Streams.{Streams, Output, output_of}
use Rattle.xfs_script.proofs.LastLaws.{last-later, prefix-behind}
use Rattle.xfs_script.specs.LastLines.{WritesLast}
use Rattle.std.proofs.KnownBytes.{Appends-nil, Appends-trans}

-- no line answers lines that hand something in
silent : (h end : Handed) (lines output : List (List ℕ)) → AnswersEach HandsIn h lines output end → output ≡ []
silent h end [] output e = e.0
silent h end (line ∷ lines) output e = e.joined ∙ ap₂ (λ (a b : List (List ℕ)). a ++ b) e.answered.none (silent e.next end lines e.later e.follows)

-- nor does one where they end
quiet : (ending : Ending BootFault) (many : ℕ) (text : List ℕ) (left : Option (List ℕ)) (last end : Handed) (taken : List ℕ) → EndsBehind audit_lines ending many text left last end taken → taken ≡ []
quiet AtEnd many text left last end taken e = e.1.none
quiet Read many text left last end taken e = e.1.none
quiet Quota many text left last end taken e = e.1.none
quiet (NotALine n) many text left last end taken e = e.2.none
quiet Write many text left last end taken e = e.taken_is ∙ ap (λ o. take e.many (lines_text o)) e.answer.none ∙ take_all e.many [] (omega arith)
quiet Memory many text left last end taken e = e.1
quiet (Ended why) many text left last end taken e = absurd e.0

-- so the bytes that were written of them are none
none-written : (ending : Ending BootFault) (end : Handed) (left before after : Option (List ℕ)) (text : List ℕ) (a : AnswersInput audit_lines ending nothing end left before after text)
    → lines_text a.output ++ a.taken ≡ []
none-written ending end left before after text a =
    ap₂ (λ (o : List (List ℕ)) (t : List ℕ). lines_text o ++ t) (silent nothing a.last (first_lines a.many text) a.output a.each) (quiet ending a.many text left a.last end a.taken a.ends)

pub unwritten : (ending : Ending BootFault) (end : Handed) (left before after : Option (List ℕ)) (text : List ℕ) → AnswersInput audit_lines ending nothing end left before after text → Appends before after []
unwritten ending end left before after text a = subst (λ bytes. Appends before after bytes) (none-written ending end left before after text a) a.written

-- they were read as over an output that stays as it was
pub still : (ending : Ending BootFault) (end : Handed) (left before after : Option (List ℕ)) (text : List ℕ) → AnswersInput audit_lines ending nothing end left before after text
    → AnswersInput audit_lines ending nothing end left before before text
still ending end left before after text a = record {
  many = a.many;
  output = a.output;
  last = a.last;
  each = a.each;
  taken = a.taken;
  written = subst (λ bytes. Appends before before bytes) (sym (none-written ending end left before after text a)) (Appends-nil before);
  ends = a.ends;
}

-- ---- what is written behind nothing

pub last-behind : (lines : List (List ℕ)) (before : Option (List ℕ)) (o : Output) → Appends before o.held [] → WritesLast lines o → WritesLast lines (record o { held = before })
last-behind lines before o none (inl whole) = inl (Appends-trans before o.held o.held_now [] (lines_text lines) none whole)
last-behind lines before o none (inr broken) = inr (broken.0, prefix-behind before o.held o.held_now [] (lines_text lines) none broken.1)

pub judges-behind : (key : List ℕ) (units : List NoteKind) (h : Handed) (status : ℕ) (before middle after : Option (List ℕ)) → Appends before middle [] → Judges key units h status middle after → Judges key units h status before after
judges-behind key units h status before middle after none (inl whole) =
    inl (whole.0, record { bytes = whole.1.bytes; tells = whole.1.tells; took = Appends-trans before middle after [] whole.1.bytes none whole.1.took })
judges-behind key units h status before middle after none (inr (inl broken)) =
    inr (inl (broken.0, record { bytes = broken.1.bytes; tells = broken.1.tells; took = prefix-behind before middle after [] broken.1.bytes none broken.1.took }))
judges-behind key units h status before middle after none (inr (inr short)) = inr (inr (short.0, Appends-trans before middle after [] [] none short.1))

-- the statuses of a verdict
pub judged-status : (key : List ℕ) (units : List NoteKind) (h : Handed) (status : ℕ) (before after : Option (List ℕ)) → Judges key units h status before after → (status ≡ 0) ⊎ ((status ≡ 5) ⊎ (status ≡ 8))
judged-status key units h status before after (inl whole) = inl whole.0
judged-status key units h status before after (inr (inl broken)) = inr (inl broken.0)
judged-status key units h status before after (inr (inr short)) = inr (inr short.0)

-- ---- the verdict

-- where the input was read to its end, its verdict is written
pub audited : (key : List ℕ) (units : List NoteKind) (status : ℕ) (io : Streams) (text : List ℕ) → status ≡ 0 → Audits key units status io text → IsAudited key units io text
audited key units status io text zero a = by_ending a.ending a.lines a.concludes
  where
    by_ending : (ending : Ending BootFault) → AnswersInput audit_lines ending nothing a.handed io.left io.output io.output text → Concludes key units a.handed ending status io → IsAudited key units io text
    by_ending AtEnd lines (inl whole) =
        let each : AnswersEach HandsIn nothing (first_lines lines.many text) lines.output a.handed =
        subst (λ h. AnswersEach HandsIn nothing (first_lines lines.many text) lines.output h) (sym lines.ends.1.same) lines.each in
        record {
          many = lines.many;
          whole = lines.ends.0;
          handed = a.handed;
          lines = subst (λ o. AnswersEach HandsIn nothing (first_lines lines.many text) o a.handed) (silent nothing a.handed (first_lines lines.many text) lines.output each) each;
          writes = whole.1;
        }
    by_ending AtEnd lines (inr (inl broken)) = absurd (omega (arith, broken.0, zero))
    by_ending AtEnd lines (inr (inr short)) = absurd (omega (arith, short.0, zero))
    by_ending Read lines other = absurd (omega (arith, other.0, zero))
    by_ending Quota lines other = absurd (omega (arith, other.0, zero))
    by_ending (NotALine n) lines other = absurd (omega (arith, other.0, zero))
    by_ending Write lines other = absurd (omega (arith, other.0, zero))
    by_ending Memory lines other = absurd (omega (arith, other.0, zero))
    by_ending (Ended why) lines other = absurd lines.ends.0

-- ---- the ways that the lines end

-- with the input
pub audits-end : (key : List ℕ) (units : List NoteKind) (status : ℕ) (io : Streams) (start h : Handed) (ending : Ending BootFault) (middle : Option (List ℕ)) (text : List ℕ)
    → start ≡ nothing → ending ≡ AtEnd → AnswersInput audit_lines ending start h io.left io.output middle text → Judges key units h status middle io.output_now → Audits key units status io text
audits-end key units status io start h ending middle text none is answers judges =
    let lines : AnswersInput audit_lines AtEnd nothing h io.left io.output middle text = rw (is, none) at answers in
    record {
      handed = h;
      ending = AtEnd;
      lines = still AtEnd h io.left io.output middle text lines;
      concludes = judges-behind key units h status io.output middle io.output_now (unwritten AtEnd h io.left io.output middle text lines) judges;
    }

-- otherwise
pub audits-other : (key : List ℕ) (units : List NoteKind) (status : ℕ) (io : Streams) (start h : Handed) (ending : Ending BootFault) (faults : ℕ) (middle : Option (List ℕ)) (text : List ℕ)
    → start ≡ nothing → (ending ≡ AtEnd → ⊥) → AnswersInput audit_lines ending start h io.left io.output middle text → io.write_faults ≤ faults → status ≡ ending_status ending
    → WritesLast (ending_line ending) (record (output_of io) { faults = faults; held = middle }) → Audits key units status io text
audits-other key units status io start h ending faults middle text none not answers later is last =
    let lines : AnswersInput audit_lines ending nothing h io.left io.output middle text = rw none at answers in
    let whole = last-behind (ending_line ending) io.output (record (output_of io) { held = middle }) (unwritten ending h io.left io.output middle text lines)
    (last-later (ending_line ending) io.write_faults (record (output_of io) { faults = faults; held = middle }) later last) in
    record { handed = h; ending = ending; lines = still ending h io.left io.output middle text lines; concludes = concludes ending not (is, whole) }
  where
    concludes : (ending : Ending BootFault) → (ending ≡ AtEnd → ⊥) → (status ≡ ending_status ending) × WritesLast (ending_line ending) (output_of io)
        → Concludes key units h ending status io
    concludes AtEnd not last = absurd (not refl)
    concludes Read not last = last
    concludes Quota not last = last
    concludes (NotALine n) not last = last
    concludes Write not last = last
    concludes Memory not last = last
    concludes (Ended why) not last = last
