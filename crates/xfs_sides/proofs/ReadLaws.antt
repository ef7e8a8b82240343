-- The lines of a command over two sides, where those of the command are lines of `replay`.
use Rattle.std.proofs.Common.{◌≡◌, ◌++◌, ◌≤◌, ℕ, List, ap, arith, inl, inr, length}
use Rattle.xfs_script.specs.Commands.{Command}
use Rattle.xfs_script.specs.FleetLines.{IsFleetLine, IsOf, letter_mark, letter_a, letter_b}
use Rattle.xfs_script.specs.ReplayLines.{IsReplayLine}
use Rattle.xfs_script.specs.declared.feed.TheConstants.{LONGEST_LINE}
use Rattle.xfs_script.specs.declared.fleet_line.FleetLine.{FleetLine}
use Rattle.xfs_script.specs.declared.fleet_line.FleetLine.TheVariants.{Skip, A, B}
use Rattle.xfs_script.specs.declared.replay_line.ReplayLine.{ReplayLine}
use Rattle.xfs_sides.specs.ReadLines.{HasFleetLines, HasReplayLines, IsFleetText}
use Rattle.xfs_sides.specs.Sides.{IsSideLine}

-- what stands behind the two bytes of a side is no longer than the line
behind-short : (letter : ℕ) (behind text : List ℕ) → text ≡ letter_mark letter ++ behind → length text ≤ LONGEST_LINE → length behind ≤ LONGEST_LINE
behind-short letter behind text is short = let long = ap length is in omega (arith, short, long)

module _ {S E : Type 0} (c : Command S E) (replay : HasReplayLines c) where
  -- at a side
  reads-behind : (letter : ℕ) (text : List ℕ) → IsOf letter c.IsLine text → (line : ReplayLine) × IsOf letter (λ behind. IsReplayLine behind line) text
  reads-behind letter text is =
      let read = (replay is.behind).0 is.is in
      (read.line, record { behind = is.behind; text_is = is.text_is; is = read.reads })

  behind-line : (letter : ℕ) (text : List ℕ) (line : ReplayLine) → length text ≤ LONGEST_LINE → IsOf letter (λ behind. IsReplayLine behind line) text → IsOf letter c.IsLine text
  behind-line letter text line short is = record {
    behind = is.behind;
    text_is = is.text_is;
    is = (replay is.behind).1 (record { line = line; reads = is.is; short = behind-short letter is.behind text is.text_is short });
  }

  -- each way
  side-reads : (text : List ℕ) → IsSideLine c text → IsFleetText text
  side-reads text s = elim s.is [
    | inl skipped ↦ record { line = Skip; reads = skipped; short = s.short }
    | inr (inl at_a) ↦ (let read = reads-behind letter_a text at_a in record { line = A read.0; reads = read.1; short = s.short })
    | inr (inr at_b) ↦ (let read = reads-behind letter_b text at_b in record { line = B read.0; reads = read.1; short = s.short })
  ]

  is-side : (text : List ℕ) (line : FleetLine) → length text ≤ LONGEST_LINE → IsFleetLine text line → IsSideLine c text
  is-side text Skip short is = record { short = short; is = inl is }
  is-side text (A line) short is = record { short = short; is = inr (inl (behind-line letter_a text line short is)) }
  is-side text (B line) short is = record { short = short; is = inr (inr (behind-line letter_b text line short is)) }

  pub fleet-lines : HasFleetLines c
  fleet-lines text = (side-reads text, λ f. is-side text f.line f.short f.reads)
