use denote.Text.{Utf8}
use denote.Shadow.{shadow}
use Rattle.xfs_scripts.proofs.telling.fault_of_answers.Given as goal

-- what is left of the answers is text
abbrev pub invariant-loop-wanted : goal.invariant-loop-wanted
invariant-loop-wanted l =
    (goal.iterator-loop-wanted).can_next l.wanted-iterator ×
    (goal.iterator-loop-wanted).is_finite l.wanted-iterator ×
    shadow (Utf8 l.rest)
