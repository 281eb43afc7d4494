-- The loop of `replay::replay`: what was found so far is what `compare` made of as many texts.
use Rattle.std.proofs.Common.{ℕ, List}
use Rattle.std.specs.List.{FoldsTo}
use Rattle.replay.specs.Findings.{WithText}
use Rattle.replay.proofs.replay.Given as goal

abbrev pub invariant-loop-index : goal.invariant-loop-index
invariant-loop-index g l =
    (start : _) × (texts : List (List ℕ)) × g.T.Default.is_default start
    × FoldsTo (WithText g.R.Read.remaining (goal.F-post g l.compare)) (0, start, l.initial.input) texts (l.index-counter, l.found, l.input)
