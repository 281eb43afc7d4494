-- `lexer::location::pass_block` meets its contract. The invariant: the lexer stands behind the bytes passed.
use mathlib.Core.Path.{◌≡◌}
use mathlib.Core.List.{[]}
use Prim.Native.Nat.{◌≤◌, ◌-◌, ◌+◌}
use lib.ListN.{length, take}
use Rattle.token.specs.declared.Token.TheVariants as T
use Rattle.lexer.specs.Location.{pass}
use Rattle.lexer.proofs.location.pass_block.Given as goal

abbrev pub invariant-loop-byte : goal.invariant-loop-byte
invariant-loop-byte l = (l.byte-index ≤ length l.comment) × (l.now.at ≡ l.initial.now.at + l.byte-index) × (l.now ≡ pass (take l.byte-index l.comment) T.BlockComment [] l.initial.now)

abbrev pub decreases-loop-byte : goal.decreases-loop-byte
decreases-loop-byte l = length l.comment - l.byte-index
