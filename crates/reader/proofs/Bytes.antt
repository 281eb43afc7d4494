-- What is read between definitions puts no byte back, and a definition leaves fewer.
use mathlib.Core.Bool.{true, false}
use mathlib.Core.List.{List}
use Prim.Native.Nat.{ℕ, ◌*◌}
use lib.ListN.{length, drop}
use Rattle.ast.specs.Records.{node_width}
use Rattle.steps.specs.Into.{Falls, Rests, Within, within, stopped, Out, rest_at}
use Rattle.steps.proofs.Bytes.{rest_rest, skip_rests, comments_rests}
use Rattle.parse_definitions.proofs.Bytes.{definition_falls}
use Rattle.reader.specs.Into.{in_rest, rest_in, between_in}

rest_w : {text : List ℕ} {x b : ℕ} {o : Out} (i : ℕ) (t : List ℕ) → Within text x b o → Within text x b (in_rest i t o)
unfolding in_rest
rest_w i t (within {st = st} h) = within {st = st} h
rest_w i t stopped = stopped

module _ (text : List ℕ) where
  pub rest_falls : Falls text (rest_in text)
  unfolding rest_in
  rest_falls st t u = let i = rest_at (st.next * node_width) (length t) in rest_w i t (definition_falls text st.next st (drop i t) u)

  pub between_rests : Rests text (between_in text)
  unfolding between_in
  between_rests = rest_rest (skip_rests text true) (rest_rest (comments_rests text false) (skip_rests text true))
