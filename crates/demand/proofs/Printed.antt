-- The print of a text that is accepted: it passes 20 to 22, and its tokens, without their places, read as the definitions that were printed.
--     well_read      its definitions are well formed
--     print_fine     its print passes 20 to 22
--     print_reads    its print's tokens read back
--     print_parsed   its print is read, to the same but for places and what parameters drop
--     print_again    so it is accepted
use mathlib.Core.Path.{◌≡◌, refl, sym, ap, ◌∙◌}
use mathlib.Core.Bool.{Bool, true, false, false≢true}
use mathlib.Core.List.{List, []}
use Prim.Native.Nat.{ℕ, ◌≤◌}
use lib.ListN.{length}
use Rattle.token.specs.Breaks.{Bytes}
use Rattle.lexer.specs.Outcome.{accepted}
use Rattle.lexer.specs.declared.location.LOC.{LOC}
use Rattle.lexer.specs.Location.{between, span_of, opening}
use Rattle.lexer.specs.Cuts.{cuts}
use Rattle.lexer.specs.Tokens.{tokens}
use Rattle.lexer.specs.Check.{checked}
use Rattle.ast.specs.Ast.{Definition}
use Rattle.ast.specs.Lists.{maps, All, anil}
use Rattle.ast.specs.Drop.{drop_params}
use Rattle.ast.specs.Move.{moves}
use Rattle.ast.proofs.Forget.{nowhere, bares, forget}
use Rattle.parser.specs.Steps.{pos, Res, ok, no}
use Rattle.parser.specs.Definitions.{parse_document}
use Rattle.parser.specs.Read.{parsed, answered, outcome_by, outcome}
use Rattle.parser.proofs.Taken.{taken_means}
use Rattle.parser.proofs.Wf.{WfDefinition, most}
use Rattle.parser.specs.Order.{final}
use Rattle.parser.proofs.Sure.{Some, good, sure_ok, document_s}
use Rattle.parser.proofs.Same.{move_s, move_r, bare_r}
use Rattle.parser.proofs.Ended.{Far, parse_same}
use Rattle.writer.specs.Print.{pieces, printed}
use Rattle.writer.proofs.Toks.{Good}
use Rattle.writer.proofs.Lexes.{lexes, fine_print}
use Rattle.writer.proofs.Apart.{pieces_apart}
use Rattle.writer.proofs.Back.{document_rt}
use Rattle.demand.proofs.Good.{good_tokens}
use Rattle.demand.proofs.Last.{print_far}

abbrev Anywhere : LOC → Type 0
Anywhere l = Unit {0}

module _ (t : List ℕ) (b : Bytes t) (ds : List Definition) (e : outcome t ≡ accepted ds) where
  read_some : Some (WfDefinition Good) most ds
  unfolding parsed
  read_some =
      let k = taken_means t ds e in
      sure_ok Good Anywhere (rw k.reads at (document_s Good Anywhere (good {l = between opening opening} anil (good_tokens t b k.fine) tt)))

  pub well_read : All (WfDefinition Good) ds
  well_read = read_some.each

  pub print_fine : (indent : ℕ) → length (printed indent ds) ≤ 65536 → checked (printed indent ds) ≡ accepted []
  unfolding printed
  print_fine indent h = fine_print (pieces_apart indent well_read) h

  pub print_reads : (indent : ℕ) →
      parse_document (pos nowhere [] (bares (tokens (printed indent ds) opening))) ≡ ok (forget (maps drop_params ds)) (pos nowhere [] [])
  unfolding printed
  print_reads indent = rw (lexes (pieces indent ds) (pieces_apart indent well_read)) (document_rt Good indent well_read read_some.few)

  print_last : (indent : ℕ) → Far (final (between opening opening) (tokens (printed indent ds) opening))
  unfolding tokens opening between span_of printed
  print_last indent =
      print_far indent ds (cuts (printed indent ds)) opening (between opening opening) refl (lexes (pieces indent ds) (pieces_apart indent well_read))

  pub print_parsed : (indent : ℕ) → bare_r forget (parsed (printed indent ds)) ≡ ok (forget (maps drop_params ds)) (pos nowhere [] [])
  unfolding parsed move_s moves
  print_parsed indent = sym (parse_same (between opening opening) (tokens (printed indent ds) opening) (print_last indent)) ∙ print_reads indent

-- a text that is read, to the same as xs but for places
pub record Again (t : List ℕ) (xs : List Definition) : Type 0 where
  pub found : List Definition
  pub taken : outcome t ≡ accepted found
  pub same_tree : forget found ≡ forget xs

unfoldable pub results : Res (List Definition) → List Definition
results (ok ds s) = ds
results (no e l) = []

succeeds : Res (List Definition) → Bool
succeeds (ok ds s) = true
succeeds (no e l) = false

again_by : (m : Res (List Definition)) (t : List ℕ) (xs : List Definition) → checked t ≡ accepted [] → parsed t ≡ m → bare_r forget m ≡ ok (forget xs) (pos nowhere [] []) → Again t xs
unfolding move_r outcome outcome_by answered results succeeds
again_by (ok ds s) t xs f p e = record { found = ds; taken = rw (f, p) refl; same_tree = ap results e }
again_by (no x l) t xs f p e = absurd (false≢true (ap succeeds e))

module _ (t : List ℕ) (b : Bytes t) (ds : List Definition) (e : outcome t ≡ accepted ds) where
  pub print_again : (indent : ℕ) → length (printed indent ds) ≤ 65536 → Again (printed indent ds) (maps drop_params ds)
  print_again indent h = again_by _ (printed indent ds) (maps drop_params ds) (print_fine t b ds e indent h) refl (print_parsed t b ds e indent)
