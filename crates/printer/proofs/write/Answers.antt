-- `printer::write` meets its contract.
use mathlib.Core.Path.{refl, sym, ap, ◌∙◌}
use mathlib.Core.List.{List}
use Prim.Native.Nat.{ℕ}
use borrow.Author.Rules.{rules}
use Rattle.ast.specs.Records.{comment_width, node_width}
use Rattle.printer.specs.Onto.{fits}
use Rattle.printer.proofs.Whole.{written_is}
use Rattle.printer.proofs.write.Goals as goal

pub returns : goal.returns
unfolding node_width comment_width
returns c =
    let a = c.args in
    let p = c.write_document.new.w in
    let lent = sym c.write_document.ensures.lent in
    ap (λ (o : List ℕ). fits a.counts.nodes a.counts.comments p.at.length a.nodes.now a.comments.now o) (search rules)
    ∙ written_is _ _ _ _ _ _ _ p.out.now _ _ _ _ c.rest_at-last.ensures.0 c.rest_at-end.ensures.0 c.write_document.ensures.goes refl
