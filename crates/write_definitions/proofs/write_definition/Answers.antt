-- `write_definitions::write_definition` meets its contract.
use mathlib.Core.Path.{◌≡◌, sym, ap, ◌∙◌}
use native.Mathlib.Omega.{arith}
use Prim.Native.Nat.{◌<◌, ◌≤◌}
use Rattle.std.specs.Prelude.{Option}
use Rattle.ast.specs.KindNumber.{kind_of}
use Rattle.ast.specs.declared.kind.Kind.{Kind}
use Rattle.cursor.specs.Onto.{put_out}
use Rattle.cursor.specs.Writes.{source}
use Rattle.cursor.proofs.Chain.{begins, so, made, kept, last, less, more}
use Rattle.write_definitions.specs.Onto.{number, keyword_out, line_out, block_out}
use Rattle.write_definitions.proofs.KindNumbers.{keyword_read, line_read, block_read}
use Rattle.write_definitions.proofs.Shapes.{definition_is}
use Rattle.write_definitions.proofs.write_definition.Goals as goal

pub returns-then-number-from : goal.returns-then-number-from
returns-then-number-from c =
    let n = c.kind_number-number.result in
    let e : kind_of n ≡ c.kind-kind.result = ap kind_of c.kind_number-number.ensures ∙ sym c.kind-kind.ensures in
    let x = source c.args.w.now in
    let t = c.pass_node.new.self in
    let word : keyword_out n t.at t.out.now ≡ put_out c.keyword.result.now t.at t.out.now
    = sym (keyword_read n t.at t.out.now) ∙ ap (λ (k : Option Kind). keyword_out (number k) t.at t.out.now) e ∙ c.keyword.ensures t.at t.out.now in
    let u = c.put.new.self in
    let l : n < 6 = omega (arith, c.from.ensures, c.if-number-from.true) in
    last c.write_line.ensures
    (so (line_out x.text x.nodes x.count (number c.kind-kind.result) u.at u.out.now)
    (sym (line_read _ _ _ n _ _ l) ∙ ap (λ (k : Option Kind). line_out x.text x.nodes x.count (number k) u.at u.out.now) e)
    (less _ _ _ _ l
    (kept c.put.ensures _
    (made _ word (kept c.pass_node.ensures _ (kept c.put_comments.ensures _ (begins (definition_is _ _ _ _ _ _ _ _ c.kind_number-number.ensures))))))))

pub returns : goal.returns
returns c =
    let n = c.kind_number-number.result in
    let e : kind_of n ≡ c.kind-kind.result = ap kind_of c.kind_number-number.ensures ∙ sym c.kind-kind.ensures in
    let x = source c.args.w.now in
    let t = c.pass_node.new.self in
    let word : keyword_out n t.at t.out.now ≡ put_out c.keyword.result.now t.at t.out.now
    = sym (keyword_read n t.at t.out.now) ∙ ap (λ (k : Option Kind). keyword_out (number k) t.at t.out.now) e ∙ c.keyword.ensures t.at t.out.now in
    let u = c.put.new.self in
    let l : 6 ≤ n = omega (arith, c.from.ensures, c.if-number-from.false) in
    last c.put-2.ensures
    (kept c.write_annotations.ensures _
    (kept c.write_block.ensures _
    (made _ (sym (block_read _ _ _ _ _ _ n _ _) ∙ ap (λ (k : Option Kind). block_out x.text x.nodes x.count x.comments x.total x.indent (number k) u.at u.out.now) e)
    (more _ _ _ _ l
    (kept c.put.ensures _
    (made _ word (kept c.pass_node.ensures _ (kept c.put_comments.ensures _ (begins (definition_is _ _ _ _ _ _ _ _ c.kind_number-number.ensures))))))))))
