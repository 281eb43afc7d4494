-- `write_definitions::write_block` meets its contract.
use mathlib.Core.Path.{ap, ◌∙◌}
use Rattle.std.specs.Prelude.{Option, Some}
use Rattle.ast.specs.declared.kind.Kind.{Kind}
use Rattle.ast.specs.declared.kind.Kind.TheVariants as V
use Rattle.cursor.specs.Writes.{source}
use Rattle.cursor.proofs.Chain.{begins, kept, last}
use Rattle.write_definitions.specs.Onto.{number, block_out, one_out}
use Rattle.write_definitions.proofs.KindNumbers.{number_not, block_else}
use Rattle.write_definitions.proofs.write_block.Goals as goal

pub returns-in_default : goal.returns-in_default
unfolding number block_out one_out
returns-in_default c =
    let s = c.args.w.now in
    let x = source s in
    last (c.write_body.ensures (λ s t h. h)) (kept c.put_token.ensures _ (begins (ap (λ (k : Option Kind). block_out x.text x.nodes x.count x.comments x.total x.indent (number k) s.at s.out.now) c.in_default.is)))

pub returns-in-Enum : goal.returns-in-Enum
unfolding number block_out one_out
returns-in-Enum c =
    let s = c.args.w.now in
    let x = source s in
    last (c.write_body-in-Enum.ensures (λ s t h. h)) (kept c.put_token.ensures _ (begins (ap (λ (k : Option Kind). block_out x.text x.nodes x.count x.comments x.total x.indent (number k) s.at s.out.now) (c.in-Some.is ∙ ap Some c.in-Enum.is))))

pub returns-in-Service : goal.returns-in-Service
unfolding number block_out one_out
returns-in-Service c =
    let s = c.args.w.now in
    let x = source s in
    last (c.write_body-in-Service.ensures (λ s t h. h)) (kept c.write_extends.ensures _ (kept c.put_token.ensures _ (begins (ap (λ (k : Option Kind). block_out x.text x.nodes x.count x.comments x.total x.indent (number k) s.at s.out.now) (c.in-Some.is ∙ ap Some c.in-Service.is)))))

pub returns-in_default-kind : goal.returns-in_default-kind
unfolding number one_out
returns-in_default-kind c =
    let s = c.args.w.now in
    let x = source s in
    last (c.write_body-in_default-kind.ensures (λ s t h. h)) (kept c.put_token.ensures _ (begins (ap (λ (k : Option Kind). block_out x.text x.nodes x.count x.comments x.total x.indent (number k) s.at s.out.now) c.in-Some.is ∙ block_else _ _ _ _ _ _ _ _ _ (number_not _ V.Enum c.in_default-kind.not-Enum) (number_not _ V.Service c.in_default-kind.not-Service))))
