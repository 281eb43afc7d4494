-- `write_definitions::write_line` meets its contract.
use mathlib.Core.Path.{ap, ◌∙◌}
use native.Mathlib.Omega.{arith}
use Rattle.std.specs.Prelude.{Option, Some, ◌<◌}
use Rattle.ast.specs.KindNumber.{number_of}
use Rattle.ast.specs.Records.{node_width, room}
use Rattle.ast.specs.declared.kind.Kind.{Kind}
use Rattle.ast.specs.declared.kind.Kind.TheVariants as V
use Rattle.cursor.proofs.Chain.{begins, last}
use Rattle.write_definitions.specs.Onto.{number, line_out}
use Rattle.write_definitions.proofs.KindNumbers.{number_not, number_some, line_else}
use Rattle.write_definitions.proofs.write_line.Goals as goal

pub returns-in_default : goal.returns-in_default
unfolding number line_out
returns-in_default c = let s = c.args.w.now in last c.write_include.ensures (begins (ap (λ (k : Option Kind). line_out s.text.now s.nodes.now (room node_width s.nodes.now) (number k) s.at s.out.now) c.in_default.is))

pub returns-in-Include : goal.returns-in-Include
unfolding number line_out
returns-in-Include c = let s = c.args.w.now in last c.write_include-in-Include.ensures (begins (ap (λ (k : Option Kind). line_out s.text.now s.nodes.now (room node_width s.nodes.now) (number k) s.at s.out.now) (c.in-Some.is ∙ ap Some c.in-Include.is)))

pub returns-in-CppInclude : goal.returns-in-CppInclude
unfolding number line_out
returns-in-CppInclude c = let s = c.args.w.now in last c.write_include-in-CppInclude.ensures (begins (ap (λ (k : Option Kind). line_out s.text.now s.nodes.now (room node_width s.nodes.now) (number k) s.at s.out.now) (c.in-Some.is ∙ ap Some c.in-CppInclude.is)))

pub returns-in-Namespace : goal.returns-in-Namespace
unfolding number line_out
returns-in-Namespace c = let s = c.args.w.now in last c.write_namespace.ensures (begins (ap (λ (k : Option Kind). line_out s.text.now s.nodes.now (room node_width s.nodes.now) (number k) s.at s.out.now) (c.in-Some.is ∙ ap Some c.in-Namespace.is)))

pub returns-in-Const : goal.returns-in-Const
unfolding number line_out
returns-in-Const c = let s = c.args.w.now in last c.write_const.ensures (begins (ap (λ (k : Option Kind). line_out s.text.now s.nodes.now (room node_width s.nodes.now) (number k) s.at s.out.now) (c.in-Some.is ∙ ap Some c.in-Const.is)))

pub returns-in_default-kind : goal.returns-in_default-kind
unfolding number
returns-in_default-kind c =
    let s = c.args.w.now in
    let k = c.in-Some.kind in
    let d = c.in_default-kind in
    let past : 4 < number_of k = omega (
      arith,
      number_some k,
      number_not k V.Include d.not-Include,
      number_not k V.CppInclude d.not-CppInclude,
      number_not k V.Namespace d.not-Namespace,
      number_not k V.Const d.not-Const,
    ) in
    last c.write_typedef.ensures (begins (ap (λ (k : Option Kind). line_out s.text.now s.nodes.now (room node_width s.nodes.now) (number k) s.at s.out.now) c.in-Some.is ∙ line_else _ _ _ _ _ _ past))
