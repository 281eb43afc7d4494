-- `write_value` and what it writes containers with meet their contracts: each is its calls, one after another.
-- The measure is five times the containers left, and the place in the cycle.
use mathlib.Core.Path.{refl, sym, ◌∙◌}
use Rattle.ast.specs.declared.kind.Kind.TheVariants as V
use Rattle.cursor.specs.Writes.{Source}
use Rattle.cursor.proofs.Chain.{begins, kept, last, yes, no}
use Rattle.cursor.proofs.KindRead.{kind_arm, kind_not, kind_past}
use Rattle.write_fields.specs.Onto.{property_out, value_out}
use Rattle.write_fields.proofs.Shapes.{property_is, list_is, map_is, value_is, value_token}
use Rattle.write_fields.proofs.+values.Goals as goal

pub write_element-returns : goal.write_element-returns
write_element-returns t c = last c.put_token.ensures (begins (value_token _ _ _ _ _ _ (sym c.is.ensures ∙ c.if-is.false) (sym c.is-else-is.ensures ∙ c.if-is-2.false)))

pub write_list-returns : goal.write_list-returns
write_list-returns t c = last (c.write_brackets.ensures (λ (x : Source). value_out x.text x.nodes x.count c.args.depth) (λ s t h. h)) (begins (list_is _ _ _ _ _))

pub write_property-returns : goal.write_property-returns
write_property-returns t c = last c.write_value-2.ensures (kept c.put.ensures _ (kept c.write_value.ensures _ (kept c.pass_node.ensures _ (begins (property_is _ _ _)))))

pub write_map-returns : goal.write_map-returns
write_map-returns t c =
    last (c.write_brackets.ensures (λ (x : Source). property_out (value_out x.text x.nodes x.count c.args.depth)) (λ s t h. h)) (begins (map_is _ _ _ _ _))

pub write_value-returns-then-depth-eq0 : goal.write_value-returns-then-depth-eq0
write_value-returns-then-depth-eq0 t c = last c.put_token.ensures (yes _ _ _ _ _ refl c.if-depth-eq0.true (begins (value_is _ _ _ _ _ _ refl)))

pub write_value-returns-in_default : goal.write_value-returns-in_default
write_value-returns-in_default t c = last c.put_token-in_default.ensures (no _ _ _ _ _ refl (kind_not _ V.MapValue c.kind.ensures (c.in_default.not-Some _))
    (no _ _ _ _ _ refl (kind_not _ V.ListValue c.kind.ensures (c.in_default.not-Some _))
    (no _ _ _ _ _ refl c.if-depth-eq0.false (begins (value_is _ _ _ _ _ _ refl)))))

pub write_value-returns-in-ListValue : goal.write_value-returns-in-ListValue
write_value-returns-in-ListValue t c = last c.write_list.ensures (yes _ _ _ _ _ refl (kind_arm _ V.ListValue c.kind.ensures c.in-Some.is c.in-ListValue.is) (no _ _ _ _ _ refl c.if-depth-eq0.false (begins (value_is _ _ _ _ _ _ refl))))

pub write_value-returns-in-MapValue : goal.write_value-returns-in-MapValue
write_value-returns-in-MapValue t c = last c.write_map.ensures (yes _ _ _ _ _ refl (kind_arm _ V.MapValue c.kind.ensures c.in-Some.is c.in-MapValue.is) (no _ _ _ _ _ refl (kind_past _ V.ListValue c.kind.ensures c.in-Some.is (λ h. cc (h, c.in-MapValue.is)))
    (no _ _ _ _ _ refl c.if-depth-eq0.false (begins (value_is _ _ _ _ _ _ refl)))))

pub write_value-returns-in_default-kind : goal.write_value-returns-in_default-kind
write_value-returns-in_default-kind t c = last c.put_token-in_default-kind.ensures (no _ _ _ _ _ refl (kind_past _ V.MapValue c.kind.ensures c.in-Some.is c.in_default-kind.not-MapValue)
    (no _ _ _ _ _ refl (kind_past _ V.ListValue c.kind.ensures c.in-Some.is c.in_default-kind.not-ListValue)
    (no _ _ _ _ _ refl c.if-depth-eq0.false (begins (value_is _ _ _ _ _ _ refl)))))
