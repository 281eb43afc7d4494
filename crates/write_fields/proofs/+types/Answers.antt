-- `write_type` and the two functions that it writes containers with meet their contracts: each is its calls, one after another.
-- The measure is twice the containers left, one more for those two.
use mathlib.Core.Path.{refl}
use Rattle.ast.specs.declared.kind.Kind.TheVariants as V
use Rattle.cursor.proofs.Chain.{begins, kept, last, yes, no}
use Rattle.cursor.proofs.KindRead.{kind_arm, kind_not, kind_past}
use Rattle.write_fields.proofs.Shapes.{container_is, map_type_is, type_is}
use Rattle.write_fields.proofs.+types.Goals as goal

pub write_container-returns : goal.write_container-returns
write_container-returns t c = last c.put-2.ensures (kept c.write_type.ensures _ (kept c.put.ensures _ (kept c.pass_node.ensures _ (begins (container_is _ _ _ _)))))

pub write_map_type-returns : goal.write_map_type-returns
write_map_type-returns t c = last c.put-3.ensures (kept c.write_type-2.ensures _ (kept c.put-2.ensures _ (kept c.write_type.ensures _ (kept c.put.ensures _ (kept c.pass_node.ensures _ (begins (map_type_is _ _ _)))))))

pub write_type-returns-then-depth-eq0 : goal.write_type-returns-then-depth-eq0
write_type-returns-then-depth-eq0 t c = last c.put_token.ensures (yes _ _ _ _ _ refl c.if-depth-eq0.true (begins (type_is _ _ _ _ _ _ refl)))

pub write_type-returns-in_default : goal.write_type-returns-in_default
write_type-returns-in_default t c = last c.put_token-in_default.ensures (no _ _ _ _ _ refl (kind_not _ V.Map c.kind.ensures (c.in_default.not-Some _))
    (no _ _ _ _ _ refl (kind_not _ V.Set c.kind.ensures (c.in_default.not-Some _))
    (no _ _ _ _ _ refl (kind_not _ V.List c.kind.ensures (c.in_default.not-Some _))
    (no _ _ _ _ _ refl c.if-depth-eq0.false (begins (type_is _ _ _ _ _ _ refl))))))

pub write_type-returns-in-List : goal.write_type-returns-in-List
write_type-returns-in-List t c = last c.write_container.ensures (yes _ _ _ _ _ refl (kind_arm _ V.List c.kind.ensures c.in-Some.is c.in-List.is) (no _ _ _ _ _ refl c.if-depth-eq0.false (begins (type_is _ _ _ _ _ _ refl))))

pub write_type-returns-in-Set : goal.write_type-returns-in-Set
write_type-returns-in-Set t c = last c.write_container-in-Set.ensures (yes _ _ _ _ _ refl (kind_arm _ V.Set c.kind.ensures c.in-Some.is c.in-Set.is) (no _ _ _ _ _ refl (kind_past _ V.List c.kind.ensures c.in-Some.is (λ h. cc (h, c.in-Set.is)))
    (no _ _ _ _ _ refl c.if-depth-eq0.false (begins (type_is _ _ _ _ _ _ refl)))))

pub write_type-returns-in-Map : goal.write_type-returns-in-Map
write_type-returns-in-Map t c = last c.write_map_type.ensures (yes _ _ _ _ _ refl (kind_arm _ V.Map c.kind.ensures c.in-Some.is c.in-Map.is) (no _ _ _ _ _ refl (kind_past _ V.Set c.kind.ensures c.in-Some.is (λ h. cc (h, c.in-Map.is)))
    (no _ _ _ _ _ refl (kind_past _ V.List c.kind.ensures c.in-Some.is (λ h. cc (h, c.in-Map.is)))
    (no _ _ _ _ _ refl c.if-depth-eq0.false (begins (type_is _ _ _ _ _ _ refl))))))

pub write_type-returns-in_default-kind : goal.write_type-returns-in_default-kind
write_type-returns-in_default-kind t c = last c.put_token-in_default-kind.ensures (no _ _ _ _ _ refl (kind_past _ V.Map c.kind.ensures c.in-Some.is c.in_default-kind.not-Map)
    (no _ _ _ _ _ refl (kind_past _ V.Set c.kind.ensures c.in-Some.is c.in_default-kind.not-Set)
    (no _ _ _ _ _ refl (kind_past _ V.List c.kind.ensures c.in-Some.is c.in_default-kind.not-List)
    (no _ _ _ _ _ refl c.if-depth-eq0.false (begins (type_is _ _ _ _ _ _ refl))))))
