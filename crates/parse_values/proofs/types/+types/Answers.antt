-- `parse_type` and what it reads containers with meet their contracts: each is its calls, one after another.
use mathlib.Core.Path.{refl, ap}
use Prim.Native.Nat.{ℕ}
use borrow.Author.Tests.{eq-eqb, ne_eqb}
use Rattle.token.specs.Code.{code}
use Rattle.lexer.specs.declared.error.ErrorKind.TheVariants as E
use Rattle.ast.specs.declared.kind.Kind.TheVariants as V
use Rattle.ast.specs.KindNumber.{number_of}
use Rattle.ast.proofs.KindLaws.{number_unlike, number_some}
use Rattle.steps.specs.Reads.{Source}
use Rattle.steps.proofs.Chain.{begins, kept, on, off, last, halts, when, unless}
use Rattle.steps.proofs.AheadTests.{some_ahead, not_ahead, record_some, record_none}
use Rattle.parse_values.specs.Into.{angles_in, contained_in, leaf_type, container_type, type_in}
use Rattle.parse_values.proofs.Forms.{complex_is, type_absent, type_alone, type_unknown, type_deep, type_inside}
use Rattle.parse_values.proofs.types.+types.Goals as goal

pub parse_angles-returns-in_err-expect : goal.parse_angles-returns-in_err-expect
unfolding angles_in code
parse_angles-returns-in_err-expect t c = off c.expect.ensures c.in_err-expect.was c.from_residual.ensures _ (begins refl)

pub parse_angles-returns-in_err-parse_contained : goal.parse_angles-returns-in_err-parse_contained
unfolding angles_in code
parse_angles-returns-in_err-parse_contained t c =
    off c.parse_contained.ensures c.in_err-parse_contained.was c.from_residual-in_err-parse_contained.ensures _ (on c.expect.ensures c.in_ok-expect.was _ (begins refl))

pub parse_angles-returns : goal.parse_angles-returns
unfolding angles_in code
parse_angles-returns t c =
    last c.expect-2.ensures (on c.parse_contained.ensures c.in_ok-parse_contained.was _ (on c.expect.ensures c.in_ok-expect.was _ (begins refl)))

pub parse_complex_type-returns : goal.parse_complex_type-returns
parse_complex_type-returns t c =
    last (c.enclose.ensures (λ (q : ℕ) (x : Source). angles_in x.text (number_of c.args.kind) (type_in x.text c.args.depth x.base q)) (λ s n r t h. h)) (begins (complex_is _ _ _ _ _ _ _ _))

pub parse_contained-returns-in_err-parse_type-in-Map : goal.parse_contained-returns-in_err-parse_type-in-Map
unfolding contained_in
parse_contained-returns-in_err-parse_type-in-Map t c =
    off c.parse_type.ensures c.in_err-parse_type-in-Map.was c.from_residual.ensures _ (when _ _ _ _ refl (eq-eqb _ _ (ap number_of c.in-Map.is)) (begins refl))

pub parse_contained-returns-in_err-expect-in-Map : goal.parse_contained-returns-in_err-expect-in-Map
unfolding contained_in code
parse_contained-returns-in_err-expect-in-Map t c =
    off c.expect.ensures c.in_err-expect-in-Map.was c.from_residual-in_err-expect-in-Map.ensures _
    (on c.parse_type.ensures c.in_ok-parse_type-in-Map.was _ (when _ _ _ _ refl (eq-eqb _ _ (ap number_of c.in-Map.is)) (begins refl)))

pub parse_contained-returns-in_ok-expect-in-Map : goal.parse_contained-returns-in_ok-expect-in-Map
unfolding contained_in code
parse_contained-returns-in_ok-expect-in-Map t c =
    last c.parse_type-in-Map.ensures
    (on c.expect.ensures c.in_ok-expect-in-Map.was _ (on c.parse_type.ensures c.in_ok-parse_type-in-Map.was _ (when _ _ _ _ refl (eq-eqb _ _ (ap number_of c.in-Map.is)) (begins refl))))

pub parse_contained-returns-in_default : goal.parse_contained-returns-in_default
unfolding contained_in
parse_contained-returns-in_default t c = last c.parse_type-in_default.ensures (unless _ _ _ _ refl (number_unlike _ V.Map c.in_default.not-Map) (begins refl))

pub parse_type-returns-in_default : goal.parse_type-returns-in_default
parse_type-returns-in_default t c = halts _ E.UnexpectedEOF c.error.ensures (begins (type_absent _ _ _ _ _ _ _ (not_ahead _ c.in_default.not-Some)))

pub parse_type-returns-in-Some-leaf_type : goal.parse_type-returns-in-Some-leaf_type
parse_type-returns-in-Some-leaf_type t c =
    let a = c.in-Some.is in
    last c.put_leaf.ensures
    (kept c.advance.ensures _ (begins (type_alone _ _ _ _ _ _ _ (some_ahead _ a) (record_some leaf_type a c.leaf_type.ensures c.in-Some-leaf_type.is) (number_some _))))

pub parse_type-returns-in_default-container_type : goal.parse_type-returns-in_default-container_type
parse_type-returns-in_default-container_type t c =
    let a = c.in-Some.is in
    let l = record_none leaf_type a c.leaf_type.ensures c.in_default-leaf_type.is in
    let k = record_none container_type a c.container_type.ensures c.in_default-container_type.is in
    halts _ E.UnsupportedType c.error-in_default-container_type.ensures (begins (type_unknown _ _ _ _ _ _ _ (some_ahead _ a) l k))

pub parse_type-returns-then-depth-eq0 : goal.parse_type-returns-then-depth-eq0
parse_type-returns-then-depth-eq0 t c =
    let a = c.in-Some.is in
    let l = record_none leaf_type a c.leaf_type.ensures c.in_default-leaf_type.is in
    let k = record_some container_type a c.container_type.ensures c.in-Some-container_type.is in
    halts _ E.TooDeep c.error-then-depth-eq0.ensures
    (begins (type_deep _ _ _ _ _ _ _ (some_ahead _ a) l k (number_some _) (eq-eqb _ _ c.if-depth-eq0.true)))

pub parse_type-returns : goal.parse_type-returns
parse_type-returns t c =
    let a = c.in-Some.is in
    let l = record_none leaf_type a c.leaf_type.ensures c.in_default-leaf_type.is in
    let k = record_some container_type a c.container_type.ensures c.in-Some-container_type.is in
    last c.parse_complex_type.ensures
    (kept c.advance-2.ensures _ (begins (type_inside _ _ _ _ _ _ _ (some_ahead _ a) l k (number_some _) (ne_eqb _ _ c.if-depth-eq0.false))))
