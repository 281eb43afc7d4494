-- `parse_value` and what it reads lists and maps with meet their contracts: each is its calls, one after another.
use mathlib.Core.Path.{refl, ap, ◌∙◌}
use Prim.Native.Nat.{ℕ}
use borrow.Author.Tests.{eq-eqb, ne_eqb}
use Rattle.token.specs.Code.{code}
use Rattle.lexer.specs.declared.error.ErrorKind.TheVariants as E
use Rattle.std.specs.Prelude.{Some}
use Rattle.ast.proofs.KindLaws.{number_some}
use Rattle.steps.specs.Into.{numbered}
use Rattle.steps.proofs.Turns.{rests_by, shortens_by}
use Rattle.steps.specs.Reads.{Source}
use Rattle.steps.proofs.Chain.{begins, kept, on, off, last, halts}
use Rattle.steps.proofs.AheadTests.{some_ahead, not_ahead, record_some, record_none, by_some}
use Rattle.parse_values.specs.Into.{elements_in, is_opener, leaf_value, pair_in, properties_in, property_in, skip_both_in, value_in}
use Rattle.parse_values.proofs.Bytes.{both_rests, property_falls, value_falls}
use Rattle.parse_values.proofs.KindTests.{bracket_not}
use Rattle.parse_values.proofs.Forms.{list_is, map_is, property_is, value_absent, value_alone, value_unknown, value_deep, value_list, value_map}
use Rattle.parse_values.proofs.values.+values.Goals as goal

pub parse_list_value-returns : goal.parse_list_value-returns
parse_list_value-returns t c =
    last (c.enclose.ensures (λ (q : ℕ) (x : Source). elements_in x.text (value_in x.text c.args.depth x.base q)) (λ s n r t h. h)) (begins (list_is _ _ _ _ _ _ _))

pub parse_map_value-returns : goal.parse_map_value-returns
parse_map_value-returns t c =
    last (c.enclose.ensures (λ (q : ℕ) (x : Source). properties_in x.text (property_in x.text (λ n. value_in x.text c.args.depth x.base n) x.base q)) (λ s n r t h. h))
    (begins (map_is _ _ _ _ _ _ _))

pub parse_elements-parse_members-requires-clause-rests : goal.parse_elements-parse_members-requires-clause-rests
parse_elements-parse_members-requires-clause-rests t c = λ s t h. rests_by (λ x. both_rests x.text) h

pub parse_elements-parse_members-requires-clause-falls : goal.parse_elements-parse_members-requires-clause-falls
parse_elements-parse_members-requires-clause-falls t c = λ s r t h. shortens_by (λ x. value_falls x.text c.args.depth x.base c.args.parent) h

pub parse_elements-returns : goal.parse_elements-returns
unfolding elements_in code
parse_elements-returns t c =
    last
    (c.parse_members.ensures (λ (x : Source). skip_both_in x.text) (λ (x : Source). value_in x.text c.args.depth x.base c.args.parent) (λ x. both_rests x.text) (λ x. value_falls x.text c.args.depth x.base c.args.parent) (λ s t h. h) (λ s r t h. h))
    (begins refl)

pub parse_properties-parse_members-requires-clause-rests : goal.parse_properties-parse_members-requires-clause-rests
parse_properties-parse_members-requires-clause-rests t c = λ s t h. rests_by (λ x. both_rests x.text) h

pub parse_properties-parse_members-requires-clause-falls : goal.parse_properties-parse_members-requires-clause-falls
parse_properties-parse_members-requires-clause-falls t c = λ s r t h. shortens_by (λ x. property_falls x.text (λ q. value_in x.text c.args.depth x.base q) (λ q. value_falls x.text c.args.depth x.base q) x.base c.args.parent) h

pub parse_properties-returns : goal.parse_properties-returns
unfolding properties_in code
parse_properties-returns t c =
    last
    (c.parse_members.ensures (λ (x : Source). skip_both_in x.text) (λ (x : Source). property_in x.text (λ q. value_in x.text c.args.depth x.base q) x.base c.args.parent) (λ x. both_rests x.text) (λ x. property_falls x.text (λ q. value_in x.text c.args.depth x.base q) (λ q. value_falls x.text c.args.depth x.base q) x.base c.args.parent) (λ s t h. h) (λ s r t h. h))
    (begins refl)

pub parse_property-returns : goal.parse_property-returns
parse_property-returns t c =
    last (c.enclose.ensures (λ (q : ℕ) (x : Source). pair_in x.text (value_in x.text c.args.depth x.base q)) (λ s n r t h. h)) (begins (property_is _ _ _ _ _ _ _ c.start-start.ensures))

pub parse_pair-returns-in_err-parse_value : goal.parse_pair-returns-in_err-parse_value
unfolding pair_in
parse_pair-returns-in_err-parse_value t c = off c.parse_value.ensures c.in_err-parse_value.was c.from_residual.ensures _ (begins refl)

pub parse_pair-returns-in_err-expect : goal.parse_pair-returns-in_err-expect
unfolding pair_in code
parse_pair-returns-in_err-expect t c = off c.expect.ensures c.in_err-expect.was c.from_residual-in_err-expect.ensures _ (on c.parse_value.ensures c.in_ok-parse_value.was _ (begins refl))

pub parse_pair-returns : goal.parse_pair-returns
unfolding pair_in code
parse_pair-returns t c = last c.parse_value-2.ensures (on c.expect.ensures c.in_ok-expect.was _ (on c.parse_value.ensures c.in_ok-parse_value.was _ (begins refl)))

pub parse_value-returns-in_default : goal.parse_value-returns-in_default
parse_value-returns-in_default t c = halts _ E.UnexpectedEOF c.error.ensures (begins (value_absent _ _ _ _ _ _ _ (not_ahead _ c.in_default.not-Some)))

pub parse_value-returns-in-Some-leaf_value : goal.parse_value-returns-in-Some-leaf_value
parse_value-returns-in-Some-leaf_value t c =
    let a = c.in-Some.is in
    last c.put_leaf.ensures
    (kept c.advance.ensures _ (begins (value_alone _ _ _ _ _ _ _ (some_ahead _ a) (record_some leaf_value a c.leaf_value.ensures c.in-Some-leaf_value.is) (number_some _))))

pub parse_value-returns-then-not-is_opener : goal.parse_value-returns-then-not-is_opener
parse_value-returns-then-not-is_opener t c =
    let a = c.in-Some.is in
    let l = record_none leaf_value a c.leaf_value.ensures c.in_default-leaf_value.is in
    halts _ E.InvalidValueDeclaration c.error-then-not-is_opener.ensures
    (begins (value_unknown _ _ _ _ _ _ _ (some_ahead _ a) l (by_some is_opener a c.is_opener.ensures c.if-not-is_opener.true)))

pub parse_value-returns-then-depth-eq0 : goal.parse_value-returns-then-depth-eq0
parse_value-returns-then-depth-eq0 t c =
    let a = c.in-Some.is in
    let l = record_none leaf_value a c.leaf_value.ensures c.in_default-leaf_value.is in
    let o = by_some is_opener a c.is_opener.ensures c.if-not-is_opener.false in
    halts _ E.TooDeep c.error-then-depth-eq0.ensures (begins (value_deep _ _ _ _ _ _ _ (some_ahead _ a) l o (eq-eqb _ _ c.if-depth-eq0.true)))

pub parse_value-returns-in-LeftBracket : goal.parse_value-returns-in-LeftBracket
unfolding code numbered
parse_value-returns-in-LeftBracket t c =
    let a = c.in-Some.is in
    let l = record_none leaf_value a c.leaf_value.ensures c.in_default-leaf_value.is in
    let o = by_some is_opener a c.is_opener.ensures c.if-not-is_opener.false in
    let k = ap numbered (a ∙ ap Some c.in-LeftBracket.is) in
    last c.parse_list_value.ensures
    (kept c.advance-2.ensures _ (begins (value_list _ _ _ _ _ _ _ (some_ahead _ a) l o (ne_eqb _ _ c.if-depth-eq0.false) (eq-eqb _ _ k))))

pub parse_value-returns-in_default-token : goal.parse_value-returns-in_default-token
parse_value-returns-in_default-token t c =
    let a = c.in-Some.is in
    let l = record_none leaf_value a c.leaf_value.ensures c.in_default-leaf_value.is in
    let o = by_some is_opener a c.is_opener.ensures c.if-not-is_opener.false in
    last c.parse_map_value.ensures
    (kept c.advance-2.ensures _
    (begins (value_map _ _ _ _ _ _ _ (some_ahead _ a) l o (ne_eqb _ _ c.if-depth-eq0.false) (bracket_not a c.in_default-token.not-LeftBracket))))
