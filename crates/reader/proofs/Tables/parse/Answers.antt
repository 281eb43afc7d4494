-- `reader::Tables::parse` meets its contract.
use mathlib.Core.Path.{refl, sym, ◌∙◌}
use native.Mathlib.Omega.{arith}
use Rattle.lexer.proofs.Places.{unknown_small}
use Rattle.reader.proofs.Whole.{from_first, gives_on, parse_unknown, parse_judged}
use Rattle.reader.proofs.Tables.parse.Goals as goal

pub overflow_cast-at : goal.overflow_cast-at
overflow_cast-at c =
    let u = c.unscanned-from in
    omega (arith, unknown_small c.args.short.text.now u.result _ (sym c.unrecognized.ensures ∙ c.in-Some.is), u.ensures.0, c.args.short.short)

pub returns-in-Some : goal.returns-in-Some
returns-in-Some c =
    let p = c.parse_text-parsed in
    gives_on (rw c.at.ensures at c.refuse.ensures)
    (parse_unknown _ _ _ _ _ _ _ (from_first _ _ _ _ _ p.ensures c.unread-state.ensures) (c.unscanned-from.ensures.1 _ _) p.auto.nodes p.auto.comments _ _ (sym c.unrecognized.ensures ∙ c.in-Some.is) refl)
    refl refl

pub returns : goal.returns
returns c =
    let p = c.parse_text-parsed in
    gives_on c.judge.ensures
    (parse_judged _ _ _ _ _ _ _ (from_first _ _ _ _ _ p.ensures c.unread-state.ensures) (c.unscanned-from.ensures.1 _ _) p.auto.nodes p.auto.comments _ (sym c.unrecognized.ensures ∙ c.in_default.is) refl)
    refl refl
