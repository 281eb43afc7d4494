-- `scan::string_of` meets its contract. The invariant: the scan stands within the string.
use mathlib.Core.Path.{sym, ◌∙◌}
use native.Mathlib.Omega.{arith}
use Rattle.scan.proofs.ScanLaws.{string_end, string_close, escape_end, escape_line, escape_on, run_on, stop_below}
use Rattle.scan.proofs.string_of.Goals as goal

pub loop-double-init : goal.loop-double-init
loop-double-init c = c.requires

pub overflow_add-stop : goal.overflow_add-stop
overflow_add-stop c = omega (arith, c.stop_of-stop.ensures, stop_below c.args.double)

pub run-j-requires : goal.run-j-requires
run-j-requires c = (c.loop-double.invariant.inside)

pub returns-then-text-j : goal.returns-then-text-j
returns-then-text-j c = sym (string_end c.args.double c.loop-double.invariant c.run-j.result (rw c.stop_of-stop.ensures at c.run-j.ensures) c.if-text-j.true)

pub class_at-requires : goal.class_at-requires
class_at-requires c = (c.if-text-j.false)

pub returns-then-class_at-quote : goal.returns-then-class_at-quote
returns-then-class_at-quote c = sym (string_close c.args.double c.loop-double.invariant c.run-j.result (rw c.stop_of-stop.ensures at c.run-j.ensures) c.if-text-j.false (sym c.class_at.ensures ∙ c.if-class_at-quote.true ∙ c.quote_of-quote.ensures))

pub returns-then-text-j-2 : goal.returns-then-text-j-2
returns-then-text-j-2 c = sym (escape_end c.args.double c.loop-double.invariant c.run-j.result (rw c.stop_of-stop.ensures at c.run-j.ensures) c.if-text-j.false (λ e. c.if-class_at-quote.false (c.class_at.ensures ∙ e ∙ sym c.quote_of-quote.ensures)) c.if-text-j-2.true)

pub class_at-requires-in-loop-double : goal.class_at-requires-in-loop-double
class_at-requires-in-loop-double c = (c.if-text-j-2.false)

pub returns-then-class_at-eq-LINE_FEED : goal.returns-then-class_at-eq-LINE_FEED
returns-then-class_at-eq-LINE_FEED c = sym (escape_line c.args.double c.loop-double.invariant c.run-j.result (rw c.stop_of-stop.ensures at c.run-j.ensures) c.if-text-j.false (λ e. c.if-class_at-quote.false (c.class_at.ensures ∙ e ∙ sym c.quote_of-quote.ensures)) c.if-text-j-2.false (sym c.class_at-in-loop-double.ensures ∙ c.if-class_at-eq-LINE_FEED.true))

pub loop-double-smaller : goal.loop-double-smaller
loop-double-smaller c = omega (arith, c.loop-double.invariant.inside, run_on c.args.double c.loop-double.invariant c.run-j.result (rw c.stop_of-stop.ensures at c.run-j.ensures))

pub loop-double-preserved : goal.loop-double-preserved
loop-double-preserved c = escape_on c.args.double c.loop-double.invariant c.run-j.result (rw c.stop_of-stop.ensures at c.run-j.ensures) c.if-text-j.false (λ e. c.if-class_at-quote.false (c.class_at.ensures ∙ e ∙ sym c.quote_of-quote.ensures)) c.if-text-j-2.false (λ e. c.if-class_at-eq-LINE_FEED.false (c.class_at-in-loop-double.ensures ∙ e))
