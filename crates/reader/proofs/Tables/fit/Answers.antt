-- `reader::Tables::fit` meets its contract.
use mathlib.Core.Path.{refl}
use Prim.Native.Nat.{◌*◌, ◌<◌, ◌≤◌}
use borrow.Author.Tests.{lt-ltb, le-ltb}
use Rattle.ast.specs.Records.{comment_width, node_width, room}
use Rattle.lexer.specs.Refusal.{said_by}
use Rattle.reader.specs.Into.{fits}
use Rattle.steps.proofs.Cells.{clears}
use Rattle.reader.proofs.Whole.{gives}
use Rattle.reader.proofs.Tables.fit.Goals as goal

pub returns-then-self-next : goal.returns-then-self-next
unfolding fits room comment_width node_width
returns-then-self-next c =
    let s = c.args.self.now in
    let h : room node_width s.nodes.now < c.args.state.next = c.if-self-next.true in
    gives (rw c.at.ensures at c.refuse.ensures) (rw (lt-ltb _ _ h))

pub returns-then-self-owned : goal.returns-then-self-owned
unfolding fits room comment_width node_width
returns-then-self-owned c =
    let s = c.args.self.now in
    let h : c.args.state.next ≤ room node_width s.nodes.now = c.if-self-next.false in
    let k : room comment_width s.comments.now < c.args.state.owned = c.if-self-owned.true in
    gives (rw c.at-then-self-owned.ensures at c.refuse-then-self-owned.ensures) (rw (le-ltb _ _ h, lt-ltb _ _ k))

pub returns : goal.returns
unfolding fits room comment_width node_width said_by
returns c =
    let s = c.args.self.now in
    let st = c.args.state in
    let h : st.next ≤ room node_width s.nodes.now = c.if-self-next.false in
    let k : st.owned ≤ room comment_width s.comments.now = c.if-self-owned.false in
    record {
      goes = rw (le-ltb _ _ h, le-ltb _ _ k, clears (st.next * 10) s.nodes.now c.clear.new.list c.clear.ensures, clears (st.owned * 9) s.comments.now c.clear-2.new.list c.clear-2.ensures);
      nodes = refl;
      comments = refl;
    }
