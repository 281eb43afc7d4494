-- What leaves the comment table as it was (specs/Into's `Quiet`), whether it answers or refuses.
--     after_q, cond_q, then_q     through what follows, and a test
--     ..._quiet                   of the steps that write no comment, and of a loop
--     quiet_by                    by the contract of what reads: the comments are what they were
use mathlib.Core.Path.{◌≡◌}
use mathlib.Core.Bool.{Bool, true, false, cond}
use mathlib.Core.List.{List}
use Prim.Native.Nat.{ℕ, zero, suc}
use native.Mathlib.Omega.{arith}
use lib.Dec.{eqb}
use Rattle.std.specs.Prelude.{Ok, Err}
use Rattle.steps.specs.declared.packed.Range.{Range}
use Rattle.steps.specs.declared.state.Parser.{Parser}
use Rattle.steps.specs.declared.state.State.{State}
use Rattle.steps.specs.Into.{Out, done, stop, Keeps, answers, refuses, Quiet, M, ◌⨟◌, after, code_of, leaf_in, node_in, advance_in, refused, refuse_in, take_in, expect_in, skip_in, turns_in, loop_in}
use Rattle.steps.specs.Reads.{Source, source, Parsed, tells, Reads}

-- ---- through what follows, and a test

pub after_q : {u : List ℕ} {o : Out} {k : M} → Keeps u o → Quiet k → Keeps u (after o k)
unfolding after
after_q {u} (answers {st = st} {t = t}) g = g st t u
after_q refuses g = refuses

pub cond_q : {u : List ℕ} {o v : Out} (b : Bool) → Keeps u o → Keeps u v → Keeps u (cond b o v)
cond_q true h g = h
cond_q false h g = g

pub then_q : {m k : M} → Quiet m → Quiet k → Quiet (m ⨟ k)
then_q f g st t u = after_q (f st t u) g

-- ---- the steps

pub refused_quiet : (e : ℕ) → Quiet (refused e)
unfolding refused
refused_quiet e st t u = cond_q (eqb (code_of st) 255) refuses refuses

pub advance_quiet : (text : List ℕ) → Quiet (advance_in text)
unfolding advance_in
advance_quiet text st t u = answers

pub take_quiet : (text : List ℕ) → Quiet (take_in text)
unfolding take_in
take_quiet text st t u = cond_q (eqb (code_of st) 255) (refused_quiet 3 st t u) answers

pub expect_quiet : (text : List ℕ) (k e : ℕ) → Quiet (expect_in text k e)
unfolding expect_in
expect_quiet text k e st t u = cond_q (eqb (code_of st) k) (take_quiet text st t u) (refused_quiet e st t u)

pub leaf_quiet : (k b p : ℕ) → Quiet (leaf_in k b p)
unfolding leaf_in
leaf_quiet k b p st t u = answers

pub node_quiet : (n k f s b p : ℕ) → Quiet (node_in n k f s b p)
unfolding node_in
node_quiet n k f s b p st t u = answers

pub skip_quiet : (text : List ℕ) (s : Bool) → Quiet (skip_in text s)
unfolding skip_in
skip_quiet text s st t u = answers

-- ---- a loop

module _ (skips shut member : M) (closes : State → Bool) (f : Quiet skips) (g : Quiet shut) (h : Quiet member) where
  turns_quiet : (n : ℕ) → Quiet (turns_in closes skips shut member n)
  unfolding turns_in refuse_in
  turns_quiet zero st t u = refused_quiet 3 st t u
  turns_quiet (suc n) st t u = after_q (f st t u) (λ st t u. cond_q (closes st) (g st t u) (then_q h (turns_quiet n) st t u))

  pub loop_quiet : (text : List ℕ) → Quiet (loop_in text closes skips shut member)
  unfolding loop_in
  loop_quiet text st t u = turns_quiet _ st t u

-- ---- by the contract

answer_kept : {o : Out} {st : State} {t u v : List ℕ} → Keeps u o → done st t v ≡ o → v ≡ u
answer_kept answers e = cc
answer_kept refuses e = let z : ◌≡◌ {A = ℕ} 0 1 = cc in absurd (omega arith)

refusal_kept : {o : Out} {n : ℕ} {l : Range} {st : State} {t u v : List ℕ} → Keeps u o → stop n l st t v ≡ o → v ≡ u
refusal_kept answers e = let z : ◌≡◌ {A = ℕ} 0 1 = cc in absurd (omega arith)
refusal_kept refuses e = cc

pub quiet_by : {m : Source → M} {s t : Parser} {r : Parsed} → ((x : Source) → Quiet (m x)) → Reads m s t r → t.comments.now ≡ s.comments.now
unfolding tells
quiet_by {m} {s} {t} {r} f w = go r w.goes
  where
    go : (a : Parsed) → tells a t.state t.nodes.now t.comments.now ≡ m (source s) s.state s.nodes.now s.comments.now → t.comments.now ≡ s.comments.now
    go (Ok x) e = answer_kept (f (source s) s.state s.nodes.now s.comments.now) e
    go (Err x) e = refusal_kept (f (source s) s.state s.nodes.now s.comments.now) e
