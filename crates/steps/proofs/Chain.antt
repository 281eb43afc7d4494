-- A function of the readers' code, call by call: Z is what the whole does, and each law takes one step more.
--     begins                    before the first call
--     so                        the same, by what else it is
--     kept, on                  a call behind which the function goes on: one that refuses nothing, one that answered
--     off                       a call that refused: `?` hands its error on
--     last, ends                the last call; nothing more to do
--     does                      what the body itself writes
--     halts                     a refusal at the token ahead: the parser stands where it stood
--     when, unless              a test, by what decides it
--     left_by, text_by          what a call leaves
--     accepted, declined        a token that is taken if it is ahead
use mathlib.Core.Path.{◌≡◌, refl, sym, ap, ◌∙◌}
use mathlib.Core.Bool.{Bool, true, false, cond}
use mathlib.Core.List.{List}
use Prim.Native.Nat.{ℕ}
use lib.Dec.{eqb}
use Rattle.std.specs.Prelude.{⊤, Ok, Err}
use Rattle.std.specs.Result.{IsErr, IsErrAnd}
use Rattle.std.proofs.lemmas.Result.{err_from_is_err_and}
use Rattle.lexer.specs.Refusal.{number_of}
use Rattle.lexer.specs.declared.error.ErrorKind.{ErrorKind}
use Rattle.steps.specs.declared.state.Parser.{Parser}
use Rattle.steps.specs.declared.state.State.{State}
use Rattle.steps.specs.declared.state.Raised.{Raised}
use Rattle.steps.specs.Into.{Out, done, stop, M, accept_in, advance_in, after, code_of, refused}
use Rattle.steps.specs.Reads.{Source, source, Accepts, Parsed, tells, Reads, Does}

-- X is what is left to do, from the parser t, and s is the parser that the function began with
pub record Left (Z : Out) (s : Parser) (X : Out) (t : Parser) : Type 0 where
  pub goes : Z ≡ X
  pub same : source t ≡ source s
  pub lent : t.nodes.ghost_name ≡ s.nodes.ghost_name
  pub wide : t.comments.ghost_name ≡ s.comments.ghost_name

pub begins : {Z X : Out} {s : Parser} → Z ≡ X → Left Z s X s
begins e = record { goes = e; same = refl; lent = refl; wide = refl }

pub so : {Z X : Out} {s t : Parser} (Y : Out) → X ≡ Y → Left Z s X t → Left Z s Y t
so Y e v = record { goes = v.goes ∙ e; same = v.same; lent = v.lent; wide = v.wide }

-- where a call leads, told by the source that the function began with
told : (x : Source) {t u : Parser} {m : Source → M} {r : Parsed} → Reads m t u r → source t ≡ x → tells r u.state u.nodes.now u.comments.now ≡ m x t.state t.nodes.now t.comments.now
told x {t} {u} {m} w e = w.goes ∙ ap (λ (y : Source). m y t.state t.nodes.now t.comments.now) e

pub on : {Z : Out} {s t u : Parser} {m : Source → M} {r : Parsed} {x : ⊤} → Reads m t u r → r ≡ Ok x → (k : M) → Left Z s (after (m (source s) t.state t.nodes.now t.comments.now) k) t
    → Left Z s (k u.state u.nodes.now u.comments.now) u
unfolding after tells
on {Z} {s} {t} {u} {m} {r} w h k v =
    let e : done u.state u.nodes.now u.comments.now ≡ m (source s) t.state t.nodes.now t.comments.now =
    sym (ap (λ (x : Parsed). tells x u.state u.nodes.now u.comments.now) h) ∙ told (source s) w v.same in
    record { goes = v.goes ∙ ap (λ (x : Out). after x k) (sym e); same = w.same ∙ v.same; lent = w.lent ∙ v.lent; wide = w.wide ∙ v.wide }

pub kept : {Z : Out} {s t u : Parser} {m : Source → M} → Does m t u → (k : M) → Left Z s (after (m (source s) t.state t.nodes.now t.comments.now) k) t
    → Left Z s (k u.state u.nodes.now u.comments.now) u
kept w k v = on w refl k v

pub off : {W : Source → M} {s t u : Parser} {m : Source → M} {r a : Parsed} {e : Raised} → Reads m t u r → r ≡ Err e → IsErr a × IsErrAnd a (λ y. y ≡ e) → (k : M)
    → Left (W (source s) s.state s.nodes.now s.comments.now) s (after (m (source s) t.state t.nodes.now t.comments.now) k) t → Reads W s u a
unfolding after tells
off {W} {s} {t} {u} {m} {r} {a} {e} w h g k v =
    let f : stop (number_of e.kind) e.loc u.state u.nodes.now u.comments.now ≡ m (source s) t.state t.nodes.now t.comments.now =
    sym (ap (λ (x : Parsed). tells x u.state u.nodes.now u.comments.now) h) ∙ told (source s) w v.same in
    let p = err_from_is_err_and a g.1 in
    let q : a ≡ Err e = cc in
    record {
      goes = ap (λ (x : Parsed). tells x u.state u.nodes.now u.comments.now) q ∙ sym (v.goes ∙ ap (λ (x : Out). after x k) (sym f));
      same = w.same ∙ v.same;
      lent = w.lent ∙ v.lent;
      wide = w.wide ∙ v.wide;
    }

pub last : {W : Source → M} {s t u : Parser} {m : Source → M} {r : Parsed} → Reads m t u r
    → Left (W (source s) s.state s.nodes.now s.comments.now) s (m (source s) t.state t.nodes.now t.comments.now) t → Reads W s u r
last {W} {s} w v = record {
  goes = told (source s) w v.same ∙ sym v.goes;
  same = w.same ∙ v.same;
  lent = w.lent ∙ v.lent;
  wide = w.wide ∙ v.wide;
}

pub ends : {W : Source → M} {s t : Parser} → Left (W (source s) s.state s.nodes.now s.comments.now) s (done t.state t.nodes.now t.comments.now) t → Does W s t
unfolding tells
ends v = record { goes = sym v.goes; same = v.same; lent = v.lent; wide = v.wide }

-- what the body itself writes
pub does : {W : Source → M} {s t : Parser} → done t.state t.nodes.now t.comments.now ≡ W (source s) s.state s.nodes.now s.comments.now → source t ≡ source s
    → t.nodes.ghost_name ≡ s.nodes.ghost_name → t.comments.ghost_name ≡ s.comments.ghost_name → Does W s t
unfolding tells
does e h l w = record { goes = e; same = h; lent = l; wide = w }

pub halts : {W : Source → M} {s t : Parser} {e : Raised} (st : State) (k : ErrorKind) → ((x y : List ℕ) → stop (number_of e.kind) e.loc t.state x y ≡ refused (number_of k) st x y)
    → Left (W (source s) s.state s.nodes.now s.comments.now) s (refused (number_of k) st t.nodes.now t.comments.now) t → Reads W s t (Err e)
unfolding tells
halts {t = t} st k h v = record { goes = h t.nodes.now t.comments.now ∙ sym v.goes; same = v.same; lent = v.lent; wide = v.wide }

-- ---- tests

module _ {Z : Out} {s t : Parser} (A B : Out) where
  pub when : (b r : Bool) → r ≡ b → r ≡ true → Left Z s (cond b A B) t → Left Z s A t
  when b r e h = so A (ap (λ (x : Bool). cond x A B) (sym e ∙ h))

  pub unless : (b r : Bool) → r ≡ b → r ≡ false → Left Z s (cond b A B) t → Left Z s B t
  unless b r e h = so B (ap (λ (x : Bool). cond x A B) (sym e ∙ h))

-- what a call that refuses nothing leaves
pub left_by : {m : Source → M} {s t : Parser} {st : State} {a b : List ℕ} → Does m s t → m (source s) s.state s.nodes.now s.comments.now ≡ done st a b → t.state ≡ st
unfolding tells
left_by {m} {s} {t} {st} {a} {b} w e = let h : done t.state t.nodes.now t.comments.now ≡ done st a b = w.goes ∙ e in cc

pub text_by : {m : Source → M} {s t : Parser} {r : Parsed} → Reads m s t r → t.text.now ≡ s.text.now
text_by w = ap (λ (x : Source). x.text) w.same

-- ---- a token that is taken if it is ahead: m is what follows

module _ {Z : Out} {s t u : Parser} {k : ℕ} {r : Bool} (w : Accepts k t u r) (A : Out) (m : M) where
  pub accepted : r ≡ true → Left Z s (cond (eqb (code_of t.state) k) (after (advance_in s.text.now t.state t.nodes.now t.comments.now) m) A) t
      → Left Z s (m u.state u.nodes.now u.comments.now) u
  unfolding after accept_in advance_in
  accepted h v = let e : eqb (code_of t.state) k ≡ true = sym w.was ∙ h in kept w.goes m (so _ (rw e) (when _ _ _ _ w.was h v))

  pub declined : r ≡ false → Left Z s (cond (eqb (code_of t.state) k) A (m t.state t.nodes.now t.comments.now)) t → Left Z s (m u.state u.nodes.now u.comments.now) u
  unfolding after accept_in
  declined h v = let e : eqb (code_of t.state) k ≡ false = sym w.was ∙ h in kept w.goes m (so _ (rw e) (unless _ _ _ _ w.was h v))
