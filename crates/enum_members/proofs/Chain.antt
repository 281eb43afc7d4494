-- A loop over records, turn by turn: Z is what the whole loop makes.
--     turn_on, turn_off   a record whose step leads on, or off
--     walked              none left
use mathlib.Core.Path.{◌≡◌, sym, ap, ◌∙◌}
use mathlib.Core.List.{List, [], ◌∷◌}
use Prim.Native.Nat.{ℕ}
use Rattle.std.specs.Prelude.{Ok, Err}
use Rattle.records.specs.Each.{Step, each_in}
use Rattle.records.specs.declared.Part.{Part}
use Rattle.records.proofs.EachLaws.{walk_off, walk_on}
use Rattle.enum_members.specs.declared.Walker.{Walker}
use Rattle.enum_members.specs.Walk.{State, Stop, at, W}
use Rattle.enum_members.specs.Walks.{Source, source, M, Walks}

-- X is what is left to make, from the walker t, and s is the walker that the loop began with
pub record Left (Z : Step State Stop) (s : Walker) (X : Step State Stop) (t : Walker) : Type 0 where
  pub goes : Z ≡ X
  pub same : source t ≡ source s
  pub lent : t.list.ghost_name ≡ s.list.ghost_name

-- f is the step, and is the records left
module _ (f : Source → ℕ → W) {s t : Walker} {is : List ℕ} where
  module _ {n : ℕ} {ns : List ℕ} {u : Walker} (e : is ≡ n ∷ ns) where
    pub turn_on : {Z : Step State Stop} {o : Unit {0}} → Left Z s (each_in (f (source s)) is (at t.at t.list.now)) t → Walks (λ x w l. f x n (at w l)) (Ok o) t u → Left Z s (each_in (f (source s)) ns (at u.at u.list.now)) u
    turn_on {Z} v w = record {
      goes = walk_on (f (source s)) Z n ns (at t.at t.list.now) (rw e at v.goes) (at u.at u.list.now) (w.goes ∙ ap (λ (x : Source). f x n (at t.at t.list.now)) v.same);
      same = w.same ∙ v.same;
      lent = w.lent ∙ v.lent;
    }

    pub turn_off : {m : M} {p : Part} → Left (m (source s) s.at s.list.now) s (each_in (f (source s)) is (at t.at t.list.now)) t → Walks (λ x w l. f x n (at w l)) (Err p) t u → Walks m (Err p) s u
    turn_off {m} v w = record {
      goes = walk_off (f (source s)) (m (source s) s.at s.list.now) n ns (at t.at t.list.now) (rw e at v.goes) _ (w.goes ∙ ap (λ (x : Source). f x n (at t.at t.list.now)) v.same);
      same = w.same ∙ v.same;
      lent = w.lent ∙ v.lent;
    }

  pub walked : {m : M} {o : Unit {0}} → is ≡ [] → Left (m (source s) s.at s.list.now) s (each_in (f (source s)) is (at t.at t.list.now)) t → Walks m (Ok o) s t
  unfolding each_in
  walked e v = record { goes = sym (rw e at v.goes); same = v.same; lent = v.lent }
