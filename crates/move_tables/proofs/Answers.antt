-- The moves' answers, case by case, as the code finds them.
use mathlib.Core.Path.{◌≡◌, sym, ap, ◌∙◌}
use Rattle.std.specs.Prelude.{Option, Some, None}
use Rattle.std.proofs.Math.Bool.{and-false}
use mathlib.Core.Bool.{Bool, true, false, cond}
use mathlib.Core.Logic.{◌⊎◌, inl, inr}
use mathlib.Core.List.{List, [], ◌∷◌}
use Prim.Native.Nat.{ℕ, ◌*◌, ◌/◌, ◌%◌, ◌≤◌, ◌<◌}
use native.Mathlib.Omega.{arith}
use native.Mathlib.Nat.{div-add-mod'}
use borrow.Author.Tests.{eq-eqb, ne_eqb, lt-ltb, le-leb, lt-leb}
use lib.Dec.{eqb}
use lib.ListN.{length}
use Rattle.ast.specs.Lists.{All}
use Rattle.lexer.specs.Error.{NodesFull, NotMovable}
use Rattle.lexer.specs.Outcome.{Outcome, accepted, refused}
use Rattle.ast.specs.Column.{Parent}
use Rattle.ast.specs.Records.{comment_width, node_width, no_parent, room, chunks, concat, filled}
use Rattle.ast.proofs.Counts.{Wide, concat_width}
use Rattle.std.specs.Prelude.{Ok, Err}
use Rattle.lexer.specs.declared.error.Refusal.{Refusal}
use Rattle.lexer.specs.Refusal.{said_by}
use Rattle.move_tables.specs.Moves.{narrow_width, most_records, records, whole, bad_parent, bad_tenth, widened, narrowed, unless, first_bad_parent, widening, narrowing, into, widens, narrows, Moved, told}
use Rattle.move_tables.specs.Walk.{parents_from, walk, writes, unmovable, Good, Fine, Checks, Wholes, Placed, Lays}
use Rattle.move_tables.proofs.Lists.{whole_wide, whole_length, whole_few, chunks_count}
use Rattle.move_tables.proofs.Back.{widened_wide, narrowed_wide, widened_count, narrowed_count, written}
use Rattle.move_tables.proofs.Results.{parents_are, narrow_is, widen_is}

-- ---- a table's length and its parents

module _ (w : ℕ) (t : List ℕ) where
  uneven : (length t % w ≡ 0 → ⊥) → whole w t ≡ false
  unfolding whole room
  uneven d = let q = div-add-mod' (length t) w in rw (ne_eqb (length t / w * w) (length t) (λ e. d (omega (arith, q, e))))

  many : most_records < length t / w → whole w t ≡ false
  unfolding whole room
  many h = rw (lt-leb (length t / w) most_records h) (and-false (eqb (length t / w * w) (length t)))

  pub bad_length : (length t % w ≡ 0 → ⊥) ⊎ ((length t % w ≡ 0) × (most_records < length t / w)) → unmovable w t ≡ Some 0
  unfolding unmovable
  bad_length (inl d) = rw (uneven d)
  bad_length (inr h) = rw (many h.1)

  module _ (even : length t % w ≡ 0) (few : length t / w ≤ most_records) where
    is_whole : whole w t ≡ true
    unfolding whole room
    is_whole = let q = div-add-mod' (length t) w in rw (eq-eqb (length t / w * w) (length t) (omega (arith, q, even)), le-leb (length t / w) most_records few)

    module _ (h : Parent < w) {o : Option ℕ} (e : o ≡ bad_parent 0 (no_parent ∷ []) (parents_from w t (length t / w) 0)) where
      first_are : first_bad_parent (records w t) ≡ o
      unfolding first_bad_parent
      first_are = ap (bad_parent 0 (no_parent ∷ [])) (parents_are w t h) ∙ sym e

      pub bad_found : {b : ℕ} → o ≡ Some b → unmovable w t ≡ Some b
      unfolding unmovable
      bad_found d = rw is_whole (first_are ∙ d)

      pub fine : o ≡ None → Fine w t
      fine d = record {
        fits = is_whole;
        parents_good = first_are ∙ d;
        good = record { holds = record { wide = h; within = let q = whole_length w t is_whole in omega arith; few = few }; good = sym e ∙ d };
      }

  module _ {n : ℕ} (f : Fine w t) (e : n ≡ length t / w) where
    pub good_are : Good w t n
    good_are = rw e f.good

    pub wholes : {v : ℕ} → narrow_width ≤ w → narrow_width ≤ v → v ≤ node_width → Wholes t w v n
    wholes h k l = record { wide = h; wide' = k; short' = l; there = good_are.holds.within; few = good_are.holds.few }

module _ (t out : List ℕ) where
  -- a table that is not movable is refused before all else
  unless_unmovable : {b : ℕ} (x : Bool) (o : Option ℕ) (r : Outcome (List (List ℕ))) → cond x o (Some 0) ≡ Some b → into (refused NotMovable b 0) out ≡ into (cond x (unless o r) (refused NotMovable 0 0)) out
  unfolding unless
  unless_unmovable true o r e = rw e
  unless_unmovable false o r e = sym (ap (λ (u : Option ℕ). into (unless u r) out) e)

  short : (rs : List (List ℕ)) → length out < length (concat rs) → into (refused NodesFull 0 0) out ≡ into (accepted rs) out
  unfolding into
  short rs h = rw (lt-ltb (length out) (length (concat rs)) h)

  -- ---- from nine numbers to ten

  pub widen_unmovable : {b : ℕ} → unmovable narrow_width t ≡ Some b → into (refused NotMovable b 0) out ≡ widens t out
  unfolding widens widening unmovable
  widen_unmovable e = unless_unmovable (whole narrow_width t) (first_bad_parent (records narrow_width t)) (accepted (widened 0 (records narrow_width t))) e

  module _ (f : Fine narrow_width t) where
    widens_are : widens t out ≡ into (accepted (widened 0 (records narrow_width t))) out
    unfolding widens widening unless
    widens_are = rw (f.fits, f.parents_good)

    wide : All (Wide node_width) (widened 0 (records narrow_width t))
    wide = widened_wide 0 (whole_wide narrow_width t f.fits)

    count_is : length (widened 0 (records narrow_width t)) ≡ length t / narrow_width
    unfolding records room
    count_is = widened_count 0 (records narrow_width t) ∙ chunks_count narrow_width (length t / narrow_width) t

    size_is : length (concat (widened 0 (records narrow_width t))) ≡ length t / narrow_width * node_width
    size_is = concat_width wide ∙ rw count_is

    widen_short : length out < length t / narrow_width * node_width → into (refused NodesFull 0 0) out ≡ widens t out
    widen_short h = short (widened 0 (records narrow_width t)) (rw size_is h) ∙ sym widens_are

    widen_done : (mid after : List ℕ) → length t / narrow_width * node_width ≤ length out → Placed t narrow_width node_width (length t / narrow_width) out mid → after ≡ walk writes 0 (no_parent ∷ []) (parents_from narrow_width t (length t / narrow_width) 0) mid →
        told (Ok (length t / narrow_width)) after ≡ widens t out
    unfolding records room comment_width node_width said_by
    widen_done mid after h c a =
        let few = whole_few narrow_width t f.fits in
        let l = whole_length narrow_width t f.fits in
        let m = c.long in
        let g : after ≡ filled (widened 0 (records narrow_width t)) out = a ∙ widen_is t (length t / narrow_width) few (omega arith) mid (omega arith) out wide f.good c in
        sym (widens_are ∙ written (widened 0 (records narrow_width t)) out (rw size_is h) ∙ rw (count_is, sym g))

  -- so many records that may move, in a table; mid: the output, as it was
  module _ {n : ℕ} {mid : List ℕ} (p : Checks narrow_width t (Ok n) out mid) where
    pub widen_off : (r : Refusal) (u : List ℕ) → Lays t narrow_width node_width n (Err r) mid u → told (Err r) u ≡ widens t out
    widen_off r u l = l.1 ∙ ap (into (refused NodesFull 0 0)) p.2 ∙ widen_short p.1 (rw (p.0, p.2) at l.0)

    pub widen_on : {m : ℕ} (u after : List ℕ) → Lays t narrow_width node_width n (Ok m) mid u → after ≡ walk writes 0 (no_parent ∷ []) (parents_from narrow_width t n 0) u →
        told (Ok n) after ≡ widens t out
    widen_on u after l a = rw p.0 (widen_done p.1 u after (rw (p.0, p.2) at l.1) (rw (p.0, p.2) at l.2) (rw p.0 at a))

  -- ---- from ten to nine

  pub narrow_unmovable : {b : ℕ} → unmovable node_width t ≡ Some b → into (refused NotMovable b 0) out ≡ narrows t out
  unfolding narrows narrowing unmovable
  narrow_unmovable e = unless_unmovable (whole node_width t) (first_bad_parent (records node_width t)) (unless (bad_tenth 0 (records node_width t)) (accepted (narrowed (records node_width t)))) e

  module _ (f : Fine node_width t) {o : Option ℕ} (q : o ≡ bad_tenth 0 (chunks node_width (length t / node_width) t)) where
    tenth_is : bad_tenth 0 (records node_width t) ≡ o
    unfolding records room
    tenth_is = sym q

    narrow_tenth : {b : ℕ} → o ≡ Some b → into (refused NotMovable b 0) out ≡ narrows t out
    unfolding narrows narrowing unless
    narrow_tenth d = rw (f.fits, f.parents_good, tenth_is ∙ d)

    module _ (d : o ≡ None) where
      narrows_are : narrows t out ≡ into (accepted (narrowed (records node_width t))) out
      unfolding narrows narrowing unless
      narrows_are = rw (f.fits, f.parents_good, tenth_is ∙ d)

      thin : All (Wide narrow_width) (narrowed (records node_width t))
      thin = narrowed_wide (whole_wide node_width t f.fits)

      number_is : length (narrowed (records node_width t)) ≡ length t / node_width
      unfolding records room
      number_is = narrowed_count (records node_width t) ∙ chunks_count node_width (length t / node_width) t

      thin_is : length (concat (narrowed (records node_width t))) ≡ length t / node_width * narrow_width
      thin_is = concat_width thin ∙ rw number_is

      narrow_short : length out < length t / node_width * narrow_width → into (refused NodesFull 0 0) out ≡ narrows t out
      narrow_short h = short (narrowed (records node_width t)) (rw thin_is h) ∙ sym narrows_are

      narrow_done : (after : List ℕ) → length t / node_width * narrow_width ≤ length out → Placed t node_width narrow_width (length t / node_width) out after → told (Ok (length t / node_width)) after ≡ narrows t out
      unfolding records room said_by
      narrow_done after h c =
          let g : after ≡ filled (narrowed (records node_width t)) out = narrow_is t (length t / node_width) out after thin h c in
          sym (narrows_are ∙ written (narrowed (records node_width t)) out (rw thin_is h) ∙ rw (number_is, sym g))

  module _ {n : ℕ} {mid : List ℕ} (p : Checks node_width t (Ok n) out mid) {o : Option ℕ} (q : o ≡ bad_tenth 0 (chunks node_width n t)) where
    pub narrow_off : {b : ℕ} → o ≡ Some b → into (refused NotMovable b 0) mid ≡ narrows t out
    narrow_off {b} d = ap (into (refused NotMovable b 0)) p.2 ∙ narrow_tenth p.1 (rw p.0 at q) d

    pub narrow_on : o ≡ None → (r : Moved) (u : List ℕ) → Lays t node_width narrow_width n r mid u → told r u ≡ narrows t out
    narrow_on d (Err r) u l = l.1 ∙ ap (into (refused NodesFull 0 0)) p.2 ∙ narrow_short p.1 (rw p.0 at q) d (rw (p.0, p.2) at l.0)
    narrow_on d (Ok m) u l = rw (l.0, p.0) (narrow_done p.1 (rw p.0 at q) d u (rw (p.0, p.2) at l.1) (rw (p.0, p.2) at l.2))
