-- Laws of records by their numbers, in tables of any width.
--     row_number, row_next, row_held   a row that a table has from record n on: its numbers, what follows it, that it is held whole
--     held, not_held                   whether a table holds a record
--     filled_long                      a table that has room for rows is as long when filled with them
--     cleared_twice                    a table of zeros stays one
--     starts                           where a record starts fits
--     own_in                           a number that each record has
--     held_some, held_none, held_or    a number of a record that the code reads, and none behind the last record
--     decoded, kind_held, kind_past    a record's kind by its number
--     none_left, past_end, one_more    what an iterator over siblings has left
use mathlib.Core.Path.{◌≡◌, refl, sym, ap, ◌∙◌}
use mathlib.Core.Bool.{Bool, true, false, cond}
use mathlib.Core.List.{List, [], ◌∷◌, ◌++◌}
use Prim.Native.Nat.{ℕ, zero, suc, ◌+◌, ◌*◌, ◌-◌, ◌/◌, ◌^◌, ◌≤◌, ◌<◌}
use native.Mathlib.Nat.{le-div_iff_mul-le, div-lt_iff_lt-mul, mul-le-mul_left}
use native.Mathlib.Omega.{arith}
use borrow.Author.Tests.{lt-ltb, le-ltb, lt-leb, ltb-false}
use lib.Dec.{ltb}
use lib.ListN.{length, drop, get_or, replicate, length-append, length-drop, length-replicate, get_or-append}
use lib.Seq.{drop-drop, get_or-drop, drop_at}
use Rattle.ast.specs.Lists.{All}
use Rattle.ast.specs.Records.{node_width, room, concat, filled, cleared}
use Rattle.ast.proofs.Counts.{Wide, concat_width, filled_length}
use Rattle.records.specs.Table.{number_at, own_at, held_at, kind_at, past_at, siblings_from}
use Rattle.std.specs.Prelude.{Some, None, Result, Ok, Err, slice_range, unwrap_or}
use Rattle.std.specs.Result.{result_ok}
use Rattle.std.proofs.lemmas.List.{get_or-take}
use Rattle.ast.specs.KindNumber.{kind_of, Decodes}
use Rattle.ast.specs.declared.kind.Kind.{Kind}
use Rattle.ast.specs.declared.kind.UnknownKind.{UnknownKind}
use Rattle.ast.proofs.KindLaws.{kind_none}

-- a row from record n on, and what follows it
module _ {w : ℕ} (t : List ℕ) (n : ℕ) (x y : List ℕ) (h : Wide w x) (e : drop (n * w) t ≡ x ++ y) where
  pub row_number : (i : ℕ) → i < w → number_at w t n i ≡ get_or x i 0
  unfolding number_at
  row_number i l = sym (get_or-drop (n * w) t i 0) ∙ ap (λ (z : List ℕ). get_or z i 0) e ∙ get_or-append x y 0 i (omega arith)

  pub row_next : drop (suc n * w) t ≡ y
  row_next = let q : suc n * w ≡ n * w + w = omega arith in rw q (sym (drop-drop w (n * w) t) ∙ ap (drop w) e ∙ drop_at x y w h)

  pub row_held : 0 < w → n * w + w ≤ length t
  row_held l = let q : length (drop (n * w) t) ≡ w + length y = ap length e ∙ length-append x y ∙ ap (λ (z : ℕ). z + length y) h in omega (arith, length-drop (n * w) t)

-- whether a table holds record r
module _ {w : ℕ} (t : List ℕ) (r : ℕ) (h : 0 < w) where
  pub held : r * w + w ≤ length t → ltb r (room w t) ≡ true
  unfolding room
  held l = let g : suc r ≤ length t / w = (le-div_iff_mul-le {k = w} {x = suc r} {y = length t} h).1 (omega arith) in lt-ltb r (length t / w) (omega arith)

  pub not_held : length t < r * w + w → ltb r (room w t) ≡ false
  unfolding room
  not_held l = let g : length t / w < suc r = (div-lt_iff_lt-mul {k = w} {x = length t} {y = suc r} h).1 (omega arith) in le-ltb r (length t / w) (omega arith)

-- where a record starts, no record being wider than a node's
pub starts : (w r : ℕ) → w ≤ node_width → r < 2 ^ 32 → r * w + w < 2 ^ 63
unfolding node_width
starts w r h l = omega (arith, mul-le-mul_left r h)

module _ (w : ℕ) (t : List ℕ) (r k : ℕ) (h : k < w) where
  pub held_some : r * w + w ≤ length t → Some (get_or (slice_range t (r * w) (r * w + w)) k 0) ≡ held_at w t r k
  unfolding held_at number_at
  held_some l = rw (held t r (omega arith) l, get_or-take (r * w + w - r * w) (drop (r * w) t) k 0 (omega arith), get_or-drop (r * w) t k 0)

  pub in_range : get_or (slice_range t (r * w) (r * w + w)) k 0 ≡ number_at w t r k
  unfolding number_at
  in_range = get_or-take (r * w + w - r * w) (drop (r * w) t) k 0 (omega arith) ∙ get_or-drop (r * w) t k 0

  pub held_none : length t < r * w + w → None ≡ held_at w t r k
  unfolding held_at
  held_none l = rw (not_held t r (omega arith) l)

  pub held_or : (d : ℕ) → unwrap_or (held_at w t r k) d ≡ cond (ltb r (room w t)) (number_at w t r k) d
  unfolding held_at
  held_or d = go (ltb r (room w t))
    where
      go : (b : Bool) → unwrap_or (cond b (Some (number_at w t r k)) None) d ≡ cond b (number_at w t r k) d
      go true = refl
      go false = refl

  pub own_in : own_at w t r k ≡ number_at w t r k
  unfolding own_at
  own_in = rw (lt-leb w k h)

-- the kind of a record
pub decoded : (n : ℕ) (r : Result Kind UnknownKind) → Decodes n r → result_ok r ≡ kind_of n
decoded n (Ok k) h = sym h
decoded n (Err e) h = sym h.0

module _ (t : List ℕ) (r : ℕ) where
  pub kind_held : (k : ℕ) → Some k ≡ held_at node_width t r 0 → kind_of k ≡ kind_of (kind_at t (room node_width t) r)
  unfolding held_at kind_at
  kind_held k e = ap kind_of (go (ltb r (room node_width t)) e)
    where
      go : (b : Bool) → Some k ≡ cond b (Some (number_at node_width t r 0)) None → k ≡ cond b (number_at node_width t r 0) 0
      go true e = cc
      go false e = absurd cc

  pub kind_past : None ≡ held_at node_width t r 0 → None ≡ kind_of (kind_at t (room node_width t) r)
  unfolding held_at kind_at
  kind_past e = go (ltb r (room node_width t)) e
    where
      go : (b : Bool) → None ≡ cond b (Some (number_at node_width t r 0)) None → None ≡ kind_of (cond b (number_at node_width t r 0) 0)
      go true e = absurd cc
      go false e = sym (kind_none 0 (λ h. absurd (omega arith)))

-- rows that a table has room for
module _ {w : ℕ} (some : 0 < w) {rs : List (List ℕ)} (wide : All (Wide w) rs) (t : List ℕ) (e : ltb (room w t) (length rs) ≡ false) where
  pub filled_room : length (concat rs) ≤ length t
  unfolding room
  filled_room = rw (concat_width wide) ((le-div_iff_mul-le {k = w} {x = length rs} {y = length t} some).0 (ltb-false (length t / w) (length rs) e))

  pub filled_long : length (filled rs t) ≡ length t
  filled_long = filled_length rs t filled_room

pub cleared_twice : (t : List ℕ) → cleared (cleared t) ≡ cleared t
unfolding cleared
cleared_twice t = ap (λ (n : ℕ). replicate n 0) (length-replicate {A = ℕ} (length t) 0)

-- siblings
module _ (m : ℕ) (t : List ℕ) (end n : ℕ) where
  pub none_left : m ≡ 0 → siblings_from m t end n ≡ []
  unfolding siblings_from
  none_left h = rw h

  pub past_end : end ≤ n → siblings_from m t end n ≡ []
  unfolding siblings_from
  past_end h = go m
    where
      go : (m : ℕ) → siblings_from m t end n ≡ []
      go zero = refl
      go (suc m) = rw (le-ltb n end h)

  pub one_more : 0 < m → n < end → siblings_from m t end n ≡ n ∷ siblings_from (m - 1) t end (past_at t n)
  unfolding siblings_from
  one_more h l = go m h
    where
      go : (m : ℕ) → 0 < m → siblings_from m t end n ≡ n ∷ siblings_from (m - 1) t end (past_at t n)
      go zero h = absurd (omega arith)
      go (suc m) h = let e : suc m - 1 ≡ m = omega arith in rw (lt-ltb n end l, e)

-- what each function needs
pub ruleset holds = (starts, held_some, held_none)

pub ruleset own = (own_in)

pub ruleset parts = (starts, in_range, own_in)

pub ruleset kinds = (decoded, kind_held, kind_past)

pub ruleset lefts = (none_left, past_end, one_more)
