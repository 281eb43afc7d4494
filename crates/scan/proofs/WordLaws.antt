-- Identifiers and keywords: where a word ends, and the number of its bytes on the way there.
--     named_end     the match of a text in which a scan stands within a word is a word that goes as far at least
--     number_on     the number behind one byte more
--     word_cut      a word may be cut behind each of its bytes: the number says all of those before
--     word_ends     a word that ends here
--     name_word     where no keyword begins with the bytes so far
--     word_dot      a word that goes on behind a dot
--     word_scan     from its start on it is what is scanned
use mathlib.Core.Path.{◌≡◌, refl, sym, ap, ◌∙◌}
use mathlib.Core.Logic.{⊎_elim}
use mathlib.Core.Bool.{Bool, true, false, cond, ◌&&◌}
use mathlib.Core.List.{List, [], ◌∷◌, ◌++◌}
use Prim.Native.Nat.{ℕ, zero, suc, ◌+◌, ◌<◌, ◌≤◌}
use native.Mathlib.Numerals.{add-one}
use native.Mathlib.Omega.{arith}
use lib.Dec.{eqb, ltb, leb}
use lib.ListN.{length, get_or, take, drop, take-append-drop}
use lib.Seq.{slice, slice_empty, take-suc, take-take, drop-append-le, length-take-le}
use Rattle.token.specs.Scan.{scan, keep}
use Rattle.token.specs.Run.{class_of}
use Rattle.token.specs.Automaton.{State, named, name_dot, dead, step as move, kind_at, longest, Reached}
use Rattle.token.specs.WordNumber.{start, no_keyword, numbers, step_by, step, number_from, number, kind_of, word_from}
use Rattle.token.specs.declared.Token.{Token}
use Rattle.token.specs.declared.Token.TheVariants as T
use Rattle.token.specs.Scanned.{Scan}
use Rattle.std.specs.Prelude.{Some}
use Rattle.token.proofs.Numbers.{lt_or_le}
use Rattle.token.proofs.Reach.{reach_step, reach_end}
use Rattle.token.proofs.Words.{scan_word}
use Rattle.token.proofs.WordNumber.{kind_told, step_none, step_sign, from_append, from_none}

-- ---- where a word ends

-- the states of a scan from the first letter of a word on
data Within : State → Type 0 where
  in_name : Within named
  in_dot : Within name_dot
  in_dead : Within dead

within_move : (s : State) (k : ℕ) → Within s → Within (move s k)
unfolding move
within_move s k in_name = go (ltb k 36) (eqb k 36)
  where
    go : (a b : Bool) → Within (cond a named (cond b name_dot dead))
    go true b = in_name
    go false true = in_dot
    go false false = in_dead
within_move s k in_dot = go (leb 8 k && ltb k 36)
  where
    go : (a : Bool) → Within (cond a named dead)
    go true = in_name
    go false = in_dead
within_move s k in_dead = in_dead

within_keep : (s : State) (i j : ℕ) → Within s → j ≤ i → (e : ℕ) × (keep (kind_at s) i (Some (T.Identifier, j)) ≡ Some (T.Identifier, e)) × (j ≤ e) × (e ≤ i)
unfolding keep kind_at
within_keep s i j in_name h = (i, refl, h, omega arith)
within_keep s i j in_dot h = (j, refl, omega arith, h)
within_keep s i j in_dead h = (j, refl, omega arith, h)

Ends : List ℕ → ℕ → Type 0
Ends t i = (e : ℕ) × (longest t ≡ Some (T.Identifier, e)) × (i ≤ e)

ends_from : (n : ℕ) {t : List ℕ} {s : State} {i j : ℕ} → length t ≤ i + n → Within s → j ≤ i → Reached t s i (Some (T.Identifier, j)) → Ends t j
unfolding Ends
ends_from zero {j = j} l w h r = (j, reach_end r (omega arith), omega arith)
ends_from (suc n) {t} {s} {i} {j} l w h r =
    ⊎_elim
    (λ a.
    let k = within_keep (move s (class_of (get_or t i 0))) (i + 1) j (within_move s (class_of (get_or t i 0)) w) (omega arith) in
    let m = ends_from n {t = t} {s = move s (class_of (get_or t i 0))} {i = i + 1} {j = k.0} (omega arith) (within_move s (class_of (get_or t i 0)) w) k.3 (rw k.1 at (reach_step r (class_of (get_or t i 0)) a refl)) in
    (m.0, m.1, omega (arith, m.2, k.2)))
    (λ a. (j, reach_end r a, omega arith))
    (lt_or_le i (length t))

pub named_end : {t : List ℕ} {i : ℕ} → Reached t named i (Some (T.Identifier, i)) → (e : ℕ) × (longest t ≡ Some (T.Identifier, e)) × (i ≤ e)
unfolding Ends
named_end {t} {i} r = ends_from (length t) {t = t} {s = named} {i = i} {j = i} (omega arith) in_name (omega arith) r

-- ---- the number on the way

slice_split : (i j e : ℕ) (t : List ℕ) → i ≤ j → j ≤ e → j ≤ length t → slice i e t ≡ slice i j t ++ slice j e t
slice_split i j e t h k l =
    ap (drop i) (sym (take-append-drop j (take e t)))
    ∙ ap (λ (u : List ℕ). drop i (u ++ drop j (take e t))) (take-take j e t k)
    ∙ drop-append-le i (take j t) (drop j (take e t)) (rw (length-take-le j t l) h)

slice_snoc : (i j : ℕ) (t : List ℕ) → i ≤ j → j < length t → slice i (j + 1) t ≡ slice i j t ++ (get_or t j 0 ∷ [])
slice_snoc i j t h l =
    ap (drop i) (rw add-one (take-suc t j 0 l)) ∙ drop-append-le i (take j t) (get_or t j 0 ∷ []) (rw (length-take-le j t (omega arith)) h)

pub number_none : (t : List ℕ) (n at : ℕ) → n ≡ number_from n (slice at at t)
unfolding number_from
number_none t n at = sym (ap (number_from n) (slice_empty at t))

pub number_on : (t : List ℕ) (n at i m : ℕ) → m ≡ number_from n (slice at i t) → at ≤ i → i < length t
    → (r : ℕ) → r ≡ step_by m (class_of (get_or t i 0)) → r ≡ number_from n (slice at (i + 1) t)
unfolding number_from step
number_on t n at i m e h l r f =
    f ∙ ap (λ (x : ℕ). step_by x (class_of (get_or t i 0))) e ∙ sym (from_append n (slice at i t) (get_or t i 0 ∷ [])) ∙ ap (number_from n) (sym (slice_snoc at i t h l))

pub word_cut : (t : List ℕ) (n at i m : ℕ) → Reached t named i (Some (T.Identifier, i)) → at ≤ i → m ≡ number_from n (slice at i t)
    → (r : Scan) → r ≡ word_from m i t (longest t) → r ≡ word_from n at t (longest t)
unfolding word_from
word_cut t n at i m s h f r e =
    let d = named_end s in
    e ∙ ap (word_from m i t) d.1
    ∙ ap (λ (x : ℕ). Some (kind_of x, d.0))
    (ap (λ (x : ℕ). number_from x (slice i d.0 t)) f ∙ sym (from_append n (slice at i t) (slice i d.0 t)) ∙ ap (number_from n) (sym (slice_split at i d.0 t h d.2 s.inside)))
    ∙ ap (word_from n at t) (sym d.1)

pub word_ends : (t : List ℕ) (n i : ℕ) → longest t ≡ Some (T.Identifier, i) → (k : Token) → k ≡ kind_of n → Some (k, i) ≡ word_from n i t (longest t)
unfolding word_from number_from
word_ends t n i e k f =
    ap (λ (q : Token). Some (q, i)) (f ∙ ap (λ (u : List ℕ). kind_of (number_from n u)) (sym (slice_empty i t))) ∙ ap (word_from n i t) (sym e)

pub name_word : (t : List ℕ) (at e : ℕ) → longest t ≡ Some (T.Identifier, e) → (k : Token) → k ≡ kind_of no_keyword → Some (k, e) ≡ word_from no_keyword at t (longest t)
unfolding word_from
name_word t at e g k f = ap (λ (q : Token). Some (q, e)) (f ∙ ap kind_of (sym (from_none (slice at e t)))) ∙ ap (word_from no_keyword at t) (sym g)

-- behind a dot no keyword goes on
pub word_dot : (t : List ℕ) (n i : ℕ) → Reached t named (i + 2) (Some (T.Identifier, i + 2)) → n < numbers → i + 1 < length t → 36 ≤ class_of (get_or t i 0)
    → (r : Scan) → r ≡ word_from no_keyword (i + 2) t (longest t) → r ≡ word_from n i t (longest t)
unfolding number_from step
word_dot t n i s b l k r e =
    let one = number_on t n i i n (number_none t n i) (omega arith) (omega arith) no_keyword (sym (step_sign n (get_or t i 0) b k)) in
    let two = number_on t n i (i + 1) no_keyword one (omega arith) l no_keyword (sym (step_none (get_or t (i + 1) 0))) in
    let f : i + 1 + 1 ≡ i + 2 = omega arith in
    word_cut t n i (i + 2) no_keyword s (omega arith) (rw f at two) r e

pub word_scan : (t : List ℕ) (i : ℕ) → Reached t named i (Some (T.Identifier, i)) → (r : Scan) → r ≡ word_from start 0 t (longest t) → r ≡ scan t
unfolding word_from number
word_scan t i s r e =
    let d = named_end s in
    e ∙ ap (word_from start 0 t) d.1 ∙ ap (λ (q : Token). Some (q, d.0)) (kind_told (take d.0 t)) ∙ sym (scan_word t d.0 d.1)
