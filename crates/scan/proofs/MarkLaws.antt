-- The tokens of one byte.
use mathlib.Core.Path.{◌≡◌, ◌∙◌}
use mathlib.Core.Bool.{Bool, true, false, cond}
use mathlib.Core.List.{List, [], ◌∷◌}
use Prim.Native.Nat.{ℕ, ◌-◌, ◌<◌, ◌≤◌}
use borrow.Author.Tests.{le-ltb}
use lib.Dec.{T, ltb}
use lib.ListN.{length, get_or}
use Rattle.token.specs.Scan.{keep}
use Rattle.token.specs.Tables.{classes}
use Rattle.token.specs.Run.{class_of}
use Rattle.token.specs.Automaton.{
  State,
  start,
  dead,
  blanks,
  comment,
  signed,
  dot,
  signed_dot,
  slash,
  zero,
  whole,
  fraction,
  exponent_sign,
  exponent_digit,
  exponent_mark,
  hex_mark,
  hex_digits,
  named,
  name_dot,
  block,
  block_star,
  in_string,
  escaped,
  closed,
  kind_at,
  openings,
  whole_byte,
  opened,
  rules_at,
  longest,
  Reached,
}
use Rattle.std.specs.Prelude.{None}
use Rattle.token.proofs.Every.{every, at}
use Rattle.token.proofs.Reach.{dead_scan}
use Rattle.token.proofs.Classes.{classes_length}
use Rattle.token.proofs.Numbers.{elem}
use Rattle.scan.proofs.ScanLaws.{closed_done, first_other}

-- a state that no byte goes on from
ended : State → Bool
ended start = false
ended dead = true
ended blanks = false
ended comment = false
ended signed = false
ended dot = false
ended signed_dot = false
ended slash = false
ended zero = false
ended whole = false
ended fraction = false
ended exponent_sign = false
ended exponent_digit = false
ended exponent_mark = false
ended hex_mark = false
ended hex_digits = false
ended named = false
ended name_dot = false
ended block = false
ended block_star = false
ended (in_string q) = false
ended (escaped q) = false
ended (closed k) = true

ended_done : (t : List ℕ) (s : State) → T (ended s) → Reached t s 1 (keep (kind_at s) 1 None) → longest t ≡ whole_byte s
unfolding ended whole_byte keep kind_at rules_at
ended_done t start e r = absurd e
ended_done t dead e r = r.decides ∙ dead_scan 1 None _
ended_done t blanks e r = absurd e
ended_done t comment e r = absurd e
ended_done t signed e r = absurd e
ended_done t dot e r = absurd e
ended_done t signed_dot e r = absurd e
ended_done t slash e r = absurd e
ended_done t zero e r = absurd e
ended_done t whole e r = absurd e
ended_done t fraction e r = absurd e
ended_done t exponent_sign e r = absurd e
ended_done t exponent_digit e r = absurd e
ended_done t exponent_mark e r = absurd e
ended_done t hex_mark e r = absurd e
ended_done t hex_digits e r = absurd e
ended_done t named e r = absurd e
ended_done t name_dot e r = absurd e
ended_done t block e r = absurd e
ended_done t block_star e r = absurd e
ended_done t (in_string q) e r = absurd e
ended_done t (escaped q) e r = absurd e
ended_done t (closed k) e r = closed_done r

-- the classes of bytes that start a longer token
abbrev pub starters : List ℕ
starters = 59 ∷ 41 ∷ 43 ∷ 44 ∷ 38 ∷ 45 ∷ 36 ∷ []

single : ℕ → ℕ → Bool
single k x = cond (ltb k 36) true (cond (elem k starters) true (ended (get_or openings (k - 36) dead)))

single_test : T (every single 0 classes)
unfolding single ended openings classes
single_test = tt

pub mark_done : {t : List ℕ} → Reached t start 0 None → 0 < length t → (k : ℕ) → k ≡ class_of (get_or t 0 0) → 36 ≤ k → k < 256 → elem k starters ≡ false → longest t ≡ opened k
unfolding opened single
mark_done {t} r h k e l b n =
    let x : T (ended (get_or openings (k - 36) dead)) = rw (le-ltb k 36 l, n) at (at single classes 0 single_test k (rw classes_length b)) in
    ended_done t (get_or openings (k - 36) dead) x (rw (← e) at (first_other r h (rw e at l)))
