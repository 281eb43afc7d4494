-- Each departure's smallest text: it is one, none is shorter, and what a scan finds at it.
use mathlib.Core.Path.{◌≡◌, refl}
use mathlib.Core.Logic.{◌⊎◌, inl, inr}
use mathlib.Core.List.{List, [], ◌∷◌, ◌++◌}
use Prim.Native.Nat.{ℕ, ◌≤◌}
use Prim.Native.String.{String}
use native.Mathlib.Omega.{arith}
use lib.ListN.{length, length-append}
use Rattle.token.specs.Regex.{bytes, within}
use Rattle.token.specs.Patterns.{words, rules}
use Rattle.token.specs.Scan.{first, keep, scan_from, scan}
use Rattle.token.specs.Automaton.{rules_at}
use Rattle.token.specs.Match.{stop, In}
use Rattle.token.specs.declared.Token.TheVariants as T
use Rattle.token.specs.Scanned.{Scan}
use Rattle.std.specs.Prelude.{Some, None}
use Rattle.constants.specs.Constants.{
  Digit,
  none,
  Number,
  some,
  Sign,
  unsigned,
  plus,
  minus,
  IntConstant,
  int,
  lower,
  plain,
  Shared,
  fraction,
  scaled,
  BareDot,
  bare,
  LoneExponent,
  lone,
  hex_pattern,
}
use Rattle.constants.proofs.Parts.{hex_is, hex_length}

-- `rules_at` unfolds all that the patterns are made of
unfoldable pub on : String → Scan
unfolding rules_at words rules first keep scan_from scan
on s = scan (bytes s)

zero : Digit 48
zero = record { low = omega arith; high = omega arith }

naught : Number (48 ∷ [])
naught = some zero none

number_length : {d : List ℕ} → Number d → 1 ≤ length d
number_length (some h hs) = omega arith

int_length : {w : List ℕ} → IntConstant w → 1 ≤ length w
int_length (int {s = s} {d = d} g n) = omega (arith, length-append s d, number_length n)

-- ---- a dot with no digit behind it: only rico

pub bare_text : BareDot (bytes "0.")
unfolding bytes
bare_text = bare unsigned naught plain

pub bare_least : {w : List ℕ} → BareDot w → 2 ≤ length w
bare_least (bare {s = s} {d = d} {e = e} g n x) = omega (arith, length-append s (d ++ 46 ∷ e), length-append d (46 ∷ e), number_length n)

pub bare_scan : on "0." ≡ Some (T.DoubleLiteral, 2)
unfolding on
bare_scan = refl

-- ---- an exponent alone: only the IDL. Without a sign it is rico's Identifier, with one it is no token

pub lone_text : LoneExponent (bytes "e0")
unfolding bytes
lone_text = lone unsigned lower (int unsigned naught)

pub lone_least : {w : List ℕ} → LoneExponent w → 2 ≤ length w
lone_least (lone {s = s} {i = i} {c = c} g l n) = omega (arith, length-append s (c ∷ i), int_length n)

pub lone_scan : on "e0" ≡ Some (T.Identifier, 2)
unfolding on
lone_scan = refl

pub lone_signed : LoneExponent (bytes "+e0")
unfolding bytes
lone_signed = lone plus lower (int unsigned naught)

pub lone_signed_scan : on "+e0" ≡ None
unfolding on
lone_signed_scan = refl

-- ---- the empty string, and a lone sign: only the IDL. There is no other

pub empty_text : Sign (bytes "")
unfolding bytes
empty_text = unsigned

pub plus_text : Sign (bytes "+")
unfolding bytes
plus_text = plus

pub minus_text : Sign (bytes "-")
unfolding bytes
minus_text = minus

pub sign_texts : {w : List ℕ} → Sign w → (w ≡ bytes "") ⊎ ((w ≡ bytes "+") ⊎ (w ≡ bytes "-"))
unfolding bytes
sign_texts unsigned = inl refl
sign_texts plus = inr (inl refl)
sign_texts minus = inr (inr refl)

pub empty_scan : on "" ≡ None
unfolding on
empty_scan = refl

pub plus_scan : on "+" ≡ None
unfolding on
plus_scan = refl

pub minus_scan : on "-" ≡ None
unfolding on
minus_scan = refl

-- ---- an IntConstant as a DoubleConstant: rico's IntegerLiteral

pub int_text : IntConstant (bytes "0")
unfolding bytes
int_text = int unsigned naught

pub int_least : {w : List ℕ} → IntConstant w → 1 ≤ length w
int_least = int_length

pub int_scan : on "0" ≡ Some (T.IntegerLiteral, 1)
unfolding on
int_scan = refl

-- ---- hexadecimal: no IDL constant

pub hex_text : In hex_pattern (bytes "0x0")
unfolding bytes within
hex_text = rw hex_is (48 ∷ [], 120 ∷ 48 ∷ [], refl, (48, refl, refl), (120 ∷ [], 48 ∷ [], refl, (120, refl, refl), (48 ∷ [], [], refl, (48, refl, refl), stop refl)))

pub hex_least : (w : List ℕ) → In hex_pattern w → 3 ≤ length w
hex_least w m = hex_length w (rw hex_is at m)

pub hex_scan : on "0x0" ≡ Some (T.HexLiteral, 3)
unfolding on
hex_scan = refl

-- ---- and what both take

pub shared_text : Shared (bytes ".0")
unfolding bytes
shared_text = fraction unsigned none naught plain

pub shared_least : {w : List ℕ} → Shared w → 2 ≤ length w
shared_least (fraction {s = s} {d = d} {f = f} {e = e} g ds n x) =
    omega (arith, length-append s (d ++ (46 ∷ f ++ e)), length-append d (46 ∷ f ++ e), length-append f e, number_length n)
shared_least (scaled {s = s} {d = d} {i = i} {c = c} g n l k) = omega (arith, length-append s (d ++ c ∷ i), length-append d (c ∷ i), number_length n)

pub shared_scan : on ".0" ≡ Some (T.DoubleLiteral, 2)
unfolding on
shared_scan = refl
