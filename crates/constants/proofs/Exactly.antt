-- The IDL's number constants and rico's number tokens, both ways.
--     int_exactly        [32] IntConstant is exactly the pattern of IntegerLiteral
--     idl_double         [33] DoubleConstant is what both take, an IntConstant, a lone exponent, or a lone sign or nothing
--     rico_double        the pattern of DoubleLiteral is what both take, or a dot with no digit behind it
--     both_double, only_idl, only_rico    which texts both take, and which only the one
--     numbers_both, numbers_only_idl, numbers_only_rico     the same of all numbers, whichever of the two kinds
--     hex_no_constant    hexadecimal is no IDL constant
use mathlib.Core.Path.{◌≡◌}
use mathlib.Core.Logic.{◌⊎◌, inl, inr, ⊎_elim, ◌↔◌}
use mathlib.Core.List.{List, [], ◌++◌, append-nil}
use Prim.Native.Nat.{ℕ}
use native.Mathlib.Omega.{arith}
use Rattle.token.specs.Match.{In}
use Rattle.constants.specs.Constants.{
  none,
  more,
  some,
  Sign,
  IntConstant,
  int,
  whole,
  point,
  plain,
  power,
  DoubleConstant,
  double,
  Shared,
  fraction,
  scaled,
  BareDot,
  LoneExponent,
  lone,
  integer_pattern,
  double_pattern,
  hex_pattern,
}
use Rattle.constants.proofs.Shapes.{other, shape, shape_sign, shape_int, shape_lone, shape_bare, shape_shared, shape_hex}
use Rattle.constants.proofs.Parts.{integer_is, double_is, integer_of, integer_in, double_of, shared_in, bare_in, hex_of}

-- ---- [32]

pub int_exactly : (w : List ℕ) → IntConstant w ↔ In integer_pattern w
int_exactly w = rw integer_is (integer_in, integer_of w)

-- ---- [33]

-- what only the IDL takes for a double
abbrev pub OnlyIdl : List ℕ → Type 0
OnlyIdl w = IntConstant w ⊎ (LoneExponent w ⊎ Sign w)

sign_nil : {s : List ℕ} → Sign s → Sign (s ++ [])
sign_nil {s} h = rw (append-nil s) h

parts_of : {w : List ℕ} → DoubleConstant w → Shared w ⊎ OnlyIdl w
parts_of (double g none whole plain) = inr (inr (inr (sign_nil g)))
parts_of (double g none whole (power l i)) = inr (inr (inl (lone g l i)))
parts_of (double {d = d} g (more h hs) whole plain) = rw (append-nil d) (inr (inl (int g (some h hs))))
parts_of (double g (more h hs) whole (power l i)) = inl (scaled g (some h hs) l i)
parts_of (double g ds (point n) e) = inl (fraction g ds n e)

shared_double : {w : List ℕ} → Shared w → DoubleConstant w
shared_double (fraction g ds n e) = double g ds (point n) e
shared_double (scaled g (some h hs) l i) = double g (more h hs) whole (power l i)

pub int_double : {w : List ℕ} → IntConstant w → DoubleConstant w
int_double (int {d = d} g (some h hs)) = rw (append-nil d) at (double g (more h hs) whole plain)

lone_double : {w : List ℕ} → LoneExponent w → DoubleConstant w
lone_double (lone g l i) = double g none whole (power l i)

sign_double : {w : List ℕ} → Sign w → DoubleConstant w
sign_double {w} g = rw (append-nil w) at (double g none whole plain)

only_double : {w : List ℕ} → OnlyIdl w → DoubleConstant w
only_double (inl h) = int_double h
only_double (inr (inl h)) = lone_double h
only_double (inr (inr h)) = sign_double h

pub idl_double : (w : List ℕ) → DoubleConstant w ↔ (Shared w ⊎ OnlyIdl w)
idl_double w = (parts_of, ⊎_elim shared_double only_double)

pub rico_double : (w : List ℕ) → In double_pattern w ↔ (Shared w ⊎ BareDot w)
rico_double w = rw double_is (double_of w, ⊎_elim shared_in bare_in)

-- ---- no two of the shapes are one

shared_bare : {w : List ℕ} → Shared w → BareDot w → ⊥
shared_bare h g = let z : ◌≡◌ {A = ℕ} 0 1 = cc (shape_shared h, shape_bare g) in omega arith

shared_only : {w : List ℕ} → Shared w → OnlyIdl w → ⊥
shared_only h (inl g) = let z : ◌≡◌ {A = ℕ} 0 1 = cc (shape_shared h, shape_int g) in omega arith
shared_only h (inr (inl g)) = let z : ◌≡◌ {A = ℕ} 0 1 = cc (shape_shared h, shape_lone g) in omega arith
shared_only h (inr (inr g)) = let z : ◌≡◌ {A = ℕ} 0 1 = cc (shape_shared h, shape_sign g) in omega arith

bare_only : {w : List ℕ} → BareDot w → OnlyIdl w → ⊥
bare_only h (inl g) = let z : ◌≡◌ {A = ℕ} 0 1 = cc (shape_bare h, shape_int g) in omega arith
bare_only h (inr (inl g)) = let z : ◌≡◌ {A = ℕ} 0 1 = cc (shape_bare h, shape_lone g) in omega arith
bare_only h (inr (inr g)) = let z : ◌≡◌ {A = ℕ} 0 1 = cc (shape_bare h, shape_sign g) in omega arith

int_lone : {w : List ℕ} → IntConstant w → LoneExponent w ⊎ Sign w → ⊥
int_lone h (inl g) = let z : ◌≡◌ {A = ℕ} 0 1 = cc (shape_int h, shape_lone g) in omega arith
int_lone h (inr g) = let z : ◌≡◌ {A = ℕ} 0 1 = cc (shape_int h, shape_sign g) in omega arith

-- ---- which texts both take for a double, and which only the one

only_no_rico : (w : List ℕ) → OnlyIdl w → In double_pattern w → ⊥
only_no_rico w h m = ⊎_elim (λ g. shared_only g h) (λ g. bare_only g h) ((rico_double w).0 m)

bare_no_idl : (w : List ℕ) → BareDot w → DoubleConstant w → ⊥
bare_no_idl w h m = ⊎_elim (λ g. shared_bare g h) (λ g. bare_only h g) (parts_of m)

pub both_double : (w : List ℕ) → (DoubleConstant w × In double_pattern w) ↔ Shared w
both_double w = (
  λ h. ⊎_elim (λ g. g) (λ g. absurd (only_no_rico w g h.1)) (parts_of h.0),
  λ g. (shared_double g, (rico_double w).1 (inl g)),
)

pub only_idl : (w : List ℕ) → (DoubleConstant w × (In double_pattern w → ⊥)) ↔ OnlyIdl w
only_idl w = (
  λ h. ⊎_elim (λ g. absurd (h.1 ((rico_double w).1 (inl g)))) (λ g. g) (parts_of h.0),
  λ g. (only_double g, only_no_rico w g),
)

pub only_rico : (w : List ℕ) → (In double_pattern w × (DoubleConstant w → ⊥)) ↔ BareDot w
only_rico w = (
  λ h. ⊎_elim (λ g. absurd (h.1 (shared_double g))) (λ g. g) ((rico_double w).0 h.0),
  λ g. ((rico_double w).1 (inr g), bare_no_idl w g),
)

-- ---- all numbers, whichever of the two kinds

abbrev pub IdlNumber : List ℕ → Type 0
IdlNumber w = IntConstant w ⊎ DoubleConstant w

abbrev pub RicoNumber : List ℕ → Type 0
RicoNumber w = In integer_pattern w ⊎ In double_pattern w

-- rico's two patterns have no text in common; of the IDL's two productions the first is within the second (int_double)
pub rico_kinds : (w : List ℕ) → In integer_pattern w → In double_pattern w → ⊥
rico_kinds w h m = only_no_rico w (inl ((int_exactly w).1 h)) m

idl_number : {w : List ℕ} → IdlNumber w → DoubleConstant w
idl_number (inl h) = int_double h
idl_number (inr h) = h

lone_no_rico : (w : List ℕ) → LoneExponent w ⊎ Sign w → RicoNumber w → ⊥
lone_no_rico w h (inl m) = int_lone ((int_exactly w).1 m) h
lone_no_rico w h (inr m) = only_no_rico w (inr h) m

bare_no_number : (w : List ℕ) → BareDot w → IdlNumber w → ⊥
bare_no_number w h m = bare_no_idl w h (idl_number m)

pub numbers_both : (w : List ℕ) → (IdlNumber w × RicoNumber w) ↔ (IntConstant w ⊎ Shared w)
numbers_both w = (
  λ h. ⊎_elim (λ g. inr g) (⊎_elim (λ g. inl g) (λ g. absurd (lone_no_rico w g h.1))) (parts_of (idl_number h.0)),
  ⊎_elim (λ g. (inl g, inl ((int_exactly w).0 g))) (λ g. (inr (shared_double g), inr ((rico_double w).1 (inl g)))),
)

pub numbers_only_idl : (w : List ℕ) → (IdlNumber w × (RicoNumber w → ⊥)) ↔ (LoneExponent w ⊎ Sign w)
numbers_only_idl w = (
  λ h. ⊎_elim (λ g. absurd (h.1 (inr ((rico_double w).1 (inl g))))) (⊎_elim (λ g. absurd (h.1 (inl ((int_exactly w).0 g)))) (λ g. g)) (parts_of (idl_number h.0)),
  λ g. (inr (only_double (inr g)), lone_no_rico w g),
)

pub numbers_only_rico : (w : List ℕ) → (RicoNumber w × (IdlNumber w → ⊥)) ↔ BareDot w
numbers_only_rico w = (
  λ h. ⊎_elim (λ g. absurd (h.1 (inl ((int_exactly w).1 g))))
      (λ g. ⊎_elim (λ k. absurd (h.1 (inr (shared_double k)))) (λ k. k) ((rico_double w).0 g)) h.0,
  λ g. (inr ((rico_double w).1 (inr g)), bare_no_number w g),
)

-- ---- hexadecimal

pub hex_shape : (w : List ℕ) → In hex_pattern w → shape w ≡ other
hex_shape w m = let h = hex_of w m in ⊎_elim (λ e. rw e (shape_hex h.0).0) (λ e. rw e (shape_hex h.0).1) h.1

double_shape : {w : List ℕ} → DoubleConstant w → shape w ≡ other → ⊥
double_shape h e = go (parts_of h) e
  where
    go : {w : List ℕ} → Shared w ⊎ OnlyIdl w → shape w ≡ other → ⊥
    go (inl g) e = let z : ◌≡◌ {A = ℕ} 0 1 = cc (shape_shared g) in omega arith
    go (inr (inl g)) e = let z : ◌≡◌ {A = ℕ} 0 1 = cc (shape_int g) in omega arith
    go (inr (inr (inl g))) e = let z : ◌≡◌ {A = ℕ} 0 1 = cc (shape_lone g) in omega arith
    go (inr (inr (inr g))) e = let z : ◌≡◌ {A = ℕ} 0 1 = cc (shape_sign g) in omega arith

pub hex_no_constant : (w : List ℕ) → In hex_pattern w → IdlNumber w → ⊥
hex_no_constant w m h = double_shape (idl_number h) (hex_shape w m)
