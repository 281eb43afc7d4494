-- What two equal answers of a scan tell.
use mathlib.Core.Path.{◌≡◌, ap}
use Prim.Native.Nat.{ℕ}
use Rattle.std.specs.Prelude.{Some, None}
use Rattle.token.specs.Scanned.{Scan}
use Rattle.token.specs.declared.Token.{Token}

pair_of : Token × ℕ → Scan → Token × ℕ
pair_of d None = d
pair_of d (Some p) = p

pub some_kind : {k q : Token} {n m : ℕ} → ◌≡◌ {A = Scan} (Some (k, n)) (Some (q, m)) → k ≡ q
unfolding pair_of
some_kind {k} {q} {n} {m} e = ap (λ (s : Scan). (pair_of (k, n) s).0) e

pub some_length : {k q : Token} {n m : ℕ} → ◌≡◌ {A = Scan} (Some (k, n)) (Some (q, m)) → n ≡ m
unfolding pair_of
some_length {k} {q} {n} {m} e = ap (λ (s : Scan). (pair_of (k, n) s).1) e
