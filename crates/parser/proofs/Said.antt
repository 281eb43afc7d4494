-- What the code's answer says tells which answer it is.
use mathlib.Core.Path.{◌≡◌, refl, ap₂}
use mathlib.Core.List.{[], ◌∷◌}
use Prim.Native.Nat.{ℕ}
use Rattle.std.specs.Prelude.{Ok, Err}
use Rattle.lexer.specs.Outcome.{accepted, refused}
use Rattle.lexer.specs.Refusal.{number_of, said_by}
use Rattle.lexer.specs.declared.error.Refusal.{Refusal}
use Rattle.parser.specs.Read.{Answer, said}

pub said_accepted : (a : Answer) (n c : ℕ) → said a ≡ accepted (n ∷ c ∷ []) → a ≡ Ok (record { nodes = n; comments = c })
unfolding said_by
said_accepted (Ok r) n c e =
    let a : r.nodes ≡ n = cc in
    let b : r.comments ≡ c = cc in
    ap₂ (λ (x y : ℕ). Ok (record { nodes = x; comments = y })) a b
said_accepted (Err r) n c e = cc

pub said_refused : (a : Answer) (e p n : ℕ) → said a ≡ refused e p n → (r : Refusal) × (a ≡ Err r) × (number_of r.kind ≡ e) × (r.place ≡ p) × (r.length ≡ n)
unfolding said_by
said_refused (Ok r) e p n h = cc
said_refused (Err r) e p n h = (r, refl, cc, cc, cc)
