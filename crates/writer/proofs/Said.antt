-- What the code's answer says tells which answer it is.
use mathlib.Core.Path.{◌≡◌, refl}
use mathlib.Core.List.{[], ◌∷◌}
use Prim.Native.Nat.{ℕ}
use Rattle.std.specs.Prelude.{Ok, Err}
use Rattle.lexer.specs.Outcome.{accepted, refused}
use Rattle.lexer.specs.Refusal.{number_of, said_by}
use Rattle.lexer.specs.declared.error.Refusal.{Refusal}
use Rattle.writer.specs.Write.{Printed, said}

pub said_accepted : (a : Printed) (n c b : ℕ) → said a ≡ accepted (n ∷ c ∷ b ∷ []) → a ≡ Ok (record { nodes = n; comments = c; bytes = b })
unfolding said_by
said_accepted (Ok r) n c b e =
    let x : r.nodes ≡ n = cc in
    let y : r.comments ≡ c = cc in
    let z : r.bytes ≡ b = cc in
    rw (← x, ← y, ← z)
said_accepted (Err r) n c b e = cc

pub said_refused : (a : Printed) (e p n : ℕ) → said a ≡ refused e p n → (r : Refusal) × (a ≡ Err r) × (number_of r.kind ≡ e) × (r.place ≡ p) × (r.length ≡ n)
unfolding said_by
said_refused (Ok r) e p n h = cc
said_refused (Err r) e p n h = (r, refl, cc, cc, cc)
