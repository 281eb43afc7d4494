-- The contract of what reads: what it does to the state and to both tables, from the text, and what it answers.
use Rattle.std.specs.Prelude.{◌≡◌, ◌<◌, ⊤, Bool, List, ℕ, Ok, Err, eqb}
use Rattle.std.specs.declared.result.Result.{Result}
use Rattle.lexer.specs.Refusal.{number_of}
use Rattle.steps.specs.declared.state.Parser.{Parser}
use Rattle.steps.specs.declared.state.State.{State}
use Rattle.steps.specs.declared.state.Raised.{Raised}
use Rattle.steps.specs.Into.{Out, done, stop, M, accept_in, bytes_left, code_of}

-- the text, and the number of the first record in the node table that is lent
pub record Source : Type 0 where
  pub text : List ℕ
  pub base : ℕ

abbrev pub source : Parser → Source
source p = record { text = p.text.now; base = p.base }

abbrev pub Parsed : Type 0
Parsed = Result ⊤ Raised

-- what an answer shows: on a refusal too, where the parser then stands
unfoldable pub tells : Parsed → State → List ℕ → List ℕ → Out
tells (Ok x) st t u = done st t u
tells (Err r) st t u = stop (number_of r.kind) r.loc st t u

-- from one parser to the next: m is done, on the same text and in the same tables
pub record Reads (m : Source → M) (s t : Parser) (r : Parsed) : Type 0 where
  pub goes : tells r t.state t.nodes.now t.comments.now ≡ m (source s) s.state s.nodes.now s.comments.now
  pub same : source t ≡ source s
  pub lent : t.nodes.ghost_name ≡ s.nodes.ghost_name
  pub wide : t.comments.ghost_name ≡ s.comments.ghost_name

-- of a step that refuses nothing
abbrev pub Does : (Source → M) → Parser → Parser → Type 0
Does m s t = Reads m s t (Ok tt)

-- of a step that takes the token ahead if it is of one kind, and says whether it was
pub record Accepts (k : ℕ) (s t : Parser) (r : Bool) : Type 0 where
  pub was : r ≡ eqb (code_of s.state) k
  pub goes : Does (λ x. accept_in x.text k) s t

abbrev pub left_of : Parser → ℕ
left_of p = bytes_left p.text.now p.state

-- where it answers, fewer bytes are left
abbrev pub Shortens : Parser → Parser → Parsed → Type 0
Shortens s t r = r ≡ Ok tt → left_of t < left_of s
