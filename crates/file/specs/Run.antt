-- What `run` does: a list of readings and printings of one file that is held in memory.
use Rattle.std.specs.Prelude.{◌≡◌, Bool, true, false, cond, not, ◌||◌, List, [], ◌∷◌, ◌++◌, ℕ, ◌≤◌, eqb, leb, length, take, drop}
use Rattle.token.specs.Breaks.{Bytes}
use Rattle.ast.specs.Ast.{Definition}
use Rattle.lexer.specs.Outcome.{Outcome, accepted, refused}
use Rattle.parser.specs.Read.{outcome}
use Rattle.writer.specs.Print.{printed}
use Rattle.writer.specs.Write.{bytes_written, written}
use Rattle.demand.specs.Calls.{Call, reads, prints, Given, has_read, has_printed, gives, Entry, entry, trace}
use Rattle.demand.specs.Demand.{prints_it, Premise, Stays, Fixed, Alike}

-- a reading, or a printing, and how many numbers of each table and bytes of the output it is lent
pub data Request : Type 0 where
  ask : Bool → ℕ → ℕ → ℕ → Request

-- four numbers each: 0 for a reading; the three lengths
unfoldable pub requests_of : List ℕ → List Request
requests_of [] = []
requests_of (k ∷ []) = []
requests_of (k ∷ a ∷ []) = []
requests_of (k ∷ a ∷ b ∷ []) = []
requests_of (k ∷ a ∷ b ∷ c ∷ r) = ask (not (eqb k 0)) a b c ∷ requests_of r

-- the first bytes of its space, so many, are the file
pub record File : Type 0 where
  pub size : ℕ
  pub space : List ℕ

abbrev pub file_of : ℕ → List ℕ → File
file_of n s = record { size = n; space = s }

abbrev pub bytes_of : File → List ℕ
bytes_of f = take f.size f.space

-- the file, and what is lent to the calls
pub record Memory : Type 0 where
  pub file : File
  pub nodes : List ℕ
  pub comments : List ℕ
  pub output : List ℕ

abbrev pub memory : ℕ → List ℕ → List ℕ → List ℕ → List ℕ → Memory
memory n s ns cs out = record { file = file_of n s; nodes = ns; comments = cs; output = out }

-- the call that a request is
unfoldable pub call_of : Request → Memory → Call
call_of (ask true a b c) m = prints (take a m.nodes) (take b m.comments) (take c m.output)
call_of (ask false a b c) m = reads (take a m.nodes) (take b m.comments)

-- an accepted printing makes the bytes it wrote the file, if its space holds them; what lies past them is 0, as in an output
unfoldable pub kept_in : Outcome (List ℕ) → List ℕ → File → File
kept_in (accepted ns) out f =
    let b = bytes_written ns in
    cond (leb b (length f.space)) (file_of b (written (accepted ns) (take b out) f.space)) f
kept_in (refused e p n) out f = f

-- the memory after a call: what was lent is as the call leaves it
unfoldable pub settled : Request → Given → Memory → Memory
settled (ask k a b c) (has_read r) m =
    record { file = m.file; nodes = r.nodes ++ drop a m.nodes; comments = r.comments ++ drop b m.comments; output = m.output }
settled (ask k a b c) (has_printed r) m =
    record {
      file = kept_in r.says r.output m.file;
      nodes = r.nodes ++ drop a m.nodes;
      comments = r.comments ++ drop b m.comments;
      output = r.output ++ drop c m.output;
    }

unfoldable pub after : ℕ → Request → Memory → Memory
after indent q m = settled q (gives indent (call_of q m) (bytes_of m.file)) m

unfoldable pub runs : ℕ → List Request → Memory → Memory
runs indent [] m = m
runs indent (q ∷ qs) m = runs indent qs (after indent q m)

-- the calls that are made
unfoldable pub calls_of : ℕ → List Request → Memory → List Call
calls_of indent [] m = []
calls_of indent (q ∷ qs) m = call_of q m ∷ calls_of indent qs (after indent q m)

-- was a printing among them accepted?
unfoldable pub any_print : List Entry → Bool
any_print [] = false
any_print (entry c f g ∷ es) = prints_it g || any_print es

-- DEMAND 3 OF THE CODE, of a run that starts with the text t, whose definitions are ds, makes these calls, and ends with the file `end`
pub record Kept (indent : ℕ) (t : List ℕ) (ds : List Definition) (cs : List Call) (end : List ℕ) : Type 0 where
  -- every call is as the theorem says
  pub stays : Stays indent t ds false (trace indent cs t)
  -- the file ends as its print if a printing was accepted, else as it was
  pub file : end ≡ cond (any_print (trace indent cs t)) (printed indent ds) t
  -- the print is accepted, has the same definitions, and is its own print
  pub fixed : Fixed indent ds
  -- another text prints alike exactly when its definitions agree
  pub alike : (u : List ℕ) (es : List Definition) → Bytes u → outcome u ≡ accepted es → Alike indent ds es

-- so it is of every file that the premise holds of, in a space that holds its print
abbrev pub Unaltered : ℕ → List Request → Memory → List ℕ → Type 0
Unaltered indent qs m end =
    (ds : List Definition) → Premise indent (bytes_of m.file) ds → length (printed indent ds) ≤ length m.file.space
    → Kept indent (bytes_of m.file) ds (calls_of indent qs m) end
