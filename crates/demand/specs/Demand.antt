-- DEMAND 3: no sequence of readings and printings at one indent can alter a file once printed. Document 01, "The file in demand 3".
use Rattle.std.specs.Prelude.{◌≡◌, Bool, true, false, cond, ◌||◌, List, [], ◌∷◌, ℕ, ◌≤◌, length}
use Rattle.token.specs.Breaks.{Bytes}
use Rattle.lexer.specs.Outcome as O
use Rattle.lexer.specs.Outcome.{Outcome}
use Rattle.lexer.specs.Limit.{limit}
use Rattle.ast.specs.Ast.{Definition}
use Rattle.ast.specs.Records.{node_rows, notes}
use Rattle.parser.specs.Read as R
use Rattle.parser.specs.Read.{outcome}
use Rattle.writer.specs.Print.{printed}
use Rattle.writer.specs.Write as W
use Rattle.writer.specs.Write.{outcome_at}
use Rattle.demand.specs.Agree.{Agree}
use Rattle.demand.specs.Calls.{Call, reads, prints, Given, has_read, has_printed, leaves, Entry, entry, trace}

-- a text is accepted, with the definitions ds, if every row before 24 lets it pass
abbrev pub Accepts : ℕ → List ℕ → List Definition → Type 0
Accepts indent t ds = outcome_at indent t ≡ O.accepted ds

-- the premise: accepted, and its print fits the limits
pub record Premise (indent : ℕ) (t : List ℕ) (ds : List Definition) : Type 0 where
  pub bytes : Bytes t
  pub accepted : Accepts indent t ds
  pub fits : length (printed indent ds) ≤ limit

-- what a call gives for a file whose definitions are ds: 24 if it has more nodes than the node table holds, else 25 if more comments than the comment table holds,
-- else, in a printing, 27 if its print is longer than the output; else its counts and records and, in a printing, its print
unfoldable pub answers : ℕ → Call → List Definition → Given
answers indent (reads ns cs) ds =
    let a = R.fitted ds ns cs in has_read (record { says = a; nodes = R.left a (node_rows ds) ns; comments = R.left a (notes ds) cs })
answers indent (prints ns cs out) ds =
    let a = W.fitted_out (R.fitted ds ns cs) (printed indent ds) out in
    has_printed
    (record { says = a; nodes = R.left a (node_rows ds) ns; comments = R.left a (notes ds) cs; output = W.written a (printed indent ds) out })

-- is it an accepted printing?
unfoldable pub accepts : Outcome (List ℕ) → Bool
accepts (O.accepted ns) = true
accepts (O.refused e p n) = false

unfoldable pub prints_it : Given → Bool
prints_it (has_read r) = false
prints_it (has_printed r) = accepts r.says

-- one call, before any accepted printing or after: the file f that it is given, and what it gives, g
pub record Step (indent : ℕ) (t : List ℕ) (ds : List Definition) (after : Bool) (c : Call) (f : List ℕ) (g : Given) : Type 0 where
  -- the file holds the print from the first accepted printing on, before that the text
  pub stands : f ≡ cond after (printed indent ds) t
  -- the file is accepted, and its definitions agree with the text's
  pub definitions : List Definition
  pub accepted : Accepts indent f definitions
  pub agree : Agree definitions ds
  -- the call answers for them, refused exactly when it is lent too little
  pub gives : g ≡ answers indent c definitions
  -- an accepted printing writes the text's print
  pub same_bytes : prints_it g ≡ true → leaves g f ≡ printed indent ds

-- the whole list of calls
pub data Stays (indent : ℕ) (t : List ℕ) (ds : List Definition) : Bool → List Entry → Type 0 where
  end : {after : Bool} → Stays indent t ds after []
  call : {after : Bool} {c : Call} {f : List ℕ} {g : Given} {es : List Entry} →
      Step indent t ds after c f g → Stays indent t ds (after || prints_it g) es → Stays indent t ds after (entry c f g ∷ es)

-- the print of a text is accepted, has the same definitions, and is its own print
pub record Fixed (indent : ℕ) (ds : List Definition) : Type 0 where
  pub definitions : List Definition
  pub accepted : Accepts indent (printed indent ds) definitions
  pub agree : Agree definitions ds
  pub same_bytes : printed indent definitions ≡ printed indent ds

-- two texts print alike exactly when their definitions agree
pub record Alike (indent : ℕ) (ds es : List Definition) : Type 0 where
  pub from_print : printed indent ds ≡ printed indent es → Agree ds es
  pub to_print : Agree ds es → printed indent ds ≡ printed indent es

pub record Demand3 : Type 0 where
  pub fixed : (indent : ℕ) (t : List ℕ) (ds : List Definition) → Premise indent t ds → Fixed indent ds
  pub stays : (indent : ℕ) (t : List ℕ) (ds : List Definition) → Premise indent t ds → (cs : List Call) → Stays indent t ds false (trace indent cs t)
  pub alike : (indent : ℕ) (t u : List ℕ) (ds es : List Definition) → Bytes t → Bytes u → outcome t ≡ O.accepted ds → outcome u ≡ O.accepted es → Alike indent ds es
