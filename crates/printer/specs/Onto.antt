-- What the printer does, of a whole text. Contracts inside this crate cite it, and proofs/Meant shows that it means writer/specs/Write; nothing outside the crate has to
-- believe it.
use Rattle.std.specs.Prelude.{cond, List, [], ◌∷◌, ℕ, ◌*◌, ltb, length, take, get_or}
use Rattle.lexer.specs.Error.{TextTooLong, IndentTooWide, OutputFull}
use Rattle.lexer.specs.Outcome.{Outcome, accepted, refused}
use Rattle.ast.specs.Records.{comment_width, node_width, room, cleared}
use Rattle.parser.specs.Read.{Reading, reading}
use Rattle.steps.specs.Into.{rest_at, wiped}
use Rattle.lexer.specs.Limit.{limit}
use Rattle.std.specs.Prelude.{Ok, Err}
use Rattle.lexer.specs.Refusal.{number_of}
use Rattle.writer.specs.Write.{widest, Printed, Printing, told}
use Rattle.cursor.specs.declared.Cursor.{Cursor}
use Rattle.cursor.specs.Onto.{Reached, reached}
use Rattle.write_definitions.specs.Onto.{document_out}

unfoldable pub opening : Cursor
opening = record { node = 0; comment = 0; length = 0 }

-- ---- the whole

unfoldable pub refusing : ℕ → ℕ → ℕ → List ℕ → List ℕ → List ℕ → Printing
refusing e p n t u o = record { says = refused e p n; nodes = cleared t; comments = cleared u; output = cleared o }

-- what is left once a refusal has wiped everything
unfoldable pub judged : Printed → List ℕ → List ℕ → List ℕ → Printing
judged (Ok p) t u o = told (Ok p) t u o
judged (Err r) t u o = refusing (number_of r.kind) r.place r.length t u o

-- what was printed, if the output held it
unfoldable pub fits : ℕ → ℕ → ℕ → List ℕ → List ℕ → List ℕ → Printing
fits n c len t u o =
    cond (ltb (length o) len) (refusing OutputFull 0 0 t u o) (record { says = accepted (n ∷ c ∷ len ∷ []); nodes = t; comments = u; output = wiped len o })

unfoldable pub ended : Reached → ℕ → ℕ → List ℕ → List ℕ → Printing
ended (reached p o) n c t u = fits n c p.length t u o

-- the first n records of a table of records of w numbers
unfoldable pub used : ℕ → ℕ → List ℕ → List ℕ
used w n t = take (rest_at (n * w) (length t)) t

unfoldable pub writing : List ℕ → ℕ → ℕ → ℕ → List ℕ → List ℕ → List ℕ → Printing
writing text indent n c t u o =
    let t' = used node_width n t in
    let u' = used comment_width c u in
    ended (document_out text t' (room node_width t') u' (room comment_width u') indent opening o) n c t u

-- by what the reading answered
unfoldable pub by_answer : Outcome (List ℕ) → List ℕ → ℕ → List ℕ → List ℕ → List ℕ → Printing
by_answer (accepted ns) text indent t u o = writing text indent (get_or ns 0 0) (get_or ns 1 0) t u o
by_answer (refused e p n) text indent t u o = refusing e p n t u o

unfoldable pub by_reading : Reading → List ℕ → ℕ → List ℕ → Printing
by_reading r text indent o = by_answer r.says text indent r.nodes r.comments o

-- 20 and 26, then the reading, then the writing
unfoldable pub all : List ℕ → ℕ → List ℕ → List ℕ → List ℕ → Printing
all text indent t u o =
    cond (ltb limit (length text)) (refusing TextTooLong 0 0 t u o)
    (cond (ltb widest indent) (refusing IndentTooWide 0 0 t u o) (by_reading (reading text t u) text indent o))
