-- The longest match: what a scan of the start of a text has to answer.
-- `Match` says the same in the textbook's words, and `proofs/Meaning` that the two agree.
use Rattle.std.specs.Prelude.{ℕ, suc, cond, List, [], ◌∷◌}
use Rattle.std.specs.Prelude.{Option, Some, None}
use Rattle.token.specs.Regex.{nullable, deriv, is_nothing}
use Rattle.token.specs.Patterns.{Rule, rule, rules}
use Rattle.token.specs.declared.Token.{Token}
use Rattle.token.specs.Scanned.{Scan}

-- what is left of each rule behind the byte c; a rule of which nothing is left goes
unfoldable pub derivs : ℕ → List Rule → List Rule
derivs c [] = []
derivs c (rule k r ∷ rs) = let d = deriv c r in cond (is_nothing d) (derivs c rs) (rule k d ∷ derivs c rs)

-- the kind of the first rule that the empty text matches
unfoldable pub first : List Rule → Option Token
first [] = None
first (rule k r ∷ rs) = cond (nullable r) (Some k) (first rs)

-- a match of n bytes takes the place of a shorter one
unfoldable pub keep : Option Token → ℕ → Scan → Scan
keep None n b = b
keep (Some k) n b = Some (k, n)

-- the longest match, and of the rules that match it the first: behind n bytes, with rs left of the rules and b the longest so far
unfoldable pub scan_from : List Rule → ℕ → Scan → List ℕ → Scan
scan_from rs n b [] = b
scan_from rs n b (c ∷ w) = let d = derivs c rs in scan_from d (suc n) (keep (first d) (suc n) b) w

unfoldable pub scan : List ℕ → Scan
scan w = scan_from rules 0 None w
