-- What it means that a text matches a regular expression, and that a token is the longest match, as it is written in books.
use Rattle.std.specs.Prelude.{ℕ, ◌<◌, ◌≤◌, ◌≡◌, ◌⊎◌, true, false, List, [], ◌∷◌, ◌++◌, length, take}
use Rattle.token.specs.Regex.{Regex, nothing, empty, set, unset, seq, alt, star, within}
use Rattle.token.specs.Patterns.{Rule, rule, rules}
use Rattle.token.specs.declared.Token.{Token}
use Rattle.token.specs.Scanned.{Scan}
use Rattle.std.specs.Prelude.{Some, None}

-- any number of parts, each with P
pub data Star (P : List ℕ → Type 0) : List ℕ → Type 0 where
  stop : {w : List ℕ} → w ≡ [] → Star P w
  more : {w u v : List ℕ} → w ≡ u ++ v → P u → Star P v → Star P w

-- the text w matches the expression
abbrev pub In : Regex → List ℕ → Type 0
In nothing w = ⊥
In empty w = w ≡ []
In (set s) w = (c : ℕ) × (w ≡ c ∷ []) × (within c s ≡ true)
In (unset s) w = (c : ℕ) × (w ≡ c ∷ []) × (within c s ≡ false)
In (seq r s) w = (u : List ℕ) × (v : List ℕ) × (w ≡ u ++ v) × In r u × In s v
In (alt r s) w = In r w ⊎ In s w
In (star r) w = Star (In r) w

-- w matches no rule
abbrev pub MatchesNone : List Rule → List ℕ → Type 0
MatchesNone [] w = Unit
MatchesNone (rule k r ∷ rs) w = (In r w → ⊥) × MatchesNone rs w

-- the first rule that w matches has the kind k
abbrev pub First : List Rule → List ℕ → Token → Type 0
First [] w k = ⊥
First (rule q r ∷ rs) w k = (In r w × (k ≡ q)) ⊎ ((In r w → ⊥) × First rs w k)

-- no rule matches more than n bytes of the text
abbrev pub NoneBeyond : List ℕ → ℕ → Type 0
NoneBeyond t n = (m : ℕ) → n < m → m ≤ length t → MatchesNone rules (take m t)

-- the longest match: the first rule that matches n bytes has the kind k, and none matches more
abbrev pub Longest : List ℕ → Scan → Type 0
Longest t None = NoneBeyond t 0
Longest t (Some (k, n)) = (0 < n) × (n ≤ length t) × First rules (take n t) k × NoneBeyond t n
