-- Where a test first passes, for the contract of `find`.
use Rattle.std.specs.Prelude.{ℕ, ◌<◌, ◌≤◌, Bool, true, false, List, length, get_or}

-- r is the first place of a text, from `at` on, whose byte passes, or else its end; `test` holds of a byte and what the test answers
pub record First (test : ℕ → Bool → Type 0) (text : List ℕ) (at r : ℕ) : Type 0 where
  pub onward : at ≤ r
  pub within : r ≤ length text
  pub passed : (i : ℕ) → at ≤ i → i < r → test (get_or text i 0) false
  pub found : r < length text → test (get_or text r 0) true
