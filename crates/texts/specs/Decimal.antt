-- Numbers as text: document 01, 'The program that plays requests'. Assumes nothing.
use Rattle.std.specs.Prelude.{ℕ, zero, suc, ◌+◌, ◌/◌, ◌%◌, cond, List, [], ◌∷◌, ◌++◌, ltb}

-- The digits of n in front of a text, in ASCII, k + 1 at most.
abbrev pub spelled : ℕ → ℕ → List ℕ → List ℕ
spelled zero n t = (48 + n) ∷ t
spelled (suc k) n t = cond (ltb n 10) ((48 + n) ∷ t) (spelled k (n / 10) ((48 + n % 10) ∷ t))

-- How many digits 2^64 - 1 has behind its first.
abbrev pub behind_first : ℕ
behind_first = 19

-- A number in decimal.
unfoldable pub decimal : ℕ → List ℕ
decimal n = spelled behind_first n []

-- A line of numbers: one space between them, and a newline.
unfoldable pub line : List ℕ → List ℕ
line [] = 10 ∷ []
line (n ∷ []) = decimal n ++ (10 ∷ [])
line (n ∷ m ∷ ns) = decimal n ++ (32 ∷ line (m ∷ ns))
