-- The three numbers of each line, and what one line is by its three.
use Rattle.std.specs.Prelude.{ℕ, Bool, ◌&&◌, List, [], ◌∷◌, get_or, ℤ, pos}
use Rattle.base.specs.Lists.{by_three}
use Rattle.rating.specs.Pricing.{line_of, is_kind, line_within}
use Rattle.rating.specs.declared.RateLine.{RateLine}

abbrev pub three_of : ℤ → ℤ → ℤ → List ℤ
three_of literal kind value = literal ∷ kind ∷ value ∷ []

unfoldable pub threes_of : List ℤ → List (List ℤ)
threes_of numbers = by_three three_of numbers

abbrev pub line_from : List ℤ → RateLine
line_from three = line_of (get_or three 0 (pos 0)) (get_or three 1 (pos 0)) (get_or three 2 (pos 0))

-- of one of the two kinds, and within its ranges
abbrev pub three_within : ℕ → List ℤ → Bool
three_within variables three = is_kind (get_or three 1 (pos 0)) && line_within variables (line_from three)
