-- A line in a lent buffer.
use Rattle.std.specs.Prelude.{List, ℕ, length, take}

-- how many of the bytes fit
unfoldable pub fitting : List ℕ → List ℕ → ℕ
fitting source buffer = length (take (length buffer) source)
