-- The answer of a function to a question, for the contracts of all modules.
use Rattle.std.specs.Prelude.{◌≡◌, Bool, true, false}

-- the answer to a question
pub record Says (r : Bool) (P : Type 0) : Type 0 where
  pub yes : r ≡ true → P
  pub no : r ≡ false → P → ⊥
