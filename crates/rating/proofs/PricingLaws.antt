-- Laws of the definitions: sizes, the limit of the running amount, lists of lines one after the other, open lines.
use Prim.Native.Nat.{ℕ, suc, ◌+◌, ◌*◌, ◌/◌, ◌≤◌, ◌<◌}
use mathlib.Core.Bool.{Bool, true, false, cond}
use mathlib.Core.List.{List, [], ◌∷◌, ◌++◌}
use mathlib.Core.Path.{◌≡◌, refl}
use native.Mathlib.Omega.{arith}
use borrow.Author.Tests.{leb-true, lt-leb, le-leb}
use lib.Dec.{leb}
use lib.IntN.{ℤ, pos, negsuc, nat_abs, ◌*ℤ◌}
use lib.ListN.{length}
use Rattle.base.specs.Lists.{all, keep}
use Rattle.base.proofs.Bools.{and_parts}
use Rattle.base.proofs.Counts.{count_first}
use Rattle.base.proofs.Signed.{size_negated, product_within}
use Rattle.base.proofs.Threes.{ranged_parts}
use Rattle.std.specs.Prelude.{Option, Some, None}
use Rattle.book.specs.Formula.{literal_within}
use Rattle.run.specs.Trail.{opposite}
use Rattle.rating.specs.Pricing.{max_lines, max_amount, max_thousandths, max_running, line_of, lines_of, of_kind, are_lines, change_within, line_within, list_within, rounded, applied, limited, stepped, priced_by, open_lines, one_if_open, line_open}
use Rattle.rating.specs.declared.Change.TheVariants.{Amount, Thousandths}
use Rattle.rating.specs.declared.RateLine.{RateLine}

-- what is within its range is small
pub amount_small : (cents : ℤ) → change_within (Amount cents) ≡ true → nat_abs cents ≤ max_amount
unfolding change_within
amount_small cents e = leb-true (nat_abs cents) max_amount e

pub thousandths_small : (part : ℤ) → change_within (Thousandths part) ≡ true → nat_abs part ≤ max_thousandths
unfolding change_within
thousandths_small part e = leb-true (nat_abs part) max_thousandths e

pub rounded_size : (x : ℤ) → nat_abs (rounded x) ≡ (nat_abs x + 500) / 1000
unfolding rounded
rounded_size (pos n) = refl
rounded_size (negsuc n) = size_negated (pos ((suc n + 500) / 1000))

pub change_small : (running part : ℤ) → nat_abs running ≤ max_running → nat_abs part ≤ max_thousandths
    → (nat_abs (running *ℤ part) ≤ max_running * max_thousandths) × (nat_abs (rounded (running *ℤ part)) ≤ max_running)
change_small running part h k =
    let product = product_within running part max_running max_thousandths h k in
    (product, omega (arith, rounded_size (running *ℤ part)))

-- the limit
pub limited_over : (x : ℤ) → max_running < nat_abs x → None ≡ limited x
unfolding limited
limited_over x h = rw (lt-leb (nat_abs x) max_running h)

pub limited_within : (x : ℤ) → nat_abs x ≤ max_running → Some x ≡ limited x
unfolding limited
limited_within x h = rw (le-leb (nat_abs x) max_running h)

-- a running amount is within it
abbrev pub Small : Option ℤ → Type 0
Small state = (running : ℤ) → state ≡ Some running → nat_abs running ≤ max_running

pub at_small : (x : ℤ) → nat_abs x ≤ max_running → Small (Some x)
at_small x h running e = let same : running ≡ x = cc in rw same h

pub limited_small : (x : ℤ) → Small (limited x)
unfolding limited
limited_small x running e = go (leb (nat_abs x) max_running) refl e
  where
    go : (t : Bool) → leb (nat_abs x) max_running ≡ t → cond t (Some x) None ≡ Some running → nat_abs running ≤ max_running
    go true p q = at_small x (leb-true (nat_abs x) max_running p) running q
    go false p q = cc

module _ (holds : ℕ → Bool) where
  pub stepped_small : (state : Option ℤ) (line : RateLine) → Small state → Small (stepped holds state line)
  unfolding stepped
  stepped_small None line s = s
  stepped_small (Some x) line s = go (holds line.literal)
    where
      go : (t : Bool) → Small (cond t (limited (applied x line.change)) (Some x))
      go true = limited_small (applied x line.change)
      go false = s

  pub priced_small : (lines : List RateLine) (state : Option ℤ) → Small state → Small (priced_by holds state lines)
  unfolding priced_by
  priced_small [] state s = s
  priced_small (line ∷ lines) state s = priced_small lines (stepped holds state line) (stepped_small state line s)

  -- one list of lines after the other
  pub priced_append : (front back : List RateLine) (state : Option ℤ) → priced_by holds state (front ++ back) ≡ priced_by holds (priced_by holds state front) back
  unfolding priced_by
  priced_append [] back state = refl
  priced_append (line ∷ front) back state = priced_append front back (stepped holds state line)

  -- no line heals
  pub priced_beyond : (lines : List RateLine) → priced_by holds None lines ≡ None
  unfolding priced_by stepped
  priced_beyond [] = refl
  priced_beyond (line ∷ lines) = priced_beyond lines

  -- a line whose literal is not true changes nothing
  pub unmet : (state : Option ℤ) (line : RateLine) → holds line.literal ≡ false → stepped holds state line ≡ state
  unfolding stepped
  unmet (Some x) line e = rw e
  unmet None line e = refl

  pub open_first : (line : RateLine) (lines : List RateLine) → open_lines holds (line ∷ lines) ≡ one_if_open holds line.literal + open_lines holds lines
  unfolding open_lines
  open_first line lines = count_first (line_open holds) line lines

-- tests that agree come to the same
module _ (f g : ℕ → Bool) (agree : (l : ℕ) → f l ≡ g l) where
  step-alike : (state : Option ℤ) (line : RateLine) → stepped f state line ≡ stepped g state line
  unfolding stepped
  step-alike (Some x) line = rw (agree line.literal)
  step-alike None line = refl

  pub priced_alike : (lines : List RateLine) (state : Option ℤ) → priced_by f state lines ≡ priced_by g state lines
  unfolding priced_by
  priced_alike [] state = refl
  priced_alike (line ∷ lines) state = rw (step-alike state line) (priced_alike lines (stepped g state line))

  pub open_alike : (lines : List RateLine) → open_lines f lines ≡ open_lines g lines
  unfolding open_lines keep
  open_alike [] = refl
  open_alike (line ∷ lines) =
      let here : one_if_open f line.literal ≡ one_if_open g line.literal = rw (agree line.literal, agree (opposite line.literal)) in
      omega (arith, open_first f line lines, open_first g line lines, here, open_alike lines)

-- the parts of a list within its ranges, and of a line
pub list_parts : (v : ℕ) (numbers : List ℤ) → list_within v numbers ≡ true
    → (are_lines numbers ≡ true) × (length (lines_of numbers) ≤ max_lines) × (all (line_within v) (lines_of numbers) ≡ true)
unfolding list_within are_lines lines_of
list_parts v numbers e = ranged_parts of_kind line_of max_lines (line_within v) numbers e

pub line_parts : (v : ℕ) (line : RateLine) → line_within v line ≡ true → (literal_within v line.literal ≡ true) × (change_within line.change ≡ true)
unfolding line_within
line_parts v line e = and_parts (literal_within v line.literal) (change_within line.change) e
