-- Document 01's table of refusals: the number of each, the refusal of each number, and what a call comes to by its refusal number.
use Rattle.std.specs.Prelude.{ℕ, cond, List, [], ◌∷◌, eqb, Result, Ok, Err, ⊤}
use Rattle.refusals.specs.declared.Refusal.{Refusal}
use Rattle.refusals.specs.declared.Refusal.TheVariants as refusal

-- The number of a refusal.
abbrev pub number_of : Refusal → ℕ
number_of refusal.LongText = 1
number_of refusal.Header = 2
number_of refusal.Counts = 3
number_of refusal.Word = 4
number_of refusal.LargeVariable = 5
number_of refusal.ClauseLength = 6
number_of refusal.ClauseCount = 8
number_of refusal.LiteralCount = 9
number_of refusal.ShortMemory = 10
number_of refusal.Book = 11
number_of refusal.Session = 12
number_of refusal.NoVariable = 13
number_of refusal.InConflict = 14
number_of refusal.AssignedAlready = 15
number_of refusal.BacktrackRange = 16
number_of refusal.BacktrackCount = 17
number_of refusal.Line = 18
number_of refusal.PriceInput = 19
number_of refusal.RunningAmount = 20
number_of refusal.FixingRange = 22
number_of refusal.PackedForm = 23
number_of refusal.PackedDigits = 24
number_of refusal.AgeGap = 25
number_of refusal.AgeOverlap = 26

-- every refusal but the last, in the order of their numbers
unfoldable pub refusals : List Refusal
refusals =
    refusal.LongText ∷ refusal.Header ∷ refusal.Counts ∷ refusal.Word ∷ refusal.LargeVariable ∷ refusal.ClauseLength ∷ refusal.ClauseCount
    ∷ refusal.LiteralCount ∷ refusal.ShortMemory ∷ refusal.Book ∷ refusal.Session ∷ refusal.NoVariable ∷ refusal.InConflict
    ∷ refusal.AssignedAlready ∷ refusal.BacktrackRange ∷ refusal.BacktrackCount ∷ refusal.Line ∷ refusal.PriceInput
    ∷ refusal.RunningAmount ∷ refusal.FixingRange ∷ refusal.PackedForm ∷ refusal.PackedDigits ∷ refusal.AgeGap ∷ []

unfoldable pub first_with : ℕ → List Refusal → Refusal
first_with n [] = refusal.AgeOverlap
first_with n (r ∷ rs) = cond (eqb (number_of r) n) r (first_with n rs)

-- The refusal of a number of the table.
unfoldable pub refusal_of : ℕ → Refusal
refusal_of n = first_with n refusals

-- What a call comes to, by the refusal number, which is 0 where the call is accepted.
abbrev pub outcome : {A : Type 0} → ℕ → A → Result A Refusal
outcome number said = cond (eqb number 0) (Ok said) (Err (refusal_of number))

-- What a test of a call comes to: passed, or the refusal.
abbrev pub checked : ℕ → Result ⊤ Refusal
checked number = outcome number tt
