-- The answers as numbers for C: the kind times 2 ^ 32, and the number. Kind 0 is accepted, 1 a conflict, 2 a refusal, 3 a table of age bands reported as false.
use Rattle.std.specs.Prelude.{ℕ, ◌+◌, ◌*◌, ◌/◌, ◌%◌, ◌≤◌, ◌<◌, ◌≡◌, ◌⊎◌, true, false, Bool, List, [], ◌∷◌, ℤ, Result, Ok, Err, ⊤}
use Rattle.base.specs.Lists.{copied}
use Rattle.refusals.specs.declared.Refusal.{Refusal}
use Rattle.refusals.specs.Refusals.{number_of}
use Rattle.session.specs.declared.Propagated.{Propagated}
use Rattle.session.specs.declared.Propagated.TheVariants as propagated
use Rattle.session.specs.declared.Assigned.{Assigned}
use Rattle.session.specs.declared.Assigned.TheVariants as assigned
use Rattle.session.specs.declared.Shown.{Shown}
use Rattle.quote.specs.declared.Quote.{Quote}
use Rattle.bands.specs.declared.TableFault.{TableFault}
use Rattle.bands.specs.declared.TableFault.TheVariants as fault
use Rattle.packed.specs.declared.QuoteRecord.{QuoteRecord}
use Rattle.rating.specs.declared.Premium.{Premium}

abbrev pub conflict_code : ℕ → ℕ
conflict_code clause = 4294967296 + clause

abbrev pub refusal_code : ℕ → ℕ
refusal_code number = 2 * 4294967296 + number

-- what is only done or refused: 0, or the refusal; for reading, backtrack and fixing, and where what is answered goes to a place of its own
abbrev pub done_code : {A : Type 0} → Result A Refusal → ℕ
done_code (Ok said) = 0
done_code (Err refusal) = refusal_code (number_of refusal)

-- how many there are, numbers, fixed decisions or bytes that are written, or the refusal
abbrev pub count_code : Result ℕ Refusal → ℕ
count_code (Ok n) = n
count_code (Err refusal) = refusal_code (number_of refusal)

-- opening and decision: how many literals were implied, or the conflict clause's name, or the refusal
abbrev pub propagated_code : Propagated → ℕ
propagated_code (propagated.Implied n) = n
propagated_code (propagated.Conflict clause) = conflict_code clause

abbrev pub answer_code : Result Propagated Refusal → ℕ
answer_code (Ok propagated) = propagated_code propagated
answer_code (Err refusal) = refusal_code (number_of refusal)

-- lookup: 0 open, 4 × level + 1 positive (the paper's wanted), 4 × level + 2 negative (barred), or the refusal
abbrev pub level_code : Assigned → ℕ
level_code assigned.Open = 0
level_code (assigned.Positive level) = 4 * level + 1
level_code (assigned.Negative level) = 4 * level + 2

abbrev pub assigned_code : Result Assigned Refusal → ℕ
assigned_code (Ok said) = level_code said
assigned_code (Err refusal) = refusal_code (number_of refusal)

-- so a caller takes the number apart: below 2 ^ 32 it is accepted, and the remainder by 4 tells the sign and the quotient the level; else it is of kind 2
pub record LookupTold (code : ℕ) (answer : Result Assigned Refusal) : Type 0 where
  pub accepted : code < 4294967296
      → (code ≤ 2002)
      × (((code ≡ 0) × (answer ≡ Ok assigned.Open))
      ⊎ (((code % 4 ≡ 1) × (answer ≡ Ok (assigned.Positive (code / 4)))) ⊎ ((code % 4 ≡ 2) × (answer ≡ Ok (assigned.Negative (code / 4))))))
  pub refused : 4294967296 ≤ code → (code / 4294967296 ≡ 2) × ((refusal : Refusal) × (answer ≡ Err refusal) × (number_of refusal ≡ code % 4294967296))

-- the figures are four numbers: decisions in force, accepted backtracks, trail length, the conflict clause's name (0 out of conflict).
-- What fits of them is copied, as of the trail, and a refusal leaves the lent numbers
abbrev pub figures_code : Result Shown Refusal → ℕ
figures_code (Ok shown) = 4
figures_code (Err refusal) = refusal_code (number_of refusal)

abbrev pub figures_after : Result Shown Refusal → List ℕ → List ℕ
figures_after (Ok shown) buffer = copied (shown.decisions ∷ shown.backtracks ∷ shown.trail ∷ shown.conflict ∷ []) buffer
figures_after (Err refusal) buffer = buffer

-- a number that goes to a place of its own, which a refusal leaves: the sum of all checks
abbrev pub sum_after : Result ℕ Refusal → ℕ → ℕ
sum_after (Ok checks) before = checks
sum_after (Err refusal) before = before

-- checks by chapter: 1 where the totals are written (true), 0 where the chapters or the room for the totals do not fit (false), or the refusal
abbrev pub filing_code : Result Bool Refusal → ℕ
filing_code (Ok true) = 1
filing_code (Ok false) = 0
filing_code (Err refusal) = refusal_code (number_of refusal)

-- a quote is three numbers, the session's length, W and how many lines of the form `b k` the script has, copied as the figures are; and the quoted ceiling,
-- which goes to a place of its own
abbrev pub quote_code : Result Quote Refusal → ℕ
quote_code (Ok quote) = 3
quote_code (Err refusal) = refusal_code (number_of refusal)

abbrev pub quote_after : Result Quote Refusal → List ℕ → List ℕ
quote_after (Ok quote) buffer = copied (quote.length ∷ quote.worst ∷ quote.back_lines ∷ []) buffer
quote_after (Err refusal) buffer = buffer

abbrev pub ceiling_after : Result Quote Refusal → ℕ → ℕ
ceiling_after (Ok quote) before = quote.ceiling
ceiling_after (Err refusal) before = before

-- a premium: how many lines are open, or the refusal; the amount goes to a place of its own, and a refusal leaves that as it is
abbrev pub premium_code : Result Premium Refusal → ℕ
premium_code (Ok premium) = premium.open_lines
premium_code (Err refusal) = refusal_code (number_of refusal)

abbrev pub amount_after : Result Premium Refusal → ℤ → ℤ
amount_after (Ok premium) before = premium.amount
amount_after (Err refusal) before = before

-- the checker of age bands: 0 where the table is good; 25 or 26 as a refusal's number, and the lowest age at fault goes to a place of its own; kind 3 with no
-- number where the table is reported as false, which leaves that place, as a good table does
abbrev pub checked_code : Result ⊤ TableFault → ℕ
checked_code (Ok good) = 0
checked_code (Err fault.Malformed) = 3 * 4294967296
checked_code (Err (fault.Gap age)) = refusal_code 25
checked_code (Err (fault.Overlap age)) = refusal_code 26

abbrev pub age_after : Result ⊤ TableFault → ℕ → ℕ
age_after (Ok good) before = before
age_after (Err fault.Malformed) before = before
age_after (Err (fault.Gap age)) before = age
age_after (Err (fault.Overlap age)) before = age

-- a field of packed decimal that is read goes to a place of its own, which a refusal leaves as it is
abbrev pub value_after : Result ℤ Refusal → ℤ → ℤ
value_after (Ok value) before = value
value_after (Err refusal) before = before

-- a quote record that is read: its map, or the refusal; each of its values goes to a place of its own, likewise
abbrev pub record_code : Result QuoteRecord Refusal → ℕ
record_code (Ok quote) = quote.map
record_code (Err refusal) = refusal_code (number_of refusal)

abbrev pub base_after : Result QuoteRecord Refusal → ℤ → ℤ
base_after (Ok quote) before = quote.base
base_after (Err refusal) before = before

abbrev pub premium_after : Result QuoteRecord Refusal → ℤ → ℤ
premium_after (Ok quote) before = quote.premium
premium_after (Err refusal) before = before

abbrev pub lines_after : Result QuoteRecord Refusal → ℤ → ℤ
lines_after (Ok quote) before = quote.open_lines
lines_after (Err refusal) before = before
