use Rattle.std.proofs.Common.{arith, rules}
use Rattle.book.proofs.DecimalLaws.{word_too_short, word_too_long}
use Rattle.book.proofs.bytes.Laws.{digits_step, value_small, not_a_digit, all_digits}
use Rattle.book.proofs.bytes.number.Goals as goal
use Rattle.book.proofs.bytes.number.Goals.{then-is_empty-via-then-is_empty, then-is_empty-via-else-is_empty+then-word-gt-MAX_DIGITS}

pub returns-then-is_empty : goal.returns-then-is_empty
returns-then-is_empty c =
    elim c.then-is_empty.branch [
      | then-is_empty-via-then-is_empty w ↦ word_too_short _ (search rules)
      | then-is_empty-via-else-is_empty+then-word-gt-MAX_DIGITS w ↦ word_too_long _ w.if-word-gt-MAX_DIGITS.true
    ]

pub returns-in_default : goal.returns-in_default
returns-in_default c = not_a_digit c.loop-byte.invariant (omega arith) (omega arith)

pub returns-in_default-2 : goal.returns-in_default-2
returns-in_default-2 c = not_a_digit c.loop-byte.invariant (omega arith) (omega arith)

pub overflow_mul-value : goal.overflow_mul-value
overflow_mul-value c = omega (arith, value_small c.loop-byte.invariant (omega arith))

pub overflow_add-value : goal.overflow_add-value
overflow_add-value c = omega (arith, value_small c.loop-byte.invariant (omega arith))

pub loop-byte-preserved : goal.loop-byte-preserved
loop-byte-preserved c = rw c.from.ensures (digits_step c.loop-byte.invariant (omega arith) (omega arith) (omega arith))

pub returns : goal.returns
returns c = all_digits c.loop-byte.invariant (omega arith) (search rules) (omega arith)
