use Rattle.std.proofs.Common.{arith}
use Rattle.desk.proofs.main.Goals as goal

pub run-requires : goal.run-requires
run-requires c = record { for_book = omega arith; for_session = omega arith; for_line = omega arith; for_answers = omega arith }
