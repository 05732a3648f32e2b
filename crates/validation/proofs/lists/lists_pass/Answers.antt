use Rattle.std.proofs.Common.{false}
use Rattle.base.proofs.Lists.{get_or_alike}
use Rattle.validation.specs.Inner.Lists.{node_marks}
use Rattle.validation.proofs.lists.lists_pass.Goals as goal

pub all_lists_pass-requires-clause-by_index : goal.all_lists_pass-requires-clause-by_index
all_lists_pass-requires-clause-by_index c = λ n. get_or_alike node_marks n false
