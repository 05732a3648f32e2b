use Rattle.std.proofs.Common.{rules, tests, arith, ◌∙◌, ◌-◌, length, take, drop, length-drop, ◌≡◌}
use Rattle.std.proofs.lemmas.Iterator.{YieldsList-from_slice}
use Rattle.std.proofs.lemmas.Iterator.Consumers.{count_from_yields_List}
use Rattle.std.proofs.lemmas.Iterator.Search.{YieldsList-from_take_while}
use Rattle.std.proofs.lemmas.List.Folds.{length-prefix_len}
use lib.Seq.{take_all}
use Rattle.book.proofs.cursor.Laws.{is_space, spaces_end}
use Rattle.book.proofs.cursor.space_end.Goals as goal

pub returns : goal.returns
returns c =
    let text = c.args.text.now in
    let tail = take (length text - c.args.at) (drop c.args.at text) in
    let count =
    count_from_yields_List c.take_while.result _ c.count.ensures.ran
    (YieldsList-from_take_while _ is_space (YieldsList-from_slice tail (cc)) c.take_while.ensures.closure c.take_while.ensures.done (λ x b q k. (search rules, search (rules, tests)))) in
    let same : tail ≡ drop c.args.at text = take_all (length text - c.args.at) (drop c.args.at text) (rw (length-drop c.args.at text) (omega arith)) in
    rw (count ∙ length-prefix_len is_space tail, same) (spaces_end text c.args.at c.requires)
