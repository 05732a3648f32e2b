use Rattle.std.proofs.Common.{rules, tests, ap, ◌∙◌, ◌-◌, ◌+◌, ℕ, length, take, drop}
use Rattle.std.proofs.lemmas.Iterator.{YieldsList-from_slice}
use Rattle.std.proofs.lemmas.Iterator.Consumers.{count_from_yields_List}
use Rattle.std.proofs.lemmas.Iterator.Search.{YieldsList-from_take_while}
use Rattle.std.specs.Prelude.{not}
use Rattle.book.specs.Text.{blank}
use Rattle.book.proofs.bytes.Laws.{count_until}
use Rattle.book.proofs.bytes.word_end.Goals as goal

pub returns : goal.returns
returns c =
    let text = c.args.text.now in
    let count =
    count_from_yields_List c.take_while.result _ c.count.ensures.ran
    (YieldsList-from_take_while _ (λ (b : ℕ). not (blank b)) (YieldsList-from_slice (take (length text - c.args.at) (drop c.args.at text)) (cc)) c.take_while.ensures.closure c.take_while.ensures.done (λ x b q k. search (rules, tests))) in
    ap (λ (n : ℕ). c.args.at + n) (count ∙ count_until blank text c.args.at)
