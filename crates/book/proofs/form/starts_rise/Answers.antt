use borrow.Author.Rules.{rules}
use lib.Dec.{leb}
use Rattle.std.proofs.lemmas.List.Sorted.{answers_always}
use Rattle.book.proofs.form.Laws.{sorted_rising}
use Rattle.book.proofs.form.starts_rise.Goals as goal

pub returns : goal.returns
returns c =
    sorted_rising _ _ c.requires _
    (c.is_sorted_by.ensures.cases leb (answers_always _ _ _ (λ f pair answer after called. search (rules, called))))
