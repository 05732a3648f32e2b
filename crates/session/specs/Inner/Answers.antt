-- What the contract of `answered` in src/lib.rt cites.
use Rattle.layout.specs.Layout.{conflict_at, length_at}
use Rattle.std.specs.Prelude.{ℕ, ◌-◌, cond, List, eqb, get_or}
use Rattle.session.specs.declared.Propagated.{Propagated}
use Rattle.session.specs.declared.Propagated.TheVariants as propagated

-- the answer that the header gives
abbrev pub head_answer : List ℕ → ℕ → Propagated
head_answer numbers before =
    cond (eqb (get_or numbers conflict_at 0) 0) (propagated.Implied (get_or numbers length_at 0 - before)) (propagated.Conflict (get_or numbers conflict_at 0))
