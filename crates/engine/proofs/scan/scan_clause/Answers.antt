use native.Mathlib.Nat.{sub-zero}
use Rattle.std.proofs.Common.{◌∙◌, sym, ◌-◌, length, arith, inl, inr}
use Rattle.engine.proofs.scan.Laws.{scanning_start, scanning_on, scanning_found, scanning_end}
use Rattle.engine.proofs.scan.scan_clause.Goals as goal
use Rattle.engine.proofs.scan.scan_clause.Goals.{then-not-is_watched+else-not-is_false, else-not-is_watched}

pub loop-init : goal.loop-init
loop-init c =
    rw (c.next_position-position.ensures, sub-zero) (scanning_start c.args.clause.now c.args.values.now _ _ _ c.requires)

pub returns-then-not-is_false : goal.returns-then-not-is_false
returns-then-not-is_false c trail reads =
    scanning_found (length c.args.clause.now - c.loop.counter) (omega arith) c.loop.invariant
    (sym (c.is_watched.ensures _) ∙ c.if-not-is_watched.true) trail reads
    (sym (c.is_false.ensures trail reads) ∙ c.if-not-is_false.true)

pub loop-preserved : goal.loop-preserved
loop-preserved c =
    scanning_on (length c.args.clause.now - c.loop.counter) _ _ _ c.loop.invariant (omega arith) (omega arith) c.next_position-position-in-loop.ensures
    (elim c.if-not-is_watched.branch [
      | then-not-is_watched+else-not-is_false w ↦ inr (
        sym (c.is_watched.ensures _) ∙ w.if-not-is_watched.true,
        λ trail reads. sym (w.is_false.ensures trail reads) ∙ w.if-not-is_false.false,
        w.checks-is,
      )
      | else-not-is_watched w ↦ inl (sym (c.is_watched.ensures _) ∙ w.if-not-is_watched.false, w.checks-is)
    ])

pub returns : goal.returns
returns c trail reads = scanning_end _ (omega arith) c.loop.invariant trail reads
