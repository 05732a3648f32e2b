use Rattle.std.proofs.Common.{rules, ◌≡◌, refl, ◌∙◌, arith}
use Rattle.base.proofs.Copies.{lesser, element_stored, elements_stored}
use Rattle.base.proofs.copy_fitting.Goals as goal

pub loop-i-init : goal.loop-i-init
loop-i-init g c = (refl, refl)

pub loop-i-preserved : goal.loop-i-preserved
loop-i-preserved g c =
    element_stored c.args.source.now c.args.out.now c.loop-i.out c.loop-i.i c.index-source-i.result (search rules) (search rules) c.index-source-i.is c.loop-i.invariant

pub returns-clause-out_after : goal.returns-clause-out_after
returns-clause-out_after g c =
    let all : c.loop-i.i ≡ c.min-fitting.result = omega arith in
    elements_stored c.args.source.now c.args.out.now c.loop-i.out c.loop-i.i (all ∙ c.min-fitting.ensures ∙ lesser _ _) c.loop-i.invariant
