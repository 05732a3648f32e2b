use Rattle.std.proofs.Common.{rules, arith, below_more}
use Rattle.validation.proofs.SaysLaws.{says_true}
use Rattle.validation.proofs.lists.nodes_pass.Goals as goal

pub loop-node-preserved : goal.loop-node-preserved
loop-node-preserved c = below_more _ _ c.loop-node.invariant (λ low. c.node_passes.ensures.yes (search rules))

pub returns-else-not-node_passes : goal.returns-else-not-node_passes
returns-else-not-node_passes c =
    says_true (λ n low high. below_more _ _ c.loop-node.invariant (λ _. c.node_passes.ensures.yes (search rules)) n (omega arith) low)
